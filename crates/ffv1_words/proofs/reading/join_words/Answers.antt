use Rattle.std.proofs.Common.{◌∷◌, ℕ, List, [], Bor, Some, get_or, map, refl, sym, ap, ◌∙◌}
use Rattle.std.proofs.lemmas.Slice.{first_rest}
use Rattle.ffv1_words.proofs.reading.join_words.Goals as goal

abbrev now : Bor (List ℕ) → List ℕ
now word = word.now

pub returns : goal.returns
returns c =
    let words : List (Bor (List ℕ)) = c.in_ok-several.field-0.now in
    let first : Bor (List ℕ) = get_or words 0 (record { ref_ptr = (0, 0); now = [] }) in
    let parted = first_rest words _ c.in-len1-up.len_at_least ∙ ap (λ others. first ∷ others) (sym c.in_ok-list.ensures) in
    (refl, (c.in_ok-word.ensures.read, c.in_ok-several.ensures ∙ ap (λ words. Some (map now words)) parted))
