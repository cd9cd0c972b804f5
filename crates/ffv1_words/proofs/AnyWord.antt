-- Words that have `--any`, by their places.
use Rattle.std.proofs.Common.{◌≡◌, ◌↔◌, ◌≤◌, List, [], ◌∷◌, length, map, slice_index_or, String, Global, string_bytes, codes, sym, ◌∙◌, ap, subst, refl, arith}
use Rattle.clap.specs.Words.{Text}
use Rattle.ffv1_words.specs.AnyWords.{IsOfHoldingFiles, HaveAnyWord}

-- the text of each word
abbrev pub texts : List (String Global) → List Text
texts = map (λ word. string_bytes word)

pub any_word_by_places : (words : List (String Global)) (command word : String Global) → 3 ≤ length words
    → command ≡ slice_index_or words 1 command → word ≡ slice_index_or words 2 word
    → ((others : List Text) × HaveAnyWord (texts words) others) ↔ (IsOfHoldingFiles (string_bytes command) × (string_bytes word ≡ codes "--any"))
any_word_by_places [] command word few _ _ = absurd (omega (arith, few))
any_word_by_places (program ∷ []) command word few _ _ = absurd (omega (arith, few))
any_word_by_places (program ∷ first ∷ []) command word few _ _ = absurd (omega (arith, few))
any_word_by_places (program ∷ first ∷ second ∷ rest) command word _ is_first is_second =
    let P : String Global → Type 0 = λ w. IsOfHoldingFiles (string_bytes w) in (
      λ (others, has). (subst P (sym is_first) has.0, ap (λ w. string_bytes w) is_second ∙ has.1),
      λ has. (_, (subst P is_first has.0, ap (λ w. string_bytes w) (sym is_second) ∙ has.1, refl)),
    )
