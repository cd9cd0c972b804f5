-- Words among others, as `contains` finds them.
use Rattle.std.proofs.Common.{◌≡◌, ◌↔◌, ℕ, Bool, true, List, [], ◌∷◌, Bor, map, get_or, nat_eq, IsTrue, ◌||◌, refl, sym, ◌∙◌, ap}
use Rattle.std.specs.List.{Contains, list_any}
use Rattle.std.specs.Cmp.Lexicographic.{pointwise}
use Rattle.std.proofs.lemmas.List.Folds.{list_any_at}
use Rattle.std.proofs.lemmas.Map.Views.{Contains-from_any}
use Rattle.std.proofs.lemmas.Slice.Eq.{bytes_eq-Decides}

-- a test of words that `map` gives
any_of_words : (words : List (Bor (List ℕ))) (word : List ℕ)
    → list_any (λ one. pointwise nat_eq one.now word) words ≡ list_any (λ one. pointwise nat_eq one word) (map (λ one. one.now) words)
any_of_words [] word = refl
any_of_words (one ∷ words) word = ap (λ rest. pointwise nat_eq one.now word || rest) (any_of_words words word)

-- a word that is found is one of them
found_among : (words : List (List ℕ)) (word : List ℕ) → list_any (λ one. pointwise nat_eq one word) words ≡ true → Contains words word
found_among words word found =
    Contains-from_any {eq = λ word one. pointwise nat_eq one word} (λ word one same. sym ((bytes_eq-Decides one word).0 same)) word words found

-- one of them is found
among_found : (words : List (List ℕ)) (word : List ℕ) → Contains words word → list_any (λ one. pointwise nat_eq one word) words ≡ true
among_found words word (place, within, is) =
    list_any_at (λ one. pointwise nat_eq one word) words place word within ((bytes_eq-Decides (get_or words place word) word).1 is)

-- `contains` says whether a word is one of them
pub contains_among : (words : List (Bor (List ℕ))) (word : List ℕ) (found : Bool) → found ≡ list_any (λ one. pointwise nat_eq one.now word) words
    → IsTrue found ↔ Contains (map (λ one. one.now) words) word
contains_among words word found is =
    (λ so. found_among _ word (sym (any_of_words words word) ∙ sym is ∙ so), λ there. is ∙ any_of_words words word ∙ among_found _ word there)
