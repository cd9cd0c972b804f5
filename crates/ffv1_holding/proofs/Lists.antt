-- Lists of views of values, grown by one.
use Rattle.std.proofs.Common.{◌≡◌, ℕ, zero, suc, add-one, arith, ◌+◌, List, [], ◌∷◌, ◌++◌, ap, ◌∙◌}
use Rattle.std.specs.List.{flat_map, range_with_len}
use Rattle.std.proofs.lemmas.List.Concat.{flat_map-append}
use Rattle.std.proofs.lemmas.List.{append-nil}

-- the places before n + 1 are those before n, and n
range_suc : (a n t : ℕ) → a + n ≡ t → range_with_len a (suc n) ≡ range_with_len a n ++ t ∷ []
range_suc a zero t e = ap (λ x. x ∷ []) (omega arith)
range_suc a (suc n) t e = ap (λ r. a ∷ r) (range_suc (a + 1) n t (omega arith))

pub range_more : (a n t : ℕ) → a + n ≡ t → range_with_len a (n + 1) ≡ range_with_len a n ++ t ∷ []
range_more a n t e = rw add-one (range_suc a n t e)

pub flat_map-range_more : {X : Type 0} (f : ℕ → List X) (n : ℕ) → flat_map f (range_with_len 0 (n + 1)) ≡ flat_map f (range_with_len 0 n) ++ f n
flat_map-range_more f n = ap (flat_map f) (range_more 0 n n (omega arith)) ∙ flat_map-append f (range_with_len 0 n) (n ∷ [])
    ∙ ap (λ r. flat_map f (range_with_len 0 n) ++ r) (append-nil (f n))
