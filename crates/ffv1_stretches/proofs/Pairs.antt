-- Two lists, place by place.
use Rattle.std.proofs.Common.{◌≡◌, ℕ, suc, ◌<◌, List, [], ◌∷◌, length, get_or, refl, arith}
use Rattle.std.specs.List.{AllZip}

pub pairs_from_each : {A B : Type 0} (R : A → B → Type 0) (xs : List A) (ys : List B) (d : A) (e : B) → length xs ≡ length ys
    → ((k : ℕ) → k < length xs → R (get_or xs k d) (get_or ys k e)) → AllZip R xs ys
pairs_from_each R [] [] d e long each = tt
pairs_from_each R [] (y ∷ ys) d e long each = absurd (omega arith)
pairs_from_each R (x ∷ xs) [] d e long each = absurd (omega arith)
pairs_from_each R (x ∷ xs) (y ∷ ys) d e long each =
    (each 0 (omega arith), pairs_from_each R xs ys d e (omega arith) (λ k lt. each (suc k) (omega arith)))

pub pairs_long : {A B : Type 0} (R : A → B → Type 0) (xs : List A) (ys : List B) → AllZip R xs ys → length xs ≡ length ys
pairs_long R [] [] h = refl
pairs_long R [] (y ∷ ys) h = absurd h
pairs_long R (x ∷ xs) [] h = absurd h
pairs_long R (x ∷ xs) (y ∷ ys) h = omega (arith, pairs_long R xs ys h.1)

pub pairs_so : {A B : Type 0} (R S : A → B → Type 0) → ((x : A) (y : B) → R x y → S x y) → (xs : List A) (ys : List B) → AllZip R xs ys → AllZip S xs ys
pairs_so R S so [] [] h = tt
pairs_so R S so [] (y ∷ ys) h = absurd h
pairs_so R S so (x ∷ xs) [] h = absurd h
pairs_so R S so (x ∷ xs) (y ∷ ys) h = (so x y h.0, pairs_so R S so xs ys h.1)
