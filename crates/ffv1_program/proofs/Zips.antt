-- Two lists that go together, item by item.
use Rattle.std.proofs.Common.{◌<◌, ◌+◌, ℕ, List, [], ◌∷◌, ◌++◌, length, get_or, take, add-one}
use Rattle.std.specs.List.{AllZip}
use Rattle.std.proofs.Math.Seq.{take-suc}

-- one more of each
all_zip_push : {A B : Type 0} (R : A → B → Type 0) (xs : List A) (ys : List B) (x : A) (y : B) → AllZip R xs ys → R x y
    → AllZip R (xs ++ x ∷ []) (ys ++ y ∷ [])
all_zip_push R [] [] x y all last = (last, tt)
all_zip_push R [] (other ∷ ys) x y all last = absurd all
all_zip_push R (one ∷ xs) [] x y all last = absurd all
all_zip_push R (one ∷ xs) (other ∷ ys) x y (first, all) last = (first, all_zip_push R xs ys x y all last)

-- one more of a list that is gone over
pub all_zip_next : {A B : Type 0} (R : A → B → Type 0) (xs : List A) (ys : List B) (i : ℕ) (d : A) (y : B) → i < length xs
    → AllZip R (take i xs) ys → R (get_or xs i d) y → AllZip R (take (i + 1) xs) (ys ++ y ∷ [])
all_zip_next R xs ys i d y within all last =
    rw (add-one, take-suc xs i d within) (all_zip_push R (take i xs) ys (get_or xs i d) y all last)
