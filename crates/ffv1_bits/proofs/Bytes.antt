-- Lists of bytes: their parts, and what is joined of them.
use Rattle.std.proofs.Common.{◌≡◌, ℕ, zero, suc, ◌+◌, ◌-◌, ltb, true, List, [], ◌∷◌, ◌++◌, length, refl, take, drop, get_or-drop, subst, arith}
use Rattle.std.specs.Prelude.{slice_range}
use Rattle.std.specs.List.{list_all}
use Rattle.std.proofs.lemmas.Bool.{and_parts, ltb-true}
use Rattle.std.proofs.lemmas.List.{take_at, drop_at}
use Rattle.ffv1_bits.specs.Parity.{AreBytes}

pub no_bytes : AreBytes []
no_bytes i = omega arith

pub AreBytes-take : (n : ℕ) (xs : List ℕ) → AreBytes xs → AreBytes (take n xs)
AreBytes-take zero xs small i = omega arith
AreBytes-take (suc n) [] small i = omega arith
AreBytes-take (suc n) (x ∷ xs) small zero = small 0
AreBytes-take (suc n) (x ∷ xs) small (suc i) = AreBytes-take n xs (λ j. small (suc j)) i

pub AreBytes-drop : (n : ℕ) (xs : List ℕ) → AreBytes xs → AreBytes (drop n xs)
AreBytes-drop n xs small i = omega (arith, get_or-drop n xs i 0, small (n + i))

pub AreBytes-range : (xs : List ℕ) (p q : ℕ) → AreBytes xs → AreBytes (slice_range xs p q)
AreBytes-range xs p q small = AreBytes-take (q - p) (drop p xs) (AreBytes-drop p xs small)

pub AreBytes-append : (xs ys : List ℕ) → AreBytes xs → AreBytes ys → AreBytes (xs ++ ys)
AreBytes-append [] ys front back i = back i
AreBytes-append (x ∷ xs) ys front back zero = front 0
AreBytes-append (x ∷ xs) ys front back (suc i) = AreBytes-append xs ys (λ j. front (suc j)) back i

pub AreBytes-front : (xs ys : List ℕ) → AreBytes (xs ++ ys) → AreBytes xs
AreBytes-front xs ys bytes = subst AreBytes (take_at xs ys (length xs) refl) (AreBytes-take (length xs) (xs ++ ys) bytes)

pub AreBytes-rest : (xs ys : List ℕ) → AreBytes (xs ++ ys) → AreBytes ys
AreBytes-rest xs ys bytes = subst AreBytes (drop_at xs ys (length xs) refl) (AreBytes-drop (length xs) (xs ++ ys) bytes)

pub AreBytes-middle : (xs ys zs : List ℕ) → AreBytes (xs ++ (ys ++ zs)) → AreBytes ys
AreBytes-middle xs ys zs bytes = AreBytes-front ys zs (AreBytes-rest xs (ys ++ zs) bytes)

pub bytes_by_test : (xs : List ℕ) → list_all (λ b. ltb b 256) xs ≡ true → AreBytes xs
bytes_by_test [] h i = omega arith
bytes_by_test (x ∷ xs) h zero = ltb-true x 256 (and_parts (ltb x 256) (list_all (λ b. ltb b 256) xs) h).0
bytes_by_test (x ∷ xs) h (suc i) = bytes_by_test xs (and_parts (ltb x 256) (list_all (λ b. ltb b 256) xs) h).1 i
