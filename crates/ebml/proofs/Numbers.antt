-- Bytes as numbers, and by which first octet a Variable-Size Integer begins.
use Rattle.std.proofs.Common.{◌≡◌, ℕ, suc, zero, ◌+◌, ◌-◌, ◌*◌, ◌^◌, ◌%◌, ◌∙◌, ◌<◌, ◌≤◌, List, [], ◌∷◌, length, take, get_or, sym, ap, subst, arith, inl, inr}
use Rattle.std.specs.Int.Digits.{number_from_digits_after, AllBelowBase}
use Rattle.std.proofs.lemmas.Int.Digits.{number_lt, number_after_lt}
use Rattle.std.proofs.Math.Nat.{pow-le-pow_right, pow-suc, mod-eq_of_lt}
use Rattle.std.proofs.lemmas.Bool.{cases_lt}
use Rattle.std.proofs.lemmas.List.{length-take-le}
use Rattle.ffv1_bits.specs.Parity.{AreBytes}
use Rattle.ffv1_bits.proofs.Bytes.{AreBytes-take}
use Rattle.ebml.specs.Vint.{number_of, marker, IsVint}
use Rattle.ebml.specs.Inner.Front.{IsLengthBy}

pub all_below : (xs : List ℕ) → AreBytes xs → AllBelowBase 256 xs
all_below [] bytes = tt
all_below (x ∷ xs) bytes = (bytes 0, all_below xs (λ i. bytes (suc i)))

-- a number of at most seven bytes has room for one more
pub room_for_one : (xs : List ℕ) (k : ℕ) → AreBytes xs → length (take k xs) ≤ 7 → number_of (take k xs) < 2 ^ 56
room_for_one xs k bytes few =
    let small : number_of (take k xs) < 256 ^ length (take k xs) = number_lt 256 (take k xs) (all_below (take k xs) (AreBytes-take k xs bytes)) in
    let most : 256 ^ length (take k xs) ≤ 256 ^ 7 = pow-le-pow_right (omega arith) few in
    omega (arith, small, most)

-- ---- the first octet

after_ge : (n : ℕ) (ds : List ℕ) → n * 256 ^ length ds ≤ number_from_digits_after 256 n ds
after_ge n [] = omega arith
after_ge n (d ∷ ds) =
    let more : (n * 256 + d) * 256 ^ length ds ≤ number_from_digits_after 256 (n * 256 + d) ds = after_ge (n * 256 + d) ds in
    let power : n * 256 ^ suc (length ds) ≡ n * (256 ^ length ds * 256) = ap (λ z. n * z) (pow-suc 256 (length ds)) in
    omega (arith, more, power)

bounds_of : (k x N : ℕ) → k ≤ 7 → (0 * 256 + x) * 256 ^ k ≤ N → N < (0 * 256 + x + 1) * 256 ^ k → marker (suc k) ≤ N → N < 2 * marker (suc k)
    → (2 ^ (8 - suc k) ≤ x) × (x < 2 ^ (9 - suc k))
bounds_of zero x N few low high marked first = (omega arith, omega arith)
bounds_of (suc zero) x N few low high marked first = (omega arith, omega arith)
bounds_of (suc (suc zero)) x N few low high marked first = (omega arith, omega arith)
bounds_of (suc (suc (suc zero))) x N few low high marked first = (omega arith, omega arith)
bounds_of (suc (suc (suc (suc zero)))) x N few low high marked first = (omega arith, omega arith)
bounds_of (suc (suc (suc (suc (suc zero))))) x N few low high marked first = (omega arith, omega arith)
bounds_of (suc (suc (suc (suc (suc (suc zero)))))) x N few low high marked first = (omega arith, omega arith)
bounds_of (suc (suc (suc (suc (suc (suc (suc zero))))))) x N few low high marked first = (omega arith, omega arith)
bounds_of (suc (suc (suc (suc (suc (suc (suc (suc k)))))))) x N few low high marked first = absurd (omega arith)

marked_of : (k x N : ℕ) → k ≤ 7 → (0 * 256 + x) * 256 ^ k ≤ N → N < (0 * 256 + x + 1) * 256 ^ k → 2 ^ (8 - suc k) ≤ x → x < 2 ^ (9 - suc k)
    → (marker (suc k) ≤ N) × (N < 2 * marker (suc k))
marked_of zero x N few low high marked first = (omega arith, omega arith)
marked_of (suc zero) x N few low high marked first = (omega arith, omega arith)
marked_of (suc (suc zero)) x N few low high marked first = (omega arith, omega arith)
marked_of (suc (suc (suc zero))) x N few low high marked first = (omega arith, omega arith)
marked_of (suc (suc (suc (suc zero)))) x N few low high marked first = (omega arith, omega arith)
marked_of (suc (suc (suc (suc (suc zero))))) x N few low high marked first = (omega arith, omega arith)
marked_of (suc (suc (suc (suc (suc (suc zero)))))) x N few low high marked first = (omega arith, omega arith)
marked_of (suc (suc (suc (suc (suc (suc (suc zero))))))) x N few low high marked first = (omega arith, omega arith)
marked_of (suc (suc (suc (suc (suc (suc (suc (suc k)))))))) x N few low high marked first = absurd (omega arith)

one_length : (first n m : ℕ) → IsLengthBy first n → 1 ≤ m → m ≤ 8 → 2 ^ (8 - m) ≤ first → first < 2 ^ (9 - m) → m ≡ n
one_length first n m is some short low high =
    elim (cases_lt n m) [
      | inl less ↦ elim is.below [
        | inl nine ↦ absurd (omega (arith, nine, less, short))
        | inr below ↦ let power : 2 ^ (9 - m) ≤ 2 ^ (8 - n) = pow-le-pow_right (omega arith) (omega (arith, less, short)) in
            absurd (omega (arith, below, power, high))
      ]
      | inr more ↦ elim (cases_lt m n) [
        | inl less ↦ let power : 2 ^ (9 - n) ≤ 2 ^ (8 - m) = pow-le-pow_right (omega arith) (omega (arith, less, short, is.short)) in
            absurd (omega (arith, is.above, power, low))
        | inr less ↦ omega (arith, more, less)
      ]
    ]

module _ (x : ℕ) (rest : List ℕ) (bytes : AreBytes (x ∷ rest)) (k : ℕ) (few : k ≤ 7) (room : k ≤ length rest) where
  long : length (take k rest) ≡ k
  long = length-take-le k rest room

  low : (0 * 256 + x) * 256 ^ k ≤ number_of (take (suc k) (x ∷ rest))
  low = subst (λ z. (0 * 256 + x) * 256 ^ z ≤ number_from_digits_after 256 (0 * 256 + x) (take k rest)) long (after_ge (0 * 256 + x) (take k rest))

  high : number_of (take (suc k) (x ∷ rest)) < (0 * 256 + x + 1) * 256 ^ k
  high =
      subst (λ z. number_from_digits_after 256 (0 * 256 + x) (take k rest) < (0 * 256 + x + 1) * 256 ^ z) long
      (number_after_lt 256 (0 * 256 + x) (take k rest) (all_below (take k rest) (AreBytes-take k rest (λ i. bytes (suc i)))))

  pub bounds_of_vint : IsVint (take (suc k) (x ∷ rest)) → (2 ^ (8 - suc k) ≤ x) × (x < 2 ^ (9 - suc k))
  bounds_of_vint vint =
      bounds_of k x (number_of (take (suc k) (x ∷ rest))) few low high
      (subst (λ z. marker (suc z) ≤ number_of (take (suc k) (x ∷ rest))) long vint.marked)
      (subst (λ z. number_of (take (suc k) (x ∷ rest)) < 2 * marker (suc z)) long vint.first)

  pub vint_by_bounds : 2 ^ (8 - suc k) ≤ x → x < 2 ^ (9 - suc k) → IsVint (take (suc k) (x ∷ rest))
  vint_by_bounds below above =
      let is = marked_of k x (number_of (take (suc k) (x ∷ rest))) few low high below above in
      record {
        marked = subst (λ z. marker (suc z) ≤ number_of (take (suc k) (x ∷ rest))) (sym long) is.0;
        first = subst (λ z. number_of (take (suc k) (x ∷ rest)) < 2 * marker (suc z)) (sym long) is.1;
      }

-- none has no octets
pub some_octets : (n : ℕ) (xs : List ℕ) → IsVint (take n xs) → (1 ≤ n) × (1 ≤ length xs)
some_octets zero xs is = let h = is.marked in absurd (omega arith)
some_octets (suc n) [] is = let h = is.marked in absurd (omega arith)
some_octets (suc n) (x ∷ xs) is = (omega arith, omega arith)

-- what begins bytes as one has the length that its first octet gives
pub length_of_vint : (xs : List ℕ) (n m : ℕ) → AreBytes xs → IsLengthBy (get_or xs 0 0) n → m ≤ 8 → m ≤ length xs → IsVint (take m xs) → m ≡ n
length_of_vint [] n m bytes is short room vint = let some = some_octets m [] vint in absurd (omega (arith, some.1))
length_of_vint (x ∷ xs) n zero bytes is short room vint = let some = some_octets zero (x ∷ xs) vint in absurd (omega (arith, some.0))
length_of_vint (x ∷ xs) n (suc k) bytes is short room vint =
    let bounds = bounds_of_vint x xs bytes k (omega arith) (omega arith) vint in
    one_length x n (suc k) is (omega arith) short bounds.0 bounds.1

pub vint_of_length : (xs : List ℕ) (n : ℕ) → AreBytes xs → IsLengthBy (get_or xs 0 0) n → n ≤ 8 → n ≤ length xs → IsVint (take n xs)
vint_of_length xs zero bytes is short room = let some = is.some in absurd (omega arith)
vint_of_length [] (suc k) bytes is short room = absurd (omega arith)
vint_of_length (x ∷ xs) (suc k) bytes is short room =
    elim is.below [
      | inl nine ↦ absurd (omega (arith, nine, short))
      | inr below ↦ vint_by_bounds x xs bytes k (omega arith) (omega arith) below is.above
    ]

-- the number so far has room for one more byte
pub so_far : (xs : List ℕ) (index number : ℕ) → AreBytes xs → index < length xs → length xs ≤ 8 → number ≡ number_of (take index xs) → number < 2 ^ 56
so_far xs index number bytes within few same =
    let long : length (take index xs) ≡ index = length-take-le index xs (omega (arith, within)) in
    let small = room_for_one xs index bytes (omega (arith, long, within, few)) in omega (arith, small, same)

pub is_length_by : (xs : List ℕ) (n : ℕ) → AreBytes xs → n ≤ 8 → n ≤ length xs → IsVint (take n xs) → IsLengthBy (get_or xs 0 0) n
is_length_by [] n bytes short room vint = let some = some_octets n [] vint in absurd (omega (arith, some.1))
is_length_by (x ∷ xs) zero bytes short room vint = let some = some_octets zero (x ∷ xs) vint in absurd (omega (arith, some.0))
is_length_by (x ∷ xs) (suc k) bytes short room vint =
    let bounds = bounds_of_vint x xs bytes k (omega arith) (omega arith) vint in
    record { some = omega arith; short = omega arith; above = bounds.1; below = inr bounds.0 }

-- no two of different lengths begin the same bytes
pub one_vint : (xs : List ℕ) (n m : ℕ) → AreBytes xs → n ≤ 8 → m ≤ 8 → n ≤ length xs → m ≤ length xs → IsVint (take n xs) → IsVint (take m xs) → m ≡ n
one_vint xs n m bytes short_n short_m room_n room_m is_n is_m =
    length_of_vint xs n m bytes (is_length_by xs n bytes short_n room_n is_n) short_m room_m is_m

-- the marker as it is shifted into its place
pub shifted_marker : (n : ℕ) → n ≤ 8 → 1 * 2 ^ (7 * n) % 18446744073709551616 ≡ marker n
shifted_marker n few =
    let most : 7 * n ≤ 56 = omega arith in
    let small : 2 ^ (7 * n) ≤ 2 ^ 56 = pow-le-pow_right (omega arith) most in
    let within : 1 * 2 ^ (7 * n) < 18446744073709551616 = omega (arith, small) in
    mod-eq_of_lt within ∙ omega arith
