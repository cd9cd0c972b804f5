-- One inverted bit changes the remainder by what is left of its power of x.
use Rattle.ffv1_weave.proofs.Common.{◌≡◌, ℕ, zero, suc, ◌+◌, ◌-◌, ◌*◌, ◌/◌, ◌%◌, ◌^◌, ◌<◌, Bool, false, List, [], ◌∷◌, ◌++◌, length, get_or, set, take, drop, replicate, refl, sym, ap, ◌∙◌, arith, lit<, add-zero, zero-add, append_assoc, eq-eqb, bit_xor, fold, bit_at, xor_block, xor_comm, xor_self, xor_zero_l, xor_zero_r, xor_lt, mod-eq_of_lt, pow-suc, pow-lt, flat_map-append, length-drop, length-replicate, take-append-drop, drop_more, take-set, drop-set, set-set, set-get_or, get_or-set_same, fold-append, number_bits, bits_of, divided, remainder_of, polynomial_of, reduced_at, length-bits, bits_of-zeros, shifted, remainder_is_fold, divided-xor, divided_low, reduced_low, remainder_push, all_kept, fold_changes, xor_twice, PassesBy, written, times_x, inverted, Slice}
use Rattle.ffv1_weave.proofs.Choices.{length-written}

-- ---- what is left of a power of x

abbrev pub power_left : ℕ → ℕ
power_left n = times_x 1 n

low_power : (n : ℕ) → n < 32 → power_left n ≡ 2 ^ n
low_power zero small = refl
low_power (suc n) small = grind (arith, pow-suc, reduced_low, pow-lt, low_power n (omega arith))

pub times_zeros : (left m n : ℕ) → fold shifted (times_x left m) (replicate n false) ≡ times_x left (m + n)
unfolding shifted
times_zeros left m zero = ap (times_x left) (sym (add-zero m))
times_zeros left m (suc n) = grind (arith, shifted, replicate, add-zero, times_zeros left (suc m) n)

pub zeros_after : (m n : ℕ) → fold shifted (power_left m) (replicate n false) ≡ power_left (m + n)
zeros_after m n = times_zeros 1 m n

-- one power after another
pub times_more : (left m n : ℕ) → times_x (times_x left m) n ≡ times_x left (m + n)
times_more left m n = ap (times_x (times_x left m)) (sym (zero-add n)) ∙ sym (times_zeros (times_x left m) 0 n) ∙ times_zeros left m n

zeros_leave_none : (n : ℕ) → fold shifted 0 (replicate n false) ≡ 0
unfolding shifted
zeros_leave_none zero = refl
zeros_leave_none (suc n) = ap (λ r. fold shifted r (replicate n false)) (reduced_low 0 0 (lit< tt)) ∙ zeros_leave_none n

-- ---- a byte that is another one

remainder_append : (xs ys : List ℕ) → remainder_of (bits_of (xs ++ ys)) ≡ fold shifted (remainder_of (bits_of xs)) (bits_of ys)
unfolding bits_of
remainder_append xs ys = grind (arith, remainder_is_fold, shifted, flat_map-append, fold-append)

module _ (front : List ℕ) (a b : ℕ) (back : List ℕ) (a_small : a < 256) (b_small : b < 256) where
  last_byte : bit_xor (remainder_of (bits_of (front ++ a ∷ []))) (remainder_of (bits_of (front ++ b ∷ []))) ≡ bit_xor a b
  last_byte =
      let r : ℕ = remainder_of (bits_of front) in
      ap (λ x. bit_xor x (remainder_of (bits_of (front ++ b ∷ [])))) (remainder_push front a a_small)
      ∙ ap (bit_xor (divided 8 (r * 2 ^ 8 + a))) (remainder_push front b b_small)
      ∙ sym (divided-xor 8 (r * 2 ^ 8 + a) (r * 2 ^ 8 + b)) ∙ ap (divided 8) (xor_block 8 r r a b a_small b_small)
      ∙ ap (λ x. divided 8 (x * 2 ^ 8 + bit_xor a b)) (xor_self r) ∙ ap (divided 8) (zero-add (bit_xor a b))
      ∙ divided_low 8 (bit_xor a b) (let small = xor_lt 8 a b a_small b_small in omega arith)

  byte_changes : bit_xor (remainder_of (bits_of (front ++ a ∷ back))) (remainder_of (bits_of (front ++ b ∷ back)))
      ≡ fold shifted (bit_xor a b) (replicate (8 * length back) false)
  byte_changes =
      let zeros : List Bool = replicate (8 * length back) false in
      let p : ℕ = remainder_of (bits_of (front ++ a ∷ [])) in
      let q : ℕ = remainder_of (bits_of (front ++ b ∷ [])) in
      let one : remainder_of (bits_of (front ++ a ∷ back)) ≡ fold shifted p (bits_of back) =
      ap (λ xs. remainder_of (bits_of xs)) (sym (append_assoc front (a ∷ []) back)) ∙ remainder_append (front ++ a ∷ []) back in
      let other : remainder_of (bits_of (front ++ b ∷ back)) ≡ fold shifted q (bits_of back) =
      ap (λ xs. remainder_of (bits_of xs)) (sym (append_assoc front (b ∷ []) back)) ∙ remainder_append (front ++ b ∷ []) back in
      let long : length (bits_of back) ≡ length zeros = length-bits back ∙ sym (length-replicate (8 * length back) false) in
      ap (λ x. bit_xor x (remainder_of (bits_of (front ++ b ∷ back)))) one ∙ ap (bit_xor (fold shifted p (bits_of back))) other
      ∙ fold_changes p q (bit_xor a b) 0 (bits_of back) (bits_of back) zeros zeros (last_byte ∙ sym (xor_zero_r (bit_xor a b)))
      (all_kept (bits_of back) zeros long)
      ∙ ap (bit_xor (fold shifted (bit_xor a b) zeros)) (zeros_leave_none (8 * length back)) ∙ xor_zero_r (fold shifted (bit_xor a b) zeros)

-- ---- a bit that is inverted

pub mask_small : (bit : ℕ) → 2 ^ (7 - bit % 8) < 256
mask_small bit = pow-lt {i = 7 - bit % 8} {j = 8} (omega arith)

split_at : (bytes : List ℕ) (i : ℕ) → i < length bytes → take i bytes ++ get_or bytes i 0 ∷ drop (i + 1) bytes ≡ bytes
split_at bytes i lt = ap (λ back. take i bytes ++ back) (sym (drop_more bytes i 0 lt)) ∙ take-append-drop i bytes

-- What is left changes by what is left of the bit's power of x: the last bit is 1, the one before it x.
pub inverted_changes : (bytes : List ℕ) (bit : ℕ) → bit < 8 * length bytes → get_or bytes (bit / 8) 0 < 256
    → bit_xor (remainder_of (bits_of (inverted bytes bit))) (remainder_of (bits_of bytes)) ≡ power_left (8 * length bytes - 1 - bit)
inverted_changes bytes bit inside small =
    let i : ℕ = bit / 8 in
    let old : ℕ = get_or bytes i 0 in
    let mask : ℕ = 2 ^ (7 - bit % 8) in
    let back : List ℕ = drop (i + 1) bytes in
    let after : length back ≡ length bytes - (i + 1) = length-drop (i + 1) bytes in
    let place : 7 - bit % 8 + 8 * length back ≡ 8 * length bytes - 1 - bit = omega arith in
    let mask_is : bit_xor (bit_xor old mask) old ≡ mask = ap (λ x. bit_xor x old) (xor_comm old mask) ∙ xor_twice mask old in
    ap (λ xs. bit_xor (remainder_of (bits_of (inverted bytes bit))) (remainder_of (bits_of xs))) (sym (split_at bytes i (omega arith)))
    ∙ byte_changes (take i bytes) (bit_xor old mask) old back (xor_lt 8 old mask small (mask_small bit)) small
    ∙ ap (λ x. fold shifted x (replicate (8 * length back) false)) (mask_is ∙ sym (low_power (7 - bit % 8) (omega arith)))
    ∙ zeros_after (7 - bit % 8) (8 * length back) ∙ ap power_left place

-- where the inverted bytes pass, that is all that is left
pub power_is_left : (bytes : List ℕ) (bit : ℕ) → bit < 8 * length bytes → get_or bytes (bit / 8) 0 < 256 → PassesBy Slice (inverted bytes bit)
    → power_left (8 * length bytes - 1 - bit) ≡ remainder_of (bits_of bytes)
power_is_left bytes bit inside small passes = cc (inverted_changes bytes bit inside small, xor_zero_l (remainder_of (bits_of bytes)))

-- and with so many zeros after it a higher power
pub power_shifted : (bytes : List ℕ) (bit more : ℕ) → bit < 8 * length bytes → get_or bytes (bit / 8) 0 < 256 → PassesBy Slice (inverted bytes bit)
    → times_x (remainder_of (bits_of bytes)) more ≡ power_left (8 * length bytes - 1 - bit + more)
power_shifted bytes bit more inside small passes =
    ap (λ r. times_x r more) (sym (power_is_left bytes bit inside small passes)) ∙ times_more 1 (8 * length bytes - 1 - bit) more

-- ---- eight bytes of zeros

one_left : remainder_of (bits_of (1 ∷ [])) ≡ 1
unfolding bits_of number_bits remainder_of divided polynomial_of reduced_at
one_left = refl

-- what is left of 1 and so many bytes of zeros
power_of_bytes : (n : ℕ) → remainder_of (bits_of (1 ∷ replicate n 0)) ≡ power_left (8 * n)
power_of_bytes n =
    remainder_append (1 ∷ []) (replicate n 0) ∙ ap (λ r. fold shifted r (bits_of (replicate n 0))) one_left ∙ ap (fold shifted 1) (bits_of-zeros n) ∙ zeros_after 0 (8 * n) ∙ ap power_left (zero-add (8 * n))

pub eight_zeros : (i power next : ℕ) → power ≡ power_left (64 * i)
    → ((front : List ℕ) → power ≡ remainder_of (bits_of front) → next ≡ remainder_of (bits_of (front ++ replicate 8 0))) → next ≡ power_left (64 * i + 64)
eight_zeros i power next is after =
    let bits : 8 * (8 * i) ≡ 64 * i = omega arith in
    after (1 ∷ replicate (8 * i) 0) (is ∙ sym (power_of_bytes (8 * i) ∙ ap power_left bits))
    ∙ remainder_append (1 ∷ replicate (8 * i) 0) (replicate 8 0) ∙ ap (fold shifted (remainder_of (bits_of (1 ∷ replicate (8 * i) 0)))) (bits_of-zeros 8)
    ∙ ap (λ r. fold shifted r (replicate 64 false)) (power_of_bytes (8 * i) ∙ ap power_left bits) ∙ zeros_after (64 * i) 64

-- ---- as the code has them

pub set_written : (bytes : List ℕ) (i x : ℕ) → i < length bytes → set bytes i x ≡ written bytes i (x ∷ [])
set_written bytes i x lt = cc (take-append-drop i (set bytes i x), take-set bytes i x, drop-set bytes i x lt)

pub set_inverted : (bytes : List ℕ) (bit : ℕ) → bit < 8 * length bytes
    → set bytes (bit / 8) (bit_xor (get_or bytes (bit / 8) 0) (1 * 2 ^ (7 - bit % 8) % 256)) ≡ inverted bytes bit
set_inverted bytes bit inside = grind (arith, mod-eq_of_lt, mask_small, set_written)

pub length-inverted : (bytes : List ℕ) (bit : ℕ) → bit < 8 * length bytes → length (inverted bytes bit) ≡ length bytes
length-inverted bytes bit inside = length-written bytes (bit / 8) (bit_xor (get_or bytes (bit / 8) 0) (2 ^ (7 - bit % 8)) ∷ []) (omega arith)

pub inverted_twice : (bytes : List ℕ) (bit : ℕ) → bit < 8 * length bytes → inverted (inverted bytes bit) bit ≡ bytes
inverted_twice bytes bit inside =
    let i : ℕ = bit / 8 in
    let old : ℕ = get_or bytes i 0 in
    let mask : ℕ = 2 ^ (7 - bit % 8) in
    let there : i < length bytes = omega arith in
    let long : length (inverted bytes bit) ≡ length bytes = length-inverted bytes bit inside in
    let once : inverted bytes bit ≡ set bytes i (bit_xor old mask) = sym (set_written bytes i (bit_xor old mask) there) in
    let now : bit_xor (get_or (inverted bytes bit) i 0) mask ≡ old =
    ap (λ xs. bit_xor (get_or xs i 0) mask) once ∙ ap (λ x. bit_xor x mask) (get_or-set_same bytes i (bit_xor old mask) 0 there) ∙ xor_twice old mask in
    cc (set_written (inverted bytes bit) i old (omega arith), set-set bytes i (bit_xor old mask) old, set-get_or bytes i 0)

-- the next power, as the code computes it
pub next_reduced : (power : ℕ) → power < 2 ^ 32 → power / 2 ^ 31 ≡ 1 → bit_xor (power * 2 % 2 ^ 32) 0x04C11DB7 ≡ reduced_at 0 (power * 2)
unfolding reduced_at
next_reduced power small top =
    let low : ℕ = power * 2 % 2 ^ 32 in
    let split : power * 2 ≡ 1 * 2 ^ 32 + low = omega arith in
    let bit : bit_at (power * 2) 32 ≡ 1 = omega arith in
    let block : bit_xor (1 * 2 ^ 32 + low) (1 * 2 ^ 32 + 0x04C11DB7) ≡ bit_xor 1 1 * 2 ^ 32 + bit_xor low 0x04C11DB7 =
    xor_block 32 1 1 low 0x04C11DB7 (omega arith) (lit< tt) in
    cc (eq-eqb (bit_at (power * 2) 32) 1 bit, zero-add (bit_xor low 0x04C11DB7))

pub next_low : (power : ℕ) → power < 2 ^ 32 → (power / 2 ^ 31 ≡ 1 → ⊥) → power * 2 % 2 ^ 32 ≡ reduced_at 0 (power * 2)
next_low power small low = grind (arith, mod-eq_of_lt, reduced_low)
