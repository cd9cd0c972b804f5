-- A register that takes one byte more, or sixteen.
use Rattle.std.proofs.Common.{◌≡◌, ℕ, zero, suc, ◌+◌, ◌*◌, ◌/◌, ◌%◌, ◌^◌, ◌<◌, Bool, false, List, [], ◌∷◌, ◌++◌, length, take, reverse, replicate, get_or, refl, sym, ap, ◌∙◌, subst, arith, lit<}
use Rattle.std.specs.Prelude.{bit_xor, bit_or}
use Rattle.std.specs.List.{concat}
use Rattle.std.specs.Int.{w32, w64, bit_not, to_le_bytes, reverse_bits_onto}
use Rattle.std.specs.Int.Bits.{xor_zero_r, xor_assoc, xor_comm}
use Rattle.std.proofs.lemmas.Nat.{xor_lt, xor_mod, xor_shr, or_shifted}
use Rattle.std.proofs.Math.Nat.{mod-eq_of_lt}
use Rattle.std.proofs.lemmas.List.{append-nil, append_assoc, length-append, length-replicate, take_more}
use Rattle.std.proofs.lemmas.List.Folds.{concat-append}
use Rattle.ffv1_bits.specs.Bits.{number_bits, bits_of}
use Rattle.ffv1_bits.specs.Parity.{polynomial_of, divided, remainder_of}
use Rattle.ffv1_bits.proofs.SixteenBytes.{moved_entry}
use Rattle.ffv1_bits.proofs.Remainders.{table_turn}
use Rattle.ffv1_bits.proofs.Burst.{bits_of-zeros}
use Rattle.ebml.specs.Crc.{sent_bits, complemented, crc_remainder, crc32_of}
use Rattle.ebml.specs.Inner.Register.{register_of, Advances, left_before}
use Rattle.ebml.specs.declared.crc.TheConstants.{START}
use Rattle.ebml.proofs.Turned.{reversed-xor, reversed_again, reversed_bits, reversed_small, bytes_reversed, moved_down, turned_entry, polynomial_of-sent}
use Rattle.ebml.proofs.Registers.{left_after, start, left_more, sent_append, length-sent, left_of_32, left_of_zeros, ones, remainder_left, crc_remainder_small, remainder_sum, left_of_register, zero_byte}

-- ---- the register

pub START_is : START ≡ register_of []
unfolding number_bits polynomial_of divided remainder_of reverse_bits_onto sent_bits complemented crc_remainder register_of
START_is = refl

register_again : (bytes : List ℕ) → reverse_bits_onto 32 (register_of bytes) 0 ≡ crc_remainder bytes
unfolding register_of
register_again bytes = reversed_again 32 (crc_remainder bytes) (crc_remainder_small bytes)

all_ones : reverse_bits_onto 32 0xFFFFFFFF 0 ≡ 0xFFFFFFFF
unfolding reverse_bits_onto
all_ones = refl

-- the register complemented is the CRC-32
pub complement_is : (register : ℕ) (bytes : List ℕ) → register ≡ register_of bytes → bit_not w32 register ≡ crc32_of bytes
unfolding register_of crc32_of
complement_is register bytes is =
    let r : ℕ = crc_remainder bytes in
    ap (bit_not w32) is ∙ sym (ones (reverse_bits_onto 32 r 0) (reversed_small 32 r)) ∙ ap (λ o. bit_xor o (reverse_bits_onto 32 r 0)) (sym all_ones)
    ∙ sym (reversed-xor 32 0xFFFFFFFF r) ∙ ap (λ n. reverse_bits_onto 32 n 0) (ones r (crc_remainder_small bytes))

-- ---- more bytes

-- Of the bits that come after some bytes the first 32 go into their remainder.
more_after : (bytes more : List ℕ) (front back : List Bool) → sent_bits more ++ replicate 32 false ≡ front ++ back → length front ≡ 32
    → crc_remainder (bytes ++ more) ≡ left_after (bit_xor (crc_remainder bytes) (polynomial_of front)) back
more_after bytes more front back split long =
    let zeros : List Bool = replicate 32 false in
    let r : ℕ = left_after start (sent_bits bytes) in
    remainder_left (bytes ++ more)
    ∙ ap (λ s. left_after s zeros) (ap (left_after start) (sent_append bytes more) ∙ left_more start (sent_bits bytes) (sent_bits more))
    ∙ sym (left_more r (sent_bits more) (replicate 32 false)) ∙ ap (left_after r) split ∙ left_more r front back
    ∙ ap (λ s. left_after s back) (left_of_32 r front long
    ∙ ap (λ d. bit_xor d (polynomial_of front)) (sym (remainder_left bytes ∙ left_of_zeros r)))

-- the sum of a register and a number, reversed, is that of the remainder and the number's bytes
mixed_is : (bytes four : List ℕ) (register n : ℕ) → register ≡ register_of bytes → to_le_bytes w32 n ≡ four
    → reverse_bits_onto 32 (bit_xor register n) 0 ≡ bit_xor (crc_remainder bytes) (polynomial_of (sent_bits four))
mixed_is bytes four register n is own =
    reversed-xor 32 register n ∙ ap (λ r. bit_xor (reverse_bits_onto 32 r 0) (reverse_bits_onto 32 n 0)) is
    ∙ ap (λ r. bit_xor r (reverse_bits_onto 32 n 0)) (register_again bytes)
    ∙ ap (bit_xor (crc_remainder bytes)) (sym (polynomial_of-sent n) ∙ ap (λ f. polynomial_of (sent_bits f)) own)

-- a register that has taken four bytes, and what is left after the bits that come then
advanced_so : (bytes more four : List ℕ) (back : List Bool) (register n next : ℕ) → register ≡ register_of bytes → to_le_bytes w32 n ≡ four
    → length four ≡ 4 → sent_bits more ++ replicate 32 false ≡ sent_bits four ++ back
    → next ≡ reverse_bits_onto 32 (left_after (reverse_bits_onto 32 (bit_xor register n) 0) back) 0 → next ≡ register_of (bytes ++ more)
unfolding register_of
advanced_so bytes more four back register n next is own four_long split made =
    let long : length (sent_bits four) ≡ 32 = length-sent four ∙ ap (λ k. 8 * k) four_long in
    made ∙ ap (λ u. reverse_bits_onto 32 (left_after u back) 0) (mixed_is bytes four register n is own)
    ∙ ap (λ r. reverse_bits_onto 32 r 0) (sym (more_after bytes more (sent_bits four) back split long))

-- ---- one byte

low_bytes : (b : ℕ) → b < 256 → to_le_bytes w32 b ≡ b ∷ 0 ∷ 0 ∷ 0 ∷ []
low_bytes b small =
    let first : b % 256 ≡ b = omega arith in
    let second : b / 256 % 256 ≡ 0 = omega arith in
    let third : b / 65536 % 256 ≡ 0 = omega arith in
    let fourth : b / 16777216 % 256 ≡ 0 = omega arith in
    cc

three_zeros : sent_bits (0 ∷ 0 ∷ 0 ∷ []) ≡ replicate 24 false
unfolding sent_bits number_bits
three_zeros = refl

byte_split : (b : ℕ) → sent_bits (b ∷ []) ++ replicate 32 false ≡ sent_bits (b ∷ 0 ∷ 0 ∷ 0 ∷ []) ++ replicate 8 false
byte_split b =
    let bits : List Bool = sent_bits (b ∷ []) in
    sym (append_assoc bits (replicate 24 false) (replicate 8 false))
    ∙ ap (λ zeros. (bits ++ zeros) ++ replicate 8 false) (sym three_zeros)
    ∙ ap (λ all. all ++ replicate 8 false) (sym (sent_append (b ∷ []) (0 ∷ 0 ∷ 0 ∷ [])))

-- what is left of eight zeros after a number that is reversed
left_of_byte : (t : ℕ) → t < 2 ^ 32
    → bit_xor (turned_entry 0 (t % 256)) (t / 2 ^ 8) ≡ reverse_bits_onto 32 (left_after (reverse_bits_onto 32 t 0) (replicate 8 false)) 0
left_of_byte t small =
    let u : ℕ = reverse_bits_onto 32 t 0 in
    let top : ℕ = u / 2 ^ 24 % 256 in
    let low : ℕ = u % 2 ^ 24 * 2 ^ 8 in
    let u_small : u < 2 ^ 32 = reversed_small 32 t in
    let moved : u * 2 ^ 8 % 2 ^ 32 ≡ low = omega arith in
    let same : bit_or (u * 2 ^ 8 % 2 ^ 32) 0 ≡ low =
    ap (λ m. bit_or m 0) moved ∙ or_shifted (u % 2 ^ 24) 8 0 (lit< tt) ∙ omega arith in
    let taken : bit_xor (moved_entry 0 top) low ≡ left_after u (replicate 8 false) =
    ap (bit_xor (moved_entry 0 top)) (sym same)
    ∙ zero_byte u _ (table_turn u 0 top (moved_entry 0 top) 0 u_small (lit< tt) refl refl refl) in
    ap (λ b. bit_xor (reverse_bits_onto 32 (moved_entry 0 b) 0) (t / 2 ^ 8)) (sym (bytes_reversed t).first)
    ∙ ap (bit_xor (reverse_bits_onto 32 (moved_entry 0 top) 0)) (sym (moved_down t small))
    ∙ sym (reversed-xor 32 (moved_entry 0 top) low) ∙ ap (λ r. reverse_bits_onto 32 r 0) taken

pub byte_advanced : (register b low entry next : ℕ) → register < 2 ^ 32 → b < 256 → low ≡ bit_xor register b % 256 → entry ≡ turned_entry 0 low
    → next ≡ bit_xor entry (bit_xor register b / 2 ^ 8) → Advances register (b ∷ []) next
byte_advanced register b low entry next small below low_is entry_is made = λ bytes is.
    let t : ℕ = bit_xor register b in
    let t_small : t < 2 ^ 32 = xor_lt 32 register b small (omega arith) in
    advanced_so bytes (b ∷ []) (b ∷ 0 ∷ 0 ∷ 0 ∷ []) (replicate 8 false) register b next is (low_bytes b below) refl (byte_split b)
    (made ∙ ap (λ e. bit_xor e (t / 2 ^ 8)) (entry_is ∙ ap (turned_entry 0) low_is) ∙ left_of_byte t t_small)

-- ---- sixteen bytes

-- what is left of bytes after others is the sum of what is left of each
left_before-append : (xs ys : List ℕ) (zeros : ℕ) → left_before (xs ++ ys) zeros ≡ bit_xor (left_before xs (8 * length ys + zeros)) (left_before ys zeros)
unfolding left_before
left_before-append xs ys zeros =
    let front : List Bool = sent_bits xs in
    let back : List Bool = sent_bits ys ++ replicate zeros false in
    let long : length (sent_bits ys ++ replicate zeros false) ≡ 8 * length ys + zeros =
    length-append (sent_bits ys) (replicate zeros false) ∙ omega (arith, length-sent ys, length-replicate zeros false) in
    ap (λ bits. reverse_bits_onto 32 (remainder_of bits) 0)
    (ap (λ bits. bits ++ replicate zeros false) (sent_append xs ys) ∙ append_assoc front (sent_bits ys) (replicate zeros false))
    ∙ ap (λ r. reverse_bits_onto 32 r 0) (remainder_sum front back)
    ∙ reversed-xor 32 (remainder_of (front ++ replicate (length back) false)) (remainder_of back)
    ∙ ap (λ n. bit_xor (reverse_bits_onto 32 (remainder_of (front ++ replicate n false)) 0) (reverse_bits_onto 32 (remainder_of back) 0)) long

-- the tables have what is left of one byte
entry_left : (more b : ℕ) → turned_entry more b ≡ left_before (b ∷ []) (32 + 8 * more)
unfolding left_before sent_bits bits_of
entry_left more b =
    ap (λ bits. reverse_bits_onto 32 (remainder_of bits) 0)
    (ap (λ bits. bits ++ bits_of (replicate (4 + more) 0)) (reversed_bits 8 b ∙ sym (append-nil (reverse (number_bits 8 b))))
    ∙ ap (λ bits. sent_bits (b ∷ []) ++ bits) (bits_of-zeros (4 + more) ∙ ap (λ k. replicate k false) (let e : 8 * (4 + more) ≡ 32 + 8 * more = omega arith in e)))

first_left : (b : ℕ) (bytes : List ℕ) (more k left : ℕ) → length bytes ≡ k → left ≡ left_before bytes (32 + 8 * more)
    → bit_xor (turned_entry (more + k) b) left ≡ left_before (b ∷ bytes) (32 + 8 * more)
first_left b bytes more k left long is =
    let place : 32 + 8 * (more + k) ≡ 8 * length bytes + (32 + 8 * more) = omega (arith, long) in
    ap (bit_xor (turned_entry (more + k) b)) is
    ∙ ap (λ e. bit_xor e (left_before bytes (32 + 8 * more))) (entry_left (more + k) b ∙ ap (left_before (b ∷ [])) place)
    ∙ sym (left_before-append (b ∷ []) bytes (32 + 8 * more))

in_order : (a b c d e f g h : ℕ)
    → bit_xor (bit_xor (bit_xor (bit_xor e f) g) h) (bit_xor (bit_xor a b) (bit_xor c d))
    ≡ bit_xor a (bit_xor b (bit_xor c (bit_xor d (bit_xor e (bit_xor f (bit_xor g h))))))
in_order a b c d e f g h = xor_comm (bit_xor (bit_xor (bit_xor e f) g) h) (bit_xor (bit_xor a b) (bit_xor c d)) ∙ simp xor_assoc

-- the entries of eight bytes, as the code sums them
pub eight_left : (a b c d e f g h more : ℕ)
    → bit_xor (bit_xor (bit_xor (bit_xor (turned_entry (more + 3) e) (turned_entry (more + 2) f)) (turned_entry (more + 1) g)) (turned_entry more h))
    (bit_xor (bit_xor (turned_entry (more + 7) a) (turned_entry (more + 6) b)) (bit_xor (turned_entry (more + 5) c) (turned_entry (more + 4) d)))
    ≡ left_before (a ∷ b ∷ c ∷ d ∷ e ∷ f ∷ g ∷ h ∷ []) (32 + 8 * more)
eight_left a b c d e f g h more =
    in_order (turned_entry (more + 7) a) (turned_entry (more + 6) b) (turned_entry (more + 5) c) (turned_entry (more + 4) d)
    (turned_entry (more + 3) e) (turned_entry (more + 2) f) (turned_entry (more + 1) g) (turned_entry more h)
    ∙ first_left a (b ∷ c ∷ d ∷ e ∷ f ∷ g ∷ h ∷ []) more 7 _ refl (first_left b (c ∷ d ∷ e ∷ f ∷ g ∷ h ∷ []) more 6 _ refl
    (first_left c (d ∷ e ∷ f ∷ g ∷ h ∷ []) more 5 _ refl (first_left d (e ∷ f ∷ g ∷ h ∷ []) more 4 _ refl
    (first_left e (f ∷ g ∷ h ∷ []) more 3 _ refl (first_left f (g ∷ h ∷ []) more 2 _ refl (first_left g (h ∷ []) more 1 _ refl (entry_left more h)))))))

-- eight elements of a list, from one on
abbrev pub eight_from : ℕ → List ℕ → List ℕ
eight_from k xs =
    get_or xs k 0 ∷ get_or xs (k + 1) 0 ∷ get_or xs (k + 2) 0 ∷ get_or xs (k + 3) 0
    ∷ get_or xs (k + 4) 0 ∷ get_or xs (k + 5) 0 ∷ get_or xs (k + 6) 0 ∷ get_or xs (k + 7) 0 ∷ []

pub eight_from-small : (k : ℕ) (xs : List ℕ) → ((i : ℕ) → get_or xs i 0 < 256) → (i : ℕ) → get_or (eight_from k xs) i 0 < 256
eight_from-small k xs small zero = small k
eight_from-small k xs small (suc zero) = small (k + 1)
eight_from-small k xs small (suc (suc zero)) = small (k + 2)
eight_from-small k xs small (suc (suc (suc zero))) = small (k + 3)
eight_from-small k xs small (suc (suc (suc (suc zero)))) = small (k + 4)
eight_from-small k xs small (suc (suc (suc (suc (suc zero))))) = small (k + 5)
eight_from-small k xs small (suc (suc (suc (suc (suc (suc zero)))))) = small (k + 6)
eight_from-small k xs small (suc (suc (suc (suc (suc (suc (suc zero))))))) = small (k + 7)
eight_from-small k xs small (suc (suc (suc (suc (suc (suc (suc (suc i)))))))) = lit< tt

pub elements_of_sixteen : (xs : List ℕ) → length xs ≡ 16 → xs ≡ eight_from 0 xs ++ eight_from 8 xs
elements_of_sixteen [] h = absurd (omega arith)
elements_of_sixteen (x0 ∷ []) h = absurd (omega arith)
elements_of_sixteen (x0 ∷ x1 ∷ []) h = absurd (omega arith)
elements_of_sixteen (x0 ∷ x1 ∷ x2 ∷ []) h = absurd (omega arith)
elements_of_sixteen (x0 ∷ x1 ∷ x2 ∷ x3 ∷ []) h = absurd (omega arith)
elements_of_sixteen (x0 ∷ x1 ∷ x2 ∷ x3 ∷ x4 ∷ []) h = absurd (omega arith)
elements_of_sixteen (x0 ∷ x1 ∷ x2 ∷ x3 ∷ x4 ∷ x5 ∷ []) h = absurd (omega arith)
elements_of_sixteen (x0 ∷ x1 ∷ x2 ∷ x3 ∷ x4 ∷ x5 ∷ x6 ∷ []) h = absurd (omega arith)
elements_of_sixteen (x0 ∷ x1 ∷ x2 ∷ x3 ∷ x4 ∷ x5 ∷ x6 ∷ x7 ∷ []) h = absurd (omega arith)
elements_of_sixteen (x0 ∷ x1 ∷ x2 ∷ x3 ∷ x4 ∷ x5 ∷ x6 ∷ x7 ∷ x8 ∷ []) h = absurd (omega arith)
elements_of_sixteen (x0 ∷ x1 ∷ x2 ∷ x3 ∷ x4 ∷ x5 ∷ x6 ∷ x7 ∷ x8 ∷ x9 ∷ []) h = absurd (omega arith)
elements_of_sixteen (x0 ∷ x1 ∷ x2 ∷ x3 ∷ x4 ∷ x5 ∷ x6 ∷ x7 ∷ x8 ∷ x9 ∷ x10 ∷ []) h = absurd (omega arith)
elements_of_sixteen (x0 ∷ x1 ∷ x2 ∷ x3 ∷ x4 ∷ x5 ∷ x6 ∷ x7 ∷ x8 ∷ x9 ∷ x10 ∷ x11 ∷ []) h = absurd (omega arith)
elements_of_sixteen (x0 ∷ x1 ∷ x2 ∷ x3 ∷ x4 ∷ x5 ∷ x6 ∷ x7 ∷ x8 ∷ x9 ∷ x10 ∷ x11 ∷ x12 ∷ []) h = absurd (omega arith)
elements_of_sixteen (x0 ∷ x1 ∷ x2 ∷ x3 ∷ x4 ∷ x5 ∷ x6 ∷ x7 ∷ x8 ∷ x9 ∷ x10 ∷ x11 ∷ x12 ∷ x13 ∷ []) h = absurd (omega arith)
elements_of_sixteen (x0 ∷ x1 ∷ x2 ∷ x3 ∷ x4 ∷ x5 ∷ x6 ∷ x7 ∷ x8 ∷ x9 ∷ x10 ∷ x11 ∷ x12 ∷ x13 ∷ x14 ∷ []) h = absurd (omega arith)
elements_of_sixteen (x0 ∷ x1 ∷ x2 ∷ x3 ∷ x4 ∷ x5 ∷ x6 ∷ x7 ∷ x8 ∷ x9 ∷ x10 ∷ x11 ∷ x12 ∷ x13 ∷ x14 ∷ x15 ∷ []) h = refl
elements_of_sixteen (x0 ∷ x1 ∷ x2 ∷ x3 ∷ x4 ∷ x5 ∷ x6 ∷ x7 ∷ x8 ∷ x9 ∷ x10 ∷ x11 ∷ x12 ∷ x13 ∷ x14 ∷ x15 ∷ x16 ∷ more) h = absurd (omega arith)

-- the last four of the bytes of a number of eight
abbrev last_four : ℕ → List ℕ
last_four n = n / 2 ^ 32 % 256 ∷ n / 2 ^ 40 % 256 ∷ n / 2 ^ 48 % 256 ∷ n / 2 ^ 56 % 256 ∷ []

four_and_four : (n : ℕ) → to_le_bytes w64 n ≡ to_le_bytes w32 (n % 2 ^ 32) ++ last_four n
four_and_four n =
    let first : n % 2 ^ 32 % 256 ≡ n % 256 = omega arith in
    let second : n % 2 ^ 32 / 256 % 256 ≡ n / 256 % 256 = omega arith in
    let third : n % 2 ^ 32 / 65536 % 256 ≡ n / 65536 % 256 = omega arith in
    let fourth : n % 2 ^ 32 / 16777216 % 256 ≡ n / 16777216 % 256 = omega arith in
    cc

-- a register goes into the first four
mixed_four : (register n : ℕ) → register < 2 ^ 32 → to_le_bytes w64 (bit_xor n register) ≡ to_le_bytes w32 (bit_xor register (n % 2 ^ 32)) ++ last_four n
mixed_four register n small =
    let low : ℕ = n % 2 ^ 32 in
    let high : ℕ = n / 2 ^ 32 in
    let mixed : ℕ = bit_xor n register in
    let sum : bit_xor n register % 2 ^ 32 ≡ bit_xor register (n % 2 ^ 32) =
    xor_mod n register 32 ∙ ap (bit_xor low) (mod-eq_of_lt small) ∙ xor_comm low register in
    let same : bit_xor n register / 2 ^ 32 ≡ n / 2 ^ 32 =
    xor_shr n register 32 ∙ ap (bit_xor high) (let e : register / 2 ^ 32 ≡ 0 = omega arith in e) ∙ xor_zero_r high in
    let fifth : mixed / 2 ^ 32 % 256 ≡ n / 2 ^ 32 % 256 = omega (arith, same) in
    let sixth : mixed / 2 ^ 40 % 256 ≡ n / 2 ^ 40 % 256 = omega (arith, same) in
    let seventh : mixed / 2 ^ 48 % 256 ≡ n / 2 ^ 48 % 256 = omega (arith, same) in
    let last : mixed / 2 ^ 56 % 256 ≡ n / 2 ^ 56 % 256 = omega (arith, same) in
    four_and_four mixed ∙ ap (λ low. to_le_bytes w32 low ++ last_four mixed) sum
    ∙ ap (λ back. to_le_bytes w32 (bit_xor register (n % 2 ^ 32)) ++ back) (let e : last_four mixed ≡ last_four n = cc in e)

pub sixteen_advanced : (register first last next : ℕ) (sixteen : List ℕ) → register < 2 ^ 32 → sixteen ≡ to_le_bytes w64 first ++ to_le_bytes w64 last
    → next ≡ bit_xor (left_before (to_le_bytes w64 last) 32) (left_before (to_le_bytes w64 (bit_xor first register)) 96) → Advances register sixteen next
unfolding left_before
sixteen_advanced register first last next sixteen small whole made = λ bytes is.
    let n : ℕ = first % 2 ^ 32 in
    let t : ℕ = bit_xor register n in
    let four : List ℕ = to_le_bytes w32 n in
    let later : List ℕ = last_four first ++ to_le_bytes w64 last in
    let zeros : List Bool = replicate 32 false in
    let parts : sixteen ≡ four ++ later =
    whole ∙ ap (λ front. front ++ to_le_bytes w64 last) (four_and_four first) ∙ append_assoc four (last_four first) (to_le_bytes w64 last) in
    let split : sent_bits sixteen ++ zeros ≡ sent_bits four ++ (sent_bits later ++ zeros) =
    ap (λ all. sent_bits all ++ zeros) parts ∙ ap (λ bits. bits ++ zeros) (sent_append four later) ∙ append_assoc (sent_bits four) (sent_bits later) zeros in
    let mixed : to_le_bytes w64 (bit_xor first register) ++ to_le_bytes w64 last ≡ to_le_bytes w32 t ++ later =
    ap (λ front. front ++ to_le_bytes w64 last) (mixed_four register first small) ∙ append_assoc (to_le_bytes w32 t) (last_four first) (to_le_bytes w64 last) in
    let left : left_before (to_le_bytes w32 t ++ later) 32 ≡ reverse_bits_onto 32 (left_after (reverse_bits_onto 32 t 0) (sent_bits later ++ zeros)) 0 =
    ap (λ bits. reverse_bits_onto 32 (remainder_of bits) 0)
    (ap (λ bits. bits ++ zeros) (sent_append (to_le_bytes w32 t) later) ∙ append_assoc (sent_bits (to_le_bytes w32 t)) (sent_bits later) zeros)
    ∙ ap (λ r. reverse_bits_onto 32 r 0) (sym (left_of_register t (sent_bits later ++ zeros))) in
    advanced_so bytes sixteen four (sent_bits later ++ zeros) register n next is refl refl split
    (made ∙ xor_comm (left_before (to_le_bytes w64 last) 32) (left_before (to_le_bytes w64 (bit_xor first register)) 96)
    ∙ sym (left_before-append (to_le_bytes w64 (bit_xor first register)) (to_le_bytes w64 last) 32) ∙ ap (λ all. left_before all 32) mixed ∙ left)

-- ---- one after the other

pub Advances-none : (register : ℕ) → Advances register [] register
Advances-none register = λ bytes is. is ∙ ap register_of (sym (append-nil bytes))

pub Advances-trans : (a b c : ℕ) (xs ys : List ℕ) → Advances a xs b → Advances b ys c → Advances a (xs ++ ys) c
Advances-trans a b c xs ys p q = λ bytes is. q (bytes ++ xs) (p bytes is) ∙ ap register_of (append_assoc bytes xs ys)

pub chunk_advanced : (r : ℕ) (chunks : List (List ℕ)) (i register next : ℕ) → i < length chunks → Advances r (concat (take i chunks)) register
    → Advances register (get_or chunks i []) next → Advances r (concat (take (i + 1) chunks)) next
chunk_advanced r chunks i register next within now then =
    let chunk : List ℕ = get_or chunks i [] in
    let more : concat (take (i + 1) chunks) ≡ concat (take i chunks) ++ chunk =
    ap concat (take_more chunks i [] within) ∙ concat-append (take i chunks) (chunk ∷ [])
    ∙ ap (λ last. concat (take i chunks) ++ last) (append-nil chunk) in
    subst (λ (xs : List ℕ). Advances r xs next) (sym more) (Advances-trans r register next (concat (take i chunks)) chunk now then)

pub rest_advanced : (r : ℕ) (front rest : List ℕ) (i register next : ℕ) → i < length rest → Advances r (front ++ take i rest) register
    → Advances register (get_or rest i 0 ∷ []) next → Advances r (front ++ take (i + 1) rest) next
rest_advanced r front rest i register next within now then =
    let b : ℕ = get_or rest i 0 in
    let more : front ++ take (i + 1) rest ≡ (front ++ take i rest) ++ b ∷ [] =
    ap (λ xs. front ++ xs) (take_more rest i 0 within) ∙ sym (append_assoc front (take i rest) (b ∷ [])) in
    subst (λ (xs : List ℕ). Advances r xs next) (sym more) (Advances-trans r register next (front ++ take i rest) (b ∷ []) now then)

-- the CRC-32 of no bytes
pub crc32_of_none : crc32_of [] ≡ 0
crc32_of_none = sym (complement_is START [] START_is)

-- the CRC-32 complemented is the register
pub register_is : (crc : ℕ) (bytes : List ℕ) → crc ≡ crc32_of bytes → bit_not w32 crc ≡ register_of bytes
unfolding register_of
register_is crc bytes is =
    let same = complement_is (register_of bytes) bytes refl in
    let small : register_of bytes < 2 ^ 32 = reversed_small 32 (crc_remainder bytes) in
    omega (arith, is, same, small)
