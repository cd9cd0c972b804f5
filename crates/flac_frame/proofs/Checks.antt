-- The two checks, a byte at a time.
use Rattle.std.proofs.Common.{◌≡◌, ℕ, ◌+◌, ◌*◌, ◌/◌, ◌%◌, ◌^◌, ◌<◌, true, nat_eq, get_or, List, length, take, refl, sym, ap, ◌∙◌, arith, lit<, lit≤}
use Rattle.std.specs.Prelude.{bit_xor}
use Rattle.std.specs.Int.Bits.{xor_shifted}
use Rattle.std.proofs.lemmas.Bool.{agree_below_at, eqb-true}
use Rattle.std.proofs.lemmas.List.{take_more}
use Rattle.ffv1_bits.specs.Bits.{bits_of}
use Rattle.ffv1_bits.specs.Parity.{Divisor, divided_by, remainder_by}
use Rattle.ffv1_bits.proofs.Divisors.{IsDivisor, divided_by-xor, divided_by_low, remainder_by_push, same_bits_by}
use Rattle.ffv1_bits.proofs.Burst.{length-bits, same_bytes}
use Rattle.flac_frame.specs.declared.crc.TheConstants.{ENTRIES_8, ENTRIES_16}
use Rattle.flac_frame.specs.Crc.{crc8_divisor, crc16_divisor}
use Rattle.flac_frame.specs.Frame.{FlacBurstIsSeen}

-- ---- the tables

agrees_8 : (b : ℕ) → b < 256 → nat_eq (get_or ENTRIES_8 b 0) (divided_by crc8_divisor 8 (b * 2 ^ 8)) ≡ true
agrees_8 b h = agree_below_at (λ t. nat_eq (get_or ENTRIES_8 t 0) (divided_by crc8_divisor 8 (t * 2 ^ 8))) (λ _. true) 256 b refl h

entry_8 : (b : ℕ) → b < 256 → get_or ENTRIES_8 b 0 ≡ divided_by crc8_divisor 8 (b * 2 ^ 8)
entry_8 b h = eqb-true (get_or ENTRIES_8 b 0) (divided_by crc8_divisor 8 (b * 2 ^ 8)) (agrees_8 b h)

agrees_16 : (b : ℕ) → b < 256 → nat_eq (get_or ENTRIES_16 b 0) (divided_by crc16_divisor 8 (b * 2 ^ 16)) ≡ true
agrees_16 b h = agree_below_at (λ t. nat_eq (get_or ENTRIES_16 t 0) (divided_by crc16_divisor 8 (t * 2 ^ 16))) (λ _. true) 256 b refl h

entry_16 : (b : ℕ) → b < 256 → get_or ENTRIES_16 b 0 ≡ divided_by crc16_divisor 8 (b * 2 ^ 16)
entry_16 b h = eqb-true (get_or ENTRIES_16 b 0) (divided_by crc16_divisor 8 (b * 2 ^ 16)) (agrees_16 b h)

-- ---- a byte after a remainder

-- what the high part leaves, and the low part
parted : (by : Divisor) (high low p : ℕ) → low < 2 ^ by.degree → p ≡ high * 2 ^ by.degree + low
    → divided_by by 8 p ≡ bit_xor (divided_by by 8 (high * 2 ^ by.degree)) low
parted by high low p small is =
    ap (divided_by by 8) (is ∙ sym (xor_shifted high by.degree low small)) ∙ divided_by-xor by 8 (high * 2 ^ by.degree) low
    ∙ ap (bit_xor (divided_by by 8 (high * 2 ^ by.degree))) (divided_by_low by 8 low small)

pub byte_taken_8 : (r b : ℕ) → r < 256 → b < 256 → bit_xor (get_or ENTRIES_8 r 0) b ≡ divided_by crc8_divisor 8 (r * 2 ^ 8 + b)
byte_taken_8 r b h k = ap (λ e. bit_xor e b) (entry_8 r h) ∙ sym (parted crc8_divisor r b (r * 2 ^ 8 + b) k refl)

pub byte_taken_16 : (r b top low : ℕ) → r < 2 ^ 16 → b < 256 → top ≡ r / 2 ^ 8 % 256 → low ≡ r % 256 * 2 ^ 8 + b
    → bit_xor (get_or ENTRIES_16 top 0) low ≡ divided_by crc16_divisor 8 (r * 2 ^ 8 + b)
byte_taken_16 r b top low h k first last =
    let split : r * 2 ^ 8 + b ≡ top * 2 ^ 16 + low = omega arith in
    let small : low < 2 ^ 16 = omega arith in
    ap (λ e. bit_xor e low) (entry_16 top (omega arith)) ∙ sym (parted crc16_divisor top low (r * 2 ^ 8 + b) small split)

-- the turn of the loop
pub left_turn : (by : Divisor) (bytes : List ℕ) (i register next : ℕ) → i < length bytes → get_or bytes i 0 < 256
    → register ≡ remainder_by by (bits_of (take i bytes)) → next ≡ divided_by by 8 (register * 2 ^ 8 + get_or bytes i 0)
    → next ≡ remainder_by by (bits_of (take (i + 1) bytes))
left_turn by bytes i register next within small now is =
    is ∙ ap (λ r. divided_by by 8 (r * 2 ^ 8 + get_or bytes i 0)) now ∙ sym (remainder_by_push by (take i bytes) (get_or bytes i 0) small)
    ∙ ap (λ xs. remainder_by by (bits_of xs)) (sym (take_more bytes i 0 within))

-- ---- damage within 16 bits

is_divisor : IsDivisor crc16_divisor
is_divisor = record { high = lit≤ tt; small = lit< tt; odd = refl }

pub burst : FlacBurstIsSeen
burst a b at a_small b_small near one other =
    same_bytes a b a_small b_small near.same_length
    (same_bits_by crc16_divisor is_divisor at (bits_of a) (bits_of b)
    (length-bits a ∙ ap (λ n. 8 * n) near.same_length ∙ sym (length-bits b)) near.front near.back (one.crc16 ∙ sym other.crc16))
