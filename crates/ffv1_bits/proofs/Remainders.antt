-- The table of bytes: what one byte at the top of the register leaves.
use Rattle.std.proofs.Common.{◌≡◌, ℕ, ◌+◌, ◌*◌, ◌/◌, ◌%◌, ◌^◌, ◌<◌, true, nat_eq, get_or, List, [], ◌∷◌, ◌++◌, refl, sym, ap, ◌∙◌, arith, lit<}
use Rattle.std.specs.Prelude.{bit_xor, bit_or}
use Rattle.std.specs.Int.Bits.{xor_shifted}
use Rattle.std.proofs.lemmas.Nat.{or_shifted}
use Rattle.std.proofs.lemmas.Bool.{agree_below_at, eqb-true}
use Rattle.ffv1_bits.specs.Bits.{number_bits, bits_of}
use Rattle.ffv1_bits.specs.declared.table.TheConstants.{REMAINDERS}
use Rattle.ffv1_bits.specs.Parity.{polynomial_of, divided, remainder_of}
use Rattle.ffv1_bits.proofs.Division.{divided-xor, divided_low}
use Rattle.ffv1_bits.proofs.Register.{remainder_push}

-- the entry of a byte: the remainder of it and four zero bytes
abbrev pub entry_of : ℕ → ℕ
entry_of byte = remainder_of (bits_of (byte ∷ 0 ∷ 0 ∷ 0 ∷ 0 ∷ []))

zero_more : (bytes : List ℕ) → remainder_of (bits_of (bytes ++ 0 ∷ [])) ≡ divided 8 (remainder_of (bits_of bytes) * 2 ^ 8)
zero_more bytes = remainder_push bytes 0 (lit< tt) ∙ ap (divided 8) (omega arith)

none_left : remainder_of (bits_of []) ≡ 0
unfolding bits_of remainder_of polynomial_of divided
none_left = refl

entry_is : (t : ℕ) → t < 256 → entry_of t ≡ divided 8 (t * 2 ^ 32)
entry_is t h =
    let one : remainder_of (bits_of (t ∷ [])) ≡ t =
    remainder_push [] t h ∙ ap (λ z. divided 8 (z * 2 ^ 8 + t)) none_left ∙ divided_low 8 (0 * 2 ^ 8 + t) (omega arith) ∙ omega arith in
    let two : remainder_of (bits_of (t ∷ 0 ∷ [])) ≡ t * 2 ^ 8 =
    zero_more (t ∷ []) ∙ ap (λ z. divided 8 (z * 2 ^ 8)) one ∙ divided_low 8 (t * 2 ^ 8) (omega arith) in
    let three : remainder_of (bits_of (t ∷ 0 ∷ 0 ∷ [])) ≡ t * 2 ^ 8 * 2 ^ 8 =
    zero_more (t ∷ 0 ∷ []) ∙ ap (λ z. divided 8 (z * 2 ^ 8)) two ∙ divided_low 8 (t * 2 ^ 8 * 2 ^ 8) (omega arith) in
    let four : remainder_of (bits_of (t ∷ 0 ∷ 0 ∷ 0 ∷ [])) ≡ t * 2 ^ 8 * 2 ^ 8 * 2 ^ 8 =
    zero_more (t ∷ 0 ∷ 0 ∷ []) ∙ ap (λ z. divided 8 (z * 2 ^ 8)) three ∙ divided_low 8 (t * 2 ^ 8 * 2 ^ 8 * 2 ^ 8) (omega arith) in
    zero_more (t ∷ 0 ∷ 0 ∷ 0 ∷ []) ∙ ap (λ z. divided 8 (z * 2 ^ 8)) four ∙ ap (divided 8) (omega arith)

-- One byte more: the entry of the top byte, and the rest of the register moved up with the byte after it.
table_step : (r b : ℕ) → r < 2 ^ 32 → b < 256 → divided 8 (r * 2 ^ 8 + b) ≡ bit_xor (entry_of (r / 2 ^ 24)) (r % 2 ^ 24 * 2 ^ 8 + b)
table_step r b h k =
    let split : r * 2 ^ 8 + b ≡ r / 2 ^ 24 * 2 ^ 32 + (r % 2 ^ 24 * 2 ^ 8 + b) = omega arith in
    let low : r % 2 ^ 24 * 2 ^ 8 + b < 2 ^ 32 = omega arith in
    ap (divided 8) (split ∙ sym (xor_shifted (r / 2 ^ 24) 32 (r % 2 ^ 24 * 2 ^ 8 + b) low))
    ∙ divided-xor 8 (r / 2 ^ 24 * 2 ^ 32) (r % 2 ^ 24 * 2 ^ 8 + b)
    ∙ ap (λ z. bit_xor (divided 8 (r / 2 ^ 24 * 2 ^ 32)) z) (divided_low 8 (r % 2 ^ 24 * 2 ^ 8 + b) low)
    ∙ ap (λ z. bit_xor z (r % 2 ^ 24 * 2 ^ 8 + b)) (sym (entry_is (r / 2 ^ 24) (omega arith)))

-- Each number of the table is computed.
agrees : (b : ℕ) → b < 256 → nat_eq (get_or (get_or REMAINDERS 0 []) b 0) (entry_of b) ≡ true
unfolding number_bits bits_of polynomial_of divided remainder_of
agrees b h = agree_below_at (λ t. nat_eq (get_or (get_or REMAINDERS 0 []) t 0) (entry_of t)) (λ _. true) 256 b refl h

pub table_has : (b : ℕ) → b < 256 → get_or (get_or REMAINDERS 0 []) b 0 ≡ entry_of b
table_has b h = eqb-true (get_or (get_or REMAINDERS 0 []) b 0) (entry_of b) (agrees b h)

pub table_turn : (r b top entry value : ℕ) → r < 2 ^ 32 → b < 256 → top ≡ r / 2 ^ 24 % 256 → entry ≡ entry_of top → value ≡ b
    → bit_xor entry (bit_or (r * 2 ^ 8 % 2 ^ 32) value) ≡ divided 8 (r * 2 ^ 8 + b)
table_turn r b top entry value h k first is same =
    let moved : r * 2 ^ 8 % 2 ^ 32 ≡ r % 2 ^ 24 * 2 ^ 8 = omega arith in
    let highest : top ≡ r / 2 ^ 24 = omega arith in
    ap (λ e. bit_xor e (bit_or (r * 2 ^ 8 % 2 ^ 32) value)) (is ∙ ap entry_of highest)
    ∙ ap (bit_xor (entry_of (r / 2 ^ 24))) (ap (λ x. bit_or x value) moved ∙ ap (bit_or (r % 2 ^ 24 * 2 ^ 8)) same ∙ or_shifted (r % 2 ^ 24) 8 b k)
    ∙ sym (table_step r b h k)
