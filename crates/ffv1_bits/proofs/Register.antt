-- The register of 32 bits: one byte at a time.
use Rattle.std.proofs.Common.{◌≡◌, ℕ, ◌+◌, ◌*◌, ◌^◌, ◌<◌, List, [], ◌∷◌, ◌++◌, length, take, get_or, append_assoc, sym, ap, ◌∙◌}
use Rattle.std.specs.List.{fold}
use Rattle.std.proofs.lemmas.Grind.{flat_map-append}
use Rattle.std.proofs.lemmas.List.{take_more}
use Rattle.std.proofs.lemmas.List.Sums.{fold-append}
use Rattle.ffv1_bits.specs.Bits.{number_bits, bits_of}
use Rattle.ffv1_bits.specs.Parity.{divided, remainder_of}
use Rattle.ffv1_bits.proofs.Burst.{byte_is}
use Rattle.ffv1_bits.proofs.Division.{shifted, divided_is_fold, remainder_is_fold}

pub byte_whole : (r b : ℕ) → b < 256 → fold shifted r (number_bits 8 b) ≡ divided 8 (r * 2 ^ 8 + b)
unfolding number_bits
byte_whole r b h =
    sym (divided_is_fold r (number_bits 8 b)) ∙ ap (λ x. divided 8 (r * 2 ^ 8 + x)) (byte_is b h)

-- one more byte at the end of the list
pub remainder_push : (bytes : List ℕ) (b : ℕ) → b < 256 → remainder_of (bits_of (bytes ++ b ∷ [])) ≡ divided 8 (remainder_of (bits_of bytes) * 2 ^ 8 + b)
unfolding bits_of number_bits
remainder_push bytes b h =
    remainder_is_fold (bits_of (bytes ++ b ∷ [])) ∙ ap (fold shifted 0) (flat_map-append (number_bits 8) bytes (b ∷ []))
    ∙ fold-append shifted 0 (bits_of bytes) (number_bits 8 b)
    ∙ ap (λ r. fold shifted r (number_bits 8 b)) (sym (remainder_is_fold (bits_of bytes)))
    ∙ byte_whole (remainder_of (bits_of bytes)) b h

-- ---- the turn of the loop

pub remainder_turn : (front bytes : List ℕ) (i register next : ℕ) → i < length bytes → get_or bytes i 0 < 256
    → register ≡ remainder_of (bits_of (front ++ take i bytes)) → next ≡ divided 8 (register * 2 ^ 8 + get_or bytes i 0)
    → next ≡ remainder_of (bits_of (front ++ take (i + 1) bytes))
remainder_turn front bytes i register next l small now e =
    let more : front ++ take (i + 1) bytes ≡ (front ++ take i bytes) ++ get_or bytes i 0 ∷ [] =
    ap (λ xs. front ++ xs) (take_more bytes i 0 l) ∙ sym (append_assoc front (take i bytes) (get_or bytes i 0 ∷ [])) in
    e ∙ ap (λ x. divided 8 (x * 2 ^ 8 + get_or bytes i 0)) now ∙ sym (remainder_push (front ++ take i bytes) (get_or bytes i 0) small)
    ∙ ap (λ xs. remainder_of (bits_of xs)) (sym more)
