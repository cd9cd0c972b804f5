use Rattle.std.proofs.Common.{◌≡◌, ◌++◌, ℕ, List, refl, sym, ap, ◌∙◌}
use Rattle.std.specs.Prelude.{bit_xor}
use Rattle.std.specs.Int.{w64, to_le_bytes}
use Rattle.std.proofs.lemmas.Nat.{le_bytes_8}
use Rattle.ebml.specs.Inner.Register.{left_before}
use Rattle.ebml.proofs.Advances.{eight_from, eight_from-small, elements_of_sixteen, sixteen_advanced}
use Rattle.ebml.proofs.crc.advanced_by_sixteen.Goals as goal

pub returns : goal.returns
returns c =
    let sixteen : List ℕ = c.args.sixteen.now in
    let first : ℕ = c.from_le_bytes-first.result in
    let last : ℕ = c.from_le_bytes-last.result in
    let front = le_bytes_8 (eight_from 0 sixteen) first refl (eight_from-small 0 sixteen c.fits-sixteen) c.from_le_bytes-first.ensures in
    let back = le_bytes_8 (eight_from 8 sixteen) last refl (eight_from-small 8 sixteen c.fits-sixteen) c.from_le_bytes-last.ensures in
    let whole : sixteen ≡ to_le_bytes w64 first ++ to_le_bytes w64 last =
    elements_of_sixteen sixteen c.told-sixteen ∙ ap (λ xs. xs ++ eight_from 8 sixteen) (sym front) ∙ ap (λ xs. to_le_bytes w64 first ++ xs) (sym back) in
    let later = c.taken.ensures in
    let earlier = c.taken-2.ensures ∙ ap (λ r. left_before (to_le_bytes w64 (bit_xor first r)) 96) c.from.ensures in
    sixteen_advanced c.args.register first last _ sixteen c.ranges.register.fits whole
    (ap (λ x. bit_xor x c.taken-2.result) later ∙ ap (bit_xor (left_before (to_le_bytes w64 last) 32)) earlier)
