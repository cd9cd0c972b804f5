use Rattle.std.proofs.Common.{ℕ, ◌≡◌, ◌≤◌, List, arith, ap, sym, ◌∙◌, inl, inr}
use Rattle.std.specs.Prelude.{Some, slice_index, take}
use Rattle.ffv1_bits.specs.Parity.{AreBytes}
use Rattle.ebml.specs.Vint.{number_of}
use Rattle.ebml.specs.Inner.Front.{HasVint, IsLengthBy}
use Rattle.ebml.specs.declared.vint.Vint.{Vint}
use Rattle.ebml.proofs.Numbers.{length_of_vint, vint_of_length}
use Rattle.ebml.proofs.Heads.{same_vint}
use Rattle.ebml.proofs.vint.read_vint.Goals as goal

has_length : (xs : List ℕ) (most n : ℕ) (vint : Vint) → AreBytes xs → IsLengthBy (slice_index xs 0) n → most ≤ 8 → HasVint xs most vint → vint.length ≡ n
has_length xs most n vint bytes by few is = let short = is.short in length_of_vint xs n vint.length bytes by (omega (arith, short, few)) is.room is.is

pub returns-then-length-most-clause-only : goal.returns-then-length-most-clause-only
returns-then-length-most-clause-only c = λ vint is.
    let same = has_length c.args.bytes.now c.args.most c.length_by-length.result vint (λ i. (c.type_inv.bytes i).fits) c.length_by-length.ensures c.requires is in
    let short = is.short in let room = is.room in
    elim c.then-length-most.either [ inl long ↦ absurd (omega (arith, same, short, long)) | inr long ↦ absurd (omega (arith, same, room, long.1)) ]

pub returns-clause-found : goal.returns-clause-found
returns-clause-found c =
    let short : c.length_by-length.result ≤ c.args.most = c.if-length-most.false in
    record {
      short = c.if-length-most.false;
      room = c.if-length-bytes.false;
      is = vint_of_length c.args.bytes.now c.length_by-length.result (λ i. (c.type_inv.bytes i).fits) c.length_by-length.ensures
          (omega (arith, short, c.requires)) c.if-length-bytes.false;
      number = c.number_of-number.ensures;
    }

pub returns-clause-only : goal.returns-clause-only
returns-clause-only c = λ vint is.
    let same = has_length c.args.bytes.now c.args.most c.length_by-length.result vint (λ i. (c.type_inv.bytes i).fits) c.length_by-length.ensures c.requires is in
    ap Some (same_vint vint c.number_of-number.result c.length_by-length.result
    (c.number_of-number.ensures ∙ ap (λ n. number_of (take n c.args.bytes.now)) (sym same) ∙ sym is.number) (sym same))
