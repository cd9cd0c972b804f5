use Rattle.std.proofs.lemmas.Grind.{common_steps}
use Rattle.ffv1_splice.proofs.Common.{◌≡◌, ◌+◌, ℕ, List, [], ◌∷◌, ◌++◌, length, arith, ap, refl, sym, ◌∙◌, subst, All, append_assoc, IsShortest, IsSettledUp, Settled, Place, values_of}
use Rattle.ffv1_splice.proofs.SpliceSteps.{length-written}
use Rattle.ffv1_splice.proofs.SettlingSteps.{take_earlier, before_written, rise_more, up_more}
use Rattle.ffv1_splice.proofs.settling.settle_up.Goals as goal

pub loop-bytes-preserved : goal.loop-bytes-preserved
loop-bytes-preserved c =
    let copies : List (List ℕ) = values_of c.args.copies.now in
    let payload : List ℕ = c.loop-bytes.payload in
    let bound : ℕ = length c.args.payload.now in
    let from : ℕ = c.args.from in
    let start : ℕ = c.loop-bytes.start in
    let bytes : List ℕ = c.in-Some.bytes.now in
    let end : ℕ = start + length bytes in
    let place : Place = record { start = start; end = end; standing = Settled } in
    let same = c.loop-bytes.invariant.same_length in
    let after = c.loop-bytes.invariant.after in
    let first : IsShortest copies bound start (record { end = end; bytes = bytes }) =
    subst (λ n. IsShortest copies n start (record { end = end; bytes = bytes })) same c.in-Some.ensures.0 in
    let inside = first.there.within in
    let kept : length c.write_at.new.payload ≡ length payload = grind (arith, common_steps, length-written) in
    let added = c.loop-bytes.invariant.added in
    record {
      same_length = kept ∙ same;
      within = omega arith;
      after = omega arith;
      before = grind (arith, common_steps, take_earlier, before_written);
      added = (
        added.0 ++ place ∷ [],
        c.in_ok-add_place.ensures ∙ ap (λ z. z ++ place ∷ []) added.1 ∙ append_assoc c.args.places.now.items added.0 (place ∷ []),
        rise_more from start added.0 place added.2 refl,
        subst (λ z. All (IsSettledUp copies bound z) (added.0 ++ place ∷ [])) (sym c.write_at.ensures)
            (up_more copies bound payload from added.0 start end bytes added.2 added.3 first c.in-Some.ensures.1 refl (omega arith)),
      );
    }

pub returns-clause-walk : goal.returns-clause-walk
returns-clause-walk c =
    let copies : List (List ℕ) = values_of c.args.copies.now in
    let start : ℕ = c.loop-bytes.start in
    let added = c.loop-bytes.invariant.added in (
      added.0,
      added.1,
      record {
        rise = added.2;
        settled = added.3;
        stop = λ piece first only. c.in_default.ensures piece (rw c.loop-bytes.invariant.same_length first) only;
      },
    )
