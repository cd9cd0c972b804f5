use Rattle.ffv1_splice.proofs.Common.{◌≡◌, ◌≤◌, ℕ, List, length, arith, refl, ◌∙◌, All, IsOnly, IsPiece, Settled, Place, values_of, each_value}
use Rattle.ffv1_splice.proofs.PlaceSteps.{piece_size}
use Rattle.ffv1_splice.proofs.SpliceSteps.{length-written}
use Rattle.ffv1_splice.proofs.SettlingSteps.{lie_more, down_more}
use Rattle.ffv1_splice.proofs.settling.settle_down.Goals as goal

pub loop-start-preserved : goal.loop-start-preserved
loop-start-preserved c =
    let copies : List (List ℕ) = values_of c.args.copies.now in
    let payload : List ℕ = c.loop-start.payload in
    let whole : ℕ = length c.args.payload.now in
    let end : ℕ = c.loop-start.end in
    let start : ℕ = c.in-Some.start in
    let bytes : List ℕ = c.in-Some.bytes.now in
    let place : Place = record { start = start; end = end; standing = Settled } in
    let within = c.loop-start.invariant.within in
    let same = c.loop-start.invariant.same_length in
    let reach : All (λ copy. end ≤ length copy.now) c.args.copies.now = λ k d lt. let long = c.requires k d lt in omega arith in
    let only : IsOnly (IsPiece copies end) (record { start = start; bytes = bytes }) = c.in-Some.ensures in
    let size = piece_size copies end (record { start = start; bytes = bytes }) (each_value c.args.copies.now (λ copy. end ≤ length copy) reach) only.there in
    let kept : length c.write_at.new.payload ≡ length payload = cc (length-written payload start bytes (omega arith)) in
    record {
      same_length = kept ∙ same;
      within = omega arith;
      lie = rw c.in_ok-add_place.ensures (lie_more whole end c.loop-start.places.items place c.loop-start.invariant.lie refl);
      settled = rw c.in_ok-add_place.ensures (rw c.write_at.ensures
          (down_more copies payload c.loop-start.places.items whole start end bytes c.loop-start.invariant.lie c.loop-start.invariant.settled only size within));
    }
