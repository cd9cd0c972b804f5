use Rattle.ffv1_splice.proofs.Common.{◌≡◌, ◌≤◌, ℕ, List, Bor, None, length, drop, arith, ap, sym, ◌∙◌, subst, All, values_of, each_value, IsPlaced, IsPlacedOrStop, written}
use Rattle.ffv1_splice.proofs.Walks.{IsSpliceBefore, division_of}
use Rattle.ffv1_splice.proofs.PlaceSteps.{least_size}
use Rattle.ffv1_splice.proofs.SpliceSteps.{Continues, length-written, continues_more, continues_end}
use Rattle.ffv1_splice.proofs.dividing.divide.Goals as goal

-- each copy has a place of the payload
reach_end : (copies : List (Bor (List ℕ))) (old payload : List ℕ) (end : ℕ) → All (λ copy. length copy.now ≡ length old) copies
    → length payload ≡ length old → end ≤ length payload → All (λ copy. end ≤ length copy.now) copies
reach_end copies old payload end long same within k d lt = let size = long k d lt in omega arith

pub loop-places-preserved : goal.loop-places-preserved
loop-places-preserved c =
    let payload : List ℕ = c.loop-places.payload in
    let start : ℕ = c.in-Some.place.start in
    let placed : IsPlaced (values_of c.args.copies.now) c.loop-places.end payload c.place_ending_at.new.payload c.in-Some.place =
    subst (IsPlacedOrStop (values_of c.args.copies.now) c.loop-places.end payload c.place_ending_at.new.payload) c.in-Some.is c.in_ok-place.ensures in
    let bytes : List ℕ = placed.bytes in
    let size = placed.size in
    let within = c.loop-places.invariant.within in
    let kept = ap length placed.written' ∙ length-written payload start bytes (omega arith) in
    record {
      same_length = kept ∙ c.loop-places.invariant.same_length;
      within = omega arith;
      after = subst (λ z. Continues (values_of c.args.copies.now) (length c.args.payload.now) start c.push.new.self.items (drop start z)) (sym placed.written')
          (subst (λ ps. Continues (values_of c.args.copies.now) (length c.args.payload.now) start ps (drop start (written payload start bytes)))
          (sym c.in_ok-push.ensures.items)
          (continues_more (values_of c.args.copies.now) (length c.args.payload.now) c.loop-places.end c.loop-places.places.items
          c.in-Some.place bytes payload placed.ends size within placed.stands c.loop-places.invariant.after));
    }

pub returns : goal.returns
returns c =
    let payload : List ℕ = c.loop-places.payload in
    let bytes : List ℕ = c.least_at.result.now in
    let same = c.loop-places.invariant.same_length in
    let within = c.loop-places.invariant.within in
    let stopped : IsPlacedOrStop (values_of c.args.copies.now) c.loop-places.end payload c.place_ending_at.new.payload None =
    subst (IsPlacedOrStop (values_of c.args.copies.now) c.loop-places.end payload c.place_ending_at.new.payload) c.in_default.is c.in_ok-place.ensures in
    let reach = reach_end c.args.copies.now _ _ c.loop-places.end c.requires.long same within in
    let size = least_size (values_of c.args.copies.now) 0 c.loop-places.end bytes
    (each_value c.args.copies.now (λ copy. c.loop-places.end ≤ length copy) reach) (omega arith) c.least_at.ensures in
    let is : c.write_at.new.payload ≡ written payload 0 bytes = c.write_at.ensures ∙ ap (λ z. written z 0 bytes) stopped.1 in
    division_of (values_of c.args.copies.now) (length c.args.payload.now) c.loop-places.places.items c.loop-places.end c.write_at.new.payload
    (each_value c.args.copies.now (λ copy. length copy ≡ length c.args.payload.now) c.requires.long)
    (subst (IsSpliceBefore (values_of c.args.copies.now) (length c.args.payload.now) c.loop-places.places.items c.loop-places.end) (sym is)
    (continues_end (values_of c.args.copies.now) (length c.args.payload.now) c.loop-places.end c.loop-places.places.items bytes payload (omega arith)
    within stopped.0 c.least_at.ensures c.loop-places.invariant.after))
