use Rattle.std.proofs.Common.{◌≡◌, ◌++◌, take, get_or, arith, refl, subst}
use Rattle.std.specs.Prelude.{vec_len}
use Rattle.matroska_parts.specs.Named.{IsBelow}
use Rattle.ffv1_check.proofs.TrackSteps.{room_after}
use Rattle.ffv1_check.proofs.ReporterSteps.{on, no_part, below_at, part_more, counted_few, all_taken}
use Rattle.ffv1_check.proofs.report.Reporter.take.Goals as goal

pub found_at-found-requires-clause-below : goal.found_at-found-requires-clause-below
found_at-found-requires-clause-below c =
    let stands = c.requires.stands in
    let inv = c.loop-part.invariant.on stands.0 stands.1 (on stands.0 stands.1 c.args.self.now stands.2) in
    let same : stands.0 ≡ vec_len c.loop-part.self.progress.tracks = omega (arith, inv.many) in
    subst (λ n. IsBelow n (get_or c.args.parts.now c.loop-part.part-index no_part)) same
    (below_at stands.0 c.args.parts.now c.loop-part.part-index c.loop-part-test.true stands.3)

pub found_at-found-requires-clause-room : goal.found_at-found-requires-clause-room
found_at-found-requires-clause-room c =
    let stands = c.requires.stands in
    let inv = c.loop-part.invariant.on stands.0 stands.1 (on stands.0 stands.1 c.args.self.now stands.2) in
    room_after (stands.1 ++ take c.loop-part.part-index c.args.parts.now) c.loop-part.self.progress.tracks.items inv.stands.tracks
    (counted_few stands.0 stands.1 c.args.parts.now c.loop-part.part-index c.loop-part.self c.args.self.now.taken inv stands.2.taken' c.requires.room c.loop-part-test.true)

pub pass-requires-clause-below : goal.pass-requires-clause-below
pass-requires-clause-below c =
    let stands = c.requires.stands in
    let inv = c.loop-part.invariant.on stands.0 stands.1 (on stands.0 stands.1 c.args.self.now stands.2) in
    let same : stands.0 ≡ vec_len c.loop-part.self.progress.tracks = omega (arith, inv.many) in
    subst (λ n. IsBelow n (get_or c.args.parts.now c.loop-part.part-index no_part)) same
    (below_at stands.0 c.args.parts.now c.loop-part.part-index c.loop-part-test.true stands.3)

pub pass-requires-clause-room : goal.pass-requires-clause-room
pass-requires-clause-room c =
    let stands = c.requires.stands in
    let inv = c.loop-part.invariant.on stands.0 stands.1 (on stands.0 stands.1 c.args.self.now stands.2) in
    room_after (stands.1 ++ take c.loop-part.part-index c.args.parts.now) c.loop-part.self.progress.tracks.items inv.stands.tracks
    (counted_few stands.0 stands.1 c.args.parts.now c.loop-part.part-index c.loop-part.self c.args.self.now.taken inv stands.2.taken' c.requires.room c.loop-part-test.true)

pub pass-requires-clause-bytes : goal.pass-requires-clause-bytes
pass-requires-clause-bytes c =
    let stands = c.requires.stands in
    let inv = c.loop-part.invariant.on stands.0 stands.1 (on stands.0 stands.1 c.args.self.now stands.2) in
    let few = counted_few stands.0 stands.1 c.args.parts.now c.loop-part.part-index c.loop-part.self c.args.self.now.taken inv stands.2.taken' c.requires.room c.loop-part-test.true in
    omega (arith, few, inv.few)

pub loop-part-preserved : goal.loop-part-preserved
loop-part-preserved c = record {
  on = λ tracks before stands.
      let inv = c.loop-part.invariant.on tracks before stands in
      let so_far = before ++ take c.loop-part.part-index c.args.parts.now in
      part_more tracks before c.args.parts.now c.loop-part.part-index c.loop-part.self
      record { progress = c.pass.new.self; lines = c.push_found.new.lines; taken = c.loop-part.self.taken } c.place_of.result c.found_at-found.result
      c.loop-part-test.true inv (c.pass.ensures.stands so_far inv.stands) (omega (arith, c.pass.ensures.tracks)) c.pass.ensures.most c.in_ok-push_found.ensures
      c.place_of.ensures (c.found_at-found.ensures so_far inv.stands);
  taken = c.loop-part.invariant.taken;
}

pub overflow_add-self : goal.overflow_add-self
overflow_add-self c = omega (arith, c.loop-part.invariant.taken, c.requires.room)

pub returns : goal.returns
returns c = λ tracks before stands.
    all_taken tracks before c.args.parts.now c.loop-part.part-index c.loop-part.self _ c.loop-part-test.false
    (c.loop-part.invariant.on tracks before (on tracks before c.args.self.now stands)) refl refl (omega (arith, c.loop-part.invariant.taken, stands.taken'))
