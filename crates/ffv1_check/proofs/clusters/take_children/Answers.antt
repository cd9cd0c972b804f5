use Rattle.std.proofs.Common.{◌+◌, List, ℕ, Ok, length, take, ap, subst, arith}
use Rattle.std.proofs.lemmas.Result.{err_from_is_err_and}
use Rattle.std.proofs.lemmas.List.{length-take-le}
use Rattle.ebml_reader.specs.Pieces.{GoesOver}
use Rattle.ebml_reader.proofs.Steps.{fault-after, memory_after, passes-fill}
use Rattle.ffv1_check.specs.Inner.TakenParts.{TakesChild}
use Rattle.ffv1_check.proofs.ClusterSteps.{no_child_taken, child_placed, one_child_taken, children_taken}
use Rattle.ffv1_check.proofs.clusters.take_children.Goals as goal

pub loop-child-init : goal.loop-child-init
loop-child-init g c = no_child_taken c.args.tracks.now.tracks c.args.place c.args.size c.args.crc.now c.args.reporter.now c.args.waiting.now c.args.intake.now _

pub returns-in_err-child : goal.returns-in_err-child
returns-in_err-child g c =
    let inv = c.loop-child.invariant in
    let p = err_from_is_err_and c.from_residual.result c.from_residual.ensures.1 in
    rw (p.1, p.2) (fault-after c.in_err-child.field-0.0 inv.content c.args.intake.now c.loop-child.intake _ _ _ inv.passes c.in_err-child.ensures)

pub overflow_add-from : goal.overflow_add-from
overflow_add-from g c =
    let holds = rw c.left_of.ensures at (rw c.in-Some.is at c.in_ok-child.ensures) in
    let room = child_placed c.args.tracks.now.tracks c.args.place c.args.size c.loop-child.passed c.args.crc.now c.loop-child.crc c.loop-child.crc c.args.reporter.now
    c.loop-child.reporter c.args.waiting.now c.loop-child.waiting c.args.intake.now c.loop-child.intake c.held_child.new.intake _ _ _ c.loop-child.invariant c.in-Some.child
    holds c.requires.placed in
    omega (arith, room)

pub take_child-requires-clause-room : goal.take_child-requires-clause-room
take_child-requires-clause-room g c =
    let holds = rw c.left_of.ensures at (rw c.in-Some.is at c.in_ok-child.ensures) in
    let room = child_placed c.args.tracks.now.tracks c.args.place c.args.size c.loop-child.passed c.args.crc.now c.loop-child.crc c.loop-child.crc c.args.reporter.now
    c.loop-child.reporter c.args.waiting.now c.loop-child.waiting c.args.intake.now c.loop-child.intake c.held_child.new.intake _ _ _ c.loop-child.invariant c.in-Some.child
    holds c.requires.placed in
    let there = holds.there in
    let same = ap length c.bytes.ensures.bytes in
    let long = length-take-le c.in-Some.child.length c.bytes.result.now (omega (arith, there, same)) in
    omega (arith, room, long)

pub returns-in_err-take_child : goal.returns-in_err-take_child
returns-in_err-take_child g c =
    let inv = c.loop-child.invariant in
    let holds = rw c.in-Some.is at c.in_ok-child.ensures in
    let p = err_from_is_err_and c.from_residual-in_err-take_child.result c.from_residual-in_err-take_child.ensures.1 in
    rw (p.1, p.2)
    (rw c.in_err-take_child.ensures
    (memory_after inv.content c.args.intake.now c.held_child.new.intake _ _
    (passes-fill inv.content c.args.intake.now c.loop-child.intake c.held_child.new.intake _ _ _ inv.passes holds.passes)))

pub overflow_add-passed : goal.overflow_add-passed
overflow_add-passed g c =
    let holds = rw c.left_of.ensures at (rw c.in-Some.is at c.in_ok-child.ensures) in
    let room = child_placed c.args.tracks.now.tracks c.args.place c.args.size c.loop-child.passed c.args.crc.now c.loop-child.crc c.loop-child.crc c.args.reporter.now
    c.loop-child.reporter c.args.waiting.now c.loop-child.waiting c.args.intake.now c.loop-child.intake c.held_child.new.intake _ _ _ c.loop-child.invariant c.in-Some.child
    holds c.requires.placed in
    omega (arith, room)

pub loop-child-smaller : goal.loop-child-smaller
loop-child-smaller g c =
    let holds = rw c.left_of.ensures at (rw c.in-Some.is at c.in_ok-child.ensures) in
    let room = child_placed c.args.tracks.now.tracks c.args.place c.args.size c.loop-child.passed c.args.crc.now c.loop-child.crc c.loop-child.crc c.args.reporter.now
    c.loop-child.reporter c.args.waiting.now c.loop-child.waiting c.args.intake.now c.loop-child.intake c.held_child.new.intake _ _ _ c.loop-child.invariant c.in-Some.child
    holds c.requires.placed in
    let some = holds.some in
    omega (arith, room, some)

pub loop-child-preserved : goal.loop-child-preserved
loop-child-preserved g c =
    let holds = rw c.left_of.ensures at (rw c.in-Some.is at c.in_ok-child.ensures) in
    let same = ap (take c.in-Some.child.length) c.bytes.ensures.bytes in
    one_child_taken c.args.tracks.now.tracks c.args.place c.args.size c.loop-child.passed c.args.crc.now c.loop-child.crc c.push.new.self c.args.reporter.now
    c.loop-child.reporter c.args.waiting.now c.loop-child.waiting c.args.intake.now c.loop-child.intake c.held_child.new.intake _ _ _ c.loop-child.invariant c.in-Some.child
    holds c.take_child.new.reporter c.take_child.new.waiting
    (subst (λ (l : List ℕ). TakesChild {T = Unit {0}} c.args.tracks.now.tracks (c.args.place + c.loop-child.passed) l (Ok tt) c.loop-child.reporter c.take_child.new.reporter
    c.loop-child.waiting c.take_child.new.waiting) same c.in_ok-take_child.ensures)
    (subst (λ (l : List ℕ). GoesOver l c.loop-child.crc c.push.new.self) same c.push.ensures) c.pass.new.self c.pass.ensures

pub returns : goal.returns
returns g c =
    children_taken c.args.tracks.now.tracks c.args.place c.args.size c.loop-child.passed c.args.crc.now c.loop-child.crc c.args.reporter.now c.loop-child.reporter
    c.args.waiting.now c.loop-child.waiting c.args.intake.now c.loop-child.intake c.held_child.new.intake _ _ _ c.loop-child.invariant
    (rw c.left_of.ensures at (rw c.in_default.is at c.in_ok-child.ensures))
