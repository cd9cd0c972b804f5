use Rattle.std.proofs.lemmas.Result.{err_from_is_err_and}
use Rattle.ebml_reader.proofs.Steps.{fault-after, memory_after, passes-fill}
use Rattle.ebml_reader.proofs.PieceSteps.{none_passed, taken_passed, all_passed}
use Rattle.ebml_reader.proofs.pieces.take_bytes.Goals as goal

pub loop-taken-init : goal.loop-taken-init
loop-taken-init g c = rw c.new-taken.ensures.items (none_passed c.args.count c.args.intake.now _)

pub returns-in_err-piece : goal.returns-in_err-piece
returns-in_err-piece g c =
    let inv = c.loop-taken.invariant in
    let p = err_from_is_err_and c.from_residual.result c.from_residual.ensures.1 in
    rw (p.1, p.2) (fault-after c.in_err-piece.field-0.0 c.loop-taken.taken.items c.args.intake.now c.loop-taken.intake _ _ _ inv.passes c.in_err-piece.ensures)

pub returns-then-piece-eq0 : goal.returns-then-piece-eq0
returns-then-piece-eq0 g c =
    (all_passed c.loop-taken.taken.items c.args.count c.loop-taken.left c.in_ok-piece.piece c.args.intake.now c.loop-taken.intake c.next_piece.new.intake _ _ _
    c.loop-taken.invariant c.in_ok-piece.ensures c.if-piece-eq0.true).1

pub loop-taken-preserved : goal.loop-taken-preserved
loop-taken-preserved g c =
    taken_passed c.loop-taken.taken.items c.bytes.result.now c.args.count c.loop-taken.left c.in_ok-piece.piece c.args.intake.now c.loop-taken.intake
    c.next_piece.new.intake c.pass.new.self _ _ _ c.extend_from_slice.new.self.items c.loop-taken.invariant c.in_ok-piece.ensures c.bytes.ensures.bytes
    c.in_ok-extend_from_slice.ensures.items c.pass.ensures

pub returns-in_err-extend_from_slice : goal.returns-in_err-extend_from_slice
returns-in_err-extend_from_slice g c =
    let inv = c.loop-taken.invariant in
    let p = err_from_is_err_and c.from_residual-in_err-extend_from_slice.result c.from_residual-in_err-extend_from_slice.ensures.1 in
    rw (p.1, p.2)
    (memory_after c.loop-taken.taken.items c.args.intake.now c.next_piece.new.intake _ _
    (passes-fill c.loop-taken.taken.items c.args.intake.now c.loop-taken.intake c.next_piece.new.intake _ _ _ inv.passes c.in_ok-piece.ensures.passes))
