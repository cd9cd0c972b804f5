use Rattle.std.proofs.lemmas.Result.{err_from_is_err_and}
use Rattle.ebml_reader.proofs.Steps.{fault-after}
use Rattle.ebml_reader.proofs.PieceSteps.{none_summed, piece_summed, all_passed}
use Rattle.ebml_reader.proofs.pieces.pass_summed.Goals as goal

pub loop-piece-init : goal.loop-piece-init
loop-piece-init g c = none_summed c.args.count c.args.crc.now c.args.intake.now _

pub returns-in_err-piece : goal.returns-in_err-piece
returns-in_err-piece g c =
    let inv = c.loop-piece.invariant in
    let p = err_from_is_err_and c.from_residual.result c.from_residual.ensures.1 in
    rw (p.1, p.2) (fault-after c.in_err-piece.field-0.0 inv.bytes c.args.intake.now c.loop-piece.intake _ _ _ inv.passed.passes c.in_err-piece.ensures)

pub returns-then-piece-eq0 : goal.returns-then-piece-eq0
returns-then-piece-eq0 g c =
    let inv = c.loop-piece.invariant in
    let all = all_passed inv.bytes c.args.count c.loop-piece.left c.in_ok-piece.piece c.args.intake.now c.loop-piece.intake c.next_piece.new.intake _ _ _ inv.passed
    c.in_ok-piece.ensures c.if-piece-eq0.true in
    (inv.bytes, all.0, all.1, inv.over)

pub loop-piece-preserved : goal.loop-piece-preserved
loop-piece-preserved g c =
    piece_summed c.args.count c.loop-piece.left c.in_ok-piece.piece c.args.crc.now c.loop-piece.crc c.push.new.self c.args.intake.now c.loop-piece.intake
    c.next_piece.new.intake c.pass.new.self _ _ _ c.bytes.result.now c.loop-piece.invariant c.in_ok-piece.ensures c.bytes.ensures.bytes c.push.ensures c.pass.ensures
