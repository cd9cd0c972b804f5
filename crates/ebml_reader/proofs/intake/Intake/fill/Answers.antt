use Rattle.std.proofs.Common.{[]}
use Rattle.std.proofs.lemmas.Result.{err_from_is_err_and}
use Rattle.ebml_reader.proofs.Steps.{less_left, has_by, fault-after, more_taken, passes-trans}
use Rattle.ebml_reader.proofs.intake.Intake.fill.Goals as goal

pub loop-self-smaller : goal.loop-self-smaller
loop-self-smaller g c =
    less_left c.loop-self.self.ended c.read_piece.new.self.ended c.loop-self.self.taken c.read_piece.new.self.taken
    (c.lacks.ensures.lacks.0 c.loop-self-test.true).0 c.lacks.ensures.bounded.limit (more_taken _ _ _ _ _ c.in_ok-read_piece.ensures.0) c.in_ok-read_piece.ensures.1

pub returns-in_err-read_piece : goal.returns-in_err-read_piece
returns-in_err-read_piece g c =
    let p = err_from_is_err_and c.from_residual.result c.from_residual.ensures.1 in
    rw (p.1, p.2) (fault-after c.in_err-read_piece.field-0.0 [] c.args.self.now c.loop-self.self _ _ _ c.loop-self.invariant c.in_err-read_piece.ensures)

pub returns : goal.returns
returns g c =
    (c.loop-self.invariant, has_by c.loop-self.self.ended c.lacks.result _ c.args.size c.loop-self-test.false c.lacks.ensures.lacks, c.lacks.ensures.bounded)

pub loop-self-preserved : goal.loop-self-preserved
loop-self-preserved g c = passes-trans [] [] c.args.self.now c.loop-self.self c.read_piece.new.self _ _ _ c.loop-self.invariant c.in_ok-read_piece.ensures.0
