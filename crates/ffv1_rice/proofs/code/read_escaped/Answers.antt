use Rattle.std.proofs.Common.{refl, rules}
use Rattle.ffv1_rice.proofs.Shapes.{large_escape, cut_escape, needless}
use Rattle.ffv1_rice.proofs.code.read_escaped.Goals as goal

pub returns-in_default-clause-err : goal.returns-in_default-clause-err
returns-in_default-clause-err c = cut_escape c.args.depth c.args.k c.args.bits.now.left c.in_default.ensures.none

pub returns-then-number-k-lt-ESCAPE_ZEROS-clause-err : goal.returns-then-number-k-lt-ESCAPE_ZEROS-clause-err
returns-then-number-k-lt-ESCAPE_ZEROS-clause-err c =
    needless c.args.depth c.args.k c.in-Some.low c.args.bits.now.left c.take.new.self.left c.in-Some.ensures.fits c.if-number-k-lt-ESCAPE_ZEROS.true
    c.in-Some.ensures.some.begins

pub returns-then-is_large-clause-err : goal.returns-then-is_large-clause-err
returns-then-is_large-clause-err c =
    large_escape c.args.depth c.args.k c.in-Some.low _ c.args.bits.now.left c.take.new.self.left c.in-Some.ensures.fits refl c.if-number-k-lt-ESCAPE_ZEROS.false
    (c.is_large.ensures.0 (search rules)) c.in-Some.ensures.some.begins
