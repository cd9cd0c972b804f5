use Rattle.std.proofs.Common.{rules}
use Rattle.ffv1_rice.proofs.Shapes.{shifted_low, short_suffix, large_short, cut_short}
use Rattle.ffv1_rice.proofs.code.read_short.Goals as goal

pub returns-in_default-clause-err : goal.returns-in_default-clause-err
returns-in_default-clause-err c = cut_short c.args.depth c.args.k c.args.zeros c.args.bits.now.left c.requires.zeros c.in_default.ensures.none

pub returns-then-is_large-clause-err : goal.returns-then-is_large-clause-err
returns-then-is_large-clause-err c =
    large_short c.args.depth c.args.k c.args.zeros c.in-Some.low _ c.args.bits.now.left c.take.new.self.left c.requires.zeros c.in-Some.ensures.fits
    (shifted_low c.args.k c.args.zeros c.in-Some.low c.requires.zeros c.requires.parameter) (c.is_large.ensures.0 (search rules)) c.in-Some.ensures.some.begins

pub returns-clause-suffix : goal.returns-clause-suffix
returns-clause-suffix c =
    rw (
      shifted_low c.args.k c.args.zeros c.in-Some.low c.requires.zeros c.requires.parameter,
      short_suffix c.args.k c.args.zeros c.in-Some.low
          c.in-Some.ensures.fits,
    )
    c.in-Some.ensures.some
