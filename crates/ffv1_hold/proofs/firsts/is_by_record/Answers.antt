use Rattle.ffv1_hold.proofs.Common.{sym, ap, ◌∙◌}
use Rattle.std.specs.Result.{is_ok}
use Rattle.ffv1_hold.proofs.FirstSlices.{ok_is}
use Rattle.ffv1_hold.proofs.firsts.is_by_record.Goals as goal

pub returns-clause-slice : goal.returns-clause-slice
returns-clause-slice c = (
  λ found. ok_is _ c.args.slice.now c.read_slice.result (sym c.is_ok.ensures.value ∙ found) c.read_slice.ensures.found,
  λ is. c.is_ok.ensures.value ∙ ap is_ok (c.read_slice.ensures.only 0 is),
)
