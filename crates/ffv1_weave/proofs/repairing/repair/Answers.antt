use Rattle.ffv1_weave.proofs.Common.{IsRepairOf, values_of}
use Rattle.ffv1_weave.proofs.Distinct.{lent_same}
use Rattle.ffv1_weave.proofs.RepairLaws.{repair_of_as}
use Rattle.ffv1_weave.proofs.Returned.{returned_as}
use Rattle.ffv1_weave.proofs.repairing.repair.Goals as goal

pub returns : goal.returns
returns c =
    returned_as IsRepairOf repair_of_as (values_of c.as_slice.result.now) (values_of c.args.versions.now)
    (lent_same _ _ _ c.as_slice.ensures.value c.in_ok-distinct.ensures.same) c.repair_distinct.result c.repair_distinct.ensures
