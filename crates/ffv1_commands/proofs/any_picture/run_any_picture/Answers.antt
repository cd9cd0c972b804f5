use Rattle.std.proofs.Common.{rules}
use Rattle.ffv1_commands.proofs.PictureSteps.{any_picture_of_bytes}
use Rattle.ffv1_commands.proofs.Wrapped.{both_through}
use Rattle.ffv1_commands.proofs.any_picture.run_any_picture.Goals as goal

pub returns : goal.returns
returns g c =
    let bytes = any_picture_of_bytes _ _ _ _ _ _ c.any_picture_of.result c.any_picture_of.ensures.reported in
    let kept = both_through c.any_picture_of.result _ _ _ _ _ _ c.new.ensures.writer c.new-2.ensures.writer c.any_picture_of.ensures.untouched in
    record { ok = search (rules, bytes.ok); err = search (rules, bytes.err); untouched = search (rules, kept); names = bytes.names }
