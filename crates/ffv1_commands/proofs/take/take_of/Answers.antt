use Rattle.ffv1_commands.specs.Devices.{GivesUpWithin}
use Rattle.ffv1_commands.proofs.Sources.{kept_unread}
use Rattle.ffv1_commands.proofs.take.take_of.Goals as goal

pub returns : goal.returns
returns g c = record {
  reported = c.take_by.ensures.reported;
  unread = kept_unread g.C.Source.log GivesUpWithin c.take_by.result _ _ c.take_by.ensures.unread;
  untouched = c.take_by.ensures.untouched;
}
