use Rattle.ffv1_commands.specs.Devices.{IsUnread}
use Rattle.ffv1_commands.proofs.Sources.{kept_unread}
use Rattle.ffv1_commands.proofs.splice.splice_of.Goals as goal

pub returns : goal.returns
returns g c = record {
  reported = c.splice_by.ensures.reported;
  unread = kept_unread g.C.Source.log IsUnread c.splice_by.result _ _ c.splice_by.ensures.unread;
  untouched = c.splice_by.ensures.untouched;
}
