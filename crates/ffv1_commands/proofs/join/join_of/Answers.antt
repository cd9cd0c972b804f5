use Rattle.ffv1_commands.proofs.HeldSources.{kept_unheld}
use Rattle.ffv1_commands.proofs.join.join_of.Goals as goal

pub returns : goal.returns
returns g c = record {
  reported = c.join_by.ensures.reported;
  unread = kept_unheld c.args.recordings g.R.Source.log c.join_by.result _ _ c.join_by.ensures.unread;
  untouched = c.join_by.ensures.untouched;
}
