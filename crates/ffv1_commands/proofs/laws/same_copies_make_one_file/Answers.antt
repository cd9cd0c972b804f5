use Rattle.ffv1_commands.proofs.CommandLaws.{made_of_copies, same_copies_make_one_holding, same_copies_make_one_file, same_copies_make_one_report}
use Rattle.ffv1_commands.proofs.laws.same_copies_make_one_file.Goals as goal

pub returns : goal.returns
returns c = record {
  made = made_of_copies;
  file = same_copies_make_one_file;
  holding = same_copies_make_one_holding;
  report = same_copies_make_one_report;
}
