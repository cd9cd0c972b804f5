use Rattle.std.proofs.Common.{subst}
use Rattle.ebml_reader.specs.Inner.Settled.{BeginsItem}
use Rattle.ebml_reader.proofs.Ends.{no_top}
use Rattle.ebml_reader.proofs.Given.{kept_item}
use Rattle.ebml_reader.proofs.settled.settle.Goals as goal

pub pass_unknown-requires-clause-none : goal.pass_unknown-requires-clause-none
pass_unknown-requires-clause-none g c =
    no_top c.args.intake.now (subst (λ k. BeginsItem k c.args.intake.now.bytes) c.in-Unknown.is c.requires.begins) c.requires.seen

pub returns : goal.returns
returns g c = kept_item c.args.kind c.in_ok-kept.kept c.args.intake.now c.item_end.new.intake _ _ c.in_default.not-Unknown c.in_ok-kept.ensures
