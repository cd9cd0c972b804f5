use Rattle.ebml_reader.proofs.Ends.{cluster_ends}
use Rattle.ebml_reader.proofs.clusters.cluster_end.Goals as goal

pub returns : goal.returns
returns g c = cluster_ends c.args.head.now c.args.intake.now c.children_end.new.intake _ _ c.in_ok-end.end c.requires c.in_ok-end.ensures
