use Rattle.std.proofs.Common.{sym, subst, ◌++◌, List}
use Rattle.matroska_parts.specs.declared.parts.Part.{Part}
use Rattle.matroska_parts.specs.declared.parts.Crc32.{Crc32}
use Rattle.matroska_parts.specs.Openings.{passes}
use Rattle.ffv1_check.specs.Inner.Stands.{ReporterStands}
use Rattle.matroska_parts.specs.Inner.Vouched.{vouched_if}
use Rattle.ffv1_check.proofs.ClusterSteps.{vouched_not}
use Rattle.ffv1_check.proofs.clusters.vouch_if.Goals as goal

pub returns-in-Passes : goal.returns-in-Passes
returns-in-Passes c = λ tracks before own stands waits_for.
    subst (λ (k : Crc32). ReporterStands tracks (before ++ vouched_if (passes k) own) c.vouch.new.self) (sym c.in-Passes.is) (c.vouch.ensures tracks before own stands waits_for)

pub returns-in_default : goal.returns-in_default
returns-in_default c = λ tracks before own stands waits_for.
    subst (λ (l : List Part). ReporterStands tracks (before ++ l) c.args.reporter.now) (sym (vouched_not c.args.crc32 own c.in_default.not-Passes)) stands
