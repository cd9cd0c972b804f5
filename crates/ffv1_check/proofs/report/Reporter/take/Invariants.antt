use Rattle.std.proofs.Common.{ℕ, ◌≡◌, List, ◌++◌, take}
use Rattle.matroska_parts.specs.declared.parts.Part.{Part}
use Rattle.ffv1_check.proofs.ReporterSteps.{StandsOn}
use Rattle.ffv1_check.proofs.report.Reporter.take.Given as goal

abbrev pub invariant-loop-part : goal.invariant-loop-part
invariant-loop-part l = record {
  on : (tracks : ℕ) (before : List Part) → StandsOn tracks before l.initial.self → StandsOn tracks (before ++ take l.part-index l.parts) l.self;
  taken : l.self.taken ≡ l.initial.self.taken;
}
