-- What a fault that says that a file was not written rests on, by its path.
use Rattle.ffv1_commands.specs.declared.fault.CliFault.{CliFault}
use Rattle.ffv1_commands.specs.declared.fault.CliFault.TheVariants as faults
use Rattle.ffv1_commands.specs.declared.path.CommandPath.{CommandPath}
use Rattle.ffv1_commands.specs.declared.path.CommandPath.TheVariants as paths

-- What holds of the path of a file that was not written.
abbrev pub IfUnwritten : (CommandPath → Type 0) → CliFault → Type 0
IfUnwritten P (faults.Write path) = P path
IfUnwritten P _ = Unit {0}

-- What holds of OUT, or of standard output, and of no other path.
abbrev pub OfOutputs : (Out Printed : Type 0) → CommandPath → Type 0
OfOutputs Out Printed paths.Out = Out
OfOutputs Out Printed paths.StandardOutput = Printed
OfOutputs Out Printed _ = ⊥
