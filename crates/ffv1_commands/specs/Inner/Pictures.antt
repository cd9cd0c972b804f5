-- What stops a command that shows a holding file once it has what to show.
use Rattle.std.specs.Prelude.{ℕ, List}
use Rattle.ffv1_devices.specs.Logs.{WriteLog}
use Rattle.ffv1_commands.specs.Devices.{BothStop, BothKept}
use Rattle.ffv1_commands.specs.declared.fault.CliFault.{CliFault}
use Rattle.ffv1_commands.specs.declared.fault.CliFault.TheVariants as faults

-- Memory, or writing.
abbrev pub WritingStops : (samples lines : List ℕ) → (out_old out_new output_old output_new : WriteLog) → CliFault → Type 0
WritingStops samples lines out_old out_new output_old output_new faults.Memory = BothKept out_old out_new output_old output_new
WritingStops samples lines out_old out_new output_old output_new fault = BothStop fault samples lines out_old out_new output_old output_new
