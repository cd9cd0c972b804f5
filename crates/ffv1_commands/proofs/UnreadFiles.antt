-- What a file that was not read says, by the log of its source.
use Rattle.std.proofs.Common.{sym, subst}
use Rattle.ffv1_devices.specs.Logs.{ReadLog}
use Rattle.ffv1_commands.specs.Devices.{IsUnread, StopsWithin, FileStops}
use Rattle.ffv1_commands.specs.declared.fault.CliFault.{CliFault}
use Rattle.ffv1_commands.specs.declared.fault.CliFault.TheVariants as faults
use Rattle.ffv1_commands.specs.declared.path.CommandPath.{CommandPath}

module _ (P : CliFault → Type 0) (path : CommandPath) (a b : ReadLog) where
  -- any fact of a path that was not read, and of Memory
  pub file_says : (IsUnread a b → P (faults.Read path)) → (StopsWithin a b → P faults.Memory) → (f : CliFault) → FileStops path f a b → P f
  file_says unread memory (faults.Read named) stops = subst (λ (p : CommandPath). P (faults.Read p)) (sym stops.0) (unread stops.1)
  file_says unread memory faults.Memory stops = memory stops
  file_says unread memory fault stops = absurd stops
