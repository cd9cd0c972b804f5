-- What an output that was not written says, by its path of the command.
use Rattle.std.proofs.Common.{ℕ, List, Result, Ok, Err, IfErr, sym, subst}
use Rattle.ffv1_devices.specs.Logs.{WriteLog}
use Rattle.ffv1_commands.specs.Devices.{UnlessWriting}
use Rattle.ffv1_commands.specs.Inner.Devices.{WritesNamed}
use Rattle.ffv1_commands.specs.declared.fault.CliFault.{CliFault}
use Rattle.ffv1_commands.specs.declared.path.CommandPath.{CommandPath}

-- a fault of writing says nothing of what is untouched
pub named-untouched : {T : Type 0} (path : CommandPath) (P : Type 0) (a b : WriteLog) (bytes : List ℕ) (r : Result T CliFault)
    → WritesNamed path r a b bytes → IfErr r (λ fault. UnlessWriting fault P)
named-untouched path P a b bytes (Ok x) wrote = tt
named-untouched path P a b bytes (Err fault) (is, stopped) = subst (λ f. UnlessWriting f P) (sym is) tt
