-- What a fault that comes before anything is written says: which path it names, and that the outputs are as they were.
use Rattle.std.proofs.Common.{◌≡◌, ℕ, List, Option, IfSome, refl, sym, subst}
use Rattle.ffv1_holding.specs.declared.recordings.Recordings.{Recordings}
use Rattle.ffv1_hold.specs.FileFaults.{IsFaultOf}
use Rattle.ffv1_hold.specs.declared.file_fault.HoldFileFault.{HoldFileFault}
use Rattle.ffv1_commands.specs.Devices.{UnlessWriting}
use Rattle.ffv1_commands.specs.Holdings.{IsHoldingFault}
use Rattle.ffv1_commands.specs.declared.fault.CliFault.{CliFault}
use Rattle.ffv1_commands.specs.declared.fault.CliFault.TheVariants as faults
use Rattle.ffv1_commands.specs.declared.path.CommandPath.{CommandPath}

-- The fault comes before anything is written.
abbrev pub IsUnwritten : CliFault → Type 0
IsUnwritten (faults.Write path) = ⊥
IsUnwritten fault = Unit {0}

UnlessWriting-unwritten : (P : Type 0) (fault : CliFault) → IsUnwritten fault → P → UnlessWriting fault P
UnlessWriting-unwritten P (faults.Write path) none same = tt
UnlessWriting-unwritten P fault none same = same

-- the outputs are as they were
pub untouched_one : {W : Type 0} (output : W) (fault : CliFault) → IsUnwritten fault → UnlessWriting fault (output ≡ output)
untouched_one output fault none = UnlessWriting-unwritten (output ≡ output) fault none refl

pub kept_both : {O W : Type 0} (out : O) (output : W) → (out ≡ out) × (output ≡ output)
kept_both out output = (refl, refl)

pub untouched_both : {O W : Type 0} (out : O) (output : W) (fault : CliFault) → IsUnwritten fault
    → UnlessWriting fault ((out ≡ out) × (output ≡ output))
untouched_both out output fault none = UnlessWriting-unwritten ((out ≡ out) × (output ≡ output)) fault none (kept_both out output)

-- ---- what any fault of a holding file says, if that of each form says so

module _ (recordings : Recordings) (P : CliFault → Type 0) where
  pub IsHoldingFault-says : (path : CommandPath) (input : Option (List ℕ)) (fault : CliFault) → P (faults.Read path) → P faults.Memory
      → ((file : HoldFileFault) → IfSome input (λ bytes. IsFaultOf recordings bytes file) → P (faults.HoldFile file)) → IsHoldingFault recordings path input fault → P fault
  IsHoldingFault-says path input (faults.Read named) read memory file is = subst (λ n. P (faults.Read n)) (sym is) read
  IsHoldingFault-says path input (faults.HoldFile fault) read memory file is = file fault is
  IsHoldingFault-says path input faults.Memory read memory file is = memory
  IsHoldingFault-says path input fault read memory file is = absurd is
