-- Why `splice`, `mend` and `samples` stopped, which make their file where nothing was written to it.
use Rattle.std.specs.Prelude.{ℕ, ◌≡◌, ◌⊎◌, Bool, List, [], map, Option}
use Rattle.std.specs.List.{Contains}
use Rattle.std.specs.Borrow.{Bor}
use Rattle.ffv1_commands.specs.SpliceText.{SplicesCopies, SpliceStops}
use Rattle.ffv1_commands.specs.MendText.{MendsFiles, MendStops}
use Rattle.ffv1_commands.specs.SamplesText.{PlaysFiles, SamplesStops}
use Rattle.ffv1_commands.specs.declared.fault.CliFault.{CliFault}
use Rattle.ffv1_commands.specs.declared.fault.CliFault.TheVariants as faults
use Rattle.ffv1_commands.specs.declared.path.CommandPath.TheVariants as paths

-- All was done, whatever it returned, but for making the file, which failed.
abbrev pub IsUnmade : (Failed : Type 0) → (Bool → Type 0) → CliFault → Type 0
IsUnmade Failed Done fault = (fault ≡ faults.Write paths.Out) × Failed × ((returned : Bool) × Done returned)

-- Why copies were not spliced: there is none; or splicing them stopped; or all was done, but the file was not made.
abbrev pub StopsSplicing : (failed : Type 0) → List (Option (List ℕ)) → (out_before out_after printed_before printed_after : Option (List ℕ)) → CliFault → Type 0
StopsSplicing failed copies out_before out_after printed_before printed_after fault =
    ((copies ≡ []) × (fault ≡ faults.Words)) ⊎ SpliceStops copies out_before out_after printed_before printed_after fault
    ⊎ IsUnmade failed (SplicesCopies copies out_before out_after printed_before printed_after) fault

-- Why a file was not mended: it is refused, as it is one of the inputs; or mending it stopped; or all was done, but the file was not made.
abbrev pub StopsMendingFiles : (refused failed : Type 0) → (list : Option (List ℕ)) → List (Option (List ℕ))
    → (out_before out_after printed_before printed_after : Option (List ℕ)) → CliFault → Type 0
StopsMendingFiles refused failed list copies out_before out_after printed_before printed_after fault =
    (refused × (fault ≡ faults.Write paths.Out)) ⊎ MendStops list copies out_before out_after printed_before printed_after fault
    ⊎ IsUnmade failed (MendsFiles list copies out_before out_after printed_before printed_after) fault

-- Why frames were not played: the file is refused, as it is one of the inputs; or there is no frame; or playing them stopped; or all was done,
-- but the file was not made.
abbrev pub StopsPlayingFiles : (refused failed : Type 0) → (record' : Option (List ℕ)) → (width height : ℕ) → List (Option (List ℕ))
    → (out_before out_after printed_before printed_after : Option (List ℕ)) → CliFault → Type 0
StopsPlayingFiles refused failed record' width height frames out_before out_after printed_before printed_after fault =
    (refused × (fault ≡ faults.Write paths.Out)) ⊎ ((frames ≡ []) × (fault ≡ faults.Words))
    ⊎ SamplesStops record' width height frames out_before out_after printed_before printed_after fault
    ⊎ IsUnmade failed (PlaysFiles record' width height frames out_before out_after printed_before printed_after) fault

-- The word of the file that is made is that of the list or record, or of a copy or frame.
abbrev pub IsInput : (out first : List ℕ) (others : List (Bor (List ℕ))) → Type 0
IsInput out first others = (out ≡ first) ⊎ Contains (map (λ other. other.now) others) out
