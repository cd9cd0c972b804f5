-- What `restore` makes of a file that commands made of copies, by some function that gives contents their tiles (own): of a record and a
-- size it is one function, whatever the copies. What a command does stands in the contract of its function, and need not be read for this.
use Rattle.std.specs.Prelude.{ℕ, List, Option, Some}
use Rattle.std.specs.Io.KnownBytes.{Appends}
use Rattle.ffv1_holding.specs.Small.{TileOf, IsRestoredFrom}
use Rattle.ffv1_holding.specs.declared.recordings.Recordings.{Recordings}
use Rattle.ffv1_commands.specs.Commands.{IsMadeOf, IsNoFaultOfBytes}
use Rattle.ffv1_commands.specs.RestoreText.{RestoresFile, RestoreStops}
use Rattle.ffv1_commands.specs.declared.fault.CliFault.{CliFault}

-- What `restore` writes of the file is what is restored from the copies: where it returns Ok, it wrote that and nothing else, and where a
-- payload is restored from them and it is refused, an input was not read, an output not written, or memory ran out.
pub record RestoresBy (tile_of : TileOf) (tiles : ℕ) (copies : List (List ℕ)) (recordings : Recordings) (file : List ℕ) : Type 0 where
  pub written : (out_before out_after printed_before printed_after : Option (List ℕ))
      → RestoresFile recordings (Some file) out_before out_after printed_before printed_after
      → (payload : List ℕ) × IsRestoredFrom tile_of tiles copies payload × Appends out_before out_after payload
  pub refused : (out_before out_after printed_before printed_after : Option (List ℕ)) (fault : CliFault)
      → RestoreStops recordings (Some file) out_before out_after printed_before printed_after fault
      → (payload : List ℕ) → IsRestoredFrom tile_of tiles copies payload → IsNoFaultOfBytes fault

-- ---- laws

-- A record and a size have one such function and one number of tiles, for whatever copies and whatever tree of commands.
abbrev pub CommandsRestoreByAFunction : Type 0
CommandsRestoreByAFunction =
    (recordings : Recordings) (config : List ℕ) (width height : ℕ) → (tile_of : TileOf) × (tiles : ℕ)
    × ((copies : List (List ℕ)) (file : List ℕ) → IsMadeOf recordings config width height copies file
    → RestoresBy tile_of tiles copies recordings file)
