-- What holds of the bytes of a file, by how it was read.
use Rattle.std.proofs.Common.{◌<◌, ℕ, List, length, Option, None, Some, IfSome, refl, ap, arith, length-append}
use Rattle.std.specs.Io.KnownBytes.{Consumes}
use Rattle.ffv1_holding.specs.declared.recordings.Recordings.{Recordings}
use Rattle.ffv1_devices.specs.Logs.{ReadLog}
use Rattle.ffv1_hold.specs.Reading.{Refuses}
use Rattle.ffv1_hold.specs.FileFaults.{IsPartOfFile, FileIsWhole, FileShows, IsOutside, IsFaultOf}
use Rattle.ffv1_hold.specs.declared.file_fault.HoldFileFault.{HoldFileFault}
use Rattle.ffv1_hold.specs.declared.file_fault.HoldFileFault.TheVariants as files
use Rattle.ffv1_commands.specs.Inner.Devices.{ReadsWhole}
use Rattle.ffv1_commands.specs.Devices.{TakesWhole}
use Rattle.ffv1_commands.specs.Fault.{of_hold_file}
use Rattle.ffv1_commands.specs.Holdings.{IsHoldingFault}
use Rattle.ffv1_commands.specs.declared.path.CommandPath.{CommandPath}

-- an input of which more than so many bytes were taken is longer
pub Consumes-longer : (a b : Option (List ℕ)) (bytes : List ℕ) (limit : ℕ) → Consumes a b bytes → limit < length bytes → IfSome a (λ all. limit < length all)
Consumes-longer None b bytes limit taken more = tt
Consumes-longer (Some all) None bytes limit taken more = absurd taken
Consumes-longer (Some all) (Some rest) bytes limit taken more = omega (arith, ap length taken, length-append bytes rest, more)

-- a file that was read to its end, by its bytes
pub whole_of : (a b : ReadLog) (bytes : List ℕ) → TakesWhole a b bytes → ReadsWhole a.remaining b.remaining bytes
whole_of a b bytes took = record { taken = took.read.bytes'; end = took.end; few = took.few }

-- ---- holding files

shows : (recordings : Recordings) (input left : Option (List ℕ)) (f : HoldFileFault) → (¬ IsOutside f) → Refuses (IsPartOfFile recordings) (FileIsWhole recordings) (FileShows recordings) input left 0 f
    → IfSome input (λ bytes. IsFaultOf recordings bytes f)
shows recordings None left f inside refuses = tt
shows recordings (Some bytes) left f inside refuses = (inside, (left, refuses))

-- why a holding file was not read, as a fault of the command
pub hold_refused : (recordings : Recordings) (path : CommandPath) (input left : Option (List ℕ)) (f : HoldFileFault) → Refuses (IsPartOfFile recordings) (FileIsWhole recordings) (FileShows recordings) input left 0 f
    → IsHoldingFault recordings path input (of_hold_file path f)
hold_refused recordings path input left files.Read refuses = refl
hold_refused recordings path input left files.Memory refuses = tt
hold_refused recordings path input left files.Write refuses = absurd refuses
hold_refused recordings path input left files.OtherReel refuses = absurd refuses
hold_refused recordings path input left fault refuses = shows _ input left fault (λ out. out) refuses
