-- What a command takes from a file and leaves in one.
use Rattle.std.specs.Prelude.{ℕ, ◌≡◌, ◌+◌, ◌<◌, ◌≤◌, List, [], ◌∷◌, ◌++◌, length, Option, IfSome, ◌⊎◌}
use Rattle.std.specs.Io.KnownBytes.{Appends, Keeps}
use Rattle.ffv1_bits.specs.Limits.{payload_limit}
use Rattle.ffv1_devices.specs.Logs.{ReadLog, WriteLog, GivesUp, Reads, Writes, StopsWriting}
pub use Rattle.ffv1_devices.specs.Writing.{WritesFront}
pub use Rattle.ffv1_player.specs.Payloads.{TakesWhole, StopsWithin, GivesUpWithin, IsUnread}
use Rattle.ffv1_holding.specs.declared.fault.HoldFault.TheVariants as holds
use Rattle.ffv1_commands.specs.declared.fault.CliFault.{CliFault}
use Rattle.ffv1_commands.specs.declared.fault.CliFault.TheVariants as faults
use Rattle.ffv1_commands.specs.declared.path.CommandPath.{CommandPath}
use Rattle.ffv1_commands.specs.declared.path.CommandPath.TheVariants as paths

-- The source was given up.
abbrev pub IsGivenUp : ReadLog → ReadLog → Type 0
IsGivenUp old new = GivesUp old.tries new.tries

-- how the file that is this path of the command was not read
abbrev pub FileStops : CommandPath → CliFault → ReadLog → ReadLog → Type 0
FileStops path (faults.Read named) old new = (named ≡ path) × IsUnread old new
FileStops path faults.Memory old new = StopsWithin old new
FileStops path _ old new = ⊥

-- how the copy that is this path of the command was not read: that it is too long is a fault of its own
abbrev pub CopyStops : CommandPath → CliFault → ReadLog → ReadLog → Type 0
CopyStops path (faults.Read named) old new = (named ≡ path) × GivesUpWithin old new
CopyStops path (faults.Hold fault) old new =
    (fault ≡ holds.PayloadTooLong) × ((bytes : List ℕ) × Reads old new bytes × (length bytes ≡ payload_limit + 1))
CopyStops path faults.Memory old new = StopsWithin old new
CopyStops path _ old new = ⊥

-- An input has these bytes, if its bytes are known.
abbrev pub HasBytes : Option (List ℕ) → List ℕ → Type 0
HasBytes input bytes = IfSome input (λ reported. reported ≡ bytes)

-- An input begins with these bytes, if its bytes are known.
abbrev pub InputBegins : Option (List ℕ) → List ℕ → Type 0
InputBegins input bytes = IfSome input (λ reported. (rest : List ℕ) × (reported ≡ bytes ++ rest))

-- An input is read whole as these bytes: it has them, if its bytes are known, and they are not too many.
pub record IsWholeInput (input : Option (List ℕ)) (bytes : List ℕ) : Type 0 where
  pub reported : HasBytes input bytes
  pub few : length bytes ≤ payload_limit

-- Each of the inputs is read whole as its bytes.
abbrev pub AreWholeInputs : List (Option (List ℕ)) → List (List ℕ) → Type 0
AreWholeInputs [] [] = Unit {0}
AreWholeInputs [] (bytes ∷ rest) = ⊥
AreWholeInputs (input ∷ inputs) [] = ⊥
AreWholeInputs (input ∷ inputs) (bytes ∷ rest) = IsWholeInput input bytes × AreWholeInputs inputs rest

-- An input is longer than a payload may be, if its bytes are known.
abbrev pub IsPayloadTooLong : Option (List ℕ) → Type 0
IsPayloadTooLong input = IfSome input (λ bytes. payload_limit < length bytes)

-- the faults of reading the copy that is this path of the command
abbrev pub IsCopyFault : CommandPath → Option (List ℕ) → CliFault → Type 0
IsCopyFault path copy (faults.Read named) = named ≡ path
IsCopyFault path copy (faults.Hold fault) = (fault ≡ holds.PayloadTooLong) × IsPayloadTooLong copy
IsCopyFault path copy faults.Memory = Unit {0}
IsCopyFault path copy _ = ⊥

-- What holds of a fault that comes before anything is written.
abbrev pub UnlessWriting : CliFault → Type 0 → Type 0
UnlessWriting (faults.Write path) P = Unit {0}
UnlessWriting _ P = P

-- Unless writing to this path failed, what is written there is as it was, or some bytes, one at least, were written.
abbrev pub IsWrittenIfTouched : CommandPath → (Kept : Type 0) → (before after : Option (List ℕ)) → CliFault → Type 0
IsWrittenIfTouched path Kept before after fault =
    (fault ≡ faults.Write path) ⊎ Kept ⊎ ((bytes : List ℕ) × (0 < length bytes) × Appends before after bytes)

-- What holds of a fault of the record, which is judged before any other input is read.
abbrev pub IfOfRecord : CliFault → Type 0 → Type 0
IfOfRecord (faults.Read path) P = path ≡ paths.Record → P
IfOfRecord (faults.Setup fault) P = P
IfOfRecord _ P = Unit {0}

-- What a fault of writing the file OUT and then printing a text left in them: a front of the file, or the whole file and a front of the
-- text.
abbrev pub WriteStops : (file text : List ℕ) (file_before file_after text_before text_after : Option (List ℕ)) → CliFault → Type 0
WriteStops file text file_before file_after text_before text_after (faults.Write named) =
    ((named ≡ paths.Out) × WritesFront file_before file_after file × Keeps text_before text_after)
    ⊎ ((named ≡ paths.StandardOutput) × Appends file_before file_after file × WritesFront text_before text_after text)
WriteStops file text file_before file_after text_before text_after _ = ⊥

-- ---- what is written, over the logs of the devices

-- how the file OUT and then a text were not written whole: a front of the file was, or the file and a front of the text
abbrev pub BothStop : CliFault → (file text : List ℕ) → (out_old out_new output_old output_new : WriteLog) → Type 0
BothStop (faults.Write path) file text out_old out_new output_old output_new =
    ((path ≡ paths.Out) × StopsWriting out_old out_new file × (output_new ≡ output_old))
    ⊎ ((path ≡ paths.StandardOutput) × Writes out_old out_new file × StopsWriting output_old output_new text)
BothStop _ file text out_old out_new output_old output_new = ⊥

-- both outputs are as they were
abbrev pub BothKept : (out_old out_new output_old output_new : WriteLog) → Type 0
BothKept out_old out_new output_old output_new = (out_new ≡ out_old) × (output_new ≡ output_old)
