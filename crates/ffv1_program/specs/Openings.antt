-- Files of std that are opened before they are read.
use Rattle.std.specs.Prelude.{ℕ, List, Result, Ok, Err}
use Rattle.std.specs.declared.io.Error.{Error}
use Rattle.ffv1_files.specs.declared.files.Input.{Input}
use Rattle.ffv1_files.specs.declared.files.Output.{Output}
use Rattle.ffv1_files.specs.declared.paths.PathToOpen.{PathToOpen}
use Rattle.ffv1_files.specs.Files.{IsUnopenedAt, IsFileOpened}
use Rattle.ffv1_files.specs.Once.{OpensOnce}

-- The opening of a file at this path, which was not opened yet, came to this one, which is open.
abbrev pub OpensAt : {R File : Type 0} → (opens : PathToOpen R → Result File Error → Type 0) → List ℕ → Input (PathToOpen R) File → Type 0
OpensAt {R} {File} opens path opened =
    (file : Input (PathToOpen R) File) × IsUnopenedAt file path × OpensOnce {E = Error} opens file.file (Ok tt) opened.file × IsFileOpened opened

-- It came to some error, and left the file as it was.
abbrev pub FailsToOpenAt : {R File : Type 0} → (opens : PathToOpen R → Result File Error → Type 0) → List ℕ → Type 0
FailsToOpenAt {R} {File} opens path =
    (file : Input (PathToOpen R) File) × (error : Error) × IsUnopenedAt file path × OpensOnce opens file.file (Err error) file.file

-- The file that is made was not opened before, and its opening came to some error, which left it so.
abbrev pub FailsToMake : {R File : Type 0} → (opens : PathToOpen R → Result File Error → Type 0) → Output (PathToOpen R) File → Type 0
FailsToMake opens output = (error : Error) × OpensOnce opens output.file (Err error) output.file
