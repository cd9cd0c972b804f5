-- Files by their paths, each opened when it is first used.
use Rattle.std.specs.Prelude.{ℕ, ◌≡◌, List, ⊤}
use Rattle.ffv1_files.specs.declared.files.Input.{Input}
use Rattle.ffv1_files.specs.declared.files.Output.{Output}
use Rattle.ffv1_files.specs.declared.paths.PathToOpen.{PathToOpen}
use Rattle.ffv1_files.specs.declared.paths.Way.TheVariants.{ToRead, ToMake}
use Rattle.ffv1_files.specs.declared.once.Once.TheVariants.{Unopened, Open, Closed}

-- The file that is read is the one at this path, and is not opened yet.
abbrev pub IsUnopenedAt : {R File : Type 0} → Input (PathToOpen R) File → List ℕ → Type 0
IsUnopenedAt input path = elim input.file [ Unopened opener ↦ (opener.way ≡ ToRead) × (opener.path.now ≡ path) | Open _ ↦ ⊥ | Closed ↦ ⊥ ]

-- The file that is read was opened.
abbrev pub IsFileOpened : {R File : Type 0} → Input (PathToOpen R) File → Type 0
IsFileOpened input = elim input.file [ Unopened _ ↦ ⊥ | Open _ ↦ ⊤ | Closed ↦ ⊤ ]

-- The file that is made is the one at this path, and is not made yet.
abbrev pub IsUnmadeAt : {R File : Type 0} → Output (PathToOpen R) File → List ℕ → Type 0
IsUnmadeAt output path = elim output.file [ Unopened opener ↦ (opener.way ≡ ToMake) × (opener.path.now ≡ path) | Open _ ↦ ⊥ | Closed ↦ ⊥ ]

-- The file is made.
abbrev pub IsFileMade : {R File : Type 0} → Output (PathToOpen R) File → Type 0
IsFileMade output = elim output.file [ Unopened _ ↦ ⊥ | Open _ ↦ ⊤ | Closed ↦ ⊤ ]
