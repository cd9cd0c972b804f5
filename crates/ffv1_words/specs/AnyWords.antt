-- The word `--any`, by which a command of holdings takes any recording.
use Rattle.std.specs.Prelude.{◌≡◌, ◌⊎◌, List, ◌∷◌, codes}
use Rattle.clap.specs.Words.{Text}
use Rattle.ffv1_holding.specs.declared.recordings.Recordings.{Recordings}
use Rattle.ffv1_holding.specs.declared.recordings.Recordings.TheVariants.{Profile, Any}

-- A command of this name makes or reads holding files.
abbrev pub IsOfHoldingFiles : Text → Type 0
IsOfHoldingFiles name =
    (name ≡ codes "take") ⊎ (name ≡ codes "join") ⊎ (name ≡ codes "merge") ⊎ (name ≡ codes "report") ⊎ (name ≡ codes "restore") ⊎ (name ≡ codes "picture")

-- The words, the first of which is the program's own name, have `--any` just after such a command, and these others besides.
abbrev pub HaveAnyWord : List Text → List Text → Type 0
HaveAnyWord (program ∷ command ∷ word ∷ arguments) others =
    IsOfHoldingFiles command × (word ≡ codes "--any") × (others ≡ program ∷ command ∷ arguments)
HaveAnyWord _ others = ⊥

-- What the words say of the recordings, and what is left of them: `--any` says any and is taken out, and without it all words are left.
abbrev pub SayRecordings : List Text → List Text → Recordings → Type 0
SayRecordings words left Any = HaveAnyWord words left
SayRecordings words left Profile = (left ≡ words) × ((others : List Text) → ¬ HaveAnyWord words others)
