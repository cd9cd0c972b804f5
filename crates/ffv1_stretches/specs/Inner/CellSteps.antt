-- What the copies have of a stretch, as the code holds it.
use Rattle.std.specs.Prelude.{ℕ, ◌≡◌, ◌<◌, ◌≤◌, List, [], Option, Some, None, MatchOption, length, map, slice_index_or, take}
use Rattle.std.specs.Borrow.{Bor}
use Rattle.std.specs.List.{zip}
use Rattle.ffv1_mend.specs.Mended.{MendedValue}
use Rattle.ffv1_mend.specs.declared.kind.Kind.TheVariants.{Crc32}
use Rattle.ffv1_stretches.specs.Stretches.{StretchValue}

-- what a reference reaches, if there is one
abbrev pub cell_now : Option (Bor (List ℕ)) → Option (List ℕ)
cell_now None = None
cell_now (Some bytes) = Some bytes.now

-- the room of a copy that has the stretch has so many bytes
abbrev pub HasRoom : ℕ → Option ℕ → List ℕ → Type 0
HasRoom size place room = MatchOption place (Unit {0}) (λ start. size ≤ length room)

-- what lies at the front of a copy's room, if it has the stretch
abbrev pub held_cell : ℕ → Option ℕ → List ℕ → Option (List ℕ)
held_cell size None room = None
held_cell size (Some place) room = Some (take size room)

abbrev pub held_cells : ℕ → List (Option ℕ) → List (List ℕ) → List (Option (List ℕ))
held_cells size places rooms = map (λ pair. held_cell size pair.0 pair.1) (zip places rooms)

-- the copy of this number has the stretch
abbrev pub HasVersion : List (Option (List ℕ)) → ℕ → Type 0
HasVersion cells number = (version : List ℕ) × (slice_index_or cells number None ≡ Some version)

-- a copy that has the stretch has so many bytes of it
abbrev pub IsAsLong : ℕ → Option (List ℕ) → Type 0
IsAsLong size cell = MatchOption cell (Unit {0}) (λ version. length version ≡ size)

-- an element with parts, of which none was looked at
pub record IsUnspliced (stretch : StretchValue) (mended : MendedValue) : Type 0 where
  pub element : stretch.kind ≡ Crc32
  pub parts : 0 < length stretch.parts
  pub none : mended.parts ≡ []
