-- How far a row and a plane are read: what holds of every plane that begins with the samples so far.
use Rattle.std.specs.Prelude.{◌≡◌, ℕ, ◌+◌, ◌-◌, ◌*◌, ◌/◌, ◌%◌, ◌<◌, ◌≤◌, ◌⊎◌, Bool, false, true, List, [], ◌∷◌, ◌++◌, length, get_or, set, ℤ, nat_abs}
use Rattle.ffv1_rice.specs.States.{ContextState, start_state, after_value}
use Rattle.ffv1_rice.specs.Codes.{SpellsValue, decoded_value, IsCodedDifference}
use Rattle.ffv1_rice.specs.Runs.{SpellsRun}
use Rattle.ffv1_plane.specs.Stuck.{SpellsFront}
use Rattle.ffv1_plane.specs.Samples.{Plane, plane_of, context_at, difference_at, Coding}
use Rattle.ffv1_plane.specs.Spelling.{Residuals, residuals_of, state_before, follows_skipped, SamplesSpell, is_zero}
use Rattle.ffv1_plane.specs.Progress.{AreStatesAfter}
use Rattle.ffv1_plane.specs.Inner.PlaneRows.{values_after_rows, RowsSpell}

-- The place at this column and row comes before sample s in scan order: in a row above that of s, or beside it.
abbrev pub IsBefore : ℕ → ℕ → ℕ → ℕ → Type 0
IsBefore width s column row = (row ≤ s / width + 1) ⊎ ((row ≡ s / width + 2) × (column ≤ s % width + 1))

-- ---- what was read

-- the samples are old ones and some after them
abbrev pub IsContinued : List ℕ → List ℕ → Type 0
IsContinued old new = (later : List ℕ) × (new ≡ old ++ later)

-- where a row begins: its number, the values that were coded before it with each context, and the run index
pub record RowStart : Type 0 where
  pub row : ℕ
  pub earlier : ℕ → List ℤ
  pub first : ℕ

-- the samples of the row before column x are spelled by what stands before left, and no run is to go on in the row
pub record Progress (start : RowStart) (r : Residuals) (x : ℕ) (bits : List Bool) (index : ℕ) (left : List Bool) : Type 0 where
  pub front : List Bool
  pub begins : bits ≡ front ++ left
  pub spells : SamplesSpell start.earlier r start.first x front index
  pub fresh : x < r.width → follows_skipped r x ≡ false

-- The first x samples of a row are read from bits, up to left. The samples are those of the rows above it, and these.
pub record IsReadTo (start : RowStart) (width : ℕ) (coding : Coding) (bits : List Bool) (samples : List ℕ) (x index : ℕ) (states : List ContextState)
    (left : List Bool) : Type 0 where
  pub place : length samples ≡ start.row * width + x
  pub progress : (more : List ℕ) → Progress start (residuals_of (plane_of width coding (samples ++ more)) start.row) x bits index left
  pub states_are : (more : List ℕ) (k : ℕ) → k < length states → get_or states k start_state ≡ state_before start.earlier
      (residuals_of (plane_of width coding (samples ++ more)) start.row) k x

-- a whole run of n samples, in a line with left samples to come
pub record IsRunRead (left index : ℕ) (bits : List Bool) (n next : ℕ) (rest : List Bool) : Type 0 where
  pub run : List Bool
  pub spelled : SpellsRun n left index run next
  pub begins : bits ≡ run ++ rest
  pub fits : n ≤ left

-- Some words of a run are read, which are first words of a run: whatever completes it from here completes it from its start.
pub record IsRunBegun (left index : ℕ) (bits : List Bool) (done next : ℕ) (rest : List Bool) : Type 0 where
  pub words : List Bool
  pub begins : bits ≡ words ++ rest
  pub fits : done ≤ left
  pub front : SpellsFront done index words next
  pub completes : (m last : ℕ) (others : List Bool) → SpellsRun m (left - done) next others last → SpellsRun (done + m) left index (words ++ others) last

-- The next sample is read by one code. All is said of every plane that begins with the samples and this one.
pub record IsSampleRead (width : ℕ) (coding : Coding) (level : Bool) (old : List ℕ) (states : List ContextState) (bits : List Bool) (new : List ℕ)
    (after : List ContextState) (rest : List Bool) : Type 0 where
  pub sample : ℕ
  pub difference : ℤ
  pub context : ℕ
  pub pushed : new ≡ old ++ sample ∷ []
  pub is_context : (more : List ℕ) → nat_abs (context_at (plane_of width coding (new ++ more)) (length old)) ≡ context
  pub is_difference : (more : List ℕ) → difference_at (plane_of width coding (new ++ more)) (length old) ≡ difference
  pub given : IsCodedDifference coding.depth level difference
  pub below : context < length states
  pub code : List Bool
  pub spells : SpellsValue coding.depth (get_or states context start_state) (decoded_value level difference) code
  pub begins : bits ≡ code ++ rest
  pub stepped : after ≡ set states context (after_value coding.depth (get_or states context start_state) (decoded_value level difference))

-- The next n samples are skipped.
pub record AreSkipped (width : ℕ) (coding : Coding) (old new : List ℕ) (n : ℕ) : Type 0 where
  pub samples : List ℕ
  pub pushed : new ≡ old ++ samples
  pub count : length samples ≡ n
  pub zero_differences : (more : List ℕ) (j : ℕ) → j < n → is_zero (difference_at (plane_of width coding (new ++ more)) (length old + j)) ≡ true

-- ---- whole planes

-- The first rows of a plane are spelled by what stands before left, and the states are what their values leave.
pub record AreRowsRead (earlier : ℕ → List ℤ) (p : Plane) (rows : ℕ) (bits : List Bool) (index : ℕ) (states : List ContextState) (left : List Bool)
    : Type 0 where
  pub front : List Bool
  pub begins : bits ≡ front ++ left
  pub spells : RowsSpell earlier p rows front index
  pub states_are : AreStatesAfter p.coding.depth (values_after_rows earlier p rows) states

-- A plane was read, and the states are what its values leave after earlier ones.
abbrev pub IsPlaneRead : ℕ → ℕ → Coding → List ContextState → List Bool → List ℕ → List ContextState → List Bool → Type 0
IsPlaneRead width height coding states bits samples after rest =
    (earlier : ℕ → List ℤ) → AreStatesAfter coding.depth earlier states
    → (last : ℕ) × AreRowsRead earlier (plane_of width coding samples) height bits last after rest
