-- How far a row of Golomb-Rice codes of a plane is read, and how its reading halts.
use Rattle.std.specs.Prelude.{◌≡◌, ℕ, ◌*◌, ◌^◌, ◌<◌, Bool, List, ◌++◌, length, get_or, ℤ}
use Rattle.ffv1_rice.specs.States.{ContextState}
use Rattle.ffv1_rice.specs.declared.code.CodeFault.{CodeFault}
use Rattle.ffv1_plane.specs.Samples.{Coding, plane_of}
use Rattle.ffv1_plane.specs.Spelling.{Residuals, residuals_of, values_after, RowSpells}
use Rattle.ffv1_plane.specs.Progress.{AreStatesAfter}
use Rattle.ffv1_plane.specs.Inner.Halts.{IsHalted}
use Rattle.ffv1_plane.specs.declared.rice_rows.RowCodes.{RowCodes}
use Rattle.ffv1_plane.specs.declared.rice_rows.RowCodesFault.{RowCodesFault}
use Rattle.ffv1_plane.specs.declared.rice_rows.RowCodesFault.TheVariants as row_faults

-- where a row of a plane begins: the samples before it, the run index, the states of its group, and the bits that are left
pub record RowPlace : Type 0 where
  pub samples : List ℕ
  pub index : ℕ
  pub states : List ContextState
  pub left : List Bool

abbrev pub row_place : RowCodes → List ContextState → List ℕ → RowPlace
row_place codes states samples = record { samples = samples; index = codes.index; states = states; left = codes.bits.left }

-- Bits begin with those of a row, after earlier values, from a place to another.
pub record IsRowFirst (n : ℕ) (earlier : ℕ → List ℤ) (r : Residuals) (a b : RowPlace) : Type 0 where
  pub front : List Bool
  pub begins : a.left ≡ front ++ b.left
  pub spells : RowSpells earlier r a.index front b.index
  pub states_are : AreStatesAfter n (values_after earlier r) b.states

-- Row y was read, which begins after some samples. All is said of every plane that begins with the samples so far.
pub record IsCodeRowRead (width : ℕ) (coding : Coding) (a b : RowPlace) : Type 0 where
  pub row : List ℕ
  pub pushed : b.samples ≡ a.samples ++ row
  pub count : length row ≡ width
  pub same_states : length b.states ≡ length a.states
  pub spelled : (y : ℕ) (earlier : ℕ → List ℤ) → length a.samples ≡ y * width → AreStatesAfter coding.depth earlier a.states → (more : List ℕ)
      → IsRowFirst coding.depth earlier (residuals_of (plane_of width coding (b.samples ++ more)) y) a b

-- No word of a sample of the row can be read.
pub record IsCodeRowRefused (width : ℕ) (coding : Coding) (a : RowPlace) (fault : CodeFault) (x : ℕ) : Type 0 where
  pub inside : x < width
  pub samples : List ℕ
  pub small : (s : ℕ) → get_or samples s 0 < 2 ^ coding.depth
  pub row : List ℕ
  pub pushed : samples ≡ a.samples ++ row
  pub halted : (y : ℕ) (earlier : ℕ → List ℤ) → length a.samples ≡ y * width → AreStatesAfter coding.depth earlier a.states → (more : List ℕ)
      → IsHalted earlier (residuals_of (plane_of width coding (samples ++ more)) y) a.index a.left fault x

-- Why a row was not read: a sample of it is refused, or memory.
abbrev pub IsRowCodesFaultOf : ℕ → Coding → RowPlace → RowCodesFault → Type 0
IsRowCodesFaultOf width coding a (row_faults.Sample fault x) = IsCodeRowRefused width coding a fault x
IsRowCodesFaultOf width coding a row_faults.Memory = Unit {0}
