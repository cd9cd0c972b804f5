-- The coded planes of a slice of coder_type 0, and the bits that spell them (RFC 9043, sections 3.8.2 and 4.7).
use Rattle.std.specs.Prelude.{◌≡◌, ℕ, ◌^◌, ◌<◌, ◌==◌, ◌&&◌, ◌||◌, not, Bool, List, [], ◌∷◌, ◌++◌, length, get_or, slice_index_or, ℤ}
use Rattle.ffv1_rice.specs.States.{ContextState}
use Rattle.ffv1_rice.specs.declared.code.CodeFault.{CodeFault}
use Rattle.ffv1_plane.specs.Spelling.{residuals_of}
use Rattle.ffv1_plane.specs.Lines.{Line, line_at, CodedPlanes, first_index, values_after_lines, LinesSpell}
use Rattle.ffv1_plane.specs.Progress.{AreStatesAfter}
use Rattle.ffv1_plane.specs.Stuck.{IsWordRefused}
use Rattle.ffv1_plane.specs.RangeSlices.{SliceShape, size_at, coded_depth_of, group_at, slice_plane, coded_lines, ArePlanesOfSizes}

-- The run index starts anew at the first row of each plane. In RGB it does so at the slice's first line alone: from there it goes on from
-- a line to the next line coded, of another plane.
abbrev pub is_anew_at : Bool → Line → Bool
is_anew_at is_rgb line = (line.row == 0) && (not is_rgb || (line.plane == 0))

-- These samples as the planes of a slice, as they are coded together. Predictions are of numbers without a sign, at 16 bits too: the exception
-- of section 3.3 is one of range coding.
abbrev pub slice_planes : SliceShape → List (List ℕ) → CodedPlanes
slice_planes shape planes =
    record { plane = λ p. (slice_plane shape planes p).plane; group = group_at shape; is_anew = is_anew_at shape.recording.is_rgb }

-- the values that the planes leave in each group with each context, after earlier ones
abbrev pub values_after_planes : SliceShape → List (List ℕ) → (ℕ → ℕ → List ℤ) → (ℕ → ℕ → List ℤ)
values_after_planes shape planes values = values_after_lines (slice_planes shape planes) values (coded_lines shape)

-- The states of each group are what earlier values of n bits have left.
abbrev pub AreGroupsAfter : ℕ → (ℕ → ℕ → List ℤ) → (ℕ → List ContextState) → Type 0
AreGroupsAfter n values states = (group : ℕ) → group < 3 → AreStatesAfter n (values group) (states group)

-- Bits begin with those of the planes, after the values that were coded in each group before, and then the rest.
pub record ArePlanesSpelled (shape : SliceShape) (values : ℕ → ℕ → List ℤ) (bits : List Bool) (planes : List (List ℕ)) (rest : List Bool) : Type 0 where
  pub sizes : ArePlanesOfSizes (coded_depth_of shape.recording) shape.sizes planes
  pub words : List Bool
  pub begins : bits ≡ words ++ rest
  pub last : ℕ
  pub spells : LinesSpell (slice_planes shape planes) values 0 (coded_lines shape) words last

-- ---- where the planes can't be read on

-- Bits are stuck at a sample: for some samples of the planes, which have the bits of the depth, they begin with the lines before its line, then with
-- the words of the line that start before it, and then no word of it can be read, for this fault.
pub record AreCodesStuck (shape : SliceShape) (values : ℕ → ℕ → List ℤ) (bits : List Bool) (fault : CodeFault) (plane row x : ℕ) : Type 0 where
  pub planes : List (List ℕ)
  pub small : (p : ℕ) → p < length shape.sizes → (s : ℕ) → get_or (slice_index_or planes p []) s 0 < 2 ^ coded_depth_of shape.recording
  pub done : List Line
  pub later : List Line
  pub order : coded_lines shape ≡ done ++ line_at plane row ∷ later
  pub inside : x < (size_at shape.sizes plane).width
  pub whole : List Bool
  pub index : ℕ
  pub spells : LinesSpell (slice_planes shape planes) values 0 done whole index
  pub part : List Bool
  pub others : List Bool
  pub begins : bits ≡ whole ++ (part ++ others)
  pub refused :
      IsWordRefused (values_after_lines (slice_planes shape planes) values done (group_at shape plane)) (residuals_of (slice_plane shape planes plane).plane row)
      (first_index (slice_planes shape planes) index (line_at plane row)) x part others fault
