-- The lines of some planes in coded order, and the bits that spell them (RFC 9043, section 4.7). The planes stand one
-- after the other, or by rows: a row of each plane, and then the next row of each.
use Rattle.std.specs.Prelude.{◌≡◌, ℕ, zero, suc, ◌==◌, Bool, List, [], ◌∷◌, ◌++◌, ℤ, if◌then◌else◌}
use Rattle.ffv1_plane.specs.Samples.{Plane}
use Rattle.ffv1_plane.specs.Spelling.{residuals_of, values_after, RowSpells}

-- a row of a plane
pub record Line : Type 0 where
  pub plane : ℕ
  pub row : ℕ

abbrev pub line_at : ℕ → ℕ → Line
line_at plane row = record { plane = plane; row = row }

-- ---- coded orders

-- the first count rows of a plane
unfoldable pub lines_of_plane : ℕ → ℕ → List Line
lines_of_plane plane zero = []
lines_of_plane plane (suc count) = lines_of_plane plane count ++ line_at plane count ∷ []

-- the rows of the first count planes, one plane after the other
unfoldable pub plane_after_plane : (ℕ → ℕ) → ℕ → List Line
plane_after_plane height zero = []
plane_after_plane height (suc count) = plane_after_plane height count ++ lines_of_plane count (height count)

-- one row of each of the first count planes
unfoldable pub lines_of_row : ℕ → ℕ → List Line
lines_of_row row zero = []
lines_of_row row (suc count) = lines_of_row row count ++ line_at count row ∷ []

-- the first height rows of as many planes, each row in all planes before the next
unfoldable pub row_after_row : ℕ → ℕ → List Line
row_after_row count zero = []
row_after_row count (suc height) = row_after_row count height ++ lines_of_row height count

-- ---- the bits of lines

-- Planes that are coded together. Those of one group share adaptive states. The run index starts anew at some lines, and
-- goes on at the others.
pub record CodedPlanes : Type 0 where
  pub plane : ℕ → Plane
  pub group : ℕ → ℕ
  pub is_anew : Line → Bool

-- the run index at which a line begins, after others that leave it at a number
abbrev pub first_index : CodedPlanes → ℕ → Line → ℕ
first_index c index line = if c.is_anew line then 0 else index

-- The values that were coded in each group with each context, where a line is coded after others ..
unfoldable pub values_after_line : CodedPlanes → (ℕ → ℕ → List ℤ) → Line → (ℕ → ℕ → List ℤ)
values_after_line c values line group =
    if group == c.group line.plane then values_after (values group) (residuals_of (c.plane line.plane) line.row) else values group

-- .. and where some lines are.
unfoldable pub values_after_lines : CodedPlanes → (ℕ → ℕ → List ℤ) → List Line → (ℕ → ℕ → List ℤ)
values_after_lines c values [] = values
values_after_lines c values (line ∷ lines) = values_after_lines c (values_after_line c values line) lines

-- the bits of lines, after the values that were coded in each group, and from a run index to another
unfoldable pub LinesSpell : CodedPlanes → (ℕ → ℕ → List ℤ) → ℕ → List Line → List Bool → ℕ → Type 0
LinesSpell c values index [] bits next = (bits ≡ []) × (next ≡ index)
LinesSpell c values index (line ∷ lines) bits next =
    (front : List Bool) × (back : List Bool) × (between : ℕ) × (bits ≡ front ++ back)
    × RowSpells (values (c.group line.plane)) (residuals_of (c.plane line.plane) line.row) (first_index c index line) front between
    × LinesSpell c (values_after_line c values line) between lines back next
