-- The bits of the rows of one plane, whose run index starts anew at its first row.
use Rattle.std.specs.Prelude.{◌≡◌, ℕ, zero, suc, Bool, List, [], ◌++◌, ℤ}
use Rattle.ffv1_plane.specs.Samples.{Plane}
use Rattle.ffv1_plane.specs.Spelling.{residuals_of, values_after, RowSpells}

-- the values that the first count rows leave after earlier ones
unfoldable pub values_after_rows : (ℕ → List ℤ) → Plane → ℕ → (ℕ → List ℤ)
values_after_rows earlier p zero = earlier
values_after_rows earlier p (suc count) = values_after (values_after_rows earlier p count) (residuals_of p count)

-- the bits of the first count rows, up to a run index
unfoldable pub RowsSpell : (ℕ → List ℤ) → Plane → ℕ → List Bool → ℕ → Type 0
RowsSpell earlier p zero bits next = (bits ≡ []) × (next ≡ 0)
RowsSpell earlier p (suc count) bits next =
    (front : List Bool) × (back : List Bool) × (index : ℕ)
    × (bits ≡ front ++ back) × RowsSpell earlier p count front index × RowSpells (values_after_rows earlier p count) (residuals_of p count) index back next

-- the bits of a plane of a height
abbrev pub PlaneSpells : (ℕ → List ℤ) → Plane → ℕ → List Bool → Type 0
PlaneSpells earlier p height bits = (last : ℕ) × RowsSpell earlier p height bits last
