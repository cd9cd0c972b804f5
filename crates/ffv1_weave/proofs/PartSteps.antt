-- Parts as they are found, from the front on.
use Rattle.ffv1_weave.proofs.Common.{◌≡◌, ℕ, ◌*◌, ◌/◌, ◌<◌, ◌≤◌, List, [], ◌∷◌, ◌++◌, length, refl, arith, le-div_iff_mul-le, mul_comm, mul_assoc, mul-lt-mul_of_pos_left, cases_lt, Part, AreChoicesBy, ArePartsFrom, IsPartFrom, parts_end, count_of, Split}

-- ---- one part more

pub parts_end_push : (from : ℕ) (parts : List Part) (part : Part) → parts_end from (parts ++ part ∷ []) ≡ part.end
parts_end_push from [] part = refl
parts_end_push from (other ∷ parts) part = parts_end_push other.end parts part

module _ (split : Split) (versions : List (List ℕ)) where
  pub parts_push : (from : ℕ) (parts : List Part) (part : Part) → ArePartsFrom split versions from parts
      → IsPartFrom split versions (parts_end from parts) part.start part.end → AreChoicesBy split versions part.start part.end part.choices
      → ArePartsFrom split versions from (parts ++ part ∷ [])
  parts_push from [] part are next choices = (next, choices, tt)
  parts_push from (other ∷ parts) part are next choices = (are.0, are.1, parts_push other.end parts part are.2 next choices)

-- ---- how many combinations

pub count_push : (parts : List Part) (part : Part) → count_of (parts ++ part ∷ []) ≡ count_of parts * length part.choices
count_push [] part = omega arith
count_push (other ∷ parts) part = grind (arith, mul_assoc, count_push parts part)

pub count_over : (count many most : ℕ) → 0 < count → most / count < many → most < count * many
count_over count many most some over = grind (arith, le-div_iff_mul-le, mul_comm, cases_lt)

pub count_fits : (count many most : ℕ) → 0 < count → many ≤ most / count → count * many ≤ most
count_fits count many most some low = grind (arith, le-div_iff_mul-le, mul_comm)

pub count_positive : (count many : ℕ) → 0 < count → 0 < many → 0 < count * many
count_positive count many some more = omega (arith, mul-lt-mul_of_pos_left {m = 0} {n = many} {k = count} more some)
