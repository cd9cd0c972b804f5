-- The slices of a frame and those of the frame before.
use Rattle.std.proofs.Common.{ℕ, ◌<◌, ◌≤◌, List, length, get_or, sym, ap, ◌∙◌, subst, arith, ⊎_elim}
use Rattle.std.specs.Option.{option_map}
use Rattle.std.proofs.lemmas.Bool.{cases_lt}
use Rattle.std.proofs.lemmas.List.{get_or-map}
use Rattle.std.proofs.lemmas.Option.{slice_get-map, slice_get-get_or, slice_get_within}
use Rattle.ffv1_range.specs.Setup.{RecordingValue}
use Rattle.ffv1_range.specs.declared.head.SliceHeader.{SliceHeader}
use Rattle.ffv1_layout.specs.Layout.{headers_of, no_header}
use Rattle.ffv1_layout.specs.declared.layout.PlacedSlice.{PlacedSlice}
use Rattle.ffv1_player.specs.Frames.{LeftValue, SliceGoesOn, HasEqual}
use Rattle.ffv1_player.specs.Players.{left_value, left_values}
use Rattle.ffv1_player.specs.declared.before.LeftSlice.{LeftSlice}

-- a slice that goes on from that of its number has an equal
pub has_equal : (r : RecordingValue) (placed : List PlacedSlice) (before : List LeftSlice) (place : ℕ) (d : PlacedSlice) (b : LeftSlice)
    → place < length placed → place < length before → SliceGoesOn r (get_or placed place d).header (get_or before place b).header
    → HasEqual r (headers_of placed) (left_values before) place
has_equal r placed before place d b less inside goes = (
  left_value (get_or before place b),
  slice_get-map left_value before place ∙ ap (option_map left_value) (slice_get-get_or before place b inside),
  subst (λ header. SliceGoesOn r header (get_or before place b).header) (sym (get_or-map (λ slice. slice.header) placed place d no_header less)) goes,
)

-- where each slice has an equal the frame before has as many
pub as_many : (r : RecordingValue) (headers : List SliceHeader) (before : List LeftValue)
    → ((place : ℕ) → place < length headers → HasEqual r headers before place) → length headers ≤ length before
as_many r headers before each = ⊎_elim
    (λ fewer. let equal = each (length before) fewer in absurd (omega (arith, slice_get_within before (length before) equal.0 equal.1)))
    (λ enough. enough)
    (cases_lt (length before) (length headers))
