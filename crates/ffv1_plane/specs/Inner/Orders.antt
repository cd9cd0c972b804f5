-- The lines that are left of a coded order (RFC 9043, section 4.7), by turns: of RGB a turn is a row of each plane, of other pictures all rows of a plane.
use Rattle.std.specs.Prelude.{ℕ, zero, suc, ◌-◌, Bool, List, [], ◌∷◌, ◌++◌, length, if◌then◌else◌}
use Rattle.ffv1_plane.specs.Lines.{Line, line_at}
use Rattle.ffv1_plane.specs.RangeSlices.{height_at}
use Rattle.ffv1_plane.specs.declared.planes.PlaneSize.{PlaneSize}
use Rattle.ffv1_plane.specs.declared.coded_order.PlaneRow.{PlaneRow}
use Rattle.ffv1_plane.specs.declared.coded_order.CodedOrder.{CodedOrder}

abbrev pub line_of : PlaneRow → Line
line_of line = line_at line.plane line.row

-- so many of some lists from one on, joined
unfoldable pub lists_from : (ℕ → List Line) → ℕ → ℕ → List Line
lists_from g n zero = []
lists_from g n (suc count) = g n ++ lists_from g (suc n) count

abbrev pub turn_count : Bool → List PlaneSize → ℕ
turn_count is_rgb sizes = if is_rgb then height_at sizes 0 else length sizes

abbrev pub turn_length : Bool → List PlaneSize → ℕ → ℕ
turn_length is_rgb sizes turn = if is_rgb then length sizes else height_at sizes turn

abbrev pub turn_line : Bool → ℕ → ℕ → Line
turn_line is_rgb turn n = if is_rgb then line_at n turn else line_at turn n

-- so many lines of a turn from one on
abbrev pub turn_from : Bool → ℕ → ℕ → ℕ → List Line
turn_from is_rgb turn n count = lists_from (λ n. turn_line is_rgb turn n ∷ []) n count

abbrev pub turn_of : Bool → List PlaneSize → ℕ → List Line
turn_of is_rgb sizes turn = turn_from is_rgb turn 0 (turn_length is_rgb sizes turn)

-- the lines of so many turns from one on, without the first few lines of that one
unfoldable pub turns_from : Bool → List PlaneSize → ℕ → ℕ → ℕ → List Line
turns_from is_rgb sizes turn within zero = []
turns_from is_rgb sizes turn within (suc count) =
    turn_from is_rgb turn within (turn_length is_rgb sizes turn - within) ++ lists_from (turn_of is_rgb sizes) (suc turn) count

abbrev pub lines_left : CodedOrder → List Line
lines_left o = turns_from o.is_rgb o.sizes.now o.turn o.within (turn_count o.is_rgb o.sizes.now - o.turn)
