-- A slice of RGB that is stuck in its first rows is stuck in all of them.
use Rattle.std.proofs.Common.{◌≡◌, ℕ, zero, suc, ◌+◌, ◌*◌, ◌<◌, ◌≤◌, Bool, true, List, [], ◌∷◌, ◌++◌, length, sym, ap, ◌∙◌, subst, arith, append_assoc, ℤ, append-nil, ◌⊎◌, inl, inr}
use Rattle.std.specs.Prelude.{Err, slice_index, slice_index_or}
use Rattle.std.proofs.lemmas.Bool.{cases_eq}
use Rattle.std.proofs.lemmas.List.{length-map}
use Rattle.ffv1_range.specs.Coding.{Mode, Coder}
use Rattle.ffv1_range.specs.Rows.{Rows, IsRowsRun}
use Rattle.ffv1_range.specs.Setup.{RecordingValue, set_entry}
use Rattle.ffv1_plane.specs.Lines.{Line, line_at, lines_of_row, row_after_row, CodedPlanes, first_index, values_after_lines, LinesSpell}
use Rattle.ffv1_plane.specs.RangeRows.{RangePlane, columns_bits, difference_form}
use Rattle.ffv1_plane.specs.RangeLines.{lines_bits}
use Rattle.ffv1_plane.specs.RangeSlices.{slice_shape, size_at, height_at, lines_of, coded_lines, coded_depth_of, slice_plane, context_row, place_at, IsSampleStuck, AreLinesStuck, group_at, are_signed}
use Rattle.ffv1_plane.specs.Samples.{plane_of, coding_at}
use Rattle.ffv1_plane.specs.Spelling.{residuals_of}
use Rattle.ffv1_plane.specs.Stuck.{IsWordRefused}
use Rattle.ffv1_plane.specs.RiceSlices.{is_anew_at, slice_planes, AreCodesStuck}
use Rattle.ffv1_rice.specs.declared.code.CodeFault.{CodeFault}
use Rattle.ffv1_plane.specs.declared.planes.PlaneSize.{PlaneSize}
use Rattle.ffv1_plane.specs.declared.range_rows.DifferenceFault.{DifferenceFault}
use Rattle.ffv1_plane.specs.FirstRows.{rows_to}
use Rattle.ffv1_plane.proofs.SameRows.{AreRowsBelow, all_rows_are_below, row_in_middle}
use Rattle.ffv1_samples.proofs.PlaneSizes.{rows_size, rows_width}

-- ---- rows of lines

lines_are : (r : RecordingValue) (sets : List ℕ) (sizes : List PlaneSize) → r.is_rgb ≡ true
    → coded_lines (slice_shape r sets sizes) ≡ row_after_row (length sizes) (height_at sizes 0)
lines_are r sets sizes is = ap (λ b. lines_of b sizes) is

-- the row at which RGB is stuck is one of the slice's
pub row_inside : (r : RecordingValue) (sets : List ℕ) (sizes : List PlaneSize) (mode : Mode) (start : Coder) (before : ℕ → List (List ℕ)) (fault : DifferenceFault)
    (plane y x : ℕ) → r.is_rgb ≡ true → AreLinesStuck mode (slice_shape r sets sizes) start before fault plane y x → y < height_at sizes 0
row_inside r sets sizes mode start before fault plane y x is h =
    row_in_middle (height_at sizes 0) h.done h.later (line_at plane y)
    (subst (AreRowsBelow (height_at sizes 0)) (sym (lines_are r sets sizes is) ∙ h.order) (all_rows_are_below (length sizes) (height_at sizes 0)))

pub codes_row_inside : (r : RecordingValue) (sets : List ℕ) (sizes : List PlaneSize) (values : ℕ → ℕ → List ℤ) (bits : List Bool) (fault : CodeFault)
    (plane y x : ℕ) → r.is_rgb ≡ true → AreCodesStuck (slice_shape r sets sizes) values bits fault plane y x → y < height_at sizes 0
codes_row_inside r sets sizes values bits fault plane y x is h =
    row_in_middle (height_at sizes 0) h.done h.later (line_at plane y)
    (subst (AreRowsBelow (height_at sizes 0)) (sym (lines_are r sets sizes is) ∙ h.order) (all_rows_are_below (length sizes) (height_at sizes 0)))

-- ---- parts of lines

-- each line is of a row from a number on
data AreRowsFrom (n : ℕ) : List Line → Type 0 where
  no_line : AreRowsFrom n []
  line_then : {line : Line} {lines : List Line} → n ≤ line.row → AreRowsFrom n lines → AreRowsFrom n (line ∷ lines)

from_both : (n : ℕ) (xs ys : List Line) → AreRowsFrom n xs → AreRowsFrom n ys → AreRowsFrom n (xs ++ ys)
from_both n [] ys no_line k = k
from_both n (line ∷ xs) ys (line_then most h) k = line_then most (from_both n xs ys h k)

from_middle : (n : ℕ) (xs ys : List Line) (line : Line) → AreRowsFrom n (xs ++ (line ∷ ys)) → n ≤ line.row
from_middle n [] ys line (line_then most h) = most
from_middle n (x ∷ xs) ys line (line_then most h) = from_middle n xs ys line h

row_from : (n row count : ℕ) → n ≤ row → AreRowsFrom n (lines_of_row row count)
unfolding lines_of_row
row_from n row zero most = no_line
row_from n row (suc count) most = from_both n (lines_of_row row count) (line_at count row ∷ []) (row_from n row count most) (line_then most no_line)

-- the rows from a number on
record AreLaterRows (count n height : ℕ) : Type 0 where
  more : List Line
  whole : row_after_row count height ≡ row_after_row count n ++ more
  from : AreRowsFrom n more

later_rows : (count n height : ℕ) → n ≤ height → AreLaterRows count n height
unfolding row_after_row
later_rows count n zero few =
    let none : n ≡ 0 = omega (arith, few) in
    record { more = []; whole = ap (row_after_row count) (sym none) ∙ sym (append-nil (row_after_row count n)); from = no_line }
later_rows count n (suc height) few = elim (cases_eq n (suc height)) [
  | inl same ↦ record { more = []; whole = ap (row_after_row count) (sym same) ∙ sym (append-nil (row_after_row count n)); from = no_line }
  | inr apart ↦
      let less : n ≤ height = omega (arith, few, apart) in
      let before = later_rows count n height less in
      record {
        more = before.more ++ lines_of_row height count;
        whole =
            ap (λ l. l ++ lines_of_row height count) before.whole ∙ append_assoc (row_after_row count n) before.more (lines_of_row height count);
        from = from_both n before.more (lines_of_row height count) before.from (row_from n height count less);
      }
]

-- a line of a list that is parted lies in its first part, or after it
parted : (xs ys us vs : List Line) (line : Line) → xs ++ ys ≡ us ++ (line ∷ vs)
    → ((rest : List Line) × (xs ≡ us ++ (line ∷ rest))) ⊎ ((rest : List Line) × (ys ≡ rest ++ (line ∷ vs)))
parted [] ys us vs line same = inr (us, same)
parted (x ∷ xs) ys [] vs line same = inl (xs, (let e : x ≡ line = cc in ap (λ z. z ∷ xs) e))
parted (x ∷ xs) ys (u ∷ us) vs line same =
    let first : x ≡ u = cc in
    let rest : xs ++ ys ≡ us ++ (line ∷ vs) = cc in
    elim (parted xs ys us vs line rest) [
      | inl found ↦ inl (found.0, ap (λ l. x ∷ l) found.1 ∙ ap (λ z. z ∷ (us ++ (line ∷ found.0))) first)
      | inr found ↦ inr found
    ]

-- ---- planes of other heights

module _ (r : RecordingValue) (sets : List ℕ) (sizes others : List PlaneSize) (count : length sizes ≡ length others)
    (widths : (p : ℕ) → (size_at sizes p).width ≡ (size_at others p).width) where
  plane_with_width : List (List ℕ) → ℕ → ℕ → RangePlane
  plane_with_width planes p width =
      record {
        plane = plane_of width (coding_at (coded_depth_of r) (set_entry r.setup (slice_index sets (group_at (slice_shape r sets sizes) p)))) (slice_index_or planes p []);
        group = group_at (slice_shape r sets sizes) p;
        is_signed = are_signed r;
      }

  plane_same : (planes : List (List ℕ)) (p : ℕ) → slice_plane (slice_shape r sets sizes) planes p ≡ slice_plane (slice_shape r sets others) planes p
  unfolding plane_with_width
  plane_same planes p = ap (plane_with_width planes p) (widths p)

  planes_same : (planes : List (List ℕ)) → slice_plane (slice_shape r sets sizes) planes ≡ slice_plane (slice_shape r sets others) planes
  planes_same planes = λ i p. plane_same planes p i

  sample_stuck : (mode : Mode) (planes : List (List ℕ)) (lines : List Line) (plane row x : ℕ) (start : Coder) (states : Rows) (fault : DifferenceFault)
      → IsSampleStuck mode (slice_shape r sets sizes) planes lines plane row x start states fault
      → IsSampleStuck mode (slice_shape r sets others) planes lines plane row x start states fault
  sample_stuck mode planes lines plane row x start states fault h = record {
    line_start = h.line_start;
    lines_run =
        subst (λ (g : ℕ → RangePlane). IsRowsRun mode (place_at start states) (lines_bits g lines) h.line_start) (planes_same planes) h.lines_run;
    here = h.here;
    columns_run = subst (λ (g : ℕ → RangePlane). IsRowsRun mode h.line_start (columns_bits (g plane) row x) h.here) (planes_same planes) h.columns_run;
    refused =
        subst (λ (g : ℕ → RangePlane). difference_form (coded_depth_of r) mode
        (record { coder = h.here.coder; states = h.here.states (context_row (g plane) (row * (size_at others plane).width + x)) }) ≡ Err fault) (planes_same planes)
        (subst (λ w. difference_form (coded_depth_of r) mode (record {
          coder = h.here.coder;
          states = h.here.states (context_row (slice_plane (slice_shape r sets sizes) planes plane) (row * w + x));
        }) ≡ Err fault) (widths plane) h.refused);
  }

  pub lines_stuck : (mode : Mode) (start : Coder) (before : ℕ → List (List ℕ)) (fault : DifferenceFault) (plane y x : ℕ)
      (h : AreLinesStuck mode (slice_shape r sets sizes) start before fault plane y x) (later : List Line)
      → coded_lines (slice_shape r sets others) ≡ h.done ++ (line_at plane y ∷ later) → AreLinesStuck mode (slice_shape r sets others) start before fault plane y x
  lines_stuck mode start before fault plane y x h later order = record {
    planes = h.planes;
    small = λ p less. h.small p (omega (arith, less, count));
    done = h.done;
    later = later;
    order = order;
    inside = subst (λ w. x < w) (widths plane) h.inside;
    stuck = λ states has. sample_stuck mode h.planes h.done plane y x start states fault (h.stuck states has);
  }

  -- the same of Golomb-Rice codes
  codes_same : (planes : List (List ℕ)) → slice_planes (slice_shape r sets sizes) planes ≡ slice_planes (slice_shape r sets others) planes
  codes_same planes =
      ap (λ (g : ℕ → RangePlane). record { plane = λ p. (g p).plane; group = group_at (slice_shape r sets sizes); is_anew = is_anew_at r.is_rgb }) (planes_same planes)

  pub codes_stuck : (values : ℕ → ℕ → List ℤ) (bits : List Bool) (fault : CodeFault) (plane y x : ℕ)
      (h : AreCodesStuck (slice_shape r sets sizes) values bits fault plane y x) (later : List Line)
      → coded_lines (slice_shape r sets others) ≡ h.done ++ (line_at plane y ∷ later) → AreCodesStuck (slice_shape r sets others) values bits fault plane y x
  codes_stuck values bits fault plane y x h later order = record {
    planes = h.planes;
    small = λ p less. h.small p (omega (arith, less, count));
    done = h.done;
    later = later;
    order = order;
    inside = subst (λ w. x < w) (widths plane) h.inside;
    whole = h.whole;
    index = h.index;
    spells = subst (λ (c : CodedPlanes). LinesSpell c values 0 h.done h.whole h.index) (codes_same h.planes) h.spells;
    part = h.part;
    others = h.others;
    begins = h.begins;
    refused =
        subst (λ (c : CodedPlanes). IsWordRefused (values_after_lines c values h.done (group_at (slice_shape r sets sizes) plane))
        (residuals_of (c.plane plane) y) (first_index c h.index (line_at plane y)) x h.part h.others fault) (codes_same h.planes) h.refused;
  }

-- ---- the first rows

module _ (r : RecordingValue) (sets : List ℕ) (sizes : List PlaneSize) (rows : ℕ) (is : r.is_rgb ≡ true) (some : 1 ≤ length sizes) (few : rows ≤ height_at sizes 0) where
  count_same : length (rows_to rows sizes) ≡ length sizes
  count_same = length-map sizes (λ size. record { width = size.width; height = rows })

  pub rows_height : height_at (rows_to rows sizes) 0 ≡ rows
  rows_height = ap (λ (size : PlaneSize). size.height) (rows_size rows sizes 0 (omega (arith, some)))

  short : coded_lines (slice_shape r sets (rows_to rows sizes)) ≡ row_after_row (length sizes) rows
  short =
      lines_are r sets (rows_to rows sizes) is ∙ ap (λ n. row_after_row n (height_at (rows_to rows sizes) 0)) count_same
      ∙ ap (row_after_row (length sizes)) rows_height

  -- lines of the first rows go on in all rows
  longer : (done later : List Line) (line : Line) → coded_lines (slice_shape r sets (rows_to rows sizes)) ≡ done ++ (line ∷ later)
      → (rest : List Line) × (coded_lines (slice_shape r sets sizes) ≡ done ++ (line ∷ rest))
  longer done later line order =
      let whole = later_rows (length sizes) rows (height_at sizes 0) few in (
        later ++ whole.more,
        lines_are r sets sizes is ∙ whole.whole ∙ ap (λ (l : List Line). l ++ whole.more) (sym short ∙ order) ∙ append_assoc done (line ∷ later) whole.more,
      )

  -- and a line of one of the first rows stands in these
  shorter : (done later : List Line) (line : Line) → line.row < rows → coded_lines (slice_shape r sets sizes) ≡ done ++ (line ∷ later)
      → (rest : List Line) × (coded_lines (slice_shape r sets (rows_to rows sizes)) ≡ done ++ (line ∷ rest))
  shorter done later line less order =
      let whole = later_rows (length sizes) rows (height_at sizes 0) few in
      elim (parted (row_after_row (length sizes) rows) whole.more done later line (sym whole.whole ∙ sym (lines_are r sets sizes is) ∙ order)) [
        | inl found ↦ (found.0, short ∙ found.1)
        | inr found ↦
            let past : rows ≤ line.row = from_middle rows found.0 later line (subst (AreRowsFrom rows) found.1 whole.from) in
            absurd (omega (arith, past, less))
      ]

  pub stuck_in_all : (mode : Mode) (start : Coder) (before : ℕ → List (List ℕ)) (fault : DifferenceFault) (plane y x : ℕ)
      → AreLinesStuck mode (slice_shape r sets (rows_to rows sizes)) start before fault plane y x
      → AreLinesStuck mode (slice_shape r sets sizes) start before fault plane y x × (y < rows)
  stuck_in_all mode start before fault plane y x h =
      let order = longer h.done h.later (line_at plane y) h.order in (
        lines_stuck r sets (rows_to rows sizes) sizes count_same (rows_width rows sizes) mode start before fault plane y x h order.0 order.1,
        subst (λ n. y < n) rows_height (row_inside r sets (rows_to rows sizes) mode start before fault plane y x is h),
      )

  pub stuck_in_first : (mode : Mode) (start : Coder) (before : ℕ → List (List ℕ)) (fault : DifferenceFault) (plane y x : ℕ) → y < rows
      → AreLinesStuck mode (slice_shape r sets sizes) start before fault plane y x
      → AreLinesStuck mode (slice_shape r sets (rows_to rows sizes)) start before fault plane y x
  stuck_in_first mode start before fault plane y x less h =
      let order = shorter h.done h.later (line_at plane y) less h.order in
      lines_stuck r sets sizes (rows_to rows sizes) (sym count_same) (λ p. sym (rows_width rows sizes p)) mode start before fault plane y x h order.0 order.1

  pub codes_in_all : (values : ℕ → ℕ → List ℤ) (bits : List Bool) (fault : CodeFault) (plane y x : ℕ)
      → AreCodesStuck (slice_shape r sets (rows_to rows sizes)) values bits fault plane y x
      → AreCodesStuck (slice_shape r sets sizes) values bits fault plane y x × (y < rows)
  codes_in_all values bits fault plane y x h =
      let order = longer h.done h.later (line_at plane y) h.order in (
        codes_stuck r sets (rows_to rows sizes) sizes count_same (rows_width rows sizes) values bits fault plane y x h order.0 order.1,
        subst (λ n. y < n) rows_height (codes_row_inside r sets (rows_to rows sizes) values bits fault plane y x is h),
      )

  pub codes_in_first : (values : ℕ → ℕ → List ℤ) (bits : List Bool) (fault : CodeFault) (plane y x : ℕ) → y < rows
      → AreCodesStuck (slice_shape r sets sizes) values bits fault plane y x
      → AreCodesStuck (slice_shape r sets (rows_to rows sizes)) values bits fault plane y x
  codes_in_first values bits fault plane y x less h =
      let order = shorter h.done h.later (line_at plane y) less h.order in
      codes_stuck r sets sizes (rows_to rows sizes) (sym count_same) (λ p. sym (rows_width rows sizes p)) values bits fault plane y x h order.0 order.1
