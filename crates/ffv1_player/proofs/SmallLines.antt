-- The sizes and the lines of a slice's planes, and what of them is coded, as the small definitions have them.
use Rattle.std.proofs.Common.{◌≡◌, ◌≢◌, ℕ, zero, suc, ◌+◌, ◌*◌, ◌<◌, Bool, true, false, List, [], ◌∷◌, ◌++◌, length, map, get_or, refl, sym, ap, ◌∙◌, subst, nat_abs, ℤ, arith, flat_map}
use Rattle.std.specs.Prelude.{not, ◌==◌, ◌&&◌, ◌||◌, if◌then◌else◌, slice_index}
use Rattle.std.specs.List.{range_with_len}
use Rattle.std.proofs.lemmas.Bool.{ne_eqb, eq-eqb}
use Rattle.std.proofs.lemmas.List.{map-append, append-nil}
use Rattle.std.proofs.lemmas.List.Concat.{flat_map-append}
use Rattle.ffv1_range.specs.Rows.{RowBits}
use Rattle.ffv1_range.specs.Symbols.{signed_symbol_bits}
use Rattle.ffv1_range.specs.Setup.{RecordingValue, set_entry}
use Rattle.ffv1_range.specs.Tiles.{grid_of, chroma_rect}
use Rattle.ffv1_range.specs.declared.grid.TileRect.{TileRect}
use Rattle.ffv1_range.specs.declared.head.SliceHeader.{SliceHeader}
use Rattle.ffv1_plane.specs.Samples.{SamplesAbout, neighbours_at, context_of, prediction_of, difference_of}
use Rattle.ffv1_rice.specs.States.{ContextState}
use Rattle.ffv1_plane.specs.Spelling.{Residuals, residuals_of, context_number, state_after, values_after, columns_before, RowSpells}
use Rattle.ffv1_plane.specs.Lines.{Line, line_at, lines_of_plane, plane_after_plane, lines_of_row, row_after_row, CodedPlanes, first_index, values_after_line, values_after_lines, LinesSpell}
use Rattle.ffv1_plane.specs.RangeRows.{signed_prediction_of, state_row, sample_bits}
use Rattle.ffv1_plane.specs.RangeLines.{line_bits, lines_bits}
use Rattle.ffv1_plane.specs.RangeSlices.{SliceShape, slice_shape, size_at, height_at, coded_depth_of, slice_plane, lines_of, coded_lines}
use Rattle.ffv1_plane.specs.RiceSlices.{slice_planes}
use Rattle.ffv1_plane.specs.declared.planes.PlaneSize.{PlaneSize}
use Rattle.ffv1_samples.specs.Sizes.{slice_rect, rect_size, planes_sizes, slice_sizes}
use Rattle.ffv1_samples.specs.Pictures.{slice_plane_at}
use Rattle.ffv1_plane.proofs.RangeSlices.{group_small}
use Rattle.ffv1_player.specs.SmallSlices.{area_size, plane_sizes, lines_in_order, group_of, coded_line, line_symbols, states_at_column, SamplesAreSpelled, states_with_line, LinesAreSpelled}
use Rattle.ffv1_player.proofs.SmallStates.{at_column, samples_to, samples_from, AreOfPlanes, of_rows, of_planes}

-- ---- sizes

sizes_by : (is_rgb has_chroma has_alpha : Bool) (first chroma : TileRect)
    → planes_sizes (is_rgb || has_chroma) has_alpha (rect_size first) (rect_size (if is_rgb then first else chroma))
    ≡ map (λ p. area_size (if (not is_rgb && has_chroma) && ((p == 1) || (p == 2)) then chroma else first))
    (range_with_len 0 ((if is_rgb || has_chroma then 3 else 1) + (if has_alpha then 1 else 0)))
sizes_by true true true first chroma = refl
sizes_by true true false first chroma = refl
sizes_by true false true first chroma = refl
sizes_by true false false first chroma = refl
sizes_by false true true first chroma = refl
sizes_by false true false first chroma = refl
sizes_by false false true first chroma = refl
sizes_by false false false first chroma = refl

pub sizes_same : (r : RecordingValue) (header : SliceHeader) → slice_sizes r header ≡ plane_sizes r header
sizes_same r header =
    sizes_by r.is_rgb r.setup.has_chroma r.has_alpha (slice_rect r header) (chroma_rect (grid_of r.setup) (slice_rect r header))

-- ---- lines in coded order

range_more : (a n : ℕ) → range_with_len a (suc n) ≡ range_with_len a n ++ (a + n) ∷ []
range_more a zero = let e : a ≡ a + 0 = omega arith in ap (λ k. k ∷ []) e
range_more a (suc n) =
    let e : a + 1 + n ≡ a + suc n = omega arith in
    ap (λ l. a ∷ l) (range_more (a + 1) n) ∙ ap (λ k. a ∷ (range_with_len (a + 1) n ++ k ∷ [])) e

range_last : (n : ℕ) → range_with_len 0 (suc n) ≡ range_with_len 0 n ++ n ∷ []
range_last n = let e : 0 + n ≡ n = omega arith in range_more 0 n ∙ ap (λ k. range_with_len 0 n ++ k ∷ []) e

map_last : {A : Type 0} (f : ℕ → A) (n : ℕ) → map f (range_with_len 0 (suc n)) ≡ map f (range_with_len 0 n) ++ f n ∷ []
map_last f n = ap (map f) (range_last n) ∙ map-append f (range_with_len 0 n) (n ∷ [])

flat_map_last : {A : Type 0} (f : ℕ → List A) (n : ℕ) → flat_map f (range_with_len 0 (suc n)) ≡ flat_map f (range_with_len 0 n) ++ f n
flat_map_last f n =
    ap (flat_map f) (range_last n) ∙ flat_map-append f (range_with_len 0 n) (n ∷ []) ∙ ap (λ l. flat_map f (range_with_len 0 n) ++ l) (append-nil (f n))

columns_are_range : (n : ℕ) → columns_before n ≡ range_with_len 0 n
unfolding columns_before
columns_are_range zero = refl
columns_are_range (suc n) = ap (λ l. l ++ n ∷ []) (columns_are_range n) ∙ sym (range_last n)

rows_in_order : (p count : ℕ) → lines_of_plane p count ≡ map (line_at p) (range_with_len 0 count)
unfolding lines_of_plane
rows_in_order p zero = refl
rows_in_order p (suc count) = ap (λ l. l ++ line_at p count ∷ []) (rows_in_order p count) ∙ sym (map_last (line_at p) count)

planes_in_order : (height : ℕ → ℕ) (count : ℕ)
    → plane_after_plane height count ≡ flat_map (λ p. map (line_at p) (range_with_len 0 (height p))) (range_with_len 0 count)
unfolding plane_after_plane
planes_in_order height zero = refl
planes_in_order height (suc count) =
    ap (λ l. l ++ lines_of_plane count (height count)) (planes_in_order height count)
    ∙ ap (λ l. flat_map (λ p. map (line_at p) (range_with_len 0 (height p))) (range_with_len 0 count) ++ l) (rows_in_order count (height count))
    ∙ sym (flat_map_last (λ p. map (line_at p) (range_with_len 0 (height p))) count)

row_in_order : (row count : ℕ) → lines_of_row row count ≡ map (λ p. line_at p row) (range_with_len 0 count)
unfolding lines_of_row
row_in_order row zero = refl
row_in_order row (suc count) = ap (λ l. l ++ line_at count row ∷ []) (row_in_order row count) ∙ sym (map_last (λ p. line_at p row) count)

row_after_row_in_order : (count height : ℕ)
    → row_after_row count height ≡ flat_map (λ y. map (λ p. line_at p y) (range_with_len 0 count)) (range_with_len 0 height)
unfolding row_after_row
row_after_row_in_order count zero = refl
row_after_row_in_order count (suc height) =
    ap (λ l. l ++ lines_of_row height count) (row_after_row_in_order count height)
    ∙ ap (λ l. flat_map (λ y. map (λ p. line_at p y) (range_with_len 0 count)) (range_with_len 0 height) ++ l) (row_in_order height count)
    ∙ sym (flat_map_last (λ y. map (λ p. line_at p y) (range_with_len 0 count)) height)

lines_by : (is_rgb : Bool) (sizes : List PlaneSize) → lines_of is_rgb sizes
    ≡ (if is_rgb then flat_map (λ y. map (λ p. line_at p y) (range_with_len 0 (length sizes))) (range_with_len 0 (height_at sizes 0))
    else flat_map (λ p. map (line_at p) (range_with_len 0 (height_at sizes p))) (range_with_len 0 (length sizes)))
lines_by true sizes = row_after_row_in_order (length sizes) (height_at sizes 0)
lines_by false sizes = planes_in_order (height_at sizes) (length sizes)

pub lines_same : (r : RecordingValue) (sizes : List PlaneSize) → lines_of r.is_rgb sizes ≡ lines_in_order r sizes
lines_same r sizes = lines_by r.is_rgb sizes

-- ---- what of a line is coded

module _ (r : RecordingValue) (header : SliceHeader) (planes : List (List ℕ)) where
  abbrev pub shape : SliceShape
  shape = slice_shape r header.tables (plane_sizes r header)

  -- the same where it is known whether the codes are Golomb-Rice codes
  abbrev line_by : Line → Bool → Residuals
  line_by line has_codes =
      let width = (size_at (plane_sizes r header) line.plane).width in
      let samples = slice_plane_at planes line.plane in
      let about : ℕ → SamplesAbout = λ x. neighbours_at width samples (line.row * width + x) in
      let context : ℕ → ℤ = λ x. context_of (set_entry r.setup (slice_index header.tables (group_of r line))) (about x) in
      record {
        depth = coded_depth_of r;
        width = width;
        context = context;
        difference =
            λ x.
            difference_of (coded_depth_of r) (context x)
            (if not has_codes && (not r.is_rgb && (r.depth == 16)) then signed_prediction_of (about x) else prediction_of (about x))
            (get_or samples (line.row * width + x) 0);
      }

  -- ---- range coding

  abbrev symbols_by : Line → Bool → List ℕ → List RowBits
  symbols_by line has_codes columns =
      let coded = line_by line has_codes in
      map (λ x. (state_row (group_of r line) (nat_abs (coded.context x)), signed_symbol_bits (coded.difference x))) columns

  symbols_there : (line : Line) → symbols_by line false (columns_before (line_by line false).width) ≡ line_bits (slice_plane shape planes) line
  unfolding sample_bits
  symbols_there line = refl

  symbols_same : r.coder ≢ 0 → (line : Line) → line_bits (slice_plane shape planes) line ≡ line_symbols r header planes line
  symbols_same coder line =
      sym (symbols_there line)
      ∙ ap (symbols_by line false) (columns_are_range (line_by line false).width)
      ∙ sym (ap (λ b. symbols_by line b (range_with_len 0 (line_by line false).width)) (ne_eqb r.coder 0 coder))

  pub symbols_are : r.coder ≢ 0
      → lines_bits (slice_plane shape planes) (coded_lines shape) ≡ flat_map (line_symbols r header planes) (lines_in_order r (plane_sizes r header))
  symbols_are coder =
      (λ i. flat_map (λ line. symbols_same coder line i) (coded_lines shape))
      ∙ ap (flat_map (line_symbols r header planes)) (lines_same r (plane_sizes r header))

  -- ---- Golomb-Rice codes

  line_there : (line : Line) → line_by line true ≡ residuals_of (slice_plane shape planes line.plane).plane line.row
  unfolding residuals_of
  line_there line = refl

  line_same : r.coder ≡ 0 → (line : Line) → residuals_of (slice_plane shape planes line.plane).plane line.row ≡ coded_line r header planes line
  line_same coder line = sym (line_there line) ∙ sym (ap (line_by line) (eq-eqb r.coder 0 coder))

  -- the values that were coded with each context of each group, where a line is coded after others
  abbrev values_with : (ℕ → ℕ → List ℤ) → Line → (ℕ → ℕ → List ℤ)
  values_with values line group = if group == group_of r line then values_after (values group) (coded_line r header planes line) else values group

  -- the states of so many contexts of each group are what values have left
  abbrev pub Agree : (ℕ → ℕ) → (ℕ → ℕ → ContextState) → (ℕ → ℕ → List ℤ) → Type 0
  Agree many states values = (group k : ℕ) → group < 3 → k < many group → states group k ≡ state_after (coded_depth_of r) (values group k)

  module _ (coder : r.coder ≡ 0) (many : ℕ → ℕ) (planes_count : ℕ)
      (inside : (line : Line) → line.plane < planes_count → (x : ℕ) → context_number (coded_line r header planes line) x < many (group_of r line)) where
    abbrev c : CodedPlanes
    c = slice_planes shape planes

    values_same : (values : ℕ → ℕ → List ℤ) (line : Line) → values_after_line c values line ≡ values_with values line
    unfolding values_after_line
    values_same values line =
        let with_line : Residuals → (ℕ → ℕ → List ℤ) =
        λ coded group. if group == group_of r line then values_after (values group) coded else values group in
        ap with_line (line_same coder line)

    agree_with : (states : ℕ → ℕ → ContextState) (values : ℕ → ℕ → List ℤ) (line : Line) → Agree many states values
        → Agree many (states_with_line r header planes states line) (values_after_line c values line)
    agree_with states values line agree = subst (Agree many (states_with_line r header planes states line)) (sym (values_same values line)) with_line
      where
        with_line : Agree many (states_with_line r header planes states line) (values_with values line)
        with_line group k small less = by_group (group == group_of r line)
          where
            by_group : (b : Bool)
                → (if b then states_at_column (coded_line r header planes line) (states group) (coded_line r header planes line).width else states group) k
                ≡ state_after (coded_depth_of r) ((if b then values_after (values group) (coded_line r header planes line) else values group) k)
            by_group true =
                at_column (coded_line r header planes line) (values group) (states group) (many group) (λ j below. agree group j small below)
                (coded_line r header planes line).width k less
            by_group false = agree group k small less

    module _ (line : Line) (less : line.plane < planes_count) (states : ℕ → ℕ → ContextState) (values : ℕ → ℕ → List ℤ) (agree : Agree many states values)
        (first : ℕ) (bits : List Bool) (next : ℕ) where
      agree_here : (k : ℕ) → k < many (group_of r line) → states (group_of r line) k ≡ state_after (coded_depth_of r) (values (group_of r line) k)
      agree_here k below = agree (group_of r line) k (group_small r.setup.has_chroma line.plane) below

      row_to : RowSpells (values (group_of r line)) (residuals_of (slice_plane shape planes line.plane).plane line.row) first bits next
          → SamplesAreSpelled (coded_line r header planes line) (states (group_of r line)) first (coded_line r header planes line).width bits next
      row_to h =
          samples_to (coded_line r header planes line) (values (group_of r line)) (states (group_of r line)) (many (group_of r line)) agree_here
          (inside line less) first (coded_line r header planes line).width bits next
          (subst (λ (coded : Residuals). RowSpells (values (group_of r line)) coded first bits next) (line_same coder line) h)

      row_from : SamplesAreSpelled (coded_line r header planes line) (states (group_of r line)) first (coded_line r header planes line).width bits next
          → RowSpells (values (group_of r line)) (residuals_of (slice_plane shape planes line.plane).plane line.row) first bits next
      row_from h =
          subst (λ (coded : Residuals). RowSpells (values (group_of r line)) coded first bits next) (sym (line_same coder line))
          (samples_from (coded_line r header planes line) (values (group_of r line)) (states (group_of r line)) (many (group_of r line)) agree_here
          (inside line less) first (coded_line r header planes line).width bits next h)

    pub spelled_to : (lines : List Line) → AreOfPlanes planes_count lines → (states : ℕ → ℕ → ContextState) (values : ℕ → ℕ → List ℤ)
        → Agree many states values → (index : ℕ) (bits : List Bool) (last : ℕ) → LinesSpell c values index lines bits last
        → (all : ℕ → ℕ → ContextState) × LinesAreSpelled r header planes states index lines bits all × Agree many all (values_after_lines c values lines)
    unfolding LinesSpell LinesAreSpelled values_after_lines
    spelled_to [] of states values agree index bits last h = (states, (h.0, refl), agree)
    spelled_to (line ∷ lines) of states values agree index bits last h =
        let rest = spelled_to lines of.1 (states_with_line r header planes states line) (values_after_line c values line)
        (agree_with states values line agree) h.2 h.1 last h.5 in (
          rest.0,
          (h.0, h.1, h.2, h.3, row_to line of.0 states values agree (first_index c index line) h.0 h.2 h.4, rest.1),
          rest.2,
        )

    pub spelled_from : (lines : List Line) → AreOfPlanes planes_count lines → (states : ℕ → ℕ → ContextState) (values : ℕ → ℕ → List ℤ)
        → Agree many states values → (index : ℕ) (bits : List Bool) (all : ℕ → ℕ → ContextState)
        → LinesAreSpelled r header planes states index lines bits all
        → (last : ℕ) × LinesSpell c values index lines bits last × Agree many all (values_after_lines c values lines)
    unfolding LinesSpell LinesAreSpelled values_after_lines
    spelled_from [] of states values agree index bits all h = (index, (h.0, refl), subst (λ f. Agree many f values) (sym h.1) agree)
    spelled_from (line ∷ lines) of states values agree index bits all h =
        let rest = spelled_from lines of.1 (states_with_line r header planes states line) (values_after_line c values line)
        (agree_with states values line agree) h.2 h.1 all h.5 in (
          rest.0,
          (h.0, h.1, h.2, h.3, row_from line of.0 states values agree (first_index c index line) h.0 h.2 h.4, rest.1),
          rest.2,
        )

-- each line of a slice is of one of its planes
pub of_slice : (is_rgb : Bool) (sizes : List PlaneSize) → AreOfPlanes (length sizes) (lines_of is_rgb sizes)
of_slice true sizes = of_rows (length sizes) (length sizes) (height_at sizes 0) (omega arith)
of_slice false sizes = of_planes (length sizes) (height_at sizes) (length sizes) (omega arith)
