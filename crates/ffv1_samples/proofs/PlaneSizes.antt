-- The sizes of a slice's planes are those of planes.
use Rattle.std.proofs.Common.{◌≡◌, ℕ, zero, suc, ◌+◌, ◌-◌, ◌^◌, ◌<◌, ◌≤◌, Bool, true, false, List, [], ◌∷◌, length, refl, sym, ap, ◌∙◌, arith, ⊎_elim}
use Rattle.std.specs.Prelude.{◌||◌, if◌then◌else◌}
use Rattle.std.specs.List.{All}
use Rattle.std.specs.Int.{div_ceil}
use Rattle.std.proofs.lemmas.Bool.{cases_lt}
use Rattle.std.proofs.lemmas.Simd.{map-map}
use Rattle.std.proofs.lemmas.List.{length-map, get_or-map, get_or_past, ext_get_or}
use Rattle.std.proofs.lemmas.List.Elements.{All-cons, All-nil, All-map}
use Rattle.ffv1_bits.specs.Limits.{greatest_side}
use Rattle.ffv1_range.specs.Setup.{RecordingValue, IsInVersion3}
use Rattle.ffv1_range.specs.Tiles.{grid_of, part_start, chroma_rect}
use Rattle.ffv1_range.specs.declared.head.SliceHeader.{SliceHeader}
use Rattle.ffv1_range.proofs.TileLaws.{parts_rise, part_within}
use Rattle.ffv1_plane.specs.RangeSlices.{size_at, no_size}
use Rattle.ffv1_plane.specs.RangeLaws.{HaveEqualRows}
use Rattle.ffv1_plane.specs.RangeReading.{IsPlaneSize}
use Rattle.ffv1_plane.specs.declared.planes.PlaneSize.{PlaneSize}
use Rattle.ffv1_plane.specs.FirstRows.{with_rows, rows_to}
use Rattle.ffv1_samples.specs.States.{count_of_planes}
use Rattle.ffv1_samples.specs.Sizes.{slice_rect, rect_size, second_size, planes_sizes, slice_sizes}
use Rattle.ffv1_samples.specs.Inner.Headers.{IsHeaderWithin}
use Rattle.ffv1_samples.specs.Inner.Sizes.{AreSliceSizes}

-- ---- one size

parts_up : (len n i k : ℕ) → 0 < n → n ≤ len → part_start len n i < part_start len n (i + suc k)
parts_up len n i zero some fits = parts_rise len n i some fits
parts_up len n i (suc k) some fits =
    let more = parts_up len n i k some fits in
    let next = parts_rise len n (i + suc k) some fits in
    let same : i + suc k + 1 ≡ i + suc (suc k) = omega arith in
    omega (arith, more, next, ap (part_start len n) same)

-- a part of so many is not empty, and not longer than all
part_fits : (len n i k most : ℕ) → 0 < n → n ≤ len → i + k ≤ n → 1 ≤ k → len ≤ most
    → (1 ≤ part_start len n (i + k) - part_start len n i) × (part_start len n (i + k) - part_start len n i ≤ most)
part_fits len n i zero most some fits inside one short = absurd (omega (arith, one))
part_fits len n i (suc k) most some fits inside one short =
    let up = parts_up len n i k some fits in
    let within = part_within len n (i + suc k) some inside in
    (omega (arith, up), omega (arith, within, short))

ceil_within : (a shift : ℕ) → 1 ≤ a → shift ≤ 4 → (1 ≤ div_ceil a (2 ^ shift)) × (div_ceil a (2 ^ shift) ≤ a)
ceil_within a zero some low = (omega arith, omega arith)
ceil_within a (suc zero) some low = (omega arith, omega arith)
ceil_within a (suc (suc zero)) some low = (omega arith, omega arith)
ceil_within a (suc (suc (suc zero))) some low = (omega arith, omega arith)
ceil_within a (suc (suc (suc (suc zero)))) some low = (omega arith, omega arith)
ceil_within a (suc (suc (suc (suc (suc n))))) some low = absurd (omega arith)

-- a size with rows
pub record IsSizeWithin (size : PlaneSize) : Type 0 where
  pub some_columns : 1 ≤ size.width
  pub few_columns : size.width ≤ greatest_side
  pub some_rows : 1 ≤ size.height
  pub few_rows : size.height ≤ greatest_side

module _ (r : RecordingValue) (header : SliceHeader) (version : IsInVersion3 r) (within : IsHeaderWithin r header) where
  pub first_within : IsSizeWithin (rect_size (slice_rect r header))
  first_within =
      let wide = part_fits r.setup.width r.setup.across header.x header.w greatest_side version.some_across version.coarse_across within.columns
      within.some_columns version.narrow in
      let high = part_fits r.setup.height r.setup.down header.y header.h greatest_side version.some_down version.coarse_down within.rows within.some_rows
      version.low in
      record { some_columns = wide.0; few_columns = wide.1; some_rows = high.0; few_rows = high.1 }

  chroma_within : IsSizeWithin (rect_size (chroma_rect (grid_of r.setup) (slice_rect r header)))
  chroma_within =
      let wide = ceil_within (slice_rect r header).w r.setup.shift_h first_within.some_columns version.small_h in
      let high = ceil_within (slice_rect r header).h r.setup.shift_v first_within.some_rows version.small_v in
      record {
        some_columns = wide.0;
        few_columns = omega (arith, wide.1, first_within.few_columns);
        some_rows = high.0;
        few_rows = omega (arith, high.1, first_within.few_rows);
      }

  second_within : IsSizeWithin (second_size r header)
  second_within = either r.is_rgb
    where
      either : (b : Bool) → IsSizeWithin (rect_size (if b then slice_rect r header else chroma_rect (grid_of r.setup) (slice_rect r header)))
      either true = first_within
      either false = chroma_within

-- ---- all sizes

all_sizes : (P : PlaneSize → Type 0) (has_second has_alpha : Bool) (first second : PlaneSize) → P first → P second → All P (planes_sizes has_second has_alpha first second)
all_sizes P true true first second a b =
    All-cons P first (second ∷ second ∷ first ∷ []) a
    (All-cons P second (second ∷ first ∷ []) b (All-cons P second (first ∷ []) b (All-cons P first [] a (All-nil P))))
all_sizes P true false first second a b =
    All-cons P first (second ∷ second ∷ []) a (All-cons P second (second ∷ []) b (All-cons P second [] b (All-nil P)))
all_sizes P false true first second a b = All-cons P first (first ∷ []) a (All-cons P first [] a (All-nil P))
all_sizes P false false first second a b = All-cons P first [] a (All-nil P)

sizes_count : (has_second has_alpha : Bool) (first second : PlaneSize)
    → length (planes_sizes has_second has_alpha first second) ≡ (if has_second then 3 else 1) + (if has_alpha then 1 else 0)
sizes_count true true first second = refl
sizes_count true false first second = refl
sizes_count false true first second = refl
sizes_count false false first second = refl

pub count_of_sizes : (r : RecordingValue) (header : SliceHeader) → length (slice_sizes r header) ≡ count_of_planes r
count_of_sizes r header = sizes_count (r.is_rgb || r.setup.has_chroma) r.has_alpha (rect_size (slice_rect r header)) (second_size r header)

second_is : (r : RecordingValue) (header : SliceHeader) → r.is_rgb ≡ true → second_size r header ≡ rect_size (slice_rect r header)
second_is r header is = ap (λ b. rect_size (if b then slice_rect r header else chroma_rect (grid_of r.setup) (slice_rect r header))) is

-- each plane of RGB has the size of the first
pub rgb_size : (r : RecordingValue) (header : SliceHeader) → r.is_rgb ≡ true → (p : ℕ) → p < length (slice_sizes r header)
    → size_at (slice_sizes r header) p ≡ rect_size (slice_rect r header)
rgb_size r header is p less =
    all_sizes (λ size. size ≡ rect_size (slice_rect r header)) (r.is_rgb || r.setup.has_chroma) r.has_alpha (rect_size (slice_rect r header)) (second_size r header)
    refl (second_is r header is) p (record { width = 0; height = 0 }) less

pub slice_sizes_fit : (r : RecordingValue) (header : SliceHeader) → IsInVersion3 r → IsHeaderWithin r header → AreSliceSizes r (slice_sizes r header)
slice_sizes_fit r header version within =
    let first = first_within r header version within in
    let second = second_within r header version within in
    record {
      count = count_of_sizes r header;
      fit =
          all_sizes IsPlaneSize (r.is_rgb || r.setup.has_chroma) r.has_alpha (rect_size (slice_rect r header)) (second_size r header)
          (first.some_columns, first.few_columns, first.few_rows) (second.some_columns, second.few_columns, second.few_rows);
      alike = λ is p less. rgb_size r header is p less ∙ sym (rgb_size r header is 0 (omega (arith, less)));
    }

-- the first rows of planes
pub rows_size : (rows : ℕ) (sizes : List PlaneSize) (p : ℕ) → p < length sizes
    → size_at (rows_to rows sizes) p ≡ record { width = (size_at sizes p).width; height = rows }
rows_size rows sizes p less =
    get_or-map (λ size. record { width = size.width; height = rows }) sizes p (record { width = 0; height = 0 }) (record { width = 0; height = 0 }) less

pub first_rows_fit : (r : RecordingValue) (sizes : List PlaneSize) (rows : ℕ) → AreSliceSizes r sizes → rows ≤ greatest_side
    → AreSliceSizes r (rows_to rows sizes)
first_rows_fit r sizes rows h few =
    let long : length (rows_to rows sizes) ≡ length sizes = length-map sizes (λ size. record { width = size.width; height = rows }) in
    record {
      count = long ∙ h.count;
      fit =
          All-map IsPlaneSize (λ size. record { width = size.width; height = rows }) sizes
          (λ p none less. let fit = h.fit p none less in (fit.0, fit.1, few));
      alike = λ is p less.
          rows_size rows sizes p (omega (arith, less, long))
          ∙ ap (λ (size : PlaneSize). record { width = size.width; height = rows }) (h.alike is p (omega (arith, less, long)))
          ∙ sym (rows_size rows sizes 0 (omega (arith, less, long)));
    }

-- all rows of RGB
pub all_rows : (r : RecordingValue) (header : SliceHeader) → r.is_rgb ≡ true → rows_to (slice_rect r header).h (slice_sizes r header) ≡ slice_sizes r header
all_rows r header is =
    let h = (slice_rect r header).h in
    let long : length (rows_to (slice_rect r header).h (slice_sizes r header)) ≡ length (slice_sizes r header) =
    length-map (slice_sizes r header) (λ size. record { width = size.width; height = (slice_rect r header).h }) in
    ext_get_or no_size (rows_to (slice_rect r header).h (slice_sizes r header)) (slice_sizes r header) long
    (λ p less.
    let inside : p < length (slice_sizes r header) = omega (arith, less, long) in
    let same = rgb_size r header is p inside in
    rows_size (slice_rect r header).h (slice_sizes r header) p inside
    ∙ ap (λ (size : PlaneSize). record { width = size.width; height = (slice_rect r header).h }) same
    ∙ sym same)

-- how wide a plane is does not depend on its rows
pub rows_width : (rows : ℕ) (sizes : List PlaneSize) (p : ℕ) → (size_at (rows_to rows sizes) p).width ≡ (size_at sizes p).width
rows_width rows sizes p = ⊎_elim
    (λ less. ap (λ (size : PlaneSize). size.width) (rows_size rows sizes p less))
    (λ past.
    let long : length (rows_to rows sizes) ≡ length sizes = length-map sizes (λ size. record { width = size.width; height = rows }) in
    ap (λ (size : PlaneSize). size.width) (get_or_past (rows_to rows sizes) p no_size (omega (arith, past, long)))
    ∙ sym (ap (λ (size : PlaneSize). size.width) (get_or_past sizes p no_size past)))
    (cases_lt p (length sizes))

pub equal_rows : (r : RecordingValue) (sizes : List PlaneSize) → AreSliceSizes r sizes → HaveEqualRows r sizes
equal_rows r sizes h is p less = ap (λ (size : PlaneSize). size.height) (h.alike is p less)

-- rows of rows
pub rows_of_rows : (rows more : ℕ) (sizes : List PlaneSize) → rows_to rows (rows_to more sizes) ≡ rows_to rows sizes
rows_of_rows rows more sizes = map-map (with_rows rows) (with_rows more) sizes
