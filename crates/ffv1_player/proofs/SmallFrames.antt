-- Frames of the small definitions are those that a player decodes.
use Rattle.std.proofs.Common.{◌≡◌, ℕ, ◌+◌, ◌-◌, ◌^◌, ◌<◌, ◌≤◌, Bool, true, false, List, [], ◌∷◌, length, map, get_or, fold, flat_map, refl, sym, ap, ◌∙◌, subst, arith}
use Rattle.std.specs.Prelude.{◌==◌, if◌then◌else◌, Option, Some, None, is_some, unwrap_or, MatchBool, Vec}
use Rattle.std.specs.List.{range_with_len}
use Rattle.std.specs.Option.{option_map}
use Rattle.std.specs.declared.alloc.Global.{Global}
use Rattle.std.proofs.lemmas.Simd.{map-map}
use Rattle.std.proofs.lemmas.List.{length-map, get_or-map, ext_get_or}
use Rattle.ffv1_range.specs.Setup.{RecordingValue, IsInVersion3}
use Rattle.ffv1_range.specs.SliceHeader.{IsSliceHeaderOf}
use Rattle.ffv1_range.specs.declared.head.SliceHeader.{SliceHeader}
use Rattle.ffv1_layout.specs.Cuts.{slice_content}
use Rattle.ffv1_layout.specs.Layout.{HasSliceHeader, listed_slice, no_header, header_at, IsLaidOut}
use Rattle.ffv1_picture.specs.WholePicture.{or_else}
use Rattle.ffv1_samples.specs.States.{SliceStatesValue, FitSliceBefore, count_of_planes}
use Rattle.ffv1_samples.specs.Slices.{SlicePictureValue, IsSlicePicture}
use Rattle.ffv1_samples.proofs.OnePicture.{one_header}
use Rattle.ffv1_samples.specs.Pictures.{slice_plane_at}
use Rattle.ffv1_player.specs.Patches.{SlicePatch, patch_of, last_sample, patched_plane}
use Rattle.ffv1_player.specs.Frames.{patch_in, frame_in, frame_plane, frame_planes, planes_of_samples, slice_end_of, LeftValue, left_by, FrameGoesOn, is_one, is_key, BeginsWith, states_left_at, IsPlayedFrame}
use Rattle.ffv1_player.specs.Fitting.{FitLast}
use Rattle.ffv1_player.specs.declared.samples.Samples.{Samples}
use Rattle.ffv1_player.specs.declared.samples.SliceEnd.{SliceEnd}
use Rattle.ffv1_player.specs.SmallSlices.{slice_area, area_in, SliceValue, IsSlice}
use Rattle.ffv1_player.specs.SmallFrames.{slice_headers, HaveEachTile, BeginsWithStates, IsSliceAt, sample_over, plane_of_slices, IsFrame}
use Rattle.ffv1_player.proofs.Beginnings.{fit_before}
use Rattle.ffv1_player.proofs.TileLayouts.{all_listed}
use Rattle.ffv1_player.proofs.ProfileFrames.{no_picture}
use Rattle.ffv1_player.proofs.SmallSlices.{value_of, slice_to, slice_from}
use Rattle.ffv1_player.proofs.SmallTiles.{tiles_to, apart_from, covered_from}

-- ---- the planes of a frame

last_over : (o : Option ℕ) (covered : Bool) (sample blank : ℕ)
    → unwrap_or o (if covered then sample else blank) ≡ unwrap_or (or_else o (if covered then Some sample else None)) blank
last_over (Some other) covered sample blank = refl
last_over None true sample blank = refl
last_over None false sample blank = refl

-- a slice's samples of a plane, in their place
abbrev patch_at : RecordingValue → ℕ → SliceValue → SlicePatch
patch_at r p slice = patch_of (area_in r p (slice_area r.setup slice.left.header)) (slice_plane_at slice.planes p)

over_same : (r : RecordingValue) (p x y : ℕ) (slices : List SliceValue) (blank : ℕ)
    → fold (sample_over r p x y) blank slices ≡ unwrap_or (last_sample x y (map (patch_at r p) slices)) blank
unfolding last_sample
over_same r p x y [] blank = refl
over_same r p x y (slice ∷ slices) blank =
    over_same r p x y slices (sample_over r p x y blank slice) ∙ last_over (last_sample x y (map (patch_at r p) slices)) _ _ blank

plane_is : (r : RecordingValue) (slices : List SliceValue) (p : ℕ)
    → plane_of_slices r slices p ≡ patched_plane (2 ^ (r.depth - 1)) (frame_in r p).w (frame_in r p).h (map (patch_at r p) slices)
unfolding patched_plane
plane_is r slices p = λ i.
    flat_map (λ y. map (λ x. over_same r p x y slices (2 ^ (r.depth - 1)) i) (range_with_len 0 (frame_in r p).w)) (range_with_len 0 (frame_in r p).h)

plane_same : (r : RecordingValue) (slices : List SliceValue) (pictures : List SlicePictureValue)
    → ((p : ℕ) → map (patch_at r p) slices ≡ map (patch_in r p) pictures) → (p : ℕ) → plane_of_slices r slices p ≡ frame_plane r pictures p
plane_same r slices pictures same p = plane_is r slices p ∙ ap (patched_plane (2 ^ (r.depth - 1)) (frame_in r p).w (frame_in r p).h) (same p)

planes_are : (r : RecordingValue) (slices : List SliceValue) (pictures : List SlicePictureValue)
    → ((p : ℕ) → map (patch_at r p) slices ≡ map (patch_in r p) pictures)
    → map (plane_of_slices r slices) (range_with_len 0 (count_of_planes r)) ≡ frame_planes r pictures
planes_are r slices pictures same = λ i. map (λ p. plane_same r slices pictures same p i) (range_with_len 0 (count_of_planes r))

planes_same : (r : RecordingValue) (pictures : List SlicePictureValue)
    → map (plane_of_slices r (map value_of pictures)) (range_with_len 0 (count_of_planes r)) ≡ frame_planes r pictures
planes_same r pictures = planes_are r (map value_of pictures) pictures (λ p. map-map (patch_at r p) value_of pictures)

-- ---- headers

headers_of_values : (pictures : List SlicePictureValue) → slice_headers (map value_of pictures) ≡ map (λ (d : SlicePictureValue). d.header) pictures
headers_of_values pictures = map-map (λ (value : SliceValue). value.left.header) value_of pictures

header_of_picture : (pictures : List SlicePictureValue) (place : ℕ) → place < length pictures
    → header_at (slice_headers (map value_of pictures)) place ≡ (get_or pictures place no_picture).header
header_of_picture pictures place less =
    ap (λ headers. header_at headers place) (headers_of_values pictures)
    ∙ get_or-map (λ (d : SlicePictureValue). d.header) pictures place no_picture no_header less

key_is : (key : Option Bool) → is_some key ≡ true → key ≡ Some (is_one key)
key_is (Some bit) some = refl
key_is None some = absurd cc

-- ---- from played frames

begins_to : (r : RecordingValue) (headers : List SliceHeader) (last : Option (List LeftValue)) (before : List LeftValue) (key : Bool)
    → MatchBool key (before ≡ []) ((last ≡ Some before) × FrameGoesOn r headers before) → (place : ℕ) → place < length headers
    → BeginsWithStates r key before place (header_at headers place) (states_left_at before place)
begins_to r headers last before true h place less = ap (λ l. states_left_at l place) h
begins_to r headers last before false h place less =
    let equal = h.1.1 place less in (equal.0, equal.1, equal.2, ap (option_map (λ left. left.states)) equal.1)

goes_on_to : (r : RecordingValue) (headers : List SliceHeader) (last : Option (List LeftValue)) (before : List LeftValue) (key : Bool)
    → MatchBool key (before ≡ []) ((last ≡ Some before) × FrameGoesOn r headers before) → key ≡ false
    → (last ≡ Some before) × (length before ≡ length headers)
goes_on_to r headers last before true h no_key = absurd cc
goes_on_to r headers last before false h no_key = (h.0, h.1.0)

module _ (r : RecordingValue) (version : IsInVersion3 r) (last : Option (List LeftValue)) (fit : FitLast r last) (payload : List ℕ) (frame : Samples)
    (left : List LeftValue) (h : IsPlayedFrame r last payload frame left) where
  abbrev values : List SliceValue
  values = map value_of h.pictures

  long : length values ≡ length h.slices
  long = length-map h.pictures value_of ∙ h.have.0

  is_header_at : (place : ℕ) → place < length h.slices → header_at h.headers place ≡ (get_or h.pictures place no_picture).header
  is_header_at place less =
      let own = h.laid_out.each place less in
      let picture = h.have.1 place no_picture less in
      ap (λ z. z.0)
      (one_header r (slice_content r (listed_slice h.slices place)) (place == 0) (header_at h.headers place) (get_or h.pictures place no_picture).header
      own.start picture.start own.is_header picture.is_header)

  headers_are : h.headers ≡ slice_headers values
  headers_are =
      ext_get_or no_header h.headers (slice_headers values)
      (h.laid_out.count ∙ sym long ∙ sym (length-map values (λ (value : SliceValue). value.left.header)))
      (λ place less.
      let inside : place < length h.slices = omega (arith, less, h.laid_out.count) in
      is_header_at place inside ∙ sym (header_of_picture h.pictures place (omega (arith, inside, h.have.0))))

  key_same : frame.key ≡ is_key h.headers
  key_same = h.is_frame.is_key

  begun : MatchBool frame.key (h.before ≡ []) ((last ≡ Some h.before) × FrameGoesOn r h.headers h.before)
  begun = subst (λ key. MatchBool key (h.before ≡ []) ((last ≡ Some h.before) × FrameGoesOn r h.headers h.before)) (sym key_same) h.begins

  slice_at : (place : ℕ) → place < length h.slices
      → IsSliceAt r frame.key h.before place (listed_slice h.slices place) (value_of (get_or h.pictures place no_picture))
  slice_at place less = record {
    parity = (h.laid_out.each place less).parity;
    states = states_left_at h.before place;
    begins =
        subst (λ header. BeginsWithStates r frame.key h.before place header (states_left_at h.before place)) (is_header_at place less)
        (begins_to r h.headers last h.before frame.key begun place (omega (arith, less, h.laid_out.count)));
    is =
        slice_to r version (slice_content r (listed_slice h.slices place)) (place == 0) (states_left_at h.before place) (get_or h.pictures place no_picture)
        (subst (λ (header : SliceHeader). FitSliceBefore r header.tables (states_left_at h.before place)) (is_header_at place less)
        (fit_before r h.headers last h.before place (omega (arith, less, h.laid_out.count)) fit h.begins))
        (h.have.1 place no_picture less);
  }

  within : (place : ℕ) → place < length h.headers → (header_at h.headers place).x + (header_at h.headers place).w ≤ r.setup.across
  within place less =
      let own = (h.laid_out.each place (omega (arith, less, h.laid_out.count))).is_header in
      subst (λ (header : SliceHeader). header.x + header.w ≤ r.setup.across) (sym own.values) own.fits.columns

  tiles : HaveEachTile r h.headers
  tiles =
      let count = sym h.laid_out.count in
      tiles_to r h.headers within
      (λ k j less before. h.laid_out.apart k j (omega (arith, less, count)) before)
      (λ tile less. let found = h.laid_out.covered tile less in (found.0, omega (arith, found.1, count), found.2))

  first_key : (header_at h.headers 0).key ≡ Some frame.key
  first_key =
      let first = (h.laid_out.each 0 (omega (arith, h.laid_out.are_slices.some))).is_header in
      key_is (header_at h.headers 0).key first.has_key ∙ ap Some (sym key_same)

  pub frame_to : IsFrame r last payload frame left
  frame_to = record {
    pieces = h.slices;
    cut = h.laid_out.are_slices.cut;
    few = h.laid_out.are_slices.few;
    before = h.before;
    goes_on = λ no_key.
        let goes = goes_on_to r h.headers last h.before frame.key begun no_key in (goes.0, goes.1 ∙ h.laid_out.count);
    slices = values;
    count = long;
    each = λ place d less.
        subst (IsSliceAt r frame.key h.before place (listed_slice h.slices place))
        (sym (get_or-map value_of h.pictures place no_picture d (omega (arith, less, h.have.0)))) (slice_at place less);
    tiles = subst (HaveEachTile r) headers_are tiles;
    key = subst (λ headers. (header_at headers 0).key ≡ Some frame.key) headers_are first_key;
    width = h.is_frame.width;
    height = h.is_frame.height;
    depth = h.is_frame.depth;
    planes = h.is_frame.planes ∙ sym (planes_same r h.pictures);
    is_left = h.is_left ∙ sym (map-map (λ (value : SliceValue). value.left) value_of h.pictures);
  }

-- ---- to played frames

-- with what the slices begin: in a keyframe with nothing
abbrev before_by : Bool → List LeftValue → List LeftValue
before_by true before = []
before_by false before = before

states_by : (r : RecordingValue) (key : Bool) (before : List LeftValue) (place : ℕ) (header : SliceHeader) (states : Option SliceStatesValue)
    → BeginsWithStates r key before place header states → states ≡ states_left_at (before_by key before) place
states_by r true before place header states h = h
states_by r false before place header states h = h.3 ∙ sym (ap (option_map (λ left. left.states)) h.1)

begins_by : (r : RecordingValue) (headers : List SliceHeader) (last : Option (List LeftValue)) (key : Bool) (before : List LeftValue)
    → (key ≡ false → (last ≡ Some before) × (length before ≡ length headers))
    → ((place : ℕ) → place < length headers → (states : Option SliceStatesValue) × BeginsWithStates r key before place (header_at headers place) states)
    → MatchBool key (before_by key before ≡ []) ((last ≡ Some (before_by key before)) × FrameGoesOn r headers (before_by key before))
begins_by r headers last true before goes each = refl
begins_by r headers last false before goes each =
    ((goes refl).0, ((goes refl).1, λ place less. let b = (each place less).1 in (b.0, b.1, b.2)))

-- ends as a vector, with the allocator of another
ends_vec : (v : Vec (Vec ℕ Global) Global) (ends : List SliceEnd) → length ends < 2 ^ 63 → Vec SliceEnd Global
ends_vec v ends small = record { ptr = v.ptr; len = length ends; cap = length ends; alloc = v.alloc; items = ends; ok = (refl, omega arith); small = small }

module _ (r : RecordingValue) (version : IsInVersion3 r) (last : Option (List LeftValue)) (fit : FitLast r last) (payload : List ℕ) (frame : Samples)
    (left : List LeftValue) (h : IsFrame r last payload frame left) where
  abbrev headers : List SliceHeader
  headers = slice_headers h.slices

  abbrev before : List LeftValue
  before = before_by frame.key h.before

  abbrev no_value : SliceValue
  no_value = value_of no_picture

  abbrev slice : ℕ → SliceValue
  slice place = get_or h.slices place no_value

  headers_long : length headers ≡ length h.pieces
  headers_long = length-map h.slices (λ (value : SliceValue). value.left.header) ∙ h.count

  header_is : (place : ℕ) → place < length h.pieces → header_at headers place ≡ (slice place).left.header
  header_is place less = get_or-map (λ (value : SliceValue). value.left.header) h.slices place no_value no_header (omega (arith, less, h.count))

  key_is_key : is_key headers ≡ frame.key
  key_is_key = ap is_one h.key

  begins : BeginsWith r headers last before
  begins =
      subst (λ key. MatchBool key (before ≡ []) ((last ≡ Some before) × FrameGoesOn r headers before)) (sym key_is_key)
      (begins_by r headers last frame.key h.before (λ no_key. let goes = h.goes_on no_key in (goes.0, goes.1 ∙ sym headers_long)) (λ place less.
      let inside : place < length h.pieces = omega (arith, less, headers_long) in
      let at = h.each place no_value inside in
      (at.states, subst (λ header. BeginsWithStates r frame.key h.before place header at.states) (sym (header_is place inside)) at.begins)))

  abbrev IsPictureAt : ℕ → SlicePictureValue → Type 0
  IsPictureAt place d =
      IsSlicePicture r (slice_content r (listed_slice h.pieces place)) (place == 0) (states_left_at before place) d
      × (d.header ≡ (slice place).left.header) × (d.planes ≡ (slice place).planes)

  has_picture : (place : ℕ) → place < length h.pieces → (d : SlicePictureValue) × IsPictureAt place d
  has_picture place less =
      let at = h.each place no_value less in
      let given = subst (λ (header : SliceHeader). FitSliceBefore r header.tables (states_left_at before place)) (header_is place less)
      (fit_before r headers last before place (omega (arith, less, headers_long)) fit begins) in
      let found = slice_from r version (slice_content r (listed_slice h.pieces place)) (place == 0) (states_left_at before place) (slice place) given
      (subst (λ states. IsSlice r (slice_content r (listed_slice h.pieces place)) (place == 0) states (slice place))
      (states_by r frame.key h.before place (slice place).left.header at.states at.begins) at.is) in
      (found.0, (found.1, found.2, found.3))

  some_slice : 1 ≤ length h.pieces
  some_slice =
      let one = h.tiles 0 0 (omega (arith, version.some_across)) (omega (arith, version.some_down)) in omega (arith, one.1, headers_long)

  module _ (pictures : List SlicePictureValue) (count : length pictures ≡ length h.pieces)
      (each : (place : ℕ) (d : SlicePictureValue) → place < length h.pieces → IsPictureAt place (get_or pictures place d)) where
    patch_same : (p place : ℕ) → place < length h.pieces → patch_at r p (slice place) ≡ patch_in r p (get_or pictures place no_picture)
    patch_same p place less =
        let at = each place no_picture less in
        ap (λ header. patch_of (area_in r p (slice_area r.setup header)) (slice_plane_at (slice place).planes p)) (sym at.1)
        ∙ ap (λ planes. patch_of (area_in r p (slice_area r.setup (get_or pictures place no_picture).header)) (slice_plane_at planes p)) (sym at.2)

    patches_same : (p : ℕ) → map (patch_at r p) h.slices ≡ map (patch_in r p) pictures
    patches_same p =
        let own = length-map h.slices (patch_at r p) in
        ext_get_or (patch_at r p no_value) (map (patch_at r p) h.slices) (map (patch_in r p) pictures)
        (own ∙ h.count ∙ sym count ∙ sym (length-map pictures (patch_in r p))) (λ place less.
        let there : place < length h.pieces = omega (arith, less, own, h.count) in
        get_or-map (patch_at r p) h.slices place no_value (patch_at r p no_value) (omega (arith, there, h.count))
        ∙ patch_same p place there
        ∙ sym (get_or-map (patch_in r p) pictures place no_picture (patch_at r p no_value) (omega (arith, there, count))))

    picture_header : (place : ℕ) → place < length h.pieces → (get_or pictures place no_picture).header ≡ header_at headers place
    picture_header place less = (each place no_picture less).1 ∙ sym (header_is place less)

    has_header : (place : ℕ) → place < length h.pieces → HasSliceHeader r (listed_slice h.pieces place) (place == 0) (header_at headers place)
    has_header place less =
        let picture = (each place no_picture less).0 in
        record {
          parity = (h.each place no_value less).parity;
          start = picture.start;
          is_header =
              subst (λ header. IsSliceHeaderOf r (slice_content r (listed_slice h.pieces place)) (place == 0) header picture.start)
              (picture_header place less) picture.is_header;
        }

    columns : (place : ℕ) → place < length headers → (header_at headers place).x + (header_at headers place).w ≤ r.setup.across
    columns place less =
        let own = (has_header place (omega (arith, less, headers_long))).is_header in
        subst (λ (header : SliceHeader). header.x + header.w ≤ r.setup.across) (sym own.values) own.fits.columns

    rows : (place : ℕ) → place < length headers → (header_at headers place).y + (header_at headers place).h ≤ r.setup.down
    rows place less =
        let own = (has_header place (omega (arith, less, headers_long))).is_header in
        subst (λ (header : SliceHeader). header.y + header.h ≤ r.setup.down) (sym own.values) own.fits.rows

    laid_out : IsLaidOut r payload h.pieces headers
    laid_out = record {
      are_slices = record { cut = h.cut; some = some_slice; few = h.few };
      count = headers_long;
      each = has_header;
      apart = λ k j less earlier. apart_from r headers columns h.tiles rows k j (omega (arith, less, headers_long)) earlier;
      covered = λ tile less.
          let found = covered_from r headers columns h.tiles version.some_across tile less in (found.0, omega (arith, found.1, headers_long), found.2);
    }

    few_ends : length (map slice_end_of pictures) < 2 ^ 63
    few_ends = let many = length-map pictures slice_end_of in omega (arith, many, count, h.few, version.few_tiles)

    other : Samples
    other = record {
      width = r.setup.width;
      height = r.setup.height;
      shift_h = r.setup.shift_h;
      shift_v = r.setup.shift_v;
      is_rgb = r.is_rgb;
      has_alpha = r.has_alpha;
      depth = r.depth;
      key = frame.key;
      planes = frame.planes;
      slices = ends_vec frame.planes (map slice_end_of pictures) few_ends;
    }

    played : IsPlayedFrame r last payload other (map left_by pictures)
    unfolding other ends_vec
    played = record {
      slices = h.pieces;
      headers = headers;
      laid_out = laid_out;
      before = before;
      begins = begins;
      pictures = pictures;
      have = (count, λ place d less. (each place d less).0);
      is_frame = record {
        width = refl;
        height = refl;
        shift_h = refl;
        shift_v = refl;
        is_rgb = refl;
        has_alpha = refl;
        depth = refl;
        is_key = sym key_is_key;
        planes = h.planes ∙ planes_are r h.slices pictures patches_same;
        slices = refl;
      };
      is_left = refl;
    }

    planes_kept : planes_of_samples other ≡ planes_of_samples frame
    unfolding other
    planes_kept = refl

    key_kept : other.key ≡ frame.key
    unfolding other
    key_kept = refl

  pub frame_from : (other : Samples) × (more : List LeftValue) × IsPlayedFrame r last payload other more
      × (planes_of_samples other ≡ planes_of_samples frame) × (other.key ≡ frame.key)
  frame_from =
      let listed = all_listed IsPictureAt (length h.pieces) has_picture in (
        other listed.0 listed.1 listed.2,
        map left_by listed.0,
        played listed.0 listed.1 listed.2,
        planes_kept listed.0 listed.1 listed.2,
        key_kept listed.0 listed.1 listed.2,
      )
