-- A tile of the profile is a slice of any recording, of the same planes.
use Rattle.std.proofs.Common.{◌≡◌, ℕ, zero, suc, ◌+◌, ◌*◌, ◌/◌, ◌%◌, ◌<◌, Bool, true, false, List, [], ◌∷◌, ◌++◌, length, drop, map, nat_abs, refl, sym, ap, ◌∙◌, subst, arith, ℤ}
use Rattle.std.specs.Prelude.{◌↔◌, ◌==◌, ◌&&◌, ◌||◌, not, Option, Some, None, is_some, slice_index, slice_index_or, MatchBool, if◌then◌else◌}
use Rattle.std.specs.List.{All, range_with_len}
use Rattle.std.proofs.lemmas.Bool.{eqb-true, eq-eqb}
use Rattle.std.proofs.Math.Nat.{mod-add-div'}
use Rattle.std.proofs.lemmas.List.{length-replicate, get_or-replicate}
use Rattle.std.proofs.lemmas.List.FromFn.{get_or-map-range_with_len, length-map-range_with_len}
use Rattle.std.proofs.lemmas.List.Elements.{All-cons, All-nil}
use Rattle.ffv1_bits.specs.Bits.{bits_of}
use Rattle.ffv1_range.specs.Coding.{Coder, header_mode, sentinel_mode}
use Rattle.ffv1_range.specs.Transitions.{standard_transitions}
use Rattle.ffv1_range.specs.Setup.{SetupValue, RecordingValue, IsOfProfile, set_contexts, set_entry}
use Rattle.ffv1_range.specs.Tiles.{GridValue, grid_of, plane_count, tiles_rect, tile_rect, plane_rect, rect_in_plane}
use Rattle.ffv1_range.specs.Header.{HeadLimits, header_limits, IsHeaderOf, IsHeadOf, head_with}
use Rattle.ffv1_range.specs.SliceHeader.{slice_mode, slice_bytes, field_count, table_indexes, slice_header_with, IsSliceHeaderOf}
use Rattle.ffv1_range.specs.declared.head.SliceHead.{SliceHead}
use Rattle.ffv1_range.specs.declared.head.SliceHeader.{SliceHeader}
use Rattle.ffv1_range.specs.declared.head.SliceStart.{SliceStart}
use Rattle.ffv1_range.specs.declared.head.SliceStart.TheVariants.{Codes, Samples}
use Rattle.ffv1_range.proofs.TileLaws.{column_of, row_of}
use Rattle.ffv1_range.proofs.SetupLaws.{recording_is_of_profile}
use Rattle.ffv1_rice.specs.States.{ContextState, start_state}
use Rattle.ffv1_plane.specs.Samples.{Plane, plane_of, coding_at, context_at, neighbours_at, IsPlaneOfSize}
use Rattle.ffv1_plane.specs.Spelling.{state_after}
use Rattle.ffv1_plane.specs.Lines.{Line, lines_of_plane, plane_after_plane, LinesSpell}
use Rattle.ffv1_plane.specs.Progress.{AreStatesAfter}
use Rattle.ffv1_plane.specs.Picture.{PictureValue, samples_of, ArePlanesOf, plane_set, tile_plane, plane_group, picture_planes, plane_height, picture_lines, no_values, PictureSpells, IsPictureOf}
use Rattle.ffv1_plane.specs.RangeSlices.{SliceShape, slice_shape, size_at, height_at, coded_depth_of, slice_group, group_at, slice_plane, coded_lines, lines_of, ArePlanesOfSizes}
use Rattle.ffv1_plane.specs.RiceSlices.{is_anew_at, slice_planes, values_after_planes, AreGroupsAfter}
use Rattle.ffv1_plane.specs.declared.planes.PlaneSize.{PlaneSize}
use Rattle.ffv1_plane.proofs.Contexts.{context_fits}
use Rattle.ffv1_plane.proofs.RangeSlices.{AreBelow, planes_below, group_small}
use Rattle.ffv1_samples.specs.Sizes.{slice_rect, rect_size, planes_sizes, slice_sizes}
use Rattle.ffv1_samples.specs.States.{GroupsOf, states_of_group, rice_states, count_of_planes, HaveGroupContexts, FitSlice, codes_before}
use Rattle.ffv1_samples.specs.Coded.{AreCodesCoded, rice_end, range_end, is_clean_rest, SamplesEnd, AreCoded, EndsWith}
use Rattle.ffv1_samples.specs.Pictures.{AreRgbPlanes}
use Rattle.ffv1_samples.specs.Slices.{SlicePictureValue, IsSlicePicture}
use Rattle.ffv1_samples.specs.Profile.{IsSliceOfTile, TileIsSlice}
use Rattle.ffv1_samples.proofs.PlaneSizes.{count_of_sizes}
use Rattle.ffv1_samples.proofs.SameStates.{AreAlike, AreSamePlanes, lines_leave_alike, lines_alike}

-- ---- headers

-- with Golomb-Rice codes and no alpha
module _ (r : RecordingValue) (profile : IsOfProfile r) where
  mode_is : slice_mode r ≡ header_mode
  mode_is = ap (λ c. sentinel_mode (if c == 0 then standard_transitions else r.transitions)) profile.coder

  bytes_are : (content : List ℕ) → slice_bytes r content ≡ content
  bytes_are content = ap (λ c. if c == 0 then content else content ++ 0 ∷ []) profile.coder

  count_is : field_count r.has_alpha ≡ 9
  count_is = ap field_count profile.has_alpha

  -- the header of a slice is read as that of a tile
  header_as : (content : List ℕ) (key : Option Bool) (fields : List ℕ) (end : Coder) → IsHeaderOf header_mode 9 content key fields end
      → IsHeaderOf (slice_mode r) (field_count r.has_alpha) (slice_bytes r content) key fields end
  header_as content key fields end h =
      subst (λ m. IsHeaderOf m (field_count r.has_alpha) (slice_bytes r content) key fields end) (sym mode_is)
      (subst (λ n. IsHeaderOf header_mode n (slice_bytes r content) key fields end) (sym count_is)
      (subst (λ b. IsHeaderOf header_mode 9 b key fields end) (sym (bytes_are content)) h))

  header_back : (content : List ℕ) (key : Option Bool) (fields : List ℕ) (end : Coder)
      → IsHeaderOf (slice_mode r) (field_count r.has_alpha) (slice_bytes r content) key fields end → IsHeaderOf header_mode 9 content key fields end
  header_back content key fields end h =
      subst (λ b. IsHeaderOf header_mode 9 b key fields end) (bytes_are content)
      (subst (λ n. IsHeaderOf header_mode n (slice_bytes r content) key fields end) count_is
      (subst (λ m. IsHeaderOf m (field_count r.has_alpha) (slice_bytes r content) key fields end) mode_is h))

key_there : (first : Bool) → is_some (if first then Some true else None) ≡ first
key_there true = refl
key_there false = refl

two_tables : (n : ℕ) (has_alpha : Bool) (fields : List ℕ) → has_alpha ≡ false → slice_index fields 4 < n → slice_index fields 5 < n
    → All (λ table. table < n) (table_indexes has_alpha fields)
two_tables n true fields none a b = absurd cc
two_tables n false fields none a b =
    All-cons (λ table. table < n) (slice_index fields 4) (slice_index fields 5 ∷ []) a
    (All-cons (λ table. table < n) (slice_index fields 5) [] b (All-nil (λ table. table < n)))

slice_header_of : RecordingValue → Bool → List ℕ → SliceHeader
slice_header_of r first fields = slice_header_with r.has_alpha (if first then Some true else None) fields

-- The header of a tile is that of a slice.
header_found : (r : RecordingValue) (content : List ℕ) (first : Bool) (head : SliceHead) (place : ℕ) → IsOfProfile r
    → (h : IsHeadOf (header_limits r.setup) content first head place)
    → IsSliceHeaderOf r content first (slice_header_of r first h.fields) (Codes place)
unfolding slice_header_of
header_found r content first head place profile h =
    record {
      fields = h.fields;
      end = h.end;
      coded = header_as r profile content (if first then Some true else None) h.fields h.end h.header;
      has_key = key_there first;
      fits = record {
        columns = omega (arith, h.of_tile.column, h.of_tile.width);
        rows = omega (arith, h.of_tile.row, h.of_tile.height);
        tables = two_tables (length r.setup.sets) r.has_alpha h.fields profile.has_alpha h.of_tile.luma_table h.of_tile.chroma_table;
      };
      values = refl;
      follows = (profile.coder, h.codes);
    }

-- ---- planes

order_same : (f g : ℕ → ℕ) (count : ℕ) → ((p : ℕ) → p < count → f p ≡ g p) → plane_after_plane f count ≡ plane_after_plane g count
unfolding plane_after_plane
order_same f g zero same = refl
order_same f g (suc count) same =
    ap (λ l. l ++ lines_of_plane count (f count)) (order_same f g count (λ p less. same p (omega (arith, less))))
    ∙ ap (λ h. plane_after_plane g count ++ lines_of_plane count h) (same count (omega arith))

group_in : (has_chroma : Bool) (p : ℕ) → p < (if has_chroma then 3 else 1) → slice_group has_chroma p ≡ plane_group p
group_in has_chroma zero less = refl
group_in true (suc zero) less = refl
group_in true (suc (suc zero)) less = refl
group_in true (suc (suc (suc p))) less = absurd (omega (arith, less))
group_in false (suc p) less = absurd (omega (arith, less))

table_in : (head : SliceHead) (third p : ℕ) → slice_index (head.table_y ∷ head.table_c ∷ third ∷ []) (plane_group p) ≡ plane_set head p
table_in head third zero = refl
table_in head third (suc p) = refl

module _ (r : RecordingValue) (profile : IsOfProfile r) where
  pub planes_count : count_of_planes r ≡ plane_count (grid_of r.setup)
  planes_count =
      ap (λ b. (if b || r.setup.has_chroma then 3 else 1) + (if r.has_alpha then 1 else 0)) profile.is_rgb
      ∙ ap (λ b. (if r.setup.has_chroma then 3 else 1) + (if b then 1 else 0)) profile.has_alpha
      ∙ omega arith

  depth_is : coded_depth_of r ≡ 8
  depth_is = ap (λ b. r.depth + (if b then 1 else 0)) profile.is_rgb ∙ ap (λ d. d + 0) profile.depth

  -- A tile's header, and the same as a slice's.
  module _ (head : SliceHead) (header : SliceHeader) (third : ℕ) (tables : header.tables ≡ head.table_y ∷ head.table_c ∷ third ∷ [])
      (rect : slice_rect r header ≡ tile_rect (grid_of r.setup) head.tile) where
    abbrev sizes : List PlaneSize
    sizes = slice_sizes r header

    abbrev shape : SliceShape
    shape = slice_shape r header.tables sizes

    size_in : (p : ℕ) → p < plane_count (grid_of r.setup) → size_at sizes p ≡ rect_size (plane_rect (grid_of r.setup) head.tile p)
    size_in p less =
        ap (λ b. size_at (planes_sizes (b || r.setup.has_chroma) r.has_alpha (rect_size (slice_rect r header)) (rect_size (if b then slice_rect r header else
        rect_in_plane (grid_of r.setup) 1 (slice_rect r header)))) p) profile.is_rgb
        ∙ ap (λ b. size_at (planes_sizes r.setup.has_chroma b (rect_size (slice_rect r header)) (rect_size (rect_in_plane (grid_of r.setup) 1 (slice_rect r header)))) p)
        profile.has_alpha
        ∙ of_plane r.setup.has_chroma p less
        ∙ ap (λ z. rect_size (rect_in_plane (grid_of r.setup) p z)) rect
      where
        of_plane : (b : Bool) (p : ℕ) → p < (if b then 3 else 1)
            → size_at (planes_sizes b false (rect_size (slice_rect r header)) (rect_size (rect_in_plane (grid_of r.setup) 1 (slice_rect r header)))) p
            ≡ rect_size (rect_in_plane (grid_of r.setup) p (slice_rect r header))
        of_plane b zero less = refl
        of_plane true (suc zero) less = refl
        of_plane true (suc (suc zero)) less = refl
        of_plane true (suc (suc (suc p))) less = absurd (omega (arith, less))
        of_plane false (suc p) less = absurd (omega (arith, less))

    sizes_count : length sizes ≡ plane_count (grid_of r.setup)
    sizes_count = count_of_sizes r header ∙ planes_count

    set_in : (p : ℕ) → p < plane_count (grid_of r.setup) → slice_index header.tables (group_at shape p) ≡ plane_set head p
    set_in p less =
        ap (λ l. slice_index l (group_at shape p)) tables
        ∙ ap (λ g. slice_index (head.table_y ∷ head.table_c ∷ third ∷ []) g) (group_in r.setup.has_chroma p less)
        ∙ table_in head third p

    order_in : picture_lines r.setup head.tile ≡ coded_lines shape
    order_in =
        order_same (plane_height r.setup head.tile) (height_at sizes) (plane_count (grid_of r.setup))
        (λ p less. sym (ap (λ (s : PlaneSize). s.height) (size_in p less)))
        ∙ ap (plane_after_plane (height_at sizes)) (sym sizes_count)
        ∙ ap (λ b. lines_of b sizes) (sym profile.is_rgb)

    plane_in : (planes : List (List ℕ)) (p : ℕ) → p < plane_count (grid_of r.setup) → tile_plane r.setup head planes p ≡ (slice_plane shape planes p).plane
    plane_in planes p less =
        ap (λ w. plane_of w (coding_at 8 (set_entry r.setup (plane_set head p))) (samples_of planes p)) (sym (ap (λ (s : PlaneSize). s.width) (size_in p less)))
        ∙ ap (λ n. plane_of (size_at sizes p).width (coding_at n (set_entry r.setup (plane_set head p))) (samples_of planes p)) (sym depth_is)
        ∙ ap (λ s. plane_of (size_at sizes p).width (coding_at (coded_depth_of r) (set_entry r.setup s)) (samples_of planes p)) (sym (set_in p less))

    anew_in : (line : Line) → (line.row == 0) ≡ is_anew_at r.is_rgb line
    anew_in line = always (line.row == 0) ∙ ap (λ b. (line.row == 0) && (not b || (line.plane == 0))) (sym profile.is_rgb)
      where
        always : (b : Bool) → b ≡ (b && true)
        always true = refl
        always false = refl

    -- the planes of a tile are of the sizes of a slice's
    planes_found : (planes : List (List ℕ)) → ArePlanesOf r.setup head.tile planes → ArePlanesOfSizes (coded_depth_of r) sizes planes
    planes_found planes h =
        record {
          count = h.count ∙ sym sizes_count;
          each = λ p less.
              let inside : p < plane_count (grid_of r.setup) = omega (arith, less, sizes_count) in
              subst (λ (s : PlaneSize). IsPlaneOfSize (coded_depth_of r) s.width s.height (slice_index_or planes p [])) (sym (size_in p inside))
              (subst (λ n. IsPlaneOfSize n (plane_rect (grid_of r.setup) head.tile p).w (plane_rect (grid_of r.setup) head.tile p).h (slice_index_or planes p []))
              (sym depth_is) (h.sizes p inside));
        }

    planes_back : (planes : List (List ℕ)) → ArePlanesOfSizes (coded_depth_of r) sizes planes → ArePlanesOf r.setup head.tile planes
    planes_back planes h =
        record {
          count = h.count ∙ sizes_count;
          sizes = λ p less.
              subst (λ n. IsPlaneOfSize n (plane_rect (grid_of r.setup) head.tile p).w (plane_rect (grid_of r.setup) head.tile p).h (slice_index_or planes p [])) depth_is
              (subst (λ (s : PlaneSize). IsPlaneOfSize (coded_depth_of r) s.width s.height (slice_index_or planes p [])) (size_in p less)
              (h.each p (omega (arith, less, sizes_count))));
        }

    -- ---- bits

    contexts_of : ℕ → ℕ
    contexts_of group = set_contexts r.setup (slice_index header.tables group)

    module _ (planes : List (List ℕ)) (luma : head.table_y < length r.setup.sets) (chroma : head.table_c < length r.setup.sets) where
      set_there : (p : ℕ) → plane_set head p < length r.setup.sets
      set_there zero = luma
      set_there (suc p) = chroma

      context_in : (p s : ℕ) → p < plane_count (grid_of r.setup) → nat_abs (context_at (tile_plane r.setup head planes p) s) < contexts_of (plane_group p)
      unfolding contexts_of
      context_in p s less =
          let plane : Plane = tile_plane r.setup head planes p in
          subst (λ set. nat_abs (context_at plane s) < set_contexts r.setup set)
          (sym (ap (λ g. slice_index header.tables g) (sym (group_in r.setup.has_chroma p less)) ∙ set_in p less))
          (context_fits r.setup (plane_set head p) (neighbours_at plane.width plane.samples s) profile.setup.contexts (set_there p))

      group_few : (p : ℕ) → p < plane_count (grid_of r.setup) → plane_group p < 3
      group_few p less = subst (λ g. g < 3) (group_in r.setup.has_chroma p less) (group_small r.setup.has_chroma p)

      same_planes : AreSamePlanes (coded_depth_of r) contexts_of (plane_count (grid_of r.setup)) (picture_planes r.setup head planes) (slice_planes shape planes)
      same_planes =
          record {
            planes = plane_in planes;
            groups = λ p less. sym (group_in r.setup.has_chroma p less);
            few = group_few;
            anew = anew_in;
            deep = λ p less. sym depth_is;
            inside = context_in;
          }

      same_back : AreSamePlanes (coded_depth_of r) contexts_of (plane_count (grid_of r.setup)) (slice_planes shape planes) (picture_planes r.setup head planes)
      same_back =
          record {
            planes = λ p less. sym (plane_in planes p less);
            groups = group_in r.setup.has_chroma;
            few = λ p less. group_small r.setup.has_chroma p;
            anew = λ line. sym (anew_in line);
            deep = λ p less. refl;
            inside = λ p s less.
                subst (λ g. nat_abs (context_at (slice_plane shape planes p).plane s) < contexts_of g) (sym (group_in r.setup.has_chroma p less))
                (subst (λ (z : Plane). nat_abs (context_at z s) < contexts_of (plane_group p)) (plane_in planes p less) (context_in p s less));
          }

      same_self : AreSamePlanes (coded_depth_of r) contexts_of (plane_count (grid_of r.setup)) (slice_planes shape planes) (slice_planes shape planes)
      same_self =
          record {
            planes = λ p less. refl;
            groups = λ p less. refl;
            few = same_back.few;
            anew = λ line. refl;
            deep = same_back.deep;
            inside = same_back.inside;
          }

      -- The lines of a tile's planes, as a slice's.
      lines_below : AreBelow (plane_count (grid_of r.setup)) (coded_lines shape)
      lines_below = subst (AreBelow (plane_count (grid_of r.setup))) order_in
          (planes_below (plane_height r.setup head.tile) (plane_count (grid_of r.setup)) (plane_count (grid_of r.setup)) (omega arith))

      -- ---- states

      abbrev begun : ℕ → List ContextState
      begun group = codes_before r header.tables None group

      -- values that have left start states leave the states that no values leave
      fresh_alike : (values : ℕ → ℕ → List ℤ) → AreGroupsAfter (coded_depth_of r) values begun → AreAlike (coded_depth_of r) contexts_of (λ group. no_values) values
      unfolding contexts_of
      fresh_alike values have group k few within =
          sym (get_or-replicate (contexts_of group) k start_state start_state within)
          ∙ have group few k (omega (arith, within, length-replicate (contexts_of group) start_state))

      none_left : AreGroupsAfter (coded_depth_of r) (λ group. no_values) begun
      unfolding contexts_of
      none_left group few k within =
          get_or-replicate (contexts_of group) k start_state start_state (omega (arith, within, length-replicate (contexts_of group) start_state))

      left_values : ℕ → ℕ → List ℤ
      left_values = values_after_planes shape planes (λ group. no_values)

      left_states : ℕ → List ContextState
      unfolding contexts_of
      left_states group = map (λ k. state_after (coded_depth_of r) (left_values group k)) (range_with_len 0 (contexts_of group))

      left_groups : GroupsOf ContextState
      left_groups = record { luma = left_states 0; chroma = left_states 1; alpha = left_states 2 }

      groups_are : (group : ℕ) → group < 3 → left_states group ≡ states_of_group left_groups group
      unfolding left_groups
      groups_are zero few = refl
      groups_are (suc zero) few = refl
      groups_are (suc (suc zero)) few = refl
      groups_are (suc (suc (suc group))) few = absurd (omega (arith, few))

      states_count : (group : ℕ) → length (left_states group) ≡ contexts_of group
      unfolding left_states
      states_count group = length-map-range_with_len (λ k. state_after (coded_depth_of r) (left_values group k)) 0 (contexts_of group)

      -- Whichever values have left start states, the planes leave these states.
      all_left : (values : ℕ → ℕ → List ℤ) → AreGroupsAfter (coded_depth_of r) values begun
          → AreGroupsAfter (coded_depth_of r) (values_after_planes shape planes values) (states_of_group left_groups)
      unfolding left_states left_values
      all_left values have group few =
          subst (λ (s : List ContextState). AreStatesAfter (coded_depth_of r) (values_after_planes shape planes values group) s) (groups_are group few)
          (λ k within.
          let inside : k < contexts_of group = omega (arith, within, states_count group) in
          get_or-map-range_with_len (λ k. state_after (coded_depth_of r) (left_values group k)) 0 (contexts_of group) k k start_state inside (omega arith)
          ∙ lines_leave_alike (coded_depth_of r) contexts_of (plane_count (grid_of r.setup)) (slice_planes shape planes) (slice_planes shape planes) same_self
          (λ group. no_values) values (coded_lines shape) lines_below (fresh_alike values have) group k few inside)

      left_contexts : HaveGroupContexts r header.tables left_groups
      unfolding contexts_of
      left_contexts p less =
          let group : ℕ = slice_group r.setup.has_chroma p in
          sym (ap length (groups_are group (group_small r.setup.has_chroma p))) ∙ states_count group

      left_fit : FitSlice r header.tables (rice_states left_groups)
      unfolding left_values
      left_fit = (profile.coder, left_contexts, (left_values, all_left (λ group. no_values) none_left))

      -- ---- bits

      -- The bits of a tile's planes are those of a slice's ..
      codes_found : (bits words spare : List Bool) → ArePlanesOf r.setup head.tile planes → bits ≡ words ++ spare → PictureSpells r.setup head planes words
          → AreCodesCoded r header.tables sizes bits begun planes spare left_groups
      codes_found bits words spare are begins spells =
          record {
            sizes_are = planes_found planes are;
            spelled = λ values have.
                record {
                  sizes = planes_found planes are;
                  words = words;
                  begins = begins;
                  last = spells.0;
                  spells =
                      lines_alike (coded_depth_of r) contexts_of (plane_count (grid_of r.setup)) (picture_planes r.setup head planes) (slice_planes shape planes)
                      same_planes (λ group. no_values) values 0 (coded_lines shape) words spells.0 lines_below (fresh_alike values have)
                      (subst (λ l. LinesSpell (picture_planes r.setup head planes) (λ group. no_values) 0 l words spells.0) order_in spells.1);
                };
            left = all_left;
          }

      -- .. and those of a slice's are those of a tile's.
      codes_back : (words : List Bool) (last : ℕ) → LinesSpell (slice_planes shape planes) (λ group. no_values) 0 (coded_lines shape) words last
          → PictureSpells r.setup head planes words
      codes_back words last spells = (
        last,
        subst (λ l. LinesSpell (picture_planes r.setup head planes) (λ group. no_values) 0 l words last) (sym order_in)
            (lines_alike (coded_depth_of r) contexts_of (plane_count (grid_of r.setup)) (slice_planes shape planes) (picture_planes r.setup head planes) same_back
            (λ group. no_values) (λ group. no_values) 0 (coded_lines shape) words last lines_below (λ group k few within. refl) spells),
      )

-- ---- a tile's picture is a slice's

pub rect_is : (g : GridValue) (tile x y w h : ℕ) → x ≡ tile % g.across → y ≡ tile / g.across → w ≡ 1 → h ≡ 1 → tiles_rect g x y w h ≡ tile_rect g tile
rect_is g tile x y w h column row width height =
    ap (λ i. tiles_rect g i y w h) column ∙ ap (λ i. tiles_rect g (tile % g.across) i w h) row
    ∙ ap (λ i. tiles_rect g (tile % g.across) (tile / g.across) i h) width ∙ ap (λ i. tiles_rect g (tile % g.across) (tile / g.across) 1 i) height

module _ (r : RecordingValue) (profile : IsOfProfile r) (tile : ℕ) (content : List ℕ) (picture : PictureValue) where
  pub slice_found : IsPictureOf r.setup tile content picture
      → (slice : SlicePictureValue) × IsSlicePicture r content (tile == 0) None slice × IsSliceOfTile r.setup tile picture slice
  unfolding slice_header_of
  slice_found h =
      let fields : List ℕ = h.is_head.fields in
      let across : ℕ = r.setup.across in
      let limits : HeadLimits = header_limits r.setup in
      let header : SliceHeader = slice_header_of r (tile == 0) fields in
      let third : ℕ = if r.has_alpha then slice_index fields 6 else 0 in
      let there : h.head.tile ≡ slice_index fields 1 * across + slice_index fields 0 = ap (λ (z : SliceHead). z.tile) h.is_head.values in
      let column : slice_index fields 0 ≡ h.head.tile % across =
      sym (column_of across (slice_index fields 0) (slice_index fields 1) h.is_head.of_tile.column) ∙ ap (λ t. t % across) (sym there) in
      let row : slice_index fields 1 ≡ h.head.tile / across =
      sym (row_of across (slice_index fields 0) (slice_index fields 1) h.is_head.of_tile.column) ∙ ap (λ t. t / across) (sym there) in
      let width : slice_index fields 2 + 1 ≡ 1 = ap (λ n. n + 1) h.is_head.of_tile.width in
      let height : slice_index fields 3 + 1 ≡ 1 = ap (λ n. n + 1) h.is_head.of_tile.height in
      let rect : slice_rect r header ≡ tile_rect (grid_of r.setup) h.head.tile =
      rect_is (grid_of r.setup) h.head.tile (slice_index fields 0) (slice_index fields 1) (slice_index fields 2 + 1) (slice_index fields 3 + 1) column row width height in
      let tables : header.tables ≡ h.head.table_y ∷ h.head.table_c ∷ third ∷ [] =
      ap (λ (z : SliceHead). z.table_y ∷ z.table_c ∷ third ∷ []) (sym h.is_head.values) in
      let luma : h.head.table_y < length r.setup.sets =
      subst (λ (z : SliceHead). z.table_y < length r.setup.sets) (sym h.is_head.values) h.is_head.of_tile.luma_table in
      let chroma : h.head.table_c < length r.setup.sets =
      subst (λ (z : SliceHead). z.table_c < length r.setup.sets) (sym h.is_head.values) h.is_head.of_tile.chroma_table in
      let groups : GroupsOf ContextState = left_groups r profile h.head header third tables rect picture.planes luma chroma in (
        record { header = header; planes = picture.planes; spare_bits = picture.spare_bits; is_clean = is_clean_rest h.spare; states = rice_states groups },
        record {
          start = Codes h.place;
          is_header = header_found r content (tile == 0) h.head h.place profile h.is_head;
          coded = picture.planes;
          end = rice_end h.spare groups;
          are_coded =
              codes_found r profile h.head header third tables rect picture.planes luma chroma (bits_of (drop h.place content)) h.words h.spare
              (subst (λ t. ArePlanesOf r.setup t picture.planes) (sym h.of_tile) h.planes) h.begins h.spells;
          planes = subst (λ b. MatchBool b (AreRgbPlanes r picture.planes picture.planes) (picture.planes ≡ picture.planes)) (sym profile.is_rgb) refl;
          ends = (h.spare_bits, refl);
          states = refl {a = rice_states groups};
          fit = left_fit r profile h.head header third tables rect picture.planes luma chroma;
        },
        record {
          column = column ∙ ap (λ t. t % across) h.of_tile;
          row = row ∙ ap (λ t. t / across) h.of_tile;
          width = width;
          height = height;
          key = refl;
          planes = refl;
          spare_bits = refl;
        },
      )

  -- ---- a slice's picture is a tile's

  module _ (slice : SlicePictureValue) (of : IsSliceOfTile r.setup tile picture slice) where
    tile_found : (place : ℕ) (coded : List (List ℕ)) (rest : List Bool) (after : GroupsOf ContextState)
        → IsSliceHeaderOf r content (tile == 0) slice.header (Codes place) → slice.planes ≡ coded
        → AreCodesCoded r slice.header.tables (slice_sizes r slice.header) (bits_of (drop place content)) (codes_before r slice.header.tables None) coded rest after
        → slice.spare_bits ≡ length rest → IsPictureOf r.setup tile content picture
    tile_found place coded rest after h same codes spare =
        let fields : List ℕ = h.fields in
        let across : ℕ = r.setup.across in
        let limits : HeadLimits = header_limits r.setup in
        let head : SliceHead = head_with limits fields in
        let third : ℕ = if r.has_alpha then slice_index fields 6 else 0 in
        let x : slice_index fields 0 ≡ tile % across = sym (ap (λ (z : SliceHeader). z.x) h.values) ∙ of.column in
        let y : slice_index fields 1 ≡ tile / across = sym (ap (λ (z : SliceHeader). z.y) h.values) ∙ of.row in
        let w : slice_index fields 2 + 1 ≡ 1 = sym (ap (λ (z : SliceHeader). z.w) h.values) ∙ of.width in
        let n : slice_index fields 3 + 1 ≡ 1 = sym (ap (λ (z : SliceHeader). z.h) h.values) ∙ of.height in
        let there : head.tile ≡ tile =
        ap (λ i. i * across + slice_index fields 0) y ∙ ap (λ i. tile / across * across + i) x ∙ omega (arith, mod-add-div' tile across) in
        let tables : slice.header.tables ≡ head.table_y ∷ head.table_c ∷ third ∷ [] = ap (λ (z : SliceHeader). z.tables) h.values in
        let rect : slice_rect r slice.header ≡ tile_rect (grid_of r.setup) head.tile =
        rect_is (grid_of r.setup) tile slice.header.x slice.header.y slice.header.w slice.header.h of.column of.row of.width of.height
        ∙ ap (tile_rect (grid_of r.setup)) (sym there) in
        let luma : head.table_y < length r.setup.sets = h.fits.tables 0 0 (omega arith) in
        let chroma : head.table_c < length r.setup.sets = h.fits.tables 1 0 (omega arith) in
        let planes : coded ≡ picture.planes = sym same ∙ of.planes in
        let spelled = codes.spelled (λ group. no_values) (none_left r profile head slice.header third tables rect coded luma chroma) in
        record {
          head = head;
          place = place;
          is_head = record {
            fields = fields;
            end = h.end;
            header =
                header_back r profile content (if tile == 0 then Some true else None) fields h.end
                (subst (λ k. IsHeaderOf (slice_mode r) (field_count r.has_alpha) (slice_bytes r content) k fields h.end) of.key h.coded);
            codes = h.follows.1;
            of_tile = record {
              column = omega (arith, h.fits.columns, w);
              row = omega (arith, h.fits.rows, n);
              width = omega (arith, w);
              height = omega (arith, n);
              luma_table = luma;
              chroma_table = chroma;
            };
            values = refl;
            first_tile = (λ yes. there ∙ eqb-true tile 0 yes, λ none. eq-eqb tile 0 (sym there ∙ none));
          };
          of_tile = there;
          planes =
              subst (λ p. ArePlanesOf r.setup tile p) planes
              (subst (λ t. ArePlanesOf r.setup t coded) there (planes_back r profile head slice.header third tables rect coded codes.sizes_are));
          words = spelled.words;
          spare = rest;
          begins = spelled.begins;
          spells =
              subst (λ p. PictureSpells r.setup head p spelled.words) planes
              (codes_back r profile head slice.header third tables rect coded luma chroma spelled.words spelled.last spelled.spells);
          spare_bits = sym of.spare_bits ∙ spare;
        }

    tile_from : (start : SliceStart) (coded : List (List ℕ)) (end : SamplesEnd) → IsSliceHeaderOf r content (tile == 0) slice.header start
        → slice.planes ≡ coded → AreCoded r slice.header.tables (slice_sizes r slice.header) content start None coded end
        → EndsWith start end slice.spare_bits slice.is_clean → IsPictureOf r.setup tile content picture
    tile_from (Codes place) coded (rice_end rest after) h same codes ends = tile_found place coded rest after h same codes ends.0
    tile_from (Codes place) coded (range_end last after) h same codes ends = absurd codes
    tile_from (Samples decoder) coded end h same codes ends = absurd (h.follows.0 profile.coder)

    slice_back : IsSlicePicture r content (tile == 0) None slice → IsPictureOf r.setup tile content picture
    slice_back h =
        tile_from h.start h.coded h.end h.is_header
        (subst (λ b. MatchBool b (AreRgbPlanes r h.coded slice.planes) (slice.planes ≡ h.coded)) profile.is_rgb h.planes) h.are_coded h.ends

-- ---- the law

pub tile_is_slice : TileIsSlice
tile_is_slice config width height setup r tile content picture s is =
    let of = recording_is_of_profile config width height setup r s is in
    subst (λ (z : SetupValue). IsPictureOf z tile content picture
    ↔ ((slice : SlicePictureValue) × IsSlicePicture r content (tile == 0) None slice × IsSliceOfTile z tile picture slice)) (sym of.0)
    (slice_found r of.1 tile content picture, λ h. slice_back r of.1 tile content picture h.0 h.2 h.1)
