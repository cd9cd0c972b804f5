-- A frame of the profile is played, with the same planes.
use Rattle.std.proofs.Common.{◌≡◌, ℕ, ◌*◌, ◌<◌, ◌≤◌, ◌^◌, true, false, List, [], length, take, map, get_or, refl, sym, ap, ◌∙◌, subst, arith}
use Rattle.std.specs.Prelude.{◌==◌, ◌-◌, Option, Some, None, Vec, MatchBool, slice_index_or}
use Rattle.std.specs.declared.alloc.Global.{Global}
use Rattle.std.proofs.lemmas.List.{length-map, length-reverse, get_or-map}
use Rattle.std.proofs.Math.Nat.{mul-le-mul}
use Rattle.ffv1_bits.specs.Parity.{PassesParity}
use Rattle.ffv1_range.specs.Setup.{SetupValue, RecordingValue, IsOfProfile}
use Rattle.ffv1_range.specs.Tiles.{grid_of, tile_count}
use Rattle.ffv1_range.specs.declared.head.SliceHeader.{SliceHeader}
use Rattle.ffv1_range.specs.SliceHeader.{IsSliceHeaderOf}
use Rattle.ffv1_range.proofs.SetupLaws.{recording_is_of_profile}
use Rattle.ffv1_range.specs.TileHeaders.{profile_rules}
use Rattle.ffv1_slice.specs.Chain.{LinkValue}
use Rattle.ffv1_slice.specs.Walk.{links_of}
use Rattle.ffv1_slice.specs.Slices.{content_of, IsSliceOf}
use Rattle.ffv1_slice.proofs.SliceLaws.{slice_found}
use Rattle.ffv1_layout.specs.Cuts.{footer_length, AreCutAt, slice_content}
use Rattle.ffv1_layout.specs.Layout.{listed_slice, no_header, header_at, HasSliceHeader, IsLaidOut}
use Rattle.ffv1_plane.specs.Picture.{PictureValue}
use Rattle.ffv1_samples.specs.States.{rice_states}
use Rattle.ffv1_samples.specs.Slices.{SlicePictureValue, IsSlicePicture}
use Rattle.ffv1_samples.specs.Profile.{IsSliceOfTile}
use Rattle.ffv1_samples.proofs.TileSlices as tile_slices
use Rattle.ffv1_picture.specs.Frames.{links_from_front, no_link, link_at, content_at, IsDecodedFrame}
use Rattle.ffv1_picture.specs.declared.frame.Frame.{Frame}
use Rattle.ffv1_player.specs.Frames.{slice_end_of, LeftValue, left_by, is_one, is_key, FrameGoesOn, BeginsWith, HavePictures, IsPlayedFrame}
use Rattle.ffv1_player.specs.Profile.{AreSamplesOf, FrameIsPlayed}
use Rattle.ffv1_player.specs.declared.samples.Samples.{Samples}
use Rattle.ffv1_player.specs.declared.samples.SliceEnd.{SliceEnd}
use Rattle.ffv1_player.proofs.ChainCuts.{links_are_cut}
use Rattle.ffv1_player.proofs.TileLayouts.{IsHeaderAt, has_own, none_shared, all_listed}
use Rattle.ffv1_player.proofs.TilePlanes.{IsPictureAt, planes_are}

-- ends as a vector, with the allocator of another
ends_vec : (v : Vec (Vec ℕ Global) Global) (ends : List SliceEnd) → length ends < 2 ^ 63 → Vec SliceEnd Global
ends_vec v ends small = record { ptr = v.ptr; len = length ends; cap = length ends; alloc = v.alloc; items = ends; ok = (refl, omega arith); small = small }

pub no_picture : SlicePictureValue
no_picture = record { header = no_header; planes = []; spare_bits = 0; is_clean = false; states = rice_states (record { luma = []; chroma = []; alpha = [] }) }

module _ (r : RecordingValue) (profile : IsOfProfile r) (payload : List ℕ) (frame : Frame) (h : IsDecodedFrame r.setup payload frame) where
  abbrev links : List LinkValue
  links = links_from_front payload

  abbrev tiles : ℕ
  tiles = tile_count (grid_of r.setup)

  abbrev slices : List (List ℕ)
  slices = map (λ (link : LinkValue). link.bytes) links

  links_count : length links ≡ tiles
  links_count = length-reverse (links_of payload) ∙ h.ordered.chain.count

  slices_count : length slices ≡ tiles
  slices_count = length-map links (λ (link : LinkValue). link.bytes) ∙ links_count

  slice_there : (tile : ℕ) → tile < tiles → listed_slice slices tile ≡ (link_at links tile).bytes
  slice_there tile less = get_or-map (λ (link : LinkValue). link.bytes) links tile no_link [] (omega (arith, less, links_count))

  content_there : (tile : ℕ) → tile < tiles → slice_content r (listed_slice slices tile) ≡ content_at links tile
  content_there tile less =
      ap (λ ec. take (length (listed_slice slices tile) - footer_length ec) (listed_slice slices tile)) profile.ec ∙ ap content_of (slice_there tile less)

  is_slice : (tile : ℕ) → tile < tiles → IsSliceOf (profile_rules r.setup) (link_at links tile).bytes ((link_at links tile).start == 0) tile
  is_slice tile less = slice_found (profile_rules r.setup) (link_at links tile).bytes ((link_at links tile).start == 0) tile (h.ordered.each tile less)

  -- ---- the pictures of the slices

  -- the picture of a slice is that of its tile
  abbrev IsPicture : ℕ → SlicePictureValue → Type 0
  IsPicture tile slice =
      (spare : ℕ) × IsSlicePicture r (content_at links tile) (tile == 0) None slice
      × IsSliceOfTile r.setup tile (record { planes = slice_index_or h.drawn.pictures tile []; spare_bits = spare }) slice

  has_picture : (tile : ℕ) → tile < tiles → (slice : SlicePictureValue) × IsPicture tile slice
  has_picture tile less =
      let drawn = h.drawn.each tile less in
      let picture : PictureValue = record { planes = slice_index_or h.drawn.pictures tile []; spare_bits = drawn.0 } in
      let found = tile_slices.slice_found r profile tile (content_at links tile) picture drawn.1 in
      (found.0, (drawn.0, found.1, found.2))

  module _ (pictures : List SlicePictureValue) (count : length pictures ≡ tiles)
      (each : (tile : ℕ) (d : SlicePictureValue) → tile < tiles → IsPicture tile (get_or pictures tile d)) where
    abbrev headers : List SliceHeader
    headers = map (λ (slice : SlicePictureValue). slice.header) pictures

    header_there : (tile : ℕ) → tile < tiles → header_at headers tile ≡ (get_or pictures tile no_picture).header
    header_there tile less = get_or-map (λ (slice : SlicePictureValue). slice.header) pictures tile no_picture no_header (omega (arith, less, count))

    header_is : (tile : ℕ) → tile < tiles → IsHeaderAt r.setup.across tile (header_at headers tile)
    header_is tile less =
        let of = (each tile no_picture less).2 in
        subst (IsHeaderAt r.setup.across tile) (sym (header_there tile less)) (record { column = of.column; row = of.row; width = of.width; height = of.height })

    has_header : (tile : ℕ) → tile < tiles → HasSliceHeader r (listed_slice slices tile) (tile == 0) (header_at headers tile)
    has_header tile less =
        let is = (each tile no_picture less).1 in
        subst (HasSliceHeader r (listed_slice slices tile) (tile == 0)) (sym (header_there tile less))
        (record {
          parity = λ ec. subst PassesParity (sym (slice_there tile less)) (is_slice tile less).passes;
          start = is.start;
          is_header =
              subst (λ content. IsSliceHeaderOf r content (tile == 0) (get_or pictures tile no_picture).header is.start) (sym (content_there tile less)) is.is_header;
        })

    some_tile : 1 ≤ tiles
    some_tile = let product : 1 * 1 ≤ r.setup.across * r.setup.down = mul-le-mul profile.setup.some_across profile.setup.some_down in omega (arith, product)

    laid_out : IsLaidOut r payload slices headers
    laid_out =
        record {
          are_slices = record {
            cut = subst (λ ec. AreCutAt (footer_length ec) payload (length payload) slices) (sym profile.ec) (links_are_cut payload h.ordered.chain.whole);
            some = omega (arith, slices_count, some_tile);
            few = omega (arith, slices_count);
          };
          count = length-map pictures (λ (slice : SlicePictureValue). slice.header) ∙ count ∙ sym slices_count;
          each = λ tile less. has_header tile (omega (arith, less, slices_count));
          apart = λ k j less before shared.
              let same = none_shared r.setup.across j k (header_at headers j) (header_at headers k) (header_is j (omega (arith, less, before, slices_count)))
              (header_is k (omega (arith, less, slices_count))) shared in
              omega (arith, same, before);
          covered = λ tile less. (tile, omega (arith, less, slices_count), has_own r.setup.across tile (header_at headers tile) (header_is tile less));
        }

    is_keyframe : is_key headers ≡ true
    is_keyframe =
        let first : 0 < tiles = omega (arith, some_tile) in
        ap (λ (header : SliceHeader). is_one header.key) (header_there 0 first) ∙ ap is_one (each 0 no_picture first).2.key

    begins : (last : Option (List LeftValue)) → BeginsWith r headers last []
    begins last =
        subst (λ key. MatchBool key (◌≡◌ {A = List LeftValue} [] []) ((last ≡ Some []) × FrameGoesOn r headers [])) (sym is_keyframe) refl

    have : HavePictures r slices [] pictures (length slices)
    have = (
      count ∙ sym slices_count,
      λ tile d less.
          let inside : tile < tiles = omega (arith, less, slices_count) in
          subst (λ content. IsSlicePicture r content (tile == 0) None (get_or pictures tile d)) (sym (content_there tile inside)) (each tile d inside).1,
    )

    picture_at : (tile : ℕ) (d : SlicePictureValue) → tile < length pictures → IsPictureAt r tile (slice_index_or h.drawn.pictures tile []) (get_or pictures tile d)
    picture_at tile d less =
        let of = (each tile d (omega (arith, less, count))).2 in
        record { rect = tile_slices.rect_is (grid_of r.setup) tile _ _ _ _ of.column of.row of.width of.height; planes_are = of.planes }

    few_ends : length (map slice_end_of pictures) < 2 ^ 63
    few_ends = let long = length-map pictures slice_end_of in omega (arith, long, count, profile.setup.few_tiles)

    samples : Samples
    samples = record {
      width = frame.width;
      height = frame.height;
      shift_h = frame.shift_h;
      shift_v = frame.shift_v;
      is_rgb = false;
      has_alpha = false;
      depth = 8;
      key = true;
      planes = frame.planes;
      slices = ends_vec frame.planes (map slice_end_of pictures) few_ends;
    }

    played : (last : Option (List LeftValue)) → IsPlayedFrame r last payload samples (map left_by pictures)
    unfolding samples ends_vec
    played last = record {
      slices = slices;
      headers = headers;
      laid_out = laid_out;
      before = [];
      begins = begins last;
      pictures = pictures;
      have = have;
      is_frame = record {
        width = h.drawn.is_frame.width;
        height = h.drawn.is_frame.height;
        shift_h = h.drawn.is_frame.shift_h;
        shift_v = h.drawn.is_frame.shift_v;
        is_rgb = sym profile.is_rgb;
        has_alpha = sym profile.has_alpha;
        depth = sym profile.depth;
        is_key = sym is_keyframe;
        planes = h.drawn.is_frame.planes ∙ planes_are r profile h.drawn.pictures pictures (h.drawn.count ∙ sym count) picture_at;
        slices = refl;
      };
      is_left = refl;
    }

    are_samples : AreSamplesOf frame samples
    unfolding samples
    are_samples = record { width = refl; height = refl; shift_h = refl; shift_v = refl; is_rgb = refl; has_alpha = refl; depth = refl; key = refl; planes = refl }

  frame_played : (last : Option (List LeftValue))
      → (samples : Samples) × (left : List LeftValue) × IsPlayedFrame r last payload samples left × AreSamplesOf frame samples
  frame_played last =
      let listed = all_listed IsPicture tiles has_picture in
      (samples listed.0 listed.1 listed.2, map left_by listed.0, played listed.0 listed.1 listed.2 last, are_samples listed.0 listed.1 listed.2)

-- ---- the law

pub frame_is_played : FrameIsPlayed
frame_is_played config width height setup r last payload frame s is h =
    let of = recording_is_of_profile config width height setup r s is in
    frame_played r of.1 payload frame (subst (λ (z : SetupValue). IsDecodedFrame z payload frame) of.0 h) last
