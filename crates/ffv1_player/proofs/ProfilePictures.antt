-- A holding of the profile is shown with the planes of its partial picture: each of its tiles has a picture in both, or in neither.
use Rattle.std.proofs.Common.{◌≡◌, ℕ, ◌+◌, ◌<◌, Bool, true, false, List, get_or, Option, Some, None, refl, sym, ap, ◌∙◌, subst, arith}
use Rattle.std.specs.Prelude.{◌==◌, ◌/◌, ◌%◌, MatchOption, is_some, slice_index, if◌then◌else◌}
use Rattle.std.proofs.lemmas.Nat.{div-mul-add, mod-mul-add}
use Rattle.ffv1_range.specs.Setup.{SetupValue, RecordingValue, IsScopedRecord, IsOfProfile, IsInVersion3, IsSetupOf, IsRecordingOf}
use Rattle.ffv1_range.specs.Scopes.{accepts_key}
use Rattle.ffv1_range.specs.Tiles.{grid_of, tile_count}
use Rattle.ffv1_range.specs.SliceHeader.{slice_header_with, IsSliceHeaderOf}
use Rattle.ffv1_range.specs.TileHeaders.{TileRules, IsTileContent, rules_of, scope_by}
use Rattle.ffv1_range.specs.declared.head.SliceHeader.{SliceHeader}
use Rattle.ffv1_range.specs.declared.head.SliceStart.{SliceStart}
use Rattle.ffv1_range.specs.declared.head.SliceStart.TheVariants.{Codes}
use Rattle.ffv1_range.specs.declared.scope.Scope.TheVariants.{Profile, Parities}
use Rattle.ffv1_range.proofs.SetupLaws.{record_is_one, record_in_version_3, parities_are_wider, recording_is_of_profile, setup_is_in_profile}
use Rattle.ffv1_slice.specs.Slices.{content_of}
use Rattle.ffv1_plane.specs.Picture.{PictureValue, IsPictureOf}
use Rattle.ffv1_plane.proofs.Pictures.{one_reading_is}
use Rattle.ffv1_holding.specs.Reels.{Reel, reel_tiles}
use Rattle.ffv1_holding.specs.Contents.{Contents, IsHolding}
use Rattle.ffv1_holding.specs.TileState.{StateOfTile, missing, settled, disputed, tile_state}
use Rattle.ffv1_holding.proofs.Reels.{profile_reel, profile_record_reel}
use Rattle.ffv1_samples.specs.Slices.{SlicePictureValue, IsSlicePicture}
use Rattle.ffv1_samples.specs.Profile.{IsSliceOfTile}
use Rattle.ffv1_samples.proofs.OnePicture.{one_header}
use Rattle.ffv1_samples.proofs.TileSlices as tile_slices
use Rattle.ffv1_picture.specs.WholePicture.{Planes, whole_picture}
use Rattle.ffv1_picture.specs.TilePictures.{SpellsPlanes, IsPictureOfSlice}
use Rattle.ffv1_picture.specs.PartialPictures.{IsPictureOfTile}
use Rattle.ffv1_picture.proofs.OnePicture.{shown_picture}
use Rattle.ffv1_holding.proofs.SettledSlices.{settled_entry}
use Rattle.ffv1_player.specs.Shown.{MayBeByTile, IsShownPicture, IsTilePicture}
use Rattle.ffv1_player.specs.ProfilePictures.{ProfileIsShownAlike}
use Rattle.ffv1_player.proofs.OneShown.{picture_shown}
use Rattle.ffv1_player.proofs.TilePlanes.{IsPictureAt, AreAlike, alike_planes}

-- ---- the header of a slice of one tile

bit_is : (first : Bool) (key : Option Bool) → is_some key ≡ first → MatchOption key (Unit {0}) (λ bit. accepts_key Profile bit ≡ true)
    → key ≡ (if first then Some true else None)
bit_is true (Some bit) has takes = ap Some takes
bit_is false None has takes = refl
bit_is true None has takes = absurd cc
bit_is false (Some bit) has takes = absurd cc

some_true_false : Some true ≡ Some false → ⊥
some_true_false same = cc

module _ (r : RecordingValue) (profile : IsOfProfile r) (tile : ℕ) (content : List ℕ) (of : IsTileContent (rules_of r) content (tile == 0) tile)
    (keys : (rules_of r).is_profile ≡ true) where
  abbrev header : SliceHeader
  header = slice_header_with r.has_alpha of.key of.fields

  abbrev start : SliceStart
  start = Codes (of.goes_on (ap (λ n. n == 0) profile.coder)).0

  is_header : IsSliceHeaderOf r content (tile == 0) header start
  is_header = record {
    fields = of.fields;
    end = of.end;
    coded = of.header;
    has_key = of.has_key;
    fits = record {
      columns = omega (arith, of.column, of.width);
      rows = omega (arith, of.row, of.height);
      tables = of.tables;
    };
    values = refl;
    follows = (profile.coder, (of.goes_on (ap (λ n. n == 0) profile.coder)).1);
  }

  column : slice_index of.fields 0 ≡ tile % r.setup.across
  column = sym (ap (λ n. n % r.setup.across) of.of_tile ∙ mod-mul-add (slice_index of.fields 1) r.setup.across (slice_index of.fields 0) of.column)

  row : slice_index of.fields 1 ≡ tile / r.setup.across
  row = sym (ap (λ n. n / r.setup.across) of.of_tile ∙ div-mul-add (slice_index of.fields 1) r.setup.across (slice_index of.fields 0) of.column)

  key_is : of.key ≡ (if tile == 0 then Some true else None)
  key_is = bit_is (tile == 0) of.key of.has_key
      (subst (λ b. MatchOption of.key (Unit {0}) (λ bit. accepts_key (scope_by b) bit ≡ true)) keys of.takes_key)

  -- any picture of the slice is the tile's
  of_tile : (slice : SlicePictureValue) → IsSlicePicture r content (tile == 0) None slice
      → IsSliceOfTile r.setup tile (record { planes = slice.planes; spare_bits = slice.spare_bits }) slice
  of_tile slice is =
      let same : slice.header ≡ header = ap (λ (z : SliceHeader × SliceStart). z.0)
      (one_header r content (tile == 0) slice.header header is.start start is.is_header is_header) in
      record {
        column = ap (λ (z : SliceHeader). z.x) same ∙ column;
        row = ap (λ (z : SliceHeader). z.y) same ∙ row;
        width = ap (λ (z : SliceHeader). z.w) same ∙ ap (λ n. n + 1) of.width;
        height = ap (λ (z : SliceHeader). z.h) same ∙ ap (λ n. n + 1) of.height;
        key = ap (λ (z : SliceHeader). z.key) same ∙ key_is;
        planes = refl;
        spare_bits = refl;
      }

-- ---- one tile

module _ (h : Contents) (is : IsHolding h) (profile : h.reel.rules.is_profile ≡ true) (r : RecordingValue)
    (says : IsScopedRecord h.reel.config Parities h.reel.setup.width h.reel.setup.height r) where
  abbrev setup : SetupValue
  setup = h.reel.setup

  setup_of : IsSetupOf h.reel.config setup.width setup.height setup
  setup_of = (profile_reel h.reel is.reel profile).0

  recording_of : IsRecordingOf h.reel.config setup.width setup.height r
  recording_of = parities_are_wider h.reel.config setup.width setup.height r says

  of_profile : (setup ≡ r.setup) × IsOfProfile r
  of_profile = recording_is_of_profile h.reel.config setup.width setup.height setup r setup_of recording_of

  version : IsInVersion3 r
  version = record_in_version_3 h.reel.config Parities setup.width setup.height r says

  rules_are : h.reel.rules ≡ rules_of r
  rules_are =
      let own = profile_record_reel h.reel is.reel profile in
      ap (λ (reel : Reel). reel.rules) own.2 ∙ ap rules_of (record_is_one h.reel.config Parities setup.width setup.height own.0 r own.1 says)

  keys : (rules_of r).is_profile ≡ true
  keys = ap (λ (rules : TileRules). rules.is_profile) (sym rules_are) ∙ profile

  content_is : (tile : ℕ) (slice : List ℕ) → tile_state h tile ≡ settled slice → IsTileContent (rules_of r) (content_of slice) (tile == 0) tile
  content_is tile slice stands =
      subst (λ rules. IsTileContent rules (content_of slice) (tile == 0) tile) rules_are (settled_entry h is tile slice stands).slice.content

  -- A holding of the profile may be of a keyframe.
  may_be : (state : StateOfTile) (key : Bool) → tile_state h 0 ≡ state → MayBeByTile r state key → key ≡ true
  may_be missing key stands is_key = is_key
  may_be (disputed n) key stands is_key = is_key
  may_be (settled slice) true stands is_key = refl
  may_be (settled slice) false stands none =
      let of = content_is 0 slice stands in
      let one = one_header r (content_of slice) true none.0 (header r of_profile.1 0 (content_of slice) of keys) none.1 (start r of_profile.1 0 (content_of slice) of keys)
      none.2 (is_header r of_profile.1 0 (content_of slice) of keys) in
      absurd (some_true_false (sym (ap (λ (z : SliceHeader × SliceStart). z.0.key) one ∙ key_is r of_profile.1 0 (content_of slice) of keys) ∙ none.3))

  module _ (tile : ℕ) (less : tile < tile_count (grid_of setup)) where
    spelled : (slice : List ℕ) → tile_state h tile ≡ settled slice → (picture : SlicePictureValue) → IsSlicePicture r (content_of slice) (tile == 0) None picture
        → IsPictureOf setup tile (content_of slice) (record { planes = picture.planes; spare_bits = picture.spare_bits })
    spelled slice stands picture shown =
        let value : PictureValue = record { planes = picture.planes; spare_bits = picture.spare_bits } in
        let of = of_tile r of_profile.1 tile (content_of slice) (content_is tile slice stands) keys picture shown in
        (tile_slices.tile_is_slice h.reel.config setup.width setup.height setup r tile (content_of slice) value setup_of recording_of).1
        (picture, shown, subst (λ z. IsSliceOfTile z tile value picture) (sym of_profile.0) of)

    picture_at : (slice : List ℕ) → tile_state h tile ≡ settled slice → (planes : Planes) (spare : ℕ) (picture : SlicePictureValue)
        → SpellsPlanes setup tile (content_of slice) planes spare → IsSlicePicture r (content_of slice) (tile == 0) None picture
        → IsPictureAt r tile planes picture
    picture_at slice stands planes spare picture spells shown =
        let of = of_tile r of_profile.1 tile (content_of slice) (content_is tile slice stands) keys picture shown in
        record {
          rect = tile_slices.rect_is (grid_of r.setup) tile _ _ _ _ of.column of.row of.width of.height;
          planes_are = ap (λ (z : PictureValue). z.planes) (one_reading_is.pictures setup tile (content_of slice) _ _
              (setup_is_in_profile h.reel.config setup.width setup.height setup setup_of) less (spelled slice stands picture shown) spells);
        }

    slice_alike : (slice : List ℕ) → tile_state h tile ≡ settled slice → (planes : Option Planes) (picture : Option SlicePictureValue)
        → IsPictureOfSlice setup tile slice planes → IsShownPicture r tile slice picture → AreAlike r tile planes picture
    slice_alike slice stands None None one other = tt
    slice_alike slice stands (Some planes) (Some picture) one other = picture_at slice stands planes one.0 picture one.1 other
    slice_alike slice stands (Some planes) None one none =
        let found = (tile_slices.tile_is_slice h.reel.config setup.width setup.height setup r tile (content_of slice)
        (record { planes = planes; spare_bits = one.0 }) setup_of recording_of).0 one.1 in
        absurd (none found.0 found.1)
    slice_alike slice stands None (Some picture) none other = absurd (none picture.planes picture.spare_bits (spelled slice stands picture other))

    none_alike : (planes : Option Planes) (picture : Option SlicePictureValue) → planes ≡ None → picture ≡ None → AreAlike r tile planes picture
    none_alike planes picture one other = subst (λ o. AreAlike r tile o picture) (sym one) (subst (AreAlike r tile None) (sym other) tt)

    alike : (state : StateOfTile) → tile_state h tile ≡ state → (planes : Option Planes) (picture : Option SlicePictureValue)
        → IsPictureOfTile setup tile state planes → IsTilePicture r true tile state picture → AreAlike r tile planes picture
    alike missing stands planes picture one other = none_alike planes picture one other
    alike (settled slice) stands planes picture one other = slice_alike slice stands planes picture one other
    alike (disputed n) stands planes picture one other = none_alike planes picture one other

-- ---- the law

pub profile_is_shown_alike : ProfileIsShownAlike
profile_is_shown_alike h partial shown is profile pictures shows =
    let r = shows.recording in
    let of = of_profile h is profile r shows.says in
    let key = may_be h is profile r shows.says (tile_state h 0) shows.key refl shows.may_be in
    let each : (tile : ℕ) → tile < reel_tiles h.reel
    → AreAlike r tile (get_or pictures.pictures tile None) (get_or shows.shows.pictures tile None) = λ tile less.
    let picture = picture_shown r (version h is profile r shows.says) tile shows.key (tile_state h tile) _ _ (shows.shows.each tile less) in
    alike h is profile r shows.says tile less (tile_state h tile) refl _ _
    (shown_picture h.reel.setup tile (tile_state h tile) _ _ (pictures.each tile less))
    (subst (λ k. IsTilePicture r k tile (tile_state h tile) (get_or shows.shows.pictures tile None)) key picture) in (
      shows.shows.is_frame.depth ∙ of.1.depth,
      shows.shows.is_frame.planes
          ∙ sym (alike_planes r of.1 pictures.pictures shows.shows.pictures (pictures.count ∙ sym shows.shows.count)
          (λ tile less. each tile (omega (arith, less, shows.shows.count))))
          ∙ ap (λ (s : SetupValue). whole_picture (grid_of s) pictures.pictures) (sym of.0) ∙ sym pictures.is_frame.planes,
    )
