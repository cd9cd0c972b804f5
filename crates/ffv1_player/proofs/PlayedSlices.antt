-- What is shown of a keyframe's slices is the frame.
use Rattle.std.proofs.Common.{◌≡◌, ◌==◌, ℕ, zero, suc, ◌+◌, ◌<◌, ◌≤◌, Bool, true, false, List, [], ◌∷◌, ◌++◌, length, take, map, get_or, Option, Some, None, refl, sym, ap, subst, ◌∙◌, arith}
use Rattle.std.specs.Prelude.{MatchBool, ◌-◌}
use Rattle.std.proofs.Math.Seq.{take-suc}
use Rattle.std.proofs.lemmas.Bool.{eqb-true}
use Rattle.std.proofs.lemmas.List.{take_all, length-map, get_or-map, ext_get_or}
use Rattle.ffv1_range.specs.TileHeaders.{TileRules}
use Rattle.ffv1_range.specs.Setup.{RecordingValue, IsInVersion3}
use Rattle.ffv1_range.specs.SliceHeader.{IsSliceHeaderOf}
use Rattle.ffv1_range.specs.declared.scope.Scope.TheVariants.{Parities}
use Rattle.ffv1_range.specs.declared.head.SliceHeader.{SliceHeader}
use Rattle.ffv1_range.specs.declared.head.SliceStart.{SliceStart}
use Rattle.ffv1_range.proofs.SetupLaws.{record_is_one, record_in_version_3}
use Rattle.ffv1_slice.specs.Slices.{content_of, IsOriginal}
use Rattle.ffv1_slice.specs.Near.{starts_at}
use Rattle.ffv1_slice.proofs.FoundLaws.{original_cut, bytes_of_tile}
use Rattle.ffv1_layout.specs.Cuts.{footer_length, AreCutAt, slice_content}
use Rattle.ffv1_layout.specs.Cuts.AreCutAt.{no_slice, one_slice}
use Rattle.ffv1_layout.specs.Layout.{listed_slice, header_at, HasSliceHeader}
use Rattle.ffv1_layout.proofs.OneLayout.{one_cut}
use Rattle.ffv1_samples.specs.Slices.{SlicePictureValue, IsSlicePicture}
use Rattle.ffv1_samples.proofs.OnePicture.{one_header, one_slice_picture}
use Rattle.ffv1_samples.proofs.Refusals.{refused_has_no_picture}
use Rattle.ffv1_holding.specs.Reels.{Reel}
use Rattle.ffv1_player.specs.Alone.{IsSameOption}
use Rattle.ffv1_player.specs.Frames.{slice_end_of, LeftValue, FrameGoesOn, is_one, is_key, HavePictures, IsPlayedFrame, IsFrameOfSlices}
use Rattle.ffv1_player.specs.Shown.{SaysRecording, SaysNoKeyframe, IsShownSlice, present}
use Rattle.ffv1_player.specs.ShownSlices.{ShowsEachSlice}
use Rattle.ffv1_player.specs.PlayedSlices.{IsFrameShown, KeyframeIsShown}
use Rattle.ffv1_player.specs.declared.samples.Samples.{Samples}
use Rattle.ffv1_player.specs.declared.shown.Shown.{Shown}
use Rattle.ffv1_player.specs.declared.shown.ShownTile.{ShownTile}
use Rattle.ffv1_player.specs.declared.shown.ShownTile.TheVariants.{Decoded, Missing, Fault}
use Rattle.ffv1_player.proofs.OneFrame.{end_same}
use Rattle.ffv1_player.proofs.OneShown.{frame_same}
use Rattle.ffv1_player.proofs.ProfileFrames.{no_picture}

-- ---- the slices that an original is cut into

module _ (rules : TileRules) (original : List ℕ) (slices : List (List ℕ)) (is : IsOriginal rules original slices) where
  cut_to : (k : ℕ) → k ≤ length slices → AreCutAt 8 original (starts_at slices k) (take k slices)
  unfolding starts_at
  cut_to zero few = no_slice refl refl
  cut_to (suc k) few =
      let less : k < length slices = omega (arith, few) in
      let next : k + 1 ≡ suc k = omega arith in
      subst (λ n. AreCutAt 8 original (starts_at slices n) (take (suc k) slices)) next
      (one_slice (starts_at slices k) (take k slices) ((original_cut rules original slices is).cut k less)
      (take-suc slices k [] less ∙ ap (λ s. take k slices ++ s ∷ []) (sym (bytes_of_tile rules original slices is k less)))
      (cut_to k (omega (arith, few))))

  original_is_cut : AreCutAt 8 original (length original) slices
  original_is_cut =
      subst (λ n. AreCutAt 8 original n slices) (original_cut rules original slices is).whole
      (subst (AreCutAt 8 original (starts_at slices (length slices))) (take_all (length slices) slices (omega arith)) (cut_to (length slices) (omega arith)))

  cut_is_original : (others : List (List ℕ)) → AreCutAt 8 original (length original) others → others ≡ slices
  cut_is_original others cut = one_cut 8 original (length original) others slices (omega arith) cut original_is_cut

-- ---- a slice that has a picture

present_all : (pictures : List SlicePictureValue) → present (map Some pictures) ≡ pictures
present_all [] = refl
present_all (picture ∷ pictures) = ap (λ more. picture ∷ more) (present_all pictures)

module _ (r : RecordingValue) (version : IsInVersion3 r) (tile : ℕ) (slice : List ℕ) (p : SlicePictureValue)
    (is : IsSlicePicture r (content_of slice) (tile == 0) None p) where
  same_shown : (outcome : ShownTile) (picture : Option SlicePictureValue) → IsShownSlice r true tile slice outcome picture
      → (outcome ≡ Decoded (slice_end_of p)) × IsSameOption r picture (Some p)
  same_shown (Decoded end) (Some q) shown =
      let same = one_slice_picture r (content_of slice) (tile == 0) None q p version (λ header start is. tt) shown.0 is in
      (ap Decoded (shown.1 ∙ end_same r q p same), same)
  same_shown (Fault cause) None shown =
      absurd (refused_has_no_picture r (content_of slice) (tile == 0) None cause p version (λ header start is. tt) shown is)
  same_shown outcome picture shown = absurd shown

-- ---- all slices

-- a frame after none is a keyframe
key_after_none : (r : RecordingValue) (headers : List SliceHeader) (before : List LeftValue) (key : Bool)
    → MatchBool key (before ≡ []) ((◌≡◌ {A = Option (List LeftValue)} None (Some before)) × FrameGoesOn r headers before) → key ≡ true
key_after_none r headers before true begins = refl
key_after_none r headers before false begins = let apart : ◌≡◌ {A = Option (List LeftValue)} None (Some before) = begins.0 in cc

module _ (reel : Reel) (r : RecordingValue) (original : List ℕ) (slices : List (List ℕ)) (shown : Shown) (frame : Samples) (left : List LeftValue)
    (says : SaysRecording reel r) (is_original : IsOriginal reel.rules original slices) (shows : ShowsEachSlice reel slices shown)
    (played : IsPlayedFrame r None original frame left) where
  version : IsInVersion3 r
  version = record_in_version_3 reel.config Parities reel.setup.width reel.setup.height r says

  has_parities : r.setup.ec ≡ 1
  has_parities = ap (λ (z : RecordingValue). z.setup.ec) says.is ∙ eqb-true says.fields.ec 1 says.accepted.ec

  same_recording : shows.recording ≡ r
  same_recording = record_is_one reel.config Parities reel.setup.width reel.setup.height shows.recording r shows.says says

  same_slices : played.slices ≡ slices
  same_slices =
      cut_is_original reel.rules original slices is_original played.slices
      (subst (λ ec. AreCutAt (footer_length ec) original (length original) played.slices) has_parities played.laid_out.are_slices.cut)

  content_is : (slice : List ℕ) → slice_content r slice ≡ content_of slice
  content_is slice = ap (λ ec. take (length slice - footer_length ec) slice) has_parities

  key_is : is_key played.headers ≡ true
  key_is = key_after_none r played.headers played.before (is_key played.headers) played.begins

  nothing_before : played.before ≡ []
  nothing_before = subst (λ key. MatchBool key (played.before ≡ []) ((None ≡ Some played.before) × FrameGoesOn r played.headers played.before)) key_is played.begins

  pictures_there : HavePictures r slices [] played.pictures (length slices)
  pictures_there =
      subst (λ before. HavePictures r slices before played.pictures (length slices)) nothing_before
      (subst (λ z. HavePictures r z played.before played.pictures (length z)) same_slices played.have)

  has_picture : (tile : ℕ) (d : SlicePictureValue) → tile < length slices → IsSlicePicture r (content_of (get_or slices tile [])) (tile == 0) None (get_or played.pictures tile d)
  has_picture tile d less =
      subst (λ content. IsSlicePicture r content (tile == 0) None (get_or played.pictures tile d)) (content_is (get_or slices tile [])) (pictures_there.1 tile d less)

  some : 0 < length slices
  some = subst (λ z. 0 < length z) same_slices played.laid_out.are_slices.some

  first_header : HasSliceHeader r (get_or slices 0 []) true (header_at played.headers 0)
  first_header =
      subst (λ z. HasSliceHeader r (listed_slice z 0) true (header_at played.headers 0)) same_slices
      (played.laid_out.each 0 played.laid_out.are_slices.some)

  says_key : SaysNoKeyframe r (get_or slices 0 []) → ⊥
  says_key none =
      let header = subst (λ content. IsSliceHeaderOf r content true (header_at played.headers 0) first_header.start) (content_is (get_or slices 0 [])) first_header.is_header in
      let same : header_at played.headers 0 ≡ none.0 =
      ap (λ (z : SliceHeader × SliceStart). z.0)
      (one_header r (content_of (get_or slices 0 [])) true (header_at played.headers 0) none.0 first_header.start none.1 header none.2) in
      let bit : true ≡ false = sym key_is ∙ ap (λ (z : SliceHeader). is_one z.key) same ∙ ap is_one none.3 in
      cc

  shown_key : (key : Bool) → MatchBool key (¬ SaysNoKeyframe r (get_or slices 0 [])) (SaysNoKeyframe r (get_or slices 0 [])) → key ≡ true
  shown_key true is = refl
  shown_key false is = absurd (says_key is)

  key_shown : shows.key ≡ true
  key_shown =
      shown_key shows.key
      (subst (λ z. MatchBool shows.key (¬ SaysNoKeyframe z (get_or slices 0 [])) (SaysNoKeyframe z (get_or slices 0 []))) same_recording shows.is_key)

  picture_count : length played.pictures ≡ length slices
  picture_count = pictures_there.0

  tile_shown : (tile : ℕ) (d : SlicePictureValue) → tile < length slices
      → (get_or shown.tiles.items tile Missing ≡ Decoded (slice_end_of (get_or played.pictures tile d)))
      × IsSameOption r (get_or shows.pictures tile None) (Some (get_or played.pictures tile d))
  tile_shown tile d less =
      let slice = get_or slices tile [] in
      let outcome = get_or shown.tiles.items tile Missing in
      let picture = get_or shows.pictures tile None in
      same_shown r version tile slice (get_or played.pictures tile d) (has_picture tile d less) outcome picture
      (subst (λ z. IsShownSlice z true tile slice outcome picture) same_recording
      (subst (λ k. IsShownSlice shows.recording k tile slice outcome picture) key_shown (shows.each tile less)))

  frame_is : IsFrameOfSlices r true played.pictures shown.samples
  frame_is =
      subst (λ ps. IsFrameOfSlices r true ps shown.samples) (present_all played.pictures)
      (frame_same r true shows.pictures (map Some played.pictures) (shows.count ∙ sym picture_count ∙ sym (length-map played.pictures Some))
      (λ tile less.
      let inside : tile < length slices = omega (arith, less, shows.count) in
      let d = get_or played.pictures tile no_picture in
      subst (IsSameOption r (get_or shows.pictures tile None)) (sym (get_or-map Some played.pictures tile no_picture None (omega (arith, inside, picture_count))))
      (tile_shown tile no_picture inside).1)
      shown.samples
      (subst (λ k. IsFrameOfSlices r k (present shows.pictures) shown.samples) key_shown
      (subst (λ z. IsFrameOfSlices z shows.key (present shows.pictures) shown.samples) same_recording shows.is_frame)))

  ends_are : shown.tiles.items ≡ map Decoded frame.slices.items
  ends_are =
      let long = length-map played.pictures slice_end_of in
      ext_get_or Missing shown.tiles.items (map Decoded frame.slices.items)
      (omega (arith, shows.stated, length-map frame.slices.items Decoded, ap length played.is_frame.slices, long, picture_count))
      (λ tile less.
      let inside : tile < length slices = omega (arith, less, shows.stated) in
      (tile_shown tile no_picture inside).0
      ∙ ap Decoded (sym (get_or-map slice_end_of played.pictures tile no_picture (slice_end_of no_picture) (omega (arith, inside, picture_count))))
      ∙ sym (get_or-map Decoded (map slice_end_of played.pictures) tile (slice_end_of no_picture) Missing (omega (arith, inside, long, picture_count)))
      ∙ ap (λ ends. get_or (map Decoded ends) tile Missing) (sym played.is_frame.slices))

  frame_shown : IsFrameShown frame shown
  frame_shown = record {
    samples = record {
      width = frame_is.width ∙ sym played.is_frame.width;
      height = frame_is.height ∙ sym played.is_frame.height;
      shift_h = frame_is.shift_h ∙ sym played.is_frame.shift_h;
      shift_v = frame_is.shift_v ∙ sym played.is_frame.shift_v;
      is_rgb = frame_is.is_rgb ∙ sym played.is_frame.is_rgb;
      has_alpha = frame_is.has_alpha ∙ sym played.is_frame.has_alpha;
      depth = frame_is.depth ∙ sym played.is_frame.depth;
      is_key = frame_is.is_key ∙ sym key_is ∙ sym played.is_frame.is_key;
      planes = frame_is.planes ∙ sym played.is_frame.planes;
      slices = frame_is.slices ∙ sym played.is_frame.slices;
    };
    ends = ends_are;
  }

pub keyframe_is_shown : KeyframeIsShown
keyframe_is_shown reel r original slices shown frame left says is_original shows played =
    frame_shown reel r original slices shown frame left says is_original shows played
