-- What is shown of a tile is its picture, and the tiles of a holding have one picture each.
use Rattle.std.proofs.Common.{◌≡◌, ℕ, suc, ◌^◌, ◌-◌, ◌<◌, Bool, true, false, List, [], ◌∷◌, length, map, get_or, Option, Some, None, Result, Ok, Err, IfOk, refl, sym, ap, ◌∙◌, subst, arith}
use Rattle.std.specs.Prelude.{◌==◌}
use Rattle.std.specs.declared.alloc.AllocError.{AllocError}
use Rattle.std.specs.List.{cons_option, range_with_len}
use Rattle.std.proofs.Math.Path.{fun_ext}
use Rattle.ffv1_range.specs.Setup.{RecordingValue, IsInVersion3}
use Rattle.ffv1_range.specs.declared.scope.Scope.TheVariants.{Parities}
use Rattle.ffv1_range.proofs.SetupLaws.{record_is_one, record_in_version_3}
use Rattle.ffv1_slice.specs.Slices.{content_of}
use Rattle.ffv1_holding.specs.Reels.{reel_tiles}
use Rattle.ffv1_holding.specs.Contents.{Contents}
use Rattle.ffv1_holding.specs.TileState.{StateOfTile, missing, settled, disputed, tile_state}
use Rattle.ffv1_samples.specs.States.{count_of_planes}
use Rattle.ffv1_samples.specs.Slices.{SlicePictureValue, IsSamePicture}
use Rattle.ffv1_samples.proofs.OnePicture.{one_slice_picture}
use Rattle.ffv1_samples.proofs.Refusals.{refused_has_no_picture, refused_for_one}
use Rattle.ffv1_player.specs.Patches.{patched_plane}
use Rattle.ffv1_player.specs.Frames.{frame_in, patch_in, frame_planes, slice_end_of, IsFrameOfSlices}
use Rattle.ffv1_player.specs.Shown.{SaysRecording, MayBeByTile, IsShownSlice, IsShownTile, IsShownPicture, IsTilePicture, AreShownPictures, present, ShowsEachTile, ShowsHolding}
use Rattle.ffv1_player.specs.Alone.{IsSameOption, ComesOutAlike}
use Rattle.ffv1_player.specs.declared.samples.Samples.{Samples}
use Rattle.ffv1_player.specs.declared.shown.Shown.{Shown}
use Rattle.ffv1_player.specs.declared.shown.ShownTile.{ShownTile}
use Rattle.ffv1_player.specs.declared.shown.ShownTile.TheVariants.{Decoded, Missing, Disputed, NoKeyframe, Fault}
use Rattle.ffv1_player.proofs.OneFrame.{patch_same, end_same}

-- ---- one picture a tile

both_none : (r : RecordingValue) (a b : Option SlicePictureValue) → a ≡ None → b ≡ None → IsSameOption r a b
both_none r a b one other = subst (λ o. IsSameOption r o b) (sym one) (subst (IsSameOption r None) (sym other) tt)

module _ (r : RecordingValue) (version : IsInVersion3 r) (tile : ℕ) where
  shown_slice : (key : Bool) (slice : List ℕ) (outcome : ShownTile) (picture : Option SlicePictureValue) → IsShownSlice r key tile slice outcome picture
      → IsTilePicture r key tile (settled slice) picture
  shown_slice true slice (Decoded end) (Some picture) shown = shown.0
  shown_slice true slice (Fault cause) None shown =
      λ picture is. refused_has_no_picture r (content_of slice) (tile == 0) None cause picture version (λ header start is. tt) shown is
  shown_slice false slice NoKeyframe None shown = refl
  shown_slice key slice outcome picture shown = absurd shown

  pub picture_shown : (key : Bool) (state : StateOfTile) (outcome : ShownTile) (picture : Option SlicePictureValue) → IsShownTile r key tile state outcome picture
      → IsTilePicture r key tile state picture
  picture_shown key missing Missing None shown = refl
  picture_shown key (settled slice) outcome picture shown = shown_slice key slice outcome picture shown
  picture_shown key (disputed n) (Disputed slices) None shown = refl
  picture_shown key state outcome picture shown = absurd shown

  same_of_slice : (slice : List ℕ) (a b : Option SlicePictureValue) → IsShownPicture r tile slice a → IsShownPicture r tile slice b → IsSameOption r a b
  same_of_slice slice (Some a) (Some b) one other =
      one_slice_picture r (content_of slice) (tile == 0) None a b version (λ header start is. tt) one other
  same_of_slice slice (Some a) None one none = absurd (none a one)
  same_of_slice slice None (Some b) none other = absurd (none b other)
  same_of_slice slice None None none other = tt

  one_picture : (key : Bool) (state : StateOfTile) (a b : Option SlicePictureValue) → IsTilePicture r key tile state a → IsTilePicture r key tile state b
      → IsSameOption r a b
  one_picture key missing a b one other = both_none r a b one other
  one_picture true (settled slice) a b one other = same_of_slice slice a b one other
  one_picture false (settled slice) a b one other = both_none r a b one other
  one_picture key (disputed n) a b one other = both_none r a b one other

  -- ---- one outcome a tile

  slice_outcome : (key : Bool) (slice : List ℕ) (a b : ShownTile) (p q : Option SlicePictureValue) → IsShownSlice r key tile slice a p
      → IsShownSlice r key tile slice b q → a ≡ b
  slice_outcome true slice (Decoded end) (Decoded other) (Some p) (Some q) one more =
      ap Decoded (one.1 ∙ end_same r p q (one_slice_picture r (content_of slice) (tile == 0) None p q version (λ header start is. tt) one.0 more.0) ∙ sym more.1)
  slice_outcome true slice (Decoded end) (Fault cause) (Some p) None one more =
      absurd (refused_has_no_picture r (content_of slice) (tile == 0) None cause p version (λ header start is. tt) more one.0)
  slice_outcome true slice (Fault cause) (Decoded end) None (Some q) one more =
      absurd (refused_has_no_picture r (content_of slice) (tile == 0) None cause q version (λ header start is. tt) one more.0)
  slice_outcome true slice (Fault cause) (Fault other) None None one more =
      ap Fault (refused_for_one r (content_of slice) (tile == 0) None cause other version (λ header start is. tt) one more)
  slice_outcome false slice NoKeyframe NoKeyframe None None one more = refl
  slice_outcome true slice (Decoded end) b (Some p) q one more = absurd more
  slice_outcome true slice (Fault cause) b None q one more = absurd more
  slice_outcome false slice NoKeyframe b None q one more = absurd more
  slice_outcome key slice a b p q one more = absurd one

  one_outcome : (key : Bool) (state : StateOfTile) (a b : ShownTile) (p q : Option SlicePictureValue) → IsShownTile r key tile state a p
      → IsShownTile r key tile state b q → a ≡ b
  one_outcome key missing Missing Missing None None one more = refl
  one_outcome key (settled slice) a b p q one more = slice_outcome key slice a b p q one more
  one_outcome key (disputed n) (Disputed slices) (Disputed others) None None one more = ap Disputed (one ∙ sym more)
  one_outcome key missing Missing b None q one more = absurd more
  one_outcome key (disputed n) (Disputed slices) b None q one more = absurd more
  one_outcome key state a b p q one more = absurd one

-- a frame may be a keyframe, or not
one_key : (r : RecordingValue) (state : StateOfTile) (a b : Bool) → MayBeByTile r state a → MayBeByTile r state b → a ≡ b
one_key r missing a b one other = one ∙ sym other
one_key r (settled slice) true true one other = refl
one_key r (settled slice) true false one other = absurd (one other)
one_key r (settled slice) false true one other = absurd (other one)
one_key r (settled slice) false false one other = refl
one_key r (disputed n) a b one other = one ∙ sym other

-- ---- frames of the same pictures

module _ (r : RecordingValue) where
  module _ {B : Type 0} (f : SlicePictureValue → B) (same : (a b : SlicePictureValue) → IsSamePicture r a b → f a ≡ f b) where
    option_same : (x y : Option SlicePictureValue) (xs ys : List SlicePictureValue) → IsSameOption r x y → map f xs ≡ map f ys
        → map f (cons_option x xs) ≡ map f (cons_option y ys)
    option_same None None xs ys one later = later
    option_same None (Some y) xs ys one later = absurd one
    option_same (Some x) None xs ys one later = absurd one
    option_same (Some x) (Some y) xs ys one later = ap (λ z. z ∷ map f xs) (same x y one) ∙ ap (λ zs. f y ∷ zs) later

    present_same : (xs ys : List (Option SlicePictureValue)) → length xs ≡ length ys
        → ((k : ℕ) → k < length xs → IsSameOption r (get_or xs k None) (get_or ys k None)) → map f (present xs) ≡ map f (present ys)
    present_same [] [] long each = refl
    present_same [] (y ∷ ys) long each = absurd (omega (arith, long))
    present_same (x ∷ xs) [] long each = absurd (omega (arith, long))
    present_same (x ∷ xs) (y ∷ ys) long each =
        option_same x y (present xs) (present ys) (each 0 (omega arith))
        (present_same xs ys (omega (arith, long)) (λ k less. each (suc k) (omega (arith, less))))

  module _ (key : Bool) (xs ys : List (Option SlicePictureValue)) (long : length xs ≡ length ys)
      (each : (k : ℕ) → k < length xs → IsSameOption r (get_or xs k None) (get_or ys k None)) where
    planes_same : frame_planes r (present xs) ≡ frame_planes r (present ys)
    planes_same =
        ap (λ (f : ℕ → List ℕ). map f (range_with_len 0 (count_of_planes r)))
        (fun_ext λ p. ap (patched_plane (2 ^ (r.depth - 1)) (frame_in r p).w (frame_in r p).h) (present_same (patch_in r p) (patch_same r p) xs ys long each))

    pub frame_same : (frame : Samples) → IsFrameOfSlices r key (present xs) frame → IsFrameOfSlices r key (present ys) frame
    frame_same frame is = record {
      width = is.width;
      height = is.height;
      shift_h = is.shift_h;
      shift_v = is.shift_v;
      is_rgb = is.is_rgb;
      has_alpha = is.has_alpha;
      depth = is.depth;
      is_key = is.is_key;
      planes = is.planes ∙ planes_same;
      slices = is.slices ∙ present_same slice_end_of (end_same r) xs ys long each;
    }

-- ---- a holding

module _ (h : Contents) (r : RecordingValue) (key : Bool) (pictures : List (Option SlicePictureValue)) (are : AreShownPictures h r key pictures) where
  of_tiles : (outcomes : List ShownTile) (frame : Samples) → ShowsEachTile h r key (reel_tiles h.reel) outcomes frame → IsFrameOfSlices r key (present pictures) frame
  of_tiles outcomes frame shows =
      let version = record_in_version_3 h.reel.config Parities h.reel.setup.width h.reel.setup.height r are.says in
      frame_same r key shows.pictures pictures (shows.count ∙ sym are.count)
      (λ tile less.
      let inside : tile < reel_tiles h.reel = omega (arith, less, shows.count) in
      one_picture r version tile key (tile_state h tile) _ _
      (picture_shown r version tile key (tile_state h tile) (get_or outcomes tile Missing) (get_or shows.pictures tile None) (shows.each tile inside))
      (are.each tile inside))
      frame shows.is_frame

  -- The frame that is shown is that of the pictures of the holding's tiles.
  whole_frame : (shown : Shown) → ShowsHolding h shown → IsFrameOfSlices r key (present pictures) shown.samples
  whole_frame shown shows =
      let same : shows.recording ≡ r =
      record_is_one h.reel.config Parities h.reel.setup.width h.reel.setup.height shows.recording r shows.says are.says in
      let may_be = subst (λ z. MayBeByTile z (tile_state h 0) shows.key) same shows.may_be in
      let tiles = subst (λ z. ShowsEachTile h z shows.key (reel_tiles h.reel) shown.tiles.items shown.samples) same shows.shows in
      of_tiles shown.tiles.items shown.samples
      (subst (λ k. ShowsEachTile h r k (reel_tiles h.reel) shown.tiles.items shown.samples) (one_key r (tile_state h 0) shows.key key may_be are.may_be) tiles)

  pub result_is_whole : (result : Result Shown AllocError) → IfOk result (ShowsHolding h) → IfOk result (λ shown. IsFrameOfSlices r key (present pictures) shown.samples)
  result_is_whole (Ok shown) shows = whole_frame shown shows
  result_is_whole (Err error) shows = tt

-- ---- two holdings

module _ (g h : Contents) (tile : ℕ) (reel : g.reel ≡ h.reel) (inside : tile < reel_tiles h.reel) (stands : tile_state g tile ≡ tile_state h tile) where
  in_other : tile < reel_tiles g.reel
  in_other = subst (λ z. tile < reel_tiles z) (sym reel) inside

  same_outcome : (shown other : Shown) → ShowsHolding g shown → ShowsHolding h other → shown.samples.key ≡ other.samples.key
      → get_or shown.tiles.items tile Missing ≡ get_or other.tiles.items tile Missing
  same_outcome shown other one more keys =
      let r = more.recording in
      let same : one.recording ≡ r =
      record_is_one h.reel.config Parities h.reel.setup.width h.reel.setup.height one.recording r (subst (λ z. SaysRecording z one.recording) reel one.says)
      more.says in
      let same_key : one.key ≡ more.key = sym one.shows.is_frame.is_key ∙ keys ∙ more.shows.is_frame.is_key in
      let a = get_or shown.tiles.items tile Missing in
      let p = get_or one.shows.pictures tile None in
      let version = record_in_version_3 h.reel.config Parities h.reel.setup.width h.reel.setup.height r more.says in
      one_outcome r version tile more.key (tile_state h tile) a (get_or other.tiles.items tile Missing) p (get_or more.shows.pictures tile None)
      (subst (λ z. IsShownTile z more.key tile (tile_state h tile) a p) same
      (subst (λ k. IsShownTile one.recording k tile (tile_state h tile) a p) same_key
      (subst (λ s. IsShownTile one.recording one.key tile s a p) stands (one.shows.each tile in_other))))
      (more.shows.each tile inside)

  same_tile_picture : (r : RecordingValue) (key : Bool) (pictures others : List (Option SlicePictureValue)) → AreShownPictures g r key pictures
      → AreShownPictures h r key others → IsSameOption r (get_or pictures tile None) (get_or others tile None)
  same_tile_picture r key pictures others are more =
      one_picture r (record_in_version_3 h.reel.config Parities h.reel.setup.width h.reel.setup.height r more.says) tile key (tile_state h tile) _ _
      (subst (λ s. IsTilePicture r key tile s (get_or pictures tile None)) stands (are.each tile in_other)) (more.each tile inside)

  pub tile_shown_alike : ComesOutAlike g h tile
  tile_shown_alike = record { outcome = same_outcome; picture = same_tile_picture }
