-- The tiles of a holding, shown one after the other.
use Rattle.std.proofs.Common.{◌≡◌, ℕ, ◌+◌, ◌-◌, ◌*◌, ◌≤◌, Bool, true, false, List, [], ◌∷◌, ◌++◌, length, get_or, Option, Some, None, Result, Ok, Err, IfOk, refl, sym, ap, ◌∙◌, subst, inl, inr, arith, length-take, append-nil}
use Rattle.std.specs.Prelude.{not}
use Rattle.std.specs.declared.alloc.AllocError.{AllocError}
use Rattle.std.specs.List.{cons_option}
use Rattle.std.specs.Option.{option_eq}
use mathlib.Core.Bool.{beq}
use Rattle.std.proofs.Math.Nat.{one-le-mul}
use Rattle.std.proofs.lemmas.Bool.{cases_order}
use Rattle.std.proofs.lemmas.List.{length-append, get_or_append_left, get_or_push}
use Rattle.std.proofs.lemmas.List.Elements.{filter_map-append}
use Rattle.ffv1_bits.specs.Limits.{slice_limit, payload_limit}
use Rattle.ffv1_range.specs.Setup.{SetupValue, RecordingValue, IsScopedRecord, IsInVersion3}
use Rattle.ffv1_range.specs.SliceHeader.{IsSliceHeaderOf, slice_header_read}
use Rattle.ffv1_range.specs.declared.head.SliceHeader.{SliceHeader}
use Rattle.ffv1_range.specs.declared.head.SliceStart.{SliceStart}
use Rattle.ffv1_range.specs.declared.head.HeadFault.{HeadFault}
use Rattle.ffv1_range.proofs.SetupLaws.{record_is_one}
use Rattle.ffv1_range.specs.declared.scope.Scope.TheVariants.{Parities}
use Rattle.ffv1_slice.specs.Slices.{content_of}
use Rattle.ffv1_holding.specs.Reels.{Reel, IsReel, reel_tiles}
use Rattle.ffv1_holding.specs.Contents.{Contents}
use Rattle.ffv1_holding.specs.TileState.{StateOfTile, settled, tile_state}
use Rattle.ffv1_holding.specs.TileStates.{state_shown}
use Rattle.ffv1_holding.specs.declared.standing.TileState.{TileState}
use Rattle.ffv1_holding.specs.declared.standing.TileState.TheVariants as states
use Rattle.ffv1_samples.specs.Slices.{SlicePictureValue}
use Rattle.ffv1_samples.proofs.OnePicture.{one_header, no_header}
use Rattle.ffv1_player.specs.Frames.{planes_of_samples, IsFrameOfSlices}
use Rattle.ffv1_player.specs.Shown.{SaysRecording, MayBeByTile, IsShownTile, present, ShowsEachTile}
use Rattle.ffv1_player.specs.Inner.Drawing.{AreFramePlanes}
use Rattle.ffv1_player.specs.Inner.Showing.{IsRecordingOfReel, HeadSaysNoKeyframe, AddsAny, ShowsSlice, ShowsOneTile}
use Rattle.ffv1_player.specs.declared.samples.Samples.{Samples}
use Rattle.ffv1_player.specs.declared.shown.ShownTile.{ShownTile}
use Rattle.ffv1_player.specs.declared.shown.ShownTile.TheVariants.{Missing, NoKeyframe}
use Rattle.ffv1_player.proofs.Sizes.{are_frame_planes}

-- what the record of a reel says has the reel's setup
pub reel_recording : (reel : Reel) → IsReel reel → (r : RecordingValue) → SaysRecording reel r → IsRecordingOfReel reel r
reel_recording reel is r says =
    let own = is.0 in
    let of = is.1.0 in
    let frames = is.1.1.1 in
    let moved : SaysRecording own r = subst (λ (z : Reel). SaysRecording z r) frames says in
    record {
      says = says;
      setup =
          ap (λ (z : RecordingValue). z.setup) (record_is_one own.config Parities own.setup.width own.setup.height r of.0 moved of.1)
          ∙ ap (λ (z : Reel). z.setup) (sym of.2) ∙ ap (λ (z : Reel). z.setup) (sym frames);
    }

pub record_at : (reel : Reel) (config : List ℕ) (width height : ℕ) (r : RecordingValue) → config ≡ reel.config → width ≡ reel.setup.width
    → height ≡ reel.setup.height → IsScopedRecord config Parities width height r → SaysRecording reel r
record_at reel config width height r same wide high is =
    subst (λ c. IsScopedRecord c Parities reel.setup.width reel.setup.height r) same
    (subst (λ w. IsScopedRecord config Parities w reel.setup.height r) wide (subst (λ z. IsScopedRecord config Parities width z r) high is))

-- a frame has a tile
pub some_tile : (reel : Reel) (r : RecordingValue) → IsInVersion3 r → r.setup ≡ reel.setup → 1 ≤ reel_tiles reel
some_tile reel r version same =
    subst (λ (s : SetupValue). 1 ≤ s.across * s.down) same (one-le-mul version.some_across version.some_down)

-- ---- the keyframe bit

key_is : (key : Option Bool) → true ≡ option_eq beq key (Some false) → key ≡ Some false
key_is None e = absurd (cc)
key_is (Some true) e = absurd (cc)
key_is (Some false) e = refl

key_is_not : (key : Option Bool) → false ≡ option_eq beq key (Some false) → key ≡ Some false → ⊥
key_is_not None e is = cc
key_is_not (Some true) e is = cc
key_is_not (Some false) e is = cc

module _ (r : RecordingValue) (slice : List ℕ) where
  -- by a header that was read
  pub says_by : (says : Bool) (header : SliceHeader) (start : SliceStart) → IsSliceHeaderOf r (content_of slice) true header start
      → says ≡ option_eq beq header.key (Some false) → HeadSaysNoKeyframe r slice says
  says_by true header start is by = (header, start, is, key_is header.key by)
  says_by false header start is by =
      λ other. key_is_not header.key by
      (ap (λ (z : SliceHeader × SliceStart). z.0.key) (one_header r (content_of slice) true header other.0 start other.1 is other.2) ∙ other.3)

  -- by one that can't be read
  pub says_nothing : (fault : HeadFault) → slice_header_read r (content_of slice) true ≡ Err fault → HeadSaysNoKeyframe r slice false
  says_nothing fault refused = λ other. no_header r (content_of slice) true other.0 other.1 fault refused other.2

  pub may_be_settled : (state : StateOfTile) (says : Bool) → settled slice ≡ state → HeadSaysNoKeyframe r slice says → MayBeByTile r state (not says)
  may_be_settled state true same is = subst (λ z. MayBeByTile r z false) same is
  may_be_settled state false same is = subst (λ z. MayBeByTile r z true) same is

-- a tile that is not settled says nothing
pub may_be_other : (r : RecordingValue) (shown : TileState) (state : StateOfTile) → state_shown shown ≡ state → ((slice : _) → shown ≡ states.Settled slice → ⊥)
    → MayBeByTile r state true
may_be_other r states.Missing state same other = subst (λ z. MayBeByTile r z true) same refl
may_be_other r (states.Settled slice) state same other = absurd (other slice refl)
may_be_other r (states.Disputed n) state same other = subst (λ z. MayBeByTile r z true) same refl

-- ---- one tile

module _ (h : Contents) (r : RecordingValue) (tile : ℕ) (slice : List ℕ) (old : Samples) (is : settled slice ≡ tile_state h tile) where
  pub tile_of_slice : (new : Samples) (result : Result ShownTile AllocError) → old.key ≡ true
      → IfOk result (λ outcome. ShowsSlice r true tile slice outcome old new) → IfOk result (λ outcome. ShowsOneTile h r tile outcome old new)
  tile_of_slice new (Ok outcome) key shows = record {
    picture = shows.picture;
    shown =
        subst (λ k. IsShownTile r k tile (tile_state h tile) outcome shows.picture) (sym key)
        (subst (λ z. IsShownTile r true tile z outcome shows.picture) is shows.shown);
    drawn = shows.drawn;
  }
  tile_of_slice new (Err error) key shows = tt

  pub tile_of_no_keyframe : old.key ≡ false → ShowsOneTile h r tile NoKeyframe old old
  tile_of_no_keyframe key = record {
    picture = None;
    shown =
        subst (λ k. IsShownTile r k tile (tile_state h tile) NoKeyframe None) (sym key) (subst (λ z. IsShownTile r false tile z NoKeyframe None) is tt);
    drawn = refl;
  }

-- ---- the content of a slice

-- the content of a slice is no longer than a payload
pub short_content : (slice : List ℕ) → length slice ≤ slice_limit → length (content_of slice) ≤ payload_limit
short_content slice short = omega (arith, length-take (length slice - 8) slice)

-- the pictures that there are, with one tile more
present_push : (pictures : List (Option SlicePictureValue)) (picture : Option SlicePictureValue)
    → present (pictures ++ picture ∷ []) ≡ present pictures ++ cons_option picture []
present_push pictures picture = filter_map-append (λ picture. picture) pictures (picture ∷ [])

module _ (h : Contents) (r : RecordingValue) (key : Bool) where
  pub shown_planes : (n : ℕ) (outcomes : List ShownTile) (frame : Samples) → ShowsEachTile h r key n outcomes frame → AreFramePlanes r (planes_of_samples frame)
  shown_planes n outcomes frame shown = are_frame_planes r (present shown.pictures) (planes_of_samples frame) shown.is_frame.planes

  pub none_shown : (outcomes : List ShownTile) (frame : Samples) → outcomes ≡ [] → IsFrameOfSlices r key [] frame → ShowsEachTile h r key 0 outcomes frame
  none_shown outcomes frame is blank =
      record { pictures = []; count = refl; stated = ap length is; each = λ tile less. absurd (omega (arith, less)); is_frame = blank }

  with_any : (pictures : List (Option SlicePictureValue)) (picture : Option SlicePictureValue) (old new : Samples)
      → IsFrameOfSlices r key (present pictures) old → AddsAny r picture old new → IsFrameOfSlices r key (present (pictures ++ picture ∷ [])) new
  with_any pictures None old new is same =
      subst (IsFrameOfSlices r key (present (pictures ++ None ∷ []))) (sym same)
      (subst (λ shown. IsFrameOfSlices r key shown old) (sym (present_push pictures None ∙ append-nil (present pictures))) is)
  with_any pictures (Some picture) old new is adds =
      subst (λ shown. IsFrameOfSlices r key shown new) (sym (present_push pictures (Some picture))) (adds key (present pictures) is)

  shown_more : (n : ℕ) (outcomes : List ShownTile) (outcome : ShownTile) (old new : Samples) → ShowsEachTile h r key n outcomes old
      → ShowsOneTile h r n outcome old new → ShowsEachTile h r key (n + 1) (outcomes ++ outcome ∷ []) new
  shown_more n outcomes outcome old new before more = record {
    pictures = before.pictures ++ more.picture ∷ [];
    count = omega (arith, length-append before.pictures (more.picture ∷ []), before.count);
    stated = omega (arith, length-append outcomes (outcome ∷ []), before.stated);
    each = λ tile lt. elim (cases_order tile n) [
      | inl is ↦
          let P : ShownTile → Type 0 = λ o. IsShownTile r key tile (tile_state h tile) o (get_or (before.pictures ++ more.picture ∷ []) tile None) in
          let Q : Option SlicePictureValue → Type 0 = λ p. IsShownTile r key tile (tile_state h tile) outcome p in
          let R : ℕ → Type 0 = λ t. IsShownTile r key t (tile_state h t) outcome more.picture in
          let here : R n = subst (λ k. IsShownTile r k n (tile_state h n) outcome more.picture) before.is_frame.is_key more.shown in
          subst P (sym (get_or_push outcomes outcome Missing tile (before.stated ∙ sym is)))
          (subst Q (sym (get_or_push before.pictures more.picture None tile (before.count ∙ sym is))) (subst R (sym is) here))
      | inr (inl less) ↦
          let P : ShownTile → Type 0 = λ o. IsShownTile r key tile (tile_state h tile) o (get_or (before.pictures ++ more.picture ∷ []) tile None) in
          let Q : Option SlicePictureValue → Type 0 = λ p. IsShownTile r key tile (tile_state h tile) (get_or outcomes tile Missing) p in
          subst P (sym (get_or_append_left outcomes (outcome ∷ []) Missing tile (omega (arith, before.stated))))
          (subst Q (sym (get_or_append_left before.pictures (more.picture ∷ []) None tile (omega (arith, before.count)))) (before.each tile less))
      | inr (inr above) ↦ absurd (omega arith)
    ];
    is_frame = with_any before.pictures more.picture old new before.is_frame more.drawn;
  }

  pub shown_push : (n : ℕ) (outcomes all : List ShownTile) (outcome : ShownTile) (old new : Samples) → all ≡ outcomes ++ outcome ∷ []
      → ShowsEachTile h r key n outcomes old → ShowsOneTile h r n outcome old new → ShowsEachTile h r key (n + 1) all new
  shown_push n outcomes all outcome old new is before more =
      subst (λ os. ShowsEachTile h r key (n + 1) os new) (sym is) (shown_more n outcomes outcome old new before more)
