-- Which slices can be first, and that a holding of any frames without one between keyframes is one by the record's own rules.
use Rattle.ffv1_hold.proofs.Common.{◌≡◌, ℕ, Bool, true, false, List, Option, Some, None, Result, Ok, Err, IfOk, refl, sym, ap, ◌∙◌, subst, true≢false, RecordingValue, is_in_profile, TileRules, IsSliceOf, Reel, reel_of, in_frames, IsRecordReel, IsOwnReel, IsOfAnyFrames, IsNoKeyframe}
use Rattle.std.specs.Prelude.{is_some}
use Rattle.std.specs.Result.{is_ok}
use Rattle.ffv1_range.specs.Frames.{by_frames, asks_keyframes, HasKey}
use Rattle.ffv1_range.specs.declared.frames.Frames.{Frames}
use Rattle.ffv1_range.specs.declared.frames.Frames.TheVariants.{Ruled, Any}
use Rattle.ffv1_range.specs.TileHeaders.{IsTileContent, tile_mode, tile_bytes}
use Rattle.ffv1_range.specs.SliceHeader.{field_count}
use Rattle.ffv1_range.specs.Header.{IsHeaderOf}
use Rattle.ffv1_range.proofs.KeyLaws.{one_key, profile_key}
use Rattle.ffv1_slice.specs.Slices.{content_of}
use Rattle.ffv1_slice.specs.declared.slice.LinkFault.{LinkFault}
use Rattle.ffv1_slice.proofs.KeyframeLaws.{any_frames_are_wider}
use Rattle.ffv1_holding.proofs.Reels.{own_one, own_record}

-- a reel is of any frames exactly where what its record says is of the profile, and its slices are not
module _ (r : Reel) (recording : RecordingValue) (own : IsOwnReel (reel_of r.config recording) r) (b : Bool) (is : b ≡ is_in_profile recording) where
  pub wide_is : r.rules.is_profile ≡ false → b ≡ true → IsOfAnyFrames r
  wide_is not_profile within = (not_profile, (reel_of r.config recording, own, sym is ∙ within))

  pub of_wide : IsOfAnyFrames r → b ≡ true
  of_wide wide = is ∙ ap (λ (x : Reel). x.rules.is_profile) (own_one r (reel_of r.config recording) wide.1.0 own wide.1.1) ∙ wide.1.2

-- what is read as a slice at its payload's start is one of the first tile
pub ok_is : (rules : TileRules) (slice : List ℕ) (read : Result ℕ LinkFault) → is_ok read ≡ true → IfOk read (λ tile. IsSliceOf rules slice true tile)
    → IsSliceOf rules slice true 0
ok_is rules slice (Ok tile) ok is = subst (λ t. IsSliceOf rules slice true t) (is.content.first_tile.0 refl) is
ok_is rules slice (Err fault) ok is = absurd (true≢false (sym ok))

-- a keyframe bit stands in any frames where it stands by the rules
pub key_of : (frames : Frames) (rules : TileRules) (content : List ℕ) (bit : Bool) → HasKey (by_frames frames rules) content bit → HasKey rules content bit
key_of frames rules content bit h = record { before = h.before; starts = h.starts; after = h.after; coded = h.coded }

key_in : (frames : Frames) (rules : TileRules) (content : List ℕ) (bit : Bool) → HasKey rules content bit → HasKey (by_frames frames rules) content bit
key_in frames rules content bit h = record { before = h.before; starts = h.starts; after = h.after; coded = h.coded }

-- a content that is its payload's first has one
first_key : (rules : TileRules) (content : List ℕ) (tile : ℕ) → IsTileContent rules content true tile → (bit : Bool) × HasKey rules content bit
first_key rules content tile h = go h.key h.has_key h.header
  where
    go : (key : Option Bool) → is_some key ≡ true
        → IsHeaderOf (tile_mode rules) (field_count rules.has_alpha) (tile_bytes rules content) key h.fields h.end → (bit : Bool) × HasKey rules content bit
    go None none header = absurd (true≢false (sym none))
    go (Some bit) some header = (bit, record { before = header.before_key; starts = header.start; after = header.after_key; coded = header.keyed })

-- a first slice of any frames is none by the rules of the profile exactly where its keyframe bit is 0
module _ (frames : Frames) (rules : TileRules) (profile : rules.is_profile ≡ true) (wide : asks_keyframes frames rules.is_profile ≡ false) (slice : List ℕ) where
  between_keyframes : (bit : Bool) → HasKey rules (content_of slice) bit → IsSliceOf (by_frames Any rules) slice true 0
      → (IsSliceOf rules slice true 0 → ⊥) → HasKey rules (content_of slice) false
  between_keyframes false key is none = key
  between_keyframes true key is none =
      absurd (none (any_frames_are_wider.narrower rules slice true 0 is (λ _ other. true≢false (one_key rules (content_of slice) true false key other))))

  any_slice : (f : Frames) → asks_keyframes f rules.is_profile ≡ false → IsSliceOf (by_frames f rules) slice true 0 → IsSliceOf (by_frames Any rules) slice true 0
  any_slice Ruled of is = absurd (true≢false (sym profile ∙ of))
  any_slice Any of is = is

  none_is_between : IsSliceOf (by_frames frames rules) slice true 0 → (IsSliceOf rules slice true 0 → ⊥) → HasKey rules (content_of slice) false
  none_is_between is none =
      let key = first_key (by_frames frames rules) (content_of slice) 0 is.content in
      between_keyframes key.0 (key_of frames rules (content_of slice) key.0 key.1) (any_slice frames wide is) none

  between_is_none : IsNoKeyframe (by_frames frames rules) slice → IsSliceOf rules slice true 0 → ⊥
  between_is_none key is =
      true≢false (one_key rules (content_of slice) true false (profile_key rules (content_of slice) 0 profile is.content)
      (key_of frames rules (content_of slice) false key))

-- a slice between keyframes is none by the record's own rules
pub between_is_own : (r own : Reel) → IsOwnReel own r → IsOfAnyFrames r → (slice : List ℕ) → IsNoKeyframe r.rules slice → IsSliceOf own.rules slice true 0 → ⊥
between_is_own r own is wide slice key of =
    let profile = ap (λ (x : Reel). x.rules.is_profile) (own_one r own wide.1.0 is wide.1.1) ∙ wide.1.2 in
    let asks = ap (λ (x : Reel). x.rules.is_profile) (sym is.1.1) ∙ wide.0 in
    between_is_none is.1.0 own.rules profile asks slice (subst (λ (x : Reel). IsNoKeyframe x.rules slice) is.1.1 key) of

-- its record is of the profile
pub wide_profile : (r own : Reel) → IsOwnReel own r → IsOfAnyFrames r → own.rules.is_profile ≡ true
wide_profile r own is wide = ap (λ (x : Reel). x.rules.is_profile) (own_one r own wide.1.0 is wide.1.1) ∙ wide.1.2

-- a recording by its record's own rules is not of any frames of the profile
pub own_not_wide : (r : Reel) → IsRecordReel r → IsOfAnyFrames r → ⊥
own_not_wide r is wide =
    true≢false (sym wide.1.2 ∙ ap (λ (x : Reel). x.rules.is_profile) (own_record r wide.1.0 is wide.1.1) ∙ wide.0)

-- what it says of the keyframe bit whether a first slice is one by the record's own rules
module _ (r own : Reel) (is_own : IsOwnReel own r) (wide : IsOfAnyFrames r) (slice : List ℕ) (b : Bool) (of : IsSliceOf own.rules slice true 0 → b ≡ true)
    (to : b ≡ true → IsSliceOf own.rules slice true 0) where
  same : r ≡ in_frames is_own.1.0 own
  same = is_own.1.1

  profile : own.rules.is_profile ≡ true
  profile = wide_profile r own is_own wide

  asks : asks_keyframes is_own.1.0 own.rules.is_profile ≡ false
  asks = ap (λ (x : Reel). x.rules.is_profile) (sym same) ∙ wide.0

  pub refused_key : IsSliceOf r.rules slice true 0 → b ≡ false → HasKey own.rules (content_of slice) false
  refused_key is refused =
      none_is_between is_own.1.0 own.rules profile asks slice (subst (λ (x : Reel). IsSliceOf x.rules slice true 0) same is)
      (λ own_is. true≢false (sym (of own_is) ∙ refused))

  pub refused_between : IsSliceOf r.rules slice true 0 → b ≡ false → IsNoKeyframe r.rules slice
  refused_between is refused =
      subst (λ (x : Reel). IsNoKeyframe x.rules slice) (sym same) (key_in is_own.1.0 own.rules (content_of slice) false (refused_key is refused))

  pub between_refused : IsNoKeyframe r.rules slice → b ≡ false
  between_refused key = go b refl
    where
      go : (x : Bool) → b ≡ x → b ≡ false
      go false is = is
      go true is = absurd (between_is_own r own is_own wide slice key (to is))

  pub own_keyframe : b ≡ true → HasKey own.rules (content_of slice) true
  own_keyframe is = profile_key own.rules (content_of slice) 0 profile (to is).content
