-- The text of the entries of two slices of tile 0 (samples 1 and 0 of a tile of one sample), in both versions, and of a digest; and which first
-- slices tell a file of any frames.
use Rattle.ffv1_hold.proofs.Common.{◌≡◌, ℕ, List, [], ◌∷◌, ◌++◌, refl, First, Second, FileEntry, magic, be2, be4, slice_text, origins_text, body_text, entries_text, true, false, true≢false, sym, subst, arith, Reel, IsOfAnyFrames, IsNoKeyframe, TellsMagic}
use Rattle.ffv1_range.specs.Setup.{SetupValue}
use Rattle.ffv1_range.specs.Coding.{bit_at, start_of}
use Rattle.ffv1_range.specs.Frames.{by_frames, HasKey}
use Rattle.ffv1_range.specs.declared.frames.Frames.TheVariants.{Any}
use Rattle.ffv1_range.specs.TileHeaders.{profile_rules}
use Rattle.ffv1_range.proofs.KeyLaws.{one_key}
use Rattle.ffv1_slice.specs.Slices.{content_of}

abbrev zero_sample : List ℕ
zero_sample = 253 ∷ 246 ∷ 128 ∷ 0 ∷ 0 ∷ 3 ∷ 0 ∷ 28 ∷ 62 ∷ 160 ∷ 155 ∷ []

abbrev one_sample : List ℕ
one_sample = 253 ∷ 246 ∷ 64 ∷ 0 ∷ 0 ∷ 3 ∷ 0 ∷ 23 ∷ 96 ∷ 165 ∷ 121 ∷ []

abbrev both_slices : List FileEntry
both_slices = ((0, one_sample), []) ∷ ((0, zero_sample), []) ∷ []

first_text : entries_text First both_slices
    ≡ 1 ∷ 0 ∷ 0 ∷ 0 ∷ 0 ∷ 0 ∷ 11 ∷ 253 ∷ 246 ∷ 64 ∷ 0 ∷ 0 ∷ 3 ∷ 0 ∷ 23 ∷ 96 ∷ 165 ∷ 121 ∷
    1 ∷ 0 ∷ 0 ∷ 0 ∷ 0 ∷ 0 ∷ 11 ∷ 253 ∷ 246 ∷ 128 ∷ 0 ∷ 0 ∷ 3 ∷ 0 ∷ 28 ∷ 62 ∷ 160 ∷ 155 ∷ []
unfolding entries_text body_text slice_text be2 be4
first_text = refl

second_text : entries_text Second both_slices
    ≡ 1 ∷ 0 ∷ 0 ∷ 0 ∷ 0 ∷ 0 ∷ 11 ∷ 253 ∷ 246 ∷ 64 ∷ 0 ∷ 0 ∷ 3 ∷ 0 ∷ 23 ∷ 96 ∷ 165 ∷ 121 ∷ 0 ∷ 0 ∷ 0 ∷ 0 ∷
    1 ∷ 0 ∷ 0 ∷ 0 ∷ 0 ∷ 0 ∷ 11 ∷ 253 ∷ 246 ∷ 128 ∷ 0 ∷ 0 ∷ 3 ∷ 0 ∷ 28 ∷ 62 ∷ 160 ∷ 155 ∷ 0 ∷ 0 ∷ 0 ∷ 0 ∷ []
unfolding entries_text body_text slice_text origins_text be2 be4
second_text = refl

-- two digests, and the count before them
two_digests : (d e : List ℕ) → origins_text (d ∷ e ∷ []) ≡ 0 ∷ 0 ∷ 0 ∷ 2 ∷ (d ++ (e ++ []))
unfolding origins_text be4
two_digests d e = refl

first_magic : magic true First ≡ 70 ∷ 70 ∷ 86 ∷ 49 ∷ 72 ∷ 76 ∷ 68 ∷ 1 ∷ []
first_magic = refl

second_magic : magic true Second ≡ 70 ∷ 70 ∷ 86 ∷ 49 ∷ 72 ∷ 76 ∷ 68 ∷ 2 ∷ []
second_magic = refl

any_magic : magic false Second ≡ 70 ∷ 70 ∷ 86 ∷ 49 ∷ 65 ∷ 78 ∷ 89 ∷ 1 ∷ []
any_magic = refl

-- ---- files of any frames

-- the same sample's slice, where its keyframe bit is 0: its range coding begins below the half of the range
abbrev between_sample : List ℕ
between_sample = 125 ∷ 246 ∷ 128 ∷ 0 ∷ 0 ∷ 3 ∷ 0 ∷ 28 ∷ 62 ∷ 160 ∷ 155 ∷ []

between_key : (s : SetupValue) → IsNoKeyframe (by_frames Any (profile_rules s)) between_sample
unfolding bit_at start_of
between_key s = record { before = _; starts = refl; after = _; coded = refl }

keyframe_key : (s : SetupValue) → HasKey (by_frames Any (profile_rules s)) (content_of one_sample) true
unfolding bit_at start_of
keyframe_key s = record { before = _; starts = refl; after = _; coded = refl }

module _ (r : Reel) (s : SetupValue) (is : r.rules ≡ by_frames Any (profile_rules s)) (any : IsOfAnyFrames r) where
  -- the first slice has the bit 0
  between_row : TellsMagic r (((0, between_sample), []) ∷ ((0, one_sample), []) ∷ [])
  between_row _ = (refl, subst (λ rules. IsNoKeyframe rules between_sample) (sym is) (between_key s))

  -- it has the bit 1
  keyframe_row : TellsMagic r (((0, one_sample), []) ∷ []) → ⊥
  keyframe_row tells =
      true≢false (one_key (by_frames Any (profile_rules s)) (content_of one_sample) true false (keyframe_key s)
      (subst (λ rules. IsNoKeyframe rules one_sample) is (tells any).1))

  -- it is of another tile
  other_tile_row : TellsMagic r (((1, between_sample), []) ∷ []) → ⊥
  other_tile_row tells = let tile = (tells any).0 in omega arith

  -- there is none
  no_entry_row : TellsMagic r [] → ⊥
  no_entry_row none = none any
