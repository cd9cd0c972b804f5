-- Of which frames slices are read (own), and the keyframe bit that tells whether one is a keyframe (RFC 9043, section 4.4).
use Rattle.std.specs.Prelude.{◌≡◌, ℕ, Bool, false, List, Ok}
use Rattle.ffv1_range.specs.Coding.{Coder, bit_at, start_of}
use Rattle.ffv1_range.specs.TileHeaders.{TileRules, tile_bytes}
use Rattle.ffv1_range.specs.declared.frames.Frames.{Frames}
use Rattle.ffv1_range.specs.declared.frames.Frames.TheVariants.{Ruled, Any}

-- whether frames have to be keyframes
abbrev pub asks_keyframes : Frames → Bool → Bool
asks_keyframes Ruled is_profile = is_profile
asks_keyframes Any is_profile = false

-- the rules of the slices of these frames: they differ in the keyframe bit alone
abbrev pub by_frames : Frames → TileRules → TileRules
by_frames frames rules =
    record {
      is_profile = asks_keyframes frames rules.is_profile;
      has_codes = rules.has_codes;
      transitions = rules.transitions;
      has_alpha = rules.has_alpha;
      limits = rules.limits;
    }

-- The content of a payload's first slice begins with this keyframe bit: the first of its range coding, at state 128.
pub record HasKey (rules : TileRules) (content : List ℕ) (bit : Bool) : Type 0 where
  pub before : Coder
  pub starts : start_of false (tile_bytes rules content) ≡ Ok before
  pub after : Coder
  pub coded : bit_at false before 128 ≡ Ok (bit, after)
