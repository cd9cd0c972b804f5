-- The keyframe bit, and what it says of a content's tile and of its first two bytes.
use Rattle.std.proofs.Common.{◌≡◌, ℕ, zero, suc, ◌+◌, ◌*◌, ◌<◌, ◌≤◌, Bool, true, false, List, [], ◌∷◌, ◌++◌, ◌-◌, take, Ok, Err, refl, sym, ap, ◌∙◌, subst, arith}
use Rattle.std.specs.Prelude.{Option, Some, None, MatchOption, is_some, not, nat_lt, if◌then◌else◌}
use Rattle.std.proofs.lemmas.Bool.{ltb-true, ltb-false}
use Rattle.ffv1_range.specs.Coding.{Coder, bit_at, start_of, refilled}
use Rattle.ffv1_range.specs.Results.{◌>>>◌}
use Rattle.ffv1_range.specs.Header.{IsHeaderOf}
use Rattle.ffv1_range.specs.SliceHeader.{field_count}
use Rattle.ffv1_range.specs.TileHeaders.{TileRules, IsTileContent, scope_by, tile_mode, tile_bytes}
use Rattle.ffv1_range.specs.Frames.{by_frames, HasKey}
use Rattle.ffv1_range.specs.declared.frames.Frames.TheVariants.{Any}
use Rattle.ffv1_range.specs.declared.scope.Scope.TheVariants.{Version3}
use Rattle.ffv1_range.specs.declared.coding.RangeFault.TheVariants.{Start}
use Rattle.ffv1_range.proofs.Spelling.{bind_is_ok, same_ok}
use Rattle.ffv1_range.proofs.HeaderFound.{KeyFits}
use Rattle.ffv1_range.proofs.Shrinks.{with_bit}

-- ---- the tile

wider_key : (is_profile : Bool) (key : Option Bool) → KeyFits (scope_by is_profile) key → KeyFits Version3 key
wider_key is_profile None fits = tt
wider_key is_profile (Some bit) fits = refl

-- by the rules of any frame a content has the same tile
pub content_is_wider : (rules : TileRules) (content : List ℕ) (first : Bool) (tile : ℕ) → IsTileContent rules content first tile
    → IsTileContent (by_frames Any rules) content first tile
content_is_wider rules content first tile h =
    record {
      key = h.key;
      fields = h.fields;
      end = h.end;
      header = h.header;
      has_key = h.has_key;
      takes_key = wider_key rules.is_profile h.key h.takes_key;
      goes_on = h.goes_on;
      column = h.column;
      row = h.row;
      width = h.width;
      height = h.height;
      tables = h.tables;
      of_tile = h.of_tile;
      first_tile = h.first_tile;
    }

narrower_key : (is_profile : Bool) (key : Option Bool) → (key ≡ Some false → ⊥) → KeyFits (scope_by is_profile) key
narrower_key is_profile None none = tt
narrower_key true (Some true) none = refl
narrower_key false (Some true) none = refl
narrower_key is_profile (Some false) none = absurd (none refl)

-- a header after a keyframe bit has it
header_key : (rules : TileRules) (content fields : List ℕ) (end : Coder) (key : Option Bool) (bit : Bool)
    → IsHeaderOf (tile_mode rules) (field_count rules.has_alpha) (tile_bytes rules content) key fields end → key ≡ Some bit → HasKey rules content bit
header_key rules content fields end key bit h is =
    record {
      before = h.before_key;
      starts = h.start;
      after = h.after_key;
      coded = subst (λ k. MatchOption k (h.after_key ≡ h.before_key) (λ b. bit_at false h.before_key 128 ≡ Ok (b, h.after_key))) is h.keyed;
    }

-- a content of any frame has its tile by the rules too, unless its keyframe bit is 0
pub content_is_narrower : (rules : TileRules) (content : List ℕ) (first : Bool) (tile : ℕ) → IsTileContent (by_frames Any rules) content first tile
    → (first ≡ true → HasKey rules content false → ⊥) → IsTileContent rules content first tile
content_is_narrower rules content first tile h none =
    record {
      key = h.key;
      fields = h.fields;
      end = h.end;
      header = h.header;
      has_key = h.has_key;
      takes_key = narrower_key rules.is_profile h.key
          (λ is. none (sym h.has_key ∙ ap is_some is) (header_key rules content h.fields h.end h.key false h.header is));
      goes_on = h.goes_on;
      column = h.column;
      row = h.row;
      width = h.width;
      height = h.height;
      tables = h.tables;
      of_tile = h.of_tile;
      first_tile = h.first_tile;
    }

-- a content has one keyframe bit
pub one_key : (rules : TileRules) (content : List ℕ) (one other : Bool) → HasKey rules content one → HasKey rules content other → one ≡ other
one_key rules content one other h k =
    let starts : h.before ≡ k.before = same_ok h.before k.before (sym h.starts ∙ k.starts) in
    ap (λ z. z.0) (same_ok (one, h.after) (other, k.after) (sym h.coded ∙ ap (λ c. bit_at false c 128) starts ∙ k.coded))

some_key : (key : Option Bool) → is_some key ≡ true → KeyFits (scope_by true) key → key ≡ Some true
some_key (Some bit) h fits = ap Some fits
some_key None h fits = absurd cc

-- in the profile the first content has the keyframe bit 1
pub profile_key : (rules : TileRules) (content : List ℕ) (tile : ℕ) → rules.is_profile ≡ true → IsTileContent rules content true tile
    → HasKey rules content true
profile_key rules content tile profile h =
    header_key rules content h.fields h.end h.key true h.header
    (some_key h.key h.has_key (subst (λ b. KeyFits (scope_by b) h.key) profile h.takes_key))

-- ---- its first two bytes

-- The bytes begin with two at which range coding starts so.
pub record BeginsAt (bytes : List ℕ) (c : Coder) : Type 0 where
  pub one : ℕ
  pub two : ℕ
  pub after : List ℕ
  pub bytes_are : bytes ≡ one ∷ two ∷ after
  pub rest : List ℕ
  pub coder_is : c ≡ record { range = 65280; low = 256 * one + two; rest = rest }

started_at : (low : ℕ) (rest : List ℕ) (c : Coder) → start_of false (low ∷ rest) ≡ Ok c → BeginsAt (low ∷ rest) c
unfolding start_of
started_at one [] c h = absurd cc
started_at one (two ∷ rest) c h =
    elim (nat_lt (256 * one + two) 65280) as (λ t. (if t then Ok (record { range = 65280; low = 256 * one + two; rest = rest }) else Err Start) ≡ Ok c
    → BeginsAt (one ∷ two ∷ rest) c) [
      | true ↦ λ e. record {
        one = one;
        two = two;
        after = rest;
        bytes_are = refl;
        rest = rest;
        coder_is = sym (same_ok (record { range = 65280; low = 256 * one + two; rest = rest }) c e);
      }
      | false ↦ λ e. absurd cc
    ] h

-- so do bytes of which these are the front
pub starts_at_front : (n : ℕ) (bytes : List ℕ) (c : Coder) → start_of false (take n bytes) ≡ Ok c → BeginsAt bytes c
unfolding start_of
starts_at_front zero bytes c h = absurd cc
starts_at_front (suc n) [] c h = absurd cc
starts_at_front (suc zero) (one ∷ bytes) c h = absurd cc
starts_at_front (suc (suc n)) (one ∷ []) c h = absurd cc
starts_at_front (suc (suc n)) (one ∷ two ∷ bytes) c h =
    let is = started_at one (two ∷ take n bytes) c h in
    let fronts : one ∷ two ∷ take n bytes ≡ is.one ∷ is.two ∷ is.after = is.bytes_are in
    record {
      one = one;
      two = two;
      after = bytes;
      bytes_are = refl;
      rest = is.rest;
      coder_is = is.coder_is ∙ (λ i. record { range = 65280; low = 256 * head_of (sym fronts i) + second_of (sym fronts i); rest = is.rest });
    }
  where
    head_of : List ℕ → ℕ
    head_of [] = 0
    head_of (x ∷ xs) = x

    second_of : List ℕ → ℕ
    second_of [] = 0
    second_of (x ∷ xs) = head_of xs

-- at the start state 128 halves the range
pub halves : (low : ℕ) (rest : List ℕ) (bit : Bool) (d : Coder) → bit_at false (record { range = 65280; low = low; rest = rest }) 128 ≡ Ok (bit, d)
    → nat_lt low 32640 ≡ not bit
unfolding bit_at
halves low rest bit d h =
    elim (nat_lt low 32640) as (λ t. (if t then (refilled false 32640 low rest >>> with_bit false) else (refilled false 32640 (low - 32640) rest >>> with_bit true)) ≡ Ok (bit, d)
    → t ≡ not bit) [
      | true ↦ λ e. let x = bind_is_ok (refilled false 32640 low rest) (with_bit false) (bit, d) e in ap (λ z. not z.0) (same_ok (false, x.0) (bit, d) x.2)
      | false ↦ λ e. let x = bind_is_ok (refilled false 32640 (low - 32640) rest) (with_bit true) (bit, d) e in ap (λ z. not z.0) (same_ok (true, x.0) (bit, d) x.2)
    ] h

-- The first two bytes of a content with Golomb-Rice codes tell its keyframe bit.
pub record TellsKey (bytes : List ℕ) (bit : Bool) : Type 0 where
  pub one : ℕ
  pub two : ℕ
  pub after : List ℕ
  pub bytes_are : bytes ≡ one ∷ two ∷ after
  pub tells : nat_lt (256 * one + two) 32640 ≡ not bit

pub front_tells_key : (rules : TileRules) (n : ℕ) (bytes : List ℕ) (bit : Bool) → rules.has_codes ≡ true → HasKey rules (take n bytes) bit → TellsKey bytes bit
front_tells_key rules n bytes bit codes h =
    let starts : start_of false (take n bytes) ≡ Ok h.before =
    subst (λ b. start_of false (if b then take n bytes else take n bytes ++ 0 ∷ []) ≡ Ok h.before) codes h.starts in
    let at = starts_at_front n bytes h.before starts in
    record {
      one = at.one;
      two = at.two;
      after = at.after;
      bytes_are = at.bytes_are;
      tells = halves (256 * at.one + at.two) at.rest bit h.after (ap (λ c. bit_at false c 128) (sym at.coder_is) ∙ h.coded);
    }
