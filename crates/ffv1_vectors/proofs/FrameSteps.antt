-- Frames as they are made: tile by tile, each slice read back.
use Rattle.std.proofs.Common.{◌≡◌, ℕ, ◌+◌, ◌<◌, ◌≤◌, ◌^◌, eqb, Bool, true, false, List, [], ◌∷◌, ◌++◌, length, get_or, refl, sym, ap, subst, ◌∙◌, inl, inr, arith, map, Vec, Global, if◌then◌else◌}
use Rattle.std.specs.Prelude.{IsTrue}
use Rattle.std.specs.List.{flat_map}
use Rattle.std.proofs.lemmas.Bool.{cases_order}
use Rattle.std.proofs.lemmas.Grind.{flat_map-append}
use Rattle.std.proofs.lemmas.List.{length-append, get_or_append_left, append-nil, get_or-map, get_or_push}
use Rattle.ffv1_bits.specs.Limits.{payload_limit}
use Rattle.ffv1_range.specs.Setup.{SetupValue}
use Rattle.ffv1_range.specs.Tiles.{grid_of, plane_count, tile_count}
use Rattle.ffv1_range.specs.Header.{IsHeadOf, header_limits}
use Rattle.ffv1_plane.specs.Picture.{IsPictureOf}
use Rattle.ffv1_range.specs.TileHeaders.{profile_rules}
use Rattle.ffv1_slice.specs.Chain.{status_before}
use Rattle.ffv1_slice.specs.Slices.{content_of, IsSliceOf}
use Rattle.ffv1_vectors.specs.Frames.{asked_head, asked_planes, IsMadeSlice, IsMadeFrame}
use Rattle.ffv1_vectors.specs.declared.frame.FrameSpec.{FrameSpec}
use Rattle.ffv1_vectors.specs.declared.frame.TileSpec.{TileSpec}

-- The payload has the slices of the tiles below a number.
pub record IsMadeTo (setup : SetupValue) (spec : FrameSpec) (tiles : ℕ) (payload : List ℕ) : Type 0 where
  pub slices : List (List ℕ)
  pub count : length slices ≡ tiles
  pub joined : payload ≡ flat_map (λ slice. slice) slices
  pub short : length payload ≤ payload_limit
  pub are_slices : (tile : ℕ) (e : List ℕ) → tile < tiles → IsSliceOf (profile_rules setup) (get_or slices tile e) (eqb tile 0) tile
  pub each : (tile : ℕ) (d : TileSpec) (e : List ℕ) → tile < tiles → IsMadeSlice setup tile (get_or spec.tiles.items tile d) (get_or slices tile e)

module _ (setup : SetupValue) (spec : FrameSpec) where
  pub made_none : (payload : List ℕ) → payload ≡ [] → IsMadeTo setup spec 0 payload
  made_none payload none = record {
    slices = [];
    count = refl;
    joined = none;
    short = omega (arith, ap length none);
    are_slices = λ tile e lt. absurd (omega arith);
    each = λ tile d e lt. absurd (omega arith);
  }

  pub made_more : (n : ℕ) (old new slice : List ℕ) (asked : TileSpec) → IsMadeTo setup spec n old → new ≡ old ++ slice → length old + length slice ≤ 2 ^ 30
      → ((d : TileSpec) → asked ≡ get_or spec.tiles.items n d) → IsMadeSlice setup n asked slice → IsMadeTo setup spec (n + 1) new
  made_more n old new slice asked before grown short is_asked made = record {
    slices = before.slices ++ slice ∷ [];
    count = omega (arith, length-append before.slices (slice ∷ []), before.count);
    joined =
        grown ∙ ap (λ bytes. bytes ++ slice) before.joined
        ∙ sym (flat_map-append (λ s. s) before.slices (slice ∷ []) ∙ ap (λ bytes. flat_map (λ s. s) before.slices ++ bytes) (append-nil slice));
    short = omega (arith, ap length grown, length-append old slice);
    are_slices = λ tile e lt. elim (cases_order tile n) [
      | inl is ↦
          let P : List ℕ → Type 0 = λ s. IsSliceOf (profile_rules setup) s (eqb tile 0) tile in
          let Q : ℕ → Type 0 = λ t. IsSliceOf (profile_rules setup) slice (eqb t 0) t in
          subst P (sym (get_or_push before.slices slice e tile (before.count ∙ sym is))) (subst Q (sym is) made.is_slice)
      | inr (inl less) ↦
          let P : List ℕ → Type 0 = λ s. IsSliceOf (profile_rules setup) s (eqb tile 0) tile in
          subst P (sym (get_or_append_left before.slices (slice ∷ []) e tile (omega (arith, before.count)))) (before.are_slices tile e less)
      | inr (inr above) ↦ absurd (omega arith)
    ];
    each = λ tile d e lt. elim (cases_order tile n) [
      | inl is ↦
          let P : List ℕ → Type 0 = λ s. IsMadeSlice setup tile (get_or spec.tiles.items tile d) s in
          let Q : ℕ → Type 0 = λ t. IsMadeSlice setup t (get_or spec.tiles.items t d) slice in
          let R : TileSpec → Type 0 = λ a. IsMadeSlice setup n a slice in
          subst P (sym (get_or_push before.slices slice e tile (before.count ∙ sym is))) (subst Q (sym is) (subst R (is_asked d) made))
      | inr (inl less) ↦
          let P : List ℕ → Type 0 = λ s. IsMadeSlice setup tile (get_or spec.tiles.items tile d) s in
          subst P (sym (get_or_append_left before.slices (slice ∷ []) e tile (omega (arith, before.count)))) (before.each tile d e less)
      | inr (inr above) ↦ absurd (omega arith)
    ];
  }

  pub made_all : (n : ℕ) (payload : List ℕ) → n ≡ tile_count (grid_of setup) → IsMadeTo setup spec n payload → IsMadeFrame setup spec payload
  made_all n payload all made = record {
    slices = made.slices;
    original = record {
      count = made.count ∙ all;
      joined = made.joined;
      short = made.short;
      each = λ tile e lt. made.are_slices tile e (omega (arith, made.count));
    };
    each = λ tile d e lt. made.each tile d e (omega (arith, made.count));
  }

-- a slice that was read back
pub made_slice : (setup : SetupValue) (tile : ℕ) (spec : TileSpec) (read slice : List ℕ) (same : Bool) → read ≡ slice → same ≡ true
    → status_before slice (length slice) ≡ spec.status → (IsTrue same → IsSliceOf (profile_rules setup) read (eqb tile 0) tile)
    → (IsTrue same → (place : ℕ) × IsHeadOf (header_limits setup) (content_of read) (eqb tile 0) (asked_head tile spec) place)
    → (IsTrue same → (spare_bits : ℕ) × IsPictureOf setup tile (content_of read) (record { planes = asked_planes spec; spare_bits = spare_bits }))
    → IsMadeSlice setup tile spec slice
made_slice setup tile spec read slice same is t status is_slice head picture =
    let P : List ℕ → Type 0 = λ s. status_before s (length s) ≡ spec.status in
    let h = head t in
    let p = picture t in
    let whole : IsMadeSlice setup tile spec read =
    record { is_slice = is_slice t; status = subst P (sym is) status; place = h.0; head = h.1; spare_bits = p.0; picture = p.1 } in
    subst (IsMadeSlice setup tile spec) is whole

-- a plane that was read by its place
pub plane_is : (planes : List (Vec ℕ Global)) (k : ℕ) (plane : Vec ℕ Global) → k < length planes → plane ≡ get_or planes k plane
    → get_or (map (λ p. p.items) planes) k [] ≡ plane.items
plane_is planes k plane lt is = get_or-map (λ (p : Vec ℕ Global). p.items) planes k plane [] lt ∙ ap (λ (p : Vec ℕ Global). p.items) (sym is)

-- ---- how many planes a setup has

pub three_planes : (setup : SetupValue) (has_chroma : Bool) (count : ℕ) → count ≡ 3 → has_chroma ≡ setup.has_chroma → has_chroma ≡ true
    → count ≡ plane_count (grid_of setup)
three_planes setup has_chroma count is same coloured = is ∙ ap (λ (b : Bool). if b then 3 else 1) (sym coloured ∙ same)

pub one_plane : (setup : SetupValue) (has_chroma : Bool) (count : ℕ) → count ≡ 1 → has_chroma ≡ setup.has_chroma → has_chroma ≡ false
    → count ≡ plane_count (grid_of setup)
one_plane setup has_chroma count is same gray = is ∙ ap (λ (b : Bool). if b then 3 else 1) (sym gray ∙ same)
