-- A record of the small definitions is one of version 3.
use Rattle.std.proofs.Common.{◌≡◌, ◌⊎◌, ℕ, ◌<◌, ◌≤◌, ◌^◌, Bool, true, false, List, refl, arith, inl, inr}
use Rattle.std.specs.Prelude.{not, ◌==◌, ◌&&◌, ◌||◌, nat_le, if◌then◌else◌}
use Rattle.std.proofs.lemmas.Bool.{eqb-true, eq-eqb, leb-true, le-leb, or_cases, or_left, or_right, and_parts, and_from, cases_eq}
use Rattle.ffv1_range.specs.Setup.{RecordingValue, RecordFields, IsSymbol, IsAccepted, IsRecordingOf}
use Rattle.ffv1_range.specs.declared.scope.Scope.TheVariants.{Version3}
use Rattle.ffv1_player.specs.SmallRecords.{AreOfVersion3, IsRecord}

-- ---- tests and what they say

depth_to : (depth : ℕ) → ((depth == 0) || (nat_le 8 depth && nat_le depth 16)) ≡ true → (depth ≡ 0) ⊎ ((8 ≤ depth) × (depth ≤ 16))
depth_to depth h = elim (or_cases (depth == 0) (nat_le 8 depth && nat_le depth 16) h) [
  | inl zero_ ↦ inl (eqb-true depth 0 zero_)
  | inr some ↦
      let parts = and_parts (nat_le 8 depth) (nat_le depth 16) some in inr (leb-true 8 depth parts.0, leb-true depth 16 parts.1)
]

depth_from : (depth : ℕ) → (depth ≡ 0) ⊎ ((8 ≤ depth) × (depth ≤ 16)) → ((depth == 0) || (nat_le 8 depth && nat_le depth 16)) ≡ true
depth_from depth (inl is) = or_left (depth == 0) (nat_le 8 depth && nat_le depth 16) (eq-eqb depth 0 is)
depth_from depth (inr some) =
    or_right (depth == 0) (nat_le 8 depth && nat_le depth 16) (and_from (nat_le 8 depth) (nat_le depth 16) (le-leb 8 depth some.0) (le-leb depth 16 some.1))

chroma_to : (space : ℕ) (chroma : Bool) → ((space == 0) || chroma) ≡ true → space ≡ 1 → chroma ≡ true
chroma_to space chroma h is = elim (or_cases (space == 0) chroma h) [
  | inl zero_ ↦ let e : space ≡ 0 = eqb-true space 0 zero_ in absurd (omega (arith, e, is))
  | inr has ↦ has
]

chroma_from : (space : ℕ) (chroma : Bool) → space ≤ 1 → (space ≡ 1 → chroma ≡ true) → ((space == 0) || chroma) ≡ true
chroma_from space chroma few h = elim (cases_eq space 0) [
  | inl is ↦ or_left (space == 0) chroma (eq-eqb space 0 is)
  | inr some ↦
      let is : space ≡ 1 = one_of space few some in or_right (space == 0) chroma (h is)
]
  where
    one_of : (n : ℕ) → n ≤ 1 → (n ≡ 0 → ⊥) → n ≡ 1
    one_of n most some = elim (cases_eq n 1) [
      | inl is ↦ is
      | inr other ↦ absurd (some (omega (arith, most, other)))
    ]

shift_to : (chroma : Bool) (shift most : ℕ) → (not chroma || nat_le shift most) ≡ true → chroma ≡ true → shift ≤ most
shift_to true shift most h is = leb-true shift most h
shift_to false shift most h is = absurd cc

shift_from : (chroma : Bool) (shift most : ℕ) → (chroma ≡ true → shift ≤ most) → (not chroma || nat_le shift most) ≡ true
shift_from true shift most h = le-leb shift most (h refl)
shift_from false shift most h = refl

-- ---- fields

fields_to : (width height : ℕ) (f : RecordFields) → IsAccepted Version3 width height f → AreOfVersion3 width height f
fields_to width height f h = record {
  version = h.version;
  micro_version = (h.micro_version, h.symbols.micro_version);
  coder_type = leb-true f.coder_type 2 h.coder_type;
  count_of_deltas = h.state_transition_delta;
  deltas = h.symbols.state_transition_delta;
  colorspace_type = leb-true f.colorspace_type 1 h.colorspace_type;
  bits_per_raw_sample = depth_to f.bits_per_raw_sample h.bits_per_raw_sample;
  chroma_planes = chroma_to f.colorspace_type f.chroma_planes h.chroma_planes;
  log2_h_chroma_subsample = (
    h.symbols.log2_h_chroma_subsample,
    shift_to f.chroma_planes f.log2_h_chroma_subsample (if f.colorspace_type == 0 then 4 else 0) h.log2_h_chroma_subsample,
  );
  log2_v_chroma_subsample = (
    h.symbols.log2_v_chroma_subsample,
    shift_to f.chroma_planes f.log2_v_chroma_subsample (if f.colorspace_type == 0 then 4 else 0) h.log2_v_chroma_subsample,
  );
  across = let few = h.across in omega (arith, few);
  down = let few = h.down in omega (arith, few);
  tiles = h.tiles;
  count_of_sets = (h.some_set, h.few_sets);
  sets = h.sets;
  ec = leb-true f.ec 1 h.ec;
  intra = h.symbols.intra;
}

small : (n most : ℕ) → n ≤ most → most ≤ 16 → IsSymbol n
small n most few under = let wide : 16 < 2 ^ 32 = omega arith in omega (arith, few, under, wide)

depth_small : (depth : ℕ) → (depth ≡ 0) ⊎ ((8 ≤ depth) × (depth ≤ 16)) → IsSymbol depth
depth_small depth (inl is) = small depth 16 (omega (arith, is)) (omega arith)
depth_small depth (inr some) = small depth 16 some.1 (omega arith)

fields_from : (width height : ℕ) (f : RecordFields) → AreOfVersion3 width height f → IsAccepted Version3 width height f
fields_from width height f h = record {
  version = h.version;
  micro_version = h.micro_version.0;
  coder_type = le-leb f.coder_type 2 h.coder_type;
  state_transition_delta = h.count_of_deltas;
  colorspace_type = le-leb f.colorspace_type 1 h.colorspace_type;
  bits_per_raw_sample = depth_from f.bits_per_raw_sample h.bits_per_raw_sample;
  chroma_planes = chroma_from f.colorspace_type f.chroma_planes h.colorspace_type h.chroma_planes;
  log2_h_chroma_subsample = shift_from f.chroma_planes f.log2_h_chroma_subsample (if f.colorspace_type == 0 then 4 else 0) h.log2_h_chroma_subsample.1;
  log2_v_chroma_subsample = shift_from f.chroma_planes f.log2_v_chroma_subsample (if f.colorspace_type == 0 then 4 else 0) h.log2_v_chroma_subsample.1;
  extra_plane = refl;
  across = let few = h.across in omega (arith, few);
  down = let few = h.down in omega (arith, few);
  tiles = h.tiles;
  some_set = h.count_of_sets.0;
  few_sets = h.count_of_sets.1;
  sets = h.sets;
  ec = le-leb f.ec 1 h.ec;
  symbols = record {
    micro_version = h.micro_version.1;
    coder_type = small f.coder_type 2 h.coder_type (omega arith);
    state_transition_delta = h.deltas;
    colorspace_type = small f.colorspace_type 1 h.colorspace_type (omega arith);
    bits_per_raw_sample = depth_small f.bits_per_raw_sample h.bits_per_raw_sample;
    log2_h_chroma_subsample = h.log2_h_chroma_subsample.0;
    log2_v_chroma_subsample = h.log2_v_chroma_subsample.0;
    ec = small f.ec 1 h.ec (omega arith);
    intra = h.intra;
  };
}

-- ---- records

pub record_to : (config : List ℕ) (width height : ℕ) (r : RecordingValue) → IsRecordingOf config width height r → IsRecord config width height r
record_to config width height r h = record {
  passes = h.passes;
  is_width = h.is_width;
  is_height = h.is_height;
  fields = h.fields;
  are_of_version_3 = fields_to width height h.fields h.accepted;
  start = h.start;
  begins = h.started;
  end = h.end;
  coded = h.coded;
  is = h.is;
}

pub record_from : (config : List ℕ) (width height : ℕ) (r : RecordingValue) → IsRecord config width height r → IsRecordingOf config width height r
record_from config width height r h = record {
  passes = h.passes;
  is_width = h.is_width;
  is_height = h.is_height;
  fields = h.fields;
  accepted = fields_from width height h.fields h.are_of_version_3;
  start = h.start;
  started = h.begins;
  end = h.end;
  coded = h.coded;
  is = h.is;
}
