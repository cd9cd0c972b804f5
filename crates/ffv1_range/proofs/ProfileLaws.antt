-- Which recordings are of the profile: those that have a setup.
use Rattle.std.proofs.Common.{◌≡◌, ℕ, zero, suc, Bool, true, false, List, refl, sym, ap, ◌∙◌, subst, arith}
use Rattle.std.specs.Prelude.{not, nat_le, ◌==◌, ◌&&◌, ◌||◌, if◌then◌else◌}
use Rattle.std.proofs.lemmas.Bool.{eqb-true, leb-true, and_parts, and_from}
use Rattle.ffv1_range.specs.Setup.{RecordingValue, RecordFields, IsAccepted, IsScopedRecord, IsRecordingOf, recording_value}
use Rattle.ffv1_range.specs.Scopes.{accepts_space, accepts_depth, accepts_shift}
use Rattle.ffv1_range.specs.TileHeaders.{is_in_profile, rules_of, profile_rules, RecordingInProfile}
use Rattle.ffv1_range.specs.Header.{header_limits}
use Rattle.ffv1_range.specs.Transitions.{standard_transitions}
use Rattle.ffv1_range.specs.declared.scope.Scope.TheVariants.{Profile, Version3}
use Rattle.ffv1_range.proofs.SetupLaws.{recording_is_one, record_is_wider}

-- ---- what is_in_profile says

-- the parts of is_in_profile
pub record KeepsProfile (r : RecordingValue) : Type 0 where
  pub coder : (r.coder == 0) ≡ true
  pub space : not r.is_rgb ≡ true
  pub depth : (r.depth == 8) ≡ true
  pub alpha : not r.has_alpha ≡ true
  pub ec : (r.setup.ec == 1) ≡ true
  pub small_h : nat_le r.setup.shift_h 2 ≡ true
  pub small_v : nat_le r.setup.shift_v 2 ≡ true

pub profile_parts : (r : RecordingValue) → is_in_profile r ≡ true → KeepsProfile r
profile_parts r h =
    let a = and_parts (r.coder == 0) (not r.is_rgb && ((r.depth == 8) && (not r.has_alpha && ((r.setup.ec == 1) && (nat_le r.setup.shift_h 2 && nat_le r.setup.shift_v 2))))) h in
    let b = and_parts (not r.is_rgb) ((r.depth == 8) && (not r.has_alpha && ((r.setup.ec == 1) && (nat_le r.setup.shift_h 2 && nat_le r.setup.shift_v 2)))) a.1 in
    let c = and_parts (r.depth == 8) (not r.has_alpha && ((r.setup.ec == 1) && (nat_le r.setup.shift_h 2 && nat_le r.setup.shift_v 2))) b.1 in
    let d = and_parts (not r.has_alpha) ((r.setup.ec == 1) && (nat_le r.setup.shift_h 2 && nat_le r.setup.shift_v 2)) c.1 in
    let e = and_parts (r.setup.ec == 1) (nat_le r.setup.shift_h 2 && nat_le r.setup.shift_v 2) d.1 in
    let f = and_parts (nat_le r.setup.shift_h 2) (nat_le r.setup.shift_v 2) e.1 in
    record { coder = a.0; space = b.0; depth = c.0; alpha = d.0; ec = e.0; small_h = f.0; small_v = f.1 }

profile_from : (r : RecordingValue) → KeepsProfile r → is_in_profile r ≡ true
profile_from r k =
    and_from (r.coder == 0) (not r.is_rgb && ((r.depth == 8) && (not r.has_alpha && ((r.setup.ec == 1) && (nat_le r.setup.shift_h 2 && nat_le r.setup.shift_v 2))))) k.coder
    (and_from (not r.is_rgb) ((r.depth == 8) && (not r.has_alpha && ((r.setup.ec == 1) && (nat_le r.setup.shift_h 2 && nat_le r.setup.shift_v 2)))) k.space
    (and_from (r.depth == 8) (not r.has_alpha && ((r.setup.ec == 1) && (nat_le r.setup.shift_h 2 && nat_le r.setup.shift_v 2))) k.depth
    (and_from (not r.has_alpha) ((r.setup.ec == 1) && (nat_le r.setup.shift_h 2 && nat_le r.setup.shift_v 2)) k.alpha
    (and_from (r.setup.ec == 1) (nat_le r.setup.shift_h 2 && nat_le r.setup.shift_v 2) k.ec
    (and_from (nat_le r.setup.shift_h 2) (nat_le r.setup.shift_v 2) k.small_h k.small_v)))))

-- ---- a record of the profile says so

no_rgb : (space : ℕ) → accepts_space Profile space ≡ true → not (space == 1) ≡ true
no_rgb space h = ap (λ z. not (z == 1)) (eqb-true space 0 h)

depth_by : (depth : ℕ) (is_zero : Bool) → (depth == 0) ≡ is_zero → accepts_depth Profile depth ≡ true → ((if is_zero then 8 else depth) == 8) ≡ true
depth_by depth true is h = refl
depth_by depth false is h = ap (λ b. b || (depth == 8)) (sym is) ∙ h

shift_by : (space : ℕ) (chroma : Bool) (shift : ℕ) → accepts_shift Profile space chroma shift ≡ true → nat_le (if chroma then shift else 0) 2 ≡ true
shift_by space true shift h = h
shift_by space false shift h = refl

pub record_of_profile : (config : List ℕ) (width height : ℕ) (r : RecordingValue) → IsScopedRecord config Profile width height r → is_in_profile r ≡ true
record_of_profile config width height r s =
    let f : RecordFields = s.fields in
    let ok : IsAccepted Profile width height f = s.accepted in
    subst (λ z. is_in_profile z ≡ true) (sym s.is) (profile_from (recording_value width height f) (record {
      coder = ok.coder_type;
      space = no_rgb f.colorspace_type ok.colorspace_type;
      depth = depth_by f.bits_per_raw_sample (f.bits_per_raw_sample == 0) refl ok.bits_per_raw_sample;
      alpha = ok.extra_plane;
      ec = ok.ec;
      small_h = shift_by f.colorspace_type f.chroma_planes f.log2_h_chroma_subsample ok.log2_h_chroma_subsample;
      small_v = shift_by f.colorspace_type f.chroma_planes f.log2_v_chroma_subsample ok.log2_v_chroma_subsample;
    }))

-- ---- what is of the profile has a setup

space_is : (space : ℕ) → nat_le space 1 ≡ true → not (space == 1) ≡ true → accepts_space Profile space ≡ true
space_is zero h k = refl
space_is (suc zero) h k = absurd cc
space_is (suc (suc n)) h k = absurd (let l = leb-true (suc (suc n)) 1 h in omega arith)

depth_is : (depth : ℕ) (is_zero : Bool) → (depth == 0) ≡ is_zero → ((if is_zero then 8 else depth) == 8) ≡ true → accepts_depth Profile depth ≡ true
depth_is depth true is h = ap (λ b. b || (depth == 8)) is
depth_is depth false is h = ap (λ b. b || (depth == 8)) is ∙ h

shift_is : (space : ℕ) (chroma : Bool) (shift : ℕ) → nat_le (if chroma then shift else 0) 2 ≡ true → accepts_shift Profile space chroma shift ≡ true
shift_is space true shift h = h
shift_is space false shift h = refl

pub profile_record : (config : List ℕ) (width height : ℕ) (r : RecordingValue) → IsRecordingOf config width height r → is_in_profile r ≡ true
    → IsScopedRecord config Profile width height r
profile_record config width height r s h =
    let f : RecordFields = s.fields in
    let ok : IsAccepted Version3 width height f = s.accepted in
    let k : KeepsProfile (recording_value width height f) = profile_parts (recording_value width height f) (subst (λ z. is_in_profile z ≡ true) s.is h) in
    record {
      passes = s.passes;
      is_width = s.is_width;
      is_height = s.is_height;
      fields = f;
      accepted = record {
        version = ok.version;
        micro_version = ok.micro_version;
        coder_type = k.coder;
        state_transition_delta = ok.state_transition_delta;
        colorspace_type = space_is f.colorspace_type ok.colorspace_type k.space;
        bits_per_raw_sample = depth_is f.bits_per_raw_sample (f.bits_per_raw_sample == 0) refl k.depth;
        chroma_planes = ok.chroma_planes;
        log2_h_chroma_subsample = shift_is f.colorspace_type f.chroma_planes f.log2_h_chroma_subsample k.small_h;
        log2_v_chroma_subsample = shift_is f.colorspace_type f.chroma_planes f.log2_v_chroma_subsample k.small_v;
        extra_plane = k.alpha;
        across = ok.across;
        down = ok.down;
        tiles = ok.tiles;
        some_set = ok.some_set;
        few_sets = ok.few_sets;
        sets = ok.sets;
        ec = k.ec;
        symbols = ok.symbols;
      };
      start = s.start;
      started = s.started;
      end = s.end;
      coded = s.coded;
      is = s.is;
    }

pub recording_in_profile : RecordingInProfile
recording_in_profile = record {
  setup = λ config width height r s h. record { recording = r; record_of = profile_record config width height r s h; is = refl };
  profile = λ config width height r setup s t.
      let same : r ≡ t.recording = recording_is_one config width height r t.recording s (record_is_wider config width height t.recording t.record_of) in (
        subst (λ z. is_in_profile z ≡ true) (sym same) (record_of_profile config width height t.recording t.record_of),
        ap (λ z. z.setup) same ∙ sym t.is,
      );
}

-- ---- in what a recording keeps

no_alpha : (alpha : Bool) → not alpha ≡ true → alpha ≡ false
no_alpha false h = refl
no_alpha true h = absurd cc

-- its slices are told by the profile's rules
pub rules_of_profile : (r : RecordingValue) → is_in_profile r ≡ true → rules_of r ≡ profile_rules r.setup
rules_of_profile r h =
    let k = profile_parts r h in
    λ i. record {
      is_profile = h i;
      has_codes = k.coder i;
      transitions = if k.coder i then standard_transitions else r.transitions;
      has_alpha = no_alpha r.has_alpha k.alpha i;
      limits = header_limits r.setup;
    }
