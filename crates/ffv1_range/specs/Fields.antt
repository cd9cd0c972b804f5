-- The fields of a configuration record but for its tables (RFC 9043, sections 4.2 and 4.3), read one by one, each judged as
-- soon as it was read.
use Rattle.std.specs.Prelude.{ℕ, zero, suc, ◌+◌, ◌*◌, Bool, List, [], ◌∷◌, ◌++◌, nat_le, ◌==◌, ◌&&◌, replicate, if◌then◌else◌}
use Rattle.ffv1_bits.specs.Limits.{most_tiles}
use Rattle.ffv1_range.specs.Forms.{Form, ◌>>=◌, giving, accepted, lifted, slot_form}
use Rattle.ffv1_range.specs.Reading.{symbol_form, signed_symbol_form}
use Rattle.ffv1_range.specs.Scopes.{accepts_coder, accepts_space, accepts_depth, accepts_chroma, accepts_shift, accepts_extra_plane, accepts_ec}
use Rattle.ffv1_range.specs.Transitions.{delta_byte, transitions_with}
use Rattle.ffv1_range.specs.declared.scope.Scope.{Scope}
use Rattle.ffv1_range.specs.declared.transitions.Transitions.{Transitions}
use Rattle.ffv1_range.specs.declared.fault.SetupFault.{SetupFault}
use Rattle.ffv1_range.specs.declared.fault.SetupFault.TheVariants.{Range, Version, Micro, Coder, ColorSpace, Depth, Subsampling, ExtraPlane, GridTooFine, TooManyTiles, ParityMode}

-- an unsigned symbol
abbrev pub number : Form (List ℕ) ℕ SetupFault
number = lifted Range symbol_form

-- one bit, at slot 0
abbrev pub flag : Form (List ℕ) Bool SetupFault
flag = lifted Range (slot_form 0)

-- version and micro_version
abbrev pub versions : Form (List ℕ) ℕ SetupFault
versions = do
  version ← number
  is_three ← accepted (version == 3) Version
  micro ← number
  is_late ← accepted (nat_le 4 micro) Micro
  giving micro

-- n more deltas of transitions, each modulo 256, after those that were read
unfoldable pub deltas_onto : ℕ → List ℕ → Form (List ℕ) (List ℕ) SetupFault
deltas_onto zero done = giving done
deltas_onto (suc n) done = lifted Range signed_symbol_form >>= λ delta. deltas_onto n (done ++ delta_byte delta ∷ [])

-- state_transition_delta, where it is coded
abbrev pub transition_deltas : ℕ → Form (List ℕ) (List ℕ) SetupFault
transition_deltas coder = if coder == 2 then deltas_onto 255 [] else giving (replicate 255 0)

-- the chroma planes of a frame
pub record PlanesValue : Type 0 where
  pub has_chroma : Bool
  pub shift_h : ℕ
  pub shift_v : ℕ

-- how the samples of a recording are coded, and its planes
pub record ShapeValue : Type 0 where
  pub coder : ℕ
  pub transitions : Transitions
  pub is_rgb : Bool
  pub depth : ℕ
  pub planes : PlanesValue
  pub has_alpha : Bool

-- the shifts of a gray record are taken as 0
abbrev pub chroma_planes_of : Bool → ℕ → ℕ → PlanesValue
chroma_planes_of chroma shift_h shift_v =
    record { has_chroma = chroma; shift_h = if chroma then shift_h else 0; shift_v = if chroma then shift_v else 0 }

-- 0 bits a sample stand for 8
abbrev pub shape_of : ℕ → Transitions → ℕ → ℕ → PlanesValue → Bool → ShapeValue
shape_of coder transitions space depth planes extra =
    record {
      coder = coder;
      transitions = transitions;
      is_rgb = space == 1;
      depth = if depth == 0 then 8 else depth;
      planes = planes;
      has_alpha = extra;
    }

-- coder_type, and state_transition_delta where that is 2
abbrev pub coder_fields : Scope → Form (List ℕ) (ℕ × Transitions) SetupFault
coder_fields scope = do
  coder ← number
  is_known ← accepted (accepts_coder scope coder) Coder
  deltas ← transition_deltas coder
  giving (coder, transitions_with deltas)

-- colorspace_type and bits_per_raw_sample
abbrev pub sample_fields : Scope → Form (List ℕ) (ℕ × ℕ) SetupFault
sample_fields scope = do
  space ← number
  is_known ← accepted (accepts_space scope space) ColorSpace
  depth ← number
  is_held ← accepted (accepts_depth scope depth) Depth
  giving (space, depth)

-- chroma_planes to log2_v_chroma_subsample
abbrev pub chroma_fields : Scope → ℕ → Form (List ℕ) PlanesValue SetupFault
chroma_fields scope space = do
  chroma ← flag
  are_all ← accepted (accepts_chroma space chroma) ColorSpace
  shift_h ← number
  is_small_h ← accepted (accepts_shift scope space chroma shift_h) Subsampling
  shift_v ← number
  is_small_v ← accepted (accepts_shift scope space chroma shift_v) Subsampling
  giving (chroma_planes_of chroma shift_h shift_v)

-- extra_plane
abbrev pub extra_field : Scope → Form (List ℕ) Bool SetupFault
extra_field scope = do
  extra ← flag
  is_held ← accepted (accepts_extra_plane scope extra) ExtraPlane
  giving extra

-- coder_type to extra_plane
abbrev pub shape_fields : Scope → Form (List ℕ) ShapeValue SetupFault
shape_fields scope = do
  coder ← coder_fields scope
  samples ← sample_fields scope
  planes ← chroma_fields scope samples.0
  extra ← extra_field scope
  giving (shape_of coder.0 coder.1 samples.0 samples.1 planes extra)

-- how many tiles stand side by side and one above the other
pub record TileCounts : Type 0 where
  pub across : ℕ
  pub down : ℕ

-- num_h_slices and num_v_slices, of a frame of this width and height
abbrev pub tile_counts : ℕ → ℕ → Form (List ℕ) TileCounts SetupFault
tile_counts width height = do
  across_less ← number
  down_less ← number
  is_coarse ← accepted (nat_le (across_less + 1) width && nat_le (down_less + 1) height) GridTooFine
  are_few ← accepted (nat_le ((across_less + 1) * (down_less + 1)) most_tiles) TooManyTiles
  giving (record { across = across_less + 1; down = down_less + 1 })

-- ec and intra
abbrev pub last_fields : Scope → Form (List ℕ) (ℕ × ℕ) SetupFault
last_fields scope = do
  ec ← number
  is_known ← accepted (accepts_ec scope ec) ParityMode
  intra ← number
  giving (ec, intra)
