-- What is accepted of a configuration record: by the profile, of every recording of version 3 whose slices have parities, and of every
-- recording of version 3 (RFC 9043, section 4.2).
use Rattle.std.specs.Prelude.{ℕ, Bool, true, nat_le, ◌==◌, ◌||◌, ◌&&◌, not, if◌then◌else◌}
use Rattle.ffv1_range.specs.declared.scope.Scope.{Scope}
use Rattle.ffv1_range.specs.declared.scope.Scope.TheVariants.{Profile, Parities, Version3}

-- coder_type: Golomb-Rice codes, and range coding by the default transitions or by the record's own
abbrev pub accepts_coder : Scope → ℕ → Bool
accepts_coder Profile coder = coder == 0
accepts_coder _ coder = nat_le coder 2

-- colorspace_type: gray or Y Cb Cr, and RGB
abbrev pub accepts_space : Scope → ℕ → Bool
accepts_space Profile space = space == 0
accepts_space _ space = nat_le space 1

-- bits_per_raw_sample, of which 0 stands for 8
abbrev pub accepts_depth : Scope → ℕ → Bool
accepts_depth Profile depth = depth == 0 || depth == 8
accepts_depth _ depth = depth == 0 || (nat_le 8 depth && nat_le depth 16)

-- the greatest log2_h_chroma_subsample and log2_v_chroma_subsample of chroma planes
abbrev pub greatest_shift : Scope → ℕ → ℕ
greatest_shift Profile space = 2
greatest_shift _ space = if space == 0 then 4 else 0

abbrev pub accepts_extra_plane : Scope → Bool → Bool
accepts_extra_plane Profile extra = not extra
accepts_extra_plane _ extra = true

abbrev pub accepts_ec : Scope → ℕ → Bool
accepts_ec Profile ec = ec == 1
accepts_ec Parities ec = ec == 1
accepts_ec Version3 ec = nat_le ec 1

-- the keyframe bit: the profile's frames are keyframes
abbrev pub accepts_key : Scope → Bool → Bool
accepts_key Profile key = key
accepts_key _ key = true

-- ---- alike for both

-- RGB has its three planes
abbrev pub accepts_chroma : ℕ → Bool → Bool
accepts_chroma space chroma = space == 0 || chroma

-- the shifts of a gray record are any
abbrev pub accepts_shift : Scope → ℕ → Bool → ℕ → Bool
accepts_shift scope space chroma shift = not chroma || nat_le shift (greatest_shift scope space)

-- how many transition deltas are coded: those of the states 1 to 255 with coder_type 2
abbrev pub delta_count : ℕ → ℕ
delta_count coder = if coder == 2 then 255 else 0
