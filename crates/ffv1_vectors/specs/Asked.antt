-- What a record is asked to say (RFC 9043, sections 4.2 and 4.3), as the setup that its reader is to have.
use Rattle.std.specs.Prelude.{◌≡◌, ◌⊎◌, ℕ, List, length, map, false, if◌then◌else◌}
use Rattle.ffv1_bits.specs.Limits.{greatest_side}
use Rattle.ffv1_range.specs.Setup.{SetupValue}
use Rattle.ffv1_range.specs.Tables.{set_of}
use Rattle.ffv1_vectors.specs.declared.record.RecordSpec.{RecordSpec}

-- the runs of all tables, set by set
abbrev pub asked_sets : RecordSpec → List (List (List ℕ))
asked_sets spec = map (λ tables. map (λ runs. runs.items) tables.items) spec.sets.items

-- the setup that is asked for, for frames whose sides are the greatest; the shifts of a gray record count as 0
abbrev pub asked_setup : RecordSpec → SetupValue
asked_setup spec =
    record {
      micro = spec.micro;
      has_chroma = spec.has_chroma;
      shift_h = if spec.has_chroma then spec.shift_h else 0;
      shift_v = if spec.has_chroma then spec.shift_v else 0;
      across = spec.across;
      down = spec.down;
      sets = map set_of (asked_sets spec);
      ec = spec.ec;
      intra = spec.intra;
      width = greatest_side;
      height = greatest_side;
    }

-- What is asked of the fields that a setup leaves out is of the profile.
pub record IsProfile (spec : RecordSpec) : Type 0 where
  pub version : spec.version ≡ 3
  pub coder_type : spec.coder ≡ 0
  pub colorspace_type : spec.colorspace ≡ 0
  pub bits_per_raw_sample : (spec.raw_depth ≡ 0) ⊎ (spec.raw_depth ≡ 8)
  pub extra_plane : spec.extra_plane ≡ false
  pub set_count : spec.set_count ≡ length spec.sets.items

-- ---- the same as the getters of a setup return it
