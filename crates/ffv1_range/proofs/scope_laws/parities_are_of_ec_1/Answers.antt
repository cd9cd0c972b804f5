use Rattle.std.proofs.Common.{◌≡◌, ℕ, List, sym, ap, ◌∙◌}
use Rattle.std.proofs.lemmas.Bool.{eqb-true, eq-eqb}
use Rattle.ffv1_range.specs.Setup.{RecordingValue, IsScopedRecord, IsRecordingOf, IsAccepted}
use Rattle.ffv1_range.specs.declared.scope.Scope.TheVariants.{Parities, Version3}
use Rattle.ffv1_range.proofs.SetupLaws.{parities_are_wider}
use Rattle.ffv1_range.proofs.scope_laws.parities_are_of_ec_1.Goals as goal

-- a record of version 3 with ec 1
with_parities : (config : List ℕ) (width height : ℕ) (r : RecordingValue) → IsRecordingOf config width height r → r.setup.ec ≡ 1
    → IsScopedRecord config Parities width height r
with_parities config width height r of one =
    let ok : IsAccepted Version3 width height of.fields = of.accepted in
    record {
      passes = of.passes;
      is_width = of.is_width;
      is_height = of.is_height;
      fields = of.fields;
      accepted = record {
        version = ok.version;
        micro_version = ok.micro_version;
        coder_type = ok.coder_type;
        state_transition_delta = ok.state_transition_delta;
        colorspace_type = ok.colorspace_type;
        bits_per_raw_sample = ok.bits_per_raw_sample;
        chroma_planes = ok.chroma_planes;
        log2_h_chroma_subsample = ok.log2_h_chroma_subsample;
        log2_v_chroma_subsample = ok.log2_v_chroma_subsample;
        extra_plane = ok.extra_plane;
        across = ok.across;
        down = ok.down;
        tiles = ok.tiles;
        some_set = ok.some_set;
        few_sets = ok.few_sets;
        sets = ok.sets;
        ec = eq-eqb _ _ (sym (ap (λ (z : RecordingValue). z.setup.ec) of.is) ∙ one);
        symbols = ok.symbols;
      };
      start = of.start;
      started = of.started;
      end = of.end;
      coded = of.coded;
      is = of.is;
    }

pub returns : goal.returns
returns c = λ config width height r. (
  λ of.
      let ok : IsAccepted Parities width height of.fields = of.accepted in
      (parities_are_wider config width height r of, ap (λ (z : RecordingValue). z.setup.ec) of.is ∙ eqb-true of.fields.ec 1 ok.ec),
  λ both. with_parities config width height r both.0 both.1,
)
