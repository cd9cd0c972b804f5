use Rattle.std.proofs.Common.{ℕ, ◌<◌, List, length, get_or, sym, ap, subst, ◌∙◌}
use Rattle.ffv1_makings.specs.declared.spec.SetSpec.{SetSpec}
use Rattle.ffv1_makings.specs.Inner.ReadBack.{ShowsSet}
use Rattle.ffv1_makings.proofs.AskedSets.{asked_sets}
use Rattle.ffv1_makings.proofs.asked.is_asked.Goals as goal
use Rattle.ffv1_makings.proofs.asked.is_asked.Goals.{then-has_coding, else-has_coding}

pub returns-then-has_format : goal.returns-then-has_format
returns-then-has_format c = λ yes recorded.
    let r = c.args.recording.now in
    let spec = c.args.spec.now in
    let count = c.has_sets.ensures.count yes ∙ ap length c.deref.ensures.value in
    let each =
    subst (λ (sets : List SetSpec). (k : ℕ) (d : SetSpec) → k < length sets → ShowsSet r spec.coder k (get_or sets k d)) c.deref.ensures.value
    (c.has_sets.ensures.each yes) in
    elim c.if-has_coding.branch [
      | then-has_coding w ↦ record {
        coding = c.has_coding.ensures w.if-has_coding.true recorded;
        planes = w.has_format.ensures (sym w.value-is ∙ c.if-has_format.true);
        sets = asked_sets r spec recorded count each;
      }
      | else-has_coding w ↦ absurd (let no = sym w.value-is ∙ c.if-has_format.true in cc)
    ]
