use Rattle.std.proofs.Common.{◌≡◌, ◌≤◌, ◌+◌, ◌-◌, arith, length, ap, subst, ◌∙◌, ℕ}
use Rattle.std.proofs.lemmas.List.{length_push}
use Rattle.ffv1_plane.specs.Samples.{neighbours_at}
use Rattle.ffv1_plane.specs.Inner.Progress.{AreSkipped}
use Rattle.ffv1_plane.proofs.Reading.{skip_more, skip_on}
use Rattle.ffv1_plane.proofs.lines.Lines.skip.Goals as goal

pub loop-done-preserved : goal.loop-done-preserved
loop-done-preserved c =
    let near : c.neighbours-near.result ≡ neighbours_at c.args.self.now.width c.loop-done.self.samples (length c.loop-done.self.samples) =
    c.neighbours-near.ensures.value ∙ ap (λ w. neighbours_at w c.loop-done.self.samples (length c.loop-done.self.samples)) c.loop-done.invariant.width in
    let some : 1 ≤ c.args.self.now.width = omega (arith, c.requires, c.loop-done.invariant.x) in
    record {
      skipped = λ coding deep. skip_more c.args.self.now.width coding c.args.self.now.samples c.loop-done.self.samples c.push.new.self.samples c.loop-done.done
          c.prediction.result c.neighbours-near.result some deep (c.loop-done.invariant.skipped coding deep)
          near c.prediction.ensures.value (ap (λ r. r.samples) c.push.ensures.value);
      depth = ap (λ r. r.depth) c.push.ensures.value ∙ c.loop-done.invariant.depth;
      width = ap (λ r. r.width) c.push.ensures.value ∙ c.loop-done.invariant.width;
      count = omega (
        arith,
        ap (λ r. length r.samples) c.push.ensures.value,
        length_push c.loop-done.self.samples c.prediction.result,
        c.loop-done.invariant.count,
      );
      x = omega (arith, ap (λ r. r.x) c.push.ensures.value, c.loop-done.invariant.x);
    }

-- the samples so far, and after them the copies
pub returns-then-near-clause-skipped : goal.returns-then-near-clause-skipped
returns-then-near-clause-skipped c = λ coding deep.
    let all : c.loop-done.done + (c.args.count - c.loop-done.done) ≡ c.args.count = omega arith in
    let copied = subst (λ (w : ℕ). AreSkipped w coding c.loop-done.self.samples c.copy_above.new.self.samples
    (c.args.count - c.loop-done.done)) c.loop-done.invariant.width (c.copy_above.ensures.skipped coding deep) in
    subst (λ (k : ℕ). AreSkipped c.args.self.now.width coding c.args.self.now.samples c.copy_above.new.self.samples k) all
    (skip_on c.args.self.now.width coding c.args.self.now.samples c.loop-done.self.samples c.copy_above.new.self.samples c.loop-done.done
    (c.args.count - c.loop-done.done) (c.loop-done.invariant.skipped coding deep) copied)
