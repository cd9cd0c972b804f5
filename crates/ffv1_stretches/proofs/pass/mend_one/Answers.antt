use Rattle.std.proofs.Common.{◌≡◌, ℕ, map, ap, sym, ◌∙◌, subst}
use Rattle.std.specs.Prelude.{All}
use Rattle.ffv1_mend.specs.Improved.{IsWithin}
use Rattle.ffv1_stretches.specs.Stretches.{StretchValue}
use Rattle.ffv1_stretches.specs.Inner.CellSteps.{cell_now}
use Rattle.ffv1_stretches.proofs.WordLemmas.{now_of}
use Rattle.ffv1_stretches.proofs.CellLemmas.{mendable}
use Rattle.ffv1_stretches.proofs.pass.mend_one.Goals as goal

pub mend-requires : goal.mend-requires
mend-requires g c =
    let are = ap (map now_of) c.as_slice.ensures.value ∙ c.in_ok-versions.ensures in
    let mend = mendable c.args.stretch.now.size (map cell_now c.args.cells.now) c.stretch.inside.from c.version_at-from.result.now c.as_slice.result.now are
    c.version_at-from.ensures c.requires.long in
    let parts : c.as_slice-2.result.now ≡ c.args.stretch.now.parts =
    c.as_slice-2.ensures.value ∙ ap (λ (s : StretchValue). s.parts) c.stretch.view_is in
    record {
      some = mend.some;
      lengths = mend.lengths;
      from = mend.there;
      parts = subst (λ (n : ℕ). All (IsWithin n) c.as_slice-2.result.now) (sym mend.long)
          (subst (All (IsWithin c.args.stretch.now.size)) (sym parts) c.requires.parts);
    }
