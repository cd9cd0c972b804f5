use Rattle.std.proofs.Common.{arith}
use Rattle.std.proofs.lemmas.Grind.{common_steps}
use Rattle.ffv1_program.proofs.Zips.{all_zip_next}
use Rattle.ffv1_program.proofs.inputs.buffered_of.Goals as goal

pub loop-path-preserved : goal.loop-path-preserved
loop-path-preserved g c =
    record {
      bytes = grind (arith, common_steps);
      at = rw c.in_ok-push.ensures.items (all_zip_next (λ path source. (g.F.FileSystem.files c.args.files.now).is_buffered_at path.now source) c.args.paths.now
          c.loop-path.sources.items c.loop-path.path-index _ c.in_ok-buffered.field-0 (omega arith) c.loop-path.invariant.at c.in_ok-buffered.ensures.at);
      count = grind (arith, common_steps);
    }
