use Rattle.std.proofs.Common.{◌≡◌, ap, sym, arith}
use Rattle.std.proofs.lemmas.Grind.{common_steps}
use Rattle.ffv1_stretches.specs.Copies.{CopyState, state_of}
use Rattle.ffv1_program.specs.Inner.Calls.{IsLogAt}
use Rattle.std.proofs.lemmas.List.Elements.{All-push}
use Rattle.ffv1_program.proofs.Zips.{all_zip_next}
use Rattle.ffv1_program.proofs.stretches.readers_of.Goals as goal

pub loop-path-preserved : goal.loop-path-preserved
loop-path-preserved g c =
    record {
      bytes = grind (arith, common_steps);
      at = rw c.in_ok-push.ensures.items (all_zip_next (λ path reader. IsLogAt (g.F.FileSystem.files c.args.files.now).is_device_at g.F.Device.Source.log path.now
          (g.F.Device.Source.log reader.source)) c.args.paths.now c.loop-path.readers.items c.loop-path.path-index _ c.new.result (omega arith)
          c.loop-path.invariant.at (c.device.result, c.device.ensures.at, sym (ap (λ (s : CopyState). s.log) c.new.ensures)));
      unread = rw c.in_ok-push.ensures.items (All-push (λ reader. (state_of g.F.Device.Source.log reader).end ≡ 0) c.loop-path.readers.items c.new.result
          c.loop-path.invariant.unread (ap (λ (s : CopyState). s.end) c.new.ensures));
    }
