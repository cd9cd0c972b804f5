use Rattle.std.proofs.Common.{ap, nat_lt, refl}
use Rattle.ffv1_devices.specs.Logs.{WriteLog}
use Rattle.ffv1_devices.specs.Streams.{takes_none, IsBrokenWrite}
use Rattle.ffv1_program.proofs.Counted.{counted_so}
use Rattle.ffv1_program.proofs.made.MadeFileSink.write.Goals as goal

pub returns-clause-tried : goal.returns-clause-tried
returns-clause-tried g c =
    let result = c.write-result.result in
    record {
      bytes = c.write-result.ensures.tried.bytes;
      same = refl;
      tries' = counted_so (takes_none result c.args.buf.now) _ _ (IsBrokenWrite result c.args.buf.now) _ _ _ _
          (ap (λ (log : WriteLog). log.tries) c.new-sink.ensures.log) c.write-result.ensures.tried.tries' (ap (nat_lt 0) c.failures.ensures)
          (ap (nat_lt 0) c.broken.ensures) c.count.ensures;
    }
