use Rattle.std.proofs.Common.{rules}
use Rattle.ffv1_commands.proofs.DecodeSteps.{decode_of_bytes}
use Rattle.ffv1_commands.proofs.Wrapped.{both_through, reader_kept}
use Rattle.ffv1_commands.proofs.decode.run_decode.Goals as goal

pub returns : goal.returns
returns g c =
    let r = c.decode_of.result in
    let bytes = decode_of_bytes _ _ _ _ _ _ _ _ _ _ r c.decode_of.ensures.reported in
    let kept = both_through r _ _ _ _ _ _ c.new-3.ensures.writer c.new-4.ensures.writer c.decode_of.ensures.untouched in
    record {
      ok = search (rules, bytes.ok);
      err = search (rules, bytes.err);
      untouched = search (rules, kept);
      in_turn = reader_kept r _ _ _ _ c.new-2.ensures.reader (search rules) c.decode_of.ensures.in_turn;
      names = bytes.names;
    }
