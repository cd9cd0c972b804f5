use Rattle.std.proofs.Common.{◌<◌, length, string_bytes, arith}
use Rattle.ffv1_holding.specs.ReportText.{hex_byte}
use Rattle.ffv1_holding.proofs.Reports.{added_more}
use Rattle.ffv1_holding.proofs.reporting.push_digest.Goals as goal

pub loop-byte-preserved : goal.loop-byte-preserved
loop-byte-preserved c =
    let lt : c.loop-byte.byte-index < length c.args.digest.now = omega arith in
    added_more hex_byte c.args.digest.now c.loop-byte.byte-index 0 (string_bytes c.args.text.now) (string_bytes c.loop-byte.text) _ lt
    c.in_ok-push_hex.ensures c.loop-byte.invariant
