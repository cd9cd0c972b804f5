use Rattle.std.proofs.Common.{string_bytes, ap}
use Rattle.std.specs.List.{flat_map}
use Rattle.ffv1_holding.specs.ReportText.{hex_byte, settled_numbers, digest_text}
use Rattle.ffv1_holding.proofs.Reports.{then_pushed}
use Rattle.ffv1_holding.proofs.reporting.push_settled.Goals as goal

pub returns : goal.returns
returns c =
    then_pushed c.push_digest.result (string_bytes c.args.text.now) _ (string_bytes c.push_digest.new.text) (settled_numbers c.args.slice.now c.args.held)
    (flat_map hex_byte c.digest.result) (digest_text c.args.slice.now) c.in_ok-push_settled_numbers.ensures c.push_digest.ensures
    (ap (flat_map hex_byte) c.digest.ensures)
