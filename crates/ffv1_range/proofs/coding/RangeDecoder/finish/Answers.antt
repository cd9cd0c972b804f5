use Rattle.std.proofs.Common.{◌≡◌, ◌∙◌, false, ap, arith}
use Rattle.ffv1_range.specs.Decoder.{Reader}
use Rattle.ffv1_range.proofs.Slots.{bytes_to_come}
use Rattle.ffv1_range.proofs.coding.RangeDecoder.finish.Goals as goal

pub returns : goal.returns
returns c =
    let read = c.in_ok-bit.ensures.read in
    let is = c.decoder.view_is ∙ read.2 in
    let left = bytes_to_come c.decoder.inside.fault c.decoder.inside.interval read.0 (ap (λ (z : Reader). z.at) is) in
    let total : c.decoder.inside.total ≡ c.args.self.total = ap (λ (z : Reader). z.total) is in
    let sentinel : c.decoder.inside.closed ≡ false = ap (λ (z : Reader). z.mode.closed) is ∙ c.requires in
    ((_, read.0), read.1, omega (arith, left, total))
