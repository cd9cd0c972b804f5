use Rattle.std.proofs.Common.{◌≡◌, ◌+◌, ◌/◌, ◌%◌, ◌^◌, get_or, ap, ◌∙◌}
use Rattle.ffv1_bits.proofs.SixteenBytes.{moved_entry, four_moved}
use Rattle.ffv1_bits.proofs.parity.moved_four.Goals as goal

pub returns : goal.returns
returns c =
    let first : c.moved_remainder.result ≡ moved_entry (c.args.more + 3) (c.args.number / 2 ^ 24 % 256) =
    c.moved_remainder.ensures ∙ ap (λ bytes. moved_entry (c.args.more + 3) (get_or bytes 0 0)) c.to_be_bytes.ensures in
    let second : c.moved_remainder-2.result ≡ moved_entry (c.args.more + 2) (c.args.number / 2 ^ 16 % 256) =
    c.moved_remainder-2.ensures ∙ ap (λ bytes. moved_entry (c.args.more + 2) (get_or bytes 1 0)) c.to_be_bytes.ensures in
    let third : c.moved_remainder-3.result ≡ moved_entry (c.args.more + 1) (c.args.number / 2 ^ 8 % 256) =
    c.moved_remainder-3.ensures ∙ ap (λ bytes. moved_entry (c.args.more + 1) (get_or bytes 2 0)) c.to_be_bytes.ensures in
    let fourth : c.moved_remainder-4.result ≡ moved_entry c.args.more (c.args.number % 256) =
    c.moved_remainder-4.ensures ∙ ap (λ bytes. moved_entry c.args.more (get_or bytes 3 0)) c.to_be_bytes.ensures in
    rw (first, second, third, fourth) (four_moved c.args.number c.args.more c.ranges.number.fits c.requires)
