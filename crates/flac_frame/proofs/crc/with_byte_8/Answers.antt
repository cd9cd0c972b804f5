use Rattle.std.proofs.Common.{rules, ap, ◌∙◌, get_or}
use Rattle.std.specs.Prelude.{bit_xor}
use Rattle.flac_frame.specs.declared.crc.TheConstants.{ENTRIES_8}
use Rattle.flac_frame.proofs.Checks.{byte_taken_8}
use Rattle.flac_frame.proofs.crc.with_byte_8.Goals as goal

pub returns : goal.returns
returns c =
    ap (λ i. bit_xor (get_or ENTRIES_8 i 0) c.args.byte) c.from.ensures ∙ byte_taken_8 c.args.register c.args.byte (search rules) (search rules)
