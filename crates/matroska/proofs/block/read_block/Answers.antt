use Rattle.std.proofs.Common.{rules}
use Rattle.std.specs.Int.{w16, cast_signed, cast_unsigned}
use Rattle.std.specs.Prelude.{FitsSigned}
use Rattle.std.proofs.Math.Facts.{to_z-of_z}
use Rattle.std.proofs.lemmas.List.{take_rest}
use Rattle.ebml.proofs.Heads.{after}
use Rattle.matroska.proofs.BlockSteps.{no_number, short_after, block_there}
use Rattle.matroska.proofs.block.read_block.Goals as goal

pub returns-in_default : goal.returns-in_default
returns-in_default c = no_number c.args.content.now c.read_vint_data.result c.in_default.is c.read_vint_data.ensures.only

pub returns-in_default-2 : goal.returns-in_default-2
returns-in_default-2 c =
    short_after c.args.content.now c.read_vint_data.result c.in-Some.track c.in-Some.is c.read_vint_data.ensures.only c.in_default-2.len_below

pub returns : goal.returns
returns c =
    let fits : FitsSigned w16 c.from_be_bytes.result = search rules in
    block_there c.args.content.now c.in-Some.track c.from_be_bytes.result (cast_signed w16 (cast_unsigned w16 c.from_be_bytes.result)) c.lacing_of.result
    (after (after c.args.content.now c.in-Some.track.length) 3) c.in-Some.ensures.found c.in-len3-up.len_at_least c.from_be_bytes.ensures
    (to_z-of_z fits) c.lacing_of.ensures (take_rest (after c.args.content.now c.in-Some.track.length) 3)
