use Rattle.std.proofs.Common.{arith}
use Rattle.matroska.proofs.SizeSteps.{value_small, no_vint, same_size, vint_size_there, one_given}
use Rattle.matroska.proofs.sizes.ebml_size.Goals as goal

pub returns-in_default : goal.returns-in_default
returns-in_default c = no_vint c.args.bytes.now c.args.before c.read_vint_data.result c.in_default.is c.read_vint_data.ensures.only

pub size_after-requires-clause-value : goal.size_after-requires-clause-value
size_after-requires-clause-value c = value_small c.args.bytes.now c.in-Some.found c.in-Some.ensures.found

pub returns-in_default-size_after : goal.returns-in_default-size_after
returns-in_default-size_after c = λ front rest size at is fits.
    c.in_default-size_after.ensures size (same_size c.args.bytes.now c.args.before c.read_vint_data.result c.in-Some.found c.in-Some.is c.read_vint_data.ensures.only front rest size at is)

pub returns-then-size-bytes : goal.returns-then-size-bytes
returns-then-size-bytes c = λ front rest size at is fits.
    let given = same_size c.args.bytes.now c.args.before c.read_vint_data.result c.in-Some.found c.in-Some.is c.read_vint_data.ensures.only front rest size at is in
    let one = one_given c.args.before c.in-Some.found.value c.in-Some.found.length size c.in-Some-size_after.size given c.in-Some-size_after.ensures in
    omega (arith, one, fits, c.if-size-bytes.true)

pub returns : goal.returns
returns c =
    let there = vint_size_there c.args.bytes.now c.args.before c.in-Some.found c.in-Some-size_after.size c.in-Some.ensures.found c.in-Some-size_after.ensures in
    (there.0, there.1, there.2, c.if-size-bytes.false)
