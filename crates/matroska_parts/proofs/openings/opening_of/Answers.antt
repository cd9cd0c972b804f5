use Rattle.std.proofs.Common.{arith}
use Rattle.matroska_parts.proofs.OpeningSteps.{head_small}
use Rattle.matroska_parts.proofs.openings.opening_of.Goals as goal

pub overflow_add-end-in-Some : goal.overflow_add-end-in-Some
overflow_add-end-in-Some c =
    let small = head_small c.requires.has.0 c.args.head.now c.requires.has.1 in
    let short = small.0 in let sized = small.1 c.in-Some.size c.in-Some.is in
    omega (arith, short, sized, c.requires.place)
