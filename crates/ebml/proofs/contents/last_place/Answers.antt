use Rattle.std.proofs.Common.{arith}
use Rattle.ebml.proofs.ContentList.{first_last_place, last_place_more, last_place_found}
use Rattle.ebml.proofs.contents.last_place.Goals as goal

pub loop-content-init : goal.loop-content-init
loop-content-init c = record { places = first_last_place c.args.id c.args.bytes.now; short = omega arith; within = tt }

pub loop-content-preserved : goal.loop-content-preserved
loop-content-preserved c = record {
  places = last_place_more c.args.id c.args.bytes.now c.loop-content.left.now c.in-Some.content.rest.now c.in-Some.content.bytes.now c.in-Some.content.place c.loop-content.last
      c.loop-content.invariant.short (omega (arith, c.in-Some.ensures.shorter)) c.in-Some.ensures.placed c.loop-content.invariant.places;
  short = omega (arith, c.in-Some.ensures.shorter, c.loop-content.invariant.short);
  within = omega (arith, c.in-Some.ensures.within, c.loop-content.invariant.short);
}

pub returns-clause-place : goal.returns-clause-place
returns-clause-place c = last_place_found c.args.id c.args.bytes.now c.loop-content.left.now c.loop-content.last c.loop-content.invariant.places c.in_default.ensures.none
