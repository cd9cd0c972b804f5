use Rattle.std.proofs.Common.{◌∙◌, ◌++◌, ◌∷◌, [], ap, arith, replicate}
use Rattle.std.proofs.lemmas.List.{replicate-append-replicate}
use Rattle.ffv1_plane.proofs.planes.fresh_states.Goals as goal

pub loop-init : goal.loop-init
loop-init c = record { made = c.in_ok-states.ensures.items }

pub loop-preserved : goal.loop-preserved
loop-preserved c = record {
  made =
      c.in_ok-push.ensures.items ∙ ap (λ l. l ++ replicate 32 128 ∷ []) c.loop.invariant.made
      ∙ replicate-append-replicate c.loop.counter 1 (replicate 32 128);
}

pub returns : goal.returns
returns c = c.loop.invariant.made ∙ ap (λ n. replicate n (replicate 32 128)) (omega (arith, c.loop-test.false, c.loop.auto.counter-end))
