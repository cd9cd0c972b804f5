use Rattle.ffv1_weave.proofs.Common.{common_steps, ◌≡◌, ℕ, List, Bor, ◌/◌, ◌<◌, ◌≤◌, length, arith, subst, Part, values_of}
use Rattle.ffv1_weave.specs.declared.weaving.TheConstants.{MOST_COMBINATIONS}
use Rattle.ffv1_weave.proofs.References.{length-values_of, each_value}
use Rattle.ffv1_weave.proofs.Finest.{one_more, too_many_more}
use Rattle.ffv1_weave.proofs.parts.parts_by.Goals as goal

pub returns-then-many-count : goal.returns-then-many-count
returns-then-many-count c =
    let versions : List (List ℕ) = values_of c.args.versions.now in
    let choices : List (Bor (List ℕ)) = c.in_ok-choices.choices.items in
    let part : Part = record { start = c.in-Some.start; end = c.in-Some.end; choices = values_of choices } in
    let many : c.len-many.result ≡ length part.choices = omega (arith, c.len-many.ensures, c.in_ok-choices.choices.ok.0, length-values_of choices) in
    too_many_more c.args.split versions c.args.size (each_value c.args.versions.now (λ version. length version ≡ c.args.size) c.requires.lengths)
    (omega (arith, c.requires.some, length-values_of c.args.versions.now)) c.loop-start.from c.loop-start.parts.items c.loop-start.count c.loop-start.invariant
    part c.in-Some.ensures.part c.in-Some.ensures.within c.in_ok-choices.ensures (subst (λ n. MOST_COMBINATIONS / c.loop-start.count < n) many c.if-many-count.true)

pub loop-start-preserved : goal.loop-start-preserved
loop-start-preserved c =
    let versions : List (List ℕ) = values_of c.args.versions.now in
    let choices : List (Bor (List ℕ)) = c.in_ok-choices.choices.items in
    let part : Part = record { start = c.in-Some.start; end = c.in-Some.end; choices = values_of choices } in
    let many : c.len-many.result ≡ length part.choices = omega (arith, c.len-many.ensures, c.in_ok-choices.choices.ok.0, length-values_of choices) in
    let more = one_more c.args.split versions c.args.size (each_value c.args.versions.now (λ version. length version ≡ c.args.size) c.requires.lengths)
    (omega (arith, c.requires.some, length-values_of c.args.versions.now)) c.loop-start.from c.loop-start.parts.items c.loop-start.count c.loop-start.invariant
    part c.in-Some.ensures.part c.in-Some.ensures.within c.in_ok-choices.ensures (subst (λ n. n ≤ MOST_COMBINATIONS / c.loop-start.count) many c.if-many-count.false) in
    grind (arith, common_steps)
