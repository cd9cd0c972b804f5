use Rattle.ffv1_weave.proofs.Common.{◌≡◌, List, ℕ, ◌<◌, length, get_or, arith, subst, MatchOption, get_or_default, splits, HasMany, AreFewParts, Split, Pairs, Regions, values_of}
use Rattle.ffv1_weave.proofs.References.{length-values_of, each_value}
use Rattle.ffv1_weave.proofs.Finest.{finest}
use Rattle.ffv1_weave.proofs.parts.finest_parts.Goals as goal

pub returns-in-Some : goal.returns-in-Some
returns-in-Some c =
    let versions : List (List ℕ) = values_of c.args.versions.now in
    let place : ℕ = c.loop-split.split-index in
    let there : place < length splits = c.loop-split-test.true in
    let split : Split = get_or splits place (Pairs 0) in
    let few = subst (λ parts. MatchOption parts (HasMany versions split)
    (λ few. AreFewParts split versions c.args.size few.parts.items few.count)) c.in-Some.is c.in_ok-parts.ensures in
    finest split versions c.args.size (each_value c.args.versions.now (λ version. length version ≡ c.args.size) c.requires.lengths)
    (omega (arith, c.requires.some, length-values_of c.args.versions.now)) place c.in-Some.parts.parts.items c.in-Some.parts.count there
    (get_or_default splits place Regions (Pairs 0) there) c.loop-split.invariant few
