use Rattle.ffv1_weave.proofs.Common.{common_steps, ◌<◌, ◌+◌, ℕ, List, [], length, get_or, arith, sym, subst, inl, inr, get_or_default, IsFoundAmong, votes, Slice, Split, Regions, values_of}
use Rattle.ffv1_weave.proofs.References.{nowhere, value_at, length-values_of}
use Rattle.ffv1_weave.proofs.WeaveSteps.{have_few_parts}
use Rattle.ffv1_weave.proofs.VoteSteps.{ArePartsBy, AreTriedBefore, none_before, many_more, few_more, three_of_distinct, one_voted, none_voted, two_voted}
use Rattle.ffv1_weave.proofs.voting.vote_distinct.Goals.{in-Some+in_ok-found, in_default}
use Rattle.ffv1_weave.proofs.voting.vote_distinct.Goals as goal

pub loop-split-init : goal.loop-split-init
loop-split-init c = none_before (values_of c.args.versions.now)

pub loop-split-preserved : goal.loop-split-preserved
loop-split-preserved c =
    let versions : List (List ℕ) = values_of c.args.versions.now in
    let place : ℕ = c.loop-split.split-index in
    let there : place < length votes = c.loop-split-test.true in
    let split : Split = get_or votes place Regions in
    let tallied : ArePartsBy split versions (length (get_or versions 0 [])) c.in_ok-tried.field-0 =
    grind (arith, common_steps, value_at, nowhere, get_or_default) in
    elim c.match-branch-2.branch [
      | in-Some+in_ok-found w ↦
          let have = have_few_parts c.args.versions.now (omega (arith, c.requires.three)) c.requires.lengths
          (subst (ArePartsBy split versions (length (get_or versions 0 []))) w.in-Some.is tallied) in
          subst (AreTriedBefore versions (place + 1) c.match-branch-2.found) (sym w.count-is)
          (subst (λ what. AreTriedBefore versions (place + 1) what (c.loop-split.count + w.in-Some.tried.count)) (sym w.found-is)
          (few_more versions place c.loop-split.found c.loop-split.count c.loop-split.invariant w.in-Some.tried.parts.items w.in-Some.tried.count have
          w.in_ok-found.found w.in_ok-found.ensures))
      | in_default w ↦
          subst (AreTriedBefore versions (place + 1) c.match-branch-2.found) (sym w.count-is)
          (subst (λ what. AreTriedBefore versions (place + 1) what c.loop-split.count) (sym w.found-is)
          (many_more versions place c.loop-split.found c.loop-split.count c.loop-split.invariant
          (subst (ArePartsBy split versions (length (get_or versions 0 []))) w.in_default.is tallied)))
    ]

pub returns-in-One : goal.returns-in-One
returns-in-One c =
    let versions : List (List ℕ) = values_of c.args.versions.now in
    let place : ℕ = c.loop-split.split-index in
    let so_far : AreTriedBefore versions place c.loop-split.found c.loop-split.count = c.loop-split.invariant in
    one_voted versions (three_of_distinct versions (omega (arith, c.requires.three, length-values_of c.args.versions.now)) c.requires.distinct)
    place (omega arith) c.loop-split.found c.loop-split.count so_far c.in-One.voted.items
    (subst (IsFoundAmong Slice so_far.strings) c.in-One.is so_far.found)

pub returns-in-Nothing : goal.returns-in-Nothing
returns-in-Nothing c =
    let versions : List (List ℕ) = values_of c.args.versions.now in
    let place : ℕ = c.loop-split.split-index in
    let so_far : AreTriedBefore versions place c.loop-split.found c.loop-split.count = c.loop-split.invariant in
    let three = three_of_distinct versions (omega (arith, c.requires.three, length-values_of c.args.versions.now)) c.requires.distinct in
    elim c.in-Nothing.is [
      | inl nothing ↦ none_voted versions three place (omega arith) c.loop-split.found c.loop-split.count so_far
          (subst (IsFoundAmong Slice so_far.strings) nothing so_far.found)
      | inr several ↦ two_voted versions three place (omega arith) c.loop-split.found c.loop-split.count so_far
          (subst (IsFoundAmong Slice so_far.strings) several so_far.found)
    ]
