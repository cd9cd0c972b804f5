use Rattle.std.proofs.Common.{rules, ◌<◌, true, false, None, map, length, get_or, subst, sym, arith}
use Rattle.std.specs.Prelude.{IsTrue}
use Rattle.std.specs.List.{AllZip}
use Rattle.std.proofs.Common.{below_more}
use Rattle.std.proofs.lemmas.List.{length-map}
use Rattle.ffv1_mend.proofs.PartSteps.{zip_at}
use Rattle.ffv1_stretches.specs.Stretches.{IsAfter}
use Rattle.ffv1_stretches.specs.Inner.Ends.{end_of}
use Rattle.ffv1_stretches.specs.declared.ends.End.{End}
use Rattle.ffv1_stretches.proofs.Pairs.{pairs_from_each}
use Rattle.ffv1_stretches.proofs.EndSteps.{end_at}
use Rattle.ffv1_stretches.proofs.ends.follow.Goals as goal

abbrev no_end : End
no_end = record { place = 0; size = 0 }

pub loop-index-preserved : goal.loop-index-preserved
loop-index-preserved c =
    let i = c.loop-index.index in
    let lt : i < length c.args.ends.now = omega (arith, c.requires) in
    let t : IsTrue true = search rules in
    below_more _ _ c.loop-index.invariant
    (subst (λ n. IsAfter n (get_or c.args.places.now i None)) (sym (end_at c.args.ends.now i no_end lt)) (c.if-not-is_after.ensures.0 t))

pub returns-then-not-is_after : goal.returns-then-not-is_after
returns-then-not-is_after c =
    let i = c.loop-index.index in
    let lt : i < length c.args.ends.now = omega (arith, c.requires) in
    let within : i < length (map end_of c.args.ends.now) = omega (arith, length-map c.args.ends.now end_of, lt) in
    let no : AllZip IsAfter (map end_of c.args.ends.now) c.args.places.now → IsTrue false = λ all.
    c.if-not-is_after.ensures.1 (subst (λ n. IsAfter n (get_or c.args.places.now i None)) (end_at c.args.ends.now i no_end lt)
    (zip_at IsAfter (map end_of c.args.ends.now) c.args.places.now i 0 None all within)) in
    (λ yes. absurd (cc), no)

pub returns : goal.returns
returns c =
    let all : AllZip IsAfter (map end_of c.args.ends.now) c.args.places.now = pairs_from_each IsAfter (map end_of c.args.ends.now) c.args.places.now 0 None (omega (arith, length-map c.args.ends.now end_of, c.requires))
    (λ k lt. c.loop-index.invariant k (omega (arith, lt, length-map c.args.ends.now end_of, c.requires))) in
    let t : IsTrue true = search rules in
    (λ yes. all, λ yes. t)
