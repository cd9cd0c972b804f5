use Rattle.ffv1_weave.proofs.Common.{◌≡◌, ◌*◌, ℕ, List, [], ◌++◌, length, get_or, arith, ap, sym, ◌∙◌, subst, inl, inr, IsFoundAmong, inversions, Part, Slice, values_of}
use Rattle.ffv1_weave.proofs.References.{nowhere, value_at}
use Rattle.ffv1_weave.proofs.Choices.{IsAlike}
use Rattle.ffv1_weave.proofs.WeaveSteps.{have_few, some_tried, have_parts, written_over, put_back}
use Rattle.ffv1_weave.proofs.RepairSteps.{all_inversions, found_next, repairs_within, repairs_beyond, repair_found, repair_missing, repair_disputed, many_unless_some, no_repair_of_many}
use Rattle.ffv1_weave.proofs.repairing.repair_distinct.Goals as goal

pub returns-in_default : goal.returns-in_default
returns-in_default c =
    let versions : List (List ℕ) = values_of c.args.versions.now in
    no_repair_of_many versions (many_unless_some versions c.in_ok-tried.field-0 _ c.in_default.not-Some c.in_ok-tried.ensures)

pub nonzero_div-tried : goal.nonzero_div-tried
nonzero_div-tried c =
    let have = have_parts c.args.versions.now c.in_ok-tried.field-0 c.in-Some.tried c.in-Some.is c.in_ok-tried.ensures c.requires.some c.requires.lengths in
    some_tried (have_few have)

pub returns-then-size-tried : goal.returns-then-size-tried
returns-then-size-tried c =
    let have = have_parts c.args.versions.now c.in_ok-tried.field-0 c.in-Some.tried c.in-Some.is c.in_ok-tried.ensures c.requires.some c.requires.lengths in
    let first = ap length (value_at c.args.versions.now 0 nowhere [] c.requires.some) in
    repairs_beyond have (some_tried (have_few have)) (omega (arith, c.if-size-tried.true, first))

pub loop-code-preserved : goal.loop-code-preserved
loop-code-preserved c =
    let versions : List (List ℕ) = values_of c.args.versions.now in
    let parts : List Part = c.in-Some.tried.parts.items in
    let first : List ℕ = get_or versions 0 [] in
    let have = have_parts c.args.versions.now c.in_ok-tried.field-0 c.in-Some.tried c.in-Some.is c.in_ok-tried.ensures c.requires.some c.requires.lengths in
    let code : ℕ = c.loop-code.code in
    let bytes = written_over c.args.versions.now (have_few have) code c.loop-code.bytes.len c.choose.new.bytes _ c.loop-code.bytes.items _ c.loop-code-test.true
    c.choose.ensures c.as_slice.ensures.value c.deref_mut.ensures.value c.loop-code.invariant.alike c.loop-code.bytes.ok.0 in
    let value = c.deref_mut-in-loop-code.ensures.value in
    let same = c.with_inversions.ensures.same ∙ value in
    let kept = put_back c.loop-code.bytes.len c.with_inversions.new.bytes _
    (c.loop-code.bytes.ok.0 ∙ c.loop-code.invariant.alike.size ∙ sym bytes.alike.size) (ap length same) ∙ same in
    record {
      alike = subst (λ b. IsAlike versions 0 b first) (sym kept) bytes.alike;
      found = found_next parts first code c.in_ok-found.found
          (subst (λ b. IsFoundAmong Slice (inversions b ++ all_inversions parts first code) c.in_ok-found.found) (value ∙ bytes.are)
          (c.in_ok-found.ensures.found (all_inversions parts first code) c.loop-code.invariant.found));
    }

pub returns-in-One : goal.returns-in-One
returns-in-One c =
    let first : List ℕ = get_or (values_of c.args.versions.now) 0 [] in
    let count : ℕ = c.in-Some.tried.count in
    let have = have_parts c.args.versions.now c.in_ok-tried.field-0 c.in-Some.tried c.in-Some.is c.in_ok-tried.ensures c.requires.some c.requires.lengths in
    let done : c.loop-code.code ≡ count = omega arith in
    let size = ap length (value_at c.args.versions.now 0 nowhere [] c.requires.some) in
    repair_found have c.in-One.repaired.items _
    (subst (IsFoundAmong Slice (all_inversions c.in-Some.tried.parts.items first count)) c.in-One.is
    (subst (λ n. IsFoundAmong Slice (all_inversions c.in-Some.tried.parts.items first n) c.loop-code.found) done c.loop-code.invariant.found))
    (ap (λ n. count * (8 * n)) (sym size)) (repairs_within count _ (some_tried (have_few have)) c.if-size-tried.false)

pub returns : goal.returns
returns c =
    let first : List ℕ = get_or (values_of c.args.versions.now) 0 [] in
    let count : ℕ = c.in-Some.tried.count in
    let have = have_parts c.args.versions.now c.in_ok-tried.field-0 c.in-Some.tried c.in-Some.is c.in_ok-tried.ensures c.requires.some c.requires.lengths in
    let done : c.loop-code.code ≡ count = omega arith in
    let tallied = subst (λ n. IsFoundAmong Slice (all_inversions c.in-Some.tried.parts.items first n) c.loop-code.found) done c.loop-code.invariant.found in
    elim c.in-Nothing.is [
      | inl nothing ↦ repair_missing have (subst (IsFoundAmong Slice (all_inversions c.in-Some.tried.parts.items first count)) nothing tallied)
      | inr several ↦ repair_disputed have (subst (IsFoundAmong Slice (all_inversions c.in-Some.tried.parts.items first count)) several tallied)
    ]
