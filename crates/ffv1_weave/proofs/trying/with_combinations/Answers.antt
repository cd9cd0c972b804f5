use Rattle.ffv1_weave.proofs.Common.{◌≡◌, ◌<◌, ℕ, List, [], ◌∷◌, ◌++◌, Vec, Global, length, get_or, map, arith, ap, sym, ◌∙◌, subst, refl, All, length-map, get_or-map, IsFoundAmong, Part, chosen, chosen_below, remainder_in, values_of}
use Rattle.ffv1_weave.proofs.Linear.{changes_some, passes_leaves_none}
use Rattle.ffv1_weave.proofs.FoundSteps.{found_skipped}
use Rattle.ffv1_weave.proofs.WeaveSteps.{have_few_parts, first_alike, alike_first, tables_are, tables_fit, left_is, written_over, next_below}
use Rattle.ffv1_weave.proofs.trying.with_combinations.Goals as goal

-- what a table has
abbrev entries : List (Vec ℕ Global) → List (List ℕ)
entries tables = map (λ table. table.items) tables

pub loop-code-init : goal.loop-code-init
loop-code-init c =
    let have = have_few_parts c.args.versions.now c.requires.some c.requires.lengths c.requires.few.1 in
    let alike = first_alike c.args.versions.now have c.in_ok-bytes.bytes.len c.choose.new.bytes _ c.in_ok-bytes.bytes.items _ c.choose.ensures
    c.as_slice.ensures.value c.deref_mut.ensures.value (alike_first c.args.versions.now have c.in_ok-bytes.bytes.items c.in_ok-bytes.ensures.items)
    c.in_ok-bytes.bytes.ok.0 _ refl in
    record { alike = alike; found = λ others h. h }

pub changed-requires : goal.changed-requires
changed-requires c =
    let have = have_few_parts c.args.versions.now c.requires.some c.requires.lengths c.requires.few.1 in
    let alike = first_alike c.args.versions.now have c.in_ok-bytes.bytes.len c.choose.new.bytes _ c.in_ok-bytes.bytes.items _ c.choose.ensures
    c.as_slice.ensures.value c.deref_mut.ensures.value (alike_first c.args.versions.now have c.in_ok-bytes.bytes.items c.in_ok-bytes.ensures.items)
    c.in_ok-bytes.bytes.ok.0 _ c.as_slice-3.ensures.value in
    let tables = tables_are c.args.versions.now have c.args.check c.as_slice-3.result.now alike _ _
    (ap entries c.as_slice-in-loop-code.ensures.value ∙ c.in_ok-tables.ensures) c.as_slice-4.ensures.value in
    let fit = tables_fit c.args.versions.now have c.args.check c.as_slice-3.result.now alike _ _
    (ap entries c.as_slice-in-loop-code.ensures.value ∙ c.in_ok-tables.ensures) c.as_slice-4.ensures.value in
    let some : All (λ changes. 0 < length changes) (entries c.as_slice-in-loop-code.result.now) =
    rw tables (changes_some c.args.check (length c.as_slice-3.result.now) c.as_slice-3.result.now c.args.tried.now.parts.items fit) in
    λ k d lt.
    let one = some k [] (omega (arith, length-map c.as_slice-in-loop-code.result.now (λ (table : Vec ℕ Global). table.items))) in
    omega (arith, ap length (get_or-map (λ (table : Vec ℕ Global). table.items) c.as_slice-in-loop-code.result.now k d [] lt))

pub loop-code-preserved-then-changed-ne0 : goal.loop-code-preserved-then-changed-ne0
loop-code-preserved-then-changed-ne0 c =
    let parts : List Part = c.args.tried.now.parts.items in
    let first : List ℕ = get_or (values_of c.args.versions.now) 0 [] in
    let code : ℕ = c.loop-code.code in
    let have = have_few_parts c.args.versions.now c.requires.some c.requires.lengths c.requires.few.1 in
    let alike = first_alike c.args.versions.now have c.in_ok-bytes.bytes.len c.choose.new.bytes _ c.in_ok-bytes.bytes.items _ c.choose.ensures
    c.as_slice.ensures.value c.deref_mut.ensures.value (alike_first c.args.versions.now have c.in_ok-bytes.bytes.items c.in_ok-bytes.ensures.items)
    c.in_ok-bytes.bytes.ok.0 _ c.as_slice-3.ensures.value in
    let left = left_is c.args.versions.now have c.args.check c.as_slice-3.result.now alike _ _
    (ap entries c.as_slice-in-loop-code.ensures.value ∙ c.in_ok-tables.ensures) c.as_slice-4.ensures.value code c.remainder-base.result c.changed.result
    (c.remainder-base.ensures ∙ ap (remainder_in c.args.check) (c.as_slice-2.ensures.value ∙ sym c.as_slice-3.ensures.value)) c.changed.ensures in
    record {
      alike = c.loop-code.invariant.alike;
      found = λ others h. next_below c.args.check parts first code others c.loop-code.found
          (found_skipped c.args.check (chosen parts code first) (chosen_below parts first code ++ others)
          (λ passes. c.if-changed-ne0.true (left ∙ passes_leaves_none c.args.check (chosen parts code first) passes)) c.loop-code.found
          (c.loop-code.invariant.found others h));
    }

pub loop-code-preserved : goal.loop-code-preserved
loop-code-preserved c =
    let parts : List Part = c.args.tried.now.parts.items in
    let first : List ℕ = get_or (values_of c.args.versions.now) 0 [] in
    let code : ℕ = c.loop-code.code in
    let have = have_few_parts c.args.versions.now c.requires.some c.requires.lengths c.requires.few.1 in
    let bytes = written_over c.args.versions.now have code c.loop-code.bytes.len c.choose-in-loop-code.new.bytes _ c.loop-code.bytes.items _ c.loop-code-test.true
    c.choose-in-loop-code.ensures c.as_slice-in-loop-code-2.ensures.value c.deref_mut-in-loop-code.ensures.value c.loop-code.invariant.alike c.loop-code.bytes.ok.0 in
    record {
      alike = bytes.alike;
      found = λ others h. next_below c.args.check parts first code others c.in_ok-found.found
          (subst (λ b. IsFoundAmong c.args.check (b ∷ (chosen_below parts first code ++ others)) c.in_ok-found.found)
          (c.as_slice-in-loop-code-3.ensures.value ∙ bytes.are)
          (c.in_ok-found.ensures (chosen_below parts first code ++ others) (c.loop-code.invariant.found others h)));
    }

pub returns : goal.returns
returns c = λ others h.
    let done : c.loop-code.code ≡ c.args.tried.now.count = omega (arith, c.loop-code-test.false, c.loop-code.auto.code-end) in
    let first : List ℕ = get_or (values_of c.args.versions.now) 0 [] in
    rw (← done) (c.loop-code.invariant.found others h)
