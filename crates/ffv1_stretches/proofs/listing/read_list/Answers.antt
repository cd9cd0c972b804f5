use Rattle.std.proofs.Common.{◌≡◌, ◌<◌, ◌++◌, ◌∷◌, [], ℕ, Bool, true, false, length, arith, refl, sym, subst, ◌∙◌, append-nil, append_assoc}
use Rattle.std.specs.Prelude.{MatchBool}
use Rattle.std.proofs.lemmas.Bool.Decides.{nat_tests}
use Rattle.std.proofs.lemmas.List.{length-append}
use Rattle.ffv1_texts.specs.Lines.{AreLines}
use Rattle.ffv1_texts.proofs.LineSteps.{empty_lines, lines_of, lines_on}
use Rattle.ffv1_stretches.specs.Listed.{AreListed}
use Rattle.ffv1_stretches.specs.Inner.ListSteps.{IsListedTo, AddsLine}
use Rattle.ffv1_stretches.proofs.ListLemmas.{listed_to_none, length-listed_none, line_shorter}
use Rattle.ffv1_stretches.proofs.OrderLemmas.{listed_in_order}
use Rattle.ffv1_stretches.proofs.listing.read_list.Goals as goal

pub loop-rest-init : goal.loop-rest-init
loop-rest-init c =
    let none : [] ≡ c.new-stretches.result.items = sym c.new-stretches.ensures.items in
    let ends = c.in_ok-ends.ensures in
    record {
      lines = [];
      on = λ more are. are;
      listed = subst (AreListed c.args.copies []) none AreListed.none;
      ends = subst (IsListedTo c.in_ok-ends.ends.items) none (listed_to_none c.args.copies c.in_ok-ends.ends.items ends);
      count = length-listed_none c.args.copies c.in_ok-ends.ends.items ends;
      number = refl;
      left = omega arith;
    }

pub returns-then-not-branch-clause-fault : goal.returns-then-not-branch-clause-fault
returns-then-not-branch-clause-fault c =
    let inv = c.loop-rest.invariant in
    let some : 0 < length c.loop-rest.rest.now = grind (arith, nat_tests, c.is_empty.ensures, c.loop-rest-test.true) in
    let line = c.first_line.result.0.now in
    let rest = lines_of c.first_line.result.1.now in
    let all = lines_on c.args.text.now line c.loop-rest.rest.now c.first_line.result.1.now inv.lines c.first_line.ensures.feed some c.first_line.ensures.split inv.on
    rest.0 rest.1 in
    let added : AddsLine c.args.copies line c.loop-rest.stretches.items c.add_line.new.stretches.items false =
    subst (AddsLine c.args.copies line c.loop-rest.stretches.items c.add_line.new.stretches.items) c.if-not-branch.true
    (subst (λ (n : ℕ). AddsLine n line c.loop-rest.stretches.items c.add_line.new.stretches.items c.in_ok-add_line.field-0) inv.count c.in_ok-add_line.ensures.line) in
    record {
      earlier = inv.lines;
      line = line;
      later = rest.0;
      are_lines = subst (AreLines c.args.text.now) (append_assoc inv.lines (line ∷ []) rest.0) all;
      stretches = c.loop-rest.stretches.items;
      good = inv.listed;
      bad = added inv.lines inv.listed;
      counted = omega (arith, inv.number);
    }

pub loop-rest-preserved : goal.loop-rest-preserved
loop-rest-preserved c =
    let inv = c.loop-rest.invariant in
    let some : 0 < length c.loop-rest.rest.now = grind (arith, nat_tests, c.is_empty.ensures, c.loop-rest-test.true) in
    let line = c.first_line.result.0.now in
    let added : AddsLine c.args.copies line c.loop-rest.stretches.items c.add_line.new.stretches.items true =
    subst (AddsLine c.args.copies line c.loop-rest.stretches.items c.add_line.new.stretches.items) c.if-not-branch.false
    (subst (λ (n : ℕ). AddsLine n line c.loop-rest.stretches.items c.add_line.new.stretches.items c.in_ok-add_line.field-0) inv.count c.in_ok-add_line.ensures.line) in
    let ends : IsListedTo c.add_line.new.ends.items c.add_line.new.stretches.items =
    subst (λ (b : Bool). MatchBool b (IsListedTo c.add_line.new.ends.items c.add_line.new.stretches.items) (Unit {0})) c.if-not-branch.false c.in_ok-add_line.ensures.ends in
    let count : length c.add_line.new.ends.items ≡ length c.loop-rest.ends.items =
    subst (λ (b : Bool). MatchBool b (length c.add_line.new.ends.items ≡ length c.loop-rest.ends.items) (Unit {0})) c.if-not-branch.false c.in_ok-add_line.ensures.count in
    let shorter = line_shorter c.loop-rest.rest.now line c.first_line.result.1.now some c.first_line.ensures.split in
    record {
      lines = inv.lines ++ line ∷ [];
      on = lines_on c.args.text.now line c.loop-rest.rest.now c.first_line.result.1.now inv.lines c.first_line.ensures.feed some c.first_line.ensures.split inv.on;
      listed = added inv.lines inv.listed;
      ends = ends;
      count = count ∙ inv.count;
      number = omega (arith, inv.number, length-append inv.lines (line ∷ []));
      left = omega (arith, shorter, inv.left);
    }

pub returns-clause-ok : goal.returns-clause-ok
returns-clause-ok c =
    let inv = c.loop-rest.invariant in
    record {
      lines = inv.lines;
      are_lines = subst (AreLines c.args.text.now) (append-nil inv.lines) (inv.on [] (empty_lines c.loop-rest.rest.now (grind (arith, nat_tests, c.is_empty.ensures, c.loop-rest-test.false))));
      listed = inv.listed;
    }

pub returns-clause-order : goal.returns-clause-order
returns-clause-order c = listed_in_order c.args.copies c.loop-rest.invariant.lines c.loop-rest.stretches.items c.loop-rest.invariant.listed
