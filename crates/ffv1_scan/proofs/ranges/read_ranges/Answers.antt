use Rattle.std.proofs.Common.{◌<◌, ◌++◌, ◌∷◌, [], length, arith, sym, ap, subst, ◌∙◌, append-nil, append_assoc}
use Rattle.std.proofs.lemmas.Bool.Decides.{nat_tests}
use Rattle.ffv1_texts.specs.Lines.{AreLines}
use Rattle.ffv1_texts.proofs.LineSteps.{empty_lines, lines_of, lines_on}
use Rattle.ffv1_scan.specs.Ranges.{AreRangeLines, Rises, ranges_end}
use Rattle.ffv1_scan.proofs.LineSteps.{AreRangeLines-push, length-range_lines, Rises-push, ranges_end-push}
use Rattle.ffv1_scan.proofs.ranges.read_ranges.Goals as goal

pub loop-rest-init : goal.loop-rest-init
loop-rest-init c = record {
  lines = [];
  on = λ more are. are;
  each = subst (AreRangeLines []) (sym c.new-ranges.ensures.items) tt;
  rise = subst (Rises 0) (sym c.new-ranges.ensures.items) tt;
  end = ap (ranges_end 0) (sym c.new-ranges.ensures.items);
}

pub loop-rest-preserved : goal.loop-rest-preserved
loop-rest-preserved c =
    let inv = c.loop-rest.invariant in
    let some : 0 < length c.loop-rest.rest.now = grind (arith, nat_tests, c.is_empty.ensures, c.loop-rest-test.true) in
    let line = c.first_line.result.0.now in
    let items = c.in_ok-push.ensures.items in
    record {
      lines = inv.lines ++ line ∷ [];
      on = lines_on c.args.text.now line c.loop-rest.rest.now c.first_line.result.1.now inv.lines c.first_line.ensures.feed some c.first_line.ensures.split inv.on;
      each = subst (AreRangeLines _) (sym items) (AreRangeLines-push inv.lines c.loop-rest.ranges.items line c.in-Some.range inv.each c.in-Some.ensures.0);
      rise = subst (Rises 0) (sym items) (Rises-push 0 c.loop-rest.ranges.items c.in-Some.range inv.rise (omega (arith, c.in-Some.ensures.1, inv.end)));
      end = sym (ranges_end-push 0 c.loop-rest.ranges.items c.in-Some.range) ∙ ap (ranges_end 0) (sym items);
    }

pub returns-in_default-clause-fault : goal.returns-in_default-clause-fault
returns-in_default-clause-fault c =
    let inv = c.loop-rest.invariant in
    let some : 0 < length c.loop-rest.rest.now = grind (arith, nat_tests, c.is_empty.ensures, c.loop-rest-test.true) in
    let line = c.first_line.result.0.now in
    let rest = lines_of c.first_line.result.1.now in
    let all = lines_on c.args.text.now line c.loop-rest.rest.now c.first_line.result.1.now inv.lines c.first_line.ensures.feed some c.first_line.ensures.split inv.on
    rest.0 rest.1 in
    record {
      earlier = inv.lines;
      line = line;
      later = rest.0;
      are_lines = subst (AreLines c.args.text.now) (append_assoc inv.lines (line ∷ []) rest.0) all;
      ranges = c.loop-rest.ranges.items;
      each = inv.each;
      rise = inv.rise;
      wrong = λ range is later. c.in_default.ensures range is (omega (arith, later, inv.end));
      counted = omega (arith, length-range_lines inv.lines c.loop-rest.ranges.items inv.each, c.len.ensures);
    }

pub returns-clause-ok : goal.returns-clause-ok
returns-clause-ok c =
    let inv = c.loop-rest.invariant in
    record {
      lines = inv.lines;
      are_lines = subst (AreLines c.args.text.now) (append-nil inv.lines) (inv.on [] (empty_lines c.loop-rest.rest.now (grind (arith, nat_tests, c.is_empty.ensures, c.loop-rest-test.false))));
      each = inv.each;
      rise = inv.rise;
    }
