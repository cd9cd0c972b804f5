use Rattle.std.proofs.Common.{◌∙◌, sym, ap, subst}
use Rattle.std.specs.Option.{option_copied}
use Rattle.matroska_parts.specs.Inner.Inside.{IsInsideOf}
use Rattle.matroska_parts.proofs.InsideSteps.{leaf_inside, master_inside, no_ebml, no_group}
use Rattle.matroska_parts.proofs.elements.pass_inside.Goals as goal

pub returns-in_default : goal.returns-in_default
returns-in_default g c =
    let none = sym c.child_ids.ensures ∙ ap option_copied c.in_default.is in
    let passed = c.in_ok-length.ensures in
    record {
      content = passed.0;
      is = subst (IsInsideOf c.args.id c.args.element passed.0) (sym c.inside_of.ensures)
          (leaf_inside c.args.id c.args.element passed.0 c.in_ok-length.length none (no_ebml c.args.id c.args.element c.requires.known none) passed.1);
      passes = passed.2;
      over = passed.3;
    }

pub returns : goal.returns
returns g c =
    let is = sym c.child_ids.ensures ∙ ap option_copied c.in-Some.is in
    let passed = c.in_ok-passed.ensures in
    record {
      content = passed.content;
      is = subst (IsInsideOf c.args.id c.args.element passed.content) (sym c.inside_of-2.ensures)
          (master_inside c.args.id c.args.element c.in-Some.ids.now passed.content passed.children c.in_ok-passed.passed.length c.in_ok-passed.passed.children is c.requires.other
          (no_group c.args.id c.args.element c.requires.known) c.in_default-element.not-Ebml passed.long passed.within passed.are);
      passes = passed.passes;
      over = passed.over;
    }
