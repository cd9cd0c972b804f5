use Rattle.std.proofs.Common.{List, ℕ, length, refl, sym, subst}
use Rattle.ebml_reader.specs.Pieces.{PassesUpTo}
use Rattle.matroska_parts.proofs.InsideSteps.{ebml_inside}
use Rattle.matroska_parts.proofs.elements.hold_inside.Goals as goal

pub returns : goal.returns
returns g c = λ id is no_cluster no_group.
    let bytes = c.as_slice-bytes.result.now in
    let are = c.children_end.ensures.are in
    record {
      content = c.as_slice-bytes.result.now;
      is = ebml_inside id c.args.ids.now bytes are.0 (length c.as_slice-bytes.result.now) c.children_end.result c.is_matroska.result is no_cluster no_group refl
          c.children_end.ensures.within are.1 c.is_matroska.ensures;
      passes = subst (λ (l : List ℕ). PassesUpTo c.args.size l c.args.intake.now c.take_bytes.new.intake (g.S.Source.log c.args.source.now) (g.S.Source.log c.take_bytes.new.source))
          (sym c.as_slice-bytes.ensures.value) c.in_ok-content.ensures;
      over = c.push.ensures;
    }
