use Rattle.std.proofs.Common.{◌<◌, true, false, get_or, eqb, length, arith, sym, ap, ◌∙◌}
use Rattle.std.specs.Prelude.{◌||◌, ◌&&◌}
use Rattle.matroska_parts.specs.TopElements.{element_number}
use Rattle.ffv1_check.proofs.TopSteps.{set_true, below_eleven, kept}
use Rattle.ffv1_check.proofs.tops.Tops.crc32s_with.Goals as goal

pub returns-then-has_one : goal.returns-then-has_one
returns-then-has_one c = λ element.
    let old = c.args.self.now.with_crc32 in
    let below : c.number.result < 11 = omega (arith, c.number.ensures, below_eleven c.args.closing.now.element) in
    let within : c.number.result < length c.args.self.now.with_crc32 = omega arith in
    set_true old c.number.result (element_number element) within
    ∙ ap (λ k. get_or old (element_number element) false || (true && eqb k (element_number element))) c.number.ensures
    ∙ ap (λ b. get_or old (element_number element) false || (b && eqb (element_number c.args.closing.now.element) (element_number element))) (sym c.if-has_one.true ∙ c.has_one.ensures)

pub returns-else-has_one : goal.returns-else-has_one
returns-else-has_one c = λ element.
    let old = c.args.self.now.with_crc32 in
    kept (get_or old (element_number element) false)
    ∙ ap (λ b. get_or old (element_number element) false || (b && eqb (element_number c.args.closing.now.element) (element_number element))) (sym c.if-has_one.false ∙ c.has_one.ensures)
