use Rattle.std.proofs.Common.{◌∙◌, ap, sym, subst, arith, length, List, ℕ, ◌+◌, ◌++◌, ◌∷◌, []}
use Rattle.ffv1_colors.specs.Inner.Planes.{AreColorsTo}
use Rattle.ffv1_colors.specs.Colors.{IsFirstOutside, colors_of}
use Rattle.ffv1_colors.specs.Planes.{coded_planes}
use Rattle.ffv1_colors.proofs.MoreColors.{planes_with, one_more_color, colors_before}
use Rattle.ffv1_colors.proofs.coding.ColorCoding.planes_of.Goals as goal

pub loop-place-init : goal.loop-place-init
loop-place-init c = record {
  so_far = record {
    first_long = ap length c.in_ok-green.ensures.items;
    second_long = ap length c.in_ok-blue.ensures.items;
    third_long = ap length c.in_ok-red.ensures.items;
    coded_so = λ s less. absurd (omega (arith, less));
    colors = λ s less. absurd (omega (arith, less));
  };
}

pub returns-in-Err-clause-err : goal.returns-in-Err-clause-err
returns-in-Err-clause-err c = record {
  inside = c.loop-place-test.true;
  before =
      colors_before c.args.self.now (coded_planes c.args.coded.now) c.loop-place.green.items c.loop-place.blue.items c.loop-place.red.items c.loop-place.place
      c.loop-place.invariant.so_far;
  outside = subst (λ q. IsFirstOutside c.args.self.now (colors_of c.args.self.now q) c.in-Err.outside.plane) c.at.ensures c.in-Err.ensures.err;
}

pub loop-place-preserved : goal.loop-place-preserved
loop-place-preserved c = record {
  so_far =
      (let v = c.args.self.now in let coded = coded_planes c.args.coded.now in let n = c.loop-place.place + 1 in
      subst (λ (l : List ℕ). AreColorsTo v coded (planes_with l c.push-in-Ok.new.self.items c.push-in-Ok-2.new.self.items) n) (sym c.in_ok-push-in-Ok.ensures.items)
      (subst (λ (l : List ℕ). AreColorsTo v coded (planes_with (c.loop-place.green.items ++ c.in-Ok.color.green ∷ []) l c.push-in-Ok-2.new.self.items) n)
      (sym c.in_ok-push-in-Ok-2.ensures.items)
      (subst (λ (l : List ℕ). AreColorsTo v coded (planes_with (c.loop-place.green.items ++ c.in-Ok.color.green ∷ [])
      (c.loop-place.blue.items ++ c.in-Ok.color.blue ∷ []) l) n) (sym c.in_ok-push-in-Ok-3.ensures.items)
      (one_more_color v coded c.loop-place.green.items c.loop-place.blue.items c.loop-place.red.items c.loop-place.place c.loop-place.invariant.so_far
      c.in-Ok.color.green c.in-Ok.color.blue c.in-Ok.color.red (c.in-Ok.ensures.value ∙ c.at.ensures) c.in-Ok.ensures.within))));
}
