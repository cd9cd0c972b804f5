use Rattle.ffv1_hold.proofs.Common.{◌≡◌, rules, ap, sym, ◌∙◌, eq-eqb, Reel}
use Rattle.std.proofs.lemmas.Bool.{eqb-true}
use Rattle.ffv1_hold.proofs.UnionReels.{one_record_of}
use Rattle.ffv1_hold.proofs.merging.Reels.are_of_one_record.Goals as goal

pub returns-then-left_width-right_width : goal.returns-then-left_width-right_width
returns-then-left_width-right_width c =
    let a = c.args.self.now.left in
    let b = c.args.self.now.right in
    let one = c.size_of-left_width.ensures in
    let two = c.size_of-right_width.ensures in
    let bytes : c.config.result.now ≡ c.config-2.result.now = search rules in
    let config : a.config ≡ b.config = sym c.config.ensures ∙ bytes ∙ c.config-2.ensures in
    let width : a.setup.width ≡ b.setup.width = sym one.width ∙ c.if-left_width-right_width.true ∙ two.width in (
      λ same. one_record_of a b one.well_formed two.well_formed config width (sym one.height ∙ eqb-true _ _ same ∙ two.height),
      λ of_one. eq-eqb _ _ (one.height ∙ ap (λ (r : Reel). r.setup.height) of_one ∙ sym two.height),
    )
