use Rattle.std.proofs.Common.{◌≡◌, IsTrue, rules, sym, ap, subst, ◌∙◌}
use Rattle.std.proofs.lemmas.Bool.{eqb-true, eq-eqb}
use Rattle.ffv1_range.specs.Setup.{SetupValue}
use Rattle.ffv1_holding.specs.Reels.{Reel}
use Rattle.ffv1_holding.proofs.reel.Reel.has_same_record.Goals as goal
use Rattle.ffv1_holding.proofs.reel.Reel.has_same_record.Goals.{then-eq, else-eq}

pub returns-then-width : goal.returns-then-width
returns-then-width g c = elim c.if-eq.branch [
  | then-eq w ↦
      let a : Reel = c.args.self.now in
      let b : Reel = c.args.other.now in
      let own = c.recording-recording.ensures in
      let other = c.recording-others.ensures in
      let config : a.config ≡ b.config = search rules in
      let width : a.setup.width ≡ b.setup.width = ap (λ (s : SetupValue). s.width) (sym own.setup) ∙ sym w.width.ensures
      ∙ eqb-true _ _ (sym w.value-is ∙ c.if-width.true) ∙ w.width-then-eq.ensures ∙ ap (λ (s : SetupValue). s.width) other.setup in
      let height_is : c.height.result ≡ a.setup.height = c.height.ensures ∙ ap (λ (s : SetupValue). s.height) own.setup in
      let other_is : c.height-then-width.result ≡ b.setup.height = c.height-then-width.ensures ∙ ap (λ (s : SetupValue). s.height) other.setup in
      record {
        same = λ yes. record { config = config; width = width; height = sym height_is ∙ eqb-true _ _ yes ∙ other_is };
        other = λ same. eq-eqb _ _ (height_is ∙ ap (λ (r : Reel). r.setup.height) same ∙ sym other_is);
        well_formed = (own.well_formed, other.well_formed);
      }
  | else-eq w ↦ absurd (search rules)
]

pub returns-else-width-clause-other : goal.returns-else-width-clause-other
returns-else-width-clause-other g c = λ same. elim c.if-eq.branch [
  | then-eq w ↦
      let own = c.recording-recording.ensures in
      let other = c.recording-others.ensures in
      subst IsTrue (sym w.value-is)
      (eq-eqb _ _ (w.width.ensures ∙ ap (λ (s : SetupValue). s.width) own.setup ∙ ap (λ (r : Reel). r.setup.width) same
      ∙ ap (λ (s : SetupValue). s.width) (sym other.setup) ∙ sym w.width-then-eq.ensures))
  | else-eq w ↦
      let config : c.args.self.now.config ≡ c.args.other.now.config = ap (λ (r : Reel). r.config) same in
      absurd (search rules)
]
