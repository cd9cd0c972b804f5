use Rattle.std.proofs.Common.{refl, sym, ap, ◌∙◌}
use Rattle.std.specs.Cmp.{booleans_Decides}
use Rattle.ffv1_holding.specs.Reels.{Reel}
use Rattle.ffv1_holding.proofs.Reels.{same_in_frames}
use Rattle.ffv1_holding.proofs.reel.Reel.is_same.Goals as goal

pub returns-then-has_same_record : goal.returns-then-has_same_record
returns-then-has_same_record g c =
    let own = c.has_same_record.ensures.well_formed in
    let record' = c.if-has_same_record.ensures.same refl in
    let a = c.is_of_profile.ensures in
    let b = c.is_of_profile-then-has_same_record.ensures in (
      λ yes. same_in_frames c.args.self.now c.args.other.now own.0 own.1 record'.config record'.width record'.height
          (sym a ∙ (booleans_Decides _ _).0 yes ∙ b),
      λ same. (booleans_Decides _ _).1 (a ∙ ap (λ (r : Reel). r.rules.is_profile) same ∙ sym b),
    )
