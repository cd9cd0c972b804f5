use Rattle.std.proofs.Common.{refl, sym, subst}
use Rattle.ffv1_holding.specs.Contents.{AreOwnEntries}
use Rattle.ffv1_holding.proofs.OwnFrames.{kept-own}
use Rattle.ffv1_holding.proofs.holding.Holding+Recording.into_own_frames.Goals as goal

pub invariant_of-result : goal.invariant_of-result
invariant_of-result c =
    let own = c.into_own_frames-reel.ensures in
    let entries : AreOwnEntries c.args.self = c.if-not-is_of_own_frames.ensures.own refl in
    let all = subst AreOwnEntries (sym c.self.view_is) entries in
    kept-own c.self.inside _ own refl (all c.into_own_frames-reel.result own) c.self.invariant

pub returns-clause-own : goal.returns-clause-own
returns-clause-own c = c.if-not-is_of_own_frames.ensures.own refl
