use Rattle.std.proofs.Common.{Contains, arith, ap, ◌∙◌, subst, take_all}
use Rattle.ffv1_holding.specs.Joins.{joined_all}
use Rattle.ffv1_holding.proofs.JoinSteps.{AreJoinable-take_more, joined_all-take_more}
use Rattle.ffv1_holding.proofs.JoinLaws.{joined_all-same}
use Rattle.ffv1_holding.proofs.joins.join_all.Goals as goal

pub loop-joined-preserved : goal.loop-joined-preserved
loop-joined-preserved g c =
    let m = g.T.Join in
    let i = c.loop-joined.joined in
    let others = c.args.others.now in
    let other = c.index-others-joined.result in
    let inv = c.loop-joined.invariant in
    record {
      joined = joined_all-take_more m.joinable m.union c.args.whole.now c.loop-joined.whole c.join_with.new.self others i other c.loop-joined-test.true
          inv.joined c.in-Ok.ensures.joined c.index-others-joined.is;
      joinable = AreJoinable-take_more m.joinable m.union c.args.whole.now c.loop-joined.whole others i other c.loop-joined-test.true inv.joinable inv.joined
          (subst (m.joinable c.loop-joined.whole) c.index-others-joined.is c.in-Ok.ensures.joinable);
      growth = omega (arith, inv.growth, c.in-Ok.ensures.growth);
    }

-- the laws give what the others' order and number do not change
pub returns-clause-same : goal.returns-clause-same
returns-clause-same g c more same pairs =
    let m = g.T.Join in
    let laws = g.met.T.Join in
    let others = c.args.others.now in
    c.loop-joined.invariant.joined ∙ ap (joined_all m.union c.args.whole.now) (take_all c.loop-joined.joined others c.loop-joined-test.false)
    ∙ joined_all-same m.joinable m.union laws.commutes laws.groups laws.repeats laws.stays_joinable (Contains others) pairs.1
    c.args.whole.now others more pairs.0 (λ x is. is) (λ x. (same x).1) (λ x. (same x).0) (λ x. (same x).1)
