use Rattle.std.proofs.Common.{◌≡◌, rules, sym, ap, ◌∙◌, subst, arith}
use Rattle.std.proofs.lemmas.Result.{err_from_is_err_and}
use Rattle.ffv1_holding.specs.Sets as set
use Rattle.ffv1_holding.specs.Reels.{Reel}
use Rattle.ffv1_holding.specs.Inner.TileSets.{TileSlices}
use Rattle.ffv1_holding.specs.Contents.{Contents, joined, AreEntriesOf}
use Rattle.ffv1_holding.specs.HoldingParts.{contents}
use Rattle.ffv1_holding.specs.declared.holding.Holding.TheInside.{Inside}
use Rattle.ffv1_holding.proofs.Errors.{error_is, memory_is_no_other, memory_is_not_long}
use Rattle.ffv1_holding.proofs.TileUnions.{size_grown}
use Rattle.ffv1_holding.proofs.HoldingSteps.{kept-same, kept-grown, shown}
use Rattle.ffv1_holding.proofs.holding.HoldingJoin.join_with.Goals as goal

-- what is shown is of one reel where what is kept is
reels_shown : {S : Type 0} (a b : Inside S) {x y : Contents} → contents a ≡ x → contents b ≡ y → a.reel ≡ b.reel → x.reel ≡ y.reel
reels_shown a b x y same = ap (λ (h : Contents). h.reel) (sym x) ∙ same ∙ ap (λ (h : Contents). h.reel) y

pub invariant_of-self : goal.invariant_of-self
invariant_of-self g c = kept-same c.self.inside c.join.new.self c.in_err-join.ensures.err c.self.invariant

pub returns-in_err-join : goal.returns-in_err-join
returns-in_err-join g c =
    let p = err_from_is_err_and c.from_residual.result c.from_residual.ensures.1 in
    rw (p.1, p.2, error_is c.in_err-join.ensures.memory) (record {
      joined = tt;
      growth = tt;
      fits = tt;
      joinable = tt;
      other_reel = λ e. absurd (memory_is_no_other e);
      memory = λ _. reels_shown c.self.inside c.other.inside c.self.view_is c.other.view_is (search rules);
      too_long = memory_is_not_long;
      err = shown c.self.inside c.join.new.self c.self.inside.held _ c.in_err-join.ensures.err c.self.view_is;
    })

pub returns-clause-joined : goal.returns-clause-joined
returns-clause-joined g c =
    let whole = λ (held : TileSlices). let h : Contents = record { reel = c.self.inside.reel; slices = held.slices; origins = held.origins } in h in
    ap whole c.in_ok-join.ensures.ok ∙ (λ i. joined (c.self.view_is i) (c.other.view_is i))

pub returns-clause-fits : goal.returns-clause-fits
returns-clause-fits g c = omega (arith, c.size.ensures, c.size.type_inv)

pub returns-clause-joinable : goal.returns-clause-joinable
returns-clause-joinable g c = reels_shown c.self.inside c.other.inside c.self.view_is c.other.view_is (search rules)

pub overflow_sub-result : goal.overflow_sub-result
overflow_sub-result g c =
    let more = size_grown c.self.inside.held c.join.new.self c.other.inside.held.slices c.other.inside.held.origins c.in_ok-join.ensures.ok in
    omega (arith, more, c.size.ensures, c.size-before.ensures)

pub invariant_of-self-2 : goal.invariant_of-self-2
invariant_of-self-2 g c =
    let same : c.self.inside.reel ≡ c.other.inside.reel = search rules in
    let more = c.other.inside.held in
    kept-grown c.self.inside c.join.new.self more.slices more.origins c.in_ok-join.ensures.ok c.self.invariant
    (subst (λ (r : Reel). AreEntriesOf r.rules more.slices) (sym same) c.other.invariant.slices)
    c.other.invariant.origins_held c.other.invariant.digests_whole

pub returns-clause-growth : goal.returns-clause-growth
returns-clause-growth g c =
    let more = size_grown c.self.inside.held c.join.new.self c.other.inside.held.slices c.other.inside.held.origins c.in_ok-join.ensures.ok in
    omega (arith, more, c.size.ensures, c.size-before.ensures, ap (λ (h : Contents). set.size h.slices) c.self.view_is)
