use Rattle.ffv1_hold.proofs.Common.{common_steps, ◌≡◌, ℕ, List, Result, Ok, IfOk, IfErr, OnOk, sym, ap, ◌∙◌, refl, ◌++◌, subst, map, inr, [], ◌∷◌, arith, IsErrAnd, IfOk-weaker, IfErr-weaker, on_ok_weaker, err_from_is_err_and, Reel, Contents, holding_of, IsHolding, with_found, with_copies, joined, AreNear, HoldsExactly, AreShort, IsReelOf, copies_of, CanBeCarriedOut, IsFirstPlanFault, IsFaultOfCopy, IsFaultOfCopies, IsFaultOfFile, IsRereadFault, RereadsFit, IsTooLong, HoldFileFault, Plan, PlanFault, Hold, File, Memory, near_exact, reel_of, record_reel_is, no_slices, Recordings, inl}
use Rattle.ffv1_hold.proofs.ReadSteps.{holding_none}
use Rattle.ffv1_hold.proofs.PlanSteps.{after_same, after_found, after_copies, after_joined, AreShort-both, of_kept_reel, reel_on_same, one_reel, reel_of_record, near_of_meaning}
use Rattle.ffv1_hold.proofs.plan.+carry_out.Goals as goal

module _ (recordings : Recordings) (bytes : List ℕ) (width height : ℕ) where
  -- what `carry_out` says of what it returns
  abbrev Says : Plan → Result Contents PlanFault → Type 0
  Says plan r = record {
    reel : IfOk r (λ h. IsReelOf recordings bytes width height h.reel);
    meaning : IfOk r (λ h. h ≡ holding_of h.reel (copies_of plan));
    well_formed : IfOk r IsHolding;
    near : (original : List ℕ) (slices : List (List ℕ)) → IfOk r (λ h. AreNear h.reel.rules original slices (copies_of plan) → HoldsExactly h slices);
    short : OnOk r (AreShort (copies_of plan));
    fits : IfOk r (λ h. RereadsFit h.reel plan);
    fault : IfErr r (IsFirstPlanFault recordings bytes width height plan);
  }

  -- a refusal says its fault alone
  refused : (plan step : Plan) (r : Result Contents PlanFault) (f : PlanFault) → plan ≡ step → IsErrAnd r (λ e. e ≡ f)
      → IsFirstPlanFault recordings bytes width height step f → Says plan r
  refused plan step r f is refusal faulty =
      let p = err_from_is_err_and r refusal in
      rw (p.1, p.2, is) (record { reel = tt; meaning = tt; well_formed = tt; near = λ original slices. tt; short = tt; fits = tt; fault = faulty })

  -- a plan that gave a holding is carried out
  carried : (plan lent : Plan) (h : Contents) → lent ≡ plan → Says lent (Ok h) → CanBeCarriedOut recordings bytes width height plan
  carried plan lent h is was = subst (CanBeCarriedOut recordings bytes width height) is (h.reel, was.reel, was.short, was.fits)

  -- what a step says that keeps the reel of the holding before it
  stepped : (plan step : Plan) (reel : Reel) (r : Result Contents PlanFault) (Took : Contents → Type 0) → plan ≡ step → IsReelOf recordings bytes width height reel
      → IfOk r Took → ((h : Contents) → Took h → h.reel ≡ reel) → ((h : Contents) → Took h → h ≡ holding_of h.reel (copies_of step)) → IfOk r IsHolding
      → OnOk r (AreShort (copies_of step)) → IfOk r (λ h. RereadsFit h.reel step) → IfErr r (IsFirstPlanFault recordings bytes width height step) → Says plan r
  stepped plan step reel r Took is of_reel took keeps means well_formed short fits faulty =
      let meaning = IfOk-weaker r Took (λ h. h ≡ holding_of h.reel (copies_of step)) means took in
      grind (arith, common_steps, of_kept_reel, near_of_meaning)

  -- copies are taken into what the plan before gave, which is `lent`: what is held grows by what is found in them
  taken : (plan step before lent : Plan) (h grown : Contents) (r : Result Contents PlanFault) (more : List (List ℕ)) (Faulty : PlanFault → Type 0)
      → plan ≡ step → lent ≡ before → Says lent (Ok h)
      → record { ok : IfOk r (λ k. k ≡ grown); well_formed : IfOk r IsHolding; short : OnOk r (AreShort more); fault : IfErr r Faulty }
      → copies_of step ≡ copies_of before ++ more → grown.reel ≡ h.reel → ((q : Reel) → RereadsFit q before → RereadsFit q step)
      → ((k : Contents) → h ≡ holding_of h.reel (copies_of before) → k ≡ grown → k ≡ holding_of k.reel (copies_of step))
      → ((f : PlanFault) → CanBeCarriedOut recordings bytes width height before → Faulty f → IsFirstPlanFault recordings bytes width height step f) → Says plan r
  taken plan step before lent h grown r more Faulty is deref given took all same fits means faulty =
      let was : Says before (Ok h) = subst (λ p. Says p (Ok h)) deref given in
      let keeps = λ (k : Contents) (e : k ≡ grown). ap (λ (k : Contents). k.reel) e ∙ same in
      let short = on_ok_weaker r (AreShort-both (copies_of before) more was.short) took.short in
      stepped plan step h.reel r (λ k. k ≡ grown) is was.reel took.ok keeps (λ k e. means k was.meaning e) took.well_formed
      (subst (λ c. OnOk r (AreShort c)) (sym all) short)
      (of_kept_reel r (λ k. k ≡ grown) h.reel keeps (λ q. RereadsFit q step) (fits h.reel was.fits) took.ok)
      (IfErr-weaker r Faulty (IsFirstPlanFault recordings bytes width height step) (λ f. faulty f (carried before lent h deref given)) took.fault)

pub returns-in_ok-carry_out-in-Take : goal.returns-in_ok-carry_out-in-Take
returns-in_ok-carry_out-in-Take t c =
    let copy = c.in-Take.copy.now in
    taken c.args.recordings c.args.config.now c.args.width c.args.height _ _ c.in-Take.before.value _ _ (with_found c.in_ok-carry_out-in-Take.field-0 copy) c.with_copy.result
    (copy ∷ []) (IsFaultOfCopy copy) c.in-Take.is c.deref.ensures c.in_ok-carry_out-in-Take.ensures c.with_copy.ensures refl refl (λ q fits. fits)
    (λ k own is. after_found c.in_ok-carry_out-in-Take.field-0 k (copies_of c.in-Take.before.value) own copy is) (λ f done is. inr (done, is))

pub returns-in_ok-carry_out-in-TakeAll : goal.returns-in_ok-carry_out-in-TakeAll
returns-in_ok-carry_out-in-TakeAll t c =
    let more = map (λ copy. copy.now) c.in-TakeAll.copies.now in
    taken c.args.recordings c.args.config.now c.args.width c.args.height _ _ c.in-TakeAll.before.value _ _ (with_copies c.in_ok-carry_out-in-TakeAll.field-0 more)
    c.with_all_copies.result more (IsFaultOfCopies more) c.in-TakeAll.is c.deref-in-TakeAll.ensures c.in_ok-carry_out-in-TakeAll.ensures
    c.with_all_copies.ensures refl refl (λ q fits. fits)
    (λ k own is. after_copies c.in_ok-carry_out-in-TakeAll.field-0 k (copies_of c.in-TakeAll.before.value) own more is) (λ f done is. inr (done, is))

-- both are of the record and the size asked for
pub union_of-requires : goal.union_of-requires
union_of-requires t c =
    let left = c.in_ok-holding-in-Join in
    let right = c.in_ok-other-in-Join in
    one_reel c.args.recordings c.args.config.now c.args.width c.args.height left.holding.reel right.other.reel
    left.ensures.reel right.ensures.reel

-- what the second plan gave is joined into what the first gave
pub returns-in_err-other-in-Join-clause-fault : goal.returns-in_err-other-in-Join-clause-fault
returns-in_err-other-in-Join-clause-fault t c =
    let says = Says c.args.recordings c.args.config.now c.args.width c.args.height in
    let before = c.in_ok-holding-in-Join.holding in
    let was : says c.in-Join.left.value (Ok before) = subst (λ p. says p (Ok before)) c.deref-in-Join.ensures c.in_ok-holding-in-Join.ensures in
    let done = carried c.args.recordings c.args.config.now c.args.width c.args.height c.in-Join.left.value _ before refl was in
    let p = err_from_is_err_and c.from_residual-in_err-other-in-Join.result c.from_residual-in_err-other-in-Join.ensures.1 in
    let fault = subst (λ (q : Plan). IsFirstPlanFault c.args.recordings c.args.config.now c.args.width c.args.height q c.in_err-other-in-Join.field-0.0) c.deref-in-Join-2.ensures
    c.in_err-other-in-Join.ensures.fault in
    rw (p.1, p.2, c.in-Join.is) (inr (done, inl fault))

pub returns-in_ok-other-in-Join : goal.returns-in_ok-other-in-Join
returns-in_ok-other-in-Join t c =
    let says = Says c.args.recordings c.args.config.now c.args.width c.args.height in
    let before = c.in_ok-holding-in-Join.holding in
    let other = c.in_ok-other-in-Join.other in
    let was : says c.in-Join.left.value (Ok before) = subst (λ p. says p (Ok before)) c.deref-in-Join.ensures c.in_ok-holding-in-Join.ensures in
    let too : says c.in-Join.right.value (Ok other) = subst (λ p. says p (Ok other)) c.deref-in-Join-2.ensures c.in_ok-other-in-Join.ensures in
    let same = one_reel c.args.recordings c.args.config.now c.args.width c.args.height before.reel other.reel
    was.reel too.reel in
    let r = c.union_of.result in
    let Took = λ (h : Contents). h ≡ joined before other in
    let keeps = λ (h : Contents) (is : Took h). ap (λ (k : Contents). k.reel) is in
    let done = carried c.args.recordings c.args.config.now c.args.width c.args.height in
    stepped c.args.recordings c.args.config.now c.args.width c.args.height _ _ before.reel r Took c.in-Join.is was.reel c.union_of.ensures.ok keeps
    (λ h is. after_joined before h (copies_of c.in-Join.left.value) was.meaning other (copies_of c.in-Join.right.value) too.meaning same is)
    c.union_of.ensures.well_formed
    (IfOk-weaker r Took _ (λ _ _. AreShort-both (copies_of c.in-Join.left.value) (copies_of c.in-Join.right.value) was.short too.short)
    c.union_of.ensures.ok)
    (of_kept_reel r Took before.reel keeps (λ q. RereadsFit q c.in-Join.left.value × RereadsFit q c.in-Join.right.value)
    (was.fits, subst (λ q. RereadsFit q c.in-Join.right.value) (sym same) too.fits) c.union_of.ensures.ok)
    (IfErr-weaker r (λ fault. fault ≡ Hold Memory) _ (λ f is. inr (done c.in-Join.left.value _ before refl was, inr (done c.in-Join.right.value _ other refl too, is))) c.union_of.ensures.memory)

-- nothing is held of no copies
pub returns-in_ok-of_record-in-New : goal.returns-in_ok-of_record-in-New
returns-in_ok-of_record-in-New t c =
    let plan = c.args.plan.now in
    let h = c.in_ok-of_record-in-New.field-0 in
    let recording = c.in_ok-of_record-in-New.ensures.found.0 in
    let of = c.in_ok-of_record-in-New.ensures.found.1 in
    let same : h.reel ≡ reel_of c.args.config.now recording = ap (λ (k : Contents). k.reel) c.in_ok-of_record-in-New.ensures.found.2 in
    let reel = record_reel_is h.reel (reel_of_record c.args.recordings c.args.config.now c.args.width c.args.height h.reel (recording, of, same)) in
    let empty : h ≡ no_slices h.reel = c.in_ok-of_record-in-New.ensures.found.2 ∙ ap no_slices (sym same) in
    let meaning = empty ∙ ap (λ p. holding_of h.reel (copies_of p)) (sym c.in-New.is) in
    record {
      reel = (recording, of, same);
      meaning = meaning;
      well_formed = subst IsHolding (sym empty) (holding_none h.reel reel);
      near = λ original slices near. near_exact h original slices (copies_of plan) near (ap (λ (k : Contents). k.slices) meaning);
      short = subst (λ (p : Plan). AreShort (copies_of p)) (sym c.in-New.is) tt;
      fits = subst (RereadsFit h.reel) (sym c.in-New.is) tt;
      fault = tt;
    }

-- it is of the record and the size asked for
pub through_file-requires : goal.through_file-requires
through_file-requires t c =
    let e = c.in_ok-holding-in-Reread.ensures in
    record {
      well_formed = e.well_formed;
      of_record = reel_of_record c.args.recordings c.args.config.now c.args.width c.args.height c.in_ok-holding-in-Reread.holding.reel e.reel;
    }

-- a holding comes back from its file as it was
pub returns-in_ok-holding-in-Reread : goal.returns-in_ok-holding-in-Reread
returns-in_ok-holding-in-Reread t c =
    let says = Says c.args.recordings c.args.config.now c.args.width c.args.height in
    let before = c.in_ok-holding-in-Reread.holding in
    let was : says c.in-Reread.before.value (Ok before) = subst (λ p. says p (Ok before)) c.deref-in-Reread.ensures c.in_ok-holding-in-Reread.ensures in
    let copies = copies_of c.in-Reread.before.value in
    let r = c.through_file.result in
    let same = c.through_file.ensures.same in
    stepped c.args.recordings c.args.config.now c.args.width c.args.height _ _ before.reel r (λ h. h ≡ before) c.in-Reread.is was.reel same
    (λ h is. ap (λ (k : Contents). k.reel) is) (λ h is. after_same before h copies was.meaning is)
    (IfOk-weaker r (λ h. h ≡ before) IsHolding (λ h is. subst IsHolding (sym is) was.well_formed) same)
    (IfOk-weaker r (λ h. h ≡ before) _ (λ _ _. was.short) same)
    (reel_on_same r before (¬ IsTooLong before) (λ q. RereadsFit q c.in-Reread.before.value × (¬ IsTooLong (holding_of q copies)))
    (λ fits. (was.fits, subst (λ (k : Contents). ¬ IsTooLong k) was.meaning fits)) same c.through_file.ensures.fits)
    (IfErr-weaker r (λ f. (cause : HoldFileFault) × (f ≡ File cause) × IsRereadFault before cause) _
    (λ f is. inr (
      carried c.args.recordings c.args.config.now c.args.width c.args.height c.in-Reread.before.value _ before refl was,
      subst (IsFaultOfFile c.args.recordings c.args.config.now c.args.width c.args.height copies) (sym is.1)
          (before.reel, was.reel, subst (λ (k : Contents). IsRereadFault k is.0) was.meaning is.2),
    )) c.through_file.ensures.fault)
