-- What one code says of every plane that begins with the samples so far.
use Rattle.std.proofs.Common.{◌≡◌, ℕ, zero, suc, ◌+◌, ◌-◌, ◌*◌, ◌<◌, ◌≤◌, not, inl, inr, length-append, Bool, true, false, List, [], ◌∷◌, ◌++◌, get_or, set, length, refl, sym, ap, ◌∙◌, subst, arith, append_assoc, ⊎_elim, ◌≢◌, ◌&&◌, cond, eqb, eq-eqb, ℤ, pos, negsuc, ◌-ℤ◌, int_lt, nat_abs}
use Rattle.std.proofs.lemmas.List.{get_or_append_left, get_or_push, length_push, get_or-set_same, get_or-set_other, length-set, append-nil, get_or_read}
use Rattle.std.proofs.lemmas.Bool.{cases_eq, cases_lt, ne_eqb, cases_Bool, or_from, and_right}
use Rattle.std.proofs.lemmas.Int.{ints}
use Rattle.ffv1_rice.proofs.Folds.{fold_zero}
use Rattle.ffv1_rice.specs.States.{ContextState, start_state, after_value, fold, IsCodedDepth}
use Rattle.ffv1_rice.specs.Codes.{IsCodeFault, decoded_value, IsCoded, IsCodedDifference, SpellsValue}
use Rattle.ffv1_bits.specs.Reader.{Reading}
use Rattle.ffv1_plane.specs.Samples.{SamplesAbout, plane_of, neighbours_at, prediction_of, context_of, difference_of, context_at, difference_at, Coding}
use Rattle.ffv1_plane.specs.Spelling.{Residuals, residuals_of, context_number, is_zero, is_in_run, is_skipped, is_coded, value_at, state_after, state_before, columns_before, follows_skipped, SamplesSpell}
use Rattle.ffv1_plane.specs.Progress.{AreStatesAfter}
use Rattle.ffv1_plane.specs.Inner.PlaneRows.{values_after_rows, RowsSpell}
use Rattle.ffv1_plane.specs.Inner.Progress.{IsContinued, RowStart, Progress, IsReadTo, IsRunRead, IsSampleRead, AreSkipped, AreRowsRead}
use Rattle.ffv1_plane.specs.Inner.Halts.{IsCodeHalted, next_context}
use Rattle.ffv1_rice.specs.declared.code.CodeFault.{CodeFault}
use Rattle.ffv1_plane.proofs.Alike.{zero_of}
use Rattle.ffv1_plane.proofs.Steps.{state_more, scalar_step, in_run_is, skipped_to, in_run_to, run_end, run_level}
use Rattle.ffv1_plane.proofs.Causal.{neighbours_same}

pub same_before : (old more : List ℕ) (x j : ℕ) → j < length old → get_or ((old ++ x ∷ []) ++ more) j 0 ≡ get_or old j 0
same_before old more x j h =
    let longer : j < length (old ++ x ∷ []) = omega (arith, length_push old x) in
    get_or_append_left (old ++ x ∷ []) more 0 j longer ∙ get_or_append_left old (x ∷ []) 0 j h

pub this_one : (old more : List ℕ) (x : ℕ) → get_or ((old ++ x ∷ []) ++ more) (length old) 0 ≡ x
this_one old more x =
    let longer : length old < length (old ++ x ∷ []) = omega (arith, length_push old x) in
    get_or_append_left (old ++ x ∷ []) more 0 (length old) longer ∙ get_or_push old x 0 (length old) refl

pub sample_read : (width : ℕ) (coding : Coding) (level : Bool) (old new : List ℕ) (states after : List ContextState) (bits rest : Reading)
    (near : SamplesAbout) (context difference : ℤ) (x : ℕ) → 1 ≤ width
    → near ≡ neighbours_at width old (length old) → context ≡ context_of coding.entry near → difference_of coding.depth context (prediction_of near) x ≡ difference
    → new ≡ old ++ x ∷ [] → IsCodedDifference coding.depth level difference → nat_abs context < length states
    → IsCoded coding.depth (get_or states (nat_abs context) start_state) level difference bits rest
    → after ≡ set states (nat_abs context) (after_value coding.depth (get_or states (nat_abs context) start_state) (decoded_value level difference))
    → IsSampleRead width coding level old states bits.left new after rest.left
sample_read width coding level old new states after bits rest near context difference x some near_is context_is difference_is pushed given below coded stepped =
    let around = λ (more : List ℕ). neighbours_same width (length old) some ((old ++ x ∷ []) ++ more) old (same_before old more x) ∙ sym near_is in
    record {
      sample = x;
      difference = difference;
      context = nat_abs context;
      pushed = pushed;
      is_context = λ more. ap (λ l. nat_abs (context_of coding.entry (neighbours_at width (l ++ more) (length old)))) pushed
          ∙ ap (λ z. nat_abs (context_of coding.entry z)) (around more) ∙ ap nat_abs (sym context_is);
      is_difference = λ more.
          ap (λ l. difference_of coding.depth (context_of coding.entry (neighbours_at width (l ++ more) (length old)))
          (prediction_of (neighbours_at width (l ++ more) (length old))) (get_or (l ++ more) (length old) 0)) pushed
          ∙ ap (λ z. difference_of coding.depth (context_of coding.entry z) (prediction_of z) (get_or ((old ++ x ∷ []) ++ more) (length old) 0)) (around more)
          ∙ ap (λ y. difference_of coding.depth (context_of coding.entry near) (prediction_of near) y) (this_one old more x)
          ∙ ap (λ z. difference_of coding.depth z (prediction_of near) x) (sym context_is) ∙ difference_is;
      given = given;
      below = below;
      code = coded.code;
      spells = coded.spells;
      begins = coded.reads.begins;
      stepped = stepped;
    }

-- a context that isn't 0
scalar_context : (r : Residuals) (s : ℕ) → 0 < context_number r s → is_zero (r.context s) ≡ false
scalar_context r s some = ⊎_elim (λ yes. absurd (let z : context_number r s ≡ 0 = ap nat_abs (zero_of (r.context s) yes) in omega arith))
    (λ no_zero. no_zero) (cases_Bool (is_zero (r.context s)))

pub nonzero_is : (x : ℤ) → x ≢ pos 0 → is_zero x ≡ false
nonzero_is x h = ⊎_elim (λ yes. absurd (h (zero_of x yes))) (λ not_zero. not_zero) (cases_Bool (is_zero x))

-- ---- the states after a code

states_step : (earlier : ℕ → List ℤ) (r : Residuals) (s k j : ℕ) (states : List ContextState) (value : ℤ) → k < length states → is_coded r s ≡ true
    → context_number r s ≡ k → value_at r s ≡ value
    → ((i : ℕ) → i < length states → get_or states i start_state ≡ state_before earlier r i s) → j < length states
    → get_or (set states k (after_value r.depth (get_or states k start_state) value)) j start_state ≡ state_before earlier r j (suc s)
states_step earlier r s k j states value below coded is value_is before inside =
    let more = state_more earlier r j s in
    ⊎_elim
    (λ same.
    let test : (is_coded r s && eqb (context_number r s) j) ≡ true = rw (coded, is) (eq-eqb k j same) in
    let new : after_value r.depth (get_or states k start_state) value ≡ after_value r.depth (state_before earlier r j s) (value_at r s) =
    ap (λ z. after_value r.depth z value) (before k below ∙ ap (λ i. state_before earlier r i s) same) ∙ ap (after_value r.depth (state_before earlier r j s)) (sym value_is) in
    ap (λ i. get_or (set states k (after_value r.depth (get_or states k start_state) value)) i start_state) (sym same)
    ∙ get_or-set_same states k _ start_state below ∙ new ∙ sym (more ∙ ap
    (λ t. cond t (after_value r.depth (state_before earlier r j s) (value_at r s)) (state_before earlier r j s)) test))
    (λ other.
    let apart : j ≢ k = λ e. other (sym e) in
    let test : (is_coded r s && eqb (context_number r s) j) ≡ false = rw (coded, is) (ne_eqb k j other) in
    get_or-set_other states k j _ start_state apart ∙ before j inside
    ∙ sym (more ∙ ap (λ t. cond t (after_value r.depth (state_before earlier r j s) (value_at r s)) (state_before earlier r j s)) test))
    (cases_eq k j)

-- a state that is there after one of them was set was there before
within_before : (states after : List ContextState) (j k : ℕ) (state : ContextState) → k < length after → after ≡ set states j state → k < length states
within_before states after j k state h stepped = omega (arith, h, ap length stepped, length-set states j state)

-- ---- one scalar further

pub scalar_read : (start : RowStart) (width : ℕ) (coding : Coding) (bits left rest : List Bool) (old new : List ℕ) (x next index : ℕ)
    (states after : List ContextState) → x < width → next ≡ x + 1 → IsReadTo start width coding bits old x index states left
    → (read : IsSampleRead width coding false old states left new after rest) → 0 < read.context → IsReadTo start width coding bits new next index after rest
unfolding residuals_of
scalar_read start width coding bits left rest old new x next index states after inside next_is so_far read some =
    let earlier = start.earlier in
    let place = so_far.place in
    let lists = λ (more : List ℕ). let e : old ++ (read.sample ∷ more) ≡ new ++ more = sym (append_assoc old (read.sample ∷ []) more)
    ∙ ap (λ l. l ++ more) (sym read.pushed) in e in
    let column : suc x ≡ next = omega arith in
    let number = λ (more : List ℕ). let p = plane_of width coding (new ++ more) in
    let e : context_number (residuals_of p start.row) x ≡ read.context = ap (λ k. nat_abs (context_at p k)) (sym place) ∙ read.is_context more in e in
    let difference = λ (more : List ℕ). let p = plane_of width coding (new ++ more) in
    let e : (residuals_of p start.row).difference x ≡ read.difference = ap (λ k. difference_at p k) (sym place) ∙ read.is_difference more in e in
    let outside = λ (more : List ℕ). scalar_context (residuals_of (plane_of width coding (new ++ more)) start.row) x
    (let h : 0 < context_number (residuals_of (plane_of width coding (new ++ more)) start.row) x = omega (arith, number more) in h) in
    let before = λ (more : List ℕ). let P : List ℕ → Type 0 = λ l. Progress start (residuals_of (plane_of width coding l) start.row) x bits index left in
    subst P (lists more) (so_far.progress (read.sample ∷ more)) in
    let states_before = λ (more : List ℕ) (k : ℕ) (h : k < length states). let P : List ℕ
    → Type 0 = λ l. get_or states k start_state ≡ state_before earlier (residuals_of (plane_of width coding l) start.row) k x in
    subst P (lists more) (so_far.states_are (read.sample ∷ more) k h) in
    record {
      place = omega (arith, ap length read.pushed, length_push old read.sample, place);
      progress = λ more.
          let r = residuals_of (plane_of width coding (new ++ more)) start.row in
          let state : get_or states read.context start_state ≡ state_before earlier r (context_number r x) x = states_before more read.context read.below
          ∙ ap (λ k. state_before earlier r k x) (sym (number more)) in
          let spells : SpellsValue coding.depth (state_before earlier r (context_number r x) x) (r.difference x) read.code =
          (let P : ContextState → Type 0 = λ z. SpellsValue coding.depth z (r.difference x) read.code in subst P state
          (let Q : ℤ → Type 0 = λ z. SpellsValue coding.depth (get_or states read.context start_state) z read.code in
          subst Q (sym (difference more)) read.spells)) in
          let R : ℕ → Type 0 = λ n. Progress start r n bits index rest in
          subst R column (scalar_step start r x index bits read.code left rest inside (before more) (outside more) spells read.begins);
      states_are = λ more k h.
          let r = residuals_of (plane_of width coding (new ++ more)) start.row in
          let run : is_in_run r x ≡ false = in_run_is r x ∙ or_from _ _ (outside more) ((before more).fresh inside) in
          let coded : is_coded r x ≡ true = rw run refl in
          let value : value_at r x ≡ decoded_value false read.difference = ap (λ l. decoded_value l (r.difference x)) run ∙ difference more in
          let within = within_before states after read.context k _ h read.stepped in
          let step = states_step earlier r x read.context k states (decoded_value false read.difference) read.below coded (number more) value
          (states_before more) within in
          ap (λ l. get_or l k start_state) read.stepped ∙ step ∙ ap (λ n. state_before earlier r k n) column;
    }

-- ---- one run further

pub skipped_states : (earlier : ℕ → List ℤ) (r : Residuals) (s k n : ℕ) → ((j : ℕ) → j < n → is_skipped r (s + j) ≡ true)
    → state_before earlier r k (s + n) ≡ state_before earlier r k s
skipped_states earlier r s k zero skipped = ap (λ i. state_before earlier r k i) (let e : s + 0 ≡ s = omega arith in e)
skipped_states earlier r s k (suc n) skipped =
    let skip : is_skipped r (s + n) ≡ true = skipped n (omega arith) in
    let test : (is_coded r (s + n) && eqb (context_number r (s + n)) k) ≡ false = rw (ap not skip) refl in
    ap (λ i. state_before earlier r k i) (let e : s + suc n ≡ suc (s + n) = omega arith in e)
    ∙ state_more earlier r k (s + n)
    ∙ ap (λ t. cond t (after_value r.depth (state_before earlier r k (s + n)) (value_at r (s + n))) (state_before earlier r k (s + n))) test
    ∙ skipped_states earlier r s k n (λ j h. skipped j (omega arith))

module _ (start : RowStart) (width : ℕ) (coding : Coding) (bits left : List Bool) (old mid : List ℕ) (x index : ℕ)
    (states : List ContextState) (inside : x < width) (so_far : IsReadTo start width coding bits old x index states left)
    (zero_context : (more : List ℕ) → is_zero (context_at (plane_of width coding (old ++ more)) (length old)) ≡ true)
    (n next : ℕ) (tail : List Bool) (run : IsRunRead (width - x) index left n next tail) (skips : AreSkipped width coding old mid n) where
  pub lists_mid : (more : List ℕ) → old ++ (skips.samples ++ more) ≡ mid ++ more
  lists_mid more = sym (append_assoc old skips.samples more) ∙ ap (λ l. l ++ more) (sym skips.pushed)

  pub longer_mid : length mid ≡ length old + n
  longer_mid = omega (arith, ap length skips.pushed, length-append old skips.samples, skips.count)

  -- the place of a sample of the run
  place_mid : (j : ℕ) → length old + j ≡ start.row * width + (x + j)
  place_mid j = let place = so_far.place in omega arith

  pub before_mid : (more : List ℕ) → Progress start (residuals_of (plane_of width coding (mid ++ more)) start.row) x bits index left
  before_mid more = let P : List ℕ → Type 0 = λ l. Progress start (residuals_of (plane_of width coding l) start.row) x bits index left in
      subst P (lists_mid more) (so_far.progress (skips.samples ++ more))

  fresh_mid : (more : List ℕ) → follows_skipped (residuals_of (plane_of width coding (mid ++ more)) start.row) x ≡ false
  unfolding residuals_of
  fresh_mid more = (before_mid more).fresh inside

  pub zero_mid : (more : List ℕ) → is_zero ((residuals_of (plane_of width coding (mid ++ more)) start.row).context x) ≡ true
  unfolding residuals_of
  zero_mid more =
      let P : List ℕ → Type 0 = λ l. is_zero (context_at (plane_of width coding l) (length old)) ≡ true in
      let Q : ℕ → Type 0 = λ k. is_zero (context_at (plane_of width coding (mid ++ more)) k) ≡ true in
      subst Q so_far.place (subst P (lists_mid more) (zero_context (skips.samples ++ more)))

  skipped_mid : (more : List ℕ) (j : ℕ) → j < n → is_zero ((residuals_of (plane_of width coding (mid ++ more)) start.row).difference (x + j)) ≡ true
  unfolding residuals_of
  skipped_mid more j less =
      let P : ℕ → Type 0 = λ k. is_zero (difference_at (plane_of width coding (mid ++ more)) k) ≡ true in
      subst P (place_mid j) (skips.zero_differences more j less)

  pub states_mid : (more : List ℕ) (k : ℕ) → k < length states → get_or states k start_state ≡ state_before start.earlier
      (residuals_of (plane_of width coding (mid ++ more)) start.row) k (x + n)
  unfolding residuals_of
  states_mid more k h =
      let r = residuals_of (plane_of width coding (mid ++ more)) start.row in
      let P : List ℕ → Type 0 = λ l. get_or states k start_state ≡ state_before start.earlier (residuals_of (plane_of width coding l) start.row) k x in
      subst P (lists_mid more) (so_far.states_are (skips.samples ++ more) k h)
      ∙ sym (skipped_states start.earlier r x k n (skipped_to start r x n inside (zero_mid more) (fresh_mid more) run.fits (skipped_mid more)))

  -- the run takes the row to its end
  pub run_end_read : (column : ℕ) → column ≡ x + n → width - x ≡ n → IsReadTo start width coding bits mid column next states tail
  unfolding residuals_of
  run_end_read column column_is whole = record {
    place = let longer = longer_mid in let place = so_far.place in omega arith;
    progress = λ more.
        let r = residuals_of (plane_of width coding (mid ++ more)) start.row in
        let P : ℕ → Type 0 = λ i. Progress start r i bits next tail in
        subst P (sym column_is) (run_end start r x n inside (zero_mid more) (fresh_mid more) run.fits (skipped_mid more) index next run.run run.spelled
        (inl whole) bits left tail whole (before_mid more) run.begins);
    states_are = λ more k h.
        states_mid more k h ∙ ap (λ i. state_before start.earlier (residuals_of (plane_of width coding (mid ++ more)) start.row) k i) (sym column_is);
  }

  module _ (new : List ℕ) (after : List ContextState) (rest : List Bool) (within : n < width - x)
      (read : IsSampleRead width coding true mid states tail new after rest) where
    lists_new : (more : List ℕ) → mid ++ (read.sample ∷ more) ≡ new ++ more
    lists_new more = sym (append_assoc mid (read.sample ∷ []) more) ∙ ap (λ l. l ++ more) (sym read.pushed)

    -- the place of the level
    place_new : length mid ≡ start.row * width + (x + n)
    place_new = longer_mid ∙ place_mid n

    context_new : (more : List ℕ) → context_number (residuals_of (plane_of width coding (new ++ more)) start.row) (x + n) ≡ read.context
    unfolding residuals_of
    context_new more = ap (λ k. nat_abs (context_at (plane_of width coding (new ++ more)) k)) (sym place_new) ∙ read.is_context more

    difference_new : (more : List ℕ) → (residuals_of (plane_of width coding (new ++ more)) start.row).difference (x + n) ≡ read.difference
    unfolding residuals_of
    difference_new more = ap (λ k. difference_at (plane_of width coding (new ++ more)) k) (sym place_new) ∙ read.is_difference more

    level_new : (more : List ℕ) → is_zero ((residuals_of (plane_of width coding (new ++ more)) start.row).difference (x + n)) ≡ false
    level_new more = ap is_zero (difference_new more) ∙ nonzero_is read.difference (read.given.1 refl)

    progress_new : (more : List ℕ) → Progress start (residuals_of (plane_of width coding (new ++ more)) start.row) x bits index left
    progress_new more = let P : List ℕ → Type 0 = λ l. Progress start (residuals_of (plane_of width coding l) start.row) x bits index left in
        subst P (lists_new more) (before_mid (read.sample ∷ more))

    fresh_new : (more : List ℕ) → follows_skipped (residuals_of (plane_of width coding (new ++ more)) start.row) x ≡ false
    fresh_new more = let P : List ℕ → Type 0 = λ l. follows_skipped (residuals_of (plane_of width coding l) start.row) x ≡ false in
        subst P (lists_new more) (fresh_mid (read.sample ∷ more))

    zero_new : (more : List ℕ) → is_zero ((residuals_of (plane_of width coding (new ++ more)) start.row).context x) ≡ true
    zero_new more = let P : List ℕ → Type 0 = λ l. is_zero ((residuals_of (plane_of width coding l) start.row).context x) ≡ true in
        subst P (lists_new more) (zero_mid (read.sample ∷ more))

    skipped_new : (more : List ℕ) (j : ℕ) → j < n → is_zero ((residuals_of (plane_of width coding (new ++ more)) start.row).difference (x + j)) ≡ true
    skipped_new more j h = let P : List ℕ → Type 0 = λ l. is_zero ((residuals_of (plane_of width coding l) start.row).difference (x + j)) ≡ true in
        subst P (lists_new more) (skipped_mid (read.sample ∷ more) j h)

    states_new : (more : List ℕ) (k : ℕ) → k < length states → get_or states k start_state ≡ state_before start.earlier
        (residuals_of (plane_of width coding (new ++ more)) start.row) k (x + n)
    states_new more k h = let P : List ℕ
        → Type 0 = λ l. get_or states k start_state ≡ state_before start.earlier (residuals_of (plane_of width coding l) start.row) k (x + n) in
        subst P (lists_new more) (states_mid (read.sample ∷ more) k h)

    pub run_level_read : (column : ℕ) → column ≡ x + n + 1 → IsReadTo start width coding bits new column next after rest
    unfolding residuals_of
    run_level_read column column_is =
        let last : suc (x + n) ≡ column = omega arith in
        record {
          place = let place = place_new in omega (arith, ap length read.pushed, length_push mid read.sample);
          progress = λ more.
              let r = residuals_of (plane_of width coding (new ++ more)) start.row in
              let state : get_or states read.context start_state ≡ state_before start.earlier r (context_number r (x + n)) (x + n) =
              states_new more read.context read.below ∙ ap (λ k. state_before start.earlier r k (x + n)) (sym (context_new more)) in
              let P : ContextState → Type 0 = λ z. SpellsValue coding.depth z (decoded_value true (r.difference (x + n))) read.code in
              let Q : ℤ → Type 0 = λ z. SpellsValue coding.depth (get_or states read.context start_state) (decoded_value true z) read.code in
              let R : ℕ → Type 0 = λ i. Progress start r i bits next rest in
              subst R last (run_level start r x n inside (zero_new more) (fresh_new more) run.fits (skipped_new more) index next run.run run.spelled
              (inr (and_right _ _ (level_new more))) bits left read.code rest within (level_new more)
              (subst P state (subst Q (sym (difference_new more)) read.spells)) (progress_new more) (run.begins ∙ ap (λ l. run.run ++ l) read.begins));
          states_are = λ more k h.
              let r = residuals_of (plane_of width coding (new ++ more)) start.row in
              let in_it : is_in_run r (x + n) ≡ true = in_run_to start r x n inside (zero_new more) (fresh_new more) run.fits (skipped_new more) n
              (omega arith) within in
              let level : is_zero (r.difference (x + n)) ≡ false = level_new more in
              let coded : is_coded r (x + n) ≡ true = rw (in_it, level) refl in
              let value : value_at r (x + n) ≡ decoded_value true read.difference =
              ap (λ l. decoded_value l (r.difference (x + n))) in_it ∙ ap (decoded_value true) (difference_new more) in
              let small = within_before states after read.context k _ h read.stepped in
              let step = states_step start.earlier r (x + n) read.context k states (decoded_value true read.difference) read.below coded
              (context_new more) value (states_new more) small in
              ap (λ l. get_or l k start_state) read.stepped ∙ step ∙ ap (λ i. state_before start.earlier r k i) last;
        }

-- ---- rows

-- no sample of a row is read
pub row_begun : (start : RowStart) (width : ℕ) (coding : Coding) (bits : List Bool) (samples : List ℕ) (states : List ContextState)
    → length samples ≡ start.row * width → AreStatesAfter coding.depth start.earlier states
    → IsReadTo start width coding bits samples 0 start.first states bits
unfolding SamplesSpell follows_skipped columns_before residuals_of
row_begun start width coding bits samples states whole fresh = record {
  place = omega arith;
  progress = λ more. record { front = []; begins = refl; spells = (refl, refl); fresh = λ less. refl };
  states_are = λ more k h. fresh k h ∙ ap (state_after coding.depth) (sym (append-nil (start.earlier k)));
}

-- the first rows, and one more
pub rows_more : (earlier : ℕ → List ℤ) (width : ℕ) (coding : Coding) (bits mid left : List Bool) (old new : List ℕ) (rows index next : ℕ)
    (before states : List ContextState) → length old ≡ rows * width → IsContinued old new
    → ((more : List ℕ) → AreRowsRead earlier (plane_of width coding (old ++ more)) rows bits index before mid)
    → ((start : RowStart) (whole : List Bool) → IsReadTo start width coding whole old 0 index before mid
    → IsReadTo start width coding whole new width next states left)
    → (more : List ℕ) → AreRowsRead earlier (plane_of width coding (new ++ more)) (rows + 1) bits next states left
unfolding RowsSpell values_after_rows residuals_of
rows_more earlier width coding bits mid left old new rows index next before states whole continued read row more =
    let p = plane_of width coding (new ++ more) in
    let lists : old ++ (continued.0 ++ more) ≡ new ++ more = sym (append_assoc old continued.0 more) ∙ ap (λ l. l ++ more) (sym continued.1) in
    let P : List ℕ → Type 0 = λ l. AreRowsRead earlier (plane_of width coding l) rows bits index before mid in
    let above = subst P lists (read (continued.0 ++ more)) in
    let start : RowStart = record { row = rows; earlier = values_after_rows earlier p rows; first = index } in
    let all = row start mid (row_begun start width coding mid old before whole above.states_are) in
    let there = all.progress more in
    let count : suc rows ≡ rows + 1 = omega arith in
    let Q : ℕ → Type 0 = λ k. AreRowsRead earlier p k bits next states left in
    subst Q count (record {
      front = above.front ++ there.front;
      begins = above.begins ∙ ap (λ l. above.front ++ l) there.begins ∙ sym (append_assoc above.front there.front left);
      spells = (above.front, there.front, index, refl, above.spells, there.spells);
      states_are = all.states_are more;
    })

-- ---- one skipped sample further

pub same_zero : (n : ℕ) (context : ℤ) (p : ℕ) → IsCodedDepth n → difference_of n context p p ≡ pos 0
unfolding difference_of
same_zero n context p depth = either (int_lt context (pos 0))
  where
    none : fold n (pos p -ℤ pos p) ≡ pos 0
    none = ap (fold n) (let z : pos p -ℤ pos p ≡ pos 0 = omega (arith, ints) in z) ∙ fold_zero n depth

    either : (t : Bool) → cond t (fold n (pos p -ℤ pos p)) (fold n (pos p -ℤ pos p)) ≡ pos 0
    either true = none
    either false = none

pub none_skipped : (width : ℕ) (coding : Coding) (old : List ℕ) → AreSkipped width coding old old 0
none_skipped width coding old = record { samples = []; pushed = sym (append-nil old); count = refl; zero_differences = λ more j h. absurd (omega arith) }

pub skip_more : (width : ℕ) (coding : Coding) (old mid new : List ℕ) (n x : ℕ) (near : SamplesAbout) → 1 ≤ width → IsCodedDepth coding.depth → AreSkipped width coding old mid n
    → near ≡ neighbours_at width mid (length mid) → x ≡ prediction_of near → new ≡ mid ++ x ∷ [] → AreSkipped width coding old new (n + 1)
skip_more width coding old mid new n x near some deep skips near_is x_is pushed =
    let longer : length mid ≡ length old + n = omega (arith, ap length skips.pushed, length-append old skips.samples, skips.count) in
    let around = λ (more : List ℕ). neighbours_same width (length mid) some ((mid ++ x ∷ []) ++ more) mid (same_before mid more x) ∙ sym near_is in
    record {
      samples = skips.samples ++ (x ∷ []);
      pushed = pushed ∙ ap (λ l. l ++ (x ∷ [])) skips.pushed ∙ append_assoc old skips.samples (x ∷ []);
      count = length_push skips.samples x ∙ ap (λ k. k + 1) skips.count;
      zero_differences = λ more j h. ⊎_elim
          (λ less.
          let lists : mid ++ (x ∷ more) ≡ new ++ more = sym (append_assoc mid (x ∷ []) more) ∙ ap (λ l. l ++ more) (sym pushed) in
          let P : List ℕ → Type 0 = λ l. is_zero (difference_at (plane_of width coding l) (length old + j)) ≡ true in
          subst P lists (skips.zero_differences (x ∷ more) j less))
          (λ most.
          let place : length mid ≡ length old + j = omega (arith, longer) in
          let here : difference_of coding.depth (context_of coding.entry (neighbours_at width (new ++ more) (length mid)))
          (prediction_of (neighbours_at width (new ++ more) (length mid))) (get_or (new ++ more) (length mid) 0) ≡ pos 0 =
          ap (λ l. difference_of coding.depth (context_of coding.entry (neighbours_at width (l ++ more) (length mid)))
          (prediction_of (neighbours_at width (l ++ more) (length mid))) (get_or (l ++ more) (length mid) 0)) pushed
          ∙ ap (λ z. difference_of coding.depth (context_of coding.entry z) (prediction_of z) (get_or ((mid ++ x ∷ []) ++ more) (length mid) 0)) (around more)
          ∙ ap (λ y. difference_of coding.depth (context_of coding.entry near) (prediction_of near) y) (this_one mid more x ∙ x_is)
          ∙ same_zero _ _ _ deep in
          let P : ℕ → Type 0 = λ i. is_zero (difference_at (plane_of width coding (new ++ more)) i) ≡ true in
          subst P place (ap is_zero here))
          (cases_lt j n);
    }

-- some skipped, and then more
pub skip_on : (width : ℕ) (coding : Coding) (old mid new : List ℕ) (n m : ℕ) → AreSkipped width coding old mid n → AreSkipped width coding mid new m
    → AreSkipped width coding old new (n + m)
skip_on width coding old mid new n m first second =
    let longer : length mid ≡ length old + n = omega (arith, ap length first.pushed, length-append old first.samples, first.count) in
    record {
      samples = first.samples ++ second.samples;
      pushed = second.pushed ∙ ap (λ l. l ++ second.samples) first.pushed ∙ append_assoc old first.samples second.samples;
      count = length-append first.samples second.samples ∙ ap (λ k. k + length second.samples) first.count ∙ ap (λ k. n + k) second.count;
      zero_differences = λ more j h. ⊎_elim
          (λ less.
          let lists : mid ++ (second.samples ++ more) ≡ new ++ more = sym (append_assoc mid second.samples more) ∙ ap (λ l. l ++ more) (sym second.pushed) in
          let P : List ℕ → Type 0 = λ l. is_zero (difference_at (plane_of width coding l) (length old + j)) ≡ true in
          subst P lists (first.zero_differences (second.samples ++ more) j less))
          (λ later.
          let place : length mid + (j - n) ≡ length old + j = omega (arith, longer) in
          let P : ℕ → Type 0 = λ i. is_zero (difference_at (plane_of width coding (new ++ more)) i) ≡ true in
          subst P place (second.zero_differences more (j - n) (omega arith)))
          (cases_lt j n);
    }

-- the same, as the code has it: the number i of the context, the state z that stood there, numbers that were passed
pub sample_read_at : (width : ℕ) (coding : Coding) (level : Bool) (old new : List ℕ) (states : List ContextState) (bits rest : Reading)
    (near : SamplesAbout) (context passed difference given : ℤ) (x i p : ℕ) (z stepped : ContextState) → 1 ≤ width
    → near ≡ neighbours_at width old (length old) → context ≡ context_of coding.entry near → p ≡ prediction_of near → passed ≡ context → given ≡ difference
    → difference_of coding.depth passed p x ≡ given → new ≡ old ++ x ∷ [] → IsCodedDifference coding.depth level difference → i ≡ nat_abs context → i < length states
    → z ≡ get_or states i z → IsCoded coding.depth z level difference bits rest
    → stepped ≡ after_value coding.depth z (decoded_value level difference) → IsSampleRead width coding level old states bits.left new (set states i stepped) rest.left
sample_read_at width coding level old new states bits rest near context passed difference given x i p z stepped some near_is context_is p_is passed_is given_is
    difference_is pushed range i_is below z_is coded stepped_is =
    let z_there : z ≡ get_or states (nat_abs context) start_state = get_or_read states i z below z_is start_state
    ∙ ap (λ k. get_or states k start_state) i_is in
    let P : ContextState → Type 0 = λ s. IsCoded coding.depth s level difference bits rest in
    sample_read width coding level old new states (set states i stepped) bits rest near context difference x some near_is context_is
    (ap (λ c. difference_of coding.depth c (prediction_of near) x) (sym passed_is) ∙ ap (λ q. difference_of coding.depth passed q x) (sym p_is) ∙ difference_is ∙ given_is)
    pushed range (omega (arith, below, i_is)) (subst P z_there coded)
    (ap (λ k. set states k stepped) i_is ∙ ap (set states (nat_abs context)) (stepped_is ∙ ap (λ s. after_value coding.depth s (decoded_value level difference)) z_there))

some_abs : (z : ℤ) → z ≢ pos 0 → 0 < nat_abs z
some_abs (pos zero) h = absurd (h refl)
some_abs (pos (suc n)) h = omega arith
some_abs (negsuc n) h = omega arith

-- ---- the same two steps, by what the code looked at

pub context_here : (width : ℕ) (coding : Coding) (old more : List ℕ) (near : SamplesAbout) → 1 ≤ width → near ≡ neighbours_at width old (length old)
    → context_at (plane_of width coding (old ++ more)) (length old) ≡ context_of coding.entry near
context_here width coding old more near some near_is =
    ap (context_of coding.entry) (neighbours_same width (length old) some (old ++ more) old (λ j h. get_or_append_left old more 0 j h) ∙ sym near_is)

pub zero_here : (width : ℕ) (coding : Coding) (old : List ℕ) (near : SamplesAbout) (context : ℤ) → 1 ≤ width → near ≡ neighbours_at width old (length old)
    → context ≡ context_of coding.entry near → context ≡ pos 0
    → (more : List ℕ) → is_zero (context_at (plane_of width coding (old ++ more)) (length old)) ≡ true
zero_here width coding old near context some near_is context_is zero_is more =
    ap is_zero (context_here width coding old more near some near_is ∙ sym context_is ∙ zero_is)

pub scalar_read_at : (start : RowStart) (width : ℕ) (coding : Coding) (old new : List ℕ) (x next index : ℕ) (states after : List ContextState)
    (left rest : List Bool) (near : SamplesAbout) (context : ℤ) → x < width → next ≡ x + 1 → near ≡ neighbours_at width old (length old)
    → context ≡ context_of coding.entry near → context ≢ pos 0 → IsSampleRead width coding false old states left new after rest
    → (bits : List Bool) → IsReadTo start width coding bits old x index states left → IsReadTo start width coding bits new next index after rest
scalar_read_at start width coding old new x next index states after left rest near context inside next_is near_is context_is not_zero read bits so_far =
    let lists : new ++ [] ≡ old ++ (read.sample ∷ []) = append-nil new ∙ read.pushed in
    let given : nat_abs context ≡ read.context =
    ap nat_abs (context_is ∙ sym (context_here width coding old (read.sample ∷ []) near (omega arith) near_is))
    ∙ ap (λ l. nat_abs (context_at (plane_of width coding l) (length old))) (sym lists) ∙ read.is_context [] in
    let large : 0 < nat_abs context = some_abs context not_zero in
    scalar_read start width coding bits left rest old new x next index states after inside next_is so_far read (omega (arith, given, large))

-- where the code can't be read under the state that stood there
pub code_halted_at : (width : ℕ) (coding : Coding) (level : Bool) (samples : List ℕ) (states : List ContextState) (bits : List Bool) (near : SamplesAbout)
    (context : ℤ) (i sample : ℕ) (z : ContextState) (fault : CodeFault)
    → near ≡ neighbours_at width samples (length samples) → context ≡ context_of coding.entry near → i ≡ nat_abs context → i < length states → z ≡ get_or states i z
    → IsCodeFault coding.depth z level bits fault → sample ≡ length samples → IsCodeHalted width coding level samples states bits fault sample
code_halted_at width coding level samples states bits near context i sample z fault near_is context_is i_is below z_is given place =
    let number : i ≡ next_context width coding samples = i_is ∙ ap nat_abs (context_is ∙ ap (context_of coding.entry) near_is) in
    let z_there : z ≡ get_or states (next_context width coding samples) start_state = get_or_read states i z below z_is start_state
    ∙ ap (λ k. get_or states k start_state) number in
    let P : ContextState → Type 0 = λ s. IsCodeFault coding.depth s level bits fault in
    record { place = place; below = omega (arith, number, below); given = subst P z_there given }
