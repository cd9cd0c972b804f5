-- Where a code or a word of a run can't be read, a plane that begins with what was read is stuck there.
use Rattle.std.proofs.Common.{◌≡◌, ◌≢◌, ℕ, zero, suc, ◌+◌, ◌-◌, ◌*◌, ◌/◌, ◌%◌, ◌<◌, ◌≤◌, Bool, true, false, not, cond, min, List, [], ◌∷◌, ◌++◌, get_or, length, length-append, refl, sym, ap, ◌∙◌, subst, arith, append_assoc, inl, inr, ⊎_elim, ◌⊎◌, ℤ, pos, nat_abs, ◌^◌}
use Rattle.std.proofs.lemmas.Bool.{cases_lt}
use Rattle.std.proofs.lemmas.List.{append-nil, get_or_append_left, get_or_push, length_push, get_or_past}
use Rattle.std.proofs.lemmas.Nat.{pow_pos}
use Rattle.ffv1_rice.proofs.Depths.{powers}
use Rattle.ffv1_rice.specs.States.{ContextState, start_state, IsCodedDepth}
use Rattle.ffv1_rice.specs.Codes.{IsCodeFault}
use Rattle.ffv1_rice.specs.Runs.{SpellsRun}
use Rattle.ffv1_rice.specs.declared.code.CodeFault.{CodeFault}
use Rattle.ffv1_rice.specs.declared.code.CodeFault.TheVariants.{Truncated}
use Rattle.ffv1_plane.specs.Samples.{SamplesAbout, plane_of, sample_inside, sample_at, neighbours_at, prediction_of, context_of, difference_of, context_at, difference_at, Coding}
use Rattle.ffv1_plane.specs.Spelling.{residuals_of, context_number, is_zero, is_in_run, is_skipped, is_coded, follows_skipped, starts_run, left_in_line, skipped_among, run_length, state_before, SamplesSpell}
use Rattle.ffv1_plane.specs.Inner.Progress.{RowStart, Progress, IsReadTo, IsRunRead, AreSkipped}
use Rattle.ffv1_plane.specs.Stuck.{IsCodeDue}
use Rattle.ffv1_plane.specs.declared.plane.PlaneFault.{PlaneFault}
use Rattle.ffv1_plane.specs.Inner.Halts.{IsSampleHalted, IsRunCut, next_context, IsCodeHalted, IsHalted, IsNextHalted}
use Rattle.ffv1_plane.specs.declared.plane.PlaneFault.TheVariants as plane_faults
use Rattle.ffv1_plane.proofs.Causal.{neighbours_same}
use Rattle.ffv1_plane.proofs.OnePlane.{one_sample_of}
use Rattle.ffv1_plane.proofs.Steps.{in_run_is, in_run_to, skipped_to, follows_to, starts_here, run_here, run_to, length_least}
use Rattle.ffv1_plane.proofs.Reading.{nonzero_is, context_here, skipped_states, none_skipped, skip_more, same_zero, same_before, this_one}
use Rattle.ffv1_plane.proofs.Totals.{differ}

-- ---- samples of n bits

pub small_push : (n : ℕ) (xs : List ℕ) (x : ℕ) → ((s : ℕ) → get_or xs s 0 < 2 ^ n) → x < 2 ^ n → (s : ℕ) → get_or (xs ++ x ∷ []) s 0 < 2 ^ n
small_push n xs x small tiny s = let some = pow_pos n in ⊎_elim
    (λ inside. let e = get_or_append_left xs (x ∷ []) 0 s inside in let h = small s in omega (arith, e, h))
    (λ from. ⊎_elim
    (λ last. let e = get_or_push xs x 0 s (let k : length xs ≡ s = omega arith in k) in omega (arith, e, tiny))
    (λ past. let e = get_or_past (xs ++ x ∷ []) s 0 (omega (arith, length_push xs x)) in omega (arith, e))
    (cases_lt s (length xs + 1)))
    (cases_lt s (length xs))

inside_small : (n w : ℕ) (xs : List ℕ) → ((s : ℕ) → get_or xs s 0 < 2 ^ n) → (column row : ℕ) → sample_inside w xs column row < 2 ^ n
unfolding sample_inside
inside_small n w xs small column row = either _ (small ((row - 2) * w + (column - 2)))
  where
    either : (b : Bool) → get_or xs ((row - 2) * w + (column - 2)) 0 < 2 ^ n → cond b 0 (get_or xs ((row - 2) * w + (column - 2)) 0) < 2 ^ n
    either true h = pow_pos n
    either false h = h

at_small : (n w : ℕ) (xs : List ℕ) → ((s : ℕ) → get_or xs s 0 < 2 ^ n) → (column row : ℕ) → sample_at w xs column row < 2 ^ n
unfolding sample_at
at_small n w xs small column row = either _ _ (inside_small n w xs small 2 (row - 1)) (inside_small n w xs small (min column (w + 1)) row)
  where
    either : (b c : Bool) → sample_inside w xs 2 (row - 1) < 2 ^ n → sample_inside w xs (min column (w + 1)) row < 2 ^ n
        → cond b 0 (cond c (sample_inside w xs 2 (row - 1)) (sample_inside w xs (min column (w + 1)) row)) < 2 ^ n
    either true c h k = pow_pos n
    either false true h k = h
    either false false h k = k

pub prediction_small : (n w s : ℕ) (xs : List ℕ) → ((s : ℕ) → get_or xs s 0 < 2 ^ n) → prediction_of (neighbours_at w xs s) < 2 ^ n
unfolding prediction_of neighbours_at
prediction_small n w s xs small =
    let left = at_small n w xs small (s % w + 1) (s / w + 2) in
    let top = at_small n w xs small (s % w + 2) (s / w + 1) in
    omega (arith, left, top)

-- a sample that isn't this one
other_sample : (n p : ℕ) → IsCodedDepth n → (x : ℕ) × (x < 2 ^ n) × (x ≢ p)
other_sample n zero depth = let b = powers n depth in (1, omega (arith, b.whole, b.least), λ e. absurd (omega (arith, e)))
other_sample n (suc p) depth = (0, pow_pos n, λ e. absurd (omega (arith, e)))

-- the next samples, each as it is predicted
pub skipping : (w : ℕ) (coding : Coding) (old : List ℕ) → 1 ≤ w → IsCodedDepth coding.depth → ((s : ℕ) → get_or old s 0 < 2 ^ coding.depth) → (n : ℕ) → (mid : List ℕ)
    × AreSkipped w coding old mid n × ((s : ℕ) → get_or mid s 0 < 2 ^ coding.depth)
skipping w coding old some deep small zero = (old, none_skipped w coding old, small)
skipping w coding old some deep small (suc n) =
    let before = skipping w coding old some deep small n in
    let mid = before.0 in
    let near = neighbours_at w mid (length mid) in
    let more = skip_more w coding old mid (mid ++ prediction_of near ∷ []) n (prediction_of near) near some deep before.1 refl refl refl in
    let n_is : n + 1 ≡ suc n = omega arith in (
      mid ++ prediction_of near ∷ [],
      subst (λ (k : ℕ). AreSkipped w coding old (mid ++ prediction_of near ∷ []) k) n_is more,
      small_push coding.depth mid
          (prediction_of near) before.2 (prediction_small coding.depth w (length mid) mid before.2),
    )

-- ---- a scalar

-- The next sample is that of column x of its row.
module _ (width : ℕ) (coding : Coding) (deep : IsCodedDepth coding.depth) (old : List ℕ) (x index : ℕ) (inside : x < width)
    (states : List ContextState) (left : List Bool) (near : SamplesAbout) (context : ℤ)
    (near_is : near ≡ neighbours_at width old (length old)) (context_is : context ≡ context_of coding.entry near) where
  some : 1 ≤ width
  some = omega arith

  context_there : (start : RowStart) (bits : List Bool) → IsReadTo start width coding bits old x index states left → (more : List ℕ)
      → (residuals_of (plane_of width coding (old ++ more)) start.row).context x ≡ context_of coding.entry near
  unfolding residuals_of
  context_there start bits so_far more =
      ap (λ k. context_at (plane_of width coding (old ++ more)) k) (sym so_far.place) ∙ context_here width coding old more near some near_is

  scalar_here : context ≢ pos 0 → (fault : CodeFault) (sample : ℕ) → IsCodeHalted width coding false old states left fault sample
      → (start : RowStart) (bits : List Bool) → IsReadTo start width coding bits old x index states left → (more : List ℕ)
      → IsHalted start.earlier (residuals_of (plane_of width coding (old ++ more)) start.row) start.first bits fault x
  unfolding residuals_of
  scalar_here not_zero fault sample halts start bits so_far more =
      let r = residuals_of (plane_of width coding (old ++ more)) start.row in
      let p = so_far.progress more in
      let there : r.context x ≡ context_of coding.entry near = context_there start bits so_far more in
      let scalar : is_zero (r.context x) ≡ false = ap is_zero (there ∙ sym context_is) ∙ nonzero_is context not_zero in
      let fresh : follows_skipped r x ≡ false = p.fresh inside in
      let outside : is_in_run r x ≡ false = in_run_is r x ∙ rw (scalar, fresh) refl in
      let no_start : starts_run r x ≡ false = rw outside refl in
      let coded : is_coded r x ≡ true = rw outside refl in
      let number : context_number r x ≡ next_context width coding old = ap nat_abs (there ∙ ap (context_of coding.entry) near_is) in
      let state : get_or states (next_context width coding old) start_state ≡ state_before start.earlier r (context_number r x) x =
      so_far.states_are more (next_context width coding old) halts.below ∙ ap (λ k. state_before start.earlier r k x) (sym number) in
      let given : IsCodeFault coding.depth (state_before start.earlier r (context_number r x) x) (is_in_run r x) left fault =
      subst (λ (l : Bool). IsCodeFault coding.depth (state_before start.earlier r (context_number r x) x) l left fault) (sym outside)
      (subst (λ (z : ContextState). IsCodeFault coding.depth z false left fault) state halts.given) in
      record {
        part = p.front;
        others = left;
        begins = p.begins;
        refused = inr (
          record {
            coded = coded;
            before = p.front;
            index = index;
            spells = p.spells;
            run = [];
            next = index;
            run_starts = λ yes. absurd (differ yes no_start);
            no_run_starts = λ no. (refl, refl);
            joined = sym (append-nil p.front);
          },
          given,
        );
      }

  pub scalar_halted : context ≢ pos 0 → (fault : CodeFault) (sample : ℕ) → IsCodeHalted width coding false old states left fault sample
      → IsNextHalted width coding old x index states left (plane_faults.Code fault sample)
  scalar_halted not_zero fault sample halts small =
      let here : x + 0 ≡ x = omega arith in
      record {
        samples = old ++ 0 ∷ [];
        continued = (0 ∷ [], refl);
        small = small_push coding.depth old 0 small (pow_pos coding.depth);
        skipped = 0;
        place = omega (arith, halts.place);
        inside = omega arith;
        fits = omega (arith, length_push old 0);
        halted = λ start bits so_far more.
            let P : List ℕ → ℕ → Type 0 = λ l k. IsHalted start.earlier (residuals_of (plane_of width coding l) start.row) start.first bits fault k in
            subst (P ((old ++ 0 ∷ []) ++ more)) (sym here)
            (subst (λ (l : List ℕ). P l x) (sym (append_assoc old (0 ∷ []) more)) (scalar_here not_zero fault sample halts start bits so_far (0 ∷ more)));
      }

  -- ---- a word of a run, and a level

  -- a plane that begins with skipped samples
  module _ (zero_is : context ≡ pos 0) (mid : List ℕ) (n : ℕ) (skips : AreSkipped width coding old mid n) (fits : n ≤ width - x)
      (start : RowStart) (bits : List Bool) (so_far : IsReadTo start width coding bits old x index states left) (more : List ℕ) where
    lists : old ++ (skips.samples ++ more) ≡ mid ++ more
    lists = sym (append_assoc old skips.samples more) ∙ ap (λ l. l ++ more) (sym skips.pushed)

    longer : length mid ≡ length old + n
    longer = omega (arith, ap length skips.pushed, length-append old skips.samples, skips.count)

    place : (j : ℕ) → length old + j ≡ start.row * width + (x + j)
    place j = let there = so_far.place in omega arith

    before : Progress start (residuals_of (plane_of width coding (mid ++ more)) start.row) x bits index left
    before = let P : List ℕ → Type 0 = λ l. Progress start (residuals_of (plane_of width coding l) start.row) x bits index left in
        subst P lists (so_far.progress (skips.samples ++ more))

    fresh : follows_skipped (residuals_of (plane_of width coding (mid ++ more)) start.row) x ≡ false
    unfolding residuals_of
    fresh = before.fresh inside

    zero_there : is_zero ((residuals_of (plane_of width coding (mid ++ more)) start.row).context x) ≡ true
    zero_there =
        let P : List ℕ → Type 0 = λ l. is_zero ((residuals_of (plane_of width coding l) start.row).context x) ≡ true in
        subst P lists (ap is_zero (context_there start bits so_far (skips.samples ++ more) ∙ sym context_is ∙ zero_is))

    zero_differences : (j : ℕ) → j < n → is_zero ((residuals_of (plane_of width coding (mid ++ more)) start.row).difference (x + j)) ≡ true
    unfolding residuals_of
    zero_differences j less =
        let P : ℕ → Type 0 = λ k. is_zero (difference_at (plane_of width coding (mid ++ more)) k) ≡ true in
        subst P (place j) (skips.zero_differences more j less)

    word_here : (fault : CodeFault) → fault ≡ Truncated → (cut : IsRunCut (width - x) index left n)
        → IsHalted start.earlier (residuals_of (plane_of width coding (mid ++ more)) start.row) start.first bits fault (x + n)
    unfolding residuals_of
    word_here fault is cut =
        let q = residuals_of (plane_of width coding (mid ++ more)) start.row in
        let k : x + 0 ≡ x = omega arith in
        let least : n ≤ run_length q x = subst (λ (i : ℕ). n ≤ skipped_among q (left_in_line q x) i) k
        (length_least start q x n inside zero_there fresh fits zero_differences n 0 (left_in_line q x) (omega arith) fits) in
        record {
          part = before.front ++ cut.words;
          others = cut.others;
          begins = before.begins ∙ ap (λ l. before.front ++ l) cut.begins ∙ sym (append_assoc before.front cut.words cut.others);
          refused = inl (
            is,
            (
              cut.next,
              record {
                start = x;
                skipped = n;
                place = refl;
                starts = starts_here start q x n inside zero_there fresh fits zero_differences;
                in_run = least;
                in_line = cut.inside;
                before = before.front;
                begun = index;
                spells = before.spells;
                words = cut.words;
                front = cut.front;
                joined = refl;
              },
              cut.cut,
            ),
          );
        }

    -- the level after them
    level_here : (next : ℕ) (tail run : List Bool) → left ≡ run ++ tail → SpellsRun n (width - x) index run next
        → n < width - x → (fault : CodeFault) (sample : ℕ)
        → IsCodeHalted width coding true mid states tail fault sample
        → is_zero ((residuals_of (plane_of width coding (mid ++ more)) start.row).difference (x + n)) ≡ false
        → IsHalted start.earlier (residuals_of (plane_of width coding (mid ++ more)) start.row) start.first bits fault (x + n)
    unfolding residuals_of
    level_here next tail run begins spelled within fault sample halts nonzero =
        let q = residuals_of (plane_of width coding (mid ++ more)) start.row in
        let skipped = skipped_to start q x n inside zero_there fresh fits zero_differences in
        let in_it : is_in_run q (x + n) ≡ true = in_run_to start q x n inside zero_there fresh fits zero_differences n (omega arith) within in
        let level : is_skipped q (x + n) ≡ false = rw (in_it, nonzero) refl in
        let coded : is_coded q (x + n) ≡ true = ap not level in
        let end : (left_in_line q x ≡ n) ⊎ (is_skipped q (x + n) ≡ false) = inr level in
        let around : neighbours_at width (mid ++ more) (length mid) ≡ neighbours_at width mid (length mid) =
        neighbours_same width (length mid) some (mid ++ more) mid (λ j h. get_or_append_left mid more 0 j h) in
        let number : context_number q (x + n) ≡ next_context width coding mid =
        ap (λ k. nat_abs (context_of coding.entry (neighbours_at width (mid ++ more) k))) (sym (longer ∙ place n))
        ∙ ap (λ z. nat_abs (context_of coding.entry z)) around in
        let P : List ℕ → Type 0 = λ l. get_or states (next_context width coding mid) start_state ≡ state_before start.earlier
        (residuals_of (plane_of width coding l) start.row) (next_context width coding mid) x in
        let state : get_or states (next_context width coding mid) start_state ≡ state_before start.earlier q (context_number q (x + n)) (x + n) =
        subst P lists (so_far.states_are (skips.samples ++ more) (next_context width coding mid) halts.below)
        ∙ sym (skipped_states start.earlier q x (next_context width coding mid) n skipped)
        ∙ ap (λ k. state_before start.earlier q k (x + n)) (sym number) in
        let given : IsCodeFault coding.depth (state_before start.earlier q (context_number q (x + n)) (x + n)) (is_in_run q (x + n)) tail fault =
        subst (λ (l : Bool). IsCodeFault coding.depth (state_before start.earlier q (context_number q (x + n)) (x + n)) l tail fault) (sym in_it)
        (subst (λ (z : ContextState). IsCodeFault coding.depth z true tail fault) state halts.given) in
        let starts = starts_here start q x n inside zero_there fresh fits zero_differences in
        let due : IsCodeDue start.earlier q start.first (x + n) (before.front ++ run) = ⊎_elim
        (λ none.
        let k : x ≡ x + n = omega arith in
        let run_there = run_here start q x n inside zero_there fresh fits zero_differences index next run spelled end in
        record {
          coded = coded;
          before = before.front;
          index = index;
          spells = subst (λ (i : ℕ). SamplesSpell start.earlier q start.first i before.front index) k before.spells;
          run = run;
          next = next;
          run_starts = λ yes. subst (λ (i : ℕ). SpellsRun (run_length q i) (left_in_line q i) index run next) k run_there;
          no_run_starts = λ no. absurd (differ (ap (λ i. starts_run q i) (sym k) ∙ starts) no);
          joined = refl;
        })
        (λ some_skipped.
        let last = n - 1 in
        let k : suc (x + last) ≡ x + n = omega arith in
        let follows : follows_skipped q (x + n) ≡ true = ap (λ i. follows_skipped q i) (sym k)
        ∙ follows_to start q x n inside zero_there fresh fits zero_differences last (omega arith) in
        let no_start : starts_run q (x + n) ≡ false = rw (in_it, follows) refl in
        let spelled_on : SamplesSpell start.earlier q start.first (suc (x + last)) (before.front ++ run) next = run_to start q x n inside zero_there fresh fits
        zero_differences index next run spelled end last (omega arith) before.front before.spells in
        record {
          coded = coded;
          before = before.front ++ run;
          index = next;
          spells = subst (λ (i : ℕ). SamplesSpell start.earlier q start.first i (before.front ++ run) next) k spelled_on;
          run = [];
          next = next;
          run_starts = λ yes. absurd (differ yes no_start);
          no_run_starts = λ no. (refl, refl);
          joined = sym (append-nil (before.front ++ run));
        })
        (let c : (n < 1) ⊎ (1 ≤ n) = cases_lt n 1 in c) in
        record {
          part = before.front ++ run;
          others = tail;
          begins = before.begins ∙ ap (λ l. before.front ++ l) begins ∙ sym (append_assoc before.front run tail);
          refused = inr (due, given);
        }

  pub word_halted : context ≡ pos 0 → (skipped : ℕ) (fault : CodeFault) (sample : ℕ) → fault ≡ Truncated → sample ≡ length old + skipped
      → IsRunCut (width - x) index left skipped
      → IsNextHalted width coding old x index states left (plane_faults.Code fault sample)
  word_halted zero_is skipped fault sample is place cut small =
      let skips = skipping width coding old some deep small skipped in
      let mid = skips.0 in
      let within = cut.inside in
      let size : length mid ≡ length old + skipped = omega (arith, ap length skips.1.pushed, length-append old skips.1.samples, skips.1.count) in
      record {
        samples = mid ++ 0 ∷ [];
        continued = (skips.1.samples ++ 0 ∷ [], ap (λ l. l ++ 0 ∷ []) skips.1.pushed ∙ append_assoc old skips.1.samples (0 ∷ []));
        small = small_push coding.depth mid 0 skips.2 (pow_pos coding.depth);
        skipped = skipped;
        place = place;
        inside = omega arith;
        fits = omega (arith, size, within, length_push mid 0);
        halted = λ start bits so_far more.
            let P : List ℕ → Type 0 = λ l. IsHalted start.earlier (residuals_of (plane_of width coding l) start.row) start.first bits fault (x + skipped) in
            subst P (sym (append_assoc mid (0 ∷ []) more))
            (word_here zero_is mid skipped skips.1 (omega (arith, within)) start bits so_far (0 ∷ more) fault is cut);
      }

  pub level_halted : context ≡ pos 0 → (mid : List ℕ) (n next : ℕ) (tail : List Bool) → IsRunRead (width - x) index left n next tail
      → AreSkipped width coding old mid n → n < width - x
      → (fault : CodeFault) (sample : ℕ) → IsCodeHalted width coding true mid states tail fault sample → ((s : ℕ) → get_or mid s 0 < 2 ^ coding.depth)
      → IsNextHalted width coding old x index states left (plane_faults.Code fault sample)
  unfolding residuals_of
  level_halted zero_is mid n next tail run skips within fault sample halts small small_old =
      let p = prediction_of (neighbours_at width mid (length mid)) in
      let p_small = prediction_small coding.depth width (length mid) mid small in
      let other = other_sample coding.depth p deep in
      let size : length mid ≡ length old + n = omega (arith, ap length skips.pushed, length-append old skips.samples, skips.count) in
      -- the level isn't what is predicted
      let nonzero = λ (more : List ℕ).
      let z = neighbours_at width ((mid ++ other.0 ∷ []) ++ more) (length mid) in
      let around : z ≡ neighbours_at width mid (length mid) = neighbours_same width (length mid) some ((mid ++ other.0 ∷ []) ++ more) mid
      (same_before mid more other.0) in
      let there : is_zero (difference_at (plane_of width coding ((mid ++ other.0 ∷ []) ++ more)) (length mid)) ≡ false =
      nonzero_is (difference_of coding.depth (context_of coding.entry z) (prediction_of z) (get_or ((mid ++ other.0 ∷ []) ++ more) (length mid) 0))
      (λ e. other.2 (one_sample_of coding.depth (context_of coding.entry z) (prediction_of z) other.0 p deep other.1 p_small
      (ap (λ y. difference_of coding.depth (context_of coding.entry z) (prediction_of z) y) (sym (this_one mid more other.0)) ∙ e
      ∙ sym (same_zero coding.depth (context_of coding.entry z) p deep)
      ∙ ap (λ k. difference_of coding.depth (context_of coding.entry z) k p) (sym (ap prediction_of around))))) in
      there in
      record {
        samples = mid ++ other.0 ∷ [];
        continued = (skips.samples ++ other.0 ∷ [], ap (λ l. l ++ other.0 ∷ []) skips.pushed ∙ append_assoc old skips.samples (other.0 ∷ []));
        small = small_push coding.depth mid other.0 small other.1;
        skipped = n;
        place = omega (arith, halts.place, size);
        inside = omega arith;
        fits = omega (arith, size, within, length_push mid other.0);
        halted = λ start bits so_far more.
            let lists : mid ++ (other.0 ∷ more) ≡ (mid ++ other.0 ∷ []) ++ more = sym (append_assoc mid (other.0 ∷ []) more) in
            let there : length mid ≡ start.row * width + (x + n) = (let place = so_far.place in omega arith) in
            let N : List ℕ → ℕ → Type 0 = λ l k. is_zero (difference_at (plane_of width coding l) k) ≡ false in
            let level : N (mid ++ (other.0 ∷ more)) (start.row * width + (x + n)) =
            subst (N (mid ++ (other.0 ∷ more))) there (subst (λ (l : List ℕ). N l (length mid)) (sym lists) (nonzero more)) in
            subst (λ (l : List ℕ). IsHalted start.earlier (residuals_of (plane_of width coding l) start.row) start.first bits fault (x + n)) lists
            (level_here zero_is mid n skips run.fits start bits so_far (other.0 ∷ more) next tail run.run run.begins run.spelled within fault sample halts
            level);
      }

  pub scalar_stops : context ≢ pos 0 → (fault : PlaneFault) → IsSampleHalted width coding false old states left fault
      → IsNextHalted width coding old x index states left fault
  scalar_stops not_zero (plane_faults.Code fault sample) halts = scalar_halted not_zero fault sample halts
  scalar_stops not_zero plane_faults.Memory halts = tt

  pub level_stops : context ≡ pos 0 → (mid : List ℕ) (n next : ℕ) (tail : List Bool) → IsRunRead (width - x) index left n next tail
      → AreSkipped width coding old mid n → n < width - x
      → ((s : ℕ) → get_or mid s 0 < 2 ^ coding.depth) → (fault : PlaneFault) → IsSampleHalted width coding true mid states tail fault
      → IsNextHalted width coding old x index states left fault
  level_stops zero_is mid n next tail run skips within small (plane_faults.Code fault sample) halts =
      level_halted zero_is mid n next tail run skips within fault sample halts small
  level_stops zero_is mid n next tail run skips within small plane_faults.Memory halts = tt
