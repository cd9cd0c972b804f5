-- A row's spelling, one scalar or one run further.
use Rattle.std.proofs.Common.{◌≡◌, ℕ, zero, suc, ◌+◌, ◌-◌, ◌<◌, ◌≤◌, Bool, true, false, not, ◌&&◌, ◌||◌, cond, eqb, List, [], ◌∷◌, ◌++◌, refl, sym, ap, ◌∙◌, subst, arith, append_assoc, inl, inr, ⊎_elim, ◌⊎◌, ℤ, map, fold}
use mathlib.Core.Bool.{or-true}
use Rattle.std.proofs.lemmas.Bool.{cases_lt, and_parts}
use Rattle.std.proofs.lemmas.List.{append-nil}
use Rattle.ffv1_rice.specs.Codes.{SpellsValue, decoded_value}
use Rattle.ffv1_rice.specs.Runs.{SpellsRun}
use Rattle.ffv1_plane.specs.Spelling.{Residuals, is_zero, is_in_run, is_skipped, is_coded, follows_skipped, starts_run, left_in_line, skipped_among, run_length, value_at, context_number, columns_before, values_before, state_before, SamplesSpell, SampleSpells}
use Rattle.std.proofs.lemmas.List.{map-append}
use Rattle.std.proofs.lemmas.List.Elements.{filter-append}
use Rattle.std.proofs.lemmas.List.Sums.{fold-append}
use Rattle.ffv1_rice.specs.States.{start_state, after_value}
use Rattle.ffv1_plane.specs.Inner.Progress.{RowStart, Progress}

pub in_run_is : (r : Residuals) (s : ℕ) → is_in_run r s ≡ (is_zero (r.context s) || follows_skipped r s)
unfolding is_in_run follows_skipped
in_run_is r zero = grind arith
in_run_is r (suc s) = refl

not_skipped_after : (r : Residuals) (s : ℕ) → is_skipped r s ≡ false → follows_skipped r (suc s) ≡ false
unfolding follows_skipped
not_skipped_after r s coded = coded

-- a sample that is coded where no run starts
code_alone : (earlier : ℕ → List ℤ) (r : Residuals) (s index : ℕ) (code : List Bool) → starts_run r s ≡ false → is_skipped r s ≡ false
    → SpellsValue r.depth (state_before earlier r (context_number r s) s) (value_at r s) code → SampleSpells earlier r s index code index
code_alone earlier r s index code start skip coded =
    record {
      run = [];
      code = code;
      joined = refl;
      run_starts = λ h. absurd cc;
      no_run_starts = λ h. (refl, refl);
      coded = λ h. coded;
      not_coded = λ h. absurd (let no : is_coded r s ≡ true = ap not skip in cc);
    }

pub scalar_step : (start : RowStart) (r : Residuals) (s index : ℕ) (bits code left rest : List Bool) → s < r.width → Progress start r s bits index left
    → is_zero (r.context s) ≡ false
    → SpellsValue r.depth (state_before start.earlier r (context_number r s) s) (r.difference s) code → left ≡ code ++ rest
    → Progress start r (suc s) bits index rest
unfolding SamplesSpell
scalar_step start r s index bits code left rest inside p scalar coded is =
    let earlier = start.earlier in
    let outside : is_in_run r s ≡ false = in_run_is r s ∙ rw (scalar, p.fresh inside) refl in
    let skip : is_skipped r s ≡ false = rw outside refl in
    let no_start : starts_run r s ≡ false = rw outside refl in
    record {
      front = p.front ++ code;
      begins = p.begins ∙ ap (λ l. p.front ++ l) is ∙ sym (append_assoc p.front code rest);
      spells = (
        p.front,
        code,
        index,
        refl,
        p.spells,
        code_alone earlier r s index code no_start skip
            (let value : r.difference s ≡ value_at r s = rw outside refl in
            subst (λ (v : ℤ). SpellsValue r.depth (state_before earlier r (context_number r s) s) v code) value coded),
      );
      fresh = λ less. not_skipped_after r s skip;
    }

-- ---- the states, one sample further

values_more : (r : Residuals) (k s : ℕ) → values_before r k (suc s) ≡ values_before r k s ++ map (value_at r)
    (cond (is_coded r s && eqb (context_number r s) k) (s ∷ []) [])
unfolding columns_before
values_more r k s = ap (map (value_at r)) (filter-append (λ j. is_coded r j && eqb (context_number r j) k) (columns_before s) (s ∷ []))
    ∙ map-append (value_at r) _ _

pub state_more : (earlier : ℕ → List ℤ) (r : Residuals) (k s : ℕ) → state_before earlier r k (suc s)
    ≡ cond (is_coded r s && eqb (context_number r s) k) (after_value r.depth (state_before earlier r k s) (value_at r s)) (state_before earlier r k s)
state_more earlier r k s =
    let apart : earlier k ++ values_before r k (suc s) ≡ (earlier k ++ values_before r k s) ++ map (value_at r)
    (cond (is_coded r s && eqb (context_number r s) k) (s ∷ []) []) =
    ap (λ l. earlier k ++ l) (values_more r k s) ∙ sym (append_assoc (earlier k) (values_before r k s) _) in
    ap (fold (λ state value. after_value r.depth state value) start_state) apart
    ∙ fold-append (λ state value. after_value r.depth state value) start_state (earlier k ++ values_before r k s) _
    ∙ either (is_coded r s && eqb (context_number r s) k)
  where
    either : (b : Bool) → fold (λ state value. after_value r.depth state value) (state_before earlier r k s) (map (value_at r) (cond b (s ∷ []) [])) ≡ cond b
        (after_value r.depth (state_before earlier r k s) (value_at r s)) (state_before earlier r k s)
    either true = refl
    either false = refl

-- ---- a run of n samples from s

module _ (start : RowStart) (r : Residuals) (s n : ℕ) (column : s < r.width) (zero_here : is_zero (r.context s) ≡ true)
    (fresh : follows_skipped r s ≡ false) (fits : n ≤ left_in_line r s) (skipped : (j : ℕ) → j < n → is_zero (r.difference (s + j)) ≡ true) where
  pub in_run_to : (j : ℕ) → j ≤ n → j < left_in_line r s → is_in_run r (s + j) ≡ true
  unfolding is_in_run
  in_run_to zero h less = let k : s + 0 ≡ s = omega arith in ap (λ i. is_in_run r i) k ∙ in_run_is r s ∙ rw zero_here refl
  in_run_to (suc j) h less =
      let before : is_in_run r (s + j) ≡ true = in_run_to j (omega arith) (omega arith) in
      let zero_before : is_zero (r.difference (s + j)) ≡ true = skipped j (omega arith) in
      let k : s + suc j ≡ suc (s + j) = omega arith in
      let opened : is_in_run r (suc (s + j)) ≡ true = rw (before, zero_before) (or-true (is_zero (r.context (suc (s + j))))) in
      ap (λ i. is_in_run r i) k ∙ opened

  pub skipped_to : (j : ℕ) → j < n → is_skipped r (s + j) ≡ true
  skipped_to j h = let run : is_in_run r (s + j) ≡ true = in_run_to j (omega arith) (omega arith) in
      let z : is_zero (r.difference (s + j)) ≡ true = skipped j h in rw (run, z) refl

  pub follows_to : (j : ℕ) → suc j ≤ n → follows_skipped r (suc (s + j)) ≡ true
  unfolding follows_skipped
  follows_to j h = skipped_to j (omega arith)

  length_from : (m j count : ℕ) → j + m ≡ n → m ≤ count → (count ≡ m) ⊎ (is_skipped r (s + n) ≡ false) → skipped_among r count (s + j) ≡ m
  unfolding skipped_among
  length_from zero j zero sum enough end = refl
  length_from zero j (suc count) sum enough end = ⊎_elim (λ a. absurd (omega arith))
      (λ b. let k : s + n ≡ s + j = omega arith in let here : is_skipped r (s + j) ≡ false = ap (λ i. is_skipped r i) (sym k) ∙ b in rw here refl) end
  length_from (suc m) j zero sum enough end = absurd (omega arith)
  length_from (suc m) j (suc count) sum enough end =
      let here : is_skipped r (s + j) ≡ true = skipped_to j (omega arith) in
      let k : s + j + 1 ≡ s + (j + 1) = omega arith in
      let ind : skipped_among r count (s + (j + 1)) ≡ m = length_from m (j + 1) count (omega arith) (omega arith)
      (⊎_elim (λ a. inl (omega arith)) (λ b. inr b) end) in
      ap (λ t. cond t (suc (skipped_among r count (s + j + 1))) 0) here ∙ ap suc (ap (λ i. skipped_among r count i) k ∙ ind)

  pub length_least : (m j count : ℕ) → j + m ≡ n → m ≤ count → m ≤ skipped_among r count (s + j)
  unfolding skipped_among
  length_least zero j count sum enough = omega arith
  length_least (suc m) j zero sum enough = absurd (omega arith)
  length_least (suc m) j (suc count) sum enough =
      let here : is_skipped r (s + j) ≡ true = skipped_to j (omega arith) in
      let k : s + j + 1 ≡ s + (j + 1) = omega arith in
      let ind : m ≤ skipped_among r count (s + (j + 1)) = length_least m (j + 1) count (omega arith) (omega arith) in
      let opened : skipped_among r (suc count) (s + j) ≡ suc (skipped_among r count (s + j + 1)) =
      ap (λ t. cond t (suc (skipped_among r count (s + j + 1))) 0) here in
      omega (arith, opened, ind, ap (λ i. skipped_among r count i) k)

  length_is : (left_in_line r s ≡ n) ⊎ (is_skipped r (s + n) ≡ false) → run_length r s ≡ n
  length_is end = let k : s + 0 ≡ s = omega arith in ap (λ i. skipped_among r (left_in_line r s) i) (sym k)
      ∙ length_from n 0 (left_in_line r s) (omega arith) fits end

  pub starts_here : starts_run r s ≡ true
  starts_here = let run : is_in_run r s ≡ true = in_run_is r s ∙ rw zero_here refl in rw (run, fresh) refl

  -- the run's bits, and then nothing for the samples that it skips
  module _ (index next : ℕ) (run : List Bool) (spelled : SpellsRun n (left_in_line r s) index run next) (end : (left_in_line r s ≡ n)
      ⊎ (is_skipped r (s + n) ≡ false)) where
    pub run_here : SpellsRun (run_length r s) (left_in_line r s) index run next
    run_here = let is : n ≡ run_length r s = sym (length_is end) in subst (λ (k : ℕ). SpellsRun k (left_in_line r s) index run next) is spelled

    pub run_to : (j : ℕ) → j < n → (front : List Bool) → SamplesSpell start.earlier r start.first s front index → SamplesSpell start.earlier r start.first (suc (s + j)) (front ++ run) next
    unfolding SamplesSpell
    run_to zero h front before =
        let skip : is_skipped r s ≡ true = (let k : s + 0 ≡ s = omega arith in ap (λ i. is_skipped r i) (sym k) ∙ skipped_to 0 h) in
        let k : s ≡ s + 0 = omega arith in
        let here : SamplesSpell start.earlier r start.first (suc s) (front ++ run) next = (
          front,
          run,
          index,
          refl,
          before,
          record {
            run = run;
            code = [];
            joined = sym (append-nil run);
            run_starts = λ t. run_here;
            no_run_starts = λ t. absurd (let yes_there : starts_run r s ≡ true = starts_here in cc);
            coded = λ t. absurd (let coded_not : is_coded r s ≡ false = ap not skip in cc);
            not_coded = λ t. refl;
          },
        ) in
        subst (λ (i : ℕ). SamplesSpell start.earlier r start.first (suc i) (front ++ run) next) k here
    run_to (suc j) h front before =
        let follows : follows_skipped r (suc (s + j)) ≡ true = follows_to j (omega arith) in
        let k : s + suc j ≡ suc (s + j) = omega arith in
        let skip : is_skipped r (suc (s + j)) ≡ true = ap (λ i. is_skipped r i) (sym k) ∙ skipped_to (suc j) h in
        let in_it : is_in_run r (suc (s + j)) ≡ true = (and_parts (is_in_run r (suc (s + j))) (is_zero (r.difference (suc (s + j)))) skip).0 in
        let no_start : starts_run r (suc (s + j)) ≡ false = rw (in_it, follows) refl in
        let here : SamplesSpell start.earlier r start.first (suc (suc (s + j))) (front ++ run) next = (
          front ++ run,
          [],
          next,
          sym (append-nil (front ++ run)),
          run_to j (omega arith) front before,
          record {
            run = [];
            code = [];
            joined = refl;
            run_starts = λ t. absurd cc;
            no_run_starts = λ t. (refl, refl);
            coded = λ t. absurd (let coded_not : is_coded r (suc (s + j)) ≡ false = ap not skip in cc);
            not_coded = λ t. refl;
          },
        ) in
        subst (λ (i : ℕ). SamplesSpell start.earlier r start.first (suc i) (front ++ run) next) (sym k) here

    -- the run takes the row to its end
    pub run_end : (bits left rest : List Bool) → left_in_line r s ≡ n → Progress start r s bits index left → left ≡ run ++ rest
        → Progress start r (s + n) bits next rest
    run_end bits left rest whole p is =
        let last = n - 1 in
        let k : suc (s + last) ≡ s + n = omega arith in
        let spelled_on : SamplesSpell start.earlier r start.first (suc (s + last)) (p.front ++ run) next = run_to last (omega arith) p.front p.spells in
        record {
          front = p.front ++ run;
          begins = p.begins ∙ ap (λ l. p.front ++ l) is ∙ sym (append_assoc p.front run rest);
          spells = subst (λ (i : ℕ). SamplesSpell start.earlier r start.first i (p.front ++ run) next) k spelled_on;
          fresh = λ less. absurd (omega arith);
        }

    level_portion : (code : List Bool) → n < left_in_line r s → is_zero (r.difference (s + n)) ≡ false
        → SpellsValue r.depth (state_before start.earlier r (context_number r (s + n)) (s + n)) (decoded_value true (r.difference (s + n))) code
        → (front : List Bool) → SamplesSpell start.earlier r start.first s front index → SamplesSpell start.earlier r start.first (suc (s + n)) (front ++ (run ++ code)) next
    unfolding SamplesSpell
    level_portion code inside level coded front before =
        let in_it : is_in_run r (s + n) ≡ true = in_run_to n (omega arith) inside in
        let skip : is_skipped r (s + n) ≡ false = rw (in_it, level) refl in
        let value : decoded_value true (r.difference (s + n)) ≡ value_at r (s + n) = rw in_it refl in
        let coded' : SpellsValue r.depth (state_before start.earlier r (context_number r (s + n)) (s + n)) (value_at r (s + n)) code =
        subst (λ (v : ℤ). SpellsValue r.depth (state_before start.earlier r (context_number r (s + n)) (s + n)) v code) value coded in
        ⊎_elim
        (λ none.
        let k : s ≡ s + n = omega arith in
        let starts : starts_run r (s + n) ≡ true = ap (λ i. starts_run r i) (sym k) ∙ starts_here in
        let run_there : SpellsRun (run_length r (s + n)) (left_in_line r (s + n)) index run next =
        subst (λ (i : ℕ). SpellsRun (run_length r i) (left_in_line r i) index run next) k run_here in (
          front,
          run ++ code,
          index,
          refl,
          subst (λ (i : ℕ). SamplesSpell start.earlier r start.first i front index) k before,
          record {
            run = run;
            code = code;
            joined = refl;
            run_starts = λ t. run_there;
            no_run_starts = λ t. absurd cc;
            coded = λ t. coded';
            not_coded = λ t. absurd (let is : is_coded r (s + n) ≡ true = ap not skip in cc);
          },
        ))
        (λ more.
        let last = n - 1 in
        let k : suc (s + last) ≡ s + n = omega arith in
        let follows : follows_skipped r (s + n) ≡ true = ap (λ i. follows_skipped r i) (sym k) ∙ follows_to last (omega arith) in
        let no_start : starts_run r (s + n) ≡ false = rw (in_it, follows) refl in
        let spelled_on : SamplesSpell start.earlier r start.first (suc (s + last)) (front ++ run) next = run_to last (omega arith) front before in (
          front ++ run,
          code,
          next,
          sym (append_assoc front run code),
          subst (λ (i : ℕ). SamplesSpell start.earlier r start.first i (front ++ run) next) k spelled_on,
          code_alone start.earlier r (s + n) next code no_start skip coded',
        ))
        (let some_or : (n < 1) ⊎ (1 ≤ n) = cases_lt n 1 in some_or)

    -- a level ends the run
    pub run_level : (bits left code rest : List Bool) → n < left_in_line r s → is_zero (r.difference (s + n)) ≡ false
        → SpellsValue r.depth (state_before start.earlier r (context_number r (s + n)) (s + n)) (decoded_value true (r.difference (s + n))) code
        → Progress start r s bits index left → left ≡ run ++ (code ++ rest) → Progress start r (suc (s + n)) bits next rest
    run_level bits left code rest inside level coded p is =
        let in_it : is_in_run r (s + n) ≡ true = in_run_to n (omega arith) inside in
        record {
          front = p.front ++ (run ++ code);
          begins = p.begins ∙ ap (λ l. p.front ++ l) (is ∙ sym (append_assoc run code rest)) ∙ sym (append_assoc p.front (run ++ code) rest);
          spells = level_portion code inside level coded p.front p.spells;
          fresh = λ less. not_skipped_after r (s + n) (rw (in_it, level) refl);
        }
