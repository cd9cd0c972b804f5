-- No bits begin with the spellings of two rows.
use Rattle.std.proofs.Common.{◌≡◌, ◌≢◌, ℕ, zero, suc, ◌+◌, ◌-◌, ◌<◌, ◌≤◌, Bool, true, false, not, ◌&&◌, cond, List, [], ◌∷◌, ◌++◌, map, filter, fold, refl, sym, ap, ◌∙◌, subst, arith, append_assoc, ⊎_elim, ℤ, pos, negsuc, nat_abs, int_lt, ◌-ℤ◌}
use Rattle.std.proofs.lemmas.Int.{ints}
use Rattle.std.proofs.lemmas.Bool.{cases_lt, cases_Bool, and_parts}
use Rattle.std.proofs.lemmas.List.{map-append}
use Rattle.std.proofs.lemmas.List.Elements.{filter-append}
use Rattle.ffv1_rice.specs.States.{start_state, after_value, IsDifference, IsCodedDepth}
use Rattle.ffv1_rice.specs.Codes.{SpellsValue, decoded_value}
use Rattle.ffv1_rice.specs.Runs.{SpellsRun}
use Rattle.ffv1_rice.proofs.OneCode.{one_value}
use Rattle.ffv1_rice.proofs.OneRun.{one_run}
use Rattle.ffv1_plane.specs.Spelling.{Residuals, is_zero, is_in_run, is_skipped, is_coded, follows_skipped, starts_run, left_in_line, skipped_among, run_length, value_at, columns_before, values_before, state_before, SampleSpells, SamplesSpell}

abbrev pub residuals : ℕ → ℕ → (ℕ → ℤ) → (ℕ → ℤ) → Residuals
residuals depth width context difference = record { depth = depth; width = width; context = context; difference = difference }

module _ (depth w : ℕ) (c e d f : ℕ → ℤ) where
  pub in_run_alike : (n : ℕ) → ((j : ℕ) → j ≤ n → c j ≡ e j) → ((j : ℕ) → j < n → d j ≡ f j) → is_in_run (residuals depth w c d) n ≡ is_in_run (residuals depth w e f) n
  unfolding is_in_run
  in_run_alike zero same alike = ap is_zero (same 0 (omega arith))
  in_run_alike (suc n) same alike =
      let here : c (suc n) ≡ e (suc n) = same (suc n) (omega arith) in
      let before : d n ≡ f n = alike n (omega arith) in
      let ind : is_in_run (residuals depth w c d) n ≡ is_in_run (residuals depth w e f) n = in_run_alike n (λ j h. same j (omega arith)) (λ j h. alike j (omega arith)) in
      rw (here, before, ind) refl

  pub follows_alike : (n : ℕ) → ((j : ℕ) → j ≤ n → c j ≡ e j) → ((j : ℕ) → j < n → d j ≡ f j)
      → follows_skipped (residuals depth w c d) n ≡ follows_skipped (residuals depth w e f) n
  unfolding follows_skipped
  follows_alike zero same alike = refl
  follows_alike (suc n) same alike =
      let before : d n ≡ f n = alike n (omega arith) in
      let ind : is_in_run (residuals depth w c d) n ≡ is_in_run (residuals depth w e f) n = in_run_alike n (λ j h. same j (omega arith)) (λ j h. alike j (omega arith)) in
      rw (before, ind) refl

kept : (b : Bool) (n : ℕ) (g h : ℕ → ℤ) → g n ≡ h n → map g (cond b (n ∷ []) []) ≡ map h (cond b (n ∷ []) [])
kept true n g h same = ap (λ x. x ∷ []) same
kept false n g h same = refl

-- lists of samples on which two tests and two values agree
pub values_alike : (n : ℕ) (p q : ℕ → Bool) (g h : ℕ → ℤ) → ((j : ℕ) → j < n → p j ≡ q j) → ((j : ℕ) → j < n → g j ≡ h j)
    → map g (filter p (columns_before n)) ≡ map h (filter q (columns_before n))
unfolding columns_before
values_alike zero p q g h tests values = refl
values_alike (suc n) p q g h tests values =
    let ind : map g (filter p (columns_before n)) ≡ map h (filter q (columns_before n)) =
    values_alike n p q g h (λ j k. tests j (omega arith)) (λ j k. values j (omega arith)) in
    let test : p n ≡ q n = tests n (omega arith) in
    let value : g n ≡ h n = values n (omega arith) in
    rw (filter-append p, filter-append q, map-append g, map-append h, ind)
    (ap (λ l. map h (filter q (columns_before n)) ++ l) (rw test (kept (q n) n g h value)))

-- a level's difference isn't 0, so its value gives it
one_difference : (level : Bool) (x y : ℤ) → (level ≡ true → x ≢ pos 0) → (level ≡ true → y ≢ pos 0) → decoded_value level x ≡ decoded_value level y → x ≡ y
one_difference false x y some other same = same
one_difference true x y some other same = let p : x ≢ pos 0 = some refl in let q : y ≢ pos 0 = other refl in grind (arith, ints)

in_either : (n : ℕ) (b : Bool) (x y : ℤ) → (b ≡ true → IsDifference n x) → IsDifference n y → IsDifference n (cond b x y)
in_either n true x y h k = h refl
in_either n false x y h k = k

value_range : (n : ℕ) (level : Bool) (x : ℤ) → IsDifference n x → IsDifference n (decoded_value level x)
value_range n level x h = in_either n (level && int_lt (pos 0) x) (x -ℤ pos 1) x
    (λ b. let p = and_parts level (int_lt (pos 0) x) b in record { low = grind (arith, ints); high = omega (arith, ints) }) h

pub zero_of : (x : ℤ) → is_zero x ≡ true → x ≡ pos 0
zero_of (pos zero) h = refl
zero_of (pos (suc n)) h = absurd (grind (arith, ints))
zero_of (negsuc n) h = absurd (grind (arith, ints))

pub nonzero_of : (x : ℤ) → is_zero x ≡ false → x ≢ pos 0
nonzero_of x h e = let f : is_zero x ≡ true = ap is_zero e in absurd cc

-- Two rows that the same bits begin to spell, up to column n: what was read of them is alike.
pub record Alike (depth w : ℕ) (c e d f : ℕ → ℤ) (n : ℕ) : Type 0 where
  pub contexts : (j : ℕ) → j < n → c j ≡ e j
  pub differences : (j : ℕ) → j < n → d j ≡ f j
  pub runs : follows_skipped (residuals depth w c d) n ≡ true → run_length (residuals depth w c d) n ≡ run_length (residuals depth w e f) n

follows_of : (a b : Bool) → a ≡ true → (a && not b) ≡ false → b ≡ true
follows_of true true h k = refl
follows_of true false h k = absurd cc
follows_of false b h k = absurd cc

pub not_both : (a b : Bool) → a ≡ true → (a && b) ≡ false → b ≡ false
not_both true b h k = k
not_both false b h k = absurd cc

same_test : (a b : Bool) (m n : ℕ) → cond a (suc m) 0 ≡ cond b (suc n) 0 → a ≡ b
same_test true true m n h = refl
same_test false false m n h = refl
same_test true false m n h = absurd (omega arith)
same_test false true m n h = absurd (omega arith)

-- by the run's length it is known whether its first sample is skipped ..
first_skipped : (r q : Residuals) (s count m n : ℕ) → count ≡ suc m → skipped_among r count s ≡ skipped_among q count s → is_skipped r s ≡ is_skipped q s
unfolding skipped_among
first_skipped r q s count m n is same =
    let opened : skipped_among r (suc m) s ≡ skipped_among q (suc m) s = ap (λ k. skipped_among r k s) (sym is) ∙ same ∙ ap (λ k. skipped_among q k s) is in
    same_test _ _ _ _ opened

-- .. and how long it is after it
length_after : (r q : Residuals) (s count m : ℕ) → count ≡ suc m → is_skipped r s ≡ true → is_skipped q s ≡ true
    → skipped_among r count s ≡ skipped_among q count s → skipped_among r m (s + 1) ≡ skipped_among q m (s + 1)
unfolding skipped_among
length_after r q s count m is a b same =
    let opened : skipped_among r (suc m) s ≡ skipped_among q (suc m) s = ap (λ k. skipped_among r k s) (sym is) ∙ same ∙ ap (λ k. skipped_among q k s) is in
    let left : skipped_among r (suc m) s ≡ suc (skipped_among r m (s + 1)) = ap (λ t. cond t (suc (skipped_among r m (s + 1))) 0) a in
    let right : skipped_among q (suc m) s ≡ suc (skipped_among q m (s + 1)) = ap (λ t. cond t (suc (skipped_among q m (s + 1))) 0) b in
    omega (arith, opened, left, right)

module _ (earlier : ℕ → List ℤ) (depth w : ℕ) (c e d f : ℕ → ℤ) (deep : IsCodedDepth depth)
    (range : (j : ℕ) → IsDifference depth (d j)) (also : (j : ℕ) → IsDifference depth (f j))
    (determined : (n : ℕ) → ((j : ℕ) → j < n → d j ≡ f j) → c n ≡ e n) where
  pub contexts_to : (n : ℕ) → ((j : ℕ) → j < n → d j ≡ f j) → (j : ℕ) → j ≤ n → c j ≡ e j
  contexts_to n alike j h = determined j (λ i less. alike i (omega arith))

  pub before_alike : (n k : ℕ) → ((j : ℕ) → j < n → d j ≡ f j) → values_before (residuals depth w c d) k n ≡ values_before (residuals depth w e f) k n
  before_alike n k alike =
      let runs : (j : ℕ) → j < n → is_in_run (residuals depth w c d) j ≡ is_in_run (residuals depth w e f) j =
      λ j h. in_run_alike depth w c e d f j (contexts_to j (λ i less. alike i (omega arith))) (λ i less. alike i (omega arith)) in
      values_alike n _ _ _ _
      (λ j h. let r : is_in_run (residuals depth w c d) j ≡ is_in_run (residuals depth w e f) j = runs j h in let a : d j ≡ f j = alike j h in
      let b : c j ≡ e j = determined j (λ i less. alike i (omega arith)) in rw (r, a, b) refl)
      (λ j h. let r : is_in_run (residuals depth w c d) j ≡ is_in_run (residuals depth w e f) j = runs j h in let a : d j ≡ f j = alike j h in rw (r, a) refl)

  pub states_alike : (n k : ℕ) → ((j : ℕ) → j < n → d j ≡ f j) → state_before earlier (residuals depth w c d) k n ≡ state_before earlier (residuals depth w e f) k n
  states_alike n k alike = ap (λ l. fold (λ state value. after_value depth state value) start_state (earlier k ++ l)) (before_alike n k alike)

  -- sample n, after what was read alike
  pub record AfterRun (n next then : ℕ) (rest more : List Bool) : Type 0 where
    pub index : next ≡ then
    pub later : rest ≡ more
    pub lengths : is_in_run (residuals depth w c d) n ≡ true → run_length (residuals depth w c d) n ≡ run_length (residuals depth w e f) n

  -- runs that stand there are one
  pub runs_alike : (n index then next last : ℕ) (run words rest more : List Bool) → Alike depth w c e d f n → index ≡ then → run ++ rest ≡ words ++ more
      → (starts_run (residuals depth w c d) n ≡ true → SpellsRun (run_length (residuals depth w c d) n) (left_in_line (residuals depth w c d) n) index run next)
      → (starts_run (residuals depth w c d) n ≡ false → (run ≡ []) × (next ≡ index))
      → (starts_run (residuals depth w e f) n ≡ true → SpellsRun (run_length (residuals depth w e f) n) (left_in_line (residuals depth w e f) n) then words last)
      → (starts_run (residuals depth w e f) n ≡ false → (words ≡ []) × (last ≡ then))
      → AfterRun n next last rest more
  runs_alike n index then next last run words rest more alike same joined a_starts a_none b_starts b_none =
      let runs : is_in_run (residuals depth w c d) n ≡ is_in_run (residuals depth w e f) n = in_run_alike depth w c e d f n (contexts_to n alike.differences) alike.differences in
      let follows : follows_skipped (residuals depth w c d) n ≡ follows_skipped (residuals depth w e f) n =
      follows_alike depth w c e d f n (contexts_to n alike.differences) alike.differences in
      let starts : starts_run (residuals depth w c d) n ≡ starts_run (residuals depth w e f) n = rw (runs, follows) refl in
      ⊎_elim
      (λ yes.
      let P : ℕ → Type 0 = λ i. SpellsRun (run_length (residuals depth w e f) n) (left_in_line (residuals depth w e f) n) i words last in
      let one = one_run _ _ _ _ _ _ run words rest more (a_starts yes) (subst P (sym same) (b_starts (sym starts ∙ yes))) joined in
      record { index = one.1; later = one.2; lengths = λ h. one.0 })
      (λ no.
      let p = a_none no in
      let q = b_none (sym starts ∙ no) in
      record {
        index = p.1 ∙ same ∙ sym q.1;
        later = ap (λ l. l ++ rest) (sym p.0) ∙ joined ∙ ap (λ l. l ++ more) q.0;
        lengths = λ h. alike.runs (follows_of (is_in_run (residuals depth w c d) n) _ h no);
      })
      (cases_Bool (starts_run (residuals depth w c d) n))

  after_run : (n index then next last : ℕ) (portion words rest more : List Bool) → Alike depth w c e d f n → index ≡ then → portion ++ rest ≡ words ++ more
      → (a : SampleSpells earlier (residuals depth w c d) n index portion next) → (b : SampleSpells earlier (residuals depth w e f) n then words last)
      → AfterRun n next last (a.code ++ rest) (b.code ++ more)
  after_run n index then next last portion words rest more alike same joined a b =
      let inner : a.run ++ (a.code ++ rest) ≡ b.run ++ (b.code ++ more) = sym (append_assoc a.run a.code rest)
      ∙ ap (λ l. l ++ rest) (sym a.joined) ∙ joined ∙ ap (λ l. l ++ more) b.joined ∙ append_assoc b.run b.code more in
      runs_alike n index then next last a.run b.run (a.code ++ rest) (b.code ++ more) alike same inner a.run_starts a.no_run_starts b.run_starts b.no_run_starts

  pub skipped_alike : (n next then : ℕ) (rest more : List Bool) → n < w → Alike depth w c e d f n → AfterRun n next then rest more
      → is_skipped (residuals depth w c d) n ≡ is_skipped (residuals depth w e f) n
  skipped_alike n next then rest more inside alike after =
      let runs : is_in_run (residuals depth w c d) n ≡ is_in_run (residuals depth w e f) n = in_run_alike depth w c e d f n (contexts_to n alike.differences) alike.differences in
      let left : 0 < left_in_line (residuals depth w c d) n = omega arith in
      ⊎_elim
      (λ yes. first_skipped (residuals depth w c d) (residuals depth w e f) n (left_in_line (residuals depth w c d) n) (left_in_line (residuals depth w c d) n - 1) 0 (omega arith)
      (after.lengths yes))
      (λ no. let other : is_in_run (residuals depth w e f) n ≡ false = sym runs ∙ no in rw (no, other) refl)
      (cases_Bool (is_in_run (residuals depth w c d) n))

  -- one sample more
  pub one_sample : (n index then next last : ℕ) (portion words rest more : List Bool) → n < w → Alike depth w c e d f n → index ≡ then → portion ++ rest ≡ words ++ more
      → SampleSpells earlier (residuals depth w c d) n index portion next → SampleSpells earlier (residuals depth w e f) n then words last → (d n ≡ f n) × (next ≡ last)
      × (rest ≡ more)
  one_sample n index then next last portion words rest more inside alike same joined a b =
      let after = after_run n index then next last portion words rest more alike same joined a b in
      let skipped : is_skipped (residuals depth w c d) n ≡ is_skipped (residuals depth w e f) n = skipped_alike n next last _ _ inside alike after in
      let runs : is_in_run (residuals depth w c d) n ≡ is_in_run (residuals depth w e f) n = in_run_alike depth w c e d f n (contexts_to n alike.differences) alike.differences in
      let here : c n ≡ e n = determined n alike.differences in
      ⊎_elim
      (λ yes.
      let p = and_parts (is_in_run (residuals depth w c d) n) (is_zero (d n)) yes in
      let q = and_parts (is_in_run (residuals depth w e f) n) (is_zero (f n)) (sym skipped ∙ yes) in
      let un : is_coded (residuals depth w c d) n ≡ false = ap not yes in
      let un' : is_coded (residuals depth w e f) n ≡ false = ap not (sym skipped ∙ yes) in (
        zero_of (d n) p.1 ∙ sym (zero_of (f n) q.1),
        after.index,
        ap (λ l. l ++ rest) (sym (a.not_coded un)) ∙ after.later ∙ ap (λ l. l ++ more) (b.not_coded un'),
      ))
      (λ no.
      let co : is_coded (residuals depth w c d) n ≡ true = ap not no in
      let co' : is_coded (residuals depth w e f) n ≡ true = ap not (sym skipped ∙ no) in
      let first = a.coded co in
      let second = b.coded co' in
      let states : state_before earlier (residuals depth w e f) (nat_abs (e n)) n ≡ state_before earlier (residuals depth w c d) (nat_abs (c n)) n =
      sym (states_alike n (nat_abs (e n)) alike.differences) ∙ ap (λ z. state_before earlier (residuals depth w c d) (nat_abs z) n) (sym here) in
      let second' : SpellsValue depth (state_before earlier (residuals depth w c d) (nat_abs (c n)) n) (value_at (residuals depth w e f) n) b.code = rw (← states) second in
      let one = one_value depth _ _ _ a.code b.code rest more deep (value_range depth _ _ (range n)) (value_range depth _ _ (also n)) first second' after.later in
      let values : decoded_value (is_in_run (residuals depth w c d) n) (d n) ≡ decoded_value (is_in_run (residuals depth w c d) n) (f n) = one.0
      ∙ ap (λ l. decoded_value l (f n)) (sym runs) in (
        one_difference (is_in_run (residuals depth w c d) n) (d n) (f n)
            (λ t. nonzero_of (d n) (not_both (is_in_run (residuals depth w c d) n) _ t no))
            (λ t. nonzero_of (f n) (not_both (is_in_run (residuals depth w e f) n) _ (sym runs ∙ t) (sym skipped ∙ no)))
            values,
        after.index,
        one.1,
      ))
      (cases_Bool (is_skipped (residuals depth w c d) n))

  -- what is alike before the next sample, too
  alike_more : (n next last : ℕ) (rest more : List Bool) → n < w → Alike depth w c e d f n → AfterRun n next last rest more → d n ≡ f n → Alike depth w c e d f (n + 1)
  unfolding follows_skipped
  alike_more n next last rest more inside alike after here = record {
    contexts = λ j h. determined j (λ i less. alike.differences i (omega arith));
    differences = λ j h. ⊎_elim (λ less. alike.differences j less) (λ most. let j_is : j ≡ n = omega arith in rw j_is here) (cases_lt j n);
    runs = λ follows.
        let runs : is_in_run (residuals depth w c d) n ≡ is_in_run (residuals depth w e f) n =
        in_run_alike depth w c e d f n (contexts_to n alike.differences) alike.differences in
        let skip : is_skipped (residuals depth w c d) n ≡ true =
        ap (λ k. follows_skipped (residuals depth w c d) k) (let k : suc n ≡ n + 1 = omega arith in k) ∙ follows in
        let skip' : is_skipped (residuals depth w e f) n ≡ true = rw (← runs, ← here) skip in
        let length = after.lengths ((and_parts (is_in_run (residuals depth w c d) n) (is_zero (d n)) skip).0) in
        let left : left_in_line (residuals depth w c d) n ≡ suc (w - (n + 1)) = omega arith in
        length_after (residuals depth w c d) (residuals depth w e f) n (left_in_line (residuals depth w c d) n) (w - (n + 1)) left skip skip' length;
  }

  pub one_reading : (first n : ℕ) (front words rest more : List Bool) (next last : ℕ) → n ≤ w
      → SamplesSpell earlier (residuals depth w c d) first n front next → SamplesSpell earlier (residuals depth w e f) first n words last
      → front ++ rest ≡ words ++ more → Alike depth w c e d f n × (next ≡ last) × (rest ≡ more)
  unfolding SamplesSpell follows_skipped
  one_reading first zero front words rest more next last low a b same = (
    record { contexts = λ j h. absurd (omega arith); differences = λ j h. absurd (omega arith); runs = λ h. absurd cc },
    a.1 ∙ sym b.1,
    ap (λ l. l ++ rest) (sym a.0) ∙ same ∙ ap (λ l. l ++ more) b.0,
  )
  one_reading first (suc n) front words rest more next last low (a0, a1, a2, a3, a4, a5) (b0, b1, b2, b3, b4, b5) same =
      let joined : a0 ++ (a1 ++ rest) ≡ b0 ++ (b1 ++ more) = sym (append_assoc a0 a1 rest)
      ∙ ap (λ l. l ++ rest) (sym a3) ∙ same ∙ ap (λ l. l ++ more) b3 ∙ append_assoc b0 b1 more in
      let before = one_reading first n a0 b0 (a1 ++ rest) (b1 ++ more) a2 b2 (omega arith) a4 b4 joined in
      let after = after_run n a2 b2 next last a1 b1 rest more before.0 before.1 before.2 a5 b5 in
      let sample = one_sample n a2 b2 next last a1 b1 rest more (omega arith) before.0 before.1 before.2 a5 b5 in
      let all : Alike depth w c e d f (n + 1) = alike_more n next last _ _ (omega arith) before.0 after sample.0 in
      let n_is : n + 1 ≡ suc n = omega arith in
      (subst (Alike depth w c e d f) n_is all, sample.1, sample.2)
