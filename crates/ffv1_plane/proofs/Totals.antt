-- Every row has a spelling, whatever stands before it.
use Rattle.std.proofs.Common.{◌≡◌, ℕ, zero, suc, ◌+◌, ◌-◌, ◌*◌, ◌^◌, ◌<◌, ◌≤◌, Bool, true, false, cond, List, [], ◌∷◌, ◌++◌, fold, refl, sym, subst, arith, append_assoc, ⊎_elim, ◌⊎◌, ℤ}
use Rattle.std.proofs.lemmas.Bool.{cases_lt, cases_eq, cases_Bool}
use Rattle.std.proofs.lemmas.List.{append-nil}
use Rattle.std.proofs.Math.Nat.{mul-le-mul_right}
use Rattle.std.proofs.Math.Pow.{pow-lt}
use Rattle.ffv1_bits.specs.Bits.{number_bits}
use Rattle.ffv1_rice.specs.States.{ContextState, IsParameter, start_state, corrected, counted, with_value, coded_value, after_value, code_number}
use Rattle.ffv1_rice.specs.Codes.{SpellsValue, code_bits}
use Rattle.ffv1_rice.specs.Runs.{SpellsRun, line_end, whole, rest, over_end, run_exponent, whole_length}
use Rattle.ffv1_rice.proofs.OneRun.{whole_length_pos}
use Rattle.ffv1_plane.specs.Spelling.{Residuals, is_skipped, is_coded, starts_run, left_in_line, skipped_among, run_length, value_at, context_number, state_after, values_before, state_before, SampleSpells, SamplesSpell, RowSpells}

-- ---- codes

below_power : (n : ℕ) → n < 2 ^ n
below_power zero = omega arith
below_power (suc n) = let p : n < 2 ^ n = below_power n in let q : 2 ^ n < 2 ^ suc n = pow-lt (let less : n < suc n = omega arith in less) in
    omega (arith, p, q)

least_from : (s : ContextState) (fuel k : ℕ) → ((j : ℕ) → j < k → s.count * 2 ^ j < s.error_sum) → s.error_sum ≤ s.count * 2 ^ (k + fuel) → (least : ℕ)
    × IsParameter s least
least_from s zero k below top =
    let same : k + zero ≡ k = omega arith in
    (k, record { enough = subst (λ (i : ℕ). s.error_sum ≤ s.count * 2 ^ i) same top; least = below })
least_from s (suc fuel) k below top = ⊎_elim
    (λ less. least_from s fuel (k + 1)
    (λ j h. ⊎_elim (λ before. below j before) (λ most. let j_is : k ≡ j = omega arith in subst (λ (i : ℕ). s.count * 2 ^ i < s.error_sum) j_is less)
    (cases_lt j k))
    (let same : k + suc fuel ≡ k + 1 + fuel = omega arith in subst (λ (i : ℕ). s.error_sum ≤ s.count * 2 ^ i) same top))
    (λ more. (k, record { enough = more; least = below }))
    (cases_lt (s.count * 2 ^ k) s.error_sum)

-- a state in which something is counted has a parameter
parameter_of : (s : ContextState) → 1 ≤ s.count → (k : ℕ) × IsParameter s k
parameter_of s some =
    let p : s.error_sum < 2 ^ s.error_sum = below_power s.error_sum in
    let q : 1 * 2 ^ s.error_sum ≤ s.count * 2 ^ s.error_sum = mul-le-mul_right (2 ^ s.error_sum) some in
    let same : zero + s.error_sum ≡ s.error_sum = omega arith in
    least_from s s.error_sum zero (λ j h. absurd (omega arith))
    (subst (λ (i : ℕ). s.error_sum ≤ s.count * 2 ^ i) (sym same) (omega (arith, p, q)))

corrected_some : (s : ContextState) → 1 ≤ s.count → 1 ≤ (corrected s).count
corrected_some s h = grind arith

counted_some : (s : ContextState) → 1 ≤ (counted s).count
counted_some s = grind arith

some_on : (n : ℕ) (values : List ℤ) (s : ContextState) → 1 ≤ s.count → 1 ≤ (fold (λ state value. after_value n state value) s values).count
some_on n [] s h = h
some_on n (v ∷ values) s h = some_on n values (after_value n s v) (corrected_some (counted (with_value s (coded_value n s v)))
    (counted_some (with_value s (coded_value n s v))))

pub some_counted : (n : ℕ) (values : List ℤ) → 1 ≤ (state_after n values).count
some_counted n values = some_on n values start_state (omega arith)

-- each value has a code after all others
pub code_of : (n : ℕ) (values : List ℤ) (value : ℤ) → (code : List Bool) × SpellsValue n (state_after n values) value code
code_of n values value =
    let p = parameter_of (state_after n values) (some_counted n values) in
    (code_bits n (code_number n (state_after n values) value) p.0, record { parameter = p.0; is_parameter = p.1; same = refl })

-- ---- runs

-- each length has a run
run_within : (fuel n left i : ℕ) → left ≤ fuel → n ≤ left → (bits : List Bool) × (next : ℕ) × SpellsRun n left i bits next
run_within zero n left i low fits = ([], i, line_end (omega arith) (omega arith) refl refl)
run_within (suc fuel) n left i low fits = ⊎_elim
    (λ less. ⊎_elim
    (λ inside. (false ∷ number_bits (run_exponent i) n, i - 1, rest less inside refl refl))
    (λ all. ⊎_elim
    (λ none. ([], i, line_end (omega arith) (omega arith) refl refl))
    (λ some. (true ∷ [], i, over_end less (omega arith) (omega arith) refl refl))
    (let c : (n < 1) ⊎ (1 ≤ n) = cases_lt n 1 in c))
    (cases_lt n left))
    (λ more.
    let p = whole_length_pos i in
    let r = run_within fuel (n - whole_length i) (left - whole_length i) (i + 1) (omega arith) (omega arith) in
    (true ∷ r.0, r.1, whole (n - whole_length i) (left - whole_length i) r.0 (omega arith) (omega arith) refl r.2))
    (cases_lt n (whole_length i))

pub run_of : (n left i : ℕ) → n ≤ left → (bits : List Bool) × (next : ℕ) × SpellsRun n left i bits next
run_of n left i fits = run_within left n left i (omega arith) fits

pub length_low : (r : Residuals) (count s : ℕ) → skipped_among r count s ≤ count
unfolding skipped_among
length_low r zero s = omega arith
length_low r (suc count) s = either (is_skipped r s) (length_low r count (s + 1))
  where
    either : (b : Bool) → skipped_among r count (s + 1) ≤ count → cond b (suc (skipped_among r count (s + 1))) 0 ≤ suc count
    either true p = omega arith
    either false p = omega arith

-- ---- samples

pub differ : {b : Bool} → b ≡ true → b ≡ false → ⊥
differ h k = cc

-- the code of a sample, if it is coded
record CodePart (earlier : ℕ → List ℤ) (r : Residuals) (s : ℕ) (code : List Bool) : Type 0 where
  coded : is_coded r s ≡ true → SpellsValue r.depth (state_before earlier r (context_number r s) s) (value_at r s) code
  not_coded : is_coded r s ≡ false → code ≡ []

code_part : (earlier : ℕ → List ℤ) (r : Residuals) (s : ℕ) → (code : List Bool) × CodePart earlier r s code
code_part earlier r s = ⊎_elim
    (λ yes.
    let c = code_of r.depth (earlier (context_number r s) ++ values_before r (context_number r s) s) (value_at r s) in
    (c.0, record { coded = λ h. c.1; not_coded = λ h. absurd (differ yes h) }))
    (λ no. ([], record { coded = λ h. absurd (differ h no); not_coded = λ h. refl }))
    (cases_Bool (is_coded r s))

-- what follows the run of a sample
pub past_run : (earlier : ℕ → List ℤ) (r : Residuals) (s index next : ℕ) (run : List Bool)
    → (starts_run r s ≡ true → SpellsRun (run_length r s) (left_in_line r s) index run next) → (starts_run r s ≡ false → (run ≡ []) × (next ≡ index))
    → (code : List Bool) × SampleSpells earlier r s index (run ++ code) next
past_run earlier r s index next run starts none =
    let c = code_part earlier r s in
    (c.0, record { run = run; code = c.0; joined = refl; run_starts = starts; no_run_starts = none; coded = c.1.coded; not_coded = c.1.not_coded })

sample_of : (earlier : ℕ → List ℤ) (r : Residuals) (s index : ℕ) → (portion : List Bool) × (next : ℕ) × SampleSpells earlier r s index portion next
sample_of earlier r s index = ⊎_elim
    (λ yes.
    let run = run_of (run_length r s) (left_in_line r s) index (length_low r (left_in_line r s) s) in
    let all = past_run earlier r s index run.1 run.0 (λ h. run.2) (λ h. absurd (differ yes h)) in
    (run.0 ++ all.0, run.1, all.1))
    (λ no. let all = past_run earlier r s index index [] (λ h. absurd (differ h no)) (λ h. (refl, refl)) in ([] ++ all.0, index, all.1))
    (cases_Bool (starts_run r s))

pub spells_on : (earlier : ℕ → List ℤ) (r : Residuals) (first count n : ℕ) (front : List Bool) (index : ℕ) → n ≤ count → SamplesSpell earlier r first n front index
    → (back : List Bool) × (last : ℕ) × SamplesSpell earlier r first count (front ++ back) last
unfolding SamplesSpell
spells_on earlier r first zero n front index low h =
    let none : n ≡ zero = omega arith in (
      [],
      index,
      subst (λ (l : List Bool). SamplesSpell earlier r first zero l index) (sym (append-nil front))
          (subst (λ (k : ℕ). SamplesSpell earlier r first k front index) none h),
    )
spells_on earlier r first (suc count) n front index low h = ⊎_elim
    (λ same. (
      [],
      index,
      subst (λ (l : List Bool). SamplesSpell earlier r first (suc count) l index) (sym (append-nil front))
          (subst (λ (k : ℕ). SamplesSpell earlier r first k front index) same h),
    ))
    (λ other.
    let before = spells_on earlier r first count n front index (omega arith) h in
    let portion = sample_of earlier r count before.1 in
    (before.0 ++ portion.0, portion.1, (front ++ before.0, portion.0, before.1, sym (append_assoc front before.0 portion.0), before.2, portion.2)))
    (cases_eq n (suc count))

-- ---- rows

pub row_bits : (earlier : ℕ → List ℤ) (r : Residuals) (first : ℕ) → (bits : List Bool) × (next : ℕ) × RowSpells earlier r first bits next
unfolding SamplesSpell
row_bits earlier r first = let all = spells_on earlier r first r.width zero [] first (omega arith) (refl, refl) in ([] ++ all.0, all.1, all.2)
