-- What the code computes of a state in 32 bits is what the definitions say. Each lemma speaks of plain numbers: a proof by
-- arithmetic is short there, and long among all that is known in the code.
use Rattle.std.proofs.Common.{◌≡◌, ℕ, ◌+◌, ◌-◌, ◌*◌, ◌/◌, ◌%◌, ◌^◌, ◌<◌, ◌≤◌, ◌==◌, lit≤, lit<, Bool, true, false, ℤ, pos, negsuc, ◌+ℤ◌, ◌-ℤ◌, ◌*ℤ◌, neg_ℤ, ◌≤ℤ◌, ◌<ℤ◌, int_lt, int_le, nat_abs, if◌then◌else◌, arith, refl, sym, ap, subst, ◌∙◌, to_z, of_z, w32, SFits, Fits}
use Rattle.std.specs.Int.{int_max, int_min, int_div_euclid}
use Rattle.std.proofs.lemmas.Int.{ints, clamps, to_z-of_z, to_z_pos}
use Rattle.std.proofs.lemmas.Bool.{eqb-true, eqb-false, ne_eqb}
use Rattle.ffv1_rice.specs.States.{ContextState, IsCodedDepth, greatest_depth, IsDifference, IsState, half, fold, start_state, with_value, counted, corrected, updated, coded_value, flipped, StatesStay}
use Rattle.ffv1_rice.specs.Inner.States.{IsUncounted, IsUncorrected}
use Rattle.ffv1_rice.proofs.Depths.{powers, widest}
use Rattle.ffv1_rice.proofs.Folds.{fold_back, fold_range, fold_wrapped, small_rest}
use Rattle.ffv1_rice.proofs.OneCode.{flip_range}
use Rattle.ffv1_rice.proofs.Parameter.{parameter_low}

-- ---- small numbers

pub SFits-small : (z : ℤ) → neg_ℤ (pos 1048576) ≤ℤ z → z ≤ℤ pos 1048576 → SFits w32 z
SFits-small z low high = omega (arith, ints)

pub to_z-of_z-small : (z : ℤ) → neg_ℤ (pos 1048576) ≤ℤ z → z ≤ℤ pos 1048576 → to_z w32 (of_z w32 z) ≡ z
to_z-of_z-small z low high = to_z-of_z w32 z (SFits-small z low high)

to_z-of_z-wide : (v : ℤ) → IsDifference greatest_depth v → to_z w32 (of_z w32 v) ≡ v
to_z-of_z-wide v bounds = to_z-of_z-small v (omega (arith, ints)) (omega (arith, ints))

pub to_z-of_z-difference : (n : ℕ) (v : ℤ) → IsCodedDepth n → IsDifference n v → to_z w32 (of_z w32 v) ≡ v
to_z-of_z-difference n v depth bounds = to_z-of_z-wide v (widest n v depth bounds)

pub IsDifference-of_z : (n : ℕ) (v : ℤ) → IsCodedDepth n → IsDifference n v → IsDifference n (to_z w32 (of_z w32 v))
IsDifference-of_z n v depth bounds = subst (IsDifference n) (sym (to_z-of_z-difference n v depth bounds)) bounds

to_z-small : (n : ℕ) → n ≤ 1048576 → to_z w32 n ≡ pos n
to_z-small n few = to_z_pos w32 n (omega arith)

-- ---- a value enters the sums

pub drift_kept : (s : ContextState) → IsState greatest_depth s → to_z w32 (of_z w32 s.drift) ≡ s.drift
drift_kept s bounds = to_z-of_z-small s.drift (omega (arith, ints)) (omega (arith, ints))

pub bias_kept : (s : ContextState) → IsState greatest_depth s → to_z w32 (of_z w32 s.bias) ≡ s.bias
bias_kept s bounds = to_z-of_z-small s.bias (omega (arith, ints)) (omega (arith, ints))

-- a state whose signed numbers went through the code's, and one whose bias was not written since it stays
pub same_state : (s : ContextState) (drift bias : ℤ) → drift ≡ s.drift → bias ≡ s.bias
    → let r : ContextState = record { drift = drift; error_sum = s.error_sum; bias = bias; count = s.count } in
    r ≡ s
same_state s drift bias drift_is bias_is = rw (drift_is, bias_is) refl

pub bias_stays : (old new : ContextState) → IsState greatest_depth old → IsState greatest_depth new → of_z w32 new.bias ≡ of_z w32 old.bias → old.bias ≡ new.bias
bias_stays old new before after same = sym (bias_kept old before) ∙ sym (ap (to_z w32) same) ∙ bias_kept new after

sum_fits : (s : ContextState) (v : ℤ) → IsState greatest_depth s → IsDifference greatest_depth v → SFits w32 (s.drift +ℤ v)
sum_fits s v bounds difference = SFits-small (s.drift +ℤ v) (omega (arith, ints)) (omega (arith, ints))

pub with_value_drift_fits : (s : ContextState) (v : ℤ) → IsState greatest_depth s → IsDifference greatest_depth v → SFits w32 (to_z w32 (of_z w32 s.drift) +ℤ to_z w32 (of_z w32 v))
with_value_drift_fits s v bounds difference = rw (drift_kept s bounds, to_z-of_z-wide v difference) (sum_fits s v bounds difference)

pub with_value_errors_fit : (s : ContextState) (e : ℕ) → IsState greatest_depth s → e ≤ 2147483648 → Fits w32 (s.error_sum + e)
with_value_errors_fit s e bounds few = record { fits = omega arith }

pub with_value_is : (s : ContextState) (v : ℤ) (e : ℕ) → IsState greatest_depth s → IsDifference greatest_depth v → e ≡ nat_abs (to_z w32 (of_z w32 v))
    → let r : ContextState = record {
      drift = to_z w32 (of_z w32 (to_z w32 (of_z w32 s.drift) +ℤ to_z w32 (of_z w32 v)));
      error_sum = s.error_sum + e;
      bias = to_z w32 (of_z w32 s.bias);
      count = s.count;
    } in
    r ≡ with_value s v
with_value_is s v e bounds difference is =
    rw (is, drift_kept s bounds, to_z-of_z-wide v difference, to_z-of_z w32 (s.drift +ℤ v) (sum_fits s v bounds difference), bias_kept s bounds)

pub with_value_range : (n : ℕ) (s : ContextState) (v : ℤ) → IsState n s → IsDifference n v → IsUncounted n (with_value s v)
with_value_range n s v bounds difference = record {
  some_counted = bounds.some_counted;
  few_counted = bounds.few_counted;
  drift_low = omega (arith, ints);
  drift_high = omega (arith, ints);
  errors = omega (arith, ints);
  bias_low = bounds.bias_low;
  bias_high = bounds.bias_high;
}

-- ---- the value is counted

uncounted_drift_kept : (s : ContextState) → IsUncounted greatest_depth s → to_z w32 (of_z w32 s.drift) ≡ s.drift
uncounted_drift_kept s bounds = to_z-of_z-small s.drift (omega (arith, ints)) (omega (arith, ints))

uncounted_bias_kept : (s : ContextState) → IsUncounted greatest_depth s → to_z w32 (of_z w32 s.bias) ≡ s.bias
uncounted_bias_kept s bounds = to_z-of_z-small s.bias (omega (arith, ints)) (omega (arith, ints))

pub half_more_fits : (n : ℕ) → n ≤ 128 → Fits w32 (n / 2 + 1)
half_more_fits n few = record { fits = omega arith }

pub count_more_fits : (n : ℕ) → n ≤ 128 → Fits w32 (n + 1)
count_more_fits n few = record { fits = omega arith }

pub int_div_euclid-two : (z : ℤ) → int_div_euclid z (pos 2) ≡ half z
int_div_euclid-two (pos n) = refl
int_div_euclid-two (negsuc n) = refl

half_low : (z : ℤ) (h : ℕ) → 0 < h → neg_ℤ (pos (128 + h)) <ℤ z → neg_ℤ (pos (64 + h)) <ℤ half z
half_low (pos m) h some low = omega (arith, ints)
half_low (negsuc m) h some low = omega (arith, ints)

half_high : (z : ℤ) (h : ℕ) → 0 < h → z <ℤ pos h → half z <ℤ pos h
half_high (pos m) h some high = omega (arith, ints)
half_high (negsuc m) h some high = omega (arith, ints)

uncounted_low : (n : ℕ) (s : ContextState) → IsUncounted n s → neg_ℤ (pos (128 + 2 ^ (n - 1))) <ℤ s.drift
uncounted_low n s bounds = omega (arith, ints)

half_kept : (s : ContextState) → IsUncounted greatest_depth s → to_z w32 (of_z w32 (half s.drift)) ≡ half s.drift
half_kept s bounds =
    let low = half_low s.drift (2 ^ (greatest_depth - 1)) (lit< tt) (uncounted_low greatest_depth s bounds) in
    let high = half_high s.drift (2 ^ (greatest_depth - 1)) (lit< tt) bounds.drift_high in
    to_z-of_z-small (half s.drift) (omega (arith, ints)) (omega (arith, ints))

pub counted_halved : (s : ContextState) (d : ℤ) → IsUncounted greatest_depth s → s.count ≡ 128 → d ≡ half (to_z w32 (of_z w32 s.drift))
    → let r : ContextState = record {
      drift = to_z w32 (of_z w32 d);
      error_sum = s.error_sum / 2;
      bias = to_z w32 (of_z w32 s.bias);
      count = s.count / 2 + 1;
    } in
    r ≡ counted s
counted_halved s d bounds full is =
    let is_half : d ≡ half s.drift = is ∙ ap half (uncounted_drift_kept s bounds) in
    rw (is_half, half_kept s bounds, uncounted_bias_kept s bounds, full)

pub counted_more : (s : ContextState) → IsUncounted greatest_depth s → (s.count ≡ 128 → ⊥)
    → let r : ContextState = record { drift = to_z w32 (of_z w32 s.drift); error_sum = s.error_sum; bias = to_z w32 (of_z w32 s.bias); count = s.count + 1 } in
    r ≡ counted s
counted_more s bounds not_full =
    rw (uncounted_drift_kept s bounds, uncounted_bias_kept s bounds, ne_eqb s.count 128 not_full)

counted_range_at : (n : ℕ) (s : ContextState) → IsCodedDepth n → IsUncounted n s → (full : Bool) → (s.count == 128) ≡ full
    → let r : ContextState =
    if full then record s { drift = half s.drift; error_sum = s.error_sum / 2; count = s.count / 2 + 1 } else record s { count = s.count + 1 } in
    IsUncorrected n r
counted_range_at n s depth bounds true is =
    let full : s.count ≡ 128 = eqb-true s.count 128 is in
    let p = powers n depth in
    let low = half_low s.drift (2 ^ (n - 1)) (omega (arith, p.least)) (uncounted_low n s bounds) in
    let all : 2 ^ (n - 1) * s.count ≡ 2 ^ (n - 1) * 128 = ap (λ m. 2 ^ (n - 1) * m) full in
    let most : 2 ^ (n - 1) * (s.count / 2 + 1) ≡ 2 ^ (n - 1) * 65 = ap (λ m. 2 ^ (n - 1) * m) (let e : s.count / 2 + 1 ≡ 65 = omega arith in e) in
    record {
      some_counted = omega arith;
      few_counted = omega arith;
      drift_low = omega (arith, ints);
      drift_high = half_high s.drift (2 ^ (n - 1)) (omega (arith, p.least)) bounds.drift_high;
      errors = omega (arith, all, most);
      bias_low = bounds.bias_low;
      bias_high = bounds.bias_high;
    }
counted_range_at n s depth bounds false is =
    let more : s.count ≡ 128 → ⊥ = eqb-false s.count 128 is in
    record {
      some_counted = omega arith;
      few_counted = omega arith;
      drift_low = omega (arith, ints);
      drift_high = bounds.drift_high;
      errors = omega arith;
      bias_low = bounds.bias_low;
      bias_high = bounds.bias_high;
    }

pub counted_range : (n : ℕ) (s : ContextState) → IsCodedDepth n → IsUncounted n s → IsUncorrected n (counted s)
counted_range n s depth bounds = counted_range_at n s depth bounds (s.count == 128) refl

-- ---- the bias follows the drift

uncorrected_drift_kept : (s : ContextState) → IsUncorrected greatest_depth s → to_z w32 (of_z w32 s.drift) ≡ s.drift
uncorrected_drift_kept s bounds = to_z-of_z-small s.drift (omega (arith, ints)) (omega (arith, ints))

uncorrected_bias_kept : (s : ContextState) → IsUncorrected greatest_depth s → to_z w32 (of_z w32 s.bias) ≡ s.bias
uncorrected_bias_kept s bounds = to_z-of_z-small s.bias (omega (arith, ints)) (omega (arith, ints))

-- the count as a signed number, and its negative
to_z-count : (n : ℕ) → n ≤ 128 → to_z w32 n ≡ pos n
to_z-count n few = to_z-small n (omega arith)

pub count_fits : (n : ℕ) → n ≤ 128 → SFits w32 (pos n)
count_fits n few = SFits-small (pos n) (omega (arith, ints)) (omega (arith, ints))

-- a count moved over to the other side of a test
moved_le : (x y : ℤ) (b : Bool) → int_le (x +ℤ y) (pos 0) ≡ b → b ≡ int_le x (neg_ℤ y)
moved_le x y true is = omega (arith, ints)
moved_le x y false is = omega (arith, ints)

moved_lt : (x y : ℤ) (b : Bool) → int_lt (x +ℤ y) (pos 0) ≡ b → b ≡ int_lt x (neg_ℤ y)
moved_lt x y true is = omega (arith, ints)
moved_lt x y false is = omega (arith, ints)

low_test : (s : ContextState) → IsUncorrected greatest_depth s
    → int_le (to_z w32 (of_z w32 (to_z w32 (of_z w32 s.drift) +ℤ to_z w32 s.count))) (pos 0) ≡ int_le s.drift (neg_ℤ (pos s.count))
low_test s bounds =
    let raised : to_z w32 (of_z w32 (s.drift +ℤ pos s.count)) ≡ s.drift +ℤ pos s.count =
    to_z-of_z-small (s.drift +ℤ pos s.count) (omega (arith, ints)) (omega (arith, ints)) in
    rw (uncorrected_drift_kept s bounds, to_z-count s.count bounds.few_counted, raised)
    (moved_le s.drift (pos s.count) (int_le (s.drift +ℤ pos s.count) (pos 0)) refl)

high_test : (s : ContextState) → IsUncorrected greatest_depth s → int_lt (pos 0) (to_z w32 (of_z w32 s.drift)) ≡ int_lt (pos 0) s.drift
high_test s bounds = rw (uncorrected_drift_kept s bounds)

pub raised_fits : (s : ContextState) → IsUncorrected greatest_depth s → SFits w32 (to_z w32 (of_z w32 s.drift) +ℤ to_z w32 s.count)
raised_fits s bounds =
    rw (uncorrected_drift_kept s bounds, to_z-count s.count bounds.few_counted)
    (SFits-small (s.drift +ℤ pos s.count) (omega (arith, ints)) (omega (arith, ints)))

pub one_less_fits : (n : ℕ) → n ≤ 128 → SFits w32 (pos 1 -ℤ to_z w32 n)
one_less_fits n few = rw (to_z-count n few) (SFits-small (pos 1 -ℤ pos n) (omega (arith, ints)) (omega (arith, ints)))

pub bias_less_fits : (s : ContextState) → IsUncorrected greatest_depth s → SFits w32 (to_z w32 (of_z w32 s.bias) -ℤ pos 1)
bias_less_fits s bounds = rw (uncorrected_bias_kept s bounds) (SFits-small (s.bias -ℤ pos 1) (omega (arith, ints)) (omega (arith, ints)))

pub lowered_fits : (s : ContextState) → IsUncorrected greatest_depth s → SFits w32 (to_z w32 (of_z w32 s.drift) -ℤ to_z w32 s.count)
lowered_fits s bounds =
    rw (uncorrected_drift_kept s bounds, to_z-count s.count bounds.few_counted)
    (SFits-small (s.drift -ℤ pos s.count) (omega (arith, ints)) (omega (arith, ints)))

pub bias_more_fits : (s : ContextState) → IsUncorrected greatest_depth s → SFits w32 (to_z w32 (of_z w32 s.bias) +ℤ pos 1)
bias_more_fits s bounds = rw (uncorrected_bias_kept s bounds) (SFits-small (s.bias +ℤ pos 1) (omega (arith, ints)) (omega (arith, ints)))

fallen_drift : (s : ContextState) (d : ℤ) → IsUncorrected greatest_depth s
    → d ≡ int_max (to_z w32 (of_z w32 (to_z w32 (of_z w32 s.drift) +ℤ to_z w32 s.count))) (to_z w32 (of_z w32 (pos 1 -ℤ to_z w32 s.count)))
    → to_z w32 (of_z w32 d) ≡ int_max (s.drift +ℤ pos s.count) (pos 1 -ℤ pos s.count)
fallen_drift s d bounds is =
    let more : to_z w32 (of_z w32 (s.drift +ℤ pos s.count)) ≡ s.drift +ℤ pos s.count =
    to_z-of_z-small (s.drift +ℤ pos s.count) (omega (arith, ints)) (omega (arith, ints)) in
    let one : to_z w32 (of_z w32 (pos 1 -ℤ pos s.count)) ≡ pos 1 -ℤ pos s.count =
    to_z-of_z-small (pos 1 -ℤ pos s.count) (omega (arith, ints)) (omega (arith, ints)) in
    rw (is, uncorrected_drift_kept s bounds, to_z-count s.count bounds.few_counted, more, one)
    (to_z-of_z-small (int_max (s.drift +ℤ pos s.count) (pos 1 -ℤ pos s.count)) (omega (arith, ints, clamps)) (omega (arith, ints, clamps)))

fallen_bias : (s : ContextState) (b : ℤ) → IsUncorrected greatest_depth s → b ≡ int_max (to_z w32 (of_z w32 (to_z w32 (of_z w32 s.bias) -ℤ pos 1))) (neg_ℤ (pos 128))
    → to_z w32 (of_z w32 b) ≡ int_max (s.bias -ℤ pos 1) (neg_ℤ (pos 128))
fallen_bias s b bounds is =
    let less : to_z w32 (of_z w32 (s.bias -ℤ pos 1)) ≡ s.bias -ℤ pos 1 =
    to_z-of_z-small (s.bias -ℤ pos 1) (omega (arith, ints)) (omega (arith, ints)) in
    rw (is, uncorrected_bias_kept s bounds, less)
    (to_z-of_z-small (int_max (s.bias -ℤ pos 1) (neg_ℤ (pos 128))) (omega (arith, ints, clamps)) (omega (arith, ints, clamps)))

pub corrected_fallen : (s : ContextState) (d b : ℤ) → IsUncorrected greatest_depth s
    → int_le (to_z w32 (of_z w32 (to_z w32 (of_z w32 s.drift) +ℤ to_z w32 s.count))) (pos 0) ≡ true
    → d ≡ int_max (to_z w32 (of_z w32 (to_z w32 (of_z w32 s.drift) +ℤ to_z w32 s.count))) (to_z w32 (of_z w32 (pos 1 -ℤ to_z w32 s.count)))
    → b ≡ int_max (to_z w32 (of_z w32 (to_z w32 (of_z w32 s.bias) -ℤ pos 1))) (neg_ℤ (pos 128))
    → let r : ContextState = record { drift = to_z w32 (of_z w32 d); error_sum = s.error_sum; bias = to_z w32 (of_z w32 b); count = s.count } in
    r ≡ corrected s
corrected_fallen s d b bounds test drift bias =
    rw (fallen_drift s d bounds drift, fallen_bias s b bounds bias, sym (low_test s bounds) ∙ test)

risen_drift : (s : ContextState) (d : ℤ) → IsUncorrected greatest_depth s → pos 0 <ℤ s.drift
    → d ≡ int_min (to_z w32 (of_z w32 (to_z w32 (of_z w32 s.drift) -ℤ to_z w32 s.count))) (pos 0)
    → to_z w32 (of_z w32 d) ≡ int_min (s.drift -ℤ pos s.count) (pos 0)
risen_drift s d bounds above is =
    let less : to_z w32 (of_z w32 (s.drift -ℤ pos s.count)) ≡ s.drift -ℤ pos s.count =
    to_z-of_z-small (s.drift -ℤ pos s.count) (omega (arith, ints)) (omega (arith, ints)) in
    rw (is, uncorrected_drift_kept s bounds, to_z-count s.count bounds.few_counted, less)
    (to_z-of_z-small (int_min (s.drift -ℤ pos s.count) (pos 0)) (omega (arith, ints, clamps)) (omega (arith, ints, clamps)))

risen_bias : (s : ContextState) (b : ℤ) → IsUncorrected greatest_depth s → b ≡ int_min (to_z w32 (of_z w32 (to_z w32 (of_z w32 s.bias) +ℤ pos 1))) (pos 127)
    → to_z w32 (of_z w32 b) ≡ int_min (s.bias +ℤ pos 1) (pos 127)
risen_bias s b bounds is =
    let more : to_z w32 (of_z w32 (s.bias +ℤ pos 1)) ≡ s.bias +ℤ pos 1 =
    to_z-of_z-small (s.bias +ℤ pos 1) (omega (arith, ints)) (omega (arith, ints)) in
    rw (is, uncorrected_bias_kept s bounds, more)
    (to_z-of_z-small (int_min (s.bias +ℤ pos 1) (pos 127)) (omega (arith, ints, clamps)) (omega (arith, ints, clamps)))

pub corrected_risen : (s : ContextState) (d b : ℤ) → IsUncorrected greatest_depth s
    → int_le (to_z w32 (of_z w32 (to_z w32 (of_z w32 s.drift) +ℤ to_z w32 s.count))) (pos 0) ≡ false
    → int_lt (pos 0) (to_z w32 (of_z w32 s.drift)) ≡ true
    → d ≡ int_min (to_z w32 (of_z w32 (to_z w32 (of_z w32 s.drift) -ℤ to_z w32 s.count))) (pos 0)
    → b ≡ int_min (to_z w32 (of_z w32 (to_z w32 (of_z w32 s.bias) +ℤ pos 1))) (pos 127)
    → let r : ContextState = record { drift = to_z w32 (of_z w32 d); error_sum = s.error_sum; bias = to_z w32 (of_z w32 b); count = s.count } in
    r ≡ corrected s
corrected_risen s d b bounds low high drift bias =
    let above : int_lt (pos 0) s.drift ≡ true = sym (high_test s bounds) ∙ high in
    rw (risen_drift s d bounds (omega (arith, ints)) drift, risen_bias s b bounds bias, sym (low_test s bounds) ∙ low, above)

pub corrected_same : (s : ContextState) → IsUncorrected greatest_depth s
    → int_le (to_z w32 (of_z w32 (to_z w32 (of_z w32 s.drift) +ℤ to_z w32 s.count))) (pos 0) ≡ false
    → int_lt (pos 0) (to_z w32 (of_z w32 s.drift)) ≡ false → s ≡ corrected s
corrected_same s bounds low high = rw (sym (low_test s bounds) ∙ low, sym (high_test s bounds) ∙ high)

corrected_range_at : (n : ℕ) (s : ContextState) → IsUncorrected n s → (low high : Bool) → int_le s.drift (neg_ℤ (pos s.count)) ≡ low → int_lt (pos 0) s.drift ≡ high
    → let r : ContextState =
    if low then record s { drift = int_max (s.drift +ℤ pos s.count) (pos 1 -ℤ pos s.count); bias = int_max (s.bias -ℤ pos 1) (neg_ℤ (pos 128)) }
    else if high then record s { drift = int_min (s.drift -ℤ pos s.count) (pos 0); bias = int_min (s.bias +ℤ pos 1) (pos 127) } else s in
    IsState n r
corrected_range_at n s bounds false false is above = record {
  some_counted = omega arith;
  few_counted = bounds.few_counted;
  drift_low = omega (arith, ints);
  drift_high = omega (arith, ints);
  errors = bounds.errors;
  bias_low = bounds.bias_low;
  bias_high = bounds.bias_high;
}
corrected_range_at n s bounds low high is above = record {
  some_counted = omega arith;
  few_counted = bounds.few_counted;
  drift_low = omega (arith, ints, clamps);
  drift_high = omega (arith, ints, clamps);
  errors = bounds.errors;
  bias_low = omega (arith, ints, clamps);
  bias_high = omega (arith, ints, clamps);
}

pub corrected_range : (n : ℕ) (s : ContextState) → IsUncorrected n s → IsState n (corrected s)
corrected_range n s bounds = corrected_range_at n s bounds (int_le s.drift (neg_ℤ (pos s.count))) (int_lt (pos 0) s.drift) refl refl

-- ---- a state stays within the bounds of its depth

pub updated_range : (n : ℕ) (s : ContextState) (v : ℤ) → IsCodedDepth n → IsState n s → IsDifference n v → IsState n (updated s v)
updated_range n s v depth bounds difference =
    corrected_range n (counted (with_value s v)) (counted_range n (with_value s v) depth (with_value_range n s v bounds difference))

start_range : (n : ℕ) → IsCodedDepth n → IsState n start_state
start_range n depth =
    let p = powers n depth in
    record {
      some_counted = lit≤ tt;
      few_counted = lit≤ tt;
      drift_low = omega (arith, ints);
      drift_high = omega (arith, ints);
      errors = omega (arith, p.least);
      bias_low = omega (arith, ints);
      bias_high = omega (arith, ints);
    }

pub states_within : StatesStay
states_within = record {
  start = start_range;
  after = λ n s value depth bounds. updated_range n s (coded_value n s value) depth bounds (fold_range n (value -ℤ s.bias) depth);
  parameter = λ n k s depth bounds is. parameter_low n s k bounds is;
}

-- ---- the coded value is flipped

pub double_fits : (s : ContextState) → IsState greatest_depth s → SFits w32 (pos 2 *ℤ to_z w32 (of_z w32 s.drift))
double_fits s bounds = rw (drift_kept s bounds) (SFits-small (pos 2 *ℤ s.drift) (omega (arith, ints)) (omega (arith, ints)))

pub doubled_more_fits : (s : ContextState) → IsState greatest_depth s
    → SFits w32 (to_z w32 (of_z w32 (pos 2 *ℤ to_z w32 (of_z w32 s.drift))) +ℤ to_z w32 s.count)
doubled_more_fits s bounds =
    let double : to_z w32 (of_z w32 (pos 2 *ℤ s.drift)) ≡ pos 2 *ℤ s.drift =
    to_z-of_z-small (pos 2 *ℤ s.drift) (omega (arith, ints)) (omega (arith, ints)) in
    rw (drift_kept s bounds, double, to_z-count s.count bounds.few_counted)
    (SFits-small (pos 2 *ℤ s.drift +ℤ pos s.count) (omega (arith, ints)) (omega (arith, ints)))

flip_test : (s : ContextState) → IsState greatest_depth s
    → int_lt (to_z w32 (of_z w32 (to_z w32 (of_z w32 (pos 2 *ℤ to_z w32 (of_z w32 s.drift))) +ℤ to_z w32 s.count))) (pos 0)
    ≡ int_lt (pos 2 *ℤ s.drift) (neg_ℤ (pos s.count))
flip_test s bounds =
    let double : to_z w32 (of_z w32 (pos 2 *ℤ s.drift)) ≡ pos 2 *ℤ s.drift =
    to_z-of_z-small (pos 2 *ℤ s.drift) (omega (arith, ints)) (omega (arith, ints)) in
    let more : to_z w32 (of_z w32 (pos 2 *ℤ s.drift +ℤ pos s.count)) ≡ pos 2 *ℤ s.drift +ℤ pos s.count =
    to_z-of_z-small (pos 2 *ℤ s.drift +ℤ pos s.count) (omega (arith, ints)) (omega (arith, ints)) in
    rw (drift_kept s bounds, double, to_z-count s.count bounds.few_counted, more)
    (moved_lt (pos 2 *ℤ s.drift) (pos s.count) (int_lt (pos 2 *ℤ s.drift +ℤ pos s.count) (pos 0)) refl)

pub flip_fits : (v : ℤ) → IsDifference greatest_depth v → SFits w32 (neg_ℤ (pos 1) -ℤ to_z w32 (of_z w32 v))
flip_fits v bounds = rw (to_z-of_z-wide v bounds) (SFits-small (neg_ℤ (pos 1) -ℤ v) (omega (arith, ints)) (omega (arith, ints)))

flip_is : (v : ℤ) → IsDifference greatest_depth v → to_z w32 (of_z w32 (neg_ℤ (pos 1) -ℤ to_z w32 (of_z w32 v))) ≡ neg_ℤ (pos 1) -ℤ v
flip_is v bounds =
    rw (to_z-of_z-wide v bounds) (to_z-of_z-small (neg_ℤ (pos 1) -ℤ v) (omega (arith, ints)) (omega (arith, ints)))

pub flipped_range : (n : ℕ) (v : ℤ) → IsCodedDepth n → IsDifference n v → IsDifference n (to_z w32 (of_z w32 (neg_ℤ (pos 1) -ℤ to_z w32 (of_z w32 v))))
flipped_range n v depth bounds = subst (IsDifference n) (sym (flip_is v (widest n v depth bounds))) (flip_range n v bounds)

pub flipped_twice : (s : ContextState) (v : ℤ) → IsState greatest_depth s → IsDifference greatest_depth v
    → int_lt (to_z w32 (of_z w32 (to_z w32 (of_z w32 (pos 2 *ℤ to_z w32 (of_z w32 s.drift))) +ℤ to_z w32 s.count))) (pos 0) ≡ true
    → flipped s (to_z w32 (of_z w32 (neg_ℤ (pos 1) -ℤ to_z w32 (of_z w32 v)))) ≡ v
flipped_twice s v bounds difference test =
    let back : neg_ℤ (pos 1) -ℤ (neg_ℤ (pos 1) -ℤ v) ≡ v = omega (arith, ints) in
    rw (flip_is v difference, sym (flip_test s bounds) ∙ test) back

pub flipped_not : (s : ContextState) (v : ℤ) → IsState greatest_depth s → IsDifference greatest_depth v
    → int_lt (to_z w32 (of_z w32 (to_z w32 (of_z w32 (pos 2 *ℤ to_z w32 (of_z w32 s.drift))) +ℤ to_z w32 s.count))) (pos 0) ≡ false
    → flipped s (to_z w32 (of_z w32 v)) ≡ v
flipped_not s v bounds difference test = rw (to_z-of_z-wide v difference, sym (flip_test s bounds) ∙ test)

-- ---- the value of a coded one

biased_sum_fits : (v b : ℤ) → IsDifference greatest_depth v → neg_ℤ (pos 128) ≤ℤ b → b ≤ℤ pos 127 → SFits w32 (v +ℤ b)
biased_sum_fits v b difference low high = SFits-small (v +ℤ b) (omega (arith, ints)) (omega (arith, ints))

pub biased_fits : (s : ContextState) (v : ℤ) → IsState greatest_depth s → IsDifference greatest_depth v
    → SFits w32 (to_z w32 (of_z w32 v) +ℤ to_z w32 (of_z w32 s.bias))
biased_fits s v bounds difference =
    rw (to_z-of_z-wide v difference, bias_kept s bounds) (biased_sum_fits v s.bias difference bounds.bias_low bounds.bias_high)

biased_is : (s : ContextState) (v : ℤ) → IsState greatest_depth s → IsDifference greatest_depth v
    → to_z w32 (of_z w32 (to_z w32 (of_z w32 v) +ℤ to_z w32 (of_z w32 s.bias))) ≡ v +ℤ s.bias
biased_is s v bounds difference =
    rw (to_z-of_z-wide v difference, bias_kept s bounds)
    (to_z-of_z w32 (v +ℤ s.bias) (biased_sum_fits v s.bias difference bounds.bias_low bounds.bias_high))

pub coded_value-fold : (n : ℕ) (s : ContextState) (v r : ℤ) → IsCodedDepth n → IsState greatest_depth s → IsDifference n v → IsDifference n r
    → r ≡ fold n (to_z w32 (of_z w32 (to_z w32 (of_z w32 v) +ℤ to_z w32 (of_z w32 s.bias)))) → coded_value n s (to_z w32 (of_z w32 r)) ≡ v
coded_value-fold n s v r depth bounds difference range is =
    let value : to_z w32 (of_z w32 r) ≡ fold n (v +ℤ s.bias) =
    to_z-of_z-difference n r depth range ∙ is ∙ ap (fold n) (biased_is s v bounds (widest n v depth difference)) in
    rw value (fold_back n v s.bias depth difference)

-- ---- a number is folded

pub folded_is : (n : ℕ) (d half : ℤ) (r : ℕ) → IsCodedDepth n → SFits w32 d → half ≡ pos (2 ^ (n - 1)) → r ≡ of_z w32 d
    → to_z w32 (of_z w32 (to_z w32 ((r + nat_abs (to_z w32 (of_z w32 half))) % 4294967296 % (1 * 2 ^ n % 4294967296)) -ℤ to_z w32 (of_z w32 half)))
    ≡ fold n d
folded_is n d half r depth fits half_is is =
    let p = powers n depth in
    let h : ℕ = 2 ^ (n - 1) in
    let kept : to_z w32 (of_z w32 half) ≡ pos h = ap (λ z. to_z w32 (of_z w32 z)) half_is ∙ to_z-of_z-small (pos h) (omega (arith, ints)) (omega (arith, ints)) in
    let whole : 1 * 2 ^ n % 4294967296 ≡ 2 ^ n = omega (arith, p.whole, p.most) in
    let rest : ℕ = (r + h) % 4294967296 % 2 ^ n in
    let small : rest < 2 ^ n = small_rest ((r + h) % 4294967296) (2 ^ n) (omega (arith, p.whole, p.least)) in
    let number : to_z w32 rest ≡ pos rest = to_z-small rest (omega (arith, small, p.whole, p.most)) in
    rw (kept, whole, number)
    (to_z-of_z-small (pos rest -ℤ pos h) (omega (arith, ints, small, p.whole, p.most)) (omega (arith, ints, small, p.whole, p.most))
    ∙ sym (fold_wrapped n d r depth fits is))
