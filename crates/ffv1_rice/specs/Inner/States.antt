-- States before and after they are counted and corrected, where differences have n bits.
use Rattle.std.specs.Prelude.{ℕ, ◌+◌, ◌-◌, ◌*◌, ◌^◌, ◌≤◌, pos, neg_ℤ, ◌≤ℤ◌, ◌<ℤ◌}
use Rattle.ffv1_rice.specs.States.{ContextState}

-- once a value has entered the sums ..
pub record IsUncounted (n : ℕ) (s : ContextState) : Type 0 where
  pub some_counted : 1 ≤ s.count
  pub few_counted : s.count ≤ 128
  pub drift_low : neg_ℤ (pos (s.count + 2 ^ (n - 1))) <ℤ s.drift
  pub drift_high : s.drift <ℤ pos (2 ^ (n - 1))
  pub errors : s.error_sum ≤ 2 ^ (n - 1) * s.count + 2 ^ (n - 1)
  pub bias_low : neg_ℤ (pos 128) ≤ℤ s.bias
  pub bias_high : s.bias ≤ℤ pos 127

-- .. and once it is counted
pub record IsUncorrected (n : ℕ) (s : ContextState) : Type 0 where
  pub some_counted : 2 ≤ s.count
  pub few_counted : s.count ≤ 128
  pub drift_low : neg_ℤ (pos (s.count + 2 ^ (n - 1))) <ℤ s.drift
  pub drift_high : s.drift <ℤ pos (2 ^ (n - 1))
  pub errors : s.error_sum ≤ 2 ^ (n - 1) * s.count
  pub bias_low : neg_ℤ (pos 128) ≤ℤ s.bias
  pub bias_high : s.bias ≤ℤ pos 127
