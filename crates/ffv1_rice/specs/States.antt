-- The adaptive state of a context, which chooses the parameter of its codes (RFC 9043, sections 3.8.2.3 and 3.8.2.4).
use Rattle.std.specs.Prelude.{ℕ, ◌+◌, ◌-◌, ◌*◌, ◌/◌, ◌^◌, ◌<◌, ◌≤◌, ◌==◌, ℤ, pos, negsuc, ◌+ℤ◌, ◌-ℤ◌, ◌*ℤ◌, neg_ℤ, nat_abs, ◌≤ℤ◌, ◌<ℤ◌, int_lt, int_le, if◌then◌else◌}
use Rattle.std.specs.Int.{int_max, int_min, int_rem_euclid}

-- ---- differences

abbrev pub greatest_depth : ℕ
greatest_depth = 17

-- Samples are coded in n bits, the coded depth: 8 to 16, and one more where colours are coded as differences (section 3.7.2).
pub record IsCodedDepth (n : ℕ) : Type 0 where
  pub least : 8 ≤ n
  pub most : n ≤ greatest_depth

-- The difference of two samples has n bits and a sign.
pub record IsDifference (n : ℕ) (difference : ℤ) : Type 0 where
  pub low : neg_ℤ (pos (2 ^ (n - 1))) ≤ℤ difference
  pub high : difference <ℤ pos (2 ^ (n - 1))

-- the difference of n bits that is d modulo 2^n (section 3.8)
abbrev pub fold : ℕ → ℤ → ℤ
fold n d = int_rem_euclid (d +ℤ pos (2 ^ (n - 1))) (pos (2 ^ n)) -ℤ pos (2 ^ (n - 1))

-- half of it, rounded down
abbrev pub half : ℤ → ℤ
half (pos n) = pos (n / 2)
half (negsuc n) = negsuc (n / 2)

-- ---- states

pub record ContextState : Type 0 where
  -- the sum of the coded values, less what the bias took over
  pub drift : ℤ
  -- the sum of their absolute values
  pub error_sum : ℕ
  -- what is expected of the next value
  pub bias : ℤ
  -- how many values were coded, and one more; both sums and this are halved from time to time
  pub count : ℕ

-- the state of a context in which nothing was coded
abbrev pub start_state : ContextState
start_state = record { drift = pos 0; error_sum = 4; bias = pos 0; count = 1 }

-- the parameter: the least k with count * 2 ^ k at least error_sum
pub record IsParameter (state : ContextState) (k : ℕ) : Type 0 where
  pub enough : state.error_sum ≤ state.count * 2 ^ k
  pub least : (j : ℕ) → j < k → state.count * 2 ^ j < state.error_sum

-- ---- what a coded value leaves of a state

-- it enters both sums ..
abbrev pub with_value : ContextState → ℤ → ContextState
with_value s v = record s { drift = s.drift +ℤ v; error_sum = s.error_sum + nat_abs v }

-- .. and is counted, where at a count of 128 the sums and the count are halved first
abbrev pub counted : ContextState → ContextState
counted s =
    if s.count == 128
    then record s { drift = half s.drift; error_sum = s.error_sum / 2; count = s.count / 2 + 1 }
    else record s { count = s.count + 1 }

-- A drift of -count or less lowers the bias by one, and a drift above 0 raises it by one, from -128 to 127. The drift
-- then gives up one count, and is kept above -count and not above 0.
abbrev pub corrected : ContextState → ContextState
corrected s =
    if int_le s.drift (neg_ℤ (pos s.count))
    then record s { drift = int_max (s.drift +ℤ pos s.count) (pos 1 -ℤ pos s.count); bias = int_max (s.bias -ℤ pos 1) (neg_ℤ (pos 128)) }
    else if int_lt (pos 0) s.drift
    then record s { drift = int_min (s.drift -ℤ pos s.count) (pos 0); bias = int_min (s.bias +ℤ pos 1) (pos 127) }
    else s

abbrev pub updated : ContextState → ℤ → ContextState
updated s v = corrected (counted (with_value s v))

-- ---- bounds

-- What holds of every state of differences of n bits. So the parameter is at most n - 1, and a code has at most 12 + n bits.
pub record IsState (n : ℕ) (s : ContextState) : Type 0 where
  pub some_counted : 1 ≤ s.count
  pub few_counted : s.count ≤ 128
  pub drift_low : neg_ℤ (pos s.count) <ℤ s.drift
  pub drift_high : s.drift ≤ℤ pos 0
  pub errors : s.error_sum ≤ 2 ^ (n - 1) * s.count
  pub bias_low : neg_ℤ (pos 128) ≤ℤ s.bias
  pub bias_high : s.bias ≤ℤ pos 127

-- ---- what is coded of a value of n bits under a state

-- the value less the bias
abbrev pub coded_value : ℕ → ContextState → ℤ → ℤ
coded_value n s value = fold n (value -ℤ s.bias)

-- flipped where the drift is below half of -count
abbrev pub flipped : ContextState → ℤ → ℤ
flipped s v = if int_lt (pos 2 *ℤ s.drift) (neg_ℤ (pos s.count)) then neg_ℤ (pos 1) -ℤ v else v

-- 0, -1, 1, -2, .. are numbered 0, 1, 2, 3, ..
abbrev pub sign_number : ℤ → ℕ
sign_number (pos n) = 2 * n
sign_number (negsuc n) = 2 * n + 1

-- the number whose code stands for the value
abbrev pub code_number : ℕ → ContextState → ℤ → ℕ
code_number n s value = sign_number (flipped s (coded_value n s value))

-- the state once the value was coded
abbrev pub after_value : ℕ → ContextState → ℤ → ContextState
after_value n s value = updated s (coded_value n s value)

-- ---- laws

-- The start state is within the bounds at each coded depth, and values of that depth keep it there.
pub record StatesStay : Type 0 where
  pub start : (n : ℕ) → IsCodedDepth n → IsState n start_state
  pub after : (n : ℕ) (s : ContextState) (value : ℤ) → IsCodedDepth n → IsState n s → IsState n (after_value n s value)
  pub parameter : (n k : ℕ) (s : ContextState) → IsCodedDepth n → IsState n s → IsParameter s k → k ≤ n - 1
