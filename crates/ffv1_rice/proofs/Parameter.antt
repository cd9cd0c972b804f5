-- The parameter of a state, from the lengths of its count and of its error sum.
use Rattle.std.proofs.Common.{◌≡◌, ℕ, suc, ◌+◌, ◌-◌, ◌*◌, ◌^◌, ◌<◌, ◌≤◌, arith, ap, ◌∙◌, subst, ⊎_elim}
use Rattle.std.specs.Int.Count.{count_leading_zeros}
use Rattle.std.proofs.lemmas.Bool.{cases_lt}
use Rattle.std.proofs.lemmas.Nat.{leading_top, leading_length, pow-add, pow_pos}
use Rattle.std.proofs.Math.Nat.{pow-suc, mul-le-mul}
use Rattle.std.proofs.Math.Pow.{pow_mono}
use Rattle.ffv1_rice.specs.States.{ContextState, IsState, IsParameter, greatest_depth}

-- twice a count reaches over the error sum that is longer by k ..
reaches : (count errors p m k : ℕ) → 2 ^ p ≤ count → errors < 2 ^ m → m ≤ suc p + k → errors ≤ count * 2 ^ (k + 1)
reaches count errors p m k low high long =
    let wide : 2 ^ m ≤ 2 ^ (p + (k + 1)) = pow_mono (omega arith) in
    let parts : 2 ^ (p + (k + 1)) ≡ 2 ^ p * 2 ^ (k + 1) = pow-add 2 p (k + 1) in
    let more : 2 ^ p * 2 ^ (k + 1) ≤ count * 2 ^ (k + 1) = mul-le-mul low (let e : 2 ^ (k + 1) ≤ 2 ^ (k + 1) = omega arith in e) in
    omega (arith, wide, parts, more)

-- .. and half of it does not
falls_short : (count errors p m j : ℕ) → count < 2 ^ suc p → 2 ^ m ≤ 2 * errors + 1 → suc p + suc j ≤ m → count * 2 ^ j < errors
falls_short count errors p m j high low short =
    let wide : 2 ^ (suc p + suc j) ≤ 2 ^ m = pow_mono short in
    let parts : 2 ^ (suc p + suc j) ≡ 2 ^ suc p * 2 ^ suc j = pow-add 2 (suc p) (suc j) in
    let double : 2 ^ suc j ≡ 2 ^ j * 2 = pow-suc 2 j in
    let twice : 2 ^ suc p * 2 ^ suc j ≡ 2 * (2 ^ suc p * 2 ^ j) = ap (λ n. 2 ^ suc p * n) double ∙ omega arith in
    let more : (count + 1) * 2 ^ j ≤ 2 ^ suc p * 2 ^ j = mul-le-mul (let e : count + 1 ≤ 2 ^ suc p = omega arith in e) (let e : 2 ^ j ≤ 2 ^ j = omega arith in e) in
    let one : (count + 1) * 2 ^ j ≡ count * 2 ^ j + 2 ^ j = omega arith in
    omega (arith, wide, parts, twice, more, one, pow_pos j)

pub record IsNear (s : ContextState) (k : ℕ) : Type 0 where
  pub above : s.error_sum ≤ s.count * 2 ^ (k + 1)
  pub below : (j : ℕ) → j < k → s.count * 2 ^ j < s.error_sum
  pub few : k ≤ 16
  pub fits : s.count * 2 ^ k < 2 ^ 32

small_enough : (n : ℕ) (s : ContextState) (k : ℕ) → IsState n s → ((j : ℕ) → j < k → s.count * 2 ^ j < s.error_sum) → k ≤ n - 1
small_enough n s k bounds below =
    ⊎_elim (λ long. (let e = below (n - 1) long in absurd (omega (arith, e, bounds.errors)))) (λ short. omega (arith, short)) (cases_lt (n - 1) k)

-- the parameter of a state is below the depth of its differences
pub parameter_low : (n : ℕ) (s : ContextState) (k : ℕ) → IsState n s → IsParameter s k → k ≤ n - 1
parameter_low n s k bounds is = small_enough n s k bounds is.least

pub near : (s : ContextState) (k : ℕ) → IsState greatest_depth s → k ≡ count_leading_zeros 32 s.count - count_leading_zeros 32 s.error_sum → IsNear s k
near s k bounds is =
    let top = leading_top 32 s.count (omega (arith, bounds.some_counted)) (omega (arith, bounds.few_counted)) in
    let length = leading_length 32 s.error_sum (omega (arith, bounds.errors, bounds.few_counted)) in
    let below : (j : ℕ) → j < k → s.count * 2 ^ j < s.error_sum =
    λ j less. falls_short s.count s.error_sum top.0 length.0 j top.3 length.3 (omega (arith, is, less, top.1, length.1)) in
    let few : k ≤ 16 = small_enough greatest_depth s k bounds below in
    let power : 2 ^ k ≤ 2 ^ 16 = pow_mono {j = 16} few in
    let product : s.count * 2 ^ k ≤ 128 * 2 ^ 16 = mul-le-mul bounds.few_counted power in
    record {
      above = reaches s.count s.error_sum top.0 length.0 k top.2 length.2 (omega (arith, is, top.1, length.1));
      below = below;
      few = few;
      fits = omega (arith, product);
    }

pub parameter_near : (s : ContextState) (k : ℕ) → IsNear s k → s.error_sum ≤ s.count * 2 ^ k → IsParameter s k
parameter_near s k n enough = record { enough = enough; least = n.below }

pub parameter_above : (s : ContextState) (k : ℕ) → IsNear s k → s.count * 2 ^ k < s.error_sum → IsParameter s (k + 1)
parameter_above s k n short = record {
  enough = n.above;
  least = λ j less. ⊎_elim (n.below j) (λ same. subst (λ i. s.count * 2 ^ i < s.error_sum) (let e : k ≡ j = omega (arith, less, same) in e) short) (cases_lt j k);
}

pub above_few : (s : ContextState) (k : ℕ) → IsState greatest_depth s → IsNear s k → s.count * 2 ^ k < s.error_sum → k + 1 ≤ 16
above_few s k bounds n short = small_enough greatest_depth s (k + 1) bounds (parameter_above s k n short).least
