-- Coded depths, and the powers of 2 that they give.
use Rattle.std.proofs.Common.{◌≡◌, ℕ, suc, ◌-◌, ◌*◌, ◌^◌, ◌<◌, ◌≤◌, ℤ, arith, refl, subst, lit≤}
use Rattle.std.proofs.lemmas.Int.{ints}
use Rattle.std.proofs.Math.Nat.{pow-suc}
use Rattle.std.proofs.Math.Pow.{pow_mono}
use Rattle.ffv1_rice.specs.States.{IsCodedDepth, IsDifference, greatest_depth}

-- the depth of bytes, and the greatest
pub bytes : IsCodedDepth 8
bytes = record { least = lit≤ tt; most = lit≤ tt }

pub greatest : IsCodedDepth greatest_depth
greatest = record { least = lit≤ tt; most = lit≤ tt }

-- half of the numbers of n bits
pub record Powers (n : ℕ) : Type 0 where
  pub whole : 2 ^ n ≡ 2 * 2 ^ (n - 1)
  pub least : 128 ≤ 2 ^ (n - 1)
  pub most : 2 ^ (n - 1) ≤ 65536

pub powers : (n : ℕ) → IsCodedDepth n → Powers n
powers n depth =
    let e : n ≡ suc (n - 1) = omega (arith, depth.least) in
    let twice : 2 ^ suc (n - 1) ≡ 2 ^ (n - 1) * 2 = pow-suc 2 (n - 1) in
    let same : 2 ^ n ≡ 2 ^ suc (n - 1) = subst (λ m. 2 ^ n ≡ 2 ^ m) e refl in
    let low : 2 ^ 7 ≤ 2 ^ (n - 1) = pow_mono {i = 7} (omega (arith, depth.least)) in
    let high : 2 ^ (n - 1) ≤ 2 ^ 16 = pow_mono {j = 16} (omega (arith, depth.most)) in
    record { whole = omega (arith, same, twice); least = omega (arith, low); most = omega (arith, high) }

-- a difference of a depth is one of the greatest
pub widest : (n : ℕ) (v : ℤ) → IsCodedDepth n → IsDifference n v → IsDifference greatest_depth v
widest n v depth bounds = let p = powers n depth in record { low = omega (arith, ints, p.most, bounds.low); high = omega (arith, ints, p.most, bounds.high) }

-- a number of so many bits has no more than the greatest
pub small_everywhere : (n u : ℕ) → IsCodedDepth n → u < 2 ^ n → u < 2 ^ greatest_depth
small_everywhere n u depth small = let p = powers n depth in omega (arith, p.whole, p.most)
