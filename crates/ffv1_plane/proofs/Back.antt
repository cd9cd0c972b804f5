-- A sample from its prediction and its difference.
use Rattle.std.proofs.Common.{◌≡◌, ℕ, ◌+◌, ◌*◌, ◌%◌, true, false, ℤ, pos, ◌-ℤ◌, ◌≤ℤ◌, ◌<ℤ◌, neg_ℤ, int_lt, arith, sym, ◌^◌, SFits, w32, of_z}
use Rattle.std.proofs.lemmas.Int.{ints}
use Rattle.ffv1_rice.proofs.Depths.{powers}
use Rattle.ffv1_rice.specs.States.{IsDifference, fold, IsCodedDepth}
use Rattle.ffv1_rice.proofs.Folds.{AreAlike, one_difference, fold_alike, fold_range, sum_wrapped, small_rest}
use Rattle.ffv1_plane.specs.Samples.{difference_of}
use Rattle.ffv1_plane.specs.Inner.Sums.{IsSumModulo}

-- what the code adds in 32 bits
pub added_is : (n p : ℕ) (d : ℤ) (r : ℕ) → IsCodedDepth n → SFits w32 d → r ≡ of_z w32 d
    → IsSumModulo n p d ((r + p) % 4294967296 % (1 * 2 ^ n % 4294967296))
added_is n p d r depth fits is =
    let b = powers n depth in
    let whole : 1 * 2 ^ n % 4294967296 ≡ 2 ^ n = omega (arith, b.whole, b.most) in
    let alike = sum_wrapped n p d r depth fits is in
    rw whole
    (record {
      more = alike.more;
      less = alike.less;
      small = small_rest ((r + p) % 4294967296) (2 ^ n) (omega (arith, b.whole, b.least));
      sum = omega (arith, ints, alike.same);
    })

-- the difference that brings a prediction to its sample
back_of : (n : ℕ) (d e : ℤ) → IsCodedDepth n → IsDifference n d → AreAlike n d e → fold n e ≡ d
back_of n d e depth h alike =
    let f = fold_alike n e depth in
    sym (one_difference n d (fold n e) depth h (fold_range n e depth)
    (record { more = alike.more + f.more; less = alike.less + f.less; same = omega (arith, ints, alike.same, f.same) }))

pub sample_up : (n : ℕ) (context : ℤ) (p r : ℕ) (d change : ℤ) → IsCodedDepth n → pos 0 ≤ℤ context → IsDifference n d → change ≡ d
    → IsSumModulo n p change r → difference_of n context p r ≡ d
unfolding difference_of
sample_up n context p r d change depth up h c s =
    let t : int_lt context (pos 0) ≡ false = grind (arith, ints) in
    rw t (back_of n d (pos r -ℤ pos p) depth h (record { more = s.more; less = s.less; same = omega (arith, ints, s.sum, c) }))

pub sample_down : (n : ℕ) (context : ℤ) (p r : ℕ) (d change : ℤ) → IsCodedDepth n → context <ℤ pos 0 → IsDifference n d → change ≡ neg_ℤ d
    → IsSumModulo n p change r → difference_of n context p r ≡ d
unfolding difference_of
sample_down n context p r d change depth down h c s =
    let t : int_lt context (pos 0) ≡ true = grind (arith, ints) in
    rw t (back_of n d (pos p -ℤ pos r) depth h (record { more = s.less; less = s.more; same = omega (arith, ints, s.sum, c) }))
