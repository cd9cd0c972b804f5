-- Numbers of n bits with a sign.
use Rattle.std.proofs.Common.{◌≡◌, ℕ, suc, SFits, w32, of_z, ◌+◌, ◌-◌, ◌/◌, ◌%◌, ◌^◌, ◌<◌, ◌≤◌, ◌*◌, ℤ, pos, negsuc, ◌+ℤ◌, ◌-ℤ◌, ◌≤ℤ◌, ◌<ℤ◌, neg_ℤ, arith, refl, sym, ap, ◌∙◌, ⊎_elim}
use Rattle.std.proofs.lemmas.Bool.{cases_lt}
use Rattle.std.proofs.lemmas.Int.{ints, int_rem_euclid_is}
use Rattle.std.proofs.lemmas.Nat.{pow-add}
use Rattle.std.proofs.Math.Nat.{mul-add-mod_self_right}
use Rattle.ffv1_rice.specs.States.{fold, IsCodedDepth, IsDifference}
use Rattle.ffv1_rice.proofs.Depths.{powers}

-- ---- multiples of 2^n

-- what is more by so many times 2^n
abbrev pub raised : ℕ → ℤ → ℕ → ℤ
raised n d times = d +ℤ pos (times * 2 ^ n)

-- numbers that are equal but for multiples of 2^n
pub record AreAlike (n : ℕ) (d e : ℤ) : Type 0 where
  pub more : ℕ
  pub less : ℕ
  pub same : raised n d more ≡ raised n e less

-- two that lie less than twice h from each other, and apart by multiples of twice h
one_near : (v w : ℤ) (h i j : ℕ) → neg_ℤ (pos h) ≤ℤ v → v <ℤ pos h → neg_ℤ (pos h) ≤ℤ w → w <ℤ pos h
    → v +ℤ pos (i * (2 * h)) ≡ w +ℤ pos (j * (2 * h)) → v ≡ w
one_near v w h i j low high less more same = ⊎_elim
    (λ under. let k : ℕ = j - i - 1 in
    let e : j * (2 * h) ≡ i * (2 * h) + 2 * h + k * (2 * h) = ap (λ m. m * (2 * h)) (let s : j ≡ i + 1 + k = omega arith in s) ∙ omega arith in
    absurd (omega (arith, ints, e)))
    (λ least. ⊎_elim
    (λ over. let k : ℕ = i - j - 1 in
    let e : i * (2 * h) ≡ j * (2 * h) + 2 * h + k * (2 * h) = ap (λ m. m * (2 * h)) (let s : i ≡ j + 1 + k = omega arith in s) ∙ omega arith in
    absurd (omega (arith, ints, e)))
    (λ most. let e : i ≡ j = omega arith in let f : i * (2 * h) ≡ j * (2 * h) = ap (λ m. m * (2 * h)) e in omega (arith, ints, f))
    (cases_lt j i))
    (cases_lt i j)

-- differences of n bits that are alike are equal
pub one_difference : (n : ℕ) (v w : ℤ) → IsCodedDepth n → IsDifference n v → IsDifference n w → AreAlike n v w → v ≡ w
one_difference n v w depth a b alike =
    let p = powers n depth in
    let same : v +ℤ pos (alike.more * (2 * 2 ^ (n - 1))) ≡ w +ℤ pos (alike.less * (2 * 2 ^ (n - 1))) = rw p.whole at alike.same in
    one_near v w (2 ^ (n - 1)) alike.more alike.less a.low a.high b.low b.high same

-- ---- what fold leaves

-- a number below 0 is raised above it
below_zero : (a h m n : ℕ) → n ≡ m + 1 → (negsuc a +ℤ pos h) +ℤ pos ((a + 1) * n) ≡ pos (h + m * (a + 1))
below_zero a h m n is =
    let e : (a + 1) * n ≡ m * (a + 1) + (a + 1) = ap (λ z. (a + 1) * z) is ∙ omega arith in
    omega (arith, ints, e)

record Rest (n : ℕ) (d : ℤ) : Type 0 where
  number : ℕ
  wraps : ℕ
  sum : (d +ℤ pos (2 ^ (n - 1))) +ℤ pos (wraps * 2 ^ n) ≡ pos number
  is : fold n d ≡ pos (number % 2 ^ n) -ℤ pos (2 ^ (n - 1))

rest_of : (n : ℕ) (d : ℤ) → IsCodedDepth n → Rest n d
rest_of n (pos a) depth = record { number = a + 2 ^ (n - 1); wraps = 0; sum = omega (arith, ints); is = refl }
rest_of n (negsuc a) depth =
    let p = powers n depth in
    let some : 0 < 2 ^ n = omega (arith, p.whole, p.least) in
    let m : ℕ = 2 ^ n - 1 in
    let whole : 2 ^ n ≡ m + 1 = omega arith in
    let sum : (negsuc a +ℤ pos (2 ^ (n - 1))) +ℤ pos ((a + 1) * 2 ^ n) ≡ pos (2 ^ (n - 1) + m * (a + 1)) = below_zero a (2 ^ (n - 1)) m (2 ^ n) whole in
    record {
      number = 2 ^ (n - 1) + m * (a + 1);
      wraps = a + 1;
      sum = sum;
      is = ap (λ z. z -ℤ pos (2 ^ (n - 1))) (int_rem_euclid_is (negsuc a +ℤ pos (2 ^ (n - 1))) (pos (2 ^ n)) (2 ^ n) (a + 1) _ some refl sum);
    }

pub small_rest : (m n : ℕ) → 0 < n → m % n < n
small_rest m n some = omega arith

split_rest : (m n : ℕ) → 0 < n → m ≡ m / n * n + m % n
split_rest m n some = omega arith

pub fold_range : (n : ℕ) (d : ℤ) → IsCodedDepth n → IsDifference n (fold n d)
fold_range n d depth =
    let p = powers n depth in
    let r = rest_of n d depth in
    let small = small_rest r.number (2 ^ n) (omega (arith, p.whole, p.least)) in
    record { low = omega (arith, ints, r.is, small, p.whole); high = omega (arith, ints, r.is, small, p.whole) }

pub fold_alike : (n : ℕ) (d : ℤ) → IsCodedDepth n → AreAlike n d (fold n d)
fold_alike n d depth =
    let p = powers n depth in
    let r = rest_of n d depth in
    let split = split_rest r.number (2 ^ n) (omega (arith, p.whole, p.least)) in
    record { more = r.wraps; less = r.number / 2 ^ n; same = omega (arith, ints, r.is, r.sum, split) }

-- a coded value with the bias added, and the bias taken from it again
pub fold_back : (n : ℕ) (v b : ℤ) → IsCodedDepth n → IsDifference n v → fold n (fold n (v +ℤ b) -ℤ b) ≡ v
fold_back n v b depth bounds =
    let first = fold_alike n (v +ℤ b) depth in
    let second = fold_alike n (fold n (v +ℤ b) -ℤ b) depth in
    sym (one_difference n v (fold n (fold n (v +ℤ b) -ℤ b)) depth bounds (fold_range n (fold n (v +ℤ b) -ℤ b) depth)
    (record { more = first.more + second.more; less = first.less + second.less; same = omega (arith, ints, first.same, second.same) }))

-- numbers that leave the same lie alike from each that is added to both
pub fold_one : (n : ℕ) (v w b : ℤ) → IsCodedDepth n → IsDifference n v → IsDifference n w → fold n (v -ℤ b) ≡ fold n (w -ℤ b) → v ≡ w
fold_one n v w b depth hv hw same =
    let first = fold_alike n (v -ℤ b) depth in
    let second = fold_alike n (w -ℤ b) depth in
    one_difference n v w depth hv hw
    (record { more = first.more + second.less; less = first.less + second.more; same = omega (arith, ints, first.same, second.same, same) })

-- nothing is left of nothing
pub fold_zero : (n : ℕ) → IsCodedDepth n → fold n (pos 0) ≡ pos 0
fold_zero n depth =
    let p = powers n depth in
    sym (one_difference n (pos 0) (fold n (pos 0)) depth (record { low = omega (arith, ints); high = omega (arith, ints) })
    (fold_range n (pos 0) depth) (fold_alike n (pos 0) depth))

-- numbers of n bits that are alike are equal
pub one_number_alike : (n a b : ℕ) → IsCodedDepth n → a < 2 ^ n → b < 2 ^ n → AreAlike n (pos a) (pos b) → a ≡ b
one_number_alike n a b depth small tiny alike =
    let p = powers n depth in
    let h : ℤ = pos (2 ^ (n - 1)) in
    let same : pos a -ℤ h ≡ pos b -ℤ h = one_difference n (pos a -ℤ h) (pos b -ℤ h) depth
    (record { low = omega (arith, ints); high = omega (arith, ints) }) (record { low = omega (arith, ints); high = omega (arith, ints) })
    (record { more = alike.more; less = alike.less; same = omega (arith, ints, alike.same) }) in
    omega (arith, ints, same)

-- ---- in 32 bits

-- what a sum leaves in 32 bits, and how often 2^32 was passed over
wrapped : (d : ℤ) (r h : ℕ) → SFits w32 d → r ≡ of_z w32 d
    → (times : ℕ) × (sum : ℕ) × (sum ≡ times * 4294967296 + (r + h) % 4294967296) × ((d +ℤ pos h) +ℤ pos 4294967296 ≡ pos sum)
wrapped (pos a) r h fits is = ((r + h) / 4294967296 + 1, a + h + 4294967296, omega arith, omega (arith, ints))
wrapped (negsuc a) r h fits is =
    let below : suc a ≤ 2147483648 = omega (arith, ints) in
    ((r + h) / 4294967296, r + h, omega arith, omega (arith, ints))

-- what n bits of it are
pub sum_wrapped : (n h : ℕ) (d : ℤ) (r : ℕ) → IsCodedDepth n → SFits w32 d → r ≡ of_z w32 d
    → AreAlike n (d +ℤ pos h) (pos ((r + h) % 4294967296 % 2 ^ n))
sum_wrapped n h d r depth fits is =
    let p = powers n depth in
    let some : 0 < 2 ^ n = omega (arith, p.whole, p.least) in
    let k : ℕ = 2 ^ (32 - n) in
    let all : k * 2 ^ n ≡ 4294967296 = sym (pow-add 2 (32 - n) n) ∙ ap (λ m. 2 ^ m) (let e : 32 - n + n ≡ 32 = omega (arith, depth.most) in e) in
    let w = wrapped d r h fits is in
    let t : ℕ = (r + h) % 4294967296 in
    let split : t ≡ t / 2 ^ n * 2 ^ n + t % 2 ^ n = split_rest t (2 ^ n) some in
    let parts : w.1 ≡ (w.0 * k + t / 2 ^ n) * 2 ^ n + t % 2 ^ n =
    w.2 ∙ ap (λ m. w.0 * m + t) (sym all) ∙ (let e : w.0 * (k * 2 ^ n) + t ≡ (w.0 * k + t / 2 ^ n) * 2 ^ n + t % 2 ^ n = omega (arith, split) in e) in
    let joined : (d +ℤ pos h) +ℤ pos (k * 2 ^ n) ≡ pos w.1 = ap (λ m. (d +ℤ pos h) +ℤ pos m) all ∙ w.3 in
    record { more = k; less = w.0 * k + t / 2 ^ n; same = joined ∙ ap (λ m. pos m) parts ∙ omega (arith, ints) }

pub fold_wrapped : (n : ℕ) (d : ℤ) (r : ℕ) → IsCodedDepth n → SFits w32 d → r ≡ of_z w32 d
    → fold n d ≡ pos ((r + 2 ^ (n - 1)) % 4294967296 % 2 ^ n) -ℤ pos (2 ^ (n - 1))
fold_wrapped n d r depth fits is =
    let p = powers n depth in
    let some : 0 < 2 ^ n = omega (arith, p.whole, p.least) in
    let k : ℕ = 2 ^ (32 - n) in
    let all : k * 2 ^ n ≡ 4294967296 = sym (pow-add 2 (32 - n) n) ∙ ap (λ m. 2 ^ m) (let e : 32 - n + n ≡ 32 = omega (arith, depth.most) in e) in
    let w = wrapped d r (2 ^ (n - 1)) fits is in
    let t : ℕ = (r + 2 ^ (n - 1)) % 4294967296 in
    let parts : w.1 ≡ w.0 * k * 2 ^ n + t =
    w.2 ∙ ap (λ m. w.0 * m + t) (sym all) ∙ (let e : w.0 * (k * 2 ^ n) + t ≡ w.0 * k * 2 ^ n + t = omega arith in e) in
    let rest : w.1 % 2 ^ n ≡ t % 2 ^ n = ap (λ m. m % 2 ^ n) parts ∙ mul-add-mod_self_right (w.0 * k) (2 ^ n) t in
    let joined : (d +ℤ pos (2 ^ (n - 1))) +ℤ pos (k * 2 ^ n) ≡ pos w.1 = ap (λ m. (d +ℤ pos (2 ^ (n - 1))) +ℤ pos m) all ∙ w.3 in
    ap (λ z. z -ℤ pos (2 ^ (n - 1)))
    (int_rem_euclid_is (d +ℤ pos (2 ^ (n - 1))) (pos (2 ^ n)) (2 ^ n) k w.1 some refl joined ∙ ap (λ m. pos m) rest)
