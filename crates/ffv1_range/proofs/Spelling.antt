-- A symbol is read where its bits are coded, and nowhere else.
use Rattle.std.proofs.Common.{◌≡◌, ℕ, suc, zero, ◌+◌, ◌*◌, ◌/◌, ◌%◌, ◌^◌, ◌<◌, ◌≤◌, Bool, true, false, cond, eqb, List, ◌∷◌, ◌++◌, Result, Ok, Err, refl, sym, ap, ◌∙◌, subst, arith, min, add-one, inl, inr, lit≤, []}
use Rattle.std.proofs.Math.Nat.{pow-suc, pow-le-pow_right}
use Rattle.std.proofs.lemmas.Nat.{pow_pos, shr-shr, leading_top, le-div, div_below, div-add-mod', mod_below}
use Rattle.std.proofs.lemmas.Bool.{cond_both, eqb-true, eqb-false, eq-eqb, ne_eqb, cases_order}
use Rattle.ffv1_bits.specs.Bits.{has_bit, bit_value}
use Rattle.ffv1_range.specs.Results.{◌>>>◌}
use Rattle.ffv1_range.specs.Coding.{Mode, Place, slot_at, IsRangeRun}
use Rattle.ffv1_range.specs.Symbols.{symbol_bits, signed_symbol_bits, counting_ones, low_slots, exponent_of}
use Rattle.ffv1_range.specs.Forms.{Form, ◌>>=◌, giving}
use Rattle.ffv1_range.specs.Reading.{exponent_form, low_form, symbol_form, signed_form_within, SymbolIsSpelled, SignedSymbolIsSpelled}
use Rattle.ffv1_range.specs.declared.coding.RangeFault.{RangeFault}
use Rattle.std.specs.Prelude.{ℤ, pos, negsuc, unsigned_abs}
use Rattle.ffv1_range.proofs.Forms.{bind_ok}
use Rattle.ffv1_range.proofs.SymbolForms.{sign_rest, magnitude_rest, signed_exponent_rest, signed_rest}

-- one more bit of a
halves : (x : ℕ) → 2 * (x / 2) + bit_value (eqb (x % 2) 1) ≡ x
halves x =
    cond_both (eqb (x % 2) 1) 1 0 (λ z. 2 * (x / 2) + z ≡ x)
    (λ t. let odd : x % 2 ≡ 1 = eqb-true (x % 2) 1 t in omega arith)
    (λ f. let even : x % 2 ≡ 1 → ⊥ = eqb-false (x % 2) 1 f in omega arith)

half_step : (a n : ℕ) → 2 * (a / 2 ^ suc n) + bit_value (has_bit a n) ≡ a / 2 ^ n
half_step a n =
    let h : a / 2 ^ suc n ≡ a / 2 ^ n / 2 = ap (λ z. a / 2 ^ z) (sym (add-one n)) ∙ sym (shr-shr a n 1) in
    ap (λ z. 2 * z + bit_value (has_bit a n)) h ∙ halves (a / 2 ^ n)

low_run : (mode : Mode) (n a : ℕ) (p q : Place) → IsRangeRun mode p (low_slots n a) q → low_form n (a / 2 ^ n) mode p ≡ Ok (a, q)
unfolding IsRangeRun low_form
low_run mode zero a p q h = let whole : a / 1 ≡ a = omega arith in ap (λ z. Ok (z, p)) whole ∙ ap (λ z. Ok (a, z)) h
low_run mode (suc n) a p q h =
    bind_ok (slot_at mode p (22 + min n 9)) (λ x. low_form n (2 * (a / 2 ^ suc n) + bit_value x.0) mode x.1) (has_bit a n, h.0) h.1
    ∙ ap (λ z. low_form n z mode h.0) (half_step a n)
    ∙ low_run mode n a h.0 q h.2

ones_run : (mode : Mode) (n k e t : ℕ) (rest : List (ℕ × Bool)) (p q : Place) → n < k → t ≡ e + n
    → IsRangeRun mode p (counting_ones n e ++ (1 + min t 9, false) ∷ rest) q
    → (m : Place) × (exponent_form k e mode p ≡ Ok (t, m)) × IsRangeRun mode m rest q
unfolding IsRangeRun exponent_form
ones_run mode n zero e t rest p q l s h = absurd (omega arith)
ones_run mode zero (suc k) e t rest p q l s h =
    let here : t ≡ e = omega arith in (
      h.0,
      bind_ok (slot_at mode p (1 + min e 9)) (λ x. cond x.0 (exponent_form k (e + 1)) (giving e) mode x.1) (false, h.0)
          (subst (λ z. slot_at mode p (1 + min z 9) ≡ Ok (false, h.0)) here h.1)
          ∙ ap (λ z. Ok (z, h.0)) (sym here),
      h.2,
    )
ones_run mode (suc n) (suc k) e t rest p q l s h =
    let r : (m : Place) × (exponent_form k (e + 1) mode h.0 ≡ Ok (t, m)) × IsRangeRun mode m rest q =
    ones_run mode n k (e + 1) t rest h.0 q (omega arith) (omega arith) h.2 in (
      r.0,
      bind_ok (slot_at mode p (1 + min e 9)) (λ x. cond x.0 (exponent_form k (e + 1)) (giving e) mode x.1) (true, h.0) h.1 ∙ r.1,
      r.2,
    )

power_below : (j e : ℕ) → j < e → 2 ^ suc j ≤ 2 ^ e
power_below j e h = pow-le-pow_right (lit≤ tt) h

-- 2 ^ n at most 2 ^ 32
power_fits : (n : ℕ) → n ≤ 32 → 2 ^ n ≤ 2 ^ 32
power_fits n h = pow-le-pow_right (lit≤ tt) h

exponent_is : (n a : ℕ) → n ≤ 32 → 0 < a → a < 2 ^ n → (exponent_of a < n) × (a / 2 ^ exponent_of a ≡ 1)
exponent_is n a few h k =
    let top = leading_top 32 a h (omega (arith, k, power_fits n few)) in
    let less : top.0 < n =
    elim (cases_order top.0 n) [
      | inl same ↦ absurd (omega (arith, top.2, k, ap (λ z. 2 ^ z) same))
      | inr apart ↦ elim apart [
        | inl less ↦ less
        | inr more ↦ absurd (omega (arith, top.2, k, power_below n top.0 more, pow-suc 2 n))
      ]
    ] in
    let e : exponent_of a ≡ top.0 = omega (arith, top.1) in
    let one : 1 ≤ a / 2 ^ top.0 = le-div 1 a (2 ^ top.0) (pow_pos top.0) (omega (arith, top.2)) in
    let two : a / 2 ^ top.0 < 2 = div_below a (2 ^ top.0) 2 (pow_pos top.0) (omega (arith, top.3, pow-suc 2 top.0)) in
    (omega (arith, e, less), ap (λ z. a / 2 ^ z) e ∙ omega arith)

large_form : Form (List ℕ) ℕ RangeFault
large_form = exponent_form 32 0 >>= λ e. low_form e 1

-- Where the bits of a symbol other than 0 are coded, its exponent and its magnitude are read.
pub record IsLargeAt (mode : Mode) (n a : ℕ) (p q : Place) : Type 0 where
  pub first : Place
  pub not_zero : slot_at mode p 0 ≡ Ok (false, first)
  pub counted : Place
  pub exponent : exponent_form n 0 mode first ≡ Ok (exponent_of a, counted)
  pub magnitude : low_form (exponent_of a) 1 mode counted ≡ Ok (a, q)

large_run : (mode : Mode) (k n : ℕ) (p q : Place) → k ≤ 32 → suc n < 2 ^ k → IsRangeRun mode p (symbol_bits (suc n)) q
    → IsLargeAt mode k (suc n) p q
unfolding IsRangeRun symbol_bits
large_run mode k n p q few l h =
    let e = exponent_is k (suc n) few (omega arith) l in
    let r = ones_run mode (exponent_of (suc n)) k 0 (exponent_of (suc n)) (low_slots (exponent_of (suc n)) (suc n)) h.0 q e.0 (omega arith) h.2 in
    record {
      first = h.0;
      not_zero = h.1;
      counted = r.0;
      exponent = r.1;
      magnitude = ap (λ z. low_form (exponent_of (suc n)) z mode r.0) (sym e.1) ∙ low_run mode (exponent_of (suc n)) (suc n) r.0 q r.2;
    }

-- Where a symbol's bits are coded, it is read.
symbol_run : (mode : Mode) (a : ℕ) (p q : Place) → a < 2 ^ 32 → IsRangeRun mode p (symbol_bits a) q → symbol_form mode p ≡ Ok (a, q)
unfolding IsRangeRun symbol_bits symbol_form large_form
symbol_run mode zero p q l h =
    bind_ok (slot_at mode p 0) (λ x. cond x.0 (giving 0) large_form mode x.1) (true, h.0) h.1
    ∙ ap (λ z. Ok (0, z)) h.2
symbol_run mode (suc a) p q l h =
    let r = large_run mode 32 a p q (lit≤ tt) l h in
    bind_ok (slot_at mode p 0) (λ x. cond x.0 (giving 0) large_form mode x.1) (false, r.first) r.not_zero
    ∙ bind_ok (exponent_form 32 0 mode r.first) (λ e. low_form e.0 1 mode e.1) (exponent_of (suc a), r.counted) r.exponent
    ∙ r.magnitude

pub run_append : (mode : Mode) (xs ys : List (ℕ × Bool)) (p m q : Place) → IsRangeRun mode p xs m → IsRangeRun mode m ys q
    → IsRangeRun mode p (xs ++ ys) q
unfolding IsRangeRun
run_append mode [] ys p m q h k = subst (λ z. IsRangeRun mode z ys q) (sym h) k
run_append mode (x ∷ xs) ys p m q h k = (h.0, h.1, run_append mode xs ys h.0 m q h.2 k)

pub run_split : (mode : Mode) (xs ys : List (ℕ × Bool)) (p q : Place) → IsRangeRun mode p (xs ++ ys) q → (m : Place) × IsRangeRun mode p xs m
    × IsRangeRun mode m ys q
unfolding IsRangeRun
run_split mode [] ys p q h = (p, refl, h)
run_split mode (x ∷ xs) ys p q h = let r = run_split mode xs ys h.0 q h.2 in (r.0, (h.0, h.1, r.1), r.2)

-- a magnitude and its sign
signed_large_run : (mode : Mode) (k n : ℕ) (is_negative : Bool) (p q : Place) → k ≤ 32 → suc n < 2 ^ k
    → IsRangeRun mode p (symbol_bits (suc n) ++ (11 + min (exponent_of (suc n)) 10, is_negative) ∷ []) q
    → signed_form_within k mode p ≡ sign_rest (suc n) is_negative mode q
unfolding IsRangeRun signed_form_within signed_rest signed_exponent_rest magnitude_rest sign_rest
signed_large_run mode k n is_negative p q few l h =
    let s = run_split mode (symbol_bits (suc n)) ((11 + min (exponent_of (suc n)) 10, is_negative) ∷ []) p q h in
    let r = large_run mode k n p s.0 few l s.1 in
    let sign : (m : Place) × (slot_at mode s.0 (11 + min (exponent_of (suc n)) 10) ≡ Ok (is_negative, m)) × (m ≡ q) = s.2 in
    bind_ok (slot_at mode p 0) (λ x. signed_rest k x.0 mode x.1) (false, r.first) r.not_zero
    ∙ bind_ok (exponent_form k 0 mode r.first) (λ x. signed_exponent_rest x.0 mode x.1) (exponent_of (suc n), r.counted) r.exponent
    ∙ bind_ok (low_form (exponent_of (suc n)) 1 mode r.counted) (λ x. magnitude_rest (exponent_of (suc n)) x.0 mode x.1) (suc n, s.0) r.magnitude
    ∙ bind_ok (slot_at mode s.0 (11 + min (exponent_of (suc n)) 10)) (λ x. sign_rest (suc n) x.0 mode x.1) (is_negative, sign.0) sign.1
    ∙ ap (λ z. sign_rest (suc n) is_negative mode z) sign.2

-- Where a signed symbol's bits are coded, it is read.
signed_run : (mode : Mode) (k : ℕ) (z : ℤ) (p q : Place) → k ≤ 32 → unsigned_abs z < 2 ^ k → IsRangeRun mode p (signed_symbol_bits z) q
    → signed_form_within k mode p ≡ Ok (z, q)
unfolding IsRangeRun symbol_bits signed_symbol_bits signed_form_within sign_rest signed_rest signed_exponent_rest magnitude_rest
signed_run mode k (pos zero) p q few l h =
    bind_ok (slot_at mode p 0) (λ x. signed_rest k x.0 mode x.1) (true, h.0) h.1
    ∙ ap (λ z. Ok (pos 0, z)) h.2
signed_run mode k (pos (suc n)) p q few l h = signed_large_run mode k n false p q few l h
signed_run mode k (negsuc n) p q few l h = signed_large_run mode k n true p q few l h

-- ---- and where it is read, its bits are coded

pub bind_is_ok : {A B E : Type 0} (r : Result A E) (f : A → Result B E) (y : B) → (r >>> f) ≡ Ok y → (x : A) × (r ≡ Ok x) × (f x ≡ Ok y)
bind_is_ok (Ok x) f y h = (x, refl, h)
bind_is_ok (Err e) f y h = absurd cc

parity_of : (b : Bool) (m y : ℕ) → y ≡ 2 * m + bit_value b → (y / 2 ≡ m) × (eqb (y % 2) 1 ≡ b)
parity_of true m y e = (omega arith, eq-eqb (y % 2) 1 (omega arith))
parity_of false m y e = (omega arith, ne_eqb (y % 2) 1 (λ o. omega arith))

pub same_ok : {A E : Type 0} (x y : A) → ◌≡◌ {A = Result A E} (Ok x) (Ok y) → x ≡ y
same_ok x y h = cc

low_found : (mode : Mode) (n m a : ℕ) (p q : Place) → low_form n m mode p ≡ Ok (a, q) → (a / 2 ^ n ≡ m) × IsRangeRun mode p (low_slots n a) q
unfolding IsRangeRun low_form
low_found mode zero m a p q h =
    let pair : ◌≡◌ {A = ℕ × Place} (m, p) (a, q) = same_ok (m, p) (a, q) h in
    let value : m ≡ a = ap (λ z. z.0) pair in
    (omega arith, ap (λ z. z.1) pair)
low_found mode (suc n) m a p q h =
    let x = bind_is_ok (slot_at mode p (22 + min n 9)) (λ x. low_form n (2 * m + bit_value x.0) mode x.1) (a, q) h in
    let r : (a / 2 ^ n ≡ 2 * m + bit_value x.0.0) × IsRangeRun mode x.0.1 (low_slots n a) q = low_found mode n (2 * m + bit_value x.0.0) a x.0.1 q x.2 in
    let w = parity_of x.0.0 m (a / 2 ^ n) r.0 in (
      ap (λ z. a / 2 ^ z) (sym (add-one n)) ∙ sym (shr-shr a n 1) ∙ w.0,
      (x.0.1, x.1 ∙ ap (λ z. Ok (z, x.0.1)) (sym w.1), r.1),
    )

abbrev Counted : Mode → ℕ → ℕ → ℕ → Place → Place → Type 0
Counted mode k e t p m =
    (n : ℕ) × (t ≡ e + n) × (n < k) × ((rest : List (ℕ × Bool)) (q : Place) → IsRangeRun mode m rest q
    → IsRangeRun mode p (counting_ones n e ++ (1 + min t 9, false) ∷ rest) q)

counted_step : (mode : Mode) (k e t : ℕ) (p m : Place) → ((o : Place) → exponent_form k (e + 1) mode o ≡ Ok (t, m) → Counted mode k (e + 1) t o m)
    → (bit : Bool) (o : Place) → slot_at mode p (1 + min e 9) ≡ Ok (bit, o) → cond bit (exponent_form k (e + 1)) (giving e) mode o ≡ Ok (t, m)
    → Counted mode (suc k) e t p m
unfolding IsRangeRun
counted_step mode k e t p m again true o s g =
    let r = again o g in
    (suc r.0, omega (arith, r.1), omega (arith, r.2), λ rest q run. (o, s, r.3 rest q run))
counted_step mode k e t p m again false o s g =
    let pair : ◌≡◌ {A = ℕ × Place} (e, o) (t, m) = same_ok (e, o) (t, m) g in
    let value : e ≡ t = ap (λ z. z.0) pair in
    let place : o ≡ m = ap (λ z. z.1) pair in (
      0,
      omega arith,
      omega arith,
      λ rest q run. (
        o,
        subst (λ z. slot_at mode p (1 + min z 9) ≡ Ok (false, o)) value s,
        subst
            (λ z. IsRangeRun mode z rest q) (sym place) run,
      ),
    )

ones_found : (mode : Mode) (k e t : ℕ) (p m : Place) → exponent_form k e mode p ≡ Ok (t, m) → Counted mode k e t p m
unfolding exponent_form
ones_found mode zero e t p m h = absurd cc
ones_found mode (suc k) e t p m h =
    let x = bind_is_ok (slot_at mode p (1 + min e 9)) (λ x. cond x.0 (exponent_form k (e + 1)) (giving e) mode x.1) (t, m) h in
    counted_step mode k e t p m (λ o g. ones_found mode k (e + 1) t o m g) x.0.0 x.0.1 x.1 x.2

-- a number whose highest bit has the worth 2 ^ e
spans : (a e : ℕ) → a / 2 ^ e ≡ 1 → (2 ^ e ≤ a) × (a < 2 ^ suc e)
spans a e one =
    let whole : a / 2 ^ e * 2 ^ e + a % 2 ^ e ≡ a = div-add-mod' a (2 ^ e) in
    let sum : 1 * 2 ^ e + a % 2 ^ e ≡ a = ap (λ z. z * 2 ^ e + a % 2 ^ e) (sym one) ∙ whole in
    let small : a % 2 ^ e < 2 ^ e = mod_below a (2 ^ e) (pow_pos e) in
    (omega arith, omega (arith, pow-suc 2 e))

same_exponent : (n a e : ℕ) → n ≤ 32 → e < n → a / 2 ^ e ≡ 1 → (a < 2 ^ n) × (exponent_of a ≡ e)
same_exponent n a e few h one =
    let s = spans a e one in
    let small : a < 2 ^ n = omega (arith, s.1, power_below e n h) in
    let top = leading_top 32 a (omega (arith, s.0, pow_pos e)) (omega (arith, small, power_fits n few)) in
    let same : top.0 ≡ e =
    elim (cases_order top.0 e) [
      | inl same ↦ same
      | inr apart ↦ elim apart [
        | inl less ↦ absurd (omega (arith, top.3, s.0, power_below top.0 e less))
        | inr more ↦ absurd (omega (arith, top.2, s.1, power_below e top.0 more))
      ]
    ] in
    (small, omega (arith, top.1))

large_found : (mode : Mode) (k a e n : ℕ) (p o q : Place) → k ≤ 32 → slot_at mode p 0 ≡ Ok (false, o) → e < k → e ≡ n → a / 2 ^ e ≡ 1
    → IsRangeRun mode o (counting_ones n 0 ++ (1 + min e 9, false) ∷ low_slots e a) q
    → (a < 2 ^ k) × (0 < a) × (exponent_of a ≡ e) × IsRangeRun mode p (symbol_bits a) q
unfolding IsRangeRun symbol_bits
large_found mode k zero e n p o q few s l same one run = absurd (omega (arith, (spans 0 e one).0, pow_pos e))
large_found mode k (suc a) e n p o q few s l same one run =
    let x = same_exponent k (suc a) e few l one in (
      x.0,
      omega arith,
      x.1,
      (
        o,
        s,
        subst (λ z. IsRangeRun mode o (counting_ones z 0 ++ (1 + min z 9, false) ∷ low_slots z (suc a)) q) (sym x.1)
            (subst (λ z. IsRangeRun mode o (counting_ones z 0 ++ (1 + min e 9, false) ∷ low_slots e (suc a)) q) (sym same) run),
      ),
    )

large_read : (mode : Mode) (k a e : ℕ) (p o m q : Place) → k ≤ 32 → slot_at mode p 0 ≡ Ok (false, o) → exponent_form k 0 mode o ≡ Ok (e, m)
    → low_form e 1 mode m ≡ Ok (a, q)
    → (a < 2 ^ k) × (0 < a) × (exponent_of a ≡ e) × IsRangeRun mode p (symbol_bits a) q
large_read mode k a e p o m q few s f g =
    let ones = ones_found mode k 0 e o m f in
    let low = low_found mode e 1 a m q g in
    large_found mode k a e ones.0 p o q few s (omega (arith, ones.1, ones.2)) (omega (arith, ones.1)) low.0 (ones.3 (low_slots e a) q low.1)

first_found : (mode : Mode) (a : ℕ) (p q : Place) (bit : Bool) (o : Place) → slot_at mode p 0 ≡ Ok (bit, o)
    → cond bit (giving 0) large_form mode o ≡ Ok (a, q) → (a < 2 ^ 32) × IsRangeRun mode p (symbol_bits a) q
unfolding IsRangeRun symbol_bits large_form
first_found mode a p q true o s g =
    let pair : ◌≡◌ {A = ℕ × Place} (0, o) (a, q) = same_ok (0, o) (a, q) g in
    let value : 0 ≡ a = ap (λ z. z.0) pair in
    (omega arith, subst (λ z. IsRangeRun mode p (symbol_bits z) q) value (o, s, ap (λ z. z.1) pair))
first_found mode a p q false o s g =
    let e = bind_is_ok (exponent_form 32 0 mode o) (λ e. low_form e.0 1 mode e.1) (a, q) g in
    let r = large_read mode 32 a e.0.0 p o e.0.1 q (lit≤ tt) s e.1 e.2 in
    (r.0, r.3)

-- What is read as a symbol is coded there.
symbol_found : (mode : Mode) (a : ℕ) (p q : Place) → symbol_form mode p ≡ Ok (a, q) → (a < 2 ^ 32) × IsRangeRun mode p (symbol_bits a) q
unfolding symbol_form large_form
symbol_found mode a p q h =
    let x = bind_is_ok (slot_at mode p 0) (λ x. cond x.0 (giving 0) large_form mode x.1) (a, q) h in
    first_found mode a p q x.0.0 x.0.1 x.1 x.2

abbrev IsSpelled : Mode → ℕ → ℤ → Place → Place → Type 0
IsSpelled mode k z p q = (unsigned_abs z < 2 ^ k) × IsRangeRun mode p (signed_symbol_bits z) q

sign_found : (mode : Mode) (k a e : ℕ) (is_negative : Bool) (p m o q : Place) (z : ℤ) → a < 2 ^ k → 0 < a → exponent_of a ≡ e
    → IsRangeRun mode p (symbol_bits a) m → slot_at mode m (11 + min e 10) ≡ Ok (is_negative, o) → sign_rest a is_negative mode o ≡ Ok (z, q)
    → IsSpelled mode k z p q
unfolding IsRangeRun signed_symbol_bits sign_rest
sign_found mode k zero e is_negative p m o q z l positive x run s g = absurd (omega arith)
sign_found mode k (suc n) e false p m o q z l positive x run s g =
    let pair : ◌≡◌ {A = ℤ × Place} (pos (suc n), o) (z, q) = same_ok (pos (suc n), o) (z, q) g in
    subst (λ y. IsSpelled mode k y p q) (ap (λ y. y.0) pair) (
      l,
      run_append mode (symbol_bits (suc n)) ((11 + min (exponent_of (suc n)) 10, false) ∷ []) p m q run
          (o, subst (λ y. slot_at mode m (11 + min y 10) ≡ Ok (false, o)) (sym x) s, ap (λ y. y.1) pair),
    )
sign_found mode k (suc n) e true p m o q z l positive x run s g =
    let pair : ◌≡◌ {A = ℤ × Place} (negsuc n, o) (z, q) = same_ok (negsuc n, o) (z, q) g in
    subst (λ y. IsSpelled mode k y p q) (ap (λ y. y.0) pair) (
      l,
      run_append mode (symbol_bits (suc n)) ((11 + min (exponent_of (suc n)) 10, true) ∷ []) p m q run
          (o, subst (λ y. slot_at mode m (11 + min y 10) ≡ Ok (true, o)) (sym x) s, ap (λ y. y.1) pair),
    )

signed_first_found : (mode : Mode) (k : ℕ) (z : ℤ) (p q : Place) (bit : Bool) (o : Place) → k ≤ 32 → slot_at mode p 0 ≡ Ok (bit, o)
    → signed_rest k bit mode o ≡ Ok (z, q)
    → IsSpelled mode k z p q
unfolding IsRangeRun symbol_bits signed_symbol_bits signed_rest signed_exponent_rest magnitude_rest
signed_first_found mode k z p q true o few s g =
    let pair : ◌≡◌ {A = ℤ × Place} (pos 0, o) (z, q) = same_ok (pos 0, o) (z, q) g in
    subst (λ y. IsSpelled mode k y p q) (ap (λ y. y.0) pair) (pow_pos k, (o, s, ap (λ y. y.1) pair))
signed_first_found mode k z p q false o few s g =
    let e = bind_is_ok (exponent_form k 0 mode o) (λ x. signed_exponent_rest x.0 mode x.1) (z, q) g in
    let a = bind_is_ok (low_form e.0.0 1 mode e.0.1) (λ x. magnitude_rest e.0.0 x.0 mode x.1) (z, q) e.2 in
    let n = bind_is_ok (slot_at mode a.0.1 (11 + min e.0.0 10)) (λ x. sign_rest a.0.0 x.0 mode x.1) (z, q) a.2 in
    let r = large_read mode k a.0.0 e.0.0 p o e.0.1 a.0.1 few s e.1 a.1 in
    sign_found mode k a.0.0 e.0.0 n.0.0 p a.0.1 n.0.1 q z r.0 r.1 r.2 r.3 n.1 n.2

-- What is read as a signed symbol is coded there.
signed_found : (mode : Mode) (k : ℕ) (z : ℤ) (p q : Place) → k ≤ 32 → signed_form_within k mode p ≡ Ok (z, q) → IsSpelled mode k z p q
unfolding signed_form_within signed_rest signed_exponent_rest magnitude_rest sign_rest
signed_found mode k z p q few h =
    let x = bind_is_ok (slot_at mode p 0) (λ x. signed_rest k x.0 mode x.1) (z, q) h in
    signed_first_found mode k z p q x.0.0 x.0.1 few x.1 x.2

pub symbol_is_spelled : SymbolIsSpelled
symbol_is_spelled mode p q a = (symbol_found mode a p q, λ h. symbol_run mode a p q h.0 h.1)

pub signed_symbol_is_spelled : SignedSymbolIsSpelled
signed_symbol_is_spelled n few mode p q z = (signed_found mode n z p q few, λ h. signed_run mode n z p q few h.0 h.1)
