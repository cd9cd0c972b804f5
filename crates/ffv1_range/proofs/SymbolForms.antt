-- A symbol read bit by bit, as its loops go.
use Rattle.std.proofs.Common.{◌≡◌, ℕ, suc, ◌+◌, ◌*◌, ◌<◌, ◌≤◌, Bool, true, false, List, Ok, Err, refl, sym, ap, ◌∙◌, subst, arith, ◌^◌}
use Rattle.std.specs.Prelude.{min, ℤ, pos, neg_ℤ, if◌then◌else◌}
use Rattle.std.proofs.Math.Nat.{pow-suc, mul-le-mul_left, mul-le-mul_right}
use Rattle.std.proofs.lemmas.Nat.{pow_pos}
use mir.Val.{bool_byte}
use Rattle.ffv1_bits.specs.Bits.{bit_value}
use Rattle.ffv1_bits.proofs.Places.{bool_byte-bit_value}
use Rattle.ffv1_range.specs.Coding.{Coder}
use Rattle.ffv1_range.specs.Decoder.{Reader}
use Rattle.ffv1_range.specs.Forms.{Form, ◌>>=◌, giving, from_place, form_at, ReadsForm, same_fault, slot_form}
use Rattle.ffv1_range.specs.Reading.{exponent_form, low_form}
use Rattle.ffv1_range.specs.declared.coding.RangeFault.{RangeFault}
use Rattle.ffv1_range.specs.declared.coding.RangeFault.TheVariants.{SymbolTooLong}
use Rattle.ffv1_range.proofs.Forms.{Continues, place_of, continue_step, continue_both, continue_end, continue_give, stop}

-- ---- the exponent

exponent_rest : ℕ → ℕ → Bool → Form (List ℕ) ℕ RangeFault
exponent_rest n e more = if more then exponent_form n (e + 1) else giving e

-- one turn of the loop that counts ones

pub exponent_turn : (limit k n e slot : ℕ) (bit : Bool) (q r s : Reader) (start row states : List ℕ) → k ≡ suc n → slot ≡ 1 + min e 9 → bit ≡ true
    → Continues same_fault (exponent_form limit 0) q start (exponent_form k e) r row → ReadsForm same_fault (slot_form slot) r row (Ok bit) s states
    → Continues same_fault (exponent_form limit 0) q start (exponent_form n (e + 1)) s states
unfolding exponent_form exponent_rest
exponent_turn limit k n e slot bit q r s start row states l m b so h =
    continue_both same_fault (exponent_form limit 0) (exponent_form k e) (exponent_form n (e + 1)) q r s start row states so
    (subst (λ z. Continues same_fault (exponent_form z e) r row (exponent_form n (e + 1)) s states) (sym l)
    (continue_step same_fault (slot_form (1 + min e 9)) (exponent_rest n e) r s row states true
    (subst (λ z. ReadsForm same_fault (slot_form z) r row (Ok true) s states) m (subst (λ z. ReadsForm same_fault (slot_form slot) r row (Ok z) s states) b h))))

pub exponent_found : (limit k n e slot : ℕ) (bit : Bool) (q r s : Reader) (start row states : List ℕ) → k ≡ suc n → slot ≡ 1 + min e 9 → bit ≡ false
    → Continues same_fault (exponent_form limit 0) q start (exponent_form k e) r row → ReadsForm same_fault (slot_form slot) r row (Ok bit) s states
    → ReadsForm same_fault (exponent_form limit 0) q start (Ok e) s states
unfolding exponent_form exponent_rest
exponent_found limit k n e slot bit q r s start row states l m b so h =
    let read : ReadsForm same_fault (slot_form (1 + min e 9)) r row (Ok false) s states =
    subst (λ z. ReadsForm same_fault (slot_form z) r row (Ok false) s states) m (subst (λ z. ReadsForm same_fault (slot_form slot) r row (Ok z) s states) b h) in
    let step : Continues same_fault (exponent_form k e) r row (exponent_rest n e false) s states =
    subst (λ z. Continues same_fault (exponent_form z e) r row (exponent_rest n e false) s states) (sym l)
    (continue_step same_fault (slot_form (1 + min e 9)) (exponent_rest n e) r s row states false read) in
    continue_end same_fault (exponent_form limit 0) (exponent_rest n e false) q s s start states states (Ok e)
    (continue_both same_fault (exponent_form limit 0) (exponent_form k e) (exponent_rest n e false) q r s start row states so step)
    (continue_give same_fault s read.0 states e (exponent_rest n e false) (ap (λ z. z.at) read.2) refl)

pub exponent_fails : (limit k n e slot : ℕ) (f : RangeFault) (q r s : Reader) (start row states : List ℕ) → k ≡ suc n → slot ≡ 1 + min e 9
    → Continues same_fault (exponent_form limit 0) q start (exponent_form k e) r row → ReadsForm same_fault (slot_form slot) r row (Err f) s states
    → ReadsForm same_fault (exponent_form limit 0) q start (Err f) s states
unfolding exponent_form exponent_rest
exponent_fails limit k n e slot f q r s start row states l m so h =
    continue_end same_fault (exponent_form limit 0) (exponent_form k e) q r s start row states (Err f) so
    (subst (λ z. ReadsForm same_fault (exponent_form z e) r row (Err f) s states) (sym l)
    (stop same_fault (slot_form (1 + min e 9)) (exponent_rest n e) r s row states f
    (subst (λ z. ReadsForm same_fault (slot_form z) r row (Err f) s states) m h)))

-- after the last one that is allowed
pub exponent_over : (k e : ℕ) (r : Reader) (c : Coder) (row : List ℕ) → k ≡ 0 → r.at ≡ Ok c → form_at same_fault (exponent_form k e) r row ≡ Err SymbolTooLong
unfolding exponent_form
exponent_over k e r c row l h =
    ap (λ z. form_at same_fault (exponent_form z e) r row) l
    ∙ ap (λ z. from_place same_fault z (λ c. exponent_form 0 e r.mode (place_of c row))) h

-- ---- the bits of a magnitude

low_rest : ℕ → ℕ → Bool → Form (List ℕ) ℕ RangeFault
low_rest n a bit = low_form n (2 * a + bit_value bit)

pub low_turn : (e k n a slot v : ℕ) (bit : Bool) (q r s : Reader) (start row states : List ℕ) → k ≡ suc n → slot ≡ 22 + min n 9 → v ≡ bool_byte bit
    → Continues same_fault (low_form e 1) q start (low_form k a) r row → ReadsForm same_fault (slot_form slot) r row (Ok bit) s states
    → Continues same_fault (low_form e 1) q start (low_form n (2 * a + v)) s states
unfolding low_form low_rest
low_turn e k n a slot v bit q r s start row states l m b so h =
    continue_both same_fault (low_form e 1) (low_form k a) (low_form n (2 * a + v)) q r s start row states so
    (subst (λ z. Continues same_fault (low_form z a) r row (low_form n (2 * a + v)) s states) (sym l)
    (subst (λ z. Continues same_fault (low_form (suc n) a) r row (low_form n (2 * a + z)) s states) (sym (b ∙ bool_byte-bit_value bit))
    (continue_step same_fault (slot_form (22 + min n 9)) (low_rest n a) r s row states bit
    (subst (λ z. ReadsForm same_fault (slot_form z) r row (Ok bit) s states) m h))))

pub low_fails : (e k n a slot : ℕ) (f : RangeFault) (q r s : Reader) (start row states : List ℕ) → k ≡ suc n → slot ≡ 22 + min n 9
    → Continues same_fault (low_form e 1) q start (low_form k a) r row → ReadsForm same_fault (slot_form slot) r row (Err f) s states
    → ReadsForm same_fault (low_form e 1) q start (Err f) s states
unfolding low_form low_rest
low_fails e k n a slot f q r s start row states l m so h =
    continue_end same_fault (low_form e 1) (low_form k a) q r s start row states (Err f) so
    (subst (λ z. ReadsForm same_fault (low_form z a) r row (Err f) s states) (sym l)
    (stop same_fault (slot_form (22 + min n 9)) (low_rest n a) r s row states f
    (subst (λ z. ReadsForm same_fault (slot_form z) r row (Err f) s states) m h)))

pub low_end : (e k a : ℕ) (q r : Reader) (start row : List ℕ) (c : Coder) → k ≡ 0 → r.at ≡ Ok c
    → Continues same_fault (low_form e 1) q start (low_form k a) r row
    → ReadsForm same_fault (low_form e 1) q start (Ok a) r row
unfolding low_form
low_end e k a q r start row c l h so =
    continue_end same_fault (low_form e 1) (low_form k a) q r r start row row (Ok a) so
    (subst (λ z. ReadsForm same_fault (low_form z a) r row (Ok a) r row) (sym l) (continue_give same_fault r c row a (low_form 0 a) h refl))

-- ---- the magnitude fits 32 bits

one_more : (n m v : ℕ) → v < 2 → (m + 1) * 2 ^ suc n ≤ 2 ^ 32 → (2 * m + v + 1) * 2 ^ n ≤ 2 ^ 32
one_more n m v h l =
    let step : (m + 1) * (2 ^ n * 2) ≤ 2 ^ 32 = rw pow-suc at l in
    let less : (2 * m + v + 1) * 2 ^ n ≤ (2 * m + 2) * 2 ^ n = mul-le-mul_right (2 ^ n) (omega arith) in
    omega arith

pub fits_more : (k n m v : ℕ) (bit : Bool) → k ≡ suc n → v ≡ bool_byte bit → (m + 1) * 2 ^ k ≤ 2 ^ 32 → (2 * m + v + 1) * 2 ^ n ≤ 2 ^ 32
fits_more k n m v bit e b l = one_more n m v (small bit v b) (subst (λ z. (m + 1) * 2 ^ z ≤ 2 ^ 32) e l)
  where
    small : (bit : Bool) (v : ℕ) → v ≡ bool_byte bit → v < 2
    small true v b = omega arith
    small false v b = omega arith

pub fits_now : (n m : ℕ) → (m + 1) * 2 ^ n ≤ 2 ^ 32 → m < 2 ^ 32
fits_now n m l =
    let p : (m + 1) * 1 ≤ (m + 1) * 2 ^ n = mul-le-mul_left (m + 1) (pow_pos n) in omega arith

-- ---- what follows each part of a signed symbol

unfoldable pub sign_rest : ℕ → Bool → Form (List ℕ) ℤ RangeFault
sign_rest a is_negative = giving (if is_negative then neg_ℤ (pos a) else pos a)

unfoldable pub magnitude_rest : ℕ → ℕ → Form (List ℕ) ℤ RangeFault
magnitude_rest e a = slot_form (11 + min e 10) >>= sign_rest a

unfoldable pub signed_exponent_rest : ℕ → Form (List ℕ) ℤ RangeFault
signed_exponent_rest e = low_form e 1 >>= magnitude_rest e

unfoldable pub signed_rest : ℕ → Bool → Form (List ℕ) ℤ RangeFault
signed_rest n is_zero = if is_zero then giving (pos 0) else (exponent_form n 0 >>= signed_exponent_rest)
