-- Bits inverted one after the other, where a mask has a 1.
use Rattle.std.proofs.Common.{◌≡◌, ℕ, ◌+◌, ◌-◌, ◌*◌, ◌/◌, ◌^◌, ◌<◌, Bool, true, false, not, List, length, get_or, set, take, drop, eqb, sym, ap, ◌∙◌, below_more, arith}
use Rattle.std.specs.Prelude.{bit_and, if◌then◌else◌}
use Rattle.std.proofs.lemmas.List.{take-set-le, drop-set-lt, drop-drop, get_or-drop, get_or-set_same, get_or-set_other}
use Rattle.std.proofs.lemmas.Bool.{cond-true, cond-false, ne_eqb}
use Rattle.std.proofs.lemmas.Nat.Bits.{shr_and_one}
use Rattle.ffv1_bits.specs.Bits.{has_bit, bits_of}
use Rattle.ffv1_bits.proofs.Burst.{length-bits}

-- the bit of this number after the place, as the mask wants it
abbrev pub wanted_bit : List Bool → ℕ → ℕ → ℕ → Bool
wanted_bit bits at mask k = if has_bit mask (31 - k) then not (get_or bits (at + k) false) else get_or bits (at + k) false

-- From a place on so many bits were gone over, and nothing else has changed.
pub record IsBurstUpTo (bytes : List ℕ) (at mask count : ℕ) (damaged : List ℕ) : Type 0 where
  pub front : take at (bits_of bytes) ≡ take at (bits_of damaged)
  pub back : drop (at + count) (bits_of bytes) ≡ drop (at + count) (bits_of damaged)
  pub turned : (k : ℕ) → k < count → get_or (bits_of damaged) (at + k) false ≡ wanted_bit (bits_of bytes) at mask k

-- what is left after one more bit
back_more : (xs ys : List Bool) (at n : ℕ) → drop (at + n) xs ≡ drop (at + n) ys → drop (at + (n + 1)) xs ≡ drop (at + (n + 1)) ys
back_more xs ys at n same =
    let more : at + n + 1 ≡ at + (n + 1) = omega arith in
    ap (λ i. drop i xs) (sym more) ∙ sym (drop-drop 1 (at + n) xs) ∙ ap (drop 1) same ∙ drop-drop 1 (at + n) ys ∙ ap (λ i. drop i ys) more

-- the next bit is still as it was
next_bit : (xs ys : List Bool) (n : ℕ) → drop n xs ≡ drop n ys → get_or ys n false ≡ get_or xs n false
next_bit xs ys n same =
    let first : get_or ys (n + 0) false ≡ get_or xs (n + 0) false =
    sym (get_or-drop n ys 0 false) ∙ ap (λ zs. get_or zs 0 false) (sym same) ∙ get_or-drop n xs 0 false in
    let here : n + 0 ≡ n = omega arith in
    ap (λ i. get_or ys i false) (sym here) ∙ first ∙ ap (λ i. get_or xs i false) here

-- the next bit, which the mask leaves
pub bit_kept : (bytes damaged : List ℕ) (at mask count : ℕ) → (bit_and (mask / 2 ^ (31 - count)) 1 ≡ 1 → ⊥)
    → IsBurstUpTo bytes at mask count damaged → IsBurstUpTo bytes at mask (count + 1) damaged
bit_kept bytes damaged at mask count leaves before =
    let old : Bool = get_or (bits_of bytes) (at + count) false in
    let clear : has_bit mask (31 - count) ≡ false = ne_eqb _ 1 (λ is. leaves (shr_and_one mask (31 - count) ∙ is)) in
    record {
      front = before.front;
      back = back_more (bits_of bytes) (bits_of damaged) at count before.back;
      turned =
          below_more _ _ before.turned
          (next_bit (bits_of bytes) (bits_of damaged) (at + count) before.back ∙ sym (cond-false (has_bit mask (31 - count)) (not old) old clear));
    }

-- the next bit, inverted
pub bit_inverted : (bytes damaged next : List ℕ) (at mask count : ℕ) → bit_and (mask / 2 ^ (31 - count)) 1 ≡ 1 → at + count < 8 * length bytes
    → length damaged ≡ length bytes → bits_of next ≡ set (bits_of damaged) (at + count) (not (get_or (bits_of damaged) (at + count) false))
    → IsBurstUpTo bytes at mask count damaged → IsBurstUpTo bytes at mask (count + 1) next
bit_inverted bytes damaged next at mask count turns within same_length is before =
    let xs : List Bool = bits_of damaged in
    let old : Bool = get_or (bits_of bytes) (at + count) false in
    let new : Bool = not (get_or xs (at + count) false) in
    let many : length xs ≡ 8 * length damaged = length-bits damaged in
    let there : at + count < length xs = omega arith in
    let has : has_bit mask (31 - count) ≡ true = ap (λ b. eqb b 1) (sym (shr_and_one mask (31 - count)) ∙ turns) in
    record {
      front = before.front ∙ sym (take-set-le at xs (at + count) new (omega arith)) ∙ ap (take at) (sym is);
      back =
          back_more (bits_of bytes) xs at count before.back
          ∙ sym (drop-set-lt (at + (count + 1)) xs (at + count) new (omega arith))
          ∙ ap (drop (at + (count + 1))) (sym is);
      turned =
          below_more _ _
          (λ k below.
          ap (λ ys. get_or ys (at + k) false) is
          ∙ get_or-set_other xs (at + count) (at + k) new false (λ e. omega arith)
          ∙ before.turned k below)
          (ap (λ ys. get_or ys (at + count) false) is
          ∙ get_or-set_same xs (at + count) new false there
          ∙ ap not (next_bit (bits_of bytes) xs (at + count) before.back)
          ∙ sym (cond-true (has_bit mask (31 - count)) (not old) old has));
    }
