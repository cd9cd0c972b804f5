-- The remainder is the only one.
use Rattle.std.proofs.Common.{◌≡◌, ℕ, suc, zero, ◌+◌, ◌-◌, ◌*◌, ◌^◌, ◌<◌, ◌≤◌, max, cond, eqb, length, sym, ap, ◌∙◌, subst, arith, add-zero, add-suc, lit≤, lit<}
use Rattle.std.specs.Prelude.{bit_xor}
use Rattle.std.specs.Int.Bits.{xor_assoc, xor_comm, xor_self, xor_lt, xor_zero_r, xor_zero_l}
use Rattle.std.proofs.Math.Nat.{pow-le-pow_right}
use Rattle.std.proofs.lemmas.Nat.{pow_pos, shl_below}
use Rattle.std.proofs.lemmas.Nat.Bits.{bit_at_above}
use Rattle.std.proofs.lemmas.Bool.{cond_both}
use Rattle.ffv1_bits.specs.Bits.{has_bit}
use Rattle.ffv1_bits.specs.Parity.{polynomial_of, divisor, divided, remainder_of, IsMultiple, RemainderIsOne}
use Rattle.ffv1_bits.specs.Inner.Division.{reduced_at}
use Rattle.ffv1_bits.specs.Parity.IsMultiple.{none, plus}
use Rattle.ffv1_bits.proofs.Sums.{same_from_xor, xor_swap}
use Rattle.ffv1_bits.proofs.Division.{divided-xor, divided_low, remainder_small, reduced_shift}

moved : (p d r : ℕ) → bit_xor (bit_xor (bit_xor p d) r) d ≡ bit_xor p r
moved p d r =
    ap (λ x. bit_xor x d) (xor_assoc p d r ∙ ap (bit_xor p) (xor_comm d r) ∙ sym (xor_assoc p r d))
    ∙ xor_assoc (bit_xor p r) d d ∙ ap (bit_xor (bit_xor p r)) (xor_self d) ∙ xor_zero_r (bit_xor p r)

divided_multiple : (n p : ℕ) → IsMultiple (bit_xor p (divided n p))
unfolding divided reduced_at
divided_multiple zero p = subst IsMultiple (sym (xor_self p)) none
divided_multiple (suc n) p =
    cond_both (has_bit p (32 + n)) (bit_xor p (divisor * 2 ^ n)) p (λ q. IsMultiple (bit_xor q (divided n q)) → IsMultiple (bit_xor p (divided n q)))
    (λ t h. subst IsMultiple (moved p (divisor * 2 ^ n) (divided n (bit_xor p (divisor * 2 ^ n))))
    (plus (bit_xor (bit_xor p (divisor * 2 ^ n)) (divided n (bit_xor p (divisor * 2 ^ n)))) n h))
    (λ f h. h)
    (divided_multiple n (reduced_at n p))

divided_zero : (n : ℕ) → divided n 0 ≡ 0
divided_zero n = divided_low n 0 (lit< tt)

line_above : (k p : ℕ) → p < 2 ^ (32 + k) → reduced_at k p ≡ p
unfolding reduced_at
line_above k p small =
    ap (λ x. cond (eqb x 1) (bit_xor p (divisor * 2 ^ k)) p) (bit_at_above p (32 + k) (32 + k) small (omega arith))

lines_above : (m n p : ℕ) → p < 2 ^ (32 + n) → divided (n + m) p ≡ divided n p
unfolding divided reduced_at
lines_above zero n p small = ap (λ x. divided x p) (add-zero n)
lines_above (suc m) n p small =
    let wide : p < 2 ^ (32 + (n + m)) =
    let more : 2 ^ (32 + n) ≤ 2 ^ (32 + (n + m)) = pow-le-pow_right (lit≤ tt) (omega arith) in omega arith in
    ap (λ x. divided x p) (add-suc n m) ∙ ap (divided (n + m)) (line_above (n + m) p wide) ∙ lines_above m n p small

-- the divisor times a power leaves nothing
divisor_gone : (k n : ℕ) → suc k ≤ n → divided n (divisor * 2 ^ k) ≡ 0
unfolding divided reduced_at
divisor_gone k n h =
    let total : suc k + (n - suc k) ≡ n = omega arith in
    let line : reduced_at k (divisor * 2 ^ k) ≡ 0 =
    ap (reduced_at k) (sym (add-zero (divisor * 2 ^ k))) ∙ reduced_shift k divisor 0 (pow_pos k) ∙ omega arith in
    let small : divisor * 2 ^ k < 2 ^ (32 + suc k) =
    subst (λ x. divisor * 2 ^ k < 2 ^ x) (let e : 33 + k ≡ 32 + suc k = omega arith in e) (shl_below divisor 33 k (lit< tt)) in
    ap (λ x. divided x (divisor * 2 ^ k)) (sym total) ∙ lines_above (n - suc k) (suc k) (divisor * 2 ^ k) small
    ∙ ap (divided k) line ∙ divided_zero k

multiple_gone : (m : ℕ) → IsMultiple m → (n : ℕ) × ((k : ℕ) → n ≤ k → divided k m ≡ 0)
multiple_gone m none = (0, λ k h. divided_zero k)
multiple_gone m (plus p j rest) =
    let r = multiple_gone p rest in (
      max r.0 (suc j),
      λ k h. divided-xor k p (divisor * 2 ^ j)
          ∙ ap (λ x. bit_xor x (divided k (divisor * 2 ^ j))) (r.1 k (omega arith))
          ∙ ap (bit_xor 0) (divisor_gone j k (omega arith)),
    )

small_multiple : (m : ℕ) → m < 2 ^ 32 → IsMultiple m → m ≡ 0
small_multiple m small h =
    let r = multiple_gone m h in
    sym (divided_low r.0 m small) ∙ r.1 r.0 (omega arith)

IsMultiple-xor : (p q : ℕ) → IsMultiple p → IsMultiple q → IsMultiple (bit_xor p q)
IsMultiple-xor p q h none = subst IsMultiple (sym (xor_zero_r p)) h
IsMultiple-xor p q h (plus r k rest) =
    subst IsMultiple (xor_assoc p r (divisor * 2 ^ k)) (plus (bit_xor p r) k (IsMultiple-xor p r h rest))

between : (p r s : ℕ) → bit_xor (bit_xor p r) (bit_xor p s) ≡ bit_xor r s
between p r s = xor_swap p r p s ∙ ap (λ x. bit_xor x (bit_xor r s)) (xor_self p) ∙ xor_zero_l (bit_xor r s)

pub one_remainder : RemainderIsOne
unfolding remainder_of
one_remainder bits = (
  record { small = remainder_small bits; multiple = divided_multiple (length bits) (polynomial_of bits) },
  λ r h. same_from_xor r (remainder_of bits)
      (small_multiple (bit_xor r (remainder_of bits)) (xor_lt 32 r (remainder_of bits) h.small (remainder_small bits))
      (subst IsMultiple (between (polynomial_of bits) r (remainder_of bits))
      (IsMultiple-xor (bit_xor (polynomial_of bits) r) (bit_xor (polynomial_of bits) (remainder_of bits)) h.multiple
      (divided_multiple (length bits) (polynomial_of bits))))),
)
