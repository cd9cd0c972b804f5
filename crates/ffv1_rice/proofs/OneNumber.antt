-- No bits begin with the codes of two numbers.
use Rattle.std.proofs.Common.{◌≡◌, ℕ, zero, suc, ◌+◌, ◌-◌, ◌*◌, ◌/◌, ◌%◌, ◌^◌, ◌<◌, ◌≤◌, Bool, true, false, List, [], ◌∷◌, ◌++◌, replicate, refl, sym, ap, ◌∙◌, arith, ltb, cond, append_assoc, ◌⊎◌, inr, ⊎_elim}
use Rattle.std.proofs.lemmas.Bool.{lt-ltb, le-ltb, cases_lt}
use Rattle.std.proofs.lemmas.Nat.{shr_split, shr_le}
use Rattle.std.proofs.Math.Nat.{one-le-pow}
use Rattle.ffv1_bits.specs.Bits.{number_bits}
use Rattle.ffv1_bits.proofs.Numbers.{one_number}
use Rattle.ffv1_rice.specs.Codes.{prefix_bits, suffix_length, shape_bits, code_bits}

-- ---- prefixes

unary : ℕ → ℕ → List Bool
unary zero ones = []
unary (suc limit) zero = true ∷ []
unary (suc limit) (suc ones) = false ∷ unary limit ones

unary_short : (limit ones : ℕ) → ones < limit → replicate ones false ++ (true ∷ []) ≡ unary limit ones
unfolding unary
unary_short zero ones h = absurd (omega arith)
unary_short (suc limit) zero h = refl
unary_short (suc limit) (suc ones) h = ap (λ l. false ∷ l) (unary_short limit ones (omega arith))

unary_long : (limit : ℕ) → replicate limit false ≡ unary limit limit
unfolding unary
unary_long zero = refl
unary_long (suc limit) = ap (λ l. false ∷ l) (unary_long limit)

unary_is : (ones : ℕ) → ones ≤ 12 → prefix_bits ones ≡ unary 12 ones
unfolding prefix_bits
unary_is ones h = ⊎_elim
    (λ short. rw (lt-ltb ones 12 short) (unary_short 12 ones short))
    (λ long. rw (le-ltb ones 12 long) (unary_long 12 ∙ ap (λ n. unary 12 n) (let e : 12 ≡ ones = omega arith in e)))
    (cases_lt ones 12)

one_unary : (limit m n : ℕ) (rest more : List Bool) → m ≤ limit → n ≤ limit → unary limit m ++ rest ≡ unary limit n ++ more → (m ≡ n) × (rest ≡ more)
unfolding unary
one_unary zero m n rest more below also same = (omega arith, same)
one_unary (suc limit) zero zero rest more below also same = (refl, cc)
one_unary (suc limit) zero (suc n) rest more below also same = absurd (cc)
one_unary (suc limit) (suc m) zero rest more below also same = absurd (cc)
one_unary (suc limit) (suc m) (suc n) rest more below also same =
    let tail : unary limit m ++ rest ≡ unary limit n ++ more = cc in
    let ind = one_unary limit m n rest more (omega arith) (omega arith) tail in
    (ap suc ind.0, ind.1)

pub one_prefix : (m n : ℕ) (rest more : List Bool) → m ≤ 12 → n ≤ 12 → prefix_bits m ++ rest ≡ prefix_bits n ++ more → (m ≡ n) × (rest ≡ more)
one_prefix m n rest more below also same =
    one_unary 12 m n rest more below also (ap (λ l. l ++ rest) (sym (unary_is m below)) ∙ same ∙ ap (λ l. l ++ more) (unary_is n also))

-- ---- codes of numbers

-- the parts of a code
pub record Parts (n k u : ℕ) : Type 0 where
  pub ones : ℕ
  pub low : ℕ
  pub few : ones ≤ 12
  pub fits : low < 2 ^ suffix_length n k ones
  pub is_code : code_bits n u k ≡ shape_bits n k ones low
  pub number : cond (ltb ones 12) (ones * 2 ^ k + low) (low + 11) ≡ u
  pub escaped : 12 ≤ ones → 12 ≤ u / 2 ^ k

pub parts_of : (n k u : ℕ) → (u / 2 ^ k < 12) ⊎ (u < 2 ^ n + 11) → Parts n k u
unfolding code_bits shape_bits suffix_length
parts_of n k u small =
    let some : 1 ≤ 2 ^ k = one-le-pow k 2 (omega arith) in
    let low : u % 2 ^ k < 2 ^ k = omega arith in
    let less : u / 2 ^ k ≤ u = shr_le u k in
    ⊎_elim (λ short. record {
      ones = u / 2 ^ k;
      low = u % 2 ^ k;
      few = omega arith;
      fits = rw (lt-ltb _ 12 short) low;
      is_code = rw (lt-ltb _ 12 short) refl;
      number = rw (lt-ltb _ 12 short) (shr_split u k);
      escaped = λ h. h;
    })
    (λ long. record {
      ones = 12;
      low = u - 11;
      few = omega arith;
      fits = ⊎_elim (λ a. absurd (omega arith)) (λ b. omega arith) small;
      is_code = rw (le-ltb _ 12 long) refl;
      number = omega arith;
      escaped = λ h. long;
    })
    (cases_lt (u / 2 ^ k) 12)

pub small_parts : (n k u : ℕ) → u < 2 ^ n → Parts n k u
small_parts n k u small = parts_of n k u (inr (omega arith))

pub one_shape : (n k m l low less : ℕ) (rest more : List Bool) → m ≤ 12 → l ≤ 12 → low < 2 ^ suffix_length n k m → less < 2 ^ suffix_length n k l
    → shape_bits n k m low ++ rest ≡ shape_bits n k l less ++ more → (m ≡ l) × (low ≡ less) × (rest ≡ more)
unfolding shape_bits
one_shape n k m l low less rest more below also fits fit same =
    let joined : prefix_bits m ++ (number_bits (suffix_length n k m) low ++ rest) ≡ prefix_bits l ++ (number_bits (suffix_length n k l) less ++ more) =
    sym (append_assoc (prefix_bits m) (number_bits (suffix_length n k m) low) rest) ∙ same
    ∙ append_assoc (prefix_bits l) (number_bits (suffix_length n k l) less) more in
    let first = one_prefix m l _ _ below also joined in
    let later : number_bits (suffix_length n k m) low ++ rest ≡ number_bits (suffix_length n k m) less ++ more = first.1
    ∙ ap (λ z. number_bits (suffix_length n k z) less ++ more) (sym first.0) in
    let fit' : less < 2 ^ suffix_length n k m = rw first.0 fit in
    let second = one_number (suffix_length n k m) low less rest more fits fit' later in
    (first.0, second.0, second.1)

pub one_number_code_of : (n k m l : ℕ) (rest more : List Bool) → Parts n k m → Parts n k l → code_bits n m k ++ rest ≡ code_bits n l k ++ more
    → (m ≡ l) × (rest ≡ more)
one_number_code_of n k m l rest more a b same =
    let shapes : shape_bits n k a.ones a.low ++ rest ≡ shape_bits n k b.ones b.low ++ more =
    ap (λ z. z ++ rest) (sym a.is_code) ∙ same ∙ ap (λ z. z ++ more) b.is_code in
    let one = one_shape n k a.ones b.ones a.low b.low rest more a.few b.few a.fits b.fits shapes in (
      sym a.number ∙ ap (λ z. cond (ltb z 12) (z * 2 ^ k + a.low) (a.low + 11)) one.0 ∙ ap (λ z. cond (ltb b.ones 12) (b.ones * 2 ^ k + z) (z + 11)) one.1
          ∙ b.number,
      one.2,
    )

pub one_number_code : (n k m l : ℕ) (rest more : List Bool) → m < 2 ^ n → l < 2 ^ n → code_bits n m k ++ rest ≡ code_bits n l k ++ more
    → (m ≡ l) × (rest ≡ more)
one_number_code n k m l rest more below also same = one_number_code_of n k m l rest more (small_parts n k m below) (small_parts n k l also) same
