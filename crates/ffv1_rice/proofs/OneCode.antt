-- No bits begin with the codes of two values, nor with those of two differences.
use Rattle.std.proofs.Common.{List, ◌≡◌, ℕ, ◌-◌, ◌^◌, ◌<◌, Bool, true, false, ◌++◌, ◌≢◌, refl, sym, ap, subst, ◌∙◌, arith, cond, ⊎_elim, ℤ, pos, negsuc, ◌-ℤ◌, ◌≤ℤ◌, ◌<ℤ◌, neg_ℤ}
use Rattle.std.proofs.lemmas.Bool.{cases_lt}
use Rattle.std.proofs.lemmas.Int.{ints}
use Rattle.ffv1_bits.specs.Reader.{Reading, ReadsBits}
use Rattle.ffv1_rice.proofs.Depths.{powers}
use Rattle.ffv1_rice.proofs.OneNumber.{one_number_code}
use Rattle.ffv1_rice.proofs.Folds.{fold_one, fold_range}
use Rattle.ffv1_rice.specs.States.{ContextState, IsCodedDepth, IsDifference, IsParameter, sign_number, flipped, coded_value, code_number}
use Rattle.ffv1_rice.specs.Codes.{code_bits, SpellsValue, decoded_value, IsCoded, IsCodedDifference, CodesAreOne}

-- ---- codes of values

pub one_parameter : (s : ContextState) (k j : ℕ) → IsParameter s k → IsParameter s j → k ≡ j
one_parameter s k j a b = ⊎_elim (λ less. absurd (omega (arith, b.least k less, a.enough)))
    (λ more. ⊎_elim (λ less. absurd (omega (arith, a.least j less, b.enough))) (λ most. omega arith) (cases_lt j k)) (cases_lt k j)

one_flipped : (s : ContextState) (v w : ℤ) → flipped s v ≡ flipped s w → v ≡ w
one_flipped s v w same = grind (arith, ints)

in_either : (n : ℕ) (b : Bool) (x y : ℤ) → IsDifference n x → IsDifference n y → IsDifference n (cond b x y)
in_either n true x y h k = h
in_either n false x y h k = k

pub flip_range : (n : ℕ) (v : ℤ) → IsDifference n v → IsDifference n (neg_ℤ (pos 1) -ℤ v)
flip_range n v h = record { low = omega (arith, ints); high = omega (arith, ints) }

flipped_range : (n : ℕ) (s : ContextState) (v : ℤ) → IsDifference n v → IsDifference n (flipped s v)
flipped_range n s v h = in_either n _ (neg_ℤ (pos 1) -ℤ v) v (flip_range n v h) h

one_sign : (v w : ℤ) → sign_number v ≡ sign_number w → v ≡ w
one_sign (pos m) (pos n) h = omega (arith, ints)
one_sign (pos m) (negsuc n) h = absurd (omega arith)
one_sign (negsuc m) (pos n) h = absurd (omega arith)
one_sign (negsuc m) (negsuc n) h = omega (arith, ints)

small_sign : (n : ℕ) (v : ℤ) → IsCodedDepth n → IsDifference n v → sign_number v < 2 ^ n
small_sign n (pos m) depth h = let p = powers n depth in omega (arith, ints)
small_sign n (negsuc m) depth h = let p = powers n depth in omega (arith, ints)

pub small_code : (n : ℕ) (s : ContextState) (v : ℤ) → IsCodedDepth n → code_number n s v < 2 ^ n
small_code n s v depth = small_sign n _ depth (flipped_range n s _ (fold_range n (v -ℤ s.bias) depth))

pub one_value : CodesAreOne
one_value n s v w code codes rest more depth hv hw a b same =
    let k : a.parameter ≡ b.parameter = one_parameter s a.parameter b.parameter a.is_parameter b.is_parameter in
    let joined : code_bits n (code_number n s v) a.parameter ++ rest ≡ code_bits n (code_number n s w) a.parameter ++ more =
    ap (λ l. l ++ rest) (sym a.same) ∙ same ∙ ap (λ l. l ++ more) b.same ∙ ap (λ k. code_bits n (code_number n s w) k ++ more) (sym k) in
    let one = one_number_code n a.parameter (code_number n s v) (code_number n s w) rest more (small_code n s v depth) (small_code n s w depth) joined in
    (fold_one n v w s.bias depth hv hw (one_flipped s _ _ (one_sign _ _ one.0)), one.1)

-- ---- differences

low_decoded : (n : ℕ) (difference : ℤ) → IsCodedDifference n true difference → (neg_ℤ (pos (2 ^ (n - 1))) ≤ℤ decoded_value true difference)
    × (decoded_value true difference <ℤ (pos (2 ^ (n - 1)) -ℤ pos 1))
low_decoded n difference coded =
    let other : difference ≢ pos 0 = coded.1 refl in
    (grind (arith, ints, coded.0.low), grind (arith, ints, coded.0.high))

pub decoded_range : (n : ℕ) (level : Bool) (difference : ℤ) → IsCodedDifference n level difference → IsDifference n (decoded_value level difference)
decoded_range n true difference coded = let low = low_decoded n difference coded in record { low = low.0; high = omega (arith, ints, low.1) }
decoded_range n false difference coded = coded.0

-- a level's value is below the greatest difference
pub decoded_low : (n : ℕ) (level : Bool) (difference : ℤ) → IsCodedDepth n → IsCodedDifference n level difference → level ≡ true
    → decoded_value level difference ≡ pos (2 ^ (n - 1) - 1) → ⊥
decoded_low n true difference depth coded is top =
    let p = powers n depth in
    let low = low_decoded n difference coded in
    omega (arith, ints, low.1, top)
decoded_low n false difference depth coded is top = absurd cc

pub one_decoded : (n : ℕ) (level : Bool) (d e : ℤ) → IsCodedDifference n level d → IsCodedDifference n level e → decoded_value level d ≡ decoded_value level e
    → d ≡ e
one_decoded n true d e a b same =
    let other : d ≢ pos 0 = a.1 refl in
    let another : e ≢ pos 0 = b.1 refl in
    grind (arith, ints)
one_decoded n false d e a b same = same

-- ---- readings

-- From one reading to another the code of a value was read.
pub record IsValueRead (n : ℕ) (s : ContextState) (value : ℤ) (old new : Reading) : Type 0 where
  pub code : List Bool
  pub depth : IsCodedDepth n
  pub range : IsDifference n value
  pub spells : SpellsValue n s value code
  pub reads : ReadsBits old code new

-- The code of a number is that of the value that the number stands for.
pub value_read : (n : ℕ) (s : ContextState) (number k : ℕ) (coded value : ℤ) (old new : Reading) → IsCodedDepth n → IsParameter s k
    → sign_number (flipped s coded) ≡ number → coded_value n s value ≡ coded → IsDifference n value → ReadsBits old (code_bits n number k) new
    → IsValueRead n s value old new
value_read n s number k coded value old new depth parameter is back range reads = record {
  code = code_bits n number k;
  depth = depth;
  range = range;
  spells = record { parameter = k; is_parameter = parameter; same = ap (λ m. code_bits n m k) (sym (ap (λ v. sign_number (flipped s v)) back ∙ is)) };
  reads = reads;
}

-- It is that of the difference whose decoded value it is.
pub coded_read : (n : ℕ) (s : ContextState) (level : Bool) (value difference : ℤ) (old new : Reading) → IsValueRead n s value old new
    → decoded_value level difference ≡ value → IsCoded n s level difference old new
coded_read n s level value difference old new read same = record {
  code = read.code;
  spells = subst (λ v. SpellsValue n s v read.code) (sym same) read.spells;
  reads = read.reads;
}

-- It is the decoded value of each difference that has its code there.
pub decoded_alike : (n : ℕ) (s : ContextState) (level : Bool) (value difference : ℤ) (old new after : Reading) → IsValueRead n s value old new
    → IsCodedDifference n level difference → IsCoded n s level difference old after → decoded_value level difference ≡ value
decoded_alike n s level value difference old new after read given spelled =
    let one = one_value n s (decoded_value level difference) value spelled.code read.code after.left new.left read.depth
    (decoded_range n level difference given) read.range spelled.spells read.spells (sym spelled.reads.begins ∙ read.reads.begins) in
    one.0

pub same_difference : (n : ℕ) (s : ContextState) (level : Bool) (value answer difference : ℤ) (old new after : Reading) → IsValueRead n s value old new
    → IsCodedDifference n level answer → decoded_value level answer ≡ value → IsCodedDifference n level difference → IsCoded n s level difference old after
    → answer ≡ difference
same_difference n s level value answer difference old new after read answered decoded given spelled =
    one_decoded n level answer difference answered given (decoded ∙ sym (decoded_alike n s level value difference old new after read given spelled))
