-- The shapes of codes: what is read is the code of the number, and no other number has a code that begins there.
use Rattle.std.proofs.Common.{◌≡◌, ℕ, suc, ◌+◌, ◌-◌, ◌*◌, ◌/◌, ◌%◌, ◌^◌, ◌<◌, ◌≤◌, Bool, false, List, ◌∷◌, ◌++◌, length, replicate, refl, sym, ap, ◌∙◌, arith, append_assoc, inl, inr}
use Rattle.std.specs.Prelude.{Result, Ok, Err, IfOk}
use Rattle.std.proofs.lemmas.Bool.{lt-ltb, le-ltb}
use Rattle.std.proofs.lemmas.Nat.{shr_high}
use Rattle.std.proofs.Math.Nat.{mul-add-mod_self_right, mod-eq_of_lt, mul-le-mul}
use Rattle.std.proofs.Math.Pow.{pow_mono}
use Rattle.std.proofs.lemmas.List.{replicate-append-replicate}
use Rattle.ffv1_bits.specs.Bits.{number_bits}
use Rattle.ffv1_bits.specs.Reader.{Reading, ReadsBits}
use Rattle.ffv1_bits.proofs.Places.{ReadsBits-append}
use Rattle.ffv1_bits.proofs.Numbers.{goes_on}
use Rattle.ffv1_rice.specs.declared.code.CodeFault.{CodeFault}
use Rattle.ffv1_rice.specs.Codes.{prefix_bits, suffix_length, shape_bits, code_bits, FooterGivesCode, IsLargeCode, IsNeedlessEscape}

-- 1 << k and a low part
pub shifted_low : (k ones low : ℕ) → ones < 12 → k ≤ 16 → ones * 2 ^ k % 4294967296 + low ≡ ones * 2 ^ k + low
shifted_low k ones low few small =
    let p : 2 ^ k ≤ 2 ^ 16 = pow_mono {j = 16} small in
    let h : ones ≤ 12 = omega arith in
    let q : ones * 2 ^ k ≤ 12 * 2 ^ 16 = mul-le-mul h p in
    ap (λ n. n + low) (mod-eq_of_lt (omega arith))

pub short_suffix : (k ones low : ℕ) → low < 2 ^ k → (ones * 2 ^ k + low) % 2 ^ k ≡ low
short_suffix k ones low below = mul-add-mod_self_right ones (2 ^ k) low ∙ mod-eq_of_lt below

-- the code of a number of the first form ..
short_form : (n k ones low : ℕ) → ones < 12 → low < 2 ^ k → code_bits n (ones * 2 ^ k + low) k ≡ prefix_bits ones ++ number_bits k low
unfolding code_bits shape_bits suffix_length
short_form n k ones low few below =
    let high : (ones * 2 ^ k + low) / 2 ^ k ≡ ones = shr_high ones k low below in
    let rest : (ones * 2 ^ k + low) % 2 ^ k ≡ low = short_suffix k ones low below in
    rw (high, rest, lt-ltb ones 12 few) refl

-- .. and of the second
long_form : (n k low : ℕ) → 12 ≤ (low + 11) / 2 ^ k → code_bits n (low + 11) k ≡ prefix_bits 12 ++ number_bits n low
unfolding code_bits shape_bits suffix_length
long_form n k low long =
    let same : low + 11 - 11 ≡ low = omega arith in
    rw (le-ltb _ 12 long, same) refl

pub short_code : (n k ones low number : ℕ) (old rest : List Bool) → ones < 12 → low < 2 ^ k → number ≡ ones * 2 ^ k + low → old ≡ number_bits k low ++ rest
    → prefix_bits ones ++ old ≡ code_bits n number k ++ rest
short_code n k ones low number old rest few below is spelled =
    rw (is, spelled, short_form n k ones low few below) (sym (append_assoc (prefix_bits ones) (number_bits k low) rest))

pub escape_code : (n k low number : ℕ) (old rest : List Bool) → number ≡ low + 11 → 12 ≤ number / 2 ^ k → old ≡ number_bits n low ++ rest
    → prefix_bits 12 ++ old ≡ code_bits n number k ++ rest
escape_code n k low number old rest is long spelled =
    let long' : 12 ≤ (low + 11) / 2 ^ k = rw is at long in
    rw (is, spelled, long_form n k low long') (sym (append_assoc (prefix_bits 12) (number_bits n low) rest))

cut_suffix : (n k ones : ℕ) (bits : List Bool) → ones ≤ 12 → length bits < suffix_length n k ones → FooterGivesCode n k (prefix_bits ones ++ bits)
unfolding shape_bits
cut_suffix n k ones bits few short =
    let more = goes_on (suffix_length n k ones) bits short in
    record {
      zeros = ones;
      suffix = more.0;
      missing = more.1;
      rest = more.2;
      few = few;
      cut = ap (λ l. prefix_bits ones ++ l) more.3 ∙ sym (append_assoc (prefix_bits ones) bits (more.1 ∷ more.2));
    }

pub cut_short : (n k ones : ℕ) (bits : List Bool) → ones < 12 → length bits < k → FooterGivesCode n k (prefix_bits ones ++ bits)
unfolding suffix_length
cut_short n k ones bits few short = cut_suffix n k ones bits (omega arith) (rw (lt-ltb ones 12 few) short)

pub cut_escape : (n k : ℕ) (bits : List Bool) → length bits < n → FooterGivesCode n k (prefix_bits 12 ++ bits)
unfolding suffix_length
cut_escape n k bits short = cut_suffix n k 12 bits (omega arith) short

pub cut_prefix : (n k ones : ℕ) (bits : List Bool) → ones < 12 → bits ≡ replicate ones false → FooterGivesCode n k bits
unfolding shape_bits prefix_bits
cut_prefix n k ones bits few same =
    let left : List Bool = replicate (11 - ones) false in
    let whole : replicate 12 false ≡ replicate ones false ++ (false ∷ left) =
    ap (λ m. replicate m false) (let e : 12 ≡ ones + suc (11 - ones) = omega arith in e) ∙ sym (replicate-append-replicate ones (suc (11 - ones)) false) in
    record {
      zeros = 12;
      suffix = 0;
      missing = false;
      rest = left ++ number_bits (suffix_length n k 12) 0;
      few = omega arith;
      cut = ap (λ l. l ++ number_bits (suffix_length n k 12) 0) whole ∙ append_assoc (replicate ones false) (false ∷ left) (number_bits (suffix_length n k 12) 0)
          ∙ ap (λ l. l ++ (false ∷ (left ++ number_bits (suffix_length n k 12) 0))) (sym same);
    }

pub needless : (n k low : ℕ) (old rest : List Bool) → low < 2 ^ n → (low + 11) / 2 ^ k < 12 → old ≡ number_bits n low ++ rest
    → IsNeedlessEscape n k (prefix_bits 12 ++ old)
unfolding shape_bits suffix_length
needless n k low old rest below short spelled = record {
  suffix = low;
  rest = rest;
  fits = below;
  begins = ap (λ l. prefix_bits 12 ++ l) spelled ∙ sym (append_assoc (prefix_bits 12) (number_bits n low) rest);
  short = short;
}

pub large_short : (n k ones low number : ℕ) (old rest : List Bool) → ones < 12 → low < 2 ^ k → number ≡ ones * 2 ^ k + low → 2 ^ n ≤ number
    → old ≡ number_bits k low ++ rest → IsLargeCode n k (prefix_bits ones ++ old)
large_short n k ones low number old rest few below is large spelled =
    let high : number / 2 ^ k ≡ ones = ap (λ m. m / 2 ^ k) is ∙ shr_high ones k low below in
    record { number = number; rest = rest; large = large; fits = inl (omega arith); begins = short_code n k ones low number old rest few below is spelled }

pub large_escape : (n k low number : ℕ) (old rest : List Bool) → low < 2 ^ n → number ≡ low + 11 → 12 ≤ number / 2 ^ k → 2 ^ n ≤ number
    → old ≡ number_bits n low ++ rest → IsLargeCode n k (prefix_bits 12 ++ old)
large_escape n k low number old rest below is long large spelled =
    record { number = number; rest = rest; large = large; fits = inr (omega arith); begins = escape_code n k low number old rest is long spelled }

-- ---- codes from their parts

short_read : (n k ones u : ℕ) (old mid new : Reading) → ones < 12 → u / 2 ^ k ≡ ones → ReadsBits old (prefix_bits ones) mid
    → ReadsBits mid (number_bits k (u % 2 ^ k)) new → ReadsBits old (code_bits n u k) new
unfolding code_bits shape_bits suffix_length
short_read n k ones u old mid new few is first second =
    let less : u / 2 ^ k < 12 = omega arith in
    rw (lt-ltb _ 12 less, is) (ReadsBits-append old mid new (prefix_bits ones) (number_bits k (u % 2 ^ k)) first second)

escape_read : (n k u : ℕ) (old mid new : Reading) → 12 ≤ u / 2 ^ k → ReadsBits old (prefix_bits 12) mid → ReadsBits mid (number_bits n (u - 11)) new
    → ReadsBits old (code_bits n u k) new
unfolding code_bits shape_bits suffix_length
escape_read n k u old mid new long first second =
    rw (le-ltb _ 12 long) (ReadsBits-append old mid new (prefix_bits 12) (number_bits n (u - 11)) first second)

pub short_ok : (n k ones : ℕ) (old mid new : Reading) (read : Result ℕ CodeFault) → ones < 12 → ReadsBits old (prefix_bits ones) mid
    → IfOk read (λ u. u / 2 ^ k ≡ ones) → IfOk read (λ u. ReadsBits mid (number_bits k (u % 2 ^ k)) new) → IfOk read (λ u. ReadsBits old (code_bits n u k) new)
short_ok n k ones old mid new (Ok u) few first is second = short_read n k ones u old mid new few is first second
short_ok n k ones old mid new (Err fault) few first is second = tt

pub escape_ok : (n k ones : ℕ) (old mid new : Reading) (read : Result ℕ CodeFault) → ones ≡ 12 → ReadsBits old (prefix_bits ones) mid
    → IfOk read (λ u. 12 ≤ u / 2 ^ k) → IfOk read (λ u. ReadsBits mid (number_bits n (u - 11)) new) → IfOk read (λ u. ReadsBits old (code_bits n u k) new)
escape_ok n k ones old mid new (Ok u) is first long second = escape_read n k u old mid new long (rw is at first) second
escape_ok n k ones old mid new (Err fault) is first long second = tt
