-- The table of run lengths, and the words of runs.
use Rattle.std.proofs.Common.{⊎_elim, ◌++◌, ◌≡◌, ℕ, zero, suc, ◌+◌, ◌-◌, ◌*◌, ◌%◌, ◌^◌, ◌<◌, ◌≤◌, Bool, true, false, List, [], ◌∷◌, length, take, get_or, subst, refl, sym, ap, ◌∙◌, arith, inl, inr, cond, leb}
use Rattle.std.proofs.lemmas.List.{get_or-take}
use Rattle.std.proofs.Math.Nat.{mod-eq_of_lt}
use Rattle.std.proofs.Math.Pow.{pow_mono}
use Rattle.ffv1_bits.specs.Limits.{greatest_run_index}
use Rattle.ffv1_bits.specs.Bits.{number_bits}
use Rattle.ffv1_bits.specs.Reader.{Reading, ReadsBits}
use Rattle.ffv1_bits.proofs.Places.{ReadsBits-append}
use Rattle.ffv1_rice.specs.declared.run.RunWord.TheVariants.{Full, Rest, ToEnd}
use Rattle.ffv1_rice.specs.Runs.{IsRunWord, SpellsRun, whole, rest, over_end, long_rest, WordsSpellRuns, IsRead, IsShortWord, run_exponent, whole_length, log2_run}

-- ---- the table

-- all are at most m
are_low : ℕ → List ℕ → Bool
are_low m [] = true
are_low m (x ∷ xs) = cond (leb x m) (are_low m xs) false

low_at : (m : ℕ) (xs : List ℕ) (i : ℕ) → are_low m xs ≡ true → get_or xs i 0 ≤ m
unfolding are_low
low_at m [] i h = omega arith
low_at m (x ∷ xs) zero h = grind arith
low_at m (x ∷ xs) (suc i) h = low_at m xs i (grind arith)

pub exponent_low : (i : ℕ) → i ≤ greatest_run_index → run_exponent i ≤ 16
unfolding run_exponent are_low
exponent_low i h =
    let below : i < 33 = omega arith in
    let low : get_or (take 33 log2_run) i 0 ≤ 16 = low_at 16 (take 33 log2_run) i refl in
    rw get_or-take at low

-- 1 << e
shifted : (e : ℕ) → e ≤ 16 → (1 * 2 ^ e) % 4294967296 ≡ 2 ^ e
shifted e h = let p : 2 ^ e ≤ 2 ^ 16 = pow_mono h in let q : 1 * 2 ^ e ≡ 2 ^ e = omega arith in rw q (mod-eq_of_lt (omega arith))

-- ---- what the four ends of a reading give

pub full_word : (left i e length : ℕ) (old new : Reading) → e ≡ run_exponent i → e ≤ 16 → length ≡ (1 * 2 ^ e) % 4294967296 → length ≤ left
    → ReadsBits old (true ∷ []) new → IsRead left i (Full length) old (i + 1) new
full_word left i e length old new is low same fits reads = record {
  spelled = true ∷ [];
  is_word = (same ∙ shifted e low ∙ ap (λ k. 2 ^ k) is, fits, refl, refl);
  reads = reads;
}

pub end_word : (left i e : ℕ) (old new : Reading) → e ≡ run_exponent i → e ≤ 16 → left < (1 * 2 ^ e) % 4294967296 → ReadsBits old (true ∷ []) new
    → IsRead left i ToEnd old i new
end_word left i e old new is low past reads =
    let length : (1 * 2 ^ e) % 4294967296 ≡ whole_length i = shifted e low ∙ ap (λ k. 2 ^ k) is in
    record { spelled = true ∷ []; is_word = inl (rw length at past, refl, refl); reads = reads }

zero_and_number : (i e n : ℕ) (old mid new : Reading) → e ≡ run_exponent i → ReadsBits old (false ∷ []) mid → ReadsBits mid (number_bits e n) new
    → ReadsBits old (false ∷ number_bits (run_exponent i) n) new
zero_and_number i e n old mid new is first number =
    rw (← is) (ReadsBits-append old mid new (false ∷ []) (number_bits e n) first number)

pub rest_word : (left i e n : ℕ) (old mid new : Reading) → e ≡ run_exponent i → n < 2 ^ e → n < left → ReadsBits old (false ∷ []) mid
    → ReadsBits mid (number_bits e n) new → IsRead left i (Rest n) old (i - 1) new
rest_word left i e n old mid new is fits less first number =
    let fits' : n < whole_length i = rw is at fits in
    record { spelled = false ∷ number_bits (run_exponent i) n; is_word = (fits', less, refl, refl); reads = zero_and_number i e n old mid new is first number }

pub long_word : (left i e n : ℕ) (old mid new : Reading) → e ≡ run_exponent i → n < 2 ^ e → left ≤ n → ReadsBits old (false ∷ []) mid
    → ReadsBits mid (number_bits e n) new → IsRead left i ToEnd old (i - 1) new
long_word left i e n old mid new is fits more first number =
    let fits' : n < whole_length i = rw is at fits in
    record {
      spelled = false ∷ number_bits (run_exponent i) n;
      is_word = inr (n, more, fits', refl, refl);
      reads = zero_and_number i e n old mid new is first number;
    }

-- ---- what a zero with too few bits after it is

pub cut_number : (i e : ℕ) (old mid : Reading) → e ≡ run_exponent i → ReadsBits old (false ∷ []) mid → length mid.left < e → IsShortWord i old.left
cut_number i e old mid is first short =
    let P : List Bool → Type 0 = IsShortWord i in
    subst P (sym first.begins) (rw is at short)

-- ---- the words of a run

full_first : (m n left i mid next : ℕ) (bits more : List Bool) → IsRunWord left i (Full m) bits mid → SpellsRun n (left - m) mid more next
    → SpellsRun (m + n) left i (bits ++ more) next
full_first m n left i mid next bits more is run =
    let later : SpellsRun n (left - m) (i + 1) more next = rw is.3 at run in
    whole n (left - m) more (ap (λ k. k + n) is.0) (omega (arith, is.0, is.1)) (ap (λ l. l ++ more) is.2) later

end_of_run : (left i next : ℕ) (bits : List Bool) → 0 < left → IsRunWord left i ToEnd bits next → SpellsRun left left i bits next
end_of_run left i next bits some is =
    ⊎_elim
    (λ one. over_end one.0 some refl one.1 one.2)
    (λ given. long_rest given.0 given.1 given.2 some refl given.3 given.4)
    is

pub spelled_by_words : WordsSpellRuns
spelled_by_words = record {
  full = full_first;
  rest = λ n left i next bits is. rest is.0 is.1 is.2 is.3;
  to_end = end_of_run;
}
