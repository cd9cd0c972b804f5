-- No bits begin with the bits of two runs, nor with two words.
use Rattle.std.proofs.Common.{◌≡◌, ℕ, ◌+◌, ◌-◌, ◌<◌, ◌≤◌, Bool, true, false, List, [], ◌∷◌, ◌++◌, refl, sym, ap, ◌∙◌, arith, length, length-append, ⊎_elim}
use Rattle.std.proofs.Math.Nat.{one-le-pow}
use Rattle.ffv1_bits.specs.Bits.{number_bits}
use Rattle.ffv1_bits.proofs.Numbers.{one_number, length-number_bits}
use Rattle.ffv1_bits.specs.Reader.{Reading}
use Rattle.ffv1_rice.specs.declared.run.RunWord.{RunWord}
use Rattle.ffv1_rice.specs.declared.run.RunWord.TheVariants.{Full, Rest, ToEnd}
use Rattle.ffv1_rice.specs.Runs.{SpellsRun, line_end, whole, rest, over_end, long_rest, run_exponent, whole_length, IsRunWord, IsRead, IsShortWord, RunsAreOne, WordsAreOne, CutsExcludeRuns}

pub whole_length_pos : (i : ℕ) → 0 < whole_length i
whole_length_pos i = one-le-pow (run_exponent i) 2 (omega arith)

run_alike : {m n left room i next then : ℕ} {bits words : List Bool} (others more : List Bool) → left ≡ room → SpellsRun m left i bits next
    → SpellsRun n room i words then → bits ++ others ≡ words ++ more → (m ≡ n) × (next ≡ then) × (others ≡ more)
run_alike others more e (line_end a b c d) (line_end p q r s) same = (omega arith, omega arith, cc)
run_alike {i = i} others more e (line_end a b c d) (whole m room tail p q r s) same = absurd (omega (arith, whole_length_pos i))
run_alike others more e (line_end a b c d) (rest p q r s) same = absurd (omega arith)
run_alike others more e (line_end a b c d) (over_end p q r s t) same = absurd (omega arith)
run_alike others more e (line_end a b c d) (long_rest given p q r s t u) same = absurd (omega arith)
run_alike {i = i} others more e (whole m room tail a b c d) (line_end p q r s) same = absurd (omega (arith, whole_length_pos i))
run_alike others more e (whole m room tail a b c d) (whole n place words p q r s) same =
    let later : tail ++ others ≡ words ++ more = cc in
    let ind = run_alike others more (let h : room ≡ place = omega arith in h) d s later in
    (omega (arith, ind.0), ind.1, ind.2)
run_alike others more e (whole m room tail a b c d) (rest p q r s) same = absurd cc
run_alike others more e (whole m room tail a b c d) (over_end p q r s t) same = absurd (omega arith)
run_alike others more e (whole m room tail a b c d) (long_rest given p q r s t u) same = absurd cc
run_alike others more e (rest a b c d) (line_end p q r s) same = absurd (omega arith)
run_alike others more e (rest a b c d) (whole m room tail p q r s) same = absurd cc
run_alike {m = m} {n = n} {i = i} others more e (rest a b c d) (rest p q r s) same =
    let later : number_bits (run_exponent i) m ++ others ≡ number_bits (run_exponent i) n ++ more = cc in
    let one = one_number (run_exponent i) m n others more a p later in
    (one.0, omega arith, one.1)
run_alike others more e (rest a b c d) (over_end p q r s t) same = absurd cc
run_alike {m = m} {i = i} others more e (rest a b c d) (long_rest given p q r s t u) same =
    let later : number_bits (run_exponent i) m ++ others ≡ number_bits (run_exponent i) given ++ more = cc in
    let one = one_number (run_exponent i) m given others more a q later in
    absurd (omega (arith, one.0))
run_alike others more e (over_end a b c d f) (line_end p q r s) same = absurd (omega arith)
run_alike others more e (over_end a b c d f) (whole m room tail p q r s) same = absurd (omega arith)
run_alike others more e (over_end a b c d f) (rest p q r s) same = absurd cc
run_alike others more e (over_end a b c d f) (over_end p q r s t) same = (omega arith, omega arith, cc)
run_alike others more e (over_end a b c d f) (long_rest given p q r s t u) same = absurd cc
run_alike others more e (long_rest given a b c d f g) (line_end p q r s) same = absurd (omega arith)
run_alike others more e (long_rest given a b c d f g) (whole m room tail p q r s) same = absurd cc
run_alike {n = n} {i = i} others more e (long_rest given a b c d f g) (rest p q r s) same =
    let later : number_bits (run_exponent i) given ++ others ≡ number_bits (run_exponent i) n ++ more = cc in
    let one = one_number (run_exponent i) given n others more b p later in
    absurd (omega (arith, one.0))
run_alike others more e (long_rest given a b c d f g) (over_end p q r s t) same = absurd cc
run_alike {i = i} others more e (long_rest given a b c d f g) (long_rest most p q r s t u) same =
    let later : number_bits (run_exponent i) given ++ others ≡ number_bits (run_exponent i) most ++ more = cc in
    let one = one_number (run_exponent i) given most others more b q later in
    (omega arith, omega arith, one.1)

cut_no_run : {n left i next : ℕ} {run : List Bool} (bits others : List Bool) → 0 < left → SpellsRun n left i run next → bits ≡ run ++ others
    → IsShortWord i bits → ⊥
cut_no_run [] others some (line_end a b c d) is cut = omega arith
cut_no_run [] others some (whole m room tail a b c d) is cut = cc
cut_no_run [] others some (rest a b c d) is cut = cc
cut_no_run [] others some (over_end a b c d e) is cut = cc
cut_no_run [] others some (long_rest t a b c d e f) is cut = cc
cut_no_run (true ∷ bits) others some run is cut = cut
cut_no_run (false ∷ bits) others some (line_end a b c d) is cut = omega arith
cut_no_run (false ∷ bits) others some (whole m room tail a b c d) is cut = cc
cut_no_run {n = n} {i = i} (false ∷ bits) others some (rest a b c d) is cut =
    let later : bits ≡ number_bits (run_exponent i) n ++ others = cc in
    omega (arith, cut, ap length later, length-append (number_bits (run_exponent i) n) others, length-number_bits (run_exponent i) n)
cut_no_run (false ∷ bits) others some (over_end a b c d e) is cut = cc
cut_no_run {i = i} (false ∷ bits) others some (long_rest given a b c d e f) is cut =
    let later : bits ≡ number_bits (run_exponent i) given ++ others = cc in
    omega (arith, cut, ap length later, length-append (number_bits (run_exponent i) given) others, length-number_bits (run_exponent i) given)

pub one_run : RunsAreOne
one_run m n left i next last bits other after more run also same = run_alike after more refl run also same

-- ---- words

-- the four ways to spell a word
data IsFormOf (left i : ℕ) : RunWord → List Bool → ℕ → Type 0 where
  full_one : {word : RunWord} {bits : List Bool} {next : ℕ} → whole_length i ≤ left → word ≡ Full (whole_length i) → bits ≡ true ∷ [] → next ≡ i + 1
      → IsFormOf left i word bits next
  end_one : {word : RunWord} {bits : List Bool} {next : ℕ} → left < whole_length i → word ≡ ToEnd → bits ≡ true ∷ [] → next ≡ i → IsFormOf left i word bits next
  rest_given : {word : RunWord} {bits : List Bool} {next : ℕ} (given : ℕ) → given < whole_length i → given < left → word ≡ Rest given
      → bits ≡ false ∷ number_bits (run_exponent i) given → next ≡ i - 1 → IsFormOf left i word bits next
  end_given : {word : RunWord} {bits : List Bool} {next : ℕ} (given : ℕ) → given < whole_length i → left ≤ given → word ≡ ToEnd
      → bits ≡ false ∷ number_bits (run_exponent i) given → next ≡ i - 1 → IsFormOf left i word bits next

form_of : (left i next : ℕ) (word : RunWord) (bits : List Bool) → IsRunWord left i word bits next → IsFormOf left i word bits next
form_of left i next (Full n) bits is = full_one (omega (arith, is.0, is.1)) (ap Full is.0) is.2 is.3
form_of left i next (Rest n) bits is = rest_given n is.0 is.1 refl is.2 is.3
form_of left i next ToEnd bits is =
    ⊎_elim (λ one. end_one one.0 refl one.1 one.2) (λ given. end_given given.0 given.2 given.1 refl given.3 given.4) is

one_form : (left i next last : ℕ) (word another : RunWord) (bits other after more : List Bool) → IsFormOf left i word bits next
    → IsFormOf left i another other last → bits ++ after ≡ other ++ more → (word ≡ another) × (next ≡ last) × (after ≡ more)
one_form left i next last word another bits other after more (full_one a b c d) (full_one p q r s) same = (cc, omega arith, cc)
one_form left i next last word another bits other after more (full_one a b c d) (end_one p q r s) same = absurd (omega arith)
one_form left i next last word another bits other after more (full_one a b c d) (rest_given n p q r s t) same = absurd cc
one_form left i next last word another bits other after more (full_one a b c d) (end_given n p q r s t) same = absurd cc
one_form left i next last word another bits other after more (end_one a b c d) (full_one p q r s) same = absurd (omega arith)
one_form left i next last word another bits other after more (end_one a b c d) (end_one p q r s) same = (cc, omega arith, cc)
one_form left i next last word another bits other after more (end_one a b c d) (rest_given n p q r s t) same = absurd cc
one_form left i next last word another bits other after more (end_one a b c d) (end_given n p q r s t) same = absurd cc
one_form left i next last word another bits other after more (rest_given m a b c d e) (full_one p q r s) same = absurd cc
one_form left i next last word another bits other after more (rest_given m a b c d e) (end_one p q r s) same = absurd cc
one_form left i next last word another bits other after more (rest_given m a b c d e) (rest_given n p q r s t) same =
    let later : number_bits (run_exponent i) m ++ after ≡ number_bits (run_exponent i) n ++ more = cc in
    let one = one_number (run_exponent i) m n after more a p later in
    (c ∙ ap Rest one.0 ∙ sym r, omega arith, one.1)
one_form left i next last word another bits other after more (rest_given m a b c d e) (end_given n p q r s t) same =
    let later : number_bits (run_exponent i) m ++ after ≡ number_bits (run_exponent i) n ++ more = cc in
    let one = one_number (run_exponent i) m n after more a p later in
    absurd (omega (arith, one.0))
one_form left i next last word another bits other after more (end_given m a b c d e) (full_one p q r s) same = absurd cc
one_form left i next last word another bits other after more (end_given m a b c d e) (end_one p q r s) same = absurd cc
one_form left i next last word another bits other after more (end_given m a b c d e) (rest_given n p q r s t) same =
    let later : number_bits (run_exponent i) m ++ after ≡ number_bits (run_exponent i) n ++ more = cc in
    let one = one_number (run_exponent i) m n after more a p later in
    absurd (omega (arith, one.0))
one_form left i next last word another bits other after more (end_given m a b c d e) (end_given n p q r s t) same =
    let later : number_bits (run_exponent i) m ++ after ≡ number_bits (run_exponent i) n ++ more = cc in
    let one = one_number (run_exponent i) m n after more a p later in
    (c ∙ sym r, omega arith, one.1)

pub one_word : WordsAreOne
one_word left i next last word another bits other after more is also same =
    one_form left i next last word another bits other after more (form_of left i next word bits is) (form_of left i last another other also) same

-- ---- cut words

too_few : (i given : ℕ) (bits after : List Bool) → bits ≡ number_bits (run_exponent i) given ++ after → length bits < run_exponent i → ⊥
too_few i given bits after later cut =
    omega (arith, cut, ap length later, length-append (number_bits (run_exponent i) given) after, length-number_bits (run_exponent i) given)

no_form_when_cut : (left i next : ℕ) (word : RunWord) (bits spelled after : List Bool) → IsShortWord i bits → IsFormOf left i word spelled next
    → bits ≡ spelled ++ after → ⊥
no_form_when_cut left i next word [] spelled after cut (full_one a b c d) is = cc
no_form_when_cut left i next word [] spelled after cut (end_one a b c d) is = cc
no_form_when_cut left i next word [] spelled after cut (rest_given n a b c d e) is = cc
no_form_when_cut left i next word [] spelled after cut (end_given n a b c d e) is = cc
no_form_when_cut left i next word (true ∷ bits) spelled after cut form is = cut
no_form_when_cut left i next word (false ∷ bits) spelled after cut (full_one a b c d) is = cc
no_form_when_cut left i next word (false ∷ bits) spelled after cut (end_one a b c d) is = cc
no_form_when_cut left i next word (false ∷ bits) spelled after cut (rest_given n a b c d e) is =
    too_few i n bits after (let later : bits ≡ number_bits (run_exponent i) n ++ after = cc in later) cut
no_form_when_cut left i next word (false ∷ bits) spelled after cut (end_given n a b c d e) is =
    too_few i n bits after (let later : bits ≡ number_bits (run_exponent i) n ++ after = cc in later) cut

pub no_run_when_cut : CutsExcludeRuns
no_run_when_cut = record {
  no_word = λ left i next word bits spelled after cut is same. no_form_when_cut left i next word bits spelled after cut
      (form_of left i next word spelled is) same;
  no_run = λ n left i next bits run after some cut spells same. cut_no_run bits after some spells same cut;
}

-- ---- readings

pub same_word : (left i next last : ℕ) (word another : RunWord) (old new after : Reading) → IsRead left i word old next new
    → IsRead left i another old last after → word ≡ another
same_word left i next last word another old new after a b =
    let one = one_word left i next last word another a.spelled b.spelled new.left after.left a.is_word b.is_word (sym a.reads.begins ∙ b.reads.begins) in
    one.0

pub no_read_when_cut : (left i next : ℕ) (word : RunWord) (old after : Reading) → IsShortWord i old.left → IsRead left i word old next after → ⊥
no_read_when_cut left i next word old after cut is = no_run_when_cut.no_word left i next word old.left is.spelled after.left cut is.is_word is.reads.begins
