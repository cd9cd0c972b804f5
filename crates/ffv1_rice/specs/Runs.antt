-- Runs of samples with difference 0, from their length to their bits (RFC 9043, section 3.8.2.2.1).
use Rattle.std.specs.Prelude.{◌≡◌, ℕ, ◌+◌, ◌-◌, ◌^◌, ◌<◌, ◌≤◌, Bool, true, false, List, [], ◌∷◌, ◌++◌, length, get_or, ◌⊎◌}
use Rattle.ffv1_bits.specs.Bits.{number_bits}
use Rattle.ffv1_bits.specs.Reader.{Reading, ReadsBits}
use Rattle.ffv1_rice.specs.declared.run.RunWord.{RunWord}
use Rattle.ffv1_rice.specs.declared.run.RunWord.TheVariants.{Full, Rest, ToEnd}

-- the exponent of a whole length at each run index
abbrev pub log2_run : List ℕ
log2_run =
    0 ∷ 0 ∷ 0 ∷ 0 ∷ 1 ∷ 1 ∷ 1 ∷ 1 ∷ 2 ∷ 2 ∷ 2 ∷ 2 ∷ 3 ∷ 3 ∷ 3 ∷ 3
    ∷ 4 ∷ 4 ∷ 5 ∷ 5 ∷ 6 ∷ 6 ∷ 7 ∷ 7 ∷ 8 ∷ 9 ∷ 10 ∷ 11 ∷ 12 ∷ 13 ∷ 14 ∷ 15
    ∷ 16 ∷ 17 ∷ 18 ∷ 19 ∷ 20 ∷ 21 ∷ 22 ∷ 23 ∷ 24 ∷ []

unfoldable pub run_exponent : ℕ → ℕ
run_exponent index = get_or log2_run index 0

abbrev pub whole_length : ℕ → ℕ
whole_length index = 2 ^ run_exponent index

-- ---- whole runs

-- SpellsRun n left i bits next: n samples with difference 0, in a line with left samples to come, have these bits at
-- the run index i, which leave the index at next.
pub data SpellsRun : ℕ → ℕ → ℕ → List Bool → ℕ → Type 0 where
  -- the line has ended
  line_end : {n left i next : ℕ} {bits : List Bool} → n ≡ 0 → left ≡ 0 → bits ≡ [] → next ≡ i → SpellsRun n left i bits next
  -- a one stands for a whole length, and the index rises
  whole : {n left i next : ℕ} {bits : List Bool} (m room : ℕ) (others : List Bool) → n ≡ whole_length i + m → left ≡ whole_length i + room
      → bits ≡ true ∷ others → SpellsRun m room (i + 1) others next → SpellsRun n left i bits next
  -- a zero and the number of samples, where the line goes on; the index falls
  rest : {n left i next : ℕ} {bits : List Bool} → n < whole_length i → n < left → bits ≡ false ∷ number_bits (run_exponent i) n → next ≡ i - 1
      → SpellsRun n left i bits next
  -- up to the line's end: a one that stands for more than is left, and the index stays ..
  over_end : {n left i next : ℕ} {bits : List Bool} → n < whole_length i → 0 < n → n ≡ left → bits ≡ true ∷ [] → next ≡ i → SpellsRun n left i bits next
  -- .. or a zero and any number from there up, and the index falls
  long_rest : {n left i next : ℕ} {bits : List Bool} (given : ℕ) → left ≤ given → given < whole_length i → 0 < n → n ≡ left
      → bits ≡ false ∷ number_bits (run_exponent i) given → next ≡ i - 1 → SpellsRun n left i bits next

-- ---- the words of a run

-- IsRunWord left i word bits next: the bits are this word of a run, in a line with left samples to come, at the run
-- index i, and leave the index at next.
abbrev pub IsRunWord : ℕ → ℕ → RunWord → List Bool → ℕ → Type 0
IsRunWord left i (Full n) bits next = (n ≡ whole_length i) × (n ≤ left) × (bits ≡ true ∷ []) × (next ≡ i + 1)
IsRunWord left i (Rest n) bits next = (n < whole_length i) × (n < left) × (bits ≡ false ∷ number_bits (run_exponent i) n) × (next ≡ i - 1)
IsRunWord left i ToEnd bits next =
    ((left < whole_length i) × (bits ≡ true ∷ []) × (next ≡ i))
    ⊎ ((given : ℕ) × (left ≤ given) × (given < whole_length i) × (bits ≡ false ∷ number_bits (run_exponent i) given) × (next ≡ i - 1))

-- From one reading to another the word was read.
pub record IsRead (left index : ℕ) (word : RunWord) (old : Reading) (next : ℕ) (new : Reading) : Type 0 where
  pub spelled : List Bool
  pub is_word : IsRunWord left index word spelled next
  pub reads : ReadsBits old spelled new

-- The bits end within a word: there are none, or a zero and too few bits after it.
abbrev pub IsShortWord : ℕ → List Bool → Type 0
IsShortWord i [] = Unit {0}
IsShortWord i (true ∷ bits) = ⊥
IsShortWord i (false ∷ bits) = length bits < run_exponent i

-- ---- laws

-- No bits begin with the bits of two runs, nor with two spellings of one.
abbrev pub RunsAreOne : Type 0
RunsAreOne =
    (m n left i next last : ℕ) (bits other rest more : List Bool) → SpellsRun m left i bits next → SpellsRun n left i other last
    → bits ++ rest ≡ other ++ more → (m ≡ n) × (next ≡ last) × (rest ≡ more)

-- No bits begin with two words.
abbrev pub WordsAreOne : Type 0
WordsAreOne =
    (left i next last : ℕ) (word another : RunWord) (bits other rest more : List Bool)
    → IsRunWord left i word bits next → IsRunWord left i another other last
    → bits ++ rest ≡ other ++ more → (word ≡ another) × (next ≡ last) × (rest ≡ more)

-- A whole length and a run after it are a run, and so is a word that ends one.
pub record WordsSpellRuns : Type 0 where
  pub full : (m n left i mid next : ℕ) (bits more : List Bool) → IsRunWord left i (Full m) bits mid → SpellsRun n (left - m) mid more next
      → SpellsRun (m + n) left i (bits ++ more) next
  pub rest : (n left i next : ℕ) (bits : List Bool) → IsRunWord left i (Rest n) bits next → SpellsRun n left i bits next
  pub to_end : (left i next : ℕ) (bits : List Bool) → 0 < left → IsRunWord left i ToEnd bits next → SpellsRun left left i bits next

-- Where the bits end within a word, no word is there and no run.
pub record CutsExcludeRuns : Type 0 where
  pub no_word : (left i next : ℕ) (word : RunWord) (bits spelled rest : List Bool) → IsShortWord i bits → IsRunWord left i word spelled next
      → bits ≡ spelled ++ rest → ⊥
  pub no_run : (n left i next : ℕ) (bits run rest : List Bool) → 0 < left → IsShortWord i bits → SpellsRun n left i run next → bits ≡ run ++ rest → ⊥
