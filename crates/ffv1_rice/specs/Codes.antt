-- Golomb-Rice codes of sample differences, from a value to its bits (RFC 9043, section 3.8.2.1).
use Rattle.std.specs.Prelude.{◌≡◌, ◌≢◌, ℕ, ◌+◌, ◌-◌, ◌/◌, ◌%◌, ◌^◌, ◌<◌, ◌≤◌, nat_lt, Bool, true, false, ◌&&◌, List, [], ◌∷◌, ◌++◌, replicate, ℤ, pos, ◌-ℤ◌, int_lt, if◌then◌else◌, ◌⊎◌}
use Rattle.ffv1_bits.specs.Bits.{number_bits}
use Rattle.ffv1_bits.specs.Reader.{Reading, ReadsBits}
use Rattle.ffv1_rice.specs.States.{ContextState, IsCodedDepth, IsDifference, IsParameter, code_number}
use Rattle.ffv1_rice.specs.declared.code.CodeFault.{CodeFault}
use Rattle.ffv1_rice.specs.declared.code.CodeFault.TheVariants as faults

-- the prefix: fewer than 12 zeros and a one, or 12 zeros, the escape (section 3.8.2.1.1)
unfoldable pub prefix_bits : ℕ → List Bool
prefix_bits zeros = if nat_lt zeros 12 then replicate zeros false ++ (true ∷ []) else replicate 12 false

-- the suffix has k bits, or the n of the coded depth after an escape (section 3.8.2.1.2)
unfoldable pub suffix_length : ℕ → ℕ → ℕ → ℕ
suffix_length n k zeros = if nat_lt zeros 12 then k else n

-- a prefix and a suffix: what a code can look like
unfoldable pub shape_bits : ℕ → ℕ → ℕ → ℕ → List Bool
shape_bits n k zeros suffix = prefix_bits zeros ++ number_bits (suffix_length n k zeros) suffix

-- the code of the number u at the coded depth n and the parameter k
unfoldable pub code_bits : ℕ → ℕ → ℕ → List Bool
code_bits n u k =
    if nat_lt (u / 2 ^ k) 12
    then shape_bits n k (u / 2 ^ k) (u % 2 ^ k)
    else shape_bits n k 12 (u - 11)

-- The bits are the code of the value of n bits under the state.
pub record SpellsValue (n : ℕ) (state : ContextState) (value : ℤ) (bits : List Bool) : Type 0 where
  pub parameter : ℕ
  pub is_parameter : IsParameter state parameter
  pub same : bits ≡ code_bits n (code_number n state value) parameter

-- The value that a code gives of a difference. A level's difference is never 0, so one above 0 is coded as one less
-- (section 3.8.2.2.2).
abbrev pub decoded_value : Bool → ℤ → ℤ
decoded_value level difference = if level && int_lt (pos 0) difference then difference -ℤ pos 1 else difference

-- A code of the depth n can give this difference.
abbrev pub IsCodedDifference : ℕ → Bool → ℤ → Type 0
IsCodedDifference n level difference = IsDifference n difference × (level ≡ true → difference ≢ pos 0)

-- From one reading to another the difference's code was read.
pub record IsCoded (n : ℕ) (state : ContextState) (level : Bool) (difference : ℤ) (old new : Reading) : Type 0 where
  pub code : List Bool
  pub spells : SpellsValue n state (decoded_value level difference) code
  pub reads : ReadsBits old code new

-- ---- bits at which no code can be read

-- The bits end within a code.
pub record FooterGivesCode (n k : ℕ) (bits : List Bool) : Type 0 where
  pub zeros : ℕ
  pub suffix : ℕ
  pub missing : Bool
  pub rest : List Bool
  pub few : zeros ≤ 12
  pub cut : shape_bits n k zeros suffix ≡ bits ++ (missing ∷ rest)

-- They begin with an escape for a number that has the shorter form.
pub record IsNeedlessEscape (n k : ℕ) (bits : List Bool) : Type 0 where
  pub suffix : ℕ
  pub rest : List Bool
  pub fits : suffix < 2 ^ n
  pub begins : bits ≡ shape_bits n k 12 suffix ++ rest
  pub short : (suffix + 11) / 2 ^ k < 12

-- They begin with the code of a number of more than n bits, in either form.
pub record IsLargeCode (n k : ℕ) (bits : List Bool) : Type 0 where
  pub number : ℕ
  pub rest : List Bool
  pub large : 2 ^ n ≤ number
  pub fits : (number / 2 ^ k < 12) ⊎ (number < 2 ^ n + 11)
  pub begins : bits ≡ code_bits n number k ++ rest

-- They begin with the code of a level of 2^(n-1), which no sample has.
pub record IsLargeLevel (n : ℕ) (state : ContextState) (level : Bool) (bits : List Bool) : Type 0 where
  pub is_level : level ≡ true
  pub code : List Bool
  pub rest : List Bool
  pub spells : SpellsValue n state (pos (2 ^ (n - 1) - 1)) code
  pub begins : bits ≡ code ++ rest

-- the faults of a code under a state
abbrev pub IsCodeFault : ℕ → ContextState → Bool → List Bool → CodeFault → Type 0
IsCodeFault n state level bits faults.Truncated = (k : ℕ) × IsParameter state k × FooterGivesCode n k bits
IsCodeFault n state level bits faults.EscapeNotNeeded = (k : ℕ) × IsParameter state k × IsNeedlessEscape n k bits
IsCodeFault n state level bits faults.CodeTooLarge = (k : ℕ) × IsParameter state k × IsLargeCode n k bits
IsCodeFault n state level bits faults.LevelTooLarge = IsLargeLevel n state level bits

-- ---- laws

-- No bits begin with the codes of two values of a state, nor with two codes of one.
abbrev pub CodesAreOne : Type 0
CodesAreOne =
    (n : ℕ) (state : ContextState) (v w : ℤ) (code other rest more : List Bool) → IsCodedDepth n → IsDifference n v → IsDifference n w
    → SpellsValue n state v code → SpellsValue n state w other → code ++ rest ≡ other ++ more → (v ≡ w) × (rest ≡ more)

-- Where bits have a fault, no difference has a code.
abbrev pub FaultsExcludeCodes : Type 0
FaultsExcludeCodes =
    (n : ℕ) (state : ContextState) (level : Bool) (fault : CodeFault) (difference : ℤ) (bits code rest : List Bool) → IsCodedDepth n
    → IsCodeFault n state level bits fault → IsCodedDifference n level difference
    → SpellsValue n state (decoded_value level difference) code → bits ≡ code ++ rest → ⊥

-- No bits have two faults.
abbrev pub FaultsAreOne : Type 0
FaultsAreOne =
    (n : ℕ) (state : ContextState) (level : Bool) (bits : List Bool) (fault other : CodeFault) → IsCodedDepth n
    → IsCodeFault n state level bits fault → IsCodeFault n state level bits other → fault ≡ other
