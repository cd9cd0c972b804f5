-- Where bits have a fault no code is there, and it is one.
use Rattle.std.proofs.Common.{◌≡◌, ℕ, ◌+◌, ◌*◌, ◌-◌, ◌/◌, ◌^◌, ◌<◌, ◌≤◌, Bool, true, List, ◌∷◌, ◌++◌, length, length-append, refl, sym, ap, subst, ◌∙◌, arith, ltb, cond, append_assoc, ◌⊎◌, inl, inr, ⊎_elim, ℤ, pos}
use Rattle.std.proofs.lemmas.Int.{ints}
use Rattle.ffv1_bits.specs.Bits.{number_bits}
use Rattle.ffv1_bits.specs.Reader.{Reading}
use Rattle.ffv1_bits.proofs.Numbers.{length-number_bits}
use Rattle.ffv1_rice.proofs.Depths.{powers}
use Rattle.ffv1_rice.proofs.OneNumber.{Parts, parts_of, small_parts, one_prefix, one_shape, one_number_code_of}
use Rattle.ffv1_rice.proofs.OneCode.{one_parameter, one_value, small_code, decoded_range, decoded_low, IsValueRead, decoded_alike}
use Rattle.ffv1_rice.specs.States.{ContextState, IsCodedDepth, IsDifference, IsParameter, code_number}
use Rattle.ffv1_rice.specs.Codes.{prefix_bits, suffix_length, shape_bits, code_bits, SpellsValue, decoded_value, IsCoded, IsCodedDifference, FooterGivesCode, IsNeedlessEscape, IsLargeCode, IsLargeLevel, IsCodeFault, FaultsExcludeCodes, FaultsAreOne}
use Rattle.ffv1_rice.specs.Inner.Codes.{IsNumberFault}
use Rattle.ffv1_rice.specs.declared.code.CodeFault.{CodeFault}
use Rattle.ffv1_rice.specs.declared.code.CodeFault.TheVariants as faults

-- ---- faults of numbers

large_parts : (n k : ℕ) (bits : List Bool) (fault : IsLargeCode n k bits) → Parts n k fault.number
large_parts n k bits fault = parts_of n k fault.number fault.fits

-- bits that end within a shape begin with none
no_shape_cut : (n k ones low : ℕ) (bits rest : List Bool) → ones ≤ 12 → bits ≡ shape_bits n k ones low ++ rest → FooterGivesCode n k bits → ⊥
unfolding shape_bits
no_shape_cut n k ones low bits rest few is cut =
    let later : List Bool = rest ++ (cut.missing ∷ cut.rest) in
    let whole : shape_bits n k cut.zeros cut.suffix ≡ shape_bits n k ones low ++ later =
    cut.cut ∙ ap (λ l. l ++ (cut.missing ∷ cut.rest)) is ∙ append_assoc (shape_bits n k ones low) rest (cut.missing ∷ cut.rest) in
    let joined : prefix_bits cut.zeros ++ number_bits (suffix_length n k cut.zeros) cut.suffix ≡ prefix_bits ones ++
    (number_bits (suffix_length n k ones) low ++ later) =
    whole ∙ append_assoc (prefix_bits ones) (number_bits (suffix_length n k ones) low) later in
    let one = one_prefix cut.zeros ones _ _ cut.few few joined in
    let lengths : length (number_bits (suffix_length n k cut.zeros) cut.suffix) ≡ length (number_bits (suffix_length n k ones) low ++ later) = ap length one.1 in
    let widths : suffix_length n k cut.zeros ≡ suffix_length n k ones = ap (suffix_length n k) one.0 in
    omega (
      arith,
      lengths,
      widths,
      length-number_bits (suffix_length n k cut.zeros) cut.suffix,
      length-number_bits (suffix_length n k ones) low,
      length-append (number_bits (suffix_length n k ones) low) later,
      length-append rest (cut.missing ∷ cut.rest),
    )

-- .. and with no number's code
no_code_cut : (n k u : ℕ) (bits rest : List Bool) → Parts n k u → bits ≡ code_bits n u k ++ rest → FooterGivesCode n k bits → ⊥
no_code_cut n k u bits rest a is cut = no_shape_cut n k a.ones a.low bits rest a.few (is ∙ ap (λ l. l ++ rest) a.is_code) cut

-- a needless escape is no number's code
no_code_needless : (n k u : ℕ) (bits rest : List Bool) → Parts n k u → bits ≡ code_bits n u k ++ rest → IsNeedlessEscape n k bits → ⊥
unfolding suffix_length
no_code_needless n k u bits rest a is fault =
    let whole : shape_bits n k 12 fault.suffix ++ fault.rest ≡ shape_bits n k a.ones a.low ++ rest = sym fault.begins ∙ is ∙ ap (λ l. l ++ rest) a.is_code in
    let one = one_shape n k 12 a.ones fault.suffix a.low fault.rest rest (omega arith) a.few fault.fits a.fits whole in
    let number : fault.suffix + 11 ≡ u = ap (λ z. z + 11) one.1 ∙ ap (λ z. cond (ltb z 12) (z * 2 ^ k + a.low) (a.low + 11)) one.0 ∙ a.number in
    let same : (fault.suffix + 11) / 2 ^ k ≡ u / 2 ^ k = ap (λ n. n / 2 ^ k) number in
    let long : 12 ≤ u / 2 ^ k = a.escaped (omega (arith, one.0)) in
    omega (arith, same, long, fault.short)

-- the code of a number of more bits is no number's of n bits
no_code_large : (n k u : ℕ) (bits rest : List Bool) → u < 2 ^ n → bits ≡ code_bits n u k ++ rest → IsLargeCode n k bits → ⊥
no_code_large n k u bits rest small is fault =
    let one = one_number_code_of n k fault.number u fault.rest rest (large_parts n k bits fault) (small_parts n k u small) (sym fault.begins ∙ is) in
    omega (arith, one.0, fault.large)

-- where bits have the fault of a number, no code of a number of n bits is there
no_number_at_fault : (n k u : ℕ) (bits rest : List Bool) (fault : CodeFault) → u < 2 ^ n → bits ≡ code_bits n u k ++ rest → IsNumberFault n k bits fault → ⊥
no_number_at_fault n k u bits rest faults.Truncated small is given = no_code_cut n k u bits rest (small_parts n k u small) is given
no_number_at_fault n k u bits rest faults.EscapeNotNeeded small is given = no_code_needless n k u bits rest (small_parts n k u small) is given
no_number_at_fault n k u bits rest faults.CodeTooLarge small is given = no_code_large n k u bits rest small is given
no_number_at_fault n k u bits rest faults.LevelTooLarge small is given = given

-- a number has one fault
one_number_fault : (n k : ℕ) (bits : List Bool) (fault other : CodeFault) → IsNumberFault n k bits fault → IsNumberFault n k bits other → fault ≡ other
one_number_fault n k bits faults.Truncated faults.Truncated a b = refl
one_number_fault n k bits faults.Truncated faults.EscapeNotNeeded a b = absurd (no_shape_cut n k 12 b.suffix bits b.rest (omega arith) b.begins a)
one_number_fault n k bits faults.Truncated faults.CodeTooLarge a b = absurd (no_code_cut n k b.number bits b.rest (large_parts n k bits b) b.begins a)
one_number_fault n k bits faults.EscapeNotNeeded faults.Truncated a b = absurd (no_shape_cut n k 12 a.suffix bits a.rest (omega arith) a.begins b)
one_number_fault n k bits faults.EscapeNotNeeded faults.EscapeNotNeeded a b = refl
one_number_fault n k bits faults.EscapeNotNeeded faults.CodeTooLarge a b = absurd (no_code_needless n k b.number bits b.rest (large_parts n k bits b) b.begins a)
one_number_fault n k bits faults.CodeTooLarge faults.Truncated a b = absurd (no_code_cut n k a.number bits a.rest (large_parts n k bits a) a.begins b)
one_number_fault n k bits faults.CodeTooLarge faults.EscapeNotNeeded a b = absurd (no_code_needless n k a.number bits a.rest (large_parts n k bits a) a.begins b)
one_number_fault n k bits faults.CodeTooLarge faults.CodeTooLarge a b = refl
one_number_fault n k bits faults.LevelTooLarge other a b = absurd a
one_number_fault n k bits faults.Truncated faults.LevelTooLarge a b = absurd b
one_number_fault n k bits faults.EscapeNotNeeded faults.LevelTooLarge a b = absurd b
one_number_fault n k bits faults.CodeTooLarge faults.LevelTooLarge a b = absurd b

-- a fault is either that of the number ..
number_given : (n : ℕ) (s : ContextState) (level : Bool) (bits : List Bool) (fault : CodeFault) → IsCodeFault n s level bits fault
    → ((k : ℕ) × IsParameter s k × IsNumberFault n k bits fault) ⊎ ((fault ≡ faults.LevelTooLarge) × IsLargeLevel n s level bits)
number_given n s level bits faults.Truncated given = inl given
number_given n s level bits faults.EscapeNotNeeded given = inl given
number_given n s level bits faults.CodeTooLarge given = inl given
number_given n s level bits faults.LevelTooLarge given = inr (refl, given)

-- .. which excludes the code of each value
no_value_at_fault : (n : ℕ) (s : ContextState) (v : ℤ) (k : ℕ) (bits code rest : List Bool) (fault : CodeFault) → IsCodedDepth n → IsParameter s k
    → IsNumberFault n k bits fault → SpellsValue n s v code → bits ≡ code ++ rest → ⊥
no_value_at_fault n s v k bits code rest fault depth parameter given spells is =
    no_number_at_fault n k (code_number n s v) bits rest fault (small_code n s v depth)
    (is ∙ ap (λ l. l ++ rest)
    (spells.same ∙ ap (code_bits n (code_number n s v)) (one_parameter s spells.parameter k spells.is_parameter parameter))) given

-- the value of a level that no sample has
top_range : (n : ℕ) → IsCodedDepth n → IsDifference n (pos (2 ^ (n - 1) - 1))
top_range n depth = let p = powers n depth in record { low = omega (arith, ints); high = omega (arith, ints) }

pub no_code_at_fault : FaultsExcludeCodes
no_code_at_fault n s level fault difference bits code rest depth given coded spells is =
    ⊎_elim
    (λ number. no_value_at_fault n s (decoded_value level difference) number.0 bits code rest fault depth number.1 number.2 spells is)
    (λ large.
    let one = one_value n s (decoded_value level difference) (pos (2 ^ (n - 1) - 1)) code large.1.code rest large.1.rest depth
    (decoded_range n level difference coded) (top_range n depth) spells large.1.spells (sym is ∙ large.1.begins) in
    decoded_low n level difference depth coded large.1.is_level one.0)
    (number_given n s level bits fault given)

pub one_fault : FaultsAreOne
one_fault n s level bits fault other depth given also =
    let top : ℤ = pos (2 ^ (n - 1) - 1) in
    ⊎_elim
    (λ number. ⊎_elim
    (λ second. one_number_fault n number.0 bits fault other number.2
    (subst (λ k. IsNumberFault n k bits other) (one_parameter s second.0 number.0 second.1 number.1) second.2))
    (λ large. absurd (no_value_at_fault n s top number.0 bits large.1.code large.1.rest fault depth number.1 number.2 large.1.spells large.1.begins))
    (number_given n s level bits other also))
    (λ large. ⊎_elim
    (λ number. absurd (no_value_at_fault n s top number.0 bits large.1.code large.1.rest other depth number.1 number.2 large.1.spells large.1.begins))
    (λ second. large.0 ∙ sym second.0)
    (number_given n s level bits other also))
    (number_given n s level bits fault given)

-- ---- faults of readings

pub large_level : (n : ℕ) (s : ContextState) (level : Bool) (value : ℤ) (old new : Reading) → IsValueRead n s value old new → level ≡ true
    → value ≡ pos (2 ^ (n - 1) - 1) → IsLargeLevel n s level old.left
large_level n s level value old new read levels top = record {
  is_level = levels;
  code = read.code;
  rest = new.left;
  spells = subst (λ v. SpellsValue n s v read.code) top read.spells;
  begins = read.reads.begins;
}

pub no_level_above : (n : ℕ) (s : ContextState) (level : Bool) (value difference : ℤ) (old new after : Reading) → IsValueRead n s value old new
    → level ≡ true → value ≡ pos (2 ^ (n - 1) - 1) → IsCodedDifference n level difference → IsCoded n s level difference old after → ⊥
no_level_above n s level value difference old new after read levels top given spelled =
    decoded_low n level difference read.depth given levels (decoded_alike n s level value difference old new after read given spelled ∙ top)

pub no_difference_at_fault : (n : ℕ) (s : ContextState) (level : Bool) (fault : CodeFault) (k : ℕ) (difference : ℤ) (old after : Reading) → IsCodedDepth n
    → IsParameter s k → IsNumberFault n k old.left fault → IsCoded n s level difference old after → ⊥
no_difference_at_fault n s level fault k difference old after depth parameter given spelled =
    no_value_at_fault n s (decoded_value level difference) k old.left spelled.code after.left fault depth parameter given spelled.spells spelled.reads.begins
