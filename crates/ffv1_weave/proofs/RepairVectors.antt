-- One slice of nine bytes, with each of its bits inverted: it is the only repair. Some bits of it, and of two bytes, are written out.
use Rattle.ffv1_weave.proofs.Common.{◌≡◌, ℕ, zero, suc, ◌+◌, ◌-◌, ◌*◌, ◌/◌, ◌%◌, ◌^◌, ◌<◌, Bool, true, false, eqb, eq-eqb, cond, List, [], ◌∷◌, ◌++◌, length, get_or, replicate, refl, sym, ap, ◌∙◌, subst, arith, inl, inr, All, Contains, bit_xor, fold, xor_lt, cases_lt, Contains-append_left, Contains-append_cases, All-set, All-get_or, All-from_get_or, number_bits, bits_of, reduced_at, polynomial_of, divided, remainder_of, shifted, fold_injective, IsOnly, PassesBy, HaveLength, AgreeAt, AreFewParts, PassesAmong, inversions, inverted, IsRepairOf, Slice, Pairs}
use Rattle.ffv1_weave.proofs.Finest.{finest}
use Rattle.ffv1_weave.proofs.InversionSteps.{inversion_there, inversion_of}
use Rattle.ffv1_weave.proofs.OneBit.{power_left, zeros_after, power_is_left, length-inverted, inverted_twice, mask_small, set_written}
use Rattle.ffv1_weave.proofs.RepairSteps.{repair_found}
use Rattle.ffv1_weave.proofs.WeaveSteps.{HaveParts}

-- ---- two bytes

first_bit : inverted (0x01 ∷ 0x02 ∷ []) 0 ≡ 0x81 ∷ 0x02 ∷ []
first_bit = refl

seventh_bit : inverted (0x01 ∷ 0x02 ∷ []) 7 ≡ 0x00 ∷ 0x02 ∷ []
seventh_bit = refl

eighth_bit : inverted (0x01 ∷ 0x02 ∷ []) 8 ≡ 0x01 ∷ 0x82 ∷ []
eighth_bit = refl

last_bit : inverted (0x01 ∷ 0x02 ∷ []) 15 ≡ 0x01 ∷ 0x03 ∷ []
last_bit = refl

-- ---- one version has one combination

module _ (version : List ℕ) where
  is_version : (other : List ℕ) → Contains (version ∷ []) other → version ≡ other
  is_version other (zero, lt, is) = is
  is_version other (suc k, lt, is) = absurd (omega arith)

  all_agree : (i : ℕ) → AgreeAt (version ∷ []) i
  all_agree i one other there here = ap (λ z. get_or z i 0) (sym (is_version one there) ∙ is_version other here)

  long : HaveLength (version ∷ []) (length version)
  long other there = ap length (sym (is_version other there))

  no_parts : AreFewParts (Pairs 0) (version ∷ []) (length version) [] 1
  no_parts = grind (arith, all_agree)

  have : HaveParts (version ∷ []) [] 1
  have =
      record {
        some = omega arith;
        long = long;
        are = finest (Pairs 0) (version ∷ []) (length version) long (omega arith) 0 [] 1 (omega arith) refl (λ k below. absurd (omega arith)) no_parts;
      }

-- ---- the powers of x below the 72nd leave different remainders

is_one : ℕ → Bool
is_one n = eqb (power_left (suc n)) 1

some_is_one : ℕ → Bool
some_is_one zero = false
some_is_one (suc n) = cond (is_one n) true (some_is_one n)

none_below : some_is_one 71 ≡ false
unfolding some_is_one is_one reduced_at
none_below = refl

one_found : (count n : ℕ) → n < count → power_left (suc n) ≡ 1 → some_is_one count ≡ true
unfolding some_is_one is_one
one_found zero n lt is = absurd (omega arith)
one_found (suc count) n lt is =
    elim (cases_lt n count) [
      | inl below ↦ let found = one_found count n below is in kept (is_one count) (some_is_one count) found
      | inr last ↦ let same : n ≡ count = omega arith in
          ap (λ b. cond b true (some_is_one count)) (eq-eqb (power_left (suc count)) 1 (subst (λ k. power_left (suc k) ≡ 1) same is))
    ]
  where
    kept : (b t : Bool) → t ≡ true → cond b true t ≡ true
    kept true t is = refl
    kept false t is = is

not_one : (d : ℕ) → 0 < d → d < 72 → power_left d ≡ 1 → ⊥
not_one zero some lt is = absurd (omega arith)
not_one (suc d) some lt is = let yes = one_found 71 d (omega arith) is in let no = none_below in absurd (cc)

apart : (a b : ℕ) → a < b → b < 72 → power_left a ≡ power_left b → ⊥
apart a b below lt same =
    let d : ℕ = b - a in
    let sum : d + a ≡ b = omega arith in
    let one : fold shifted 1 (replicate a false) ≡ power_left a = zeros_after 0 a ∙ ap power_left (let e : 0 + a ≡ a = omega arith in e) in
    let other : fold shifted (power_left d) (replicate a false) ≡ power_left b = zeros_after d a ∙ ap power_left sum in
    not_one d (omega arith) (omega arith) (sym (fold_injective 1 (power_left d) (replicate a false) (one ∙ same ∙ sym other)))

powers_differ : (a b : ℕ) → a < 72 → b < 72 → power_left a ≡ power_left b → a ≡ b
powers_differ a b low lt same = grind (arith, cases_lt, apart)

-- ---- a slice of one byte, with its footer and its parity

unfoldable pub small_slice : List ℕ
small_slice = 0x5A ∷ 0x00 ∷ 0x00 ∷ 0x01 ∷ 0x00 ∷ 0x84 ∷ 0xF2 ∷ 0x04 ∷ 0x92 ∷ []

pub small_passes : PassesBy Slice small_slice
unfolding small_slice number_bits bits_of polynomial_of divided remainder_of
small_passes = (record { footer = omega arith; size = refl }, (omega arith, refl))

small_bytes : All (λ b. b < 256) small_slice
unfolding small_slice
small_bytes = grind (arith, All-from_get_or)

inverted_bytes : (bytes : List ℕ) (bit : ℕ) → bit < 8 * length bytes → All (λ b. b < 256) bytes → All (λ b. b < 256) (inverted bytes bit)
inverted_bytes bytes bit inside small =
    let old : ℕ = get_or bytes (bit / 8) 0 in
    let mask : ℕ = 2 ^ (7 - bit % 8) in
    let there : bit / 8 < length bytes = omega arith in
    rw (← set_written bytes (bit / 8) (bit_xor old mask) there) (All-set (λ b. b < 256) bytes (bit / 8) (bit_xor old mask)
    (xor_lt 8 old mask (All-get_or (λ b. b < 256) bytes (bit / 8) 0 there small) (mask_small bit)) small)

module _ (bit : ℕ) (inside : bit < 72) where
  damaged : List ℕ
  damaged = inverted small_slice bit

  damaged_long : length damaged ≡ 9
  unfolding damaged small_slice
  damaged_long = length-inverted small_slice bit inside

  mended : inverted damaged bit ≡ small_slice
  unfolding damaged small_slice
  mended = inverted_twice small_slice bit inside

  damaged_bytes : All (λ b. b < 256) damaged
  unfolding damaged small_slice
  damaged_bytes = inverted_bytes small_slice bit inside small_bytes

  -- of the inversions of the damaged bytes only the one of this bit passes
  left_by : (other : ℕ) → other < 72 → PassesBy Slice (inverted damaged other) → power_left (71 - other) ≡ remainder_of (bits_of damaged)
  left_by other low passes =
      let exponent : 8 * length damaged - 1 - other ≡ 71 - other = omega (arith, damaged_long) in
      cc (power_is_left damaged other (omega (arith, damaged_long)) (All-get_or (λ b. b < 256) damaged (other / 8) 0 (omega (arith, damaged_long)) damaged_bytes) passes)

  same_bit : (other : ℕ) → other < 72 → PassesBy Slice (inverted damaged other) → other ≡ bit
  same_bit other low passes =
      let same = powers_differ (71 - other) (71 - bit) (omega arith) (omega arith)
      (left_by other low passes ∙ sym (left_by bit inside (subst (PassesBy Slice) (sym mended) small_passes))) in
      omega (arith, same)

  only_repair : IsOnly (PassesAmong Slice (inversions damaged ++ [])) small_slice
  only_repair = record { there = record { there = there; passes = small_passes }; others = others }
    where
      there : Contains (inversions damaged ++ []) small_slice
      there =
          Contains-append_left (inversions damaged) [] small_slice
          (subst (Contains (inversions damaged)) mended (inversion_there damaged 0 (8 * length damaged) bit (omega arith) (omega (arith, damaged_long))))

      others : (other : List ℕ) → PassesAmong Slice (inversions damaged ++ []) other → other ≡ small_slice
      others other h = elim (Contains-append_cases (inversions damaged) [] other h.there) [
        | inl inside_them ↦ let is = inversion_of damaged 0 (8 * length damaged) other inside_them in
            let low : is.0 < 72 = omega (arith, is.1, damaged_long) in
            let same = same_bit is.0 low (subst (PassesBy Slice) (sym is.2) h.passes) in
            sym is.2 ∙ ap (inverted damaged) same ∙ mended
        | inr none ↦ let some = none.1 in absurd (omega arith)
      ]

  pub small_repaired : IsRepairOf (inverted small_slice bit ∷ []) small_slice 72
  unfolding damaged
  small_repaired = repair_found (have damaged) small_slice 72 only_repair (ap (λ n. 1 * (8 * n)) (sym damaged_long)) (omega arith)

-- one bit of its content, of its status byte and of its parity
content_repaired : IsRepairOf ((0x4A ∷ 0x00 ∷ 0x00 ∷ 0x01 ∷ 0x00 ∷ 0x84 ∷ 0xF2 ∷ 0x04 ∷ 0x92 ∷ []) ∷ []) small_slice 72
unfolding small_slice
content_repaired = small_repaired 3 (omega arith)

status_repaired : IsRepairOf ((0x5A ∷ 0x00 ∷ 0x00 ∷ 0x01 ∷ 0x01 ∷ 0x84 ∷ 0xF2 ∷ 0x04 ∷ 0x92 ∷ []) ∷ []) small_slice 72
unfolding small_slice
status_repaired = small_repaired 39 (omega arith)

parity_repaired : IsRepairOf ((0x5A ∷ 0x00 ∷ 0x00 ∷ 0x01 ∷ 0x00 ∷ 0x84 ∷ 0xF2 ∷ 0x04 ∷ 0x93 ∷ []) ∷ []) small_slice 72
unfolding small_slice
parity_repaired = small_repaired 71 (omega arith)
