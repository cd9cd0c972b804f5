-- The combinations as they are gone over for a repair.
use Rattle.ffv1_weave.proofs.Common.{◌≡◌, ℕ, suc, ◌+◌, ◌*◌, ◌/◌, ◌<◌, ◌≤◌, List, [], ◌∷◌, ◌++◌, length, get_or, Option, Some, None, refl, sym, ap, ◌∙◌, subst, arith, inl, inr, Contains, MatchOption, flat_map, mul_assoc, mul_comm, Contains-append_left, Contains-append_right, Contains-append_cases, IsOnly, IsOfTwo, IsOfNone, Contains-head, Contains-cons, IsCombinationBy, Part, chosen, chosen_below, AreMany, IsRepair, IsRepairOf, PassesAmong, IsFoundAmong, inversions, Slice, Split, Found, Parts}
use Rattle.ffv1_weave.specs.declared.repairing.TheConstants.{MOST_REPAIRS}
use Rattle.ffv1_weave.proofs.Tried.{one_split, one_count, few_not_many}
use Rattle.ffv1_weave.proofs.OneBit.{length-inverted}
use Rattle.ffv1_weave.proofs.FoundSteps.{only_as, more_cases}
use Rattle.ffv1_weave.proofs.InversionSteps.{inversion_there, inversion_of}
use Rattle.ffv1_weave.proofs.PartSteps.{count_over, count_fits}
use Rattle.ffv1_weave.proofs.WeaveSteps.{HaveParts, have_few, first_there, chosen_where}

-- ---- the lists of several values, one after the other

module _ {X A : Type 0} (f : X → List A) where
  flat_there : (xs : List X) (x : X) (value : A) → Contains xs x → Contains (f x) value → Contains (flat_map f xs) value
  flat_there [] x value there here = let none = there.1 in absurd (omega arith)
  flat_there (first ∷ xs) x value there here =
      elim (more_cases first xs x there) [
        | inl same ↦ Contains-append_left (f first) (flat_map f xs) value (subst (λ x. Contains (f x) value) (sym same) here)
        | inr later ↦ Contains-append_right (f first) (flat_map f xs) value (flat_there xs x value later here)
      ]

  flat_of : (xs : List X) (value : A) → Contains (flat_map f xs) value → (x : X) × Contains xs x × Contains (f x) value
  flat_of [] value there = let none = there.1 in absurd (omega arith)
  flat_of (first ∷ xs) value there =
      elim (Contains-append_cases (f first) (flat_map f xs) value there) [
        | inl here ↦ (first, Contains-head first xs, here)
        | inr later ↦ let one = flat_of xs value later in (one.0, Contains-cons first one.0 xs one.1, one.2)
      ]

-- ---- what is tried

-- the combinations below a number, each with each of its bits inverted
abbrev pub all_inversions : List Part → List ℕ → ℕ → List (List ℕ)
all_inversions parts first code = flat_map inversions (chosen_below parts first code)

-- what is found where one combination is tried more
pub found_next : (parts : List Part) (first : List ℕ) (code : ℕ) (what : Found)
    → IsFoundAmong Slice (inversions (chosen parts code first) ++ all_inversions parts first code) what
    → IsFoundAmong Slice (all_inversions parts first (code + 1)) what
found_next parts first code what h =
    let next : suc code ≡ code + 1 = omega arith in subst (λ n. IsFoundAmong Slice (all_inversions parts first n) what) next h

-- ---- how many are tried

eight_out : (a b : ℕ) → a * (8 * b) ≡ 8 * (a * b)
eight_out a b = sym (mul_assoc a 8 b) ∙ ap (λ n. n * b) (mul_comm a 8) ∙ mul_assoc 8 a b

pub repairs_within : (count size : ℕ) → 0 < count → size ≤ MOST_REPAIRS / 8 / count → count * (8 * size) ≤ MOST_REPAIRS
repairs_within count size some low = omega (arith, count_fits count size (MOST_REPAIRS / 8) some low, eight_out count size)

-- ---- the repairs of versions of one length

module _ {versions : List (List ℕ)} {parts : List Part} {count : ℕ} (have : HaveParts versions parts count) where
  abbrev all_tried : List (List ℕ)
  all_tried = all_inversions parts (get_or versions 0 []) count

  -- a combination is as long as the first version
  long_as_first : (base : List ℕ) (split : Split) → IsCombinationBy split versions base → length base ≡ length (get_or versions 0 [])
  long_as_first base split h = h.same_length (get_or versions 0 []) (first_there (have_few have))

  repair_long : (bytes : List ℕ) → IsRepair versions bytes → length bytes ≡ length (get_or versions 0 [])
  repair_long bytes h = ap length h.is ∙ length-inverted h.base h.bit h.inside ∙ long_as_first h.base h.split h.combination

  is_found : (bytes : List ℕ) → IsRepair versions bytes → PassesAmong Slice all_tried bytes
  is_found bytes h =
      let same = one_split versions h.split have.are.split h.count count h.tried have.are.tried in
      let base = (chosen_where (have_few have) h.base).1 (subst (λ g. IsCombinationBy g versions h.base) same h.combination) in
      let there : Contains (inversions h.base) bytes =
      subst (Contains (inversions h.base)) (sym h.is) (inversion_there h.base 0 (8 * length h.base) h.bit (omega arith) (let low = h.inside in omega arith)) in
      record { there = flat_there inversions (chosen_below parts (get_or versions 0 []) count) h.base bytes base there; passes = h.passes }

  is_repair : (bytes : List ℕ) → PassesAmong Slice all_tried bytes → IsRepair versions bytes
  is_repair bytes h =
      let base = flat_of inversions (chosen_below parts (get_or versions 0 []) count) bytes h.there in
      let bit = inversion_of base.0 0 (8 * length base.0) bytes base.2 in
      record {
        split = have.are.split;
        count = count;
        tried = have.are.tried;
        base = base.0;
        combination = (chosen_where (have_few have) base.0).0 base.1;
        bit = bit.0;
        inside = let low = bit.1 in omega arith;
        is = sym bit.2;
        passes = h.passes;
      }

  -- one alone is found
  pub repair_found : (bytes : List ℕ) (tried : ℕ) → IsOnly (PassesAmong Slice all_tried) bytes
      → tried ≡ count * (8 * length (get_or versions 0 [])) → tried ≤ MOST_REPAIRS → IsRepairOf versions bytes tried
  repair_found bytes tried only counted within =
      record {
        only = only_as (PassesAmong Slice all_tried) (IsRepair versions) is_repair is_found bytes only;
        combinations = count;
        few = record { split = have.are.split; tried = have.are.tried };
        counted = counted ∙ ap (λ n. count * (8 * n)) (sym (repair_long bytes (is_repair bytes only.there)));
        within = within;
      }

  -- none is found, or two are that differ
  pub repair_missing : IsOfNone (PassesAmong Slice all_tried) → (bytes : List ℕ) (tried : ℕ) → IsRepairOf versions bytes tried → ⊥
  repair_missing none bytes tried h = none bytes (is_found bytes h.only.there)

  pub repair_disputed : IsOfTwo (PassesAmong Slice all_tried) → (bytes : List ℕ) (tried : ℕ) → IsRepairOf versions bytes tried → ⊥
  repair_disputed two bytes tried h =
      two.differ (h.only.others two.one (is_repair two.one two.one_there) ∙ sym (h.only.others two.other (is_repair two.other two.other_there)))

  -- there are too many
  pub repairs_beyond : 0 < count → MOST_REPAIRS / 8 / count < length (get_or versions 0 []) → (bytes : List ℕ) (tried : ℕ)
      → IsRepairOf versions bytes tried → ⊥
  repairs_beyond some over bytes tried h =
      let size : ℕ = length (get_or versions 0 []) in
      let long : length bytes ≡ size = repair_long bytes h.only.there in
      let counted : tried ≡ count * (8 * size) =
      h.counted ∙ ap (λ n. h.combinations * (8 * n)) long
      ∙ ap (λ n. n * (8 * size)) (one_count versions h.combinations count h.few (record { split = have.are.split; tried = have.are.tried })) in
      let far : MOST_REPAIRS / 8 < count * size = count_over count size (MOST_REPAIRS / 8) some over in
      let eight : count * (8 * size) ≡ 8 * (count * size) = eight_out count size in
      let within = h.within in omega (arith, far, eight, counted)

-- none is tried
pub many_unless_some : (versions : List (List ℕ)) (few : Option Parts) (Q : Parts → Type 0) → ((tried : Parts) → few ≡ Some tried → ⊥)
    → MatchOption few (AreMany versions) Q → AreMany versions
many_unless_some versions None Q other h = h
many_unless_some versions (Some tried) Q other h = absurd (other tried refl)

pub no_repair_of_many : (versions : List (List ℕ)) → AreMany versions → (bytes : List ℕ) (tried : ℕ) → IsRepairOf versions bytes tried → ⊥
no_repair_of_many versions many bytes tried h = few_not_many versions h.combinations h.few many
