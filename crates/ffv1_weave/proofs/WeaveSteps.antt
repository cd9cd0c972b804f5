-- The combinations as they are tried, by number.
use Rattle.ffv1_weave.proofs.Common.{◌≡◌, ℕ, zero, suc, ◌+◌, ◌<◌, List, [], ◌∷◌, ◌++◌, length, get_or, take, drop, Option, Some, Bor, sym, ap, ◌∙◌, subst, arith, inl, inr, map, rules, ◌↔◌, All, Contains, MatchOption, cases_lt, append-nil, drop_all, take_all, Contains-get_or, Contains-head, Contains-cons, HaveLength, AreNumbered, IsCombinationBy, IsValid, Part, IsFit, AreFewParts, AreTriedParts, count_of, chosen, chosen_below, PassesAmong, IsFoundAmong, Weave, IsWeaveOf, AreFew, AreMany, woven, disputed, missing, Check, Found, Parts, values_of, remainder_in, changes_of, changed, Split}
use Rattle.ffv1_weave.specs.declared.found.Found.TheVariants as found
use Rattle.ffv1_weave.proofs.References.{nowhere, value_at, length-values_of, each_value}
use Rattle.ffv1_weave.proofs.Linear.{changed_is}
use Rattle.ffv1_weave.proofs.Tried.{valid_by, tried_combination}
use Rattle.ffv1_weave.proofs.PartSteps.{count_positive}
use Rattle.ffv1_weave.proofs.Choices.{IsAlike, fit_head, fit_tail, numbered, chosen_alike, combination_alike}
use Rattle.ffv1_weave.proofs.FoundSteps.{more_cases, none_as, only_as, two_as}

-- ---- the combinations below a number

module _ (parts : List Part) (first : List ℕ) where
  below_there : (count code : ℕ) → code < count → Contains (chosen_below parts first count) (chosen parts code first)
  below_there zero code lt = absurd (omega arith)
  below_there (suc count) code lt =
      elim (cases_lt code count) [
        | inl below ↦ Contains-cons (chosen parts count first) (chosen parts code first) (chosen_below parts first count) (below_there count code below)
        | inr last ↦ grind (arith, Contains-head)
      ]

  below_of : (count : ℕ) (bytes : List ℕ) → Contains (chosen_below parts first count) bytes
      → (code : ℕ) × (code < count) × (chosen parts code first ≡ bytes)
  below_of zero bytes there = let none = there.1 in absurd (omega arith)
  below_of (suc count) bytes there =
      elim (more_cases (chosen parts count first) (chosen_below parts first count) bytes there) [
        | inl same ↦ (count, omega arith, same)
        | inr below ↦ let code = below_of count bytes below in (code.0, (let low = code.1 in omega arith), code.2)
      ]

-- what is found where one combination more is tried
pub next_below : (check : Check) (parts : List Part) (first : List ℕ) (code : ℕ) (others : List (List ℕ)) (what : Found)
    → IsFoundAmong check (chosen parts code first ∷ (chosen_below parts first code ++ others)) what
    → IsFoundAmong check (chosen_below parts first (code + 1) ++ others) what
next_below check parts first code others what h = grind arith

-- ---- the parts of versions of one length

-- All parts by a split.
pub record HaveFewParts (split : Split) (versions : List (List ℕ)) (parts : List Part) (count : ℕ) : Type 0 where
  pub some : 0 < length versions
  pub long : HaveLength versions (length (get_or versions 0 []))
  pub few : AreFewParts split versions (length (get_or versions 0 [])) parts count

-- Those by the split that is tried.
pub record HaveParts (versions : List (List ℕ)) (parts : List Part) (count : ℕ) : Type 0 where
  pub some : 0 < length versions
  pub long : HaveLength versions (length (get_or versions 0 []))
  pub are : AreTriedParts versions (length (get_or versions 0 [])) parts count

abbrev pub have_few : {versions : List (List ℕ)} {parts : List Part} {count : ℕ} (have : HaveParts versions parts count)
    → HaveFewParts have.are.split versions parts count
have_few have = record { some = have.some; long = have.long; few = have.are.few }

some_combinations : (size : ℕ) (parts : List Part) → All (IsFit size) parts → 0 < count_of parts
some_combinations size [] fit = omega arith
some_combinations size (part ∷ parts) fit =
    let head = fit_head size part parts fit in
    count_positive (length part.choices) (count_of parts) head.some (some_combinations size parts (fit_tail size part parts fit))

module _ {split : Split} {versions : List (List ℕ)} {parts : List Part} {count : ℕ} (have : HaveFewParts split versions parts count) where
  pub first_there : Contains versions (get_or versions 0 [])
  first_there = Contains-get_or versions 0 [] have.some

  abbrev all_numbered : AreNumbered (IsCombinationBy split versions) (count_of parts)
  all_numbered = numbered split versions parts (get_or versions 0 []) have.long first_there have.few.all have.few.fit

  -- the byte strings that are tried are the combinations
  pub chosen_where : (bytes : List ℕ) → Contains (chosen_below parts (get_or versions 0 []) count) bytes ↔ IsCombinationBy split versions bytes
  chosen_where bytes = (
    λ there. let code = below_of parts (get_or versions 0 []) count bytes there in
        rw (← code.2) (all_numbered.are code.0 (omega (arith, code.1, have.few.counted))),
    λ combination. let code = all_numbered.all bytes combination in
        rw (← code.2) (below_there parts (get_or versions 0 []) count code.0 (omega (arith, code.1, have.few.counted))),
  )

  -- what is written over bytes that are as the first version where all agree
  chosen_over : (code : ℕ) (bytes : List ℕ) → IsAlike versions 0 bytes (get_or versions 0 [])
      → chosen parts code bytes ≡ chosen parts code (get_or versions 0 [])
  chosen_over code bytes alike = grind (arith, chosen_alike)

  pub some_tried : 0 < count
  some_tried = omega (arith, have.few.counted, some_combinations (length (get_or versions 0 [])) parts have.few.fit)

  alike_at : (code : ℕ) → code < count → IsAlike versions 0 (chosen parts code (get_or versions 0 [])) (get_or versions 0 [])
  alike_at code lt =
      combination_alike split versions (get_or versions 0 []) (chosen parts code (get_or versions 0 [])) first_there
      (all_numbered.are code (omega (arith, have.few.counted)))

-- what is written through a vector's slice is what the vector holds
pub put_back : (len : ℕ) (new items : List ℕ) → len ≡ length items → length new ≡ length items → take len (new ++ drop (length new) items) ≡ new
put_back len new items l n = grind (arith, drop_all, append-nil, take_all)

-- as the code has them
pub have_few_parts : (versions : List (Bor (List ℕ))) → 0 < length versions
    → All (λ version. length version.now ≡ length (get_or (values_of versions) 0 [])) versions → {split : Split} {parts : List Part} {count : ℕ}
    → AreFewParts split (values_of versions) (length (get_or (values_of versions) 0 [])) parts count → HaveFewParts split (values_of versions) parts count
have_few_parts versions some long few = search (rules, length-values_of, each_value)

pub have_parts : (versions : List (Bor (List ℕ))) (found : Option Parts) (tried : Parts) → found ≡ Some tried
    → MatchOption found (AreMany (values_of versions))
    (λ tried. AreTriedParts (values_of versions) (length (get_or versions 0 nowhere).now) tried.parts.items tried.count)
    → 0 < length versions → All (λ version. length version.now ≡ length (get_or (values_of versions) 0 [])) versions
    → HaveParts (values_of versions) tried.parts.items tried.count
have_parts versions found tried is given some long = grind (arith, nowhere, value_at, have_few_parts)

-- ---- a combination that is tried, as the code has it

module _ {split : Split} {parts : List Part} {count : ℕ} (versions : List (Bor (List ℕ)))
    (have : HaveFewParts split (values_of versions) parts count) where
  abbrev first : List ℕ
  first = get_or (values_of versions) 0 []

  pub alike_first : (bytes : List ℕ) → bytes ≡ (get_or versions 0 nowhere).now → IsAlike (values_of versions) 0 bytes first
  alike_first bytes is = grind (arith, value_at, nowhere, length-values_of)

  -- the tables of bytes that are as the first version where all agree
  module _ (check : Check) (bytes : List ℕ) (alike : IsAlike (values_of versions) 0 bytes first) (tables : List (List ℕ)) (parts_now : List Part)
      (made : tables ≡ map (changes_of check bytes) parts_now) (is : parts_now ≡ parts) where
    pub tables_are : tables ≡ map (changes_of check bytes) parts
    tables_are = made ∙ ap (map (changes_of check bytes)) is

    pub tables_fit : All (IsFit (length bytes)) parts
    tables_fit = subst (λ s. All (IsFit s) parts) (sym alike.size) have.few.fit

    -- what the tables leave is the remainder of the combination
    pub left_is : (code base left : ℕ) → base ≡ remainder_in check bytes → left ≡ changed tables code base
        → left ≡ remainder_in check (chosen parts code first)
    left_is code base left base_is tallied = grind (arith, tables_are, changed_is, tables_fit, chosen_over)

  -- The bytes are those of the combination.
  pub record AreChosen (code : ℕ) (bytes : List ℕ) : Type 0 where
    pub are : bytes ≡ chosen parts code first
    pub alike : IsAlike (values_of versions) 0 bytes first

  pub written_over : (code len : ℕ) (new lent items : List ℕ) (parts_now : List Part) → code < count → new ≡ chosen parts_now code lent
      → parts_now ≡ parts → lent ≡ items → IsAlike (values_of versions) 0 items first → len ≡ length items
      → AreChosen code (take len (new ++ drop (length new) items))
  written_over code len new lent items parts_now low made is lent_is alike size =
      let new_is : new ≡ chosen parts code first = cc (chosen_over have code items alike) in
      let there = alike_at have code low in
      let now = put_back len new items size (ap length new_is ∙ there.size ∙ sym alike.size) ∙ new_is in
      record { are = now; alike = subst (λ b. IsAlike (values_of versions) 0 b first) (sym now) there }

  -- the first combination, as it is lent, still has what all versions have
  pub first_alike : (len : ℕ) (new lent items : List ℕ) (parts_now : List Part) → new ≡ chosen parts_now 0 lent → parts_now ≡ parts → lent ≡ items
      → IsAlike (values_of versions) 0 items first → len ≡ length items → (now : List ℕ) → now ≡ take len (new ++ drop (length new) items)
      → IsAlike (values_of versions) 0 now first
  first_alike len new lent items parts_now made is lent_is alike size now now_is =
      let chosen_first = written_over 0 len new lent items parts_now (some_tried have) made is lent_is alike size in
      subst (λ b. IsAlike (values_of versions) 0 b first) (sym now_is) chosen_first.alike

-- ---- the weave of what is found

-- what is woven of what is found among so many
abbrev pub weave_found : Found → ℕ → Weave
weave_found found.Nothing count = missing count
weave_found (found.One bytes) count = woven bytes.items count
weave_found found.Several count = disputed

module _ (check : Check) {versions : List (List ℕ)} {parts : List Part} {count : ℕ} (have : HaveParts versions parts count) where
  abbrev all_chosen : List (List ℕ)
  all_chosen = chosen_below parts (get_or versions 0 []) count ++ []

  -- what is tried and passes is valid, and the other way round
  is_valid : (bytes : List ℕ) → PassesAmong check all_chosen bytes → IsValid check versions bytes
  is_valid bytes h =
      valid_by versions check have.are.split count have.are.tried bytes ((chosen_where (have_few have) bytes).0
      (rw (← append-nil (chosen_below parts (get_or versions 0 []) count)) h.there)) h.passes

  is_passing : (bytes : List ℕ) → IsValid check versions bytes → PassesAmong check all_chosen bytes
  is_passing bytes h =
      record {
        there = subst (λ all. Contains all bytes) (sym (append-nil (chosen_below parts (get_or versions 0 []) count)))
            ((chosen_where (have_few have) bytes).1 (tried_combination versions check have.are.split count have.are.tried bytes h));
        passes = h.passes;
      }

  are_few : AreFew versions count
  are_few = record { split = have.are.split; tried = have.are.tried }

  woven_of : (what : Found) → IsFoundAmong check all_chosen what → IsWeaveOf check versions (weave_found what count)
  woven_of found.Nothing h = (none_as (PassesAmong check all_chosen) (IsValid check versions) is_valid is_passing h, are_few)
  woven_of (found.One bytes) h = (only_as (PassesAmong check all_chosen) (IsValid check versions) is_valid is_passing bytes.items h, are_few)
  woven_of found.Several h = (two_as (PassesAmong check all_chosen) (IsValid check versions) is_valid h, (count, are_few))

  -- nothing is found before one is tried
  pub found_woven : (what : Found) → ((others : List (List ℕ)) → IsFoundAmong check others found.Nothing
      → IsFoundAmong check (chosen_below parts (get_or versions 0 []) count ++ others) what)
      → IsWeaveOf check versions (weave_found what count)
  found_woven what h = woven_of what (h [] (λ bytes passing. let none = passing.there.1 in absurd (omega arith)))
