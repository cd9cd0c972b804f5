-- What most versions have between two places: how many versions have a byte string there, and that there is one that most have.
use Rattle.ffv1_weave.proofs.Common.{◌≡◌, ℕ, zero, suc, ◌+◌, ◌<◌, ◌≤◌, List, [], ◌∷◌, ◌++◌, length, get_or, take, true, false, refl, sym, ap, ◌∙◌, subst, arith, inl, inr, ◌⊎◌, Contains, slice_range, Decides, bytes_eq, cases_lt, false≢true, length_push, get_or_default, get_or-take, length-take-le, take_more, take_all, length-between, Contains-append_left, Contains-append_right, Contains-append_cases, Contains-get_or, bytes_eq-Decides, AreNumbered, IsChoiceOf, IsChoiceBy, HasChoice, IsMost, HaveLength, AreChoices, AreChoicesBy, AreDistinct, IsFit, Split, Pairs, Regions, Most}
use Rattle.ffv1_weave.proofs.ChoiceSteps.{alone, listed_at, pushed_at, once_pushed}
use Rattle.ffv1_weave.proofs.Numbering.{one_number}
use Rattle.ffv1_weave.proofs.Agreeing.{at_index}
use Rattle.ffv1_weave.proofs.NextSegment.{one_or_none}

-- what is taken in a part some version has there
pub choice_of_some : (split : Split) (versions : List (List ℕ)) (start end : ℕ) (choice : List ℕ) → IsChoiceBy split versions start end choice
    → IsChoiceOf versions start end choice
choice_of_some (Pairs distance) versions start end choice h = h
choice_of_some Regions versions start end choice h = h
choice_of_some (Most distance) versions start end choice h = h.0

-- ---- whether byte strings are the same

pub same_or_not : (one other : List ℕ) → (one ≡ other) ⊎ (one ≡ other → ⊥)
same_or_not one other = elim (bytes_eq one other) as (λ b. Decides b (one ≡ other) → (one ≡ other) ⊎ (one ≡ other → ⊥)) [
  | true ↦ λ e. inl (e.0 refl)
  | false ↦ λ e. inr (λ is. false≢true (e.1 is))
] (bytes_eq-Decides one other)

-- ---- one version more

module _ (start end : ℕ) (choice : List ℕ) (versions : List (List ℕ)) (version : List ℕ) where
  has_left : (other : List ℕ) → HasChoice versions start end choice other → HasChoice (versions ++ version ∷ []) start end choice other
  has_left other h = record { there = Contains-append_left versions (version ∷ []) other h.there; has = h.has }

  has_last : choice ≡ slice_range version start end → HasChoice (versions ++ version ∷ []) start end choice version
  has_last is = record { there = Contains-append_right versions (version ∷ []) version (0, omega arith, refl); has = is }

  -- none has the byte string who did not before
  pub have_same : (count : ℕ) → (choice ≡ slice_range version start end → Contains versions version) → AreNumbered (HasChoice versions start end choice) count
      → AreNumbered (HasChoice (versions ++ version ∷ []) start end choice) count
  have_same count known h =
      record {
        at = h.at;
        are = λ k lt. has_left (h.at k) (h.are k lt);
        all = λ other has. h.all other (record {
          there = elim (Contains-append_cases versions (version ∷ []) other has.there) [
            | inl there ↦ there
            | inr new ↦ grind (arith, alone)
          ];
          has = has.has;
        });
        once = h.once;
      }

  at_more : (ℕ → List ℕ) → (count k : ℕ) → (k < count) ⊎ (count ≤ k) → List ℕ
  at_more at count k (inl below) = at k
  at_more at count k (inr above) = version

  -- one has it who was not among them
  pub have_more : (count : ℕ) → (Contains versions version → ⊥) → choice ≡ slice_range version start end → AreNumbered (HasChoice versions start end choice) count
      → AreNumbered (HasChoice (versions ++ version ∷ []) start end choice) (count + 1)
  unfolding at_more
  have_more count new is h =
      record {
        at = λ k. at_more h.at count k (cases_lt k count);
        are = λ k lt. elim (cases_lt k count) as (λ c. HasChoice (versions ++ version ∷ []) start end choice (at_more h.at count k c)) [
          | inl below ↦ has_left (h.at k) (h.are k below)
          | inr above ↦ has_last is
        ];
        all = λ other has. elim (Contains-append_cases versions (version ∷ []) other has.there) [
          | inl there ↦ let k = h.all other (record { there = there; has = has.has }) in
              (k.0, (let lt = k.1 in omega arith), at_below k.0 k.1 (cases_lt k.0 count) ∙ k.2)
          | inr last ↦ (count, omega arith, at_count count (omega arith) (cases_lt count count) ∙ sym (alone version other last))
        ];
        once = λ j k low lt same. once_more j k (cases_lt j count) (cases_lt k count) low lt same;
      }
    where
      at_below : (k : ℕ) → k < count → (c : (k < count) ⊎ (count ≤ k)) → at_more h.at count k c ≡ h.at k
      at_below k lt (inl below) = refl
      at_below k lt (inr above) = absurd (omega arith)

      at_count : (k : ℕ) → count ≤ k → (c : (k < count) ⊎ (count ≤ k)) → at_more h.at count k c ≡ version
      at_count k low (inl below) = absurd (omega arith)
      at_count k low (inr above) = refl

      apart : (k : ℕ) → k < count → h.at k ≡ version → ⊥
      apart k lt e = let has = h.are k lt in new (subst (Contains versions) e has.there)

      once_more : (j k : ℕ) (c : (j < count) ⊎ (count ≤ j)) (d : (k < count) ⊎ (count ≤ k)) → j < count + 1 → k < count + 1
          → at_more h.at count j c ≡ at_more h.at count k d → j ≡ k
      once_more j k (inl j_below) (inl k_below) low lt same = h.once j k j_below k_below same
      once_more j k (inl j_below) (inr k_above) low lt same = absurd (apart j j_below same)
      once_more j k (inr j_above) (inl k_below) low lt same = absurd (apart k k_below (sym same))
      once_more j k (inr j_above) (inr k_above) low lt same = omega arith

pub have_none : (start end : ℕ) (choice : List ℕ) → AreNumbered (HasChoice [] start end choice) 0
have_none start end choice =
    record {
      at = λ k. [];
      are = λ k lt. absurd (omega arith);
      all = λ other has. absurd (omega (arith, has.there.1));
      once = λ j k low lt same. absurd (omega arith);
    }

-- ---- different versions

-- none of them stands before itself
pub not_before : (versions : List (List ℕ)) (i : ℕ) → AreDistinct versions → i < length versions → Contains (take i versions) (get_or versions i []) → ⊥
not_before versions i distinct lt there = grind (arith, length-take-le, get_or-take, get_or_default)

-- ---- how many there are

contains_or_not : (versions : List (List ℕ)) (version : List ℕ) → Contains versions version ⊎ (Contains versions version → ⊥)
contains_or_not versions version = elim (one_or_none versions (λ other. other ≡ version) (λ other. same_or_not other version)) [
  | inl found ↦ inl (subst (Contains versions) found.2 found.1)
  | inr none ↦ inr (λ there. none version there refl)
]

module _ (versions : List (List ℕ)) (start end : ℕ) where
  -- the numbers of the versions so far that have a byte string
  count_first : (choice : List ℕ) (n : ℕ) → n ≤ length versions → (count : ℕ) × AreNumbered (HasChoice (take n versions) start end choice) count
  count_first choice zero within = (0, have_none start end choice)
  count_first choice (suc n) within =
      let rest = count_first choice n (omega arith) in
      let version : List ℕ = get_or versions n [] in
      let next : take n versions ++ version ∷ [] ≡ take (suc n) versions =
      sym (take_more versions n [] (omega arith)) ∙ (let more : n + 1 ≡ suc n = omega arith in ap (λ m. take m versions) more) in
      elim (same_or_not choice (slice_range version start end)) [
        | inr apart ↦ (
          rest.0,
          subst (λ vs. AreNumbered (HasChoice vs start end choice) rest.0) next
              (have_same start end choice (take n versions) version rest.0 (λ is. absurd (apart is)) rest.1),
        )
        | inl is ↦ elim (contains_or_not (take n versions) version) [
          | inl known ↦ (
            rest.0,
            subst (λ vs. AreNumbered (HasChoice vs start end choice) rest.0) next
                (have_same start end choice (take n versions) version rest.0 (λ _. known) rest.1),
          )
          | inr new ↦ (
            rest.0 + 1,
            subst (λ vs. AreNumbered (HasChoice vs start end choice) (rest.0 + 1)) next
                (have_more start end choice (take n versions) version rest.0 new is rest.1),
          )
        ]
      ]

  -- For each byte string there is a number of versions that have it.
  pub count_all : (choice : List ℕ) → (count : ℕ) × AreNumbered (HasChoice versions start end choice) count
  count_all choice =
      let all = count_first choice (length versions) (omega arith) in
      (all.0, subst (λ vs. AreNumbered (HasChoice vs start end choice) all.0) (take_all (length versions) versions (omega arith)) all.1)

  -- ---- what most have

  abbrev pub votes_for : List ℕ → ℕ
  votes_for choice = (count_all choice).0

  -- It is enough to look at what the versions have.
  pub most_of : (choice : List ℕ) (count : ℕ) → AreNumbered (HasChoice versions start end choice) count
      → ((version : List ℕ) (more : ℕ) → Contains versions version → AreNumbered (HasChoice versions start end (slice_range version start end)) more → more ≤ count)
      → IsMost versions start end choice
  most_of choice count have least = grind (arith, cases_lt)

  record HasGreatest (n : ℕ) : Type 0 where
    version : List ℕ
    there : Contains versions version
    greatest : (k : ℕ) → k < n → votes_for (slice_range (get_or versions k []) start end) ≤ votes_for (slice_range version start end)

  greatest_first : (n : ℕ) → n ≤ length versions → 0 < length versions → HasGreatest n
  greatest_first zero within some =
      record { version = get_or versions 0 []; there = Contains-get_or versions 0 [] some; greatest = λ k lt. absurd (omega arith) }
  greatest_first (suc n) within some =
      let rest = greatest_first n (omega arith) some in
      let old : ℕ = votes_for (slice_range rest.version start end) in
      let new : ℕ = votes_for (slice_range (get_or versions n []) start end) in
      elim (cases_lt old new) [
        | inr low ↦ grind (arith, cases_lt)
        | inl high ↦ grind (arith, Contains-get_or, cases_lt)
      ]

  -- There is a byte string that most versions have.
  pub some_most : 0 < length versions → (version : List ℕ) × Contains versions version × IsMost versions start end (slice_range version start end)
  some_most some =
      let first = greatest_first (length versions) (omega arith) some in
      let have = count_all (slice_range first.version start end) in (
        first.version,
        first.there,
        most_of (slice_range first.version start end) have.0 have.1 (λ version more there numbers.
            let here = count_all (slice_range version start end) in
            let same : more ≡ here.0 = one_number (HasChoice versions start end (slice_range version start end)) more here.0 numbers here.1 in
            let low : here.0 ≤ have.0 =
            subst (λ v. votes_for (slice_range v start end) ≤ have.0) (at_index versions version there) (first.greatest there.0 there.1) in
            omega arith),
      )

-- ---- what can be taken in a part

-- something can be taken
pub some_taken : (split : Split) (versions : List (List ℕ)) (start end : ℕ) → 0 < length versions → (choice : List ℕ) × IsChoiceBy split versions start end choice
some_taken (Pairs distance) versions start end some =
    (slice_range (get_or versions 0 []) start end, (get_or versions 0 [], Contains-get_or versions 0 [] some, refl))
some_taken Regions versions start end some =
    (slice_range (get_or versions 0 []) start end, (get_or versions 0 [], Contains-get_or versions 0 [] some, refl))
some_taken (Most distance) versions start end some =
    let most = some_most versions start end some in
    (slice_range most.0 start end, ((most.0, most.1, refl), most.2))

module _ (split : Split) (start end : ℕ) where
  pub choices_fit : (versions choices : List (List ℕ)) (size : ℕ) → HaveLength versions size → 0 < length versions → start ≤ end → end ≤ size
      → AreChoicesBy split versions start end choices → IsFit size (record { start = start; end = end; choices = choices })
  choices_fit versions choices size long some order within h =
      record {
        order = order;
        within = within;
        some = let taken = some_taken split versions start end some in let there = h.each taken.0 taken.1 in omega (arith, there.1);
        fill = grind (arith, choice_of_some, length-between);
      }

module _ (versions : List (List ℕ)) (start end : ℕ) (choices : List (List ℕ)) (are : AreChoices versions start end choices) where
  of_some : (choice : List ℕ) → IsChoiceOf versions start end choice → Contains choices choice
  of_some choice h = subst (Contains choices) (sym h.2) (are.each h.0 h.1)

  -- all that versions have, where that is what can be taken
  pub choices_of_pairs : (distance : ℕ) → AreChoicesBy (Pairs distance) versions start end choices
  choices_of_pairs distance = record { each = of_some; only = are.only; once = are.once }

  pub choices_of_regions : AreChoicesBy Regions versions start end choices
  choices_of_regions = record { each = of_some; only = are.only; once = are.once }

-- ---- what most have, of the byte strings so far

-- so many versions have the byte string
abbrev pub Have : List (List ℕ) → (start end : ℕ) → List ℕ → ℕ → Type 0
Have versions start end choice count = AreNumbered (HasChoice versions start end choice) count

module _ (versions : List (List ℕ)) (start end : ℕ) (choices : List (List ℕ)) where
  -- Of the first byte strings these are all that so many versions have, and more have none of them.
  pub record AreMostSoFar (i : ℕ) (most : List (List ℕ)) (greatest : ℕ) : Type 0 where
    pub within : i ≤ length choices
    pub least : (k count : ℕ) → k < i → Have versions start end (get_or choices k []) count → count ≤ greatest
    pub reached : (greatest ≡ 0) ⊎ ((choice : List ℕ) × Have versions start end choice greatest)
    pub each : (k : ℕ) → k < i → Have versions start end (get_or choices k []) greatest → Contains most (get_or choices k [])
    pub only : (k : ℕ) → k < length most → (j : ℕ) × (j < i) × (get_or most k [] ≡ get_or choices j []) × Have versions start end (get_or choices j []) greatest
    pub once : (j k : ℕ) → j < length most → k < length most → get_or most j [] ≡ get_or most k [] → j ≡ k

module _ (versions : List (List ℕ)) (start end : ℕ) (choices : List (List ℕ)) (are : AreChoices versions start end choices) where
  module _ (i : ℕ) (most : List (List ℕ)) (greatest count : ℕ) (lt_i : i < length choices) (have : Have versions start end (get_or choices i []) count)
      (h : AreMostSoFar versions start end choices i most greatest) where
    same_count : (k other : ℕ) → k ≡ i → Have versions start end (get_or choices k []) other → other ≡ count
    same_count k other is numbers = grind (arith, one_number)

    -- no more than a bound have the next one, as those before it
    least_next : (bound : ℕ) → greatest ≤ bound → count ≤ bound → (k other : ℕ) → k < i + 1 → Have versions start end (get_or choices k []) other → other ≤ bound
    least_next bound old new k other lt numbers = grind (arith, cases_lt, same_count)

    -- all that so many have are listed, where those before it and itself are
    each_next : (now : List (List ℕ)) (bound : ℕ) → ((k : ℕ) → k < i → Have versions start end (get_or choices k []) bound → Contains now (get_or choices k []))
        → (Have versions start end (get_or choices i []) bound → Contains now (get_or choices i []))
        → (k : ℕ) → k < i + 1 → Have versions start end (get_or choices k []) bound → Contains now (get_or choices k [])
    each_next now bound old new k lt numbers = grind (arith, cases_lt)

    -- fewer have the next one
    pub most_fewer : count < greatest → AreMostSoFar versions start end choices (i + 1) most greatest
    most_fewer less =
        record {
          within = omega arith;
          least = least_next greatest (omega arith) (omega arith);
          reached = h.reached;
          each = each_next most greatest h.each (λ numbers. let same = same_count i greatest refl numbers in absurd (omega arith));
          only = λ k lt. let of = h.only k lt in (of.0, (let low = of.1 in omega arith), of.2, of.3);
          once = h.once;
        }

    -- more have it
    pub most_more : greatest < count → AreMostSoFar versions start end choices (i + 1) (get_or choices i [] ∷ []) count
    most_more more =
        record {
          within = omega arith;
          least = least_next count (omega arith) (omega arith);
          reached = inr (get_or choices i [], have);
          each = grind (arith, each_next);
          only = grind arith;
          once = λ j k low lt same. omega arith;
        }

    -- as many have it
    pub most_too : count ≡ greatest → AreMostSoFar versions start end choices (i + 1) (most ++ get_or choices i [] ∷ []) greatest
    most_too as_many =
        record {
          within = omega arith;
          least = least_next greatest (omega arith) (omega arith);
          reached = h.reached;
          each = each_next (most ++ choice ∷ []) greatest
              (λ k below numbers. Contains-append_left most (choice ∷ []) (get_or choices k []) (h.each k below numbers))
              (λ numbers. Contains-append_right most (choice ∷ []) choice (0, omega arith, refl));
          only = λ k lt. elim (cases_lt k (length most)) [
            | inl below ↦ let of = h.only k below in (of.0, (let low = of.1 in omega arith), listed_at most choice k below ∙ of.2, of.3)
            | inr above ↦ (i, omega arith, pushed_at most choice k (omega (arith, length_push most choice)), subst (Have versions start end choice) as_many have)
          ];
          once = once_pushed most choice h.once apart;
        }
      where
        choice : List ℕ
        choice = get_or choices i []

        apart : (k : ℕ) → k < length most → get_or most k [] ≡ get_or choices i [] → ⊥
        apart k lt is =
            let of = h.only k lt in
            let low = of.1 in
            let same = are.once of.0 i (omega arith) lt_i (sym of.2 ∙ is) in
            omega arith

  -- Of all byte strings these are what most have.
  pub most_all : (i : ℕ) (most : List (List ℕ)) (greatest distance : ℕ) → length choices ≤ i → AreMostSoFar versions start end choices i most greatest
      → AreChoicesBy (Most distance) versions start end most
  most_all i most greatest distance whole h =
      record {
        each = λ choice taken.
            let here = of_some versions start end choices are choice taken.0 in
            let is : get_or choices here.0 [] ≡ choice = get_or_default choices here.0 [] choice here.1 ∙ here.2 in
            let low = h.least here.0 taken.1.count (omega (arith, here.1)) (subst (λ p. Have versions start end p taken.1.count) (sym is) taken.1.have) in
            let high : greatest ≤ taken.1.count = elim h.reached [
              | inl none ↦ omega arith
              | inr other ↦ taken.1.others other.0 greatest other.1
            ] in
            let same : taken.1.count ≡ greatest = omega arith in
            subst (Contains most) is
            (h.each here.0 (omega (arith, here.1)) (subst (Have versions start end (get_or choices here.0 [])) same (subst (λ p. Have versions start end p taken.1.count) (sym is) taken.1.have)));
        only = λ k lt.
            let of = h.only k lt in
            let low = of.1 in
            let have = subst (λ p. Have versions start end p greatest) (sym of.2) of.3 in
            let some = are.only of.0 (let within = h.within in omega arith) in (
              (some.0, some.1, of.2 ∙ some.2),
              most_of versions start end (get_or most k []) greatest have (λ version more there numbers.
                  let here = are.each version there in
                  let is : get_or choices here.0 [] ≡ slice_range version start end = get_or_default choices here.0 [] (slice_range version start end) here.1 ∙ here.2 in
                  h.least here.0 more (omega (arith, here.1)) (subst (λ p. Have versions start end p more) (sym is) numbers)),
            );
        once = h.once;
      }
