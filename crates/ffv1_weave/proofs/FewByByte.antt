-- Where the bytes of versions are changed place by place, in all versions alike, there are no more combinations at distance 0 than before.
use Rattle.ffv1_weave.proofs.Common.{◌≡◌, ℕ, zero, suc, ◌+◌, ◌-◌, ◌<◌, ◌≤◌, List, [], ◌∷◌, ◌++◌, length, get_or, map, refl, sym, ap, ◌∙◌, subst, arith, inl, inr, ◌⊎◌, Contains, cases_lt, ext_get_or, get_or_default, length_push, Contains-append_left, Contains-get_or, Contains-push, HaveLength, DifferAt, IsSegment, AreNumbered, IsCombinationBy, HasFewByByte, HasEachByte, Pairs}
use Rattle.ffv1_weave.proofs.Agreeing.{agree_or_differ, two_differ}
use Rattle.ffv1_weave.proofs.ChoiceSteps.{listed_at, pushed_at, once_pushed}
use Rattle.ffv1_weave.proofs.Choices.{range_at}
use Rattle.ffv1_weave.proofs.Mapped.{mapped_there, mapped_of}
use Rattle.ffv1_weave.proofs.BoundarySteps.{boundary_before, boundary_after}
use Rattle.ffv1_weave.proofs.AmongTried.{bytes_combine}
use Rattle.ffv1_weave.proofs.MostSteps.{same_or_not}

-- ---- byte strings that are equal, or listed, or not

listed_or_not : (listed : List (List ℕ)) (one : List ℕ) → (n : ℕ) → n ≤ length listed
    → Contains listed one ⊎ ((k : ℕ) → k < n → get_or listed k [] ≡ one → ⊥)
listed_or_not listed one zero low = inr (λ k lt same. absurd (omega arith))
listed_or_not listed one (suc n) low = elim (listed_or_not listed one n (omega arith)) [
  | inl there ↦ inl there
  | inr absent ↦ elim (same_or_not (get_or listed n []) one) [
    | inl same ↦ inl (subst (Contains listed) same (Contains-get_or listed n [] (omega arith)))
    | inr apart ↦ grind (arith, cases_lt)
  ]
]

-- ---- what is made of so many values is as many, or fewer

module _ (P Q : List ℕ → Type 0) (f : List ℕ → List ℕ) (into : (x : List ℕ) → P x → Q (f x))
    (onto : (y : List ℕ) → Q y → (x : List ℕ) × P x × (f x ≡ y)) (count : ℕ) (numbers : AreNumbered P count) where
  record AreImages (k : ℕ) : Type 0 where
    listed : List (List ℕ)
    short : length listed ≤ k
    are : (j : ℕ) → j < length listed → Q (get_or listed j [])
    has : (j : ℕ) → j < k → Contains listed (f (numbers.at j))
    once : (i j : ℕ) → i < length listed → j < length listed → get_or listed i [] ≡ get_or listed j [] → i ≡ j

  images : (k : ℕ) → k ≤ count → AreImages k
  images zero low = grind arith
  images (suc k) low =
      let before = images k (omega arith) in
      let one : List ℕ = f (numbers.at k) in
      let short = before.short in
      elim (listed_or_not before.listed one (length before.listed) (omega arith)) [
        | inl there ↦ record {
          listed = before.listed;
          short = omega arith;
          are = before.are;
          has = λ j lt. elim (cases_lt j k) [
            | inl below ↦ before.has j below
            | inr above ↦ let here : k ≡ j = omega arith in subst (λ i. Contains before.listed (f (numbers.at i))) here there
          ];
          once = before.once;
        }
        | inr absent ↦ record {
          listed = before.listed ++ one ∷ [];
          short = omega (arith, length_push before.listed one);
          are = grind (arith, cases_lt, listed_at, pushed_at, length_push);
          has = λ j lt. elim (cases_lt j k) [
            | inl below ↦ Contains-append_left before.listed (one ∷ []) (f (numbers.at j)) (before.has j below)
            | inr above ↦ let here : k ≡ j = omega arith in
                subst (λ i. Contains (before.listed ++ one ∷ []) (f (numbers.at i))) here (Contains-push before.listed one)
          ];
          once = once_pushed before.listed one before.once absent;
        }
      ]

  pub images_numbered : (more : ℕ) × AreNumbered Q more × (more ≤ count)
  images_numbered =
      let all = images count (omega arith) in (
        length all.listed,
        record {
          at = λ j. get_or all.listed j [];
          are = all.are;
          all = λ y q.
              let x = onto y q in
              let place = numbers.all x.0 x.1 in
              let there = all.has place.0 place.1 in
              (there.0, there.1, get_or_default all.listed there.0 [] (f (numbers.at place.0)) there.1 ∙ there.2 ∙ ap f place.2 ∙ x.2);
          once = all.once;
        },
        all.short,
      )

-- ---- combinations at distance 0 are those of which each byte is intact in some version

module _ (versions : List (List ℕ)) (first : List ℕ) (there : Contains versions first) where
  alone : (i : ℕ) → DifferAt versions i → IsSegment 0 versions i (i + 1)
  alone i differ =
      record {
        some = omega arith;
        first = inr (boundary_before 0 versions i differ (λ j before near. absurd (omega arith)));
        last = inl (boundary_after 0 versions i (i + 1) refl differ (λ j above near. absurd (omega arith)));
        within = λ j low lt boundary. absurd (omega arith);
      }

  each_of : (bytes : List ℕ) → IsCombinationBy (Pairs 0) versions bytes → HasEachByte bytes versions
  each_of bytes is =
      record {
        one_length = λ version here. sym (is.same_length version here);
        intact = λ i lt. elim (agree_or_differ versions i) [
          | inl agree ↦ (first, there, sym (is.agrees i agree first there))
          | inr two ↦
              let part = is.parts i (i + 1) (alone i (two_differ versions i two)) in (
                part.0,
                part.1,
                sym (range_at part.0 i (i + 1) i (omega arith) (omega arith)) ∙ sym (ap (λ z. get_or z (i - i) 0) part.2)
                    ∙ range_at bytes i (i + 1) i (omega arith) (omega arith),
              )
        ];
      }

-- ---- bytes that are changed place by place

-- at a place all bytes of this length keep what they have
abbrev pub Stays : (size : ℕ) (f : List ℕ → List ℕ) (i : ℕ) → Type 0
Stays size f i = (bytes : List ℕ) → length bytes ≡ size → get_or (f bytes) i 0 ≡ get_or bytes i 0

-- or all get the same byte
abbrev pub Sets : (size : ℕ) (f : List ℕ → List ℕ) (i : ℕ) → Type 0
Sets size f i = (value : ℕ) × ((bytes : List ℕ) → length bytes ≡ size → get_or (f bytes) i 0 ≡ value)

-- so it is at each place
pub record IsPlacewise (size : ℕ) (f : List ℕ → List ℕ) : Type 0 where
  pub keeps : (bytes : List ℕ) → length bytes ≡ size → length (f bytes) ≡ size
  pub at : (i : ℕ) → i < size → Stays size f i ⊎ Sets size f i

-- bytes by their places, from one on
by_place : (pick : ℕ → ℕ) → ℕ → ℕ → List ℕ
by_place pick i zero = []
by_place pick i (suc n) = pick i ∷ by_place pick (suc i) n

length-by_place : (pick : ℕ → ℕ) (i n : ℕ) → length (by_place pick i n) ≡ n
unfolding by_place
length-by_place pick i zero = refl
length-by_place pick i (suc n) = ap suc (length-by_place pick (suc i) n)

by_place_at : (pick : ℕ → ℕ) (i n k : ℕ) → k < n → get_or (by_place pick i n) k 0 ≡ pick (i + k)
unfolding by_place
by_place_at pick i zero k lt = absurd (omega arith)
by_place_at pick i (suc n) zero lt = let same : i ≡ i + 0 = omega arith in ap pick same
by_place_at pick i (suc n) (suc k) lt = let same : suc i + k ≡ i + suc k = omega arith in by_place_at pick (suc i) n k (omega arith) ∙ ap pick same

module _ (versions : List (List ℕ)) (size : ℕ) (long : HaveLength versions size) (first : List ℕ) (there : Contains versions first) (f : List ℕ → List ℕ)
    (is : IsPlacewise size f) where
  first_long : length first ≡ size
  first_long = long first there

  bytes_long : (bytes : List ℕ) → HasEachByte bytes versions → length bytes ≡ size
  bytes_long bytes has = sym (has.one_length first there) ∙ first_long

  into : (bytes : List ℕ) → HasEachByte bytes versions → HasEachByte (f bytes) (map f versions)
  into bytes has =
      let own = bytes_long bytes has in
      let made = is.keeps bytes own in
      record {
        one_length = λ one here.
            let version = mapped_of f versions one here in
            ap length version.2 ∙ is.keeps version.0 (long version.0 version.1) ∙ sym made;
        intact = λ i lt.
            let version = has.intact i (omega arith) in (
              f version.0,
              mapped_there f versions version.0 version.1,
              elim (is.at i (omega arith)) [
                | inl stays ↦ stays version.0 (long version.0 version.1) ∙ version.2 ∙ sym (stays bytes own)
                | inr sets ↦ sets.1 version.0 (long version.0 version.1) ∙ sym (sets.1 bytes own)
              ],
            );
      }

  -- of given bytes what all keep, and of the first version what is the same in all
  picked : (i : ℕ) → Stays size f i ⊎ Sets size f i → List ℕ → ℕ
  picked i (inl stays) bytes = get_or bytes i 0
  picked i (inr sets) bytes = get_or first i 0

  choice : (i : ℕ) → (i < size) ⊎ (size ≤ i) → List ℕ → ℕ
  choice i (inl lt) bytes = picked i (is.at i lt) bytes
  choice i (inr past) bytes = 0

  choice_is : (i : ℕ) (c : (i < size) ⊎ (size ≤ i)) (bytes : List ℕ) → i < size
      → (Stays size f i × (choice i c bytes ≡ get_or bytes i 0)) ⊎ (Sets size f i × (choice i c bytes ≡ get_or first i 0))
  unfolding choice picked
  choice_is i (inl lt) bytes here = of (is.at i lt)
    where
      of : (c : Stays size f i ⊎ Sets size f i)
          → (Stays size f i × (picked i c bytes ≡ get_or bytes i 0)) ⊎ (Sets size f i × (picked i c bytes ≡ get_or first i 0))
      of (inl stays) = inl (stays, refl)
      of (inr sets) = inr (sets, refl)
  choice_is i (inr past) bytes here = absurd (omega arith)

  module _ (bytes : List ℕ) (has : HasEachByte bytes (map f versions)) where
    abbrev base : List ℕ
    base = by_place (λ i. choice i (cases_lt i size) bytes) 0 size

    base_long : length base ≡ size
    base_long = length-by_place (λ i. choice i (cases_lt i size) bytes) 0 size

    base_at : (i : ℕ) → i < size → get_or base i 0 ≡ choice i (cases_lt i size) bytes
    base_at i lt = grind (arith, by_place_at, choice, cases_lt)

    own : length bytes ≡ size
    own = sym (has.one_length (f first) (mapped_there f versions first there)) ∙ is.keeps first first_long

    base_is : (i : ℕ) → i < size → (Stays size f i × (get_or base i 0 ≡ get_or bytes i 0)) ⊎ (Sets size f i × (get_or base i 0 ≡ get_or first i 0))
    base_is i lt = grind (arith, choice_is, cases_lt, base_at)

    intact : (i : ℕ) → i < length base → (version : List ℕ) × Contains versions version × (get_or version i 0 ≡ get_or base i 0)
    intact i lt =
        let same = base_long in
        let mine = own in
        elim (base_is i (omega arith)) [
          | inr sets ↦ (first, there, sym sets.1)
          | inl stays ↦
              let one = has.intact i (omega arith) in
              let version = mapped_of f versions one.0 one.1 in
              (version.0, version.1, sym (stays.0 version.0 (long version.0 version.1)) ∙ sym (ap (λ z. get_or z i 0) version.2) ∙ one.2 ∙ sym stays.1)
        ]

    same : f base ≡ bytes
    same =
        let made = is.keeps base base_long in
        let mine = own in
        cc (ext_get_or 0 (f base) bytes (made ∙ sym own) (λ i lt. elim (base_is i (omega arith)) [ inl stays ↦ stays.0 base base_long ∙ stays.1 | inr sets ↦ let one = has.intact i (omega arith) in let version = mapped_of f versions one.0 one.1 in sets.0.1 base base_long ∙ sym (sets.0.1 version.0 (long version.0 version.1)) ∙ sym (ap (λ z. get_or z i 0) version.2) ∙ one.2 ]))

    onto : (base : List ℕ) × HasEachByte base versions × (f base ≡ bytes)
    onto = (base, record { one_length = λ version here. long version here ∙ sym base_long; intact = intact }, same)

  pub few_changed : (count : ℕ) → HasFewByByte versions count → (more : ℕ) × HasFewByByte (map f versions) more
  few_changed count few =
      let made = images_numbered (IsCombinationBy (Pairs 0) versions) (IsCombinationBy (Pairs 0) (map f versions)) f
      (λ bytes combination. bytes_combine (f bytes) (map f versions) (into bytes (each_of versions first there bytes combination)))
      (λ bytes combination. let base = onto bytes (each_of (map f versions) (f first) (mapped_there f versions first there) bytes combination) in
      (base.0, bytes_combine base.0 versions base.1, base.2)) count few.numbered in
      let low = made.2 in
      let most = few.few in
      (made.0, record { numbered = made.1; few = omega arith })
