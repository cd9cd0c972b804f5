-- The starts that are claimed at an end, tried one after the other.
use Rattle.ffv1_splice.proofs.Common.{◌≡◌, ℕ, Vec, Global, ◌+◌, ◌-◌, ◌<◌, ◌≤◌, List, [], ◌∷◌, ◌++◌, length, get_or, map, min, mul-zero, Option, Some, None, replicate, refl, sym, ap, ◌∙◌, subst, arith, inl, inr, Contains, MatchOption, sum, cases_lt, cases_eq, ext_get_or, get_or_append_left, get_or-append_right, get_or-replicate, length-append, length-replicate, get_or-eq_default, get_or-append_seam, sum_by-append, sum_by-replicate, Weave, IsWeaveOf, woven, disputed, missing, too_many, Slice, same_versions_weave, weave_as, AreBytes, FooterGives, HasSameMembers, IsOfTwo, IsOfNone, HasContent, IsPiece, IsClaimedStart, versions_at, sized, IsWeaveOfSeveral, Tried, IsNextClaimedStart, TriedValue, capped, tried_more, tried_tally, AreMissing, AreTriedBefore, none_woven, one_woven, undecided}
use Rattle.ffv1_splice.specs.declared.several.Tried.TheVariants as tries
use Rattle.ffv1_splice.proofs.FirstSlices.{same_sized}
use Rattle.ffv1_splice.proofs.TallySteps.{last, start_on, start_back, one_cut}

-- ---- numbers of combinations by place

-- the numbers, and 0 for each place after them up to an end
padded : List ℕ → ℕ → List ℕ
padded tried end = tried ++ replicate (end - length tried) 0

length-padded : (tried : List ℕ) (end : ℕ) → length tried ≤ end → length (padded tried end) ≡ end
unfolding padded
length-padded tried end within = grind (arith, length-append, replicate, length-replicate)

padded_before : (tried : List ℕ) (end i : ℕ) → i < length tried → get_or (padded tried end) i 0 ≡ get_or tried i 0
unfolding padded
padded_before tried end i lt = get_or_append_left tried (replicate (end - length tried) 0) 0 i lt

pub zeros_anywhere : (n i : ℕ) → get_or {A = ℕ} (replicate n 0) i 0 ≡ 0
zeros_anywhere n i = grind (arith, cases_lt, get_or-replicate, get_or-eq_default, replicate, length-replicate)

padded_after : (tried : List ℕ) (end i : ℕ) → length tried ≤ i → get_or (padded tried end) i 0 ≡ 0
unfolding padded
padded_after tried end i low = grind (arith, get_or-append_right, replicate, zeros_anywhere)

sum-padded : (tried : List ℕ) (end : ℕ) → sum (padded tried end) ≡ sum tried
unfolding padded
sum-padded tried end = grind (arith, replicate, sum_by-append, sum_by-replicate, mul-zero)

-- the same with the number from one more place
grown : List ℕ → (start count : ℕ) → List ℕ
grown tried start count = padded tried start ++ count ∷ []

length-grown : (tried : List ℕ) (start count : ℕ) → length tried ≤ start → length (grown tried start count) ≡ start + 1
unfolding grown
length-grown tried start count within = omega (arith, length-append (padded tried start) (count ∷ []), length-padded tried start within)

grown_before : (tried : List ℕ) (start count i : ℕ) → length tried ≤ start → i < length tried → get_or (grown tried start count) i 0 ≡ get_or tried i 0
unfolding grown
grown_before tried start count i within lt = grind (arith, get_or_append_left, padded, length-padded, padded_before)

grown_at : (tried : List ℕ) (start count : ℕ) → length tried ≤ start → get_or (grown tried start count) start 0 ≡ count
unfolding grown
grown_at tried start count within =
    ap (λ n. get_or (padded tried start ++ count ∷ []) n 0) (sym (length-padded tried start within)) ∙ get_or-append_seam (padded tried start) count [] 0

grown_else : (tried : List ℕ) (start count i : ℕ) → length tried ≤ start → length tried ≤ i → (i ≡ start → ⊥) → get_or (grown tried start count) i 0 ≡ 0
unfolding grown
grown_else tried start count i within low apart =
    grind (arith, cases_lt, get_or_append_left, padded, length-padded, padded_after, cases_eq, get_or-eq_default, length-append)

sum-grown : (tried : List ℕ) (start count : ℕ) → sum (grown tried start count) ≡ sum tried + count
unfolding grown
sum-grown tried start count = grind (arith, padded, sum_by-append, sum-padded)

counted_more : (tried : List ℕ) (start before count : ℕ) → before ≡ capped (sum tried) → capped (before + count) ≡ capped (sum (grown tried start count))
counted_more tried start before count is = grind (arith, sum-grown)

-- ---- what comes of one start

module _ (copies : List (List ℕ)) (end : ℕ) where
  abbrev pub IsWeaveFrom : ℕ → Weave → Type 0
  IsWeaveFrom start weave = IsWeaveOf Slice (map sized (versions_at copies start end)) weave

  pub one_weave_from : (start : ℕ) (one other : Weave) → IsWeaveFrom start one → IsWeaveFrom start other → one ≡ other
  one_weave_from start one other h k = grind (arith, same_versions_weave)

  -- where something else than a slice or nothing comes of a claimed start, no start of several is the one
  pub not_claim_alone : (from : ℕ) (weave : Weave) → IsClaimedStart copies end from → IsWeaveFrom from weave
      → ((bytes : List ℕ) (count : ℕ) → weave ≡ woven bytes count → ⊥) → ((count : ℕ) → weave ≡ missing count → ⊥)
      → (start : ℕ) (bytes : List ℕ) (count : ℕ) → IsWeaveOfSeveral copies start end bytes count → ⊥
  not_claim_alone from weave claim is unwoven unmissing start bytes count h = elim (cases_eq from start) [
    | inl same ↦
        unwoven bytes (get_or h.tried start 0) (one_weave_from from weave (woven bytes (get_or h.tried start 0)) is (rw same h.weave'))
    | inr apart ↦ unmissing (get_or h.tried from 0) (one_weave_from from weave (missing (get_or h.tried from 0)) is (h.others from claim apart))
  ]

  -- where two claimed starts give a slice, neither is
  pub not_two_claim : (one other : ℕ) (a b : List ℕ) (m n : ℕ) → one < other → IsClaimedStart copies end one → IsClaimedStart copies end other
      → IsWeaveFrom one (woven a m) → IsWeaveFrom other (woven b n)
      → (start : ℕ) (bytes : List ℕ) (count : ℕ) → IsWeaveOfSeveral copies start end bytes count → ⊥
  not_two_claim one other a b m n below claim too h k start bytes count w = elim (cases_eq one start) [
    | inl same ↦
        let apart : other ≡ start → ⊥ = λ also. omega arith in
        let e = one_weave_from other (woven b n) (missing (get_or w.tried other 0)) k (w.others other too apart) in absurd (cc)
    | inr apart ↦ let e = one_weave_from one (woven a m) (missing (get_or w.tried one 0)) h (w.others one claim apart) in absurd (cc)
  ]

  -- where nothing comes of any, none is
  pub not_all_missing : (tried : List ℕ) → AreMissing copies end end (λ start. ⊥) tried
      → (start : ℕ) (bytes : List ℕ) (count : ℕ) → IsWeaveOfSeveral copies start end bytes count → ⊥
  not_all_missing tried are start bytes count w =
      let e = one_weave_from start (missing (get_or tried start 0)) (woven bytes (get_or w.tried start 0))
      (are.missing' start (omega arith) w.claim (λ none. none)) w.weave' in
      absurd (cc)

  -- ---- one more start

  module _ (from start : ℕ) (next : IsNextClaimedStart copies end from start) where
    claim_below : (other : ℕ) → other < start + 1 → IsClaimedStart copies end other → (other ≡ start → ⊥) → other < from
    claim_below other lt claim apart = grind (arith, cases_lt)

    missing_more : (IsApart : ℕ → Type 0) (tried : List ℕ) (count : ℕ) → AreMissing copies end from IsApart tried
        → ((other : ℕ) → other ≡ start → (IsApart other → ⊥) → IsWeaveFrom other (missing count))
        → AreMissing copies end (start + 1) IsApart (grown tried start count)
    missing_more IsApart tried count are new =
        let beyond = next.beyond in
        let places = are.places in
        record {
          places = length-grown tried start count (omega arith);
          missing' = λ other lt claim not_apart. elim (cases_eq other start) [
            | inl same ↦
                let number : count ≡ get_or (grown tried start count) other 0 =
                sym (ap (λ i. get_or (grown tried start count) i 0) same ∙ grown_at tried start count (omega arith)) in
                subst (λ n. IsWeaveFrom other (missing n)) number (new other same not_apart)
            | inr apart ↦
                let below = claim_below other lt claim apart in
                subst (λ n. IsWeaveFrom other (missing n)) (sym (grown_before tried start count other (omega arith) (omega arith)))
                (are.missing' other below claim not_apart)
          ];
          no_claim = grind (arith, cases_lt, grown_before, grown_else);
        }

    -- set apart, where something comes of it
    missing_else : (tried : List ℕ) (count : ℕ) → AreMissing copies end from (λ start. ⊥) tried
        → AreMissing copies end (start + 1) (λ other. other ≡ start) (grown tried start count)
    missing_else tried count are =
        missing_more (λ other. other ≡ start) tried count
        (record { places = are.places; missing' = λ other lt claim apart. are.missing' other lt claim (λ none. none); no_claim = are.no_claim })
        (λ other same apart. absurd (apart same))

    pub tried_next : (value : TriedValue) (weave : Weave) → IsWeaveFrom start weave → AreTriedBefore copies end from value
        → AreTriedBefore copies end (start + 1) (tried_more value start weave)
    tried_next (none_woven n) (woven bytes more) is h =
        let beyond = next.beyond in
        let places = h.1.places in (
          grown h.0 start more,
          record {
            others = missing_else h.0 more h.1;
            before = omega arith;
            claim = next.there;
            weave' = subst (λ m. IsWeaveFrom start (woven bytes m)) (sym (grown_at h.0 start more (omega arith))) is;
          },
          counted_more h.0 start n more h.2,
        )
    tried_next (none_woven n) (missing more) is h = (
      grown h.0 start more,
      missing_more (λ start. ⊥) h.0 more h.1 (λ other same apart. subst (λ s. IsWeaveFrom s (missing more)) (sym same) is),
      counted_more h.0 start n more h.2,
    )
    tried_next (none_woven n) disputed is h = not_claim_alone start disputed next.there is (λ bytes count e. absurd (cc)) (λ count e. absurd (cc))
    tried_next (none_woven n) too_many is h = not_claim_alone start too_many next.there is (λ bytes count e. absurd (cc)) (λ count e. absurd (cc))
    tried_next (one_woven first bytes n) (woven other more) is h =
        let beyond = next.beyond in
        not_two_claim first start bytes other (get_or h.0 first 0) more (omega arith) h.1.claim next.there h.1.weave' is
    tried_next (one_woven first bytes n) (missing more) is h =
        let before = h.1.before in
        let beyond = next.beyond in
        let places = h.1.others.places in (
          grown h.0 start more,
          record {
            others = missing_more (λ other. other ≡ first) h.0 more h.1.others (λ other same apart. rw same is);
            before = omega arith;
            claim = h.1.claim;
            weave' = rw (grown_before h.0 start more first (omega arith) (omega arith)) h.1.weave';
          },
          counted_more h.0 start n more h.2,
        )
    tried_next (one_woven first bytes n) disputed is h =
        not_claim_alone start disputed next.there is (λ bytes count e. absurd (cc)) (λ count e. absurd (cc))
    tried_next (one_woven first bytes n) too_many is h =
        not_claim_alone start too_many next.there is (λ bytes count e. absurd (cc)) (λ count e. absurd (cc))
    tried_next undecided weave is h = h

  -- ---- no more start

  module _ (from : ℕ) (within : from ≤ end) (none : (start : ℕ) → IsClaimedStart copies end start → start < from) where
    missing_end : (IsApart : ℕ → Type 0) (tried : List ℕ) → AreMissing copies end from IsApart tried
        → AreMissing copies end end IsApart (padded tried end)
    missing_end IsApart tried are =
        let places = are.places in
        record {
          places = length-padded tried end (omega arith);
          missing' = λ start lt claim apart.
              let below = none start claim in
              subst (λ n. IsWeaveFrom start (missing n)) (sym (padded_before tried end start (omega arith))) (are.missing' start below claim apart);
          no_claim = grind (arith, cases_lt, padded_before, padded_after);
        }

    pub tried_end : (value : TriedValue) → AreTriedBefore copies end from value → AreTriedBefore copies end end value
    tried_end (none_woven n) h = (padded h.0 end, missing_end (λ start. ⊥) h.0 h.1, h.2 ∙ ap capped (sym (sum-padded h.0 end)))
    tried_end (one_woven start bytes n) h =
        let before = h.1.before in
        let places = h.1.others.places in (
          padded h.0 end,
          record {
            others = missing_end (λ other. other ≡ start) h.0 h.1.others;
            before = omega arith;
            claim = h.1.claim;
            weave' = subst (λ m. IsWeaveFrom start (woven bytes m)) (sym (padded_before h.0 end start (omega arith))) h.1.weave';
          },
          h.2 ∙ ap capped (sym (sum-padded h.0 end)),
        )
    tried_end undecided h = h

-- ---- as the code has it

module _ (copies : List (List ℕ)) (end : ℕ) where
  -- what is woven of several starts
  pub several_of : (start count : ℕ) (bytes : List ℕ) → ((copy : List ℕ) → Contains copies copy → AreBytes copy) → IsOfNone (IsPiece copies end)
      → IsOfTwo (IsClaimedStart copies end) → AreTriedBefore copies end end (one_woven start bytes count) → IsWeaveOfSeveral copies start end bytes count
  several_of start count bytes are_bytes none several h =
      record {
        are_bytes = are_bytes;
        none = none;
        several = several;
        claim = h.1.claim;
        tried = h.0;
        places = h.1.others.places;
        weave' = h.1.weave';
        others = λ other claim apart. let content : HasContent other end = claim.content in h.1.others.missing' other (omega arith) claim apart;
        no_claim = h.1.others.no_claim;
        counted = h.2;
      }

  -- and where nothing is
  pub none_of_several : (tried : Tried) → ((start : ℕ) (bytes : Vec ℕ Global) (count : ℕ) → tried ≡ tries.Woven start bytes count → ⊥)
      → AreTriedBefore copies end end (tried_tally tried) → (start : ℕ) (bytes : List ℕ) (count : ℕ) → IsWeaveOfSeveral copies start end bytes count → ⊥
  none_of_several (tries.Missing count) apart h = not_all_missing copies end h.0 h.1
  none_of_several (tries.Woven start bytes count) apart h = absurd (apart start bytes count refl)
  none_of_several tries.Undecided apart h = h

-- ---- one start is the one

module _ (copies : List (List ℕ)) (end s t : ℕ) (a b : List ℕ) (m n : ℕ) (h : IsWeaveOfSeveral copies s end a m)
    (k : IsWeaveOfSeveral copies t end b n) where
  pub one_start : s ≡ t
  one_start = elim (cases_eq s t) [
    | inl same ↦ same
    | inr apart ↦
        let e = one_weave_from copies end s (woven a (get_or h.tried s 0)) (missing (get_or k.tried s 0)) h.weave' (k.others s h.claim apart) in
        absurd (cc)
  ]

  same_weave : woven a (get_or h.tried s 0) ≡ woven b (get_or k.tried s 0)
  same_weave =
      cc (one_weave_from copies end s (woven a (get_or h.tried s 0)) (woven b (get_or k.tried s 0)) h.weave' (subst (λ p. IsWeaveFrom copies end p (woven b (get_or k.tried p 0))) (sym one_start) k.weave'))

  same_number : (p : ℕ) → IsClaimedStart copies end p → get_or h.tried p 0 ≡ get_or k.tried p 0
  same_number p claim = elim (cases_eq p s) [
    | inl same ↦ grind (arith, same_weave)
    | inr apart ↦
        let e = one_weave_from copies end p (missing (get_or h.tried p 0)) (missing (get_or k.tried p 0)) (h.others p claim apart)
        (k.others p claim (λ same. apart (same ∙ sym one_start))) in
        cc
  ]

  same_tried : h.tried ≡ k.tried
  same_tried =
      cc (ext_get_or 0 h.tried k.tried (h.places ∙ sym k.places) (λ p lt. elim (cases_eq (get_or h.tried p 0) (get_or k.tried p 0)) [ inl same ↦ same | inr apart ↦ let no_claim : IsClaimedStart copies end p → ⊥ = λ claim. apart (same_number p claim) in h.no_claim p no_claim ∙ sym (k.no_claim p no_claim) ]))

  pub one_several : woven a m ≡ woven b n
  one_several = grind (arith, same_weave, same_tried)

-- ---- the same copies

module _ (copies others : List (List ℕ)) (same : HasSameMembers copies others) (end : ℕ) where
  claim_as : (start : ℕ) → IsClaimedStart copies end start → IsClaimedStart others end start
  claim_as start h = record { copy = h.copy; there = (same h.copy).0 h.there; cut = h.cut; content = h.content }

  claim_back : (start : ℕ) → IsClaimedStart others end start → IsClaimedStart copies end start
  claim_back start h = record { copy = h.copy; there = (same h.copy).1 h.there; cut = h.cut; content = h.content }

  weave_from_as : (start : ℕ) (weave : Weave) → IsWeaveFrom copies end start weave → IsWeaveFrom others end start weave
  weave_from_as start weave h =
      weave_as Slice (map sized (versions_at copies start end)) (map sized (versions_at others start end)) (same_sized copies others same start end) weave h

  pub several_as : (start : ℕ) (bytes : List ℕ) (count : ℕ) → IsWeaveOfSeveral copies start end bytes count → IsWeaveOfSeveral others start end bytes count
  several_as start bytes count h =
      record {
        are_bytes = λ copy there. h.are_bytes copy ((same copy).1 there);
        none = λ piece p. h.none piece (record {
          copy = p.copy;
          there = (same p.copy).1 p.there;
          cut = p.cut;
          content = p.content;
          bytes = p.bytes;
          passes = p.passes;
        });
        several = record {
          one = h.several.one;
          other = h.several.other;
          one_there = claim_as h.several.one h.several.one_there;
          other_there = claim_as h.several.other h.several.other_there;
          differ = h.several.differ;
        };
        claim = claim_as start h.claim;
        tried = h.tried;
        places = h.places;
        weave' = weave_from_as start (woven bytes (get_or h.tried start 0)) h.weave';
        others = λ other claim apart. weave_from_as other (missing (get_or h.tried other 0)) (h.others other (claim_back other claim) apart);
        no_claim = λ other no_claim. h.no_claim other (λ claim. no_claim (claim_as other claim));
        counted = h.counted;
      }

-- ---- the next start, copy by copy

abbrev pub IsNext : List (List ℕ) → (end from : ℕ) → Option ℕ → Type 0
IsNext copies end from next =
    MatchOption next ((start : ℕ) → IsClaimedStart copies end start → start < from) (IsNextClaimedStart copies end from)

module _ (copies : List (List ℕ)) (copy : List ℕ) (end from : ℕ) where
  -- a copy that claims no start from the place on
  pub next_kept : (next : Option ℕ) → ((start : ℕ) → FooterGives copy start end → HasContent start end → start < from) → IsNext copies end from next
      → IsNext (copies ++ copy ∷ []) end from next
  next_kept None below h = λ start claim. elim (start_back copies copy end start claim) [ inl there ↦ h start there | inr new ↦ below start new.0 new.1 ]
  next_kept (Some first) below h =
      record {
        there = start_on copies copy end first h.there;
        beyond = h.beyond;
        least = λ other claim low. elim (start_back copies copy end other claim) [
          | inl there ↦ h.least other there low
          | inr new ↦ let early = below other new.0 new.1 in absurd (omega arith)
        ];
      }

  -- and one that does
  pub next_more : (next : Option ℕ) (start after : ℕ) → FooterGives copy start end → HasContent start end → from ≤ start
      → MatchOption next (after ≡ start) (λ first. after ≡ min first start) → IsNext copies end from next
      → IsNextClaimedStart (copies ++ copy ∷ []) end from after
  next_more None start after cut content low is h =
      let new : IsClaimedStart (copies ++ copy ∷ []) end start = grind (arith, last) in
      record {
        there = subst (IsClaimedStart (copies ++ copy ∷ []) end) (sym is) new;
        beyond = omega arith;
        least = λ other claim above. elim (start_back copies copy end other claim) [
          | inl there ↦ let early = h other there in absurd (omega arith)
          | inr own ↦ let same = one_cut copies copy end start other cut own.0 in omega arith
        ];
      }
  next_more (Some first) start after cut content low is h =
      let new : IsClaimedStart (copies ++ copy ∷ []) end start = grind (arith, last) in
      let beyond = h.beyond in
      record {
        there = grind (arith, cases_lt, start_on);
        beyond = omega arith;
        least = λ other claim high. elim (start_back copies copy end other claim) [
          | inl there ↦ let least = h.least other there high in omega arith
          | inr own ↦ let same = one_cut copies copy end start other cut own.0 in omega arith
        ];
      }
