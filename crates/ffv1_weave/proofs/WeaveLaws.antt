-- Laws of the weave.
use Rattle.ffv1_weave.proofs.Common.{◌≡◌, ℕ, ◌-◌, List, refl, sym, ap, ◌∙◌, inl, inr, arith, rules, slice_range, AgreeAt, DifferAt, IsRegion, IsBoundary, IsSegment, IsPartBy, IsChoiceOf, IsChoiceBy, HasChoice, IsMost, AreNumbered, IsCombinationBy, IsValid, HasFew, HasMany, IsTriedBy, Weave, IsWeaveOf, AreFew, AreMany, woven, disputed, missing, too_many, Check, Split, Pairs, Regions, Most, HasSameMembers, SameVersionsWeave}
use Rattle.ffv1_weave.proofs.Tried.{one_count, few_not_many}

pub same_back : (versions others : List (List ℕ)) → HasSameMembers versions others → HasSameMembers others versions
same_back versions others same version = ((same version).1, (same version).0)

-- ---- parts rest on the members of the versions alone

module _ (versions others : List (List ℕ)) (same : HasSameMembers versions others) where
  agree_as : (i : ℕ) → AgreeAt versions i → AgreeAt others i
  agree_as i h one other there here = h one other ((same one).1 there) ((same other).1 here)

  agree_back : (i : ℕ) → AgreeAt others i → AgreeAt versions i
  agree_back i h one other there here = h one other ((same one).0 there) ((same other).0 here)

  region_back : (start end : ℕ) → IsRegion others start end → IsRegion versions start end
  region_back start end h =
      record {
        some = h.some;
        first = λ agree. h.first (agree_as start agree);
        last = λ agree. let last : DifferAt others (end - 1) = h.last in last (agree_as (end - 1) agree);
        before = λ i low near. agree_back i (h.before i low near);
        after = λ i low near. agree_back i (h.after i low near);
        within = λ i low high differ.
            let next = h.within i low high (λ agree. differ (agree_back i agree)) in
            (next.0, next.1, next.2, next.3, λ agree. next.4 (agree_as next.0 agree));
      }

  boundary_as : (distance place : ℕ) → IsBoundary distance versions place → IsBoundary distance others place
  boundary_as distance place h =
      record {
        one = h.one;
        other = h.other;
        one_there = (same h.one).0 h.one_there;
        other_there = (same h.other).0 h.other_there;
        parted = h.parted;
      }

-- ---- and so does what is taken in them

module _ (versions others : List (List ℕ)) (same : HasSameMembers versions others) (start end : ℕ) where
  has_as : (choice version : List ℕ) → HasChoice versions start end choice version → HasChoice others start end choice version
  has_as choice version h = record { there = (same version).0 h.there; has = h.has }

  has_back : (choice version : List ℕ) → HasChoice others start end choice version → HasChoice versions start end choice version
  has_back choice version h = record { there = (same version).1 h.there; has = h.has }

module _ (versions others : List (List ℕ)) (same : HasSameMembers versions others) where
  have_as : (start end : ℕ) (choice : List ℕ) (count : ℕ) → AreNumbered (HasChoice versions start end choice) count
      → AreNumbered (HasChoice others start end choice) count
  have_as start end choice count h =
      record {
        at = h.at;
        are = λ k lt. has_as versions others same start end choice (h.at k) (h.are k lt);
        all = λ version has. h.all version (has_back versions others same start end choice version has);
        once = h.once;
      }

module _ (versions others : List (List ℕ)) (same : HasSameMembers versions others) where
  most_as : (start end : ℕ) (choice : List ℕ) → IsMost versions start end choice → IsMost others start end choice
  most_as start end choice h =
      record {
        count = h.count;
        have = have_as versions others same start end choice h.count h.have;
        others = λ other more numbers.
            h.others other more (have_as others versions (same_back versions others same) start end other more numbers);
      }

  some_as : (start end : ℕ) (choice : List ℕ) → IsChoiceOf versions start end choice → IsChoiceOf others start end choice
  some_as start end choice h = (h.0, (same h.0).0 h.1, h.2)

  taken_as : (split : Split) (start end : ℕ) (choice : List ℕ) → IsChoiceBy split versions start end choice → IsChoiceBy split others start end choice
  taken_as (Pairs distance) start end choice h = some_as start end choice h
  taken_as Regions start end choice h = some_as start end choice h
  taken_as (Most distance) start end choice h = (some_as start end choice h.0, most_as start end choice h.1)

-- ---- and so the combinations

module _ (versions others : List (List ℕ)) (same : HasSameMembers versions others) where
  segment_back : (distance start end : ℕ) → IsSegment distance others start end → IsSegment distance versions start end
  segment_back distance start end h =
      let back = same_back versions others same in
      record {
        some = h.some;
        first = elim h.first [ inl zero ↦ inl zero | inr boundary ↦ inr (boundary_as others versions back distance start boundary) ];
        last = elim h.last [
          | inl boundary ↦ inl (boundary_as others versions back distance end boundary)
          | inr at_end ↦ inr (at_end.0, (same at_end.0).1 at_end.1, at_end.2)
        ];
        within = λ i low high boundary. h.within i low high (boundary_as versions others same distance i boundary);
      }

  part_back : (split : Split) (start end : ℕ) → IsPartBy split others start end → IsPartBy split versions start end
  part_back (Pairs distance) start end h = segment_back distance start end h
  part_back Regions start end h = region_back versions others same start end h
  part_back (Most distance) start end h = segment_back distance start end h

  pub combination_as : (split : Split) (bytes : List ℕ) → IsCombinationBy split versions bytes → IsCombinationBy split others bytes
  combination_as split bytes h =
      record {
        same_length = λ version there. h.same_length version ((same version).1 there);
        agrees = λ i agree version there. h.agrees i (agree_back versions others same i agree) version ((same version).1 there);
        parts = λ start end part. taken_as versions others same split start end (slice_range bytes start end) (h.parts start end (part_back split start end part));
      }

-- ---- and those that are tried

module _ (versions others : List (List ℕ)) (same : HasSameMembers versions others) where
  numbered_as : (split : Split) (count : ℕ) → AreNumbered (IsCombinationBy split versions) count → AreNumbered (IsCombinationBy split others) count
  numbered_as split count h =
      record {
        at = h.at;
        are = λ k lt. combination_as versions others same split (h.at k) (h.are k lt);
        all = λ bytes combination. h.all bytes (combination_as others versions (same_back versions others same) split bytes combination);
        once = h.once;
      }

  pub has_few_as : (split : Split) (count : ℕ) → HasFew versions split count → HasFew others split count
  has_few_as split count h = record { numbered = numbered_as split count h.numbered; few = h.few }

  pub has_many_as : (split : Split) → HasMany versions split → HasMany others split
  has_many_as split h = record { at = h.at; are = λ k low. combination_as versions others same split (h.at k) (h.are k low); once = h.once }

  pub tried_as : (split : Split) (count : ℕ) → IsTriedBy versions split count → IsTriedBy others split count
  tried_as split count h = grind (arith, has_many_as, has_few_as)

  pub valid_as : (check : Check) (bytes : List ℕ) → IsValid check versions bytes → IsValid check others bytes
  valid_as check bytes h = search (rules, tried_as, combination_as)

  pub few_as : (count : ℕ) → AreFew versions count → AreFew others count
  few_as count h = record { split = h.split; tried = tried_as h.split count h.tried }

  pub many_as : AreMany versions → AreMany others
  many_as h = record { each = λ split there. has_many_as split (h.each split there) }

module _ (check : Check) (versions others : List (List ℕ)) (same : HasSameMembers versions others) where
  back : (bytes : List ℕ) → IsValid check others bytes → IsValid check versions bytes
  back bytes valid = valid_as others versions (same_back versions others same) check bytes valid

  pub weave_as : (weave : Weave) → IsWeaveOf check versions weave → IsWeaveOf check others weave
  weave_as (woven bytes count) h = (
    record {
      there = valid_as versions others same check bytes h.0.there;
      others = λ other valid. h.0.others other (back other valid);
    },
    few_as versions others same count h.1,
  )
  weave_as disputed h = (
    record {
      one = h.0.one;
      other = h.0.other;
      one_there = valid_as versions others same check h.0.one h.0.one_there;
      other_there = valid_as versions others same check h.0.other h.0.other_there;
      differ = h.0.differ;
    },
    (h.1.0, few_as versions others same h.1.0 h.1.1),
  )
  weave_as (missing count) h = (λ bytes valid. h.0 bytes (back bytes valid), few_as versions others same count h.1)
  weave_as too_many h = many_as versions others same h

-- ---- versions have one weave

module _ (check : Check) (versions : List (List ℕ)) where
  one_weave : (one other : Weave) → IsWeaveOf check versions one → IsWeaveOf check versions other → one ≡ other
  one_weave (woven a m) (woven b n) h k = ap (λ z. woven z m) (k.0.others a h.0.there) ∙ ap (woven b) (one_count versions m n h.1 k.1)
  one_weave (woven a m) disputed h k = absurd (k.0.differ (h.0.others k.0.one k.0.one_there ∙ sym (h.0.others k.0.other k.0.other_there)))
  one_weave (woven a m) (missing n) h k = absurd (k.0 a h.0.there)
  one_weave (woven a m) too_many h k = absurd (few_not_many versions m h.1 k)
  one_weave disputed (woven b n) h k = absurd (h.0.differ (k.0.others h.0.one h.0.one_there ∙ sym (k.0.others h.0.other h.0.other_there)))
  one_weave disputed disputed h k = refl
  one_weave disputed (missing n) h k = absurd (k.0 h.0.one h.0.one_there)
  one_weave disputed too_many h k = absurd (few_not_many versions h.1.0 h.1.1 k)
  one_weave (missing m) (woven b n) h k = absurd (h.0 b k.0.there)
  one_weave (missing m) disputed h k = absurd (h.0 k.0.one k.0.one_there)
  one_weave (missing m) (missing n) h k = ap missing (one_count versions m n h.1 k.1)
  one_weave (missing m) too_many h k = absurd (few_not_many versions m h.1 k)
  one_weave too_many (woven b n) h k = absurd (few_not_many versions n k.1 h)
  one_weave too_many disputed h k = absurd (few_not_many versions k.1.0 k.1.1 h)
  one_weave too_many (missing n) h k = absurd (few_not_many versions n k.1 h)
  one_weave too_many too_many h k = refl

pub same_versions_weave : SameVersionsWeave
same_versions_weave check versions others one other same h k = one_weave check others one other (weave_as check versions others same one h) k
