-- Laws of votes.
use Rattle.ffv1_weave.proofs.Common.{◌≡◌, ℕ, List, get_or, sym, ap, ◌∙◌, arith, rules, sum, ext_get_or, HasSameMembers, votes, AreThree, AreTriedBy, IsVote, IsVoteOf, SameVersionsVote, OriginalIsVoted, Split, Regions}
use Rattle.ffv1_weave.proofs.Numbering.{one_number}
use Rattle.ffv1_weave.proofs.Tried.{few_or_many}
use Rattle.ffv1_weave.proofs.Returned.{RestsOnMembers, only_as}
use Rattle.ffv1_weave.proofs.WeaveLaws.{combination_as, has_few_as, has_many_as}

module _ (versions others : List (List ℕ)) (same : HasSameMembers versions others) where
  three_as : AreThree versions → AreThree others
  three_as h =
      record {
        one = h.one;
        other = h.other;
        third = h.third;
        one_there = (same h.one).0 h.one_there;
        other_there = (same h.other).0 h.other_there;
        third_there = (same h.third).0 h.third_there;
        one_other = h.one_other;
        one_third = h.one_third;
        other_third = h.other_third;
      }

  vote_as : (bytes : List ℕ) → IsVote versions bytes → IsVote others bytes
  vote_as bytes h = grind (arith, three_as, has_few_as, combination_as)

  tried_by_as : (split : Split) (count : ℕ) → AreTriedBy versions split count → AreTriedBy others split count
  tried_by_as split count h = grind (arith, has_few_as, has_many_as)

pub vote_of_as : RestsOnMembers IsVoteOf
vote_of_as versions others same bytes count h =
    record {
      only = only_as IsVote vote_as versions others same bytes h.only;
      tried = h.tried;
      all = h.all;
      each = λ k lt. tried_by_as versions others same (get_or votes k Regions) (get_or h.tried k 0) (h.each k lt);
      counted = h.counted;
    }

-- as many are tried by a split, whoever counts
one_tried_by : (versions : List (List ℕ)) (split : Split) (m n : ℕ) → AreTriedBy versions split m → AreTriedBy versions split n → m ≡ n
one_tried_by versions split m n h k = grind (arith, one_number, few_or_many)

module _ (versions : List (List ℕ)) (bytes others : List ℕ) (count other : ℕ) (h : IsVoteOf versions bytes count) (k : IsVoteOf versions others other) where
  same_tried : h.tried ≡ k.tried
  same_tried =
      let long = h.all in
      cc (ext_get_or 0 h.tried k.tried (long ∙ sym k.all) (λ i lt. one_tried_by versions (get_or votes i Regions) (get_or h.tried i 0) (get_or k.tried i 0) (h.each i (omega (arith, long))) (k.each i (omega (arith, long)))))

  one_vote : (bytes ≡ others) × (count ≡ other)
  one_vote = (k.only.others bytes h.only.there, h.counted ∙ ap sum same_tried ∙ sym k.counted)

pub same_versions_vote : SameVersionsVote
same_versions_vote = search (rules, vote_of_as, one_vote)

pub original_is_voted : OriginalIsVoted
original_is_voted original versions bytes count original_there h = sym (h.only.others original original_there)
