-- The vote and the repair of a place, as the code returns them.
use Rattle.ffv1_splice.proofs.Common.{◌≡◌, ℕ, Vec, Global, List, Option, None, Some, Bool, true, false, refl, inl, inr, arith, MatchOption, IsTrue, IsFalse, MatchOption-at_none, MatchOption-at_some, missing, too_many, IsRepairOf, IsVoteOf, versions_at, IsWeaveAt, IsUnwovenAt, IsVoteAt, IsUnvotedAt, IsRepairAt, IsMissingAt}

absent : {X : Type 0} (found : Option X) → ((x : X) → found ≡ Some x → ⊥) → found ≡ None
absent None h = refl
absent (Some x) h = absurd (h x refl)

-- nothing is woven, whether all combinations were tried or not
pub unwoven_by : (copies : List (List ℕ)) (start end : ℕ) (all_tried : Bool)
    → (IsTrue all_tried → (count : ℕ) × IsWeaveAt copies start end (missing count)) → (IsFalse all_tried → IsWeaveAt copies start end too_many)
    → IsUnwovenAt copies start end
unwoven_by copies start end true missed many = inl (missed refl)
unwoven_by copies start end false missed many = inr (many refl)

-- what is returned: bytes that are made, and the number of those that are tried, or that none are
abbrev pub IsResult : (List ℕ → ℕ → Type 0) → Option (Vec ℕ Global × ℕ) → Type 0
IsResult P found = MatchOption found ((bytes : List ℕ) (count : ℕ) → P bytes count → ⊥) (λ (bytes, count). P bytes.items count)

-- what is returned for versions, said of them as the copies have them
module _ (P : List (List ℕ) → List ℕ → ℕ → Type 0) (versions all : List (List ℕ)) (are : versions ≡ all) (found : Option (Vec ℕ Global × ℕ))
    (returned : IsResult (P versions) found) where
  made_there : (bytes : Vec ℕ Global) (count : ℕ) → found ≡ Some (bytes, count) → P all bytes.items count
  made_there bytes count is = grind (arith, MatchOption-at_some)

  none_there : ((x : Vec ℕ Global × ℕ) → found ≡ Some x → ⊥) → (bytes : List ℕ) (count : ℕ) → P all bytes count → ⊥
  none_there apart = grind (arith, MatchOption-at_none, absent)

module _ (copies : List (List ℕ)) (start end : ℕ) (versions : List (List ℕ)) (are : versions ≡ versions_at copies start end)
    (found : Option (Vec ℕ Global × ℕ)) where
  pub is_voted : IsUnwovenAt copies start end → IsResult (IsVoteOf versions) found → (bytes : Vec ℕ Global) (count : ℕ) → found ≡ Some (bytes, count)
      → IsVoteAt copies start end bytes.items count
  is_voted unwoven returned bytes count is = grind (arith, made_there)

  pub is_unvoted : IsResult (IsVoteOf versions) found → ((x : Vec ℕ Global × ℕ) → found ≡ Some x → ⊥) → IsUnvotedAt copies start end
  is_unvoted returned apart = none_there IsVoteOf versions (versions_at copies start end) are found returned apart

  module _ (missed : (count : ℕ) × IsWeaveAt copies start end (missing count)) (unvoted : IsUnvotedAt copies start end)
      (returned : IsResult (IsRepairOf versions) found) where
    pub is_repaired : (bytes : Vec ℕ Global) (count : ℕ) → found ≡ Some (bytes, count) → IsRepairAt copies start end bytes.items count
    is_repaired bytes count is = grind (arith, made_there)

    pub is_missing : ((x : Vec ℕ Global × ℕ) → found ≡ Some x → ⊥) → IsMissingAt copies start end
    is_missing apart = (inl (missed, none_there IsRepairOf versions (versions_at copies start end) are found returned apart), unvoted)
