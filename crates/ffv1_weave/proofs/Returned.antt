-- What is returned of bytes that are found, and of how many were tried.
use Rattle.ffv1_weave.proofs.Common.{ℕ, List, Option, Some, None, Result, Vec, Global, IfOk, MatchOption, AllocError, IfOk-weaker, HasSameMembers, IsOnly}
use Rattle.ffv1_weave.proofs.WeaveLaws.{same_back}

abbrev IsFoundBy : (List ℕ → ℕ → Type 0) → Option (Vec ℕ Global × ℕ) → Type 0
IsFoundBy IsRight found = MatchOption found ((bytes : List ℕ) (count : ℕ) → IsRight bytes count → ⊥) (λ (bytes, count). IsRight bytes.items count)

abbrev pub IsReturnedBy : (List ℕ → ℕ → Type 0) → Result (Option (Vec ℕ Global × ℕ)) AllocError → Type 0
IsReturnedBy IsRight returned = IfOk returned (IsFoundBy IsRight)

-- What is right of versions is so of others with the same members.
abbrev pub RestsOnMembers : (List (List ℕ) → List ℕ → ℕ → Type 0) → Type 0
RestsOnMembers IsRight =
    (versions others : List (List ℕ)) → HasSameMembers versions others → (bytes : List ℕ) (count : ℕ) → IsRight versions bytes count → IsRight others bytes count

-- Then what is returned for versions is right for others with the same members.
module _ (IsRight : List (List ℕ) → List ℕ → ℕ → Type 0) (carried : RestsOnMembers IsRight) (versions others : List (List ℕ))
    (same : HasSameMembers versions others) where
  found_as : (found : Option (Vec ℕ Global × ℕ)) → IsFoundBy (IsRight versions) found → IsFoundBy (IsRight others) found
  found_as None h = λ bytes count right. h bytes count (carried others versions (same_back versions others same) bytes count right)
  found_as (Some found) h = carried versions others same found.0.items found.1 h

  pub returned_as : (returned : Result (Option (Vec ℕ Global × ℕ)) AllocError) → IsReturnedBy (IsRight versions) returned → IsReturnedBy (IsRight others) returned
  returned_as returned h = IfOk-weaker returned (IsFoundBy (IsRight versions)) (IsFoundBy (IsRight others)) found_as h

-- what is the only one for versions is so for others with the same members
pub only_as : (Is : List (List ℕ) → List ℕ → Type 0)
    → ((versions others : List (List ℕ)) → HasSameMembers versions others → (bytes : List ℕ) → Is versions bytes → Is others bytes)
    → (versions others : List (List ℕ)) → HasSameMembers versions others → (bytes : List ℕ) → IsOnly (Is versions) bytes → IsOnly (Is others) bytes
only_as Is carried versions others same bytes h =
    record {
      there = carried versions others same bytes h.there;
      others = λ other is. h.others other (carried others versions (same_back versions others same) other is);
    }
