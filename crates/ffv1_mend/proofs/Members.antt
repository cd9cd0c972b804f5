-- Lists with the same members, and lists with each member once.
use Rattle.std.proofs.Common.{◌≡◌, ℕ, ◌<◌, Bool, true, false, List, [], ◌∷◌, ◌++◌, length, map, get_or, sym, ap, ◌∙◌, subst, arith, inl, inr}
use Rattle.std.specs.Prelude.{◌↔◌, ◌≢◌, IsTrue, Any, AllPairs, Contains}
use Rattle.std.proofs.lemmas.List.{get_or-map, length-map, get_or_default}
use Rattle.std.proofs.lemmas.List.Elements.{Contains-append_left, Contains-push, Contains-push_cases, Contains-get_or}
use Rattle.std.proofs.lemmas.List.Quantifiers.{all_pairs_push}
use Rattle.ffv1_slice.specs.Members.{HasSameMembers, IsOnly}
use Rattle.ffv1_mend.specs.Inner.Distinct.{AreDistinctOf}

-- ---- the same members

-- a list with no members has none of another's
pub members_some : (xs ys : List (List ℕ)) → HasSameMembers xs ys → 0 < length xs → 0 < length ys
members_some xs ys same some = let there = (same (get_or xs 0 [])).0 (Contains-get_or xs 0 [] some) in omega (arith, there.1)

-- ---- one more member

module _ (seen found : List (List ℕ)) (version : List ℕ) where
  pub members_same : HasSameMembers seen found → Contains found version → HasSameMembers (seen ++ version ∷ []) found
  members_same same here bytes = (
    λ there. elim (Contains-push_cases seen version bytes there) [ inl known ↦ (same bytes).0 known | inr new ↦ subst (Contains found) new here ],
    λ there. Contains-append_left seen (version ∷ []) bytes ((same bytes).1 there),
  )

  pub members_more : HasSameMembers seen found → HasSameMembers (seen ++ version ∷ []) (found ++ version ∷ [])
  members_more same bytes = (
    λ there. elim (Contains-push_cases seen version bytes there) [
      | inl known ↦ Contains-append_left found (version ∷ []) bytes ((same bytes).0 known)
      | inr new ↦ subst (Contains (found ++ version ∷ [])) new (Contains-push found version)
    ],
    λ there. elim (Contains-push_cases found version bytes there) [
      | inl known ↦ Contains-append_left seen (version ∷ []) bytes ((same bytes).1 known)
      | inr new ↦ subst (Contains (seen ++ version ∷ [])) new (Contains-push seen version)
    ],
  )

  pub distinct_same : AreDistinctOf seen found → Contains found version → AreDistinctOf (seen ++ version ∷ []) found
  distinct_same h here = record { same = members_same h.same here; once = h.once }

  pub distinct_more : AreDistinctOf seen found → (Contains found version → ⊥) → AreDistinctOf (seen ++ version ∷ []) (found ++ version ∷ [])
  distinct_more h new =
      record {
        same = members_more h.same;
        once = all_pairs_push (λ one other. one ≢ other) found version h.once
            (λ k d lt is. new (k, lt, get_or_default found k version d lt ∙ is));
      }

-- ---- whether a list has a member, as the code asks

module _ {A : Type 0} (f : A → List ℕ) (xs : List A) (bytes : List ℕ) (returned : Bool) (asked : IsTrue returned ↔ Any (λ x. f x ≡ bytes) xs) where
  pub has_member : returned ≡ true → Contains (map f xs) bytes
  has_member is =
      let any = asked.0 is in
      let lt : any.0 < length xs = any.2 in
      (any.0, omega (arith, length-map xs f), get_or-map f xs any.0 any.1 bytes any.2 ∙ ap f any.3 ∙ any.4)

  pub lacks_member : (d : A) → returned ≡ false → Contains (map f xs) bytes → ⊥
  lacks_member d is there =
      let lt : there.0 < length xs = omega (arith, there.1, length-map xs f) in
      let at : A = get_or xs there.0 d in
      let found = asked.1 (there.0, at, lt, get_or_default xs there.0 (get_or xs there.0 d) d lt, sym (get_or-map f xs there.0 d bytes lt) ∙ there.2) in
      absurd (cc)

-- ---- two members that differ

pub not_only_one : (xs : List (List ℕ)) (x : List ℕ) → 1 < length xs → AllPairs (λ one other. one ≢ other) xs → IsOnly (Contains xs) x → ⊥
not_only_one xs x many once only =
    once 0 1 [] (omega arith) many
    (only.others (get_or xs 0 []) (Contains-get_or xs 0 [] (omega arith)) ∙ sym (only.others (get_or xs 1 []) (Contains-get_or xs 1 [] many)))
