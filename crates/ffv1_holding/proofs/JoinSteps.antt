-- One value more is joined.
use Rattle.std.proofs.Common.{◌≡◌, ℕ, ◌+◌, ◌<◌, List, [], ◌∷◌, ◌++◌, length, take, get_or, refl, ap, ◌∙◌, subst, sym}
use Rattle.std.proofs.lemmas.List.{take_more}
use Rattle.ffv1_holding.specs.Joins.{joined_all, AreJoinable}

module _ {T : Type 0} (joinable : T → T → Type 0) (union : T → T → T) where
  AreJoinable-append : (whole : T) (others : List T) (other : T) → AreJoinable joinable union whole others → joinable (joined_all union whole others) other
      → AreJoinable joinable union whole (others ++ other ∷ [])
  AreJoinable-append whole [] other are is = (is, tt)
  AreJoinable-append whole (first ∷ others) other are is = (are.0, AreJoinable-append (union whole first) others other are.1 is)

  pub AreJoinable-take_more : (whole now : T) (others : List T) (i : ℕ) (other : T) → i < length others → AreJoinable joinable union whole (take i others)
      → now ≡ joined_all union whole (take i others) → joinable now (get_or others i other) → AreJoinable joinable union whole (take (i + 1) others)
  AreJoinable-take_more whole now others i other lt are is this =
      subst (AreJoinable joinable union whole) (sym (take_more others i other lt))
      (AreJoinable-append whole (take i others) (get_or others i other) are (subst (λ (x : T). joinable x (get_or others i other)) is this))

  joined_all-append : (whole : T) (others : List T) (other : T) → joined_all union whole (others ++ other ∷ []) ≡ union (joined_all union whole others) other
  joined_all-append whole [] other = refl
  joined_all-append whole (first ∷ others) other = joined_all-append (union whole first) others other

  pub joined_all-take_more : (whole now next : T) (others : List T) (i : ℕ) (other : T) → i < length others → now ≡ joined_all union whole (take i others)
      → next ≡ union now other → other ≡ get_or others i other → next ≡ joined_all union whole (take (i + 1) others)
  joined_all-take_more whole now next others i other lt is step at =
      step ∙ ap (λ x. union x other) is ∙ ap (union (joined_all union whole (take i others))) at
      ∙ sym (joined_all-append whole (take i others) (get_or others i other)) ∙ ap (joined_all union whole) (sym (take_more others i other lt))
