-- Holdings of copies: the order in which copies are taken and holdings are joined makes no difference.
use Rattle.std.proofs.Common.{◌≡◌, ℕ, zero, suc, ◌<◌, length, get_or, refl, arith, Bool, true, false, ◌||◌, List, [], ◌∷◌, ◌++◌, Contains, ap, sym, ◌∙◌}
use mathlib.Core.Bool.{or-true}
use Rattle.std.specs.List.{flat_map, list_any}
use Rattle.std.specs.Ordering.{eq_by_cmp}
use Rattle.std.specs.Cmp.{IsTotalOrder, both_ways}
use Rattle.std.specs.FinMap.{IsAntisymmetric}
use Rattle.std.specs.declared.cmp.Ordering.{Ordering}
use Rattle.std.proofs.lemmas.List.Folds.{list_any-append}
use Rattle.std.proofs.lemmas.List.{append-nil}
use Rattle.std.proofs.lemmas.List.Concat.{flat_map-append}
use Rattle.ffv1_slice.specs.Slices.{found_slices}
use Rattle.ffv1_holding.specs.Reels.{Reel}
use Rattle.ffv1_holding.specs.SliceOrder.{entries_total, entries_antisymmetric, origins_total, origins_antisymmetric}
use Rattle.ffv1_holding.specs.Sets as set
use Rattle.ffv1_holding.specs.Contents.{Contents, joined, with_facts, with_found, with_copies, holding_of, origins_of_copy, HasSameCopies}

any_at : {X : Type 0} (p : X → Bool) (xs : List X) (k : ℕ) (x : X) → k < length xs → get_or xs k x ≡ x → p x ≡ true → list_any p xs ≡ true
any_at p [] k x lt is holds = absurd (omega arith)
any_at p (y ∷ xs) zero x lt is holds = ap (λ b. b || list_any p xs) (ap p is ∙ holds)
any_at p (y ∷ xs) (suc k) x lt is holds = ap (λ b. p y || b) (any_at p xs k x (omega arith) is holds) ∙ or-true (p y)

one_of_any : {X : Type 0} (p : X → Bool) (xs : List X) → list_any p xs ≡ true → (x : X) × (Contains xs x × (p x ≡ true))
one_of_any p [] any = absurd (cc)
one_of_any p (y ∷ xs) any = elim (p y) as (λ b. p y ≡ b → (b || list_any p xs) ≡ true → (x : _) × (Contains (y ∷ xs) x × (p x ≡ true))) [
  | true ↦ λ is _. (y, ((0, omega arith, refl), is))
  | false ↦ λ _ any. let rest = one_of_any p xs any in (rest.0, ((suc rest.1.0.0, omega (arith, rest.1.0.1), rest.1.0.2), rest.1.1))
] refl any

any_moved : {X : Type 0} (p : X → Bool) (xs ys : List X) → ((x : X) → Contains xs x → Contains ys x) → list_any p xs ≡ true → list_any p ys ≡ true
any_moved p xs ys each any =
    let one = one_of_any p xs any in
    let there = each one.0 one.1.0 in
    any_at p ys there.0 one.0 there.1 there.2 one.1.1

-- to take one copy is to take a list of it
pub with_found-with_copies : (h : Contents) (copy : List ℕ) → with_found h copy ≡ with_copies h (copy ∷ [])
with_found-with_copies h copy =
    let slices = sym (append-nil (found_slices h.reel.rules copy)) in
    let origins = sym (append-nil (origins_of_copy h.reel.rules copy)) in
    λ i. with_facts h (set.from_list (slices i)) (set.from_list (origins i))

-- what each copy gives, of all copies
module _ {K : Type 0} {R : K → K → Ordering} (o : IsTotalOrder R) (same_key : IsAntisymmetric R) (gives : List ℕ → List K) where
  pub union-flat_map : (copies more : List (List ℕ)) → set.union (set.from_list {R = R} (flat_map gives copies)) (set.from_list (flat_map gives more))
      ≡ set.from_list (flat_map gives (copies ++ more))
  union-flat_map copies more =
      sym (set.from_list-append o same_key (flat_map gives copies) (flat_map gives more)) ∙ ap set.from_list (sym (flat_map-append gives copies more))

  any-flat_map : (q : K) (copies : List (List ℕ)) → list_any (eq_by_cmp R q) (flat_map gives copies) ≡ list_any
      (λ copy. list_any (eq_by_cmp R q) (gives copy)) copies
  any-flat_map q [] = refl
  any-flat_map q (copy ∷ copies) =
      list_any-append (eq_by_cmp R q) (gives copy) (flat_map gives copies)
      ∙ ap (λ b. list_any (eq_by_cmp R q) (gives copy) || b) (any-flat_map q copies)

  flat_map-same : (copies others : List (List ℕ)) → HasSameCopies copies others
      → set.from_list {R = R} (flat_map gives copies) ≡ set.from_list (flat_map gives others)
  flat_map-same copies others same =
      set.same_set o same_key _ _ (λ q.
      set.contains-from_list o (flat_map gives copies) q ∙ any-flat_map q copies
      ∙ both_ways _ _ (any_moved (λ copy. list_any (eq_by_cmp R q) (gives copy)) copies others (λ copy. (same copy).0))
      (any_moved (λ copy. list_any (eq_by_cmp R q) (gives copy)) others copies (λ copy. (same copy).1))
      ∙ sym (any-flat_map q others) ∙ sym (set.contains-from_list o (flat_map gives others) q))

module _ (reel : Reel) where
  -- to take more copies into the holding of some is to hold them all
  pub with_copies-holding_of : (copies more : List (List ℕ)) → with_copies (holding_of reel copies) more ≡ holding_of reel (copies ++ more)
  with_copies-holding_of copies more = λ i. record {
    reel = reel;
    slices = union-flat_map entries_total entries_antisymmetric (found_slices reel.rules) copies more i;
    origins = union-flat_map origins_total origins_antisymmetric (origins_of_copy reel.rules) copies more i;
  }

  pub with_found-holding_of : (copies : List (List ℕ)) (copy : List ℕ) → with_found (holding_of reel copies) copy ≡ holding_of reel (copies ++ copy ∷ [])
  with_found-holding_of copies copy = with_found-with_copies (holding_of reel copies) copy ∙ with_copies-holding_of copies (copy ∷ [])

  pub joined-holding_of : (copies others : List (List ℕ)) → joined (holding_of reel copies) (holding_of reel others) ≡ holding_of reel (copies ++ others)
  joined-holding_of copies others = with_copies-holding_of copies others

  -- the same copies are held alike
  pub holding_of-same : (copies others : List (List ℕ)) → HasSameCopies copies others → holding_of reel copies ≡ holding_of reel others
  holding_of-same copies others same = λ i. record {
    reel = reel;
    slices = flat_map-same entries_total entries_antisymmetric (found_slices reel.rules) copies others same i;
    origins = flat_map-same origins_total origins_antisymmetric (origins_of_copy reel.rules) copies others same i;
  }
