-- A holding that grows by one copy.
use Rattle.std.proofs.Common.{◌≡◌, ℕ, ◌+◌, ◌≤◌, ◌<◌, List, [], ◌∷◌, ◌++◌, length, map, take, get_or, sym, ap, ◌∙◌, subst}
use Rattle.std.proofs.lemmas.List.{map_more}
use Rattle.ffv1_bits.specs.Limits.{payload_limit}
use Rattle.ffv1_holding.specs.TakeFaults.{AreShort}
use Rattle.ffv1_holding.specs.SliceOrder.{entries_total, entries_antisymmetric, origins_total, origins_antisymmetric}
use Rattle.ffv1_holding.specs.Sets as set
use Rattle.ffv1_holding.specs.Contents.{Contents, with_facts, with_found, with_copies, origins_of_copy}
use Rattle.ffv1_holding.proofs.ContentsLaws.{with_found-with_copies, union-flat_map}
use Rattle.ffv1_slice.specs.Slices.{found_slices}
use Rattle.std.specs.List.{flat_map}

pub with_facts-empty : (h : Contents) → h ≡ with_facts h set.empty set.empty
with_facts-empty h = λ i. record {
  reel = h.reel;
  slices = sym (set.union_empty entries_total entries_antisymmetric h.slices) i;
  origins = sym (set.union_empty origins_total origins_antisymmetric h.origins) i;
}

-- one copy more
pub with_copies-push : (h : Contents) (copies : List (List ℕ)) (copy : List ℕ) → with_found (with_copies h copies) copy ≡ with_copies h (copies ++ copy ∷ [])
with_copies-push h copies copy =
    let rules = h.reel.rules in
    let slices = set.union_assoc entries_total entries_antisymmetric h.slices
    (set.from_list (flat_map (found_slices rules) copies)) (set.from_list (flat_map (found_slices rules) (copy ∷ [])))
    ∙ ap (set.union h.slices) (union-flat_map entries_total entries_antisymmetric (found_slices rules) copies (copy ∷ [])) in
    let origins = set.union_assoc origins_total origins_antisymmetric h.origins
    (set.from_list (flat_map (origins_of_copy rules) copies)) (set.from_list (flat_map (origins_of_copy rules) (copy ∷ [])))
    ∙ ap (set.union h.origins) (union-flat_map origins_total origins_antisymmetric (origins_of_copy rules) copies (copy ∷ [])) in
    with_found-with_copies (with_copies h copies) copy ∙ (λ i. record { reel = h.reel; slices = slices i; origins = origins i })

pub with_copies-take_more : {X : Type 0} (view : X → List ℕ) (h now next : Contents) (xs : List X) (i : ℕ) (d : X) → i < length xs
    → now ≡ with_copies h (map view (take i xs)) → next ≡ with_found now (view (get_or xs i d)) → next ≡ with_copies h (map view (take (i + 1) xs))
with_copies-take_more view h now next xs i d lt is found =
    found ∙ ap (λ x. with_found x (view (get_or xs i d))) is ∙ with_copies-push h (map view (take i xs)) (view (get_or xs i d))
    ∙ ap (with_copies h) (sym (map_more view xs i d lt))

AreShort-append : (copies : List (List ℕ)) (copy : List ℕ) → AreShort copies → length copy ≤ payload_limit → AreShort (copies ++ copy ∷ [])
AreShort-append [] copy all short = (short, tt)
AreShort-append (first ∷ copies) copy all short = (all.0, AreShort-append copies copy all.1 short)

pub AreShort-take_more : {X : Type 0} (view : X → List ℕ) (xs : List X) (i : ℕ) (d : X) → i < length xs → AreShort (map view (take i xs))
    → length (view (get_or xs i d)) ≤ payload_limit → AreShort (map view (take (i + 1) xs))
AreShort-take_more view xs i d lt all short = subst AreShort (sym (map_more view xs i d lt))
    (AreShort-append (map view (take i xs)) (view (get_or xs i d)) all short)
