-- A holding has what the first entries of its file give.
use Rattle.ffv1_hold.proofs.Common.{◌≡◌, ℕ, true, List, [], ◌∷◌, ◌++◌, map, sym, ap, ◌∙◌, drop, true≢false, list_any, eq_by_cmp, map-append, or_left, list_any-append, Entry, Origin, entry_cmp, Contents, IsHolding, digests_of, or_cases, FileEntry, file_entries}
use Rattle.ffv1_holding.specs.Sets as set
use Rattle.ffv1_hold.proofs.DigestSets.{has, entry_tie, has-digests_in}
use Rattle.ffv1_hold.proofs.HeldEntries.{stated, slices_back}
use Rattle.ffv1_hold.proofs.MergeFacts.{IsWithin}

-- where entries begin others, their digests are the same
front_at : (f g : Entry → List (List ℕ)) (xs ys : List Entry) (rest : List FileEntry) → map (stated g) ys ≡ map (stated f) xs ++ rest → (q : Entry)
    → list_any (eq_by_cmp entry_cmp q) xs ≡ true → f q ≡ g q
front_at f g [] ys rest is q there = absurd (true≢false (sym there))
front_at f g (x ∷ xs) [] rest is q there = absurd (cc)
front_at f g (x ∷ xs) (y ∷ ys) rest is q there =
    let first : stated g y ≡ stated f x = ap (λ es. head_or (stated g y) es) is in
    let same : y ≡ x = ap (λ (e : FileEntry). e.0) first in
    or_cases (eq_by_cmp entry_cmp q x) (list_any (eq_by_cmp entry_cmp q) xs) (f q ≡ g q) there
    (λ tie. let own = entry_tie q x tie in ap f own ∙ sym (ap (λ (e : FileEntry). e.1) first) ∙ ap g (same ∙ sym own))
    (λ more. front_at f g xs ys rest (ap (drop 1) is) q more)
  where
    head_or : FileEntry → List FileEntry → FileEntry
    head_or d [] = d
    head_or d (e ∷ es) = e

pub front_within : (q h : Contents) → IsHolding q → (rest : List FileEntry) → file_entries h ≡ file_entries q ++ rest
    → IsWithin (q.slices, q.origins) (h.slices, h.origins)
unfolding file_entries
front_within q h is rest split = record { slices = slices; origins = origins }
  where
    items : set.items h.slices ≡ set.items q.slices ++ map (λ e. e.0) rest
    items = sym (slices_back (digests_of h) (set.items h.slices)) ∙ ap (map (λ e. e.0)) split
        ∙ map-append (λ e. e.0) (map (stated (digests_of q)) (set.items q.slices)) rest
        ∙ ap (λ xs. xs ++ map (λ e. e.0) rest) (slices_back (digests_of q) (set.items q.slices))

    slices : (e : Entry) → set.contains q.slices e ≡ true → set.contains h.slices e ≡ true
    slices e held =
        set.contains-items h.slices e ∙ ap (list_any (eq_by_cmp entry_cmp e)) items
        ∙ list_any-append (eq_by_cmp entry_cmp e) (set.items q.slices) (map (λ e. e.0) rest)
        ∙ or_left _ _ (sym (set.contains-items q.slices e) ∙ held)

    origins : (o : Origin) → set.contains q.origins o ≡ true → set.contains h.origins o ≡ true
    origins o held =
        let there = sym (set.contains-items q.slices o.0) ∙ is.origins_held o held in
        sym (has-digests_in h.origins o.0 o.1)
        ∙ ap (λ ds. has ds o.1) (sym (front_at (digests_of q) (digests_of h) (set.items q.slices) (set.items h.slices) rest split o.0 there))
        ∙ has-digests_in q.origins o.0 o.1 ∙ held
