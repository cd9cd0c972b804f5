-- An entry with the digests of an equal slice, by the parts that are written.
use Rattle.ffv1_hold.proofs.Common.{◌≡◌, ℕ, ◌+◌, ◌*◌, List, [], ◌∷◌, ◌++◌, length, true, ◌∙◌, sym, subst, arith, true≢false, AllByRecursion, eq_by_cmp, Entry, bytes_cmp, or_cases, Second, FileEntry, slice_text, origins_text, entry_text, IsDigest, AreOrigins, digests_union, with_digests}
use Rattle.ffv1_hold.proofs.DigestSets.{has, digest_tie, has_all}
use Rattle.ffv1_hold.proofs.DigestUnions.{has-union}
use Rattle.ffv1_hold.proofs.Entries.{entry_text-of}
use Rattle.ffv1_hold.proofs.Slots.{length-entry_text}

-- what is so of all digests is so of each
all_has : (xs : List (List ℕ)) (d : List ℕ) → AllByRecursion IsDigest xs → has xs d ≡ true → IsDigest d
all_has [] d all there = absurd (true≢false (sym there))
all_has (x ∷ xs) d all there =
    or_cases (eq_by_cmp bytes_cmp d x) (has xs d) (IsDigest d) there (λ tie. subst IsDigest (sym (digest_tie d x tie)) all.0) (all_has xs d all.1)

-- the digests of both are whole
union_whole : (xs ys : List (List ℕ)) → AreOrigins xs → AreOrigins ys → AllByRecursion IsDigest (digests_union xs ys)
union_whole xs ys left right = grind (arith, has_all, or_cases, has, has-union, all_has)

module _ (e : FileEntry) (others : List (List ℕ)) where
  pub joined_spelled : (s : Entry) (ds : List (List ℕ)) → s ≡ e.0 → ds ≡ e.1
      → (1 ∷ slice_text s) ++ origins_text (digests_union ds others) ≡ entry_text Second (with_digests e others)
  joined_spelled s ds slice digests =
      (λ i. (1 ∷ slice_text (slice i)) ++ origins_text (digests_union (digests i) others)) ∙ entry_text-of Second (with_digests e others)

  pub joined_length : AreOrigins e.1 → AreOrigins others → (s : Entry) (ds : List (List ℕ)) → s ≡ e.0 → ds ≡ e.1
      → length (entry_text Second (with_digests e others)) ≡ 11 + length s.1 + 32 * length (digests_union ds others)
  joined_length left right s ds slice digests = grind (arith, length-entry_text, union_whole)
