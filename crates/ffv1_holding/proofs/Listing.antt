-- A link that is a slice is listed where it stands in its payload.
use Rattle.std.proofs.Common.{◌≡◌, ℕ, zero, suc, ◌-◌, List, [], ◌∷◌, length, take, drop, refl, sym, ap, ◌∙◌, subst, arith}
use Rattle.std.proofs.lemmas.List.{length-take, length-drop}
use Rattle.ffv1_slice.specs.Chain.{LinkValue, link_of, IsFramed}
use Rattle.ffv1_holding.specs.Inner.PoolEntries.{slice_in, IsEntryIn}
use Rattle.ffv1_holding.specs.declared.pool_entry.PoolEntry.{PoolEntry}

-- what was taken from a list is as much of its front as it is long
take-again : {X : Type 0} (n : ℕ) (xs : List X) → take (length (take n xs)) xs ≡ take n xs
take-again zero xs = refl
take-again (suc n) [] = refl
take-again (suc n) (x ∷ xs) = ap (λ r. x ∷ r) (take-again n xs)

module _ (payload : List ℕ) (link : LinkValue) (end : ℕ) (is : link ≡ link_of payload link.start end) (tile start size : ℕ) (begins : start ≡ link.start)
    (long : size ≡ length link.bytes) where
  abbrev entry : PoolEntry
  entry = record { tile = tile; start = start; length = size }

  bytes_are : link.bytes ≡ take (end - link.start) (drop link.start payload)
  bytes_are = ap (λ (p : LinkValue). p.bytes) is

  pub slice_listed : slice_in payload entry ≡ link.bytes
  slice_listed =
      (λ i. take ((long ∙ ap length bytes_are) i) (drop (begins i) payload)) ∙ take-again (end - link.start) (drop link.start payload) ∙ sym bytes_are

  pub entry_listed : IsFramed link.bytes → IsEntryIn payload entry
  entry_listed framed =
      let rest = drop link.start payload in
      let cut = ap length bytes_are in
      let few = length-take (end - link.start) rest in
      record {
        within = omega (arith, framed.footer, cut, few, length-drop link.start payload, begins, long);
        framed = subst IsFramed (sym slice_listed) framed;
      }
