-- What an entry that fails after its tag says.
use Rattle.ffv1_hold.proofs.Common.{◌≡◌, ℕ, List, [], ◌∷◌, ◌++◌, length, get_or, Bool, true, false, true≢false, Option, Some, None, sym, ◌<◌, ◌^◌, ◌≤◌, arith, inl, inr, refl, ap, slice_limit, HoldFileFault, Version, First, Second, Reel, Entry, last_of, AreEntries, FileEntry, slice_text, text_after_slice, body_text, entry_text, entries_text, ReadLog, TakesText, StopsAt, IsPartOfSlice, SliceIsTooLong, IsWrong, IsEntryInPlace, IsPartAfter, ShowsAfter, IsPartOfEntry, EntryShows, IsPartOfEntries, EntriesShow}
use Rattle.std.specs.Prelude.{is_some, not}
use Rattle.ffv1_hold.specs.declared.file_fault.HoldFileFault.TheVariants as faults
use Rattle.ffv1_hold.proofs.TextReads.{shown}

-- whether there is a last entry
pub none_is : (last : Option FileEntry) (b : Bool) → is_some last ≡ not b → (b ≡ true → last ≡ None) × (last ≡ None → b ≡ true)
none_is None true is = (λ _. refl, λ _. refl)
none_is None false is = absurd (true≢false (sym is))
none_is (Some e) true is = absurd (true≢false is)
none_is (Some e) false is = (λ first. absurd (true≢false (sym first)), λ none. absurd cc)

pub single : (xs : List ℕ) (v : ℕ) → length xs ≡ 1 → get_or xs 0 0 ≡ v → xs ≡ v ∷ []
single [] v len at = absurd (omega arith)
single (x ∷ []) v len at = ap (λ k. k ∷ []) at
single (x ∷ y ∷ zs) v len at = absurd (omega arith)

pub entry_text-of : (v : Version) (e : FileEntry) → (1 ∷ slice_text e.0) ++ text_after_slice v e.1 ≡ entry_text v e
unfolding body_text
entry_text-of v e = refl

module _ (v : Version) (r : Reel) (last : Option FileEntry) where
  -- a part of a slice is one of an entry
  pub part_of_slice : (s : List ℕ) → IsPartOfSlice s → IsPartOfEntry v r last (1 ∷ [] ++ s)
  part_of_slice s h = inr (s, refl, inl h)

  -- and so is a right slice, and a part of what stands after it
  pub part_after_slice : (e : Entry) → IsEntryInPlace r last e → (s : List ℕ) → IsPartAfter v s → IsPartOfEntry v r last ((1 ∷ slice_text e) ++ s)
  part_after_slice e right s h = inr (slice_text e ++ s, refl, inr (e, s, refl, right, h))

  pub slice_shows : (f : HoldFileFault) (s : List ℕ) → SliceIsTooLong f s → EntryShows v r last f (1 ∷ [] ++ s)
  slice_shows faults.TooLong s h = inr (s, refl, inl h)
  slice_shows _ s h = absurd h

  pub after_shows : (e : Entry) → IsEntryInPlace r last e → (f : HoldFileFault) (s : List ℕ) → ShowsAfter v f s
      → EntryShows v r last f ((1 ∷ slice_text e) ++ s)
  after_shows e right faults.Tag s h = absurd (no_tag_after v s h)
    where
      no_tag_after : (v : Version) (s : List ℕ) → ShowsAfter v faults.Tag s → ⊥
      no_tag_after First s h = h
      no_tag_after Second s h = h
  after_shows e right faults.TooLong s h = inr (slice_text e ++ s, refl, inr (e, s, refl, right, h))
  after_shows e right faults.Magic s h = inr (slice_text e ++ s, refl, inr (e, s, refl, right, h))
  after_shows e right (faults.Setup f) s h = inr (slice_text e ++ s, refl, inr (e, s, refl, right, h))
  after_shows e right faults.Truncated s h = inr (slice_text e ++ s, refl, inr (e, s, refl, right, h))
  after_shows e right faults.Order s h = inr (slice_text e ++ s, refl, inr (e, s, refl, right, h))
  after_shows e right faults.NotASlice s h = inr (slice_text e ++ s, refl, inr (e, s, refl, right, h))
  after_shows e right faults.Trailing s h = inr (slice_text e ++ s, refl, inr (e, s, refl, right, h))
  after_shows e right faults.Read s h = inr (slice_text e ++ s, refl, inr (e, s, refl, right, h))
  after_shows e right faults.Write s h = inr (slice_text e ++ s, refl, inr (e, s, refl, right, h))
  after_shows e right faults.Memory s h = inr (slice_text e ++ s, refl, inr (e, s, refl, right, h))
  after_shows e right faults.OtherReel s h = inr (slice_text e ++ s, refl, inr (e, s, refl, right, h))

  -- a slice that was read whole, and is wrong
  pub wrong_stops : (P : List ℕ → Type 0) (W : HoldFileFault → List ℕ → Type 0) (e : Entry) (a b : ReadLog) (i j : ℕ) (f : HoldFileFault)
      → TakesText a b i j (1 ∷ slice_text e) → e.0 < 2 ^ 16 → length e.1 ≤ slice_limit → IsWrong r last e f → StopsAt P W (EntryShows v r last) a b i f
  wrong_stops P W e a b i j faults.NotASlice t small fits w = shown P W _ a b i j _ t faults.NotASlice tt (inr (slice_text e, refl, inl (e, refl, small, fits, w)))
  wrong_stops P W e a b i j faults.Order t small fits w = shown P W _ a b i j _ t faults.Order tt (inr (slice_text e, refl, inl (e, refl, small, fits, w)))
  wrong_stops P W e a b i j faults.Magic t small fits w = shown P W _ a b i j _ t faults.Magic tt (inr (slice_text e, refl, inl (e, refl, small, fits, w)))
  wrong_stops P W e a b i j _ t small fits w = absurd w

-- ---- entries, one after the other

module _ (v : Version) (r : Reel) (es : List FileEntry) (a : AreEntries v r es) where
  pub part_of_entries : (s : List ℕ) → IsPartOfEntry v r (last_of es) s → IsPartOfEntries v r (entries_text v es ++ s)
  part_of_entries s h = (es, s, a, refl, h)

  pub entries_show : (f : HoldFileFault) (s : List ℕ) → EntryShows v r (last_of es) f s → EntriesShow v r f (entries_text v es ++ s)
  entries_show f s h = (es, s, a, refl, h)
