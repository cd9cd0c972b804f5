-- How reading the entries of a file goes on after those that were read.
use Rattle.ffv1_hold.proofs.Common.{◌≡◌, ℕ, ◌≤◌, List, ◌++◌, Option, Some, None, IfSome, IfNone, refl, sym, ap, ◌∙◌, subst, append-nil, arith, true≢false, inl, inr, ◌⊎◌, [], ◌∷◌, FileEntry, file_limit, HoldFileFault, Version, First, Second, Reel, IsReel, entry_cmp, origin_cmp, Contents, IsHolding, no_slices, with_entry, KeepsMagic, TellsMagic, HasFileVersion, entries_text, file_entries, IsStated, ReadLog, TakesText, StopsAt, last_of, Follows, AreOrigins, AreEntries, AreDigestsIn, IsFileEntryOf, next_text, IsPartOfEntry, EntryShows, IsPartOfEntries, EntriesShow, EndIsWhole, EntriesAreWhole}
use Rattle.ffv1_hold.specs.declared.file_fault.HoldFileFault.TheVariants as faults
use Rattle.ffv1_holding.specs.Sets as set
use Rattle.ffv1_hold.proofs.TextReads.{TakesText-nil, TakesText-trans, StopsAt-after, memory_stops}
use Rattle.ffv1_hold.proofs.Slots.{entries_text-none, entries_text-push}
use Rattle.ffv1_hold.proofs.Entries.{part_of_entries, entries_show}
use Rattle.ffv1_hold.proofs.OriginReads.{origins_none}
use Rattle.ffv1_hold.proofs.HeldEntries.{entries-none, are_entries, entries-with_entry, last-with_entry, stated-with_entry, holding-with_entry}

-- what a version can give for a slice are digests
pub digests_in_version : (v : Version) (ds : List (List ℕ)) → AreDigestsIn v ds → AreOrigins ds
digests_in_version First ds are = subst AreOrigins (sym are) origins_none
digests_in_version Second ds are = are.0

-- These entries were read, from the place i on up to j, and the last of them is known.
pub record AreRead (v : Version) (reel : Reel) (old new : ReadLog) (i j : ℕ) (h : Contents) (last : Option FileEntry) : Type 0 where
  pub text : TakesText old new i j (entries_text v (file_entries h))
  pub well_formed : IsHolding h
  pub stated : IsStated v h
  pub begun : (file_entries h ≡ []) ⊎ TellsMagic reel (file_entries h)
  pub reel' : h.reel ≡ reel
  pub last' : last ≡ last_of (file_entries h)

-- entries that tell the magic go on to, and the first one that keeps it tells it
pub begun_push : (r : Reel) (es : List FileEntry) (e : FileEntry) → (es ≡ []) ⊎ TellsMagic r es → KeepsMagic r (last_of es) (Some e.0)
    → (es ++ e ∷ [] ≡ []) ⊎ TellsMagic r (es ++ e ∷ [])
begun_push r [] e begun keeps = inr keeps
begun_push r (f ∷ es) e (inl none) keeps = absurd cc
begun_push r (f ∷ es) e (inr tells) keeps = inr tells

-- entries after which the end keeps the magic tell it
pub tells_all : (r : Reel) (es : List FileEntry) → (es ≡ []) ⊎ TellsMagic r es → KeepsMagic r (last_of es) None → TellsMagic r es
tells_all r [] begun keeps = keeps
tells_all r (f ∷ es) (inl none) keeps = absurd cc
tells_all r (f ∷ es) (inr tells) keeps = tells

-- a holding of no slices
pub holding_none : (r : Reel) → IsReel r → IsHolding (no_slices r)
holding_none r is = record {
  reel = is;
  slices = λ q held. absurd (true≢false (sym held ∙ set.contains-empty entry_cmp q));
  origins_held = λ o held. absurd (true≢false (sym held ∙ set.contains-empty origin_cmp o));
  digests_whole = λ o held. absurd (true≢false (sym held ∙ set.contains-empty origin_cmp o));
}

pub stated_none : (v : Version) (r : Reel) → HasFileVersion v r.rules.is_profile → IsStated v (no_slices r)
stated_none First r has = (refl, has)
stated_none Second r has = λ q held. absurd (true≢false (sym held ∙ set.contains-empty entry_cmp q))

-- no entries yet
pub none_read : (v : Version) (a : ReadLog) (i : ℕ) (h : Contents) (last : Option FileEntry) → i ≤ file_limit → IsReel h.reel
    → h ≡ no_slices h.reel → HasFileVersion v h.reel.rules.is_profile → last ≡ None → AreRead v h.reel a a i i h last
none_read v a i h last within is none has at =
    let entries = ap file_entries none ∙ entries-none h.reel in
    record {
      text = subst (TakesText a a i i) (sym (ap (entries_text v) entries ∙ entries_text-none v)) (TakesText-nil a i within);
      well_formed = subst IsHolding (sym none) (holding_none h.reel is);
      stated = subst (IsStated v) (sym none) (stated_none v h.reel has);
      begun = inl entries;
      reel' = refl;
      last' = at ∙ sym (ap last_of entries);
    }

module _ (v : Version) (reel : Reel) (a b : ReadLog) (i j : ℕ) (h grown : Contents) (e : FileEntry) (is : IsHolding h) (stated : IsStated v h)
    (same : h.reel ≡ reel) (entry : IsFileEntryOf v reel.rules e) (follows : Follows (last_of (file_entries h)) e.0)
    (begun : (file_entries h ≡ []) ⊎ TellsMagic reel (file_entries h)) (keeps : KeepsMagic reel (last_of (file_entries h)) (Some e.0)) where
  own : IsFileEntryOf v h.reel.rules e
  own = subst (λ (r : Reel). IsFileEntryOf v r.rules e) (sym same) entry

  digests : AreOrigins e.1
  digests = digests_in_version v e.1 entry.origins

  -- the entry that is held after these is one of them
  pub one_more : (held : Option FileEntry) → held ≡ Some e → grown ≡ with_entry h e.0 e.1 → TakesText a b i j (entries_text v (file_entries h) ++ next_text v held)
      → AreRead v reel a b i j grown held
  one_more held at added text =
      let entries = ap file_entries added ∙ entries-with_entry h e.0 e.1 follows is digests.rising in
      record {
        text = grind (arith, entries_text-push);
        well_formed = subst IsHolding (sym added) (holding-with_entry h e.0 e.1 is own.slice digests.each);
        stated = subst (IsStated v) (sym added) (stated-with_entry h e.0 e.1 follows v is entry.origins stated);
        begun = subst (λ (es : List FileEntry). (es ≡ []) ⊎ TellsMagic reel es) (sym entries) (begun_push reel (file_entries h) e begun keeps);
        reel' = ap (λ (x : Contents). x.reel) added ∙ same;
        last' = at ∙ sym (ap (λ (x : Contents). last_of (file_entries x)) added ∙ last-with_entry h e.0 e.1 follows is digests.rising);
      }

-- after a whole end tag the magic is right
pub end_keeps : (r : Reel) (last : Option FileEntry) (f : HoldFileFault) (s : List ℕ) → EndIsWhole r last f s → KeepsMagic r last None
end_keeps r last faults.Read s whole = whole.1
end_keeps r last faults.Trailing s whole = whole.1
end_keeps r last _ s whole = absurd whole

module _ (v : Version) (reel : Reel) (a b : ReadLog) (i j : ℕ) (h : Contents) (last : Option FileEntry) (read : AreRead v reel a b i j h last) where
  entries : AreEntries v reel (file_entries h)
  entries =
      let begun = subst (λ (r : Reel). (file_entries h ≡ []) ⊎ TellsMagic r (file_entries h)) (sym read.reel') read.begun in
      subst (λ (r : Reel). AreEntries v r (file_entries h)) read.reel' (are_entries v h read.well_formed read.stated begun)

  -- a whole of them and the end tag tells the magic
  whole_after : (f : HoldFileFault) (s : List ℕ) → EndIsWhole reel last f s
      → TellsMagic h.reel (file_entries h) × EndIsWhole reel (last_of (file_entries h)) f s
  whole_after f s whole = (
    subst (λ (r : Reel). TellsMagic r (file_entries h)) (sym read.reel') (tells_all reel (file_entries h) read.begun
        (subst (λ (l : Option FileEntry). KeepsMagic reel l None) read.last' (end_keeps reel last f s whole))),
    subst (λ (l : Option FileEntry). EndIsWhole reel l f s) read.last' whole,
  )

  -- what comes after them is refused, under the same version and reel
  pub next_refused : (w : Version) (x : Reel) → w ≡ v → x ≡ reel → (c : ReadLog) (f : HoldFileFault)
      → StopsAt (IsPartOfEntry w x last) (EndIsWhole x last) (EntryShows w x last) b c j f
      → StopsAt (IsPartOfEntries v reel) (EntriesAreWhole v reel) (EntriesShow v reel) a c i f
  next_refused w x version same c f refused =
      let es = file_entries h in
      StopsAt-after (IsPartOfEntry w x last) (IsPartOfEntries v reel) (EndIsWhole x last) (EntriesAreWhole v reel) (EntryShows w x last)
      (EntriesShow v reel) a b c i j (entries_text v es) read.text f refused
      (λ s part. part_of_entries v reel es entries s (subst (λ (l : Option FileEntry). IsPartOfEntry v reel l s) read.last'
      (subst (λ (y : Reel). IsPartOfEntry v y last s) same (subst (λ (u : Version). IsPartOfEntry u x last s) version part))))
      (λ f s whole. let ends = whole_after f s (subst (λ (y : Reel). EndIsWhole y last f s) same whole) in
      (h, s, read.well_formed, read.stated, ends.0, read.reel', refl, ends.1))
      (λ f s shown. entries_show v reel es entries f s (subst (λ (l : Option FileEntry). EntryShows v reel l f s) read.last'
      (subst (λ (y : Reel). EntryShows v y last f s) same (subst (λ (u : Version). EntryShows u x last f s) version shown))))

  -- memory for the last of them is refused
  pub memory_refused : StopsAt (IsPartOfEntries v reel) (EntriesAreWhole v reel) (EntriesShow v reel) a b i faults.Memory
  memory_refused = grind (arith, memory_stops, append-nil, part_of_entries, entries)

  -- what was read after them stands after the last one
  pub some_keeps : (next : Option FileEntry) → IfSome next (λ e. KeepsMagic reel last (Some e.0))
      → IfSome next (λ e. KeepsMagic reel (last_of (file_entries h)) (Some e.0))
  some_keeps next keeps = subst (λ (l : Option FileEntry). IfSome next (λ e. KeepsMagic reel l (Some e.0))) read.last' keeps

  pub none_keeps : (next : Option FileEntry) → IfNone next (KeepsMagic reel last None) → IfNone next (KeepsMagic reel (last_of (file_entries h)) None)
  none_keeps next keeps = subst (λ (l : Option FileEntry). IfNone next (KeepsMagic reel l None)) read.last' keeps

  pub next_follows : (next : Option FileEntry) → IfSome next (λ e. Follows last e.0) → IfSome next (λ e. Follows (last_of (file_entries h)) e.0)
  next_follows next follows = subst (λ (l : Option FileEntry). IfSome next (λ e. Follows l e.0)) read.last' follows

-- the next entry, or the end, after other bytes, where the versions are the same
pub next_taken : (v w : Version) (a b c : ReadLog) (i j k : ℕ) (xs : List ℕ) (next : Option FileEntry) → w ≡ v → TakesText a b i j xs
    → TakesText b c j k (next_text w next) → TakesText a c i k (xs ++ next_text v next)
next_taken v w a b c i j k xs next same t more =
    TakesText-trans a b c i j k xs (next_text v next) t (subst (λ (u : Version). TakesText b c j k (next_text u next)) same more)
