-- A text shows no fault.
use Rattle.ffv1_hold.proofs.Common.{◌≡◌, ℕ, ◌<◌, ◌≤◌, ◌^◌, List, [], ◌∷◌, ◌++◌, length, take, get_or, Option, Some, None, refl, sym, ap, ◌∙◌, subst, inl, inr, arith, append_assoc, length-append, ◌⊎◌, take-append_seam, take-append-le, record_limit, in_frames, RecordingValue, Recordings, is_in_profile, reel_small, AllByRecursion, HoldFileFault, Version, HasFileVersion, Result, Ok, Bool, false, IsRising, Reel, Contents, IsHolding, FileEntry, magic, sized_record, head_text, body_text, entries_text, file_entries, file_text, IsStated, last_of, Follows, IsFileEntryOf, file_entry_cmp, AreEntries, HasText, IsFileReel, IsMagic, KeepsMagic, TellsMagic, EndShows, recordings_of, IsPartOfBody, BodyShows, IsPartOfEntry, EntryShows, IsPartOfReel, ReelShows, MagicShows, IsPartOfFile, FileShows, rising_rest, true, IsScopedRecord, SetupFault, true≢false}
use Rattle.ffv1_range.specs.SetupForms.{all_granted, record_read}
use Rattle.ffv1_range.specs.Frames.{asks_keyframes}
use Rattle.ffv1_range.specs.declared.frames.Frames.{Frames}
use Rattle.ffv1_range.specs.declared.frames.Frames.TheVariants.{Ruled, Any}
use Rattle.ffv1_range.specs.declared.scope.Scope.TheVariants.{Parities}
use Rattle.ffv1_range.specs.declared.scope.Scope.TheVariants as scopes
use Rattle.ffv1_range.proofs.SetupLaws.{parities_are_wider, record-run}
use Rattle.ffv1_range.proofs.ProfileLaws.{profile_record}
use Rattle.ffv1_holding.specs.Recordings.{scope_of}
use Rattle.ffv1_hold.specs.declared.file_fault.HoldFileFault.TheVariants as faults
use Rattle.ffv1_hold.proofs.Bodies.{length-be4}
use Rattle.ffv1_hold.proofs.NumberTexts.{no_tag, rest_same, number_same, after_number}
use Rattle.ffv1_hold.proofs.BodyTexts.{same_body, body_cut, body_none}
use Rattle.ffv1_hold.proofs.HeldEntries.{are_entries, version_of}
use Rattle.ffv1_hold.proofs.TextLaws.{short_reel, entries_after, none_after, AreFitting, fitting_all, fitting_items, same_sized, same_head, same_name, after_magic, head_parts, sized_parts, text_parts}

-- ---- entries after a last one

abbrev pub last_from : Option FileEntry → List FileEntry → Option FileEntry
last_from last [] = last
last_from last (e ∷ es) = last_from (Some e) es

last_of-from : (e : FileEntry) (es : List FileEntry) → last_of (e ∷ es) ≡ last_from (Some e) es
last_of-from e [] = refl
last_of-from e (f ∷ es) = last_of-from f es

pub last_of-none : (es : List FileEntry) → last_of es ≡ last_from None es
last_of-none [] = refl
last_of-none (e ∷ es) = last_of-from e es

module _ (v : Version) (r : Reel) where
  -- slices of their tiles, each after the one before it
  abbrev pub AreValid : Option FileEntry → List FileEntry → Type 0
  AreValid last [] = Unit {0}
  AreValid last (e ∷ es) = (IsFileEntryOf v r.rules e × Follows last e.0 × KeepsMagic r last (Some e.0)) × AreValid (Some e) es

  valid_after : (x : FileEntry) (es : List FileEntry) → IsRising file_entry_cmp (x ∷ es) → AllByRecursion (IsFileEntryOf v r.rules) es → AreValid (Some x) es
  valid_after x [] up each = tt
  valid_after x (e ∷ es) up each =
      ((each.0, up 0 1 e (omega arith) (omega arith), tt), valid_after e es (rising_rest file_entry_cmp x (e ∷ es) up) each.1)

  tells_first : (e : FileEntry) (es : List FileEntry) → (e ∷ es ≡ []) ⊎ TellsMagic r (e ∷ es) → KeepsMagic r None (Some e.0)
  tells_first e es (inl none) = absurd cc
  tells_first e es (inr tells) = tells

  pub valid_list : (es : List FileEntry) → AreEntries v r es → AreValid None es
  valid_list [] all = tt
  valid_list (e ∷ es) all = ((all.each.0, tt, tells_first e es all.first), valid_after e es all.rising all.each.1)

  -- after an entry the end keeps the magic right, ..
  keeps_after : (e : FileEntry) (es : List FileEntry) → KeepsMagic r (last_from (Some e) es) None
  keeps_after e [] = tt
  keeps_after e (f ∷ es) = keeps_after f es

  -- .. and after all that tell it
  pub tells_end : (es : List FileEntry) → TellsMagic r es → KeepsMagic r (last_from None es) None
  tells_end [] tells = tells
  tells_end (e ∷ es) tells = keeps_after e es

  -- ---- what shows a fault, by its kind

  -- a tag is none, or is the end's where only an entry could tell the magic
  abbrev pub IsTagFault : Option FileEntry → HoldFileFault → ℕ → Type 0
  IsTagFault last f tag = ((f ≡ faults.Tag) × (1 < tag)) ⊎ ((f ≡ faults.Magic) × (tag ≡ 0) × (¬ KeepsMagic r last None))

  pub not_of_entry : (last : Option FileEntry) (f : HoldFileFault) (tag : ℕ) → IsTagFault last f tag → 1 ≡ tag → ⊥
  not_of_entry last f tag (inl w) is = let over = w.1 in omega arith
  not_of_entry last f tag (inr w) is = let end = w.1 in omega arith

  abbrev pub ShowsTag : Option FileEntry → HoldFileFault → List ℕ → Type 0
  ShowsTag last f s = (tag : ℕ) × (s ≡ tag ∷ []) × IsTagFault last f tag

  abbrev pub ShowsBody : Option FileEntry → HoldFileFault → List ℕ → Type 0
  ShowsBody last f s = (body : List ℕ) × (s ≡ 1 ∷ body) × BodyShows v r last f body

  end_kind : (last : Option FileEntry) (f : HoldFileFault) (s : List ℕ) → EndShows r last f s → ShowsTag last f s
  end_kind last faults.Magic s shown = (0, shown.0, inr (refl, refl, shown.1))
  end_kind last _ s shown = absurd shown

  either_kind : (last : Option FileEntry) (f : HoldFileFault) (s : List ℕ) → EndShows r last f s ⊎ ShowsBody last f s → ShowsTag last f s ⊎ ShowsBody last f s
  either_kind last f s (inl shown) = inl (end_kind last f s shown)
  either_kind last f s (inr shown) = inr shown

  pub entry_kinds : (last : Option FileEntry) (f : HoldFileFault) (s : List ℕ) → EntryShows v r last f s → ShowsTag last f s ⊎ ShowsBody last f s
  entry_kinds last faults.Tag s shown = inl (shown.0, shown.1, inl (refl, shown.2))
  entry_kinds last faults.TooLong s shown = either_kind last faults.TooLong s shown
  entry_kinds last faults.NotASlice s shown = either_kind last faults.NotASlice s shown
  entry_kinds last faults.Order s shown = either_kind last faults.Order s shown
  entry_kinds last faults.Magic s shown = either_kind last faults.Magic s shown
  entry_kinds last (faults.Setup f) s shown = either_kind last (faults.Setup f) s shown
  entry_kinds last faults.Truncated s shown = either_kind last faults.Truncated s shown
  entry_kinds last faults.Trailing s shown = either_kind last faults.Trailing s shown
  entry_kinds last faults.Read s shown = either_kind last faults.Read s shown
  entry_kinds last faults.Write s shown = either_kind last faults.Write s shown
  entry_kinds last faults.Memory s shown = either_kind last faults.Memory s shown
  entry_kinds last faults.OtherReel s shown = either_kind last faults.OtherReel s shown

  -- an entry that is right shows no fault
  pub right_none : (last : Option FileEntry) (e : FileEntry) (x y : List ℕ) → IsFileEntryOf v r.rules e → HasText v e → Follows last e.0 → KeepsMagic r last (Some e.0) → (f : HoldFileFault)
      (s : List ℕ) → 1 ∷ (body_text v e ++ x) ≡ s ++ y → EntryShows v r last f s → ⊥
  right_none last e x y is has follows keeps f s same shown = elim (entry_kinds last f s shown) [
    | inl w ↦ no_tag (body_text v e ++ x) y 1 w.0 (same ∙ ap (λ q. q ++ y) w.1) (λ tag. not_of_entry last f w.0 w.2 tag)
    | inr w ↦ body_none v r last e x y (is.slice, follows, has.0, keeps) is.origins f w.0 (rest_same _ _ 1 1 (same ∙ ap (λ q. q ++ y) w.1)) w.2
  ]

  -- the end tag shows none
  end_tag : (last : Option FileEntry) (f : HoldFileFault) (tag : ℕ) → KeepsMagic r last None → IsTagFault last f tag → 0 ≡ tag → ⊥
  end_tag last f tag keeps (inl w) is = let over = w.1 in omega arith
  end_tag last f tag keeps (inr w) is = w.2 keeps

  end_none : (last : Option FileEntry) (x y : List ℕ) (f : HoldFileFault) (s : List ℕ) → KeepsMagic r last None → 0 ∷ x ≡ s ++ y
      → EntryShows v r last f s → ⊥
  end_none last x y f s keeps same shown = elim (entry_kinds last f s shown) [
    | inl w ↦ no_tag x y 0 w.0 (same ∙ ap (λ q. q ++ y) w.1) (λ tag. end_tag last f w.0 keeps w.2 tag)
    | inr w ↦ no_tag x (w.0 ++ y) 0 1 (same ∙ ap (λ q. q ++ y) w.1) (λ tag. omega arith)
  ]

  shows_none : (last : Option FileEntry) (es : List FileEntry) (x y : List ℕ) → KeepsMagic r (last_from last es) None → AreValid last es → AreFitting v es
      → (fault : HoldFileFault) (s : List ℕ) → entries_text v es ++ 0 ∷ x ≡ s ++ y → EntryShows v r last fault s → ⊥
  shows_none last [] x y keeps all fit fault s same shown = end_none last x y fault s keeps (sym (none_after v (0 ∷ x)) ∙ same) shown
  shows_none last (e ∷ es) x y keeps all fit fault s same shown =
      right_none last e (entries_text v es ++ 0 ∷ x) y all.0.0 fit.0 all.0.1 all.0.2 fault s (sym (entries_after v e es (0 ∷ x)) ∙ same) shown

  -- after entries that both begin with
  entries_none : (last : Option FileEntry) (es fs : List FileEntry) (x y : List ℕ) → KeepsMagic r (last_from last es) None → AreValid last es
      → AreFitting v es → AreFitting v fs → (fault : HoldFileFault) (s : List ℕ) → entries_text v es ++ 0 ∷ x ≡ (entries_text v fs ++ s) ++ y → EntryShows v r (last_from last fs) fault s → ⊥
  entries_none last es [] x y keeps all fit fs_fit fault s same shown = shows_none last es x y keeps all fit fault s (same ∙ ap (λ z. z ++ y) (none_after v s)) shown
  entries_none last [] (f ∷ fs) x y keeps all fit fs_fit fault s same shown = grind (arith, no_tag, none_after, entries_after)
  entries_none last (e ∷ es) (f ∷ fs) x y keeps all fit fs_fit fault s same shown =
      let bodies = rest_same (body_text v e ++ (entries_text v es ++ 0 ∷ x)) ((body_text v f ++ (entries_text v fs ++ s)) ++ y) 1 1
      (sym (entries_after v e es (0 ∷ x)) ∙ same ∙ ap (λ z. z ++ y) (entries_after v f fs s)) in
      let apart = bodies ∙ append_assoc (body_text v f) (entries_text v fs ++ s) y in
      let one = same_body v e f (entries_text v es ++ 0 ∷ x) ((entries_text v fs ++ s) ++ y) fit.0 fs_fit.0 apart in
      entries_none (Some e) es fs x y keeps all.1 fit.1 fs_fit.1 fault s one.1
      (subst (λ (g : FileEntry). EntryShows v r (last_from (Some g) fs) fault s) (sym one.0) shown)

  -- what is after a tag 1 in a part of an entry
  pub part_after : (last : Option FileEntry) (body : List ℕ) → IsPartOfEntry v r last (1 ∷ body) → IsPartOfBody v r last body
  part_after last body (inl none) = let long = ap length none in absurd (omega arith)
  part_after last body (inr (other, is, part)) = subst (IsPartOfBody v r last) (sym (rest_same body other 1 1 is)) part

  pub part_tag : (last : Option FileEntry) (tag : ℕ) (y : List ℕ) → IsPartOfEntry v r last (tag ∷ y) → tag ≡ 1
  part_tag last tag y (inl none) = let long = ap length none in absurd (omega arith)
  part_tag last tag y (inr (body, is, part)) = ap (λ xs. get_or xs 0 0) is

  -- entries and the end tag are no part of an entry
  part_none : (last : Option FileEntry) (es : List FileEntry) (x s : List ℕ) → AreFitting v es → entries_text v es ++ 0 ∷ x ≡ s → IsPartOfEntry v r last s
      → ⊥
  part_none last [] x s fit same part = grind (arith, part_tag, none_after)
  part_none last (e ∷ es) x s fit same part =
      body_cut v r last e (entries_text v es ++ 0 ∷ x) fit.0
      (part_after last _ (subst (IsPartOfEntry v r last) (sym same ∙ entries_after v e es (0 ∷ x)) part))

  entries_whole : (last : Option FileEntry) (es fs : List FileEntry) (x s : List ℕ) → AreFitting v es → AreFitting v fs
      → entries_text v es ++ 0 ∷ x ≡ entries_text v fs ++ s → IsPartOfEntry v r last s → ⊥
  entries_whole last es [] x s fit fs_fit same part = part_none last es x s fit (same ∙ none_after v s) part
  entries_whole last [] (f ∷ fs) x s fit fs_fit same part = grind (arith, no_tag, none_after, entries_after)
  entries_whole last (e ∷ es) (f ∷ fs) x s fit fs_fit same part =
      let bodies = rest_same (body_text v e ++ (entries_text v es ++ 0 ∷ x)) (body_text v f ++ (entries_text v fs ++ s)) 1 1
      (sym (entries_after v e es (0 ∷ x)) ∙ same ∙ entries_after v f fs s) in
      let one = same_body v e f (entries_text v es ++ 0 ∷ x) (entries_text v fs ++ s) fit.0 fs_fit.0 bodies in
      entries_whole last es fs x s fit.1 fs_fit.1 one.1 part

-- ---- the head, and the whole text

pub magic_none : (q : Recordings) (p : Bool) (v : Version) → IsMagic q p v → (z y s : List ℕ) (fault : HoldFileFault) → magic p v ++ z ≡ s ++ y
    → MagicShows q fault s → ⊥
magic_none q p v m z y s faults.Magic same (seen, wrong, is, part, none) =
    let few : length s ≤ 8 = omega (arith, ap length is, length-append seen (wrong ∷ []), part.0) in
    none (record {
      of_profile = p;
      version = v;
      is_magic = m;
      begins = sym (take-append_seam s y) ∙ ap (take (length s)) (sym same) ∙ take-append-le (length s) (magic p v) z few;
    })
magic_none q p v m z y s faults.TooLong same shown = shown
magic_none q p v m z y s (faults.Setup f) same shown = shown
magic_none q p v m z y s faults.Truncated same shown = shown
magic_none q p v m z y s faults.Tag same shown = shown
magic_none q p v m z y s faults.Order same shown = shown
magic_none q p v m z y s faults.NotASlice same shown = shown
magic_none q p v m z y s faults.Trailing same shown = shown
magic_none q p v m z y s faults.Read same shown = shown
magic_none q p v m z y s faults.Write same shown = shown
magic_none q p v m z y s faults.Memory same shown = shown
magic_none q p v m z y s faults.OtherReel same shown = shown

-- a record is read so after the magic of recordings of the profile, or of others
abbrev read_after : Bool → List ℕ → ℕ → ℕ → Result RecordingValue SetupFault
read_after p config w h = record_read all_granted config (scope_of (recordings_of p)) w h

read_as : (p : Bool) (config : List ℕ) (w h : ℕ) (recording : RecordingValue) → IsScopedRecord config Parities w h recording
    → (p ≡ true → is_in_profile recording ≡ true) → read_after p config w h ≡ Ok recording
read_as true config w h recording is of =
    record-run config scopes.Profile w h recording (profile_record config w h recording (parities_are_wider config w h recording is) (of refl))
read_as false config w h recording is of = record-run config Parities w h recording is

-- slices of the profile are those of a record of it
asked : (frames : Frames) (p : Bool) → asks_keyframes frames p ≡ true → p ≡ true
asked Ruled p of = of
asked Any p of = absurd (true≢false (sym of))

-- a reel's record is read so after the reel's magic
reel_reads : {q : Recordings} (r : Reel) → IsFileReel q r → (recording : RecordingValue)
    × (read_after r.rules.is_profile r.config r.setup.width r.setup.height ≡ Ok recording)
reel_reads r is =
    let own = is.reel.0 in
    let record' = is.reel.1.0 in
    let frames = is.reel.1.1.0 in
    let same : r ≡ in_frames frames own = is.reel.1.1.1 in
    let scoped : IsScopedRecord r.config Parities r.setup.width r.setup.height record'.0 =
    subst (λ (z : Reel). IsScopedRecord z.config Parities z.setup.width z.setup.height record'.0) (sym same) record'.1 in
    let of : r.rules.is_profile ≡ true → is_in_profile record'.0 ≡ true = λ profile. ap (λ (z : Reel). z.rules.is_profile) (sym record'.2) ∙ asked frames own.rules.is_profile
    (ap (λ (z : Reel). z.rules.is_profile) (sym same) ∙ profile) in (
      record'.0,
      read_as r.rules.is_profile r.config r.setup.width r.setup.height record'.0 scoped of,
    )

module _ {q : Recordings} (r : Reel) (is : IsFileReel q r) (x y : List ℕ) where
  small : (r.setup.width < 2 ^ 32) × (r.setup.height < 2 ^ 32)
  small = reel_small r is.reel

  abbrev Sized : List ℕ → Type 0
  Sized s = (config : List ℕ) × (w h : ℕ) × (s ≡ sized_record config w h) × (length config ≤ record_limit) × (w < 2 ^ 32) × (h < 2 ^ 32)

  -- the record and the size that are read there are the reel's
  own_read : (s : List ℕ) (c : List ℕ) (w h : ℕ) → sized_record r.config r.setup.width r.setup.height ++ x ≡ s ++ y → s ≡ sized_record c w h
      → length c ≤ record_limit → w < 2 ^ 32 → h < 2 ^ 32 → (recording : RecordingValue)
      × (read_after r.rules.is_profile c w h ≡ Ok recording)
  own_read s c w h same is_sized fits wide high =
      let parts = same_sized r.config c r.setup.width r.setup.height w h x y is.fits fits small.0 small.1 wide high (same ∙ ap (λ z. z ++ y) is_sized) in
      let own = reel_reads r is in (
        own.0,
        subst (λ k. read_after r.rules.is_profile k w h ≡ Ok own.0) parts.config
            (subst (λ v. read_after r.rules.is_profile r.config v h ≡ Ok own.0) parts.width
            (subst (λ k. read_after r.rules.is_profile r.config r.setup.width k ≡ Ok own.0) parts.height own.1)),
      )

  pub reel_none : (p : Bool) → p ≡ r.rules.is_profile → (fault : HoldFileFault) (s : List ℕ) → sized_record r.config r.setup.width r.setup.height ++ x ≡ s ++ y
      → ReelShows p fault s → ⊥
  reel_none p named faults.TooLong s same shown = grind (arith, sized_parts, append_assoc, after_number, number_same)
  reel_none p named (faults.Setup f) s same (config, w, h, split, fits, wide, high, first) =
      let own = own_read s config w h same split fits wide high in
      let both = sym own.1 ∙ ap (λ b. read_after b config w h) (sym named) ∙ first in cc
  reel_none p named faults.Magic s same shown = shown
  reel_none p named faults.Truncated s same shown = shown
  reel_none p named faults.Tag s same shown = shown
  reel_none p named faults.Order s same shown = shown
  reel_none p named faults.NotASlice s same shown = shown
  reel_none p named faults.Trailing s same shown = shown
  reel_none p named faults.Read s same shown = shown
  reel_none p named faults.Write s same shown = shown
  reel_none p named faults.Memory s same shown = shown
  reel_none p named faults.OtherReel s same shown = shown

-- a whole record is not cut by the end
pub sized_cut : (config : List ℕ) (width height : ℕ) (x : List ℕ) → length config ≤ record_limit → IsPartOfReel (sized_record config width height ++ x) → ⊥
sized_cut config width height x fits (inl short) = grind (arith, sized_parts, length-append, length-be4)
sized_cut config width height x fits (inr part) = grind (arith, sized_parts, append_assoc, after_number, number_same, length-append)

module _ (q : Recordings) (v : Version) (h : Contents) (is : IsHolding h) (file_reel : IsFileReel q h.reel) (stated : IsStated v h)
    (tells : TellsMagic h.reel (file_entries h)) where
  abbrev es : List FileEntry
  es = file_entries h

  has : HasFileVersion v h.reel.rules.is_profile
  has = version_of v h stated

  is_magic : IsMagic q h.reel.rules.is_profile v
  is_magic = (file_reel.taken, has)

  all_valid : AreValid v h.reel None es
  all_valid = valid_list v h.reel es (are_entries v h is stated (inr tells))

  all_fit : AreFitting v es
  all_fit = fitting_items v h is stated

  -- the text, before more bytes
  text_before : (z : List ℕ) → file_text v h ++ z ≡ head_text v h.reel ++ (entries_text v es ++ 0 ∷ z)
  text_before z = grind (arith, text_parts, append_assoc)

  from_magic : (z : List ℕ) → file_text v h ++ z ≡ magic h.reel.rules.is_profile v ++ (sized_record h.reel.config h.reel.setup.width h.reel.setup.height ++
      (entries_text v es ++ 0 ∷ z))
  from_magic z = text_before z ∙ head_parts v h.reel (entries_text v es ++ 0 ∷ z)

  -- no beginning of a text, or of what goes on after it, shows a fault
  pub text_none : (z seen rest : List ℕ) (fault : HoldFileFault) → file_text v h ++ z ≡ seen ++ rest → FileShows q fault seen → ⊥
  text_none z seen rest fault same (inl shown) = magic_none q _ v is_magic _ rest seen fault (sym (from_magic z) ∙ same) shown
  text_none z seen rest fault same (inr (inl (p, w, s, m, split, shown))) =
      let magics = sym (from_magic z) ∙ same ∙ ap (λ t. t ++ rest) split ∙ append_assoc (magic p w) s rest in
      reel_none h.reel file_reel (entries_text v es ++ 0 ∷ z) rest p (sym (same_name h.reel.rules.is_profile p v w _ _ magics)) fault s
      (after_magic _ p v w _ _ magics) shown
  text_none z seen rest fault same (inr (inr (w, r, s, r_is, split, (fs, t, entries, inner, shown)))) =
      let heads = same_head v w h.reel r (entries_text v es ++ 0 ∷ z) (s ++ rest) (short_reel h.reel file_reel) (short_reel r r_is) has entries.version (sym (text_before z) ∙ same
      ∙ ap (λ t. t ++ rest) split ∙ append_assoc (head_text w r) s rest) in
      let entries_v = subst (λ (u : Version). AreEntries u r fs) (sym heads.0) entries in
      entries_none v h.reel None es fs z rest (tells_end v h.reel es tells) all_valid all_fit (fitting_all v r r_is.reel fs entries_v.each) fault t
      (heads.2 ∙ ap (λ t. t ++ rest) inner ∙ ap (λ (u : Version). (entries_text u fs ++ t) ++ rest) (sym heads.0))
      (subst (λ (l : Option FileEntry). EntryShows v h.reel l fault t) (last_of-none fs)
      (subst (λ (x : Reel). EntryShows v x (last_of fs) fault t) (sym heads.1)
      (subst (λ (u : Version). EntryShows u r (last_of fs) fault t) (sym heads.0) shown)))

  -- and no text begins what is unfinished
  pub text_whole : (z : List ℕ) → IsPartOfFile q (file_text v h ++ z) → ⊥
  text_whole z (inl part) = grind (arith, from_magic, length-append)
  text_whole z (inr (inl (p, w, s, m, split, part))) =
      sized_cut h.reel.config h.reel.setup.width h.reel.setup.height (entries_text v es ++ 0 ∷ z) file_reel.fits
      (subst IsPartOfReel (sym (after_magic _ p v w _ _ (sym (from_magic z) ∙ split))) part)
  text_whole z (inr (inr (w, r, s, r_is, split, (fs, t, entries, inner, part)))) =
      let heads = same_head v w h.reel r (entries_text v es ++ 0 ∷ z) s (short_reel h.reel file_reel) (short_reel r r_is) has entries.version (sym (text_before z) ∙ split) in
      let entries_v = subst (λ (u : Version). AreEntries u r fs) (sym heads.0) entries in
      entries_whole v r (last_of fs) es fs z t all_fit (fitting_all v r r_is.reel fs entries_v.each)
      (heads.2 ∙ inner ∙ ap (λ (u : Version). entries_text u fs ++ t) (sym heads.0))
      (subst (λ (u : Version). IsPartOfEntry u r (last_of fs) t) (sym heads.0) part)
