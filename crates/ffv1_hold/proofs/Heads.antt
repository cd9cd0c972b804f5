-- The parts of the size and the record.
use Rattle.ffv1_hold.proofs.Common.{◌≡◌, ℕ, ◌<◌, ◌≤◌, List, [], ◌∷◌, ◌++◌, length, Bool, Option, Result, Ok, Err, IfOk, IfErr, arith, inl, inr, refl, sym, ap, ◌∙◌, subst, append_assoc, append-nil, length-append, ◌⊎◌, record_limit, SetupFault, FirstRecordFault, Recordings, HoldFileFault, Reel, Version, HasFileVersion, magic, be4, sized_record, head_text, entries_text, file_entries, IsStated, Contents, IsHolding, ReadLog, Refuses, TakesText, ReadsText, AreEntries, MayRead, IsMagic, IsFileReel, IsReelAfter, IsHoldingText, IsPartOfReel, ReelIsWhole, FileIsWhole, ReelShows, IsPartOfEntries, EntriesShow, IsPartOfFile, FileShows, EntriesAreWhole, IsPartOfHead, HeadIsWhole, HeadShows, HeadRefuses, KeepsMagic, TellsMagic, last_of, None, false, in_frames, IsRecordReel, record_reel_is}
use Rattle.ffv1_range.specs.declared.frames.Frames.TheVariants.{Any}
use Rattle.ffv1_holding.proofs.Reels.{any_reel_is}
use Rattle.ffv1_range.specs.declared.fault.SetupFault.TheVariants.{Memory as no_memory}
use Rattle.ffv1_hold.specs.declared.file_fault.HoldFileFault.TheVariants as faults
use Rattle.ffv1_hold.proofs.Bodies.{length-be4}
use Rattle.ffv1_hold.proofs.ReadRefusals.{Takes-nil, Refuses-after}
use Rattle.ffv1_hold.proofs.TextReads.{TakesText-trans, StopsAt-after, shown, memory_stops}

pub part_of_height : (w : ℕ) (s : List ℕ) → length s < 4 → IsPartOfReel (be4 w ++ s)
part_of_height w s h = inl (omega (arith, length-append (be4 w) s, length-be4 w))

pub part_of_count : (w h : ℕ) (s : List ℕ) → length s < 4 → IsPartOfReel (be4 w ++ be4 h ++ s)
part_of_count w h s short = inl (omega (arith, length-append (be4 w ++ be4 h) s, length-append (be4 w) (be4 h), length-be4 w, length-be4 h))

pub part_of_config : (w h n : ℕ) (s : List ℕ) → n ≤ record_limit → length s < n → IsPartOfReel (be4 w ++ be4 h ++ be4 n ++ s)
part_of_config w h n s fits short = inr (w, h, n, s, refl, fits, short)

pub sized_record-of : (config : List ℕ) (w h n : ℕ) → n ≡ length config → be4 w ++ be4 h ++ be4 n ++ config ≡ sized_record config w h
unfolding sized_record
sized_record-of config w h n is = ap (λ k. be4 w ++ be4 h ++ be4 k ++ config) is

head_text-of : (v : Version) (r : Reel) → magic r.rules.is_profile v ++ sized_record r.config r.setup.width r.setup.height ≡ head_text v r
unfolding head_text
head_text-of v r = refl

-- ---- the parts of a head, and of a file

module _ (q : Recordings) (p : Bool) (v : Version) (is : IsMagic q p v) where
  head_from_reel_part : (s : List ℕ) → IsPartOfReel s → IsPartOfHead q (magic p v ++ s)
  head_from_reel_part s h = inr (p, v, s, is, refl, h)

  head_from_whole_reel : (f : HoldFileFault) (s : List ℕ) → ReelIsWhole p f s → HeadIsWhole q f (magic p v ++ s)
  head_from_whole_reel f s h = (p, v, s, is, refl, h)

  head_from_reel_fault : (f : HoldFileFault) (s : List ℕ) → ReelShows p f s → HeadShows q f (magic p v ++ s)
  head_from_reel_fault f s h = inr (p, v, s, is, refl, h)

module _ (q : Recordings) where
  pub file_from_head_part : (s : List ℕ) → IsPartOfHead q s → IsPartOfFile q s
  file_from_head_part s (inl h) = inl h
  file_from_head_part s (inr h) = inr (inl h)

  pub file_from_head_fault : (f : HoldFileFault) (s : List ℕ) → HeadShows q f s → FileShows q f s
  file_from_head_fault f s (inl h) = inl h
  file_from_head_fault f s (inr h) = inr (inl h)

  pub file_from_whole_head : (f : HoldFileFault) (s : List ℕ) → HeadIsWhole q f s → FileIsWhole q f s
  file_from_whole_head faults.Memory s h = h
  file_from_whole_head _ s (p, v, reel, is, same, h) = absurd h

  -- a head that is refused is a fault of the file
  pub head_file : (old new : Option (List ℕ)) (f : HoldFileFault) → HeadRefuses q old new f
      → Refuses (IsPartOfFile q) (FileIsWhole q) (FileShows q) old new 0 f
  head_file old new f r =
      Refuses-after (IsPartOfHead q) (IsPartOfFile q) (HeadIsWhole q) (FileIsWhole q) (HeadShows q) (FileShows q) old old new 0 0 [] f
      (Takes-nil old 0 (omega arith)) r file_from_head_part file_from_whole_head file_from_head_fault

-- a text, whose end is looked for
abbrev IsFileOfReel : Version → Reel → List ℕ → Type 0
IsFileOfReel v r s = (h : Contents) × (tag : List ℕ) × IsHolding h × IsStated v h × TellsMagic h.reel (file_entries h) × (h.reel ≡ r)
    × (s ≡ entries_text v (file_entries h) ++ tag) × ((tag ≡ 0 ∷ []) × KeepsMagic r (last_of (file_entries h)) None)

text_of : {q : Recordings} (v : Version) (r : Reel) → IsFileReel q r → (s : List ℕ) → IsFileOfReel v r s → IsHoldingText q (head_text v r ++ s)
text_of {q} v r is s (h, tag, holding, stated, tells, reel, same, (end, keeps)) = (
  h,
  holding,
  subst (IsFileReel q) (sym reel) is,
  (
    v,
    stated,
    tells,
    ap (λ (x : Reel). head_text v x ++ s) (sym reel)
        ∙ ap (λ t. head_text v h.reel ++ t) (same ∙ ap (λ t. entries_text v (file_entries h) ++ t) end)
        ∙ sym (append_assoc (head_text v h.reel) (entries_text v (file_entries h)) (0 ∷ [])),
  ),
)

pub file_from_whole_entries : {q : Recordings} (v : Version) (r : Reel) → IsFileReel q r → (f : HoldFileFault) (s : List ℕ) → EntriesAreWhole v r f s
    → FileIsWhole q f (head_text v r ++ s)
file_from_whole_entries v r is faults.Read s w = text_of v r is s w
file_from_whole_entries v r is faults.Trailing s w = text_of v r is s w
file_from_whole_entries v r is faults.Magic s w = absurd w.7
file_from_whole_entries v r is (faults.Setup f) s w = absurd w.7
file_from_whole_entries v r is faults.Truncated s w = absurd w.7
file_from_whole_entries v r is faults.Tag s w = absurd w.7
file_from_whole_entries v r is faults.Order s w = absurd w.7
file_from_whole_entries v r is faults.NotASlice s w = absurd w.7
file_from_whole_entries v r is faults.Write s w = absurd w.7
file_from_whole_entries v r is faults.Memory s w = absurd w.7
file_from_whole_entries v r is faults.TooLong s w = absurd w.7
file_from_whole_entries v r is faults.OtherReel s w = absurd w.7

pub file_from_entries_part : {q : Recordings} (v : Version) (r : Reel) → IsFileReel q r → (s : List ℕ) → IsPartOfEntries v r s → IsPartOfFile q (head_text v r ++ s)
file_from_entries_part v r i s h = inr (inr (v, r, s, i, refl, h))

pub file_from_entries_fault : {q : Recordings} (v : Version) (r : Reel) → IsFileReel q r → (f : HoldFileFault) (s : List ℕ) → EntriesShow v r f s
    → FileShows q f (head_text v r ++ s)
file_from_entries_fault v r i f s h = inr (inr (v, r, s, i, refl, h))

-- a head begins a file
pub head_is_part : {q : Recordings} (v : Version) (r : Reel) → IsFileReel q r → HasFileVersion v r.rules.is_profile → IsPartOfFile q (head_text v r)
unfolding entries_text
head_is_part v r is has =
    let none : AreEntries v r [] = record { version = has; each = tt; rising = λ i j d lt short. absurd (omega arith); first = inl refl } in
    inr (inr (v, r, [], is, sym (append-nil (head_text v r)), ([], [], none, refl, inl refl)))

-- a size and a record that were read, or refused, after the magic
module _ (q : Recordings) (p : Bool) (v : Version) (is : IsMagic q p v) (a b c : ReadLog) (i j k : ℕ) (t : TakesText a b i j (magic p v)) where
  pub head_read : (r : Result Reel HoldFileFault)
      → ReadsText (λ r. sized_record r.config r.setup.width r.setup.height) IsPartOfReel (ReelIsWhole p) (ReelShows p) b c j k r
      → IfOk r (IsReelAfter p) → ReadsText (head_text v) (IsPartOfHead q) (HeadIsWhole q) (HeadShows q) a c i k r
  head_read (Ok r) more reel =
      let named : magic p v ++ sized_record r.config r.setup.width r.setup.height ≡ head_text v r =
      ap (λ x. magic x v ++ sized_record r.config r.setup.width r.setup.height) (sym reel.named) ∙ head_text-of v r in
      subst (TakesText a c i k) named (TakesText-trans a b c i j k (magic p v) _ t more)
  head_read (Err f) more reel = StopsAt-after IsPartOfReel (IsPartOfHead q) (ReelIsWhole p) (HeadIsWhole q) (ReelShows p) (HeadShows q) a b c i j
      (magic p v) t f more (head_from_reel_part q p v is) (head_from_whole_reel q p v is) (head_from_reel_fault q p v is)

-- a reel after the magic is one of a file that is read
pub reel_of_file : (q : Recordings) (p : Bool) (v : Version) → IsMagic q p v → (r : Result Reel HoldFileFault) → IfOk r (IsReelAfter p) → IfOk r (IsFileReel q)
reel_of_file q p v is (Err f) reel = tt
reel_of_file q p v is (Ok r) reel = record { reel = reel.reel; taken = subst (MayRead q) (sym reel.named) is.0; fits = reel.fits }

pub version_of_file : (q : Recordings) (p : Bool) (v : Version) → IsMagic q p v → (r : Result Reel HoldFileFault) → IfOk r (IsReelAfter p)
    → IfOk r (λ x. HasFileVersion v x.rules.is_profile)
version_of_file q p v is (Err f) reel = tt
version_of_file q p v is (Ok r) reel = subst (HasFileVersion v) (sym reel.named) is.1

-- the recording of a record after the magic of others than the profile, in any frames
pub any_reel_after : (p : Bool) (r : Reel) → IsRecordReel r → length r.config ≤ record_limit → p ≡ false → IsReelAfter p (in_frames Any r)
any_reel_after p r is fits other = record { reel = any_reel_is r (record_reel_is r is); named = sym other; fits = fits }

-- a refusal that isn't Memory is the first fault of the record
pub first_fault : (recordings : Recordings) (config : List ℕ) (w h : ℕ) (f : SetupFault) → (f ≡ no_memory) ⊎ FirstRecordFault recordings config w h f → (f ≡ no_memory → ⊥)
    → FirstRecordFault recordings config w h f
first_fault recordings config w h f (inl memory) other = absurd (other memory)
first_fault recordings config w h f (inr first) other = first

-- a reel that was judged once its size and its record were read: what they are, or the fault that they show or come before
pub reel_judged : (p : Bool) {a b : ReadLog} {i j : ℕ} {xs : List ℕ} → TakesText a b i j xs → (r : Result Reel HoldFileFault)
    → IfOk r (λ reel. xs ≡ sized_record reel.config reel.setup.width reel.setup.height) → IfErr r (λ f. ReelIsWhole p f xs ⊎ ReelShows p f xs)
    → ReadsText (λ reel. sized_record reel.config reel.setup.width reel.setup.height) IsPartOfReel (ReelIsWhole p) (ReelShows p) a b i j r
reel_judged p t (Ok reel) same fault = subst (TakesText _ _ _ _) same t
reel_judged p t (Err faults.Memory) same (inl is) = memory_stops _ _ _ _ _ _ _ _ t (inr is)
reel_judged p t (Err faults.TooLong) same (inr is) = shown _ _ _ _ _ _ _ _ t _ tt is
reel_judged p t (Err (faults.Setup f)) same (inr is) = shown _ _ _ _ _ _ _ _ t _ tt is
reel_judged p t (Err _) same (inl is) = absurd is
reel_judged p t (Err _) same (inr is) = absurd is
