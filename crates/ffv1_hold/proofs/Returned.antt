-- What reading the text of a holding returns.
use Rattle.ffv1_hold.proofs.Common.{◌≡◌, ℕ, ◌≤◌, List, [], ◌∷◌, ◌++◌, length, Option, Some, None, Result, Ok, Err, inl, inr, sym, ap, ◌∙◌, subst, arith, append_assoc, append-nil, length-append, Consumes, IsAtEnd, record_limit, ReadLog, HoldFileFault, Version, Contents, IsHolding, file_text, head_text, entries_text, file_entries, IsStated, FitsInFile, Refuses, StopsIn, IsPartOfFile, FileIsWhole, FileShows, ReadsFile, IsOutside, Returns, Recordings, MayTake, IsFileReel}
use Rattle.ffv1_hold.specs.declared.file_fault.HoldFileFault.TheVariants as faults
use Rattle.ffv1_hold.proofs.TextLaws.{one_file, same_head, same_entries, fitting_items, text_parts}
use Rattle.ffv1_hold.proofs.HeldEntries.{version_of}
use Rattle.ffv1_hold.proofs.FaultLaws.{text_none, text_whole}

-- what was taken of known bytes stands at their front
pub taken_front : (xs bs : List ℕ) (new : Option (List ℕ)) → Consumes (Some xs) new bs → (rest : List ℕ) × (xs ≡ bs ++ rest)
taken_front xs bs None gone = absurd gone
taken_front xs bs (Some rest) is = (rest, is)

pub taken_all : (xs bs : List ℕ) (new : Option (List ℕ)) → Consumes (Some xs) new bs → IsAtEnd new → xs ≡ bs
taken_all xs bs None gone end = absurd gone
taken_all xs bs (Some rest) is end = is ∙ ap (λ r. bs ++ r) end ∙ append-nil bs

module _ (c : Recordings) (v : Version) (h : Contents) (is : IsHolding h) (taken : MayTake c h.reel) (fits : FitsInFile v h) where
  own : IsFileReel c h.reel
  own = record { reel = is.reel; taken = taken; fits = fits.record' }

  -- no text goes on after another
  text_ends : (w : Version) (g : Contents) → IsHolding g → length g.reel.config ≤ record_limit → IsStated w g → (more : ℕ) (rest : List ℕ)
      → file_text v h ≡ file_text w g ++ more ∷ rest → ⊥
  text_ends w g g_is g_fits g_stated more rest same =
      let gs = entries_text w (file_entries g) in
      let hs = entries_text v (file_entries h) in
      let heads = same_head v w h.reel g.reel (hs ++ 0 ∷ []) ((gs ++ 0 ∷ []) ++ more ∷ rest) (record { reel = is.reel; fits = fits.record' })
      (record { reel = g_is.reel; fits = g_fits }) (version_of v h fits.stated) (version_of w g g_stated)
      (sym (text_parts v h) ∙ same ∙ ap (λ z. z ++ more ∷ rest) (text_parts w g) ∙ append_assoc (head_text w g.reel) (gs ++ 0 ∷ []) (more ∷ rest)) in
      let version = ap (λ (u : Version). entries_text u (file_entries g)) (sym heads.0) in
      let tails = heads.2 ∙ append_assoc gs (0 ∷ []) (more ∷ rest) ∙ ap (λ z. z ++ 0 ∷ more ∷ rest) version in
      let entries = same_entries v (file_entries h) (file_entries g) [] (more ∷ rest) (fitting_items v h is fits.stated)
      (fitting_items v g g_is (subst (λ (u : Version). IsStated u g) (sym heads.0) g_stated)) tails in
      grind (arith, length-append)

  shows_none : (fault : HoldFileFault) (new : Option (List ℕ)) → StopsIn (FileShows c fault) (Some (file_text v h)) new 0 → ⊥
  shows_none fault new r = let front = taken_front (file_text v h) r.seen new r.taken in
      text_none c v h is own fits.stated fits.tells [] r.seen front.0 fault (append-nil (file_text v h) ∙ front.1) r.is

  -- a refusal of a text is the device's or memory's
  pub refused_outside : (f : HoldFileFault) (new : Option (List ℕ)) → Refuses (IsPartOfFile c) (FileIsWhole c) (FileShows c) (Some (file_text v h)) new 0 f → IsOutside f
  refused_outside faults.Read new r = tt
  refused_outside faults.Memory new r = tt
  refused_outside faults.Write new r = r
  refused_outside faults.OtherReel new r = r
  refused_outside faults.Truncated new r = text_whole c v h is own fits.stated fits.tells []
      (subst (IsPartOfFile c) (sym (append-nil (file_text v h) ∙ taken_all (file_text v h) r.seen new r.taken r.at_end)) r.unfinished)
  refused_outside faults.TooLong new (inl r) = shows_none faults.TooLong new r
  refused_outside faults.TooLong new (inr r) = grind (arith, taken_front, length-append)
  refused_outside faults.Trailing new r =
      let w = r.whole in
      let front = taken_front (file_text v h) (r.seen ++ r.more ∷ []) new r.taken in
      text_ends w.3.0 w.0 w.1 w.2.fits w.3.1 r.more front.0 (front.1 ∙ append_assoc r.seen (r.more ∷ []) front.0 ∙ ap (λ z. z ++ r.more ∷ front.0) w.3.3)
  refused_outside faults.Magic new r = shows_none faults.Magic new r
  refused_outside (faults.Setup f) new r = shows_none (faults.Setup f) new r
  refused_outside faults.Tag new r = shows_none faults.Tag new r
  refused_outside faults.Order new r = shows_none faults.Order new r
  refused_outside faults.NotASlice new r = shows_none faults.NotASlice new r

  pub returned : (old new : ReadLog) (r : Result Contents HoldFileFault) → old.remaining ≡ Some (file_text v h) → ReadsFile c r old new → Returns h r
  returned old new (Ok g) known read =
      let file = read.file in
      let whole = taken_all (file_text v h) (file_text file.version g) new.remaining
      (subst (λ (o : Option (List ℕ)). Consumes o new.remaining (file_text file.version g)) known file.taken) read.at_end in
      one_file file.version v g h read.well_formed is file.fits.record' fits.record' file.fits.stated fits.stated (sym whole)
  returned old new (Err f) known stops = grind (arith, refused_outside)
