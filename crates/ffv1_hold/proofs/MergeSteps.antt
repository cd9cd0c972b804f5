-- What one entry more does to where joining two files stands.
use Rattle.ffv1_hold.proofs.Common.{true≢false, is_write, ◌≡◌, ℕ, ◌+◌, ◌<◌, ◌≤◌, List, [], ◌∷◌, ◌++◌, length, Option, Some, None, IfSome, IfNone, refl, sym, ap, ◌∙◌, subst, inl, inr, arith, append_assoc, append-nil, length-append, Ordering, Less, Equal, Greater, Consumes, Appends, IsAtEnd, Appends-trans, record_limit, file_limit, AreEntries, TileRules, AreOfOneRecord, reel_of_both, union_reel, IsBegun, KeepsAll, KeepsNext, KeepsMagic, TellsMagic, ◌⊎◌, WritesFront, front-append, front-after, Reel, Contents, IsHolding, AreDigests, HoldFileFault, Version, Second, FileEntry, head_text, entry_text, entries_text, begun_text, file_entries, IsStated, Takes, Refuses, last_of, Follows, IsFileEntryOf, next_text, IsFileReel, IsPartOfFile, FileIsWhole, FileShows, IsPartOfEntry, EntryShows, EndIsWhole, ReadsPart, ReadsAll, ReadsSoFar, EntriesPass, InputRefuses, ShowsNoFault, OneRefuses, MergeRefuses, StreamBegins, BeginsWithPart, WritesFrontSoFar, Inputs, WritesEntries, WritesAtMost, Start, AreVersions, inputs_from, Facts, part, with_file_entry, both, IsPassed, IsReadUpTo, ReadsToNext, FollowsAll, Stands, Stops, Ends, with_digests, IsTurn, EntryStops, StopsAtWrite, Recordings, IsPartOfEntries}
use Rattle.ffv1_hold.specs.declared.file_fault.HoldFileFault.TheVariants as faults
use Rattle.ffv1_hold.proofs.ReadRefusals.{Takes-trans, Refuses-after}
use Rattle.ffv1_hold.proofs.Entries.{part_of_entries, entries_show}
use Rattle.ffv1_hold.proofs.Heads.{file_from_entries_part, file_from_whole_entries, file_from_entries_fault}
use Rattle.ffv1_hold.proofs.HeldEntries.{are_entries, entries-with_entry, stated-with_entry, holding-with_entry}
use Rattle.ffv1_hold.proofs.ReadSteps.{digests_in_version, begun_push, tells_all, end_keeps}
use Rattle.ffv1_hold.proofs.DigestUnions.{union-rises}
use Rattle.ffv1_hold.proofs.TileTexts.{stated_begun}
use Rattle.ffv1_hold.proofs.MergeFacts.{within-left, within-right, both-left, both-right, both-both, with_none, begun-with, last-with}
use Rattle.ffv1_hold.proofs.UnionReels.{holding_both, in_left, in_right}
use Rattle.ffv1_hold.proofs.ReadDigests.{held_read, left_gives, right_gives, stays_beside}

-- ---- one input

-- what follows an entry stands after what it ends
pub after-more : (r : Reel) (f : Facts) (e : FileEntry) (next : Option FileEntry) → IsHolding (part r f) → AreDigests e.1
    → Follows (last_of (file_entries (part r f))) e.0 → IfSome next (λ n. Follows (Some e) n.0) → FollowsAll r (with_file_entry f e) next
after-more r f e None is up follows h = tt
after-more r f e (Some n) is up follows h = subst (λ (l : Option FileEntry). Follows l n.0) (sym (last-with Second r f e is up follows)) h

-- one entry more is begun
pub begun_with : (r : Reel) (f : Facts) (e : FileEntry) → IsHolding (part r f) → AreDigests e.1 → Follows (last_of (file_entries (part r f))) e.0 → IsBegun r f
    → KeepsMagic r (last_of (file_entries (part r f))) (Some e.0) → IsBegun r (with_file_entry f e)
begun_with r f e is up follows begun keeps =
    subst (λ (es : List FileEntry). (es ≡ []) ⊎ TellsMagic r es) (sym (entries-with_entry (part r f) e.0 e.1 follows is up))
    (begun_push r (file_entries (part r f)) e begun keeps)

-- after it all keeps the magic right
pub keeps-more : (r : Reel) (f : Facts) (e : FileEntry) (next : Option FileEntry) → IsHolding (part r f) → AreDigests e.1
    → Follows (last_of (file_entries (part r f))) e.0 → KeepsAll r (with_file_entry f e) next
keeps-more r f e next is up follows = subst (λ (l : Option FileEntry). KeepsNext r l next) (sym (last-with Second r f e is up follows)) (keeps_after e next)
  where
    keeps_after : (e : FileEntry) (next : Option FileEntry) → KeepsNext r (Some e) next
    keeps_after e None = tt
    keeps_after e (Some n) = tt

pub passed : (old new : Option (List ℕ)) (v : Version) (r : Reel) (f : Facts) (place : ℕ) (e : FileEntry) → IsReadUpTo old new v r f place (Some e)
    → IsPassed old new v r (with_file_entry f e) place (Some e)
passed old new v r f place e h =
    let digests = digests_in_version v e.1 h.entry.origins in
    record {
      well_formed = holding-with_entry (part r f) e.0 e.1 h.well_formed h.entry.slice digests.each;
      stated = stated-with_entry (part r f) e.0 e.1 h.after v h.well_formed h.entry.origins h.stated;
      begun = begun_with r f e h.well_formed digests.rising h.after h.begun h.keeps;
      text = subst (Takes old new 0 place) (sym (begun-with v r f e h.well_formed digests.rising h.after)) h.text;
      last' = sym (last-with v r f e h.well_formed digests.rising h.after);
    }

-- what was read next of a recording, after the last entry
pub record IsNext (w : Version) (x : Reel) (last next : Option FileEntry) (new : Option (List ℕ)) : Type 0 where
  pub entry : IfSome next (IsFileEntryOf w x.rules)
  pub follows : IfSome next (λ e. Follows last e.0)
  pub keeps : KeepsNext x last next
  pub end : IfNone next (IsAtEnd new)

pub next_is : (w : Version) (x : Reel) (last next : Option FileEntry) (new : Option (List ℕ)) → IfSome next (IsFileEntryOf w x.rules)
    → IfSome next (λ e. Follows last e.0) → IfSome next (λ e. KeepsMagic x last (Some e.0)) → IfNone next (KeepsMagic x last None)
    → IfNone next (IsAtEnd new) → IsNext w x last next new
next_is w x last None new entry follows keeps end_keeps end = record { entry = entry; follows = follows; keeps = end_keeps; end = end }
next_is w x last (Some e) new entry follows keeps end_keeps end = record { entry = entry; follows = follows; keeps = keeps; end = end }

pub advanced : (old now new : Option (List ℕ)) (v w : Version) (r x : Reel) (f : Facts) (from to : ℕ) (last next : Option FileEntry)
    → w ≡ v → x ≡ r → IsPassed old now v r f from last → Takes now new from to (next_text w next) → IsNext w x last next new
    → IsReadUpTo old new v r f to next
advanced old now new v w r x f from to last next version same p text is =
    let own = subst (λ (y : Reel). IsNext v y last next new) same (subst (λ (u : Version). IsNext u x last next new) version is) in
    record {
      well_formed = p.well_formed;
      stated = p.stated;
      begun = p.begun;
      text = Takes-trans _ _ _ _ _ _ _ _ p.text (subst (λ (u : Version). Takes now new from to (next_text u next)) version text);
      entry = own.entry;
      after = subst (λ (l : Option FileEntry). IfSome next (λ e. Follows l e.0)) p.last' own.follows;
      keeps = subst (λ (l : Option FileEntry). KeepsNext r l next) p.last' own.keeps;
      at_end = own.end;
    }

-- what follows the entry that is next
after_entry : (last next : Option FileEntry) (e : FileEntry) → last ≡ Some e → IfSome next (λ n. Follows last n.0) → IfSome next (λ n. Follows (Some e) n.0)
after_entry last next e is follows = subst (λ (l : Option FileEntry). IfSome next (λ n. Follows l n.0)) is follows

begun-split : (v : Version) (r : Reel) (f : Facts) (x : List ℕ) → begun_text v (part r f) ++ x
    ≡ head_text v r ++ (entries_text v (file_entries (part r f)) ++ x)
begun-split v r f x = append_assoc (head_text v r) (entries_text v (file_entries (part r f))) x

begun_entries : (v : Version) (r : Reel) (f : Facts) → IsHolding (part r f) → IsStated v (part r f) → IsBegun r f
    → AreEntries v r (file_entries (part r f))
begun_entries v r f well_formed stated begun = are_entries v (part r f) well_formed stated begun

begun-is_part : {c : Recordings} (v : Version) (r : Reel) (f : Facts) → IsFileReel c r → IsHolding (part r f) → IsStated v (part r f) → IsBegun r f
    → IsPartOfFile c (begun_text v (part r f))
begun-is_part v r f is well_formed stated begun =
    let es = file_entries (part r f) in
    file_from_entries_part v r is _ (subst (IsPartOfEntries v r) (append-nil (entries_text v es))
    (part_of_entries v r es (begun_entries v r f well_formed stated begun) [] (inl refl)))

-- an entry that is refused is a fault of the file
pub input_refuses : {c : Recordings} (old now new : Option (List ℕ)) (v w : Version) (r x : Reel) (f : Facts) (place : ℕ) (last : Option FileEntry)
    (fault : HoldFileFault) → w ≡ v → x ≡ r → IsFileReel c r → IsPassed old now v r f place last
    → Refuses (IsPartOfEntry w x last) (EndIsWhole x last) (EntryShows w x last) now new place fault → InputRefuses c old new fault
input_refuses {c} old now new v w r x f place last fault version same is p refused =
    let es = file_entries (part r f) in
    let entries = begun_entries v r f p.well_formed p.stated p.begun in
    Refuses-after (IsPartOfEntry w x last) (IsPartOfFile c) (EndIsWhole x last) (FileIsWhole c) (EntryShows w x last) (FileShows c) old now new 0 place
    (begun_text v (part r f)) fault p.text refused
    (λ t h. subst (IsPartOfFile c) (sym (begun-split v r f t)) (file_from_entries_part v r is _ (part_of_entries v r es entries t
    (subst (λ (l : Option FileEntry). IsPartOfEntry v r l t) p.last' (subst (λ (y : Reel). IsPartOfEntry v y last t) same
    (subst (λ (u : Version). IsPartOfEntry u x last t) version h))))))
    (λ g t h.
    let whole = subst (λ (l : Option FileEntry). EndIsWhole r l g t) p.last' (subst (λ (y : Reel). EndIsWhole y last g t) same h) in
    let tells = tells_all r es p.begun (end_keeps r (last_of es) g t whole) in
    subst (FileIsWhole c g) (sym (begun-split v r f t))
    (file_from_whole_entries v r is g _ (part r f, t, p.well_formed, p.stated, tells, refl, refl, whole)))
    (λ g t h. subst (FileShows c g) (sym (begun-split v r f t)) (file_from_entries_fault v r is g _
    (entries_show v r es entries g t (subst (λ (l : Option FileEntry). EntryShows v r l g t) p.last'
    (subst (λ (y : Reel). EntryShows v y last g t) same (subst (λ (u : Version). EntryShows u x last g t) version h))))))

pub passed_shows_none : {c : Recordings} (old new : Option (List ℕ)) (v : Version) (r : Reel) (f : Facts) (place : ℕ) (last : Option FileEntry) → IsFileReel c r
    → IsPassed old new v r f place last → ShowsNoFault c old new
passed_shows_none old new v r f place last is p =
    record { seen = begun_text v (part r f); taken = p.text.taken; well_formed = inl (begun-is_part v r f is p.well_formed p.stated p.begun) }

pub held_shows_none : {c : Recordings} (old new : Option (List ℕ)) (v : Version) (r : Reel) (f : Facts) (place : ℕ) (next : Option FileEntry) → IsFileReel c r
    → IsReadUpTo old new v r f place next → ShowsNoFault c old new
held_shows_none old new v r f place None is h = record {
  seen = begun_text v (part r f) ++ 0 ∷ [];
  taken = h.text.taken;
  well_formed = inr (part r f, h.well_formed, is, (v, h.stated, tells_all r (file_entries (part r f)) h.begun h.keeps, refl));
}
held_shows_none old new v r f place (Some e) is h = passed_shows_none old new v r (with_file_entry f e) place (Some e) is (passed old new v r f place e h)

pub part_read : (old new : Option (List ℕ)) (v : Version) (h : Contents) → IsHolding h → length h.reel.config ≤ record_limit → IsStated v h → (more : List ℕ)
    → Consumes old new (begun_text v h ++ more) → ReadsPart old new h
part_read old new v h well_formed fits stated more taken = record { well_formed = well_formed; record' = fits; version = v; stated = stated; more = more; taken = taken }

pub held_part : {c : Recordings} (old new : Option (List ℕ)) (v : Version) (r : Reel) (f : Facts) (place : ℕ) (next : Option FileEntry) → IsFileReel c r
    → IsReadUpTo old new v r f place next → ReadsPart old new (part r f)
held_part old new v r f place next is h = part_read old new v (part r f) h.well_formed is.fits h.stated (next_text v next) h.text.taken

pub passed_part : {c : Recordings} (old new : Option (List ℕ)) (v : Version) (r : Reel) (f : Facts) (place : ℕ) (last : Option FileEntry) → IsFileReel c r
    → IsPassed old new v r f place last → ReadsPart old new (part r f)
passed_part old new v r f place last is p = grind (arith, part_read, append-nil)

pub taken_begins : (old new : Option (List ℕ)) (bytes more : List ℕ) → Consumes old new (bytes ++ more) → StreamBegins old bytes
taken_begins None new bytes more t = tt
taken_begins (Some xs) None bytes more t = absurd t
taken_begins (Some xs) (Some ys) bytes more t = (more ++ ys, t ∙ append_assoc bytes more ys)

pub whole_begins : (old new : Option (List ℕ)) (bytes : List ℕ) → Consumes old new bytes → StreamBegins old bytes
whole_begins old new bytes t = taken_begins old new bytes [] (subst (Consumes old new) (sym (append-nil bytes)) t)

pub part_begins : (old new : Option (List ℕ)) (h : Contents) → ReadsPart old new h → BeginsWithPart old h
part_begins old new h p = grind (arith, taken_begins)

pub head_begins : (old new : Option (List ℕ)) (v : Version) (h : Contents) (more : List ℕ) → Consumes old new (begun_text v h ++ more)
    → StreamBegins old (head_text v h.reel)
head_begins old new v h more t = grind (arith, taken_begins, append_assoc)

-- ---- refusals after both heads

one_refused_outside : (i : Inputs) (f : HoldFileFault) → OneRefuses i f → (f ≡ faults.Write → ⊥) × (f ≡ faults.OtherReel → ⊥)
one_refused_outside i f (inl r) = (λ is. subst (InputRefuses i.recordings i.left_old i.left_new) is r.0, λ is. subst (InputRefuses i.recordings i.left_old i.left_new) is r.0)
one_refused_outside i f (inr r) = (λ is. subst (InputRefuses i.recordings i.right_old i.right_new) is r.0, λ is. subst (InputRefuses i.recordings i.right_old i.right_new) is r.0)

module _ (i : Inputs) (l r : Reel) (l_is : IsFileReel i.recordings l) (r_is : IsFileReel i.recordings r) (one : AreOfOneRecord l r) (v w : Version)
    (left_head : StreamBegins i.left_old (head_text v l)) (right_head : StreamBegins i.right_old (head_text w r)) (old new : Option (List ℕ)) where
  stopped : (f : HoldFileFault) → MergeRefuses i f → (f ≡ faults.OtherReel → ⊥) → ((f ≡ faults.Write → ⊥) → WritesEntries i old new)
      → (f ≡ faults.Write → StopsAtWrite i l r old new) → WritesAtMost old new file_limit → Stops i old new f
  stopped f fault inside no_end write most = record {
    left_reel = l;
    right_reel = r;
    left_is = l_is;
    right_is = r_is;
    one = one;
    left_version = v;
    right_version = w;
    left_head = left_head;
    right_head = right_head;
    fault = fault;
    inside = inside;
    no_end = no_end;
    write = write;
    most = most;
  }

  -- the sink is not the fault: the head and whole entries were written
  pub stops_between : (x y : Facts) → BeginsWithPart i.left_old (part l x) → BeginsWithPart i.right_old (part r y)
      → Appends old new (begun_text Second (part (reel_of_both l r) (both x y))) → length (begun_text Second (part (reel_of_both l r) (both x y))) ≤ file_limit
      → (f : HoldFileFault) → MergeRefuses i f → (f ≡ faults.Write → ⊥) × (f ≡ faults.OtherReel → ⊥) → Stops i old new f
  stops_between x y left right written few f fault outside =
      stopped f fault outside.1
      (λ _. record { left = part l x; right = part r y; left_begins = left; right_begins = right; same = one; written = written })
      (λ is_write. absurd (outside.0 is_write)) (record { done = begun_text Second (part (reel_of_both l r) (both x y)); written = written; few = few })

  -- an input is the fault
  pub stops_reading : (x y : Facts) → BeginsWithPart i.left_old (part l x) → BeginsWithPart i.right_old (part r y)
      → Appends old new (begun_text Second (part (reel_of_both l r) (both x y))) → length (begun_text Second (part (reel_of_both l r) (both x y))) ≤ file_limit
      → (f : HoldFileFault) → OneRefuses i f → Stops i old new f
  stops_reading x y left right written few f fault = stops_between x y left right written few f (inl fault) (one_refused_outside i f fault)

  -- the sink is the fault
  pub stops_writing : ShowsNoFault i.recordings i.left_old i.left_new → ShowsNoFault i.recordings i.right_old i.right_new → WritesFrontSoFar i old new
      → (done : List ℕ) → Appends old new done → length done ≤ file_limit → ReadsToNext v l i.left_old i.left_new i.right_old done
      → ReadsToNext w r i.right_old i.right_new i.left_old done → Stops i old new faults.Write
  stops_writing left right front done written few left_read right_read =
      stopped faults.Write (inr (left, right)) (λ is. absurd (true≢false (ap is_write is))) (λ outside. absurd (outside refl))
      (λ _. record { front = front; done = done; written = written; left_version = v; right_version = w; left = left_read; right = right_read })
      (record { done = done; written = written; few = few })

-- ---- one step of both

-- The entry that is next, as one of what was read of the inputs.
pub record Turned (s : Start) (left right : Option (List ℕ)) (all : Facts) (e : FileEntry) (others : List (List ℕ)) : Type 0 where
  pub lefts : Facts
  pub rights : Facts
  pub left_read : ReadsPart s.left left (part s.left_reel lefts)
  pub right_read : ReadsPart s.right right (part s.right_reel rights)
  pub union : both lefts rights ≡ with_file_entry all (with_digests e others)
  pub follows : Follows (last_of (file_entries (part (union_reel s) all))) e.0

module _ (s : Start) (left right sink : Option (List ℕ)) (lp rp room : ℕ) (ln rn : Option FileEntry) (st : Stands s left right sink lp rp room ln rn) where
  abbrev all : Facts
  all = both st.lefts st.rights

  all_well_formed : IsHolding (part (union_reel s) all)
  all_well_formed = holding_both s.left_reel s.right_reel st.lefts st.rights st.reels.one st.left_held.well_formed st.right_held.well_formed

  all_stated : IsStated Second (part (union_reel s) all)
  all_stated = stated_begun (part (union_reel s) all) all_well_formed (omega (arith, st.room_left))

  left_at : (e : FileEntry) → ln ≡ Some e → IsReadUpTo s.left left s.left_version s.left_reel st.lefts lp (Some e)
  left_at e is = subst (λ (n : Option FileEntry). IsReadUpTo s.left left s.left_version s.left_reel st.lefts lp n) is st.left_held

  right_at : (e : FileEntry) → rn ≡ Some e → IsReadUpTo s.right right s.right_version s.right_reel st.rights rp (Some e)
  right_at e is = subst (λ (n : Option FileEntry). IsReadUpTo s.right right s.right_version s.right_reel st.rights rp n) is st.right_held

  left_passed : (e : FileEntry) → ln ≡ Some e → IsPassed s.left left s.left_version s.left_reel (with_file_entry st.lefts e) lp ln
  left_passed e is =
      subst (λ (n : Option FileEntry). IsPassed s.left left s.left_version s.left_reel (with_file_entry st.lefts e) lp n) (sym is)
      (passed _ _ s.left_version s.left_reel st.lefts lp e (left_at e is))

  right_passed : (e : FileEntry) → rn ≡ Some e → IsPassed s.right right s.right_version s.right_reel (with_file_entry st.rights e) rp rn
  right_passed e is =
      subst (λ (n : Option FileEntry). IsPassed s.right right s.right_version s.right_reel (with_file_entry st.rights e) rp n) (sym is)
      (passed _ _ s.right_version s.right_reel st.rights rp e (right_at e is))

  left_part : ReadsPart s.left left (part s.left_reel st.lefts)
  left_part = held_part _ _ s.left_version s.left_reel st.lefts lp ln st.reels.left_is st.left_held

  right_part : ReadsPart s.right right (part s.right_reel st.rights)
  right_part = held_part _ _ s.right_version s.right_reel st.rights rp rn st.reels.right_is st.right_held

  pub left_shows_none : ShowsNoFault s.recordings s.left left
  left_shows_none = held_shows_none _ _ s.left_version s.left_reel st.lefts lp ln st.reels.left_is st.left_held

  right_shows_none : ShowsNoFault s.recordings s.right right
  right_shows_none = held_shows_none _ _ s.right_version s.right_reel st.rights rp rn st.reels.right_is st.right_held

  -- with no other digests an entry is itself
  left_alone : (e : FileEntry) (others : List (List ℕ)) → ln ≡ Some e → others ≡ [] → with_digests e others ≡ e
  left_alone e others is none = grind (arith, with_none, digests_in_version, left_at)

  right_alone : (e : FileEntry) (others : List (List ℕ)) → rn ≡ Some e → others ≡ [] → with_digests e others ≡ e
  right_alone e others is none = grind (arith, with_none, digests_in_version, right_at)

  abbrev turned : (e : FileEntry) (others : List (List ℕ)) (o : Ordering) → IsTurn ln rn e others o → Turned s left right all e others
  turned e others Less t = record {
    lefts = with_file_entry st.lefts e;
    rights = st.rights;
    left_read = passed_part _ _ s.left_version s.left_reel _ lp (Some e) st.reels.left_is (passed _ _ s.left_version s.left_reel st.lefts lp e (left_at e t.0));
    right_read = held_part _ _ s.right_version s.right_reel st.rights rp rn st.reels.right_is st.right_held;
    union = both-left st.lefts st.rights e ∙ ap (with_file_entry all) (sym (left_alone e others t.0 t.1));
    follows = subst (λ (n : Option FileEntry). FollowsAll (union_reel s) all n) t.0 st.left_after;
  }
  turned e others Greater t = record {
    lefts = st.lefts;
    rights = with_file_entry st.rights e;
    left_read = held_part _ _ s.left_version s.left_reel st.lefts lp ln st.reels.left_is st.left_held;
    right_read = passed_part _ _ s.right_version s.right_reel _ rp (Some e) st.reels.right_is (passed _ _ s.right_version s.right_reel st.rights rp e (right_at e t.0));
    union = both-right st.lefts st.rights e ∙ ap (with_file_entry all) (sym (right_alone e others t.0 t.1));
    follows = subst (λ (n : Option FileEntry). FollowsAll (union_reel s) all n) t.0 st.right_after;
  }
  turned e others Equal t = record {
    lefts = with_file_entry st.lefts e;
    rights = with_file_entry st.rights (e.0, others);
    left_read = passed_part _ _ s.left_version s.left_reel _ lp (Some e) st.reels.left_is (passed _ _ s.left_version s.left_reel st.lefts lp e (left_at e t.0));
    right_read = passed_part _ _ s.right_version s.right_reel _ rp (Some (e.0, others)) st.reels.right_is
        (passed _ _ s.right_version s.right_reel st.rights rp (e.0, others) (right_at (e.0, others) t.1));
    union = both-both st.lefts st.rights e others;
    follows = subst (λ (n : Option FileEntry). FollowsAll (union_reel s) all n) t.0 st.left_after;
  }

  left_head : StreamBegins s.left (head_text s.left_version s.left_reel)
  left_head = head_begins _ _ s.left_version (part s.left_reel st.lefts) (next_text s.left_version ln) st.left_held.text.taken

  right_head : StreamBegins s.right (head_text s.right_version s.right_reel)
  right_head = head_begins _ _ s.right_version (part s.right_reel st.rights) (next_text s.right_version rn) st.right_held.text.taken

  text_after : (w : FileEntry) → AreDigests w.1 → Follows (last_of (file_entries (part (union_reel s) all))) w.0 → (more : Facts) → more ≡ with_file_entry all w
      → begun_text Second (part (union_reel s) more) ≡ begun_text Second (part (union_reel s) all) ++ entry_text Second w
  text_after w up follows more is = ap (λ x. begun_text Second (part (union_reel s) x)) is ∙ begun-with Second (union_reel s) all w all_well_formed up follows

  turned_text : (e : FileEntry) (others : List (List ℕ)) (t : Turned s left right all e others)
      → begun_text Second (part (union_reel s) (both t.lefts t.rights)) ≡ begun_text Second (part (union_reel s) all) ++ entry_text Second (with_digests e others)
  turned_text e others t = text_after (with_digests e others) (union-rises e.1 others) t.follows (both t.lefts t.rights) t.union

  turned_read : (e : FileEntry) (others : List (List ℕ)) (t : Turned s left right all e others)
      → ReadsSoFar (inputs_from s left right) (part s.left_reel t.lefts) (part s.right_reel t.rights)
  turned_read e others t = record { left_read = t.left_read; right_read = t.right_read; same = st.reels.one }

  -- there is no room for the entry
  entry_passes : (new : Option (List ℕ)) (e : FileEntry) (others : List (List ℕ)) (o : Ordering) → IsTurn ln rn e others o → new ≡ sink
      → room < length (entry_text Second (with_digests e others)) → Stops (inputs_from s left right) s.sink new faults.TooLong
  entry_passes new e others o turn same over =
      let t = turned e others o turn in
      let w = with_digests e others in
      let pass : EntriesPass (inputs_from s left right) = record {
        left = part s.left_reel t.lefts;
        right = part s.right_reel t.rights;
        read = turned_read e others t;
        over = omega (
          arith,
          st.room_left,
          ap length (turned_text e others t),
          length-append (begun_text Second (part (union_reel s) all)) (entry_text Second w),
          over,
        );
      } in
      stops_between (inputs_from s left right) s.left_reel s.right_reel st.reels.left_is st.reels.right_is st.reels.one s.left_version s.right_version
      left_head right_head s.sink new st.lefts st.rights
      (part_begins _ _ _ left_part) (part_begins _ _ _ right_part)
      (subst (λ (w : Option (List ℕ)). Appends s.sink w (begun_text Second (part (union_reel s) all))) (sym same) st.written) (omega (arith, st.room_left))
      faults.TooLong (inr (inl (pass, (left_shows_none, right_shows_none)))) (λ is. absurd (cc), λ is. absurd (cc))

  -- a front of the entry was written
  entry_cut : (new : Option (List ℕ)) (e : FileEntry) (others : List (List ℕ)) (o : Ordering) → IsTurn ln rn e others o
      → WritesFront sink new (entry_text Second (with_digests e others)) → length (entry_text Second (with_digests e others)) ≤ room
      → Stops (inputs_from s left right) s.sink new faults.Write
  entry_cut new e others o turn w fits =
      let t = turned e others o turn in
      let begun = begun_text Second (part (union_reel s) all) in
      let left_read = held_read _ _ s.left_version s.left_reel st.lefts lp ln st.left_held in
      let right_read = held_read _ _ s.right_version s.right_reel st.rights rp rn st.right_held in
      let done = begun ++ w.done in
      let written = Appends-trans s.sink sink new begun w.done st.written w.written in
      let front : WritesFrontSoFar (inputs_from s left right) s.sink new = record {
        left = part s.left_reel t.lefts;
        right = part s.right_reel t.rights;
        read = turned_read e others t;
        front = front-append s.sink new _ (0 ∷ []) (subst (WritesFront s.sink new) (sym (turned_text e others t))
            (front-after s.sink sink new begun (entry_text Second (with_digests e others)) st.written w));
      } in
      stops_writing (inputs_from s left right) s.left_reel s.right_reel st.reels.left_is st.reels.right_is st.reels.one s.left_version s.right_version
      left_head right_head s.sink new left_shows_none right_shows_none
      front done written (omega (arith, st.room_left, fits, ap length w.split, length-append w.done w.rest, length-append begun w.done))
      (stays_beside s.left_reel s.right_reel (union_reel s) (in_left s.left_reel s.right_reel st.reels.one) st.reels.left_is st.reels.right_is _ _ _ _
      s.left_version s.right_version st.lefts st.rights all ln rn left_read right_read
      (within-left st.lefts st.rights) st.left_after st.right_after (left_gives (union_reel s) st.lefts st.rights) all_well_formed all_stated w.done)
      (stays_beside s.right_reel s.left_reel (union_reel s) (in_right s.left_reel s.right_reel st.reels.one) st.reels.right_is st.reels.left_is _ _ _ _
      s.right_version s.left_version st.rights st.lefts all rn ln right_read left_read
      (within-right st.lefts st.rights) st.right_after st.left_after (right_gives (union_reel s) st.lefts st.rights) all_well_formed all_stated w.done)

  -- the entry could not be written
  pub entry_stops : (new : Option (List ℕ)) (e : FileEntry) (others : List (List ℕ)) (o : Ordering) (f : HoldFileFault) → IsTurn ln rn e others o
      → EntryStops sink new room (with_digests e others) f → Stops (inputs_from s left right) s.sink new f
  entry_stops new e others o faults.TooLong turn stop = entry_passes new e others o turn stop.0 stop.1
  entry_stops new e others o faults.Write turn stop = entry_cut new e others o turn stop.0 stop.1
  entry_stops new e others o faults.Magic turn stop = absurd stop
  entry_stops new e others o (faults.Setup f) turn stop = absurd stop
  entry_stops new e others o faults.Truncated turn stop = absurd stop
  entry_stops new e others o faults.Tag turn stop = absurd stop
  entry_stops new e others o faults.Order turn stop = absurd stop
  entry_stops new e others o faults.NotASlice turn stop = absurd stop
  entry_stops new e others o faults.Trailing turn stop = absurd stop
  entry_stops new e others o faults.Read turn stop = absurd stop
  entry_stops new e others o faults.Memory turn stop = absurd stop
  entry_stops new e others o faults.OtherReel turn stop = absurd stop

  -- ---- after an entry that was written
  module _ (e : FileEntry) (others : List (List ℕ)) (o : Ordering) (turn : IsTurn ln rn e others o) (new : Option (List ℕ)) (room' : ℕ)
      (wrote : Appends sink new (entry_text Second (with_digests e others))) (less : room' + length (entry_text Second (with_digests e others)) ≡ room) where
    abbrev t : Turned s left right all e others
    t = turned e others o turn

    abbrev written_entry : FileEntry
    written_entry = with_digests e others

    text : begun_text Second (part (union_reel s) (both t.lefts t.rights)) ≡ begun_text Second (part (union_reel s) all) ++ entry_text Second written_entry
    text = turned_text e others t

    now_written : Appends s.sink new (begun_text Second (part (union_reel s) (both t.lefts t.rights)))
    now_written = grind (arith, text, Appends-trans)

    now_left : room' + length (begun_text Second (part (union_reel s) (both t.lefts t.rights))) ≡ file_limit
    now_left = grind (arith, text, length-append)

    -- reading on failed
    stops_after : (l r : Option (List ℕ)) (f : HoldFileFault) → OneRefuses (inputs_from s l r) f → Stops (inputs_from s l r) s.sink new f
    stops_after l r f fault =
        stops_reading (inputs_from s l r) s.left_reel s.right_reel st.reels.left_is st.reels.right_is st.reels.one s.left_version s.right_version
        left_head right_head s.sink new t.lefts t.rights
        (part_begins _ _ _ t.left_read) (part_begins _ _ _ t.right_read) now_written (omega (arith, now_left)) f fault

    -- what is next keeps the magic of the union right
    now_keeps : (next : Option FileEntry) → KeepsAll (union_reel s) (both t.lefts t.rights) next
    now_keeps next = subst (λ x. KeepsAll (union_reel s) x next) (sym t.union)
        (keeps-more (union_reel s) all written_entry next all_well_formed (union-rises e.1 others) t.follows)

    -- both stand after it
    stands_after : (l r : Option (List ℕ)) (lp' rp' : ℕ) (ln' rn' : Option FileEntry)
        → IsReadUpTo s.left l s.left_version s.left_reel t.lefts lp' ln' → IsReadUpTo s.right r s.right_version s.right_reel t.rights rp' rn'
        → IfSome ln' (λ n. Follows (Some e) n.0) → IfSome rn' (λ n. Follows (Some e) n.0) → Stands s l r new lp' rp' room' ln' rn'
    stands_after l r lp' rp' ln' rn' left_held right_held left_follows right_follows = record {
      reels = st.reels;
      lefts = t.lefts;
      rights = t.rights;
      left_held = left_held;
      right_held = right_held;
      written = now_written;
      left_after = subst (λ x. FollowsAll (union_reel s) x ln') (sym t.union)
          (after-more (union_reel s) all written_entry ln' all_well_formed (union-rises e.1 others) t.follows left_follows);
      right_after = subst (λ x. FollowsAll (union_reel s) x rn') (sym t.union)
          (after-more (union_reel s) all written_entry rn' all_well_formed (union-rises e.1 others) t.follows right_follows);
      begun = subst (IsBegun (union_reel s)) (sym t.union)
          (begun_with (union_reel s) all written_entry all_well_formed (union-rises e.1 others) t.follows st.begun (st.keeps.entry e others o turn));
      keeps = record { entry = λ next _ _ _. now_keeps (Some next); end = λ _ _. now_keeps None };
      room_left = now_left;
    }

  -- ---- reading on after it
  module _ (e : FileEntry) (others : List (List ℕ)) (new : Option (List ℕ)) (room' : ℕ) (wrote : Appends sink new (entry_text Second (with_digests e others)))
      (less : room' + length (entry_text Second (with_digests e others)) ≡ room) (v w : Version) (versions : AreVersions s v w) (x y : Reel)
      (left_same : x ≡ s.left_reel) (right_same : y ≡ s.right_reel) where
    left_on : ln ≡ Some e → (l : Option (List ℕ)) (to : ℕ) (next : Option FileEntry) → Takes left l lp to (next_text v next) → IsNext v x ln next l
        → IsReadUpTo s.left l s.left_version s.left_reel (with_file_entry st.lefts e) to next
    left_on is l to next text after =
        advanced _ _ _ s.left_version v s.left_reel x _ lp to ln next versions.left_is left_same (left_passed e is) text after

    right_on : (own : FileEntry) → rn ≡ Some own → (r : Option (List ℕ)) (to : ℕ) (next : Option FileEntry) → Takes right r rp to (next_text w next)
        → IsNext w y rn next r → IsReadUpTo s.right r s.right_version s.right_reel (with_file_entry st.rights own) to next
    right_on own is r to next text after =
        advanced _ _ _ s.right_version w s.right_reel y _ rp to rn next versions.right_is right_same (right_passed own is) text after

    pub less_stands : IsTurn ln rn e others Less → (l : Option (List ℕ)) (to : ℕ) (next : Option FileEntry) (u : Version) → u ≡ v
        → Takes left l lp to (next_text v next) → IsNext v x ln next l → AreVersions s u w × Stands s l right new to rp room' next rn
    less_stands turn l to next u kept text after = (
      record { left_is = kept ∙ versions.left_is; right_is = versions.right_is },
      stands_after e others Less turn new room' wrote less l right to rp next rn (left_on turn.0 l to next text after) st.right_held
          (after_entry ln next e turn.0 after.follows) turn.2,
    )

    pub greater_stands : IsTurn ln rn e others Greater → (r : Option (List ℕ)) (to : ℕ) (next : Option FileEntry) (u : Version) → u ≡ w
        → Takes right r rp to (next_text w next) → IsNext w y rn next r → AreVersions s v u × Stands s left r new lp to room' ln next
    greater_stands turn r to next u kept text after = (
      record { left_is = versions.left_is; right_is = kept ∙ versions.right_is },
      stands_after e others Greater turn new room' wrote less left r lp to ln next st.left_held (right_on e turn.0 r to next text after) turn.2
          (after_entry rn next e turn.0 after.follows),
    )

    -- where both have the slice, the left input is read on first
    module _ (turn : IsTurn ln rn e others Equal) (l : Option (List ℕ)) (lp' : ℕ) (ln' : Option FileEntry) (text : Takes left l lp lp' (next_text v ln'))
        (after : IsNext v x ln ln' l) where
      left_now : IsReadUpTo s.left l s.left_version s.left_reel (with_file_entry st.lefts e) lp' ln'
      left_now = left_on turn.0 l lp' ln' text after

      pub left_now_shows_none : ShowsNoFault s.recordings s.left l
      left_now_shows_none = held_shows_none _ _ s.left_version s.left_reel _ lp' ln' st.reels.left_is left_now

      pub equal_stands : (r : Option (List ℕ)) (to : ℕ) (next : Option FileEntry) (u z : Version) → u ≡ v → z ≡ w → Takes right r rp to (next_text w next)
          → IsNext w y rn next r → AreVersions s u z × Stands s l r new lp' to room' ln' next
      equal_stands r to next u z left_kept right_kept right_text right_after = (
        record { left_is = left_kept ∙ versions.left_is; right_is = right_kept ∙ versions.right_is },
        stands_after e others Equal turn new room' wrote less l r lp' to ln' next left_now
            (right_on (e.0, others) turn.1 r to next right_text right_after)
            (after_entry ln ln' e turn.0 after.follows) (after_entry rn next (e.0, others) turn.1 right_after.follows),
      )

    -- reading the left input on failed
    pub left_refused : (o : Ordering) → IsTurn ln rn e others o → ln ≡ Some e → (l : Option (List ℕ)) (f : HoldFileFault)
        → Refuses (IsPartOfEntry v x ln) (EndIsWhole x ln) (EntryShows v x ln) left l lp f → Stops (inputs_from s l right) s.sink new f
    left_refused o turn is l f refused =
        let input = input_refuses _ _ _ s.left_version v s.left_reel x _ lp ln f versions.left_is left_same st.reels.left_is (left_passed e is) refused in
        stops_after e others o turn new room' wrote less l right f (inl (input, right_shows_none))

    -- reading the right one on failed
    pub right_refused : (o : Ordering) → IsTurn ln rn e others o → (own : FileEntry) → rn ≡ Some own → (l r : Option (List ℕ)) → ShowsNoFault s.recordings s.left l
        → (f : HoldFileFault) → Refuses (IsPartOfEntry w y rn) (EndIsWhole y rn) (EntryShows w y rn) right r rp f
        → Stops (inputs_from s l r) s.sink new f
    right_refused o turn own is l r shown f refused =
        let input = input_refuses _ _ _ s.right_version w s.right_reel y _ rp rn f versions.right_is right_same st.reels.right_is (right_passed own is) refused in
        stops_after e others o turn new room' wrote less l r f (inr (input, shown))

-- an input ended
all_read : {c : Recordings} (old new : Option (List ℕ)) (v : Version) (r : Reel) (f : Facts) (place : ℕ) → IsFileReel c r → IsReadUpTo old new v r f place None
    → ReadsAll old new (part r f)
all_read old new v r f place is h = record {
  well_formed = h.well_formed;
  file = record {
    version = v;
    fits = record {
      stated = h.stated;
      tells = tells_all r (file_entries (part r f)) h.begun h.keeps;
      record' = is.fits;
      text = omega (arith, h.text.moved, h.text.within);
    };
    taken = h.text.taken;
  };
  at_end = h.at_end;
}

pub ends : (s : Start) (left right sink : Option (List ℕ)) (lp rp room : ℕ) (ln rn : Option FileEntry) → ln ≡ None → rn ≡ None
    → Stands s left right sink lp rp room ln rn → Ends s left right sink room
ends s left right sink lp rp room ln rn l r st =
    let left_held = subst (λ (n : Option FileEntry). IsReadUpTo s.left left s.left_version s.left_reel st.lefts lp n) l st.left_held in
    let right_held = subst (λ (n : Option FileEntry). IsReadUpTo s.right right s.right_version s.right_reel st.rights rp n) r st.right_held in
    record {
      reels = st.reels;
      lefts = st.lefts;
      rights = st.rights;
      read = record {
        left_read = all_read _ _ s.left_version s.left_reel st.lefts lp st.reels.left_is left_held;
        right_read = all_read _ _ s.right_version s.right_reel st.rights rp st.reels.right_is right_held;
        same = st.reels.one;
      };
      tells = tells_all (union_reel s) (file_entries (part (union_reel s) (both st.lefts st.rights))) st.begun (st.keeps.end l r);
      written = st.written;
      room_left = st.room_left;
    }

-- ---- what can be written

-- the version of a reader stays
pub same_version_entry : (v w : Version) (rules : TileRules) (next : Option FileEntry) → w ≡ v → IfSome next (IsFileEntryOf v rules)
    → IfSome next (IsFileEntryOf w rules)
same_version_entry v w rules next same is = subst (λ (u : Version). IfSome next (IsFileEntryOf u rules)) (sym same) is
