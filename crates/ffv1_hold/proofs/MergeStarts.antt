-- Where joining two files stands before the first entries, and after the last ones.
use Rattle.ffv1_hold.proofs.Common.{◌≡◌, ℕ, ◌+◌, ◌≤◌, List, [], ◌∷◌, ◌++◌, length, Option, Some, None, IfSome, refl, sym, ap, ◌∙◌, subst, inl, inr, arith, append-nil, length-append, Consumes, Appends, AllByRecursion, Appends-trans, file_limit, AreBytes, record_limit, file_entries, AreReels, AreOfOneRecord, reel_of_both, union_reel, KeepsNext, WritesFront, front-append, front-after, entries_total, entries_antisymmetric, origins_total, origins_antisymmetric, Reel, Contents, IsHolding, HoldFileFault, Version, Second, FileEntry, head_text, begun_text, file_text, holding_text, IsStated, Takes, Refuses, last_of, Follows, next_text, IsFileReel, IsPartOfEntry, EntryShows, EndIsWhole, LiesWhole, AreAllDigests, StreamBegins, InputRefuses, OneRefuses, ShowsNoFault, ReadsAll, ReadsPart, ReadsSoFar, UnionPasses, WritesUnion, WritesAtMost, Start, inputs_from, Facts, part, no_facts, both, FollowsAll, IsPassed, IsReadUpTo, ReadsToNext, IsOpened, Stands, Stops, Ends, Recordings, HasFileVersion}
use Rattle.ffv1_holding.specs.Sets as set
use Rattle.ffv1_hold.specs.declared.file_fault.HoldFileFault.TheVariants as faults
use Rattle.ffv1_hold.proofs.Slots.{entries_text-none, length-head_text}
use Rattle.ffv1_hold.proofs.HeldEntries.{entries-none}
use Rattle.ffv1_hold.proofs.ReadSteps.{holding_none, stated_none}
use Rattle.ffv1_hold.proofs.TileTexts.{stated_begun, fits_within}
use Rattle.ffv1_hold.proofs.MergeSteps.{IsNext, advanced, input_refuses, part_read, passed_part, passed_shows_none, held_shows_none, head_begins, whole_begins, part_begins, stops_between, stops_reading, stops_writing}
use Rattle.ffv1_hold.proofs.MergeFacts.{within-left, within-right}
use Rattle.ffv1_hold.proofs.UnionReels.{IsFirst, both_config, holding_both, in_left, in_right, union_first, union_end}
use Rattle.ffv1_hold.proofs.ReadDigests.{all_read_to, left_gives, right_gives, stays_beside}

pub begun-none : (v : Version) (r : Reel) → begun_text v (part r no_facts) ≡ head_text v r
begun-none v r = grind (arith, entries-none, entries_text-none, append-nil)

both-none : both no_facts no_facts ≡ no_facts
both-none = λ i. (set.union_empty entries_total entries_antisymmetric set.empty i, set.union_empty origins_total origins_antisymmetric set.empty i)

begun-both_none : (r : Reel) → begun_text Second (part r (both no_facts no_facts)) ≡ head_text Second r
begun-both_none r = ap (λ x. begun_text Second (part r x)) both-none ∙ begun-none Second r

-- the head was read, and no entry
pub first_passed : {c : Recordings} (old new : Option (List ℕ)) (v : Version) (r : Reel) (place : ℕ) → IsFileReel c r → HasFileVersion v r.rules.is_profile → Takes old new 0 place (head_text v r)
    → IsPassed old new v r no_facts place None
first_passed old new v r place is has t = record {
  well_formed = holding_none r is.reel;
  stated = stated_none v r has;
  begun = inl (entries-none r);
  text = subst (Takes old new 0 place) (sym (begun-none v r)) t;
  last' = sym (ap last_of (entries-none r));
}

-- the head was read, and the first entry or the end after it
pub head_held : {c : Recordings} (old now new : Option (List ℕ)) (v w : Version) (r x : Reel) (from to : ℕ) (last next : Option FileEntry)
    → IsFileReel c r → HasFileVersion v r.rules.is_profile → last ≡ None → w ≡ v → x ≡ r → Takes old now 0 from (head_text v r) → Takes now new from to (next_text w next)
    → IsNext w x last next new → IsReadUpTo old new v r no_facts to next
head_held old now new v w r x from to last next is has none version same head text after =
    let p = subst (λ (l : Option FileEntry). IsPassed old now v r no_facts from l) (sym none) (first_passed old now v r from is has head) in
    advanced old now new v w r x no_facts from to last next version same p text after

-- the first entry is refused
pub first_refuses : {c : Recordings} (old now new : Option (List ℕ)) (v w : Version) (r x : Reel) (from : ℕ) (last : Option FileEntry) (f : HoldFileFault)
    → last ≡ None → w ≡ v → x ≡ r → IsFileReel c r → HasFileVersion v r.rules.is_profile → Takes old now 0 from (head_text v r)
    → Refuses (IsPartOfEntry w x last) (EndIsWhole x last) (EntryShows w x last) now new from f → InputRefuses c old new f
first_refuses old now new v w r x from last f none version same is has head refused =
    input_refuses old now new v w r x no_facts from last f version same is
    (subst (λ (l : Option FileEntry). IsPassed old now v r no_facts from l) (sym none) (first_passed old now v r from is has head)) refused

after_none : (r : Reel) (next : Option FileEntry) → FollowsAll r no_facts next
after_none r None = tt
after_none r (Some e) = subst (λ (l : Option FileEntry). Follows l e.0) (sym (ap last_of (entries-none r))) tt

no_last : (r : Reel) (f : Facts) → f ≡ no_facts → last_of (file_entries (part r f)) ≡ None
no_last r f none = ap (λ x. last_of (file_entries (part r x))) none ∙ ap last_of (entries-none r)

-- the record of what is written is that of the left input, so it is within its limit
pub union_fits : (x y z : Reel) → AreOfOneRecord x y → z ≡ reel_of_both x y → length x.config ≤ record_limit → length z.config ≤ record_limit
union_fits x y z one is fits = omega (arith, ap (λ (r : Reel). length r.config) is, both_config x y one, fits)

-- what was read first of an input
is_first : (old new : Option (List ℕ)) (v : Version) (r : Reel) (place : ℕ) (next : Option FileEntry) → IsReadUpTo old new v r no_facts place next
    → IfSome next (λ e. AreBytes e.0.1) → IsFirst r next
is_first old new v r place None h bytes =
    record { entry = tt; bytes = tt; keeps = subst (λ (l : Option FileEntry). KeepsNext r l None) (no_last r no_facts refl) h.keeps }
is_first old new v r place (Some e) h bytes =
    record { entry = h.entry.slice; bytes = bytes; keeps = subst (λ (l : Option FileEntry). KeepsNext r l (Some e)) (no_last r no_facts refl) h.keeps }

pub first_stands : (s : Start) (l r w : Option (List ℕ)) (lp rp room : ℕ) (ln rn : Option FileEntry) → AreReels s
    → IsReadUpTo s.left l s.left_version s.left_reel no_facts lp ln → IsReadUpTo s.right r s.right_version s.right_reel no_facts rp rn
    → IfSome ln (λ e. AreBytes e.0.1) → IfSome rn (λ e. AreBytes e.0.1) → Appends s.sink w (head_text Second (union_reel s))
    → room + (20 + length (union_reel s).config) ≡ file_limit → Stands s l r w lp rp room ln rn
first_stands s l r w lp rp room ln rn reels left right left_bytes right_bytes written room_left =
    let q = union_reel s in
    let text = begun-both_none q in
    let one = is_first _ _ s.left_version s.left_reel lp ln left left_bytes in
    let two = is_first _ _ s.right_version s.right_reel rp rn right right_bytes in
    let last = no_last q (both no_facts no_facts) both-none in
    record {
      reels = reels;
      lefts = no_facts;
      rights = no_facts;
      left_held = left;
      right_held = right;
      written = subst (Appends s.sink w) (sym text) written;
      left_after = subst (λ x. FollowsAll q x ln) (sym both-none) (after_none q ln);
      right_after = subst (λ x. FollowsAll q x rn) (sym both-none) (after_none q rn);
      begun = inl (ap (λ x. file_entries (part q x)) both-none ∙ entries-none q);
      keeps = record {
        entry = λ e others o turn. subst (λ (l : Option FileEntry). KeepsNext q l (Some e)) (sym last)
            (union_first s.left_reel s.right_reel reels.one reels.left_is.reel reels.right_is.reel ln rn one two e others o turn);
        end = λ left_end right_end. subst (λ (l : Option FileEntry). KeepsNext q l None) (sym last)
            (union_end s.left_reel s.right_reel reels.one reels.left_is.reel reels.right_is.reel ln rn one two left_end right_end);
      };
      room_left = omega (arith, room_left, ap length text, length-head_text Second q);
    }

-- an input whose head alone was read
head_after : {c : Recordings} (old new beside : Option (List ℕ)) (v : Version) (r : Reel) (done : List ℕ) → IsFileReel c r → HasFileVersion v r.rules.is_profile → Consumes old new (head_text v r)
    → ReadsToNext v r old new beside done
head_after old new beside v r done is has taken = record {
  facts = no_facts;
  well_formed = holding_none r is.reel;
  stated = stated_none v r has;
  whole = λ u h other file other_file. subst (AllByRecursion (LiesWhole (AreAllDigests h other) r done)) (sym (entries-none r)) tt;
  more = [];
  next = inl refl;
  taken = subst (Consumes old new) (sym (append-nil (begun_text v (part r no_facts)) ∙ begun-none v r)) taken;
}

module _ (s : Start) (x y : Reel) (l0 r0 w0 : Option (List ℕ)) (lp rp : ℕ) (o : IsOpened s x y l0 r0 w0 lp rp) where
  abbrev q : Reel
  q = union_reel s

  left_first : IsPassed s.left l0 s.left_version s.left_reel no_facts lp None
  left_first = first_passed _ _ s.left_version s.left_reel lp o.reels.left_is o.left_has o.left_head

  right_first : IsPassed s.right r0 s.right_version s.right_reel no_facts rp None
  right_first = first_passed _ _ s.right_version s.right_reel rp o.reels.right_is o.right_has o.right_head

  left_part : ReadsPart s.left l0 (part s.left_reel no_facts)
  left_part = passed_part _ _ s.left_version s.left_reel no_facts lp None o.reels.left_is left_first

  right_part : ReadsPart s.right r0 (part s.right_reel no_facts)
  right_part = passed_part _ _ s.right_version s.right_reel no_facts rp None o.reels.right_is right_first

  left_begins : StreamBegins s.left (head_text s.left_version s.left_reel)
  left_begins = whole_begins _ _ _ o.left_head.taken

  right_begins : StreamBegins s.right (head_text s.right_version s.right_reel)
  right_begins = whole_begins _ _ _ o.right_head.taken

  left_shows_none : ShowsNoFault s.recordings s.left l0
  left_shows_none = passed_shows_none _ _ s.left_version s.left_reel no_facts lp None o.reels.left_is left_first

  right_shows_none : ShowsNoFault s.recordings s.right r0
  right_shows_none = passed_shows_none _ _ s.right_version s.right_reel no_facts rp None o.reels.right_is right_first

  -- the recording of what is written is that of both
  both_same : (z : Reel) → z ≡ reel_of_both x y → z ≡ q
  both_same z is = is ∙ (λ i. reel_of_both (o.left_same i) (o.right_same i))

  head_written : (z : Reel) → z ≡ reel_of_both x y → (new : Option (List ℕ)) → Appends w0 new (head_text Second z) → Appends s.sink new (head_text Second q)
  head_written z is new wrote =
      subst (λ (a : Option (List ℕ)). Appends a new (head_text Second q)) o.unwritten
      (subst (λ (k : Reel). Appends w0 new (head_text Second k)) (both_same z is) wrote)

  few : length q.config ≤ record_limit
  few = let same = both_config s.left_reel s.right_reel o.reels.one in let fits = o.reels.left_is.fits in omega (arith, same, fits)

  pub left_held : (l : Option (List ℕ)) (to : ℕ) (last next : Option FileEntry) (w : Version) → last ≡ None → w ≡ s.left_version
      → Takes l0 l lp to (next_text w next) → IsNext w x last next l → IsReadUpTo s.left l s.left_version s.left_reel no_facts to next
  left_held l to last next w none version text after =
      head_held _ _ _ s.left_version w s.left_reel x lp to last next o.reels.left_is o.left_has none version o.left_same o.left_head text after

  pub right_held : (r : Option (List ℕ)) (to : ℕ) (last next : Option FileEntry) (w : Version) → last ≡ None → w ≡ s.right_version
      → Takes r0 r rp to (next_text w next) → IsNext w y last next r → IsReadUpTo s.right r s.right_version s.right_reel no_facts to next
  right_held r to last next w none version text after =
      head_held _ _ _ s.right_version w s.right_reel y rp to last next o.reels.right_is o.right_has none version o.right_same o.right_head text after

  pub opened_stands : (l r new : Option (List ℕ)) (left_place right_place room : ℕ) (ln rn : Option FileEntry)
      → IsReadUpTo s.left l s.left_version s.left_reel no_facts left_place ln → IsReadUpTo s.right r s.right_version s.right_reel no_facts right_place rn
      → IfSome ln (λ e. AreBytes e.0.1) → IfSome rn (λ e. AreBytes e.0.1) → (z : Reel) → z ≡ reel_of_both x y
      → Appends w0 new (head_text Second z) → room + (20 + length z.config) ≡ file_limit → Stands s l r new left_place right_place room ln rn
  opened_stands l r new left_place right_place room ln rn left right left_bytes right_bytes z is wrote room_left =
      first_stands s l r new left_place right_place room ln rn o.reels left right left_bytes right_bytes (head_written z is new wrote)
      (subst (λ (k : Reel). room + (20 + length k.config) ≡ file_limit) (both_same z is) room_left)

  heads : ReadsSoFar (inputs_from s l0 r0) (part s.left_reel no_facts) (part s.right_reel no_facts)
  heads = record { left_read = left_part; right_read = right_part; same = o.reels.one }

  -- the head could not be written
  pub head_stops : (z : Reel) → z ≡ reel_of_both x y → (new : Option (List ℕ)) → WritesFront w0 new (head_text Second z)
      → Stops (inputs_from s l0 r0) s.sink new faults.Write
  head_stops z is new front =
      let w = subst (λ (k : Reel). WritesFront s.sink new (head_text Second k)) (both_same z is) (subst (λ (a : Option (List ℕ)). WritesFront a new
      (head_text Second z)) o.unwritten front) in
      let front = front-append s.sink new _ (0 ∷ []) (subst (WritesFront s.sink new) (sym (begun-both_none q)) w) in
      stops_writing (inputs_from s l0 r0) s.left_reel s.right_reel o.reels.left_is o.reels.right_is o.reels.one s.left_version s.right_version
      left_begins right_begins s.sink new left_shows_none right_shows_none
      (record { left = part s.left_reel no_facts; right = part s.right_reel no_facts; read = heads; front = front }) w.done w.written
      (omega (arith, few, ap length w.split, length-append w.done w.rest, length-head_text Second q))
      (head_after _ _ _ s.left_version s.left_reel w.done o.reels.left_is o.left_has o.left_head.taken)
      (head_after _ _ _ s.right_version s.right_reel w.done o.reels.right_is o.right_has o.right_head.taken)

  -- the first entry of an input was refused
  first_stops : (l r new : Option (List ℕ)) (f : HoldFileFault) → OneRefuses (inputs_from s l r) f → (z : Reel) → z ≡ reel_of_both x y
      → Appends w0 new (head_text Second z) → Stops (inputs_from s l r) s.sink new f
  first_stops l r new f fault z is wrote =
      let text = begun-both_none q in
      stops_reading (inputs_from s l r) s.left_reel s.right_reel o.reels.left_is o.reels.right_is o.reels.one s.left_version s.right_version
      left_begins right_begins s.sink new no_facts no_facts
      (part_begins _ _ _ left_part) (part_begins _ _ _ right_part) (subst (Appends s.sink new) (sym text) (head_written z is new wrote))
      (omega (arith, few, ap length text, length-head_text Second q)) f fault

  pub first_left_stops : (l new : Option (List ℕ)) (last : Option FileEntry) (w : Version) (f : HoldFileFault) → last ≡ None
      → w ≡ s.left_version → Refuses (IsPartOfEntry w x last) (EndIsWhole x last) (EntryShows w x last) l0 l lp f
      → (z : Reel) → z ≡ reel_of_both x y → Appends w0 new (head_text Second z) → Stops (inputs_from s l r0) s.sink new f
  first_left_stops l new last w f none version refused z is wrote =
      let input = first_refuses _ _ _ s.left_version w s.left_reel x lp last f none version o.left_same o.reels.left_is o.left_has o.left_head refused in
      first_stops l r0 new f (inl (input, right_shows_none)) z is wrote

  pub first_right_stops : (l r new : Option (List ℕ)) (to : ℕ) (ln last : Option FileEntry) (w : Version) (f : HoldFileFault)
      → last ≡ None → w ≡ s.right_version → Refuses (IsPartOfEntry w y last) (EndIsWhole y last) (EntryShows w y last) r0 r rp f
      → IsReadUpTo s.left l s.left_version s.left_reel no_facts to ln → (z : Reel) → z ≡ reel_of_both x y → Appends w0 new (head_text Second z)
      → Stops (inputs_from s l r) s.sink new f
  first_right_stops l r new to ln last w f none version refused held z is wrote =
      let input = first_refuses _ _ _ s.right_version w s.right_reel y rp last f none version o.right_same o.reels.right_is o.right_has o.right_head refused in
      first_stops l r new f (inr (input, held_shows_none _ _ s.left_version s.left_reel no_facts to ln o.reels.left_is held)) z is wrote

-- ---- after the last entries

pub all_part : (old new : Option (List ℕ)) (h : Contents) → ReadsAll old new h → ReadsPart old new h
all_part old new h a = part_read old new a.file.version h a.well_formed a.file.fits.record' a.file.fits.stated (0 ∷ []) a.file.taken

module _ (s : Start) (left right sink : Option (List ℕ)) (room : ℕ) (e : Ends s left right sink room) where
  abbrev all : Facts
  all = both e.lefts e.rights

  left_all : ReadsPart s.left left (part s.left_reel e.lefts)
  left_all = all_part _ _ _ e.read.left_read

  right_all : ReadsPart s.right right (part s.right_reel e.rights)
  right_all = all_part _ _ _ e.read.right_read

  left_begins_all : StreamBegins s.left (head_text e.read.left_read.file.version s.left_reel)
  left_begins_all = head_begins _ _ _ (part s.left_reel e.lefts) (0 ∷ []) e.read.left_read.file.taken

  right_begins_all : StreamBegins s.right (head_text e.read.right_read.file.version s.right_reel)
  right_begins_all = head_begins _ _ _ (part s.right_reel e.rights) (0 ∷ []) e.read.right_read.file.taken

  all_well_formed : IsHolding (part (union_reel s) all)
  all_well_formed = holding_both s.left_reel s.right_reel e.lefts e.rights e.reels.one e.read.left_read.well_formed e.read.right_read.well_formed

  all_stated : IsStated Second (part (union_reel s) all)
  all_stated = stated_begun (part (union_reel s) all) all_well_formed (omega (arith, e.room_left))

  union_length : length (holding_text (part (union_reel s) all)) ≡ length (begun_text Second (part (union_reel s) all)) + 1
  union_length = length-append (begun_text Second (part (union_reel s) all)) (0 ∷ [])

  whole_shows_none : (old new : Option (List ℕ)) (r : Reel) (x : Facts) → IsFileReel s.recordings r → ReadsAll old new (part r x)
      → ShowsNoFault s.recordings old new
  whole_shows_none old new r x is a = record {
    seen = file_text a.file.version (part r x);
    taken = a.file.taken;
    well_formed = inr (part r x, a.well_formed, is, (a.file.version, a.file.fits.stated, a.file.fits.tells, refl));
  }

  -- there is no room for the end tag
  pub full_stops : room ≡ 0 → Stops (inputs_from s left right) s.sink sink faults.TooLong
  full_stops none =
      let passes : UnionPasses (inputs_from s left right) = record {
        left = part s.left_reel e.lefts;
        right = part s.right_reel e.rights;
        read = e.read;
        over = omega (arith, none, e.room_left, union_length);
      } in
      stops_between (inputs_from s left right) s.left_reel s.right_reel e.reels.left_is e.reels.right_is e.reels.one e.read.left_read.file.version
      e.read.right_read.file.version left_begins_all right_begins_all
      s.sink sink e.lefts e.rights (part_begins _ _ _ left_all) (part_begins _ _ _ right_all) e.written (omega (arith, e.room_left))
      faults.TooLong (inr (inr passes)) (λ is. absurd (cc), λ is. absurd (cc))

  -- the end tag could not be written
  pub end_stops : (new : Option (List ℕ)) → 1 ≤ room → WritesFront sink new (0 ∷ []) → Stops (inputs_from s left right) s.sink new faults.Write
  end_stops new some w =
      let begun = begun_text Second (part (union_reel s) all) in
      let left_read = all_read_to _ _ s.left_reel e.lefts e.read.left_read in
      let right_read = all_read_to _ _ s.right_reel e.rights e.read.right_read in
      let read : ReadsSoFar (inputs_from s left right) (part s.left_reel e.lefts) (part s.right_reel e.rights) =
      record { left_read = left_all; right_read = right_all; same = e.reels.one } in
      let front = front-after s.sink sink new begun (0 ∷ []) e.written w in
      stops_writing (inputs_from s left right) s.left_reel s.right_reel e.reels.left_is e.reels.right_is e.reels.one e.read.left_read.file.version
      e.read.right_read.file.version left_begins_all right_begins_all
      s.sink new (whole_shows_none _ _ s.left_reel e.lefts e.reels.left_is e.read.left_read)
      (whole_shows_none _ _ s.right_reel e.rights e.reels.right_is e.read.right_read)
      (record { left = part s.left_reel e.lefts; right = part s.right_reel e.rights; read = read; front = front })
      (begun ++ w.done) (Appends-trans s.sink sink new begun w.done e.written w.written)
      (omega (arith, e.room_left, some, ap length w.split, length-append w.done w.rest, length-append begun w.done))
      (stays_beside s.left_reel s.right_reel (union_reel s) (in_left s.left_reel s.right_reel e.reels.one) e.reels.left_is e.reels.right_is _ _ _ _ _ _
      e.lefts e.rights all None None left_read right_read (within-left e.lefts e.rights) tt tt
      (left_gives (union_reel s) e.lefts e.rights) all_well_formed all_stated w.done)
      (stays_beside s.right_reel s.left_reel (union_reel s) (in_right s.left_reel s.right_reel e.reels.one) e.reels.right_is e.reels.left_is _ _ _ _ _ _
      e.rights e.lefts all None None right_read left_read (within-right e.lefts e.rights) tt tt
      (right_gives (union_reel s) e.lefts e.rights) all_well_formed all_stated w.done)

  -- it was written
  pub union_written : (new : Option (List ℕ)) → 1 ≤ room → Appends sink new (0 ∷ []) → WritesUnion (inputs_from s left right) s.sink new
  union_written new some w = record {
    left = part s.left_reel e.lefts;
    right = part s.right_reel e.rights;
    read = e.read;
    left_taken = e.reels.left_is.taken;
    right_taken = e.reels.right_is.taken;
    fits = fits_within (part (union_reel s) all) all_well_formed e.tells
        (omega (arith, both_config s.left_reel s.right_reel e.reels.one, e.reels.left_is.fits), omega (arith, e.room_left, some, union_length));
    written = Appends-trans s.sink sink new (begun_text Second (part (union_reel s) all)) (0 ∷ []) e.written w;
  }

  pub union_within : (new : Option (List ℕ)) → 1 ≤ room → Appends sink new (0 ∷ []) → WritesAtMost s.sink new file_limit
  union_within new some w = grind (arith, Appends-trans, union_length)
