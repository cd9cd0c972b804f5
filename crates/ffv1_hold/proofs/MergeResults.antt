-- What joining two files returns for texts of one record and size, and to heads of two.
use Rattle.ffv1_hold.proofs.Common.{◌≡◌, ℕ, ◌<◌, List, [], ◌∷◌, ◌++◌, length, Option, Some, None, Result, Ok, Err, IfErr, OnOk, IsErrOf, rules, refl, sym, ap, ◌∙◌, subst, inl, inr, arith, append_assoc, length-append, ◌⊎◌, Consumes, Appends, Consumes-nil, Appends-nil, file_limit, Version, Reel, Contents, AreOfOneRecord, reel_of_both, united, HoldFileFault, magic, head_text, entries_text, begun_text, file_entries, file_text, holding_text, IsStated, StopsIn, IsFileReel, IsPartOfReel, IsOutside, IsPartOfHead, HeadShows, Inputs, IsFileOf, IsFileOfSome, StreamBegins, BeginsWithHead, InputRefuses, ShowsNoFault, BothRefuse, LeftRefusesFirst, MergeRefuses, EntriesPass, UnionPasses, ReadsPart, ReadsAll, ReadsOtherHeads, WritesUnion, ReturnsUnion, ReturnsOther, WritesNoEnd, StaysInReadLimit, Facts, both, HeadsRefuse, StopsAtWrite, Stops, MergeIsRefused, part, Recordings, MayTake, HasFileVersion, HeadRefuses, sized_record, WritesAtMost, ReadLog, WriteLog, WritesIfTouched, MergeWent}
use Rattle.ffv1_hold.specs.declared.file_fault.HoldFileFault.TheVariants as faults
use Rattle.ffv1_hold.specs.declared.version.Version.TheVariants.{Second}
use Rattle.ffv1_hold.specs.JoinedStreams.{devices}
use Rattle.ffv1_hold.proofs.Bodies.{length-be4}
use Rattle.ffv1_hold.proofs.Slots.{length-head_text}
use Rattle.ffv1_hold.proofs.TextLaws.{short_reel, one_reel, same_head, same_name, head_parts, after_magic, text_parts, one_file, fitting_items}
use Rattle.ffv1_hold.proofs.HeldEntries.{version_of}
use Rattle.ffv1_hold.proofs.FaultLaws.{magic_none, reel_none, sized_cut}
use Rattle.ffv1_hold.proofs.Returned.{taken_front, taken_all, refused_outside}
use Rattle.ffv1_hold.proofs.Magics.{begun_none}
use Rattle.ffv1_hold.proofs.Heads.{head_is_part, head_file}
use Rattle.ffv1_hold.proofs.MergeFacts.{IsWithin, within-left, within-right, within-both, within-trans, shorter}
use Rattle.ffv1_hold.proofs.UnionReels.{holding_both}
use Rattle.ffv1_hold.proofs.MergeFronts.{front_within}
use Rattle.ffv1_hold.proofs.MergeReadLimits.{front_entries, stays_in_read_limit}
use Rattle.ffv1_hold.proofs.MergeSteps.{whole_begins, head_begins}

-- ---- a head that is there is not refused

module _ (c : Recordings) (v : Version) (r : Reel) (is : IsFileReel c r) (has : HasFileVersion v r.rules.is_profile) where
  -- no beginning of what goes on after a head shows a fault of a head
  head_none : (x seen y : List ℕ) (f : HoldFileFault) → head_text v r ++ x ≡ seen ++ y → HeadShows c f seen → ⊥
  head_none x seen y f same (inl shown) = magic_none c r.rules.is_profile v (is.taken, has) _ y seen f (sym (head_parts v r x) ∙ same) shown
  head_none x seen y f same (inr (p, w, s, m, split, shown)) =
      let magics = sym (head_parts v r x) ∙ same ∙ ap (λ t. t ++ y) split ∙ append_assoc (magic p w) s y in
      reel_none r is x y p (sym (same_name r.rules.is_profile p v w _ _ magics)) f s (after_magic r.rules.is_profile p v w _ _ magics) shown

  -- what has a head is no part of one
  head_whole : (x : List ℕ) → IsPartOfHead c (head_text v r ++ x) → ⊥
  head_whole x (inl part) =
      omega (arith, part.0, ap length (head_parts v r x), length-append (magic r.rules.is_profile v) (sized_record r.config r.setup.width r.setup.height ++ x))
  head_whole x (inr (p, w, s, m, split, part)) =
      sized_cut r.config r.setup.width r.setup.height x is.fits
      (subst IsPartOfReel (sym (after_magic r.rules.is_profile p v w _ _ (sym (head_parts v r x) ∙ split))) part)

-- a part of a head is short
part_short : (c : Recordings) (s : List ℕ) → IsPartOfHead c s → length s < file_limit
part_short c s (inl part) = omega (arith, part.0)
part_short c s (inr (k, v, p, m, split, inl short)) = omega (arith, short, ap length split, length-append (magic k v) p)
part_short c s (inr (k, v, p, m, split, inr (w, h, n, config, parts, fits, cut))) = grind (arith, length-append, length-be4)

module _ (c : Recordings) (v : Version) (r : Reel) (is : IsFileReel c r) (has : HasFileVersion v r.rules.is_profile) (x : List ℕ) where
  head_shown : (f : HoldFileFault) (new : Option (List ℕ)) → StopsIn (HeadShows c f) (Some (head_text v r ++ x)) new 0 → ⊥
  head_shown f new s = let front = taken_front (head_text v r ++ x) s.seen new s.taken in head_none c v r is has x s.seen front.0 f front.1 s.is

  -- a refusal of it is the device's or memory's
  head_outside : (f : HoldFileFault) (new : Option (List ℕ)) → HeadRefuses c (Some (head_text v r ++ x)) new f → IsOutside f
  head_outside faults.Read new s = tt
  head_outside faults.Memory new s = tt
  head_outside faults.Write new s = s
  head_outside faults.OtherReel new s = s
  head_outside faults.Truncated new s = head_whole c v r is has x (subst (IsPartOfHead c) (sym (taken_all _ s.seen new s.taken s.at_end)) s.unfinished)
  head_outside faults.TooLong new (inl s) = head_shown faults.TooLong new s
  head_outside faults.TooLong new (inr s) = let short = part_short c s.seen s.unfinished in absurd (omega (arith, short, s.at_limit))
  head_outside faults.Trailing new s = absurd s.whole.5
  head_outside faults.Magic new s = head_shown faults.Magic new s
  head_outside (faults.Setup f) new s = head_shown (faults.Setup f) new s
  head_outside faults.Tag new s = head_shown faults.Tag new s
  head_outside faults.Order new s = head_shown faults.Order new s
  head_outside faults.NotASlice new s = head_shown faults.NotASlice new s

-- ---- heads of two records or sizes

-- an input that begins with two heads has one
one_head : {c : Recordings} (input : Option (List ℕ)) (v : Version) (r q : Reel) → IsFileReel c r → StreamBegins input (head_text v r) → BeginsWithHead c input q
    → r ≡ q
one_head None v r q is begins head = absurd (cc)
one_head (Some xs) v r q is begins head =
    let same : xs ≡ head_text head.version q ++ head.rest = cc in
    (one_reel v head.version r q begins.0 head.rest (short_reel r is) (short_reel q head.is) (sym begins.1 ∙ same)).0

head_refused : (c : Recordings) (old new : Option (List ℕ)) (g : Reel) (f : HoldFileFault) → BeginsWithHead c old g → HeadRefuses c old new f → IsOutside f
head_refused c old new g f head refused =
    head_outside c head.version g head.is head.has head.rest f new (subst (λ (o : Option (List ℕ)). HeadRefuses c o new f) head.split refused)

module _ (i : Inputs) (w v : Option (List ℕ)) (g h : Reel) (left : BeginsWithHead i.recordings i.left_old g) (right : BeginsWithHead i.recordings i.right_old h) (other : ¬ AreOfOneRecord g h) where
  -- what is of one record and size with these
  one_of : (x y : Reel) → x ≡ g → y ≡ h → AreOfOneRecord x y → ⊥
  one_of x y left_is right_is one = other (subst (λ (r : Reel). AreOfOneRecord r h) left_is (subst (λ (r : Reel). AreOfOneRecord x r) right_is one))

  other_refused : (f : HoldFileFault) → MergeIsRefused i w v f → IsOutside f ⊎ (f ≡ faults.OtherReel)
  other_refused f (inl (inl (refused, same), untouched)) = inl (head_refused i.recordings _ _ g f left refused)
  other_refused f (inl (inr (inl (head, refused)), untouched)) = inl (head_refused i.recordings _ _ h f right refused)
  other_refused f (inl (inr (inr (is, heads)), untouched)) = inr is
  other_refused f (inr s) =
      absurd (one_of s.left_reel s.right_reel (one_head _ s.left_version s.left_reel g s.left_is s.left_head left)
      (one_head _ s.right_version s.right_reel h s.right_is s.right_head right) s.one)

  file_reel : (old new : Option (List ℕ)) (x : Contents) → MayTake i.recordings x.reel → ReadsAll old new x → IsFileReel i.recordings x.reel
  file_reel old new x taken a = record { reel = a.well_formed.reel; taken = taken; fits = a.file.fits.record' }

  other_written : WritesUnion i w v → ⊥
  other_written u =
      let one = one_head _ _ u.left.reel g (file_reel _ _ u.left u.left_taken u.read.left_read) (head_begins _ _ _ u.left (0 ∷ []) u.read.left_read.file.taken) left in
      let two = one_head _ _ u.right.reel h (file_reel _ _ u.right u.right_taken u.read.right_read) (head_begins _ _ _ u.right (0 ∷ []) u.read.right_read.file.taken) right in
      one_of u.left.reel u.right.reel one two u.read.same

  pub returns_other : (r : Result (Unit {0}) HoldFileFault) → OnOk r (WritesUnion i w v) → IfErr r (MergeIsRefused i w v) → ReturnsOther r
  returns_other (Ok x) ok err = other_written ok
  returns_other (Err f) ok err = other_refused f err

-- ---- texts of one record and size

-- the slices and origins of a holding
abbrev facts_of : Contents → Facts
facts_of h = (h.slices, h.origins)

-- what was read of a text has entries of it alone
part_of_text : (old new : Option (List ℕ)) (v : Version) (h q : Contents) → IsFileOf old v h → ReadsPart old new q → (q.reel ≡ h.reel)
    × IsWithin (facts_of q) (facts_of h)
part_of_text old new v h q file p =
    let w = p.version in
    let es = entries_text w (file_entries q) in
    let front = taken_front (file_text v h) (begun_text w q ++ p.more) new
    (subst (λ (o : Option (List ℕ)). Consumes o new (begun_text w q ++ p.more)) file.text p.taken) in
    let heads = same_head v w h.reel q.reel _ _ (record { reel = file.well_formed.reel; fits = file.fits.record' }) (record { reel = p.well_formed.reel; fits = p.record' })
    (version_of v h file.fits.stated) (version_of w q p.stated)
    (sym (text_parts v h) ∙ front.1 ∙ append_assoc (begun_text w q) p.more front.0 ∙ append_assoc (head_text w q.reel) es (p.more ++ front.0)) in
    let version = heads.0 in
    let more = front_entries w (file_entries h) (file_entries q) [] (p.more ++ front.0)
    (fitting_items w h file.well_formed (subst (λ (u : Version). IsStated u h) version file.fits.stated)) (fitting_items w q p.well_formed p.stated)
    (ap (λ (u : Version). entries_text u (file_entries h) ++ 0 ∷ []) (sym version) ∙ heads.2) in
    (sym heads.1, front_within q h p.well_formed more.0 more.1)

whole_is : (old new : Option (List ℕ)) (v : Version) (h q : Contents) → IsFileOf old v h → ReadsAll old new q → q ≡ h
whole_is old new v h q file a = grind (arith, taken_all, one_file)

file_refused : (c : Recordings) (old new : Option (List ℕ)) (v : Version) (h : Contents) (f : HoldFileFault) → MayTake c h.reel
    → IsFileOf old v h → InputRefuses c old new f → IsOutside f
file_refused c old new v h f taken file refused =
    refused_outside c v h file.well_formed taken file.fits f new (subst (λ (o : Option (List ℕ)). InputRefuses c o new f) file.text refused)

module _ (i : Inputs) (a b : Option (List ℕ)) (v w : Version) (g h : Contents) (same : AreOfOneRecord g.reel h.reel)
    (taken : MayTake i.recordings g.reel) (right_taken : MayTake i.recordings h.reel) (left : IsFileOf i.left_old v g) (right : IsFileOf i.right_old w h) where
  -- the entries so far are no more than those of both
  entries_within : EntriesPass i → file_limit < length (holding_text (united g h))
  entries_within p =
      let one = part_of_text _ _ v g p.left left p.read.left_read in
      let two = part_of_text _ _ w h p.right right p.read.right_read in
      let of_left = facts_of p.left in
      let of_right = facts_of p.right in
      let all = both (facts_of g) (facts_of h) in
      let q = reel_of_both g.reel h.reel in
      let few = shorter (reel_of_both p.left.reel p.right.reel) q (both of_left of_right) all
      (holding_both p.left.reel p.right.reel of_left of_right p.read.same p.read.left_read.well_formed p.read.right_read.well_formed)
      (holding_both g.reel h.reel (facts_of g) (facts_of h) same left.well_formed right.well_formed)
      (within-both of_left of_right all (within-trans of_left (facts_of g) all one.1 (within-left (facts_of g) (facts_of h)))
      (within-trans of_right (facts_of h) all two.1 (within-right (facts_of g) (facts_of h)))) in
      grind (arith, length-append)

  union_passes : UnionPasses i → file_limit < length (holding_text (united g h))
  union_passes u =
      let l = whole_is _ _ v g u.left left u.read.left_read in
      let r = whole_is _ _ w h u.right right u.read.right_read in
      grind arith

  heads_same : ReadsOtherHeads i → ⊥
  heads_same o =
      let head : (old : Option (List ℕ)) (u : Version) (x : Contents) → MayTake i.recordings x.reel → IsFileOf old u x
      → BeginsWithHead i.recordings old x.reel = λ old u x own file. record {
        is = record { reel = file.well_formed.reel; taken = own; fits = file.fits.record' };
        version = u;
        has = version_of u x file.fits.stated;
        rest = entries_text u (file_entries x) ++ 0 ∷ [];
        split = file.text ∙ ap Some (text_parts u x);
      } in
      let one = one_head _ o.left_version o.left g.reel o.left_is (whole_begins _ _ _ o.left_taken) (head _ v g taken left) in
      let two = one_head _ o.right_version o.right h.reel o.right_is (whole_begins _ _ _ o.right_taken) (head _ w h right_taken right) in
      o.other (subst (λ (r : Reel). AreOfOneRecord r o.right) (sym one) (subst (λ (r : Reel). AreOfOneRecord g.reel r) (sym two) same))

  abbrev Outcome : HoldFileFault → Type 0
  Outcome f = IsOutside f ⊎ ((f ≡ faults.Write) ⊎ ((f ≡ faults.TooLong) × (file_limit < length (holding_text (united g h)))))

  both_refused : (f : HoldFileFault) → BothRefuse i f → Outcome f
  both_refused faults.Write b = inr (inl refl)
  both_refused faults.OtherReel b = absurd (heads_same b)
  both_refused faults.TooLong (inl b) = inr (inr (refl, entries_within b.0))
  both_refused faults.TooLong (inr b) = inr (inr (refl, union_passes b))
  both_refused faults.Magic b = absurd b
  both_refused (faults.Setup f) b = absurd b
  both_refused faults.Truncated b = absurd b
  both_refused faults.Tag b = absurd b
  both_refused faults.Order b = absurd b
  both_refused faults.NotASlice b = absurd b
  both_refused faults.Trailing b = absurd b
  both_refused faults.Read b = absurd b
  both_refused faults.Memory b = absurd b

  refused : (f : HoldFileFault) → MergeIsRefused i a b f → Outcome f
  refused f (inl (inl (r, untaken), untouched)) = inl (file_refused i.recordings _ _ v g f taken left (head_file i.recordings _ _ f r))
  refused f (inl (inr (inl (head, r)), untouched)) = inl (file_refused i.recordings _ _ w h f right_taken right (head_file i.recordings _ _ f r))
  refused f (inl (inr (inr (is, heads)), untouched)) = absurd (heads_same heads)
  refused f (inr s) = elim s.fault [
    | inl (inl r) ↦ inl (file_refused i.recordings _ _ v g f taken left r.0)
    | inl (inr r) ↦ inl (file_refused i.recordings _ _ w h f right_taken right r.0)
    | inr b ↦ both_refused f b
  ]

  pub returns_union : (r : Result (Unit {0}) HoldFileFault) → IfErr r (MergeIsRefused i a b) → ReturnsUnion (united g h) r
  returns_union (Ok x) err = tt
  returns_union (Err f) err = refused f err

-- ---- what a refusal says, one fact at a time

-- of an input of which nothing was read
nothing_shown : (c : Recordings) (old new : Option (List ℕ)) → new ≡ old → ShowsNoFault c old new
nothing_shown c old new same = record {
  seen = [];
  taken = subst (λ (o : Option (List ℕ)). Consumes old o []) (sym same) (Consumes-nil old);
  well_formed = inl (inl (omega arith, begun_none c));
}

module _ (i : Inputs) (w v : Option (List ℕ)) where
  pub join_refuses : (f : HoldFileFault) → MergeIsRefused i w v f → MergeRefuses i f
  join_refuses f (inl (inl (r, untaken), untouched)) = inl (inl (head_file i.recordings _ _ f r, nothing_shown i.recordings _ _ untaken))
  join_refuses f (inl (inr (inl ((u, q, is, has, taken), r)), untouched)) = inl (inr (
    head_file i.recordings _ _ f r,
    record {
      seen = head_text u q;
      taken = taken;
      well_formed = inl (head_is_part u q is has);
    },
  ))
  join_refuses f (inl (inr (inr (is, heads)), untouched)) = inr (subst (BothRefuse i) (sym is) heads)
  join_refuses f (inr s) = s.fault

  pub left_first : (f : HoldFileFault) → MergeIsRefused i w v f → LeftRefusesFirst i f
  left_first f (inl (inl (r, untaken), untouched)) = inl (head_file i.recordings _ _ f r)
  left_first f (inl (inr (inl ((u, q, is, has, taken), r)), untouched)) = inr (u, q, is, whole_begins _ _ _ taken)
  left_first f (inl (inr (inr (is, heads)), untouched)) = inr (heads.left_version, heads.left, heads.left_is, whole_begins _ _ _ heads.left_taken)
  left_first f (inr s) = inr (s.left_version, s.left_reel, s.left_is, s.left_head)

  pub writes_no_end : (f : HoldFileFault) → MergeIsRefused i w v f → (f ≡ faults.Write → ⊥) → WritesNoEnd i w v
  writes_no_end f (inl (heads, untouched)) other = inl (subst (λ (o : Option (List ℕ)). Appends w o []) (sym untouched) (Appends-nil w))
  writes_no_end f (inr s) other = inr (s.no_end other)

  heads_write : HeadsRefuse i faults.Write → ⊥
  heads_write (inl (r, untaken)) = r
  heads_write (inr (inl (head, r))) = r
  heads_write (inr (inr (is, heads))) = absurd (cc)

  -- after a failed write both heads were read
  pub write_stops : MergeIsRefused i w v faults.Write → (l r : Reel) × IsFileReel i.recordings l × IsFileReel i.recordings r × StopsAtWrite i l r w v
  write_stops (inl (heads, untouched)) = absurd (heads_write heads)
  write_stops (inr s) = (s.left_reel, s.right_reel, s.left_is, s.right_is, s.write refl)

  pub left_stays : (u : Version) (h : Contents) (other : Option Contents) → IsFileOf i.left_old u h → IsFileOfSome i.right_old other → MergeIsRefused i w v faults.Write
      → StaysInReadLimit u h other i.left_old i.left_new w v
  left_stays u h other file also stops = let s = write_stops stops in
      stays_in_read_limit u s.4.left_version h other s.0 s.2 i.left_old i.left_new i.right_old w v s.4.done file also s.4.left s.4.written

  pub right_stays : (u : Version) (h : Contents) (other : Option Contents) → IsFileOf i.right_old u h → IsFileOfSome i.left_old other → MergeIsRefused i w v faults.Write
      → StaysInReadLimit u h other i.right_old i.right_new w v
  right_stays u h other file also stops = let s = write_stops stops in
      stays_in_read_limit u s.4.right_version h other s.1 s.3 i.right_old i.right_new i.left_old w v s.4.done file also s.4.right s.4.written

  pub says : (Q : HoldFileFault → Type 0) → ((f : HoldFileFault) → MergeIsRefused i w v f → Q f) → (r : Result (Unit {0}) HoldFileFault)
      → IfErr r (MergeIsRefused i w v) → IfErr r Q
  says Q each (Ok x) err = tt
  says Q each (Err f) err = each f err

  pub says_write : (Q : Type 0) → (MergeIsRefused i w v faults.Write → Q) → (r : Result (Unit {0}) HoldFileFault) → IfErr r (MergeIsRefused i w v)
      → IsErrOf r faults.Write → Q
  says_write Q each (Ok x) err is = absurd (search rules)
  says_write Q each (Err f) err is = grind arith

  -- a refusal after the heads
  pub after_heads : (r : Result (Unit {0}) HoldFileFault) → IfErr r (Stops i w v) → IfErr r (MergeIsRefused i w v)
  after_heads (Ok x) err = tt
  after_heads (Err f) err = inr err

  pub never_other : (Q : Type 0) (r : Result (Unit {0}) HoldFileFault) → IfErr r (Stops i w v) → IsErrOf r faults.OtherReel → Q
  never_other Q (Ok x) err is = absurd (search rules)
  never_other Q (Err f) err is = grind arith

  -- no more was written than the limit
  pub wrote_most : (r : Result (Unit {0}) HoldFileFault) → OnOk r (WritesAtMost w v file_limit) → IfErr r (MergeIsRefused i w v) → WritesAtMost w v file_limit
  wrote_most (Ok x) ok err = ok
  wrote_most (Err f) ok (inl (heads, untouched)) = record {
    done = [];
    written = subst (λ (o : Option (List ℕ)). Appends w o []) (sym untouched) (Appends-nil w);
    few = omega arith;
  }
  wrote_most (Err f) ok (inr s) = s.most

-- ---- what a refusal after the heads leaves of the sink

begun_long : (h : Contents) → 0 < length (begun_text Second h)
begun_long h = omega (arith, length-append (head_text Second h.reel) (entries_text Second (file_entries h)), length-head_text Second h.reel)

-- the head was written to it, unless it is the fault
pub touched_after : {W : Type 0} (log : W → WriteLog) (i : Inputs) (old new : W) (a b c d : ReadLog) (from to : ℕ × ℕ) (r : Result (Unit {0}) HoldFileFault)
    → IfErr r (Stops i (log old).contents (log new).contents) → MergeWent r (devices a c (log old)) (devices b d (log new)) from to
    → IfErr r (λ f. (f ≡ faults.Write) ⊎ WritesIfTouched log old new)
touched_after log i old new a b c d from to (Ok x) stops went = tt
touched_after log i old new a b c d from to (Err faults.Write) stops went = inl refl
touched_after log i old new a b c d from to (Err f) stops went =
    let e = stops.no_end (λ is. absurd (cc)) in
    inr (inr (
      begun_text Second (united e.left e.right),
      begun_long (united e.left e.right),
      record { bytes' = e.written; same = went.few.same; tries' = went.sink' },
    ))
