-- How far the text of a holding was read, by the entries that lie whole in what was written.
use Rattle.ffv1_hold.proofs.Common.{◌≡◌, ℕ, suc, ◌+◌, ◌<◌, ◌≤◌, true, List, [], ◌∷◌, ◌++◌, length, map, get_or, drop, Option, Some, None, IfSome, refl, sym, ap, ◌∙◌, subst, inl, inr, arith, append_assoc, append-nil, length-append, ◌⊎◌, AllByRecursion, Consumes, Appends, Entry, entries_total, Reel, IsReel, Contents, IsHolding, digests_of, Version, Second, FileEntry, head_text, entry_text, body_text, entries_text, begun_text, file_entries, file_text, IsStated, IsFileEntryOf, next_text, IsFileReel, LiesWhole, AreAllDigests, IsReadLimitOf, IsFileOf, IsFileOfSome, StaysInReadLimit, Facts, part, ReadsToNext, contains_item, Recordings}
use Rattle.ffv1_holding.specs.Sets as set
use Rattle.ffv1_hold.proofs.NumberTexts.{no_tag, rest_same}
use Rattle.ffv1_hold.proofs.BodyTexts.{same_body}
use Rattle.ffv1_hold.proofs.HeldEntries.{version_of}
use Rattle.ffv1_hold.proofs.TextLaws.{short_reel, entries_after, none_after, AreFitting, fitting_all, fitting_items, same_head, text_parts}
use Rattle.ffv1_hold.proofs.Slots.{entries_text-split, entries_text-cons, entries_text-none}
use Rattle.ffv1_hold.proofs.Returned.{taken_front}
use Rattle.ffv1_hold.proofs.TileTexts.{own}
use Rattle.ffv1_hold.proofs.MergeFacts.{IsWithin, entry_split}
use Rattle.ffv1_hold.proofs.UnionReels.{IsInFrames}

-- ---- lists that are split in two ways

-- what holds of all of a front, and not of an item, puts the item after it
pub after_all : (P : FileEntry → Type 0) (fs rs before : List FileEntry) (first : FileEntry) (after : List FileEntry) → fs ++ rs ≡ before ++ first ∷ after
    → AllByRecursion P fs → ¬ P first → (middle : List FileEntry) × (before ≡ fs ++ middle) × (rs ≡ middle ++ first ∷ after)
after_all P [] rs before first after same all none = (before, refl, same)
after_all P (f ∷ fs) rs [] first after same all none = absurd (none (subst P (ap (λ xs. get_or xs 0 f) same) all.0))
after_all P (f ∷ fs) rs (b ∷ before) first after same all none = grind (arith, after_all P fs rs before first after (ap (drop 1) same) all.1 none)

-- ---- entries that begin a text

pub fitting_front : (v : Version) (xs ys : List FileEntry) → AreFitting v (xs ++ ys) → AreFitting v xs
fitting_front v [] ys fit = tt
fitting_front v (x ∷ xs) ys fit = (fit.0, fitting_front v xs ys fit.1)

pub fitting_back : (v : Version) (xs ys : List FileEntry) → AreFitting v (xs ++ ys) → AreFitting v ys
fitting_back v [] ys fit = fit
fitting_back v (x ∷ xs) ys fit = fitting_back v xs ys fit.1

module _ (v : Version) where
  -- entries that begin what entries and the end tag spell are the first of those
  pub front_entries : (es fs : List FileEntry) (x y : List ℕ) → AreFitting v es → AreFitting v fs → entries_text v es ++ 0 ∷ x ≡ entries_text v fs ++ y
      → (rest : List FileEntry) × (es ≡ fs ++ rest) × (entries_text v rest ++ 0 ∷ x ≡ y)
  front_entries es [] x y es_fit fs_fit same = (es, refl, same ∙ none_after v y)
  front_entries [] (f ∷ fs) x y es_fit fs_fit same = grind (arith, no_tag, none_after, entries_after)
  front_entries (e ∷ es) (f ∷ fs) x y es_fit fs_fit same =
      let bodies = rest_same (body_text v e ++ (entries_text v es ++ 0 ∷ x)) (body_text v f ++ (entries_text v fs ++ y)) 1 1
      (sym (entries_after v e es (0 ∷ x)) ∙ same ∙ entries_after v f fs y) in
      let one = same_body v e f (entries_text v es ++ 0 ∷ x) (entries_text v fs ++ y) es_fit.0 fs_fit.0 bodies in
      let more = front_entries es fs x y es_fit.1 fs_fit.1 one.1 in
      (more.0, (λ i. one.0 i ∷ more.1 i), more.2)

-- each entry of facts lies whole in the text of others that they are within, where these give its slice all digests
module _ (r q : Reel) (in_r : IsInFrames q r) (f g : Facts) (is : IsHolding (part q g)) (stated : IsStated Second (part q g)) (within : IsWithin f g) (rest : List ℕ)
    (AreAll : FileEntry → List (List ℕ) → Type 0)
    (all : (e : Entry) → set.contains f.0 e ≡ true → AreAll (own (part r f) e) (digests_of (part q g) e)) where
  whole_split : (a b c : List ℕ) → (head_text Second q ++ (a ++ b ++ c)) ++ rest ≡ head_text Second q ++ a ++ b ++ (c ++ rest)
  whole_split a b c = grind (arith, append_assoc)

  lies_whole : (e : Entry) → set.contains f.0 e ≡ true → LiesWhole AreAll r (begun_text Second (part q g) ++ rest) (own (part r f) e)
  lies_whole e held =
      let split = entry_split (part q g) e (within.slices e held) in
      let before = split.0 in
      let after = split.1 in
      let whole = own (part q g) e in
      let fit = subst (AreFitting Second) split.2 (fitting_items Second (part q g) is stated) in
      let es = entries_text Second before in
      let text : entries_text Second (file_entries (part q g)) ≡ es ++ entry_text Second whole ++ entries_text Second after =
      cc (entries_text-split Second before (whole ∷ after), entries_text-cons Second whole after, append_assoc es (entry_text Second whole) (entries_text Second after)) in
      record {
        frames = in_r.0;
        before = before;
        digests = digests_of (part q g) e;
        rest = entries_text Second after ++ rest;
        entries = fitting_front Second before (whole ∷ after) fit;
        entry = (fitting_back Second before (whole ∷ after) fit).0;
        all = all e held;
        split = ap (λ t. (head_text Second q ++ t) ++ rest) text ∙ whole_split (entries_text Second before) (entry_text Second whole) (entries_text Second after)
            ∙ ap (λ (x : Reel). head_text Second x ++ es ++ entry_text Second whole ++ (entries_text Second after ++ rest)) in_r.1;
      }

  pub all_lie_whole : AllByRecursion (LiesWhole AreAll r (begun_text Second (part q g) ++ rest)) (file_entries (part r f))
  unfolding file_entries
  all_lie_whole = each (set.items f.0) (λ i d lt. contains_item entries_total f.0 i d lt)
    where
      each : (xs : List Entry) → ((i : ℕ) (d : Entry) → i < length xs → set.contains f.0 (get_or xs i d) ≡ true)
          → AllByRecursion (LiesWhole AreAll r (begun_text Second (part q g) ++ rest)) (map (own (part r f)) xs)
      each [] held = tt
      each (x ∷ xs) held = (lies_whole x (held 0 x (omega arith)), each xs (λ i d lt. held (suc i) d (omega arith)))

-- ---- the read_limit

module _ (v : Version) where
  text-cons : (e : FileEntry) (es : List FileEntry) → length (entries_text v (e ∷ es)) ≡ length (entry_text v e) + length (entries_text v es)
  text-cons e es = ap length (entries_text-cons v e es) ∙ length-append (entry_text v e) (entries_text v es)

  next_before : (x : FileEntry) (rest middle : List FileEntry) (first : FileEntry) (after : List FileEntry) → x ∷ rest ≡ middle ++ first ∷ after
      → length (entry_text v x) ≤ length (entries_text v (middle ++ first ∷ []))
  next_before x rest [] first after same = omega (arith, text-cons first [], ap (λ xs. length (entry_text v (get_or xs 0 x))) same)
  next_before x rest (m ∷ middle) first after same = grind (arith, text-cons)

  -- after the end tag no entry stands
  end_before : (rs : List FileEntry) (rest : List ℕ) (middle : List FileEntry) (first : FileEntry) (after : List FileEntry) → rs ≡ middle ++ first ∷ after
      → entries_text v rs ++ 0 ∷ [] ≡ 0 ∷ rest → ⊥
  end_before [] rest middle first after split same = omega (arith, ap length split, length-append middle (first ∷ after))
  end_before (g ∷ gs) rest middle first after split same = grind (arith, no_tag, entries_after)

  -- what was read after whole entries ends with the first that is open
  ends_before : (r : Reel) → IsReel r → (rs : List FileEntry) → AreFitting v rs → (middle : List FileEntry) (first : FileEntry) (after : List FileEntry)
      → rs ≡ middle ++ first ∷ after
      → (more rest : List ℕ) → entries_text v rs ++ 0 ∷ [] ≡ more ++ rest → (more ≡ []) ⊎ ((next : Option FileEntry) × (more ≡ next_text v next)
      × IfSome next (IsFileEntryOf v r.rules))
      → length more ≤ length (entries_text v (middle ++ first ∷ []))
  ends_before r is rs fit middle first after split more rest same (inl none) = omega (arith, ap length none)
  ends_before r is rs fit middle first after split more rest same (inr (None, is_end, entry)) = grind (arith, end_before)
  ends_before r is rs fit middle first after split more rest same (inr (Some x, is_next, entry)) =
      let one = ap (λ t. t ++ rest) (entries_text-cons v x [] ∙ ap (λ t. entry_text v x ++ t) (entries_text-none v) ∙ append-nil (entry_text v x)) in
      let front = front_entries v rs (x ∷ []) [] rest fit (fitting_all v r is (x ∷ []) (entry, tt)) (same ∙ ap (λ m. m ++ rest) is_next ∙ sym one) in
      let few = next_before x front.0 middle first after (sym front.1 ∙ split) in
      omega (arith, few, ap length is_next)

-- What is left of a text of a holding after what was read of it: the entries after those that were read, and the end tag.
pub record RestOf (v w : Version) (h : Contents) (r : Reel) (f : Facts) (more : List ℕ) : Type 0 where
  pub same_version : v ≡ w
  pub same_reel : h.reel ≡ r
  pub rest : List FileEntry
  pub bytes : List ℕ
  pub split : file_entries h ≡ file_entries (part r f) ++ rest
  pub fits : AreFitting w rest
  pub text : entries_text w rest ++ 0 ∷ [] ≡ more ++ bytes
  pub front : file_text v h ≡ (begun_text w (part r f) ++ more) ++ bytes

module _ {c : Recordings} (v w : Version) (h : Contents) (r : Reel) (is : IsFileReel c r) (old new : Option (List ℕ)) (file : IsFileOf old v h) (f : Facts) (more : List ℕ)
    (well_formed : IsHolding (part r f)) (stated : IsStated w (part r f)) (taken : Consumes old new (begun_text w (part r f) ++ more)) where
  abbrev some : Contents
  some = part r f

  front : (rest : List ℕ) × (file_text v h ≡ (begun_text w some ++ more) ++ rest)
  front = grind (arith, taken_front)

  heads : (v ≡ w) × (h.reel ≡ r) × (entries_text v (file_entries h) ++ 0 ∷ [] ≡ entries_text w (file_entries some) ++ (more ++ front.0))
  heads = same_head v w h.reel r _ _ (record { reel = file.well_formed.reel; fits = file.fits.record' }) (short_reel r is)
      (version_of v h file.fits.stated) (version_of w some stated)
      (sym (text_parts v h) ∙ front.1 ∙ append_assoc (begun_text w some) more front.0
      ∙ append_assoc (head_text w r) (entries_text w (file_entries some)) (more ++ front.0))

  all_fit : AreFitting w (file_entries h)
  all_fit = subst (λ (u : Version). AreFitting u (file_entries h)) heads.0 (fitting_items v h file.well_formed file.fits.stated)

  apart : (rest : List FileEntry) × (file_entries h ≡ file_entries some ++ rest) × (entries_text w rest ++ 0 ∷ [] ≡ more ++ front.0)
  apart = front_entries w (file_entries h) (file_entries some) [] (more ++ front.0) all_fit (fitting_items w some well_formed stated)
      (ap (λ (u : Version). entries_text u (file_entries h) ++ 0 ∷ []) (sym heads.0) ∙ heads.2)

  pub rest_entries : RestOf v w h r f more
  rest_entries = record {
    same_version = heads.0;
    same_reel = heads.1;
    rest = apart.0;
    bytes = front.0;
    split = apart.1;
    fits = fitting_back w (file_entries some) apart.0 (subst (AreFitting w) apart.1 all_fit);
    text = apart.2;
    front = front.1;
  }

-- The text of a holding was read no further than its read_limit.
module _ {c : Recordings} (v w : Version) (h : Contents) (other : Option Contents) (r : Reel) (is : IsFileReel c r) (old new beside a b : Option (List ℕ)) (done : List ℕ)
    (file : IsFileOf old v h) (also : IsFileOfSome beside other) (s : ReadsToNext w r old new beside done) where
  abbrev read : Contents
  read = part r s.facts

  left : RestOf v w h r s.facts s.more
  left = rest_entries v w h r is old new file s.facts s.more s.well_formed s.stated s.taken

  abbrev AreWhole : List FileEntry → Type 0
  AreWhole = AllByRecursion (LiesWhole (AreAllDigests h other) h.reel done)

  all_whole : AreWhole (file_entries read)
  all_whole = subst (λ (q : Reel). AllByRecursion (LiesWhole (AreAllDigests h other) q done) (file_entries read)) (sym left.same_reel)
      (s.whole v h other file also)

  within : (read_limit : ℕ) → IsReadLimitOf v h other done read_limit → length (begun_text w read ++ s.more) ≤ read_limit
  within read_limit (inr (whole, is_read_limit)) = omega (arith, is_read_limit, ap length left.front, length-append (begun_text w read ++ s.more) left.bytes)
  within read_limit (inl o) =
      let es = entries_text w (file_entries read) in
      let split = after_all (LiesWhole (AreAllDigests h other) h.reel done) (file_entries read) left.rest o.before o.first o.after
      (sym left.split ∙ o.split) all_whole o.not_whole in
      let few = ends_before w r is.reel left.rest left.fits split.0 o.first o.after split.2 s.more left.bytes left.text s.next in
      let text : entries_text w (o.before ++ o.first ∷ []) ≡ es ++ entries_text w (split.0 ++ o.first ∷ []) =
      ap (λ xs. entries_text w (xs ++ o.first ∷ [])) split.1 ∙ ap (entries_text w) (append_assoc (file_entries read) split.0 (o.first ∷ []))
      ∙ entries_text-split w (file_entries read) (split.0 ++ o.first ∷ []) in
      let version = ap (λ (u : Version). length (head_text u h.reel ++ entries_text u (o.before ++ o.first ∷ []))) left.same_version in
      let head = ap (λ (q : Reel). length (head_text w q)) left.same_reel in
      grind (arith, length-append)

  pub stays_in_read_limit : Appends a b done → StaysInReadLimit v h other old new a b
  stays_in_read_limit written = record { done = done; written = written; seen = begun_text w read ++ s.more; taken = s.taken; within = within }
