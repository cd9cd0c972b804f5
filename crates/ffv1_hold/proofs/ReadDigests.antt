-- The digests that a text gives a slice, by what was read of it: where the next entry follows the slice, the entries that were read give
-- all of them.
use Rattle.ffv1_hold.proofs.Common.{◌≡◌, ℕ, suc, ◌<◌, cond, Bool, true, false, ◌||◌, List, [], ◌∷◌, ◌++◌, length, map, get_or, Option, Some, None, IfSome, refl, sym, ap, ◌∙◌, subst, inr, arith, append-nil, true≢false, list_any, Consumes, is_eq, eq_by_cmp, Less, false_from_ne_true, Entry, entry_cmp, entries_total, origins_total, origins_antisymmetric, IsRising, Reel, digests_in, Contents, IsHolding, digests_of, joined, rising_rest, items-rising, or_cases, Version, Second, FileEntry, entry_text, entries_text, begun_text, file_entries, IsStated, IsFileEntryOf, file_entry_cmp, next_text, IsFileReel, AreAllDigests, IsFileOf, IsFileOfSome, ReadsAll, Facts, part, both, IsReadUpTo, FollowsAll, ReadsToNext, Recordings}
use Rattle.ffv1_holding.specs.Sets as set
use Rattle.ffv1_hold.proofs.DigestSets.{has, entry_tie, has-digests_in, digests_rise, same_digests}
use Rattle.ffv1_hold.proofs.HeldEntries.{above_all, entries_rise}
use Rattle.ffv1_hold.proofs.NumberTexts.{no_tag}
use Rattle.ffv1_hold.proofs.TextLaws.{entries_after, AreFitting, fitting_all}
use Rattle.ffv1_hold.proofs.Slots.{entries_text-cons, entries_text-none}
use Rattle.ffv1_hold.proofs.TileTexts.{own}
use Rattle.ffv1_hold.proofs.MergeFacts.{IsWithin, own_digests}
use Rattle.ffv1_hold.proofs.UnionReels.{IsInFrames}
use Rattle.ffv1_hold.proofs.MergeReadLimits.{front_entries, rest_entries, all_lie_whole}

-- ---- the digests that entries give

-- those of the entry of this slice, and none where there is no such entry
abbrev pub stated_in : List FileEntry → Entry → List (List ℕ)
stated_in [] e = []
stated_in (x ∷ xs) e = cond (eq_by_cmp entry_cmp e x.0) x.1 (stated_in xs e)

stated_own : (h : Contents) (e : Entry) (xs : List Entry) → stated_in (map (own h) xs) e ≡ cond (list_any (eq_by_cmp entry_cmp e) xs) (digests_of h e) []
stated_own h e [] = refl
stated_own h e (x ∷ xs) = elim (eq_by_cmp entry_cmp e x) as (λ b. eq_by_cmp entry_cmp e x ≡ b
    → cond b (digests_of h x) (stated_in (map (own h) xs) e) ≡ cond (b || list_any (eq_by_cmp entry_cmp e) xs) (digests_of h e) []) [
      | true ↦ λ tie. ap (digests_of h) (sym (entry_tie e x tie))
      | false ↦ λ none. stated_own h e xs
    ] refl

-- a slice that is not held has no digests
none_stated : (h : Contents) → IsHolding h → (e : Entry) → set.contains h.slices e ≡ false → digests_of h e ≡ []
none_stated h is e none =
    cc (same_digests (digests_of h e) [] (digests_rise h.origins e) (λ i j d lt in_range. absurd (omega arith)) (λ d. has-digests_in h.origins e d ∙ false_from_ne_true (set.contains h.origins (e, d)) (λ there. true≢false (sym (is.origins_held (e, d) there) ∙ none))))

if_held : (b : Bool) (ds : List (List ℕ)) → (b ≡ false → ds ≡ []) → cond b ds [] ≡ ds
if_held true ds none = refl
if_held false ds none = sym (none refl)

stated_digests : (h : Contents) → IsHolding h → (e : Entry) → stated_in (file_entries h) e ≡ digests_of h e
unfolding file_entries
stated_digests h is e =
    stated_own h e (set.items h.slices)
    ∙ if_held (list_any (eq_by_cmp entry_cmp e) (set.items h.slices)) (digests_of h e)
    (λ none. none_stated h is e (set.contains-items h.slices e ∙ none))

stated_front : (xs rest : List FileEntry) (e : Entry) → stated_in rest e ≡ [] → stated_in (xs ++ rest) e ≡ stated_in xs e
stated_front [] rest e none = none
stated_front (x ∷ xs) rest e none = ap (cond (eq_by_cmp entry_cmp e x.0) x.1) (stated_front xs rest e none)

-- entries that all follow the slice give none
stated_above : (x : FileEntry) (rest : List FileEntry) (e : Entry) → IsRising file_entry_cmp (x ∷ rest) → entry_cmp e x.0 ≡ Less → stated_in (x ∷ rest) e ≡ []
stated_above x [] e up less = ap (λ o. cond (is_eq o) x.1 []) less
stated_above x (y ∷ rest) e up less =
    cc (stated_above y rest e (rising_rest file_entry_cmp x (y ∷ rest) up) (entries_total.trans e x.0 y.0 less (up 0 1 x (omega arith) (omega arith))))

rising_back : (xs rest : List FileEntry) → IsRising file_entry_cmp (xs ++ rest) → IsRising file_entry_cmp rest
rising_back [] rest up = up
rising_back (x ∷ xs) rest up = rising_back xs rest (rising_rest file_entry_cmp x (xs ++ rest) up)

-- ---- what was read of a text

-- An input was read up to these entries, and after them the next one, or the end.
pub record IsReadTo (old new : Option (List ℕ)) (v : Version) (r : Reel) (f : Facts) (next : Option FileEntry) : Type 0 where
  pub well_formed : IsHolding (part r f)
  pub stated : IsStated v (part r f)
  pub entry : IfSome next (IsFileEntryOf v r.rules)
  pub taken : Consumes old new (begun_text v (part r f) ++ next_text v next)

pub held_read : (old new : Option (List ℕ)) (v : Version) (r : Reel) (f : Facts) (place : ℕ) (next : Option FileEntry) → IsReadUpTo old new v r f place next
    → IsReadTo old new v r f next
held_read old new v r f place next h = record { well_formed = h.well_formed; stated = h.stated; entry = h.entry; taken = h.text.taken }

pub all_read_to : (old new : Option (List ℕ)) (r : Reel) (f : Facts) (a : ReadsAll old new (part r f)) → IsReadTo old new a.file.version r f None
all_read_to old new r f a = record { well_formed = a.well_formed; stated = a.file.fits.stated; entry = tt; taken = a.file.taken }

-- what follows the entries that were read, the next one and others, gives no digests of a slice before it
rest_states_none : {c : Recordings} (w : Version) (r : Reel) → IsFileReel c r → (e : Entry) (rest : List FileEntry) (bytes : List ℕ) (next : Option FileEntry)
    → IfSome next (IsFileEntryOf w r.rules) → IfSome next (λ n. entry_cmp e n.0 ≡ Less) → AreFitting w rest → IsRising file_entry_cmp rest
    → entries_text w rest ++ 0 ∷ [] ≡ next_text w next ++ bytes → stated_in rest e ≡ []
rest_states_none w r is e [] bytes None entry below fit up same = refl
rest_states_none w r is e (g ∷ gs) bytes None entry below fit up same = grind (arith, no_tag, entries_after)
rest_states_none w r is e rest bytes (Some x) entry below fit up same =
    let one = ap (λ t. t ++ bytes) (entries_text-cons w x [] ∙ ap (λ t. entry_text w x ++ t) (entries_text-none w) ∙ append-nil (entry_text w x)) in
    let front = front_entries w rest (x ∷ []) [] bytes fit (fitting_all w r is.reel (x ∷ []) (entry, tt)) (same ∙ sym one) in
    cc (stated_above x front.0 e (subst (IsRising file_entry_cmp) front.1 up) below)

-- the entries that were read give all digests of a slice before the next one
digests_read : {c : Recordings} (v w : Version) (h : Contents) (r : Reel) (is : IsFileReel c r) (old new : Option (List ℕ)) (f : Facts) (next : Option FileEntry) → IsFileOf old v h
    → IsReadTo old new w r f next → (e : Entry) → IfSome next (λ n. entry_cmp e n.0 ≡ Less) → digests_of h e ≡ digests_of (part r f) e
digests_read v w h r is old new f next file read e below =
    let some = file_entries (part r f) in
    let left = rest_entries v w h r is old new file f (next_text w next) read.well_formed read.stated read.taken in
    let up = rising_back some left.rest (subst (IsRising file_entry_cmp) left.split (entries_rise h)) in
    sym (stated_digests h file.well_formed e) ∙ ap (λ (es : List FileEntry). stated_in es e) left.split
    ∙ stated_front some left.rest e (rest_states_none w r is e left.rest left.bytes next read.entry below left.fits up left.text)
    ∙ stated_digests (part r f) read.well_formed e

-- ---- both

-- what is so of each entry is so of one that is held
any_each : (P : Entry → Type 0) (xs : List Entry) → ((i : ℕ) (d : Entry) → i < length xs → P (get_or xs i d)) → (q : Entry)
    → list_any (eq_by_cmp entry_cmp q) xs ≡ true → P q
any_each P [] each q there = absurd (true≢false (sym there))
any_each P (x ∷ xs) each q there =
    or_cases (eq_by_cmp entry_cmp q x) (list_any (eq_by_cmp entry_cmp q) xs) (P q) there (λ tie. subst P (sym (entry_tie q x tie)) (each 0 x (omega arith)))
    (any_each P xs (λ i d lt. each (suc i) d (omega arith)) q)

-- what follows all facts follows each slice
pub after_each : (r : Reel) (all : Facts) (next : Option FileEntry) → FollowsAll r all next → (e : Entry) → set.contains all.0 e ≡ true
    → IfSome next (λ n. entry_cmp e n.0 ≡ Less)
unfolding file_entries
after_each r all None after e held = tt
after_each r all (Some n) after e held =
    cc (any_each (λ q. entry_cmp q n.0 ≡ Less) (set.items all.0) (above_all (digests_of (part r all)) (set.items all.0) n.0 (items-rising all.0) after) e (sym (set.contains-items all.0 e) ∙ held))

-- the digests of both are those of what was read of both
pub digests_both : (r : Reel) (f g : Facts) (h k : Contents) (e : Entry) → digests_of h e ≡ digests_of (part r f) e → digests_of k e ≡ digests_of (part r g) e
    → digests_of (part r (both f g)) e ≡ digests_of (joined h k) e
digests_both r f g h k e left right =
    same_digests (digests_of (part r (both f g)) e) (digests_of (joined h k) e) (digests_rise (set.union f.1 g.1) e)
    (digests_rise (set.union h.origins k.origins) e) (λ d.
    has-digests_in (set.union f.1 g.1) e d ∙ set.contains-union origins_total f.1 g.1 (e, d)
    ∙ (λ i. held f h left d i || held g k right d i)
    ∙ sym (has-digests_in (set.union h.origins k.origins) e d ∙ set.contains-union origins_total h.origins k.origins (e, d)))
  where
    held : (x : Facts) (c : Contents) → digests_of c e ≡ digests_of (part r x) e → (d : List ℕ) → set.contains x.1 (e, d) ≡ set.contains c.origins (e, d)
    held x c same d = sym (has-digests_in x.1 e d) ∙ ap (λ ds. has ds d) (sym same) ∙ has-digests_in c.origins e d

pub digests-swap : (h k : Contents) (e : Entry) → digests_of (joined h k) e ≡ digests_of (joined k h) e
digests-swap h k e = ap (λ o. digests_in o e) (set.union_comm origins_total origins_antisymmetric h.origins k.origins)

-- ---- an input beside another

-- All facts give a slice the digests of both inputs, of which one was read to the facts f, and the other one to g.
abbrev pub GiveBoth : Reel → (f g all : Facts) → Type 0
GiveBoth r f g all = (h k : Contents) (e : Entry) → digests_of h e ≡ digests_of (part r f) e → digests_of k e ≡ digests_of (part r g) e
    → digests_of (part r all) e ≡ digests_of (joined h k) e

pub left_gives : (r : Reel) (f g : Facts) → GiveBoth r f g (both f g)
left_gives r f g h k e left right = digests_both r f g h k e left right

pub right_gives : (r : Reel) (f g : Facts) → GiveBoth r g f (both f g)
right_gives r f g h k e right left = digests_both r f g k h e left right ∙ digests-swap k h e

module _ {c : Recordings} (r k q : Reel) (in_r : IsInFrames q r) (is : IsFileReel c r) (also_is : IsFileReel c k) (old new beside now : Option (List ℕ))
    (v w : Version) (f g all : Facts) (next also : Option FileEntry) (read : IsReadTo old new v r f next) (other_read : IsReadTo beside now w k g also)
    (inside : IsWithin f all) (follows : FollowsAll q all next) (also_follows : FollowsAll q all also) (give : GiveBoth q f g all) where
  are_all : (u : Version) (h : Contents) (other : Option Contents) → IsFileOf old u h → IsFileOfSome beside other → (e : Entry) → set.contains f.0 e ≡ true
      → AreAllDigests h other (own (part r f) e) (digests_of (part q all) e)
  are_all u h None file other_file e held = own_digests r f all inside e
  are_all u h (Some other) file other_file e held =
      let there = inside.slices e held in
      cc (give h other e (digests_read u v h r is old new f next file read e (after_each q all next follows e there)) (digests_read other_file.0 w other k also_is beside now g also other_file.1 other_read e (after_each q all also also_follows e there)))

  pub stays_beside : IsHolding (part q all) → IsStated Second (part q all) → (rest : List ℕ) → ReadsToNext v r old new beside (begun_text Second (part q all) ++ rest)
  stays_beside well_formed stated rest = record {
    facts = f;
    well_formed = read.well_formed;
    stated = read.stated;
    whole = λ u h other file other_file. all_lie_whole r q in_r f all well_formed stated inside rest (AreAllDigests h other) (are_all u h other file other_file);
    more = next_text v next;
    next = inr (next, refl, read.entry);
    taken = read.taken;
  }
