-- What one entry more does to the union of what is held of two inputs and to its text, and how long the text of more is.
use Rattle.ffv1_hold.proofs.Common.{◌≡◌, ℕ, suc, ◌+◌, ◌*◌, ◌≤◌, Bool, true, false, ◌||◌, ◌&&◌, List, [], ◌∷◌, ◌++◌, length, map, Some, Contains, refl, sym, ap, ◌∙◌, subst, arith, append_assoc, true≢false, AllByRecursion, list_any, eq_by_cmp, is_eq, tied_itself, map-append, or_left, or_right, Entry, Origin, with_each, bytes_cmp, entry_cmp, origin_cmp, bytes_total, bytes_antisymmetric, entries_total, entries_antisymmetric, origins_total, origins_antisymmetric, Reel, digests_in, Contents, IsHolding, AreDigests, digests_of, union-insert, insert_present, items-from_list, or_cases, Version, Second, FileEntry, head_text, entry_text, entries_text, begun_text, file_entries, last_of, Follows, Facts, part, with_file_entry, both, digests_union, with_digests, entries_length}
use Rattle.ffv1_holding.specs.Sets as set
use Rattle.ffv1_hold.proofs.DigestSets.{has, entry_tie, digest_tie, has-digests_in, has-with_each, digests_rise}
use Rattle.ffv1_hold.proofs.DigestUnions.{has-union, union-alone}
use Rattle.ffv1_hold.proofs.HeldEntries.{entries-with_entry, last-with_entry}
use Rattle.ffv1_hold.proofs.Slots.{entries_text-push}
use Rattle.ffv1_hold.proofs.TileTexts.{own, length-entries_text}
use Rattle.ffv1_hold.proofs.Weights.{weight, weight-pointwise, weight-ones, weight-more}

-- ---- more facts

-- what one has, the other has too
pub record IsWithin (f g : Facts) : Type 0 where
  pub slices : (q : Entry) → set.contains f.0 q ≡ true → set.contains g.0 q ≡ true
  pub origins : (q : Origin) → set.contains f.1 q ≡ true → set.contains g.1 q ≡ true

pub within-left : (f g : Facts) → IsWithin f (both f g)
within-left f g = record {
  slices = λ q there. set.contains-union entries_total f.0 g.0 q ∙ or_left _ _ there;
  origins = λ q there. set.contains-union origins_total f.1 g.1 q ∙ or_left _ _ there;
}

pub within-right : (f g : Facts) → IsWithin g (both f g)
within-right f g = record {
  slices = λ q there. set.contains-union entries_total f.0 g.0 q ∙ or_right _ _ there;
  origins = λ q there. set.contains-union origins_total f.1 g.1 q ∙ or_right _ _ there;
}

-- what both are within has their union
pub within-both : (f g k : Facts) → IsWithin f k → IsWithin g k → IsWithin (both f g) k
within-both f g k left right = record {
  slices = λ q there. or_cases (set.contains f.0 q) (set.contains g.0 q) (set.contains k.0 q ≡ true)
      (sym (set.contains-union entries_total f.0 g.0 q) ∙ there) (left.slices q) (right.slices q);
  origins = λ q there. or_cases (set.contains f.1 q) (set.contains g.1 q) (set.contains k.1 q ≡ true)
      (sym (set.contains-union origins_total f.1 g.1 q) ∙ there) (left.origins q) (right.origins q);
}

pub within-trans : (f g k : Facts) → IsWithin f g → IsWithin g k → IsWithin f k
within-trans f g k a b = record { slices = λ q there. b.slices q (a.slices q there); origins = λ q there. b.origins q (a.origins q there) }

-- ---- unions

insert-left : (s t : set.SetOf entry_cmp) (e : Entry) → set.union (set.insert s e) t ≡ set.insert (set.union s t) e
insert-left s t e =
    set.union_comm entries_total entries_antisymmetric (set.insert s e) t ∙ union-insert entries_total entries_antisymmetric t s e
    ∙ ap (λ x. set.insert x e) (set.union_comm entries_total entries_antisymmetric t s)

insert-right : (s t : set.SetOf entry_cmp) (e : Entry) → set.union s (set.insert t e) ≡ set.insert (set.union s t) e
insert-right s t e = union-insert entries_total entries_antisymmetric s t e

insert-both : (s t : set.SetOf entry_cmp) (e : Entry) → set.union (set.insert s e) (set.insert t e) ≡ set.insert (set.union s t) e
insert-both s t e =
    insert-right (set.insert s e) t e ∙ ap (λ x. set.insert x e) (insert-left s t e)
    ∙ insert_present entries_total entries_antisymmetric (set.insert (set.union s t) e) e
    (set.contains-insert entries_total (set.union s t) e e ∙ or_left _ _ (ap is_eq (tied_itself entries_total e)))

alone : (e : FileEntry) → set.SetOf origin_cmp
alone e = set.from_list (with_each e.0 e.1)

union-swap : (a b c : set.SetOf origin_cmp) → set.union (set.union a b) c ≡ set.union (set.union a c) b
union-swap a b c =
    set.union_assoc origins_total origins_antisymmetric a b c ∙ ap (set.union a) (set.union_comm origins_total origins_antisymmetric b c)
    ∙ sym (set.union_assoc origins_total origins_antisymmetric a c b)

pub both-left : (f g : Facts) (e : FileEntry) → both (with_file_entry f e) g ≡ with_file_entry (both f g) e
both-left f g e = λ i. (insert-left f.0 g.0 e.0 i, union-swap f.1 (set.from_list (with_each e.0 e.1)) g.1 i)

pub both-right : (f g : Facts) (e : FileEntry) → both f (with_file_entry g e) ≡ with_file_entry (both f g) e
both-right f g e =
    λ i. (insert-right f.0 g.0 e.0 i, sym (set.union_assoc origins_total origins_antisymmetric f.1 g.1 (set.from_list (with_each e.0 e.1))) i)

-- digests of one slice in both
shared : (a b t u v : Bool) → ((a || (t && u)) || (b || (t && v))) ≡ ((a || b) || (t && (u || v)))
shared true b t u v = refl
shared false true true true v = refl
shared false true true false v = refl
shared false true false u v = refl
shared false false true u v = refl
shared false false false u v = refl

origins-both : (s t : set.SetOf origin_cmp) (e : Entry) (ds es : List (List ℕ))
    → set.union (set.union s (set.from_list (with_each e ds))) (set.union t (set.from_list (with_each e es)))
    ≡ set.union (set.union s t) (set.from_list (with_each e (digests_union ds es)))
origins-both s t e ds es =
    cc (set.same_set origins_total origins_antisymmetric _ _ (λ o. let q = o.0 in let d = o.1 in let tie = eq_by_cmp entry_cmp q e in set.contains-union origins_total (set.union s (set.from_list (with_each e ds))) (set.union t (set.from_list (with_each e es))) o ∙ (λ i. (set.contains-union origins_total s (set.from_list (with_each e ds)) o ∙ ap (λ b. set.contains s o || b) (has-with_each q e d ds)) i || (set.contains-union origins_total t (set.from_list (with_each e es)) o ∙ ap (λ b. set.contains t o || b) (has-with_each q e d es)) i) ∙ shared (set.contains s o) (set.contains t o) tie (has ds d) (has es d) ∙ sym (set.contains-union origins_total (set.union s t) (set.from_list (with_each e (digests_union ds es))) o ∙ (λ i. set.contains-union origins_total s t o i || (has-with_each q e d (digests_union ds es) ∙ ap (λ b. tie && b) (has-union ds es d)) i))))

pub both-both : (f g : Facts) (e : FileEntry) (others : List (List ℕ))
    → both (with_file_entry f e) (with_file_entry g (e.0, others)) ≡ with_file_entry (both f g) (with_digests e others)
both-both f g e others = λ i. (insert-both f.0 g.0 e.0 i, origins-both f.1 g.1 e.0 e.1 others i)

-- an entry with no other digests
pub with_none : (e : FileEntry) → AreDigests e.1 → with_digests e [] ≡ e
with_none e up = λ i. (e.0, union-alone e.1 up i)

-- ---- the text

module _ (v : Version) (r : Reel) (f : Facts) (e : FileEntry) (is : IsHolding (part r f)) (up : AreDigests e.1)
    (follows : Follows (last_of (file_entries (part r f))) e.0) where
  pub begun-with : begun_text v (part r (with_file_entry f e)) ≡ begun_text v (part r f) ++ entry_text v e
  begun-with =
      ap (λ es. head_text v r ++ entries_text v es) (entries-with_entry (part r f) e.0 e.1 follows is up)
      ∙ ap (λ t. head_text v r ++ t) (entries_text-push v (file_entries (part r f)) e)
      ∙ sym (append_assoc (head_text v r) (entries_text v (file_entries (part r f))) (entry_text v e))

  pub last-with : last_of (file_entries (part r (with_file_entry f e))) ≡ Some e
  last-with = last-with_entry (part r f) e.0 e.1 follows is up

-- ---- its length

more_digests : (s t : set.SetOf origin_cmp) → ((q : Origin) → set.contains s q ≡ true → set.contains t q ≡ true) → (e : Entry)
    → length (digests_in s e) ≤ length (digests_in t e)
more_digests s t all e =
    let ds = digests_in s e in
    let es = digests_in t e in
    let few = weight-more bytes_total bytes_antisymmetric (λ _. 1) (set.from_list ds) (set.from_list es) (λ d there.
    set.contains-from_list bytes_total es d ∙ has-digests_in t e d
    ∙ all (e, d) (sym (has-digests_in s e d) ∙ sym (set.contains-from_list bytes_total ds d) ∙ there)) in
    omega (
      arith,
      few,
      weight-ones (set.items (set.from_list {R = bytes_cmp} ds)),
      weight-ones (set.items (set.from_list {R = bytes_cmp} es)),
      ap length (items-from_list bytes_total ds (digests_rise s e)),
      ap length (items-from_list bytes_total es (digests_rise t e)),
    )

-- what an entry weighs
abbrev weighs : Contents → Entry → ℕ
weighs h e = 11 + length e.1 + 32 * length (digests_of h e)

length-weight : (h : Contents) (xs : List Entry) → entries_length (map (own h) xs) ≡ weight (weighs h) xs
length-weight h [] = refl
length-weight h (x ∷ xs) = omega (arith, length-weight h xs)

-- the text of facts is no longer than that of others that they are within
pub shorter : (r q : Reel) (f g : Facts) → IsHolding (part r f) → IsHolding (part q g) → IsWithin f g
    → length (entries_text Second (file_entries (part r f))) ≤ length (entries_text Second (file_entries (part q g)))
unfolding file_entries
shorter r q f g f_is g_is within =
    let left = part r f in
    let right = part q g in
    omega (
      arith,
      length-entries_text left f_is (set.items f.0),
      length-weight left (set.items f.0),
      weight-pointwise (weighs left) (weighs right) (set.items f.0) (λ e. omega (arith, more_digests f.1 g.1 within.origins e)),
      weight-more entries_total entries_antisymmetric (weighs right) f.0 g.0 within.slices,
      length-weight right (set.items g.0),
      length-entries_text right g_is (set.items g.0),
    )

-- ---- an entry among others

pub has_contains : (ds : List (List ℕ)) (d : List ℕ) → has ds d ≡ true → Contains ds d
has_contains [] d there = absurd (true≢false (sym there))
has_contains (x ∷ xs) d there =
    or_cases (eq_by_cmp bytes_cmp d x) (has xs d) (Contains (x ∷ xs) d) there
    (λ tie. subst (Contains (x ∷ xs)) (sym (digest_tie d x tie)) (0, omega arith, refl))
    (λ rest. let c = has_contains xs d rest in (suc c.0, omega (arith, c.1), c.2))

-- the digests that a slice has are among those that it has in more facts
pub own_digests : (r : Reel) (f g : Facts) → IsWithin f g → (e : Entry) → AllByRecursion (Contains (digests_of (part r g) e)) (digests_of (part r f) e)
own_digests r f g within e =
    each (digests_of (part r f) e) (λ d there. has_contains (digests_of (part r g) e) d
    (has-digests_in g.1 e d ∙ within.origins (e, d) (sym (has-digests_in f.1 e d) ∙ there)))
  where
    each : {P : List ℕ → Type 0} (xs : List (List ℕ)) → ((d : List ℕ) → has xs d ≡ true → P d) → AllByRecursion P xs
    each [] all = tt
    each (x ∷ xs) all = (
      all x (or_left (eq_by_cmp bytes_cmp x x) (has xs x) (ap is_eq (tied_itself bytes_total x))),
      each xs (λ d there. all d (or_right (eq_by_cmp bytes_cmp d x) (has xs d) there)),
    )

-- an item stands at some place of the list
any_split : (e : Entry) (xs : List Entry) → list_any (eq_by_cmp entry_cmp e) xs ≡ true → (before : List Entry) × (after : List Entry)
    × (xs ≡ before ++ e ∷ after)
any_split e [] held = absurd (true≢false (sym held))
any_split e (x ∷ xs) held = or_cases (eq_by_cmp entry_cmp e x) (list_any (eq_by_cmp entry_cmp e) xs)
    ((before : List Entry) × (after : List Entry) × (x ∷ xs ≡ before ++ e ∷ after)) held
    (λ tie. ([], xs, ap (λ y. y ∷ xs) (sym (entry_tie e x tie))))
    (λ rest. let more = any_split e xs rest in (x ∷ more.0, more.1, ap (λ ys. x ∷ ys) more.2))

-- and so does an entry in a file
pub entry_split : (h : Contents) (e : Entry) → set.contains h.slices e ≡ true → (before : List FileEntry) × (after : List FileEntry)
    × (file_entries h ≡ before ++ (e, digests_of h e) ∷ after)
unfolding file_entries
entry_split h e held =
    let split = any_split e (set.items h.slices) (sym (set.contains-items h.slices e) ∙ held) in
    (map (own h) split.0, map (own h) split.1, ap (map (own h)) split.2 ∙ map-append (own h) split.0 (e ∷ split.1))
