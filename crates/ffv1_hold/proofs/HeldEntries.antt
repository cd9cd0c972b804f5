-- The entries of a holding, as its files give them.
use Rattle.ffv1_hold.proofs.Common.{◌≡◌, ℕ, zero, suc, ◌<◌, ◌≤◌, Bool, true, false, ◌||◌, ◌&&◌, List, [], ◌∷◌, ◌++◌, length, map, get_or, Some, refl, sym, ap, ◌∙◌, subst, arith, drop, true≢false, or-false, AllByRecursion, list_any, is_eq, eq_by_cmp, ordering_reverse, Less, map-append, get_or-map, length-map, false_from_ne_true, Entry, with_each, bytes_cmp, entry_cmp, origin_cmp, entries_total, entries_antisymmetric, origins_total, origins_antisymmetric, IsRising, digests_in, Contents, IsHolding, IsEntryOf, digests_of, with_entry, joined, IsSameReel, Reel, rising_rest, contains_item, items-empty, items-rising, items-insert_last, or_cases, all-insert, all-union, held_union, whole_union, held_each, whole_each, Version, First, Second, FileEntry, origins_limit, file_entries, HasFileVersion, IsStated, last_of, Follows, IsDigest, AreOrigins, AreDigestsIn, IsFileEntryOf, AreEntries, TellsMagic, file_entry_cmp, ◌⊎◌}
use Rattle.ffv1_holding.specs.Sets as set
use Rattle.ffv1_hold.proofs.DigestSets.{has, entry_tie, entry_self, has-digests_in, has-with_each, digests_rise, same_digests, has_all}

-- an entry with digests
abbrev pub stated : (Entry → List (List ℕ)) → Entry → FileEntry
stated digests e = (e, digests e)

-- ---- lists of entries

same_map : (f g : Entry → List (List ℕ)) (xs : List Entry) → ((i : ℕ) (d : Entry) → i < length xs → f (get_or xs i d) ≡ g (get_or xs i d))
    → map (stated f) xs ≡ map (stated g) xs
same_map f g [] each = refl
same_map f g (x ∷ xs) each = λ k. (x, each 0 x (omega arith) k) ∷ same_map f g xs (λ i d lt. each (suc i) d (omega arith)) k

-- the slices of entries
pub slices_back : (f : Entry → List (List ℕ)) (xs : List Entry) → map (λ e. e.0) (map (stated f) xs) ≡ xs
slices_back f [] = refl
slices_back f (x ∷ xs) = ap (λ ys. x ∷ ys) (slices_back f xs)

-- where two lists of the same slices are the same, their digests are
same_at : (f g : Entry → List (List ℕ)) (xs : List Entry) → map (stated f) xs ≡ map (stated g) xs → (q : Entry) → list_any (eq_by_cmp entry_cmp q) xs ≡ true
    → f q ≡ g q
same_at f g [] same q there = absurd (true≢false (sym there))
same_at f g (x ∷ xs) same q there =
    cc (or_cases (eq_by_cmp entry_cmp q x) (list_any (eq_by_cmp entry_cmp q) xs) (f q ≡ g q) there (λ tie. let is = entry_tie q x tie in ap f is ∙ ap (λ es. (get_or es 0 (stated f x)).1) same ∙ ap g (sym is)) (λ rest. same_at f g xs (ap (drop 1) same) q rest))

-- what stands after the last entry is above all
pub above_all : (f : Entry → List (List ℕ)) (xs : List Entry) (e : Entry) → IsRising entry_cmp xs → Follows (last_of (map (stated f) xs)) e → (i : ℕ) (d : Entry)
    → i < length xs → entry_cmp (get_or xs i d) e ≡ Less
above_all f [] e up follows i d lt = absurd (omega arith)
above_all f (x ∷ []) e up follows zero d lt = follows
above_all f (x ∷ []) e up follows (suc i) d lt = absurd (omega arith)
above_all f (x ∷ y ∷ zs) e up follows zero d lt =
    entries_total.trans x y e (up 0 1 d (omega arith) (omega arith)) (above_all f (y ∷ zs) e (rising_rest entry_cmp x (y ∷ zs) up) follows 0 d (omega arith))
above_all f (x ∷ y ∷ zs) e up follows (suc i) d lt = above_all f (y ∷ zs) e (rising_rest entry_cmp x (y ∷ zs) up) follows i d (omega arith)

pub last_of-push : {A : Type 0} (xs : List A) (x : A) → last_of (xs ++ x ∷ []) ≡ Some x
last_of-push [] x = refl
last_of-push (y ∷ []) x = refl
last_of-push (y ∷ z ∷ zs) x = last_of-push (z ∷ zs) x

less_apart : (q e : Entry) → entry_cmp q e ≡ Less → eq_by_cmp entry_cmp q e ≡ false
less_apart q e less = ap is_eq less

-- ---- one entry more

module _ (h : Contents) (e : Entry) (ds : List (List ℕ)) where
  has-with_entry : (q : Entry) (d : List ℕ) → has (digests_of (with_entry h e ds) q) d ≡ (has (digests_of h q) d || (eq_by_cmp entry_cmp q e && has ds d))
  has-with_entry q d =
      has-digests_in (set.union h.origins (set.from_list (with_each e ds))) q d
      ∙ set.contains-union origins_total h.origins (set.from_list (with_each e ds)) (q, d)
      ∙ (λ i. sym (has-digests_in h.origins q d) i || has-with_each q e d ds i)

  -- the digests of another slice stay
  digests-other : (q : Entry) → eq_by_cmp entry_cmp q e ≡ false → digests_of (with_entry h e ds) q ≡ digests_of h q
  digests-other q apart = same_digests _ _ (digests_rise _ q) (digests_rise h.origins q)
      (λ d. has-with_entry q d ∙ ap (λ b. has (digests_of h q) d || (b && has ds d)) apart ∙ or-false (has (digests_of h q) d))

  -- and a new slice has just its own
  digests-own : IsHolding h → set.contains h.slices e ≡ false → IsRising bytes_cmp ds → digests_of (with_entry h e ds) e ≡ ds
  digests-own is new up = same_digests _ _ (digests_rise _ e) up
      (λ d. has-with_entry e d ∙ ap (λ b. has (digests_of h e) d || (b && has ds d)) (entry_self e) ∙ ap (λ b. b || has ds d) (none d))
    where
      none : (d : List ℕ) → has (digests_of h e) d ≡ false
      none d = has-digests_in h.origins e d ∙ false_from_ne_true (set.contains h.origins (e, d))
          (λ there. true≢false (sym (is.origins_held (e, d) there) ∙ new))

  module _ (follows : Follows (last_of (file_entries h)) e) where
    below : (i : ℕ) (d : Entry) → i < length (set.items h.slices) → entry_cmp (get_or (set.items h.slices) i d) e ≡ Less
    unfolding file_entries
    below = above_all (digests_of h) (set.items h.slices) e (items-rising h.slices) follows

    new_slice : set.contains h.slices e ≡ false
    new_slice = set.contains-items h.slices e ∙ none (set.items h.slices) below
      where
        none : (xs : List Entry) → ((i : ℕ) (d : Entry) → i < length xs → entry_cmp (get_or xs i d) e ≡ Less) → list_any (eq_by_cmp entry_cmp e) xs ≡ false
        none [] low = refl
        none (x ∷ xs) low = (λ k. (ap is_eq (entries_total.antisymm e x) ∙ ap (λ o. is_eq (ordering_reverse o)) (low 0 x (omega arith))) k ||
            none xs (λ i d lt. low (suc i) d (omega arith)) k)

    -- a file goes on with the entry
    pub entries-with_entry : IsHolding h → IsRising bytes_cmp ds → file_entries (with_entry h e ds) ≡ file_entries h ++ (e, ds) ∷ []
    unfolding file_entries
    entries-with_entry is up =
        ap (map (stated (digests_of (with_entry h e ds)))) (items-insert_last entries_total entries_antisymmetric h.slices e below)
        ∙ map-append (stated (digests_of (with_entry h e ds))) (set.items h.slices) (e ∷ [])
        ∙ (λ i. same_map (digests_of (with_entry h e ds)) (digests_of h) (set.items h.slices)
        (λ i d lt. digests-other (get_or (set.items h.slices) i d) (less_apart (get_or (set.items h.slices) i d) e (below i d lt))) i ++
        (e, digests-own is new_slice up i) ∷ [])

    pub last-with_entry : IsHolding h → IsRising bytes_cmp ds → last_of (file_entries (with_entry h e ds)) ≡ Some (e, ds)
    last-with_entry is up = ap last_of (entries-with_entry is up) ∙ last_of-push (file_entries h) (e, ds)

    -- and a version that can give the origins of the holding and the entry's digests can give both together
    pub stated-with_entry : (v : Version) → IsHolding h → AreDigestsIn v ds → IsStated v h → IsStated v (with_entry h e ds)
    stated-with_entry First is are was = (
      ap (λ (xs : List (List ℕ)). set.union h.origins (set.from_list (with_each e xs))) are
          ∙ set.union_empty origins_total origins_antisymmetric h.origins ∙ was.0,
      was.1,
    )
    stated-with_entry Second is are was = λ q there.
        or_cases (eq_by_cmp entry_cmp q e) (set.contains h.slices q) (length (digests_of (with_entry h e ds) q) ≤ origins_limit)
        (sym (set.contains-insert entries_total h.slices e q) ∙ there)
        (λ tie. subst (λ n. n ≤ origins_limit) (sym (ap length (ap (digests_of (with_entry h e ds)) (entry_tie q e tie)
        ∙ digests-own is new_slice are.0.rising))) are.1)
        (λ held. subst (λ n. n ≤ origins_limit) (sym (ap length (digests-other q (apart q held)))) (was q held))
      where
        apart : (q : Entry) → set.contains h.slices q ≡ true → eq_by_cmp entry_cmp q e ≡ false
        apart q held = false_from_ne_true (eq_by_cmp entry_cmp q e) (λ tie. true≢false (sym held ∙ ap (set.contains h.slices) (entry_tie q e tie) ∙ new_slice))

  -- it is a holding
  pub holding-with_entry : IsHolding h → IsEntryOf h.reel.rules e → AllByRecursion IsDigest ds → IsHolding (with_entry h e ds)
  holding-with_entry is entry each = record {
    reel = is.reel;
    slices = all-insert entries_total entries_antisymmetric (IsEntryOf h.reel.rules) h.slices e is.slices entry;
    origins_held = held_each h.slices h.origins e ds is.origins_held;
    digests_whole = whole_each h.slices h.origins e ds is.digests_whole (at_place IsDigest ds each);
  }
    where
      at_place : (P : List ℕ → Type 0) (xs : List (List ℕ)) → AllByRecursion P xs → (i : ℕ) (d : List ℕ) → i < length xs → P (get_or xs i d)
      at_place P [] all i d lt = absurd (omega arith)
      at_place P (x ∷ xs) all zero d lt = all.0
      at_place P (x ∷ xs) all (suc i) d lt = at_place P xs all.1 i d (omega arith)

-- the union of two
pub holding-joined : (g h : Contents) → IsSameReel g h → IsHolding g → IsHolding h → IsHolding (joined g h)
holding-joined g h same g_is h_is = record {
  reel = g_is.reel;
  slices = all-union entries_total entries_antisymmetric (IsEntryOf g.reel.rules) g.slices h.slices g_is.slices
      (λ q held. subst (λ (r : Reel). IsEntryOf r.rules q) (sym same) (h_is.slices q held));
  origins_held = held_union g.slices h.slices g.origins h.origins g_is.origins_held h_is.origins_held;
  digests_whole = whole_union g.origins h.origins g_is.digests_whole h_is.digests_whole;
}

-- ---- all entries

-- the digests of a slice are whole, and rise
pub origins-digests_of : (h : Contents) → IsHolding h → (q : Entry) → AreOrigins (digests_of h q)
origins-digests_of h is q = record {
  each = has_all (digests_of h q) (λ d there. is.digests_whole (q, d) (sym (has-digests_in h.origins q d) ∙ there));
  rising = digests_rise h.origins q;
}

stated_digests : (v : Version) (h : Contents) → IsHolding h → IsStated v h → (q : Entry) → set.contains h.slices q ≡ true → AreDigestsIn v (digests_of h q)
stated_digests First h is was q held = same_digests _ [] (digests_rise h.origins q) (λ i j d lt in_range. absurd (omega arith))
    (λ d. has-digests_in h.origins q d ∙ ap (λ s. set.contains s (q, d)) was.0 ∙ set.contains-empty origin_cmp (q, d))
stated_digests Second h is was q held = (origins-digests_of h is q, was q held)

pub version_of : (v : Version) (h : Contents) → IsStated v h → HasFileVersion v h.reel.rules.is_profile
version_of First h was = was.1
version_of Second h was = tt

pub all_entries : (v : Version) (h : Contents) → IsHolding h → IsStated v h → AllByRecursion (IsFileEntryOf v h.reel.rules) (file_entries h)
unfolding file_entries
all_entries v h is was = each (set.items h.slices) (λ i d lt. contains_item entries_total h.slices i d lt)
  where
    each : (xs : List Entry) → ((i : ℕ) (d : Entry) → i < length xs → set.contains h.slices (get_or xs i d) ≡ true)
        → AllByRecursion (IsFileEntryOf v h.reel.rules) (map (stated (digests_of h)) xs)
    each [] held = tt
    each (x ∷ xs) held = (
      record { slice = is.slices x (held 0 x (omega arith)); origins = stated_digests v h is was x (held 0 x (omega arith)) },
      each xs (λ i d lt. held (suc i) d (omega arith)),
    )

pub entries_rise : (h : Contents) → IsRising file_entry_cmp (file_entries h)
unfolding file_entries
entries_rise h = λ i j d lt in_range.
    let long = length-map (set.items h.slices) (stated (digests_of h)) in
    rw (
      get_or-map (stated (digests_of h)) (set.items h.slices) i d.0 d (omega arith),
      get_or-map (stated (digests_of h)) (set.items h.slices) j d.0 d (omega arith),
    )
    (items-rising h.slices i j d.0 lt (omega arith))

pub are_entries : (v : Version) (h : Contents) → IsHolding h → IsStated v h → (file_entries h ≡ []) ⊎ TellsMagic h.reel (file_entries h)
    → AreEntries v h.reel (file_entries h)
are_entries v h is was begun = record { version = version_of v h was; each = all_entries v h is was; rising = entries_rise h; first = begun }

-- holdings of one reel with the same entries are equal
pub same_contents : (g h : Contents) → IsHolding g → IsHolding h → g.reel ≡ h.reel → file_entries g ≡ file_entries h → g ≡ h
unfolding file_entries
same_contents g h g_is h_is reel entries = λ i. record { reel = reel i; slices = slices i; origins = origins i }
  where
    items : set.items g.slices ≡ set.items h.slices
    items = sym (slices_back (digests_of g) (set.items g.slices)) ∙ ap (map (λ e. e.0)) entries ∙ slices_back (digests_of h) (set.items h.slices)

    slices : g.slices ≡ h.slices
    slices = cc (items, set.from_list-items entries_total entries_antisymmetric g.slices, set.from_list-items entries_total entries_antisymmetric h.slices)

    held : (b : Bool) (q : Entry) (d : List ℕ) → set.contains g.slices q ≡ b → set.contains g.origins (q, d) ≡ set.contains h.origins (q, d)
    held true q d there =
        sym (has-digests_in g.origins q d) ∙ ap (λ ds. has ds d) (same_at (digests_of g) (digests_of h) (set.items g.slices)
        (entries ∙ ap (map (stated (digests_of h))) (sym items)) q (sym (set.contains-items g.slices q) ∙ there)) ∙ has-digests_in h.origins q d
    held false q d none =
        false_from_ne_true (set.contains g.origins (q, d)) (λ is. true≢false (sym (g_is.origins_held (q, d) is) ∙ none))
        ∙ sym (false_from_ne_true (set.contains h.origins (q, d))
        (λ is. true≢false (sym (h_is.origins_held (q, d) is) ∙ ap (λ s. set.contains s q) (sym slices) ∙ none)))

    origins : g.origins ≡ h.origins
    origins = set.same_set origins_total origins_antisymmetric g.origins h.origins (λ o. held (set.contains g.slices o.0) o.0 o.1 refl)

-- no entries yet
pub entries-none : (r : Reel) → file_entries (record { reel = r; slices = set.empty; origins = set.empty }) ≡ []
unfolding file_entries
entries-none r = ap (map (stated (digests_in set.empty))) (items-empty entry_cmp)
