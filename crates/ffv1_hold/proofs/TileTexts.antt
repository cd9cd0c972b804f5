-- The entries of one tile, and of the tiles below a number, with their digests, and their text.
use Rattle.ffv1_hold.proofs.Common.{◌≡◌, ℕ, true, zero, suc, ◌+◌, ◌-◌, ◌*◌, ◌<◌, ◌≤◌, List, [], ◌∷◌, ◌++◌, length, map, take, drop, get_or, refl, sym, ap, ◌∙◌, arith, append_assoc, append-nil, length-append, take-append-drop, true≢false, list_any, eq_by_cmp, record_limit, file_limit, or_cases, get_or_default, get_or-map, length-map, map-append, take_more, Entry, entry_cmp, bytes_total, tile_slices, Contents, IsHolding, AreDigests, digests_of, Second, FileEntry, slice_text, origins_text, entry_text, head_text, entries_text, begun_text, file_entries, holding_text, IsStated, TellsMagic, FitsInFile, digests_union, tile_file_entries, file_entries_below, entries_length, size-items, contains_item, contains-tile_slices, flat_map-range_more}
use Rattle.ffv1_holding.specs.Sets as set
use Rattle.ffv1_hold.proofs.DigestUnions.{union-alone}
use Rattle.ffv1_hold.proofs.Entries.{entry_text-of}
use Rattle.ffv1_hold.proofs.HeldEntries.{stated, origins-digests_of}
use Rattle.ffv1_hold.proofs.Slots.{entries_text-split, entries_text-cons, entries_text-none, length-entry_text}
use Rattle.ffv1_hold.proofs.DigestSets.{entry_tie}
use Rattle.ffv1_hold.proofs.TileOrder.{entries_below-all}

module _ (h : Contents) where
  -- an entry with its digests
  abbrev pub own : Entry → FileEntry
  own = stated (digests_of h)

  -- the entry of a slice at a place
  pub entry_at : (tile : ℕ) (bs : List (List ℕ)) (i : ℕ) (b : List ℕ) → i < length bs → b ≡ get_or bs i b
      → own (tile, b) ≡ get_or (map own (map (λ c. let x : Entry = (tile, c) in x) bs)) i (own (tile, b))
  entry_at tile bs i b lt at =
      let long = length-map bs (λ c. let x : Entry = (tile, c) in x) in
      sym (get_or-map own (map (λ c. let x : Entry = (tile, c) in x) bs) i (tile, b) (own (tile, b)) (omega arith)
      ∙ ap own (get_or-map (λ c. let x : Entry = (tile, c) in x) bs i b (tile, b) lt ∙ (λ j. (tile, sym at j))))

  -- one tile more
  pub file_entries_below-more : (t : ℕ) → file_entries_below h (t + 1) ≡ file_entries_below h t ++ tile_file_entries h t
  file_entries_below-more t = grind (arith, flat_map-range_more, map-append)

  pub text_below-more : (t : ℕ) → entries_text Second (file_entries_below h (t + 1)) ≡ entries_text Second (file_entries_below h t) ++
      entries_text Second (tile_file_entries h t)
  text_below-more t = ap (entries_text Second) (file_entries_below-more t) ∙ entries_text-split Second (file_entries_below h t) (tile_file_entries h t)

  -- the tiles up to one of them, and the rest
  rest_below : (t k n : ℕ) → t + 1 + k ≡ n → (rest : List FileEntry) × (file_entries_below h n ≡ file_entries_below h (t + 1) ++ rest)
  rest_below t zero n e = ([], ap (file_entries_below h) (omega arith) ∙ sym (append-nil (file_entries_below h (t + 1))))
  rest_below t (suc k) n e =
      let before = rest_below t k (t + 1 + k) refl in (
        before.0 ++ tile_file_entries h (t + 1 + k),
        ap (file_entries_below h) {x = n} {y = (t + 1 + k) + 1} (omega arith) ∙ file_entries_below-more (t + 1 + k)
            ∙ ap (λ xs. xs ++ tile_file_entries h (t + 1 + k)) before.1
            ∙ append_assoc (file_entries_below h (t + 1)) before.0 (tile_file_entries h (t + 1 + k)),
      )

  -- the text of all goes on after that of a tile
  pub text_goes_on : (t n : ℕ) → t < n → (rest : List ℕ) × (entries_text Second (file_entries_below h n) ≡ entries_text Second (file_entries_below h t) ++
      (entries_text Second (tile_file_entries h t) ++ rest))
  text_goes_on t n lt =
      let before = rest_below t (n - (t + 1)) n (omega arith) in (
        entries_text Second before.0,
        ap (entries_text Second) before.1 ∙ entries_text-split Second (file_entries_below h (t + 1)) before.0
            ∙ ap (λ xs. xs ++ entries_text Second before.0) (text_below-more t)
            ∙ append_assoc (entries_text Second (file_entries_below h t)) (entries_text Second (tile_file_entries h t)) (entries_text Second before.0),
      )

  -- the text of entries is as long as its parts
  pub length-entries_text : IsHolding h → (es : List Entry) → length (entries_text Second (map own es)) ≡ entries_length (map own es)
  length-entries_text is [] = ap length (entries_text-none Second)
  length-entries_text is (e ∷ es) =
      ap length (entries_text-cons Second (own e) (map own es))
      ∙ length-append (entry_text Second (own e)) (entries_text Second (map own es))
      ∙ (λ i. length-entry_text (own e) (origins-digests_of h is e).each i + length-entries_text is es i)

-- as many entries as slices
pub tile_count : (h : Contents) (tile : ℕ) → length (tile_file_entries h tile) ≡ set.size (tile_slices h.slices tile)
tile_count h tile = grind (arith, length-map, size-items)

-- a tile's slice at a place is held
pub held_there : (h : Contents) (tile i : ℕ) (b : List ℕ) → i < length (set.items (tile_slices h.slices tile))
    → b ≡ get_or (set.items (tile_slices h.slices tile)) i b
    → set.contains h.slices (tile, b) ≡ true
held_there h tile i b lt at =
    sym (contains-tile_slices h.slices tile b) ∙ ap (set.contains (tile_slices h.slices tile)) at ∙ contains_item bytes_total (tile_slices h.slices tile) i b lt

-- its entry, by the parts that are written
pub held_spelled : (h : Contents) (tile i : ℕ) (b : List ℕ) → i < length (set.items (tile_slices h.slices tile))
    → b ≡ get_or (set.items (tile_slices h.slices tile)) i b
    → (os : List (List ℕ)) → os ≡ digests_of h (tile, get_or (set.items (tile_slices h.slices tile)) i b) → AreDigests os → (d : FileEntry)
    → (1 ∷ slice_text (tile, b)) ++ origins_text (digests_union os []) ≡ entry_text Second (get_or (tile_file_entries h tile) i d)
held_spelled h tile i b lt at os same up d =
    let bs = set.items (tile_slices h.slices tile) in
    let long = length-map bs (λ c. let x : Entry = (tile, c) in x) in
    let also = length-map (map (λ c. let x : Entry = (tile, c) in x) bs) (own h) in
    ap (λ x. (1 ∷ slice_text (tile, b)) ++ origins_text x) (union-alone os up ∙ same ∙ ap (λ x. digests_of h (tile, x)) (sym at))
    ∙ entry_text-of Second (own h (tile, b))
    ∙ ap (entry_text Second) (entry_at h tile bs i b lt at ∙ get_or_default (tile_file_entries h tile) i (own h (tile, b)) d (omega arith))

entries_length-append : (es fs : List FileEntry) → entries_length (es ++ fs) ≡ entries_length es + entries_length fs
entries_length-append [] fs = omega arith
entries_length-append (e ∷ es) fs = omega (arith, entries_length-append es fs)

pub entries_length-more : (es : List FileEntry) (i : ℕ) (e : FileEntry) → i < length es → e ≡ get_or es i e
    → entries_length (take (i + 1) es) ≡ entries_length (take i es) + (11 + length e.0.1 + 32 * length e.1)
entries_length-more es i e lt at =
    ap entries_length (take_more es i e lt) ∙ entries_length-append (take i es) (get_or es i e ∷ [])
    ∙ ap (λ n. entries_length (take i es) + n) (ap (λ (x : FileEntry). 11 + length x.0.1 + 32 * length x.1 + 0) (sym at) ∙ omega arith)

pub entries_length-part : (es : List FileEntry) (i : ℕ) → entries_length (take i es) ≤ entries_length es
entries_length-part es i = omega (arith, ap entries_length (take-append-drop i es), entries_length-append (take i es) (drop i es))

-- ---- all tiles

-- where each slice's tile is below the number, no others are left
pub file_entries_below-all : (h : Contents) (n : ℕ) → ((e : Entry) → set.contains h.slices e ≡ true → e.0 < n) → file_entries_below h n ≡ file_entries h
unfolding file_entries
file_entries_below-all h n few = ap (map (own h)) (entries_below-all h.slices n few)

-- an entry's digests are in the text
own_within : (h : Contents) (q : Entry) (xs : List Entry) → list_any (eq_by_cmp entry_cmp q) xs ≡ true
    → 11 + 32 * length (digests_of h q) ≤ entries_length (map (own h) xs)
own_within h q [] there = absurd (true≢false (sym there))
own_within h q (x ∷ xs) there =
    or_cases (eq_by_cmp entry_cmp q x) (list_any (eq_by_cmp entry_cmp q) xs) (11 + 32 * length (digests_of h q) ≤ entries_length (map (own h) (x ∷ xs))) there
    (λ tie. omega (arith, ap (λ (e : Entry). length (digests_of h e)) (entry_tie q x tie)))
    (λ rest. omega (arith, own_within h q xs rest))

-- a text within the limit gives its origins
pub stated_begun : (h : Contents) → IsHolding h → length (begun_text Second h) ≤ file_limit → IsStated Second h
unfolding file_entries
stated_begun h is fits q there =
    let items = set.items h.slices in
    let within = own_within h q items (sym (set.contains-items h.slices q) ∙ there) in
    omega (arith, within, fits, length-append (head_text Second h.reel) (entries_text Second (map (own h) items)), length-entries_text h is items)

pub fits_within : (h : Contents) → IsHolding h → TellsMagic h.reel (file_entries h) → (length h.reel.config ≤ record_limit) × (length (holding_text h) ≤ file_limit)
    → FitsInFile Second h
fits_within h is tells fits = record {
  stated = stated_begun h is (omega (arith, fits.1, length-append (begun_text Second h) (0 ∷ [])));
  tells = tells;
  record' = fits.0;
  text = fits.1;
}
