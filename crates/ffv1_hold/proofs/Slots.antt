-- The entry at a place, and the text up to it and from it on.
use Rattle.ffv1_hold.proofs.Common.{◌≡◌, ℕ, suc, ◌+◌, ◌*◌, ◌<◌, List, [], ◌∷◌, ◌++◌, length, get_or, take, drop, refl, sym, ap, ◌∙◌, arith, add-one, append-nil, take-append-drop, length-append, flat_map-append, drop-cons, take_more, AllByRecursion, Entry, Reel, Version, Second, FileEntry, be4, slice_text, origins_text, body_text, entry_text, entries_text, sized_record, head_text, IsDigest}
use Rattle.ffv1_hold.proofs.Bodies.{length-be2, length-be4}
use Rattle.ffv1_hold.proofs.DigestTexts.{whole, length-whole}

module _ (v : Version) where
  pub entries_text-split : (xs ys : List FileEntry) → entries_text v (xs ++ ys) ≡ entries_text v xs ++ entries_text v ys
  unfolding entries_text
  entries_text-split xs ys = flat_map-append (entry_text v) xs ys

  pub entries_text-cons : (e : FileEntry) (es : List FileEntry) → entries_text v (e ∷ es) ≡ entry_text v e ++ entries_text v es
  unfolding entries_text
  entries_text-cons e es = refl

  pub entries_text-none : entries_text v [] ≡ []
  unfolding entries_text
  entries_text-none = refl

  pub entries_text-push : (es : List FileEntry) (e : FileEntry) → entries_text v (es ++ e ∷ []) ≡ entries_text v es ++ entry_text v e
  unfolding entries_text
  entries_text-push es e = flat_map-append (entry_text v) es (e ∷ []) ∙ ap (λ t. entries_text v es ++ t) (append-nil (entry_text v e))

  -- the entry at i stands after those before it, and before the rest
  pub entries_text-at : (es : List FileEntry) (i : ℕ) (e : FileEntry) → i < length es
      → entries_text v es ≡ entries_text v (take i es) ++ (entry_text v (get_or es i e) ++ entries_text v (drop (i + 1) es))
  entries_text-at es i e h =
      ap (entries_text v) (sym (take-append-drop i es)) ∙ entries_text-split (take i es) (drop i es)
      ∙ ap (λ t. entries_text v (take i es) ++ t) (rw (add-one, drop-cons es i e) (entries_text-cons (get_or es i e) (drop (suc i) es)))

  -- one more entry
  pub entries_text-more : (es : List FileEntry) (i : ℕ) (e : FileEntry) → i < length es
      → entries_text v (take (i + 1) es) ≡ entries_text v (take i es) ++ entry_text v (get_or es i e)
  entries_text-more es i e h = ap (entries_text v) (take_more es i e h) ∙ entries_text-push (take i es) (get_or es i e)

pub length-slice_text : (e : Entry) → length (slice_text e) ≡ 6 + length e.1
unfolding slice_text
length-slice_text e = grind (arith, length-append, length-be2, length-be4)

pub length-origins_text : (ds : List (List ℕ)) → AllByRecursion IsDigest ds → length (origins_text ds) ≡ 4 + 32 * length ds
unfolding origins_text
length-origins_text ds all = omega (arith, length-append (be4 (length ds)) (whole ds), length-be4 (length ds), length-whole ds all)

-- in version 2
pub length-entry_text : (e : FileEntry) → AllByRecursion IsDigest e.1 → length (entry_text Second e) ≡ 11 + length e.0.1 + 32 * length e.1
unfolding body_text
length-entry_text e all = omega (arith, length-append (slice_text e.0) (origins_text e.1), length-slice_text e.0, length-origins_text e.1 all)

pub length-sized_record : (config : List ℕ) (w h : ℕ) → length (sized_record config w h) ≡ 12 + length config
unfolding sized_record
length-sized_record config w h = grind (arith, length-append, length-be4)

pub length-head_text : (v : Version) (r : Reel) → length (head_text v r) ≡ 20 + length r.config
unfolding head_text
length-head_text v r = grind (arith, length-append, length-sized_record)

-- the length of a text: its head, its entries and the end tag
pub length-text : (v : Version) (r : Reel) (es : List ℕ) → length (head_text v r ++ es ++ 0 ∷ []) ≡ 21 + length r.config + length es
length-text v r es = omega (arith, length-append (head_text v r ++ es) (0 ∷ []), length-append (head_text v r) es, length-head_text v r)
