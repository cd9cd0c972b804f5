-- The records of a Tracks that pass lie in its content.
use Rattle.std.proofs.Common.{◌≡◌, ℕ, ◌+◌, Bool, true, false, cond, eqb, leb, List, [], ◌∷◌, ◌++◌, map, length, take, drop, refl, sym, ap, ◌∙◌, subst, arith, inl, inr}
use Rattle.std.specs.Prelude.{◌⊎◌, ◌||◌, filter, Option, Some, None}
use Rattle.std.specs.List.{fold}
use Rattle.std.proofs.lemmas.Bool.{eqb-true, eq-eqb, leb-true, le-leb}
use Rattle.std.proofs.lemmas.List.{append_assoc, append-nil, take-append-drop}
use Rattle.ffv1_bits.specs.Bits.{bits_of}
use Rattle.ffv1_bits.specs.Parity.{remainder_of, RecordPassesParity}
use Rattle.ebml.specs.Contents.{ElementValue, contents_with, PlacedBytes, placed_with, last_among}
use Rattle.ebml.proofs.ContentList.{bytes_in}
use Rattle.matroska.specs.Tracks.{bytes_found, IsTrackOf, EachIsTrack, HasRecord, AreTracksOf}
use Rattle.matroska.specs.NamedTracks.{each_after, is_unnamed, named_tracks}
use Rattle.matroska.specs.declared.track.Track.{Track}
use Rattle.matroska_parts.specs.RecordParts.{IsRecordPart, AreRecordPartsOf, AreRecordParts}
use Rattle.matroska_parts.specs.declared.parts.Part.{Part}
use Rattle.matroska_parts.specs.declared.parts.Part.TheVariants as part
use Rattle.matroska_parts.specs.declared.parts.RecordPart.{RecordPart}
use Rattle.ffv1_check.specs.CheckedBytes.{part_bytes, checked_bytes}
use Rattle.ffv1_check.specs.Spans.{HasChecked}
use Rattle.ffv1_check.proofs.SpanSteps.{checked_none, checked_all, checked_join}
use Rattle.ffv1_check.proofs.MasterSpans.{bytes_join, bytes_one, none_zero}
use Rattle.ffv1_check.proofs.TrackOne.{if_named}

-- ---- bytes within others

abbrev IsWithin : List ℕ → List ℕ → Type 0
IsWithin c xs = (before : List ℕ) × (after : List ℕ) × (xs ≡ before ++ (c ++ after))

within_after : (c xs ys : List ℕ) → IsWithin c ys → IsWithin c (xs ++ ys)
within_after c xs ys is = (xs ++ is.0, is.1, ap (λ z. xs ++ z) is.2 ∙ sym (append_assoc xs is.0 (c ++ is.1)))

within_more : (c xs ys : List ℕ) → IsWithin c xs → IsWithin c (xs ++ ys)
within_more c xs ys is = (is.0, is.1 ++ ys, ap (λ z. z ++ ys) is.2 ∙ append_assoc is.0 (c ++ is.1) ys ∙ ap (λ z. is.0 ++ z) (append_assoc c is.1 ys))

within_end : (n : ℕ) (c xs : List ℕ) → IsWithin c xs → IsWithin (drop n c) xs
within_end n c xs is = (
  is.0 ++ take n c,
  is.1,
  is.2 ∙ ap (λ z. is.0 ++ z) (ap (λ z. z ++ is.1) (sym (take-append-drop n c)) ∙ append_assoc (take n c) (drop n c) is.1) ∙ sym (append_assoc is.0 (take n c) (drop n c ++ is.1)),
)

within_checked : (c xs : List ℕ) (size : ℕ) → IsWithin c xs → HasChecked c size → HasChecked xs size
within_checked c xs size is checked =
    let one : 0 + (size + 0) ≡ size = omega arith in
    subst (λ z. HasChecked z size) (sym is.2)
    (subst (HasChecked (is.0 ++ (c ++ is.1))) one
    (checked_join is.0 (c ++ is.1) 0 (size + 0) (checked_none is.0) (checked_join c is.1 size 0 checked (checked_none is.1))))

-- ---- the contents of elements lie in them

abbrev content_of : ElementValue → List ℕ
content_of element = drop element.head.length element.bytes

content_within : (element : ElementValue) → IsWithin (content_of element) element.bytes
content_within element = (
  take element.head.length element.bytes,
  [],
  sym (take-append-drop element.head.length element.bytes) ∙ ap (λ z. take element.head.length element.bytes ++ z) (sym (append-nil (content_of element))),
)

-- the contents with this ID, by whether the first element has it
contents_by : (id : ℕ) (e : ElementValue) (es : List ElementValue) (b : Bool) → eqb e.head.id id ≡ b
    → contents_with id (e ∷ es) ≡ cond b (content_of e ∷ contents_with id es) (contents_with id es)
contents_by id e es true is = ap (λ b. map content_of (cond b (e ∷ filter (λ element. eqb element.head.id id) es) (filter (λ element. eqb element.head.id id) es))) is
contents_by id e es false is = ap (λ b. map content_of (cond b (e ∷ filter (λ element. eqb element.head.id id) es) (filter (λ element. eqb element.head.id id) es))) is

abbrev last_of : Option (List ℕ) → List (List ℕ) → Option (List ℕ)
last_of last contents = fold (λ _ x. Some x) last contents

last_within : (id : ℕ) (es : List ElementValue) (last : Option (List ℕ)) (c : List ℕ) → last_of last (contents_with id es) ≡ Some c
    → (last ≡ Some c) ⊎ IsWithin c (bytes_in es)
last_within id [] last c is = inl is
last_within id (e ∷ es) last c is = go (λ l same. last_within id es l c same) (eqb e.head.id id) refl
  where
    first : Some (content_of e) ≡ Some c → IsWithin c (bytes_in (e ∷ es))
    first same = let one : content_of e ≡ c = cc in within_more c e.bytes (bytes_in es) (subst (λ z. IsWithin z e.bytes) one (content_within e))

    go : ((l : Option (List ℕ)) → last_of l (contents_with id es) ≡ Some c → (l ≡ Some c) ⊎ IsWithin c (bytes_in es)) → (b : Bool) → eqb e.head.id id ≡ b
        → (last ≡ Some c) ⊎ IsWithin c (bytes_in (e ∷ es))
    go later true at = elim (later (Some (content_of e)) (ap (last_of last) (sym (contents_by id e es true at)) ∙ is)) [
      | inl same ↦ inr (first same)
      | inr within ↦ inr (within_after c e.bytes (bytes_in es) within)
    ]
    go later false at = elim (later last (ap (last_of last) (sym (contents_by id e es false at)) ∙ is)) [
      | inl same ↦ inl same
      | inr within ↦ inr (within_after c e.bytes (bytes_in es) within)
    ]

-- ---- the record of a track

private_within : (at : ℕ) (entry : List ℕ) (t : Track) → IsTrackOf at entry t → IsWithin t.private.now entry
private_within at entry t is = subst (λ z. IsWithin z entry) (sym is.private.2) (go (last_among is.private.0) refl)
  where
    go : (found : Option (List ℕ)) → last_among is.private.0 ≡ found → IsWithin (bytes_found found) entry
    go None e = ([], entry, refl)
    go (Some c) e = elim (last_within 0x63A2 is.private.1.0 None c (ap last_among (sym is.private.1.2) ∙ e)) [
      | inl none ↦ let no : None ≡ Some c = none in cc
      | inr within ↦ subst (IsWithin c) (sym is.private.1.1.joined) (within_more c (bytes_in is.private.1.0) is.private.1.1.rest within)
    ]

record_within : (at : ℕ) (entry : List ℕ) (t : Track) (bytes : List ℕ) → IsTrackOf at entry t → HasRecord t bytes → IsWithin bytes entry
record_within at entry t bytes is has = elim has [
  | inl x ↦ subst (λ z. IsWithin z entry) (sym x.1) (private_within at entry t is)
  | inr x ↦ subst (λ z. IsWithin z entry) (sym x.2) (within_end 40 t.private.now entry (private_within at entry t is))
]

passes_or_not : (bytes : List ℕ) → RecordPassesParity bytes ⊎ (RecordPassesParity bytes → ⊥)
passes_or_not bytes = go (leb 6 (length bytes)) refl (eqb (remainder_of (bits_of bytes)) 0) refl
  where
    go : (a : Bool) → leb 6 (length bytes) ≡ a → (b : Bool) → eqb (remainder_of (bits_of bytes)) 0 ≡ b → RecordPassesParity bytes ⊎ (RecordPassesParity bytes → ⊥)
    go true long true none = inl (leb-true 6 (length bytes) long, eqb-true (remainder_of (bits_of bytes)) 0 none)
    go true long false some = inr (λ is. let yes : eqb (remainder_of (bits_of bytes)) 0 ≡ true = eq-eqb (remainder_of (bits_of bytes)) 0 is.1 in let no : true ≡ false = sym yes ∙ some in cc)
    go false short b e = inr (λ is. let yes : leb 6 (length bytes) ≡ true = le-leb 6 (length bytes) is.0 in let no : true ≡ false = sym yes ∙ short in cc)

part_checked : (place : ℕ) (t : Track) (found : RecordPart) (is : IsRecordPart place false t found) → HasChecked is.bytes (part_bytes (part.Record found))
part_checked place t found is = go found.is_wrong refl
  where
    size : (b : Bool) → found.is_wrong ≡ b → part_bytes (part.Record found) ≡ cond (b || false) 0 found.size
    size b e = ap (λ z. cond (z || found.is_vouched) 0 found.size) e ∙ ap (λ z. cond (b || z) 0 found.size) is.vouched_is

    go : (b : Bool) → found.is_wrong ≡ b → HasChecked is.bytes (part_bytes (part.Record found))
    go true e = subst (HasChecked is.bytes) (sym (size true e)) (checked_none is.bytes)
    go false e = elim (passes_or_not is.bytes) [
      | inl passes ↦ subst (HasChecked is.bytes) (sym (size false e ∙ is.size)) (checked_all is.bytes (inr (inr (inr passes))))
      | inr fails ↦ let wrong = is.wrong.1 (is.bytes, is.has, is.some, fails) in let no : false ≡ true = sym e ∙ wrong in absurd (cc)
    ]

entry_checked : (place at : ℕ) (entry : List ℕ) (t : Track) (own : List Part) → IsTrackOf at entry t → AreRecordPartsOf place false t own
    → HasChecked entry (checked_bytes own)
entry_checked place at entry t own is are = elim are [
  | inl x ↦
      let size : part_bytes (part.Record x.0) ≡ checked_bytes own = omega (arith, ap checked_bytes x.2, bytes_one (part.Record x.0) []) in
      subst (HasChecked entry) size (within_checked x.1.bytes entry _ (record_within at entry t x.1.bytes is x.1.has) (part_checked place t x.0 x.1))
  | inr x ↦ subst (HasChecked entry) (sym (none_zero own x.1)) (checked_none entry)
]

-- ---- the records of all tracks

element_checked : (e : ElementValue) (size : ℕ) → HasChecked (content_of e) size → HasChecked e.bytes size
element_checked e size checked = within_checked (content_of e) e.bytes size (content_within e) checked

-- the contents of TrackEntries where they begin, by whether the first element is one
abbrev entries_by : ℕ → ElementValue → List ElementValue → Bool → List PlacedBytes
entries_by from e es b =
    cond b (record { place = from + e.head.length; bytes = content_of e } ∷ placed_with 0xAE (from + length e.bytes) es) (placed_with 0xAE (from + length e.bytes) es)

-- what is known of the elements after one
abbrev Rest : ℕ → ℕ → List ElementValue → Type 0
Rest place from es = (others list : List Track) (parts : List Part) → EachIsTrack (placed_with 0xAE from es) list
    → AreRecordParts place false (each_after if_named others list) parts → HasChecked (bytes_in es) (checked_bytes parts)

records_in : (place from : ℕ) (es : List ElementValue) (before all : List Track) (records : List Part) → EachIsTrack (placed_with 0xAE from es) all
    → AreRecordParts place false (each_after if_named before all) records → HasChecked (bytes_in es) (checked_bytes records)
records_in place from [] before [] records each are = subst (HasChecked []) (sym (none_zero records are)) (checked_none [])
records_in place from [] before (t ∷ ts) records each are = absurd each
records_in place from (e ∷ es) before all records each are =
    go (λ others list parts entries are_parts. records_in place (from + length e.bytes) es others list parts entries are_parts) (eqb e.head.id 0xAE) refl
  where
    later : HasChecked (bytes_in es) (checked_bytes records) → HasChecked (bytes_in (e ∷ es)) (checked_bytes records)
    later checked =
        let same : 0 + checked_bytes records ≡ checked_bytes records = omega arith in
        subst (HasChecked (e.bytes ++ bytes_in es)) same (checked_join e.bytes (bytes_in es) 0 (checked_bytes records) (checked_none e.bytes) checked)

    named : Rest place (from + length e.bytes) es → (t : Track) (ts : List Track) (b : Bool) → is_unnamed before t ≡ b
        → EachIsTrack (entries_by from e es true) (t ∷ ts)
        → AreRecordParts place false (cond b [] (t ∷ []) ++ each_after if_named (before ++ t ∷ []) ts) records → HasChecked (bytes_in (e ∷ es)) (checked_bytes records)
    named rest t ts true is entries are = later (rest (before ++ t ∷ []) ts records entries.1 are)
    named rest t ts false is entries are =
        let size : checked_bytes are.0 + checked_bytes are.1 ≡ checked_bytes records = sym (ap checked_bytes are.2 ∙ bytes_join are.0 are.1) in
        subst (HasChecked (e.bytes ++ bytes_in es)) size
        (checked_join e.bytes (bytes_in es) _ _ (element_checked e _ (entry_checked place (from + e.head.length) (content_of e) t are.0 entries.0 are.3))
        (rest (before ++ t ∷ []) ts are.1 entries.1 are.4))

    entry : Rest place (from + length e.bytes) es → (list : List Track) → EachIsTrack (entries_by from e es true) list → AreRecordParts place false (each_after if_named before list) records
        → HasChecked (bytes_in (e ∷ es)) (checked_bytes records)
    entry rest [] entries are = absurd entries
    entry rest (t ∷ ts) entries are = named rest t ts (is_unnamed before t) refl entries are

    go : Rest place (from + length e.bytes) es → (b : Bool) → eqb e.head.id 0xAE ≡ b → HasChecked (bytes_in (e ∷ es)) (checked_bytes records)
    go rest true at = entry rest all (subst (λ z. EachIsTrack z all) (ap (entries_by from e es) at) each) are
    go rest false at = later (rest before all records (subst (λ z. EachIsTrack z all) (ap (entries_by from e es) at) each) are)

pub records_checked : (place : ℕ) (content : List ℕ) (all : List Track) (records : List Part) → AreTracksOf content all
    → AreRecordParts place false (named_tracks all) records → HasChecked content (checked_bytes records)
records_checked place content all records is are =
    let elements = is.are_entries.0 in
    let all_are = is.are_entries.1 in
    let same : checked_bytes records + 0 ≡ checked_bytes records = omega arith in
    subst (λ z. HasChecked z (checked_bytes records)) (sym all_are.joined)
    (subst (HasChecked (bytes_in elements ++ all_are.rest)) same
    (checked_join (bytes_in elements) all_are.rest (checked_bytes records) 0
    (records_in place 0 elements [] all records (subst (λ z. EachIsTrack z all) is.are_entries.2 is.each) are) (checked_none all_are.rest)))
