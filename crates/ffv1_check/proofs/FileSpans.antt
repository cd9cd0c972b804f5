-- The bytes of a file that are counted as checked pass.
use Rattle.std.proofs.Common.{◌≡◌, ℕ, ◌+◌, ◌-◌, ◌≤◌, ◌<◌, Bool, true, false, cond, eqb, List, [], ◌∷◌, ◌++◌, length, take, drop, refl, sym, ap, ◌∙◌, subst, arith, inl, inr}
use Rattle.std.specs.Prelude.{◌⊎◌, ◌&&◌, Option, Some, None}
use Rattle.std.proofs.lemmas.Bool.{eqb-true}
use Rattle.std.proofs.lemmas.List.{take-append-drop, length-drop}
use Rattle.ffv1_bits.specs.Parity.{AreBytes}
use Rattle.ffv1_bits.proofs.Bytes.{AreBytes-drop, AreBytes-front, AreBytes-rest}
use Rattle.ebml.specs.Masters.{child_ids}
use Rattle.ebml.specs.Items.{ItemValue, bytes_of_items, EachIsItem}
use Rattle.ebml.specs.declared.head.Head.{Head}
use Rattle.ebml.specs.declared.items.Kind.{Kind}
use Rattle.ebml.specs.declared.items.Kind.TheVariants as kind
use Rattle.ebml.proofs.ItemList.{some_bytes}
use Rattle.matroska.specs.declared.track.Track.{Track}
use Rattle.matroska_parts.specs.MasterParts.{AreContentParts}
use Rattle.matroska_parts.specs.Openings.{IsCrc32Of, passes, opening_of, closing_of}
use Rattle.matroska_parts.specs.RecordParts.{AreRecordPartsOf, AreRecordParts}
use Rattle.matroska_parts.specs.ItemParts.{PlacedContent, is_tracks, content_by, first_tracks, AreNamedIn, AreTracksBy, is_at, is_uncut, AreRecordPartsIf, AreElementParts, AreItemPartsBy, AreItemParts}
use Rattle.matroska_parts.specs.declared.parts.Part.{Part}
use Rattle.matroska_parts.specs.declared.parts.Part.TheVariants as part
use Rattle.matroska_parts.specs.declared.top_elements.TopElement.TheVariants as tops
use Rattle.matroska_parts.specs.declared.parts.Crc32.{Crc32}
use Rattle.matroska_parts.specs.declared.parts.Crc32.TheVariants as crc
use Rattle.ffv1_check.specs.CheckedBytes.{part_bytes, checked_bytes}
use Rattle.ffv1_check.specs.Spans.{HasChecked, CheckedBytesPass}
use Rattle.ffv1_check.proofs.SpanSteps.{checked_none, checked_all, checked_join}
use Rattle.ffv1_check.proofs.MasterSpans.{bytes_join, bytes_one, none_zero, content_counts, tracks_zero, doc_zero}
use Rattle.ffv1_check.proofs.RecordSpans.{records_checked}

-- ---- records

record_vouched : (place : ℕ) (t : Track) (own : List Part) → AreRecordPartsOf place true t own → checked_bytes own ≡ 0
record_vouched place t own are = elim are [
  | inl x ↦
      let none : part_bytes (part.Record x.0) ≡ 0 = ap (λ b. cond b 0 x.0.size) (ap (λ b. or_by x.0.is_wrong b) x.1.vouched_is ∙ or_true x.0.is_wrong) in
      omega (arith, ap checked_bytes x.2, bytes_one (part.Record x.0) [], none)
  | inr x ↦ none_zero own x.1
]
  where
    or_by : Bool → Bool → Bool
    or_by true b = true
    or_by false b = b

    or_true : (b : Bool) → or_by b true ≡ true
    or_true true = refl
    or_true false = refl

records_vouched : (place : ℕ) (tracks : List Track) (records : List Part) → AreRecordParts place true tracks records → checked_bytes records ≡ 0
records_vouched place [] records are = none_zero records are
records_vouched place (t ∷ ts) records are =
    omega (arith, ap checked_bytes are.2, bytes_join are.0 are.1, record_vouched place t are.0 are.3, records_vouched place ts are.1 are.4)

records_vouched_if : (here : Bool) (place : ℕ) (tracks : List Track) (records : List Part) → AreRecordPartsIf here true place tracks records
    → checked_bytes records ≡ 0
records_vouched_if true place tracks records are = records_vouched place tracks records are
records_vouched_if false place tracks records are = none_zero records are

named_checked : (place : ℕ) (content : List ℕ) (tracks : List Track) (records : List Part) → AreNamedIn content tracks → AreRecordParts place false tracks records
    → HasChecked content (checked_bytes records)
named_checked place content tracks records named are = elim named [
  | inl x ↦ records_checked place content x.1.0 records x.1.1 (subst (λ z. AreRecordParts place false z records) x.1.2 are)
  | inr x ↦ subst (HasChecked content) (sym (none_zero records (subst (λ z. AreRecordParts place false z records) x.1 are))) (checked_none content)
]

-- ---- elements of the top

-- what is known of an element at the place of the first Tracks
abbrev pub IsFirst : Option PlacedContent → List Track → ℕ → Head → List ℕ → Type 0
IsFirst first tracks place head bytes = is_at place first ≡ true → (head.id ≡ 0x1654AE6B) × AreNamedIn (drop head.length bytes) tracks

element_size : (first : Option PlacedContent) (tracks : List Track) (place : ℕ) (head : Head) (bytes : List ℕ) (parts : List Part)
    → (are : AreElementParts first tracks place head bytes parts)
    → checked_bytes parts ≡ checked_bytes are.content + (checked_bytes are.records + cond (passes are.crc32) (length bytes - head.length) 0)
element_size first tracks place head bytes parts are =
    omega (
      arith,
      ap checked_bytes are.joined,
      bytes_one (part.Begin (opening_of place are.element head)) (are.content ++ (are.doc ++ (are.records ++ part.End (closing_of place are.element head bytes are.crc32) ∷ []))),
      bytes_join are.content (are.doc ++ (are.records ++ part.End (closing_of place are.element head bytes are.crc32) ∷ [])),
      bytes_join are.doc (are.records ++ part.End (closing_of place are.element head bytes are.crc32) ∷ []),
      bytes_join are.records (part.End (closing_of place are.element head bytes are.crc32) ∷ []),
      bytes_one (part.End (closing_of place are.element head bytes are.crc32)) [],
      doc_zero are.element place (drop head.length bytes) are.doc are.doc_is,
    )

-- what stands after its head
after_head : (n size : ℕ) (bytes : List ℕ) → HasChecked (drop n bytes) size → HasChecked bytes size
after_head n size bytes checked =
    let same : 0 + size ≡ size = omega arith in
    subst (λ z. HasChecked z size) (take-append-drop n bytes)
    (subst (HasChecked (take n bytes ++ drop n bytes)) same (checked_join (take n bytes) (drop n bytes) 0 size (checked_none (take n bytes)) checked))

-- its CRC-32 does not pass
open_checked : (first : Option PlacedContent) (tracks : List Track) (place : ℕ) (head : Head) (bytes : List ℕ) (content records : List Part) (here : Bool)
    → AreBytes bytes → (here ≡ true → (head.id ≡ 0x1654AE6B) × AreNamedIn (drop head.length bytes) tracks)
    → AreContentParts head.id tracks false (place + head.length) (drop head.length bytes) content → AreRecordPartsIf here false (place + head.length) tracks records
    → HasChecked (drop head.length bytes) (checked_bytes content + checked_bytes records)
open_checked first tracks place head bytes content records true are_bytes is are records_are =
    let content_bytes : AreBytes (drop head.length bytes) = AreBytes-drop head.length bytes are_bytes in
    let none : checked_bytes content ≡ 0 =
    tracks_zero tracks false (place + head.length) (drop head.length bytes) content content_bytes
    (subst (λ id. AreContentParts id tracks false (place + head.length) (drop head.length bytes) content) (is refl).0 are) in
    let size : checked_bytes records ≡ checked_bytes content + checked_bytes records = omega (arith, none) in
    subst (HasChecked (drop head.length bytes)) size (named_checked (place + head.length) (drop head.length bytes) tracks records (is refl).1 records_are)
open_checked first tracks place head bytes content records false are_bytes is are records_are =
    let size : checked_bytes content ≡ checked_bytes content + checked_bytes records = omega (arith, none_zero records records_are) in
    subst (HasChecked (drop head.length bytes)) size (content_counts tracks false (child_ids head.id) (place + head.length) (drop head.length bytes) content are)

both_first : (a b : Bool) → (a && b) ≡ true → a ≡ true
both_first true b is = refl
both_first false b is = cc

by_crc32 : (first : Option PlacedContent) (tracks : List Track) (place : ℕ) (head : Head) (bytes : List ℕ) (c : Crc32) (content records : List Part)
    → AreBytes bytes → IsFirst first tracks place head bytes → IsCrc32Of head bytes c
    → AreContentParts head.id tracks (passes c) (place + head.length) (drop head.length bytes) content
    → AreRecordPartsIf (is_at place first && is_uncut c) (passes c) (place + head.length) tracks records
    → HasChecked bytes (checked_bytes content + (checked_bytes records + cond (passes c) (length bytes - head.length) 0))
by_crc32 first tracks place head bytes crc.Passes content records are_bytes is crc32 are records_are =
    let size : length (drop head.length bytes) ≡ checked_bytes content + (checked_bytes records + (length bytes - head.length)) =
    omega (
      arith,
      content_counts tracks true (child_ids head.id) (place + head.length) (drop head.length bytes) content are,
      records_vouched_if (is_at place first && true) (place + head.length) tracks records records_are,
      length-drop head.length bytes,
    ) in
    after_head head.length _ bytes (subst (HasChecked (drop head.length bytes)) size (checked_all (drop head.length bytes) (inl crc32.2)))
by_crc32 first tracks place head bytes crc.Cut content records are_bytes is crc32 are records_are =
    let size : checked_bytes content + checked_bytes records ≡ checked_bytes content + (checked_bytes records + 0) = omega arith in
    after_head head.length _ bytes (subst (HasChecked (drop head.length bytes)) size
    (open_checked first tracks place head bytes content records (is_at place first && false) are_bytes (λ at. is (both_first (is_at place first) false at)) are records_are))
by_crc32 first tracks place head bytes crc.Absent content records are_bytes is crc32 are records_are =
    let size : checked_bytes content + checked_bytes records ≡ checked_bytes content + (checked_bytes records + 0) = omega arith in
    after_head head.length _ bytes (subst (HasChecked (drop head.length bytes)) size
    (open_checked first tracks place head bytes content records (is_at place first && true) are_bytes (λ at. is (both_first (is_at place first) true at)) are records_are))
by_crc32 first tracks place head bytes crc.Fails content records are_bytes is crc32 are records_are =
    let size : checked_bytes content + checked_bytes records ≡ checked_bytes content + (checked_bytes records + 0) = omega arith in
    after_head head.length _ bytes (subst (HasChecked (drop head.length bytes)) size
    (open_checked first tracks place head bytes content records (is_at place first && true) are_bytes (λ at. is (both_first (is_at place first) true at)) are records_are))

element_checked : (first : Option PlacedContent) (tracks : List Track) (place : ℕ) (head : Head) (bytes : List ℕ) (parts : List Part) → AreBytes bytes
    → IsFirst first tracks place head bytes → AreElementParts first tracks place head bytes parts → HasChecked bytes (checked_bytes parts)
element_checked first tracks place head bytes parts are_bytes is are =
    subst (HasChecked bytes) (sym (element_size first tracks place head bytes parts are))
    (by_crc32 first tracks place head bytes are.crc32 are.content are.records are_bytes is are.crc32_is are.content_is are.records_are)

-- ---- items

-- what is known of an item at the place of the first Tracks
abbrev pub IsFirstBy : Option PlacedContent → List Track → ℕ → Kind → List ℕ → Type 0
IsFirstBy first tracks place (kind.Element head) bytes = IsFirst first tracks place head bytes
IsFirstBy first tracks place (kind.Endless head) bytes = is_at place first ≡ false
IsFirstBy first tracks place _ bytes = Unit {0}

item_checked : (first : Option PlacedContent) (tracks : List Track) (place : ℕ) (k : Kind) (bytes : List ℕ) (parts : List Part) → AreBytes bytes
    → IsFirstBy first tracks place k bytes → AreItemPartsBy k first tracks place bytes parts → HasChecked bytes (checked_bytes parts)
item_checked first tracks place (kind.Segment head) bytes parts are_bytes is are =
    let none : 0 ≡ checked_bytes parts = omega (arith, ap checked_bytes are, bytes_one (part.Begin (opening_of place tops.Segment head)) []) in
    subst (HasChecked bytes) none (checked_none bytes)
item_checked first tracks place (kind.Element head) bytes parts are_bytes is are = element_checked first tracks place head bytes parts are_bytes is are
item_checked first tracks place (kind.Endless head) bytes parts are_bytes is are =
    element_checked first tracks place head bytes parts are_bytes (λ at. let no : true ≡ false = sym at ∙ is in absurd (cc)) are
item_checked first tracks place kind.Unknown bytes parts are_bytes is are =
    let none : 0 ≡ checked_bytes parts = omega (arith, ap checked_bytes are, bytes_one (part.Unknown record { place = place; size = length bytes }) []) in
    subst (HasChecked bytes) none (checked_none bytes)

-- the first Tracks lies before a place, or is that of the items from there on
abbrev pub Stands : Option PlacedContent → ℕ → List ItemValue → Type 0
Stands first place items = ((found : PlacedContent) × (first ≡ Some found) × (found.place < place)) ⊎ (first ≡ first_tracks place items)

first_least : (place : ℕ) (items : List ItemValue) (found : PlacedContent) → first_tracks place items ≡ Some found → place ≤ found.place
first_least place [] found is = cc
first_least place (i ∷ items) found is = go (λ same. first_least (place + length i.bytes) items found same) (is_tracks i.kind) is
  where
    go : (first_tracks (place + length i.bytes) items ≡ Some found → place + length i.bytes ≤ found.place) → (b : Bool)
        → cond b (Some record { place = place; content = content_by i.kind i.bytes }) (first_tracks (place + length i.bytes) items) ≡ Some found
        → place ≤ found.place
    go later true same = let at : place ≡ found.place = cc in omega (arith, at)
    go later false same = omega (arith, later same)

not_at : (place : ℕ) (first : Option PlacedContent) → ((found : PlacedContent) → first ≡ Some found → found.place ≡ place → ⊥) → is_at place first ≡ false
not_at place None apart = refl
not_at place (Some found) apart = go (eqb found.place place) refl
  where
    go : (b : Bool) → eqb found.place place ≡ b → b ≡ false
    go true e = absurd (apart found refl (eqb-true found.place place e))
    go false e = refl

not_first : (first : Option PlacedContent) (tracks : List Track) (place : ℕ) (k : Kind) (bytes : List ℕ) → is_at place first ≡ false
    → IsFirstBy first tracks place k bytes
not_first first tracks place (kind.Segment head) bytes none = tt
not_first first tracks place (kind.Element head) bytes none = λ at. let no : true ≡ false = sym at ∙ none in absurd (cc)
not_first first tracks place (kind.Endless head) bytes none = none
not_first first tracks place kind.Unknown bytes none = tt

is_first : (first : Option PlacedContent) (tracks : List Track) (place : ℕ) (k : Kind) (bytes : List ℕ) → is_tracks k ≡ true
    → first ≡ Some record { place = place; content = content_by k bytes } → AreTracksBy first tracks → IsFirstBy first tracks place k bytes
is_first first tracks place (kind.Element head) bytes t is named = λ at. (eqb-true head.id 0x1654AE6B t, subst (λ z. AreTracksBy z tracks) is named)
is_first first tracks place (kind.Segment head) bytes t is named = tt
is_first first tracks place (kind.Endless head) bytes t is named = cc
is_first first tracks place kind.Unknown bytes t is named = tt

-- what is known of an item, and of those after it
pub item_stands : (first : Option PlacedContent) (tracks : List Track) → AreTracksBy first tracks → (place : ℕ) (i : ItemValue) (items : List ItemValue)
    → Stands first place (i ∷ items) → 0 < length i.bytes → IsFirstBy first tracks place i.kind i.bytes × Stands first (place + length i.bytes) items
item_stands first tracks named place i items stands some = elim stands [
  | inl x ↦
      let none : is_at place first ≡ false =
      not_at place first (λ one at same. let is : Some x.0 ≡ Some one = sym x.1 ∙ at in let equal : x.0.place ≡ one.place = cc in omega (arith, same, equal, x.2)) in
      (not_first first tracks place i.kind i.bytes none, inl (x.0, x.1, omega (arith, x.2)))
  | inr is ↦ by_kind (is_tracks i.kind) refl is
]
  where
    by_kind : (b : Bool) → is_tracks i.kind ≡ b → first ≡ first_tracks place (i ∷ items) → IsFirstBy first tracks place i.kind i.bytes × Stands first (place + length i.bytes) items
    by_kind true t is =
        let found : first ≡ Some record { place = place; content = content_by i.kind i.bytes } =
        is ∙ ap (λ b. cond b (Some record { place = place; content = content_by i.kind i.bytes }) (first_tracks (place + length i.bytes) items)) t in
        (is_first first tracks place i.kind i.bytes t found named, inl (record { place = place; content = content_by i.kind i.bytes }, found, omega (arith, some)))
    by_kind false t is =
        let found : first ≡ first_tracks (place + length i.bytes) items =
        is ∙ ap (λ b. cond b (Some record { place = place; content = content_by i.kind i.bytes }) (first_tracks (place + length i.bytes) items)) t in
        let none : is_at place first ≡ false =
        not_at place first (λ one at same. omega (arith, some, same, first_least (place + length i.bytes) items one (sym found ∙ at))) in
        (not_first first tracks place i.kind i.bytes none, inr found)

items_checked : (first : Option PlacedContent) (tracks : List Track) → AreTracksBy first tracks → (place : ℕ) (items : List ItemValue) (parts : List Part)
    → AreBytes (bytes_of_items items) → EachIsItem items → Stands first place items → AreItemParts first tracks place items parts
    → HasChecked (bytes_of_items items) (checked_bytes parts)
items_checked first tracks named place [] parts are_bytes each stands are = subst (HasChecked []) (sym (none_zero parts are)) (checked_none [])
items_checked first tracks named place (i ∷ items) parts are_bytes each stands are =
    let some = some_bytes i.kind i.bytes (bytes_of_items items) each.0 in
    let here : AreBytes i.bytes = AreBytes-front i.bytes (bytes_of_items items) are_bytes in
    let later : AreBytes (bytes_of_items items) =
    AreBytes-rest i.bytes (bytes_of_items items) are_bytes in
    let both = item_stands first tracks named place i items stands some in
    let size : checked_bytes are.0 + checked_bytes are.1 ≡ checked_bytes parts = sym (ap checked_bytes are.2 ∙ bytes_join are.0 are.1) in
    subst (HasChecked (i.bytes ++ bytes_of_items items)) size
    (checked_join i.bytes (bytes_of_items items) _ _ (item_checked first tracks place i.kind i.bytes are.0 here both.0 are.3)
    (items_checked first tracks named (place + length i.bytes) items are.1 later each.1 both.1 are.4))

pub checked_bytes_pass : CheckedBytesPass
checked_bytes_pass file report bytes is =
    let items = is.are_parts.are_items in
    subst (HasChecked file) (sym is.is_report.bytes)
    (subst (λ z. HasChecked z (checked_bytes is.parts)) (sym items.joined)
    (items_checked (first_tracks 0 is.are_parts.items) is.tracks is.are_parts.tracks_are 0 is.are_parts.items is.parts (subst AreBytes items.joined bytes) items.each (inr refl)
    is.are_parts.parts_are))
