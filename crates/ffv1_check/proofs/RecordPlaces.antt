-- The records of a file stand where its parts say.
use Rattle.std.proofs.Common.{◌≡◌, ℕ, ◌+◌, ◌-◌, ◌≤◌, ◌<◌, min, Bool, true, false, cond, eqb, List, [], ◌∷◌, ◌++◌, length, map, take, drop, refl, sym, ap, ◌∙◌, subst, arith, inl, inr}
use Rattle.std.specs.Prelude.{◌&&◌, filter, Option, Some, None, option_map, Contains}
use Rattle.std.specs.List.{AllByRecursion, fold}
use Rattle.std.proofs.lemmas.List.{append_assoc, length-append, length-drop, take_at, drop_at, drop-drop, drop-append-le}
use Rattle.std.proofs.lemmas.List.Elements.{All-contains_itself, recursion_from_All}
use Rattle.std.proofs.lemmas.Bool.{and_parts}
use Rattle.ffv1_bits.specs.Parity.{AreBytes}
use Rattle.ffv1_bits.proofs.Bytes.{AreBytes-drop, AreBytes-front, AreBytes-rest}
use Rattle.ebml.specs.Children.{IsElement}
use Rattle.ebml.specs.Contents.{ElementValue, contents_with, PlacedBytes, placed_with, AreContentsAt, last_among}
use Rattle.ebml.specs.Masters.{child_ids}
use Rattle.ebml.specs.Items.{ItemValue, IsItem, bytes_of_items, EachIsItem}
use Rattle.ebml.specs.declared.head.Head.{Head}
use Rattle.ebml.specs.declared.items.Kind.{Kind}
use Rattle.ebml.specs.declared.items.Kind.TheVariants as kind
use Rattle.ebml.proofs.ContentList.{elements_are_one, bytes_in}
use Rattle.ebml.proofs.ItemList.{some_bytes}
use Rattle.matroska.specs.Tracks.{bytes_found, place_found, IsTrackOf, EachIsTrack, HasRecord}
use Rattle.matroska.specs.NamedTracks.{each_after, is_unnamed}
use Rattle.matroska.specs.declared.track.Track.{Track}
use Rattle.matroska_parts.specs.declared.parts.Part.{Part}
use Rattle.matroska_parts.specs.declared.top_elements.TopElement.{TopElement}
use Rattle.matroska_parts.specs.declared.top_elements.TopElement.TheVariants as tops
use Rattle.matroska_parts.specs.Openings.{passes, AreDocParts}
use Rattle.matroska_parts.specs.RecordParts.{record_place, AreRecordPartsOf, AreRecordParts}
use Rattle.matroska_parts.specs.ItemParts.{PlacedContent, tracks_limit, first_tracks, AreNamedIn, AreTracksBy, is_at, is_uncut, AreRecordPartsIf, AreElementParts, AreItemPartsBy, AreItemParts}
use Rattle.matroska_parts.proofs.InnerSteps.{all_append}
use Rattle.matroska_parts.proofs.ContentSteps.{content_good}
use Rattle.matroska_parts.proofs.RecordSteps.{record_ends}
use Rattle.ffv1_check.specs.Spans.{bytes_at}
use Rattle.ffv1_check.specs.RecordPlaces.{IsRecordThere, RecordsAreThere}
use Rattle.ffv1_check.proofs.FileSpans.{IsFirst, IsFirstBy, Stands, item_stands}
use Rattle.ffv1_check.proofs.TrackOne.{if_named, all_weaker}

-- ---- bytes that stand at a place

record StandAt (bytes : List ℕ) (place : ℕ) (piece : List ℕ) : Type 0 where
  pub more : List ℕ
  pub there : drop place bytes ≡ piece ++ more

stand_in : (bytes : List ℕ) (place : ℕ) (piece : List ℕ) (n : ℕ) (inner : List ℕ) → StandAt bytes place piece → n ≤ length piece → StandAt piece n inner → StandAt bytes (place + n) inner
stand_in bytes place piece n inner outer room is = record {
  more = is.more ++ outer.more;
  there = sym (drop-drop n place bytes) ∙ ap (drop n) outer.there ∙ drop-append-le n piece outer.more room ∙ ap (λ z. z ++ outer.more) is.there
      ∙ append_assoc inner is.more outer.more;
}

stand_after : (n : ℕ) (bytes : List ℕ) → StandAt bytes n (drop n bytes)
stand_after n bytes = record { more = []; there = sym (nothing_after (drop n bytes)) }
  where
    nothing_after : (xs : List ℕ) → xs ++ [] ≡ xs
    nothing_after [] = refl
    nothing_after (x ∷ xs) = ap (λ z. x ∷ z) (nothing_after xs)

bytes_there : (bytes : List ℕ) (place : ℕ) (piece : List ℕ) → StandAt bytes place piece → take (length piece) (drop place bytes) ≡ piece
bytes_there bytes place piece is = ap (take (length piece)) is.there ∙ take_at piece is.more (length piece) refl

-- ---- the contents of elements

-- it begins so many bytes after a place, and stands there
record IsThereFrom (bytes : List ℕ) (place : ℕ) (it : PlacedBytes) : Type 0 where
  pub after : ℕ
  pub place_is : it.place ≡ place + after
  pub room : after ≤ length bytes
  pub stands : StandAt bytes after it.bytes

placed_there : (id place : ℕ) (elements : List ElementValue) (rest : List ℕ) → AllByRecursion (λ element. IsElement element.head element.bytes) elements
    → AllByRecursion (IsThereFrom (bytes_in elements ++ rest) place) (placed_with id place elements)
placed_there id place [] rest each = tt
placed_there id place (e ∷ es) rest each =
    let all : List ℕ = bytes_in (e ∷ es) ++ rest in
    let joined : bytes_in (e ∷ es) ++ rest ≡ e.bytes ++ (bytes_in es ++ rest) = append_assoc e.bytes (bytes_in es) rest in
    let room = each.0.has.room in
    let long = length-append e.bytes (bytes_in es ++ rest) in
    let first : IsThereFrom (e.bytes ++ (bytes_in es ++ rest)) place record { place = place + e.head.length; bytes = drop e.head.length e.bytes } = record {
      after = e.head.length;
      place_is = refl;
      room = omega (arith, room, long);
      stands = record { more = bytes_in es ++ rest; there = drop-append-le e.head.length e.bytes (bytes_in es ++ rest) room };
    } in
    let later : AllByRecursion (IsThereFrom (e.bytes ++ (bytes_in es ++ rest)) place) (placed_with id (place + length e.bytes) es) =
    all_weaker (IsThereFrom (bytes_in es ++ rest) (place + length e.bytes)) (IsThereFrom (e.bytes ++ (bytes_in es ++ rest)) place)
    (λ it is. moved e.bytes (bytes_in es ++ rest) place it is) (placed_with id (place + length e.bytes) es) (placed_there id (place + length e.bytes) es rest each.1) in
    subst (λ z. AllByRecursion (IsThereFrom z place) (placed_with id place (e ∷ es))) (sym joined)
    (elim (eqb e.head.id id) as (λ b. AllByRecursion (IsThereFrom (e.bytes ++ (bytes_in es ++ rest)) place)
    (cond b (record { place = place + e.head.length; bytes = drop e.head.length e.bytes } ∷ placed_with id (place + length e.bytes) es) (placed_with id (place + length e.bytes) es))) [
      | true ↦ (first, later)
      | false ↦ later
    ])
  where
    moved : (front later : List ℕ) (place : ℕ) (it : PlacedBytes) → IsThereFrom later (place + length front) it → IsThereFrom (front ++ later) place it
    moved front later place it is =
        let at = is.place_is in
        let room = is.room in
        record {
          after = length front + is.after;
          place_is = omega (arith, at);
          room = omega (arith, room, length-append front later);
          stands = record {
            more = is.stands.more;
            there = sym (drop-drop is.after (length front) (front ++ later)) ∙ ap (drop is.after) (drop_at front later (length front) refl) ∙ is.stands.there;
          };
        }

contents_there : (id place : ℕ) (bytes : List ℕ) (placed : List PlacedBytes) → AreContentsAt id place bytes placed → AllByRecursion (IsThereFrom bytes place) placed
contents_there id place bytes placed are =
    subst (AllByRecursion (IsThereFrom bytes place)) (sym are.2)
    (subst (λ z. AllByRecursion (IsThereFrom z place) (placed_with id place are.0)) (sym are.1.joined) (placed_there id place are.0 are.1.rest are.1.each))

-- the last content and the last place are of one element
abbrev its_bytes : PlacedBytes → List ℕ
its_bytes it = it.bytes

same_contents : (id place : ℕ) (elements : List ElementValue) → contents_with id elements ≡ map its_bytes (placed_with id place elements)
same_contents id place [] = refl
same_contents id place (e ∷ es) =
    let rest = same_contents id (place + length e.bytes) es in
    elim (eqb e.head.id id) as (λ b. map (λ (element : ElementValue). drop element.head.length element.bytes) (cond b (e ∷ filter (λ element. eqb element.head.id id) es) (filter (λ element. eqb element.head.id id) es))
    ≡ map its_bytes (cond b (record { place = place + e.head.length; bytes = drop e.head.length e.bytes } ∷ placed_with id (place + length e.bytes) es) (placed_with id (place + length e.bytes) es))) [
      | true ↦ ap (λ z. drop e.head.length e.bytes ∷ z) rest
      | false ↦ rest
    ]

last_of_map : (found : Option PlacedBytes) (placed : List PlacedBytes) → fold (λ _ x. Some x) (option_map its_bytes found) (map its_bytes placed) ≡ option_map its_bytes (fold (λ _ x. Some x) found placed)
last_of_map found [] = refl
last_of_map found (p ∷ ps) = last_of_map (Some p) ps

last_there : (P : PlacedBytes → Type 0) (found : Option PlacedBytes) (placed : List PlacedBytes) (it : PlacedBytes) → ((x : PlacedBytes) → found ≡ Some x → P x)
    → AllByRecursion P placed → fold (λ _ x. Some x) found placed ≡ Some it → P it
last_there P found [] it so_far all is = so_far it is
last_there P found (p ∷ ps) it so_far all is =
    last_there P (Some p) ps it (λ x same. let one : p ≡ x = cc in subst P one all.0) all.1 is

-- ---- the record of a track

-- a record that is not empty stands where it is said to, in the content of its Tracks
abbrev HasItThere : List ℕ → Track → Type 0
HasItThere content track = (bytes : List ℕ) → HasRecord track bytes → 0 < length bytes → StandAt content (record_place 0 track (length bytes)) bytes

-- its CodecPrivate stands where it is said to
record PrivateThere (entry : List ℕ) (place : ℕ) (track : Track) : Type 0 where
  pub after : ℕ
  pub place_is : track.private_at ≡ min (place + after) 0xFFFFFFFF
  pub room : after ≤ length entry
  pub stands : StandAt entry after track.private.now

private_there : (place : ℕ) (entry : List ℕ) (track : Track) → AreBytes entry → IsTrackOf place entry track → 0 < length track.private.now → PrivateThere entry place track
private_there place entry track bytes is some =
    let elements = elements_are_one entry is.private.1.0 is.private_at.1.0 bytes is.private.1.1 is.private_at.1.1 in
    let contents : is.private.0 ≡ map its_bytes is.private_at.0 =
    is.private.1.2 ∙ ap (contents_with 0x63A2) elements ∙ same_contents 0x63A2 place is.private_at.1.0 ∙ ap (map its_bytes) (sym is.private_at.1.2) in
    let private : track.private.now ≡ bytes_found (option_map its_bytes (last_among is.private_at.0)) =
    is.private.2 ∙ ap (λ z. bytes_found (last_among z)) contents ∙ ap bytes_found (last_of_map None is.private_at.0) in
    go (last_among is.private_at.0) refl private is.private_at.2
  where
    go : (found : Option PlacedBytes) → last_among is.private_at.0 ≡ found → track.private.now ≡ bytes_found (option_map its_bytes found)
        → track.private_at ≡ place_found found → PrivateThere entry place track
    go None e none at = absurd (omega (arith, some, ap length none))
    go (Some it) e same at =
        let there = last_there (IsThereFrom entry place) None is.private_at.0 it (λ x no. cc) (contents_there 0x63A2 place entry is.private_at.0 is.private_at.1) e in
        record {
          after = there.after;
          place_is = at ∙ ap (λ n. min n 0xFFFFFFFF) there.place_is;
          room = there.room;
          stands = subst (StandAt entry there.after) (sym same) there.stands;
        }

record_in_private : (track : Track) (bytes : List ℕ) → HasRecord track bytes → 0 < length bytes → StandAt track.private.now (length track.private.now - length bytes) bytes
record_in_private track bytes has some = elim has [
  | inl x ↦
      let none : length track.private.now - length bytes ≡ 0 = omega (arith, ap length x.1) in
      subst (λ n. StandAt track.private.now n bytes) (sym none) (subst (StandAt track.private.now 0) (sym x.1) (stand_after 0 track.private.now))
  | inr x ↦
      let forty : length track.private.now - length bytes ≡ 40 = omega (arith, some, ap length x.2, length-drop 40 track.private.now) in
      subst (λ n. StandAt track.private.now n bytes) (sym forty) (subst (StandAt track.private.now 40) (sym x.2) (stand_after 40 track.private.now))
]

track_there : (content : List ℕ) (entry : PlacedBytes) (track : Track) → length content ≤ tracks_limit → AreBytes content → IsThereFrom content 0 entry
    → IsTrackOf entry.place entry.bytes track → HasItThere content track
track_there content entry track short bytes there is = λ record' has some.
    let ends = record_ends track record' has in
    let less = ends.0 in
    let entry_at = there.place_is in
    let entry_room = there.room in
    let whole : AreBytes (entry.bytes ++ there.stands.more) = subst AreBytes there.stands.there (AreBytes-drop there.after content bytes) in
    let private = private_there entry.place entry.bytes track (AreBytes-front entry.bytes there.stands.more whole) is (omega (arith, some, less)) in
    let outer = stand_in content there.after entry.bytes private.after track.private.now there.stands private.room private.stands in
    let inner = stand_in content (there.after + private.after) track.private.now (length track.private.now - length record') record' outer (omega arith)
    (record_in_private track record' has some) in
    let at = private.place_is in
    let room = private.room in
    let lengths = ap length there.stands.there in
    let place : there.after + private.after + (length track.private.now - length record') ≡ record_place 0 track (length record') =
    omega (arith, at, room, entry_at, entry_room, short, lengths, length-drop there.after content, length-append entry.bytes there.stands.more) in
    subst (λ n. StandAt content n record') place inner

tracks_there : (content : List ℕ) (entries : List PlacedBytes) (all : List Track) → length content ≤ tracks_limit → AreBytes content
    → AllByRecursion (IsThereFrom content 0) entries → EachIsTrack entries all → AllByRecursion (HasItThere content) all
tracks_there content [] [] short bytes there each = tt
tracks_there content [] (t ∷ ts) short bytes there each = absurd each
tracks_there content (e ∷ es) [] short bytes there each = absurd each
tracks_there content (e ∷ es) (t ∷ ts) short bytes there each =
    (track_there content e t short bytes there.0 each.0, tracks_there content es ts short bytes there.1 each.1)

named_there : (P : Track → Type 0) (before all : List Track) → AllByRecursion P all → AllByRecursion P (each_after if_named before all)
named_there P before [] each = tt
named_there P before (t ∷ ts) each =
    let rest = named_there P (before ++ t ∷ []) ts each.1 in
    elim (is_unnamed before t) as (λ b. AllByRecursion P (cond b [] (t ∷ []) ++ each_after if_named (before ++ t ∷ []) ts)) [ true ↦ rest | false ↦ (each.0, rest) ]

named_in_there : (content : List ℕ) (tracks : List Track) → AreBytes content → AreNamedIn content tracks → AllByRecursion (HasItThere content) tracks
named_in_there content tracks bytes named = elim named [
  | inl x ↦ subst (AllByRecursion (HasItThere content)) (sym x.1.2) (named_there (HasItThere content) [] x.1.0
      (tracks_there content x.1.1.entries x.1.0 x.0 bytes (contents_there 0xAE 0 content x.1.1.entries x.1.1.are_entries) x.1.1.each))
  | inr x ↦ subst (AllByRecursion (HasItThere content)) (sym x.1) tt
]

-- ---- the parts of a file

module _ (file : List ℕ) (tracks : List Track) where
  abbrev There : Part → Type 0
  There p = IsRecordThere file tracks p

  none_there : (parts : List Part) → parts ≡ [] → AllByRecursion (IsRecordThere file tracks) parts
  none_there parts none = subst (AllByRecursion (IsRecordThere file tracks)) (sym none) tt

  -- the record of one track, in a content that stands at this place
  record_there : (place : ℕ) (vouched : Bool) (content more : List ℕ) (t : Track) (own : List Part) → drop place file ≡ content ++ more → Contains tracks t
      → HasItThere content t → AreRecordPartsOf place vouched t own → AllByRecursion (IsRecordThere file tracks) own
  record_there place vouched content more t own at one there is = elim is [
    | inl x ↦
        let some = x.1.some in
        let n : ℕ = record_place 0 t (length x.1.bytes) in
        let stands = there x.1.bytes x.1.has x.1.some in
        let within : record_place 0 t (length x.1.bytes) ≤ length content =
        omega (arith, some, ap length stands.there, length-append x.1.bytes stands.more, length-drop (record_place 0 t (length x.1.bytes)) content) in
        let inner : drop (place + record_place 0 t (length x.1.bytes)) file ≡ x.1.bytes ++ (stands.more ++ more) =
        sym (drop-drop (record_place 0 t (length x.1.bytes)) place file) ∙ ap (drop (record_place 0 t (length x.1.bytes))) at
        ∙ drop-append-le (record_place 0 t (length x.1.bytes)) content more within ∙ ap (λ z. z ++ more) stands.there ∙ append_assoc x.1.bytes stands.more more in
        let place_is = x.1.at in
        let begins : x.0.place ≡ place + record_place 0 t (length x.1.bytes) = omega (arith, place_is) in
        let bytes : bytes_at file record { place = x.0.place; size = x.0.size } ≡ x.1.bytes =
        ap (λ p. take x.0.size (drop p file)) begins ∙ ap (λ m. take m (drop (place + record_place 0 t (length x.1.bytes)) file)) x.1.size
        ∙ ap (take (length x.1.bytes)) inner ∙ take_at x.1.bytes (stands.more ++ more) (length x.1.bytes) refl in
        subst (AllByRecursion (IsRecordThere file tracks)) (sym x.2) ((t, one, x.1.named, subst (HasRecord t) (sym bytes) x.1.has), tt)
    | inr x ↦ none_there own x.1
  ]

  records_there : (place : ℕ) (vouched : Bool) (content more : List ℕ) (ts : List Track) (records : List Part) → drop place file ≡ content ++ more
      → AllByRecursion (Contains tracks) ts → AllByRecursion (HasItThere content) ts → AreRecordParts place vouched ts records → AllByRecursion (IsRecordThere file tracks) records
  records_there place vouched content more [] records at all there are = none_there records are
  records_there place vouched content more (t ∷ ts) records at all there are =
      subst (AllByRecursion (IsRecordThere file tracks)) (sym are.2)
      (all_append (IsRecordThere file tracks) are.0 are.1 (record_there place vouched content more t are.0 at all.0 there.0 are.3)
      (records_there place vouched content more ts are.1 at all.1 there.1 are.4))

  records_if_there : (here vouched : Bool) (place : ℕ) (content more : List ℕ) (records : List Part) → drop place file ≡ content ++ more
      → (here ≡ true → AllByRecursion (HasItThere content) tracks) → AreRecordPartsIf here vouched place tracks records → AllByRecursion (IsRecordThere file tracks) records
  records_if_there true vouched place content more records at there are =
      records_there place vouched content more tracks records at (recursion_from_All (Contains tracks) tracks (All-contains_itself tracks)) (there refl) are
  records_if_there false vouched place content more records at there are = none_there records are

  ebml_there : (place : ℕ) (content : List ℕ) (parts : List Part) → AreDocParts tops.Ebml place content parts → AllByRecursion (IsRecordThere file tracks) parts
  ebml_there place content parts are = elim are [ inl x ↦ none_there parts x.1 | inr x ↦ subst (AllByRecursion (IsRecordThere file tracks)) (sym x.1) (tt, tt) ]

  doc_there : (element : TopElement) (place : ℕ) (content : List ℕ) (parts : List Part) → AreDocParts element place content parts
      → AllByRecursion (IsRecordThere file tracks) parts
  doc_there tops.Ebml place content parts are = ebml_there place content parts are
  doc_there tops.Segment place content parts are = none_there parts are
  doc_there tops.SeekHead place content parts are = none_there parts are
  doc_there tops.Info place content parts are = none_there parts are
  doc_there tops.Tracks place content parts are = none_there parts are
  doc_there tops.Cues place content parts are = none_there parts are
  doc_there tops.Cluster place content parts are = none_there parts are
  doc_there tops.Attachments place content parts are = none_there parts are
  doc_there tops.Chapters place content parts are = none_there parts are
  doc_there tops.Tags place content parts are = none_there parts are
  doc_there tops.Void place content parts are = none_there parts are

  module _ (first : Option PlacedContent) where
    element_there : (place : ℕ) (head : Head) (bytes more : List ℕ) (parts : List Part) → drop place file ≡ bytes ++ more → head.length ≤ length bytes → AreBytes bytes
        → IsFirst first tracks place head bytes → AreElementParts first tracks place head bytes parts → AllByRecursion (IsRecordThere file tracks) parts
    element_there place head bytes more parts at room are_bytes is are =
        let inner : drop (place + head.length) file ≡ drop head.length bytes ++ more =
        sym (drop-drop head.length place file) ∙ ap (drop head.length) at ∙ drop-append-le head.length bytes more room in
        let content = content_good tracks (passes are.crc32) (λ _ ps. AllByRecursion (IsRecordThere file tracks) ps) (λ _. tt)
        (λ _ _ ps qs xs ys. all_append (IsRecordThere file tracks) ps qs xs ys) (λ _ span. (tt, tt)) (λ _ t. (tt, tt)) (λ _ _ _ found _. (tt, tt)) (child_ids head.id)
        (place + head.length) (drop head.length bytes) are.content are.content_is in
        let doc = doc_there are.element place (drop head.length bytes) are.doc are.doc_is in
        let records = records_if_there (is_at place first && is_uncut are.crc32) (passes are.crc32) (place + head.length) (drop head.length bytes) more are.records inner
        (λ here. named_in_there (drop head.length bytes) tracks (AreBytes-drop head.length bytes are_bytes) (is (and_parts (is_at place first) (is_uncut are.crc32) here).0).1) are.records_are in
        subst (AllByRecursion (IsRecordThere file tracks)) (sym are.joined) (
          tt,
          all_append (IsRecordThere file tracks) are.content _ content (all_append (IsRecordThere file tracks) are.doc _ doc
              (all_append (IsRecordThere file tracks) are.records _ records (tt, tt))),
        )

    item_there : (place : ℕ) (k : Kind) (bytes following more : List ℕ) (parts : List Part) → drop place file ≡ bytes ++ more → IsItem k bytes following → AreBytes bytes
        → IsFirstBy first tracks place k bytes → AreItemPartsBy k first tracks place bytes parts → AllByRecursion (IsRecordThere file tracks) parts
    item_there place (kind.Segment head) bytes following more parts at item are_bytes is are = subst (AllByRecursion (IsRecordThere file tracks)) (sym are) (tt, tt)
    item_there place (kind.Element head) bytes following more parts at item are_bytes is are = element_there place head bytes more parts at item.0.has.room are_bytes is are
    item_there place (kind.Endless head) bytes following more parts at item are_bytes is are =
        element_there place head bytes more parts at item.0.has.room are_bytes (λ here. let no : true ≡ false = sym here ∙ is in absurd (cc)) are
    item_there place kind.Unknown bytes following more parts at item are_bytes is are = subst (AllByRecursion (IsRecordThere file tracks)) (sym are) (tt, tt)

    items_there : AreTracksBy first tracks → (place : ℕ) (items : List ItemValue) (parts : List Part) → drop place file ≡ bytes_of_items items → AreBytes (bytes_of_items items)
        → EachIsItem items → Stands first place items → AreItemParts first tracks place items parts → AllByRecursion (IsRecordThere file tracks) parts
    items_there named place [] parts at are_bytes each stands are = none_there parts are
    items_there named place (i ∷ items) parts at are_bytes each stands are =
        let some = some_bytes i.kind i.bytes (bytes_of_items items) each.0 in
        let both = item_stands first tracks named place i items stands some in
        let later : drop (place + length i.bytes) file ≡ bytes_of_items items =
        sym (drop-drop (length i.bytes) place file) ∙ ap (drop (length i.bytes)) at ∙ drop_at i.bytes (bytes_of_items items) (length i.bytes) refl in
        subst (AllByRecursion (IsRecordThere file tracks)) (sym are.2)
        (all_append (IsRecordThere file tracks) are.0 are.1
        (item_there place i.kind i.bytes (bytes_of_items items) (bytes_of_items items) are.0 at each.0 (AreBytes-front i.bytes (bytes_of_items items) are_bytes) both.0 are.3)
        (items_there named (place + length i.bytes) items are.1 later (AreBytes-rest i.bytes (bytes_of_items items) are_bytes) each.1 both.1 are.4))

pub records_are_there : RecordsAreThere
records_are_there file tracks parts bytes are =
    items_there file tracks (first_tracks 0 are.items) are.tracks_are 0 are.items parts are.are_items.joined (subst AreBytes are.are_items.joined bytes) are.are_items.each (inr refl)
    are.parts_are
