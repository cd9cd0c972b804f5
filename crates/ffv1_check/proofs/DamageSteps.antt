-- Small damage of an element with a CRC-32 is seen: the items before it and its own bounds are as before.
use Rattle.std.proofs.Common.{◌≡◌, ℕ, ◌+◌, ◌≤◌, List, [], ◌∷◌, ◌++◌, length, take, drop, refl, sym, ap, ◌∙◌, subst, arith, inl, inr}
use Rattle.std.specs.Prelude.{Option, Some, None}
use Rattle.std.specs.List.{AllByRecursion}
use Rattle.std.proofs.lemmas.Bool.{cases_lt}
use Rattle.std.proofs.lemmas.List.{length-append, length-drop, append_assoc, append_cancel_left, drop-take, take-take, take-append-drop}
use Rattle.ffv1_bits.specs.Parity.{AreBytes}
use Rattle.ffv1_bits.proofs.Bytes.{AreBytes-drop, AreBytes-rest, AreBytes-front, AreBytes-middle}
use Rattle.ebml.specs.Masters.{child_ids}
use Rattle.ebml.specs.Head.{HasHead, IsHead}
use Rattle.ebml.specs.Items.{ItemValue, IsItem, bytes_of_items, EachIsItem, AreItems}
use Rattle.ebml.specs.CrcElement.{HasCrc32, PassesCrc32}
use Rattle.ebml.specs.declared.head.Head.{Head}
use Rattle.ebml.specs.declared.items.Kind.{Kind}
use Rattle.ebml.specs.declared.items.Kind.TheVariants as kind
use Rattle.ebml.proofs.ItemList.{one_item, some_bytes, same_item, items_are_one}
use Rattle.ebml.proofs.CrcElements.{burst_seen}
use Rattle.matroska.specs.declared.track.Track.{Track}
use Rattle.matroska_parts.specs.declared.parts.Part.{Part}
use Rattle.matroska_parts.specs.declared.parts.Crc32.{Crc32}
use Rattle.matroska_parts.specs.declared.parts.Crc32.TheVariants as crc
use Rattle.matroska_parts.specs.Openings.{IsCut, HasOneBy, HasOne, IsCrc32Of}
use Rattle.matroska_parts.specs.ItemParts.{PlacedContent, first_tracks, AreItemPartsBy, AreItemParts}
use Rattle.ffv1_check.specs.Checks.{SmallDamageIsSeen}
use Rattle.ffv1_check.proofs.CutSteps.{IsQuiet, all_front, whole_parts, not_cut, item_local}

-- ---- the items before

pub bytes_append : (xs ys : List ItemValue) → bytes_of_items (xs ++ ys) ≡ bytes_of_items xs ++ bytes_of_items ys
bytes_append [] ys = refl
bytes_append (x ∷ xs) ys = ap (λ z. x.bytes ++ z) (bytes_append xs ys) ∙ sym (append_assoc x.bytes (bytes_of_items xs) (bytes_of_items ys))

same_front : (first : Option PlacedContent) (tracks : List Track) (place : ℕ) (before rest items : List ItemValue) (parts : List Part) (xs : List ℕ)
    → AreBytes (bytes_of_items before ++ xs) → EachIsItem (before ++ rest) → AreItemParts first tracks place (before ++ rest) parts → AllByRecursion IsQuiet parts
    → AreItems (bytes_of_items before ++ xs) items → (left : List ItemValue) × (items ≡ before ++ left) × AreItems xs left
same_front first tracks place [] rest items parts xs bytes each are quiet are_items = (items, refl, are_items)
same_front first tracks place (i ∷ is) rest [] parts xs bytes each are quiet are_items =
    let some = some_bytes i.kind i.bytes (bytes_of_items (is ++ rest)) each.0 in
    let none = ap length are_items.joined in
    absurd (omega (arith, some, none, length-append i.bytes (bytes_of_items is), length-append (bytes_of_items (i ∷ is)) xs))
same_front first tracks place (i ∷ is) rest (b ∷ bs) parts xs bytes each are quiet are_items =
    let split = all_front IsQuiet are.0 are.1 (subst (AllByRecursion IsQuiet) are.2 quiet) in
    let at : bytes_of_items (i ∷ is) ++ xs ≡ i.bytes ++ (bytes_of_items is ++ xs) = append_assoc i.bytes (bytes_of_items is) xs in
    let local : IsItem i.kind i.bytes (bytes_of_items is ++ xs) =
    item_local i.kind first tracks place i.bytes (bytes_of_items (is ++ rest)) (bytes_of_items is ++ xs) are.0 each.0 are.3 split.0 in
    let one = one_item (bytes_of_items (i ∷ is) ++ xs) i.bytes (bytes_of_items is ++ xs) b.bytes (bytes_of_items bs) i.kind b.kind bytes at are_items.joined local are_items.each.0 in
    let rests : bytes_of_items is ++ xs ≡ bytes_of_items bs =
    append_cancel_left b.bytes (bytes_of_items is ++ xs) (bytes_of_items bs) (ap (λ z. z ++ (bytes_of_items is ++ xs)) (sym one.1) ∙ sym at ∙ are_items.joined) in
    let left_bytes : AreBytes (bytes_of_items is ++ xs) =
    AreBytes-rest i.bytes (bytes_of_items is ++ xs) (subst AreBytes at bytes) in
    let later = same_front first tracks (place + length i.bytes) is rest bs are.1 xs left_bytes each.1 are.4 split.1 record { joined = rests; each = are_items.each.1 } in
    (later.0, ap (λ z. z ∷ bs) (sym (same_item i b one.0 one.1)) ∙ ap (λ z. i ∷ z) later.1, later.2)

-- the parts of an item among others
record PartsAt (k : Kind) (first : Option PlacedContent) (tracks : List Track) (bytes : List ℕ) : Type 0 where
  pub place : ℕ
  pub own : List Part
  pub are : AreItemPartsBy k first tracks place bytes own
  pub quiet : AllByRecursion IsQuiet own

parts_at : (first : Option PlacedContent) (tracks : List Track) (place : ℕ) (before : List ItemValue) (item : ItemValue) (after : List ItemValue) (parts : List Part)
    → AreItemParts first tracks place (before ++ item ∷ after) parts → AllByRecursion IsQuiet parts → PartsAt item.kind first tracks item.bytes
parts_at first tracks place [] item after parts are quiet =
    record { place = place; own = are.0; are = are.3; quiet = (all_front IsQuiet are.0 are.1 (subst (AllByRecursion IsQuiet) are.2 quiet)).0 }
parts_at first tracks place (i ∷ is) item after parts are quiet =
    parts_at first tracks (place + length i.bytes) is item after are.1 are.4 (all_front IsQuiet are.0 are.1 (subst (AllByRecursion IsQuiet) are.2 quiet)).1

pub each_at : (before : List ItemValue) (item : ItemValue) (after : List ItemValue) → EachIsItem (before ++ item ∷ after) → IsItem item.kind item.bytes (bytes_of_items after)
each_at [] item after each = each.0
each_at (i ∷ is) item after each = each_at is item after each.1

-- ---- CRC-32s

has_crc : (ids : Option (List ℕ)) (content : List ℕ) → HasOneBy ids content → HasCrc32 content
has_crc None content has = absurd has
has_crc (Some ids) content has = has

has_same : (ids : Option (List ℕ)) (content other : List ℕ) → HasOneBy ids content → HasCrc32 other → HasOneBy ids other
has_same None content other has is = absurd has
has_same (Some ids) content other has is = is

passes_by : (head : Head) (bytes : List ℕ) (c : Crc32) → IsCrc32Of head bytes c → (c ≡ crc.Fails → ⊥) → (IsCut head bytes → ⊥) → HasOne head (drop head.length bytes)
    → PassesCrc32 (drop head.length bytes)
passes_by head bytes crc.Cut is fails cut has = absurd (cut is)
passes_by head bytes crc.Absent is fails cut has = absurd (is.1 has)
passes_by head bytes crc.Passes is fails cut has = is.2
passes_by head bytes crc.Fails is fails cut has = absurd (fails refl)

-- how an element stands of which nothing is said
record QuietElement (head : Head) (bytes : List ℕ) : Type 0 where
  pub cut : IsCut head bytes → ⊥
  pub passes : HasOne head (drop head.length bytes) → PassesCrc32 (drop head.length bytes)

quiet_element : (first : Option PlacedContent) (tracks : List Track) (head : Head) (bytes : List ℕ) → PartsAt (kind.Element head) first tracks bytes → QuietElement head bytes
quiet_element first tracks head bytes at =
    let are = at.are in
    let all = subst (AllByRecursion IsQuiet) are.joined at.quiet in
    let after_content = (all_front IsQuiet are.content _ all.1).1 in
    let after_doc = (all_front IsQuiet are.doc _ after_content).1 in
    let at_end = (all_front IsQuiet are.records _ after_doc).1 in
    let cut = not_cut head bytes are.crc32 are.crc32_is at_end.0.0 in
    record { cut = cut; passes = passes_by head bytes are.crc32 are.crc32_is at_end.0.1 cut }

-- ---- the damaged element

take_less : (n m : ℕ) (xs ys : List ℕ) → n ≤ m → take m xs ≡ take m ys → take n xs ≡ take n ys
take_less n m xs ys less same = sym (take-take n m xs less) ∙ ap (take n) same ∙ take-take n m ys less

pub element_other : (head : Head) (element other rest : List ℕ) → IsItem (kind.Element head) element rest → (IsCut head element → ⊥) → length other ≡ length element
    → take head.length other ≡ take head.length element → IsItem (kind.Element head) other rest
element_other head element other rest is cut long front =
    let room = is.0.has.room in
    let has : HasHead other head = record { room = omega (arith, room, long); is = subst (IsHead head.id head.size) (sym front) is.0.has.is } in
    let full = elim (cases_lt (length element) (head.length + is.2.0)) as (λ _. head.length + is.2.0 ≤ length element) [
      | inl short ↦ absurd (cut (is.2.0, is.2.1, short))
      | inr all ↦ all
    ] in
    let size = is.2.2 in
    (record { top = is.0.top; has = has }, is.1, (is.2.0, is.2.1, omega (arith, full, size, long, length-append element rest, length-append other rest)))

-- the same of the damaged element, where nothing is said of its file
other_passes : (first : Option PlacedContent) (tracks : List Track) (before left : List ItemValue) (head : Head) (other rest : List ℕ) (parts : List Part)
    → AreBytes (other ++ rest) → IsItem (kind.Element head) other rest → AreItems (other ++ rest) left → AreItemParts first tracks 0 (before ++ left) parts
    → AllByRecursion IsQuiet parts → HasOne head (drop head.length other) → PassesCrc32 (drop head.length other)
other_passes first tracks before [] head other rest parts bytes is left are quiet =
    let some = some_bytes (kind.Element head) other rest is in
    let none = ap length left.joined in absurd (omega (arith, some, none, length-append other rest))
other_passes first tracks before (l ∷ ls) head other rest parts bytes is left are quiet =
    let one = one_item (other ++ rest) other rest l.bytes (bytes_of_items ls) (kind.Element head) l.kind bytes refl left.joined is left.each.0 in
    let at = parts_at first tracks 0 before l ls parts are quiet in
    let here : PartsAt (kind.Element head) first tracks other =
    subst (λ z. PartsAt z first tracks other) (sym one.0) (subst (λ z. PartsAt l.kind first tracks z) (sym one.1) at) in
    (quiet_element first tracks head other here).passes

pub small_damage_is_seen : SmallDamageIsSeen
small_damage_is_seen file damaged a b bytes_a bytes_b d is_a is_b whole_a whole_b =
    let quiet_a = (whole_parts is_a.tracks (length file) is_a.parts a is_a.is_report whole_a).quiet in
    let quiet_b = (whole_parts is_b.tracks (length damaged) is_b.parts b is_b.is_report whole_b).quiet in
    let item : ItemValue = record { kind = kind.Element d.head; bytes = d.element } in
    let items = items_are_one file is_a.are_parts.items d.items bytes_a is_a.are_parts.are_items d.are_items ∙ d.at in
    let each : EachIsItem (d.before ++ record { kind = kind.Element d.head; bytes = d.element } ∷ d.after) = subst EachIsItem d.at d.are_items.each in
    let parts_a = subst (λ z. AreItemParts (first_tracks 0 is_a.are_parts.items) is_a.tracks 0 z is_a.parts) items is_a.are_parts.parts_are in
    let at_a = parts_at (first_tracks 0 is_a.are_parts.items) is_a.tracks 0 d.before item d.after is_a.parts parts_a quiet_a in
    let element_a = quiet_element (first_tracks 0 is_a.are_parts.items) is_a.tracks d.head d.element at_a in
    let content : List ℕ = drop d.head.length d.element in
    let crc_a = has_crc (child_ids d.head.id) content d.has in
    let same_length = d.within.same_length in
    let long : length d.other ≡ length d.element =
    omega (arith, crc_a.0, same_length, length-drop d.head.length d.element, length-drop d.head.length d.other) in
    let front : take d.head.length d.other ≡ take d.head.length d.element = take_less d.head.length (d.head.length + 2) d.other d.element (omega arith) d.front in
    let is_other : IsItem (kind.Element d.head) d.other (bytes_of_items d.after) =
    element_other d.head d.element d.other (bytes_of_items d.after) (each_at d.before item d.after each) element_a.cut long front in
    let bytes : AreBytes (bytes_of_items d.before ++ (d.other ++ bytes_of_items d.after)) = subst AreBytes d.damaged_is bytes_b in
    let left = same_front (first_tracks 0 is_a.are_parts.items) is_a.tracks 0 d.before (item ∷ d.after) is_b.are_parts.items is_a.parts (d.other ++ bytes_of_items d.after) bytes each parts_a quiet_a
    (subst (λ z. AreItems z is_b.are_parts.items) d.damaged_is is_b.are_parts.are_items) in
    let left_bytes : AreBytes (d.other ++ bytes_of_items d.after) =
    AreBytes-rest (bytes_of_items d.before) (d.other ++ bytes_of_items d.after) bytes in
    let passes_b = other_passes (first_tracks 0 is_b.are_parts.items) is_b.tracks d.before left.0 d.head d.other (bytes_of_items d.after) is_b.parts left_bytes is_other left.2
    (subst (λ z. AreItemParts (first_tracks 0 is_b.are_parts.items) is_b.tracks 0 z is_b.parts) left.1 is_b.are_parts.parts_are) quiet_b in
    let two : take 2 (drop d.head.length d.other) ≡ take 2 (drop d.head.length d.element) =
    sym (drop-take d.head.length 2 d.other) ∙ ap (drop d.head.length) d.front ∙ drop-take d.head.length 2 d.element in
    let crc_b : HasCrc32 (drop d.head.length d.other) = (omega (arith, crc_a.0, same_length), two ∙ crc_a.1) in
    let element_bytes : AreBytes d.element =
    AreBytes-middle (bytes_of_items d.before) d.element (bytes_of_items d.after) (subst AreBytes (d.are_items.joined ∙ ap bytes_of_items d.at ∙ bytes_append d.before (item ∷ d.after)) bytes_a) in
    let other_bytes : AreBytes d.other = AreBytes-front d.other (bytes_of_items d.after) left_bytes in
    let same = burst_seen (drop d.head.length d.element) (drop d.head.length d.other) d.place (AreBytes-drop d.head.length d.element element_bytes)
    (AreBytes-drop d.head.length d.other other_bytes) d.within (element_a.passes d.has) (passes_b (has_same (child_ids d.head.id) content (drop d.head.length d.other) d.has crc_b)) in
    let one : d.element ≡ d.other =
    sym (take-append-drop d.head.length d.element) ∙ ap (λ z. z ++ drop d.head.length d.element) (sym front) ∙ ap (λ z. take d.head.length d.other ++ z) same
    ∙ take-append-drop d.head.length d.other in
    d.are_items.joined ∙ ap bytes_of_items d.at ∙ bytes_append d.before (item ∷ d.after)
    ∙ ap (λ z. bytes_of_items d.before ++ (z ++ bytes_of_items d.after)) one ∙ sym d.damaged_is
