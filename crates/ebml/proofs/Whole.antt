-- No file that is an EBML and one Segment goes on after another.
use Rattle.std.proofs.Common.{◌≡◌, ℕ, List, [], ◌∷◌, ◌++◌, length, take, drop, refl, sym, ap, ◌∙◌, subst, arith, inl, ◌-◌, ◌<◌, Some, Option, length-take-le}
use Rattle.std.proofs.lemmas.List.{length-append, append_assoc, append_cancel_left, take-append-drop, append-nil, drop_at, nil_from_length}
use Rattle.ffv1_bits.specs.Parity.{AreBytes}
use Rattle.ffv1_bits.proofs.Bytes.{AreBytes-drop, AreBytes-rest}
use Rattle.ebml.specs.Children.{IsElement}
use Rattle.ebml.specs.Whole.{IsOneSegment, ebml_item, segment_item, OneSegmentHasItems, CutIsSeen}
use Rattle.ebml.specs.Masters.{ebml_id, segment_id}
use Rattle.ebml.specs.Items.{top_ids, IsTop, IsItem, ItemValue, bytes_of_items, AreItems}
use Rattle.ebml.specs.declared.head.Head.{Head}
use Rattle.ebml.specs.declared.items.Kind.TheVariants.{Segment, Element}
use Rattle.std.specs.Prelude.{Contains, None}
use Rattle.ebml.proofs.Elements.{front_is, within_is, one_element, front_head, long_head}
use Rattle.ebml.proofs.ItemList.{one_item, same_item, some_bytes}

pub cut_is_seen : CutIsSeen
cut_is_seen front more bytes is whole =
    let xs : List ℕ = front ++ more in
    let joined : front ++ more ≡ is.ebml ++ (is.segment ++ more) = ap (λ z. z ++ more) is.joined ∙ append_assoc is.ebml is.segment more in
    let one : IsElement is.ebml_head (take (length is.ebml) (front ++ more)) =
    subst (IsElement is.ebml_head) (sym (front_is is.ebml (is.segment ++ more) (front ++ more) joined)) is.ebml_is in
    let other : IsElement whole.ebml_head (take (length whole.ebml) (front ++ more)) =
    subst (IsElement whole.ebml_head) (sym (front_is whole.ebml whole.segment (front ++ more) whole.joined)) whole.ebml_is in
    let long : length is.ebml ≡ length whole.ebml =
    (one_element (front ++ more) is.ebml_head whole.ebml_head (length is.ebml) (length whole.ebml) bytes
    (within_is is.ebml (is.segment ++ more) (front ++ more) joined) (within_is whole.ebml whole.segment (front ++ more) whole.joined) one other).1 in
    let left : drop (length whole.ebml) (front ++ more) ≡ whole.segment = ap (drop (length whole.ebml)) whole.joined ∙ drop_at whole.ebml whole.segment (length whole.ebml) refl in
    let right : drop (length whole.ebml) (front ++ more) ≡ is.segment ++ more =
    ap (λ n. drop n (front ++ more)) (sym long) ∙ ap (drop (length is.ebml)) joined ∙ drop_at is.ebml (is.segment ++ more) (length is.ebml) refl in
    let same : whole.segment ≡ is.segment ++ more = sym left ∙ right in
    let seen : AreBytes whole.segment = subst AreBytes left (AreBytes-drop (length whole.ebml) (front ++ more) bytes) in
    let first : IsElement is.segment_head (take (length is.segment) whole.segment) =
    subst (IsElement is.segment_head) (sym (front_is is.segment more whole.segment same)) is.segment_is in
    let all : IsElement whole.segment_head (take (length whole.segment) whole.segment) =
    subst (IsElement whole.segment_head) (sym (front_is whole.segment [] whole.segment (sym (append-nil whole.segment)))) whole.segment_is in
    let ends : length is.segment ≡ length whole.segment =
    (one_element whole.segment is.segment_head whole.segment_head (length is.segment) (length whole.segment) seen
    (within_is is.segment more whole.segment same) (omega arith) first all).1 in
    nil_from_length more (omega (arith, ends, ap length same, length-append is.segment more))

-- ---- the items

ebml_top : (head : Head) (n : ℕ) → head.id ≡ ebml_id → head.size ≡ Some n → IsTop head
ebml_top head n id sized = record {
  known = subst (Contains top_ids) (sym id) (1, omega arith, refl);
  sized = λ none. let e : ◌≡◌ {A = Option ℕ} (Some n) None = sym sized ∙ none in absurd cc;
}

segment_top : (head : Head) → head.id ≡ segment_id → IsTop head
segment_top head id = record { known = subst (Contains top_ids) (sym id) (2, omega arith, refl); sized = λ none. inl id }

ebml_there : (file : List ℕ) (one : IsOneSegment file) → IsItem (Element one.ebml_head) one.ebml one.segment
ebml_there file one =
    let room = one.ebml_is.has.room in (
      record { top = ebml_top one.ebml_head (length one.ebml - one.ebml_head.length) one.ebml_id_is one.ebml_is.whole; has = one.ebml_is.has },
      λ is_segment. absurd (omega (arith, one.ebml_id_is, is_segment)),
      (length one.ebml - one.ebml_head.length, one.ebml_is.whole, omega (arith, room, length-append one.ebml one.segment)),
    )

segment_there : (file : List ℕ) (one : IsOneSegment file)
    → IsItem (Segment one.segment_head) (take one.segment_head.length one.segment) (drop one.segment_head.length one.segment)
segment_there file one = (
  record {
    top = segment_top one.segment_head one.segment_id_is;
    has = front_head one.segment one.segment_head.length one.segment_head (omega arith) one.segment_is.has;
  },
  one.segment_id_is,
  length-take-le one.segment_head.length one.segment one.segment_is.has.room,
)

after_ebml : (segment : List ℕ) (head : Head) (items : List ItemValue) (item : ItemValue) → AreBytes segment → segment ≡ bytes_of_items items
    → item.kind ≡ Segment head → item.bytes ≡ take head.length segment → 0 < length segment
    → IsItem (Segment head) (take head.length segment) (drop head.length segment) → AreItems segment items
    → (more : List ItemValue) × (items ≡ item ∷ more)
after_ebml segment head [] item bytes joined kind same some is are = absurd (omega (arith, some, ap length joined))
after_ebml segment head (x ∷ xs) item bytes joined kind same some is are =
    let first = one_item segment (take head.length segment) (drop head.length segment) x.bytes (bytes_of_items xs) (Segment head) x.kind bytes
    (sym (take-append-drop head.length segment)) joined is are.each.0 in
    (xs, ap (λ z. z ∷ xs) (same_item x item (sym first.0 ∙ sym kind) (sym first.1 ∙ sym same)))

pub one_segment_has_items : OneSegmentHasItems
one_segment_has_items file [] bytes one are =
    let some = some_bytes (Element one.ebml_head) one.ebml one.segment (ebml_there file one) in
    let long = ap length (sym one.joined ∙ are.joined) in absurd (omega (arith, some, long, length-append one.ebml one.segment))
one_segment_has_items file (x ∷ xs) bytes one are =
    let first = one_item file one.ebml one.segment x.bytes (bytes_of_items xs) (Element one.ebml_head) x.kind bytes one.joined are.joined (ebml_there file one) are.each.0 in
    let same : x ≡ ebml_item one = same_item x (ebml_item one) (sym first.0) (sym first.1) in
    let rest : one.segment ≡ bytes_of_items xs =
    append_cancel_left one.ebml one.segment (bytes_of_items xs) (sym one.joined ∙ are.joined ∙ ap (λ z. z ++ bytes_of_items xs) (sym first.1)) in
    let left : AreBytes one.segment =
    AreBytes-rest one.ebml one.segment (subst AreBytes one.joined bytes) in
    let room = one.segment_is.has.room in let long = long_head one.segment one.segment_head one.segment_is.has in
    let next = after_ebml one.segment one.segment_head xs (segment_item one) left rest refl refl (omega (arith, room, long)) (segment_there file one)
    record { joined = rest; each = are.each.1 } in
    (next.0, ap (λ z. z ∷ xs) same ∙ ap (λ z. ebml_item one ∷ z) next.1)
