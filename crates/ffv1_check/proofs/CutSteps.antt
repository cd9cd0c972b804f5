-- A cut is seen: the first Segment of a whole file ends with it, and begins alike in all that begins with the file.
use Rattle.std.proofs.Common.{◌≡◌, ℕ, ◌+◌, ◌-◌, min, Bool, true, false, cond, eqb, List, [], ◌∷◌, ◌++◌, length, drop, refl, sym, ap, ◌∙◌, subst, arith, inl, inr}
use Rattle.std.specs.Prelude.{Option, Some, None, IsSome, is_some, option_map, IsTrue}
use Rattle.std.specs.List.{AllByRecursion}
use Rattle.std.proofs.lemmas.Bool.{eqb-true, cases_lt}
use Rattle.std.proofs.lemmas.List.{length-append, append_assoc, append_cancel_left, nil_from_length}
use Rattle.ffv1_bits.specs.Parity.{AreBytes}
use Rattle.ffv1_bits.proofs.Bytes.{AreBytes-rest}
use Rattle.ebml.specs.Masters.{child_ids, segment_id}
use Rattle.ebml.specs.Items.{ItemValue, IsItem, bytes_of_items, AreItems}
use Rattle.ebml.specs.declared.head.Head.{Head}
use Rattle.ebml.specs.declared.items.Kind.{Kind}
use Rattle.ebml.specs.declared.items.Kind.TheVariants as kind
use Rattle.ebml.proofs.ItemList.{one_item, some_bytes, whole_items_are_local}
use Rattle.matroska.specs.declared.track.Track.{Track}
use Rattle.matroska.specs.NamedTracks.{each_after}
use Rattle.matroska_parts.specs.TopElements.{top_element_of}
use Rattle.matroska_parts.specs.declared.top_elements.TopElement.{TopElement}
use Rattle.matroska_parts.specs.declared.top_elements.TopElement.TheVariants as tops
use Rattle.matroska_parts.specs.declared.parts.Part.{Part}
use Rattle.matroska_parts.specs.declared.parts.Part.TheVariants as part
use Rattle.matroska_parts.specs.declared.parts.Opening.{Opening}
use Rattle.matroska_parts.specs.declared.parts.Closing.{Closing}
use Rattle.matroska_parts.specs.declared.parts.Crc32.{Crc32}
use Rattle.matroska_parts.specs.declared.parts.Crc32.TheVariants as crc
use Rattle.matroska_parts.specs.Openings.{opening_of, IsCut, IsCrc32Of}
use Rattle.matroska_parts.specs.ItemParts.{PlacedContent, AreElementParts, AreItemPartsBy, AreItemParts}
use Rattle.matroska_parts.proofs.InnerSteps.{all_append, content_by, doc_below, records_if}
use Rattle.matroska_parts.proofs.MasterSteps.{same_some}
use Rattle.ffv1_check.specs.declared.findings.Finding.{Finding}
use Rattle.ffv1_check.specs.declared.findings.Finding.TheVariants as found
use Rattle.ffv1_check.specs.declared.report.Report.{Report}
use Rattle.ffv1_check.specs.Before.{first_of, if_segment, segment_in, first_segment}
use Rattle.ffv1_check.specs.PartFindings.{is_misplaced, closing_by, lines_at, lines_of_part, lines_of_parts}
use Rattle.ffv1_check.specs.Reports.{segment_findings, end_findings, no_track_findings, IsReportOf}
use Rattle.ffv1_check.specs.Checks.{CutFileIsSeen}

-- ---- parts of which nothing is said

abbrev pub IsQuiet : Part → Type 0
IsQuiet (part.Unknown span) = ⊥
IsQuiet (part.Begin opening) = IsSome opening.end
IsQuiet (part.Timestamp timestamp) = Unit {0}
IsQuiet (part.Block block) = Unit {0}
IsQuiet (part.Record r) = Unit {0}
IsQuiet (part.NoMatroska place) = Unit {0}
IsQuiet (part.End closing) = (closing.crc32 ≡ crc.Cut → ⊥) × (closing.crc32 ≡ crc.Fails → ⊥)

sized_by : (place : ℕ) (misplaced : Bool) (end : Option ℕ) (a b : Finding)
    → lines_at place (cond misplaced (a ∷ []) [] ++ cond (is_some end) [] (b ∷ [])) ≡ [] → IsSome end
sized_by place true end a b e = cc
sized_by place false None a b e = cc
sized_by place false (Some n) a b e = refl

not_said : (before : List Part) (closing : Closing) (c : Crc32) → lines_at closing.place (closing_by c before closing) ≡ []
    → (c ≡ crc.Cut → ⊥) × (c ≡ crc.Fails → ⊥)
not_said before closing crc.Cut e = cc
not_said before closing crc.Absent e = ((λ is. cc), (λ is. cc))
not_said before closing crc.Passes e = ((λ is. cc), (λ is. cc))
not_said before closing crc.Fails e = cc

part_quiet : (before : List Part) (p : Part) → lines_of_part before p ≡ [] → IsQuiet p
part_quiet before (part.Unknown span) e = cc
part_quiet before (part.Begin opening) e =
    sized_by opening.place (is_misplaced before opening.element) opening.end (found.Misplaced opening.element) (found.Endless opening.element) e
part_quiet before (part.Timestamp timestamp) e = tt
part_quiet before (part.Block block) e = tt
part_quiet before (part.Record r) e = tt
part_quiet before (part.NoMatroska place) e = tt
part_quiet before (part.End closing) e = not_said before closing closing.crc32 e

pub both_empty : {X : Type 0} (xs ys : List X) → xs ++ ys ≡ [] → (xs ≡ []) × (ys ≡ [])
both_empty [] ys e = (refl, e)
both_empty (x ∷ xs) ys e = cc

each_quiet : (before parts : List Part) → each_after lines_of_part before parts ≡ [] → AllByRecursion IsQuiet parts
each_quiet before [] e = tt
each_quiet before (p ∷ ps) e =
    let both = both_empty (lines_of_part before p) (each_after lines_of_part (before ++ p ∷ []) ps) e in
    (part_quiet before p both.0, each_quiet (before ++ p ∷ []) ps both.1)

pub all_front : {X : Type 0} (P : X → Type 0) (xs ys : List X) → AllByRecursion P (xs ++ ys) → AllByRecursion P xs × AllByRecursion P ys
all_front P [] ys all = (tt, all)
all_front P (x ∷ xs) ys all = let rest = all_front P xs ys all.1 in ((all.0, rest.0), rest.1)

-- ---- the first Segment

first_append : (xs ys : List Part) → first_segment (xs ++ ys) ≡ first_of (first_segment xs) (first_segment ys)
first_append [] ys = refl
first_append (x ∷ xs) ys = ap (first_of (segment_in x)) (first_append xs ys) ∙ assoc (segment_in x) (first_segment xs) (first_segment ys)
  where
    assoc : (a b c : Option Opening) → first_of a (first_of b c) ≡ first_of (first_of a b) c
    assoc None b c = refl
    assoc (Some o) b c = refl

sized_segment : (e : TopElement) (opening o : Opening) → IsSome opening.end → if_segment opening e ≡ Some o → IsSome o.end
sized_segment tops.Segment opening o some is = let same : opening ≡ o = cc in subst (λ z. IsSome z.end) same some
sized_segment tops.Ebml opening o some is = cc
sized_segment tops.SeekHead opening o some is = cc
sized_segment tops.Info opening o some is = cc
sized_segment tops.Tracks opening o some is = cc
sized_segment tops.Cues opening o some is = cc
sized_segment tops.Cluster opening o some is = cc
sized_segment tops.Attachments opening o some is = cc
sized_segment tops.Chapters opening o some is = cc
sized_segment tops.Tags opening o some is = cc
sized_segment tops.Void opening o some is = cc

sized_first : (opening : Opening) (ps : List Part) (o : Opening) (s : Option Opening) → if_segment opening opening.element ≡ s → IsSome opening.end
    → first_of s (first_segment ps) ≡ Some o → (first_segment ps ≡ Some o → IsSome o.end) → IsSome o.end
sized_first opening ps o None e some is later = later is
sized_first opening ps o (Some p) e some is later = sized_segment opening.element opening o some (e ∙ is)

first_sized : (parts : List Part) (o : Opening) → AllByRecursion IsQuiet parts → first_segment parts ≡ Some o → IsSome o.end
first_sized [] o quiet is = cc
first_sized (part.Unknown span ∷ ps) o quiet is = absurd quiet.0
first_sized (part.Begin opening ∷ ps) o quiet is =
    sized_first opening ps o (if_segment opening opening.element) refl quiet.0 is (first_sized ps o quiet.1)
first_sized (part.Timestamp timestamp ∷ ps) o quiet is = first_sized ps o quiet.1 is
first_sized (part.Block block ∷ ps) o quiet is = first_sized ps o quiet.1 is
first_sized (part.Record r ∷ ps) o quiet is = first_sized ps o quiet.1 is
first_sized (part.NoMatroska place ∷ ps) o quiet is = first_sized ps o quiet.1 is
first_sized (part.End closing ∷ ps) o quiet is = first_sized ps o quiet.1 is

end_by : (size : ℕ) (o : Opening) (end : Option ℕ) → lines_at size (end_findings size end) ≡ [] → IsSome end → end ≡ Some size
end_by size o None e some = cc
end_by size o (Some n) e some = go (eqb n size) refl e
  where
    go : (b : Bool) → eqb n size ≡ b → lines_at size (cond b [] (found.End n ∷ [])) ≡ [] → Some n ≡ Some size
    go true is none = ap (λ (m : ℕ). Some m) (eqb-true n size is)
    go false is none = cc

pub lines_append : (size : ℕ) (xs ys : List Finding) → lines_at size (xs ++ ys) ≡ lines_at size xs ++ lines_at size ys
lines_append size [] ys = refl
lines_append size (x ∷ xs) ys = ap (λ z. record { place = size; finding = x } ∷ z) (lines_append size xs ys)

-- a whole file says nothing of its parts, and its first Segment ends with it
pub record WholeParts (size : ℕ) (parts : List Part) : Type 0 where
  pub quiet : AllByRecursion IsQuiet parts
  pub opening : Opening
  pub first : first_segment parts ≡ Some opening
  pub ends : opening.end ≡ Some size

segment_there : (size : ℕ) (parts : List Part) (seg : Option Opening) → AllByRecursion IsQuiet parts → first_segment parts ≡ seg
    → lines_at size (segment_findings size seg) ≡ [] → WholeParts size parts
segment_there size parts None quiet first e = cc
segment_there size parts (Some o) quiet first e =
    record { quiet = quiet; opening = o; first = first; ends = end_by size o o.end e (first_sized parts o quiet first) }

pub whole_parts : (tracks : List Track) (size : ℕ) (parts : List Part) (report : Report) → IsReportOf tracks size parts report → IsTrue report.is_whole → WholeParts size parts
whole_parts tracks size parts report is whole =
    let none = (is.whole.0 whole).no_line in
    let both = both_empty (lines_of_parts parts) (lines_at size (segment_findings size (first_segment parts) ++ no_track_findings (length tracks))) none in
    let at_end = both_empty (lines_at size (segment_findings size (first_segment parts))) (lines_at size (no_track_findings (length tracks)))
    (sym (lines_append size (segment_findings size (first_segment parts)) (no_track_findings (length tracks))) ∙ both.1) in
    segment_there size parts (first_segment parts) (each_quiet [] parts both.0) refl at_end.0

-- ---- an element is no Segment

known_segment : (b c d e f g h i j k l : Bool)
    → cond b (Some tops.Ebml) (cond c (Some tops.Segment) (cond d (Some tops.SeekHead) (cond e (Some tops.Info) (cond f (Some tops.Tracks) (cond g (Some tops.Cues)
    (cond h (Some tops.Cluster) (cond i (Some tops.Attachments) (cond j (Some tops.Chapters) (cond k (Some tops.Tags) (cond l (Some tops.Void) None)))))))))) ≡ Some tops.Segment
    → c ≡ true
known_segment true c d e f g h i j k l is = cc
known_segment false true d e f g h i j k l is = refl
known_segment false false true e f g h i j k l is = cc
known_segment false false false true f g h i j k l is = cc
known_segment false false false false true g h i j k l is = cc
known_segment false false false false false true h i j k l is = cc
known_segment false false false false false false true i j k l is = cc
known_segment false false false false false false false true j k l is = cc
known_segment false false false false false false false false true k l is = cc
known_segment false false false false false false false false false true l is = cc
known_segment false false false false false false false false false false true is = cc
known_segment false false false false false false false false false false false is = cc

is_segment : (id : ℕ) → top_element_of id ≡ Some tops.Segment → id ≡ segment_id
is_segment id known = eqb-true id segment_id (known_segment _ (eqb id segment_id) _ _ _ _ _ _ _ _ _ known)

no_segment_by : (e : TopElement) (opening : Opening) → (e ≡ tops.Segment → ⊥) → if_segment opening e ≡ None
no_segment_by tops.Segment opening isnt = absurd (isnt refl)
no_segment_by tops.Ebml opening isnt = refl
no_segment_by tops.SeekHead opening isnt = refl
no_segment_by tops.Info opening isnt = refl
no_segment_by tops.Tracks opening isnt = refl
no_segment_by tops.Cues opening isnt = refl
no_segment_by tops.Cluster opening isnt = refl
no_segment_by tops.Attachments opening isnt = refl
no_segment_by tops.Chapters opening isnt = refl
no_segment_by tops.Tags opening isnt = refl
no_segment_by tops.Void opening isnt = refl

abbrev BeginsNone : Part → Type 0
BeginsNone p = segment_in p ≡ None

none_first : (parts : List Part) → AllByRecursion BeginsNone parts → first_segment parts ≡ None
none_first [] none = refl
none_first (p ∷ ps) none = ap (λ o. first_of o (first_segment ps)) none.0 ∙ none_first ps none.1

element_first : (first : Option PlacedContent) (tracks : List Track) (place : ℕ) (head : Head) (bytes : List ℕ) (parts : List Part)
    → AreElementParts first tracks place head bytes parts → (head.id ≡ segment_id → ⊥) → first_segment parts ≡ None
element_first first tracks place head bytes parts are isnt =
    let content = content_by tracks BeginsNone (λ s. refl) (λ t. refl) (λ b is. refl) (λ r. refl) (λ p. refl) (child_ids head.id) _ (place + head.length) (drop head.length bytes)
    are.content are.content_is in
    let doc = doc_below tracks BeginsNone (λ s. refl) (λ t. refl) (λ b is. refl) (λ r. refl) (λ p. refl) are.element place (drop head.length bytes) are.doc are.doc_is in
    let records = records_if tracks BeginsNone (λ s. refl) (λ t. refl) (λ b is. refl) (λ r. refl) (λ p. refl) _ _ (place + head.length) are.records are.records_are in
    let other : are.element ≡ tops.Segment → ⊥ = λ e. isnt (is_segment head.id (are.known ∙ ap (λ (z : TopElement). Some z) e)) in
    none_first parts (subst (AllByRecursion BeginsNone) (sym are.joined) (
      no_segment_by are.element (opening_of place are.element head) other,
      all_append BeginsNone are.content _ content (all_append BeginsNone are.doc _ doc (all_append BeginsNone are.records _ records (refl, tt))),
    ))

-- ---- items of a whole file are the same whatever follows it

pub not_cut : (head : Head) (bytes : List ℕ) (c : Crc32) → IsCrc32Of head bytes c → (c ≡ crc.Cut → ⊥) → IsCut head bytes → ⊥
not_cut head bytes crc.Cut is isnt = absurd (isnt refl)
not_cut head bytes crc.Absent is isnt = is.0
not_cut head bytes crc.Passes is isnt = is.0
not_cut head bytes crc.Fails is isnt = is.0

pub whole_by : (head : Head) (bytes rest : List ℕ) (size : ℕ) → head.size ≡ Some size → length bytes ≡ min (head.length + size) (length (bytes ++ rest))
    → (IsCut head bytes → ⊥) → head.size ≡ Some (length bytes - head.length)
whole_by head bytes rest size is long whole =
    elim (cases_lt (length bytes) (head.length + size)) [
      | inl short ↦ absurd (whole (size, is, short))
      | inr full ↦ let same : size ≡ length bytes - head.length = omega (arith, long, full) in is ∙ ap (λ (n : ℕ). Some n) same
    ]

element_local : (first : Option PlacedContent) (tracks : List Track) (place : ℕ) (head : Head) (bytes rest more : List ℕ) (own : List Part)
    → IsItem (kind.Element head) bytes rest → AreElementParts first tracks place head bytes own → AllByRecursion IsQuiet own → IsItem (kind.Element head) bytes more
element_local first tracks place head bytes rest more own is are quiet =
    let all = subst (AllByRecursion IsQuiet) are.joined quiet in
    let after_content = (all_front IsQuiet are.content _ all.1).1 in
    let after_doc = (all_front IsQuiet are.doc _ after_content).1 in
    let at_end = (all_front IsQuiet are.records _ after_doc).1 in
    whole_items_are_local head bytes rest more is (whole_by head bytes rest is.2.0 is.2.1 is.2.2 (not_cut head bytes are.crc32 are.crc32_is at_end.0.0))

endless_told : (place : ℕ) (head : Head) → head.size ≡ None → IsSome (option_map (λ size. place + head.length + size) head.size) → ⊥
endless_told place head none some =
    let no : is_some (option_map (λ size. place + head.length + size) head.size) ≡ false = ap (λ o. is_some (option_map (λ size. place + head.length + size) o)) none in
    let wrong : true ≡ false = sym some ∙ no in cc

pub item_local : (k : Kind) (first : Option PlacedContent) (tracks : List Track) (place : ℕ) (bytes rest more : List ℕ) (own : List Part) → IsItem k bytes rest
    → AreItemPartsBy k first tracks place bytes own → AllByRecursion IsQuiet own → IsItem k bytes more
item_local (kind.Segment head) first tracks place bytes rest more own is are quiet = is
item_local (kind.Element head) first tracks place bytes rest more own is are quiet = element_local first tracks place head bytes rest more own is are quiet
item_local (kind.Endless head) first tracks place bytes rest more own is are quiet =
    absurd (endless_told place head is.2 (subst (AllByRecursion IsQuiet) are.joined quiet).0)
item_local kind.Unknown first tracks place bytes rest more own is are quiet = absurd (subst (AllByRecursion IsQuiet) are quiet).0

-- the first Segment among the parts of an item, by its kind
item_first : (k : Kind) (first other : Option PlacedContent) (tracks others : List Track) (place : ℕ) (bytes rest : List ℕ) (own own_other : List Part)
    → IsItem k bytes rest → AreItemPartsBy k first tracks place bytes own → AreItemPartsBy k other others place bytes own_other → AllByRecursion IsQuiet own
    → first_segment own ≡ first_segment own_other
item_first (kind.Segment head) first other tracks others place bytes rest own own_other is are are_other quiet = ap first_segment are ∙ sym (ap first_segment are_other)
item_first (kind.Element head) first other tracks others place bytes rest own own_other is are are_other quiet =
    element_first first tracks place head bytes own are is.1 ∙ sym (element_first other others place head bytes own_other are_other is.1)
item_first (kind.Endless head) first other tracks others place bytes rest own own_other is are are_other quiet =
    element_first first tracks place head bytes own are is.1 ∙ sym (element_first other others place head bytes own_other are_other is.1)
item_first kind.Unknown first other tracks others place bytes rest own own_other is are are_other quiet = ap first_segment are ∙ sym (ap first_segment are_other)

-- what is first in a list that goes on
first_or : (a b c d : Option Opening) (o : Opening) → a ≡ c → first_of a b ≡ Some o → (b ≡ Some o → d ≡ Some o) → first_of c d ≡ Some o
first_or None b None d o same is more = more is
first_or None b (Some p) d o same is more = cc
first_or (Some p) b None d o same is more = cc
first_or (Some p) b (Some q) d o same is more = sym same ∙ is

same_segment : (first other : Option PlacedContent) (tracks others : List Track) (xs more : List ℕ) (place : ℕ) (items items_other : List ItemValue)
    (parts parts_other : List Part) (o : Opening) → AreBytes (xs ++ more) → AreItems xs items → AreItems (xs ++ more) items_other
    → AreItemParts first tracks place items parts → AreItemParts other others place items_other parts_other → AllByRecursion IsQuiet parts
    → first_segment parts ≡ Some o → first_segment parts_other ≡ Some o
same_segment first other tracks others xs more place [] items_other parts parts_other o bytes are_items are_others are are_other quiet is =
    let none : first_segment parts ≡ None = ap first_segment are in cc
same_segment first other tracks others xs more place (a ∷ as_) [] parts parts_other o bytes are_items are_others are are_other quiet is =
    let some = some_bytes a.kind a.bytes (bytes_of_items as_) are_items.each.0 in
    let long = ap length are_items.joined in
    let none = ap length are_others.joined in
    absurd (omega (arith, some, long, none, length-append a.bytes (bytes_of_items as_), length-append xs more))
same_segment first other tracks others xs more place (a ∷ as_) (b ∷ bs) parts parts_other o bytes are_items are_others are are_other quiet is =
    let rest : List ℕ = bytes_of_items as_ in
    let split = all_front IsQuiet are.0 are.1 (subst (AllByRecursion IsQuiet) are.2 quiet) in
    let at : xs ++ more ≡ a.bytes ++ (bytes_of_items as_ ++ more) = ap (λ z. z ++ more) are_items.joined ∙ append_assoc a.bytes (bytes_of_items as_) more in
    let local : IsItem a.kind a.bytes (bytes_of_items as_ ++ more) =
    item_local a.kind first tracks place a.bytes (bytes_of_items as_) (bytes_of_items as_ ++ more) are.0 are_items.each.0 are.3 split.0 in
    let one = one_item (xs ++ more) a.bytes (bytes_of_items as_ ++ more) b.bytes (bytes_of_items bs) a.kind b.kind bytes at are_others.joined local are_others.each.0 in
    let rests : bytes_of_items as_ ++ more ≡ bytes_of_items bs =
    append_cancel_left b.bytes (bytes_of_items as_ ++ more) (bytes_of_items bs) (ap (λ z. z ++ (bytes_of_items as_ ++ more)) (sym one.1) ∙ sym at ∙ are_others.joined) in
    let own_other : AreItemPartsBy a.kind other others place a.bytes are_other.0 =
    subst (λ z. AreItemPartsBy z other others place a.bytes are_other.0) (sym one.0) (subst (λ z. AreItemPartsBy b.kind other others place z are_other.0) (sym one.1) are_other.3) in
    let left : AreBytes (bytes_of_items as_ ++ more) =
    AreBytes-rest a.bytes (bytes_of_items as_ ++ more) (subst AreBytes at bytes) in
    let later = same_segment first other tracks others (bytes_of_items as_) more (place + length a.bytes) as_ bs are.1 are_other.1 o left
    record { joined = refl; each = are_items.each.1 } record { joined = rests; each = are_others.each.1 } are.4
    (subst (λ z. AreItemParts other others (place + length z) bs are_other.1) (sym one.1) are_other.4) split.1 in
    ap first_segment are_other.2 ∙ first_append are_other.0 are_other.1
    ∙ first_or (first_segment are.0) (first_segment are.1) (first_segment are_other.0) (first_segment are_other.1) o
    (item_first a.kind first other tracks others place a.bytes (bytes_of_items as_) are.0 are_other.0 are_items.each.0 are.3 own_other split.0)
    (sym (first_append are.0 are.1) ∙ ap first_segment (sym are.2) ∙ is) later

pub cut_file_is_seen : CutFileIsSeen
cut_file_is_seen front more a b bytes is_a is_b whole_a whole_b =
    let parts_a = whole_parts is_a.tracks (length front) is_a.parts a is_a.is_report whole_a in
    let parts_b = whole_parts is_b.tracks (length (front ++ more)) is_b.parts b is_b.is_report whole_b in
    let same = same_segment _ _ is_a.tracks is_b.tracks front more 0 is_a.are_parts.items is_b.are_parts.items is_a.parts is_b.parts parts_a.opening bytes
    is_a.are_parts.are_items is_b.are_parts.are_items is_a.are_parts.parts_are is_b.are_parts.parts_are parts_a.quiet parts_a.first in
    let one : parts_b.opening ≡ parts_a.opening = same_some parts_b.opening parts_a.opening (sym parts_b.first ∙ same) in
    let ends : length (front ++ more) ≡ length front = same_some (length (front ++ more)) (length front) (sym parts_b.ends ∙ ap (λ z. z.end) one ∙ parts_a.ends) in
    nil_from_length more (omega (arith, ends, length-append front more))
