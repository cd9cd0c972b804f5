-- Damage within one link of a block is seen: all but the link is as before, and so are the tracks by which it is judged.
use Rattle.std.proofs.Common.{◌≡◌, ℕ, ◌+◌, ◌-◌, Bool, true, false, cond, eqb, List, [], ◌∷◌, ◌++◌, length, take, drop, refl, sym, ap, ◌∙◌, subst, arith, inl, inr}
use Rattle.std.specs.Prelude.{IsTrue, Option, Some, slice_get, Contains}
use Rattle.std.specs.List.{AllByRecursion, concat}
use Rattle.std.proofs.lemmas.List.{length-append, length-drop, length-take-le, append_assoc, take_at, drop_at, take-append-drop}
use Rattle.std.proofs.lemmas.Option.{slice_get-get_or}
use Rattle.ffv1_bits.specs.Parity.{AreBytes}
use Rattle.ffv1_bits.proofs.Bytes.{AreBytes-drop, AreBytes-front, AreBytes-middle, AreBytes-rest}
use Rattle.ebml.specs.Masters.{cluster_id, cluster_ids, block_group_ids}
use Rattle.ebml.specs.Head.{IsHead}
use Rattle.ebml.specs.Children.{IsElement, IsChild, AreChildren}
use Rattle.ebml.specs.Items.{ItemValue, IsItem, bytes_of_items, EachIsItem}
use Rattle.ebml.specs.declared.head.Head.{Head}
use Rattle.ebml.specs.declared.items.Kind.TheVariants as kind
use Rattle.ebml.proofs.Heads.{one_head}
use Rattle.ebml.proofs.Elements.{children_are_one}
use Rattle.ebml.proofs.ItemList.{items_are_one}
use Rattle.matroska.specs.Blocks.{BlockValue, IsBlock}
use Rattle.matroska.specs.Tracks.{HasParities}
use Rattle.matroska.specs.NamedTracks.{each_after}
use Rattle.matroska.specs.declared.track.Track.{Track}
use Rattle.matroska.proofs.BlockSteps.{block_is_one}
use Rattle.matroska_parts.specs.Payloads.{IsFramePayload}
use Rattle.matroska_parts.specs.BlockParts.{IsStanding}
use Rattle.matroska_parts.specs.MasterParts.{child_kind, EachHasParts, AreMasterParts, IsOneBlock, IsGroupChildBy, IsGroupChild, IsMasterChildBy, IsMasterChild, AreContentParts}
use Rattle.matroska_parts.specs.Openings.{IsCut, passes}
use Rattle.matroska_parts.specs.ItemParts.{PlacedContent, is_tracks, content_by, first_tracks, AreTracksBy, AreElementParts, AreItemParts}
use Rattle.matroska_parts.proofs.MasterSteps.{same_some}
use Rattle.matroska_parts.specs.declared.parts.Part.{Part}
use Rattle.matroska_parts.specs.declared.parts.Part.TheVariants as part
use Rattle.matroska_parts.specs.declared.parts.Standing.{Standing}
use Rattle.matroska_parts.specs.declared.parts.Standing.TheVariants as standing
use Rattle.matroska_parts.specs.declared.parts.Payload.{Payload}
use Rattle.matroska_parts.specs.declared.parts.Payload.TheVariants as payload
use Rattle.ffv1_scan.specs.Verdicts.{is_undamaged, IsVerdictOf}
use Rattle.ffv1_scan.specs.declared.verdict.Verdict.{Verdict}
use Rattle.ffv1_check.specs.declared.findings.Finding.{Finding}
use Rattle.ffv1_check.specs.declared.findings.Finding.TheVariants as found
use Rattle.ffv1_check.specs.declared.report.Report.{Report}
use Rattle.ffv1_check.specs.Before.{first_segment}
use Rattle.ffv1_check.specs.PartFindings.{time_findings, payload_findings, number_of_block, standing_findings, lines_at, lines_of_part, lines_of_parts}
use Rattle.ffv1_check.specs.Reports.{segment_findings, no_track_findings, IsReportOf}
use Rattle.ffv1_check.specs.LinkDamage.{DifferInBlock, DifferInContent, DifferInChild, DifferInGroup, DifferInClusterChild, SmallDamageInLinkIsSeen}
use Rattle.ffv1_check.proofs.CutSteps.{IsQuiet, all_front, both_empty, lines_append, whole_parts, item_local}
use Rattle.ffv1_check.proofs.DamageSteps.{bytes_append, each_at, element_other}
use Rattle.ffv1_check.proofs.FrameDamage.{frame_length, frame_same}
use Rattle.ffv1_check.proofs.TrackOne.{same_parities, OneTracks, tracks_by_one}
use Rattle.ffv1_check.proofs.PartOne.{track_of_block}
use Rattle.ffv1_check.proofs.ReportOne.{first_bytes}

-- ---- parts of which nothing is said

abbrev IsRightPayload : Payload → Type 0
IsRightPayload payload.Laced = ⊥
IsRightPayload payload.Long = ⊥
IsRightPayload (payload.Frame verdict) = is_undamaged verdict ≡ true
IsRightPayload (payload.Flac right) = Unit {0}
IsRightPayload payload.Other = Unit {0}

abbrev IsRightStanding : Standing → Type 0
IsRightStanding standing.Short = ⊥
IsRightStanding (standing.Unnamed track) = ⊥
IsRightStanding (standing.Named block) = IsRightPayload block.payload

abbrev IsRight : Part → Type 0
IsRight (part.Block block) = IsRightStanding block.standing
IsRight _ = Unit {0}

right_payload : (place number track : ℕ) (found : Payload) → lines_at place (payload_findings number track found) ≡ [] → IsRightPayload found
right_payload place number track payload.Laced e = cc
right_payload place number track payload.Long e = cc
right_payload place number track (payload.Frame verdict) e = go (is_undamaged verdict) e
  where
    go : (right : Bool) → lines_at place (cond right [] (found.Frame number track verdict ∷ [])) ≡ [] → right ≡ true
    go true none = refl
    go false none = cc
right_payload place number track (payload.Flac right) e = tt
right_payload place number track payload.Other e = tt

right_standing : (before : List Part) (place size : ℕ) (s : Standing) → lines_at place (standing_findings before size s) ≡ [] → IsRightStanding s
right_standing before place size standing.Short e = cc
right_standing before place size (standing.Unnamed track) e = cc
right_standing before place size (standing.Named block) e =
    let payloads : List Finding = payload_findings (number_of_block before block) block.track block.payload in
    let both = both_empty (lines_at place (time_findings before block)) (lines_at place (payload_findings (number_of_block before block) block.track block.payload))
    (sym (lines_append place (time_findings before block) (payload_findings (number_of_block before block) block.track block.payload)) ∙ e) in
    right_payload place (number_of_block before block) block.track block.payload both.1

right_part : (before : List Part) (p : Part) → lines_of_part before p ≡ [] → IsRight p
right_part before (part.Unknown span) e = tt
right_part before (part.Begin opening) e = tt
right_part before (part.Timestamp timestamp) e = tt
right_part before (part.Block block) e = right_standing before block.place block.size block.standing e
right_part before (part.Record r) e = tt
right_part before (part.NoMatroska place) e = tt
right_part before (part.End closing) e = tt

each_right : (before parts : List Part) → each_after lines_of_part before parts ≡ [] → AllByRecursion IsRight parts
each_right before [] e = tt
each_right before (p ∷ ps) e =
    let both = both_empty (lines_of_part before p) (each_after lines_of_part (before ++ p ∷ []) ps) e in
    (right_part before p both.0, each_right (before ++ p ∷ []) ps both.1)

right_parts : (tracks : List Track) (size : ℕ) (parts : List Part) (report : Report) → IsReportOf tracks size parts report → IsTrue report.is_whole
    → AllByRecursion IsRight parts
right_parts tracks size parts report is whole =
    each_right [] parts (both_empty (lines_of_parts parts) (lines_at size (segment_findings size (first_segment parts) ++ no_track_findings (length tracks)))
    (is.whole.0 whole).no_line).0

-- ---- heads and contents

-- what stands after the head of an element that differs in its content alone
record SameHead (id : ℕ) (element damaged other : List ℕ) (head : Head) : Type 0 where
  pub as_long : length element ≡ length damaged
  pub front : take head.length damaged ≡ take head.length element
  pub is : IsElement head damaged
  pub content : drop head.length damaged ≡ other

same_head : (Differ : List ℕ → List ℕ → Type 0) → ((x y : List ℕ) → Differ x y → length x ≡ length y) → (id : ℕ) (element damaged : List ℕ)
    → (d : DifferInContent Differ id element damaged) → SameHead id element damaged d.other d.head
same_head Differ long id element damaged d =
    let room = d.is.has.room in
    let head_long = length-take-le d.head.length element room in
    let content_long = long (drop d.head.length element) d.other d.differ in
    let as_long : length element ≡ length damaged =
    omega (arith, ap length d.damaged_is, length-append (take d.head.length element) d.other, head_long, content_long, length-drop d.head.length element, room) in
    let front : take d.head.length damaged ≡ take d.head.length element =
    ap (take d.head.length) d.damaged_is ∙ ap (λ n. take n (take d.head.length element ++ d.other)) (sym head_long)
    ∙ take_at (take d.head.length element) d.other (length (take d.head.length element)) refl in
    record {
      as_long = as_long;
      front = front;
      is = record {
        has = record { room = omega (arith, room, as_long); is = subst (IsHead d.head.id d.head.size) (sym front) d.is.has.is };
        whole = d.is.whole ∙ ap (λ n. Some (n - d.head.length)) as_long;
      };
      content = ap (drop d.head.length) d.damaged_is ∙ ap (λ n. drop n (take d.head.length element ++ d.other)) (sym head_long)
          ∙ drop_at (take d.head.length element) d.other (length (take d.head.length element)) refl;
    }

content_same : (Differ : List ℕ → List ℕ → Type 0) (id : ℕ) (element damaged : List ℕ) → (d : DifferInContent Differ id element damaged)
    → drop d.head.length element ≡ d.other → element ≡ damaged
content_same Differ id element damaged d same =
    sym (take-append-drop d.head.length element) ∙ ap (λ z. take d.head.length element ++ z) same ∙ sym d.damaged_is

-- ---- one child among others

concat_middle : (before : List (List ℕ)) (child : List ℕ) (after : List (List ℕ)) (rest : List ℕ)
    → concat (before ++ child ∷ after) ++ rest ≡ concat before ++ (child ++ (concat after ++ rest))
concat_middle [] child after rest = append_assoc child (concat after) rest
concat_middle (b ∷ bs) child after rest =
    append_assoc b (concat (bs ++ child ∷ after)) rest ∙ ap (λ z. b ++ z) (concat_middle bs child after rest)
    ∙ sym (append_assoc b (concat bs) (child ++ (concat after ++ rest)))

all_middle : (P : List ℕ → Type 0) (before : List (List ℕ)) (child : List ℕ) (after : List (List ℕ)) → AllByRecursion P (before ++ child ∷ after) → P child
all_middle P [] child after all = all.0
all_middle P (b ∷ bs) child after all = all_middle P bs child after all.1

all_other : (P : List ℕ → Type 0) (before : List (List ℕ)) (child other : List ℕ) (after : List (List ℕ)) → AllByRecursion P (before ++ child ∷ after) → P other
    → AllByRecursion P (before ++ other ∷ after)
all_other P [] child other after all is = (is, all.1)
all_other P (b ∷ bs) child other after all is = (all.0, all_other P bs child other after all.1 is)

-- the parts of one piece among others
record PartsOf (H : ℕ → List ℕ → List Part → Type 0) (piece : List ℕ) : Type 0 where
  pub place : ℕ
  pub parts : List Part
  pub have : H place piece parts
  pub right : AllByRecursion IsRight parts

parts_of : (H : ℕ → List ℕ → List Part → Type 0) (place : ℕ) (before : List (List ℕ)) (piece : List ℕ) (after : List (List ℕ)) (parts : List Part)
    → EachHasParts H place (before ++ piece ∷ after) parts → AllByRecursion IsRight parts → PartsOf H piece
parts_of H place [] piece after parts each right =
    record { place = place; parts = each.0; have = each.3; right = (all_front IsRight each.0 each.1 (subst (AllByRecursion IsRight) each.2 right)).0 }
parts_of H place (b ∷ bs) piece after parts each right =
    parts_of H (place + length b) bs piece after each.1 each.4 (all_front IsRight each.0 each.1 (subst (AllByRecursion IsRight) each.2 right)).1

child_length : (Differ : List ℕ → List ℕ → Type 0) → ((x y : List ℕ) → Differ x y → length x ≡ length y) → (ids content damaged : List ℕ)
    → DifferInChild Differ ids content damaged → length content ≡ length damaged
child_length Differ long ids content damaged d =
    omega (
      arith,
      ap length (d.are.joined ∙ concat_middle d.before d.child d.after d.rest),
      ap length d.damaged_is,
      long d.child d.other d.differ,
      length-append (concat d.before) (d.child ++ (concat d.after ++ d.rest)),
      length-append d.child (concat d.after ++ d.rest),
      length-append (concat d.before) (d.other ++ (concat d.after ++ d.rest)),
      length-append d.other (concat d.after ++ d.rest),
    )

content_length : (Differ : List ℕ → List ℕ → Type 0) → ((x y : List ℕ) → Differ x y → length x ≡ length y) → (id : ℕ) (element damaged : List ℕ)
    → DifferInContent Differ id element damaged → length element ≡ length damaged
content_length Differ long id element damaged d = (same_head Differ long id element damaged d).as_long

block_length : (number : ℕ) (content damaged : List ℕ) → DifferInBlock number content damaged → length content ≡ length damaged
block_length number content damaged d =
    omega (
      arith,
      ap length d.is.joined,
      ap length d.damaged_is,
      length-append d.is.number (d.is.high ∷ d.is.low ∷ d.is.flags ∷ d.block.payload),
      length-append d.is.number (d.is.high ∷ d.is.low ∷ d.is.flags ∷ d.other),
      frame_length d.block.payload d.other d.differ,
    )

-- two elements with one head
record Headed (x y : List ℕ) : Type 0 where
  pub head : Head
  pub one : IsElement head x
  pub other : IsElement head y

content_headed : (Differ : List ℕ → List ℕ → Type 0) → ((x y : List ℕ) → Differ x y → length x ≡ length y) → (id : ℕ) (x y : List ℕ)
    → DifferInContent Differ id x y → Headed x y
content_headed Differ long id x y d = record { head = d.head; one = d.is; other = (same_head Differ long id x y d).is }

group_length : (number : ℕ) (x y : List ℕ) → DifferInGroup number x y → length x ≡ length y
group_length number x y d =
    child_length (DifferInContent (DifferInBlock number) 0xA1) (content_length (DifferInBlock number) (block_length number) 0xA1) block_group_ids x y d

cluster_child_length : (number : ℕ) (x y : List ℕ) → DifferInClusterChild number x y → length x ≡ length y
cluster_child_length number x y d = elim d [
  | inl simple ↦ content_length (DifferInBlock number) (block_length number) 0xA3 x y simple
  | inr group ↦ content_length (DifferInGroup number) (group_length number) 0xA0 x y group
]

cluster_child_headed : (number : ℕ) (x y : List ℕ) → DifferInClusterChild number x y → Headed x y
cluster_child_headed number x y d = elim d [
  | inl simple ↦ content_headed (DifferInBlock number) (block_length number) 0xA3 x y simple
  | inr group ↦ content_headed (DifferInGroup number) (group_length number) 0xA0 x y group
]

children_length : (number : ℕ) (x y : List ℕ) → DifferInChild (DifferInClusterChild number) cluster_ids x y → length x ≡ length y
children_length number x y d = child_length (DifferInClusterChild number) (cluster_child_length number) cluster_ids x y d

module _ (H K : ℕ → List ℕ → List Part → Type 0) (Differ : List ℕ → List ℕ → Type 0) (headed : (x y : List ℕ) → Differ x y → Headed x y)
    (same : (place other_place : ℕ) (x y : List ℕ) (xs ys : List Part) → AreBytes x → AreBytes y → Differ x y → H place x xs → K other_place y ys
    → AllByRecursion IsRight xs → AllByRecursion IsRight ys → x ≡ y)
  where
    child_same : (ids : List ℕ) (place other_place : ℕ) (content damaged : List ℕ) (xs ys : List Part) → AreBytes content → AreBytes damaged
        → DifferInChild Differ ids content damaged → AreMasterParts H ids place content xs → AreMasterParts K ids other_place damaged ys
        → AllByRecursion IsRight xs → AllByRecursion IsRight ys → content ≡ damaged
    child_same ids place other_place content damaged xs ys bytes others d are are_other right right_other =
        let middle = concat_middle d.before d.child d.after d.rest in
        let other_middle = concat_middle d.before d.other d.after d.rest in
        let child_bytes : AreBytes d.child =
        AreBytes-front d.child (concat d.after ++ d.rest) (AreBytes-rest (concat d.before) (d.child ++ (concat d.after ++ d.rest)) (subst AreBytes (d.are.joined ∙ middle) bytes)) in
        let other_bytes : AreBytes d.other =
        AreBytes-front d.other (concat d.after ++ d.rest) (AreBytes-rest (concat d.before) (d.other ++ (concat d.after ++ d.rest)) (subst AreBytes d.damaged_is others)) in
        let is_child = all_middle (IsChild ids) d.before d.child d.after d.are.each in
        let heads = headed d.child d.other d.differ in
        let one : is_child.head ≡ heads.head = one_head d.child is_child.head heads.head child_bytes is_child.element.has heads.one.has in
        let is_other : IsChild ids d.other =
        record { head = heads.head; element = heads.other; known = subst (λ (h : Head). Contains ids h.id) one is_child.known } in
        let are_damaged : AreChildren ids damaged (d.before ++ d.other ∷ d.after) d.rest =
        record { joined = d.damaged_is ∙ sym other_middle; each = all_other (IsChild ids) d.before d.child d.other d.after d.are.each is_other; last = d.are.last } in
        let kids = children_are_one ids content are.children (d.before ++ d.child ∷ d.after) are.rest d.rest bytes are.are_children d.are in
        let other_kids = children_are_one ids damaged are_other.children (d.before ++ d.other ∷ d.after) are_other.rest d.rest others are_other.are_children are_damaged in
        let at = parts_of H place d.before d.child d.after are.own (subst (λ z. EachHasParts H place z are.own) kids.0 are.each)
        (all_front IsRight are.own _ (subst (AllByRecursion IsRight) are.joined right)).0 in
        let other_at = parts_of K other_place d.before d.other d.after are_other.own (subst (λ z. EachHasParts K other_place z are_other.own) other_kids.0 are_other.each)
        (all_front IsRight are_other.own _ (subst (AllByRecursion IsRight) are_other.joined right_other)).0 in
        let equal = same at.place other_at.place d.child d.other at.parts other_at.parts child_bytes other_bytes d.differ at.have other_at.have at.right other_at.right in
        d.are.joined ∙ middle ∙ ap (λ z. concat d.before ++ (z ++ (concat d.after ++ d.rest))) equal ∙ sym d.damaged_is

-- ---- blocks of a judged track

-- the parts of two files, by tracks of which each has this judged one
module _ (ds ts us : List Track) (one : OneTracks ds ts) (other : OneTracks ds us) (index : ℕ) (track : Track) (at : slice_get ds index ≡ Some track)
    (judged : HasParities track) (vouched other_vouched : Bool)
  where
    frame_there : (block : BlockValue) (found : Payload) → IsFramePayload block found → IsRightPayload found
        → (v : Verdict) × IsVerdictOf block.payload v × (is_undamaged v ≡ true)
    frame_there block payload.Laced is right = absurd right
    frame_there block payload.Long is right = absurd right
    frame_there block (payload.Frame v) is right = (v, is.2, right)
    frame_there block (payload.Flac r) is right = absurd is
    frame_there block payload.Other is right = absurd is

    block_right : (xs : List Track) → OneTracks ds xs → (v : Bool) (content : List ℕ) (block : BlockValue) (s : Standing) → AreBytes content → IsBlock content block
        → block.track ≡ track.number → IsStanding xs v content s → IsRightStanding s → (w : Verdict) × IsVerdictOf block.payload w × (is_undamaged w ≡ true)
    block_right xs tracks v content block standing.Short bytes is number stands right = absurd right
    block_right xs tracks v content block (standing.Unnamed t) bytes is number stands right = absurd right
    block_right xs tracks v content block (standing.Named found) bytes is number stands right =
        let same : stands.0 ≡ block = block_is_one content stands.0 block bytes stands.1 is in
        let its = stands.2 in
        let alike = (track_of_block ds xs tracks.alike tracks.distinct index found.index track its.track at its.at
        (sym number ∙ ap (λ (z : BlockValue). z.track) (sym same) ∙ sym its.number)).1 in
        let there = frame_there stands.0 found.payload (its.payload.frame (same_parities track its.track alike judged)) right in
        (there.0, subst (λ (z : BlockValue). IsVerdictOf z.payload there.0) same there.1, there.2)

    block_same : (content damaged : List ℕ) (s t : Standing) → AreBytes content → AreBytes damaged → DifferInBlock track.number content damaged
        → IsStanding ts vouched content s → IsStanding us other_vouched damaged t → IsRightStanding s → IsRightStanding t → content ≡ damaged
    block_same content damaged s t bytes others d stands stands_other right right_other =
        let fields : List ℕ = d.is.high ∷ d.is.low ∷ d.is.flags ∷ [] in
        let damaged_block : BlockValue = record { track = d.block.track; time = d.block.time; lacing = d.block.lacing; payload = d.other } in
        let is_damaged : IsBlock damaged record { track = d.block.track; time = d.block.time; lacing = d.block.lacing; payload = d.other } = record {
          number = d.is.number;
          high = d.is.high;
          low = d.is.low;
          flags = d.is.flags;
          joined = d.damaged_is;
          is_vint = d.is.is_vint;
          short = d.is.short;
          track = d.is.track;
          time = d.is.time;
          lacing = d.is.lacing;
        } in
        let payload_bytes : AreBytes d.block.payload =
        AreBytes-rest (d.is.high ∷ d.is.low ∷ d.is.flags ∷ []) d.block.payload
        (AreBytes-rest d.is.number (d.is.high ∷ d.is.low ∷ d.is.flags ∷ d.block.payload) (subst AreBytes d.is.joined bytes)) in
        let other_bytes : AreBytes d.other =
        AreBytes-rest (d.is.high ∷ d.is.low ∷ d.is.flags ∷ []) d.other
        (AreBytes-rest d.is.number (d.is.high ∷ d.is.low ∷ d.is.flags ∷ d.other) (subst AreBytes d.damaged_is others)) in
        let v = block_right ts one vouched content d.block s bytes d.is d.of_track stands right in
        let w = block_right us other other_vouched damaged record { track = d.block.track; time = d.block.time; lacing = d.block.lacing; payload = d.other } t others is_damaged d.of_track
        stands_other right_other in
        let same = frame_same d.block.payload d.other d.differ payload_bytes other_bytes v.0 w.0 v.1 v.2 w.1 w.2 in
        d.is.joined ∙ ap (λ z. d.is.number ++ d.is.high ∷ d.is.low ∷ d.is.flags ∷ z) same ∙ sym d.damaged_is

    one_block_same : (place other_place : ℕ) (element damaged content other_content : List ℕ) (xs ys : List Part) → AreBytes content → AreBytes other_content
        → DifferInBlock track.number content other_content → IsOneBlock ts vouched place element content xs → IsOneBlock us other_vouched other_place damaged other_content ys
        → AllByRecursion IsRight xs → AllByRecursion IsRight ys → content ≡ other_content
    one_block_same place other_place element damaged content other_content xs ys bytes others d is is_other right right_other =
        block_same content other_content is.0.standing is_other.0.standing bytes others d is.2.standing is_other.2.standing
        (subst (AllByRecursion IsRight) is.1 right).0 (subst (AllByRecursion IsRight) is_other.1 right_other).0

    -- ---- children

    group_child_same : (place other_place : ℕ) (x y : List ℕ) (xs ys : List Part) → AreBytes x → AreBytes y → DifferInContent (DifferInBlock track.number) 0xA1 x y
        → IsGroupChild ts vouched place x xs → IsGroupChild us other_vouched other_place y ys → AllByRecursion IsRight xs → AllByRecursion IsRight ys → x ≡ y
    group_child_same place other_place x y xs ys bytes others d is is_other right right_other =
        let facts = same_head (DifferInBlock track.number) (block_length track.number) 0xA1 x y d in
        let head : is.0 ≡ d.head = one_head x is.0 d.head bytes is.1.has d.is.has in
        let other_head : is_other.0 ≡ d.head = one_head y is_other.0 d.head others is_other.1.has facts.is.has in
        let here : IsOneBlock ts vouched place x (drop d.head.length x) xs =
        subst (λ id. IsGroupChildBy (child_kind id) ts vouched place x (drop d.head.length x) xs) d.id_is
        (subst (λ (h : Head). IsGroupChildBy (child_kind h.id) ts vouched place x (drop h.length x) xs) head is.2) in
        let there : IsOneBlock us other_vouched other_place y d.other ys =
        subst (λ z. IsOneBlock us other_vouched other_place y z ys) facts.content
        (subst (λ id. IsGroupChildBy (child_kind id) us other_vouched other_place y (drop d.head.length y) ys) d.id_is
        (subst (λ (h : Head). IsGroupChildBy (child_kind h.id) us other_vouched other_place y (drop h.length y) ys) other_head is_other.2)) in
        content_same (DifferInBlock track.number) 0xA1 x y d
        (one_block_same place other_place x y (drop d.head.length x) d.other xs ys (AreBytes-drop d.head.length x bytes) (subst AreBytes facts.content (AreBytes-drop d.head.length y others))
        d.differ here there right right_other)

    simple_same : (place other_place : ℕ) (x y : List ℕ) (xs ys : List Part) → AreBytes x → AreBytes y → DifferInContent (DifferInBlock track.number) 0xA3 x y
        → IsMasterChild ts vouched place x xs → IsMasterChild us other_vouched other_place y ys → AllByRecursion IsRight xs → AllByRecursion IsRight ys → x ≡ y
    simple_same place other_place x y xs ys bytes others d is is_other right right_other =
        let facts = same_head (DifferInBlock track.number) (block_length track.number) 0xA3 x y d in
        let head : is.0 ≡ d.head = one_head x is.0 d.head bytes is.1.has d.is.has in
        let other_head : is_other.0 ≡ d.head = one_head y is_other.0 d.head others is_other.1.has facts.is.has in
        let here : IsOneBlock ts vouched place x (drop d.head.length x) xs =
        subst (λ id. IsMasterChildBy (child_kind id) ts vouched place d.head.length x (drop d.head.length x) xs) d.id_is
        (subst (λ (h : Head). IsMasterChildBy (child_kind h.id) ts vouched place h.length x (drop h.length x) xs) head is.2) in
        let there : IsOneBlock us other_vouched other_place y d.other ys =
        subst (λ z. IsOneBlock us other_vouched other_place y z ys) facts.content
        (subst (λ id. IsMasterChildBy (child_kind id) us other_vouched other_place d.head.length y (drop d.head.length y) ys) d.id_is
        (subst (λ (h : Head). IsMasterChildBy (child_kind h.id) us other_vouched other_place h.length y (drop h.length y) ys) other_head is_other.2)) in
        content_same (DifferInBlock track.number) 0xA3 x y d
        (one_block_same place other_place x y (drop d.head.length x) d.other xs ys (AreBytes-drop d.head.length x bytes) (subst AreBytes facts.content (AreBytes-drop d.head.length y others))
        d.differ here there right right_other)

    group_same : (place other_place : ℕ) (x y : List ℕ) (xs ys : List Part) → AreBytes x → AreBytes y → DifferInContent (DifferInGroup track.number) 0xA0 x y
        → IsMasterChild ts vouched place x xs → IsMasterChild us other_vouched other_place y ys → AllByRecursion IsRight xs → AllByRecursion IsRight ys → x ≡ y
    group_same place other_place x y xs ys bytes others d is is_other right right_other =
        let facts = same_head (DifferInGroup track.number) (group_length track.number) 0xA0 x y d in
        let head : is.0 ≡ d.head = one_head x is.0 d.head bytes is.1.has d.is.has in
        let other_head : is_other.0 ≡ d.head = one_head y is_other.0 d.head others is_other.1.has facts.is.has in
        let here : AreMasterParts (IsGroupChild ts vouched) block_group_ids (place + d.head.length) (drop d.head.length x) xs =
        subst (λ id. IsMasterChildBy (child_kind id) ts vouched place d.head.length x (drop d.head.length x) xs) d.id_is
        (subst (λ (h : Head). IsMasterChildBy (child_kind h.id) ts vouched place h.length x (drop h.length x) xs) head is.2) in
        let there : AreMasterParts (IsGroupChild us other_vouched) block_group_ids (other_place + d.head.length) d.other ys =
        subst (λ z. AreMasterParts (IsGroupChild us other_vouched) block_group_ids (other_place + d.head.length) z ys) facts.content
        (subst (λ id. IsMasterChildBy (child_kind id) us other_vouched other_place d.head.length y (drop d.head.length y) ys) d.id_is
        (subst (λ (h : Head). IsMasterChildBy (child_kind h.id) us other_vouched other_place h.length y (drop h.length y) ys) other_head is_other.2)) in
        content_same (DifferInGroup track.number) 0xA0 x y d
        (child_same (IsGroupChild ts vouched) (IsGroupChild us other_vouched) (DifferInContent (DifferInBlock track.number) 0xA1)
        (content_headed (DifferInBlock track.number) (block_length track.number) 0xA1) group_child_same block_group_ids (place + d.head.length) (other_place + d.head.length)
        (drop d.head.length x) d.other xs ys (AreBytes-drop d.head.length x bytes) (subst AreBytes facts.content (AreBytes-drop d.head.length y others)) d.differ here there right right_other)

    cluster_child_same : (place other_place : ℕ) (x y : List ℕ) (xs ys : List Part) → AreBytes x → AreBytes y → DifferInClusterChild track.number x y
        → IsMasterChild ts vouched place x xs → IsMasterChild us other_vouched other_place y ys → AllByRecursion IsRight xs → AllByRecursion IsRight ys → x ≡ y
    cluster_child_same place other_place x y xs ys bytes others d is is_other right right_other = elim d [
      | inl simple ↦ simple_same place other_place x y xs ys bytes others simple is is_other right right_other
      | inr group ↦ group_same place other_place x y xs ys bytes others group is is_other right right_other
    ]

    children_same : (place other_place : ℕ) (content damaged : List ℕ) (xs ys : List Part) → AreBytes content → AreBytes damaged
        → DifferInChild (DifferInClusterChild track.number) cluster_ids content damaged → AreMasterParts (IsMasterChild ts vouched) cluster_ids place content xs
        → AreMasterParts (IsMasterChild us other_vouched) cluster_ids other_place damaged ys → AllByRecursion IsRight xs → AllByRecursion IsRight ys → content ≡ damaged
    children_same place other_place content damaged xs ys bytes others d are are_other right right_other =
        child_same (IsMasterChild ts vouched) (IsMasterChild us other_vouched) (DifferInClusterChild track.number) (cluster_child_headed track.number) cluster_child_same cluster_ids
        place other_place content damaged xs ys bytes others d are are_other right right_other

    -- ---- Clusters

    cluster_same : (first first_other : Option PlacedContent) (place other_place : ℕ) (cluster damaged : List ℕ) (xs ys : List Part) → AreBytes cluster → AreBytes damaged
        → (d : DifferInContent (DifferInChild (DifferInClusterChild track.number) cluster_ids) cluster_id cluster damaged)
        → (are : AreElementParts first ts place d.head cluster xs) → (others_are : AreElementParts first_other us other_place d.head damaged ys)
        → passes are.crc32 ≡ vouched → passes others_are.crc32 ≡ other_vouched → AllByRecursion IsRight xs → AllByRecursion IsRight ys → cluster ≡ damaged
    cluster_same first first_other place other_place cluster damaged xs ys bytes others d are others_are crc32 other_crc32 right right_other =
        let facts = same_head (DifferInChild (DifferInClusterChild track.number) cluster_ids) (children_length track.number) cluster_id cluster damaged d in
        let here : AreMasterParts (IsMasterChild ts vouched) cluster_ids (place + d.head.length) (drop d.head.length cluster) are.content =
        subst (λ id. AreContentParts id ts vouched (place + d.head.length) (drop d.head.length cluster) are.content) d.id_is
        (subst (λ v. AreContentParts d.head.id ts v (place + d.head.length) (drop d.head.length cluster) are.content) crc32 are.content_is) in
        let there : AreMasterParts (IsMasterChild us other_vouched) cluster_ids (other_place + d.head.length) d.other others_are.content =
        subst (λ id. AreContentParts id us other_vouched (other_place + d.head.length) d.other others_are.content) d.id_is
        (subst (λ v. AreContentParts d.head.id us v (other_place + d.head.length) d.other others_are.content) other_crc32
        (subst (λ z. AreContentParts d.head.id us (passes others_are.crc32) (other_place + d.head.length) z others_are.content) facts.content others_are.content_is)) in
        let right_content = (all_front IsRight are.content _ (subst (AllByRecursion IsRight) are.joined right).1).0 in
        let right_other_content = (all_front IsRight others_are.content _ (subst (AllByRecursion IsRight) others_are.joined right_other).1).0 in
        content_same (DifferInChild (DifferInClusterChild track.number) cluster_ids) cluster_id cluster damaged d
        (children_same (place + d.head.length) (other_place + d.head.length) (drop d.head.length cluster) d.other are.content others_are.content
        (AreBytes-drop d.head.length cluster bytes) (subst AreBytes facts.content (AreBytes-drop d.head.length damaged others)) d.differ here there right_content right_other_content)

-- ---- the files

abbrev element_item : Head → List ℕ → ItemValue
element_item head bytes = record { kind = kind.Element head; bytes = bytes }

-- the parts of an element among those of a file
record ElementAt (first : Option PlacedContent) (tracks : List Track) (head : Head) (bytes : List ℕ) : Type 0 where
  pub place : ℕ
  pub parts : List Part
  pub are : AreElementParts first tracks place head bytes parts
  pub right : AllByRecursion IsRight parts

element_at : (first : Option PlacedContent) (tracks : List Track) (place : ℕ) (before : List ItemValue) (head : Head) (bytes : List ℕ) (after : List ItemValue)
    (parts : List Part) → AreItemParts first tracks place (before ++ element_item head bytes ∷ after) parts → AllByRecursion IsRight parts
    → ElementAt first tracks head bytes
element_at first tracks place [] head bytes after parts are right =
    record { place = place; parts = are.0; are = are.3; right = (all_front IsRight are.0 are.1 (subst (AllByRecursion IsRight) are.2 right)).0 }
element_at first tracks place (i ∷ is) head bytes after parts are right =
    element_at first tracks (place + length i.bytes) is head bytes after are.1 are.4 (all_front IsRight are.0 are.1 (subst (AllByRecursion IsRight) are.2 right)).1

each_moved : (first : Option PlacedContent) (tracks : List Track) (place : ℕ) (before : List ItemValue) (head : Head) (element other : List ℕ) (after : List ItemValue)
    (parts : List Part) → AllByRecursion IsQuiet parts → AreItemParts first tracks place (before ++ element_item head element ∷ after) parts
    → IsItem (kind.Element head) other (bytes_of_items after) → EachIsItem (before ++ element_item head element ∷ after)
    → EachIsItem (before ++ element_item head other ∷ after)
each_moved first tracks place [] head element other after parts quiet are is each = (is, each.1)
each_moved first tracks place (i ∷ is_) head element other after parts quiet are is each =
    let split = all_front IsQuiet are.0 are.1 (subst (AllByRecursion IsQuiet) are.2 quiet) in (
      item_local i.kind first tracks place i.bytes (bytes_of_items (is_ ++ element_item head element ∷ after)) (bytes_of_items (is_ ++ element_item head other ∷ after))
          are.0 each.0 are.3 split.0,
      each_moved first tracks (place + length i.bytes) is_ head element other after are.1 split.1 are.4 is each.1,
    )

first_kept : (place : ℕ) (before : List ItemValue) (head : Head) (element other : List ℕ) (after : List ItemValue) → head.id ≡ cluster_id → length element ≡ length other
    → first_tracks place (before ++ element_item head element ∷ after) ≡ first_tracks place (before ++ element_item head other ∷ after)
first_kept place [] head element other after is long =
    let none : eqb head.id 0x1654AE6B ≡ false = ap (λ id. eqb id 0x1654AE6B) is in
    ap (λ b. cond b (Some record { place = place; content = drop head.length element }) (first_tracks (place + length element) after)) none
    ∙ ap (λ n. first_tracks (place + n) after) long
    ∙ sym (ap (λ b. cond b (Some record { place = place; content = drop head.length other }) (first_tracks (place + length other) after)) none)
first_kept place (i ∷ is_) head element other after is long =
    ap (λ z. cond (is_tracks i.kind) (Some record { place = place; content = content_by i.kind i.bytes }) z)
    (first_kept (place + length i.bytes) is_ head element other after is long)

whole_element : (head : Head) (bytes : List ℕ) → IsElement head bytes → IsCut head bytes → ⊥
whole_element head bytes is cut =
    let same : length bytes - head.length ≡ cut.0 = same_some (length bytes - head.length) cut.0 (sym is.whole ∙ cut.1) in
    let room = is.has.room in
    let short = cut.2 in omega (arith, same, room, short)

pub small_damage_in_link_is_seen : SmallDamageInLinkIsSeen
small_damage_in_link_is_seen file damaged a b bytes_a bytes_b d is_a is_b whole_a whole_b =
    let head : Head = d.differ.head in
    let item : ItemValue = element_item d.differ.head d.cluster in
    let other_item : ItemValue = element_item d.differ.head d.other in
    let quiet_a = (whole_parts is_a.tracks (length file) is_a.parts a is_a.is_report whole_a).quiet in
    let right_a = right_parts is_a.tracks (length file) is_a.parts a is_a.is_report whole_a in
    let right_b = right_parts is_b.tracks (length damaged) is_b.parts b is_b.is_report whole_b in
    let items_a : is_a.are_parts.items ≡ d.before ++ element_item d.differ.head d.cluster ∷ d.after =
    items_are_one file is_a.are_parts.items d.items bytes_a is_a.are_parts.are_items d.are_items ∙ d.at in
    let each_a : EachIsItem (d.before ++ element_item d.differ.head d.cluster ∷ d.after) = subst EachIsItem d.at d.are_items.each in
    let parts_a = subst (λ z. AreItemParts (first_tracks 0 z) is_a.tracks 0 z is_a.parts) items_a is_a.are_parts.parts_are in
    let facts = same_head (DifferInChild (DifferInClusterChild d.track.number) cluster_ids) (children_length d.track.number) cluster_id d.cluster d.other d.differ in
    let is_other : IsItem (kind.Element d.differ.head) d.other (bytes_of_items d.after) =
    element_other d.differ.head d.cluster d.other (bytes_of_items d.after) (each_at d.before (element_item d.differ.head d.cluster) d.after each_a)
    (whole_element d.differ.head d.cluster d.differ.is) (sym facts.as_long) facts.front in
    let each_b = each_moved (first_tracks 0 (d.before ++ element_item d.differ.head d.cluster ∷ d.after)) is_a.tracks 0 d.before d.differ.head d.cluster d.other d.after is_a.parts
    quiet_a parts_a is_other each_a in
    let joined_b : damaged ≡ bytes_of_items (d.before ++ element_item d.differ.head d.other ∷ d.after) =
    d.damaged_is ∙ sym (bytes_append d.before (element_item d.differ.head d.other ∷ d.after)) in
    let items_b : is_b.are_parts.items ≡ d.before ++ element_item d.differ.head d.other ∷ d.after =
    items_are_one damaged is_b.are_parts.items (d.before ++ element_item d.differ.head d.other ∷ d.after) bytes_b is_b.are_parts.are_items record { joined = joined_b; each = each_b } in
    let parts_b = subst (λ z. AreItemParts (first_tracks 0 z) is_b.tracks 0 z is_b.parts) items_b is_b.are_parts.parts_are in
    let firsts = first_kept 0 d.before d.differ.head d.cluster d.other d.after d.differ.id_is facts.as_long in
    let has_bytes = first_bytes 0 d.items (subst AreBytes d.are_items.joined bytes_a) in
    let one_a = tracks_by_one (first_tracks 0 d.items) d.tracks is_a.tracks has_bytes d.tracks_are
    (subst (λ z. AreTracksBy (first_tracks 0 z) is_a.tracks) (items_a ∙ sym d.at) is_a.are_parts.tracks_are) in
    let one_b = tracks_by_one (first_tracks 0 d.items) d.tracks is_b.tracks has_bytes d.tracks_are
    (subst (λ z. AreTracksBy z is_b.tracks) (ap (first_tracks 0) items_b ∙ sym firsts ∙ ap (first_tracks 0) (sym d.at)) is_b.are_parts.tracks_are) in
    let at : slice_get d.tracks d.is_track.0 ≡ Some d.track =
    slice_get-get_or d.tracks d.is_track.0 d.track d.is_track.1 ∙ ap (λ z. Some z) d.is_track.2 in
    let at_a = element_at (first_tracks 0 (d.before ++ element_item d.differ.head d.cluster ∷ d.after)) is_a.tracks 0 d.before d.differ.head d.cluster d.after is_a.parts parts_a right_a in
    let at_b = element_at (first_tracks 0 (d.before ++ element_item d.differ.head d.other ∷ d.after)) is_b.tracks 0 d.before d.differ.head d.other d.after is_b.parts parts_b right_b in
    let cluster_bytes : AreBytes d.cluster =
    AreBytes-middle (bytes_of_items d.before) d.cluster (bytes_of_items d.after)
    (subst AreBytes (d.are_items.joined ∙ ap bytes_of_items d.at ∙ bytes_append d.before (element_item d.differ.head d.cluster ∷ d.after)) bytes_a) in
    let other_bytes : AreBytes d.other = AreBytes-middle (bytes_of_items d.before) d.other (bytes_of_items d.after) (subst AreBytes d.damaged_is bytes_b) in
    let same = cluster_same d.tracks is_a.tracks is_b.tracks one_a one_b d.is_track.0 d.track at d.judged (passes at_a.are.crc32) (passes at_b.are.crc32)
    (first_tracks 0 (d.before ++ element_item d.differ.head d.cluster ∷ d.after)) (first_tracks 0 (d.before ++ element_item d.differ.head d.other ∷ d.after)) at_a.place at_b.place
    d.cluster d.other at_a.parts at_b.parts cluster_bytes other_bytes d.differ at_a.are at_b.are refl refl at_a.right at_b.right in
    d.are_items.joined ∙ ap bytes_of_items d.at ∙ bytes_append d.before (element_item d.differ.head d.cluster ∷ d.after)
    ∙ ap (λ z. bytes_of_items d.before ++ (z ++ bytes_of_items d.after)) same ∙ sym d.damaged_is
