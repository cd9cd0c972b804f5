-- A file has one report.
use Rattle.std.proofs.Common.{◌≡◌, ℕ, zero, suc, ◌+◌, Bool, true, false, cond, eqb, List, [], ◌∷◌, ◌++◌, length, map, drop, refl, sym, ap, ◌∙◌, subst, arith}
use Rattle.std.specs.Prelude.{◌&&◌, IsTrue, codes, Option, Some, slice_get}
use Rattle.std.specs.Fmt.{decimal}
use Rattle.std.specs.List.{flat_map}
use Rattle.ffv1_bits.specs.Parity.{AreBytes}
use Rattle.ffv1_bits.proofs.Bytes.{AreBytes-drop, AreBytes-front, no_bytes, AreBytes-rest}
use Rattle.ebml.specs.Masters.{child_ids}
use Rattle.ebml.specs.Items.{ItemValue, bytes_of_items}
use Rattle.ebml.specs.declared.head.Head.{Head}
use Rattle.ebml.specs.declared.items.Kind.{Kind}
use Rattle.ebml.specs.declared.items.Kind.TheVariants as kind
use Rattle.ebml.proofs.ItemList.{items_are_one}
use Rattle.matroska.specs.declared.track.Track.{Track}
use Rattle.matroska_parts.proofs.MasterSteps.{same_some}
use Rattle.matroska_parts.specs.declared.parts.Part.{Part}
use Rattle.matroska_parts.specs.declared.parts.Part.TheVariants as part
use Rattle.matroska_parts.specs.declared.parts.Crc32.{Crc32}
use Rattle.matroska_parts.specs.declared.top_elements.TopElement.{TopElement}
use Rattle.matroska_parts.specs.MasterParts.{AreContentParts}
use Rattle.matroska_parts.specs.Openings.{passes, opening_of, closing_of, AreDocParts}
use Rattle.matroska_parts.specs.ItemParts.{PlacedContent, is_tracks, content_by, first_tracks, AreTracksBy, is_at, is_uncut, AreRecordPartsIf, AreElementParts, AreItemPartsBy, AreItemParts}
use Rattle.ffv1_check.specs.declared.findings.Line.{Line}
use Rattle.ffv1_check.specs.declared.report.Report.{Report}
use Rattle.ffv1_check.specs.declared.report.TrackCount.{TrackCount}
use Rattle.ffv1_check.specs.Findings.{line_text}
use Rattle.ffv1_check.specs.Reports.{file_lines, track_count_of, blocks_of, checked_of, IsWhole, IsReportOf}
use Rattle.ffv1_check.specs.ReportLines.{codec_word, track_line, bytes_line, whole_line, check_text}
use Rattle.ffv1_check.specs.Checks.{CountValue, count_value, ReportValue, report_value, ReportIsOne}
use Rattle.ffv1_check.proofs.TrackOne.{bool_same, EachAlike, each_back, same_count, alike_at, Distinct, HasBytes, tracks_by_one}
use Rattle.ffv1_check.proofs.PartOne.{crc32_is_one, doc_is_one, records_if_one, content_is_one}

-- ---- the parts of items

abbrev parts_by : ℕ → Head → List ℕ → TopElement → Crc32 → (content doc records : List Part) → List Part
parts_by place head bytes element crc32 content doc records =
    part.Begin (opening_of place element head) ∷ (content ++ (doc ++ (records ++ part.End (closing_of place element head bytes crc32) ∷ [])))

module _ (first : Option PlacedContent) (ts us : List Track) (alike : EachAlike ts us) (distinct : Distinct ts) where
  element_is_one : (place : ℕ) (head : Head) (bytes : List ℕ) (xs ys : List Part) → AreBytes bytes → AreElementParts first ts place head bytes xs
      → AreElementParts first us place head bytes ys → xs ≡ ys
  element_is_one place head bytes xs ys are_bytes are others =
      let element = same_some are.element others.element (sym are.known ∙ others.known) in
      let crc32 = crc32_is_one head bytes are.crc32 others.crc32 are.crc32_is others.crc32_is in
      let content = content_is_one ts us alike distinct (passes others.crc32) (child_ids head.id) (place + head.length) (drop head.length bytes) are.content others.content
      (AreBytes-drop head.length bytes are_bytes) (subst (λ c. AreContentParts head.id ts (passes c) (place + head.length) (drop head.length bytes) are.content) crc32 are.content_is)
      others.content_is in
      let doc = doc_is_one others.element place (drop head.length bytes) are.doc others.doc
      (subst (λ e. AreDocParts e place (drop head.length bytes) are.doc) element are.doc_is) others.doc_is in
      let records = records_if_one (is_at place first && is_uncut others.crc32) (passes others.crc32) (place + head.length) ts us are.records others.records alike
      (subst (λ c. AreRecordPartsIf (is_at place first && is_uncut c) (passes c) (place + head.length) ts are.records) crc32 are.records_are) others.records_are in
      are.joined ∙ ap (λ e. parts_by place head bytes e are.crc32 are.content are.doc are.records) element
      ∙ ap (λ c. parts_by place head bytes others.element c are.content are.doc are.records) crc32
      ∙ ap (λ z. parts_by place head bytes others.element others.crc32 z are.doc are.records) content
      ∙ ap (λ z. parts_by place head bytes others.element others.crc32 others.content z are.records) doc
      ∙ ap (λ z. parts_by place head bytes others.element others.crc32 others.content others.doc z) records ∙ sym others.joined

  pub item_is_one : (k : Kind) (place : ℕ) (bytes : List ℕ) (xs ys : List Part) → AreBytes bytes → AreItemPartsBy k first ts place bytes xs
      → AreItemPartsBy k first us place bytes ys → xs ≡ ys
  item_is_one (kind.Segment head) place bytes xs ys are_bytes are others = are ∙ sym others
  item_is_one (kind.Element head) place bytes xs ys are_bytes are others = element_is_one place head bytes xs ys are_bytes are others
  item_is_one (kind.Endless head) place bytes xs ys are_bytes are others = element_is_one place head bytes xs ys are_bytes are others
  item_is_one kind.Unknown place bytes xs ys are_bytes are others = are ∙ sym others

  pub parts_are_one : (place : ℕ) (items : List ItemValue) (xs ys : List Part) → AreBytes (bytes_of_items items) → AreItemParts first ts place items xs
      → AreItemParts first us place items ys → xs ≡ ys
  parts_are_one place [] xs ys are_bytes are others = are ∙ sym others
  parts_are_one place (i ∷ items) xs ys are_bytes are others =
      are.2 ∙ ap (λ z. z ++ are.1) (item_is_one i.kind place i.bytes are.0 others.0 (AreBytes-front i.bytes (bytes_of_items items) are_bytes) are.3 others.3)
      ∙ ap (λ z. others.0 ++ z) (parts_are_one (place + length i.bytes) items are.1 others.1 (AreBytes-rest i.bytes (bytes_of_items items) are_bytes) are.4 others.4)
      ∙ sym others.2

-- ---- the first Tracks

content_bytes : (k : Kind) (bytes : List ℕ) → AreBytes bytes → AreBytes (content_by k bytes)
content_bytes (kind.Segment head) bytes are = no_bytes
content_bytes (kind.Element head) bytes are = AreBytes-drop head.length bytes are
content_bytes (kind.Endless head) bytes are = no_bytes
content_bytes kind.Unknown bytes are = no_bytes

pub first_bytes : (place : ℕ) (items : List ItemValue) → AreBytes (bytes_of_items items) → HasBytes (first_tracks place items)
first_bytes place [] bytes = tt
first_bytes place (i ∷ items) bytes =
    elim (is_tracks i.kind) as (λ b. HasBytes (cond b (Some record { place = place; content = content_by i.kind i.bytes }) (first_tracks (place + length i.bytes) items))) [
      | true ↦ content_bytes i.kind i.bytes (AreBytes-front i.bytes (bytes_of_items items) bytes)
      | false ↦ first_bytes (place + length i.bytes) items (AreBytes-rest i.bytes (bytes_of_items items) bytes)
    ]

-- ---- counts

abbrev value_line : CountValue → List ℕ
value_line value =
    codes "track " ++ decimal value.number ++ codes " " ++ codec_word value.codec ++ codes " blocks " ++ decimal value.blocks ++ codes " checked "
    ++ decimal value.checked ++ codes "\n"

counts_are_one : (parts : List Part) (k : ℕ) (ts us : List Track) (xs ys : List TrackCount) → EachAlike ts us → length xs ≡ length ts → length ys ≡ length us
    → ((index : ℕ) (track : Track) → slice_get ts index ≡ Some track → slice_get xs index ≡ Some (track_count_of track (k + index) parts))
    → ((index : ℕ) (track : Track) → slice_get us index ≡ Some track → slice_get ys index ≡ Some (track_count_of track (k + index) parts))
    → (map count_value xs ≡ map count_value ys) × (flat_map track_line xs ≡ flat_map track_line ys)
counts_are_one parts k [] [] [] [] each long other_long are others = (refl, refl)
counts_are_one parts k [] [] [] (y ∷ ys) each long other_long are others = absurd (omega (arith, other_long))
counts_are_one parts k [] [] (x ∷ xs) ys each long other_long are others = absurd (omega (arith, long))
counts_are_one parts k [] (u ∷ us) xs ys each long other_long are others = absurd each
counts_are_one parts k (t ∷ ts) [] xs ys each long other_long are others = absurd each
counts_are_one parts k (t ∷ ts) (u ∷ us) [] ys each long other_long are others = absurd (omega (arith, long))
counts_are_one parts k (t ∷ ts) (u ∷ us) (x ∷ xs) [] each long other_long are others = absurd (omega (arith, other_long))
counts_are_one parts k (t ∷ ts) (u ∷ us) (x ∷ xs) (y ∷ ys) each long other_long are others =
    let of : ℕ → List ℕ → CountValue = λ n c. record { number = n; codec = c; blocks = blocks_of (k + 0) parts; checked = checked_of (k + 0) parts } in
    let first : x ≡ track_count_of t (k + 0) parts = same_some x (track_count_of t (k + 0) parts) (are zero t refl) in
    let other : y ≡ track_count_of u (k + 0) parts = same_some y (track_count_of u (k + 0) parts) (others zero u refl) in
    let value : count_value x ≡ count_value y =
    ap count_value first ∙ ap (λ n. of n t.codec.now) each.0.number ∙ ap (λ c. of u.number c) each.0.codec ∙ sym (ap count_value other) in
    let later = counts_are_one parts (suc k) ts us xs ys each.1 (omega (arith, long)) (omega (arith, other_long))
    (λ index track at. subst (λ n. slice_get xs index ≡ Some (track_count_of track n parts)) (moved index) (are (suc index) track at))
    (λ index track at. subst (λ n. slice_get ys index ≡ Some (track_count_of track n parts)) (moved index) (others (suc index) track at)) in (
      ap (λ v. v ∷ map count_value xs) value ∙ ap (λ z. count_value y ∷ z) later.0,
      ap (λ v. value_line v ++ flat_map track_line xs) value ∙ ap (λ z. value_line (count_value y) ++ z) later.1,
    )
  where
    moved : (index : ℕ) → k + suc index ≡ suc k + index
    moved index = omega arith

-- ---- the verdict

whole_same : (ts us : List Track) (size : ℕ) (parts : List Part) → EachAlike ts us → IsWhole ts size parts → IsWhole us size parts
whole_same ts us size parts each whole = record {
  no_line = ap (λ n. file_lines n size parts) (sym (same_count ts us each)) ∙ whole.no_line;
  checked = λ index track at video.
      let there = alike_at us ts (each_back ts us each) index track at in
      whole.checked index there.0 there.1 (subst (λ k. IsTrue (eqb k 1)) there.2.kind video);
}

-- ---- the report

same_report : (a b : Report) → a.lines.items ≡ b.lines.items → map count_value a.tracks.items ≡ map count_value b.tracks.items → a.size ≡ b.size → a.checked ≡ b.checked
    → a.is_whole ≡ b.is_whole → report_value a ≡ report_value b
same_report a b lines tracks size checked whole =
    let of : List Line → List CountValue → ℕ → ℕ → Bool → ReportValue = λ l t s c w. record { lines = l; tracks = t; size = s; checked = c; is_whole = w } in
    ap (λ l. of l (map count_value a.tracks.items) a.size a.checked a.is_whole) lines ∙ ap (λ t. of b.lines.items t a.size a.checked a.is_whole) tracks
    ∙ ap (λ s. of b.lines.items (map count_value b.tracks.items) s a.checked a.is_whole) size
    ∙ ap (λ c. of b.lines.items (map count_value b.tracks.items) b.size c a.is_whole) checked
    ∙ ap (λ w. of b.lines.items (map count_value b.tracks.items) b.size b.checked w) whole

same_text : (a b : Report) → a.lines.items ≡ b.lines.items → flat_map track_line a.tracks.items ≡ flat_map track_line b.tracks.items → a.size ≡ b.size → a.checked ≡ b.checked
    → a.is_whole ≡ b.is_whole → check_text a ≡ check_text b
same_text a b lines tracks size checked whole =
    let of : List Line → List ℕ → ℕ → ℕ → Bool → List ℕ = λ l t s c w. flat_map line_text l ++ (t ++ (bytes_line s c ++ whole_line w)) in
    ap (λ l. of l (flat_map track_line a.tracks.items) a.size a.checked a.is_whole) lines ∙ ap (λ t. of b.lines.items t a.size a.checked a.is_whole) tracks
    ∙ ap (λ s. of b.lines.items (flat_map track_line b.tracks.items) s a.checked a.is_whole) size
    ∙ ap (λ c. of b.lines.items (flat_map track_line b.tracks.items) b.size c a.is_whole) checked
    ∙ ap (λ w. of b.lines.items (flat_map track_line b.tracks.items) b.size b.checked w) whole

one_report : (ts us : List Track) (size : ℕ) (parts : List Part) (a b : Report) → EachAlike ts us → IsReportOf ts size parts a → IsReportOf us size parts b
    → (report_value a ≡ report_value b) × (check_text a ≡ check_text b)
one_report ts us size parts a b each is other =
    let lines = is.lines ∙ ap (λ n. file_lines n size parts) (same_count ts us each) ∙ sym other.lines in
    let counts = counts_are_one parts 0 ts us a.tracks.items b.tracks.items each is.tracks_are other.tracks_are
    (λ index track at. subst (λ n. slice_get a.tracks.items index ≡ Some (track_count_of track n parts)) (from_zero index) (is.counts index track at))
    (λ index track at. subst (λ n. slice_get b.tracks.items index ≡ Some (track_count_of track n parts)) (from_zero index) (other.counts index track at)) in
    let sizes = is.size_is ∙ sym other.size_is in
    let checked = is.bytes ∙ sym other.bytes in
    let whole = bool_same a.is_whole b.is_whole (IsWhole ts size parts) (IsWhole us size parts) (whole_same ts us size parts each) (whole_same us ts size parts (each_back ts us each)) is.whole other.whole in
    (same_report a b lines counts.0 sizes checked whole, same_text a b lines counts.1 sizes checked whole)
  where
    from_zero : (index : ℕ) → index ≡ 0 + index
    from_zero index = omega arith

pub report_is_one : ReportIsOne
report_is_one file a b bytes is_a is_b =
    let items = items_are_one file is_a.are_parts.items is_b.are_parts.items bytes is_a.are_parts.are_items is_b.are_parts.are_items in
    let item_bytes : AreBytes (bytes_of_items is_b.are_parts.items) = subst AreBytes is_b.are_parts.are_items.joined bytes in
    let tracks = tracks_by_one (first_tracks 0 is_b.are_parts.items) is_a.tracks is_b.tracks (first_bytes 0 is_b.are_parts.items item_bytes)
    (subst (λ z. AreTracksBy (first_tracks 0 z) is_a.tracks) items is_a.are_parts.tracks_are) is_b.are_parts.tracks_are in
    let parts = parts_are_one (first_tracks 0 is_b.are_parts.items) is_a.tracks is_b.tracks tracks.alike tracks.distinct 0 is_b.are_parts.items is_a.parts is_b.parts item_bytes
    (subst (λ z. AreItemParts (first_tracks 0 z) is_a.tracks 0 z is_a.parts) items is_a.are_parts.parts_are) is_b.are_parts.parts_are in
    one_report is_a.tracks is_b.tracks (length file) is_b.parts a b tracks.alike (subst (λ z. IsReportOf is_a.tracks (length file) z a) parts is_a.is_report) is_b.is_report
