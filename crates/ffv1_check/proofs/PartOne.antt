-- The parts of an element of the top are one list, by tracks that say the same.
use Rattle.std.proofs.Common.{◌≡◌, ℕ, ℤ, ◌+◌, ◌-◌, ◌<◌, ◌≤◌, Bool, true, false, List, [], ◌∷◌, ◌++◌, length, refl, sym, ap, ◌∙◌, subst, arith, inl, inr}
use Rattle.std.specs.Prelude.{◌≢◌, Option, Some, slice_get}
use Rattle.ffv1_bits.specs.Parity.{AreBytes}
use Rattle.ebml.specs.declared.head.Head.{Head}
use Rattle.matroska.specs.Blocks.{BlockValue}
use Rattle.matroska.specs.Tracks.{IsRecordWrong, HasParities, IsFlac}
use Rattle.matroska.specs.Sound.{IsRightFlac}
use Rattle.matroska.specs.declared.track.Track.{Track}
use Rattle.matroska.proofs.BlockSteps.{block_is_one}
use Rattle.matroska.proofs.TrackSteps.{record_is_one}
use Rattle.matroska_parts.proofs.MasterSteps.{same_some}
use Rattle.matroska_parts.proofs.OneSteps.{contents_have_one}
use Rattle.matroska_parts.specs.declared.parts.Part.{Part}
use Rattle.matroska_parts.specs.declared.parts.Part.TheVariants as part
use Rattle.matroska_parts.specs.declared.parts.BlockPart.{BlockPart}
use Rattle.matroska_parts.specs.declared.parts.TrackBlock.{TrackBlock}
use Rattle.matroska_parts.specs.declared.parts.RecordPart.{RecordPart}
use Rattle.matroska_parts.specs.declared.parts.Standing.{Standing}
use Rattle.matroska_parts.specs.declared.parts.Standing.TheVariants as standing
use Rattle.matroska_parts.specs.declared.parts.Payload.{Payload}
use Rattle.matroska_parts.specs.declared.parts.Payload.TheVariants as payload
use Rattle.matroska_parts.specs.declared.parts.Crc32.{Crc32}
use Rattle.matroska_parts.specs.declared.parts.Crc32.TheVariants as crc
use Rattle.matroska_parts.specs.declared.top_elements.TopElement.{TopElement}
use Rattle.matroska_parts.specs.declared.top_elements.TopElement.TheVariants as tops
use Rattle.matroska_parts.specs.Payloads.{frame_limit, flac_limit, IsFramePayload, IsFlacPayload, IsPayloadOf, HasPassing, IsFfv1}
use Rattle.matroska_parts.specs.BlockParts.{IsTrackBlock, IsStanding}
use Rattle.matroska_parts.specs.MasterParts.{IsOneBlock, AreContentPartsBy}
use Rattle.matroska_parts.specs.Openings.{IsCrc32Of, AreDocParts}
use Rattle.matroska_parts.specs.RecordParts.{record_place, IsRecordPart, AreRecordPartsOf, AreRecordParts}
use Rattle.matroska_parts.specs.ItemParts.{AreRecordPartsIf}
use Rattle.ffv1_check.proofs.VerdictOne.{verdict_is_one, verdict_stable}
use Rattle.ffv1_check.proofs.TrackOne.{bool_same, bool_one, Alike, same_back, same_record, same_ffv1, same_wrong, same_parities, same_flac, EachAlike, each_back, alike_at, Distinct, all_get, index_is_one}

-- ---- payloads

too_long : (n m : ℕ) → n ≤ m → m < n → ⊥
too_long n m few many = omega (arith, few, many)

frame_is_one : (block : BlockValue) (x y : Payload) → IsFramePayload block x → IsFramePayload block y → x ≡ y
frame_is_one block (payload.Flac r) y is other = absurd is
frame_is_one block payload.Other y is other = absurd is
frame_is_one block x (payload.Flac r) is other = absurd other
frame_is_one block x payload.Other is other = absurd other
frame_is_one block payload.Laced payload.Laced is other = refl
frame_is_one block payload.Laced payload.Long is other = absurd (is other.0)
frame_is_one block payload.Laced (payload.Frame w) is other = absurd (is other.0)
frame_is_one block payload.Long payload.Laced is other = absurd (other is.0)
frame_is_one block payload.Long payload.Long is other = refl
frame_is_one block payload.Long (payload.Frame w) is other = absurd (too_long (length block.payload) frame_limit other.1 is.1)
frame_is_one block (payload.Frame v) payload.Laced is other = absurd (other is.0)
frame_is_one block (payload.Frame v) payload.Long is other = absurd (too_long (length block.payload) frame_limit is.1 other.1)
frame_is_one block (payload.Frame v) (payload.Frame w) is other = ap (λ z. payload.Frame z) (verdict_is_one block.payload v w is.2 other.2)

flac_is_one : (block : BlockValue) (x y : Payload) → IsFlacPayload block x → IsFlacPayload block y → x ≡ y
flac_is_one block payload.Laced y is other = absurd is
flac_is_one block (payload.Frame v) y is other = absurd is
flac_is_one block payload.Other y is other = absurd is
flac_is_one block x payload.Laced is other = absurd other
flac_is_one block x (payload.Frame w) is other = absurd other
flac_is_one block x payload.Other is other = absurd other
flac_is_one block payload.Long payload.Long is other = refl
flac_is_one block payload.Long (payload.Flac s) is other = absurd (too_long (length block.payload) flac_limit other.0 is)
flac_is_one block (payload.Flac r) payload.Long is other = absurd (too_long (length block.payload) flac_limit is.0 other)
flac_is_one block (payload.Flac r) (payload.Flac s) is other = ap (λ z. payload.Flac z) (bool_one r s (IsRightFlac block.lacing block.payload) is.1 other.1)

bool_stable : (a b : Bool) → ((a ≡ b → ⊥) → ⊥) → a ≡ b
bool_stable true true none = refl
bool_stable false false none = refl
bool_stable true false none = absurd (none (λ e. cc))
bool_stable false true none = absurd (none (λ e. cc))

payload_stable : (x y : Payload) → ((x ≡ y → ⊥) → ⊥) → x ≡ y
payload_stable payload.Laced payload.Laced none = refl
payload_stable payload.Long payload.Long none = refl
payload_stable (payload.Frame v) (payload.Frame w) none =
    ap (λ z. payload.Frame z) (verdict_stable v w (λ apart. none (λ same. let is : v ≡ w = cc in apart is)))
payload_stable (payload.Flac r) (payload.Flac s) none =
    ap (λ z. payload.Flac z) (bool_stable r s (λ apart. none (λ same. let is : r ≡ s = cc in apart is)))
payload_stable payload.Other payload.Other none = refl
payload_stable x y none = absurd (none (λ e. cc))

payload_is_one : (a b : Track) (block : BlockValue) (x y : Payload) → Alike a b → IsPayloadOf a block x → IsPayloadOf b block y → x ≡ y
payload_is_one a b block x y alike is other =
    payload_stable x y (λ apart.
    let no_parities : HasParities a → ⊥ = λ has. apart (frame_is_one block x y (is.frame has) (other.frame (same_parities a b alike has))) in
    let no_flac : IsFlac a → ⊥ = λ flac. apart (flac_is_one block x y (is.flac flac) (other.flac (same_flac a b alike flac))) in
    apart (is.other no_parities no_flac
    ∙ sym (other.other (λ has. no_parities (same_parities b a (same_back a b alike) has)) (λ flac. no_flac (same_flac b a (same_back a b alike) flac)))))

passing_is_one : (x : Payload) (bytes : List ℕ) (n m : ℕ) → HasPassing x bytes n → HasPassing x bytes m → n ≡ m
passing_is_one payload.Laced bytes n m is other = is ∙ sym other
passing_is_one payload.Long bytes n m is other = is ∙ sym other
passing_is_one (payload.Frame v) bytes n m is other = is ∙ sym other
passing_is_one (payload.Flac r) bytes n m is other = is ∙ sym other
passing_is_one payload.Other bytes n m is other = is ∙ sym other

-- ---- CRC-32s, and what is said of an EBML

pub crc32_is_one : (head : Head) (bytes : List ℕ) (x y : Crc32) → IsCrc32Of head bytes x → IsCrc32Of head bytes y → x ≡ y
crc32_is_one head bytes crc.Cut crc.Cut is other = refl
crc32_is_one head bytes crc.Cut crc.Absent is other = absurd (other.0 is)
crc32_is_one head bytes crc.Cut crc.Passes is other = absurd (other.0 is)
crc32_is_one head bytes crc.Cut crc.Fails is other = absurd (other.0 is)
crc32_is_one head bytes crc.Absent crc.Cut is other = absurd (is.0 other)
crc32_is_one head bytes crc.Absent crc.Absent is other = refl
crc32_is_one head bytes crc.Absent crc.Passes is other = absurd (is.1 other.1)
crc32_is_one head bytes crc.Absent crc.Fails is other = absurd (is.1 other.1)
crc32_is_one head bytes crc.Passes crc.Cut is other = absurd (is.0 other)
crc32_is_one head bytes crc.Passes crc.Absent is other = absurd (other.1 is.1)
crc32_is_one head bytes crc.Passes crc.Passes is other = refl
crc32_is_one head bytes crc.Passes crc.Fails is other = absurd (other.2 is.2)
crc32_is_one head bytes crc.Fails crc.Cut is other = absurd (is.0 other)
crc32_is_one head bytes crc.Fails crc.Absent is other = absurd (other.1 is.1)
crc32_is_one head bytes crc.Fails crc.Passes is other = absurd (is.2 other.2)
crc32_is_one head bytes crc.Fails crc.Fails is other = refl

ebml_is_one : (place : ℕ) (content : List ℕ) (xs ys : List Part) → AreDocParts tops.Ebml place content xs → AreDocParts tops.Ebml place content ys → xs ≡ ys
ebml_is_one place content xs ys are others =
    elim are [
      | inl x ↦ elim others [ inl y ↦ x.1 ∙ sym y.1 | inr y ↦ absurd (y.0 x.0) ]
      | inr x ↦ elim others [ inl y ↦ absurd (x.0 y.0) | inr y ↦ x.1 ∙ sym y.1 ]
    ]

pub doc_is_one : (element : TopElement) (place : ℕ) (content : List ℕ) (xs ys : List Part) → AreDocParts element place content xs → AreDocParts element place content ys
    → xs ≡ ys
doc_is_one tops.Ebml place content xs ys are others = ebml_is_one place content xs ys are others
doc_is_one tops.Segment place content xs ys are others = are ∙ sym others
doc_is_one tops.SeekHead place content xs ys are others = are ∙ sym others
doc_is_one tops.Info place content xs ys are others = are ∙ sym others
doc_is_one tops.Tracks place content xs ys are others = are ∙ sym others
doc_is_one tops.Cues place content xs ys are others = are ∙ sym others
doc_is_one tops.Cluster place content xs ys are others = are ∙ sym others
doc_is_one tops.Attachments place content xs ys are others = are ∙ sym others
doc_is_one tops.Chapters place content xs ys are others = are ∙ sym others
doc_is_one tops.Tags place content xs ys are others = are ∙ sym others
doc_is_one tops.Void place content xs ys are others = are ∙ sym others

-- ---- records

record_part_is_one : (place : ℕ) (vouched : Bool) (a b : Track) (x y : RecordPart) → Alike a b → IsRecordPart place vouched a x → IsRecordPart place vouched b y → x ≡ y
record_part_is_one place vouched a b x y alike is other =
    let of : ℕ → ℕ → ℕ → Bool → Bool → RecordPart = λ p s t w v. record { place = p; size = s; track = t; is_wrong = w; is_vouched = v } in
    let bytes = record_is_one b is.bytes other.bytes (same_record a b is.bytes alike is.has) other.has in
    let places : record_place place a (length is.bytes) ≡ record_place place b (length other.bytes) =
    ap (λ n. place + n + (length a.private.now - length is.bytes)) alike.private_at ∙ ap (λ z. place + b.private_at + (length z - length is.bytes)) alike.private
    ∙ ap (λ z. place + b.private_at + (length b.private.now - length z)) bytes in
    let wrong = bool_same x.is_wrong y.is_wrong (IsRecordWrong a) (IsRecordWrong b) (same_wrong a b alike) (same_wrong b a (same_back a b alike)) is.wrong other.wrong in
    ap (λ p. of p x.size x.track x.is_wrong x.is_vouched) (is.at ∙ places ∙ sym other.at)
    ∙ ap (λ s. of y.place s x.track x.is_wrong x.is_vouched) (is.size ∙ ap length bytes ∙ sym other.size)
    ∙ ap (λ t. of y.place y.size t x.is_wrong x.is_vouched) (is.named ∙ alike.number ∙ sym other.named)
    ∙ ap (λ w. of y.place y.size y.track w x.is_vouched) wrong ∙ ap (λ v. of y.place y.size y.track y.is_wrong v) (is.vouched_is ∙ sym other.vouched_is)

record_of_track : (place : ℕ) (vouched : Bool) (a b : Track) (xs ys : List Part) → Alike a b → AreRecordPartsOf place vouched a xs → AreRecordPartsOf place vouched b ys
    → xs ≡ ys
record_of_track place vouched a b xs ys alike are others =
    elim are [
      | inl x ↦ elim others [
        | inl y ↦ x.2 ∙ ap (λ z. part.Record z ∷ []) (record_part_is_one place vouched a b x.0 y.0 alike x.1 y.1) ∙ sym y.2
        | inr y ↦ absurd (no_some x.1.bytes x.1.some (y.0 x.1.bytes (same_record a b x.1.bytes alike x.1.has)))
      ]
      | inr x ↦ elim others [
        | inl y ↦ absurd (no_some y.1.bytes y.1.some (x.0 y.1.bytes (same_record b a y.1.bytes (same_back a b alike) y.1.has)))
        | inr y ↦ x.1 ∙ sym y.1
      ]
    ]
  where
    no_some : (bytes : List ℕ) → 0 < length bytes → bytes ≡ [] → ⊥
    no_some bytes some none = omega (arith, some, ap length none)

records_are_one : (place : ℕ) (vouched : Bool) (ts us : List Track) (xs ys : List Part) → EachAlike ts us → AreRecordParts place vouched ts xs
    → AreRecordParts place vouched us ys → xs ≡ ys
records_are_one place vouched [] [] xs ys each are others = are ∙ sym others
records_are_one place vouched [] (u ∷ us) xs ys each are others = absurd each
records_are_one place vouched (t ∷ ts) [] xs ys each are others = absurd each
records_are_one place vouched (t ∷ ts) (u ∷ us) xs ys each are others =
    are.2 ∙ ap (λ z. z ++ are.1) (record_of_track place vouched t u are.0 others.0 each.0 are.3 others.3)
    ∙ ap (λ z. others.0 ++ z) (records_are_one place vouched ts us are.1 others.1 each.1 are.4 others.4) ∙ sym others.2

pub records_if_one : (here vouched : Bool) (place : ℕ) (ts us : List Track) (xs ys : List Part) → EachAlike ts us → AreRecordPartsIf here vouched place ts xs
    → AreRecordPartsIf here vouched place us ys → xs ≡ ys
records_if_one true vouched place ts us xs ys each are others = records_are_one place vouched ts us xs ys each are others
records_if_one false vouched place ts us xs ys each are others = are ∙ sym others

-- ---- blocks

same_block : (x y : TrackBlock) → x.index ≡ y.index → x.track ≡ y.track → x.is_ffv1 ≡ y.is_ffv1 → x.time ≡ y.time → x.payload ≡ y.payload → x.passing ≡ y.passing
    → x.is_vouched ≡ y.is_vouched → x ≡ y
same_block x y index track ffv1 time payloads passing vouched =
    let of : ℕ → ℕ → Bool → ℤ → Payload → ℕ → Bool → TrackBlock =
    λ i t f s p n v. record { index = i; track = t; is_ffv1 = f; time = s; payload = p; passing = n; is_vouched = v } in
    ap (λ i. of i x.track x.is_ffv1 x.time x.payload x.passing x.is_vouched) index ∙ ap (λ t. of y.index t x.is_ffv1 x.time x.payload x.passing x.is_vouched) track
    ∙ ap (λ f. of y.index y.track f x.time x.payload x.passing x.is_vouched) ffv1 ∙ ap (λ s. of y.index y.track y.is_ffv1 s x.payload x.passing x.is_vouched) time
    ∙ ap (λ p. of y.index y.track y.is_ffv1 y.time p x.passing x.is_vouched) payloads ∙ ap (λ n. of y.index y.track y.is_ffv1 y.time y.payload n x.is_vouched) passing
    ∙ ap (λ v. of y.index y.track y.is_ffv1 y.time y.payload y.passing v) vouched

-- the track of a block is one
pub track_of_block : (ts us : List Track) → EachAlike ts us → Distinct ts → (i j : ℕ) (t u : Track) → slice_get ts i ≡ Some t → slice_get us j ≡ Some u
    → t.number ≡ u.number → (i ≡ j) × Alike t u
track_of_block ts us alike distinct i j t u at other number =
    let back = alike_at us ts (each_back ts us alike) j u other in
    let index = index_is_one ts i j t back.0 distinct at back.1 (number ∙ back.2.number) in
    let there = alike_at ts us alike i t at in
    let same : there.0 ≡ u = same_some there.0 u (sym there.1 ∙ ap (slice_get us) index ∙ other) in
    (index, subst (Alike t) same there.2)

module _ (ts us : List Track) (alike : EachAlike ts us) (distinct : Distinct ts) (vouched : Bool) where
  track_block_is_one : (block : BlockValue) (x y : TrackBlock) → IsTrackBlock ts vouched block x → IsTrackBlock us vouched block y → x ≡ y
  track_block_is_one block x y is other =
      let one = track_of_block ts us alike distinct x.index y.index is.track other.track is.at other.at (is.number ∙ sym other.number) in
      let payloads = payload_is_one is.track other.track block x.payload y.payload one.1 is.payload other.payload in
      let passing = passing_is_one y.payload block.payload x.passing y.passing (subst (λ z. HasPassing z block.payload x.passing) payloads is.passing) other.passing in
      let ffv1 = bool_same x.is_ffv1 y.is_ffv1 (IsFfv1 is.track) (IsFfv1 other.track) (same_ffv1 is.track other.track one.1)
      (same_ffv1 other.track is.track (same_back is.track other.track one.1)) is.ffv1 other.ffv1 in
      same_block x y one.0 (is.named ∙ sym other.named) ffv1 (is.time ∙ sym other.time) payloads passing (is.vouched_is ∙ sym other.vouched_is)

  standing_is_one : (content : List ℕ) (x y : Standing) → AreBytes content → IsStanding ts vouched content x → IsStanding us vouched content y → x ≡ y
  standing_is_one content standing.Short standing.Short bytes is other = refl
  standing_is_one content standing.Short (standing.Unnamed u) bytes is other = absurd (is other.0 other.1)
  standing_is_one content standing.Short (standing.Named y) bytes is other = absurd (is other.0 other.1)
  standing_is_one content (standing.Unnamed t) standing.Short bytes is other = absurd (other is.0 is.1)
  standing_is_one content (standing.Unnamed t) (standing.Unnamed u) bytes is other =
      ap (λ z. standing.Unnamed z) (is.2 ∙ ap (λ z. z.track) (block_is_one content is.0 other.0 bytes is.1 other.1) ∙ sym other.2)
  standing_is_one content (standing.Unnamed t) (standing.Named y) bytes is other =
      let back = alike_at us ts (each_back ts us alike) y.index other.2.track other.2.at in
      let same : is.0 ≡ other.0 = block_is_one content is.0 other.0 bytes is.1 other.1 in
      absurd (all_get (λ z. z.number ≢ is.0.track) ts y.index back.0 is.3 back.1 (sym back.2.number ∙ other.2.number ∙ ap (λ z. z.track) (sym same)))
  standing_is_one content (standing.Named x) standing.Short bytes is other = absurd (other is.0 is.1)
  standing_is_one content (standing.Named x) (standing.Unnamed u) bytes is other =
      let there = alike_at ts us alike x.index is.2.track is.2.at in
      let same : is.0 ≡ other.0 = block_is_one content is.0 other.0 bytes is.1 other.1 in
      absurd (all_get (λ z. z.number ≢ other.0.track) us x.index there.0 other.3 there.1 (sym there.2.number ∙ is.2.number ∙ ap (λ z. z.track) same))
  standing_is_one content (standing.Named x) (standing.Named y) bytes is other =
      let same : is.0 ≡ other.0 = block_is_one content is.0 other.0 bytes is.1 other.1 in
      ap (λ z. standing.Named z) (track_block_is_one other.0 x y (subst (λ z. IsTrackBlock ts vouched z x) same is.2) other.2)

  one_block : (place : ℕ) (element content : List ℕ) (xs ys : List Part) → AreBytes content → IsOneBlock ts vouched place element content xs
      → IsOneBlock us vouched place element content ys → xs ≡ ys
  one_block place element content xs ys bytes is other =
      let of : ℕ → ℕ → Standing → BlockPart = λ p s t. record { place = p; size = s; standing = t } in
      let same : is.0 ≡ other.0 =
      ap (λ p. of p is.0.size is.0.standing) (is.2.at ∙ sym other.2.at) ∙ ap (λ s. of other.0.place s is.0.standing) (is.2.size ∙ sym other.2.size)
      ∙ ap (λ t. of other.0.place other.0.size t) (standing_is_one content is.0.standing other.0.standing bytes is.2.standing other.2.standing) in
      is.1 ∙ ap (λ z. part.Block z ∷ []) same ∙ sym other.1

  pub content_is_one : (ids : Option (List ℕ)) (place : ℕ) (content : List ℕ) (xs ys : List Part) → AreBytes content → AreContentPartsBy ids ts vouched place content xs
      → AreContentPartsBy ids us vouched place content ys → xs ≡ ys
  content_is_one ids place content xs ys bytes are others = contents_have_one ts us vouched one_block ids place content xs ys bytes are others
