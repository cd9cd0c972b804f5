-- The parts of an element of the top, put together.
use Rattle.std.proofs.Common.{◌≡◌, ℕ, ◌+◌, ◌-◌, length, Bool, List, [], ◌∷◌, ◌++◌, drop, ap, ◌∙◌, subst}
use Rattle.std.specs.Prelude.{◌&&◌, Option, Some}
use Rattle.std.proofs.lemmas.List.{append_assoc}
use Rattle.ebml.specs.declared.head.Head.{Head}
use Rattle.matroska.specs.declared.track.Track.{Track}
use Rattle.matroska_parts.specs.TopElements.{top_element_of}
use Rattle.matroska_parts.specs.MasterParts.{AreContentParts}
use Rattle.matroska_parts.specs.Openings.{opening_of, IsCrc32Of, passes, closing_of, AreDocParts}
use Rattle.matroska_parts.specs.ItemParts.{PlacedContent, is_at, is_uncut, AreRecordPartsIf, AreElementParts}
use Rattle.matroska_parts.specs.declared.top_elements.TopElement.{TopElement}
use Rattle.matroska_parts.specs.declared.parts.Part.{Part}
use Rattle.matroska_parts.specs.declared.parts.Part.TheVariants as part
use Rattle.matroska_parts.specs.declared.parts.Opening.{Opening}
use Rattle.matroska_parts.specs.declared.parts.Closing.{Closing}
use Rattle.matroska_parts.specs.declared.parts.Crc32.{Crc32}
use Rattle.matroska_parts.specs.Inner.Added.{AddsParts}

pub closing_is : (place : ℕ) (element : TopElement) (head : Head) (bytes : List ℕ) (crc32 : Crc32) (content : ℕ) → content ≡ length bytes - head.length
    → record { place = place; element = element; size = length bytes; content = content; crc32 = crc32 } ≡ closing_of place element head bytes crc32
closing_is place element head bytes crc32 content same =
    ap (λ z. let v : Closing = record { place = place; element = element; size = length bytes; content = z; crc32 = crc32 } in v) same

regroup : (old content doc records : List Part) (first last : Part)
    → ((((old ++ first ∷ []) ++ content) ++ doc) ++ records) ++ last ∷ [] ≡ old ++ (first ∷ (content ++ (doc ++ (records ++ last ∷ []))))
regroup old content doc records first last = simp append_assoc

pub element_there : (found : Option PlacedContent) (tracks : List Track) (place : ℕ) (head : Head) (bytes : List ℕ) (element : TopElement) (crc32 : Crc32)
    (vouched here : Bool) (opening : Opening) (closing : Closing) (old p q r s new : List Part) → top_element_of head.id ≡ Some element → IsCrc32Of head bytes crc32
    → opening ≡ opening_of place element head → closing ≡ closing_of place element head bytes crc32
    → vouched ≡ passes crc32 → here ≡ (is_at place found && is_uncut crc32) → p ≡ old ++ part.Begin opening ∷ []
    → AddsParts (AreContentParts head.id tracks vouched (place + head.length) (drop head.length bytes)) p q
    → AddsParts (AreDocParts element place (drop head.length bytes)) q r
    → AddsParts (AreRecordPartsIf here vouched (place + head.length) tracks) r s → new ≡ s ++ part.End closing ∷ []
    → AddsParts (AreElementParts found tracks place head bytes) old new
element_there found tracks place head bytes element crc32 vouched here opening closing old p q r s new known crc32_is opens closes vouched_is here_is begun content doc records ended =
    let first : Part = part.Begin opening in
    let last : Part = part.End closing in
    let q_is : q ≡ (old ++ part.Begin opening ∷ []) ++ content.0 = content.1 ∙ ap (λ z. z ++ content.0) begun in
    let r_is : r ≡ ((old ++ part.Begin opening ∷ []) ++ content.0) ++ doc.0 = doc.1 ∙ ap (λ z. z ++ doc.0) q_is in
    let s_is : s ≡ (((old ++ part.Begin opening ∷ []) ++ content.0) ++ doc.0) ++ records.0 = records.1 ∙ ap (λ z. z ++ records.0) r_is in
    let all : new ≡ old ++ (part.Begin opening ∷ (content.0 ++ (doc.0 ++ (records.0 ++ part.End closing ∷ [])))) =
    ended ∙ ap (λ z. z ++ part.End closing ∷ []) s_is ∙ regroup old content.0 doc.0 records.0 (part.Begin opening) (part.End closing) in (
      part.Begin opening ∷ (content.0 ++ (doc.0 ++ (records.0 ++ part.End closing ∷ []))),
      all,
      record {
        element = element;
        known = known;
        crc32 = crc32;
        crc32_is = crc32_is;
        content = content.0;
        content_is = subst (λ v. AreContentParts head.id tracks v (place + head.length) (drop head.length bytes) content.0) vouched_is content.2;
        doc = doc.0;
        doc_is = doc.2;
        records = records.0;
        records_are = subst (λ v. AreRecordPartsIf (is_at place found && is_uncut crc32) v (place + head.length) tracks records.0) vouched_is
            (subst (λ h. AreRecordPartsIf h vouched (place + head.length) tracks records.0) here_is records.2);
        joined = ap (λ z. part.Begin z ∷ (content.0 ++ (doc.0 ++ (records.0 ++ part.End closing ∷ [])))) opens
            ∙ ap (λ z. part.Begin (opening_of place element head) ∷ (content.0 ++ (doc.0 ++ (records.0 ++ part.End z ∷ [])))) closes;
      },
    )
