-- The parts of an element of the top that was passed, put together.
use Rattle.std.proofs.Common.{◌≡◌, ℕ, ◌+◌, ◌-◌, length, List, [], ◌∷◌, ◌++◌, drop, sym, ap, ◌∙◌, subst, arith}
use Rattle.std.specs.Prelude.{◌&&◌, Option, Some}
use Rattle.std.proofs.lemmas.List.{append_assoc, length-append, drop_at}
use Rattle.ebml.specs.declared.head.Head.{Head}
use Rattle.matroska.specs.declared.track.Track.{Track}
use Rattle.matroska_parts.specs.TopElements.{top_element_of}
use Rattle.matroska_parts.specs.MasterParts.{unknown_parts, AreContentParts}
use Rattle.matroska_parts.specs.Openings.{opening_of, IsCrc32Of, passes, closing_of, AreDocParts}
use Rattle.matroska_parts.specs.ItemParts.{PlacedContent, is_at, is_uncut, AreRecordPartsIf, AreElementParts}
use Rattle.matroska_parts.specs.StreamedParts.{AddsEndParts}
use Rattle.matroska_parts.specs.declared.top_elements.TopElement.{TopElement}
use Rattle.matroska_parts.specs.declared.parts.Part.{Part}
use Rattle.matroska_parts.specs.declared.parts.Part.TheVariants as part
use Rattle.matroska_parts.specs.declared.parts.Opening.{Opening}
use Rattle.matroska_parts.specs.declared.parts.Closing.{Closing}
use Rattle.matroska_parts.specs.declared.parts.Crc32.{Crc32}
use Rattle.matroska_parts.specs.declared.elements.Inside.{Inside}
use Rattle.matroska_parts.specs.Inner.Added.{AddsParts}
use Rattle.matroska_parts.specs.Inner.Inside.{IsInsideOf, doc_parts}
use Rattle.matroska_parts.proofs.ItemSteps.{closing_is}

abbrev pub closing_with : ℕ → TopElement → (size content : ℕ) → Crc32 → Closing
closing_with place element size content crc32 = record { place = place; element = element; size = size; content = content; crc32 = crc32 }

pub element_parts : (found : Option PlacedContent) (tracks : List Track) (place : ℕ) (head : Head) (start content : List ℕ) (element : TopElement) (crc32 : Crc32) (n : ℕ)
    (own doc records : List Part) → top_element_of head.id ≡ Some element → length start ≡ head.length → n ≡ length content → IsCrc32Of head (start ++ content) crc32
    → AreContentParts head.id tracks (passes crc32) (place + head.length) content own → AreDocParts element place content doc
    → AreRecordPartsIf (is_at place found && is_uncut crc32) (passes crc32) (place + head.length) tracks records
    → AreElementParts found tracks place head (start ++ content)
    (part.Begin (opening_of place element head) ∷ (own ++ (doc ++ (records ++ part.End (closing_with place element (head.length + n) n crc32) ∷ []))))
element_parts found tracks place head start content element crc32 n own doc records known begins long crc32_is own_are doc_are records_are =
    let rest : content ≡ drop head.length (start ++ content) = sym (drop_at start content head.length begins) in
    let all = length-append start content in
    let size : head.length + n ≡ length (start ++ content) = omega (arith, begins, long, all) in
    let left : n ≡ length (start ++ content) - head.length = omega (arith, begins, long, all) in
    let closes : closing_with place element (head.length + n) n crc32 ≡ closing_of place element head (start ++ content) crc32 =
    ap (λ s. closing_with place element s n crc32) size ∙ closing_is place element head (start ++ content) crc32 n left in
    record {
      element = element;
      known = known;
      crc32 = crc32;
      crc32_is = crc32_is;
      content = own;
      content_is = subst (λ l. AreContentParts head.id tracks (passes crc32) (place + head.length) l own) rest own_are;
      doc = doc;
      doc_is = subst (λ l. AreDocParts element place l doc) rest doc_are;
      records = records;
      records_are = records_are;
      joined = ap (λ z. part.Begin (opening_of place element head) ∷ (own ++ (doc ++ (records ++ part.End z ∷ [])))) closes;
    }

regroup : (old own doc more : List Part) (first : Part) → (((old ++ first ∷ []) ++ own) ++ doc) ++ more ≡ old ++ (first ∷ (own ++ (doc ++ more)))
regroup old own doc more first = simp append_assoc

pub inside_parts : (found : Option PlacedContent) (tracks : List Track) (place : ℕ) (head : Head) (start content : List ℕ) (element : TopElement) (crc32 : Crc32) (inside : Inside)
    (opening : Opening) (old p q r new : List Part) → top_element_of head.id ≡ Some element → length start ≡ head.length → IsInsideOf head.id element content inside
    → IsCrc32Of head (start ++ content) crc32 → opening ≡ opening_of place element head → p ≡ old ++ part.Begin opening ∷ []
    → q ≡ p ++ unknown_parts (place + head.length + inside.children) (drop inside.children content) → r ≡ q ++ doc_parts inside.is_matroska place
    → AddsEndParts record { first = found; tracks = tracks } (place + head.length) (closing_with place element (head.length + inside.length) inside.length crc32) r new
    → AddsParts (AreElementParts found tracks place head (start ++ content)) old new
inside_parts found tracks place head start content element crc32 inside opening old p q r new known begins is crc32_is opens p_is q_is r_is ends =
    let own : List Part = unknown_parts (place + head.length + inside.children) (drop inside.children content) in
    let doc : List Part = doc_parts inside.is_matroska place in
    let last : List Part = ends.0 ++ part.End (closing_with place element (head.length + inside.length) inside.length crc32) ∷ [] in (
      part.Begin (opening_of place element head) ∷ (unknown_parts (place + head.length + inside.children) (drop inside.children content)
          ++ (doc_parts inside.is_matroska place ++ (ends.0 ++ part.End (closing_with place element (head.length + inside.length) inside.length crc32) ∷ []))),
      ends.2 ∙ ap (λ l. l ++ last) (r_is ∙ ap (λ l. l ++ doc) (q_is ∙ ap (λ l. l ++ own) (p_is ∙ ap (λ z. old ++ part.Begin z ∷ []) opens)))
          ∙ regroup old own doc last (part.Begin (opening_of place element head)),
      element_parts found tracks place head start content element crc32 inside.length own doc ends.0 known begins is.long crc32_is
          (is.parts tracks (passes crc32) (place + head.length)) (is.doc place) ends.1,
    )
