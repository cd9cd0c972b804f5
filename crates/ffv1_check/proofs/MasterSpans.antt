-- What passes in the content of an element of the top.
use Rattle.std.proofs.Common.{◌≡◌, ℕ, ◌+◌, Bool, List, [], ◌∷◌, ◌++◌, length, refl, ap, subst, arith, sym, inl, inr}
use Rattle.std.specs.Prelude.{Option}
use Rattle.std.proofs.lemmas.List.Sums.{sum_by-append, sum_by-cons}
use Rattle.ffv1_bits.specs.Parity.{AreBytes}
use Rattle.matroska.specs.declared.track.Track.{Track}
use Rattle.matroska_parts.specs.declared.parts.Part.{Part}
use Rattle.matroska_parts.specs.declared.parts.Part.TheVariants as part
use Rattle.matroska_parts.specs.declared.parts.BlockPart.{BlockPart}
use Rattle.matroska_parts.specs.declared.top_elements.TopElement.{TopElement}
use Rattle.matroska_parts.specs.declared.top_elements.TopElement.TheVariants as tops
use Rattle.matroska_parts.specs.BlockParts.{IsBlockPart}
use Rattle.matroska_parts.specs.MasterParts.{unknown_parts, AreContentPartsBy, AreContentParts}
use Rattle.matroska_parts.specs.Openings.{AreDocParts}
use Rattle.matroska_parts.proofs.ContentSteps.{content_good, tracks_are_unknown}
use Rattle.ffv1_check.specs.CheckedBytes.{block_bytes, part_bytes, checked_bytes}
use Rattle.ffv1_check.proofs.SpanSteps.{Counts, counts_none, counts_join}
use Rattle.ffv1_check.proofs.PayloadSpans.{standing_counts}

pub bytes_join : (xs ys : List Part) → checked_bytes (xs ++ ys) ≡ checked_bytes xs + checked_bytes ys
bytes_join xs ys = sum_by-append part_bytes xs ys

pub bytes_one : (p : Part) (ps : List Part) → checked_bytes (p ∷ ps) ≡ part_bytes p + checked_bytes ps
bytes_one p ps = sum_by-cons part_bytes p ps

pub none_zero : (parts : List Part) → parts ≡ [] → checked_bytes parts ≡ 0
none_zero parts e = ap checked_bytes e

unknown_zero : (place : ℕ) (bytes : List ℕ) → checked_bytes (unknown_parts place bytes) ≡ 0
unknown_zero place [] = refl
unknown_zero place (b ∷ bs) = omega (arith, bytes_one (part.Unknown record { place = place; size = length (b ∷ bs) }) [])

module _ (tracks : List Track) (vouched : Bool) where
  abbrev CountsParts : List ℕ → List Part → Type 0
  CountsParts bytes parts = Counts vouched bytes (checked_bytes parts)

  counts_zero : (bytes : List ℕ) (p : Part) → part_bytes p ≡ 0 → CountsParts bytes (p ∷ [])
  counts_zero bytes p zero =
      let size : 0 ≡ checked_bytes (p ∷ []) = omega (arith, bytes_one p [], zero) in
      subst (Counts vouched bytes) size (counts_none vouched bytes)

  block_counts : (place : ℕ) (element content : List ℕ) (found : BlockPart) → IsBlockPart tracks vouched place element content found
      → CountsParts content (part.Block found ∷ [])
  block_counts place element content found is =
      let size : block_bytes found.standing ≡ checked_bytes (part.Block found ∷ []) = omega (arith, bytes_one (part.Block found) []) in
      subst (Counts vouched content) size (standing_counts tracks vouched content found.standing is.standing)

  join_counts : (xs ys : List ℕ) (ps qs : List Part) → CountsParts xs ps → CountsParts ys qs → CountsParts (xs ++ ys) (ps ++ qs)
  join_counts xs ys ps qs left right =
      subst (Counts vouched (xs ++ ys)) (sym (bytes_join ps qs)) (counts_join vouched xs ys (checked_bytes ps) (checked_bytes qs) left right)

  pub content_counts : (ids : Option (List ℕ)) (place : ℕ) (content : List ℕ) (parts : List Part) → AreContentPartsBy ids tracks vouched place content parts
      → CountsParts content parts
  content_counts ids place content parts are =
      content_good tracks vouched CountsParts (counts_none vouched) join_counts (λ bytes span. counts_zero bytes (part.Unknown span) refl)
      (λ bytes t. counts_zero bytes (part.Timestamp t) refl) block_counts ids place content parts are

  pub tracks_zero : (place : ℕ) (content : List ℕ) (parts : List Part) → AreBytes content → AreContentParts 0x1654AE6B tracks vouched place content parts
      → checked_bytes parts ≡ 0
  tracks_zero place content parts bytes are =
      let is = tracks_are_unknown tracks vouched place content parts bytes are in
      omega (arith, ap checked_bytes is.2, unknown_zero is.0 is.1)

-- ---- what is said of an EBML

ebml_zero : (place : ℕ) (content : List ℕ) (parts : List Part) → AreDocParts tops.Ebml place content parts → checked_bytes parts ≡ 0
ebml_zero place content parts are = elim are [
  | inl x ↦ none_zero parts x.1
  | inr x ↦ omega (arith, ap checked_bytes x.1, bytes_one (part.NoMatroska place) [])
]

pub doc_zero : (element : TopElement) (place : ℕ) (content : List ℕ) (parts : List Part) → AreDocParts element place content parts → checked_bytes parts ≡ 0
doc_zero tops.Ebml place content parts are = ebml_zero place content parts are
doc_zero tops.Segment place content parts are = none_zero parts are
doc_zero tops.SeekHead place content parts are = none_zero parts are
doc_zero tops.Info place content parts are = none_zero parts are
doc_zero tops.Tracks place content parts are = none_zero parts are
doc_zero tops.Cues place content parts are = none_zero parts are
doc_zero tops.Cluster place content parts are = none_zero parts are
doc_zero tops.Attachments place content parts are = none_zero parts are
doc_zero tops.Chapters place content parts are = none_zero parts are
doc_zero tops.Tags place content parts are = none_zero parts are
doc_zero tops.Void place content parts are = none_zero parts are
