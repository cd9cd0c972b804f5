-- What holds of each part that stands within an element of the top.
use Rattle.std.proofs.Common.{◌≡◌, ℕ, ◌+◌, Bool, true, false, List, [], ◌∷◌, ◌++◌, length, drop, sym, subst, inl, inr}
use Rattle.std.specs.Prelude.{Option, Some, None}
use Rattle.std.specs.List.{AllByRecursion}
use Rattle.std.proofs.lemmas.Option.{slice_get_within}
use Rattle.matroska.specs.declared.track.Track.{Track}
use Rattle.matroska_parts.specs.declared.top_elements.TopElement.{TopElement}
use Rattle.matroska_parts.specs.declared.top_elements.TopElement.TheVariants as tops
use Rattle.matroska_parts.specs.declared.parts.Part.{Part}
use Rattle.matroska_parts.specs.declared.parts.Part.TheVariants as part
use Rattle.matroska_parts.specs.declared.parts.Span.{Span}
use Rattle.matroska_parts.specs.declared.parts.BlockPart.{BlockPart}
use Rattle.matroska_parts.specs.declared.parts.RecordPart.{RecordPart}
use Rattle.matroska_parts.specs.declared.parts.Standing.{Standing}
use Rattle.matroska_parts.specs.declared.parts.Standing.TheVariants as standing
use Rattle.matroska_parts.specs.declared.masters.ChildKind.{ChildKind}
use Rattle.matroska_parts.specs.declared.masters.ChildKind.TheVariants as child
use Rattle.matroska_parts.specs.BlockParts.{IsStanding}
use Rattle.matroska_parts.specs.MasterParts.{child_kind, EachHasParts, unknown_parts, AreMasterParts, IsOneBlock, IsGroupChildBy, IsGroupChild, IsMasterChildBy, IsMasterChild, AreContentPartsBy}
use Rattle.matroska_parts.specs.Openings.{AreDocParts}
use Rattle.matroska_parts.specs.RecordParts.{AreRecordPartsOf, AreRecordParts}
use Rattle.matroska_parts.specs.ItemParts.{AreRecordPartsIf}
use Rattle.matroska_parts.specs.Named.{IsNamedBelow}

pub all_append : {X : Type 0} (P : X → Type 0) (xs ys : List X) → AllByRecursion P xs → AllByRecursion P ys → AllByRecursion P (xs ++ ys)
all_append P [] ys all more = more
all_append P (x ∷ xs) ys all more = (all.0, all_append P xs ys all.1 more)

module _ (tracks : List Track) (P : Part → Type 0) (unknown : (span : Span) → P (part.Unknown span)) (timestamp : (t : ℕ) → P (part.Timestamp t))
    (block : (found : BlockPart) → IsNamedBelow (length tracks) found.standing → P (part.Block found)) (record_is : (found : RecordPart) → P (part.Record found))
    (no_matroska : (place : ℕ) → P (part.NoMatroska place)) where
  abbrev AreBelow : List Part → Type 0
  AreBelow parts = AllByRecursion P parts

  none_below : (parts : List Part) → parts ≡ [] → AreBelow parts
  none_below parts e = subst AreBelow (sym e) tt

  joined_below : (parts own more : List Part) → parts ≡ own ++ more → AreBelow own → AreBelow more → AreBelow parts
  joined_below parts own more e all rest = subst AreBelow (sym e) (all_append P own more all rest)

  standing_below : (vouched : Bool) (content : List ℕ) (s : Standing) → IsStanding tracks vouched content s → IsNamedBelow (length tracks) s
  standing_below vouched content standing.Short is = tt
  standing_below vouched content (standing.Unnamed track) is = tt
  standing_below vouched content (standing.Named found) is = slice_get_within tracks found.index is.2.track is.2.at

  block_below : (vouched : Bool) (place : ℕ) (element content : List ℕ) (parts : List Part) → IsOneBlock tracks vouched place element content parts → AreBelow parts
  block_below vouched place element content parts is =
      subst AreBelow (sym is.1) (block is.0 (standing_below vouched content is.0.standing is.2.standing), tt)

  each_below : (HasParts : ℕ → List ℕ → List Part → Type 0) → ((place : ℕ) (piece : List ℕ) (parts : List Part) → HasParts place piece parts → AreBelow parts)
      → (place : ℕ) (pieces : List (List ℕ)) (parts : List Part) → EachHasParts HasParts place pieces parts → AreBelow parts
  each_below HasParts below place [] parts each = none_below parts each
  each_below HasParts below place (p ∷ ps) parts each =
      joined_below parts each.0 each.1 each.2 (below place p each.0 each.3) (each_below HasParts below (place + length p) ps each.1 each.4)

  unknown_below : (place : ℕ) (bytes : List ℕ) → AreBelow (unknown_parts place bytes)
  unknown_below place [] = tt
  unknown_below place (b ∷ bs) = (unknown _, tt)

  master_below : (HasParts : ℕ → List ℕ → List Part → Type 0) → ((place : ℕ) (piece : List ℕ) (parts : List Part) → HasParts place piece parts → AreBelow parts)
      → (ids : List ℕ) (place : ℕ) (content : List ℕ) (parts : List Part) → AreMasterParts HasParts ids place content parts → AreBelow parts
  master_below HasParts below ids place content parts are =
      joined_below parts are.own _ are.joined (each_below HasParts below place are.children are.own are.each) (unknown_below _ are.rest)

  group_child_by : (k : ChildKind) (vouched : Bool) (place : ℕ) (element content : List ℕ) (parts : List Part)
      → IsGroupChildBy k tracks vouched place element content parts → AreBelow parts
  group_child_by child.Timestamp vouched place element content parts is = none_below parts is
  group_child_by child.Block vouched place element content parts is = block_below vouched place element content parts is
  group_child_by child.Group vouched place element content parts is = none_below parts is
  group_child_by child.Other vouched place element content parts is = none_below parts is

  group_child : (vouched : Bool) (place : ℕ) (element : List ℕ) (parts : List Part) → IsGroupChild tracks vouched place element parts → AreBelow parts
  group_child vouched place element parts is = group_child_by (child_kind is.0.id) vouched place element (drop is.0.length element) parts is.2

  master_child_by : (k : ChildKind) (vouched : Bool) (place head_length : ℕ) (element content : List ℕ) (parts : List Part)
      → IsMasterChildBy k tracks vouched place head_length element content parts → AreBelow parts
  master_child_by child.Timestamp vouched place head_length element content parts is = subst AreBelow (sym is) (timestamp _, tt)
  master_child_by child.Block vouched place head_length element content parts is = block_below vouched place element content parts is
  master_child_by child.Group vouched place head_length element content parts is =
      master_below (IsGroupChild tracks vouched) (group_child vouched) _ (place + head_length) content parts is
  master_child_by child.Other vouched place head_length element content parts is = none_below parts is

  pub master_child : (vouched : Bool) (place : ℕ) (element : List ℕ) (parts : List Part) → IsMasterChild tracks vouched place element parts → AreBelow parts
  master_child vouched place element parts is =
      master_child_by (child_kind is.0.id) vouched place is.0.length element (drop is.0.length element) parts is.2

  pub content_by : (ids : Option (List ℕ)) (vouched : Bool) (place : ℕ) (content : List ℕ) (parts : List Part)
      → AreContentPartsBy ids tracks vouched place content parts → AreBelow parts
  content_by None vouched place content parts are = none_below parts are
  content_by (Some ids) vouched place content parts are = master_below (IsMasterChild tracks vouched) (master_child vouched) ids place content parts are

  ebml_below : (place : ℕ) (content : List ℕ) (parts : List Part) → AreDocParts tops.Ebml place content parts → AreBelow parts
  ebml_below place content parts are = elim are [ inl x ↦ none_below parts x.1 | inr x ↦ subst AreBelow (sym x.1) (no_matroska place, tt) ]

  pub doc_below : (element : TopElement) (place : ℕ) (content : List ℕ) (parts : List Part) → AreDocParts element place content parts → AreBelow parts
  doc_below tops.Ebml place content parts are = ebml_below place content parts are
  doc_below tops.Segment place content parts are = none_below parts are
  doc_below tops.SeekHead place content parts are = none_below parts are
  doc_below tops.Info place content parts are = none_below parts are
  doc_below tops.Tracks place content parts are = none_below parts are
  doc_below tops.Cues place content parts are = none_below parts are
  doc_below tops.Cluster place content parts are = none_below parts are
  doc_below tops.Attachments place content parts are = none_below parts are
  doc_below tops.Chapters place content parts are = none_below parts are
  doc_below tops.Tags place content parts are = none_below parts are
  doc_below tops.Void place content parts are = none_below parts are

  record_below : (place : ℕ) (vouched : Bool) (track : Track) (parts : List Part) → AreRecordPartsOf place vouched track parts → AreBelow parts
  record_below place vouched track parts are = elim are [ inl x ↦ subst AreBelow (sym x.2) (record_is x.0, tt) | inr x ↦ none_below parts x.1 ]

  records_below : (place : ℕ) (vouched : Bool) (all : List Track) (parts : List Part) → AreRecordParts place vouched all parts → AreBelow parts
  records_below place vouched [] parts are = none_below parts are
  records_below place vouched (t ∷ ts) parts are =
      joined_below parts are.0 are.1 are.2 (record_below place vouched t are.0 are.3) (records_below place vouched ts are.1 are.4)

  pub records_if : (here vouched : Bool) (place : ℕ) (parts : List Part) → AreRecordPartsIf here vouched place tracks parts → AreBelow parts
  records_if true vouched place parts are = records_below place vouched tracks parts are
  records_if false vouched place parts are = none_below parts are
