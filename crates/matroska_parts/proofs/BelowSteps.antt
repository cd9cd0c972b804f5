-- The blocks among a file's parts are of tracks that it describes.
use Rattle.std.proofs.Common.{◌≡◌, ℕ, ◌+◌, List, [], ◌∷◌, ◌++◌, length, drop, sym, subst}
use Rattle.std.specs.Prelude.{Option}
use Rattle.std.specs.List.{AllByRecursion}
use Rattle.ebml.specs.Items.{ItemValue}
use Rattle.ebml.specs.Masters.{child_ids}
use Rattle.ebml.specs.declared.items.Kind.{Kind}
use Rattle.ebml.specs.declared.items.Kind.TheVariants as kind
use Rattle.ebml.specs.declared.head.Head.{Head}
use Rattle.matroska.specs.declared.track.Track.{Track}
use Rattle.matroska_parts.specs.declared.parts.Part.{Part}
use Rattle.matroska_parts.specs.ItemParts.{PlacedContent, AreElementParts, AreItemPartsBy, AreItemParts, AreFileParts}
use Rattle.matroska_parts.specs.Named.{IsBelow}
use Rattle.matroska_parts.proofs.InnerSteps.{all_append, content_by, doc_below, records_if}

module _ (tracks : List Track) where
  abbrev Below : Part → Type 0
  Below = IsBelow (length tracks)

  element_below : (first : Option PlacedContent) (place : ℕ) (head : Head) (bytes : List ℕ) (parts : List Part)
      → AreElementParts first tracks place head bytes parts → AllByRecursion Below parts
  element_below first place head bytes parts are =
      let content = content_by tracks Below (λ s. tt) (λ t. tt) (λ b is. is) (λ r. tt) (λ p. tt) (child_ids head.id) _ (place + head.length) (drop head.length bytes)
      are.content are.content_is in
      let doc = doc_below tracks Below (λ s. tt) (λ t. tt) (λ b is. is) (λ r. tt) (λ p. tt) are.element place (drop head.length bytes) are.doc are.doc_is in
      let records = records_if tracks Below (λ s. tt) (λ t. tt) (λ b is. is) (λ r. tt) (λ p. tt) _ _ (place + head.length) are.records are.records_are in
      subst (AllByRecursion Below) (sym are.joined)
      (tt, all_append Below are.content _ content (all_append Below are.doc _ doc (all_append Below are.records _ records (tt, tt))))

  joined_below : (parts own more : List Part) → parts ≡ own ++ more → AllByRecursion Below own → AllByRecursion Below more → AllByRecursion Below parts
  joined_below parts own more e all rest = subst (AllByRecursion Below) (sym e) (all_append Below own more all rest)

  pub item_below : (k : Kind) (first : Option PlacedContent) (place : ℕ) (bytes : List ℕ) (parts : List Part)
      → AreItemPartsBy k first tracks place bytes parts → AllByRecursion Below parts
  item_below (kind.Segment head) first place bytes parts are = subst (AllByRecursion Below) (sym are) (tt, tt)
  item_below (kind.Element head) first place bytes parts are = element_below first place head bytes parts are
  item_below (kind.Endless head) first place bytes parts are = element_below first place head bytes parts are
  item_below kind.Unknown first place bytes parts are = subst (AllByRecursion Below) (sym are) (tt, tt)

  pub items_below : (first : Option PlacedContent) (place : ℕ) (items : List ItemValue) (parts : List Part)
      → AreItemParts first tracks place items parts → AllByRecursion Below parts
  items_below first place [] parts are = subst (AllByRecursion Below) (sym are) tt
  items_below first place (i ∷ is) parts are =
      joined_below parts are.0 are.1 are.2 (item_below i.kind first place i.bytes are.0 are.3) (items_below first (place + length i.bytes) is are.1 are.4)

pub parts_below : (file : List ℕ) (tracks : List Track) (parts : List Part) → AreFileParts file tracks parts → AllByRecursion (IsBelow (length tracks)) parts
parts_below file tracks parts are = items_below tracks _ 0 are.items parts are.parts_are
