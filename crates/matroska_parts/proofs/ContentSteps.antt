-- What holds of the content of an element of the top and of its parts, as it holds of what it is put together of.
use Rattle.std.proofs.Common.{◌≡◌, ℕ, zero, suc, ◌+◌, Bool, List, [], ◌∷◌, ◌++◌, length, take, drop, sym, ap, ◌∙◌, subst, arith}
use Rattle.std.specs.Prelude.{Option, Some, None}
use Rattle.std.specs.List.{AllByRecursion, concat, Contains}
use Rattle.std.proofs.lemmas.List.{take-append-drop, append_assoc}
use Rattle.ffv1_bits.specs.Parity.{AreBytes}
use Rattle.ffv1_bits.proofs.Bytes.{AreBytes-rest, AreBytes-front}
use Rattle.ebml.specs.Children.{IsChild}
use Rattle.ebml.specs.Masters.{only_ids, block_group_ids}
use Rattle.ebml.specs.declared.head.Head.{Head}
use Rattle.ebml.proofs.Heads.{one_head}
use Rattle.matroska.specs.declared.track.Track.{Track}
use Rattle.matroska_parts.specs.declared.parts.Part.{Part}
use Rattle.matroska_parts.specs.declared.parts.Part.TheVariants as part
use Rattle.matroska_parts.specs.declared.parts.Span.{Span}
use Rattle.matroska_parts.specs.declared.parts.BlockPart.{BlockPart}
use Rattle.matroska_parts.specs.declared.masters.ChildKind.{ChildKind}
use Rattle.matroska_parts.specs.declared.masters.ChildKind.TheVariants as child
use Rattle.matroska_parts.specs.BlockParts.{IsBlockPart}
use Rattle.matroska_parts.specs.MasterParts.{child_kind, EachHasParts, unknown_parts, AreMasterParts, IsOneBlock, IsGroupChildBy, IsGroupChild, IsMasterChildBy, IsMasterChild, AreContentPartsBy, AreContentParts}

module _ (tracks : List Track) (vouched : Bool) (Good : List ℕ → List Part → Type 0) (nothing : (bytes : List ℕ) → Good bytes [])
    (join : (xs ys : List ℕ) (ps qs : List Part) → Good xs ps → Good ys qs → Good (xs ++ ys) (ps ++ qs))
    (unknown : (bytes : List ℕ) (span : Span) → Good bytes (part.Unknown span ∷ [])) (timestamp : (bytes : List ℕ) (t : ℕ) → Good bytes (part.Timestamp t ∷ []))
    (block : (place : ℕ) (element content : List ℕ) (found : BlockPart) → IsBlockPart tracks vouched place element content found → Good content (part.Block found ∷ []))
  where
    none_good : (bytes : List ℕ) (parts : List Part) → parts ≡ [] → Good bytes parts
    none_good bytes parts e = subst (Good bytes) (sym e) (nothing bytes)

    -- what stands after the head of an element
    after_good : (n : ℕ) (element : List ℕ) (parts : List Part) → Good (drop n element) parts → Good element parts
    after_good n element parts good =
        subst (λ z. Good z parts) (take-append-drop n element) (join (take n element) (drop n element) [] parts (nothing (take n element)) good)

    block_good : (n place : ℕ) (element : List ℕ) (parts : List Part) → IsOneBlock tracks vouched place element (drop n element) parts → Good element parts
    block_good n place element parts is =
        after_good n element parts (subst (Good (drop n element)) (sym is.1) (block place element (drop n element) is.0 is.2))

    each_good : (HasParts : ℕ → List ℕ → List Part → Type 0) → ((place : ℕ) (piece : List ℕ) (parts : List Part) → HasParts place piece parts → Good piece parts)
        → (place : ℕ) (pieces : List (List ℕ)) (parts : List Part) → EachHasParts HasParts place pieces parts → Good (concat pieces) parts
    each_good HasParts good place [] parts each = none_good [] parts each
    each_good HasParts good place (p ∷ ps) parts each =
        subst (Good (p ++ concat ps)) (sym each.2)
        (join p (concat ps) each.0 each.1 (good place p each.0 each.3) (each_good HasParts good (place + length p) ps each.1 each.4))

    unknown_good : (place : ℕ) (bytes : List ℕ) → Good bytes (unknown_parts place bytes)
    unknown_good place [] = nothing []
    unknown_good place (b ∷ bs) = unknown (b ∷ bs) _

    master_good : (HasParts : ℕ → List ℕ → List Part → Type 0) → ((place : ℕ) (piece : List ℕ) (parts : List Part) → HasParts place piece parts → Good piece parts)
        → (ids : List ℕ) (place : ℕ) (content : List ℕ) (parts : List Part) → AreMasterParts HasParts ids place content parts → Good content parts
    master_good HasParts good ids place content parts are =
        subst (λ z. Good z parts) (sym are.are_children.joined)
        (subst (Good (concat are.children ++ are.rest)) (sym are.joined)
        (join (concat are.children) are.rest are.own _ (each_good HasParts good place are.children are.own are.each) (unknown_good _ are.rest)))

    group_child_by : (k : ChildKind) (n place : ℕ) (element : List ℕ) (parts : List Part) → IsGroupChildBy k tracks vouched place element (drop n element) parts
        → Good element parts
    group_child_by child.Timestamp n place element parts is = none_good element parts is
    group_child_by child.Block n place element parts is = block_good n place element parts is
    group_child_by child.Group n place element parts is = none_good element parts is
    group_child_by child.Other n place element parts is = none_good element parts is

    group_child : (place : ℕ) (element : List ℕ) (parts : List Part) → IsGroupChild tracks vouched place element parts → Good element parts
    group_child place element parts is = group_child_by (child_kind is.0.id) is.0.length place element parts is.2

    master_child_by : (k : ChildKind) (n place : ℕ) (element : List ℕ) (parts : List Part) → IsMasterChildBy k tracks vouched place n element (drop n element) parts
        → Good element parts
    master_child_by child.Timestamp n place element parts is = subst (Good element) (sym is) (timestamp element _)
    master_child_by child.Block n place element parts is = block_good n place element parts is
    master_child_by child.Group n place element parts is =
        after_good n element parts (master_good (IsGroupChild tracks vouched) group_child block_group_ids (place + n) (drop n element) parts is)
    master_child_by child.Other n place element parts is = none_good element parts is

    master_child : (place : ℕ) (element : List ℕ) (parts : List Part) → IsMasterChild tracks vouched place element parts → Good element parts
    master_child place element parts is = master_child_by (child_kind is.0.id) is.0.length place element parts is.2

    pub content_good : (ids : Option (List ℕ)) (place : ℕ) (content : List ℕ) (parts : List Part) → AreContentPartsBy ids tracks vouched place content parts
        → Good content parts
    content_good None place content parts are = none_good content parts are
    content_good (Some ids) place content parts are = master_good (IsMasterChild tracks vouched) master_child ids place content parts are

-- ---- the content of a Tracks has no parts but what is unknown

module _ (tracks : List Track) (vouched : Bool) where
  other_id : (id : ℕ) → Contains (only_ids 0xAE) id → child_kind id ≡ child.Other
  other_id id (zero, within, is) = ap child_kind (sym is)
  other_id id (suc zero, within, is) = ap child_kind (sym is)
  other_id id (suc (suc zero), within, is) = ap child_kind (sym is)
  other_id id (suc (suc (suc k)), within, is) = absurd (omega (arith, within))

  track_child : (place : ℕ) (piece : List ℕ) (parts : List Part) → AreBytes piece → IsChild (only_ids 0xAE) piece → IsMasterChild tracks vouched place piece parts
      → parts ≡ []
  track_child place piece parts bytes is_child is =
      let same : is.0 ≡ is_child.head = one_head piece is.0 is_child.head bytes is.1.has is_child.element.has in
      let kind : child_kind is.0.id ≡ child.Other = ap (λ (h : Head). child_kind h.id) same ∙ other_id is_child.head.id is_child.known in
      subst (λ k. IsMasterChildBy k tracks vouched place is.0.length piece (drop is.0.length piece) parts) kind is.2

  track_children : (place : ℕ) (pieces : List (List ℕ)) (rest : List ℕ) (parts : List Part) → AreBytes (concat pieces ++ rest)
      → AllByRecursion (IsChild (only_ids 0xAE)) pieces → EachHasParts (IsMasterChild tracks vouched) place pieces parts → parts ≡ []
  track_children place [] rest parts bytes all each = each
  track_children place (p ∷ ps) rest parts bytes all each =
      let parted : AreBytes (p ++ (concat ps ++ rest)) = subst AreBytes (append_assoc p (concat ps) rest) bytes in
      let here : AreBytes p = AreBytes-front p (concat ps ++ rest) parted in
      let later : AreBytes (concat ps ++ rest) = AreBytes-rest p (concat ps ++ rest) parted in
      each.2 ∙ ap (λ z. z ++ each.1) (track_child place p each.0 here all.0 each.3)
      ∙ track_children (place + length p) ps rest each.1 later all.1 each.4

  pub tracks_are_unknown : (place : ℕ) (content : List ℕ) (parts : List Part) → AreBytes content → AreContentParts 0x1654AE6B tracks vouched place content parts
      → (at : ℕ) × (rest : List ℕ) × (parts ≡ unknown_parts at rest)
  tracks_are_unknown place content parts bytes are =
      let none : are.own ≡ [] = track_children place are.children are.rest are.own (subst AreBytes are.are_children.joined bytes) are.are_children.each are.each in
      (place + length (concat are.children), are.rest, are.joined ∙ ap (λ z. z ++ unknown_parts (place + length (concat are.children)) are.rest) none)
