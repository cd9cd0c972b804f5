-- The parts in the content of an element of the top are one list, where those of each block are.
use Rattle.std.proofs.Common.{◌≡◌, ℕ, ◌+◌, Bool, List, [], ◌∷◌, ◌++◌, length, drop, sym, ap, ◌∙◌, subst}
use Rattle.std.specs.Prelude.{Option, Some, None}
use Rattle.std.specs.List.{concat}
use Rattle.std.proofs.lemmas.List.{append_assoc}
use Rattle.ffv1_bits.specs.Parity.{AreBytes}
use Rattle.ffv1_bits.proofs.Bytes.{AreBytes-drop, AreBytes-front, AreBytes-rest}
use Rattle.ebml.specs.Masters.{block_group_ids}
use Rattle.ebml.specs.declared.head.Head.{Head}
use Rattle.ebml.proofs.Heads.{one_head}
use Rattle.ebml.proofs.Elements.{children_are_one}
use Rattle.matroska.specs.declared.track.Track.{Track}
use Rattle.matroska_parts.specs.declared.parts.Part.{Part}
use Rattle.matroska_parts.specs.declared.masters.ChildKind.{ChildKind}
use Rattle.matroska_parts.specs.declared.masters.ChildKind.TheVariants as child
use Rattle.matroska_parts.specs.MasterParts.{child_kind, EachHasParts, unknown_parts, AreMasterParts, IsOneBlock, IsGroupChildBy, IsGroupChild, IsMasterChildBy, IsMasterChild, AreContentPartsBy}

-- ---- pieces that follow each other

abbrev AreOne : (ℕ → List ℕ → List Part → Type 0) → (ℕ → List ℕ → List Part → Type 0) → Type 0
AreOne H K = (place : ℕ) (piece : List ℕ) (xs ys : List Part) → AreBytes piece → H place piece xs → K place piece ys → xs ≡ ys

each_is_one : (H K : ℕ → List ℕ → List Part → Type 0) → AreOne H K → (place : ℕ) (pieces : List (List ℕ)) (rest : List ℕ) (xs ys : List Part)
    → AreBytes (concat pieces ++ rest) → EachHasParts H place pieces xs → EachHasParts K place pieces ys → xs ≡ ys
each_is_one H K one place [] rest xs ys bytes are others = are ∙ sym others
each_is_one H K one place (p ∷ ps) rest xs ys bytes are others =
    let parted : AreBytes (p ++ (concat ps ++ rest)) = subst AreBytes (append_assoc p (concat ps) rest) bytes in
    are.2 ∙ ap (λ z. z ++ are.1) (one place p are.0 others.0 (AreBytes-front p (concat ps ++ rest) parted) are.3 others.3)
    ∙ ap (λ z. others.0 ++ z) (each_is_one H K one (place + length p) ps rest are.1 others.1 (AreBytes-rest p (concat ps ++ rest) parted) are.4 others.4) ∙ sym others.2

master_is_one : (H K : ℕ → List ℕ → List Part → Type 0) → AreOne H K → (ids : List ℕ) (place : ℕ) (content : List ℕ) (xs ys : List Part) → AreBytes content
    → AreMasterParts H ids place content xs → AreMasterParts K ids place content ys → xs ≡ ys
master_is_one H K one ids place content xs ys bytes are others =
    let same = children_are_one ids content are.children others.children are.rest others.rest bytes are.are_children others.are_children in
    let own = each_is_one H K one place are.children are.rest are.own others.own (subst AreBytes are.are_children.joined bytes) are.each
    (subst (λ z. EachHasParts K place z others.own) (sym same.0) others.each) in
    are.joined ∙ ap (λ z. z ++ unknown_parts (place + length (concat are.children)) are.rest) own
    ∙ ap (λ z. others.own ++ unknown_parts (place + length (concat z)) are.rest) same.0
    ∙ ap (λ z. others.own ++ unknown_parts (place + length (concat others.children)) z) same.1 ∙ sym others.joined

-- ---- children

module _ (ts us : List Track) (vouched : Bool)
    (one_block : (place : ℕ) (element content : List ℕ) (xs ys : List Part) → AreBytes content → IsOneBlock ts vouched place element content xs
    → IsOneBlock us vouched place element content ys → xs ≡ ys)
  where
    group_child_by : (k : ChildKind) (place : ℕ) (element content : List ℕ) (xs ys : List Part) → AreBytes content → IsGroupChildBy k ts vouched place element content xs
        → IsGroupChildBy k us vouched place element content ys → xs ≡ ys
    group_child_by child.Timestamp place element content xs ys bytes is other = is ∙ sym other
    group_child_by child.Block place element content xs ys bytes is other = one_block place element content xs ys bytes is other
    group_child_by child.Group place element content xs ys bytes is other = is ∙ sym other
    group_child_by child.Other place element content xs ys bytes is other = is ∙ sym other

    group_child : AreOne (IsGroupChild ts vouched) (IsGroupChild us vouched)
    group_child place element xs ys bytes is other =
        let same : is.0 ≡ other.0 = one_head element is.0 other.0 bytes is.1.has other.1.has in
        group_child_by (child_kind other.0.id) place element (drop other.0.length element) xs ys (AreBytes-drop other.0.length element bytes)
        (subst (λ (h : Head). IsGroupChildBy (child_kind h.id) ts vouched place element (drop h.length element) xs) same is.2) other.2

    master_child_by : (k : ChildKind) (place n : ℕ) (element content : List ℕ) (xs ys : List Part) → AreBytes content
        → IsMasterChildBy k ts vouched place n element content xs → IsMasterChildBy k us vouched place n element content ys → xs ≡ ys
    master_child_by child.Timestamp place n element content xs ys bytes is other = is ∙ sym other
    master_child_by child.Block place n element content xs ys bytes is other = one_block place element content xs ys bytes is other
    master_child_by child.Group place n element content xs ys bytes is other =
        master_is_one (IsGroupChild ts vouched) (IsGroupChild us vouched) group_child block_group_ids (place + n) content xs ys bytes is other
    master_child_by child.Other place n element content xs ys bytes is other = is ∙ sym other

    master_child : AreOne (IsMasterChild ts vouched) (IsMasterChild us vouched)
    master_child place element xs ys bytes is other =
        let same : is.0 ≡ other.0 = one_head element is.0 other.0 bytes is.1.has other.1.has in
        master_child_by (child_kind other.0.id) place other.0.length element (drop other.0.length element) xs ys (AreBytes-drop other.0.length element bytes)
        (subst (λ (h : Head). IsMasterChildBy (child_kind h.id) ts vouched place h.length element (drop h.length element) xs) same is.2) other.2

    pub contents_have_one : (ids : Option (List ℕ)) (place : ℕ) (content : List ℕ) (xs ys : List Part) → AreBytes content → AreContentPartsBy ids ts vouched place content xs
        → AreContentPartsBy ids us vouched place content ys → xs ≡ ys
    contents_have_one None place content xs ys bytes are others = are ∙ sym others
    contents_have_one (Some ids) place content xs ys bytes are others =
        master_is_one (IsMasterChild ts vouched) (IsMasterChild us vouched) master_child ids place content xs ys bytes are others
