-- Parts of a Cluster, as they are if its CRC-32 passes.
use Rattle.std.proofs.Common.{◌≡◌, ℕ, ◌+◌, Bool, true, false, List, [], ◌∷◌, ◌++◌, length, drop, refl, sym, ap, ◌∙◌, subst}
use Rattle.std.specs.Prelude.{map}
use Rattle.std.specs.List.{AllByRecursion, concat}
use Rattle.matroska.specs.declared.track.Track.{Track}
use Rattle.matroska_parts.specs.declared.parts.Part.{Part}
use Rattle.matroska_parts.specs.declared.parts.Standing.{Standing}
use Rattle.matroska_parts.specs.declared.parts.Standing.TheVariants as standing
use Rattle.matroska_parts.specs.declared.masters.ChildKind.{ChildKind}
use Rattle.matroska_parts.specs.declared.masters.ChildKind.TheVariants as child
use Rattle.matroska_parts.specs.BlockParts.{IsStanding}
use Rattle.matroska_parts.specs.MasterParts.{child_kind, EachHasParts, unknown_parts, AreMasterParts, IsOneBlock, IsGroupChildBy, IsGroupChild, IsMasterChildBy, IsMasterChild}
use Rattle.matroska_parts.proofs.InnerSteps.{all_append}
use Rattle.matroska_parts.specs.Inner.Vouched.{vouched_standing, vouched, vouched_if, IsUnvouched, IsInner}

pub map_append : {X Y : Type 0} (f : X → Y) (xs ys : List X) → map f (xs ++ ys) ≡ map f xs ++ map f ys
map_append f [] ys = refl
map_append f (x ∷ xs) ys = ap (λ l. f x ∷ l) (map_append f xs ys)

module _ (tracks : List Track) where
  standing_inner : (content : List ℕ) (s : Standing) → IsStanding tracks false content s → IsUnvouched s
  standing_inner content standing.Short is = tt
  standing_inner content (standing.Unnamed track) is = tt
  standing_inner content (standing.Named found) is = is.2.vouched_is

  standing_vouched : (content : List ℕ) (s : Standing) → IsStanding tracks false content s → IsStanding tracks true content (vouched_standing s)
  standing_vouched content standing.Short is = is
  standing_vouched content (standing.Unnamed track) is = is
  standing_vouched content (standing.Named found) is = (
    is.0,
    is.1,
    record {
      track = is.2.track;
      at = is.2.at;
      number = is.2.number;
      named = is.2.named;
      ffv1 = is.2.ffv1;
      time = is.2.time;
      payload = is.2.payload;
      passing = is.2.passing;
      vouched_is = refl;
    },
  )

  -- parts that are so, and become so
  abbrev Inner : List Part → Type 0
  Inner parts = AllByRecursion IsInner parts

  block_inner : (place : ℕ) (element content : List ℕ) (parts : List Part) → IsOneBlock tracks false place element content parts → Inner parts
  block_inner place element content parts is = subst Inner (sym is.1) (standing_inner content is.0.standing is.2.standing, tt)

  block_vouched : (place : ℕ) (element content : List ℕ) (parts : List Part) → IsOneBlock tracks false place element content parts
      → IsOneBlock tracks true place element content (map vouched parts)
  block_vouched place element content parts is = (
    record is.0 { standing = vouched_standing is.0.standing },
    ap (map vouched) is.1,
    record { at = is.2.at; size = is.2.size; standing = standing_vouched content is.0.standing is.2.standing },
  )

  module _ (HasParts Has : ℕ → List ℕ → List Part → Type 0) (inner : (place : ℕ) (piece : List ℕ) (parts : List Part) → HasParts place piece parts → Inner parts)
      (becomes : (place : ℕ) (piece : List ℕ) (parts : List Part) → HasParts place piece parts → Has place piece (map vouched parts)) where
    each_inner : (place : ℕ) (pieces : List (List ℕ)) (parts : List Part) → EachHasParts HasParts place pieces parts → Inner parts
    each_inner place [] parts each = subst Inner (sym each) tt
    each_inner place (p ∷ ps) parts each =
        subst Inner (sym each.2) (all_append IsInner each.0 each.1 (inner place p each.0 each.3) (each_inner (place + length p) ps each.1 each.4))

    each_vouched : (place : ℕ) (pieces : List (List ℕ)) (parts : List Part) → EachHasParts HasParts place pieces parts → EachHasParts Has place pieces (map vouched parts)
    each_vouched place [] parts each = ap (map vouched) each
    each_vouched place (p ∷ ps) parts each = (
      map vouched each.0,
      map vouched each.1,
      ap (map vouched) each.2 ∙ map_append vouched each.0 each.1,
      becomes place p each.0 each.3,
      each_vouched (place + length p) ps each.1 each.4,
    )

    unknown_inner : (place : ℕ) (bytes : List ℕ) → Inner (unknown_parts place bytes)
    unknown_inner place [] = tt
    unknown_inner place (b ∷ bs) = (tt, tt)

    unknown_same : (place : ℕ) (bytes : List ℕ) → map vouched (unknown_parts place bytes) ≡ unknown_parts place bytes
    unknown_same place [] = refl
    unknown_same place (b ∷ bs) = refl

    master_inner : (ids : List ℕ) (place : ℕ) (content : List ℕ) (parts : List Part) → AreMasterParts HasParts ids place content parts → Inner parts
    master_inner ids place content parts are =
        subst Inner (sym are.joined)
        (all_append IsInner are.own (unknown_parts (place + length (concat are.children)) are.rest) (each_inner place are.children are.own are.each)
        (unknown_inner (place + length (concat are.children)) are.rest))

    master_vouched : (ids : List ℕ) (place : ℕ) (content : List ℕ) (parts : List Part) → AreMasterParts HasParts ids place content parts
        → AreMasterParts Has ids place content (map vouched parts)
    master_vouched ids place content parts are = record {
      children = are.children;
      rest = are.rest;
      are_children = are.are_children;
      own = map vouched are.own;
      each = each_vouched place are.children are.own are.each;
      joined = ap (map vouched) are.joined ∙ map_append vouched are.own (unknown_parts (place + length (concat are.children)) are.rest)
          ∙ ap (λ l. map vouched are.own ++ l) (unknown_same (place + length (concat are.children)) are.rest);
    }

  group_inner_by : (k : ChildKind) (place : ℕ) (element content : List ℕ) (parts : List Part) → IsGroupChildBy k tracks false place element content parts → Inner parts
  group_inner_by child.Timestamp place element content parts is = subst Inner (sym is) tt
  group_inner_by child.Block place element content parts is = block_inner place element content parts is
  group_inner_by child.Group place element content parts is = subst Inner (sym is) tt
  group_inner_by child.Other place element content parts is = subst Inner (sym is) tt

  group_vouched_by : (k : ChildKind) (place : ℕ) (element content : List ℕ) (parts : List Part) → IsGroupChildBy k tracks false place element content parts
      → IsGroupChildBy k tracks true place element content (map vouched parts)
  group_vouched_by child.Timestamp place element content parts is = ap (map vouched) is
  group_vouched_by child.Block place element content parts is = block_vouched place element content parts is
  group_vouched_by child.Group place element content parts is = ap (map vouched) is
  group_vouched_by child.Other place element content parts is = ap (map vouched) is

  group_inner : (place : ℕ) (element : List ℕ) (parts : List Part) → IsGroupChild tracks false place element parts → Inner parts
  group_inner place element parts is = group_inner_by (child_kind is.0.id) place element (drop is.0.length element) parts is.2

  group_vouched : (place : ℕ) (element : List ℕ) (parts : List Part) → IsGroupChild tracks false place element parts → IsGroupChild tracks true place element (map vouched parts)
  group_vouched place element parts is = (is.0, is.1, group_vouched_by (child_kind is.0.id) place element (drop is.0.length element) parts is.2)

  child_inner_by : (k : ChildKind) (place head_length : ℕ) (element content : List ℕ) (parts : List Part)
      → IsMasterChildBy k tracks false place head_length element content parts → Inner parts
  child_inner_by child.Timestamp place head_length element content parts is = subst Inner (sym is) (tt, tt)
  child_inner_by child.Block place head_length element content parts is = block_inner place element content parts is
  child_inner_by child.Group place head_length element content parts is =
      master_inner (IsGroupChild tracks false) (IsGroupChild tracks true) group_inner group_vouched _ (place + head_length) content parts is
  child_inner_by child.Other place head_length element content parts is = subst Inner (sym is) tt

  child_vouched_by : (k : ChildKind) (place head_length : ℕ) (element content : List ℕ) (parts : List Part)
      → IsMasterChildBy k tracks false place head_length element content parts → IsMasterChildBy k tracks true place head_length element content (map vouched parts)
  child_vouched_by child.Timestamp place head_length element content parts is = ap (map vouched) is
  child_vouched_by child.Block place head_length element content parts is = block_vouched place element content parts is
  child_vouched_by child.Group place head_length element content parts is =
      master_vouched (IsGroupChild tracks false) (IsGroupChild tracks true) group_inner group_vouched _ (place + head_length) content parts is
  child_vouched_by child.Other place head_length element content parts is = ap (map vouched) is

  pub child_inner : (place : ℕ) (element : List ℕ) (parts : List Part) → IsMasterChild tracks false place element parts → Inner parts
  child_inner place element parts is = child_inner_by (child_kind is.0.id) place is.0.length element (drop is.0.length element) parts is.2

  child_vouched : (place : ℕ) (element : List ℕ) (parts : List Part) → IsMasterChild tracks false place element parts → IsMasterChild tracks true place element (map vouched parts)
  child_vouched place element parts is = (is.0, is.1, child_vouched_by (child_kind is.0.id) place is.0.length element (drop is.0.length element) parts is.2)

  -- the parts of children, as the CRC-32 says
  pub children_vouched : (passes : Bool) (place : ℕ) (children : List (List ℕ)) (parts : List Part) → EachHasParts (IsMasterChild tracks false) place children parts
      → EachHasParts (IsMasterChild tracks passes) place children (vouched_if passes parts)
  children_vouched true place children parts each =
      each_vouched (IsMasterChild tracks false) (IsMasterChild tracks true) child_inner child_vouched place children parts each
  children_vouched false place children parts each = each
