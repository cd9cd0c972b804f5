-- Files that are an EBML element and one Segment, which ends with the file (RFC 8794, section 4: EBML Document; RFC 9559, section 4).
use Rattle.std.specs.Prelude.{ℕ, ◌≡◌, List, [], ◌∷◌, ◌++◌, take}
use Rattle.ffv1_bits.specs.Parity.{AreBytes}
use Rattle.ebml.specs.Children.{IsElement}
use Rattle.ebml.specs.Masters.{ebml_id, segment_id}
use Rattle.ebml.specs.Items.{ItemValue, AreItems}
use Rattle.ebml.specs.declared.head.Head.{Head}
use Rattle.ebml.specs.declared.items.Kind.TheVariants.{Segment, Element}

pub record IsOneSegment (file : List ℕ) : Type 0 where
  pub ebml_head : Head
  pub segment_head : Head
  pub ebml : List ℕ
  pub segment : List ℕ
  pub joined : file ≡ ebml ++ segment
  pub ebml_is : IsElement ebml_head ebml
  pub ebml_id_is : ebml_head.id ≡ ebml_id
  pub segment_is : IsElement segment_head segment
  pub segment_id_is : segment_head.id ≡ segment_id

-- the two items that such a file begins with
abbrev pub ebml_item : {file : List ℕ} → IsOneSegment file → ItemValue
ebml_item one = record { kind = Element one.ebml_head; bytes = one.ebml }

abbrev pub segment_item : {file : List ℕ} → IsOneSegment file → ItemValue
segment_item one = record { kind = Segment one.segment_head; bytes = take one.segment_head.length one.segment }

-- ---- laws

-- The items of such a file are its EBML, the head of its Segment, and others.
abbrev pub OneSegmentHasItems : Type 0
OneSegmentHasItems =
    (file : List ℕ) (items : List ItemValue) → AreBytes file → (one : IsOneSegment file) → AreItems file items
    → (more : List ItemValue) × (items ≡ ebml_item one ∷ segment_item one ∷ more)

-- No such file goes on after another: neither a front of one is one, nor what goes on after one.
abbrev pub CutIsSeen : Type 0
CutIsSeen = (front more : List ℕ) → AreBytes (front ++ more) → IsOneSegment front → IsOneSegment (front ++ more) → more ≡ []
