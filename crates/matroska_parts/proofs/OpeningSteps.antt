-- Sizes of elements, and the DocType of an EBML.
use Rattle.std.proofs.Common.{◌≡◌, ℕ, ◌-◌, ◌*◌, ◌^◌, ◌<◌, ◌≤◌, Bool, true, false, cond, List, [], ◌∷◌, length, take, drop, refl, sym, ◌∙◌, subst, arith, inl, inr}
use Rattle.std.specs.Prelude.{◌↔◌, IsTrue, Option, Some, None}
use Rattle.std.specs.List.{fold}
use Rattle.std.proofs.Math.Nat.{pow-le-pow_right}
use Rattle.std.proofs.lemmas.List.{length-take-le}
use Rattle.ffv1_texts.proofs.PartSteps.{one_parting, no_parting}
use Rattle.ffv1_bits.specs.Parity.{AreBytes}
use Rattle.ebml.specs.Vint.{marker}
use Rattle.ebml.specs.Head.{HasHead}
use Rattle.ebml.specs.Contents.{AreContents, last_among, OfLast}
use Rattle.ebml.specs.declared.head.Head.{Head}
use Rattle.ebml.proofs.Heads.{parts_of}
use Rattle.ebml.proofs.ContentList.{contents_are_one}
use Rattle.matroska.specs.Tracks.{IsStringOf}
use Rattle.matroska_parts.specs.Openings.{HasDocType, IsMatroskaName, IsMatroska}
use Rattle.matroska_parts.proofs.MasterSteps.{same_some}

-- ---- sizes

sized_below : (n m size : ℕ) (b : Bool) → cond b None (Some (n - m)) ≡ Some size → n < 2 * m → size < m
sized_below n m size true e below = cc
sized_below n m size false e below = let same : n - m ≡ size = same_some (n - m) size e in omega (arith, same, below)

-- an element's head is short, and its size too
pub head_small : (bytes : List ℕ) (head : Head) → HasHead bytes head → (head.length ≤ 12) × ((size : ℕ) → head.size ≡ Some size → size < 2 ^ 56)
head_small bytes head has =
    let p = parts_of bytes head has in
    let long : length (take p.size.length (drop p.id.length bytes)) ≡ p.size.length = length-take-le p.size.length (drop p.id.length bytes) p.size_is.room in
    let id_short = p.id_is.short in
    let size_short = p.size_is.short in
    let length_same = p.length_same in
    let most : 7 * p.size.length ≤ 56 = omega (arith, size_short) in
    let small : 2 ^ (7 * p.size.length) ≤ 2 ^ 56 = pow-le-pow_right (omega arith) most in
    let first = p.size_is.is.first in
    let number = p.size_is.number in
    let below : p.size.number < 2 * marker p.size.length =
    subst (λ n. p.size.number < 2 * marker n) long (subst (λ z. z < 2 * marker (length (take p.size.length (drop p.id.length bytes)))) (sym number) first) in (
      omega (arith, id_short, size_short, length_same),
      λ size is. let sized = sized_below p.size.number (marker p.size.length) size _ (sym p.size_same ∙ is) below in omega (arith, sized, small),
    )

-- ---- DocType

pub string_is_one : (content a b : List ℕ) → IsStringOf content a → IsStringOf content b → a ≡ b
string_is_one content a b is other =
    elim is.ends [
      | inl x ↦ elim other.ends [ inl y ↦ sym x ∙ y | inr y ↦ absurd (no_parting 0 a b y.0 is.no_zero (sym x ∙ y.1)) ]
      | inr x ↦ elim other.ends [
        | inl y ↦ absurd (no_parting 0 b a x.0 other.no_zero (sym y ∙ x.1))
        | inr y ↦ (one_parting 0 a x.0 b y.0 is.no_zero other.no_zero (sym x.1 ∙ y.1)).0
      ]
    ]

head_same : (a b : List ℕ) → a ∷ [] ≡ b ∷ [] → a ≡ b
head_same a b e = cc

texts_are_one : (content a b : List ℕ) → AreBytes content → HasDocType content a → HasDocType content b → a ≡ b
texts_are_one content a b bytes is_a is_b =
    let names = head_same is_a.name is_b.name (contents_are_one 0x4282 content (is_a.name ∷ []) (is_b.name ∷ []) bytes is_a.one is_b.one) in
    string_is_one is_b.name a b (subst (λ z. IsStringOf z a) names is_a.text_of) is_b.text_of

pub matroska_by : (content text : List ℕ) (known : Bool) → AreBytes content → HasDocType content text → (IsTrue known ↔ IsMatroskaName text)
    → IsTrue known ↔ IsMatroska content
matroska_by content text known bytes has is = (
  λ t. (text, has, is.0 t),
  λ matroska. is.1 (subst IsMatroskaName (texts_are_one content matroska.0 text bytes matroska.1 has) matroska.2),
)

pub no_matroska : (content : List ℕ) → ((text : List ℕ) → HasDocType content text → ⊥) → IsTrue false ↔ IsMatroska content
no_matroska content none = (λ t. absurd (is_false t), λ matroska. absurd (none matroska.0 matroska.1))
  where
    is_false : IsTrue false → ⊥
    is_false t = cc

pub no_doc_type : (content : List ℕ) → AreBytes content → AreContents 0x4282 content [] → (text : List ℕ) → HasDocType content text → ⊥
no_doc_type content bytes none text has = let same = contents_are_one 0x4282 content (has.name ∷ []) [] bytes has.one none in cc

some_last : (x : List ℕ) (xs : List (List ℕ)) (found : Option (List ℕ)) → found ≡ fold (λ _ y. Some y) (Some x) xs → found ≡ None → ⊥
some_last x [] found is none = cc
some_last x (y ∷ ys) found is none = some_last y ys found is none

none_left : (contents : List (List ℕ)) (found : Option (List ℕ)) → found ≡ last_among contents → found ≡ None → contents ≡ []
none_left [] found is none = refl
none_left (x ∷ xs) found is none = absurd (some_last x xs found is none)

-- the rest has no DocType
pub one_doc_type : (content rest name text : List ℕ) (found : Option (List ℕ))
    → ((contents : List (List ℕ)) → AreContents 0x4282 rest contents → AreContents 0x4282 content (name ∷ contents))
    → OfLast 0x4282 rest (λ last. found ≡ last) → found ≡ None → IsStringOf name text → HasDocType content text
one_doc_type content rest name text found more last none is = record {
  name = name;
  one = more [] (subst (AreContents 0x4282 rest) (none_left last.0 found last.2 none) last.1);
  text_of = is;
}

two_left : (contents : List (List ℕ)) (found : Option (List ℕ)) (last : List ℕ) → found ≡ last_among contents → found ≡ Some last → contents ≡ [] → ⊥
two_left [] found last is some none = cc
two_left (x ∷ xs) found last is some none = cc

-- it has one more
pub two_doc_types : (content rest name last : List ℕ) (found : Option (List ℕ)) → AreBytes content
    → ((contents : List (List ℕ)) → AreContents 0x4282 rest contents → AreContents 0x4282 content (name ∷ contents))
    → OfLast 0x4282 rest (λ last. found ≡ last) → found ≡ Some last → (text : List ℕ) → HasDocType content text → ⊥
two_doc_types content rest name last found bytes more at some text has =
    let same : has.name ∷ [] ≡ name ∷ at.0 = contents_are_one 0x4282 content (has.name ∷ []) (name ∷ at.0) bytes has.one (more at.0 at.1) in
    let none : at.0 ≡ [] = cc in
    two_left at.0 found last at.2 some none
