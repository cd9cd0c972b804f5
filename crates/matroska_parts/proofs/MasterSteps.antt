-- The parts of a master, child by child.
use Rattle.std.proofs.Common.{◌≡◌, ℕ, ◌+◌, ◌≤◌, List, [], ◌∷◌, ◌++◌, length, take, drop, refl, sym, ap, ◌∙◌, subst, arith}
use Rattle.std.specs.Prelude.{Contains, Some, Result, Ok, Err, OnOk}
use Rattle.std.specs.List.{concat}
use Rattle.std.proofs.lemmas.List.{append_assoc, append-nil, length-append, length-drop, length-take-le, take-append-drop, take_rest}
use Rattle.std.proofs.Math.Seq.{take-add}
use Rattle.ebml.specs.Children.{IsElement, BeginsNoChild}
use Rattle.ebml.specs.declared.head.Head.{Head}
use Rattle.ebml.proofs.Heads.{after}
use Rattle.ebml.proofs.Elements.{concat_snoc, each_snoc}
use Rattle.matroska_parts.specs.declared.parts.Part.{Part}
use Rattle.matroska_parts.specs.MasterParts.{EachHasParts, unknown_parts, AreMasterParts}
use Rattle.matroska_parts.specs.Inner.Added.{AddsParts, AddsSoFar}

pub parts_snoc : (HasParts : ℕ → List ℕ → List Part → Type 0) (place : ℕ) (pieces : List (List ℕ)) (own : List Part) (piece : List ℕ) (more : List Part)
    → EachHasParts HasParts place pieces own → HasParts (place + length (concat pieces)) piece more → EachHasParts HasParts place (pieces ++ piece ∷ []) (own ++ more)
parts_snoc HasParts place [] own piece more have has =
    let at : place + 0 ≡ place = omega arith in
    (more, [], ap (λ z. z ++ more) have ∙ sym (append-nil more), subst (λ p. HasParts p piece more) at has, refl)
parts_snoc HasParts place (p ∷ ps) own piece more have has =
    let at : place + length (concat (p ∷ ps)) ≡ place + length p + length (concat ps) = omega (arith, length-append p (concat ps)) in
    let rest = parts_snoc HasParts (place + length p) ps have.1 piece more have.4 (subst (λ q. HasParts q piece more) at has) in
    (have.0, have.1 ++ more, ap (λ z. z ++ more) have.2 ∙ append_assoc have.0 have.1 more, have.3, rest)

pub one_added : (HasParts : ℕ → List ℕ → List Part → Type 0) (ids : List ℕ) (place : ℕ) (content : List ℕ) (at n : ℕ) (old new newer : List Part) (head : Head)
    → AddsSoFar HasParts ids place content at old new → n ≤ length (drop at content) → IsElement head (take n (drop at content)) → Contains ids head.id
    → AddsParts (HasParts (place + at) (take n (drop at content))) new newer → AddsSoFar HasParts ids place content (at + n) old newer
one_added HasParts ids place content at n old new newer head so_far room is known adds =
    let within = so_far.within in
    let child : List ℕ = take n (drop at content) in
    let long : at ≡ length (concat so_far.children) = omega (arith, ap length so_far.joined, length-take-le at content within) in
    record {
      within = omega (arith, within, room, length-drop at content);
      children = so_far.children ++ take n (drop at content) ∷ [];
      joined = take-add at n content ∙ ap (λ z. z ++ take n (drop at content)) so_far.joined ∙ sym (concat_snoc so_far.children (take n (drop at content)));
      each = each_snoc ids so_far.children (take n (drop at content)) so_far.each record { head = head; element = is; known = known };
      more = so_far.more ++ adds.0;
      added = adds.1 ∙ ap (λ z. z ++ adds.0) so_far.added ∙ append_assoc old so_far.more adds.0;
      have = parts_snoc HasParts place so_far.children so_far.more (take n (drop at content)) adds.0 so_far.have
          (subst (λ k. HasParts (place + k) (take n (drop at content)) adds.0) long adds.2);
    }

pub all_added : (HasParts : ℕ → List ℕ → List Part → Type 0) (ids : List ℕ) (place : ℕ) (content : List ℕ) (at : ℕ) (old new newer : List Part)
    → AddsSoFar HasParts ids place content at old new → BeginsNoChild ids (drop at content) → newer ≡ new ++ unknown_parts (place + at) (drop at content)
    → AddsParts (AreMasterParts HasParts ids place content) old newer
all_added HasParts ids place content at old new newer so_far none added =
    let within = so_far.within in
    let long : at ≡ length (concat so_far.children) = omega (arith, ap length so_far.joined, length-take-le at content within) in (
      so_far.more ++ unknown_parts (place + at) (drop at content),
      added ∙ ap (λ z. z ++ unknown_parts (place + at) (drop at content)) so_far.added ∙ append_assoc old so_far.more (unknown_parts (place + at) (drop at content)),
      record {
        children = so_far.children;
        rest = drop at content;
        are_children = record {
          joined = sym (take-append-drop at content) ∙ ap (λ z. z ++ drop at content) so_far.joined;
          each = so_far.each;
          last = none;
        };
        own = so_far.more;
        each = so_far.have;
        joined = ap (λ k. so_far.more ++ unknown_parts (place + k) (drop at content)) long;
      },
    )

-- ---- as the code has the bytes

-- the same child, cut out of the content
pub child_same : (content : List ℕ) (at n : ℕ) → n ≤ length (after content at)
    → (n ≤ length (drop at content)) × (take n (after content at) ≡ take n (drop at content))
child_same content at n room =
    let same : after content at ≡ drop at content = take_rest content at in
    (subst (λ z. n ≤ length z) same room, ap (take n) same)

pub on_ok : {T E : Type 0} {P Q : Type 0} (result : Result T E) → (P → Q) → OnOk result P → OnOk result Q
on_ok (Ok x) f p = f p
on_ok (Err e) f p = tt

pub same_some : {X : Type 0} (a b : X) → Some a ≡ Some b → a ≡ b
same_some a b e = cc
