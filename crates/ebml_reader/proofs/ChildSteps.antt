-- The children of a Cluster, as they are read.
use Rattle.std.proofs.Common.{◌≡◌, ℕ, ◌+◌, ◌-◌, ◌^◌, ◌<◌, ◌≤◌, List, [], ◌++◌, length, take, drop, min, sym, ap, ◌∙◌, subst, arith, inl, inr}
use Rattle.std.specs.Prelude.{IsTrue, Some, Contains}
use Rattle.std.specs.List.{concat}
use Rattle.std.proofs.lemmas.List.{length-append, length-drop, length-take-le, take-append-drop, take-append-le, drop-append-le, drop-drop, append-nil, append_assoc, take_rest, take_all}
use Rattle.ffv1_devices.specs.Logs.{ReadLog}
use Rattle.ebml.specs.Head.{HasHead}
use Rattle.ebml.specs.Children.{IsElement, IsChild, BeginsNoChild}
use Rattle.ebml.specs.Masters.{cluster_ids}
use Rattle.ebml.specs.declared.head.Head.{Head}
use Rattle.ebml.proofs.Heads.{heads_are_local, after}
use Rattle.ebml.proofs.Elements.{SoFar, one_more, head_of_front}
use Rattle.ebml_reader.specs.Reader.{Held}
use Rattle.ebml_reader.specs.Intake.{Passes, Has, IsBounded}
use Rattle.ebml_reader.specs.Inner.Settled.{HasChildAt, HasNoneAt, ChildrenEndAt}
use Rattle.std.proofs.lemmas.Bool.{cases_lt}
use Rattle.ebml_reader.proofs.Steps.{passes-fill, left_is}

pub record ChildrenSoFar (from end : ℕ) (old new : Held) (x y : ReadLog) : Type 0 where
  pub passes : Passes [] old new x y
  pub room : from ≤ length new.bytes
  pub at : ℕ
  pub at_is : from + at ≡ end
  pub so_far : SoFar cluster_ids (drop from new.bytes) at

longer : (ids xs ys : List ℕ) (at : ℕ) → SoFar ids xs at → SoFar ids (xs ++ ys) at
longer ids xs ys at so_far =
    let within = so_far.within in
    record {
      within = omega (arith, within, length-append xs ys);
      children = so_far.children;
      joined = take-append-le at xs ys so_far.within ∙ so_far.joined;
      each = so_far.each;
    }

-- what was held is a front of what is held then
grown : (from : ℕ) (old new : Held) (x y : ReadLog) (step : Passes [] old new x y) → from ≤ length old.bytes → drop from new.bytes ≡ drop from old.bytes ++ step.read
grown from old new x y step room = ap (drop from) (sym step.joined) ∙ drop-append-le from old.bytes step.read room

pub one_child_more : (from end n : ℕ) (old mid new : Held) (x y z : ReadLog) → ChildrenSoFar from end old mid x y → HasChildAt end n mid new y z
    → ChildrenSoFar from (end + n) old new x z
one_child_more from end n old mid new x y z so_far child =
    let room = so_far.room in let at_is = so_far.at_is in let within = child.within in
    let step = child.passes in
    let long : length (mid.bytes ++ step.read) ≡ length new.bytes = ap length step.joined in
    let before : SoFar cluster_ids (drop from new.bytes) so_far.at =
    subst (λ l. SoFar cluster_ids l so_far.at) (sym (grown from mid new y z step so_far.room)) (longer cluster_ids (drop from mid.bytes) step.read so_far.at so_far.so_far) in
    let place : drop end new.bytes ≡ drop so_far.at (drop from new.bytes) = ap (λ k. drop k new.bytes) (sym so_far.at_is) ∙ sym (drop-drop so_far.at from new.bytes) in
    let there : n ≤ length (drop so_far.at (drop from new.bytes)) = omega (arith, within, length-drop end new.bytes, ap length place) in
    record {
      passes = passes-fill [] old mid new x y z so_far.passes child.passes;
      room = omega (arith, room, long, length-append mid.bytes step.read);
      at = so_far.at + n;
      at_is = omega (arith, at_is);
      so_far = one_more cluster_ids (drop from new.bytes) so_far.at n before there (subst (λ l. IsChild cluster_ids (take n l)) place child.is);
    }

pub all_children : (from end : ℕ) (old mid new : Held) (x y z : ReadLog) → ChildrenSoFar from end old mid x y → HasNoneAt end mid new y z
    → ChildrenEndAt from end old new x z
all_children from end old mid new x y z so_far none =
    let room = so_far.room in let at_is = so_far.at_is in
    let within = so_far.so_far.within in
    let step = none.passes in
    record {
      passes = passes-fill [] old mid new x y z so_far.passes none.passes;
      from = omega (arith, at_is);
      within = none.within;
      bounded = none.bounded;
      are = λ more ends.
          let left : List ℕ = new.bytes ++ more in
          let all : drop from (new.bytes ++ more) ≡ drop from mid.bytes ++ (step.read ++ more) =
          ap (drop from) (sym (left_is [] mid new y z step more)) ∙ drop-append-le from mid.bytes (step.read ++ more) so_far.room in
          let front : take so_far.at (drop from (new.bytes ++ more)) ≡ take so_far.at (drop from mid.bytes) =
          ap (take so_far.at) all ∙ take-append-le so_far.at (drop from mid.bytes) (step.read ++ more) within in
          let rest : drop so_far.at (drop from (new.bytes ++ more)) ≡ drop end (new.bytes ++ more) =
          drop-drop so_far.at from (new.bytes ++ more) ∙ ap (λ k. drop k (new.bytes ++ more)) so_far.at_is in (
            so_far.so_far.children,
            record {
              joined = sym (take-append-drop so_far.at (drop from (new.bytes ++ more)))
                  ∙ ap (λ l. l ++ drop so_far.at (drop from (new.bytes ++ more))) (front ∙ so_far.so_far.joined)
                  ∙ ap (λ l. concat so_far.so_far.children ++ l) rest;
              each = so_far.so_far.each;
              last = none.none more ends;
            },
          );
    }

-- ---- no child

-- so many bytes of a list are a front of it
front_by : (n : ℕ) (xs : List ℕ) → take n xs ≡ take (length (take n xs)) xs
front_by n xs = elim (cases_lt (length xs) n) [
  | inl less ↦ take_all n xs (omega (arith, less)) ∙ sym (take_all (length (take n xs)) xs (omega (arith, ap length (take_all n xs (omega (arith, less))))))
  | inr more ↦ ap (λ k. take k xs) (sym (length-take-le n xs more))
]

-- a child that is claimed to be no longer than what is there is there
claimed_there : (long there place claimed : ℕ) → claimed ≡ min long (2 ^ 64 - 1) → min (place + claimed) (2 ^ 64 - 1) ≤ place + there → place + there < 2 ^ 63 → long ≤ there
claimed_there long there place claimed is has few = omega arith

module _ (place claimed : ℕ) (old mid new : Held) (x y z : ReadLog) (room : place ≤ length old.bytes) (first : Passes [] old mid x y) (second : Passes [] mid new y z)
    (seen : Has (min (place + 12) (2 ^ 64 - 1)) mid)
    (claims : (head : Head) (size : ℕ) → HasHead (after mid.bytes place) head → Contains cluster_ids head.id → head.size ≡ Some size → claimed ≡ min (head.length + size) (2 ^ 64 - 1))
    (has : Has (min (place + claimed) (2 ^ 64 - 1)) new) (bounded : IsBounded new) (none : BeginsNoChild cluster_ids (after new.bytes place)) where
  room_mid : place ≤ length mid.bytes
  room_mid = omega (arith, room, ap length first.joined, length-append old.bytes first.read)

  room_new : place ≤ length new.bytes
  room_new = omega (arith, room_mid, ap length second.joined, length-append mid.bytes second.read)

  none_there : BeginsNoChild cluster_ids (drop place new.bytes)
  none_there = subst (BeginsNoChild cluster_ids) (take_rest new.bytes place) none

  none_open : (more : List ℕ) (n : ℕ) → 12 + place ≤ length mid.bytes → min (place + claimed) (2 ^ 64 - 1) ≤ length new.bytes
      → IsChild cluster_ids (take n (drop place new.bytes ++ more)) → ⊥
  none_open more n long there child =
      let rest : List ℕ = drop place new.bytes ++ more in
      let head : Head = child.head in
      let from_mid : drop place new.bytes ++ more ≡ drop place mid.bytes ++ (second.read ++ more) =
      ap (λ l. l ++ more) (grown place mid new y z second room_mid) ∙ append_assoc (drop place mid.bytes) second.read more in
      let begins : HasHead (drop place mid.bytes ++ (second.read ++ more)) child.head =
      subst (λ l. HasHead l child.head) from_mid (head_of_front (drop place new.bytes ++ more) n child.head child.element.has) in
      let seen_there : HasHead (drop place mid.bytes) child.head =
      (heads_are_local (drop place mid.bytes) (second.read ++ more) child.head).1 (omega (arith, long, length-drop place mid.bytes)) begins in
      let size : ℕ = length (take n (drop place new.bytes ++ more)) - child.head.length in
      let within = child.element.has.room in
      let is : claimed ≡ min (child.head.length + (length (take n (drop place new.bytes ++ more)) - child.head.length)) (2 ^ 64 - 1) =
      claims child.head _ (subst (λ l. HasHead l child.head) (sym (take_rest mid.bytes place)) seen_there) child.known child.element.whole in
      let whole : child.head.length + (length (take n (drop place new.bytes ++ more)) - child.head.length) ≡ length (take n (drop place new.bytes ++ more)) = omega (arith, within) in
      let few = bounded.few in let limit = bounded.limit in
      let long_rest : length (drop place new.bytes) ≡ length new.bytes - place = length-drop place new.bytes in
      let fits : length (take n (drop place new.bytes ++ more)) ≤ length (drop place new.bytes) =
      claimed_there (length (take n (drop place new.bytes ++ more))) (length (drop place new.bytes)) place claimed (is ∙ ap (λ k. min k (2 ^ 64 - 1)) whole)
      (omega (arith, there, long_rest, room_new)) (omega (arith, few, limit, long_rest, room_new)) in
      let same : take n (drop place new.bytes ++ more) ≡ take (length (take n (drop place new.bytes ++ more))) (drop place new.bytes) =
      front_by n (drop place new.bytes ++ more) ∙ take-append-le (length (take n (drop place new.bytes ++ more))) (drop place new.bytes) more fits in
      none_there (length (take n (drop place new.bytes ++ more))) (subst (IsChild cluster_ids) same child)

  none_whatever : (more : List ℕ) → (IsTrue new.ended → more ≡ []) → Has (min (place + 12) (2 ^ 64 - 1)) mid → Has (min (place + claimed) (2 ^ 64 - 1)) new
      → BeginsNoChild cluster_ids (drop place new.bytes ++ more)
  none_whatever more ends (inl ended) h =
      subst (BeginsNoChild cluster_ids) (sym (ap (λ l. drop place new.bytes ++ l) (ends (second.stays ended).1) ∙ append-nil (drop place new.bytes))) none_there
  none_whatever more ends (inr long) (inl ended) =
      subst (BeginsNoChild cluster_ids) (sym (ap (λ l. drop place new.bytes ++ l) (ends ended) ∙ append-nil (drop place new.bytes))) none_there
  none_whatever more ends (inr long) (inr there) = λ n child.
      let few = bounded.few in let limit = bounded.limit in
      none_open more n (omega (arith, long, few, limit, ap length second.joined, length-append mid.bytes second.read)) there child

  pub no_child_there : HasNoneAt place old new x z
  no_child_there = record {
    passes = passes-fill [] old mid new x y z first second;
    within = room_new;
    bounded = bounded;
    none = λ more ends. subst (BeginsNoChild cluster_ids) (sym (drop-append-le place new.bytes more room_new)) (none_whatever more ends seen has);
  }

-- ---- what the code reads

pub child_there : (place n : ℕ) (old mid new : Held) (x y z : ReadLog) (bytes : List ℕ) (head : Head) → place ≤ length old.bytes → bytes ≡ new.bytes
    → Passes [] old mid x y → Passes [] mid new y z → IsBounded new → 0 < n → n ≤ length (after bytes place) → IsElement head (take n (after bytes place))
    → Contains cluster_ids head.id → HasChildAt place n old new x z
child_there place n old mid new x y z bytes head room same first second bounded some within is known =
    let rest : after bytes place ≡ drop place new.bytes = take_rest bytes place ∙ ap (drop place) same in
    let long : length (old.bytes ++ first.read) ≡ length mid.bytes = ap length first.joined in
    let long_new : length (mid.bytes ++ second.read) ≡ length new.bytes = ap length second.joined in
    record {
      passes = passes-fill [] old mid new x y z first second;
      some = some;
      within = omega (arith, within, ap length rest, length-drop place new.bytes, room, long, long_new, length-append old.bytes first.read, length-append mid.bytes second.read);
      bounded = bounded;
      is = record { head = head; element = subst (λ l. IsElement head (take n l)) rest is; known = known };
    }

pub none_read : (place claimed seen_end claimed_end : ℕ) (old mid new : Held) (x y z : ReadLog) (mid_bytes new_bytes : List ℕ) → mid_bytes ≡ mid.bytes → new_bytes ≡ new.bytes
    → place ≤ length old.bytes → Passes [] old mid x y → Passes [] mid new y z → seen_end ≡ min (place + 12) (2 ^ 64 - 1) → Has seen_end mid
    → ((head : Head) (size : ℕ) → HasHead (after mid_bytes place) head → Contains cluster_ids head.id → head.size ≡ Some size → claimed ≡ min (head.length + size) (2 ^ 64 - 1))
    → claimed_end ≡ min (place + claimed) (2 ^ 64 - 1) → Has claimed_end new → IsBounded new → BeginsNoChild cluster_ids (after new_bytes place)
    → HasNoneAt place old new x z
none_read place claimed seen_end claimed_end old mid new x y z mid_bytes new_bytes is_mid is_new room first second seen_is seen claims claimed_is has bounded none =
    no_child_there place claimed old mid new x y z room first second (subst (λ k. Has k mid) seen_is seen)
    (λ head size there. claims head size (subst (λ l. HasHead (after l place) head) (sym is_mid) there))
    (subst (λ k. Has k new) claimed_is has) bounded (subst (λ l. BeginsNoChild cluster_ids (after l place)) is_new none)
