-- Where elements end, whatever follows.
use Rattle.std.proofs.Common.{◌≡◌, ℕ, ◌+◌, ◌-◌, ◌^◌, ◌<◌, ◌≤◌, List, [], ◌++◌, length, take, drop, min, sym, ap, ◌∙◌, subst, arith, inl, inr, le_refl}
use Rattle.std.specs.Prelude.{◌⊎◌, IsTrue, Some}
use Rattle.std.proofs.lemmas.List.{length-append, length-take-le, take-append-drop, drop-append-le, append-nil}
use Rattle.ffv1_devices.specs.Logs.{ReadLog}
use Rattle.ebml.specs.Head.{HasHead}
use Rattle.ebml.specs.Items.{IsHeaded}
use Rattle.ebml.specs.Children.{AreChildren}
use Rattle.ebml.specs.Masters.{cluster_ids}
use Rattle.ebml.specs.declared.head.Head.{Head}
use Rattle.ebml.specs.declared.items.Kind.TheVariants.{Segment, Element, Endless, Unknown}
use Rattle.ebml.proofs.Heads.{head_longer, heads_are_local}
use Rattle.ebml.proofs.Elements.{head_of_front, front_head}
use Rattle.ebml_reader.specs.Reader.{Held}
use Rattle.ebml_reader.specs.Intake.{Passes, Has, IsBounded, Whatever}
use Rattle.ebml_reader.specs.Inner.Settled.{BeginsItem, ItemEndsAt, ChildrenEndAt, BeginsNoTop}
use Rattle.ebml_reader.proofs.Steps.{passes-nil}

-- the head of an item begins all that is left
head_left : (head : Head) (n : ℕ) (old new : Held) (x y : ReadLog) (more : List ℕ) → Passes [] old new x y → HasHead (take n old.bytes) head → HasHead (new.bytes ++ more) head
head_left head n old new x y more step has =
    head_longer new.bytes more head (subst (λ z. HasHead z head) step.joined (head_longer old.bytes step.read head (head_of_front old.bytes n head has)))

-- and the item
headed : (head : Head) (n end : ℕ) (old new : Held) (x y : ReadLog) (more : List ℕ) → Passes [] old new x y → IsHeaded head (take n old.bytes) → head.length ≤ end
    → IsHeaded head (take end (new.bytes ++ more))
headed head n end old new x y more step is within =
    record { top = is.top; has = front_head (new.bytes ++ more) end head within (head_left head n old new x y more step is.has) }

head_room : (head : Head) (n : ℕ) (old new : Held) (x y : ReadLog) → Passes [] old new x y → HasHead (take n old.bytes) head → head.length ≤ length new.bytes
head_room head n old new x y step has =
    let there = (head_of_front old.bytes n head has).room in
    let long : length (old.bytes ++ step.read) ≡ length new.bytes = ap length step.joined in
    omega (arith, there, long, length-append old.bytes step.read)

pub segment_ends : (head : Head) (held : Held) (log : ReadLog) → IsBounded held → BeginsItem (Segment head) held.bytes → ItemEndsAt (Segment head) head.length held held log log
segment_ends head held log bounded begins =
    let step = passes-nil held log in
    let is = begins.1 in
    let room : head.length ≤ length held.bytes = head_room head begins.0 held held log log step is.0.has in
    record {
      passes = passes-nil held log;
      within = room;
      bounded = bounded;
      is = λ more ends. (
        headed head begins.0 head.length held held log log more step is.0 (le_refl head.length),
        is.1,
        length-take-le head.length (held.bytes ++ more) (omega (arith, room, length-append held.bytes more)),
      );
    }

-- where an element of known size ends, by all that is left
end_is : (whole size end long more : ℕ) → end ≡ min (min whole (2 ^ 64 - 1)) long → size ≡ long + more → long < 2 ^ 63
    → (more ≡ 0) ⊎ (min whole (2 ^ 64 - 1) ≤ long) → end ≡ min whole size
end_is whole size end long more is all few (inl none) = omega arith
end_is whole size end long more is all few (inr there) = omega arith

no_more : (held : Held) (more : List ℕ) (n : ℕ) → (IsTrue held.ended → more ≡ []) → Has n held → (length more ≡ 0) ⊎ (n ≤ length held.bytes)
no_more held more n ends (inl ended) = inl (ap length (ends ended))
no_more held more n ends (inr there) = inr there

pub element_ends : (head : Head) (old new : Held) (x y : ReadLog) (whole end : ℕ) → BeginsItem (Element head) old.bytes
    → ((size : ℕ) → head.size ≡ Some size → whole ≡ min (head.length + size) (2 ^ 64 - 1)) → end ≡ min whole (length new.bytes)
    → Passes [] old new x y → Has whole new → IsBounded new → ItemEndsAt (Element head) end old new x y
element_ends head old new x y whole end begins whole_is end_is_min step has bounded =
    let is = begins.1 in
    let size : ℕ = is.2.0 in
    let by_size : whole ≡ min (head.length + is.2.0) (2 ^ 64 - 1) = whole_is is.2.0 is.2.1 in
    let room : head.length ≤ length new.bytes = head_room head begins.0 old new x y step is.0.has in
    let few = bounded.few in let limit = bounded.limit in
    record {
      passes = step;
      within = omega (arith, end_is_min);
      bounded = bounded;
      is = λ more ends.
          let left : List ℕ = new.bytes ++ more in
          let all : length (new.bytes ++ more) ≡ length new.bytes + length more = length-append new.bytes more in
          let cases : (length more ≡ 0) ⊎ (min (head.length + is.2.0) (2 ^ 64 - 1) ≤ length new.bytes) = no_more new more _ ends (subst (λ n. Has n new) by_size has) in
          let ends_at : end ≡ min (head.length + is.2.0) (length (new.bytes ++ more)) =
          end_is (head.length + is.2.0) (length (new.bytes ++ more)) end (length new.bytes) (length more)
          (end_is_min ∙ ap (λ n. min n (length new.bytes)) by_size) all (omega (arith, few, limit)) cases in
          let within : end ≤ length (new.bytes ++ more) = omega (arith, ends_at) in (
            headed head begins.0 end old new x y more step is.0 (omega (arith, ends_at, room, all)),
            is.1,
            (
              is.2.0,
              is.2.1,
              length-take-le end (new.bytes ++ more) within ∙ ends_at
                  ∙ ap (λ l. min (head.length + is.2.0) (length l)) (sym (take-append-drop end (new.bytes ++ more))),
            ),
          );
    }

pub cluster_ends : (head : Head) (old new : Held) (x y : ReadLog) (end : ℕ) → BeginsItem (Endless head) old.bytes → ChildrenEndAt head.length end old new x y
    → ItemEndsAt (Endless head) end old new x y
cluster_ends head old new x y end begins kids =
    let is = begins.1 in
    let from = kids.from in
    let there = kids.within in
    record {
      passes = kids.passes;
      within = kids.within;
      bounded = kids.bounded;
      is = λ more ends.
          let left : List ℕ = new.bytes ++ more in
          let are = kids.are more ends in
          let within : end ≤ length (new.bytes ++ more) = omega (arith, there, length-append new.bytes more) in
          let same : drop head.length (take end (new.bytes ++ more)) ++ drop end (new.bytes ++ more) ≡ drop head.length (new.bytes ++ more) =
          sym (drop-append-le head.length (take end (new.bytes ++ more)) (drop end (new.bytes ++ more)) (omega (arith, from, length-take-le end (new.bytes ++ more) within)))
          ∙ ap (drop head.length) (take-append-drop end (new.bytes ++ more)) in (
            headed head begins.0 end old new x y more kids.passes is.0 from,
            is.1,
            is.2,
            (are.0, subst (λ z. AreChildren cluster_ids z are.0 (drop end (new.bytes ++ more))) (sym same) are.1),
          );
    }

pub no_top : (held : Held) → BeginsItem Unknown held.bytes → Has 12 held → Whatever held BeginsNoTop
no_top held begins (inl ended) = λ more ends head top has.
    begins.1.no_element head top
    (subst (λ z. HasHead z head) (ap (λ z. held.bytes ++ z) (ends ended) ∙ append-nil held.bytes ∙ sym (take-append-drop begins.0 held.bytes)) has)
no_top held begins (inr long) = λ more ends head top has.
    begins.1.no_element head top
    (subst (λ z. HasHead z head) (sym (take-append-drop begins.0 held.bytes)) ((heads_are_local held.bytes more head).1 long has))
