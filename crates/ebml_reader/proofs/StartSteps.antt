-- Items that are passed: their starts, and what follows these.
use Rattle.std.proofs.Common.{◌≡◌, ℕ, ◌+◌, ◌^◌, ◌<◌, ◌≤◌, List, [], ◌∷◌, ◌++◌, length, take, drop, refl, sym, ap, ◌∙◌, subst, arith, inl, inr, le_refl}
use Rattle.std.specs.Prelude.{None, Result, Ok, Err}
use Rattle.std.specs.List.{AllByRecursion, concat}
use Rattle.std.proofs.lemmas.List.{length-append, length-take-le, append-nil, append_assoc, drop_at, length-drop}
use Rattle.ffv1_bits.specs.Parity.{AreBytes}
use Rattle.ffv1_bits.proofs.Bytes.{AreBytes-append}
use Rattle.ffv1_devices.specs.Logs.{ReadLog}
use Rattle.ebml.specs.Children.{IsChild}
use Rattle.ebml.specs.Items.{IsHeaded, IsItem, ItemValue, bytes_of_items, EachBefore}
use Rattle.ffv1_devices.specs.Logs.{Reads}
use Rattle.ffv1_devices.proofs.Steps.{Reads-trans}
use Rattle.ebml.proofs.ItemList.{bytes_of_snoc}
use Rattle.ebml.proofs.ItemList.{each_snoc as items_snoc}
use Rattle.ebml.specs.Masters.{cluster_ids}
use Rattle.ebml.specs.declared.head.Head.{Head}
use Rattle.ebml.specs.declared.children.Element.{Element}
use Rattle.ebml.specs.declared.items.Kind.{Kind}
use Rattle.ebml.specs.declared.items.Kind.TheVariants as kind
use Rattle.ebml.proofs.Heads.{head_longer}
use Rattle.ebml.proofs.Elements.{head_of_front, front_head, concat_snoc, each_snoc}
use Rattle.ebml_reader.specs.declared.fault.ReaderFault.{ReaderFault}
use Rattle.ebml_reader.specs.Reader.{Held, StandsAfter}
use Rattle.ebml_reader.specs.Intake.{Passes, Has, IsBounded, Whatever}
use Rattle.ebml_reader.specs.Pieces.{PassesUpTo, HoldsChild, HasNoChild}
use Rattle.ebml_reader.specs.Starts.{IsStartOf, StartsItem, EndsItem, PassesItemOf}
use Rattle.ebml_reader.specs.Inner.Settled.{BeginsItem, PassesUnknown}
use Rattle.ebml_reader.specs.Inner.Front.{PassesFront, PassesAllChildren}
use Rattle.ebml_reader.proofs.Steps.{passes-nil, passes-trans, passes-fill, passes-pass, left_is, still}

-- ---- starts

abbrev pub dropped : ℕ → Held → Held
dropped n held = record { bytes = drop n held.bytes; taken = held.taken; ended = held.ended }

pub dropped_bounded : (n : ℕ) (held : Held) → IsBounded held → IsBounded (dropped n held)
dropped_bounded n held bounded =
    let few = bounded.few in
    record { few = omega (arith, few, length-drop n held.bytes); limit = bounded.limit }

pub head_room : (head : Head) (n : ℕ) (bytes : List ℕ) → IsHeaded head (take n bytes) → head.length ≤ length bytes
head_room head n bytes is = (head_of_front bytes n head is.has).room

headed_front : (head : Head) (n : ℕ) (bytes : List ℕ) → IsHeaded head (take n bytes) → IsHeaded head (take head.length bytes)
headed_front head n bytes is = record { top = is.top; has = front_head bytes head.length head (le_refl head.length) (head_of_front bytes n head is.has) }

head_long : (head : Head) (n : ℕ) (bytes : List ℕ) → IsHeaded head (take n bytes) → length (take head.length bytes) ≡ head.length
head_long head n bytes is = length-take-le head.length bytes (head_room head n bytes is)

module _ (head : Head) (held new : Held) (log : ReadLog) (result : ℕ) (bounded : IsBounded held) (new_is : new ≡ dropped head.length held) (counted : result ≡ head.length) where
  abbrev Front : Kind → Type 0
  Front k = (bytes : List ℕ) × (result ≡ length bytes) × Passes bytes held new log log × IsBounded new × IsStartOf k bytes new

  step : Passes (take head.length held.bytes) held new log log
  step = subst (λ h. Passes (take head.length held.bytes) held h log log) (sym new_is) (passes-pass head.length held log)

  few : IsBounded new
  few = subst IsBounded (sym new_is) (dropped_bounded head.length held bounded)

  pub segment_front : (k : Kind) → k ≡ kind.Segment head → BeginsItem k held.bytes → Front k
  segment_front k k_is begins_k =
      let begins = subst (λ j. BeginsItem j held.bytes) k_is begins_k in
      let is = begins.1 in
      let long = head_long head begins.0 held.bytes is.0 in
      subst Front (sym k_is) (take head.length held.bytes, counted ∙ sym long, step, few, (headed_front head begins.0 held.bytes is.0, is.1, long))

  pub element_front : (k : Kind) → k ≡ kind.Element head → BeginsItem k held.bytes → Front k
  element_front k k_is begins_k =
      let begins = subst (λ j. BeginsItem j held.bytes) k_is begins_k in
      let is = begins.1 in
      let long = head_long head begins.0 held.bytes is.0 in
      subst Front (sym k_is) (take head.length held.bytes, counted ∙ sym long, step, few, (headed_front head begins.0 held.bytes is.0, is.1, (is.2.0, is.2.1), long))

  pub endless_front : (k : Kind) → k ≡ kind.Endless head → BeginsItem k held.bytes → Front k
  endless_front k k_is begins_k =
      let begins = subst (λ j. BeginsItem j held.bytes) k_is begins_k in
      let is = begins.1 in
      let long = head_long head begins.0 held.bytes is.0 in
      subst Front (sym k_is) (take head.length held.bytes, counted ∙ sym long, step, few, (headed_front head begins.0 held.bytes is.0, is.1, is.2, long))

pub unknown_front : (result : Result ℕ ReaderFault) (old new : Held) (x y : ReadLog) → PassesUnknown result old new x y → PassesFront kind.Unknown result old new x y
unknown_front (Ok long) old new x y passes = (passes.item, passes.long', passes.passes, passes.bounded, passes.is)
unknown_front (Err fault) old new x y passes = passes

pub seen_less : (held : Held) → Has 12 held → Has 5 held
seen_less held (inl ended) = inl ended
seen_less held (inr there) = inr (omega (arith, there))

pub start_there : (k : Kind) (long : ℕ) (old mid new : Held) (x y z : ReadLog) → Passes [] old mid x y → PassesFront k (Ok long) mid new y z
    → StartsItem record { kind = k; length = long } old new x z
start_there k long old mid new x y z first front = record {
  bytes = front.0;
  long = front.1;
  passes = passes-trans [] front.0 old mid new x y z first front.2;
  bounded = front.3;
  is = front.4;
}

-- ---- the children of a Cluster of unknown size

pub record ChildrenPassed (passed : ℕ) (old now : Held) (x y : ReadLog) : Type 0 where
  pub bytes : List ℕ
  pub long : passed ≡ length bytes
  pub passes : Passes bytes old now x y
  pub children : List (List ℕ)
  pub joined : bytes ≡ concat children
  pub each : AllByRecursion (IsChild cluster_ids) children

pub no_child_passed : (held : Held) (log : ReadLog) → ChildrenPassed 0 held held log log
no_child_passed held log = record { bytes = []; long = refl; passes = passes-nil held log; children = []; joined = refl; each = tt }

-- what was passed is no more than what was read
pub passed_few : (bytes : List ℕ) (old new : Held) (x y : ReadLog) → Passes bytes old new x y → IsBounded old → length bytes + length new.bytes ≤ new.taken
passed_few bytes old new x y passes bounded =
    let few = bounded.few in
    omega (arith, few, passes.counted, ap length passes.joined, length-append old.bytes passes.read, length-append bytes new.bytes)

module _ (passed : ℕ) (old now mid : Held) (x y z : ReadLog) (so_far : ChildrenPassed passed old now x y) (child : Element) (holds : HoldsChild cluster_ids None child now mid y z)
    (bounded : IsBounded old) where
  pub child_fits : passed + child.length < 2 ^ 63
  child_fits =
      let few = passed_few so_far.bytes old mid x z (passes-fill so_far.bytes old now mid x y z so_far.passes holds.passes) bounded in
      let long = so_far.long in let there = holds.there in let limit = holds.bounded.limit in
      omega (arith, few, long, there, limit)

  pub one_child_passed : (new : Held) → new ≡ dropped child.length mid → ChildrenPassed (passed + child.length) old new x z
  one_child_passed new new_is =
      let long = so_far.long in
      let bytes : List ℕ = take child.length mid.bytes in
      record {
        bytes = so_far.bytes ++ take child.length mid.bytes;
        long = omega (arith, long, length-append so_far.bytes (take child.length mid.bytes), length-take-le child.length mid.bytes holds.there);
        passes = subst (λ h. Passes (so_far.bytes ++ take child.length mid.bytes) old h x z) (sym new_is)
            (passes-trans so_far.bytes (take child.length mid.bytes) old mid (dropped child.length mid) x z z
            (passes-fill so_far.bytes old now mid x y z so_far.passes holds.passes) (passes-pass child.length mid z));
        children = so_far.children ++ take child.length mid.bytes ∷ [];
        joined = ap (λ l. l ++ take child.length mid.bytes) so_far.joined ∙ sym (concat_snoc so_far.children (take child.length mid.bytes));
        each = each_snoc cluster_ids so_far.children (take child.length mid.bytes) so_far.each record { head = child.head; element = holds.is; known = holds.known };
      }

pub children_passed : (passed : ℕ) (old now new : Held) (x y z : ReadLog) → ChildrenPassed passed old now x y → HasNoChild cluster_ids None now new y z
    → PassesAllChildren (Ok passed) old new x z
children_passed passed old now new x y z so_far none = (
  so_far.bytes,
  so_far.long,
  record {
    passes = passes-fill so_far.bytes old now new x y z so_far.passes none.passes;
    bounded = none.bounded;
    children = so_far.children;
    joined = so_far.joined;
    each = so_far.each;
    none = none.none;
  },
)

-- ---- whole items

module _ (start rest : List ℕ) (old mid new : Held) (x y z : ReadLog) (first : Passes start old mid x y) (few : IsBounded mid) where
  both_headed : (head : Head) → IsHeaded head start → IsHeaded head (start ++ rest)
  both_headed head is = record { top = is.top; has = head_longer start rest head is.has }

  no_rest : (k : Kind) → IsStartOf k start mid → ((left : List ℕ) → IsStartOf k start mid → Whatever mid (λ l. IsItem k start l)) → (rest ≡ []) → new ≡ mid → z ≡ y
      → PassesItemOf k (start ++ rest) old new x z
  no_rest k is whole none same log =
      subst (λ l. PassesItemOf k l old new x z) (sym (ap (λ l. start ++ l) none ∙ append-nil start))
      (subst (λ h. PassesItemOf k start old h x z) (sym same)
      (subst (λ w. PassesItemOf k start old mid x w) (sym log) record { passes = first; bounded = few; is = whole [] is }))

  element_is : (head : Head) → IsStartOf (kind.Element head) start mid → EndsItem (kind.Element head) rest mid new y z
      → PassesItemOf (kind.Element head) (start ++ rest) old new x z
  element_is head is ends =
      let size : ℕ = is.2.0 in
      let passes : PassesUpTo is.2.0 rest mid new y z = ends is.2.0 is.2.1 in
      let long = is.3 in let most = passes.most in
      record {
        passes = passes-trans start rest old mid new x y z first passes.passes;
        bounded = passes.bounded;
        is = λ more end. (
          both_headed head is.0,
          is.1,
          (
            is.2.0,
            is.2.1,
            elim passes.all [
              | inl all ↦ omega (arith, all, long, length-append start rest, length-append (start ++ rest) (new.bytes ++ more))
              | inr none ↦
                  omega (
                    arith,
                    most,
                    long,
                    length-append start rest,
                    length-append (start ++ rest) (new.bytes ++ more),
                    length-append new.bytes more,
                    ap length none.0,
                    ap length (end none.1),
                  )
            ],
          ),
        );
      }

  endless_is : (head : Head) → IsStartOf (kind.Endless head) start mid → EndsItem (kind.Endless head) rest mid new y z
      → PassesItemOf (kind.Endless head) (start ++ rest) old new x z
  endless_is head is passes = record {
    passes = passes-trans start rest old mid new x y z first passes.passes;
    bounded = passes.bounded;
    is = λ more end. (
      both_headed head is.0,
      is.1,
      is.2,
      (
        passes.children,
        record {
          joined = ap (λ l. l ++ (new.bytes ++ more)) (drop_at start rest head.length is.3 ∙ passes.joined);
          each = passes.each;
          last = passes.none more end;
        },
      ),
    );
  }

  pub item_passed : (k : Kind) → IsStartOf k start mid → EndsItem k rest mid new y z → PassesItemOf k (start ++ rest) old new x z
  item_passed (kind.Segment head) is ends = no_rest (kind.Segment head) is (λ _ s more end. s) ends.0 ends.1 ends.2
  item_passed (kind.Element head) is ends = element_is head is ends
  item_passed (kind.Endless head) is ends = endless_is head is ends
  item_passed kind.Unknown is ends = no_rest kind.Unknown is (λ _ s. s) ends.0 ends.1 ends.2

-- an item more stands
pub stands_passed : (first x y : ReadLog) (items : List ItemValue) (k : Kind) (item : List ℕ) (old new : Held) → StandsAfter first items old x
    → PassesItemOf k item old new x y → StandsAfter first (items ++ record { kind = k; bytes = item } ∷ []) new y
stands_passed first x y items k item old new stands passes =
    let step = passes.passes in
    let last : ItemValue = record { kind = k; bytes = item } in
    let all : (bytes_of_items items ++ old.bytes) ++ step.read ≡ bytes_of_items (items ++ record { kind = k; bytes = item } ∷ []) ++ new.bytes =
    append_assoc (bytes_of_items items) old.bytes step.read ∙ ap (λ l. bytes_of_items items ++ l) step.joined
    ∙ sym (append_assoc (bytes_of_items items) item new.bytes) ∙ ap (λ l. l ++ new.bytes) (sym (bytes_of_snoc items record { kind = k; bytes = item })) in
    record {
      reads = subst (Reads first y) all (Reads-trans first x y (bytes_of_items items ++ old.bytes) step.read stands.reads step.reads);
      are = subst AreBytes all (AreBytes-append (bytes_of_items items ++ old.bytes) step.read stands.are step.are);
      counted = step.counted ∙ ap (λ n. n + length step.read) stands.counted ∙ sym (length-append (bytes_of_items items ++ old.bytes) step.read) ∙ ap length all;
      end = λ ended. step.end stands.end ended;
      each = λ more ends.
          items_snoc items record { kind = k; bytes = item } (new.bytes ++ more)
          (subst (EachBefore items) (left_is item old new x y step more) (stands.each (step.read ++ more) (still item old new x y step more ends)))
          (passes.is more ends);
    }
