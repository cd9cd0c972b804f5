-- The items that were given so far, and one more.
use Rattle.std.proofs.Common.{◌≡◌, ℕ, ◌+◌, List, [], ◌∷◌, ◌++◌, length, take, drop, refl, sym, ap, ◌∙◌, subst, zero-add}
use Rattle.std.specs.Prelude.{◌≢◌, IsTrue}
use Rattle.std.proofs.lemmas.List.{length-append, length-take-le, take-append-drop, take-append-le, drop-append-le, append-nil, append_assoc}
use Rattle.ffv1_bits.specs.Parity.{AreBytes}
use Rattle.ffv1_bits.proofs.Bytes.{AreBytes-append}
use Rattle.ffv1_devices.specs.Logs.{ReadLog, Reads}
use Rattle.ffv1_devices.proofs.Steps.{Reads-trans}
use Rattle.ebml.specs.Items.{ItemValue, IsItem, bytes_of_items, EachBefore}
use Rattle.ebml.proofs.ItemList.{bytes_of_snoc, each_snoc, each_to_end}
use Rattle.ebml.specs.declared.items.Kind.{Kind}
use Rattle.ebml.specs.declared.items.Kind.TheVariants.{Unknown}
use Rattle.ebml_reader.specs.declared.settled.Settled.{Settled}
use Rattle.ebml_reader.specs.declared.fault.ReaderFault.{ReaderFault}
use Rattle.ebml_reader.specs.Reader.{Held, nothing_held, StandsAfter, AreAllItems, GivesItem, IsFault}
use Rattle.ebml_reader.specs.Intake.{Passes}
use Rattle.ebml_reader.specs.Inner.Settled.{ItemEndsAt, Settles}
use Rattle.ebml_reader.proofs.Steps.{passes-trans, left_is, still, fault-after}

abbrev pub item_of : Settled → List ℕ → ItemValue
item_of settled bytes = record { kind = settled.found.kind; bytes = bytes }

abbrev pub left_after : Settled → Held → Held
left_after settled held = record { bytes = drop settled.kept held.bytes; taken = held.taken; ended = held.ended }

pub stands_next : (first x y : ReadLog) (items : List ItemValue) (settled : Settled) (old new : Held) → StandsAfter first items old x
    → (s : Settles settled old new x y) → StandsAfter first (items ++ item_of settled s.item ∷ []) (left_after settled new) y
stands_next first x y items settled old new stands s =
    let step = s.passes in
    let item : ItemValue = item_of settled s.item in
    let rest : List ℕ = drop settled.kept new.bytes in
    let parted : s.passed ++ new.bytes ≡ s.item ++ drop settled.kept new.bytes =
    ap (λ l. s.passed ++ l) (sym (take-append-drop settled.kept new.bytes))
    ∙ sym (append_assoc s.passed (take settled.kept new.bytes) (drop settled.kept new.bytes)) ∙ ap (λ l. l ++ drop settled.kept new.bytes) (sym s.joined) in
    let all : (bytes_of_items items ++ old.bytes) ++ step.read ≡ bytes_of_items (items ++ item_of settled s.item ∷ []) ++ drop settled.kept new.bytes =
    append_assoc (bytes_of_items items) old.bytes step.read ∙ ap (λ l. bytes_of_items items ++ l) (step.joined ∙ parted)
    ∙ sym (append_assoc (bytes_of_items items) s.item (drop settled.kept new.bytes)) ∙ ap (λ l. l ++ drop settled.kept new.bytes) (sym (bytes_of_snoc items (item_of settled s.item))) in
    record {
      reads = subst (Reads first y) all (Reads-trans first x y (bytes_of_items items ++ old.bytes) step.read stands.reads step.reads);
      are = subst AreBytes all (AreBytes-append (bytes_of_items items ++ old.bytes) step.read stands.are step.are);
      counted = step.counted ∙ ap (λ k. k + length step.read) stands.counted ∙ sym (length-append (bytes_of_items items ++ old.bytes) step.read) ∙ ap length all;
      end = λ ended. step.end stands.end ended;
      each = λ more ends.
          let left : old.bytes ++ (step.read ++ more) ≡ s.item ++ (drop settled.kept new.bytes ++ more) =
          left_is s.passed old new x y step more ∙ sym (append_assoc s.passed new.bytes more) ∙ ap (λ l. l ++ more) parted
          ∙ append_assoc s.item (drop settled.kept new.bytes) more in
          each_snoc items (item_of settled s.item) (drop settled.kept new.bytes ++ more)
          (subst (EachBefore items) left (stands.each (step.read ++ more) (still s.passed old new x y step more ends)))
          (s.is more ends);
    }

pub all_given : (first x y : ReadLog) (items : List ItemValue) (old new : Held) → StandsAfter first items old x → Passes [] old new x y → new.bytes ≡ []
    → IsTrue new.ended → AreAllItems first items y
all_given first x y items old new stands step none ended =
    let all : (bytes_of_items items ++ old.bytes) ++ step.read ≡ bytes_of_items items =
    append_assoc (bytes_of_items items) old.bytes step.read ∙ ap (λ l. bytes_of_items items ++ l) (step.joined ∙ none) ∙ append-nil (bytes_of_items items) in
    let left : old.bytes ++ (step.read ++ []) ≡ [] = left_is [] old new x y step [] ∙ append-nil new.bytes ∙ none in
    record {
      reads = subst (Reads first y) all (Reads-trans first x y (bytes_of_items items ++ old.bytes) step.read stands.reads step.reads);
      are_bytes = subst AreBytes all (AreBytes-append (bytes_of_items items ++ old.bytes) step.read stands.are step.are);
      end = step.end stands.end ended;
      are = record {
        joined = refl;
        each = each_to_end items (subst (EachBefore items) left (stands.each (step.read ++ []) (still [] old new x y step [] (λ _. refl))));
      };
    }

pub fault_given : (fault : ReaderFault) (first x y : ReadLog) (items : List ItemValue) (old : Held) → StandsAfter first items old x → IsFault fault old.taken x y
    → IsFault fault 0 first y
fault_given fault first x y items old stands is =
    fault-after fault (bytes_of_items items) nothing_held old first x y
    record {
      read = bytes_of_items items ++ old.bytes;
      reads = stands.reads;
      are = stands.are;
      joined = refl;
      counted = stands.counted ∙ sym (zero-add (length (bytes_of_items items ++ old.bytes)));
      stays = λ ended. absurd cc;
      end = λ _ ended. stands.end ended;
    } is

-- ---- what the code reads

pub kept_item : (kind : Kind) (kept : ℕ) (old new : Held) (x y : ReadLog) → (kind ≢ Unknown) → ItemEndsAt kind kept old new x y
    → Settles record { found = record { kind = kind; length = kept }; kept = kept } old new x y
kept_item kind kept old new x y known ends =
    let within = ends.within in
    record {
      item = take kept new.bytes;
      passed = [];
      passes = ends.passes;
      bounded = ends.bounded;
      within = ends.within;
      joined = refl;
      long = sym (length-take-le kept new.bytes ends.within);
      kept = λ _. refl;
      none = λ unknown. absurd (known unknown);
      is = λ more end.
          let front : take kept (new.bytes ++ more) ≡ take kept new.bytes = take-append-le kept new.bytes more ends.within in
          let rest : drop kept (new.bytes ++ more) ≡ drop kept new.bytes ++ more = drop-append-le kept new.bytes more ends.within in
          subst (λ l. IsItem kind l (drop kept new.bytes ++ more)) front (subst (λ l. IsItem kind (take kept (new.bytes ++ more)) l) rest (ends.is more end));
    }

-- an item was read after what had been read
pub settles-after : (settled : Settled) (old mid new : Held) (x y z : ReadLog) → Passes [] old mid x y → Settles settled mid new y z → Settles settled old new x z
settles-after settled old mid new x y z first s = record {
  item = s.item;
  passed = s.passed;
  passes = passes-trans [] s.passed old mid new x y z first s.passes;
  bounded = s.bounded;
  within = s.within;
  joined = s.joined;
  long = s.long;
  kept = s.kept;
  none = s.none;
  is = s.is;
}

pub gives_item : (first x y : ReadLog) (items : List ItemValue) (settled : Settled) (old new : Held) → StandsAfter first items old x → Settles settled old new x y
    → GivesItem first items settled.found record { given = take settled.kept new.bytes; held = left_after settled new } y
gives_item first x y items settled old new stands s = record {
  bytes = s.item;
  long = s.long;
  given = s.kept;
  none = λ unknown. ap (λ k. take k new.bytes) (s.none unknown);
  few = s.bounded.limit;
  stands = stands_next first x y items settled old new stands s;
}
