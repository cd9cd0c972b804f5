-- Clusters that are taken child by child.
use Rattle.std.proofs.Common.{◌≡◌, ℕ, zero, suc, ◌+◌, ◌-◌, ◌^◌, ◌<◌, ◌≤◌, Bool, false, List, [], ◌∷◌, ◌++◌, length, take, drop, refl, sym, ap, ◌∙◌, subst, arith, inl, inr}
use Rattle.std.specs.Prelude.{Option, Some, None, Result, Ok, Err}
use Rattle.std.specs.List.{AllByRecursion, concat, flat_map}
use Rattle.std.proofs.lemmas.Grind.{flat_map-append}
use Rattle.std.proofs.lemmas.List.{append_assoc, append-nil, length-append, length-take-le, drop_at}
use Rattle.ffv1_devices.specs.Logs.{ReadLog}
use Rattle.ebml.specs.Head.{HasHead}
use Rattle.ebml.specs.Children.{IsChild, BeginsNoChild}
use Rattle.ebml.specs.Masters.{cluster_id, cluster_ids, child_ids}
use Rattle.ebml.specs.declared.head.Head.{Head}
use Rattle.ebml.specs.declared.children.Element.{Element}
use Rattle.ebml.specs.declared.items.Kind.{Kind}
use Rattle.ebml.specs.declared.items.Kind.TheVariants as kind
use Rattle.ebml_reader.specs.declared.fault.ReaderFault.{ReaderFault}
use Rattle.ebml.proofs.Elements.{concat_snoc, each_snoc, long_head}
use Rattle.ebml_reader.specs.Reader.{Held}
use Rattle.ebml_reader.specs.RunningCrc.{CrcSoFar, RunsOver}
use Rattle.ebml_reader.specs.Intake.{Passes, IsBounded, Whatever}
use Rattle.ebml_reader.specs.Pieces.{GoesOver, up_to, IsWithinLeft, HoldsChild, HasNoChild}
use Rattle.ebml_reader.specs.Starts.{PassesChildren}
use Rattle.ebml_reader.proofs.Steps.{passes-nil, passes-trans, passes-fill, passes-pass, left_is, still}
use Rattle.ebml_reader.proofs.PieceSteps.{over_none, over_more}
use Rattle.ebml_reader.proofs.StreamSteps.{passed_up_to}
use Rattle.ebml_reader.proofs.StartSteps.{dropped}
use Rattle.matroska.specs.declared.track.Track.{Track}
use Rattle.matroska_parts.specs.TopElements.{top_element_of}
use Rattle.matroska_parts.specs.Named.{IsBelow}
use Rattle.matroska_parts.specs.MasterParts.{EachHasParts, unknown_parts, IsMasterChild, AreContentPartsBy}
use Rattle.matroska_parts.specs.Openings.{opening_of, IsCrc32Of, passes}
use Rattle.matroska_parts.specs.ItemParts.{AreElementParts}
use Rattle.matroska_parts.specs.SourceParts.{KnownTracks}
use Rattle.matroska_parts.specs.StreamedParts.{IsPlacedAt, AddsEndParts}
use Rattle.matroska_parts.specs.declared.parts.Part.{Part}
use Rattle.matroska_parts.specs.declared.parts.Part.TheVariants as part
use Rattle.matroska_parts.specs.declared.parts.Span.{Span}
use Rattle.matroska_parts.specs.declared.parts.Opening.{Opening}
use Rattle.matroska_parts.specs.declared.parts.Closing.{Closing}
use Rattle.matroska_parts.specs.declared.parts.Crc32.{Crc32}
use Rattle.matroska_parts.specs.declared.parts.Crc32.TheVariants as crcs
use Rattle.matroska_parts.specs.declared.top_elements.TopElement.TheVariants as tops
use Rattle.matroska_parts.proofs.MasterSteps.{parts_snoc}
use Rattle.matroska_parts.proofs.InnerSteps.{all_append, master_child, records_if}
use Rattle.matroska_parts.proofs.EndSteps.{element_parts}
use Rattle.matroska_parts.proofs.PlacedSteps.{placed_after, placed_room}
use Rattle.ffv1_check.specs.declared.report.Reporter.{Reporter}
use Rattle.ffv1_check.specs.declared.waiting.Waiting.{Waiting}
use Rattle.ffv1_check.specs.Inner.Stands.{ReporterStands}
use Rattle.matroska_parts.specs.Inner.Vouched.{vouched, vouched_if}
use Rattle.ffv1_check.specs.Inner.Vouched.{waits, WaitsFor}
use Rattle.ffv1_check.specs.Inner.TakenParts.{TakesParts, ReportsParts, TakesChild, size_left, ReportsChildren, ChildrenTaken, closing_with, ClusterEnd, PassesAfter, EndsCluster, EndsBy, TakesCluster, TakesItem}
use Rattle.matroska_parts.proofs.VouchSteps.{child_inner, children_vouched}

pub child_below : (tracks : List Track) (vouched : Bool) (place : ℕ) (element : List ℕ) (parts : List Part) → IsMasterChild tracks vouched place element parts
    → AllByRecursion (IsBelow (length tracks)) parts
child_below tracks vouched place element parts is =
    master_child tracks (IsBelow (length tracks)) (λ s. tt) (λ t. tt) (λ b below. below) (λ r. tt) (λ p. tt) vouched place element parts is

pub vouched_not : (c : Crc32) (own : List Part) → (c ≡ crcs.Passes → ⊥) → vouched_if (passes c) own ≡ own
vouched_not crcs.Cut own isnt = refl
vouched_not crcs.Absent own isnt = refl
vouched_not crcs.Passes own isnt = absurd (isnt refl)
vouched_not crcs.Fails own isnt = refl

-- ---- children

pub no_child_taken : (tracks : List Track) (place : ℕ) (size : Option ℕ) (crc : CrcSoFar) (reporter : Reporter) (waiting : Waiting) (held : Held) (log : ReadLog)
    → ChildrenTaken tracks place size 0 crc crc reporter reporter waiting waiting held held log log
no_child_taken tracks place size crc reporter waiting held log = record {
  content = [];
  long = refl;
  within = none_within size;
  passes = passes-nil held log;
  over = over_none crc;
  children = [];
  joined = refl;
  each = tt;
  reports = λ before stands waits_for. ([], refl, subst (λ l. ReporterStands (length tracks) l reporter) (sym (append-nil before)) stands, waits_for);
}
  where
    none_within : (s : Option ℕ) → IsWithinLeft 0 s
    none_within None = tt
    none_within (Some n) = omega arith

more_within : (size : Option ℕ) (passed n : ℕ) → IsWithinLeft passed size → IsWithinLeft n (size_left size passed) → IsWithinLeft (passed + n) size
more_within None passed n within more = tt
more_within (Some size) passed n within more = omega (arith, within, more)

module _ (tracks : List Track) (place : ℕ) (size : Option ℕ) (passed : ℕ) (crc later last : CrcSoFar) (r0 r : Reporter) (w0 w : Waiting) (old now mid : Held) (x y z : ReadLog)
    (so_far : ChildrenTaken tracks place size passed crc later r0 r w0 w old now x y) (child : Element) (holds : HoldsChild cluster_ids (size_left size passed) child now mid y z) where
  bytes : List ℕ
  bytes = take child.length mid.bytes

  pub child_placed : IsPlacedAt place old → place + passed + child.length < 2 ^ 63
  child_placed placed =
      let at = placed_after place so_far.content old mid x z (passes-fill so_far.content old now mid x y z so_far.passes holds.passes) placed in
      let long = so_far.long in let there = holds.there in let few = holds.bounded.limit in
      omega (arith, at, long, there, few)

  module _ (r1 : Reporter) (w1 : Waiting) (adds : TakesChild {T = Unit {0}} tracks (place + passed) (take child.length mid.bytes) (Ok tt) r r1 w w1)
      (over : GoesOver (take child.length mid.bytes) later last) (new : Held) (new_is : new ≡ dropped child.length mid) where
    own : List Part
    own = adds.0

    at : place + passed ≡ place + length (concat so_far.children)
    at = let long = so_far.long in omega (arith, long, ap length so_far.joined)

    reports : ReportsChildren tracks place (so_far.children ++ take child.length mid.bytes ∷ []) r0 r1 w0 w1
    reports before stands waits_for =
        let rep = so_far.reports before stands waits_for in
        let w_before = rep.3 in (
          rep.0 ++ adds.0,
          parts_snoc (IsMasterChild tracks false) place so_far.children rep.0 (take child.length mid.bytes) adds.0 rep.1
              (subst (λ p. IsMasterChild tracks false p (take child.length mid.bytes) adds.0) at adds.1),
          subst (λ l. ReporterStands (length tracks) l r1) (append_assoc before rep.0 adds.0) (adds.2 (before ++ rep.0) rep.2),
          record {
            below = all_append _ rep.0 adds.0 w_before.below (child_below tracks false (place + passed) (take child.length mid.bytes) adds.0 adds.1);
            inner = all_append _ rep.0 adds.0 w_before.inner (child_inner tracks (place + passed) (take child.length mid.bytes) adds.0 adds.1);
            blocks = adds.3 ∙ ap (λ l. l ++ flat_map waits adds.0) w_before.blocks ∙ sym (flat_map-append waits rep.0 adds.0);
            checked = adds.4 ∙ w_before.checked;
          },
        )

    pub one_child_taken : ChildrenTaken tracks place size (passed + child.length) crc last r0 r1 w0 w1 old new x z
    one_child_taken =
        let long = so_far.long in
        record {
          content = so_far.content ++ take child.length mid.bytes;
          long = omega (arith, long, length-append so_far.content (take child.length mid.bytes), length-take-le child.length mid.bytes holds.there);
          within = more_within size passed child.length so_far.within holds.within;
          passes = subst (λ h. Passes (so_far.content ++ take child.length mid.bytes) old h x z) (sym new_is)
              (passes-trans so_far.content (take child.length mid.bytes) old mid (dropped child.length mid) x z z
              (passes-fill so_far.content old now mid x y z so_far.passes holds.passes) (passes-pass child.length mid z));
          over = over_more so_far.content (take child.length mid.bytes) crc later last so_far.over over;
          children = so_far.children ++ take child.length mid.bytes ∷ [];
          joined = ap (λ l. l ++ take child.length mid.bytes) so_far.joined ∙ sym (concat_snoc so_far.children (take child.length mid.bytes));
          each = each_snoc cluster_ids so_far.children (take child.length mid.bytes) so_far.each record { head = child.head; element = holds.is; known = holds.known };
          reports = reports;
        }

pub children_taken : (tracks : List Track) (place : ℕ) (size : Option ℕ) (passed : ℕ) (crc later : CrcSoFar) (r0 r : Reporter) (w0 w : Waiting) (old now new : Held) (x y z : ReadLog)
    → ChildrenTaken tracks place size passed crc later r0 r w0 w old now x y → HasNoChild cluster_ids (size_left size passed) now new y z
    → ChildrenTaken tracks place size passed crc later r0 r w0 w old new x z × IsBounded new × Whatever new (λ left. BeginsNoChild cluster_ids (up_to (size_left size passed) left))
children_taken tracks place size passed crc later r0 r w0 w old now new x y z so_far none = (
  record {
    content = so_far.content;
    long = so_far.long;
    within = so_far.within;
    passes = passes-fill so_far.content old now new x y z so_far.passes none.passes;
    over = so_far.over;
    children = so_far.children;
    joined = so_far.joined;
    each = so_far.each;
    reports = so_far.reports;
  },
  none.bounded,
  none.none,
)

-- ---- the end

no_child_of_none : (ids : List ℕ) → BeginsNoChild ids []
no_child_of_none ids zero child = none_there child.head child.element.has
  where
    none_there : (head : Head) → HasHead [] head → ⊥
    none_there head has = let some = long_head [] head has in let room = has.room in omega (arith, some, room)
no_child_of_none ids (suc n) child = none_there child.head child.element.has
  where
    none_there : (head : Head) → HasHead [] head → ⊥
    none_there head has = let some = long_head [] head has in let room = has.room in omega (arith, some, room)

-- no child begins what follows the children
rest_none : (size : Option ℕ) (passed : ℕ) (rest : List ℕ) (mid new : Held) (y z : ReadLog) → PassesAfter size passed rest mid new y z
    → Whatever mid (λ left. BeginsNoChild cluster_ids (up_to (size_left size passed) left)) → BeginsNoChild cluster_ids rest
rest_none None passed rest mid new y z after none = subst (BeginsNoChild cluster_ids) (sym after.0) (no_child_of_none cluster_ids)
rest_none (Some size) passed rest mid new y z after none =
    subst (BeginsNoChild cluster_ids)
    (ap (take (size - passed)) (left_is rest mid new y z after.passes []) ∙ passed_up_to (size - passed) rest new after.most after.all)
    (none (after.passes.read ++ []) (still rest mid new y z after.passes [] (λ _. refl)))

-- the content is passed, by the size
ends_by : (size : Option ℕ) (passed : ℕ) (content rest : List ℕ) (children : List (List ℕ)) (old mid new : Held) (x y z : ReadLog) → Passes content old mid x y → IsBounded mid
    → passed ≡ length content → IsWithinLeft passed size → content ≡ concat children → AllByRecursion (IsChild cluster_ids) children → PassesAfter size passed rest mid new y z
    → Whatever mid (λ left. BeginsNoChild cluster_ids (up_to (size_left size passed) left)) → EndsBy size (content ++ rest) old new x z
ends_by None passed content rest children old mid new x y z first few long within joined each after none =
    subst (λ l. PassesChildren l old new x z) (sym (ap (λ l. content ++ l) after.0 ∙ append-nil content))
    (subst (λ h. PassesChildren content old h x z) (sym after.1)
    (subst (λ w. PassesChildren content old mid x w) (sym after.2)
    record { passes = first; bounded = few; children = children; joined = joined; each = each; none = none }))
ends_by (Some size) passed content rest children old mid new x y z first few long within joined each after none =
    let most = after.most in
    let sum = length-append content rest in
    record {
      most = omega (arith, most, long, within, sum);
      passes = passes-trans content rest old mid new x y z first after.passes;
      bounded = after.bounded;
      all = elim after.all [ inl all ↦ inl (omega (arith, all, long, within, sum)) | inr end ↦ inr end ];
    }

group : (before v u more : List Part) (first : Part)
    → ((before ++ first ∷ []) ++ v) ++ (u ++ more) ≡ before ++ (first ∷ ((v ++ u) ++ ([] ++ more)))
group before v u more first = simp append_assoc

module _ (known : KnownTracks) (place : ℕ) (head : Head) (start : List ℕ) (is_cluster : head.id ≡ cluster_id) (begins : length start ≡ head.length)
    (passed n : ℕ) (crc0 crc1 crc2 : CrcSoFar) (r0 r1 r2 r3 : Reporter) (w1 w2 : Waiting) (old mid new : Held) (x y z : ReadLog)
    (begun : (tracks : ℕ) (before : List Part) → ReporterStands tracks before r0 → ReporterStands tracks (before ++ part.Begin (opening_of place tops.Cluster head) ∷ []) r1)
    (empty : w1.blocks.items ≡ []) (counted : w1.checked ≡ r1.progress.checked)
    (taken : ChildrenTaken known.tracks (place + head.length) head.size passed crc0 crc1 r1 r2 w1 w2 old mid x y) (few : IsBounded mid)
    (none : Whatever mid (λ left. BeginsNoChild cluster_ids (up_to (size_left head.size passed) left))) (runs : RunsOver [] crc0)
    (rest : List ℕ) (rest_long : n ≡ length rest) (after : PassesAfter head.size passed rest mid new y z) (over : GoesOver rest crc1 crc2) where
  abbrev content : List ℕ
  content = taken.content ++ rest

  total : passed + n ≡ length (taken.content ++ rest)
  total = let long = taken.long in omega (arith, long, rest_long, length-append taken.content rest)

  run : RunsOver (taken.content ++ rest) crc2
  run = over taken.content (taken.over [] runs)

  known_cluster : top_element_of head.id ≡ Some tops.Cluster
  known_cluster = ap top_element_of is_cluster

  master : (v : Bool) (own : List Part) → EachHasParts (IsMasterChild known.tracks false) (place + head.length) taken.children own
      → AreContentPartsBy (child_ids head.id) known.tracks v (place + head.length) (taken.content ++ rest)
      (vouched_if v own ++ unknown_parts (place + head.length + passed) rest)
  master v own each =
      let is : child_ids head.id ≡ Some cluster_ids = ap child_ids is_cluster in
      let at : passed ≡ length (concat taken.children) = taken.long ∙ ap length taken.joined in
      subst (λ o. AreContentPartsBy o known.tracks v (place + head.length) (taken.content ++ rest) (vouched_if v own ++ unknown_parts (place + head.length + passed) rest)) (sym is)
      record {
        children = taken.children;
        rest = rest;
        are_children = record {
          joined = ap (λ l. l ++ rest) taken.joined;
          each = taken.each;
          last = rest_none head.size passed rest mid new y z after none;
        };
        own = vouched_if v own;
        each = children_vouched known.tracks v (place + head.length) taken.children own each;
        joined = ap (λ k. vouched_if v own ++ unknown_parts (place + head.length + k) rest) at;
      }

  pub cluster_taken : ((start' content' bytes : List ℕ) (before own : List Part) → length start' ≡ head.length → passed + n ≡ length content' → n ≡ length bytes → RunsOver content' crc2
      → ReporterStands (length known.tracks) (before ++ own) r2 → WaitsFor (length known.tracks) before own w2
      → ClusterEnd known place head passed n start' content' bytes before own r3)
      → (all : List ℕ) × (passed + n ≡ length all) × EndsBy head.size all old new x z
      × ReportsParts (length known.tracks) (AreElementParts known.first known.tracks place head (start ++ all)) r0 r3
  cluster_taken ends = (
    taken.content ++ rest,
    total,
    ends_by head.size passed taken.content rest taken.children old mid new x y z taken.passes few taken.long taken.within taken.joined taken.each after none,
    λ before stands.
        let first : Part = part.Begin (opening_of place tops.Cluster head) in
        let s1 = begun (length known.tracks) before stands in
        let w : WaitsFor (length known.tracks) (before ++ part.Begin (opening_of place tops.Cluster head) ∷ []) [] w1 =
        record { below = tt; inner = tt; blocks = empty; checked = counted ∙ s1.stands.checked } in
        let rep = taken.reports (before ++ part.Begin (opening_of place tops.Cluster head) ∷ []) s1 w in
        let e = ends start (taken.content ++ rest) rest (before ++ part.Begin (opening_of place tops.Cluster head) ∷ []) rep.0 begins total rest_long run rep.2 rep.3 in
        let last : List Part = e.records ++ part.End (closing_with place tops.Cluster (head.length + (passed + n)) (passed + n) e.crc32) ∷ [] in
        let own : List Part = vouched_if (passes e.crc32) rep.0 ++ unknown_parts (place + head.length + passed) rest in (
          part.Begin (opening_of place tops.Cluster head)
              ∷ ((vouched_if (passes e.crc32) rep.0 ++ unknown_parts (place + head.length + passed) rest)
              ++ ([] ++ (e.records ++ part.End (closing_with place tops.Cluster (head.length + (passed + n)) (passed + n) e.crc32) ∷ []))),
          element_parts known.first known.tracks place head start (taken.content ++ rest) tops.Cluster e.crc32 (passed + n)
              (vouched_if (passes e.crc32) rep.0 ++ unknown_parts (place + head.length + passed) rest) [] e.records known_cluster begins total e.crc32_is
              (master (passes e.crc32) rep.0 rep.1) refl e.are_records,
          subst (λ l. ReporterStands (length known.tracks) l r3)
              (group before (vouched_if (passes e.crc32) rep.0) (unknown_parts (place + head.length + passed) rest)
              (e.records ++ part.End (closing_with place tops.Cluster (head.length + (passed + n)) (passed + n) e.crc32) ∷ []) (part.Begin (opening_of place tops.Cluster head)))
              e.stands,
        ),
  )

-- ---- as the code has them

pub end_below : (known : KnownTracks) (start : ℕ) (closing : Closing) (none span all : List Part) (place : ℕ) (bytes : List ℕ) → none ≡ [] → span ≡ none ++ unknown_parts place bytes
    → AddsEndParts known start closing span all → AllByRecursion (IsBelow (length known.tracks)) all
end_below known start closing none span all place bytes empty span_is ends =
    let Below : Part → Type 0 = IsBelow (length known.tracks) in
    let same : all ≡ unknown_parts place bytes ++ (ends.0 ++ part.End closing ∷ []) =
    ends.2 ∙ ap (λ l. l ++ (ends.0 ++ part.End closing ∷ [])) (span_is ∙ ap (λ l. l ++ unknown_parts place bytes) empty) in
    subst (AllByRecursion (IsBelow (length known.tracks))) (sym same)
    (all_append (IsBelow (length known.tracks)) (unknown_parts place bytes) (ends.0 ++ part.End closing ∷ []) (unknown_below place bytes)
    (all_append (IsBelow (length known.tracks)) ends.0 (part.End closing ∷ [])
    (records_if known.tracks (IsBelow (length known.tracks)) (λ s. tt) (λ t. tt) (λ b below. below) (λ r. tt) (λ p. tt) _ _ start ends.0 ends.1) (tt, tt)))
  where
    unknown_below : (from : ℕ) (xs : List ℕ) → AllByRecursion (IsBelow (length known.tracks)) (unknown_parts from xs)
    unknown_below from [] = tt
    unknown_below from (x ∷ xs) = (tt, tt)

module _ (known : KnownTracks) (place : ℕ) (head : Head) (children rest : ℕ) (crc : CrcSoFar) (waiting : Waiting) (reporter mid later : Reporter) (crc32 : Crc32)
    (crc_is : (bytes : List ℕ) → head.length ≤ length bytes → children + rest ≡ length bytes - head.length → RunsOver (drop head.length bytes) crc → IsCrc32Of head bytes crc32)
    (vouches : (tracks : ℕ) (before own : List Part) → ReporterStands tracks (before ++ own) reporter → WaitsFor tracks before own waiting
    → ReporterStands tracks (before ++ vouched_if (passes crc32) own) mid)
    (none span all parts : List Part) (empty : none ≡ []) (span_is : (bytes : List ℕ) → rest ≡ length bytes → span ≡ none ++ unknown_parts (place + head.length + children) bytes)
    (ends : AddsEndParts known (place + head.length) (closing_with place tops.Cluster (head.length + (children + rest)) (children + rest) crc32) span all) (parts_are : parts ≡ all) where
  pub cluster_ended : {T : Type 0} (result : Result T ReaderFault) → TakesParts parts result mid later → EndsCluster known place head children rest crc waiting result reporter later
  cluster_ended (Err fault) takes = takes
  cluster_ended (Ok x) takes = λ start content bytes before own begins total last runs stands waits_for.
      let sum = length-append start content in
      let inside : drop head.length (start ++ content) ≡ content = drop_at start content head.length begins in
      let same : parts ≡ unknown_parts (place + head.length + children) bytes
      ++ (ends.0 ++ part.End (closing_with place tops.Cluster (head.length + (children + rest)) (children + rest) crc32) ∷ []) =
      parts_are ∙ ends.2
      ∙ ap (λ l. l ++ (ends.0 ++ part.End (closing_with place tops.Cluster (head.length + (children + rest)) (children + rest) crc32) ∷ []))
      (span_is bytes last ∙ ap (λ l. l ++ unknown_parts (place + head.length + children) bytes) empty) in
      record {
        crc32 = crc32;
        crc32_is = crc_is (start ++ content) (omega (arith, begins, sum)) (omega (arith, begins, sum, total)) (subst (λ l. RunsOver l crc) (sym inside) runs);
        records = ends.0;
        are_records = ends.1;
        stands = subst (λ l. ReporterStands (length known.tracks) ((before ++ vouched_if (passes crc32) own) ++ l) later) same
            (takes (length known.tracks) (before ++ vouched_if (passes crc32) own) (vouches (length known.tracks) before own stands waits_for));
      }

pub after_passes : (size : Option ℕ) (children : ℕ) (rest : List ℕ) (mid new : Held) (y z : ReadLog) → PassesAfter size children rest mid new y z → Passes rest mid new y z
after_passes None children rest mid new y z after =
    subst (λ l. Passes l mid new y z) (sym after.0)
    (subst (λ h. Passes [] mid h y z) (sym after.1) (subst (λ w. Passes [] mid mid y w) (sym after.2) (passes-nil mid y)))
after_passes (Some size) children rest mid new y z after = after.passes

pub after_room : (size : Option ℕ) (children : ℕ) (rest : List ℕ) (mid new : Held) (y z : ReadLog) (m : ℕ) → PassesAfter size children rest mid new y z → IsPlacedAt m mid
    → IsBounded mid → m + length rest < 2 ^ 63
after_room None children rest mid new y z m after placed few =
    let none = ap length after.0 in let room = placed_room m mid placed few in omega (arith, none, room)
after_room (Some size) children rest mid new y z m after placed few =
    placed_room (m + length rest) new (placed_after m rest mid new y z after.passes placed) after.bounded

-- ---- items

pub element_taken : (known : KnownTracks) (place : ℕ) (head : Head) (start : List ℕ) (result : Result ℕ ReaderFault) (reporter later : Reporter) (old new : Held) (x y : ReadLog)
    → TakesCluster known place head start result reporter later old new x y → TakesItem known place (kind.Element head) start result reporter later old new x y
element_taken known place head start (Err fault) reporter later old new x y takes = takes
element_taken known place head start (Ok long) reporter later old new x y takes =
    (takes.0, takes.1, λ size is. subst (λ o. EndsBy o takes.0 old new x y) is takes.2, takes.3)

pub endless_taken : (known : KnownTracks) (place : ℕ) (k : Kind) (head : Head) (start : List ℕ) (result : Result ℕ ReaderFault) (reporter later : Reporter) (old new : Held) (x y : ReadLog)
    → k ≡ kind.Endless head → head.size ≡ None
    → TakesCluster known place head start result reporter later old new x y → TakesItem known place k start result reporter later old new x y
endless_taken known place k head start (Err fault) reporter later old new x y k_is none takes = takes
endless_taken known place k head start (Ok long) reporter later old new x y k_is none takes =
    subst (λ j. TakesItem known place j start (Ok long) reporter later old new x y) (sym k_is)
    (takes.0, takes.1, subst (λ o. EndsBy o takes.0 old new x y) none takes.2, takes.3)

pub segment_taken : (known : KnownTracks) (place : ℕ) (k : Kind) (head : Head) (start : List ℕ) (opening : Opening) (reporter later : Reporter) (held : Held) (x : ReadLog)
    → k ≡ kind.Segment head → opening ≡ opening_of place tops.Segment head
    → ((tracks : ℕ) (before : List Part) → ReporterStands tracks before reporter → ReporterStands tracks (before ++ part.Begin opening ∷ []) later)
    → TakesItem known place k start (Ok 0) reporter later held held x x
segment_taken known place k head start opening reporter later held x k_is opens takes =
    subst (λ j. TakesItem known place j start (Ok 0) reporter later held held x x) (sym k_is) (
      [],
      refl,
      (refl, refl, refl),
      λ before stands. (part.Begin opening ∷ [], ap (λ o. part.Begin o ∷ []) opens, takes (length known.tracks) before stands),
    )

pub unknown_taken : (known : KnownTracks) (place : ℕ) (k : Kind) (start : List ℕ) (size : ℕ) (reporter later : Reporter) (held : Held) (x : ReadLog)
    → k ≡ kind.Unknown → size ≡ length start
    → ((tracks : ℕ) (before : List Part) → ReporterStands tracks before reporter
    → ReporterStands tracks (before ++ part.Unknown record { place = place; size = size } ∷ []) later)
    → TakesItem known place k start (Ok 0) reporter later held held x x
unknown_taken known place k start size reporter later held x k_is long takes =
    subst (λ j. TakesItem known place j start (Ok 0) reporter later held held x x) (sym k_is) (
      [],
      refl,
      (refl, refl, refl),
      λ before stands. (
        part.Unknown record { place = place; size = size } ∷ [],
        ap (λ n. let s : Span = record { place = place; size = n } in part.Unknown s ∷ []) (long ∙ ap length (sym (append-nil start))),
        takes (length known.tracks) before stands,
      ),
    )
