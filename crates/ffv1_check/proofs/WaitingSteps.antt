-- Blocks that are counted as checked once a Cluster's CRC-32 is known to pass.
use Rattle.std.proofs.Common.{◌≡◌, ℕ, zero, suc, ◌+◌, ◌^◌, ◌<◌, ◌≤◌, Bool, true, false, eqb, List, [], ◌∷◌, ◌++◌, length, take, drop, get_or, set, refl, sym, ap, ◌∙◌, subst, arith, get_or-set_same, get_or-set_other}
use Rattle.std.specs.Prelude.{map, count_by, sum_by, ◌&&◌}
use Rattle.std.specs.List.{AllByRecursion, fold, flat_map}
use Rattle.std.specs.Global.{Vec}
use Rattle.std.proofs.Math.ListN.{length-set}
use Rattle.ffv1_check.specs.declared.findings.Line.{Line}
use Rattle.std.proofs.lemmas.Bool.{eqb-true, eq-eqb}
use Rattle.std.proofs.lemmas.Grind.{flat_map-append}
use Rattle.std.proofs.lemmas.List.{length-append, length-map, take_more, take-append-drop, take_all, append_assoc, append-nil}
use Rattle.std.proofs.lemmas.List.Sums.{fold-append, sum_by-append, count_by-le-length}
use Rattle.std.proofs.Math.Bool.{and-false}
use Rattle.matroska_parts.specs.declared.parts.Part.{Part}
use Rattle.matroska_parts.specs.declared.parts.Part.TheVariants as part
use Rattle.matroska_parts.specs.declared.parts.Standing.{Standing}
use Rattle.matroska_parts.specs.declared.parts.Standing.TheVariants as standing
use Rattle.matroska_parts.specs.declared.parts.Payload.{Payload}
use Rattle.matroska_parts.specs.declared.parts.Payload.TheVariants as payload
use Rattle.matroska_parts.specs.Named.{IsNamedBelow, IsBelow}
use Rattle.ffv1_check.specs.declared.track_states.TrackState.{TrackState}
use Rattle.ffv1_check.specs.declared.report.Reporter.{Reporter}
use Rattle.ffv1_check.specs.declared.waiting.Waiting.{Waiting}
use Rattle.ffv1_check.specs.Before.{first_segment, timestamp_after, is_block_of, last_time}
use Rattle.ffv1_check.specs.CheckedBytes.{block_bytes, part_bytes, checked_bytes}
use Rattle.ffv1_check.specs.PartFindings.{lines_of_parts}
use Rattle.ffv1_check.specs.Reports.{is_checked, is_checked_in, is_checked_of}
use Rattle.ffv1_check.specs.Inner.Stands.{TopsStand, TrackStands, ReporterStands, no_state}
use Rattle.matroska_parts.specs.Inner.Vouched.{vouched_standing, vouched, IsUnvouched, IsInner}
use Rattle.ffv1_check.specs.Inner.Vouched.{waits_by, waits_in, waits, WaitsFor}
use Rattle.ffv1_check.specs.Inner.Counted.{checked_more, times_in, AreVouched}
use Rattle.ffv1_check.proofs.TrackSteps.{one_if, count_more}
use Rattle.ffv1_check.proofs.AlikeSteps.{all_begin, all_ebml, all_segment, all_crc, all_stamp, all_blocks, all_last, all_lines, front_stays}

-- ---- counts

count_from : {X : Type 0} (p : X → Bool) (xs : List X) (a : ℕ) → fold (λ n x. n + one_if (p x)) a xs ≡ a + count_by p xs
count_from p [] a = omega arith
count_from p (x ∷ xs) a =
    count_from p xs (a + one_if (p x)) ∙ omega (arith, count_from p xs (0 + one_if (p x)))

pub count_cons : {X : Type 0} (p : X → Bool) (x : X) (xs : List X) → count_by p (x ∷ xs) ≡ one_if (p x) + count_by p xs
count_cons p x xs = count_from p xs (0 + one_if (p x)) ∙ omega arith

pub count_append : {X : Type 0} (p : X → Bool) (xs ys : List X) → count_by p (xs ++ ys) ≡ count_by p xs + count_by p ys
count_append p xs ys = fold-append (λ n x. n + one_if (p x)) 0 xs ys ∙ count_from p ys (count_by p xs)

-- ---- the loop

pub record VouchedTo (blocks : List ℕ) (k : ℕ) (old now : List TrackState) : Type 0 where
  pub as_many : length now ≡ length old
  pub each : (index : ℕ) → index < length old → get_or now index no_state ≡ checked_more (get_or old index no_state) (times_in index (take k blocks))

more_none : (state : TrackState) → state ≡ checked_more state 0
more_none state = ap (λ n. let s : TrackState = record { blocks = state.blocks; checked = n; last = state.last } in s) (omega arith)

more_twice : (state : TrackState) (m n k : ℕ) → m + n ≡ k → checked_more (checked_more state m) n ≡ checked_more state k
more_twice state m n k sum = ap (λ c. let s : TrackState = record { blocks = state.blocks; checked = c; last = state.last } in s) (omega (arith, sum))

pub none_vouched : (blocks : List ℕ) (tracks : List TrackState) → VouchedTo blocks 0 tracks tracks
none_vouched blocks tracks = record { as_many = refl; each = λ index within. more_none (get_or tracks index no_state) }

pub block_below : (blocks : List ℕ) (bound k : ℕ) → AllByRecursion (λ index. index < bound) blocks → k < length blocks → get_or blocks k 0 < bound
block_below [] bound k all within = absurd (omega (arith, within))
block_below (b ∷ bs) bound zero all within = all.0
block_below (b ∷ bs) bound (suc k) all within = block_below bs bound k all.1 (omega (arith, within))

count_next : (index : ℕ) (blocks : List ℕ) (k : ℕ) → k < length blocks
    → times_in index (take (k + 1) blocks) ≡ times_in index (take k blocks) + one_if (eqb (get_or blocks k 0) index)
count_next index blocks k within =
    ap (times_in index) (take_more blocks k 0 within) ∙ count_more (λ block. eqb block index) (take k blocks) (get_or blocks k 0)

count_front : (index : ℕ) (blocks : List ℕ) (k : ℕ) → times_in index (take k blocks) ≤ times_in index blocks
count_front index blocks k =
    let all = ap (times_in index) (take-append-drop k blocks) in
    omega (arith, all, count_append (λ block. eqb block index) (take k blocks) (drop k blocks))

module _ (blocks : List ℕ) (k : ℕ) (old now : List TrackState) (so_far : VouchedTo blocks k old now) (within : k < length blocks)
    (below : get_or blocks k 0 < length old) where
  pub block_room : ((index : ℕ) → index < length old → (get_or old index no_state).checked + times_in index blocks < 2 ^ 64)
      → (get_or now (get_or blocks k 0) no_state).checked + 1 < 2 ^ 64
  block_room room =
      let b : ℕ = get_or blocks k 0 in
      let is : (get_or now (get_or blocks k 0) no_state).checked ≡ (get_or old (get_or blocks k 0) no_state).checked + times_in (get_or blocks k 0) (take k blocks) =
      ap (λ (s : TrackState). s.checked) (so_far.each (get_or blocks k 0) below) in
      let one : one_if (eqb (get_or blocks k 0) (get_or blocks k 0)) ≡ 1 = ap one_if (eq-eqb (get_or blocks k 0) (get_or blocks k 0) refl) in
      omega (arith, is, one, count_next b blocks k within, count_front b blocks (k + 1), room b below)

  pub block_vouched : (new : TrackState) → new ≡ checked_more (get_or now (get_or blocks k 0) no_state) 1 → VouchedTo blocks (k + 1) old (set now (get_or blocks k 0) new)
  block_vouched new new_is = record {
    as_many = length-set now (get_or blocks k 0) new ∙ so_far.as_many;
    each = λ index inside. go index inside (eqb (get_or blocks k 0) index) refl;
  }
    where
      there : get_or blocks k 0 < length now
      there = let many = so_far.as_many in omega (arith, below, many)

      go : (index : ℕ) → index < length old → (b : Bool) → eqb (get_or blocks k 0) index ≡ b
          → get_or (set now (get_or blocks k 0) new) index no_state ≡ checked_more (get_or old index no_state) (times_in index (take (k + 1) blocks))
      go index inside true e =
          let same : get_or blocks k 0 ≡ index = eqb-true (get_or blocks k 0) index e in
          let sum : times_in index (take k blocks) + 1 ≡ times_in index (take (k + 1) blocks) = sym (count_next index blocks k within ∙ ap (λ b. times_in index (take k blocks) + one_if b) e) in
          ap (λ n. get_or (set now n new) index no_state) same
          ∙ get_or-set_same now index new no_state (subst (λ n. n < length now) same there)
          ∙ new_is ∙ ap (λ n. checked_more (get_or now n no_state) 1) same ∙ ap (λ s. checked_more s 1) (so_far.each index inside)
          ∙ more_twice (get_or old index no_state) (times_in index (take k blocks)) 1 (times_in index (take (k + 1) blocks)) sum
      go index inside false e =
          let apart : index ≡ get_or blocks k 0 → ⊥ =
          λ same. let is : eqb (get_or blocks k 0) index ≡ true = eq-eqb (get_or blocks k 0) index (sym same) in let both : true ≡ false = sym is ∙ e in cc in
          get_or-set_other now (get_or blocks k 0) index new no_state apart ∙ so_far.each index inside
          ∙ ap (checked_more (get_or old index no_state)) (sym (count_next index blocks k within ∙ ap (λ b. times_in index (take k blocks) + one_if b) e ∙ omega arith))

pub all_vouched : (blocks : List ℕ) (k : ℕ) (old now : List TrackState) → VouchedTo blocks k old now → length blocks ≤ k → AreVouched blocks old now
all_vouched blocks k old now so_far end = record {
  as_many = so_far.as_many;
  each = λ index inside. so_far.each index inside ∙ ap (λ l. checked_more (get_or old index no_state) (times_in index l)) (take_all k blocks end);
}

-- ---- the counts of vouched parts

one_block : (index at : ℕ) → times_in index (at ∷ []) ≡ one_if (eqb at index)
one_block index at = count_cons (λ block. eqb block index) at [] ∙ omega arith

payload_counted : (index at : ℕ) (v : Bool) (p : Payload) → v ≡ false
    → one_if (eqb at index && is_checked true p) ≡ one_if (eqb at index && is_checked v p) + times_in index (waits_by at p)
payload_counted index at v payload.Laced is = omega arith
payload_counted index at v payload.Long is = omega arith
payload_counted index at v (payload.Frame verdict) is = omega arith
payload_counted index at v (payload.Flac right) is = omega arith
payload_counted index at v payload.Other is =
    let none : one_if (eqb at index && v) ≡ 0 = ap (λ b. one_if (eqb at index && b)) is ∙ ap one_if (and-false (eqb at index)) in
    let all : one_if (eqb at index && true) ≡ one_if (eqb at index) = and_true (eqb at index) in
    omega (arith, none, all, one_block index at)
  where
    and_true : (b : Bool) → one_if (b && true) ≡ one_if b
    and_true true = refl
    and_true false = refl

standing_counted : (index : ℕ) (s : Standing) → IsUnvouched s
    → one_if (is_checked_in index (vouched_standing s)) ≡ one_if (is_checked_in index s) + times_in index (waits_in s)
standing_counted index standing.Short is = omega arith
standing_counted index (standing.Unnamed track) is = omega arith
standing_counted index (standing.Named block) is = payload_counted index block.index block.is_vouched block.payload is

part_counted : (index : ℕ) (p : Part) → IsInner p → one_if (is_checked_of index (vouched p)) ≡ one_if (is_checked_of index p) + times_in index (waits p)
part_counted index (part.Unknown span) is = omega arith
part_counted index (part.Begin opening) is = absurd is
part_counted index (part.Timestamp timestamp) is = omega arith
part_counted index (part.Block block) is = standing_counted index block.standing is
part_counted index (part.Record r) is = absurd is
part_counted index (part.NoMatroska place) is = absurd is
part_counted index (part.End closing) is = absurd is

own_counted : (index : ℕ) (own : List Part) → AllByRecursion IsInner own
    → count_by (is_checked_of index) (map vouched own) ≡ count_by (is_checked_of index) own + times_in index (flat_map waits own)
own_counted index [] all = omega arith
own_counted index (p ∷ ps) all =
    omega (
      arith,
      count_cons (is_checked_of index) (vouched p) (map vouched ps),
      count_cons (is_checked_of index) p ps,
      part_counted index p all.0,
      own_counted index ps all.1,
      count_append (λ block. eqb block index) (waits p) (flat_map waits ps),
    )

pub all_counted : (index : ℕ) (before own : List Part) → AllByRecursion IsInner own
    → count_by (is_checked_of index) (before ++ map vouched own) ≡ count_by (is_checked_of index) (before ++ own) + times_in index (flat_map waits own)
all_counted index before own all =
    omega (arith, count_append (is_checked_of index) before (map vouched own), count_append (is_checked_of index) before own, own_counted index own all)

no_standing_bytes : (s : Standing) → IsUnvouched s → block_bytes (vouched_standing s) ≡ 0
no_standing_bytes standing.Short is = refl
no_standing_bytes (standing.Unnamed track) is = refl
no_standing_bytes (standing.Named block) is = refl

no_part_bytes : (p : Part) → IsInner p → part_bytes (vouched p) ≡ 0
no_part_bytes (part.Unknown span) is = refl
no_part_bytes (part.Begin opening) is = absurd is
no_part_bytes (part.Timestamp timestamp) is = refl
no_part_bytes (part.Block block) is = no_standing_bytes block.standing is
no_part_bytes (part.Record r) is = absurd is
no_part_bytes (part.NoMatroska place) is = absurd is
no_part_bytes (part.End closing) is = absurd is

no_own_bytes : (own : List Part) → AllByRecursion IsInner own → checked_bytes (map vouched own) ≡ 0
no_own_bytes [] all = refl
no_own_bytes (p ∷ ps) all =
    let first : part_bytes (vouched p) ≡ 0 = no_part_bytes p all.0 in
    omega (arith, first, no_own_bytes ps all.1, sum_by-append part_bytes (vouched p ∷ []) (map vouched ps), one_bytes (vouched p))
  where
    one_bytes : (q : Part) → sum_by part_bytes (q ∷ []) ≡ part_bytes q
    one_bytes q = omega arith

-- ---- where the blocks of tracks are

waits_below : (n : ℕ) (own : List Part) → AllByRecursion (IsBelow n) own → AllByRecursion (λ index. index < n) (flat_map waits own)
waits_below n [] all = tt
waits_below n (p ∷ ps) all = both (waits p) (flat_map waits ps) (of_part p all.0) (waits_below n ps all.1)
  where
    both : (xs ys : List ℕ) → AllByRecursion (λ index. index < n) xs → AllByRecursion (λ index. index < n) ys → AllByRecursion (λ index. index < n) (xs ++ ys)
    both [] ys a b = b
    both (x ∷ xs) ys a b = (a.0, both xs ys a.1 b)

    by_payload : (at : ℕ) (q : Payload) → at < n → AllByRecursion (λ index. index < n) (waits_by at q)
    by_payload at payload.Laced within = tt
    by_payload at payload.Long within = tt
    by_payload at (payload.Frame verdict) within = tt
    by_payload at (payload.Flac right) within = tt
    by_payload at payload.Other within = (within, tt)

    by_standing : (s : Standing) → IsNamedBelow n s → AllByRecursion (λ index. index < n) (waits_in s)
    by_standing standing.Short is = tt
    by_standing (standing.Unnamed track) is = tt
    by_standing (standing.Named block) is = by_payload block.index block.payload is

    of_part : (q : Part) → IsBelow n q → AllByRecursion (λ index. index < n) (waits q)
    of_part (part.Unknown span) is = tt
    of_part (part.Begin opening) is = tt
    of_part (part.Timestamp timestamp) is = tt
    of_part (part.Block block) is = by_standing block.standing is
    of_part (part.Record r) is = tt
    of_part (part.NoMatroska place) is = tt
    of_part (part.End closing) is = tt

-- ---- the reporter

module _ (n : ℕ) (before own : List Part) (old : Reporter) (waiting : Waiting) (stands : ReporterStands n (before ++ own) old) (waits_for : WaitsFor n before own waiting) where
  pub blocks_below : AllByRecursion (λ index. index < length old.progress.tracks.items) waiting.blocks.items
  blocks_below =
      subst (AllByRecursion (λ index. index < length old.progress.tracks.items)) (sym waits_for.blocks)
      (subst (λ m. AllByRecursion (λ index. index < m) (flat_map waits own)) (sym stands.many) (waits_below n own waits_for.below))

  pub blocks_room : old.taken < 2 ^ 64 → (index : ℕ) → index < length old.progress.tracks.items
      → (get_or old.progress.tracks.items index no_state).checked + times_in index waiting.blocks.items < 2 ^ 64
  blocks_room small index within =
      let stand = stands.stands.tracks index within in
      let same = ap (times_in index) waits_for.blocks in
      let long = count_by-le-length (is_checked_of index) (before ++ map vouched own) in
      omega (
        arith,
        small,
        stands.taken',
        stand.checked,
        same,
        all_counted index before own waits_for.inner,
        long,
        length-append before (map vouched own),
        length-append before own,
        length-map own vouched,
      )

  long_same : length (before ++ map vouched own) ≡ length (before ++ own)
  long_same = omega (arith, length-append before (map vouched own), length-append before own, length-map own vouched)

  bytes_same : checked_bytes (before ++ map vouched own) ≡ checked_bytes before
  bytes_same = omega (arith, sum_by-append part_bytes before (map vouched own), no_own_bytes own waits_for.inner)

  pub vouched_stands : (new : Reporter) → AreVouched waiting.blocks.items old.progress.tracks.items new.progress.tracks.items → new.progress.tops ≡ old.progress.tops
      → new.progress.checked ≡ waiting.checked → new.lines ≡ old.lines → new.taken ≡ old.taken → ReporterStands n (before ++ map vouched own) new
  vouched_stands new are tops_same checked_is lines_same taken_same =
      let old_tops = stands.stands.tops in
      let few = stands.few in
      let checked = stands.stands.checked in
      record {
        stands = record {
          tops = subst (TopsStand (before ++ map vouched own)) (sym tops_same) record {
            begun = old_tops.begun ∙ sym (front_stays _ all_begin before own);
            ebml = old_tops.ebml ∙ sym (front_stays _ all_ebml before own);
            segment = old_tops.segment ∙ sym (front_stays first_segment all_segment before own);
            timestamp = old_tops.timestamp ∙ sym (front_stays timestamp_after all_stamp before own);
            with_crc32 = λ element. old_tops.with_crc32 element ∙ sym (front_stays _ (all_crc element) before own);
          };
          tracks = λ index within.
              let inside : index < length old.progress.tracks.items = omega (arith, within, are.as_many) in
              let stand = stands.stands.tracks index inside in
              subst (TrackStands (before ++ map vouched own) index) (sym (are.each index inside)) record {
                blocks = stand.blocks ∙ sym (front_stays (count_by (is_block_of index)) (all_blocks index) before own);
                checked = omega (arith, stand.checked, ap (times_in index) waits_for.blocks, all_counted index before own waits_for.inner);
                last = stand.last ∙ sym (front_stays (last_time index) (all_last index) before own);
              };
          checked = checked_is ∙ waits_for.checked ∙ sym bytes_same;
        };
        many = are.as_many ∙ stands.many;
        few = omega (arith, checked_is, waits_for.checked, few, checked, long_same, sum_by-append part_bytes before own);
        lines = ap (λ (l : Vec Line). l.items) lines_same ∙ stands.lines ∙ sym (front_stays lines_of_parts all_lines before own);
        taken' = taken_same ∙ stands.taken' ∙ sym long_same;
      }

-- ---- what waits, part by part

abbrev pub any_part : Part
any_part = part.Unknown record { place = 0; size = 0 }

pub waits_more : (parts : List Part) (k : ℕ) (old now new : List ℕ) → k < length parts → now ≡ old ++ flat_map waits (take k parts)
    → new ≡ now ++ waits (get_or parts k any_part) → new ≡ old ++ flat_map waits (take (k + 1) parts)
waits_more parts k old now new within so_far grown =
    grown ∙ ap (λ l. l ++ waits (get_or parts k any_part)) so_far ∙ append_assoc old (flat_map waits (take k parts)) (waits (get_or parts k any_part))
    ∙ ap (λ l. old ++ (flat_map waits (take k parts) ++ l)) (sym (append-nil (waits (get_or parts k any_part))))
    ∙ ap (λ l. old ++ l) (sym (flat_map-append waits (take k parts) (get_or parts k any_part ∷ [])))
    ∙ ap (λ l. old ++ flat_map waits l) (sym (take_more parts k any_part within))
