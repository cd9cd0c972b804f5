-- A row of range-coded samples, a sample further.
use Rattle.std.proofs.Common.{◌≡◌, ◌≢◌, ℕ, ◌+◌, ◌*◌, ◌<◌, ◌≤◌, Bool, true, false, List, [], ◌∷◌, ◌++◌, length, get_or, set, Result, Ok, Err, refl, sym, ap, ◌∙◌, subst, arith, append_assoc, append-nil, ℤ, nat_abs, add-one, inl, inr, get_or-set_same, get_or-set_other}
use Rattle.std.specs.Prelude.{slice_index_or, slice_set, if◌then◌else◌}
use Rattle.std.proofs.lemmas.Bool.{cases_eq}
use Rattle.std.proofs.lemmas.List.{get_or_append_left, get_or-append-add, length-set, length_push, map-append}
use Rattle.ffv1_range.specs.Coding.{Mode, Coder, Place, IsRangeRun}
use Rattle.ffv1_range.specs.Decoder.{Reader, reader_at}
use Rattle.ffv1_range.specs.Forms.{◌>>=◌, giving, accepted, lifted, lifted_result, from_place, ReadsForm}
use Rattle.ffv1_range.specs.Rows.{Rows, with_row, IsRowsRun}
use Rattle.ffv1_range.specs.Reading.{signed_form_within}
use Rattle.ffv1_range.specs.Symbols.{signed_symbol_bits}
use Rattle.ffv1_range.specs.declared.coding.RangeFault.{RangeFault}
use Rattle.ffv1_range.proofs.Forms.{place_of}
use Rattle.ffv1_range.proofs.Spelling.{signed_symbol_is_spelled, bind_is_ok, same_ok}
use Rattle.ffv1_range.proofs.RowRuns.{rows_append, with_row-same, with_row-other, one_row_bits}
use Rattle.ffv1_rice.specs.States.{IsCodedDepth}
use Rattle.ffv1_plane.specs.Spelling.{columns_before}
use Rattle.ffv1_plane.specs.Samples.{Coding, coding_at, SamplesAbout, plane_of, prediction_of, neighbours_at, context_at, context_of, difference_of}
use Rattle.ffv1_plane.specs.RangeRows.{signed_prediction_of, is_difference, fault_of_difference, difference_form, RangePlane, range_difference_at, state_row, sample_bits, columns_bits}
use Rattle.ffv1_plane.specs.Inner.RangeRows.{at_place, range_plane, HasRowsOf, AreColumnsCoded, IsSameShape, IsRangeSampleRead, IsRangeSampleRefused, IsRangeRowRead}
use Rattle.ffv1_plane.specs.Inner.Rows.{RowsRead}
use Rattle.ffv1_plane.specs.declared.range_rows.DifferenceFault.{DifferenceFault}
use Rattle.ffv1_plane.specs.declared.range_rows.DifferenceFault.TheVariants as difference_faults
use Rattle.ffv1_plane.proofs.Causal.{neighbours_same}

-- ---- a difference that was read

accepted_gives : (test : Bool) (d z : ℤ) (mode : Mode) (p q : Place)
    → (accepted test difference_faults.TooLarge >>= λ fits. giving d) mode p ≡ Ok (z, q) → ◌≡◌ {A = ℤ × Place} (d, p) (z, q)
accepted_gives true d z mode p q h = same_ok (d, p) (z, q) h
accepted_gives false d z mode p q h = absurd cc

lifted_gives : {A : Type 0} (lift : RangeFault → DifferenceFault) (r : Result A RangeFault) (x : A) → lifted_result lift r ≡ Ok x → r ≡ Ok x
lifted_gives lift (Ok y) x h = cc
lifted_gives lift (Err e) x h = absurd cc

-- Where a difference is read, the bits of its symbol are coded.
difference_run : (mode : Mode) (n : ℕ) (p q : Place) (z : ℤ) → n ≤ 32 → difference_form n mode p ≡ Ok (z, q) → IsRangeRun mode p (signed_symbol_bits z) q
difference_run mode n p q z few h =
    let x =
    bind_is_ok (lifted fault_of_difference (signed_form_within n) mode p)
    (λ x. (accepted (is_difference n x.0) difference_faults.TooLarge >>= λ fits. giving x.0) mode x.1) (z, q) h in
    let pair = accepted_gives (is_difference n x.0.0) x.0.0 z mode x.0.1 q x.2 in
    let read : signed_form_within n mode p ≡ Ok (z, q) = lifted_gives fault_of_difference (signed_form_within n mode p) x.0 x.1 ∙ ap Ok pair in
    ((signed_symbol_is_spelled n few mode p q z).0 read).1

from_place_ok : {A E : Type 0} (lift : RangeFault → E) (at : Result Coder RangeFault) (f : Coder → Result A E) (y : A) → from_place lift at f ≡ Ok y
    → (c : Coder) × (at ≡ Ok c) × (f c ≡ Ok y)
from_place_ok lift (Ok c) f y h = (c, refl, h)
from_place_ok lift (Err e) f y h = absurd cc

-- ---- the next sample

neighbours_here : (width : ℕ) (old more : List ℕ) → 1 ≤ width → neighbours_at width (old ++ more) (length old) ≡ neighbours_at width old (length old)
neighbours_here width old more some = neighbours_same width (length old) some (old ++ more) old (λ j h. get_or_append_left old more 0 j h)

-- the samples with one more, and then more of them
one_more_and : (old more : List ℕ) (x : ℕ) → (old ++ x ∷ []) ++ more ≡ old ++ (x ∷ more)
one_more_and old more x = append_assoc old (x ∷ []) more

pub range_sample_read : (width : ℕ) (coding : Coding) (group : ℕ) (is_signed : Bool) (old : List ℕ) (states : List (List ℕ)) (r s : Reader)
    (near : SamplesAbout) (context d : ℤ) (p i x : ℕ) (row after : List ℕ) → 1 ≤ width → IsCodedDepth coding.depth
    → near ≡ neighbours_at width old (length old) → context ≡ context_of coding.entry near
    → p ≡ (if is_signed then signed_prediction_of near else prediction_of near) → difference_of coding.depth context p x ≡ d
    → i ≡ nat_abs context → i < length states → row ≡ slice_index_or states i []
    → ReadsForm fault_of_difference (difference_form coding.depth) r row (Ok d) s after
    → IsRangeSampleRead width coding group is_signed old states r (old ++ x ∷ []) (slice_set states i after) s
range_sample_read width coding group is_signed old states r s near context d p i x row after some deep near_is context_is p_is d_is i_is below row_is read =
    let few : coding.depth ≤ 32 = omega (arith, deep.most) in
    let there = from_place_ok fault_of_difference r.at (λ c. difference_form coding.depth r.mode (place_of c row)) (d, place_of read.0 after) read.1 in
    let same : (more : List ℕ) → neighbours_at width ((old ++ x ∷ []) ++ more) (length old) ≡ near =
    λ more. ap (λ l. neighbours_at width l (length old)) (one_more_and old more x) ∙ neighbours_here width old (x ∷ more) some ∙ sym near_is in
    let here : (more : List ℕ) → get_or (old ++ (x ∷ more)) (length old) 0 ≡ x =
    λ more. (let at : length old ≡ length old + 0 = omega arith in ap (λ n. get_or (old ++ (x ∷ more)) n 0) at ∙ get_or-append-add old (x ∷ more) 0 0) in
    let sample_is : (more : List ℕ) → get_or ((old ++ x ∷ []) ++ more) (length old) 0 ≡ x =
    λ more. ap (λ l. get_or l (length old) 0) (one_more_and old more x) ∙ here more in
    let context_same : (more : List ℕ) → context_at (plane_of width coding ((old ++ x ∷ []) ++ more)) (length old) ≡ context =
    λ more. ap (context_of coding.entry) (same more) ∙ sym context_is in
    record {
      sample = x;
      pushed = refl;
      context = i;
      is_context = λ more. ap nat_abs (context_same more) ∙ sym i_is;
      below = below;
      difference = d;
      is_difference = λ more.
          ap (λ n. difference_of coding.depth (context_of coding.entry n) (if is_signed then signed_prediction_of n else prediction_of n)
          (get_or ((old ++ x ∷ []) ++ more) (length old) 0)) (same more)
          ∙ ap (λ z. difference_of coding.depth (context_of coding.entry near) (if is_signed then signed_prediction_of near else prediction_of near) z) (sample_is more)
          ∙ ap (λ q. difference_of coding.depth (context_of coding.entry near) q x) (sym p_is)
          ∙ ap (λ c. difference_of coding.depth c p x) (sym context_is)
          ∙ d_is;
      start = there.0;
      from = there.1;
      end = place_of read.0 after;
      run =
          difference_run r.mode coding.depth (place_of there.0 (slice_index_or states i [])) (place_of read.0 after) d few
          (ap (λ w. difference_form coding.depth r.mode (place_of there.0 w)) (sym row_is) ∙ there.2);
      to = read.2;
      stepped = refl;
    }

-- ---- rows of states

rows_apart : (group other k j : ℕ) → group < 3 → other < 3 → other ≢ group → state_row other j ≢ state_row group k
rows_apart group other k j small few apart same = apart (omega (arith, same))

with_state_row : (group : ℕ) (rows : Rows) (states : List (List ℕ)) (context : ℕ) (row : List ℕ) → context < length states → HasRowsOf group rows states
    → HasRowsOf group (with_row rows (state_row group context) row) (set states context row)
with_state_row group rows states context row below has k inside = elim (cases_eq k context) [
  | inl same ↦
      ap (λ j. with_row rows (state_row group context) row (state_row group j)) same ∙ with_row-same rows (state_row group context) row
      ∙ sym (get_or-set_same states context row [] below) ∙ ap (λ j. slice_index_or (set states context row) j []) (sym same)
  | inr other ↦
      (let apart : state_row group k ≢ state_row group context = λ e. other (omega (arith, e)) in with_row-other rows (state_row group context) (state_row group k) row apart)
      ∙ has k (omega (arith, inside, length-set states context row)) ∙ sym (get_or-set_other states context k row [] other)
]

columns_one_more : (r : RangePlane) (y x : ℕ) → columns_bits r y (x + 1) ≡ columns_bits r y x ++ sample_bits r (y * r.plane.width + x) ∷ []
unfolding columns_before
columns_one_more r y x =
    ap (columns_bits r y) (add-one x) ∙ map-append (λ column. sample_bits r (y * r.plane.width + column)) (columns_before x) (x ∷ [])

sample_bits_are : (r : RangePlane) (s context : ℕ) (difference : ℤ) → nat_abs (context_at r.plane s) ≡ context → range_difference_at r s ≡ difference
    → sample_bits r s ≡ (state_row r.group context, signed_symbol_bits difference)
unfolding sample_bits
sample_bits_are r s context difference context_is difference_is =
    ap (λ k. (state_row r.group k, signed_symbol_bits (range_difference_at r s))) context_is
    ∙ ap (λ z. (state_row r.group context, signed_symbol_bits z)) difference_is

-- ---- the columns of a row

-- where more columns are coded by one sample
columns_step : (mode : Mode) (r : RangePlane) (y x context : ℕ) (difference : ℤ) (start end : Coder) (before states : List (List ℕ)) (last : Place)
    → r.group < 3 → context < length states → nat_abs (context_at r.plane (y * r.plane.width + x)) ≡ context
    → range_difference_at r (y * r.plane.width + x) ≡ difference
    → IsRangeRun mode (at_place end (slice_index_or states context [])) (signed_symbol_bits difference) last
    → AreColumnsCoded mode r y x start before end states → AreColumnsCoded mode r y (x + 1) start before last.coder (set states context last.states)
columns_step mode r y x context difference start end before states last small below context_is difference_is run so_far rows has =
    let a = so_far rows has in
    let row : ℕ = state_row r.group context in
    let one = one_row_bits mode end a.next row (slice_index_or states context []) (signed_symbol_bits difference) last (a.states context below) run in
    let bits : columns_bits r y x ++ (row, signed_symbol_bits difference) ∷ [] ≡ columns_bits r y (x + 1) =
    ap (λ b. columns_bits r y x ++ b ∷ []) (sym (sample_bits_are r (y * r.plane.width + x) context difference context_is difference_is))
    ∙ sym (columns_one_more r y x) in
    record {
      next = with_row a.next row last.states;
      run =
          subst (λ b. IsRowsRun mode (at_place start rows) b (at_place last.coder (with_row a.next row last.states))) bits
          (rows_append mode (columns_bits r y x) ((row, signed_symbol_bits difference) ∷ []) (at_place start rows) (at_place end a.next)
          (at_place last.coder (with_row a.next row last.states)) a.run one);
      states = with_state_row r.group a.next states context last.states below a.states;
      others = λ other k few apart.
          with_row-other a.next row (state_row other k) last.states (rows_apart r.group other context k small few apart) ∙ a.others other k few apart;
    }

pub no_columns : (width : ℕ) (coding : Coding) (group : ℕ) (is_signed : Bool) (samples : List ℕ) (states : List (List ℕ)) (r : Reader) (c : Coder) → r.at ≡ Ok c
    → IsRangeRowRead width coding group is_signed samples states r samples states r 0
unfolding IsRowsRun columns_before
no_columns width coding group is_signed samples states r c at =
    record {
      start = c;
      from = at;
      end = c;
      to = ap (reader_at r) at;
      row = [];
      pushed = sym (append-nil samples);
      count = (let none : length samples ≡ length samples + 0 = omega arith in none);
      same_states = refl;
      coded = λ more y place rows has. record { next = rows; run = refl; states = has; others = λ other k few apart. refl };
    }

-- where the decoder goes on, it stands where the samples before ended
same_start : (at : Result Coder RangeFault) (a b : Coder) → at ≡ Ok a → at ≡ Ok b → b ≡ a
same_start at a b h k = same_ok b a (sym k ∙ h)

pub one_more_column : (width : ℕ) (coding : Coding) (group : ℕ) (is_signed : Bool) (old samples new : List ℕ) (before states after : List (List ℕ)) (r s t : Reader) (x : ℕ)
    → group < 3 → IsRangeRowRead width coding group is_signed old before r samples states s x
    → IsRangeSampleRead width coding group is_signed samples states s new after t → IsRangeRowRead width coding group is_signed old before r new after t (x + 1)
one_more_column width coding group is_signed old samples new before states after r s t x small so_far read =
    let here : read.start ≡ so_far.end = same_start s.at so_far.end read.start (ap (λ z. z.at) so_far.to) read.from in
    let mode : s.mode ≡ r.mode = ap (λ z. z.mode) so_far.to in
    let run : IsRangeRun r.mode (at_place so_far.end (slice_index_or states read.context [])) (signed_symbol_bits read.difference) read.end =
    subst (λ m. IsRangeRun m (at_place so_far.end (slice_index_or states read.context [])) (signed_symbol_bits read.difference) read.end) mode
    (subst (λ c. IsRangeRun s.mode (at_place c (slice_index_or states read.context [])) (signed_symbol_bits read.difference) read.end) here read.run) in
    let longer : length new ≡ length samples + 1 = ap length read.pushed ∙ length_push samples read.sample in
    record {
      start = so_far.start;
      from = so_far.from;
      end = read.end.coder;
      to = read.to ∙ ap (λ z. reader_at z (Ok read.end.coder)) so_far.to;
      row = so_far.row ++ read.sample ∷ [];
      pushed = read.pushed ∙ ap (λ l. l ++ read.sample ∷ []) so_far.pushed ∙ append_assoc old so_far.row (read.sample ∷ []);
      count = (let before_count = so_far.count in omega (arith, longer, before_count));
      same_states = ap length read.stepped ∙ length-set states read.context read.end.states ∙ so_far.same_states;
      coded = λ more y place.
          let lists : samples ++ (read.sample ∷ more) ≡ new ++ more =
          sym (one_more_and samples more read.sample) ∙ ap (λ l. l ++ more) (sym read.pushed) in
          let s_is : y * width + x ≡ length samples = (let before_count = so_far.count in omega (arith, before_count, place)) in
          let plane = range_plane width coding group is_signed (new ++ more) in
          subst (AreColumnsCoded r.mode plane y (x + 1) so_far.start before read.end.coder) (sym read.stepped)
          (columns_step r.mode plane y x read.context read.difference so_far.start so_far.end before states read.end small read.below
          (ap (λ n. nat_abs (context_at plane.plane n)) s_is ∙ read.is_context more) (ap (range_difference_at plane) s_is ∙ read.is_difference more) run
          (subst (λ l. AreColumnsCoded r.mode (range_plane width coding group is_signed l) y x so_far.start before so_far.end states) lists
          (so_far.coded (read.sample ∷ more) y place)));
    }

-- ---- the same, where the width and the depth are known by equations

pub sample_read_as : (w v a b : ℕ) (entry : ℕ → ℕ → ℤ) (group : ℕ) (is_signed : Bool) (old new : List ℕ) (states after : List (List ℕ)) (r s : Reader) → v ≡ w
    → b ≡ a → IsRangeSampleRead v (coding_at b entry) group is_signed old states r new after s
    → IsRangeSampleRead w (coding_at a entry) group is_signed old states r new after s
sample_read_as w v a b entry group is_signed old new states after r s width depth read =
    subst (λ z. IsRangeSampleRead z (coding_at a entry) group is_signed old states r new after s) width
    (subst (λ z. IsRangeSampleRead v (coding_at z entry) group is_signed old states r new after s) depth read)

pub sample_refused_as : (w v a b : ℕ) (entry : ℕ → ℕ → ℤ) (samples : List ℕ) (states : List (List ℕ)) (r : Reader) (fault : DifferenceFault) → v ≡ w
    → b ≡ a → IsRangeSampleRefused v (coding_at b entry) samples states r fault → IsRangeSampleRefused w (coding_at a entry) samples states r fault
sample_refused_as w v a b entry samples states r fault width depth refused =
    subst (λ z. IsRangeSampleRefused z (coding_at a entry) samples states r fault) width
    (subst (λ z. IsRangeSampleRefused v (coding_at z entry) samples states r fault) depth refused)

pub same_shapes : (a b c : RowsRead) → IsSameShape a b → IsSameShape b c → IsSameShape a c
same_shapes a b c h k = record { depth = k.depth ∙ h.depth; width = k.width ∙ h.width }
