-- Range-coded lines of several planes, a line further.
use Rattle.std.proofs.Common.{◌≡◌, ◌≢◌, ℕ, zero, suc, ◌+◌, ◌*◌, ◌<◌, ◌≤◌, eqb, List, [], ◌∷◌, ◌++◌, length, get_or, set, Ok, refl, sym, ap, ◌∙◌, subst, arith, append_assoc, append-nil, inl, inr, get_or-set_same, get_or-set_other, length-append}
use Rattle.std.specs.Prelude.{if◌then◌else◌}
use Rattle.std.proofs.Math.Path.{fun_ext}
use Rattle.std.proofs.lemmas.Bool.{cases_eq, eq-eqb, ne_eqb}
use Rattle.std.proofs.lemmas.List.{length-set}
use Rattle.std.proofs.lemmas.Grind.{flat_map-append}
use Rattle.std.proofs.Math.Nat.{add-mul}
use Rattle.ffv1_range.specs.Coding.{Mode, Coder}
use Rattle.ffv1_range.specs.Decoder.{reader_at}
use Rattle.ffv1_range.specs.Rows.{Rows, IsRowsRun}
use Rattle.ffv1_range.proofs.RowRuns.{rows_append}
use Rattle.ffv1_plane.specs.Samples.{coding_at}
use Rattle.ffv1_plane.specs.Lines.{Line, line_at, lines_of_plane, plane_after_plane, lines_of_row, row_after_row}
use Rattle.ffv1_plane.specs.RangeRows.{RangePlane, row_bits, state_row}
use Rattle.ffv1_plane.specs.RangeLines.{line_bits, lines_bits}
use Rattle.ffv1_plane.specs.Inner.Rows.{RowsRead}
use Rattle.ffv1_plane.specs.Inner.RangeRows.{at_place, range_plane, HasRowsOf, IsRangeRowRead}
use Rattle.ffv1_plane.specs.Inner.RangeLines.{PlanesCoding, no_rows, rows_at, AreSmall, plane_with, planes_with, count_in, IsGrown, LinesReader, AreLinesCoded, AreLinesRead, AreLinesCut}
use Rattle.ffv1_plane.specs.RangeSlices.{HasGroups}
use Rattle.ffv1_plane.specs.declared.range_rows.DifferenceFault.{DifferenceFault}

-- ---- lines that were counted

pub count_in-append : (p : ℕ) (xs ys : List Line) → count_in p (xs ++ ys) ≡ count_in p xs + count_in p ys
unfolding count_in
count_in-append p [] ys = let none : count_in p ys ≡ 0 + count_in p ys = omega arith in none
count_in-append p (line ∷ xs) ys =
    let rest = count_in-append p xs ys in let one : ℕ = if eqb line.plane p then 1 else 0 in omega (arith, rest)

-- ---- planes that have grown

pub grown_none : (rows : RowsRead) → IsGrown 0 rows rows
grown_none rows =
    record { depth = refl; width = refl; ended = λ h. h; small = λ h. h; samples = []; pushed = sym (append-nil rows.samples); longer = (let none : 0 ≡ 0 * rows.width = omega arith in none) }

pub grown_both : (m n : ℕ) (a b c : RowsRead) → IsGrown m a b → IsGrown n b c → IsGrown (m + n) a c
grown_both m n a b c h k =
    record {
      depth = k.depth ∙ h.depth;
      width = k.width ∙ h.width;
      ended = λ e. k.ended (h.ended e);
      small = λ l. k.small (h.small l);
      samples = h.samples ++ k.samples;
      pushed = k.pushed ∙ ap (λ l. l ++ k.samples) h.pushed ∙ append_assoc a.samples h.samples k.samples;
      longer =
          length-append h.samples k.samples ∙ ap (λ z. z + length k.samples) h.longer ∙ ap (λ z. m * a.width + z) (k.longer ∙ ap (λ w. n * w) h.width)
          ∙ sym (add-mul m n a.width);
    }

-- a plane with what it has grown by, and more
pub plane_same : (c : PlanesCoding) (p n : ℕ) (old new : RowsRead) (more : List ℕ) (h : IsGrown n old new)
    → plane_with c p old (h.samples ++ more) ≡ plane_with c p new more
plane_same c p n old new more h =
    let lists : old.samples ++ (h.samples ++ more) ≡ new.samples ++ more =
    sym (append_assoc old.samples h.samples more) ∙ ap (λ l. l ++ more) (sym h.pushed) in
    ap (λ l. range_plane old.width (coding_at old.depth (c.entry (c.group p))) (c.group p) c.is_signed l) lists
    ∙ ap (λ w. range_plane w (coding_at old.depth (c.entry (c.group p))) (c.group p) c.is_signed (new.samples ++ more)) (sym h.width)
    ∙ ap (λ d. range_plane new.width (coding_at d (c.entry (c.group p))) (c.group p) c.is_signed (new.samples ++ more)) (sym h.depth)

-- ---- lines after lines

lines_both : (mode : Mode) (planes : ℕ → RangePlane) (xs ys : List Line) (a b c : Coder) (before between after : ℕ → List (List ℕ))
    → AreLinesCoded mode planes xs a before b between → AreLinesCoded mode planes ys b between c after
    → AreLinesCoded mode planes (xs ++ ys) a before c after
lines_both mode planes xs ys a b c before between after h k rows has =
    let one = h rows has in
    let two = k one.next one.states in
    record {
      next = two.next;
      run =
          subst (λ bits. IsRowsRun mode (at_place a rows) bits (at_place c two.next)) (sym (flat_map-append (line_bits planes) xs ys))
          (rows_append mode (lines_bits planes xs) (lines_bits planes ys) (at_place a rows) (at_place b one.next) (at_place c two.next) one.run two.run);
      states = two.states;
    }

pub no_lines : (c : PlanesCoding) (planes : List RowsRead) (r : LinesReader) (start : Coder) → r.reader.at ≡ Ok start → AreLinesRead c [] planes r planes r
unfolding IsRowsRun count_in
no_lines c planes r start at =
    record {
      start = start;
      from = at;
      end = start;
      to = ap (reader_at r.reader) at;
      count = refl;
      grown = λ p. grown_none (rows_at planes p);
      same_states = λ group small. refl;
      coded = λ more rows has. record { next = rows; run = refl; states = has };
    }

pub lines_read_both : (c : PlanesCoding) (xs ys : List Line) (old mid new : List RowsRead) (r s t : LinesReader) → AreLinesRead c xs old r mid s
    → AreLinesRead c ys mid s new t → AreLinesRead c (xs ++ ys) old r new t
lines_read_both c xs ys old mid new r s t h k =
    let at : Ok k.start ≡ Ok h.end = sym k.from ∙ ap (λ z. z.at) h.to in
    let here : k.start ≡ h.end = cc in
    let mode : s.reader.mode ≡ r.reader.mode = ap (λ z. z.mode) h.to in
    record {
      start = h.start;
      from = h.from;
      end = k.end;
      to = k.to ∙ ap (λ z. reader_at z (Ok k.end)) h.to;
      count = k.count ∙ h.count;
      grown = λ p.
          subst (λ n. IsGrown n (rows_at old p) (rows_at new p)) (sym (count_in-append p xs ys))
          (grown_both (count_in p xs) (count_in p ys) (rows_at old p) (rows_at mid p) (rows_at new p) (h.grown p) (k.grown p));
      same_states = λ group small. k.same_states group small ∙ h.same_states group small;
      coded = λ more.
          let grown_more : ℕ → List ℕ = λ p. (k.grown p).samples ++ more p in
          let planes : planes_with c mid grown_more ≡ planes_with c new more =
          fun_ext (λ p. plane_same c p (count_in p ys) (rows_at mid p) (rows_at new p) (more p) (k.grown p)) in
          let first : AreLinesCoded r.reader.mode (planes_with c new more) xs h.start r.states h.end s.states =
          subst (λ z. AreLinesCoded r.reader.mode z xs h.start r.states h.end s.states) planes (h.coded grown_more) in
          let second : AreLinesCoded r.reader.mode (planes_with c new more) ys h.end s.states k.end t.states =
          subst (λ m. AreLinesCoded m (planes_with c new more) ys h.end s.states k.end t.states) mode
          (subst (λ a. AreLinesCoded s.reader.mode (planes_with c new more) ys a s.states k.end t.states) here (k.coded more)) in
          lines_both r.reader.mode (planes_with c new more) xs ys h.start h.end k.end r.states s.states t.states first second;
    }

-- ---- lines that are cut

pub cut_after : (c : PlanesCoding) (xs ys : List Line) (old mid : List RowsRead) (r s : LinesReader) (fault : DifferenceFault) (plane row x : ℕ)
    → AreLinesRead c xs old r mid s → AreLinesCut c ys mid s fault plane row x → AreLinesCut c (xs ++ ys) old r fault plane row x
cut_after c xs ys old mid r s fault plane row x h k =
    record {
      done = xs ++ k.done;
      later = k.later;
      order = ap (λ l. xs ++ l) k.order ∙ sym (append_assoc xs k.done (line_at plane row ∷ k.later));
      planes = k.planes;
      reader = k.reader;
      read = lines_read_both c xs k.done old mid k.planes r s k.reader h k.read;
      inside = k.inside;
      place = k.place;
      refused = k.refused;
    }

pub cut_before : (c : PlanesCoding) (xs ys : List Line) (old : List RowsRead) (r : LinesReader) (fault : DifferenceFault) (plane row x : ℕ)
    → AreLinesCut c xs old r fault plane row x → AreLinesCut c (xs ++ ys) old r fault plane row x
cut_before c xs ys old r fault plane row x k =
    record {
      done = k.done;
      later = k.later ++ ys;
      order = ap (λ l. l ++ ys) k.order ∙ append_assoc k.done (line_at plane row ∷ k.later) ys;
      planes = k.planes;
      reader = k.reader;
      read = k.read;
      inside = k.inside;
      place = k.place;
      refused = k.refused;
    }

-- ---- one line

pub count_here : (p row : ℕ) → count_in p (line_at p row ∷ []) ≡ 1
unfolding count_in
count_here p row = ap (λ b. (if b then 1 else 0) + 0) (eq-eqb p p refl)

pub count_other : (p q row : ℕ) → p ≢ q → count_in q (line_at p row ∷ []) ≡ 0
unfolding count_in
count_other p q row apart = ap (λ b. (if b then 1 else 0) + 0) (ne_eqb p q apart)

-- the states of the other groups are the same, and their rows
groups_after : (group : ℕ) (rows next : Rows) (before after : ℕ → List (List ℕ)) → HasGroups rows before → HasRowsOf group next (after group)
    → ((other k : ℕ) → other < 3 → other ≢ group → next (state_row other k) ≡ rows (state_row other k))
    → ((other : ℕ) → other < 3 → other ≢ group → after other ≡ before other) → HasGroups next after
groups_after group rows next before after has here others same other few k inside = elim (cases_eq other group) [
  | inl is ↦
      subst (λ g. next (state_row g k) ≡ get_or (after g) k []) (sym is) (here k (subst (λ g. k < length (after g)) is inside))
  | inr apart ↦
      others other k few apart ∙ has other few k (subst (λ l. k < length l) (same other few apart) inside) ∙ ap (λ l. get_or l k []) (sym (same other few apart))
]

-- One row of a plane was read, by the states of its group.
pub record IsRowOf (c : PlanesCoding) (p row : ℕ) (old : List RowsRead) (r : LinesReader) (rows : RowsRead) (s : LinesReader) : Type 0 where
  pub inside : p < length old
  pub small : c.group p < 3
  pub place : length (rows_at old p).samples ≡ row * (rows_at old p).width
  pub depth : rows.depth ≡ (rows_at old p).depth
  pub width : rows.width ≡ (rows_at old p).width
  pub ended : rows.x ≡ 0
  pub are_small : AreSmall rows
  pub others : (other : ℕ) → other < 3 → other ≢ c.group p → s.states other ≡ r.states other
  pub read :
      IsRangeRowRead (rows_at old p).width (coding_at (rows_at old p).depth (c.entry (c.group p))) (c.group p) c.is_signed (rows_at old p).samples
      (r.states (c.group p)) r.reader rows.samples (s.states (c.group p)) s.reader (rows_at old p).width

pub line_read : (c : PlanesCoding) (p row : ℕ) (old : List RowsRead) (r : LinesReader) (rows : RowsRead) (s : LinesReader) → IsRowOf c p row old r rows s
    → AreLinesRead c (line_at p row ∷ []) old r (set old p rows) s
line_read c p row old r rows s h =
    let now : RowsRead = rows_at old p in
    let here : rows_at (set old p rows) p ≡ rows = get_or-set_same old p rows no_rows h.inside in
    let longer : length h.read.row ≡ 1 * now.width =
    (let sum = sym (length-append now.samples h.read.row) ∙ ap length (sym h.read.pushed) in let count = h.read.count in omega (arith, sum, count)) in
    record {
      start = h.read.start;
      from = h.read.from;
      end = h.read.end;
      to = h.read.to;
      count = length-set old p rows;
      grown = λ q. elim (cases_eq q p) [
        | inl same ↦
            subst (λ k. IsGrown (count_in k (line_at p row ∷ [])) (rows_at old k) (rows_at (set old p rows) k)) (sym same)
            (subst (λ z. IsGrown (count_in p (line_at p row ∷ [])) now z) (sym here)
            (subst (λ n. IsGrown n now rows) (sym (count_here p row))
            (record { depth = h.depth; width = h.width; ended = λ e. h.ended; small = λ l. h.are_small; samples = h.read.row; pushed = h.read.pushed; longer = longer })))
        | inr apart ↦
            subst (λ n. IsGrown n (rows_at old q) (rows_at (set old p rows) q)) (sym (count_other p q row (λ e. apart (sym e))))
            (subst (λ z. IsGrown 0 (rows_at old q) z) (sym (get_or-set_other old p q rows no_rows apart)) (grown_none (rows_at old q)))
      ];
      same_states = λ group small. elim (cases_eq group (c.group p)) [
        | inl same ↦ subst (λ g. length (s.states g) ≡ length (r.states g)) (sym same) h.read.same_states
        | inr apart ↦ ap length (h.others group small apart)
      ];
      coded = λ more states has.
          let is : range_plane now.width (coding_at now.depth (c.entry (c.group p))) (c.group p) c.is_signed (rows.samples ++ more p)
          ≡ planes_with c (set old p rows) more p =
          ap (λ w. range_plane w (coding_at now.depth (c.entry (c.group p))) (c.group p) c.is_signed (rows.samples ++ more p)) (sym h.width)
          ∙ ap (λ d. range_plane rows.width (coding_at d (c.entry (c.group p))) (c.group p) c.is_signed (rows.samples ++ more p)) (sym h.depth)
          ∙ ap (λ z. plane_with c p z (more p)) (sym here) in
          let coded = h.read.coded (more p) row h.place states (has (c.group p) h.small) in
          let bits : row_bits (range_plane now.width (coding_at now.depth (c.entry (c.group p))) (c.group p) c.is_signed (rows.samples ++ more p)) row
          ≡ lines_bits (planes_with c (set old p rows) more) (line_at p row ∷ []) =
          ap (λ z. row_bits z row) is ∙ sym (append-nil (row_bits (planes_with c (set old p rows) more p) row)) in
          record {
            next = coded.next;
            run = subst (λ b. IsRowsRun r.reader.mode (at_place h.read.start states) b (at_place h.read.end coded.next)) bits coded.run;
            states = groups_after (c.group p) states coded.next r.states s.states has coded.states coded.others h.others;
          };
    }

-- ---- counts of coded orders

pub count_rows : (p n : ℕ) → count_in p (lines_of_plane p n) ≡ n
unfolding lines_of_plane count_in
count_rows p zero = refl
count_rows p (suc n) =
    let rest = count_rows p n in let one = count_here p n in
    count_in-append p (lines_of_plane p n) (line_at p n ∷ []) ∙ omega (arith, rest, one)

pub count_rows_other : (p q n : ℕ) → p ≢ q → count_in q (lines_of_plane p n) ≡ 0
unfolding lines_of_plane count_in
count_rows_other p q zero apart = refl
count_rows_other p q (suc n) apart =
    let rest = count_rows_other p q n apart in let one = count_other p q n apart in
    count_in-append q (lines_of_plane p n) (line_at p n ∷ []) ∙ omega (arith, rest, one)

pub count_planes : (height : ℕ → ℕ) (count q : ℕ) → count ≤ q → count_in q (plane_after_plane height count) ≡ 0
unfolding plane_after_plane count_in
count_planes height zero q h = refl
count_planes height (suc count) q h =
    let rest = count_planes height count q (omega (arith, h)) in
    let one = count_rows_other count q (height count) (λ e. omega (arith, h, e)) in
    count_in-append q (plane_after_plane height count) (lines_of_plane count (height count)) ∙ omega (arith, rest, one)

pub count_row : (row count q : ℕ) → count ≤ q → count_in q (lines_of_row row count) ≡ 0
unfolding lines_of_row count_in
count_row row zero q h = refl
count_row row (suc count) q h =
    let rest = count_row row count q (omega (arith, h)) in let one = count_other count q row (λ e. omega (arith, h, e)) in
    count_in-append q (lines_of_row row count) (line_at count row ∷ []) ∙ omega (arith, rest, one)

pub count_row_in : (row count q : ℕ) → q < count → count_in q (lines_of_row row count) ≡ 1
unfolding lines_of_row
count_row_in row zero q h = absurd (omega (arith, h))
count_row_in row (suc count) q h = count_in-append q (lines_of_row row count) (line_at count row ∷ []) ∙ elim (cases_eq q count) [
  | inl same ↦
      let before = count_row row count q (omega (arith, same)) in
      let one = subst (λ k. count_in q (line_at k row ∷ []) ≡ 1) same (count_here q row) in
      omega (arith, before, one)
  | inr apart ↦
      let before = count_row_in row count q (omega (arith, h, apart)) in let one = count_other count q row (λ e. apart (sym e)) in
      omega (arith, before, one)
]

pub count_all_rows : (count n q : ℕ) → q < count → count_in q (row_after_row count n) ≡ n
unfolding row_after_row count_in
count_all_rows count zero q h = refl
count_all_rows count (suc n) q h =
    let rest = count_all_rows count n q h in let one = count_row_in n count q h in
    count_in-append q (row_after_row count n) (lines_of_row n count) ∙ omega (arith, rest, one)

-- ---- a coded order begins with each shorter one

pub begins : (f g : ℕ → List Line) → ((n : ℕ) → f (suc n) ≡ f n ++ g n) → (n m : ℕ) → m ≤ n → (rest : List Line) × (f n ≡ f m ++ rest)
begins f g step zero m h = let none : m ≡ 0 = omega (arith, h) in ([], sym (append-nil (f 0)) ∙ ap (λ k. f k ++ []) (sym none))
begins f g step (suc n) m h = elim (cases_eq m (suc n)) [
  | inl same ↦ ([], ap f (sym same) ∙ sym (append-nil (f m)))
  | inr apart ↦
      let less : m ≤ n = omega (arith, h, apart) in
      let before = begins f g step n m less in
      (before.0 ++ g n, step n ∙ ap (λ l. l ++ g n) before.1 ∙ append_assoc (f m) before.0 (g n))
]

pub all_rows_begin : (count n m : ℕ) → m ≤ n → (rest : List Line) × (row_after_row count n ≡ row_after_row count m ++ rest)
unfolding row_after_row
all_rows_begin count n m h = begins (row_after_row count) (λ n. lines_of_row n count) (λ n. refl) n m h

-- ---- where a plane stands after some lines

pub grown_place : (n row : ℕ) (old new : RowsRead) → IsGrown n old new → length old.samples ≡ 0 → n ≡ row → length new.samples ≡ row * new.width
grown_place n row old new h empty is =
    let sum : length new.samples ≡ length old.samples + length h.samples = ap length h.pushed ∙ length-append old.samples h.samples in
    let longer : length h.samples ≡ row * new.width = h.longer ∙ ap (λ k. k * old.width) is ∙ ap (λ w. row * w) (sym h.width) in
    omega (arith, sum, longer, empty)
