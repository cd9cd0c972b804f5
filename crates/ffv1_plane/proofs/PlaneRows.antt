-- A row of a plane of a slice, by the group of its plane.
use Rattle.std.proofs.Common.{◌++◌, ◌^◌, ◌≡◌, ◌≢◌, ℕ, zero, suc, ◌*◌, ◌<◌, List, [], ◌∷◌, length, get_or, set, refl, sym, ap, ◌∙◌, subst, arith, append_assoc}
use Rattle.std.specs.Prelude.{IsOk}
use Rattle.std.proofs.lemmas.List.{get_or_read}
use Rattle.ffv1_plane.specs.Samples.{coding_at}
use Rattle.ffv1_range.proofs.Forms.{IsAtPlace, is_at_place}
use Rattle.ffv1_plane.specs.Lines.{Line, line_at}
use Rattle.ffv1_plane.specs.Inner.Rows.{RowsRead}
use Rattle.ffv1_plane.specs.Inner.RangeRows.{IsSameShape, IsRangeRowRead, IsRangeRowRefused, IsRowFaultOf}
use Rattle.ffv1_plane.specs.Inner.RangeLines.{PlanesCoding, LinesReader, no_rows, rows_at, AreLinesRead, AreLinesCut}
use Rattle.ffv1_plane.specs.Inner.Planes.{coding_of_planes, lines_reader, HaveStates, HaveRead, lines_fault, IsLinesFaultOf, HasReadLine, IsLineFaultOf}
use Rattle.ffv1_plane.specs.Inner.InTurn.{AreReadInTurn, none, more, AreCutInTurn}
use Rattle.ffv1_plane.specs.RangeReading.{group_states}
use Rattle.ffv1_plane.specs.declared.planes.RangeLines.{RangeLines}
use Rattle.ffv1_plane.specs.declared.planes.SlicePlanes.{SlicePlanes}
use Rattle.ffv1_plane.specs.declared.planes.LinesFault.{LinesFault}
use Rattle.ffv1_plane.specs.declared.planes.LinesFault.TheVariants as lines_faults
use Rattle.ffv1_plane.specs.declared.range_rows.RowFault.{RowFault}
use Rattle.ffv1_plane.specs.declared.range_rows.RowFault.TheVariants as row_faults
use Rattle.ffv1_plane.proofs.LineRuns.{no_lines, line_read, lines_read_both, cut_after, cut_before}

-- ---- the states of a group alone change

pub luma_alone : (r s : RangeLines) → s.chroma ≡ r.chroma → s.alpha ≡ r.alpha → (other : ℕ) → other < 3 → other ≢ 0 → group_states s other ≡ group_states r other
luma_alone r s chroma alpha zero few apart = absurd (apart refl)
luma_alone r s chroma alpha (suc zero) few apart = ap (λ v. v.items) chroma
luma_alone r s chroma alpha (suc (suc other)) few apart = ap (λ v. v.items) alpha

pub chroma_alone : (r s : RangeLines) → s.luma ≡ r.luma → s.alpha ≡ r.alpha → (other : ℕ) → other < 3 → other ≢ 1 → group_states s other ≡ group_states r other
chroma_alone r s luma alpha zero few apart = ap (λ v. v.items) luma
chroma_alone r s luma alpha (suc zero) few apart = absurd (apart refl)
chroma_alone r s luma alpha (suc (suc other)) few apart = ap (λ v. v.items) alpha

pub alpha_alone : (r s : RangeLines) → s.luma ≡ r.luma → s.chroma ≡ r.chroma → (other : ℕ) → other < 3 → other ≢ 2 → group_states s other ≡ group_states r other
alpha_alone r s luma chroma zero few apart = ap (λ v. v.items) luma
alpha_alone r s luma chroma (suc zero) few apart = ap (λ v. v.items) chroma
alpha_alone r s luma chroma (suc (suc zero)) few apart = absurd (apart refl)
alpha_alone r s luma chroma (suc (suc (suc other))) few apart = absurd (omega arith)

-- ---- a row in its group

pub record IsInGroup (c : PlanesCoding) (p row group : ℕ) (old : List RowsRead) (now : RowsRead) : Type 0 where
  pub is_group : c.group p ≡ group
  pub small : group < 3
  pub inside : p < length old
  pub is_now : now ≡ rows_at old p
  pub place : length (rows_at old p).samples ≡ row * (rows_at old p).width

-- .. as the row is found by its index
pub in_group : (c : PlanesCoding) (p row group : ℕ) (old : List RowsRead) (now : RowsRead) → group ≡ c.group p → group < 3 → p < length old → now ≡ get_or old p now
    → length (rows_at old p).samples ≡ row * (rows_at old p).width → IsInGroup c p row group old now
in_group c p row group old now is_group small inside there place =
    record { is_group = sym is_group; small = small; inside = inside; is_now = get_or_read old p now inside there no_rows; place = place }

pub line_of_group : (c : PlanesCoding) (p row group : ℕ) (old : List RowsRead) (r s : LinesReader) (now rows : RowsRead) → IsInGroup c p row group old now
    → IsSameShape now rows → rows.x ≡ 0 → ((s : ℕ) → get_or rows.samples s 0 < 2 ^ now.depth) → ((other : ℕ) → other < 3 → other ≢ group → s.states other ≡ r.states other)
    → IsRangeRowRead now.width (coding_at now.depth (c.entry group)) group c.is_signed now.samples (r.states group) r.reader rows.samples (s.states group) s.reader now.width
    → AreLinesRead c (line_at p row ∷ []) old r (set old p rows) s
line_of_group c p row group old r s now rows h shape ended small others read =
    line_read c p row old r rows s (record {
      inside = h.inside;
      small = subst (λ g. g < 3) (sym h.is_group) h.small;
      place = h.place;
      depth = shape.depth ∙ ap (λ z. z.depth) h.is_now;
      width = shape.width ∙ ap (λ z. z.width) h.is_now;
      ended = ended;
      are_small = λ s. subst (λ d. get_or rows.samples s 0 < 2 ^ d) (sym shape.depth) (small s);
      others = λ other few apart. others other few (λ e. apart (e ∙ sym h.is_group));
      read =
          subst (λ g. IsRangeRowRead (rows_at old p).width (coding_at (rows_at old p).depth (c.entry g)) g c.is_signed (rows_at old p).samples (r.states g) r.reader
          rows.samples (s.states g) s.reader (rows_at old p).width) (sym h.is_group)
          (subst (λ (z : RowsRead). IsRangeRowRead z.width (coding_at z.depth (c.entry group)) group c.is_signed z.samples (r.states group) r.reader rows.samples
          (s.states group) s.reader z.width) h.is_now read);
    })

pub cut_of_group : (c : PlanesCoding) (p row group : ℕ) (old : List RowsRead) (r : LinesReader) (now : RowsRead) (fault : RowFault)
    → IsInGroup c p row group old now → IsAtPlace r.reader
    → IsRowFaultOf now.width (coding_at now.depth (c.entry group)) c.is_signed now.samples (r.states group) r.reader fault
    → IsLinesFaultOf c (line_at p row ∷ []) old r (lines_fault fault p row)
cut_of_group c p row group old r now (row_faults.Sample fault x) h at refused =
    record {
      done = [];
      later = [];
      order = refl;
      planes = old;
      reader = r;
      read = no_lines c old r at.0 at.1;
      inside = h.inside;
      place = h.place;
      refused =
          subst (λ g. IsRangeRowRefused (rows_at old p).width (coding_at (rows_at old p).depth (c.entry g)) g c.is_signed (rows_at old p).samples (r.states g) r.reader fault
          x) (sym h.is_group)
          (subst (λ (z : RowsRead). IsRangeRowRefused z.width (coding_at z.depth (c.entry group)) group c.is_signed z.samples (r.states group) r.reader fault x) h.is_now
          (refused group h.small));
    }
cut_of_group c p row group old r now row_faults.Memory h at refused = tt

-- ---- lines after lines

pub none_read : (planes : SlicePlanes) (reader : RangeLines) → IsOk reader.decoder.at → HaveStates planes reader → HaveRead planes reader [] planes reader
none_read planes reader alive states =
    let at = is_at_place reader.decoder alive in
    record { same = refl; states = states; read = no_lines (coding_of_planes planes) planes.lines.items (lines_reader reader) at.0 at.1 }

-- lines that were read after others
pub read_more : (old mid new : SlicePlanes) (reader between after : RangeLines) (xs ys : List Line) → HaveRead old reader xs mid between
    → HaveRead mid between ys new after → HaveRead old reader (xs ++ ys) new after
read_more old mid new reader between after xs ys h k =
    record {
      same = k.same ∙ h.same;
      states = k.states;
      read =
          lines_read_both (coding_of_planes old) xs ys old.lines.items mid.lines.items new.lines.items (lines_reader reader) (lines_reader between) (lines_reader after) h.read
          (subst (λ c. AreLinesRead c ys mid.lines.items (lines_reader between) new.lines.items (lines_reader after)) h.same k.read);
    }

-- lines that are cut after others, before the rest of an order
pub cut_in : (old mid : SlicePlanes) (reader between : RangeLines) (xs ys rest : List Line) (fault : LinesFault) → HaveRead old reader xs mid between
    → IsLinesFaultOf (coding_of_planes mid) ys mid.lines.items (lines_reader between) fault
    → IsLinesFaultOf (coding_of_planes old) ((xs ++ ys) ++ rest) old.lines.items (lines_reader reader) fault
cut_in old mid reader between xs ys rest (lines_faults.Sample fault plane y x) h cut =
    cut_before (coding_of_planes old) (xs ++ ys) rest old.lines.items (lines_reader reader) fault plane y x
    (cut_after (coding_of_planes old) xs ys old.lines.items mid.lines.items (lines_reader reader) (lines_reader between) fault plane y x h.read
    (subst (λ c. AreLinesCut c ys mid.lines.items (lines_reader between) fault plane y x) h.same cut))
cut_in old mid reader between xs ys rest lines_faults.Memory h cut = tt

-- ---- lines in turn

pub all_read : (old new : SlicePlanes) (reader after : RangeLines) (lines : List Line) → IsOk reader.decoder.at → HaveStates old reader
    → AreReadInTurn HasReadLine lines old reader new after → HaveRead old reader lines new after
all_read old new reader after lines alive states (none planes r) = none_read old reader alive states
all_read old new reader after lines alive states (more xs line o mid n r between a before one) =
    read_more old mid new reader between after xs (line ∷ []) (all_read old mid reader between xs alive states before) one

pub all_cut : (old : SlicePlanes) (reader : RangeLines) (lines : List Line) (fault : LinesFault) → IsOk reader.decoder.at → HaveStates old reader
    → AreCutInTurn HasReadLine IsLineFaultOf lines old reader fault → IsLinesFaultOf (coding_of_planes old) lines old.lines.items (lines_reader reader) fault
all_cut old reader lines fault alive states k =
    subst (λ l. IsLinesFaultOf (coding_of_planes old) l old.lines.items (lines_reader reader) fault) (append_assoc k.done (k.line ∷ []) k.later ∙ sym k.order)
    (cut_in old k.planes reader k.between k.done (k.line ∷ []) k.later fault (all_read old k.planes reader k.between k.done alive states k.read) k.refused)
