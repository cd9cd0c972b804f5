-- A row of Golomb-Rice codes of a plane of a slice, by the group of its plane.
use Rattle.std.proofs.Common.{◌++◌, ◌^◌, ◌≡◌, ◌≢◌, ℕ, zero, suc, ◌<◌, List, Bool, [], ◌∷◌, length, get_or, set, refl, sym, ap, ◌∙◌, subst, arith, append_assoc}
use Rattle.ffv1_plane.specs.Samples.{coding_at}
use Rattle.ffv1_plane.specs.Lines.{Line, line_at}
use Rattle.ffv1_range.specs.Setup.{set_contexts}
use Rattle.ffv1_plane.specs.RangeSlices.{slice_group}
use Rattle.ffv1_plane.specs.RiceReading.{group_codes}
use Rattle.ffv1_plane.specs.Inner.Rows.{RowsRead}
use Rattle.ffv1_plane.specs.Inner.RangeRows.{IsSameShape}
use Rattle.ffv1_plane.specs.Inner.RangeLines.{PlanesCoding, rows_at}
use Rattle.ffv1_plane.specs.Inner.Planes.{group_tables, coding_of_planes}
use Rattle.ffv1_plane.specs.Inner.RiceRows.{RowPlace, IsCodeRowRead, IsCodeRowRefused, IsRowCodesFaultOf}
use Rattle.ffv1_plane.specs.Inner.RiceLines.{CodesPlace, rice_lines, codes_place, row_start, AreCodesRead, AreCodesCut, HaveCodes, HaveReadCodes, codes_fault, IsCutFor, HasReadCodesOf, IsCodesFaultAt}
use Rattle.ffv1_plane.specs.Inner.InTurn.{AreReadInTurn, none, more, AreCutInTurn}
use Rattle.ffv1_plane.specs.declared.planes.SlicePlanes.{SlicePlanes}
use Rattle.ffv1_plane.specs.declared.rice_planes.RiceLines.{RiceLines}
use Rattle.ffv1_plane.specs.declared.rice_planes.OpenLines.{OpenLines}
use Rattle.ffv1_plane.specs.declared.rice_planes.CodesFault.{CodesFault}
use Rattle.ffv1_plane.specs.declared.rice_planes.CodesFault.TheVariants as codes_faults
use Rattle.ffv1_plane.specs.declared.rice_rows.RowCodesFault.{RowCodesFault}
use Rattle.ffv1_plane.specs.declared.rice_rows.RowCodesFault.TheVariants as row_faults
use Rattle.ffv1_plane.proofs.PlaneRows.{IsInGroup}
use Rattle.ffv1_plane.proofs.RangeSlices.{group_small}
use Rattle.ffv1_plane.proofs.CodeRuns.{no_codes, codes_both, cut_after, cut_before, code_line}

-- ---- the states of a group alone change

pub luma_codes : (r s : RiceLines) → s.chroma ≡ r.chroma → s.alpha ≡ r.alpha → (other : ℕ) → other < 3 → other ≢ 0 → group_codes s other ≡ group_codes r other
luma_codes r s chroma alpha zero few apart = absurd (apart refl)
luma_codes r s chroma alpha (suc zero) few apart = ap (λ v. v.items) chroma
luma_codes r s chroma alpha (suc (suc other)) few apart = ap (λ v. v.items) alpha

pub chroma_codes : (r s : RiceLines) → s.luma ≡ r.luma → s.alpha ≡ r.alpha → (other : ℕ) → other < 3 → other ≢ 1 → group_codes s other ≡ group_codes r other
chroma_codes r s luma alpha zero few apart = ap (λ v. v.items) luma
chroma_codes r s luma alpha (suc zero) few apart = absurd (apart refl)
chroma_codes r s luma alpha (suc (suc other)) few apart = ap (λ v. v.items) alpha

pub alpha_codes : (r s : RiceLines) → s.luma ≡ r.luma → s.chroma ≡ r.chroma → (other : ℕ) → other < 3 → other ≢ 2 → group_codes s other ≡ group_codes r other
alpha_codes r s luma chroma zero few apart = ap (λ v. v.items) luma
alpha_codes r s luma chroma (suc zero) few apart = ap (λ v. v.items) chroma
alpha_codes r s luma chroma (suc (suc zero)) few apart = absurd (apart refl)
alpha_codes r s luma chroma (suc (suc (suc other))) few apart = absurd (omega arith)

-- ---- a row in its group

abbrev pub start_in : Bool → PlanesCoding → ℕ → ℕ → ℕ → RowsRead → CodesPlace → RowPlace
start_in is_rgb c p row group rows r =
    record { samples = rows.samples; index = (row_start is_rgb c p row rows r).index; states = r.states group; left = r.left }

pub code_line_of_group : (is_rgb : Bool) (c : PlanesCoding) (p row group : ℕ) (old : List RowsRead) (r s : CodesPlace) (now rows : RowsRead)
    → IsInGroup c p row group old now → IsSameShape now rows → rows.x ≡ 0 → ((s : ℕ) → get_or rows.samples s 0 < 2 ^ now.depth)
    → ((other : ℕ) → other < 3 → other ≢ group → s.states other ≡ r.states other)
    → IsCodeRowRead now.width (coding_at now.depth (c.entry group)) (start_in is_rgb c p row group now r)
    (record { samples = rows.samples; index = s.index; states = s.states group; left = s.left })
    → AreCodesRead is_rgb c (line_at p row ∷ []) old r (set old p rows) s
code_line_of_group is_rgb c p row group old r s now rows h shape ended small others read =
    code_line is_rgb c p row old r rows s (record {
      inside = h.inside;
      small = subst (λ g. g < 3) (sym h.is_group) h.small;
      place = h.place;
      depth = shape.depth ∙ ap (λ z. z.depth) h.is_now;
      width = shape.width ∙ ap (λ z. z.width) h.is_now;
      ended = ended;
      are_small = λ s. subst (λ d. get_or rows.samples s 0 < 2 ^ d) (sym shape.depth) (small s);
      others = λ other few apart. others other few (λ e. apart (e ∙ sym h.is_group));
      read =
          subst (λ g. IsCodeRowRead (rows_at old p).width (coding_at (rows_at old p).depth (c.entry g)) (start_in is_rgb c p row g (rows_at old p) r)
          (record { samples = rows.samples; index = s.index; states = s.states g; left = s.left })) (sym h.is_group)
          (subst (λ (z : RowsRead). IsCodeRowRead z.width (coding_at z.depth (c.entry group)) (start_in is_rgb c p row group z r)
          (record { samples = rows.samples; index = s.index; states = s.states group; left = s.left })) h.is_now read);
    })

pub code_cut_of_group : (is_rgb : Bool) (c : PlanesCoding) (p row group : ℕ) (old : List RowsRead) (r : CodesPlace) (now : RowsRead) (fault : RowCodesFault)
    → IsInGroup c p row group old now
    → IsRowCodesFaultOf now.width (coding_at now.depth (c.entry group)) (start_in is_rgb c p row group now r) fault
    → IsCutFor is_rgb c (line_at p row ∷ []) old r (codes_fault fault p row)
code_cut_of_group is_rgb c p row group old r now (row_faults.Sample fault x) h refused =
    record {
      done = [];
      later = [];
      order = refl;
      planes = old;
      here = r;
      read = no_codes is_rgb c old r;
      inside = h.inside;
      place = h.place;
      refused =
          subst (λ g. IsCodeRowRefused (rows_at old p).width (coding_at (rows_at old p).depth (c.entry g)) (start_in is_rgb c p row g (rows_at old p) r) fault x)
          (sym h.is_group)
          (subst (λ (z : RowsRead). IsCodeRowRefused z.width (coding_at z.depth (c.entry group)) (start_in is_rgb c p row group z r) fault x) h.is_now refused);
    }
code_cut_of_group is_rgb c p row group old r now row_faults.Memory h refused = tt

-- as many states as before are enough
pub still_have : (planes : SlicePlanes) (n : ℕ) (reader after : OpenLines) → n ≡ length planes.lines.items
    → ((group : ℕ) → group < 3 → length (group_codes (rice_lines after) group) ≡ length (group_codes (rice_lines reader) group)) → HaveCodes planes reader
    → (p : ℕ) → p < n → length (group_codes (rice_lines after) (slice_group planes.has_chroma p))
    ≡ set_contexts (group_tables planes (slice_group planes.has_chroma p)).setup (group_tables planes (slice_group planes.has_chroma p)).set
still_have planes n reader after count same h p less =
    same (slice_group planes.has_chroma p) (group_small planes.has_chroma p) ∙ h p (subst (λ k. p < k) count less)

-- ---- lines after lines

pub none_read : (planes : SlicePlanes) (reader : OpenLines) → HaveCodes planes reader → HaveReadCodes planes reader [] planes reader
none_read planes reader states =
    record { same = refl; states = states; rgb = refl; read = no_codes reader.is_rgb (coding_of_planes planes) planes.lines.items (codes_place reader) }

-- lines that were read after others
pub read_more : (old mid new : SlicePlanes) (reader between after : OpenLines) (xs ys : List Line) → HaveReadCodes old reader xs mid between
    → HaveReadCodes mid between ys new after → HaveReadCodes old reader (xs ++ ys) new after
read_more old mid new reader between after xs ys h k =
    record {
      same = k.same ∙ h.same;
      states = k.states;
      rgb = k.rgb ∙ h.rgb;
      read =
          codes_both reader.is_rgb (coding_of_planes old) xs ys old.lines.items mid.lines.items new.lines.items (codes_place reader) (codes_place between) (codes_place after) h.read
          (subst (λ b. AreCodesRead b (coding_of_planes old) ys mid.lines.items (codes_place between) new.lines.items (codes_place after)) h.rgb
          (subst (λ c. AreCodesRead between.is_rgb c ys mid.lines.items (codes_place between) new.lines.items (codes_place after)) h.same k.read));
    }

-- lines that are cut after others, before the rest of an order
pub cut_in : (old mid : SlicePlanes) (reader between : OpenLines) (xs ys rest : List Line) (fault : CodesFault) → HaveReadCodes old reader xs mid between
    → IsCutFor between.is_rgb (coding_of_planes mid) ys mid.lines.items (codes_place between) fault
    → IsCutFor reader.is_rgb (coding_of_planes old) ((xs ++ ys) ++ rest) old.lines.items (codes_place reader) fault
cut_in old mid reader between xs ys rest (codes_faults.Sample fault plane y x) h cut =
    cut_before reader.is_rgb (coding_of_planes old) (xs ++ ys) rest old.lines.items (codes_place reader) fault plane y x
    (cut_after reader.is_rgb (coding_of_planes old) xs ys old.lines.items mid.lines.items (codes_place reader) (codes_place between) fault plane y x h.read
    (subst (λ b. AreCodesCut b (coding_of_planes old) ys mid.lines.items (codes_place between) fault plane y x) h.rgb
    (subst (λ c. AreCodesCut between.is_rgb c ys mid.lines.items (codes_place between) fault plane y x) h.same cut)))
cut_in old mid reader between xs ys rest codes_faults.Memory h cut = tt

-- ---- lines in turn

pub all_read : (old new : SlicePlanes) (reader after : OpenLines) (lines : List Line) → HaveCodes old reader
    → AreReadInTurn HasReadCodesOf lines old reader new after → HaveReadCodes old reader lines new after
all_read old new reader after lines states (none planes r) = none_read old reader states
all_read old new reader after lines states (more xs line o mid n r between a before one) =
    read_more old mid new reader between after xs (line ∷ []) (all_read old mid reader between xs states before) one

pub all_cut : (old : SlicePlanes) (reader : OpenLines) (lines : List Line) (fault : CodesFault) → HaveCodes old reader
    → AreCutInTurn HasReadCodesOf IsCodesFaultAt lines old reader fault
    → IsCutFor reader.is_rgb (coding_of_planes old) lines old.lines.items (codes_place reader) fault
all_cut old reader lines fault states k =
    subst (λ l. IsCutFor reader.is_rgb (coding_of_planes old) l old.lines.items (codes_place reader) fault) (append_assoc k.done (k.line ∷ []) k.later ∙ sym k.order)
    (cut_in old k.planes reader k.between k.done (k.line ∷ []) k.later fault (all_read old k.planes reader k.between k.done states k.read) k.refused)
