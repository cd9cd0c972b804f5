-- Lines of Golomb-Rice codes of several planes, a line further.
use Rattle.std.proofs.Common.{◌≡◌, ◌≢◌, ℕ, ◌*◌, ◌<◌, List, Bool, [], ◌∷◌, ◌++◌, length, set, refl, sym, ap, ◌∙◌, subst, arith, append_assoc, inl, inr, get_or-set_same, get_or-set_other, ℤ}
use Rattle.std.specs.Prelude.{if◌then◌else◌}
use Rattle.std.proofs.Math.Path.{fun_ext}
use Rattle.std.proofs.lemmas.Bool.{cases_eq, eq-eqb, ne_eqb}
use Rattle.std.proofs.lemmas.List.{length-set}
use Rattle.ffv1_rice.specs.States.{ContextState}
use Rattle.ffv1_rice.specs.declared.code.CodeFault.{CodeFault}
use Rattle.ffv1_plane.specs.Samples.{plane_of, coding_at}
use Rattle.ffv1_plane.specs.Spelling.{residuals_of, values_after}
use Rattle.ffv1_plane.specs.Progress.{AreStatesAfter}
use Rattle.ffv1_plane.specs.Lines.{Line, line_at, CodedPlanes, values_after_line, values_after_lines, LinesSpell}
use Rattle.ffv1_plane.specs.RiceSlices.{is_anew_at, AreGroupsAfter}
use Rattle.ffv1_plane.specs.Inner.Rows.{RowsRead}
use Rattle.ffv1_plane.specs.Inner.RangeLines.{PlanesCoding, no_rows, rows_at, AreSmall, plane_with, count_in, IsGrown}
use Rattle.ffv1_plane.specs.Inner.RiceRows.{RowPlace, IsRowFirst, IsCodeRowRead}
use Rattle.ffv1_plane.specs.Inner.RiceLines.{CodesPlace, coded_with, row_start, HaveDepth, AreLinesFirst, AreCodesRead, AreCodesCut}
use Rattle.ffv1_plane.specs.RangeRows.{RangePlane}
use Rattle.ffv1_plane.proofs.CodedLines.{values_after_append, lines_append, line_spells}
use Rattle.ffv1_plane.proofs.LineRuns.{count_in-append, plane_same, grown_none, grown_both, count_here, count_other}

-- ---- lines after lines

pub no_codes : (is_rgb : Bool) (c : PlanesCoding) (planes : List RowsRead) (a : CodesPlace) → AreCodesRead is_rgb c [] planes a planes a
unfolding LinesSpell values_after_lines count_in
no_codes is_rgb c planes a =
    record {
      count = refl;
      grown = λ p. grown_none (rows_at planes p);
      same_states = λ group small. refl;
      spelled = λ n deep values fresh more. record { front = []; begins = refl; spells = (refl, refl); states_are = fresh };
    }

pub codes_both : (is_rgb : Bool) (c : PlanesCoding) (xs ys : List Line) (old mid new : List RowsRead) (r s t : CodesPlace) → AreCodesRead is_rgb c xs old r mid s
    → AreCodesRead is_rgb c ys mid s new t → AreCodesRead is_rgb c (xs ++ ys) old r new t
codes_both is_rgb c xs ys old mid new r s t h k =
    record {
      count = k.count ∙ h.count;
      grown = λ p.
          subst (λ n. IsGrown n (rows_at old p) (rows_at new p)) (sym (count_in-append p xs ys))
          (grown_both (count_in p xs) (count_in p ys) (rows_at old p) (rows_at mid p) (rows_at new p) (h.grown p) (k.grown p));
      same_states = λ group small. k.same_states group small ∙ h.same_states group small;
      spelled = λ n deep values fresh more.
          let grown_more : ℕ → List ℕ = λ p. (k.grown p).samples ++ more p in
          let all : CodedPlanes = coded_with is_rgb c new more in
          let planes : coded_with is_rgb c mid grown_more ≡ all =
          ap (λ (f : ℕ → RangePlane). record { plane = λ p. (f p).plane; group = c.group; is_anew = is_anew_at is_rgb })
          (fun_ext (λ p. plane_same c p (count_in p ys) (rows_at mid p) (rows_at new p) (more p) (k.grown p))) in
          let first : AreLinesFirst n all values xs r s = subst (λ z. AreLinesFirst n z values xs r s) planes (h.spelled n deep values fresh grown_more) in
          let mid_deep : HaveDepth n mid = λ p less. (h.grown p).depth ∙ deep p (let count = h.count in omega (arith, less, count)) in
          let second : AreLinesFirst n all (values_after_lines all values xs) ys s t =
          k.spelled n mid_deep (values_after_lines all values xs) first.states_are more in
          record {
            front = first.front ++ second.front;
            begins = first.begins ∙ ap (λ l. first.front ++ l) second.begins ∙ sym (append_assoc first.front second.front t.left);
            spells = lines_append all values r.index s.index t.index xs ys first.front second.front first.spells second.spells;
            states_are = subst (λ v. AreGroupsAfter n v t.states) (sym (values_after_append all values xs ys)) second.states_are;
          };
    }

-- ---- lines that are cut

pub cut_after : (is_rgb : Bool) (c : PlanesCoding) (xs ys : List Line) (old mid : List RowsRead) (r s : CodesPlace) (fault : CodeFault) (plane row x : ℕ)
    → AreCodesRead is_rgb c xs old r mid s → AreCodesCut is_rgb c ys mid s fault plane row x → AreCodesCut is_rgb c (xs ++ ys) old r fault plane row x
cut_after is_rgb c xs ys old mid r s fault plane row x h k =
    record {
      done = xs ++ k.done;
      later = k.later;
      order = ap (λ l. xs ++ l) k.order ∙ sym (append_assoc xs k.done (line_at plane row ∷ k.later));
      planes = k.planes;
      here = k.here;
      read = codes_both is_rgb c xs k.done old mid k.planes r s k.here h k.read;
      inside = k.inside;
      place = k.place;
      refused = k.refused;
    }

pub cut_before : (is_rgb : Bool) (c : PlanesCoding) (xs ys : List Line) (old : List RowsRead) (r : CodesPlace) (fault : CodeFault) (plane row x : ℕ)
    → AreCodesCut is_rgb c xs old r fault plane row x → AreCodesCut is_rgb c (xs ++ ys) old r fault plane row x
cut_before is_rgb c xs ys old r fault plane row x k =
    record {
      done = k.done;
      later = k.later ++ ys;
      order = ap (λ l. l ++ ys) k.order ∙ append_assoc k.done (line_at plane row ∷ k.later) ys;
      planes = k.planes;
      here = k.here;
      read = k.read;
      inside = k.inside;
      place = k.place;
      refused = k.refused;
    }

-- ---- one line

-- what one line leaves in its group, and in the others
left_here : (c : CodedPlanes) (values : ℕ → ℕ → List ℤ) (p row : ℕ)
    → values_after_lines c values (line_at p row ∷ []) (c.group p) ≡ values_after (values (c.group p)) (residuals_of (c.plane p) row)
unfolding values_after_lines values_after_line
left_here c values p row =
    ap (λ b. if b then values_after (values (c.group p)) (residuals_of (c.plane p) row) else values (c.group p)) (eq-eqb (c.group p) (c.group p) refl)

left_elsewhere : (c : CodedPlanes) (values : ℕ → ℕ → List ℤ) (p row group : ℕ) → group ≢ c.group p
    → values_after_lines c values (line_at p row ∷ []) group ≡ values group
unfolding values_after_lines values_after_line
left_elsewhere c values p row group apart =
    ap (λ b. if b then values_after (values group) (residuals_of (c.plane p) row) else values group) (ne_eqb group (c.group p) apart)

groups_after : (n : ℕ) (c : CodedPlanes) (values : ℕ → ℕ → List ℤ) (p row : ℕ) (before after : ℕ → List ContextState) → AreGroupsAfter n values before
    → AreStatesAfter n (values_after (values (c.group p)) (residuals_of (c.plane p) row)) (after (c.group p))
    → ((other : ℕ) → other < 3 → other ≢ c.group p → after other ≡ before other) → AreGroupsAfter n (values_after_lines c values (line_at p row ∷ [])) after
groups_after n c values p row before after fresh here others group few = elim (cases_eq group (c.group p)) [
  | inl same ↦
      subst (λ g. AreStatesAfter n (values_after_lines c values (line_at p row ∷ []) g) (after g)) (sym same)
      (subst (λ v. AreStatesAfter n v (after (c.group p))) (sym (left_here c values p row)) here)
  | inr apart ↦
      subst (λ v. AreStatesAfter n v (after group)) (sym (left_elsewhere c values p row group apart))
      (subst (λ l. AreStatesAfter n (values group) l) (sym (others group few apart)) (fresh group few))
]

-- One row of a plane was read, by the states of its group.
pub record IsCodeRowOf (is_rgb : Bool) (c : PlanesCoding) (p row : ℕ) (old : List RowsRead) (r : CodesPlace) (rows : RowsRead) (s : CodesPlace) : Type 0 where
  pub inside : p < length old
  pub small : c.group p < 3
  pub place : length (rows_at old p).samples ≡ row * (rows_at old p).width
  pub depth : rows.depth ≡ (rows_at old p).depth
  pub width : rows.width ≡ (rows_at old p).width
  pub ended : rows.x ≡ 0
  pub are_small : AreSmall rows
  pub others : (other : ℕ) → other < 3 → other ≢ c.group p → s.states other ≡ r.states other
  pub read :
      IsCodeRowRead (rows_at old p).width (coding_at (rows_at old p).depth (c.entry (c.group p))) (row_start is_rgb c p row (rows_at old p) r)
      (record { samples = rows.samples; index = s.index; states = s.states (c.group p); left = s.left })

pub code_line : (is_rgb : Bool) (c : PlanesCoding) (p row : ℕ) (old : List RowsRead) (r : CodesPlace) (rows : RowsRead) (s : CodesPlace)
    → IsCodeRowOf is_rgb c p row old r rows s → AreCodesRead is_rgb c (line_at p row ∷ []) old r (set old p rows) s
code_line is_rgb c p row old r rows s h =
    let now : RowsRead = rows_at old p in
    let here : rows_at (set old p rows) p ≡ rows = get_or-set_same old p rows no_rows h.inside in
    let longer : length h.read.row ≡ 1 * now.width = (let count = h.read.count in omega (arith, count)) in
    record {
      count = length-set old p rows;
      grown = λ q. elim (cases_eq q p) [
        | inl same ↦
            subst (λ k. IsGrown (count_in k (line_at p row ∷ [])) (rows_at old k) (rows_at (set old p rows) k)) (sym same)
            (subst (λ z. IsGrown (count_in p (line_at p row ∷ [])) now z) (sym here)
            (subst (λ n. IsGrown n now rows) (sym (count_here p row))
            (record { depth = h.depth; width = h.width; ended = λ e. h.ended; small = λ l. h.are_small; samples = h.read.row; pushed = h.read.pushed; longer = longer })))
        | inr apart ↦
            subst (λ n. IsGrown n (rows_at old q) (rows_at (set old p rows) q)) (sym (count_other p q row (λ e. apart (sym e))))
            (subst (λ z. IsGrown 0 (rows_at old q) z) (sym (get_or-set_other old p q rows no_rows apart)) (grown_none (rows_at old q)))
      ];
      same_states = λ group small. elim (cases_eq group (c.group p)) [
        | inl same ↦ subst (λ g. length (s.states g) ≡ length (r.states g)) (sym same) h.read.same_states
        | inr apart ↦ ap length (h.others group small apart)
      ];
      spelled = λ n deep values fresh more.
          let all : CodedPlanes = coded_with is_rgb c (set old p rows) more in
          let coding = coding_at now.depth (c.entry (c.group p)) in
          let is : plane_of now.width coding (rows.samples ++ more p) ≡ all.plane p =
          ap (λ w. plane_of w coding (rows.samples ++ more p)) (sym h.width)
          ∙ ap (λ d. plane_of rows.width (coding_at d (c.entry (c.group p))) (rows.samples ++ more p)) (sym h.depth)
          ∙ ap (λ z. (plane_with c p z (more p)).plane) (sym here) in
          let a = row_start is_rgb c p row now r in
          let b : RowPlace = record { samples = rows.samples; index = s.index; states = s.states (c.group p); left = s.left } in
          let depth : now.depth ≡ n = deep p h.inside in
          let one : IsRowFirst n (values (c.group p)) (residuals_of (all.plane p) row) a b =
          subst (λ m. IsRowFirst m (values (c.group p)) (residuals_of (all.plane p) row) a b) depth
          (subst (λ z. IsRowFirst now.depth (values (c.group p)) (residuals_of z row) a b) is
          (h.read.spelled row (values (c.group p)) h.place
          (subst (λ m. AreStatesAfter m (values (c.group p)) (r.states (c.group p))) (sym depth) (fresh (c.group p) h.small)) (more p))) in
          record {
            front = one.front;
            begins = one.begins;
            spells = line_spells all values r.index s.index (line_at p row) one.front one.spells;
            states_are = groups_after n all values p row r.states s.states fresh one.states_are h.others;
          };
    }
