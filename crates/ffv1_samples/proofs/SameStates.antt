-- Earlier values count by the states that they leave: where these are the same, the same bits spell lines.
use Rattle.std.proofs.Common.{◌≡◌, ℕ, zero, suc, ◌+◌, ◌*◌, ◌<◌, ◌≤◌, Bool, true, false, List, [], ◌∷◌, ◌++◌, nat_abs, sym, ap, ◌∙◌, subst, arith, ℤ}
use Rattle.std.specs.Prelude.{◌==◌, fold, if◌then◌else◌}
use Rattle.std.proofs.lemmas.List.Sums.{fold-append}
use Rattle.ffv1_rice.specs.States.{ContextState, start_state, after_value}
use Rattle.ffv1_rice.specs.Codes.{SpellsValue}
use Rattle.ffv1_plane.specs.Samples.{Plane, context_at}
use Rattle.ffv1_plane.specs.Spelling.{Residuals, residuals_of, value_at, context_number, values_before, values_after, state_after, SampleSpells, SamplesSpell, RowSpells}
use Rattle.ffv1_plane.specs.Lines.{Line, CodedPlanes, first_index, values_after_line, values_after_lines, LinesSpell}
use Rattle.ffv1_plane.proofs.RangeSlices.{AreBelow, none, followed}

-- ---- one row

more_alike : (n : ℕ) (a b more : List ℤ) → state_after n a ≡ state_after n b → state_after n (a ++ more) ≡ state_after n (b ++ more)
more_alike n a b more h =
    let next : ContextState → ℤ → ContextState = λ state value. after_value n state value in
    fold-append next start_state a more ∙ ap (λ s. fold next s more) h ∙ sym (fold-append next start_state b more)

module _ (earlier other : ℕ → List ℤ) (r : Residuals) (bound : ℕ)
    (alike : (k : ℕ) → k < bound → state_after r.depth (earlier k) ≡ state_after r.depth (other k)) (inside : (x : ℕ) → x < r.width → context_number r x < bound) where
  sample_alike : (x index : ℕ) (bits : List Bool) (next : ℕ) → x < r.width → SampleSpells earlier r x index bits next → SampleSpells other r x index bits next
  sample_alike x index bits next less h =
      let k : ℕ = context_number r x in
      record {
        run = h.run;
        code = h.code;
        joined = h.joined;
        run_starts = h.run_starts;
        no_run_starts = h.no_run_starts;
        coded = λ yes.
            subst (λ (s : ContextState). SpellsValue r.depth s (value_at r x) h.code)
            (more_alike r.depth (earlier k) (other k) (values_before r k x) (alike k (inside x less))) (h.coded yes);
        not_coded = h.not_coded;
      }

  samples_alike : (first count : ℕ) (bits : List Bool) (next : ℕ) → count ≤ r.width → SamplesSpell earlier r first count bits next
      → SamplesSpell other r first count bits next
  unfolding SamplesSpell
  samples_alike first zero bits next fits h = h
  samples_alike first (suc count) bits next fits (front, portion, index, joined, before, here) = (
    front,
    portion,
    index,
    joined,
    samples_alike first count front index (omega (arith, fits)) before,
    sample_alike count index portion next (omega (arith, fits)) here,
  )

-- ---- lines

-- Values of n bits leave the same states of each group's contexts that are below a bound.
abbrev pub AreAlike : ℕ → (ℕ → ℕ) → (ℕ → ℕ → List ℤ) → (ℕ → ℕ → List ℤ) → Type 0
AreAlike n bound values others = (group k : ℕ) → group < 3 → k < bound group → state_after n (values group k) ≡ state_after n (others group k)

-- The first planes are the same, coded with n bits and with contexts below the bound of their group.
pub record AreSamePlanes (n : ℕ) (bound : ℕ → ℕ) (count : ℕ) (c d : CodedPlanes) : Type 0 where
  pub planes : (p : ℕ) → p < count → c.plane p ≡ d.plane p
  pub groups : (p : ℕ) → p < count → c.group p ≡ d.group p
  pub few : (p : ℕ) → p < count → c.group p < 3
  pub anew : (line : Line) → c.is_anew line ≡ d.is_anew line
  pub deep : (p : ℕ) → p < count → (c.plane p).coding.depth ≡ n
  pub inside : (p s : ℕ) → p < count → nat_abs (context_at (c.plane p) s) < bound (c.group p)

module _ (n : ℕ) (bound : ℕ → ℕ) (count : ℕ) (c d : CodedPlanes) (same : AreSamePlanes n bound count c d) where
  row_alike : (plane : Plane) (group y : ℕ) (earlier other : ℕ → List ℤ) (first : ℕ) (bits : List Bool) (next : ℕ) → plane.coding.depth ≡ n
      → ((s : ℕ) → nat_abs (context_at plane s) < bound group) → ((k : ℕ) → k < bound group → state_after n (earlier k) ≡ state_after n (other k))
      → RowSpells earlier (residuals_of plane y) first bits next → RowSpells other (residuals_of plane y) first bits next
  unfolding residuals_of
  row_alike plane group y earlier other first bits next deep inside alike h =
      samples_alike earlier other (residuals_of plane y) (bound group)
      (λ k less. ap (λ m. state_after m (earlier k)) deep ∙ alike k less ∙ ap (λ m. state_after m (other k)) (sym deep))
      (λ x less. inside (y * plane.width + x)) first plane.width bits next (omega arith) h

  -- the values that a row leaves, in its group and in another
  left_alike : (b : Bool) (values others : ℕ → List ℤ) (r : Residuals) (k : ℕ) → state_after n (values k) ≡ state_after n (others k)
      → state_after n ((if b then values_after values r else values) k) ≡ state_after n ((if b then values_after others r else others) k)
  left_alike true values others r k h = more_alike n (values k) (others k) (values_before r k r.width) h
  left_alike false values others r k h = h

  line_leaves_alike : (values others : ℕ → ℕ → List ℤ) (line : Line) → line.plane < count → AreAlike n bound values others
      → AreAlike n bound (values_after_line c values line) (values_after_line d others line)
  unfolding values_after_line
  line_leaves_alike values others line less alike group k few within =
      left_alike (group == c.group line.plane) (values group) (others group) (residuals_of (c.plane line.plane) line.row) k (alike group k few within)
      ∙ ap (λ (z : Plane). state_after n ((if group == c.group line.plane then values_after (others group) (residuals_of z line.row) else others group) k))
      (same.planes line.plane less)
      ∙ ap (λ g. state_after n ((if group == g then values_after (others group) (residuals_of (d.plane line.plane) line.row) else others group) k))
      (same.groups line.plane less)

  -- Lines leave the same states.
  pub lines_leave_alike : (values others : ℕ → ℕ → List ℤ) (lines : List Line) → AreBelow count lines → AreAlike n bound values others
      → AreAlike n bound (values_after_lines c values lines) (values_after_lines d others lines)
  unfolding values_after_lines
  lines_leave_alike values others [] none alike = alike
  lines_leave_alike values others (line ∷ lines) (followed less below) alike =
      lines_leave_alike (values_after_line c values line) (values_after_line d others line) lines below (line_leaves_alike values others line less alike)

  line_alike : (values others : ℕ → ℕ → List ℤ) (line : Line) (index : ℕ) (bits : List Bool) (next : ℕ) → line.plane < count → AreAlike n bound values others
      → RowSpells (values (c.group line.plane)) (residuals_of (c.plane line.plane) line.row) (first_index c index line) bits next
      → RowSpells (others (d.group line.plane)) (residuals_of (d.plane line.plane) line.row) (first_index d index line) bits next
  line_alike values others line index bits next less alike h =
      let p : ℕ = line.plane in
      let row = row_alike (c.plane p) (c.group p) line.row (values (c.group p)) (others (c.group p)) (first_index c index line) bits next (same.deep p less)
      (λ s. same.inside p s less) (λ k within. alike (c.group p) k (same.few p less) within) h in
      subst (λ b. RowSpells (others (d.group p)) (residuals_of (d.plane p) line.row) (if b then 0 else index) bits next) (same.anew line)
      (subst (λ g. RowSpells (others g) (residuals_of (d.plane p) line.row) (first_index c index line) bits next) (same.groups p less)
      (subst (λ (z : Plane). RowSpells (others (c.group p)) (residuals_of z line.row) (first_index c index line) bits next) (same.planes p less) row))

  -- The same bits spell them.
  pub lines_alike : (values others : ℕ → ℕ → List ℤ) (index : ℕ) (lines : List Line) (bits : List Bool) (next : ℕ) → AreBelow count lines
      → AreAlike n bound values others → LinesSpell c values index lines bits next → LinesSpell d others index lines bits next
  unfolding LinesSpell
  lines_alike values others index [] bits next none alike h = h
  lines_alike values others index (line ∷ lines) bits next (followed less below) alike (front, back, between, joined, row, rest) = (
    front,
    back,
    between,
    joined,
    line_alike values others line index front between less alike row,
    lines_alike (values_after_line c values line) (values_after_line d others line) between lines back next below (line_leaves_alike values others line less alike) rest,
  )
