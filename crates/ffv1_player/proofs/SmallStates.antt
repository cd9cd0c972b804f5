-- The adaptive states at a sample, as the small definitions have them: each is what the values before have left of the start state.
use Rattle.std.proofs.Common.{◌≡◌, ℕ, zero, suc, ◌<◌, ◌≤◌, Bool, ◌&&◌, cond, eqb, List, [], ◌∷◌, ◌++◌, ℤ, sym, ap, ◌∙◌, subst, arith}
use Rattle.std.proofs.lemmas.List.{append-nil}
use Rattle.ffv1_rice.specs.Codes.{SpellsValue}
use Rattle.ffv1_rice.specs.States.{ContextState, after_value}
use Rattle.ffv1_plane.specs.Spelling.{Residuals, is_coded, value_at, context_number, columns_before, state_after, state_before, SampleSpells, SamplesSpell}
use Rattle.ffv1_plane.specs.Lines.{Line, lines_of_plane, plane_after_plane, lines_of_row, row_after_row}
use Rattle.ffv1_plane.proofs.Steps.{state_more}
use Rattle.ffv1_player.specs.SmallSlices.{states_at_column, SampleIsSpelled, SamplesAreSpelled}

-- ---- one line

module _ (line : Residuals) (earlier : ℕ → List ℤ) (states : ℕ → ContextState) (bound : ℕ)
    (agree : (k : ℕ) → k < bound → states k ≡ state_after line.depth (earlier k)) where
  pub at_column : (x k : ℕ) → k < bound → states_at_column line states x k ≡ state_before earlier line k x
  unfolding states_at_column columns_before
  at_column zero k less = agree k less ∙ ap (state_after line.depth) (sym (append-nil (earlier k)))
  at_column (suc x) k less =
      let step : ContextState → ContextState =
      λ state. cond (is_coded line x && eqb (context_number line x) k) (after_value line.depth state (value_at line x)) state in
      ap step (at_column x k less) ∙ sym (state_more earlier line k x)

  module _ (inside : (x : ℕ) → context_number line x < bound) where
    here : (x : ℕ) → states_at_column line states x (context_number line x) ≡ state_before earlier line (context_number line x) x
    here x = at_column x (context_number line x) (inside x)

    sample_to : (x index : ℕ) (bits : List Bool) (next : ℕ) → SampleSpells earlier line x index bits next
        → SampleIsSpelled line (states_at_column line states x) x index bits next
    sample_to x index bits next h = record {
      run = h.run;
      code = h.code;
      joined = h.joined;
      run_starts = h.run_starts;
      no_run_starts = h.no_run_starts;
      coded = λ is. subst (λ state. SpellsValue line.depth state (value_at line x) h.code) (sym (here x)) (h.coded is);
      not_coded = h.not_coded;
    }

    sample_from : (x index : ℕ) (bits : List Bool) (next : ℕ) → SampleIsSpelled line (states_at_column line states x) x index bits next
        → SampleSpells earlier line x index bits next
    sample_from x index bits next h = record {
      run = h.run;
      code = h.code;
      joined = h.joined;
      run_starts = h.run_starts;
      no_run_starts = h.no_run_starts;
      coded = λ is. subst (λ state. SpellsValue line.depth state (value_at line x) h.code) (here x) (h.coded is);
      not_coded = h.not_coded;
    }

    pub samples_to : (first count : ℕ) (bits : List Bool) (next : ℕ) → SamplesSpell earlier line first count bits next
        → SamplesAreSpelled line states first count bits next
    unfolding SamplesSpell SamplesAreSpelled
    samples_to first zero bits next h = h
    samples_to first (suc count) bits next h =
        (h.0, h.1, h.2, h.3, samples_to first count h.0 h.2 h.4, sample_to count h.2 h.1 next h.5)

    pub samples_from : (first count : ℕ) (bits : List Bool) (next : ℕ) → SamplesAreSpelled line states first count bits next
        → SamplesSpell earlier line first count bits next
    unfolding SamplesSpell SamplesAreSpelled
    samples_from first zero bits next h = h
    samples_from first (suc count) bits next h =
        (h.0, h.1, h.2, h.3, samples_from first count h.0 h.2 h.4, sample_from count h.2 h.1 next h.5)

-- ---- the planes of lines

-- each line is of one of the first n planes
abbrev pub AreOfPlanes : ℕ → List Line → Type 0
AreOfPlanes n [] = Unit {0}
AreOfPlanes n (line ∷ lines) = (line.plane < n) × AreOfPlanes n lines

of_both : (n : ℕ) (lines more : List Line) → AreOfPlanes n lines → AreOfPlanes n more → AreOfPlanes n (lines ++ more)
of_both n [] more h k = k
of_both n (line ∷ lines) more h k = (h.0, of_both n lines more h.1 k)

of_plane : (n p count : ℕ) → p < n → AreOfPlanes n (lines_of_plane p count)
unfolding lines_of_plane
of_plane n p zero less = tt
of_plane n p (suc count) less = of_both n (lines_of_plane p count) _ (of_plane n p count less) (less, tt)

pub of_planes : (n : ℕ) (height : ℕ → ℕ) (count : ℕ) → count ≤ n → AreOfPlanes n (plane_after_plane height count)
unfolding plane_after_plane
of_planes n height zero few = tt
of_planes n height (suc count) few =
    of_both n (plane_after_plane height count) (lines_of_plane count (height count)) (of_planes n height count (omega (arith, few)))
    (of_plane n count (height count) (omega (arith, few)))

of_row : (n row count : ℕ) → count ≤ n → AreOfPlanes n (lines_of_row row count)
unfolding lines_of_row
of_row n row zero few = tt
of_row n row (suc count) few =
    of_both n (lines_of_row row count) _ (of_row n row count (omega (arith, few))) ((let less : count < n = omega (arith, few) in less), tt)

pub of_rows : (n count height : ℕ) → count ≤ n → AreOfPlanes n (row_after_row count height)
unfolding row_after_row
of_rows n count zero few = tt
of_rows n count (suc height) few =
    of_both n (row_after_row count height) (lines_of_row height count) (of_rows n count height few) (of_row n height count few)
