-- The bits that spell a row of a plane (RFC 9043, section 3.8.2). Nothing here reads a bit: all is said of the whole row.
use Rattle.std.specs.Prelude.{◌≡◌, ℕ, zero, suc, ◌+◌, ◌-◌, ◌*◌, ◌==◌, Bool, true, false, not, ◌&&◌, ◌||◌, List, [], ◌∷◌, ◌++◌, map, ℤ, pos, nat_abs, if◌then◌else◌, fold, filter}
use Rattle.std.specs.Ordering.{int_eq}
use Rattle.ffv1_rice.specs.States.{ContextState, start_state, after_value}
use Rattle.ffv1_rice.specs.Codes.{SpellsValue, decoded_value}
use Rattle.ffv1_rice.specs.Runs.{SpellsRun}
use Rattle.ffv1_plane.specs.Samples.{Plane, context_at, difference_at}

-- What of a row is coded: at each sample, by its column, its context and its difference, which has the bits of the depth.
pub record Residuals : Type 0 where
  pub depth : ℕ
  pub width : ℕ
  pub context : ℕ → ℤ
  pub difference : ℕ → ℤ

-- those of row y of a plane
unfoldable pub residuals_of : Plane → ℕ → Residuals
residuals_of p y = record {
  depth = p.coding.depth;
  width = p.width;
  context = λ x. context_at p (y * p.width + x);
  difference = λ x. difference_at p (y * p.width + x);
}

-- ---- which samples are coded

abbrev pub is_zero : ℤ → Bool
is_zero z = int_eq z (pos 0)

-- A sample is in a run where its context is 0, or where the sample before it in the row is in a run and has
-- difference 0.
unfoldable pub is_in_run : Residuals → ℕ → Bool
is_in_run r zero = is_zero (r.context 0)
is_in_run r (suc x) = is_zero (r.context (suc x)) || (is_in_run r x && is_zero (r.difference x))

-- skipped: in a run, with difference 0
abbrev pub is_skipped : Residuals → ℕ → Bool
is_skipped r x = is_in_run r x && is_zero (r.difference x)

-- the others are coded: levels in runs, scalars outside
abbrev pub is_coded : Residuals → ℕ → Bool
is_coded r x = not (is_skipped r x)

-- the sample before it, in its row, is skipped
unfoldable pub follows_skipped : Residuals → ℕ → Bool
follows_skipped r zero = false
follows_skipped r (suc x) = is_skipped r x

abbrev pub starts_run : Residuals → ℕ → Bool
starts_run r x = is_in_run r x && not (follows_skipped r x)

-- the samples from column x up to the row's end
abbrev pub left_in_line : Residuals → ℕ → ℕ
left_in_line r x = r.width - x

-- how many of the next samples are skipped, up to the first that isn't
unfoldable pub skipped_among : Residuals → ℕ → ℕ → ℕ
skipped_among r zero x = 0
skipped_among r (suc count) x = if is_skipped r x then suc (skipped_among r count (x + 1)) else 0

abbrev pub run_length : Residuals → ℕ → ℕ
run_length r x = skipped_among r (left_in_line r x) x

-- ---- adaptive states

-- what is coded of a coded sample: its difference, or for a level above 0 one less
abbrev pub value_at : Residuals → ℕ → ℤ
value_at r x = decoded_value (is_in_run r x) (r.difference x)

abbrev pub context_number : Residuals → ℕ → ℕ
context_number r x = nat_abs (r.context x)

-- the columns before x
unfoldable pub columns_before : ℕ → List ℕ
columns_before zero = []
columns_before (suc x) = columns_before x ++ x ∷ []

-- the values of the coded samples of the row before column x with a context
abbrev pub values_before : Residuals → ℕ → ℕ → List ℤ
values_before r context x = map (value_at r) (filter (λ j. is_coded r j && (context_number r j == context)) (columns_before x))

-- the values that a row leaves, with each context, after earlier ones
abbrev pub values_after : (ℕ → List ℤ) → Residuals → (ℕ → List ℤ)
values_after earlier r context = earlier context ++ values_before r context r.width

-- the state that values of n bits leave of the start state, where they are coded one after the other
abbrev pub state_after : ℕ → List ℤ → ContextState
state_after n values = fold (λ state value. after_value n state value) start_state values

-- The state of a context at column x is what all values coded with it have left: those before the row that share its
-- states, and those of the row.
abbrev pub state_before : (ℕ → List ℤ) → Residuals → ℕ → ℕ → ContextState
state_before earlier r context x = state_after r.depth (earlier context ++ values_before r context x)

-- ---- the bits of a row

-- The bits of the sample of column x: where a run starts there, the run's; then, where the sample is coded, its code. The
-- run index is one number before them and another after them.
pub record SampleSpells (earlier : ℕ → List ℤ) (r : Residuals) (x : ℕ) (index : ℕ) (bits : List Bool) (next : ℕ) : Type 0 where
  pub run : List Bool
  pub code : List Bool
  pub joined : bits ≡ run ++ code
  pub run_starts : starts_run r x ≡ true → SpellsRun (run_length r x) (left_in_line r x) index run next
  pub no_run_starts : starts_run r x ≡ false → (run ≡ []) × (next ≡ index)
  pub coded : is_coded r x ≡ true → SpellsValue r.depth (state_before earlier r (context_number r x) x) (value_at r x) code
  pub not_coded : is_coded r x ≡ false → code ≡ []

-- the bits of the first count samples of a row that begins at run index `first`
unfoldable pub SamplesSpell : (ℕ → List ℤ) → Residuals → ℕ → ℕ → List Bool → ℕ → Type 0
SamplesSpell earlier r first zero bits next = (bits ≡ []) × (next ≡ first)
SamplesSpell earlier r first (suc count) bits next =
    (front : List Bool) × (portion : List Bool) × (index : ℕ)
    × (bits ≡ front ++ portion) × SamplesSpell earlier r first count front index × SampleSpells earlier r count index portion next

-- the bits of a whole row
abbrev pub RowSpells : (ℕ → List ℤ) → Residuals → ℕ → List Bool → ℕ → Type 0
RowSpells earlier r first bits next = SamplesSpell earlier r first r.width bits next
