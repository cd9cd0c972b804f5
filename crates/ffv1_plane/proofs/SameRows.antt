-- What a row is coded by: its samples and those of the rows above it.
use Rattle.std.proofs.Common.{◌≡◌, ℕ, zero, suc, ◌+◌, ◌-◌, ◌*◌, ◌<◌, ◌≤◌, Bool, List, [], ◌∷◌, ◌++◌, length, get_or, take, replicate, refl, sym, ap, ◌∙◌, subst, arith, ℤ, nat_abs, inl, inr, ◌⊎◌, suc-mul, length-append}
use Rattle.std.proofs.Math.Path.{fun_ext}
use Rattle.std.proofs.Math.Nat.{mul-le-mul_right}
use Rattle.std.proofs.Math.Seq.{get_or-append_right}
use Rattle.std.proofs.lemmas.Bool.{cases_lt}
use Rattle.std.proofs.lemmas.List.{get_or_append_left, get_or_push, get_or_past, length_push, get_or-take, length-take-le, take-append-le, length-replicate}
use Rattle.ffv1_rice.specs.Codes.{SpellsValue}
use Rattle.ffv1_rice.specs.Runs.{SpellsRun}
use Rattle.ffv1_rice.specs.States.{ContextState}
use Rattle.ffv1_plane.specs.Samples.{Plane, Coding, SamplesAbout, plane_of, neighbours_at, prediction_of, context_of, difference_of, context_at, difference_at}
use Rattle.ffv1_plane.specs.Spelling.{residuals_of, is_in_run, is_skipped, is_coded, starts_run, left_in_line, skipped_among, value_at, context_number, values_before, values_after, state_after, state_before, SampleSpells, SamplesSpell, RowSpells}
use Rattle.ffv1_plane.specs.Lines.{Line, line_at, lines_of_row, row_after_row}
use Rattle.ffv1_plane.proofs.Alike.{residuals, in_run_alike, follows_alike, values_alike}
use Rattle.ffv1_plane.proofs.Causal.{neighbours_same}
use Rattle.ffv1_plane.proofs.LineRuns.{all_rows_begin}
use Rattle.ffv1_plane.proofs.Wholes.{get_or-zeros}

-- ---- a row whose contexts and differences are the same up to its end

module _ (earlier : ℕ → List ℤ) (depth w : ℕ) (c e d f : ℕ → ℤ) (contexts : (j : ℕ) → j < w → c j ≡ e j) (differences : (j : ℕ) → j < w → d j ≡ f j) where
  in_run_same : (x : ℕ) → x < w → is_in_run (residuals depth w c d) x ≡ is_in_run (residuals depth w e f) x
  in_run_same x less = in_run_alike depth w c e d f x (λ j h. contexts j (omega (arith, h, less))) (λ j h. differences j (omega (arith, h, less)))

  skipped_same : (x : ℕ) → x < w → is_skipped (residuals depth w c d) x ≡ is_skipped (residuals depth w e f) x
  skipped_same x less = let a = in_run_same x less in let b : d x ≡ f x = differences x less in rw (a, b) refl

  starts_same : (x : ℕ) → x < w → starts_run (residuals depth w c d) x ≡ starts_run (residuals depth w e f) x
  starts_same x less =
      let a = in_run_same x less in
      let b = follows_alike depth w c e d f x (λ j h. contexts j (omega (arith, h, less))) (λ j h. differences j (omega (arith, h, less))) in
      rw (a, b) refl

  length_same : (count x : ℕ) → x + count ≤ w → skipped_among (residuals depth w c d) count x ≡ skipped_among (residuals depth w e f) count x
  unfolding skipped_among
  length_same zero x fits = refl
  length_same (suc count) x fits =
      let a = skipped_same x (omega (arith, fits)) in let b = length_same count (x + 1) (omega (arith, fits)) in rw (a, b) refl

  value_same : (x : ℕ) → x < w → value_at (residuals depth w c d) x ≡ value_at (residuals depth w e f) x
  value_same x less = let a = in_run_same x less in let b : d x ≡ f x = differences x less in rw (a, b) refl

  pub values_same : (k x : ℕ) → x ≤ w → values_before (residuals depth w c d) k x ≡ values_before (residuals depth w e f) k x
  values_same k x fits =
      values_alike x _ _ _ _
      (λ j h. let less : j < w = omega (arith, h, fits) in let a = skipped_same j less in let b : c j ≡ e j = contexts j less in rw (a, b) refl)
      (λ j h. value_same j (omega (arith, h, fits)))

  sample_same : (x index : ℕ) (bits : List Bool) (next : ℕ) → x < w → SampleSpells earlier (residuals depth w c d) x index bits next
      → SampleSpells earlier (residuals depth w e f) x index bits next
  sample_same x index bits next less h =
      let r = residuals depth w c d in
      let q = residuals depth w e f in
      let starts = starts_same x less in
      let skipped = skipped_same x less in
      let coded : is_coded r x ≡ is_coded q x = rw skipped refl in
      let number : context_number r x ≡ context_number q x = ap nat_abs (contexts x less) in
      let state : state_before earlier r (context_number r x) x ≡ state_before earlier q (context_number q x) x =
      ap (λ k. state_before earlier r k x) number
      ∙ ap (λ l. state_after depth (earlier (context_number q x) ++ l)) (values_same (context_number q x) x (omega (arith, less))) in
      record {
        run = h.run;
        code = h.code;
        joined = h.joined;
        run_starts = λ yes.
            subst (λ n. SpellsRun n (left_in_line q x) index h.run next) (length_same (w - x) x (omega (arith, less))) (h.run_starts (starts ∙ yes));
        no_run_starts = λ no. h.no_run_starts (starts ∙ no);
        coded = λ yes.
            subst (λ (s : ContextState). SpellsValue depth s (value_at q x) h.code) state
            (subst (λ v. SpellsValue depth (state_before earlier r (context_number r x) x) v h.code) (value_same x less) (h.coded (coded ∙ yes)));
        not_coded = λ no. h.not_coded (coded ∙ no);
      }

  samples_spell_same : (first count : ℕ) (bits : List Bool) (next : ℕ) → count ≤ w → SamplesSpell earlier (residuals depth w c d) first count bits next
      → SamplesSpell earlier (residuals depth w e f) first count bits next
  unfolding SamplesSpell
  samples_spell_same first zero bits next fits h = h
  samples_spell_same first (suc count) bits next fits (front, portion, index, joined, before, here) = (
    front,
    portion,
    index,
    joined,
    samples_spell_same first count front index (omega (arith, fits)) before,
    sample_same count index portion next (omega (arith, fits)) here,
  )

-- ---- two planes whose first rows are the same

pub record HaveSameRows (rows : ℕ) (a b : Plane) : Type 0 where
  pub width : ℕ
  pub coding : Coding
  pub xs : List ℕ
  pub ys : List ℕ
  pub first : a ≡ plane_of width coding xs
  pub second : b ≡ plane_of width coding ys
  pub some : 1 ≤ width
  pub same : (j : ℕ) → j < rows * width → get_or xs j 0 ≡ get_or ys j 0

module _ (rows y w : ℕ) (coding : Coding) (xs ys : List ℕ) (some : 1 ≤ w) (inside : y < rows) (same : (j : ℕ) → j < rows * w → get_or xs j 0 ≡ get_or ys j 0) where
  place_inside : (x : ℕ) → x < w → y * w + x < rows * w
  place_inside x less =
      let through : suc y * w ≤ rows * w = mul-le-mul_right w (omega (arith, inside)) in let sum : suc y * w ≡ y * w + w = suc-mul y w in
      omega (arith, through, sum, less)

  pub neighbours_there : (x : ℕ) → x < w → neighbours_at w xs (y * w + x) ≡ neighbours_at w ys (y * w + x)
  neighbours_there x less = neighbours_same w (y * w + x) some xs ys (λ j h. same j (let most = place_inside x less in omega (arith, h, most)))

  pub sample_there : (x : ℕ) → x < w → get_or xs (y * w + x) 0 ≡ get_or ys (y * w + x) 0
  sample_there x less = same (y * w + x) (place_inside x less)

  context_there : (x : ℕ) → x < w → context_at (plane_of w coding xs) (y * w + x) ≡ context_at (plane_of w coding ys) (y * w + x)
  context_there x less = ap (context_of coding.entry) (neighbours_there x less)

  difference_there : (x : ℕ) → x < w → difference_at (plane_of w coding xs) (y * w + x) ≡ difference_at (plane_of w coding ys) (y * w + x)
  difference_there x less =
      ap (λ (n : SamplesAbout). difference_of coding.depth (context_of coding.entry n) (prediction_of n) (get_or xs (y * w + x) 0)) (neighbours_there x less)
      ∙ ap (λ s. difference_of coding.depth (context_of coding.entry (neighbours_at w ys (y * w + x))) (prediction_of (neighbours_at w ys (y * w + x))) s)
      (sample_there x less)

  row_spells_there : (earlier : ℕ → List ℤ) (first : ℕ) (bits : List Bool) (next : ℕ)
      → RowSpells earlier (residuals_of (plane_of w coding xs) y) first bits next → RowSpells earlier (residuals_of (plane_of w coding ys) y) first bits next
  unfolding residuals_of
  row_spells_there earlier first bits next h =
      samples_spell_same earlier coding.depth w (λ x. context_at (plane_of w coding xs) (y * w + x)) (λ x. context_at (plane_of w coding ys) (y * w + x))
      (λ x. difference_at (plane_of w coding xs) (y * w + x)) (λ x. difference_at (plane_of w coding ys) (y * w + x)) context_there difference_there first w bits next
      (omega arith) h

  row_leaves_there : (earlier : ℕ → List ℤ) → values_after earlier (residuals_of (plane_of w coding xs) y) ≡ values_after earlier (residuals_of (plane_of w coding ys) y)
  unfolding residuals_of
  row_leaves_there earlier =
      fun_ext (λ k. ap (λ l. earlier k ++ l)
      (values_same earlier coding.depth w (λ x. context_at (plane_of w coding xs) (y * w + x)) (λ x. context_at (plane_of w coding ys) (y * w + x))
      (λ x. difference_at (plane_of w coding xs) (y * w + x)) (λ x. difference_at (plane_of w coding ys) (y * w + x)) context_there difference_there k w (omega arith)))

pub row_spells_same : (rows y : ℕ) (a b : Plane) (earlier : ℕ → List ℤ) (first : ℕ) (bits : List Bool) (next : ℕ) → HaveSameRows rows a b → y < rows
    → RowSpells earlier (residuals_of a y) first bits next → RowSpells earlier (residuals_of b y) first bits next
row_spells_same rows y a b earlier first bits next h inside spells =
    subst (λ z. RowSpells earlier (residuals_of z y) first bits next) (sym h.second)
    (row_spells_there rows y h.width h.coding h.xs h.ys h.some inside h.same earlier first bits next
    (subst (λ z. RowSpells earlier (residuals_of z y) first bits next) h.first spells))

pub row_leaves_same : (rows y : ℕ) (a b : Plane) (earlier : ℕ → List ℤ) → HaveSameRows rows a b → y < rows
    → values_after earlier (residuals_of a y) ≡ values_after earlier (residuals_of b y)
row_leaves_same rows y a b earlier h inside =
    ap (λ z. values_after earlier (residuals_of z y)) h.first ∙ row_leaves_there rows y h.width h.coding h.xs h.ys h.some inside h.same earlier
    ∙ ap (λ z. values_after earlier (residuals_of z y)) (sym h.second)

-- ---- lines of the first rows

-- the rows of all lines are below a number
pub data AreRowsBelow (n : ℕ) : List Line → Type 0 where
  no_line : AreRowsBelow n []
  line_then : {line : Line} {lines : List Line} → line.row < n → AreRowsBelow n lines → AreRowsBelow n (line ∷ lines)

rows_below_both : (n : ℕ) (xs ys : List Line) → AreRowsBelow n xs → AreRowsBelow n ys → AreRowsBelow n (xs ++ ys)
rows_below_both n [] ys no_line k = k
rows_below_both n (line ∷ xs) ys (line_then less h) k = line_then less (rows_below_both n xs ys h k)

rows_below_more : (m n : ℕ) (xs : List Line) → m ≤ n → AreRowsBelow m xs → AreRowsBelow n xs
rows_below_more m n [] most no_line = no_line
rows_below_more m n (line ∷ xs) most (line_then less h) = line_then (omega (arith, less, most)) (rows_below_more m n xs most h)

row_is_below : (row n count : ℕ) → row < n → AreRowsBelow n (lines_of_row row count)
unfolding lines_of_row
row_is_below row n zero less = no_line
row_is_below row n (suc count) less = rows_below_both n (lines_of_row row count) (line_at count row ∷ []) (row_is_below row n count less) (line_then less no_line)

pub all_rows_are_below : (count n : ℕ) → AreRowsBelow n (row_after_row count n)
unfolding row_after_row
all_rows_are_below count zero = no_line
all_rows_are_below count (suc n) =
    rows_below_both (suc n) (row_after_row count n) (lines_of_row n count)
    (rows_below_more n (suc n) (row_after_row count n) (omega arith) (all_rows_are_below count n)) (row_is_below n (suc n) count (omega arith))

pub row_in_middle : (n : ℕ) (xs ys : List Line) (line : Line) → AreRowsBelow n (xs ++ (line ∷ ys)) → line.row < n
row_in_middle n [] ys line (line_then less h) = less
row_in_middle n (x ∷ xs) ys line (line_then less h) = row_in_middle n xs ys line h

-- one of two lists that are one begins with the other, or ends before its line
front_of : (xs ys us ws : List Line) (a : Line) → xs ++ (a ∷ ys) ≡ us ++ ws
    → ((rest : List Line) × (xs ≡ us ++ rest)) ⊎ ((rest : List Line) × (us ≡ xs ++ (a ∷ rest)))
front_of xs ys [] ws a same = inl (xs, refl)
front_of [] ys (u ∷ us) ws a same = inr (us, (let e : a ≡ u = cc in ap (λ z. z ∷ us) (sym e)))
front_of (x ∷ xs) ys (u ∷ us) ws a same =
    let first : x ≡ u = cc in
    let rest : xs ++ (a ∷ ys) ≡ us ++ ws = cc in
    elim (front_of xs ys us ws a rest) [
      | inl found ↦ inl (found.0, ap (λ l. x ∷ l) found.1 ∙ ap (λ z. z ∷ (us ++ found.0)) first)
      | inr found ↦ inr (found.0, ap (λ l. u ∷ l) found.1 ∙ ap (λ z. z ∷ (xs ++ (a ∷ found.0))) (sym first))
    ]

-- before a line of row y all lines of the rows above it stand
pub rows_before : (count height : ℕ) (done later : List Line) (plane y : ℕ) → row_after_row count height ≡ done ++ line_at plane y ∷ later
    → (rest : List Line) × (done ≡ row_after_row count y ++ rest)
rows_before count height done later plane y order =
    let inside : y < height =
    row_in_middle height done later (line_at plane y) (subst (AreRowsBelow height) order (all_rows_are_below count height)) in
    let whole = all_rows_begin count height y (omega (arith, inside)) in
    elim (front_of done later (row_after_row count y) whole.0 (line_at plane y) (sym order ∙ whole.1)) [
      | inl found ↦ found
      | inr found ↦
          let own : y < y = row_in_middle y done found.0 (line_at plane y) (subst (AreRowsBelow y) found.1 (all_rows_are_below count y)) in
          absurd (omega (arith, own))
    ]

-- ---- the first rows of planes

-- the first n samples, and 0 where there are fewer
pub first_samples : ℕ → List ℕ → List ℕ
first_samples n xs = take n (xs ++ replicate n 0)

pub length-first_samples : (n : ℕ) (xs : List ℕ) → length (first_samples n xs) ≡ n
unfolding first_samples
length-first_samples n xs =
    length-take-le n (xs ++ replicate n 0) (omega (arith, length-append xs (replicate n 0), length-replicate {A = ℕ} n 0))

pub first_samples_at : (n : ℕ) (xs : List ℕ) (j : ℕ) → j < n → get_or (first_samples n xs) j 0 ≡ get_or xs j 0
unfolding first_samples
first_samples_at n xs j less = get_or-take n (xs ++ replicate n 0) j 0 less ∙ elim (cases_lt j (length xs)) [
  | inl inside ↦ get_or_append_left xs (replicate n 0) 0 j inside
  | inr past ↦ get_or-append_right xs (replicate n 0) j 0 past ∙ get_or-zeros n (j - length xs) ∙ sym (get_or_past xs j 0 past)
]

pub first_samples_whole : (n : ℕ) (xs : List ℕ) → n ≤ length xs → first_samples n xs ≡ take n xs
unfolding first_samples
first_samples_whole n xs fits = take-append-le n xs (replicate n 0) fits

-- a list of so many planes
pub planes_made : (ℕ → List ℕ) → ℕ → List (List ℕ)
planes_made f zero = []
planes_made f (suc n) = planes_made f n ++ f n ∷ []

pub length-planes_made : (f : ℕ → List ℕ) (n : ℕ) → length (planes_made f n) ≡ n
unfolding planes_made
length-planes_made f zero = refl
length-planes_made f (suc n) = let before = length-planes_made f n in let more = length_push (planes_made f n) (f n) in omega (arith, before, more)

pub planes_made_at : (f : ℕ → List ℕ) (n p : ℕ) → p < n → get_or (planes_made f n) p [] ≡ f p
unfolding planes_made
planes_made_at f zero p less = absurd (omega (arith, less))
planes_made_at f (suc n) p less = elim (cases_lt p n) [
  | inl inside ↦ get_or_append_left (planes_made f n) (f n ∷ []) [] p (let long = length-planes_made f n in omega (arith, inside, long)) ∙ planes_made_at f n p inside
  | inr past ↦
      let last : n ≡ p = omega (arith, less, past) in
      get_or_push (planes_made f n) (f n) [] p (length-planes_made f n ∙ last) ∙ ap f last
]
