-- No bits begin with the spellings of one row of two planes.
use Rattle.std.proofs.Common.{◌≡◌, ℕ, zero, suc, ◌+◌, ◌*◌, ◌<◌, Bool, true, false, cond, List, ◌++◌, get_or, sym, ap, ◌∙◌, subst, arith, ⊎_elim, ℤ, pos, ◌-ℤ◌, int_lt, ◌^◌}
use Rattle.std.proofs.lemmas.Bool.{cases_lt}
use Rattle.std.proofs.lemmas.Int.{ints}
use Rattle.ffv1_rice.specs.States.{fold, IsDifference, IsCodedDepth}
use Rattle.ffv1_rice.proofs.Folds.{fold_alike, fold_range, one_number_alike}
use Rattle.ffv1_plane.specs.Samples.{Plane, plane_of, neighbours_at, prediction_of, context_of, difference_of, context_at, prediction_at, difference_at, Coding}
use Rattle.ffv1_rice.specs.declared.code.CodeFault.{CodeFault}
use Rattle.ffv1_plane.specs.Spelling.{residuals_of, values_before, RowSpells}
use Rattle.ffv1_plane.specs.Stuck.{IsWordRefused}
use Rattle.ffv1_plane.proofs.Alike.{one_reading, before_alike}
use Rattle.ffv1_plane.proofs.Refused.{IsOneWord, refused_excludes, refused_one}
use Rattle.ffv1_plane.proofs.Causal.{neighbours_same}

fold_left : (n p a b : ℕ) → IsCodedDepth n → a < 2 ^ n → b < 2 ^ n → fold n (pos a -ℤ pos p) ≡ fold n (pos b -ℤ pos p) → a ≡ b
fold_left n p a b depth small tiny same =
    let f = fold_alike n (pos a -ℤ pos p) depth in
    let g = fold_alike n (pos b -ℤ pos p) depth in
    one_number_alike n a b depth small tiny
    (record { more = f.more + g.less; less = f.less + g.more; same = omega (arith, ints, f.same, g.same, same) })

fold_right : (n p a b : ℕ) → IsCodedDepth n → a < 2 ^ n → b < 2 ^ n → fold n (pos p -ℤ pos a) ≡ fold n (pos p -ℤ pos b) → a ≡ b
fold_right n p a b depth small tiny same =
    let f = fold_alike n (pos p -ℤ pos a) depth in
    let g = fold_alike n (pos p -ℤ pos b) depth in
    one_number_alike n a b depth small tiny
    (record { more = f.less + g.more; less = f.more + g.less; same = omega (arith, ints, f.same, g.same, same) })

pub one_sample_of : (n : ℕ) (context : ℤ) (p a b : ℕ) → IsCodedDepth n → a < 2 ^ n → b < 2 ^ n → difference_of n context p a ≡ difference_of n context p b → a ≡ b
unfolding difference_of
one_sample_of n context p a b depth small tiny = either (int_lt context (pos 0))
  where
    either : (t : Bool) → cond t (fold n (pos p -ℤ pos a)) (fold n (pos a -ℤ pos p)) ≡ cond t (fold n (pos p -ℤ pos b)) (fold n (pos b -ℤ pos p)) → a ≡ b
    either true same = fold_right n p a b depth small tiny same
    either false same = fold_left n p a b depth small tiny same

pub difference_range : (p : Plane) (s : ℕ) → IsCodedDepth p.coding.depth → IsDifference p.coding.depth (difference_at p s)
unfolding difference_of
difference_range p s depth = either (int_lt (context_at p s) (pos 0))
  where
    either : (t : Bool) → IsDifference p.coding.depth (cond t (fold p.coding.depth (pos (prediction_at p s) -ℤ pos (get_or p.samples s 0)))
        (fold p.coding.depth (pos (get_or p.samples s 0) -ℤ pos (prediction_at p s))))
    either true = fold_range p.coding.depth (pos (prediction_at p s) -ℤ pos (get_or p.samples s 0)) depth
    either false = fold_range p.coding.depth (pos (get_or p.samples s 0) -ℤ pos (prediction_at p s)) depth

-- Two planes of one width that are coded alike, of which all rows above row y are the same.
module _ (w : ℕ) (coding : Coding) (some : 0 < w) (deep : IsCodedDepth coding.depth) (xs ys : List ℕ) (small : (j : ℕ) → get_or xs j 0 < 2 ^ coding.depth)
    (tiny : (j : ℕ) → get_or ys j 0 < 2 ^ coding.depth) (y : ℕ) (above : (j : ℕ) → j < y * w → get_or xs j 0 ≡ get_or ys j 0) where
  contexts_same : (n : ℕ) → ((j : ℕ) → j < n → get_or xs j 0 ≡ get_or ys j 0) → context_at (plane_of w coding xs) n ≡ context_at (plane_of w coding ys) n
  contexts_same n same = ap (context_of coding.entry) (neighbours_same w n some xs ys same)

  AreAlikeTo : ℕ → Type 0
  AreAlikeTo n = (j : ℕ) → j < n → difference_at (plane_of w coding xs) (y * w + j) ≡ difference_at (plane_of w coding ys) (y * w + j)

  samples_same : (n : ℕ) → AreAlikeTo n → (j : ℕ) → j < y * w + n → get_or xs j 0 ≡ get_or ys j 0
  unfolding AreAlikeTo
  samples_same zero alike j h = above j (omega arith)
  samples_same (suc n) alike j h =
      let place = y * w + n in
      let before = samples_same n (λ i less. alike i (omega arith)) in
      ⊎_elim (λ less. before j less)
      (λ most.
      let j_is : place ≡ j = omega arith in
      let near = neighbours_same w place some xs ys before in
      let here : difference_of coding.depth (context_of coding.entry (neighbours_at w xs place)) (prediction_of (neighbours_at w xs place)) (get_or xs place 0)
      ≡ difference_of coding.depth (context_of coding.entry (neighbours_at w xs place)) (prediction_of (neighbours_at w xs place)) (get_or ys place 0) =
      alike n (omega arith) ∙ ap (λ z. difference_of coding.depth (context_of coding.entry z) (prediction_of z) (get_or ys place 0)) (sym near) in
      let same : get_or xs place 0 ≡ get_or ys place 0 = one_sample_of _ _ _ _ _ deep (small place) (tiny place) here in
      subst (λ (i : ℕ). get_or xs i 0 ≡ get_or ys i 0) j_is same)
      (cases_lt j place)

  -- where all differences of the row before a column are the same, the contexts there are
  contexts_alike : (n : ℕ) → AreAlikeTo n → context_at (plane_of w coding xs) (y * w + n) ≡ context_at (plane_of w coding ys) (y * w + n)
  contexts_alike n alike = contexts_same (y * w + n) (samples_same n alike)

  -- what two spellings of the row have in common
  pub record IsOneRow (next last : ℕ) (rest more : List Bool) : Type 0 where
    pub samples : (j : ℕ) → j < y * w + w → get_or xs j 0 ≡ get_or ys j 0
    pub values : (k : ℕ) → values_before (residuals_of (plane_of w coding xs) y) k w ≡ values_before (residuals_of (plane_of w coding ys) y) k w
    pub index : next ≡ last
    pub later : rest ≡ more

  pub one_row : (earlier : ℕ → List ℤ) (first : ℕ) (front words rest more : List Bool) (next last : ℕ)
      → RowSpells earlier (residuals_of (plane_of w coding xs) y) first front next → RowSpells earlier (residuals_of (plane_of w coding ys) y) first words last
      → front ++ rest ≡ words ++ more → IsOneRow next last rest more
  unfolding residuals_of AreAlikeTo
  one_row earlier first front words rest more next last a b same =
      let p = plane_of w coding xs in
      let q = plane_of w coding ys in
      let c = λ (x : ℕ). context_at p (y * w + x) in
      let e = λ (x : ℕ). context_at q (y * w + x) in
      let d = λ (x : ℕ). difference_at p (y * w + x) in
      let f = λ (x : ℕ). difference_at q (y * w + x) in
      let range = λ (x : ℕ). difference_range p (y * w + x) deep in
      let also = λ (x : ℕ). difference_range q (y * w + x) deep in
      let read = one_reading earlier coding.depth w c e d f deep range also contexts_alike first w front words rest more next last (omega arith) a b same in
      record {
        samples = samples_same w read.0.differences;
        values = λ k. before_alike earlier coding.depth w c e d f deep range also contexts_alike w k read.0.differences;
        index = read.1;
        later = read.2;
      }

  -- a refused word of the row excludes a spelling of it
  pub row_excludes : (earlier : ℕ → List ℤ) (first x : ℕ) (part others front tail : List Bool) (last : ℕ) (fault : CodeFault) → x < w
      → IsWordRefused earlier (residuals_of (plane_of w coding xs) y) first x part others fault
      → RowSpells earlier (residuals_of (plane_of w coding ys) y) first front last → part ++ others ≡ front ++ tail → ⊥
  unfolding residuals_of AreAlikeTo
  row_excludes earlier first x part others front tail last fault inside refused spells same =
      let p = plane_of w coding xs in
      let q = plane_of w coding ys in
      refused_excludes earlier coding.depth w first (λ x. context_at p (y * w + x)) (λ x. context_at q (y * w + x)) (λ x. difference_at p (y * w + x))
      (λ x. difference_at q (y * w + x)) deep (λ x. difference_range p (y * w + x) deep) (λ x. difference_range q (y * w + x) deep) contexts_alike
      x w last part others front tail fault inside (omega arith) refused spells same

  -- and one word of the row is refused
  pub row_one : (earlier : ℕ → List ℤ) (first x u : ℕ) (part others more tail : List Bool) (fault other : CodeFault) → x < w → u < w
      → IsWordRefused earlier (residuals_of (plane_of w coding xs) y) first x part others fault
      → IsWordRefused earlier (residuals_of (plane_of w coding ys) y) first u more tail other → part ++ others ≡ more ++ tail → IsOneWord x u fault other
  unfolding residuals_of AreAlikeTo
  row_one earlier first x u part others more tail fault other inside there refused refused_too same =
      let p = plane_of w coding xs in
      let q = plane_of w coding ys in
      refused_one earlier coding.depth w first (λ x. context_at p (y * w + x)) (λ x. context_at q (y * w + x)) (λ x. difference_at p (y * w + x))
      (λ x. difference_at q (y * w + x)) deep (λ x. difference_range p (y * w + x) deep) (λ x. difference_range q (y * w + x) deep) contexts_alike
      x u part others more tail fault other inside there refused refused_too same
