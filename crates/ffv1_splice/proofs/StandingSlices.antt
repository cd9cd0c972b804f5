-- Lists of slices that stand one after the other.
use Rattle.ffv1_splice.proofs.Common.{◌≡◌, ℕ, ◌+◌, ◌<◌, ◌≤◌, List, [], ◌∷◌, ◌++◌, length, refl, sym, ap, ◌∙◌, subst, arith, append_assoc, append-nil}
use Rattle.ffv1_splice.specs.Small.{StandEach}

-- the last of slices that stand up to a top
pub record LastOf (Is : ℕ → List ℕ → Type 0) (start : ℕ) (slices : List (List ℕ)) (top : ℕ) : Type 0 where
  pub first : List (List ℕ)
  pub at : ℕ
  pub slice : List ℕ
  pub is : slices ≡ first ++ slice ∷ []
  pub each : StandEach Is start first at
  pub last : Is at slice
  pub ends : at + length slice ≡ top

module _ (Is : ℕ → List ℕ → Type 0) (long : (start : ℕ) (slice : List ℕ) → Is start slice → 0 < length slice) where
  pub stand_below : (start : ℕ) (slices : List (List ℕ)) (top : ℕ) → StandEach Is start slices top → start ≤ top
  stand_below start [] top each = omega (arith, each)
  stand_below start (slice ∷ slices) top each = omega (arith, stand_below (start + length slice) slices top each.1)

  pub none_between : (start : ℕ) (slices : List (List ℕ)) → StandEach Is start slices start → slices ≡ []
  none_between start [] each = refl
  none_between start (slice ∷ slices) each =
      absurd (omega (arith, long start slice each.0, stand_below (start + length slice) slices start each.1))

  pub last_of : (start : ℕ) (slices : List (List ℕ)) (top : ℕ) → StandEach Is start slices top → start < top → LastOf Is start slices top
  last_of start [] top each lt = absurd (omega (arith, each))
  last_of start (slice ∷ []) top each lt =
      record { first = []; at = start; slice = slice; is = refl; each = refl; last = each.0; ends = each.1 }
  last_of start (slice ∷ (next ∷ rest)) top each lt =
      let after = stand_below (start + length slice + length next) rest top each.1.1 in
      let some = long (start + length slice) next each.1.0 in
      let of = last_of (start + length slice) (next ∷ rest) top each.1 (omega arith) in
      record {
        first = slice ∷ of.first;
        at = of.at;
        slice = of.slice;
        is = ap (λ z. slice ∷ z) of.is;
        each = (each.0, of.each);
        last = of.last;
        ends = of.ends;
      }

-- ---- the same slices, from the top down

-- The slices are the last of these, and the others stand up to where they begin.
pub record AreLastOf (Own : ℕ → List ℕ → Type 0) (floor : ℕ) (own slices : List (List ℕ)) (start : ℕ) : Type 0 where
  pub rest : List (List ℕ)
  pub is : own ≡ rest ++ slices
  pub each : StandEach Own floor rest start

module _ (Own Is : ℕ → List ℕ → Type 0) (long_own : (start : ℕ) (slice : List ℕ) → Own start slice → 0 < length slice)
    (long : (start : ℕ) (slice : List ℕ) → Is start slice → 0 < length slice) (floor : ℕ)
    (agree : (at : ℕ) (own : List ℕ) (start : ℕ) (slice : List ℕ) → Own at own → floor ≤ at → at + length own ≡ start + length slice → Is start slice
    → slice ≡ own) where
  pub same_down : (own : List (List ℕ)) (top : ℕ) → StandEach Own floor own top → (start : ℕ) (slices : List (List ℕ)) → floor ≤ start
      → StandEach Is start slices top → AreLastOf Own floor own slices start
  same_down own top are start [] low each =
      record { rest = own; is = sym (append-nil own); each = subst (StandEach Own floor own) (sym each) are }
  same_down own top are start (slice ∷ slices) low each =
      let some = long start slice each.0 in
      let after = same_down own top are (start + length slice) slices (omega arith) each.1 in
      let of = last_of Own long_own floor after.rest (start + length slice) after.each (omega arith) in
      let same : slice ≡ of.slice =
      agree of.at of.slice start slice of.last (stand_below Own long_own floor of.first of.at of.each) of.ends each.0 in
      let at : of.at ≡ start = omega (arith, ap length same, of.ends) in
      record {
        rest = of.first;
        is = after.is ∙ ap (λ z. z ++ slices) of.is ∙ append_assoc of.first (of.slice ∷ []) slices ∙ ap (λ z. of.first ++ (z ∷ slices)) (sym same);
        each = subst (StandEach Own floor of.first) at of.each;
      }

-- ---- the same slices, from the bottom up

-- The slices are the first of these, and the others stand from where they end.
pub record AreFirstOf (Own : ℕ → List ℕ → Type 0) (top : ℕ) (own slices : List (List ℕ)) (end : ℕ) : Type 0 where
  pub rest : List (List ℕ)
  pub is : own ≡ slices ++ rest
  pub each : StandEach Own end rest top

module _ (Own Is : ℕ → List ℕ → Type 0) (long_own : (start : ℕ) (slice : List ℕ) → Own start slice → 0 < length slice)
    (long : (start : ℕ) (slice : List ℕ) → Is start slice → 0 < length slice) (top : ℕ)
    (agree : (start : ℕ) (own slice : List ℕ) → Own start own → start + length own ≤ top → Is start slice → slice ≡ own) where
  pub same_up : (start : ℕ) (own : List (List ℕ)) → StandEach Own start own top → (slices : List (List ℕ)) (end : ℕ) → end ≤ top
      → StandEach Is start slices end → AreFirstOf Own top own slices end
  same_up start own are [] end within each = record { rest = own; is = refl; each = subst (λ s. StandEach Own s own top) each are }
  same_up start [] are (slice ∷ slices) end within each =
      absurd (omega (arith, are, long start slice each.0, stand_below Is long (start + length slice) slices end each.1))
  same_up start (one ∷ own) are (slice ∷ slices) end within each =
      let same : slice ≡ one = agree start one slice are.0 (stand_below Own long_own (start + length one) own top are.1) each.0 in
      let after =
      same_up (start + length one) own are.1 slices end within (subst (λ (z : List ℕ). StandEach Is (start + length z) slices end) same each.1) in
      record { rest = after.rest; is = ap (λ z. one ∷ z) after.is ∙ ap (λ z. z ∷ (slices ++ after.rest)) (sym same); each = after.each }
