-- A set lists its items in rising order, and an item above all others comes last.
use Rattle.std.proofs.Common.{◌≡◌, ℕ, zero, suc, ◌-◌, ◌<◌, Bool, true, false, ◌&&◌, List, [], ◌∷◌, ◌++◌, length, map, get_or, sym, refl, ap, subst, ◌∙◌, inl, inr, arith, length-append}
use Rattle.std.specs.Prelude.{T}
use Rattle.std.specs.Ordering.{is_lt}
use Rattle.std.specs.Cmp.{IsTotalOrder}
use Rattle.std.specs.FinMap as finite
use Rattle.std.specs.FinMap.{IsAntisymmetric}
use Rattle.std.specs.FinMap.Entries.{is_sorted, below_all}
use Rattle.std.specs.declared.cmp.Ordering.{Ordering}
use Rattle.std.specs.declared.cmp.Ordering.TheVariants.{Less, Equal, Greater}
use Rattle.std.proofs.lemmas.Bool.{cases_lt}
use Rattle.std.proofs.Math.ListN.{get_or-append}
use Rattle.std.proofs.Math.Seq.{get_or-append_right}
use Rattle.ffv1_holding.specs.Sets.{SetOf, contains, from_list, items, same_set, contains-insert, contains-from_list, contains-items}
use Rattle.ffv1_holding.specs.Sets as set
use Rattle.ffv1_holding.specs.Rising.{IsRising}
use Rattle.ffv1_holding.proofs.RisingSets.{items-from_list, union-insert}

is_first : (a b : Bool) → T (a && b) → T a
is_first true b h = tt
is_first false b h = h

is_second : (a b : Bool) → T (a && b) → T b
is_second true b h = h
is_second false b h = absurd h

is_less : (o : Ordering) → T (is_lt o) → o ≡ Less
is_less Less h = refl
is_less Equal h = absurd h
is_less Greater h = absurd h

module _ {K : Type 0} (R : K → K → Ordering) where
  below_at : (k : K) (es : List (K × Unit {0})) → T (below_all R k es) → (j : ℕ) (d : K) → j < length es → R k (get_or (map (λ e. e.0) es) j d) ≡ Less
  below_at k [] h j d lt = absurd (omega arith)
  below_at k (e ∷ es) h zero d lt = is_less _ (is_first _ _ h)
  below_at k (e ∷ es) h (suc j) d lt = below_at k es (is_second _ _ h) j d (omega arith)

  length-keys : (es : List (K × Unit {0})) → length (map (λ e. e.0) es) ≡ length es
  length-keys [] = refl
  length-keys (e ∷ es) = ap suc (length-keys es)

  keys_rise : (es : List (K × Unit {0})) → T (is_sorted R es) → IsRising R (map (λ e. e.0) es)
  keys_rise [] h i j d lt in_range = absurd (omega arith)
  keys_rise (e ∷ es) h zero zero d lt in_range = absurd (omega arith)
  keys_rise (e ∷ es) h zero (suc j) d lt in_range = below_at e.0 es (is_first _ _ h) j d (omega (arith, length-keys es))
  keys_rise (e ∷ es) h (suc i) zero d lt in_range = absurd (omega arith)
  keys_rise (e ∷ es) h (suc i) (suc j) d lt in_range = keys_rise es (is_second _ _ h) i j d (omega arith) (omega arith)

-- a set lists its items in rising order
pub items-rising : {K : Type 0} {R : K → K → Ordering} (s : SetOf R) → IsRising R (items s)
items-rising {R = R} s = keys_rise R (finite.entries s) (finite.entries_sorted s)

module _ {K : Type 0} (R : K → K → Ordering) where
  -- two lists that rise, the first below the second, rise together
  pub rising-append : (xs ys : List K) → IsRising R xs → IsRising R ys
      → ((i j : ℕ) (d : K) → i < length xs → j < length ys → R (get_or xs i d) (get_or ys j d) ≡ Less) → IsRising R (xs ++ ys)
  rising-append xs ys up also below i j d lt in_range =
      let long = length-append xs ys in
      elim (cases_lt j (length xs)) [
        | inl j_left ↦ rw (get_or-append xs ys d i (omega arith), get_or-append xs ys d j j_left) (up i j d lt j_left)
        | inr j_right ↦ elim (cases_lt i (length xs)) [
          | inl i_left ↦ rw (get_or-append xs ys d i i_left, get_or-append_right xs ys j d j_right) (below i (j - length xs) d i_left (omega arith))
          | inr i_right ↦ rw (get_or-append_right xs ys i d i_right, get_or-append_right xs ys j d j_right)
              (also (i - length xs) (j - length xs) d (omega arith) (omega arith))
        ]
      ]

  pub rising_one : (x : K) → IsRising R (x ∷ [])
  rising_one x i j d lt in_range = absurd (omega arith)

module _ {K : Type 0} {R : K → K → Ordering} (o : IsTotalOrder R) (same : IsAntisymmetric R) where
  -- one item more at the end of a list
  pub from_list-push : (s : SetOf R) (e : K) → from_list (items s ++ e ∷ []) ≡ set.insert s e
  from_list-push s e =
      set.from_list-append o same (items s) (e ∷ []) ∙ ap (λ t. set.union t (set.insert set.empty e)) (set.from_list-items o same s)
      ∙ union-insert o same s set.empty e ∙ ap (λ t. set.insert t e) (set.union_empty o same s)

  -- an item above all others comes last
  pub items-insert_last : (s : SetOf R) (e : K) → ((i : ℕ) (d : K) → i < length (items s) → R (get_or (items s) i d) e ≡ Less)
      → items (set.insert s e) ≡ items s ++ e ∷ []
  items-insert_last s e below =
      let up = rising-append R (items s) (e ∷ []) (items-rising s) (rising_one R e)
      (λ i j d lt here. subst (λ k. R (get_or (items s) i d) (get_or (e ∷ []) k d) ≡ Less) {x = 0} {y = j} (omega arith) (below i d lt)) in
      ap items (sym (from_list-push s e)) ∙ items-from_list o (items s ++ e ∷ []) up
