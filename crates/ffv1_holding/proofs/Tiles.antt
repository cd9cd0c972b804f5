-- Which entries are of a tile.
use Rattle.std.proofs.Common.{◌≡◌, ◌≢◌, ℕ, ◌==◌, cond, true, false, ◌||◌, List, [], ◌∷◌, map, sym, refl, ap, ◌∙◌}
use Rattle.std.specs.List.{list_any, filter}
use Rattle.std.specs.Ordering.{nat_cmp, ordering_then, is_eq, eq_by_cmp}
use Rattle.std.specs.Cmp.{tied_itself, nat_cmp_total}
use Rattle.std.specs.FinMap.{nat_cmp-IsAntisymmetric}
use Rattle.std.specs.declared.cmp.Ordering.{Ordering}
use Rattle.std.specs.declared.cmp.Ordering.TheVariants.{Less, Equal, Greater}
use Rattle.std.proofs.lemmas.Bool.{eqb-true, eqb-false}
use Rattle.ffv1_holding.specs.SliceOrder.{Entry, bytes_cmp, entry_cmp, bytes_total}
use Rattle.ffv1_holding.specs.Sets as set
use Rattle.ffv1_holding.specs.TileSets.{tile_slices}

-- entries of one tile compare as their slices, and those of two never tie
pub same_tile : (t : ℕ) (b c : List ℕ) → eq_by_cmp entry_cmp (t, b) (t, c) ≡ eq_by_cmp bytes_cmp b c
same_tile t b c = ap (λ r. is_eq (ordering_then r (bytes_cmp b c))) (tied_itself nat_cmp_total t)

not_equal : (r s : Ordering) → r ≢ Equal → is_eq (ordering_then r s) ≡ false
not_equal Less s h = refl
not_equal Equal s h = absurd (h refl)
not_equal Greater s h = refl

pub other_tile : (t u : ℕ) (b c : List ℕ) → t ≢ u → eq_by_cmp entry_cmp (t, b) (u, c) ≡ false
other_tile t u b c ne = not_equal (nat_cmp t u) (bytes_cmp b c) (λ e. ne (nat_cmp-IsAntisymmetric t u e))

pub any-same : (t : ℕ) (b : List ℕ) (xs : List (List ℕ)) → list_any (eq_by_cmp entry_cmp (t, b)) (map (λ c. (t, c)) xs) ≡ list_any (eq_by_cmp bytes_cmp b) xs
any-same t b [] = refl
any-same t b (x ∷ xs) = (λ i. same_tile t b x i || any-same t b xs i)

pub any-other : (t u : ℕ) (b : List ℕ) (xs : List (List ℕ)) → t ≢ u → list_any (eq_by_cmp entry_cmp (t, b)) (map (λ c. (u, c)) xs) ≡ false
any-other t u b [] ne = refl
any-other t u b (x ∷ xs) ne = (λ i. other_tile t u b x ne i || any-other t u b xs ne i)

-- the entries of a tile, without it
pub any_of_tile : (t : ℕ) (b : List ℕ) (es : List Entry) → list_any (eq_by_cmp bytes_cmp b)
    (map (λ e. e.1) (filter (λ e. e.0 == t) es)) ≡ list_any (eq_by_cmp entry_cmp (t, b)) es
any_of_tile t b [] = refl
any_of_tile t b (e ∷ es) = elim (e.0 == t) as (λ x. (e.0 == t) ≡ x → list_any (eq_by_cmp bytes_cmp b)
    (map (λ e. e.1) (cond x (e ∷ filter (λ e. e.0 == t) es) (filter (λ e. e.0 == t) es))) ≡
    (eq_by_cmp entry_cmp (t, b) e || list_any (eq_by_cmp entry_cmp (t, b)) es)) [
      | true ↦ λ is. (λ i. (sym (same_tile t b e.1) ∙ ap (λ n. eq_by_cmp entry_cmp (t, b) (n, e.1)) (sym (eqb-true e.0 t is))) i || any_of_tile t b es i)
      | false ↦ λ is. any_of_tile t b es ∙ ap (λ x. x || list_any (eq_by_cmp entry_cmp (t, b)) es)
          (sym (other_tile t e.0 b e.1 (λ same. eqb-false e.0 t is (sym same))))
    ] refl

-- a tile's slices are those that are held of it
pub contains-tile_slices : (slices : set.SetOf entry_cmp) (t : ℕ) (b : List ℕ) → set.contains (tile_slices slices t) b ≡ set.contains slices (t, b)
unfolding tile_slices
contains-tile_slices slices t b =
    set.contains-from_list bytes_total (map (λ e. e.1) (filter (λ e. e.0 == t) (set.items slices))) b
    ∙ any_of_tile t b (set.items slices) ∙ sym (set.contains-items slices (t, b))
