-- The settled slice of a tile is a slice of the tile.
use Rattle.std.proofs.Common.{◌≡◌, ℕ, Bool, true, false, ◌||◌, cond, List, [], ◌∷◌, refl, sym, ap, ◌∙◌}
use Rattle.std.proofs.lemmas.Bool.{or_right}
use Rattle.std.specs.List.{filter, list_any}
use Rattle.std.specs.Ordering.{eq_by_cmp, is_eq}
use Rattle.std.specs.Cmp.{tied_itself}
use Rattle.ffv1_holding.specs.SliceOrder.{bytes_cmp, bytes_total}
use Rattle.ffv1_holding.specs.Sets as set
use Rattle.ffv1_holding.specs.TileSets.{tile_slices}
use Rattle.ffv1_holding.specs.Contents.{Contents, IsHolding, IsEntryOf}
use Rattle.ffv1_holding.specs.TileState.{settled, tile_state, state_of_best, best_slices}
use Rattle.ffv1_holding.proofs.Tiles.{contains-tile_slices}

pub only_best : (best : List (List ℕ)) (slice : List ℕ) → state_of_best best ≡ settled slice → best ≡ slice ∷ []
only_best [] slice is = absurd (cc)
only_best (b ∷ []) slice is = let same : b ≡ slice = cc in ap (λ x. x ∷ []) same
only_best (b ∷ c ∷ more) slice is = absurd (cc)

any_filtered : {X : Type 0} (p q : X → Bool) (xs : List X) → list_any q (filter p xs) ≡ true → list_any q xs ≡ true
any_filtered p q [] any = any
any_filtered p q (x ∷ xs) any = elim (p x) as (λ b. list_any q (cond b (x ∷ filter p xs) (filter p xs)) ≡ true → (q x || list_any q xs) ≡ true) [
  | true ↦ λ any. elim (q x) as (λ b. (b || list_any q (filter p xs)) ≡ true → (b || list_any q xs) ≡ true) [
    | true ↦ λ any. refl
    | false ↦ λ any. any_filtered p q xs any
  ] any
  | false ↦ λ any. or_right (q x) (list_any q xs) (any_filtered p q xs any)
] any

module _ (h : Contents) (well_formed : IsHolding h) (tile : ℕ) (slice : List ℕ) (is : tile_state h tile ≡ settled slice) where
  abbrev held : List (List ℕ)
  held = set.items (tile_slices h.slices tile)

  among_best : list_any (eq_by_cmp bytes_cmp slice) (best_slices held) ≡ true
  among_best =
      ap (list_any (eq_by_cmp bytes_cmp slice)) (only_best (best_slices held) slice is)
      ∙ ap (λ o. is_eq o || false) (tied_itself bytes_total slice)

  pub settled_held : set.contains h.slices (tile, slice) ≡ true
  settled_held =
      sym (contains-tile_slices h.slices tile slice) ∙ set.contains-items (tile_slices h.slices tile) slice
      ∙ any_filtered _ (eq_by_cmp bytes_cmp slice) held among_best

  pub settled_entry : IsEntryOf h.reel.rules (tile, slice)
  settled_entry = well_formed.slices (tile, slice) settled_held
