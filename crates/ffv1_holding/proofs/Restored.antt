-- A holding of just the original's slices restores the original.
use Rattle.std.proofs.Common.{◌≡◌, ℕ, zero, suc, ◌+◌, ◌*◌, ◌<◌, eqb, true, false, ◌||◌, ◌&&◌, cond, List, [], ◌∷◌, ◌++◌, length, map, get_or, refl, sym, ap, ◌∙◌, arith}
use mathlib.Core.Bool.{or-false}
use Rattle.std.specs.List.{list_any, filter, flat_map, range_with_len, enumerate_from}
use Rattle.std.specs.Ordering.{eq_by_cmp}
use Rattle.std.proofs.lemmas.Bool.{le-leb}
use Rattle.ffv1_holding.specs.SliceOrder.{entry_cmp, bytes_cmp, bytes_total, bytes_antisymmetric, entries_total}
use Rattle.ffv1_holding.specs.Sets as set
use Rattle.ffv1_slice.specs.Slices.{IsOriginal}
use Rattle.ffv1_range.specs.Header.{HeadLimits}
use Rattle.ffv1_holding.specs.Reels.{IsReel, reel_tiles}
use Rattle.ffv1_holding.specs.Contents.{Contents}
use Rattle.ffv1_holding.specs.TileSets.{tile_slices}
use Rattle.ffv1_holding.specs.TileState.{StateOfTile, status_of, tile_state, tile_state_of, state_of_best, settled, settled_bytes, restored_payload}
use Rattle.ffv1_holding.specs.Originals.{HoldsExactly}
use Rattle.ffv1_holding.proofs.Reels.{reel_limits}
use Rattle.ffv1_holding.proofs.RisingSets.{items-from_list}
use Rattle.ffv1_holding.proofs.Tiles.{any_of_tile, same_tile, other_tile}

any-below : (t k : ℕ) (b : List ℕ) (slices : List (List ℕ)) → t < k → list_any (eq_by_cmp entry_cmp (t, b)) (enumerate_from k slices) ≡ false
any-below t k b [] lt = refl
any-below t k b (s ∷ slices) lt = (λ i. other_tile t k b s (λ e. omega arith) i || any-below t (k + 1) b slices (omega arith) i)

any-numbered : (t k : ℕ) (b : List ℕ) (slices : List (List ℕ)) (i : ℕ) (d : List ℕ) → k + i ≡ t → i < length slices
    → list_any (eq_by_cmp entry_cmp (t, b)) (enumerate_from k slices) ≡ eq_by_cmp bytes_cmp b (get_or slices i d)
any-numbered t k b [] i d e lt = absurd (omega arith)
any-numbered t k b (s ∷ slices) zero d e lt =
    (λ j. eq_by_cmp entry_cmp (t, b) (k, s) || any-below t (k + 1) b slices (omega arith) j) ∙ or-false _
    ∙ ap (λ n. eq_by_cmp entry_cmp (t, b) (n, s)) {x = k} {y = t} (omega arith) ∙ same_tile t b s
any-numbered t k b (s ∷ slices) (suc i) d e lt =
    (λ j. other_tile t k b s (λ same. omega arith) j || any-numbered t (k + 1) b slices i d (omega arith) (omega arith) j)

module _ (h : Contents) (slices : List (List ℕ)) (exact : HoldsExactly h slices) where
  one_slice : (t : ℕ) (d : List ℕ) → t < length slices → tile_slices h.slices t ≡ set.from_list (get_or slices t d ∷ [])
  unfolding tile_slices
  one_slice t d lt = set.same_set bytes_total bytes_antisymmetric _ _ (λ b.
      set.contains-from_list bytes_total (map (λ e. e.1) (filter (λ e. eqb e.0 t) (set.items h.slices))) b
      ∙ any_of_tile t b (set.items h.slices) ∙ sym (set.contains-items h.slices (t, b)) ∙ ap (λ s. set.contains s (t, b)) exact
      ∙ set.contains-from_list entries_total (enumerate_from 0 slices) (t, b) ∙ any-numbered t 0 b slices t d (omega arith) lt
      ∙ sym (or-false (eq_by_cmp bytes_cmp b (get_or slices t d))) ∙ sym (set.contains-from_list bytes_total (get_or slices t d ∷ []) b))

  alone : (b : List ℕ) → tile_state_of (b ∷ []) ≡ settled b
  alone b = ap (λ x. state_of_best (cond (x && true) (b ∷ []) [])) (le-leb (status_of b) (status_of b) (omega arith))

  pub settled_alone : (t : ℕ) (d : List ℕ) → t < length slices → tile_state h t ≡ settled (get_or slices t d)
  settled_alone t d lt =
      ap (λ s. tile_state_of (set.items s)) (one_slice t d lt)
      ∙ ap tile_state_of (items-from_list bytes_total (get_or slices t d ∷ []) (λ i j e below in_range. absurd (omega arith)))
      ∙ alone (get_or slices t d)

  joined_from : (k n : ℕ) (rest : List (List ℕ)) → length rest ≡ n → ((i : ℕ) (d : List ℕ) → i < n → settled_bytes (tile_state h (k + i)) ≡ get_or rest i d)
      → flat_map (λ t. settled_bytes (tile_state h t)) (range_with_len k n) ≡ flat_map (λ s. s) rest
  joined_from k zero [] e is = refl
  joined_from k zero (s ∷ rest) e is = absurd (omega arith)
  joined_from k (suc n) [] e is = absurd (omega arith)
  joined_from k (suc n) (s ∷ rest) e is =
      (λ j. ((ap (λ t. settled_bytes (tile_state h t)) {x = k} {y = k + 0} (omega arith) ∙ is 0 s (omega arith)) j)
      ++ joined_from (k + 1) n rest (omega arith) (λ i d lt. ap (λ t. settled_bytes (tile_state h t)) {x = k + 1 + i} {y = k + suc i} (omega arith)
      ∙ is (suc i) d (omega arith)) j)

  -- an original has a slice for each tile
  pub tile_for_each : (payload : List ℕ) → IsReel h.reel → IsOriginal h.reel.rules payload slices → length slices ≡ reel_tiles h.reel
  tile_for_each payload reel original = original.count ∙ ap (λ (limits : HeadLimits). limits.across * limits.down) (reel_limits h.reel reel)

  pub restored_original : (payload : List ℕ) → IsReel h.reel → IsOriginal h.reel.rules payload slices → restored_payload h ≡ payload
  restored_original payload reel original =
      let count = tile_for_each payload reel original in
      joined_from 0 (reel_tiles h.reel) slices count (λ i d lt. ap (λ t. settled_bytes (tile_state h t)) {x = 0 + i} {y = i} (omega arith)
      ∙ ap settled_bytes (settled_alone i d (omega (arith, count))))
      ∙ sym original.joined

  -- no tile of the original is unsettled
  pub never_unsettled : (payload : List ℕ) → IsReel h.reel → IsOriginal h.reel.rules payload slices → (t : ℕ) → t < (reel_tiles h.reel) → (s : StateOfTile) → s ≡ tile_state h t
      → ((b : List ℕ) → s ≡ settled b → ⊥) → ⊥
  never_unsettled payload reel original t lt s is other =
      other (get_or slices t []) (is ∙ settled_alone t [] (omega (arith, tile_for_each payload reel original)))
