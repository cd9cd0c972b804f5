use Rattle.std.proofs.Common.{◌++◌, ℕ, sym, ap, ◌∙◌, refl}
use Rattle.std.proofs.lemmas.List.{append-nil}
use Rattle.std.specs.List.{flat_map, range_with_len}
use Rattle.ffv1_holding.specs.TileState.{settled_bytes, tile_state}
use Rattle.ffv1_holding.specs.TileStates.{state_shown}
use Rattle.ffv1_holding.proofs.Lists.{flat_map-range_more}
use Rattle.ffv1_holding.proofs.TileStatesOf.{settled_bytes-none}
use Rattle.std.proofs.lemmas.Result.{err_from_is_err_and}
use Rattle.ffv1_holding.proofs.holding.Holding.joined_slices.Goals as goal
use Rattle.ffv1_holding.proofs.holding.Holding.joined_slices.Goals.{in-Settled+in_ok-extend_from_slice, in_default}

pub loop-tile-preserved : goal.loop-tile-preserved
loop-tile-preserved g c =
    let bytes = λ (tile : ℕ). settled_bytes (tile_state c.args.self.now tile) in
    let t = c.loop-tile.tile in
    let so_far = flat_map bytes (range_with_len 0 t) in
    elim c.match-state.branch [
      | in-Settled+in_ok-extend_from_slice w ↦
          ap (λ v. v.items) w.payload-is ∙ w.in_ok-extend_from_slice.ensures.items ∙ ap (λ xs. xs ++ w.in-Settled.slice.now) c.loop-tile.invariant
          ∙ ap (λ xs. so_far ++ xs) (ap (λ r. settled_bytes (state_shown r)) (sym w.in-Settled.is) ∙ ap settled_bytes c.state.ensures)
          ∙ sym (flat_map-range_more bytes t)
      | in_default w ↦
          ap (λ v. v.items) w.payload-is ∙ c.loop-tile.invariant ∙ sym (append-nil so_far)
          ∙ ap (λ xs. so_far ++ xs) (sym (settled_bytes-none c.state.result w.in_default.not-Settled) ∙ ap settled_bytes c.state.ensures)
          ∙ sym (flat_map-range_more bytes t)
    ]

pub returns-in_err-extend_from_slice : goal.returns-in_err-extend_from_slice
returns-in_err-extend_from_slice g c =
    let p = err_from_is_err_and c.from_residual.result c.from_residual.ensures.1 in
    rw (p.1, p.2) (record { ok = tt; memory = refl })
