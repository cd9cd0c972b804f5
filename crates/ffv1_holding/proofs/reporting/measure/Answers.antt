use Rattle.std.proofs.Common.{◌≡◌, ◌+◌, ◌++◌, List, ℕ, length, sym, ap, subst, ◌∙◌, arith}
use Rattle.std.proofs.lemmas.List.{append-nil, length-append}
use Rattle.std.specs.List.{flat_map, range_with_len}
use Rattle.sha2.specs.Hashers.{Holds256}
use Rattle.sha2.specs.declared.Sha256.{Sha256}
use Rattle.ffv1_holding.specs.TileState.{settled_bytes, tile_state}
use Rattle.ffv1_holding.specs.TileStates.{state_shown}
use Rattle.ffv1_holding.proofs.Lists.{flat_map-range_more}
use Rattle.ffv1_holding.proofs.TileStatesOf.{settled_bytes-none}
use Rattle.ffv1_holding.proofs.SettledSlices.{settled_entry}
use Rattle.ffv1_holding.proofs.reporting.measure.Goals as goal
use Rattle.ffv1_holding.proofs.reporting.measure.Goals.{in-Settled, in_default}

pub loop-tile-preserved : goal.loop-tile-preserved
loop-tile-preserved g c =
    let h = c.args.holding.now in
    let n = c.loop-tile.tile in
    let so_far = c.loop-tile.invariant in
    let bytes = λ (tile : ℕ). settled_bytes (tile_state h tile) in
    let before = flat_map bytes (range_with_len 0 n) in
    let Q : List ℕ → Type 0 = λ m. Holds256 c.match-state.hasher m in
    elim c.match-state.branch [
      | in-Settled w ↦
          let slice = w.in-Settled.slice.now in
          let is = ap state_shown (sym w.in-Settled.is) ∙ c.state.ensures in
          let all : before ++ slice ≡ flat_map bytes (range_with_len 0 (n + 1)) =
          ap (λ xs. before ++ xs) (ap settled_bytes is) ∙ sym (flat_map-range_more bytes n) in
          let P : Sha256 → Type 0 = λ hasher. Holds256 hasher (before ++ slice) in
          record {
            hashed = subst Q all (subst P (sym w.hasher-is) (w.update.ensures before so_far.hashed));
            counted = omega (arith, w.bytes-is, so_far.counted, length-append before slice, ap length all);
            few = omega (arith, w.bytes-is, so_far.few, (settled_entry h c.reel.ensures.well_formed n slice (sym is)).fits);
          }
      | in_default w ↦
          let none = sym (settled_bytes-none c.state.result w.in_default.not-Settled) ∙ ap settled_bytes c.state.ensures in
          let all : before ≡ flat_map bytes (range_with_len 0 (n + 1)) = sym (append-nil before)
          ∙ ap (λ xs. before ++ xs) none ∙ sym (flat_map-range_more bytes n) in
          let P : Sha256 → Type 0 = λ hasher. Holds256 hasher before in
          record {
            hashed = subst Q all (subst P (sym w.hasher-is) so_far.hashed);
            counted = omega (arith, w.bytes-is, so_far.counted, ap length all);
            few = omega (arith, w.bytes-is, so_far.few);
          }
    ]
