use Rattle.std.proofs.Common.{◌≡◌, ℕ, ◌+◌, ◌≤◌, cond, refl, sym, ap, ◌∙◌, arith, count_by}
use Rattle.std.specs.List.{range_with_len}
use Rattle.ffv1_holding.specs.Contents.{Contents}
use Rattle.ffv1_holding.specs.TileState.{StateOfTile, missing, settled, disputed, tile_state}
use Rattle.ffv1_holding.specs.TileStates.{state_shown}
use Rattle.ffv1_holding.specs.ReportText.{is_settled, is_disputed, is_missing}
use Rattle.ffv1_holding.specs.declared.reporting.Counts.{Counts}
use Rattle.ffv1_holding.proofs.Reports.{with_tile}
use Rattle.ffv1_holding.proofs.reporting.counts_of.Goals as goal
use Rattle.ffv1_holding.proofs.reporting.counts_of.Goals.{in-Settled, in-Disputed, in-Missing}

-- the counts with one tile more, by how it stands
abbrev next : StateOfTile → Counts → Counts
next (settled slice) k = record { settled = k.settled + 1; disputed = k.disputed; missing = k.missing }
next (disputed slices) k = record { settled = k.settled; disputed = k.disputed + 1; missing = k.missing }
next missing k = record { settled = k.settled; disputed = k.disputed; missing = k.missing + 1 }

next_is : (s : StateOfTile) (k : Counts) → record {
  settled : (next s k).settled ≡ k.settled + cond (is_settled s) 1 0;
  disputed : (next s k).disputed ≡ k.disputed + cond (is_disputed s) 1 0;
  missing : (next s k).missing ≡ k.missing + cond (is_missing s) 1 0;
  all : (next s k).settled + (next s k).disputed + (next s k).missing ≡ k.settled + k.disputed + k.missing + 1;
}
next_is (settled slice) k = record { settled = refl; disputed = omega arith; missing = omega arith; all = omega arith }
next_is (disputed slices) k = record { settled = omega arith; disputed = refl; missing = omega arith; all = omega arith }
next_is missing k = record { settled = omega arith; disputed = omega arith; missing = refl; all = omega arith }

-- the tiles below a number are counted
abbrev AreCounted : Contents → ℕ → Counts → Type 0
AreCounted h n k = record {
  settled : k.settled ≡ count_by (λ tile. is_settled (tile_state h tile)) (range_with_len 0 n);
  disputed : k.disputed ≡ count_by (λ tile. is_disputed (tile_state h tile)) (range_with_len 0 n);
  missing : k.missing ≡ count_by (λ tile. is_missing (tile_state h tile)) (range_with_len 0 n);
  few : k.settled + k.disputed + k.missing ≤ n;
}

one_more : (h : Contents) (n : ℕ) (old new : Counts) (s : StateOfTile) → AreCounted h n old → s ≡ tile_state h n → new ≡ next s old → AreCounted h (n + 1) new
one_more h n old new s so_far is then =
    let more = next_is s old in
    rw then (record {
      settled = more.settled ∙ with_tile h is_settled n _ so_far.settled s is;
      disputed = more.disputed ∙ with_tile h is_disputed n _ so_far.disputed s is;
      missing = more.missing ∙ with_tile h is_missing n _ so_far.missing s is;
      few = omega (arith, so_far.few, more.all);
    })

pub loop-tile-preserved : goal.loop-tile-preserved
loop-tile-preserved g c =
    elim c.match-state.branch [
      | in-Settled w ↦ one_more c.args.holding.now c.loop-tile.tile _ _ _ c.loop-tile.invariant (ap state_shown (sym w.in-Settled.is) ∙ c.state.ensures) w.counts-is
      | in-Disputed w ↦ one_more c.args.holding.now c.loop-tile.tile _ _ _ c.loop-tile.invariant (ap state_shown (sym w.in-Disputed.is) ∙ c.state.ensures) w.counts-is
      | in-Missing w ↦ one_more c.args.holding.now c.loop-tile.tile _ _ _ c.loop-tile.invariant (ap state_shown (sym w.in-Missing.is) ∙ c.state.ensures) w.counts-is
    ]
