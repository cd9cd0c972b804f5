use Rattle.std.proofs.Common.{◌+◌, inl, inr, subst, arith}
use Rattle.ffv1_layout.proofs.Marking.{no_row, row_in_rows, last_row, tile_in_rows, rows_have_tile}
use Rattle.ffv1_layout.specs.Inner.Marking.{IsInRows}
use Rattle.ffv1_layout.proofs.tiles.is_free.Goals as goal

pub loop-row-init : goal.loop-row-init
loop-row-init c tile is = absurd (no_row c.args.across c.args.header.now tile is)

pub returns-then-not-are_free : goal.returns-then-not-are_free
returns-then-not-are_free c =
    let across = c.args.across in
    let header = c.args.header.now in
    let row = c.loop-row.row in
    let found = c.if-not-are_free.ensures in
    (found.0, rows_have_tile across header (row + 1) found.0 (omega arith) (row_in_rows across header row found.0 c.loop-row.auto.row found.1), found.2)

pub loop-row-preserved : goal.loop-row-preserved
loop-row-preserved c tile is = elim (last_row c.args.across c.args.header.now c.loop-row.row tile is) [
  | inl earlier ↦ c.loop-row.invariant tile earlier
  | inr last ↦ c.if-not-are_free.ensures tile last
]

pub returns : goal.returns
returns c tile has =
    let header = c.args.header.now in
    c.loop-row.invariant tile (subst (λ n. IsInRows c.args.across header n tile) {x = header.y + header.h} {y = c.loop-row.row} (omega arith)
    (tile_in_rows c.args.across header tile has))
