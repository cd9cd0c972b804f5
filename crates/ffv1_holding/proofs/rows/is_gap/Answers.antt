use Rattle.std.proofs.Common.{◌≡◌, ◌<◌, length, Bool, true, false, sym, refl, ◌∙◌, arith}
use Rattle.std.specs.Bool.{OnTrue}
use Rattle.ffv1_holding.specs.SliceOrder.{Entry}
use Rattle.ffv1_holding.proofs.RowParts.{owner_less, owner_greater, gap_parted}
use Rattle.ffv1_holding.proofs.rows.is_gap.Goals as goal
use Rattle.ffv1_holding.proofs.rows.is_gap.Goals.{else-place-gt0-via-then-place-gt0+else-not-is_lt, else-place-gt0-via-else-place-gt0}

OnTrue-of : {P : Type 0} (b : Bool) → (b ≡ true → P) → OnTrue b P
OnTrue-of true leads = leads refl
OnTrue-of false leads = tt

pub returns-then-place-owners-2 : goal.returns-then-place-owners-2
returns-then-place-owners-2 c =
    let r = c.args.rows in
    let key : Entry = (c.args.tile, c.args.slice.now) in
    let last = gap_parted r.bytes.now r.owners.now r.digests.now c.requires key c.args.place c.if-place-owners.false in
    OnTrue-of _ (λ _. elim c.else-place-gt0.branch [
      | else-place-gt0-via-then-place-gt0+else-not-is_lt w ↦
          last (λ _. owner_less r.bytes.now r.owners.now r.digests.now c.requires key _ _ w.compare.result (omega arith) w.compare.ensures
          (sym w.is_lt.ensures ∙ w.if-not-is_lt.false)) (λ lt. absurd (omega arith))
      | else-place-gt0-via-else-place-gt0 w ↦ last (λ lt. absurd (omega arith)) (λ lt. absurd (omega arith))
    ])

pub returns-else-place-owners-2 : goal.returns-else-place-owners-2
returns-else-place-owners-2 c =
    let r = c.args.rows in
    let key : Entry = (c.args.tile, c.args.slice.now) in
    let between = gap_parted r.bytes.now r.owners.now r.digests.now c.requires key c.args.place c.if-place-owners.false in
    let above = λ (greater : c.is_gt.result ≡ true) (lt : c.args.place < length r.owners.now). owner_greater r.bytes.now r.owners.now r.digests.now c.requires key
    c.args.place _ c.compare-else-place-owners-2.result lt c.compare-else-place-owners-2.ensures (sym c.is_gt.ensures ∙ greater) in
    OnTrue-of c.is_gt.result (λ greater. elim c.else-place-gt0.branch [
      | else-place-gt0-via-then-place-gt0+else-not-is_lt w ↦
          between (λ _. owner_less r.bytes.now r.owners.now r.digests.now c.requires key _ _ w.compare.result (omega arith) w.compare.ensures
          (sym w.is_lt.ensures ∙ w.if-not-is_lt.false)) (above greater)
      | else-place-gt0-via-else-place-gt0 w ↦ between (λ lt. absurd (omega arith)) (above greater)
    ])
