use Rattle.ffv1_hold.proofs.Common.{arith, refl, sym, subst, err_from_is_err_and, TakesText, IsShorter, Never, IsPartOfSlice, SliceIsTooLong}
use Rattle.ffv1_hold.proofs.TextReads.{TakesText-trans, StopsAt-after, shown}
use Rattle.ffv1_hold.proofs.Bodies.{part_of_length, part_of_bytes, slice_text-of}
use Rattle.ffv1_hold.proofs.entry.TileSlice.read_next.Goals as goal

pub returns-in_err-length-clause-read : goal.returns-in_err-length-clause-read
returns-in_err-length-clause-read g c =
    let p = err_from_is_err_and c.from_residual-in_err-length.result c.from_residual-in_err-length.ensures.1 in
    rw (p.1, p.2) (StopsAt-after (IsShorter 4) IsPartOfSlice Never Never Never SliceIsTooLong _ _ _ _ _ _ c.in_ok-tile.ensures _ c.in_err-length.ensures
    (part_of_length c.in_ok-tile.tile) (λ f s h. h) (λ f s h. absurd h))

pub returns-then-length-gt-SLICE_LIMIT-clause-read : goal.returns-then-length-gt-SLICE_LIMIT-clause-read
returns-then-length-gt-SLICE_LIMIT-clause-read g c =
    shown _ _ _ _ _ _ _ _ (TakesText-trans _ _ _ _ _ _ _ _ c.in_ok-tile.ensures c.in_ok-length.ensures) _ tt
    (c.in_ok-tile.tile, c.in_ok-length.length, refl, omega arith, omega arith)

pub returns-in_err-by_bytes-clause-read : goal.returns-in_err-by_bytes-clause-read
returns-in_err-by_bytes-clause-read g c =
    let p = err_from_is_err_and c.from_residual-in_err-by_bytes.result c.from_residual-in_err-by_bytes.ensures.1 in
    let n = c.in_ok-length.length in
    rw (p.1, p.2) (StopsAt-after (IsShorter n) IsPartOfSlice Never Never Never SliceIsTooLong _ _ _ _ _ _
    (TakesText-trans _ _ _ _ _ _ _ _ c.in_ok-tile.ensures c.in_ok-length.ensures) _ c.in_err-by_bytes.ensures.read
    (λ s h. part_of_bytes c.in_ok-tile.tile n s (omega arith) h) (λ f s h. h) (λ f s h. absurd h))

pub returns-clause-read : goal.returns-clause-read
returns-clause-read g c =
    let both = TakesText-trans _ _ _ _ _ _ _ _ c.in_ok-tile.ensures c.in_ok-length.ensures in
    let all = TakesText-trans _ _ _ _ _ _ _ _ both c.in_ok-by_bytes.ensures.read in
    subst (TakesText _ _ _ _) (slice_text-of (c.in_ok-tile.tile, c.read_over.new.bytes.items) c.in_ok-length.length (sym c.in_ok-by_bytes.ensures.count)) all
