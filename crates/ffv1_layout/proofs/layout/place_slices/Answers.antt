use Rattle.std.proofs.Common.{◌≡◌, ◌==◌, ◌<◌, ◌≤◌, ℕ, List, [], length, map, get_or, Bor, sym, subst, arith}
use Rattle.std.proofs.lemmas.List.{length-map, get_or-map}
use Rattle.ffv1_layout.specs.Cuts.{footer_length}
use Rattle.ffv1_layout.specs.Layout.{HasNoSliceHeader, listed_slice, headers_of}
use Rattle.ffv1_layout.specs.Inner.Placing.{IsPlacedSlice, ArePlaced}
use Rattle.ffv1_layout.proofs.Placing.{none_placed, one_placed}
use Rattle.ffv1_layout.proofs.layout.place_slices.Goals as goal

abbrev bytes_of : Bor (List ℕ) → List ℕ
bytes_of slice = slice.now

-- the bytes of a slice that was read by its place
here : (slices : List (Bor (List ℕ))) (n : ℕ) (d : Bor (List ℕ)) → n < length slices → (get_or slices n d).now ≡ listed_slice (map bytes_of slices) n
here slices n d lt = sym (get_or-map bytes_of slices n d [] lt)

pub loop-place-init : goal.loop-place-init
loop-place-init c = rw c.in_ok-placed_slices.ensures.items (none_placed _ _)

pub placed-requires : goal.placed-requires
placed-requires c =
    let slices = c.args.slices.now in
    let n = c.loop-place.place in
    subst (λ (bytes : List ℕ). footer_length c.args.recording.now.setup.ec ≤ length bytes) (sym (here slices n _ (omega arith)))
    (c.requires n (omega (arith, length-map slices bytes_of)))

pub returns-in-Err-clause-err : goal.returns-in-Err-clause-err
returns-in-Err-clause-err c =
    let slices = c.args.slices.now in
    let n = c.loop-place.place in (
      headers_of c.loop-place.placed_slices.items,
      omega (arith, length-map slices bytes_of),
      c.loop-place.invariant.headers,
      subst (λ bytes. HasNoSliceHeader c.args.recording.now bytes (n == 0) c.in-Err.cause) (here slices n _ (omega arith)) c.in-Err.ensures.err,
    )

pub loop-place-preserved : goal.loop-place-preserved
loop-place-preserved c =
    let slices = c.args.slices.now in
    let n = c.loop-place.place in
    rw c.in_ok-push-in-Ok.ensures.items (one_placed _ _ n c.loop-place.placed_slices.items c.in-Ok.slice c.loop-place.invariant
    (subst (λ bytes. IsPlacedSlice c.args.recording.now bytes (n == 0) c.in-Ok.slice) (here slices n _ (omega arith)) c.in-Ok.ensures.ok))

pub returns-clause-ok : goal.returns-clause-ok
returns-clause-ok c =
    subst (λ n. ArePlaced c.args.recording.now (map bytes_of c.args.slices.now) n c.loop-place.placed_slices.items)
    {x = c.loop-place.place} {y = length c.args.slices.now} (omega arith) c.loop-place.invariant
