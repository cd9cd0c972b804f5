use Rattle.std.proofs.Common.{◌≡◌, ◌⊎◌, ℕ, List, subst, arith}
use Rattle.std.proofs.lemmas.Result.{err_from_is_err_and}
use Rattle.ffv1_slice.specs.Slices.{content_of}
use Rattle.ffv1_plane.specs.declared.tile.TileFault.TheVariants.{Memory}
use Rattle.ffv1_picture.specs.TilePictures.{IsUnreadable}
use Rattle.ffv1_picture.proofs.Decoded.{drawn_sizes, drawn_more, drawn_pictures, same_content, ok_value}
use Rattle.ffv1_picture.proofs.FrameFaults.{first_unreadable}
use Rattle.ffv1_picture.proofs.decoder.draw_links.Goals as goal

pub returns-in_err-frame : goal.returns-in_err-frame
returns-in_err-frame c =
    let p = err_from_is_err_and c.from_residual.result c.from_residual.ensures.1 in
    rw (p.1, p.2) (record { ok = tt; err = tt })

pub draw_slice-requires-clause-sizes : goal.draw_slice-requires-clause-sizes
draw_slice-requires-clause-sizes c = drawn_sizes c.args.setup.now c.args.links.now c.loop-tile.tile c.loop-tile.frame c.loop-tile.invariant

pub returns-in-Err-clause-err : goal.returns-in-Err-clause-err
returns-in-Err-clause-err c =
    let setup = c.args.setup.now in
    let links = c.args.links.now in
    let tile = c.loop-tile.tile in
    let P : List ℕ → Type 0 = λ content. (c.in-Err.cause ≡ Memory) ⊎ IsUnreadable setup tile content c.in-Err.cause in
    rw c.fault_of_tile.ensures
    (first_unreadable setup links tile c.in-Err.cause (omega arith) (drawn_pictures setup links tile c.loop-tile.frame c.loop-tile.invariant)
    (subst P (same_content links tile c.index-links-tile.result c.bytes.result.now
    (omega arith) c.index-links-tile.is c.bytes.ensures.value) c.in-Err.ensures.fault))

pub loop-tile-preserved : goal.loop-tile-preserved
loop-tile-preserved c =
    let links = c.args.links.now in
    let tile = c.loop-tile.tile in
    let drawn = ok_value c.draw_slice.result _ c.draw_slice.ensures.ok c.in_default.not-Err in
    drawn_more c.args.setup.now links tile drawn.0 (content_of c.bytes.result.now) c.loop-tile.frame c.draw_slice.new.frame c.loop-tile.invariant
    (same_content links tile c.index-links-tile.result c.bytes.result.now (omega arith) c.index-links-tile.is c.bytes.ensures.value) drawn.1
