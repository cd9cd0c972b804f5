use Rattle.std.proofs.Common.{◌≡◌, ◌⊎◌, Some, None, sym, subst, ⊎_elim, rules}
use Rattle.ffv1_range.specs.Setup.{SetupValue}
use Rattle.ffv1_slice.specs.Slices.{content_of}
use Rattle.ffv1_slice.proofs.SliceFacts.{slice_footer}
use Rattle.ffv1_holding.specs.TileState.{StateOfTile}
use Rattle.ffv1_picture.specs.Inner.Drawing.{DrawsSlice}
use Rattle.ffv1_picture.specs.PartialPictures.{IsShown}
use Rattle.ffv1_picture.specs.declared.partial.TileOutcome.TheVariants.{Decoded, Fault}
use Rattle.ffv1_plane.specs.declared.tile.TileFault.TheVariants.{Memory}
use Rattle.ffv1_picture.specs.TilePictures.{IsUnreadable}
use Rattle.ffv1_holding.proofs.SettledSlices.{settled_entry}
use Rattle.ffv1_picture.proofs.partial.draw_tile.Goals as goal

pub draw_slice-requires-clause-footer : goal.draw_slice-requires-clause-footer
draw_slice-requires-clause-footer c = slice_footer c.args.holding.now.reel.rules c.in-Settled.slice.now _ c.args.tile
    (settled_entry c.args.holding.now c.setup.ensures.well_formed c.args.tile c.in-Settled.slice.now (sym c.in-Settled.ensures)).slice

pub draw_slice-requires-clause-short : goal.draw_slice-requires-clause-short
draw_slice-requires-clause-short c = (settled_entry c.args.holding.now c.setup.ensures.well_formed c.args.tile c.in-Settled.slice.now (sym c.in-Settled.ensures)).fits

pub returns-in-Ok : goal.returns-in-Ok
returns-in-Ok c =
    let h = c.args.holding.now in
    let slice = c.in-Settled.slice.now in
    let P : SetupValue → Type 0 = λ setup. DrawsSlice setup c.args.tile (content_of slice) c.args.frame.now c.draw_slice.new.frame c.in-Ok.spare_bits in
    let drawn = subst P c.setup.ensures.value c.in-Ok.ensures.ok in
    let Q : StateOfTile → Type 0 = λ state. IsShown h.reel.setup c.args.tile state (Decoded c.in-Ok.spare_bits) (Some drawn.picture) in
    record { picture = Some drawn.picture; shown = subst Q c.in-Settled.ensures drawn.is_picture; drawn = drawn.drawn }

pub returns-in-Err : goal.returns-in-Err
returns-in-Err c =
    let h = c.args.holding.now in
    let slice = c.in-Settled.slice.now in
    let cause = c.in-Err.cause in
    let not_memory : cause ≡ Memory → ⊥ = search rules in
    let P : SetupValue → Type 0 = λ setup. (cause ≡ Memory) ⊎ IsUnreadable setup c.args.tile (content_of slice) cause in
    let why : IsUnreadable h.reel.setup c.args.tile (content_of slice) cause =
    ⊎_elim (λ memory. absurd (not_memory memory)) (λ why. why) (subst P c.setup.ensures.value c.in-Err.ensures.fault) in
    let Q : StateOfTile → Type 0 = λ state. IsShown h.reel.setup c.args.tile state (Fault cause) None in
    record { picture = None; shown = subst Q c.in-Settled.ensures why; drawn = c.in-Err.ensures.err }
