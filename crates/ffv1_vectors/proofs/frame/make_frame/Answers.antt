use Rattle.std.proofs.Common.{◌≡◌, ◌++◌, get_or, refl, ap, ◌∙◌, arith}
use Rattle.std.proofs.lemmas.List.{get_or_default}
use Rattle.std.proofs.lemmas.Result.{err_from_is_err_and}
use Rattle.ffv1_range.specs.Tiles.{grid_of, tile_count}
use Rattle.ffv1_vectors.specs.declared.frame.TileSpec.{TileSpec}
use Rattle.ffv1_vectors.proofs.FrameSteps.{made_none, made_more, made_all}
use Rattle.ffv1_vectors.proofs.frame.make_frame.Goals as goal

pub loop-tile-init : goal.loop-tile-init
loop-tile-init c = made_none c.args.setup.now c.args.spec.now c.new-payload.result.items c.new-payload.ensures.items

pub loop-tile-preserved : goal.loop-tile-preserved
loop-tile-preserved c =
    let tiles = c.deref-tile_spec-items.ensures.value in
    let grown : c.extend_from_slice.new.self.items ≡ c.loop-tile.payload.items ++ c.in_ok-slice.slice.items =
    c.in_ok-extend_from_slice.ensures.items ∙ ap (λ bytes. c.loop-tile.payload.items ++ bytes) c.deref.ensures.value in
    made_more c.args.setup.now c.args.spec.now c.loop-tile.tile c.loop-tile.payload.items c.extend_from_slice.new.self.items c.in_ok-slice.slice.items
    c.tile_spec-item.result
    c.loop-tile.invariant grown (omega (arith, c.in_ok-slice.slice.ok.0, c.loop-tile.payload.ok.0))
    (λ (d : TileSpec).
    c.tile_spec-item.is ∙ get_or_default c.deref-tile_spec-items.result.now c.loop-tile.tile c.tile_spec-item.result d c.loop-tile-test.true
    ∙ ap (λ ts. get_or ts c.loop-tile.tile d) tiles)
    c.in_ok-slice.ensures

pub returns-then-not-fits_setup : goal.returns-then-not-fits_setup
returns-then-not-fits_setup c = record { made = tt; fits = tt; misfit = λ never. refl }

pub returns-in_err-slice : goal.returns-in_err-slice
returns-in_err-slice c =
    let p = err_from_is_err_and c.from_residual.result c.from_residual.ensures.1 in
    rw p.1 (record { made = tt; fits = tt; misfit = λ never. absurd (never (c.fits_setup.ensures.0 c.if-not-fits_setup.false)) })

pub returns-then-len : goal.returns-then-len
returns-then-len c = record { made = tt; fits = tt; misfit = λ never. refl }

pub returns-in_err-extend_from_slice : goal.returns-in_err-extend_from_slice
returns-in_err-extend_from_slice c =
    let p = err_from_is_err_and c.from_residual-in_err-extend_from_slice.result c.from_residual-in_err-extend_from_slice.ensures.1 in
    rw p.1 (record { made = tt; fits = tt; misfit = λ never. absurd (never (c.fits_setup.ensures.0 c.if-not-fits_setup.false)) })

pub returns : goal.returns
returns c =
    let fits = c.fits_setup.ensures.0 c.if-not-fits_setup.false in
    let all : c.loop-tile.tile ≡ tile_count (grid_of c.args.setup.now) = omega (arith, fits.count, c.deref-tile_spec-items.ensures.len) in
    record {
      made = made_all c.args.setup.now c.args.spec.now c.loop-tile.tile c.loop-tile.payload.items all c.loop-tile.invariant;
      fits = fits;
      misfit = λ never. absurd (never fits);
    }
