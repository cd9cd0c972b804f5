use Rattle.std.proofs.Common.{refl, sym}
use Rattle.std.proofs.lemmas.Result.{err_from_is_err_and}
use Rattle.ffv1_picture.proofs.TileFaults.{unreadable}
use Rattle.ffv1_picture.proofs.drawing.draw_slice.Goals as goal

pub returns-in_err-picture : goal.returns-in_err-picture
returns-in_err-picture c =
    let p = err_from_is_err_and c.from_residual.result c.from_residual.ensures.1 in
    let stated = c.in_err-picture.ensures in
    rw (p.1, p.2) (record {
      ok = tt;
      fault = rw (sym c.content_of.ensures)
          (unreadable c.args.setup.now c.args.tile _ c.in_err-picture.field-0.0
          (record { found = λ picture is. stated.found picture is; refused = stated.refused }));
      err = refl;
    })

pub draw_picture-requires-clause-picture : goal.draw_picture-requires-clause-picture
draw_picture-requires-clause-picture c =
    let sizes = c.in_ok-picture.ensures.ok.planes in
    rw (c.grid.ensures, c.deref.ensures.value) (record { count = sizes.count; each = λ plane lt. (sizes.sizes plane lt).count })
