use Rattle.std.proofs.lemmas.Result.{err_from_is_err_and}
use Rattle.ffv1_plane.proofs.Pictures.{chroma_read}
use Rattle.ffv1_plane.proofs.Stops.{cr_stops}
use Rattle.ffv1_plane.proofs.tile.decode_chroma.Goals as goal

pub returns-in_err-cr : goal.returns-in_err-cr
returns-in_err-cr c =
    let p = err_from_is_err_and c.from_residual-in_err-cr.result c.from_residual-in_err-cr.ensures.1 in
    rw (p.1, p.2)
    (record {
      ok = tt;
      err =
          cr_stops c.args.setup.now c.args.head.now c.in_ok-states.states.items c.in_ok-cb.states.items c.args.bits.now.left c.decode_plane_of.new.bits.left
          c.in_ok-cb.cb.items c.in_ok-states.ensures.fresh c.in_ok-cb.ensures.size c.in_ok-cb.ensures.read _ c.in_err-cr.ensures.err;
    })

pub returns : goal.returns
returns c = record {
  ok =
      chroma_read c.args.setup.now c.args.head.now c.requires.profile c.requires.tile c.args.bits.now.left c.decode_plane_of.new.bits.left
      c.decode_plane_of-2.new.bits.left
      c.in_ok-states.states.items c.in_ok-cb.states.items c.in_ok-cr.field-0-1.items c.in_ok-cb.cb.items c.in_ok-cr.cr.items c.in_ok-states.ensures.fresh
      c.in_ok-cb.ensures.size c.in_ok-cr.ensures.size c.in_ok-cb.ensures.read c.in_ok-cr.ensures.read;
  err = tt;
}
