use Rattle.std.proofs.Common.{◌≡◌, true, false, sym, ap}
use Rattle.std.specs.Prelude.{if◌then◌else◌}
use Rattle.std.proofs.lemmas.Result.{err_from_is_err_and}
use Rattle.ffv1_plane.proofs.Pictures.{gray_read, colour_read}
use Rattle.ffv1_plane.proofs.Stops.{luma_planes, chroma_planes}
use Rattle.ffv1_plane.proofs.tile.decode_planes.Goals as goal

pub decode_luma-requires : goal.decode_luma-requires
decode_luma-requires c = c.requires

pub decode_chroma-requires : goal.decode_chroma-requires
decode_chroma-requires c = record {
  profile = c.requires.profile;
  tile = c.requires.tile;
  luma_table = c.requires.luma_table;
  chroma_table = c.requires.chroma_table;
  chroma = ap (λ b. if b then 3 else 1) (sym c.if-has_chroma.ensures);
}

pub returns-in_err-luma-clause-err : goal.returns-in_err-luma-clause-err
returns-in_err-luma-clause-err c =
    let p = err_from_is_err_and c.from_residual.result c.from_residual.ensures.1 in
    rw (p.1, p.2)
    (luma_planes c.args.setup.now c.args.head.now c.requires.profile c.requires.tile c.args.bits.now.left _ c.in_err-luma.ensures.err)

pub returns-in_err-cb-clause-err : goal.returns-in_err-cb-clause-err
returns-in_err-cb-clause-err c =
    let p = err_from_is_err_and c.from_residual-in_err-cb.result c.from_residual-in_err-cb.ensures.1 in
    rw (p.1, p.2)
    (chroma_planes c.args.setup.now c.args.head.now c.requires.profile c.requires.tile c.args.bits.now.left c.decode_luma.new.bits.left
    c.in_ok-luma.luma.items (sym c.if-has_chroma.ensures) c.in_ok-luma.ensures.ok _ c.in_err-cb.ensures.err)

pub returns-in_ok-vec : goal.returns-in_ok-vec
returns-in_ok-vec c =
    let colour : c.args.setup.now.has_chroma ≡ true = sym c.if-has_chroma.ensures in
    record {
      ok =
          rw c.in_ok-vec.ensures.items
          (colour_read c.args.setup.now c.args.head.now c.requires.profile c.requires.tile c.args.bits.now.left c.decode_luma.new.bits.left
          c.decode_chroma.new.bits.left
          c.in_ok-luma.luma.items c.in_ok-cb.cb.items c.in_ok-cb.cr.items colour c.in_ok-luma.ensures.ok c.in_ok-cb.ensures.ok);
      err = tt;
    }

pub returns-in_ok-vec-2 : goal.returns-in_ok-vec-2
returns-in_ok-vec-2 c =
    let gray : c.args.setup.now.has_chroma ≡ false = sym c.if-has_chroma.ensures in
    record {
      ok =
          rw c.in_ok-vec-2.ensures.items
          (gray_read c.args.setup.now c.args.head.now c.requires.profile c.requires.tile c.args.bits.now.left c.decode_luma.new.bits.left
          c.in_ok-luma.luma.items gray c.in_ok-luma.ensures.ok);
      err = tt;
    }
