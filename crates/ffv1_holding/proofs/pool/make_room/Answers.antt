use Rattle.std.proofs.Common.{refl, arith}
use Rattle.std.proofs.lemmas.Result.{err_from_is_err_and}
use Rattle.ffv1_holding.proofs.pool.make_room.Goals as goal

pub returns-in_default : goal.returns-in_default
returns-in_default c = record { bytes = refl; entries = refl; room = tt; places = tt; memory = refl }

pub returns : goal.returns
returns c = record {
  bytes = c.reserve.ensures.items;
  entries = c.reserve-2.ensures.items;
  room = omega (arith, c.in_ok-reserve.ensures.ok, c.in-Some.ensures);
  places = c.in_ok-reserve-2.ensures.ok;
  memory = tt;
}

pub returns-in_err-reserve : goal.returns-in_err-reserve
returns-in_err-reserve c =
    let p = err_from_is_err_and c.from_residual.result c.from_residual.ensures.1 in
    rw (p.1, p.2) (record { bytes = c.reserve.ensures.items; entries = refl; room = tt; places = tt; memory = refl })

pub returns-in_err-reserve-2 : goal.returns-in_err-reserve-2
returns-in_err-reserve-2 c =
    let p = err_from_is_err_and c.from_residual-in_err-reserve-2.result c.from_residual-in_err-reserve-2.ensures.1 in
    rw (p.1, p.2) (record { bytes = c.reserve.ensures.items; entries = c.reserve-2.ensures.items; room = tt; places = tt; memory = refl })
