use Rattle.ffv1_splice.proofs.Common.{◌+◌, length, PieceFrom, values_of}
use Rattle.ffv1_splice.proofs.SettlingSteps.{shared_end, alone_at_end}
use Rattle.ffv1_splice.proofs.settling.settled_from.Goals as goal

pub returns-in-None : goal.returns-in-None
returns-in-None c =
    let one : PieceFrom = record { end = c.args.start + length c.in_ok-bytes.bytes.now; bytes = c.in_ok-bytes.bytes.now } in
    shared_end (values_of c.args.copies.now) c.args.bound c.args.start one c.in_ok-bytes.ensures c.in-None.ensures

pub returns-in-Some : goal.returns-in-Some
returns-in-Some c =
    let one : PieceFrom = record { end = c.args.start + length c.in_ok-bytes.bytes.now; bytes = c.in_ok-bytes.bytes.now } in
    (c.in_ok-bytes.ensures, alone_at_end (values_of c.args.copies.now) c.args.bound c.args.start one _ c.in_ok-bytes.ensures c.in-Some.ensures)
