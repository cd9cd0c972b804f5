use Rattle.std.proofs.Common.{refl, inl, inr}
use Rattle.ffv1_player.proofs.playing.read_payload.Goals as goal

pub returns-in-Ok : goal.returns-in-Ok
returns-in-Ok g c = let (read, end, few) = c.in-Ok.ensures in record { read = read; end = end; few = few }

pub returns-in-Err-Read : goal.returns-in-Err-Read
returns-in-Err-Read g c =
    let stopped = rw c.in-Err-Read.field-0-is at c.in-Err-Read.ensures in
    (refl, inl stopped)

pub returns-in-Err-TooLong : goal.returns-in-Err-TooLong
returns-in-Err-TooLong g c =
    let stopped = rw c.in-Err-TooLong.field-0-is at c.in-Err-TooLong.ensures in
    (refl, inr stopped)

pub returns-in-Err-Memory : goal.returns-in-Err-Memory
returns-in-Err-Memory g c = rw c.in-Err-Memory.field-0-is at c.in-Err-Memory.ensures
