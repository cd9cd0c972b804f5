use Rattle.std.proofs.Common.{◌≡◌, ◌+◌, ◌-◌, length, refl, arith}
use Rattle.std.proofs.lemmas.Result.{err_from_is_err_and}
use Rattle.ffv1_stretches.specs.Copies.{CopyState, state_of}
use Rattle.ffv1_stretches.proofs.CopySteps.{copy_stops, copy_read}
use Rattle.ffv1_stretches.proofs.copy.CopyReader.read.Goals as goal

pub returns-in_err-read_next : goal.returns-in_err-read_next
returns-in_err-read_next g c =
    let p = err_from_is_err_and c.from_residual-in_err-read_next.result c.from_residual-in_err-read_next.ensures.1 in
    let (bytes, read, long) = c.in_ok-skip.ensures in
    let gap : length bytes ≡ c.args.place - (c.args.self.now.place + c.args.self.now.size) = omega (arith, long) in
    rw (p.1, p.2) (copy_stops (Unit {0}) c.args.place c.args.size (state_of g.S.Source.log c.args.self.now)
    (state_of g.S.Source.log (record c.args.self.now { source = c.read_next.new.source; room = c.read_next.new.room }))
    (g.S.Source.log c.skip.new.source) c.read_next.new.room.items bytes c.in_err-read_next.field-0.0 read gap c.in_err-read_next.ensures.read)

pub returns : goal.returns
returns g c =
    let (bytes, read, long) = c.in_ok-skip.ensures in
    let gap : length bytes ≡ c.args.place - (c.args.self.now.place + c.args.self.now.size) = omega (arith, long) in
    let next = c.in_ok-read_next.ensures.read in
    let new : CopyState = record { log = g.S.Source.log c.read_next.new.source; end = c.args.place + c.args.size; room = c.read_next.new.room.items } in (
      _,
      copy_read c.args.place c.args.size (state_of g.S.Source.log c.args.self.now) new (g.S.Source.log c.skip.new.source) bytes c.requires read gap
          next.0 next.1 refl,
    )
