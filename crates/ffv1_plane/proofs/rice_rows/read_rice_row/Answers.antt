use Rattle.std.proofs.Common.{◌∙◌, ap}
use Rattle.ffv1_plane.proofs.RiceRows.{row_read, row_refused}
use Rattle.ffv1_plane.proofs.rice_rows.read_rice_row.Goals as goal

pub returns-in-Err-Code-clause-err : goal.returns-in-Err-Code-clause-err
returns-in-Err-Code-clause-err c =
    row_refused c.args.lines.now c.swap.new.y c.args.tables.now c.args.codes.index c.args.states.items c.args.codes.bits.left c.in-Err-Code.fault c.in-Err-Code.sample
    c.place-start.result c.swap.ensures.y_after c.requires.start c.place-start.ensures.value c.column-column.ensures.small
    (rw c.in-Err-Code.field-0-is at c.in-Err-Code.ensures.err)

pub returns-clause-read : goal.returns-clause-read
returns-clause-read c =
    row_read c.args.lines.now c.swap.new.y c.read_row_at.new.self.lines c.swap-2.new.x c.args.tables.now c.read_row_at.new.self.tables.now c.args.codes.index
    c.read_row_at.new.self.index c.args.states.items c.read_row_at.new.self.states.items c.args.codes.bits.left c.read_row_at.new.self.bits.left
    c.swap.ensures.y_after c.requires.start c.in-Ok.ensures.same.depth c.in-Ok.ensures.same.width c.in-Ok.ensures.same.tables c.in-Ok.ensures.read.full
    (ap (λ z. z.samples) (c.swap-2.ensures.x_after ∙ c.in-Ok-end_row.ensures)) c.in-Ok.ensures.same.states c.in-Ok.ensures.read.continued c.in-Ok.ensures.read.count
    c.in-Ok.ensures.read.read
