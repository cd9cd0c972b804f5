use Rattle.std.proofs.Common.{[], ◌∷◌, ◌++◌, sym, ap, ◌∙◌, subst, append_assoc}
use Rattle.std.proofs.lemmas.Result.{err_from_is_err_and}
use Rattle.ffv1_plane.specs.Inner.Orders.{line_of, lines_left}
use Rattle.ffv1_plane.specs.Inner.InTurn.{none, more}
use Rattle.ffv1_plane.proofs.Orders.{AreNext, order_next, first_next, is_next, none_grown, more_grown}
use Rattle.ffv1_plane.proofs.row_reader.read_lines.Goals as goal

pub loop-line-init : goal.loop-line-init
loop-line-init g c =
    let all = ap lines_left c.into_iter-line-iterator.ensures.into_iter_gives ∙ c.new-line-items.ensures in
    record {
      done = [];
      order = sym all;
      next = subst (AreNext []) (sym all) (order_next c.args.is_rgb c.args.sizes.now);
      grown = none_grown c.args.planes.now.lines.items;
      can = c.requires.can;
      read = none c.args.planes.now c.args.reader;
    }

pub read_row-requires-clause-next : goal.read_row-requires-clause-next
read_row-requires-clause-next g c =
    let i = c.loop-line.invariant in
    let next = first_next i.done (lines_left c.next.new.self) (line_of c.in-Some.line) (subst (AreNext i.done) c.in-Some.ensures.steps i.next) in
    is_next c.args.is_rgb c.args.sizes.now i.done (lines_left c.next.new.self) (line_of c.in-Some.line) c.args.planes.now.lines.items c.loop-line.planes.lines.items
    (i.order ∙ ap (λ l. i.done ++ l) c.in-Some.ensures.steps) c.requires.inside c.requires.fresh i.grown next.0

pub returns-in_err-reader-clause-err : goal.returns-in_err-reader-clause-err
returns-in_err-reader-clause-err g c =
    let i = c.loop-line.invariant in
    let p = err_from_is_err_and c.from_residual.result c.from_residual.ensures.1 in
    rw (p.1, p.2)
    (record {
      done = i.done;
      line = line_of c.in-Some.line;
      later = lines_left c.next.new.self;
      order = i.order ∙ ap (λ l. i.done ++ l) c.in-Some.ensures.steps;
      planes = c.loop-line.planes;
      between = c.loop-line.reader;
      read = i.read;
      refused = c.in_err-reader.ensures.err;
    })

pub loop-line-preserved : goal.loop-line-preserved
loop-line-preserved g c =
    let i = c.loop-line.invariant in
    let line = line_of c.in-Some.line in
    let rest = lines_left c.next.new.self in
    record {
      done = i.done ++ line ∷ [];
      order = i.order ∙ ap (λ l. i.done ++ l) c.in-Some.ensures.steps ∙ sym (append_assoc i.done (line ∷ []) rest);
      next = (first_next i.done rest line (subst (AreNext i.done) c.in-Some.ensures.steps i.next)).1;
      grown = more_grown i.done (line ∷ []) c.args.planes.now.lines.items c.loop-line.planes.lines.items c.read_row.new.planes.lines.items i.grown c.in_ok-reader.ensures.grown;
      can = c.in_ok-reader.ensures.can;
      read = more i.done line c.args.planes.now c.loop-line.planes c.read_row.new.planes c.args.reader c.loop-line.reader c.in_ok-reader.reader i.read c.in_ok-reader.ensures.read;
    }
