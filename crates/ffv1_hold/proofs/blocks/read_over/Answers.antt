use Rattle.ffv1_hold.proofs.Common.{common_steps, ◌≡◌, length, take, drop, arith, ap, ◌∙◌, length-append, length-take-le, rules, length-take, ordering_then, err_from_is_err_and, bytes_cmp}
use Rattle.ffv1_hold.proofs.TextReads.{TakesText-trans, StopsAt-after}
use Rattle.ffv1_hold.proofs.HeldBytes.{take-next, next_long, next_compares, all_compared}
use Rattle.ffv1_hold.proofs.blocks.read_over.Goals as goal

-- what was read so far decides, and else this block does
pub loop-done-preserved : goal.loop-done-preserved
loop-done-preserved g c =
    let inv = c.loop-done.invariant in
    let read = c.in_ok-block.ensures in
    let old = c.args.bytes.now.items in
    let items = c.loop-done.bytes.items in
    let done = c.loop-done.done in
    let block = c.read_block.new.buf in
    let next = c.read_block.new.bytes.items in
    let long : length block ≡ c.min-size.result = search rules in
    let decided : c.then-order.result ≡ ordering_then c.loop-done.order (bytes_cmp (take (length block) (drop done items)) block) =
    c.then-order.ensures ∙ ap (ordering_then c.loop-done.order) read.order in
    let grown = take-next old items block next done c.loop-done.order inv.within read.bytes inv.order in
    grind (arith, common_steps, next_long, TakesText-trans, next_compares)

pub returns-in_err-block-clause-read : goal.returns-in_err-block-clause-read
returns-in_err-block-clause-read g c =
    let p = err_from_is_err_and c.from_residual.result c.from_residual.ensures.1 in
    let inv = c.loop-done.invariant in
    let n = length (take c.min-size.result c.loop-done.buf) in
    let count = c.args.count in
    let front = take c.loop-done.done c.loop-done.bytes.items in
    grind (arith, common_steps, StopsAt-after, length-append, length-take-le, length-take)

pub returns-clause-order : goal.returns-clause-order
returns-clause-order g c =
    let inv = c.loop-done.invariant in
    let old = c.args.bytes.now.items in
    let items = c.loop-done.bytes.items in
    let long : c.len.result ≡ length items = search rules in
    cc (all_compared old items c.loop-done.done c.loop-done.order inv.within inv.order)
