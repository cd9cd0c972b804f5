use Rattle.std.proofs.Common.{arith}
use Rattle.std.proofs.lemmas.Result.{err_from_is_err_and}
use Rattle.ebml_reader.proofs.Steps.{fault-after, passes-fill}
use Rattle.ebml_reader.proofs.StreamSteps.{fits_whole, some_whole, child_more, child_cut, content_end}
use Rattle.ebml_reader.proofs.streamed.pass_content.Goals as goal

pub returns-in_err-head : goal.returns-in_err-head
returns-in_err-head g c =
    let inv = c.loop-head.invariant in
    let p = err_from_is_err_and c.from_residual.result c.from_residual.ensures.1 in
    rw (p.1, p.2) (fault-after c.in_err-head.field-0.0 inv.content c.args.intake.now c.loop-head.intake _ _ _ inv.passes c.in_err-head.ensures)

pub returns-in_err-count : goal.returns-in_err-count
returns-in_err-count g c =
    let inv = c.loop-head.invariant in
    let claims = rw c.in-Some.is at c.in_ok-head.ensures in
    let p = err_from_is_err_and c.from_residual-in_err-count.result c.from_residual-in_err-count.ensures.1 in
    rw (p.1, p.2)
    (fault-after c.in_err-count.field-0.0 inv.content c.args.intake.now c.claimed_child.new.intake _ _ _
    (passes-fill inv.content c.args.intake.now c.loop-head.intake c.claimed_child.new.intake _ _ _ inv.passes claims.passes) c.in_err-count.ensures)

pub overflow_add-length : goal.overflow_add-length
overflow_add-length g c =
    let inv = c.loop-head.invariant in
    let claims = rw c.in-Some.is at c.in_ok-head.ensures in
    let passed = c.in_ok-count.ensures in
    let fits = fits_whole c.args.ids.now c.args.size c.loop-head.children c.args.crc.now c.loop-head.crc c.pass_summed.new.crc c.args.intake.now c.loop-head.intake
    c.claimed_child.new.intake c.pass_summed.new.intake _ _ _ _ inv passed.0 c.in_ok-count.count passed.1 passed.3 c.in-Some.head claims c.whole_length-whole.result
    (c.ranges.size.fits) c.whole_length-whole.ensures passed.2 in
    let most = inv.most in let small = c.ranges.size.fits in let less = c.if-count-whole.true in
    omega (arith, fits, most, small, less)

pub returns-then-count-whole : goal.returns-then-count-whole
returns-then-count-whole g c =
    let inv = c.loop-head.invariant in
    let claims = rw c.in-Some.is at c.in_ok-head.ensures in
    let passed = c.in_ok-count.ensures in
    let less = c.if-count-whole.true in let counted = passed.1 in
    child_cut c.args.ids.now c.args.size c.loop-head.children c.args.crc.now c.loop-head.crc c.pass_summed.new.crc c.args.intake.now c.loop-head.intake
    c.claimed_child.new.intake c.pass_summed.new.intake _ _ _ _ inv passed.0 c.in_ok-count.count passed.1 passed.3 c.in-Some.head claims c.whole_length-whole.result
    (c.ranges.size.fits) c.whole_length-whole.ensures passed.2 (omega (arith, less, counted))

pub overflow_add-children : goal.overflow_add-children
overflow_add-children g c =
    let inv = c.loop-head.invariant in
    let claims = rw c.in-Some.is at c.in_ok-head.ensures in
    let passed = c.in_ok-count.ensures in
    let fits = fits_whole c.args.ids.now c.args.size c.loop-head.children c.args.crc.now c.loop-head.crc c.pass_summed.new.crc c.args.intake.now c.loop-head.intake
    c.claimed_child.new.intake c.pass_summed.new.intake _ _ _ _ inv passed.0 c.in_ok-count.count passed.1 passed.3 c.in-Some.head claims c.whole_length-whole.result
    (c.ranges.size.fits) c.whole_length-whole.ensures passed.2 in
    let most = inv.most in let small = c.ranges.size.fits in
    omega (arith, fits, most, small)

pub loop-head-smaller : goal.loop-head-smaller
loop-head-smaller g c =
    let inv = c.loop-head.invariant in
    let claims = rw c.in-Some.is at c.in_ok-head.ensures in
    let passed = c.in_ok-count.ensures in
    let some = some_whole c.args.ids.now c.args.size c.loop-head.children c.args.crc.now c.loop-head.crc c.pass_summed.new.crc c.args.intake.now c.loop-head.intake
    c.claimed_child.new.intake c.pass_summed.new.intake _ _ _ _ inv passed.0 c.in_ok-count.count passed.1 passed.3 c.in-Some.head claims c.whole_length-whole.result
    (c.ranges.size.fits) c.whole_length-whole.ensures passed.2 in
    let fits = fits_whole c.args.ids.now c.args.size c.loop-head.children c.args.crc.now c.loop-head.crc c.pass_summed.new.crc c.args.intake.now c.loop-head.intake
    c.claimed_child.new.intake c.pass_summed.new.intake _ _ _ _ inv passed.0 c.in_ok-count.count passed.1 passed.3 c.in-Some.head claims c.whole_length-whole.result
    (c.ranges.size.fits) c.whole_length-whole.ensures passed.2 in
    let most = inv.most in
    omega (arith, some, fits, most)

pub loop-head-preserved : goal.loop-head-preserved
loop-head-preserved g c =
    let inv = c.loop-head.invariant in
    let claims = rw c.in-Some.is at c.in_ok-head.ensures in
    let passed = c.in_ok-count.ensures in
    let enough = c.if-count-whole.false in let counted = passed.1 in let most = passed.2.most in
    child_more c.args.ids.now c.args.size c.loop-head.children c.args.crc.now c.loop-head.crc c.pass_summed.new.crc c.args.intake.now c.loop-head.intake
    c.claimed_child.new.intake c.pass_summed.new.intake _ _ _ _ inv passed.0 c.in_ok-count.count passed.1 passed.3 c.in-Some.head claims c.whole_length-whole.result
    (c.ranges.size.fits) c.whole_length-whole.ensures passed.2 (omega (arith, enough, counted, most))

pub returns-in_err-rest : goal.returns-in_err-rest
returns-in_err-rest g c =
    let inv = c.loop-head.invariant in
    let none = rw c.in_default.is at c.in_ok-head.ensures in
    let p = err_from_is_err_and c.from_residual-in_err-rest.result c.from_residual-in_err-rest.ensures.1 in
    rw (p.1, p.2)
    (fault-after c.in_err-rest.field-0.0 inv.content c.args.intake.now c.claimed_child.new.intake _ _ _
    (passes-fill inv.content c.args.intake.now c.loop-head.intake c.claimed_child.new.intake _ _ _ inv.passes none.passes) c.in_err-rest.ensures)

pub returns : goal.returns
returns g c =
    let inv = c.loop-head.invariant in
    let none = rw c.in_default.is at c.in_ok-head.ensures in
    let passed = c.in_ok-rest.ensures in
    content_end c.args.ids.now c.args.size c.loop-head.children c.args.crc.now c.loop-head.crc c.pass_summed-2.new.crc c.args.intake.now c.loop-head.intake
    c.claimed_child.new.intake c.pass_summed-2.new.intake _ _ _ _ inv passed.0 c.in_ok-rest.rest passed.1 passed.3 none passed.2
