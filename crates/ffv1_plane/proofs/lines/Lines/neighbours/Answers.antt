use Rattle.std.proofs.Common.{◌≡◌, ◌+◌, ◌<◌, ◌∙◌, ap, sym, get_or, arith, rules, subst, length, ◌^◌}
use Rattle.std.proofs.lemmas.List.{get_or_read}
use Rattle.ffv1_plane.proofs.Halting.{prediction_small}
use Rattle.ffv1_plane.specs.Inner.Rows.{samples_so_far}
use Rattle.ffv1_plane.specs.Samples.{SamplesAbout, prediction_of}
use Rattle.ffv1_plane.proofs.Rows.{near_is}
use Rattle.ffv1_plane.proofs.lines.Lines.neighbours.Goals as goal

pub returns : goal.returns
returns c =
    let less : c.self.inside.x < c.self.inside.width = search rules in
    let about = near_is c.self.inside.depth c.self.inside.width c.self.inside.x c.self.inside.rows.items c.self.inside.line.items c.self.inside.above.items
    c.self.inside.far_above.items c.self.invariant less in
    let left : c.args.left ≡ get_or c.self.inside.line.items (c.self.inside.x + 1) 0 =
    (rw (← c.self.view_is) at c.requires.left) ∙ sym (ap (λ near. near.left) about) in
    let top = get_or_read c.self.inside.above.items (c.self.inside.x + 2) c.index.result.now (omega arith) c.index.ensures 0 in
    let top_left = get_or_read c.self.inside.above.items (c.self.inside.x + 1) c.index-2.result.now (omega arith) c.index-2.ensures 0 in
    let top_right = get_or_read c.self.inside.above.items (c.self.inside.x + 3) c.index-3.result.now (omega arith) c.index-3.ensures 0 in
    let left_of_left = get_or_read c.self.inside.line.items c.self.inside.x c.index-4.result.now (omega arith) c.index-4.ensures 0 in
    let top_of_top = get_or_read c.self.inside.far_above.items (c.self.inside.x + 2) c.index-5.result.now (omega arith) c.index-5.ensures 0 in
    let seen = samples_so_far c.self.inside.x c.self.inside.rows.items c.self.inside.line.items in
    let small = prediction_small c.self.inside.depth c.self.inside.width (length seen) seen c.self.invariant.small in
    rw (← c.self.view_is, left, top, top_left, top_right, left_of_left, top_of_top)
    (record {
      value = about;
      small = subst (λ (z : SamplesAbout). prediction_of z < 2 ^ c.self.inside.depth) (sym about) small;
      deep = c.self.invariant.deep;
    })
