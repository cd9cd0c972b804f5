use Rattle.std.proofs.Common.{ℕ, ◌≡◌, ◌+◌, ◌-◌, ◌++◌, take, drop, set, get_or, ap, ◌∙◌, subst, length, arith, rules}
use Rattle.std.proofs.lemmas.List.{get_or_read, length-set}
use Rattle.std.proofs.lemmas.Result.{err_from_is_err_and}
use Rattle.ffv1_plane.specs.Inner.Rows.{AreNearLines, samples_so_far}
use Rattle.ffv1_plane.proofs.Rows.{rolled}
use Rattle.ffv1_plane.proofs.lines.Lines.end_row.Goals as goal

pub invariant_of-self-2 : goal.invariant_of-self-2
invariant_of-self-2 c =
    let w : ℕ = c.self.inside.width in
    let full : c.self.inside.x ≡ c.self.inside.width = search rules in
    let long = c.self.invariant.line_long in
    let border : c.index.result.now ≡ get_or c.self.inside.line.items (c.self.inside.width + 1) 0 =
    get_or_read c.self.inside.line.items (c.self.inside.width + 1) c.index.result.now (omega (arith, long)) c.index.ensures 0 in
    let moved : c.swap-2.new.x.items ≡ set c.self.inside.line.items (c.self.inside.width + 2) c.index.result.now = ap (λ v. v.items) c.swap-2.ensures.x_after in
    let bordered = moved ∙ ap (set c.self.inside.line.items (c.self.inside.width + 2)) border in
    let raised : c.swap.new.x.items ≡ c.self.inside.above.items = ap (λ v. v.items) c.swap.ensures.x_after in
    let cleared : c.swap-2.new.y.items ≡ c.self.inside.far_above.items =
    ap (λ v. v.items) c.swap-2.ensures.y_after ∙ ap (λ v. v.items) c.swap.ensures.y_after in
    let w_is : c.self.inside.width + 2 - 2 ≡ c.self.inside.width = omega arith in
    let more : c.extend_from_slice.new.self.items ≡ samples_so_far c.self.inside.width c.self.inside.rows.items c.self.inside.line.items =
    c.in_ok-extend_from_slice.ensures.items ∙ ap (λ l. c.self.inside.rows.items ++ take (c.self.inside.width + 2 - 2) (drop 2 l)) c.deref.ensures.value
    ∙ ap (λ n. c.self.inside.rows.items ++ take n (drop 2 c.self.inside.line.items)) w_is in
    let whole : AreNearLines c.self.inside.depth c.self.inside.width c.self.inside.width c.self.inside.rows.items c.self.inside.line.items c.self.inside.above.items
    c.self.inside.far_above.items =
    subst (λ (k : ℕ). AreNearLines c.self.inside.depth c.self.inside.width k c.self.inside.rows.items c.self.inside.line.items c.self.inside.above.items
    c.self.inside.far_above.items) full c.self.invariant in
    let left : c.index-2.result.now ≡ get_or c.swap-2.new.x.items 2 0 = get_or_read c.swap-2.new.x.items 2 c.index-2.result.now
    (omega (arith, ap length moved, length-set c.self.inside.line.items (c.self.inside.width + 2) c.index.result.now, long)) c.index-2.ensures 0 in
    rw (left, cleared, raised)
    (rolled c.self.inside.depth c.self.inside.width c.self.inside.rows.items c.self.inside.line.items c.self.inside.above.items c.self.inside.far_above.items whole
    c.extend_from_slice.new.self.items c.swap-2.new.x.items more bordered)

pub returns-in_err-extend_from_slice : goal.returns-in_err-extend_from_slice
returns-in_err-extend_from_slice c = let p = err_from_is_err_and c.from_residual.result c.from_residual.ensures.1 in rw p.1 tt

pub index-requires : goal.index-requires
index-requires c = omega (arith, c.self.invariant.line_long, c.self.inside.line.ok.0)

pub index_mut-requires : goal.index_mut-requires
index_mut-requires c = omega (arith, c.self.invariant.line_long, c.self.inside.line.ok.0)
