use Rattle.std.proofs.Common.{arith, ◌≡◌, ◌<◌, List, ℕ, length, map, Bor, ap, subst}
use Rattle.std.specs.Prelude.{sum}
use Rattle.matroska.specs.Laces.{AreCutBy, AreLaced}
use Rattle.matroska.proofs.LaceSteps.{no_sizes, no_frames, laced_by, cut_result}
use Rattle.matroska.proofs.laces.laced_frames.Goals as goal

pub returns-in_default-2 : goal.returns-in_default-2
returns-in_default-2 c =
    no_sizes c.args.lacing c.args.payload.now c.from.result c.in-len1-up.len_at_least c.from.ensures (rw c.in_default-2.is at c.in_ok-sizes.ensures)

pub returns : goal.returns
returns c =
    let given = rw c.in-Some.is at c.in_ok-sizes.ensures in
    let sizes : List ℕ = c.in-Some.sizes.sizes.items in
    let rest : List ℕ = c.in-Some.sizes.rest.now in
    let counted : length c.in-Some.sizes.sizes.items ≡ c.from.result = omega (arith, given.1) in
    let same : c.deref.result.now ≡ c.in-Some.sizes.sizes.items = c.deref.ensures.value in
    let totals = ap sum same in
    cut_result (λ frames. map (λ (frame : Bor (List ℕ)). frame.now) frames.items) (AreLaced c.args.lacing c.args.payload.now) (length rest < sum c.deref.result.now)
    (AreCutBy c.deref.result.now rest) c.cut.result
    (λ short. no_frames c.args.lacing c.args.payload.now c.from.result sizes rest (λ i. (c.type_inv.payload i).fits) c.in-len1-up.len_at_least c.from.ensures given.0 counted (omega (arith, short, totals)))
    (λ frames cut. laced_by c.args.lacing c.args.payload.now c.from.result sizes rest c.in-len1-up.len_at_least c.from.ensures given.0 counted frames
    (subst (λ z. AreCutBy z c.in-Some.sizes.rest.now frames) same cut))
    c.cut.ensures
