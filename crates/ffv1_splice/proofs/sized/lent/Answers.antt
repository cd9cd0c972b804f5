use Rattle.std.proofs.lemmas.Grind.{common_steps}
use Rattle.ffv1_splice.proofs.Common.{◌≡◌, ◌++◌, ◌∷◌, ◌+◌, [], ℕ, List, take, map, arith, map_push, get_or-map, length-map, take_more}
use Rattle.ffv1_splice.proofs.sized.lent.Goals as goal

pub loop-bytes-preserved : goal.loop-bytes-preserved
loop-bytes-preserved c =
    let i : ℕ = c.loop-bytes.bytes-index in
    let item = c.bytes-item.result in
    let all : List (List ℕ) = map (λ bytes. bytes.items) c.args.all.now in
    let next : take i all ++ item.items ∷ [] ≡ take (i + 1) all =
    cc (get_or-map (λ bytes. bytes.items) c.args.all.now i item item.items c.loop-bytes-test.true, take_more all i item.items (let lt = c.loop-bytes-test.true in omega (arith, length-map c.args.all.now (λ bytes. bytes.items)))) in
    grind (arith, common_steps, map_push)
