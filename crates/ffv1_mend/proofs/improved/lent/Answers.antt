use Rattle.std.proofs.Common.{◌≡◌, ◌++◌, ◌∷◌, ◌+◌, [], ℕ, List, take, map, sym, ap, ◌∙◌, arith}
use Rattle.std.proofs.lemmas.List.{map-append, get_or-map, length-map, take_more}
use Rattle.ffv1_mend.specs.Content.{content_bytes}
use Rattle.ffv1_mend.specs.declared.content.Content.{Content}
use Rattle.ffv1_mend.proofs.improved.lent.Goals as goal

pub loop-content-preserved : goal.loop-content-preserved
loop-content-preserved c =
    let i : ℕ = c.loop-content.content-index in
    let item : Content = c.content-item.result in
    let all : List (List ℕ) = map content_bytes c.args.all.now in
    let next : take i all ++ content_bytes item ∷ [] ≡ take (i + 1) all =
    ap (λ x. take i all ++ x ∷ [])
    (ap content_bytes c.content-item.is ∙ sym (get_or-map content_bytes c.args.all.now i item (content_bytes item) c.loop-content-test.true))
    ∙ sym (take_more all i (content_bytes item) (let lt = c.loop-content-test.true in omega (arith, length-map c.args.all.now content_bytes))) in
    ap (map (λ bytes. bytes.now)) c.in_ok-push.ensures.items ∙ map-append (λ bytes. bytes.now) c.loop-content.lent.items _
    ∙ ap (λ z. z ++ c.bytes.result.now ∷ []) c.loop-content.invariant
    ∙ ap (λ bytes. take i all ++ bytes ∷ []) c.bytes.ensures ∙ next
