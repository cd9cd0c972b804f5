use Rattle.std.proofs.Common.{◌≡◌, ◌++◌, ◌+◌, ◌-◌, arith, take, drop, ap, ◌∙◌, subst}
use Rattle.std.specs.Prelude.{Contains}
use Rattle.std.proofs.lemmas.List.{take_rest}
use Rattle.ebml.specs.Children.{IsElement, BeginsNoChild}
use Rattle.ebml.specs.Masters.{block_group_ids}
use Rattle.ebml.proofs.Heads.{after}
use Rattle.matroska_parts.specs.MasterParts.{IsGroupChild, unknown_parts}
use Rattle.matroska_parts.specs.Inner.Added.{AddsParts}
use Rattle.matroska_parts.proofs.MasterSteps.{one_added, all_added, child_same, same_some, on_ok}
use Rattle.matroska_parts.proofs.masters.push_group.Goals as goal

pub loop-child-preserved : goal.loop-child-preserved
loop-child-preserved c =
    let content = c.args.content.now in
    let n = c.in-Some-next_child.child.length in
    let head = c.in-Some-next_child.child.head in
    let same = child_same c.args.content.now c.loop-child.at n c.in-Some-next_child.ensures.within in
    let ids : c.in-Some.ids.now ≡ block_group_ids = same_some c.in-Some.ids.now block_group_ids c.in-Some.ensures in
    let size : (c.loop-child.at + n) - c.loop-child.at ≡ n = omega arith in
    one_added (IsGroupChild c.args.tracks.now.named.tracks.items c.args.is_vouched) block_group_ids c.args.place c.args.content.now c.loop-child.at n
    c.args.parts.now.items c.loop-child.parts.items c.push_group_child.new.parts.items head c.loop-child.invariant same.0
    (subst (IsElement head) same.1 c.in-Some-next_child.ensures.found) (subst (λ z. Contains z head.id) ids c.in-Some-next_child.ensures.known)
    (subst (λ k. AddsParts (IsGroupChild c.args.tracks.now.named.tracks.items c.args.is_vouched (c.args.place + c.loop-child.at) (take k (drop c.loop-child.at c.args.content.now)))
    c.loop-child.parts.items c.push_group_child.new.parts.items) size c.in_ok-push_group_child.ensures)

pub returns : goal.returns
returns c =
    let ids : c.in-Some.ids.now ≡ block_group_ids = same_some c.in-Some.ids.now block_group_ids c.in-Some.ensures in
    let same : after c.args.content.now c.loop-child.at ≡ drop c.loop-child.at c.args.content.now = take_rest c.args.content.now c.loop-child.at in
    on_ok c.push_unknown.result
    (λ added. all_added (IsGroupChild c.args.tracks.now.named.tracks.items c.args.is_vouched) block_group_ids c.args.place c.args.content.now c.loop-child.at
    c.args.parts.now.items c.loop-child.parts.items c.push_unknown.new.parts.items c.loop-child.invariant
    (subst (λ z. BeginsNoChild z (drop c.loop-child.at c.args.content.now)) ids (subst (BeginsNoChild c.in-Some.ids.now) same c.in_default-next_child.ensures.none))
    (added ∙ ap (λ z. c.loop-child.parts.items ++ unknown_parts (c.args.place + c.loop-child.at) z) same))
    c.push_unknown.ensures
