use Rattle.std.proofs.Common.{◌≡◌, ◌++◌, ◌+◌, ◌-◌, arith, take, drop, ap, ◌∙◌, subst}
use Rattle.std.proofs.lemmas.List.{take_rest}
use Rattle.ebml.specs.Children.{IsElement, BeginsNoChild}
use Rattle.ebml.proofs.Heads.{after}
use Rattle.matroska_parts.specs.MasterParts.{IsMasterChild, unknown_parts}
use Rattle.matroska_parts.specs.Inner.Added.{AddsParts}
use Rattle.matroska_parts.proofs.MasterSteps.{one_added, all_added, child_same, on_ok}
use Rattle.matroska_parts.proofs.masters.push_master.Goals as goal

pub loop-child-preserved : goal.loop-child-preserved
loop-child-preserved c =
    let n = c.in-Some.child.length in
    let same = child_same c.args.content.now c.loop-child.at n c.in-Some.ensures.within in
    let size : (c.loop-child.at + n) - c.loop-child.at ≡ n = omega arith in
    one_added (IsMasterChild c.args.tracks.now.named.tracks.items c.args.is_vouched) c.args.ids.now c.args.place c.args.content.now c.loop-child.at n
    c.args.parts.now.items c.loop-child.parts.items c.push_master_child.new.parts.items c.in-Some.child.head c.loop-child.invariant same.0
    (subst (IsElement c.in-Some.child.head) same.1 c.in-Some.ensures.found) c.in-Some.ensures.known
    (subst (λ k. AddsParts (IsMasterChild c.args.tracks.now.named.tracks.items c.args.is_vouched (c.args.place + c.loop-child.at) (take k (drop c.loop-child.at c.args.content.now)))
    c.loop-child.parts.items c.push_master_child.new.parts.items) size c.in_ok-push_master_child.ensures)

pub returns : goal.returns
returns c =
    let same : after c.args.content.now c.loop-child.at ≡ drop c.loop-child.at c.args.content.now = take_rest c.args.content.now c.loop-child.at in
    on_ok c.push_unknown.result
    (λ added. all_added (IsMasterChild c.args.tracks.now.named.tracks.items c.args.is_vouched) c.args.ids.now c.args.place c.args.content.now c.loop-child.at
    c.args.parts.now.items c.loop-child.parts.items c.push_unknown.new.parts.items c.loop-child.invariant
    (subst (BeginsNoChild c.args.ids.now) same c.in_default.ensures.none)
    (added ∙ ap (λ z. c.loop-child.parts.items ++ unknown_parts (c.args.place + c.loop-child.at) z) same))
    c.push_unknown.ensures
