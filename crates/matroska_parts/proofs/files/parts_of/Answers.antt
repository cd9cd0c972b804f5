use Rattle.std.proofs.Common.{◌≡◌, ◌+◌, ◌-◌, ◌≤◌, length, take, drop, subst, arith}
use Rattle.std.proofs.lemmas.List.{take_rest, length-drop}
use Rattle.ebml.specs.Items.{IsItem}
use Rattle.ebml.proofs.Heads.{after}
use Rattle.matroska_parts.specs.ItemParts.{AreItemPartsBy}
use Rattle.matroska_parts.specs.Inner.Added.{AddsParts}
use Rattle.matroska_parts.proofs.FileSteps.{one_item_more, all_parts}
use Rattle.matroska_parts.proofs.files.parts_of.Goals as goal

pub loop-place-preserved : goal.loop-place-preserved
loop-place-preserved c =
    let n = c.next_item-item.result.length in let k = c.next_item-item.result.kind in
    let same : after c.args.file.now c.loop-place.place ≡ drop c.loop-place.place c.args.file.now = take_rest c.args.file.now c.loop-place.place in
    let size : (c.loop-place.place + c.next_item-item.result.length) - c.loop-place.place ≡ c.next_item-item.result.length = omega arith in
    let room : n ≤ length (drop c.loop-place.place c.args.file.now) = subst (λ z. c.next_item-item.result.length ≤ length z) same c.next_item-item.ensures.within in
    record {
      within = omega (arith, room, length-drop c.loop-place.place c.args.file.now, c.loop-place.invariant.within);
      so_far = λ found first.
          one_item_more found c.args.tracks.now.named.tracks.items c.args.file.now c.loop-place.place n k c.loop-place.parts.items c.push_item.new.parts.items
          c.loop-place.invariant.within room (c.loop-place.invariant.so_far found first)
          (subst (λ z. IsItem c.next_item-item.result.kind (take c.next_item-item.result.length z) (drop c.next_item-item.result.length z)) same c.next_item-item.ensures.is)
          (subst (λ m. AddsParts (AreItemPartsBy c.next_item-item.result.kind found c.args.tracks.now.named.tracks.items c.loop-place.place (take m (drop c.loop-place.place c.args.file.now)))
          c.loop-place.parts.items c.push_item.new.parts.items) size (c.in_ok-push_item.ensures found first));
    }

pub returns : goal.returns
returns c = λ found first.
    all_parts found c.args.tracks.now.named.tracks.items c.args.file.now c.loop-place.place c.loop-place.parts.items (c.loop-place.invariant.so_far found first) c.loop-place-test.false
