use Rattle.std.proofs.Common.{◌≡◌, ◌+◌, ◌-◌, ◌≤◌, length, take, drop, sym, ap, ◌∙◌, subst, arith}
use Rattle.std.specs.Prelude.{Some}
use Rattle.std.specs.Option.{option_copied}
use Rattle.std.proofs.lemmas.List.{take_rest, length-drop}
use Rattle.ebml.proofs.Heads.{after}
use Rattle.matroska_parts.specs.ItemParts.{PlacedContent, is_tracks, content_by}
use Rattle.matroska_parts.proofs.FileSteps.{IsOnlyItem, other_passed, tracks_passed, none_passed, tracks_by, no_tracks_by}
use Rattle.matroska_parts.proofs.files.first_tracks.Goals as goal

pub returns-in-Some : goal.returns-in-Some
returns-in-Some c = λ items are.
    let file = c.args.file.now in let place = c.loop-place.place in
    let n = c.next_item-item.result.length in let k = c.next_item-item.result.kind in
    let same : after c.args.file.now c.loop-place.place ≡ drop c.loop-place.place c.args.file.now = take_rest c.args.file.now c.loop-place.place in
    let size : (c.loop-place.place + c.next_item-item.result.length) - c.loop-place.place ≡ c.next_item-item.result.length = omega arith in
    let room : n ≤ length (drop c.loop-place.place c.args.file.now) = subst (λ z. c.next_item-item.result.length ≤ length z) same c.next_item-item.ensures.within in
    let only = subst (λ z. IsOnlyItem z c.next_item-item.result.kind c.next_item-item.result.length) same c.next_item-item.ensures.only in
    let by = tracks_by (is_tracks k) c.in-Some.content.now _ (ap option_copied (sym c.in-Some.is) ∙ c.tracks_content.ensures) in
    ap (λ z. Some (let v : PlacedContent = record { place = c.loop-place.place; content = z } in v))
    (by.1 ∙ ap (λ m. content_by c.next_item-item.result.kind (take m (drop c.loop-place.place c.args.file.now))) size)
    ∙ tracks_passed file place n k c.loop-place.invariant.rest c.loop-place-test.true room only by.0 items are

pub loop-place-preserved : goal.loop-place-preserved
loop-place-preserved c =
    let file = c.args.file.now in let place = c.loop-place.place in
    let n = c.next_item-item.result.length in let k = c.next_item-item.result.kind in
    let same : after c.args.file.now c.loop-place.place ≡ drop c.loop-place.place c.args.file.now = take_rest c.args.file.now c.loop-place.place in
    let room : n ≤ length (drop c.loop-place.place c.args.file.now) = subst (λ z. c.next_item-item.result.length ≤ length z) same c.next_item-item.ensures.within in
    let only = subst (λ z. IsOnlyItem z c.next_item-item.result.kind c.next_item-item.result.length) same c.next_item-item.ensures.only in
    record {
      within = omega (arith, room, length-drop c.loop-place.place c.args.file.now, c.loop-place.invariant.within);
      rest = other_passed file place n k c.loop-place.invariant.rest c.loop-place-test.true room only
          (no_tracks_by (is_tracks k) _ (ap option_copied (sym c.in_default.is) ∙ c.tracks_content.ensures));
    }

pub returns : goal.returns
returns c = none_passed c.args.file.now c.loop-place.place c.loop-place.invariant.rest c.loop-place-test.false
