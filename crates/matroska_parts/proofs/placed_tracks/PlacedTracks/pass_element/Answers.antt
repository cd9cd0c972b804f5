use Rattle.std.proofs.Common.{◌≡◌, ◌+◌, ◌++◌, [], sym, ◌∙◌, subst, arith}
use Rattle.std.specs.Prelude.{Some}
use Rattle.ebml.specs.declared.items.Kind.TheVariants as kind
use Rattle.matroska_parts.specs.SourceParts.{KnownTracks, AddsItemParts}
use Rattle.matroska_parts.proofs.ReadSteps.{said}
use Rattle.matroska_parts.proofs.PlacedSteps.{placed_after, placed_room}
use Rattle.matroska_parts.proofs.placed_tracks.PlacedTracks.pass_element.Goals as goal

pub push_inside-requires-clause-room : goal.push_inside-requires-clause-room
push_inside-requires-clause-room g c =
    let ins = c.in_ok-inside.ensures in
    let placed = placed_after (c.args.place + c.args.head.now.length) ins.content c.args.intake.now c.pass_inside.new.intake _ _ ins.passes.passes c.requires.placed in
    let room = placed_room _ c.pass_inside.new.intake placed ins.passes.bounded in
    let long = ins.is.long in
    omega (arith, room, long)

pub returns : goal.returns
returns g c = λ start is.
    let ins = c.in_ok-inside.ensures in (
      ins.content,
      ins.is.long,
      λ size sized. let same : Some c.in-Some-size.size ≡ Some size = sym c.in-Some-size.is ∙ sized in let one : c.in-Some-size.size ≡ size = cc in rw (sym one) ins.passes,
      subst (λ (known : KnownTracks). AddsItemParts (kind.Element c.args.head.now) known.first known.tracks c.args.place (start ++ ins.content) c.args.parts.now.items
          c.push_inside.new.parts.items) c.self.view_is
          (c.in_ok-push_inside.ensures _ start ins.content (said c.self.inside.found.now) is.0.has is.3 ins.is (ins.over [] c.new-crc.ensures)),
    )
