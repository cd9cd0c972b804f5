use Rattle.std.proofs.Common.{ℕ, List, subst}
use Rattle.std.specs.Prelude.{OnOk}
use Rattle.matroska_parts.specs.SourceParts.{found_in, KnownTracks, AddsItemParts}
use Rattle.matroska_parts.proofs.ReadSteps.{said}
use Rattle.matroska_parts.proofs.placed_tracks.PlacedTracks.push.Goals as goal

pub returns : goal.returns
returns c = λ all given.
    subst (λ (k : KnownTracks).
    OnOk c.push_item.result (AddsItemParts c.args.item.now.kind k.first k.tracks c.args.place all c.args.parts.now.items c.push_item.new.parts.items)) c.self.view_is
    (subst (λ (b : List ℕ). OnOk c.push_item.result
    (AddsItemParts c.args.item.now.kind (found_in c.self.inside.found.now) c.self.inside.file.named.tracks.items c.args.place b
    c.args.parts.now.items c.push_item.new.parts.items))
    (given.same c.in_default.not-Unknown) (c.push_item.ensures (found_in c.self.inside.found.now) (said c.self.inside.found.now)))
