use Rattle.std.proofs.Common.{◌≡◌, length, arith, subst}
use Rattle.std.specs.Prelude.{vec_len}
use Rattle.std.specs.List.{AllByRecursion}
use Rattle.matroska_parts.specs.Named.{IsBelow}
use Rattle.matroska_parts.specs.ItemParts.{AreTracksBy, AreItemParts, AreFileParts}
use Rattle.matroska_parts.specs.Inner.Firsts.{found_of}
use Rattle.matroska_parts.proofs.BelowSteps.{parts_below}
use Rattle.matroska_parts.proofs.files.file_parts.Goals as goal

pub returns : goal.returns
returns c =
    let all = c.in_ok-parts.ensures (found_of c.first_tracks-first.result) c.place_of.ensures in
    let at = c.first_tracks-first.ensures all.0 all.1 in
    let are : AreFileParts c.args.file.now c.in_ok-tracks.tracks.named.tracks.items c.in_ok-parts.parts.items = record {
      items = all.0;
      are_items = all.1;
      tracks_are = subst (λ z. AreTracksBy z c.in_ok-tracks.tracks.named.tracks.items) at c.in_ok-tracks.ensures.tracks;
      parts_are = subst (λ z. AreItemParts z c.in_ok-tracks.tracks.named.tracks.items 0 all.0 c.in_ok-parts.parts.items) at all.2;
    } in
    let long : length c.in_ok-tracks.tracks.named.tracks.items ≡ vec_len c.in_ok-tracks.tracks.named.tracks = omega arith in
    record {
      parts = are;
      named = subst (λ n. AllByRecursion (IsBelow n) c.in_ok-parts.parts.items) long
          (parts_below c.args.file.now c.in_ok-tracks.tracks.named.tracks.items c.in_ok-parts.parts.items are);
    }
