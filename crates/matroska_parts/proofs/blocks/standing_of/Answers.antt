use Rattle.std.proofs.Common.{◌≡◌, ◌<◌, length, refl, sym, ◌∙◌, arith, rules}
use Rattle.std.specs.Prelude.{position, Some, FitsSigned}
use Rattle.std.specs.Int.{w16}
use Rattle.std.proofs.Math.Facts.{to_z-of_z}
use Rattle.std.proofs.lemmas.Option.{slice_get_read}
use Rattle.matroska.specs.Blocks.{block_value}
use Rattle.matroska.specs.NamedTracks.{has_number}
use Rattle.matroska_parts.proofs.FactSteps.{as_many}
use Rattle.matroska_parts.proofs.BlockSteps.{not_named, track_at, track_block}
use Rattle.matroska_parts.proofs.blocks.standing_of.Goals as goal

pub returns-in_default-place_of : goal.returns-in_default-place_of
returns-in_default-place_of c = (
  block_value c.in-Some.block,
  c.in-Some.ensures,
  refl,
  not_named c.in-Some.block.track c.args.tracks.now.named.tracks.items c.place_of.result c.in_default-place_of.is c.place_of.ensures,
)

pub index-facts-requires : goal.index-facts-requires
index-facts-requires c =
    let at : position (has_number c.in-Some.block.track) c.args.tracks.now.named.tracks.items ≡ Some c.in-Some-place_of.index = sym c.place_of.ensures ∙ c.in-Some-place_of.is in
    let there = (track_at c.in-Some.block.track c.args.tracks.now.named.tracks.items c.in-Some-place_of.index at).0 in
    let many = as_many c.args.tracks.now.named.tracks.items c.args.tracks.now.facts.items c.requires in
    omega (arith, there, many)

pub returns : goal.returns
returns c =
    let at : position (has_number c.in-Some.block.track) c.args.tracks.now.named.tracks.items ≡ Some c.in-Some-place_of.index = sym c.place_of.ensures ∙ c.in-Some-place_of.is in
    let there = (track_at c.in-Some.block.track c.args.tracks.now.named.tracks.items c.in-Some-place_of.index at).0 in
    let many = as_many c.args.tracks.now.named.tracks.items c.args.tracks.now.facts.items c.requires in
    let within : c.in-Some-place_of.index < length c.args.tracks.now.facts.items = omega (arith, there, many) in
    let has = slice_get_read c.args.tracks.now.facts.items (length c.args.tracks.now.facts.items) c.in-Some-place_of.index c.index-facts.result.now refl within c.index-facts.ensures in
    let fits : FitsSigned w16 c.in-Some.block.time = search rules in (
      block_value c.in-Some.block,
      c.in-Some.ensures,
      track_block c.args.tracks.now.named.tracks.items c.args.tracks.now.facts.items c.args.is_vouched (block_value c.in-Some.block) _ c.index-facts.result.now c.requires at has
          refl refl (to_z-of_z fits) c.in_ok-judged.ensures.payload c.in_ok-judged.ensures.passing refl,
    )
