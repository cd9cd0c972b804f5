use Rattle.std.proofs.Common.{◌≡◌, ◌+◌, min, sym, ap, ◌∙◌, subst, arith}
use Rattle.std.specs.Prelude.{Option, option_map}
use Rattle.ebml.specs.Contents.{OfLastPlaced, place_in}
use Rattle.matroska.proofs.TrackSteps.{place_there, no_place}
use Rattle.matroska.proofs.track.place_with.Goals as goal

pub returns-in-Some : goal.returns-in-Some
returns-in-Some c =
    place_there c.args.id c.args.place c.args.bytes.now c.in-Some.at c.min.result (omega (arith, c.min.ensures))
    (subst (λ z. OfLastPlaced c.args.id c.args.place c.args.bytes.now (λ last. option_map (λ n. c.args.place + n) z ≡ place_in last)) c.in-Some.is (c.last_place.ensures.place c.args.place))

pub returns-in-None : goal.returns-in-None
returns-in-None c =
    no_place c.args.id c.args.place c.args.bytes.now
    (subst (λ z. OfLastPlaced c.args.id c.args.place c.args.bytes.now (λ last. option_map (λ n. c.args.place + n) z ≡ place_in last)) c.in-None.is (c.last_place.ensures.place c.args.place))
