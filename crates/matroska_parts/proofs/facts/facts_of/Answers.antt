use Rattle.std.proofs.Common.{false, [], ◌∷◌, ◌++◌, take, get_or, sym, subst}
use Rattle.std.proofs.lemmas.List.{take_more, take_all}
use Rattle.matroska.specs.declared.track.Track.{Track}
use Rattle.matroska_parts.specs.Facts.{EachHasFacts}
use Rattle.matroska_parts.proofs.FactSteps.{facts_more}
use Rattle.matroska_parts.proofs.facts.facts_of.Goals as goal

abbrev no_track : Track
no_track = record { number = 0; kind = 0; codec = record { ref_ptr = (0, 0); now = [] }; private = record { ref_ptr = (0, 0); now = [] }; private_at = 0; is_encoded = false; width = 0; height = 0 }

pub loop-track-preserved : goal.loop-track-preserved
loop-track-preserved c =
    let grown = take_more c.args.tracks.now c.loop-track.track-index no_track c.loop-track-test.true in
    let track : Track = get_or c.args.tracks.now c.loop-track.track-index no_track in
    subst (λ z. EachHasFacts z c.push.new.self.items) (sym grown)
    (subst (EachHasFacts (take c.loop-track.track-index c.args.tracks.now ++ track ∷ [])) (sym c.in_ok-push.ensures.items)
    (facts_more (take c.loop-track.track-index c.args.tracks.now) c.loop-track.facts.items track c.in_ok-track_facts.field-0 c.loop-track.invariant c.in_ok-track_facts.ensures))

pub returns : goal.returns
returns c = subst (λ z. EachHasFacts z c.loop-track.facts.items) (take_all c.loop-track.track-index c.args.tracks.now c.loop-track-test.false) c.loop-track.invariant
