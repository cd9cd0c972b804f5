-- What is known of a track before its blocks are judged.
use Rattle.std.specs.Prelude.{◌↔◌, IsTrue, List, [], ◌∷◌}
use Rattle.matroska.specs.Tracks.{HasParities, IsFlac}
use Rattle.matroska.specs.declared.track.Track.{Track}
use Rattle.matroska_parts.specs.Payloads.{IsFfv1}
use Rattle.matroska_parts.specs.declared.facts.Judging.{Judging}
use Rattle.matroska_parts.specs.declared.facts.Judging.TheVariants as judging
use Rattle.matroska_parts.specs.declared.facts.TrackFacts.{TrackFacts}

abbrev pub IsJudging : Track → Judging → Type 0
IsJudging track judging.Parities = HasParities track
IsJudging track judging.Flac = IsFlac track
IsJudging track judging.Nothing = (HasParities track → ⊥) × (IsFlac track → ⊥)

pub record AreFactsOf (track : Track) (facts : TrackFacts) : Type 0 where
  pub ffv1 : IsTrue facts.is_ffv1 ↔ IsFfv1 track
  pub judging : IsJudging track facts.judging

-- those of all tracks
abbrev pub EachHasFacts : List Track → List TrackFacts → Type 0
EachHasFacts [] [] = Unit {0}
EachHasFacts [] (f ∷ facts) = ⊥
EachHasFacts (t ∷ tracks) [] = ⊥
EachHasFacts (t ∷ tracks) (f ∷ facts) = AreFactsOf t f × EachHasFacts tracks facts
