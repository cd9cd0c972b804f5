-- What is known of each track.
use Rattle.std.proofs.Common.{◌≡◌, ℕ, zero, suc, false, List, [], ◌∷◌, ◌++◌, length, refl, ap, subst}
use Rattle.std.specs.Prelude.{◌↔◌, IsTrue, slice_get, Some}
use Rattle.matroska.specs.Tracks.{HasRecord}
use Rattle.matroska.specs.declared.track.Track.{Track}
use Rattle.matroska_parts.specs.Payloads.{IsFfv1}
use Rattle.matroska_parts.specs.declared.facts.TrackFacts.{TrackFacts}
use Rattle.matroska_parts.specs.Facts.{AreFactsOf, EachHasFacts}

pub not_ffv1 : (track : Track) → ((bytes : List ℕ) → HasRecord track bytes → ⊥) → IsTrue false ↔ IsFfv1 track
not_ffv1 track none = (λ t. absurd (is_false t), λ is. absurd (none is.0 is.1))
  where
    is_false : IsTrue false → ⊥
    is_false t = cc

pub facts_more : (tracks : List Track) (facts : List TrackFacts) (track : Track) (found : TrackFacts) → EachHasFacts tracks facts → AreFactsOf track found
    → EachHasFacts (tracks ++ track ∷ []) (facts ++ found ∷ [])
facts_more [] [] track found each is = (is, tt)
facts_more [] (f ∷ fs) track found each is = absurd each
facts_more (t ∷ ts) [] track found each is = absurd each
facts_more (t ∷ ts) (f ∷ fs) track found each is = (each.0, facts_more ts fs track found each.1 is)

pub as_many : (tracks : List Track) (facts : List TrackFacts) → EachHasFacts tracks facts → length facts ≡ length tracks
as_many [] [] each = refl
as_many [] (f ∷ fs) each = absurd each
as_many (t ∷ ts) [] each = absurd each
as_many (t ∷ ts) (f ∷ fs) each = ap suc (as_many ts fs each.1)

pub facts_at : (tracks : List Track) (facts : List TrackFacts) → EachHasFacts tracks facts → (index : ℕ) (track : Track) (found : TrackFacts)
    → slice_get tracks index ≡ Some track → slice_get facts index ≡ Some found → AreFactsOf track found
facts_at [] facts each index track found at has = cc
facts_at (t ∷ ts) [] each index track found at has = absurd each
facts_at (t ∷ ts) (f ∷ fs) each zero track found at has =
    let same : t ≡ track = cc in let other : f ≡ found = cc in
    subst (λ z. AreFactsOf z found) same (subst (AreFactsOf t) other each.0)
facts_at (t ∷ ts) (f ∷ fs) each (suc index) track found at has = facts_at ts fs each.1 index track found at has
