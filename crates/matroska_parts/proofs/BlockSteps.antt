-- The track that a block names.
use Rattle.std.proofs.Common.{◌≡◌, ℕ, ◌<◌, Bool, true, false, eqb, List, [], ◌∷◌, length, get_or, refl, sym, ap, ◌∙◌, subst}
use Rattle.std.specs.Prelude.{IsTrue, ◌≢◌, ◌||◌, slice_get, position, is_some, Option, Some, None}
use Rattle.std.specs.List.{AllByRecursion, list_any}
use Rattle.std.proofs.lemmas.Bool.{eqb-true, eq-eqb}
use Rattle.std.proofs.lemmas.List.Quantifiers.{position-Some}
use Rattle.std.proofs.lemmas.Option.{slice_get-get_or}
use Rattle.matroska.specs.Blocks.{BlockValue}
use Rattle.matroska.specs.NamedTracks.{has_number}
use Rattle.matroska.specs.declared.track.Track.{Track}
use Rattle.matroska.proofs.NamedSteps.{any_is_position}
use Rattle.matroska_parts.specs.Payloads.{IsPayloadOf, HasPassing}
use Rattle.matroska_parts.specs.BlockParts.{IsTrackBlock}
use Rattle.matroska_parts.specs.declared.parts.TrackBlock.{TrackBlock}
use Rattle.matroska_parts.specs.declared.facts.TrackFacts.{TrackFacts}
use Rattle.matroska_parts.specs.Facts.{IsJudging, AreFactsOf, EachHasFacts}
use Rattle.matroska_parts.proofs.FactSteps.{facts_at}

abbrev pub no_track : Track
no_track = record { number = 0; kind = 0; codec = record { ref_ptr = (0, 0); now = [] }; private = record { ref_ptr = (0, 0); now = [] }; private_at = 0; is_encoded = false; width = 0; height = 0 }

none_more : (number : ℕ) (t : Track) (ts : List Track) (b : Bool) → eqb t.number number ≡ b → (b || list_any (has_number number) ts) ≡ false
    → (list_any (has_number number) ts ≡ false → AllByRecursion (λ other. other.number ≢ number) ts) → AllByRecursion (λ other. other.number ≢ number) (t ∷ ts)
none_more number t ts true e none more = cc
none_more number t ts false e none more = (
  λ same. let is : eqb t.number number ≡ true = eq-eqb t.number number same in let wrong : true ≡ false = sym is ∙ e in cc,
  more none,
)

none_has : (number : ℕ) (tracks : List Track) → list_any (has_number number) tracks ≡ false → AllByRecursion (λ other. other.number ≢ number) tracks
none_has number [] none = tt
none_has number (t ∷ ts) none = none_more number t ts (eqb t.number number) refl none (none_has number ts)

pub not_named : (number : ℕ) (tracks : List Track) (found : Option ℕ) → found ≡ None → found ≡ position (has_number number) tracks
    → AllByRecursion (λ other. other.number ≢ number) tracks
not_named number tracks found is at = none_has number tracks (any_is_position (has_number number) tracks ∙ ap is_some (sym at ∙ is))

pub track_at : (number : ℕ) (tracks : List Track) (index : ℕ) → position (has_number number) tracks ≡ Some index
    → (index < length tracks) × (slice_get tracks index ≡ Some (get_or tracks index no_track)) × ((get_or tracks index no_track).number ≡ number)
track_at number tracks index at =
    let found = position-Some (has_number number) tracks index no_track at in
    (found.0, slice_get-get_or tracks index no_track found.0, eqb-true (get_or tracks index no_track).number number found.1)

pub track_block : (tracks : List Track) (facts : List TrackFacts) (vouched : Bool) (block : BlockValue) (found : TrackBlock) (fact : TrackFacts)
    → EachHasFacts tracks facts → position (has_number block.track) tracks ≡ Some found.index → slice_get facts found.index ≡ Some fact
    → found.track ≡ block.track → found.is_ffv1 ≡ fact.is_ffv1 → found.time ≡ block.time
    → ((track : Track) → IsJudging track fact.judging → IsPayloadOf track block found.payload) → HasPassing found.payload block.payload found.passing → found.is_vouched ≡ vouched
    → IsTrackBlock tracks vouched block found
track_block tracks facts vouched block found fact each at has track ffv1 time payload passing vouched_is =
    let there = track_at block.track tracks found.index at in
    let are : AreFactsOf (get_or tracks found.index no_track) fact = facts_at tracks facts each found.index (get_or tracks found.index no_track) fact there.1 has in
    record {
      track = get_or tracks found.index no_track;
      at = there.1;
      number = there.2;
      named = track;
      ffv1 = (λ t. are.ffv1.0 (subst IsTrue ffv1 t), λ is. subst IsTrue (sym ffv1) (are.ffv1.1 is));
      time = time;
      payload = payload (get_or tracks found.index no_track) are.judging;
      passing = passing;
      vouched_is = vouched_is;
    }
