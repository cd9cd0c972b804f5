-- Tracks: those so far, and what is left; what is known of a track's record.
use Rattle.std.proofs.Common.{◌≡◌, ℕ, ◌+◌, ◌-◌, ◌≤◌, false, eqb, List, [], ◌∷◌, ◌++◌, length, min, get_or, refl, sym, ap, ◌∙◌, subst, arith, inl, inr}
use Rattle.std.specs.Prelude.{◌↔◌, IsTrue, codes, Option, Some, None, option_map}
use Rattle.std.proofs.lemmas.Bool.{eqb-true, eq-eqb}
use Rattle.std.proofs.lemmas.List.{append_assoc, append-nil}
use Rattle.ebml.specs.Contents.{PlacedBytes, AreContents, AreContentsAt, OfLastPlaced, place_in}
use Rattle.ebml.proofs.ContentList.{none_placed}
use Rattle.ffv1_range.specs.Setup.{RecordingValue, IsRecordingOf}
use Rattle.matroska.specs.Tracks.{place_found, IsTrackOf, EachIsTrack, AreTracksOf, HasRecord, IsRecordWrong, SaysParities, HasParities, RecordIsOne}
use Rattle.matroska.specs.declared.track.Track.{Track}

-- ---- the tracks so far

pub record TracksSoFar (content left : List ℕ) (tracks : List Track) : Type 0 where
  pub entries : List PlacedBytes
  pub each : EachIsTrack entries tracks
  pub more : (placed : List PlacedBytes) → AreContentsAt 0xAE (length content - length left) left placed → AreContentsAt 0xAE 0 content (entries ++ placed)
  pub within : length left ≤ length content

each_snoc : (entries : List PlacedBytes) (tracks : List Track) (entry : PlacedBytes) (track : Track) → EachIsTrack entries tracks → IsTrackOf entry.place entry.bytes track
    → EachIsTrack (entries ++ entry ∷ []) (tracks ++ track ∷ [])
each_snoc [] [] entry track each is = (is, tt)
each_snoc [] (t ∷ ts) entry track each is = absurd each
each_snoc (e ∷ es) [] entry track each is = absurd each
each_snoc (e ∷ es) (t ∷ ts) entry track each is = (each.0, each_snoc es ts entry track each.1 is)

pub no_tracks : (content : List ℕ) → TracksSoFar content content []
no_tracks content = record {
  entries = [];
  each = tt;
  more = λ placed are. let none : length content - length content ≡ 0 = omega arith in subst (λ p. AreContentsAt 0xAE p content placed) none are;
  within = omega arith;
}

pub one_track_more : (content left rest entry : List ℕ) (at : ℕ) (tracks grown : List Track) (track : Track) → TracksSoFar content left tracks
    → ((from : ℕ) (placed : List PlacedBytes) → AreContentsAt 0xAE (from + (length left - length rest)) rest placed
    → AreContentsAt 0xAE from left (record { place = from + at; bytes = entry } ∷ placed))
    → length rest ≤ length left → IsTrackOf (length content - length left + at) entry track → grown ≡ tracks ++ track ∷ [] → TracksSoFar content rest grown
one_track_more content left rest entry at tracks grown track so_far more less is same =
    let within = so_far.within in
    let new : PlacedBytes = record { place = length content - length left + at; bytes = entry } in
    let place : length content - length rest ≡ length content - length left + (length left - length rest) = omega (arith, within, less) in
    record {
      entries = so_far.entries ++ record { place = length content - length left + at; bytes = entry } ∷ [];
      each = subst (EachIsTrack (so_far.entries ++ record { place = length content - length left + at; bytes = entry } ∷ [])) (sym same)
          (each_snoc so_far.entries tracks record { place = length content - length left + at; bytes = entry } track so_far.each is);
      more = λ placed are.
          subst (AreContentsAt 0xAE 0 content) (sym (append_assoc so_far.entries (record { place = length content - length left + at; bytes = entry } ∷ []) placed))
          (so_far.more (record { place = length content - length left + at; bytes = entry } ∷ placed)
          (more (length content - length left) placed (subst (λ p. AreContentsAt 0xAE p rest placed) place are)));
      within = omega (arith, within, less);
    }

pub all_tracks : (content left : List ℕ) (tracks : List Track) → TracksSoFar content left tracks → AreContents 0xAE left [] → AreTracksOf content tracks
all_tracks content left tracks so_far none = record {
  entries = so_far.entries;
  are_entries = subst (AreContentsAt 0xAE 0 content) (append-nil so_far.entries)
      (so_far.more [] (none_placed 0xAE (length content - length left) left none));
  each = so_far.each;
}

-- ---- where a CodecPrivate begins

pub place_there : (id place : ℕ) (bytes : List ℕ) (at value : ℕ) → value ≡ min (place + at) 0xFFFFFFFF
    → OfLastPlaced id place bytes (λ last. option_map (λ n. place + n) (Some at) ≡ place_in last) → OfLastPlaced id place bytes (λ found. value ≡ place_found found)
place_there id place bytes at value is last = (last.0, last.1, go _ last.2)
  where
    go : (found : Option PlacedBytes) → Some (place + at) ≡ place_in found → value ≡ place_found found
    go None same = cc
    go (Some found) same = let one : place + at ≡ found.place = cc in is ∙ ap (λ n. min n 0xFFFFFFFF) one

pub no_place : (id place : ℕ) (bytes : List ℕ) → OfLastPlaced id place bytes (λ last. option_map (λ n. place + n) None ≡ place_in last)
    → OfLastPlaced id place bytes (λ found. 0 ≡ place_found found)
no_place id place bytes last = (last.0, last.1, go _ last.2)
  where
    go : (found : Option PlacedBytes) → None ≡ place_in found → 0 ≡ place_found found
    go None same = refl
    go (Some found) same = cc

-- ---- records

pub not_wrong : (track : Track) → ((bytes : List ℕ) → HasRecord track bytes → ⊥) → (IsTrue false ↔ IsRecordWrong track)
not_wrong track none = (λ t. absurd (IsFalse t), λ wrong. absurd (none wrong.0 wrong.1))
  where
    IsFalse : IsTrue false → ⊥
    IsFalse t = cc

pub no_record : (track : Track) → ((bytes : List ℕ) → HasRecord track bytes → ⊥) → (IsTrue false ↔ HasParities track)
no_record track none = (λ t. absurd (IsFalse t), λ has. absurd (none has.0 has.1))
  where
    IsFalse : IsTrue false → ⊥
    IsFalse t = cc

different_codecs : (codec : List ℕ) → codec ≡ codes "V_FFV1" → codec ≡ codes "V_MS/VFW/FOURCC" → ⊥
different_codecs codec a b = let third : 70 ≡ 77 = ap (λ xs. get_or xs 2 0) (sym a ∙ b) in omega (arith, third)

-- a track has one record at most
pub record_is_one : RecordIsOne
record_is_one track a b is_a is_b =
    elim is_a [
      | inl x ↦ elim is_b [ inl y ↦ x.1 ∙ sym y.1 | inr y ↦ absurd (different_codecs track.codec.now x.0 y.0) ]
      | inr x ↦ elim is_b [ inl y ↦ absurd (different_codecs track.codec.now y.0 x.0) | inr y ↦ x.2 ∙ sym y.2 ]
    ]

pub says_by : (bytes : List ℕ) (width height w h : ℕ) (recording : RecordingValue) (ec : ℕ) → w ≡ width → h ≡ height
    → IsRecordingOf bytes w h recording → ((r : RecordingValue) → IsRecordingOf bytes w h r → recording ≡ r) → ec ≡ recording.setup.ec
    → (IsTrue (eqb ec 1) ↔ SaysParities bytes width height)
says_by bytes width height w h recording ec same_w same_h is only ec_is = (
  λ one. (
    recording,
    subst (λ z. IsRecordingOf bytes width z recording) same_h (subst (λ z. IsRecordingOf bytes z h recording) same_w is),
    sym ec_is ∙ eqb-true ec 1 one,
  ),
  λ says. let back = subst (λ z. IsRecordingOf bytes w z says.0) (sym same_h) (subst (λ z. IsRecordingOf bytes z height says.0) (sym same_w) says.1) in
      eq-eqb ec 1 (ec_is ∙ ap (λ (r : RecordingValue). r.setup.ec) (only says.0 back) ∙ says.2),
)

pub says_nothing : (bytes : List ℕ) (width height w h : ℕ) → w ≡ width → h ≡ height → ((r : RecordingValue) → IsRecordingOf bytes w h r → ⊥)
    → (IsTrue false ↔ SaysParities bytes width height)
says_nothing bytes width height w h same_w same_h none = (
  λ t. absurd (IsFalse t),
  λ says. absurd (none says.0 (subst (λ z. IsRecordingOf bytes w z says.0) (sym same_h) (subst (λ z. IsRecordingOf bytes z height says.0) (sym same_w) says.1))),
)
  where
    IsFalse : IsTrue false → ⊥
    IsFalse t = cc
