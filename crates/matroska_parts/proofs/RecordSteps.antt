-- The records of tracks, one by one.
use Rattle.std.proofs.Common.{◌≡◌, ℕ, ◌+◌, ◌-◌, ◌≤◌, ◌<◌, Bool, true, false, eqb, length, arith, inl, inr, List, [], ◌∷◌, ◌++◌, refl, sym, ap, ◌∙◌}
use Rattle.std.proofs.lemmas.List.{append_assoc, append-nil, length-drop}
use Rattle.std.proofs.lemmas.Bool.{eqb-true}
use Rattle.matroska.specs.Tracks.{HasRecord}
use Rattle.matroska.specs.declared.track.Track.{Track}
use Rattle.matroska_parts.specs.declared.parts.Part.{Part}
use Rattle.matroska_parts.specs.RecordParts.{AreRecordPartsOf, AreRecordParts}
use Rattle.matroska_parts.specs.Inner.Added.{AddsParts}

records_snoc : (place : ℕ) (vouched : Bool) (tracks : List Track) (track : Track) (so_far more : List Part) → AreRecordParts place vouched tracks so_far → AreRecordPartsOf place vouched track more
    → AreRecordParts place vouched (tracks ++ track ∷ []) (so_far ++ more)
records_snoc place vouched [] track so_far more are is = (more, [], ap (λ z. z ++ more) are ∙ sym (append-nil more), is, refl)
records_snoc place vouched (t ∷ ts) track so_far more are is =
    (are.0, are.1 ++ more, ap (λ z. z ++ more) are.2 ∙ append_assoc are.0 are.1 more, are.3, records_snoc place vouched ts track are.1 more are.4 is)

pub one_record_more : (place : ℕ) (vouched : Bool) (tracks : List Track) (track : Track) (old new newer : List Part) → AddsParts (AreRecordParts place vouched tracks) old new
    → AddsParts (AreRecordPartsOf place vouched track) new newer → AddsParts (AreRecordParts place vouched (tracks ++ track ∷ [])) old newer
one_record_more place vouched tracks track old new newer so_far adds =
    (so_far.0 ++ adds.0, adds.1 ∙ ap (λ z. z ++ adds.0) so_far.1 ∙ append_assoc old so_far.0 adds.0, records_snoc place vouched tracks track so_far.0 adds.0 so_far.2 adds.2)

pub no_records : (place : ℕ) (vouched : Bool) (old : List Part) → AddsParts (AreRecordParts place vouched []) old old
no_records place vouched old = ([], sym (append-nil old), refl)

pub empty_by : (bytes : List ℕ) → eqb (length bytes) 0 ≡ true → bytes ≡ []
empty_by [] e = refl
empty_by (b ∷ bs) e = let none : length (b ∷ bs) ≡ 0 = eqb-true (length (b ∷ bs)) 0 e in absurd (omega arith)

pub some_by : (bytes : List ℕ) → eqb (length bytes) 0 ≡ false → 0 < length bytes
some_by [] e = cc
some_by (b ∷ bs) e = omega arith

-- a record ends its CodecPrivate, after 40 bytes of that at most
pub record_ends : (track : Track) (bytes : List ℕ) → HasRecord track bytes → (length bytes ≤ length track.private.now) × (length track.private.now ≤ length bytes + 40)
record_ends track bytes has = elim has [
  | inl x ↦ let long = ap length x.1 in (omega (arith, long), omega (arith, long))
  | inr x ↦
      let long : length bytes ≡ length track.private.now - 40 = ap length x.2 ∙ length-drop 40 track.private.now in
      (omega (arith, long), omega (arith, long))
]
