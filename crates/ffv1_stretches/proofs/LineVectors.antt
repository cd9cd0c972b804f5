-- What is printed of stretches of each kind, in each state in which such a stretch can be, and of two stretches of a list.
use Rattle.std.proofs.Common.{◌≡◌, ℕ, List, [], ◌∷◌, Option, Some, None, refl}
use Rattle.std.specs.Prelude.{codes}
use Rattle.std.specs.Fmt.{digits}
use Rattle.ffv1_splice.specs.Splice.{SplicedValue}
use Rattle.ffv1_splice.specs.declared.place.Place.{Place}
use Rattle.ffv1_splice.specs.declared.place.Standing.{Standing}
use Rattle.ffv1_splice.specs.declared.place.Standing.TheVariants as standing
use Rattle.ffv1_mend.specs.Improved.PartValue.{spliced}
use Rattle.ffv1_mend.specs.Mended.{MendedValue}
use Rattle.ffv1_mend.specs.declared.kind.Kind.{Kind}
use Rattle.ffv1_mend.specs.declared.kind.Kind.TheVariants.{Frame, Crc32, Record, Flac, Plain}
use Rattle.ffv1_mend.specs.declared.state.State.{State}
use Rattle.ffv1_mend.specs.declared.state.State.TheVariants.{Whole, Disputed, Woven, Missing, Alone, Agreed, Open}
use Rattle.ffv1_stretches.specs.Stretches.{StretchValue}
use Rattle.ffv1_stretches.specs.Lines.{stretch_line, mend_text}

-- two bytes of three copies: the first has them at its start, the second has others a byte later, the third does not have them
abbrev two_bytes : Kind → StretchValue
two_bytes kind = record { kind = kind; size = 2; from = 0; places = Some 0 ∷ Some 1 ∷ None ∷ []; parts = [] }

abbrev cells : List (Option (List ℕ))
cells = Some (1 ∷ 2 ∷ []) ∷ Some (1 ∷ 3 ∷ []) ∷ None ∷ []

abbrev stands : State → MendedValue
stands state = record { state = state; bytes = 1 ∷ 2 ∷ []; parts = [] }

abbrev line : Kind → State → List ℕ
line kind state = stretch_line 1 cells (two_bytes kind) (stands state)

frames : (line Frame Whole ≡ codes "stretch 1 frame whole 10-\n") × (line Frame (Woven 16) ≡ codes "stretch 1 frame woven 16 10-\n")
    × (line Frame Missing ≡ codes "stretch 1 frame missing 10-\n")
unfolding digits
frames = (refl, refl, refl)

elements : (line Crc32 Whole ≡ codes "stretch 1 crc32 whole 10-\n") × (line Crc32 (Woven 4096) ≡ codes "stretch 1 crc32 woven 4096 10-\n")
    × (line Crc32 Disputed ≡ codes "stretch 1 crc32 disputed 10-\n") × (line Crc32 Missing ≡ codes "stretch 1 crc32 missing 10-\n")
unfolding digits
elements = (refl, refl, refl, refl)

records : (line Record Whole ≡ codes "stretch 1 record whole 10-\n") × (line Record (Woven 4) ≡ codes "stretch 1 record woven 4 10-\n")
    × (line Record Disputed ≡ codes "stretch 1 record disputed 10-\n") × (line Record Missing ≡ codes "stretch 1 record missing 10-\n")
unfolding digits
records = (refl, refl, refl, refl)

frames_of_flac : (line Flac Whole ≡ codes "stretch 1 flac whole 10-\n") × (line Flac Disputed ≡ codes "stretch 1 flac disputed 10-\n")
    × (line Flac Missing ≡ codes "stretch 1 flac missing 10-\n")
unfolding digits
frames_of_flac = (refl, refl, refl)

plain_bytes : (line Plain Alone ≡ codes "stretch 1 plain alone 10-\n") × (line Plain Agreed ≡ codes "stretch 1 plain agreed 10-\n")
    × (line Plain Open ≡ codes "stretch 1 plain open 10-\n")
unfolding digits
plain_bytes = (refl, refl, refl)

-- ---- a list of two stretches

-- a frame that one copy has, and a byte after it that both have
abbrev place_of : (start end : ℕ) → Standing → Place
place_of start end stand = record { start = start; end = end; standing = stand }

abbrev splice_of : SplicedValue
splice_of =
    record {
      places = place_of 3 4 standing.Settled ∷ place_of 2 3 (standing.Woven 4) ∷ place_of 1 2 standing.Undivided ∷ place_of 0 1 (standing.Voted 6) ∷ [];
      front = 0;
      payload = 5 ∷ 6 ∷ 7 ∷ 8 ∷ [];
    }

abbrev frame : StretchValue
frame = record { kind = Frame; size = 4; from = 1; places = None ∷ Some 0 ∷ []; parts = [] }

abbrev byte : StretchValue
byte = record { kind = Plain; size = 1; from = 0; places = Some 2 ∷ Some 4 ∷ []; parts = [] }

printed : mend_text 1 ((0 ∷ 0 ∷ 9 ∷ []) ∷ (5 ∷ 0 ∷ 7 ∷ 8 ∷ 9 ∷ []) ∷ []) (frame ∷ byte ∷ [])
    (record { state = Missing; bytes = 5 ∷ 6 ∷ 7 ∷ 8 ∷ []; parts = spliced splice_of ∷ [] }
    ∷ record { state = Agreed; bytes = 9 ∷ []; parts = [] } ∷ [])
    ≡ codes "stretch 1 frame missing -0\n  3..4 settled -1\n  2..3 woven 4 -1\n  1..2 undivided -0\n  0..1 voted 6 -1\n  end whole\nstretch 2 plain agreed 11\n"
unfolding digits
printed = refl
