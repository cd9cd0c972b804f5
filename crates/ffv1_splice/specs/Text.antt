-- The places of a splice, and its front, in words (own).
use Rattle.std.specs.Prelude.{ℕ, ◌==◌, ◌++◌, List, codes, if◌then◌else◌}
use Rattle.std.specs.Fmt.{decimal}
use Rattle.ffv1_splice.specs.declared.place.Standing.{Standing}
use Rattle.ffv1_splice.specs.declared.place.Standing.TheVariants.{Settled, Woven, Voted, Repaired, Disputed, Missing, Undivided}
use Rattle.ffv1_splice.specs.declared.place.Place.{Place}

-- how a place stands, and where it is woven, voted or repaired, among how many that were tried
abbrev pub standing_word : Standing → List ℕ
standing_word Settled = codes "settled"
standing_word (Woven count) = codes "woven " ++ decimal count
standing_word (Voted count) = codes "voted " ++ decimal count
standing_word (Repaired count) = codes "repaired " ++ decimal count
standing_word Disputed = codes "disputed"
standing_word Missing = codes "missing"
standing_word Undivided = codes "undivided"

-- where a place lies, and how it stands
abbrev pub place_words : Place → List ℕ
place_words place = decimal place.start ++ codes ".." ++ decimal place.end ++ codes " " ++ standing_word place.standing

-- whether the places cover the frame
abbrev pub front_line : ℕ → List ℕ
front_line front = if front == 0 then codes "end whole\n" else codes "end broken at " ++ decimal front ++ codes "\n"
