-- The tracks that blocks can name (RFC 9559, section 5.1.4.1.1: a track's number is not 0, and is no other track's).
use Rattle.std.specs.Prelude.{ℕ, ◌==◌, Bool, ◌||◌, if◌then◌else◌, List, [], ◌∷◌, ◌++◌}
use Rattle.std.specs.List.{list_any}
use Rattle.matroska.specs.declared.track.Track.{Track}

-- what each element of a list gives, by those before it
abbrev pub each_after : {X Y : Type 0} → (List X → X → List Y) → List X → List X → List Y
each_after f before [] = []
each_after f before (x ∷ xs) = f before x ++ each_after f (before ++ x ∷ []) xs

abbrev pub by_those_before : {X Y : Type 0} → (List X → X → List Y) → List X → List Y
by_those_before f xs = each_after f [] xs

-- whether a track has this number
abbrev pub has_number : ℕ → Track → Bool
has_number number track = track.number == number

-- no block can name a track of number 0, or of that of a track before it
abbrev pub is_unnamed : List Track → Track → Bool
is_unnamed before track = track.number == 0 || list_any (has_number track.number) before

-- of a file's tracks those that blocks can name, in order
abbrev pub named_tracks : List Track → List Track
named_tracks tracks = by_those_before (λ before track. if is_unnamed before track then [] else track ∷ []) tracks
