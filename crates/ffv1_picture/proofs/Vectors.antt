-- The definitions, evaluated on worked frames.
use Rattle.std.proofs.Common.{◌≡◌, ℕ, true, [], ◌∷◌, Some, None, refl}
use Rattle.ffv1_range.specs.Tiles.{GridValue}
use Rattle.ffv1_picture.specs.WholePicture.{Planes, greatest_sample, whole_plane, whole_picture}

-- ---- chroma of half the width and height, in two tiles beside each other

half_chroma : ℕ → GridValue
half_chroma width = record { width = width; height = 2; across = 2; down = 1; has_chroma = true; shift_h = 1; shift_v = 1 }

left_of_6 : Planes
left_of_6 = (1 ∷ 2 ∷ 3 ∷ 4 ∷ 5 ∷ 6 ∷ []) ∷ (10 ∷ 20 ∷ []) ∷ (11 ∷ 21 ∷ []) ∷ []

right_of_6 : Planes
right_of_6 = (7 ∷ 8 ∷ 9 ∷ 10 ∷ 11 ∷ 12 ∷ []) ∷ (30 ∷ 40 ∷ []) ∷ (31 ∷ 41 ∷ []) ∷ []

-- both tiles cover the second chroma column: the greater one's sample stands
two_cover : whole_picture (half_chroma 6) (Some left_of_6 ∷ Some right_of_6 ∷ [])
    ≡ (1 ∷ 2 ∷ 3 ∷ 7 ∷ 8 ∷ 9 ∷ 4 ∷ 5 ∷ 6 ∷ 10 ∷ 11 ∷ 12 ∷ []) ∷ (10 ∷ 30 ∷ 40 ∷ []) ∷ (11 ∷ 31 ∷ 41 ∷ []) ∷ []
unfolding half_chroma left_of_6 right_of_6 greatest_sample whole_plane
two_cover = refl

-- without it that column is the smaller one's, and the last is 128
one_covers : whole_picture (half_chroma 6) (Some left_of_6 ∷ None ∷ [])
    ≡ (1 ∷ 2 ∷ 3 ∷ 128 ∷ 128 ∷ 128 ∷ 4 ∷ 5 ∷ 6 ∷ 128 ∷ 128 ∷ 128 ∷ []) ∷ (10 ∷ 20 ∷ 128 ∷ []) ∷ (11 ∷ 21 ∷ 128 ∷ []) ∷ []
unfolding half_chroma left_of_6 greatest_sample whole_plane
one_covers = refl

left_of_3 : Planes
left_of_3 = (1 ∷ 4 ∷ []) ∷ (50 ∷ []) ∷ (60 ∷ []) ∷ []

right_of_3 : Planes
right_of_3 = (2 ∷ 3 ∷ 5 ∷ 6 ∷ []) ∷ (51 ∷ []) ∷ (61 ∷ []) ∷ []

-- no tile covers the second chroma column
none_covers : whole_picture (half_chroma 3) (Some left_of_3 ∷ Some right_of_3 ∷ [])
    ≡ (1 ∷ 2 ∷ 3 ∷ 4 ∷ 5 ∷ 6 ∷ []) ∷ (51 ∷ 128 ∷ []) ∷ (61 ∷ 128 ∷ []) ∷ []
unfolding half_chroma left_of_3 right_of_3 greatest_sample whole_plane
none_covers = refl
