-- The samples of a frame as bytes (own).
use Rattle.std.specs.Prelude.{ℕ, ◌/◌, ◌%◌, ◌==◌, List, [], ◌∷◌, if◌then◌else◌}
use Rattle.std.specs.List.{flat_map}
use Rattle.ffv1_player.specs.declared.samples.Samples.{Samples}

-- At depth 8 a sample is a byte, else it has two, the less significant first.
abbrev pub sample_bytes : ℕ → ℕ → List ℕ
sample_bytes depth sample = if depth == 8 then sample % 256 ∷ [] else sample % 256 ∷ sample / 256 % 256 ∷ []

-- row by row
abbrev pub plane_bytes : ℕ → List ℕ → List ℕ
plane_bytes depth samples = flat_map (sample_bytes depth) samples

-- plane after plane
abbrev pub samples_bytes : Samples → List ℕ
samples_bytes frame = flat_map (λ plane. plane_bytes frame.depth plane.items) frame.planes.items
