-- Sizes of frames, as they are read one after the other.
use Rattle.std.specs.Prelude.{ℕ, ◌+◌, ◌≤◌, ◌≡◌, List, ◌++◌, length, Option, Some, None}
use Rattle.std.specs.List.{AllByRecursion}
use Rattle.matroska.specs.Laces.{most_difference, SizesFollow, GiveSizes}
use Rattle.matroska.specs.declared.block.Lacing.{Lacing}
use Rattle.matroska.specs.declared.sizes.SizeAt.{SizeAt}

-- a size was read that begins the bytes, no more than they are; or none begins them that is so
abbrev pub ReadsSize : (List ℕ → ℕ → Type 0) → List ℕ → Option SizeAt → Type 0
ReadsSize Is bytes None = (front rest : List ℕ) (size : ℕ) → bytes ≡ front ++ rest → Is front size → size ≤ length bytes → ⊥
ReadsSize Is bytes (Some found) = (front : List ℕ) × (bytes ≡ front ++ found.rest.now) × Is front found.size × (found.size ≤ length bytes)

-- each size is one of something that lies in the rest
abbrev pub FitIn : List ℕ → List ℕ → Type 0
FitIn rest sizes = AllByRecursion (λ size. size ≤ length rest) sizes

-- no such sizes of this number begin the bytes
abbrev pub NoneGiven : Lacing → ℕ → List ℕ → Type 0
NoneGiven lacing count bytes = (sizes rest : List ℕ) → length sizes ≡ count → GiveSizes lacing bytes sizes rest → FitIn rest sizes → ⊥

abbrev pub NoneFollow : Lacing → ℕ → List ℕ → Type 0
NoneFollow lacing count bytes = (sizes rest : List ℕ) → length sizes ≡ count → SizesFollow lacing None bytes sizes rest → FitIn rest sizes → ⊥

-- the size that a number of so many octets gives, by the one before where there is one
abbrev pub GivesSize : Option ℕ → (value octets size : ℕ) → Type 0
GivesSize None value octets size = size ≡ value
GivesSize (Some before) value octets size = size + most_difference octets ≡ before + value
