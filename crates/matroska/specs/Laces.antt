-- How frames are laced in a block's payload (RFC 9559, section 10.3).
use Rattle.std.specs.Prelude.{ℕ, ◌+◌, ◌-◌, ◌*◌, ◌^◌, ◌≤◌, ◌<◌, ◌≡◌, List, [], ◌∷◌, ◌++◌, length, map, replicate, Option, Some, None}
use Rattle.std.specs.List.{concat}
use Rattle.ffv1_bits.specs.Parity.{AreBytes}
use Rattle.ebml.specs.Vint.{data_of, IsVint}
use Rattle.matroska.specs.declared.block.Lacing.{Lacing}
use Rattle.matroska.specs.declared.block.Lacing.TheVariants.{Unlaced, Xiph, Fixed, Ebml}

-- The bytes are a size of Xiph lacing (10.3.2): bytes of 255, and a last one below; the size is their sum.
pub record IsXiphSize (bytes : List ℕ) (size : ℕ) : Type 0 where
  pub full : ℕ
  pub last : ℕ
  pub below : last < 255
  pub joined : bytes ≡ replicate full 255 ++ last ∷ []
  pub sum : size ≡ 255 * full + last

-- The bytes are the first size of EBML lacing (10.3.3): a Variable-Size Integer.
pub record IsFirstSize (bytes : List ℕ) (size : ℕ) : Type 0 where
  pub is_vint : IsVint bytes
  pub short : length bytes ≤ 8
  pub value : size ≡ data_of bytes

-- the greatest difference that so many octets give
abbrev pub most_difference : ℕ → ℕ
most_difference n = 2 ^ (7 * n - 1) - 1

-- The bytes are a later size of EBML lacing: a Variable-Size Integer, which less the greatest difference is what is added to the size before.
pub record IsLaterSize (before : ℕ) (bytes : List ℕ) (size : ℕ) : Type 0 where
  pub is_vint : IsVint bytes
  pub short : length bytes ≤ 8
  pub value : size + most_difference (length bytes) ≡ before + data_of bytes

-- the bytes are a size, by the one before where there is one
abbrev pub IsFrameSize : Lacing → Option ℕ → List ℕ → ℕ → Type 0
IsFrameSize Unlaced before bytes size = ⊥
IsFrameSize Xiph before bytes size = IsXiphSize bytes size
IsFrameSize Fixed before bytes size = ⊥
IsFrameSize Ebml None bytes size = IsFirstSize bytes size
IsFrameSize Ebml (Some before) bytes size = IsLaterSize before bytes size

-- the bytes begin with these sizes, one after the other, and this is the rest
abbrev pub SizesFollow : Lacing → Option ℕ → List ℕ → List ℕ → List ℕ → Type 0
SizesFollow lacing before bytes [] rest = bytes ≡ rest
SizesFollow lacing before bytes (size ∷ sizes) rest =
    (front : List ℕ) × (more : List ℕ) × (bytes ≡ front ++ more) × IsFrameSize lacing before front size × SizesFollow lacing (Some size) more sizes rest

-- The bytes give these sizes of frames but the last, and the frames are in the rest. Of fixed lacing (10.3.4) no sizes stand there: all frames
-- are of one.
abbrev pub GiveSizes : Lacing → List ℕ → List ℕ → List ℕ → Type 0
GiveSizes Unlaced bytes sizes rest = ⊥
GiveSizes Xiph bytes sizes rest = SizesFollow Xiph None bytes sizes rest
GiveSizes Ebml bytes sizes rest = SizesFollow Ebml None bytes sizes rest
GiveSizes Fixed bytes sizes rest =
    (bytes ≡ rest) × ((size : ℕ) × (sizes ≡ replicate (length sizes) size) × (length bytes ≡ (length sizes + 1) * size))

-- The frames are the bytes, one after the other, and all but the last have these sizes.
pub record AreCutBy (sizes bytes : List ℕ) (frames : List (List ℕ)) : Type 0 where
  pub front : List (List ℕ)
  pub last : List ℕ
  pub all : frames ≡ front ++ last ∷ []
  pub of_sizes : map length front ≡ sizes
  pub joined : bytes ≡ concat front ++ last

-- The payload is laced: how many frames it has but one, their sizes, and the frames.
pub record AreLaced (lacing : Lacing) (payload : List ℕ) (frames : List (List ℕ)) : Type 0 where
  pub sizes : List ℕ
  pub bytes : List ℕ
  pub rest : List ℕ
  pub counted : payload ≡ length sizes ∷ bytes
  pub given : GiveSizes lacing bytes sizes rest
  pub cut : AreCutBy sizes rest frames

-- the frames of a block's payload
abbrev pub AreFrames : Lacing → List ℕ → List (List ℕ) → Type 0
AreFrames Unlaced payload frames = frames ≡ payload ∷ []
AreFrames Xiph payload frames = AreLaced Xiph payload frames
AreFrames Fixed payload frames = AreLaced Fixed payload frames
AreFrames Ebml payload frames = AreLaced Ebml payload frames

-- ---- laws

-- The frames of a payload are one list.
abbrev pub FramesAreOne : Type 0
FramesAreOne =
    (lacing : Lacing) (payload : List ℕ) (frames others : List (List ℕ)) → AreBytes payload → AreFrames lacing payload frames
    → AreFrames lacing payload others → frames ≡ others
