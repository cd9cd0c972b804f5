-- The samples of a plane, what is predicted of them, and what is left to code (RFC 9043, sections 3.1 to 3.5 and 3.8).
use Rattle.std.specs.Prelude.{ℕ, ◌+◌, ◌-◌, ◌*◌, ◌/◌, ◌%◌, ◌^◌, ◌==◌, ◌≡◌, ◌<◌, nat_lt, min, max, List, length, get_or, ℤ, pos, ◌+ℤ◌, ◌-ℤ◌, int_lt, if◌then◌else◌}
use Rattle.ffv1_rice.specs.States.{fold}

-- ---- samples and borders

-- Samples stand row after row. A column and a row are counted from two before the plane's first, so that the places of
-- the border are numbers too. Above the plane all is 0.
unfoldable pub sample_inside : ℕ → List ℕ → ℕ → ℕ → ℕ
sample_inside width samples column row = if nat_lt row 2 then 0 else get_or samples ((row - 2) * width + (column - 2)) 0

-- Two columns before a row is 0, one column before it the first sample of the row above. One column after a row its
-- last sample stands again (section 3.1).
unfoldable pub sample_at : ℕ → List ℕ → ℕ → ℕ → ℕ
sample_at width samples column row =
    if column == 0 then 0
    else if column == 1 then sample_inside width samples 2 (row - 1)
    else sample_inside width samples (min column (width + 1)) row

-- the samples about a place (section 3.2)
pub record SamplesAbout : Type 0 where
  pub left : ℕ
  pub top : ℕ
  pub top_left : ℕ
  pub top_right : ℕ
  pub left_of_left : ℕ
  pub top_of_top : ℕ

-- those about sample s, which are counted in scan order
unfoldable pub neighbours_at : ℕ → List ℕ → ℕ → SamplesAbout
neighbours_at width samples s =
    let x = s % width in
    let y = s / width in
    record {
      left = sample_at width samples (x + 1) (y + 2);
      top = sample_at width samples (x + 2) (y + 1);
      top_left = sample_at width samples (x + 1) (y + 1);
      top_right = sample_at width samples (x + 3) (y + 1);
      left_of_left = sample_at width samples x (y + 2);
      top_of_top = sample_at width samples (x + 2) y;
    }

-- ---- prediction and context

abbrev pub median : ℕ → ℕ → ℕ → ℕ
median a b c = max (min a b) (min (max a b) c)

-- the prediction (section 3.3); a sum below 0 counts as 0 here, which changes no median of samples
unfoldable pub prediction_of : SamplesAbout → ℕ
prediction_of n = median n.left n.top (n.left + n.top - n.top_left)

-- the difference of two samples, modulo 256 at each depth
abbrev pub modular_difference : ℕ → ℕ → ℕ
modular_difference a b = (a % 256 + 256 - b % 256) % 256

-- the context, where entry t i is entry i of quantization table t (sections 3.4 and 3.5)
unfoldable pub context_of : (ℕ → ℕ → ℤ) → SamplesAbout → ℤ
context_of entry n =
    entry 0 (modular_difference n.left n.top_left)
    +ℤ entry 1 (modular_difference n.top_left n.top)
    +ℤ entry 2 (modular_difference n.top n.top_right)
    +ℤ entry 3 (modular_difference n.left_of_left n.left)
    +ℤ entry 4 (modular_difference n.top_of_top n.top)

-- what is coded of a sample of n bits that was predicted, its sign turned where the context is negative (section 3.8)
unfoldable pub difference_of : ℕ → ℤ → ℕ → ℕ → ℤ
difference_of n context prediction sample =
    if int_lt context (pos 0) then fold n (pos prediction -ℤ pos sample) else fold n (pos sample -ℤ pos prediction)

-- ---- planes

-- how samples are coded: at which depth, and by which entry i of each quantization table t
pub record Coding : Type 0 where
  pub depth : ℕ
  pub entry : ℕ → ℕ → ℤ

abbrev pub coding_at : ℕ → (ℕ → ℕ → ℤ) → Coding
coding_at depth entry = record { depth = depth; entry = entry }

-- the width of a plane, how it is coded, and its samples
pub record Plane : Type 0 where
  pub width : ℕ
  pub coding : Coding
  pub samples : List ℕ

abbrev pub plane_of : ℕ → Coding → List ℕ → Plane
plane_of width coding samples = record { width = width; coding = coding; samples = samples }

abbrev pub prediction_at : Plane → ℕ → ℕ
prediction_at p s = prediction_of (neighbours_at p.width p.samples s)

abbrev pub context_at : Plane → ℕ → ℤ
context_at p s = context_of p.coding.entry (neighbours_at p.width p.samples s)

abbrev pub difference_at : Plane → ℕ → ℤ
difference_at p s = difference_of p.coding.depth (context_at p s) (prediction_at p s) (get_or p.samples s 0)

-- The samples are those of a plane of this size: n bits each.
pub record IsPlaneOfSize (n width height : ℕ) (samples : List ℕ) : Type 0 where
  pub count : length samples ≡ width * height
  pub small : (s : ℕ) → get_or samples s 0 < 2 ^ n
