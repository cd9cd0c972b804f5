-- The samples of a frame as a file has them, and what the command `decode` prints of it.
use Rattle.std.specs.Prelude.{ℕ, ◌++◌, List, vec_len, codes}
use Rattle.std.specs.List.{flat_map}
use Rattle.std.specs.Fmt.{decimal}
use Rattle.ffv1_picture.specs.declared.frame.Frame.{Frame}

-- planes Y, Cb and Cr one after the other, each row by row, a byte a sample
abbrev pub raw_bytes : Frame → List ℕ
raw_bytes frame = flat_map (λ plane. plane.items) frame.planes.items

-- a frame's size in luma samples, and how many planes it has
abbrev pub decoded_line : (width height planes : ℕ) → List ℕ
decoded_line width height planes = codes "decoded " ++ decimal width ++ codes " x " ++ decimal height ++ codes " planes " ++ decimal planes ++ codes "\n"

abbrev pub decoded_frame_line : Frame → List ℕ
decoded_frame_line frame = decoded_line frame.width frame.height (vec_len frame.planes)
