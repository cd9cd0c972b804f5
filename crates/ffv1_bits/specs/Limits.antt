-- The limits of this reader, whose numbers stand in `limits.rt`: they are not of the format, except that of a slice.
use Rattle.std.specs.Prelude.{ℕ}
use Rattle.ffv1_bits.specs.declared.limits.TheConstants.{GREATEST_SIDE, MOST_TILES, PAYLOAD_LIMIT, SLICE_LIMIT, RECORD_LIMIT, FILE_LIMIT}

-- the greatest width and height of a frame, in samples
abbrev pub greatest_side : ℕ
greatest_side = GREATEST_SIDE

-- the greatest number of a frame's tiles
abbrev pub most_tiles : ℕ
most_tiles = MOST_TILES

-- the greatest run index: a line of `greatest_side` samples does not pass it (RFC 9043, section 3.8.2.2.1)
abbrev pub greatest_run_index : ℕ
greatest_run_index = 32

-- the greatest length of a frame's payload, in bytes: 2^30
abbrev pub payload_limit : ℕ
payload_limit = PAYLOAD_LIMIT

-- the greatest length of a slice with its footer, in bytes: its size field has three (RFC 9043, section 4.9.1)
abbrev pub slice_limit : ℕ
slice_limit = SLICE_LIMIT

-- the greatest length of a record in a holding file, and of the file, in bytes: 2^24 and 2^31
abbrev pub record_limit : ℕ
record_limit = RECORD_LIMIT

abbrev pub file_limit : ℕ
file_limit = FILE_LIMIT
