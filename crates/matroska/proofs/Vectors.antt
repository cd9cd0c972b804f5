-- Blocks and laces as they stand in files, computed.
use Rattle.std.proofs.Common.{◌≡◌, ℕ, false, [], ◌∷◌, Some, refl, lit<, lit≤}
use Rattle.std.specs.Prelude.{negsuc}
use Rattle.matroska.specs.Blocks.{lacing_of, IsBlock}
use Rattle.matroska.specs.Laces.{IsXiphSize, IsFirstSize, IsLaterSize, AreLaced}
use Rattle.matroska.specs.Tracks.{number_found, IsFfv1Header}
use Rattle.matroska.specs.NamedTracks.{named_tracks}
use Rattle.matroska.specs.declared.track.Track.{Track}
use Rattle.matroska.specs.declared.block.Lacing.TheVariants.{Unlaced, Xiph, Fixed, Ebml}

-- the four values of the two bits, with others set beside them (RFC 9559, section 10.2)
unlaced_flags : lacing_of 0x80 ≡ Unlaced
unlaced_flags = refl

xiph_flags : lacing_of 0x02 ≡ Xiph
xiph_flags = refl

fixed_flags : lacing_of 0x84 ≡ Fixed
fixed_flags = refl

ebml_flags : lacing_of 0x07 ≡ Ebml
ebml_flags = refl

-- a SimpleBlock of track 1, 60 before its Cluster's time, with two bytes
early_block : IsBlock (0x81 ∷ 0xFF ∷ 0xC4 ∷ 0x80 ∷ 7 ∷ 8 ∷ []) record { track = 1; time = negsuc 59; lacing = Unlaced; payload = 7 ∷ 8 ∷ [] }
early_block = record {
  number = 0x81 ∷ [];
  high = 0xFF;
  low = 0xC4;
  flags = 0x80;
  joined = refl;
  is_vint = record { marked = lit≤ tt; first = lit< tt };
  short = lit≤ tt;
  track = refl;
  time = refl;
  lacing = refl;
}

-- the standard's examples: 800 and 500 by Xiph lacing (10.3.2), and by EBML lacing, where 500 is 300 less than 800 (10.3.3)
eight_hundred_by_xiph : IsXiphSize (0xFF ∷ 0xFF ∷ 0xFF ∷ 0x23 ∷ []) 800
eight_hundred_by_xiph = record { full = 3; last = 0x23; below = lit< tt; joined = refl; sum = refl }

five_hundred_by_xiph : IsXiphSize (0xFF ∷ 0xF5 ∷ []) 500
five_hundred_by_xiph = record { full = 1; last = 0xF5; below = lit< tt; joined = refl; sum = refl }

eight_hundred_by_ebml : IsFirstSize (0x43 ∷ 0x20 ∷ []) 800
eight_hundred_by_ebml = record { is_vint = record { marked = lit≤ tt; first = lit< tt }; short = lit≤ tt; value = refl }

five_hundred_by_ebml : IsLaterSize 800 (0x5E ∷ 0xD3 ∷ []) 500
five_hundred_by_ebml = record { is_vint = record { marked = lit≤ tt; first = lit< tt }; short = lit≤ tt; value = refl }

-- three frames of two bytes each
three_fixed : AreLaced Fixed (2 ∷ 1 ∷ 2 ∷ 3 ∷ 4 ∷ 5 ∷ 6 ∷ []) ((1 ∷ 2 ∷ []) ∷ (3 ∷ 4 ∷ []) ∷ (5 ∷ 6 ∷ []) ∷ [])
three_fixed = record {
  sizes = 2 ∷ 2 ∷ [];
  bytes = 1 ∷ 2 ∷ 3 ∷ 4 ∷ 5 ∷ 6 ∷ [];
  rest = 1 ∷ 2 ∷ 3 ∷ 4 ∷ 5 ∷ 6 ∷ [];
  counted = refl;
  given = (refl, (2, refl, refl));
  cut = record { front = (1 ∷ 2 ∷ []) ∷ (3 ∷ 4 ∷ []) ∷ []; last = 5 ∷ 6 ∷ []; all = refl; of_sizes = refl; joined = refl };
}

-- two frames, of one byte and of none, by Xiph lacing
two_by_xiph : AreLaced Xiph (1 ∷ 1 ∷ 9 ∷ []) ((9 ∷ []) ∷ [] ∷ [])
two_by_xiph = record {
  sizes = 1 ∷ [];
  bytes = 1 ∷ 9 ∷ [];
  rest = 9 ∷ [];
  counted = refl;
  given = (1 ∷ [], 9 ∷ [], refl, record { full = 0; last = 1; below = lit< tt; joined = refl; sum = refl }, refl);
  cut = record { front = (9 ∷ []) ∷ []; last = []; all = refl; of_sizes = refl; joined = refl };
}

-- a number of 720, and one of nine bytes, which counts as 0
number_720 : number_found (Some (0x02 ∷ 0xD0 ∷ [])) ≡ 720
number_720 = refl

number_too_long : number_found (Some (0 ∷ 0 ∷ 0 ∷ 0 ∷ 0 ∷ 0 ∷ 0 ∷ 0 ∷ 1 ∷ [])) ≡ 0
number_too_long = refl

-- the first 20 bytes of a BITMAPINFOHEADER of FFV1, as FFmpeg writes it
ffv1_header : IsFfv1Header (42 ∷ 0 ∷ 0 ∷ 0 ∷ 208 ∷ 2 ∷ 0 ∷ 0 ∷ 64 ∷ 2 ∷ 0 ∷ 0 ∷ 1 ∷ 0 ∷ 24 ∷ 0 ∷ 70 ∷ 70 ∷ 86 ∷ 49 ∷ [])
ffv1_header = refl

-- ---- the tracks that blocks can name

abbrev numbered : ℕ → ℕ → Track
numbered number kind = record {
  number = number;
  kind = kind;
  codec = record { ref_ptr = (0, 0); now = [] };
  private = record { ref_ptr = (0, 0); now = [] };
  private_at = 0;
  is_encoded = false;
  width = 0;
  height = 0;
}

-- of each number the first counts, and 0 is none
first_of_each : named_tracks (numbered 1 1 ∷ numbered 0 2 ∷ numbered 1 2 ∷ numbered 2 2 ∷ []) ≡ numbered 1 1 ∷ numbered 2 2 ∷ []
first_of_each = refl
