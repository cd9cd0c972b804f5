-- How a made slice begins.
use Rattle.std.specs.Prelude.{◌≡◌, Bool, Ok}
use Rattle.std.specs.Bool.{MatchBool}
use Rattle.ffv1_range.specs.Coding.{Coder}
use Rattle.ffv1_range.specs.Decoder.{Reader, reader_at, reads_bit}

-- A call read the keyframe bit, where there is one, as this.
abbrev pub ReadsKeyAs : Bool → Bool → Reader → Reader → Type 0
ReadsKeyAs first key r s =
    MatchBool first ((c : Coder) × (reads_bit r 128 ≡ Ok (key, c)) × (s ≡ reader_at r (Ok c))) (s ≡ r)
