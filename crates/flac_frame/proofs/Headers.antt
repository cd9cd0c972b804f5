-- What a header has, by the numbers that the code has.
use Rattle.std.proofs.Common.{◌≡◌, ℕ, ◌+◌, ◌/◌, ◌%◌, ◌≤◌, ◌<◌, List, length, sym, subst, arith}
use Rattle.std.specs.Prelude.{All, slice_index, slice_range}
use Rattle.flac_frame.specs.Frame.{HasHeader, number_length, block_size_length, sample_rate_length}

pub goes_on : (frame : List ℕ) (number : ℕ) → HasHeader frame → number ≡ number_length (slice_index frame 4)
    → All (λ byte. byte / 64 ≡ 2) (slice_range frame 5 (4 + number))
goes_on frame number header is = subst (λ n. All (λ byte. byte / 64 ≡ 2) (slice_range frame 5 (4 + n))) (sym is) header.more_of_number

no_room : (size number block rate n b r : ℕ) → number ≡ n → block ≡ b → rate ≡ r → 4 + n + b + r + 3 ≤ size → size < 4 + number + block + rate + 3 → ⊥
no_room size number block rate n b r is also too room short = omega arith

-- bytes that end before the checks do have none
pub too_short : (frame : List ℕ) (number block rate : ℕ) → HasHeader frame → number ≡ number_length (slice_index frame 4)
    → block ≡ block_size_length (slice_index frame 2 / 16) → rate ≡ sample_rate_length (slice_index frame 2 % 16)
    → length frame < 4 + number + block + rate + 3 → ⊥
too_short frame number block rate header n b r short = no_room (length frame) number block rate _ _ _ n b r header.room short

none_begun : (number n : ℕ) → number ≡ n → 0 < n → number ≤ 0 → ⊥
none_begun number n is some none = omega arith

-- nor have those whose number begins with no byte that can
pub no_number : (frame : List ℕ) (number : ℕ) → HasHeader frame → number ≡ number_length (slice_index frame 4) → number ≤ 0 → ⊥
no_number frame number header is none = none_begun number _ is header.number none
