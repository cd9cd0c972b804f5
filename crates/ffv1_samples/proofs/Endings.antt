-- How a range-coded slice ends, where it is read and where it is defined.
use Rattle.std.proofs.Common.{◌≡◌, ℕ, ◌≤◌, length, Ok, arith}
use Rattle.ffv1_range.specs.Coding.{Coder, bit_at}
use Rattle.ffv1_range.specs.Decoder.{Reader, EndsSo}
use Rattle.ffv1_range.specs.declared.coding.RangeEnd.{RangeEnd}
use Rattle.ffv1_range.proofs.Spelling.{bind_is_ok}
use Rattle.ffv1_range.proofs.Shrinks.{bit_shrinks}

-- no more is spare than was still to come
pub spare_small : (n : ℕ) (reader : Reader) (end : RangeEnd) → ((c : Coder) → reader.at ≡ Ok c → length c.rest ≤ n) → EndsSo reader (Ok end) → end.spare ≤ n
spare_small n reader end short h =
    let x = bind_is_ok reader.at (λ c. bit_at reader.mode.closed c 129) (end.bit, h.0) h.1 in
    omega (arith, bit_shrinks reader.mode.closed x.0 h.0 129 end.bit x.2, short x.0 x.1, h.3)
