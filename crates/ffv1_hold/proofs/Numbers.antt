-- The bytes that a number was read from are its bytes.
use Rattle.ffv1_hold.proofs.Common.{◌≡◌, ℕ, List, length, be_bytes_2, be_bytes_4, w16, w32, from_be_bytes, AreBytes, be2, be4}

pub be2_of : (bs : List ℕ) (n : ℕ) → length bs ≡ 2 → AreBytes bs → n ≡ from_be_bytes w16 bs → be2 n ≡ bs
unfolding be2
be2_of bs n len bytes e = be_bytes_2 bs n len bytes e

pub be4_of : (bs : List ℕ) (n : ℕ) → length bs ≡ 4 → AreBytes bs → n ≡ from_be_bytes w32 bs → be4 n ≡ bs
unfolding be4
be4_of bs n len bytes e = be_bytes_4 bs n len bytes e
