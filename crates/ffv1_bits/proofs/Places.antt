-- Places among the bits of bytes.
use Rattle.std.proofs.Common.{◌≡◌, ℕ, zero, suc, ◌+◌, ◌-◌, ◌*◌, ◌/◌, ◌%◌, ◌^◌, ◌<◌, ◌≤◌, Bool, true, false, eqb, List, [], ◌∷◌, ◌++◌, length, take, drop, get_or, refl, sym, ap, ◌∙◌, arith, length-drop, length-take, length-append, append_assoc, add-one}
use Rattle.std.proofs.Math.Nat.{pow-suc}
use mir.Val.{bool_byte}
use Rattle.std.specs.Prelude.{bit_and}
use Rattle.std.proofs.lemmas.List.{get_or_append_left, get_or-append-add, drop_more, drop_all, drop-drop, take-append-drop}
use Rattle.std.proofs.lemmas.Nat.Bits.{shr_and_one}
use Rattle.ffv1_bits.specs.Bits.{has_bit, bit_value, number_bits, bits_of}
use Rattle.ffv1_bits.specs.Reader.{Reading, ReadsBits, PlaceAndLeftAddUp}
use Rattle.ffv1_bits.proofs.Burst.{length-bits}
use Rattle.ffv1_bits.proofs.Numbers.{length-number_bits, number_bits-push}

bit_of_byte : (b k : ℕ) → k < 8 → get_or (number_bits 8 b) k false ≡ has_bit b (7 - k)
unfolding number_bits
bit_of_byte b zero h = refl
bit_of_byte b (suc zero) h = refl
bit_of_byte b (suc (suc zero)) h = refl
bit_of_byte b (suc (suc (suc zero))) h = refl
bit_of_byte b (suc (suc (suc (suc zero)))) h = refl
bit_of_byte b (suc (suc (suc (suc (suc zero))))) h = refl
bit_of_byte b (suc (suc (suc (suc (suc (suc zero)))))) h = refl
bit_of_byte b (suc (suc (suc (suc (suc (suc (suc zero))))))) h = refl
bit_of_byte b (suc (suc (suc (suc (suc (suc (suc (suc k)))))))) h = absurd (omega arith)

-- bit j of byte i
bit_in_byte : (bytes : List ℕ) (i j : ℕ) → i < length bytes → j < 8 → get_or (bits_of bytes) (8 * i + j) false ≡ has_bit (get_or bytes i 0) (7 - j)
unfolding bits_of
bit_in_byte [] i j h k = absurd (omega arith)
bit_in_byte (x ∷ xs) zero j h k =
    let few : j < length (number_bits 8 x) = omega (arith, length-number_bits 8 x) in
    ap (λ n. get_or (bits_of (x ∷ xs)) n false) (let e : 8 * 0 + j ≡ j = omega arith in e)
    ∙ get_or_append_left (number_bits 8 x) (bits_of xs) false j few ∙ bit_of_byte x j k
bit_in_byte (x ∷ xs) (suc i) j h k =
    ap (λ n. get_or (bits_of (x ∷ xs)) n false) (let e : 8 * suc i + j ≡ length (number_bits 8 x) + (8 * i + j) = omega (arith, length-number_bits 8 x) in e)
    ∙ get_or-append-add (number_bits 8 x) (bits_of xs) (8 * i + j) false ∙ bit_in_byte xs i j (omega arith) k

-- the next bit, and those after it
pub next_bit : (bytes : List ℕ) (place : ℕ) → place / 8 < length bytes
    → drop place (bits_of bytes) ≡ eqb (bit_and (get_or bytes (place / 8) 0 / 2 ^ (7 - place % 8)) 1) 1 ∷ drop (place + 1) (bits_of bytes)
next_bit bytes place within =
    let below : place < length (bits_of bytes) = omega (arith, length-bits bytes) in
    let at : 8 * (place / 8) + place % 8 ≡ place = omega arith in
    let bit : get_or (bits_of bytes) place false ≡ has_bit (get_or bytes (place / 8) 0) (7 - place % 8) =
    ap (λ n. get_or (bits_of bytes) n false) (sym at) ∙ bit_in_byte bytes (place / 8) (place % 8) within (omega arith) in
    drop_more (bits_of bytes) place false below
    ∙ ap (λ b. b ∷ drop (place + 1) (bits_of bytes)) (bit ∙ ap (λ b. eqb b 1) (sym (shr_and_one (get_or bytes (place / 8) 0) (7 - place % 8))))

-- after the last byte no bit is left
pub no_bit : (bytes : List ℕ) (place : ℕ) → length bytes ≤ place / 8 → drop place (bits_of bytes) ≡ []
no_bit bytes place past = drop_all place (bits_of bytes) (omega (arith, length-bits bytes))

pub bits_left : (bytes : List ℕ) (place : ℕ) → length (drop place (bits_of bytes)) ≡ 8 * length bytes - place
bits_left bytes place = length-drop place (bits_of bytes) ∙ ap (λ n. n - place) (length-bits bytes)

-- ---- bits read one after the other

pub ReadsBits-append : (old mid new : Reading) (bits more : List Bool) → ReadsBits old bits mid → ReadsBits mid more new → ReadsBits old (bits ++ more) new
ReadsBits-append old mid new bits more first second = record {
  begins = first.begins ∙ ap (λ l. bits ++ l) second.begins ∙ sym (append_assoc bits more new.left);
  moves = omega (arith, first.moves, second.moves, length-append bits more);
}

-- bits that are passed over
pub skipped : (old : Reading) (whole : List Bool) (count place : ℕ) → old.left ≡ drop place whole → old.place ≡ place → count ≤ length old.left
    → ReadsBits old (take count old.left) (record { place = place + count; left = drop (place + count) whole })
skipped old whole count place left at enough = record {
  begins = sym (take-append-drop count old.left) ∙ ap (λ l. take count old.left ++ l) (ap (drop count) left ∙ drop-drop count place whole);
  moves = omega (arith, at, length-take count old.left);
}

pub none_read : (reading : Reading) → ReadsBits reading (number_bits 0 0) reading
unfolding number_bits
none_read reading = record { begins = refl; moves = omega arith }

pub bool_byte-bit_value : (bit : Bool) → bool_byte bit ≡ bit_value bit
bool_byte-bit_value true = refl
bool_byte-bit_value false = refl

pub fits_more : (count n v : ℕ) (bit : Bool) → n < 2 ^ count → v ≡ bool_byte bit → 2 * n + v < 2 ^ (count + 1)
fits_more count n v true small value = let wide : 2 ^ (count + 1) ≡ 2 ^ count * 2 = rw add-one (pow-suc 2 count) in omega arith
fits_more count n v false small value = let wide : 2 ^ (count + 1) ≡ 2 ^ count * 2 = rw add-one (pow-suc 2 count) in omega arith

-- one more bit of a number
pub one_more : (old mid new : Reading) (count n m v : ℕ) (bit : Bool) → ReadsBits old (number_bits count n) mid → ReadsBits mid (bit ∷ []) new → v ≡ bool_byte bit
    → m ≡ 2 * n + v → ReadsBits old (number_bits (count + 1) m) new
one_more old mid new count n m v bit before now value is =
    let longer : number_bits (count + 1) m ≡ number_bits count n ++ (bit ∷ []) =
    ap (λ c. number_bits c m) (let e : count + 1 ≡ suc count = omega arith in e)
    ∙ ap (number_bits (suc count)) (is ∙ ap (λ x. 2 * n + x) (value ∙ bool_byte-bit_value bit)) ∙ number_bits-push count n bit in
    rw longer (ReadsBits-append old mid new (number_bits count n) (bit ∷ []) before now)

-- the bits end within a number
pub ended : (old mid : Reading) (read n count : ℕ) → ReadsBits old (number_bits read n) mid → mid.left ≡ [] → read < count → length old.left < count
ended old mid read n count before none few =
    omega (arith, ap length before.begins, length-append (number_bits read n) mid.left, length-number_bits read n, ap length none)

-- ---- the law

pub add_up : PlaceAndLeftAddUp
add_up = record {
  whole = length-bits;
  kept = λ old new bits reads. omega (arith, reads.moves, ap length reads.begins, length-append bits new.left);
}
