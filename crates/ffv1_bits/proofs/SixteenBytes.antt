-- The parity of sixteen bytes at once: what each byte of the register and of the sixteen leaves, far from the end.
use Rattle.std.proofs.Common.{◌≡◌, ℕ, zero, suc, ◌+◌, ◌-◌, ◌*◌, ◌/◌, ◌%◌, ◌^◌, ◌<◌, ◌≤◌, true, nat_eq, cond, eqb, get_or, List, [], ◌∷◌, ◌++◌, length, take, drop, replicate, refl, sym, ap, ◌∙◌, arith, add-zero, append-nil, append_assoc}
use Rattle.std.specs.Prelude.{bit_xor}
use Rattle.std.specs.List.{fold, concat}
use Rattle.std.specs.Int.{from_be_bytes, w32}
use Rattle.std.specs.Int.Bits.{xor_shifted, xor_assoc}
use Rattle.std.specs.Simd.{first_chunks}
use Rattle.std.proofs.lemmas.Bool.{agree_below_at, eqb-true}
use Rattle.std.proofs.lemmas.Grind.{flat_map-append}
use Rattle.std.proofs.lemmas.List.{get_or-drop, length-drop, length-replicate, take_more, drop_all, drop-drop, take-append-drop}
use Rattle.std.proofs.lemmas.List.Folds.{concat-append}
use Rattle.std.proofs.lemmas.List.Sums.{fold-append}
use Rattle.std.proofs.lemmas.Nat.{xor_comm, pow-add, shl_below}
use Rattle.std.proofs.lemmas.Nat.Bits.{bit_at_above}
use Rattle.std.proofs.Math.Seq.{take-add}
use Rattle.ffv1_bits.specs.Bits.{number_bits, bits_of}
use Rattle.ffv1_bits.specs.declared.table.TheConstants.{REMAINDERS}
use Rattle.ffv1_bits.specs.Parity.{divisor, polynomial_of, divided, remainder_of, AreBytes}
use Rattle.ffv1_bits.specs.Inner.Division.{reduced_at}
use Rattle.ffv1_bits.proofs.Burst.{length-bits}
use Rattle.ffv1_bits.proofs.Division.{shifted, divided_is_fold, remainder_is_fold, divided-xor, divided_low}
use Rattle.ffv1_bits.proofs.Bytes.{AreBytes-drop}
use Rattle.ffv1_bits.proofs.EightBytes.{polynomial_of-bytes, no_polynomial}

-- ---- a byte far from the end

below_place : (more b : ℕ) → b < 256 → b * 2 ^ (32 + 8 * more) < 2 ^ (32 + (8 + 8 * more))
below_place more b small =
    let h : b < 2 ^ 8 = small in
    let places : 8 + (32 + 8 * more) ≡ 32 + (8 + 8 * more) = omega arith in
    rw places at (shl_below b 8 (32 + 8 * more) h)

one_line : (n m p : ℕ) → p < 2 ^ (32 + n) → reduced_at (m + n) p ≡ p
unfolding reduced_at
one_line n m p small =
    ap (λ x. cond (eqb x 1) (bit_xor p (divisor * 2 ^ (m + n))) p) (bit_at_above p (32 + n) (32 + (m + n)) small (omega arith))

-- lines at powers that a number does not have leave it
divided_enough : (n m p : ℕ) → p < 2 ^ (32 + n) → divided (m + n) p ≡ divided n p
unfolding divided reduced_at
divided_enough n zero p small = ap (λ k. divided k p) (let e : 0 + n ≡ n = omega arith in e)
divided_enough n (suc m) p small =
    ap (λ k. divided k p) (let e : suc m + n ≡ suc (m + n) = omega arith in e) ∙ ap (divided (m + n)) (one_line n m p small) ∙ divided_enough n m p small

-- the entry of a byte: the remainder of it, four zero bytes and so many more
abbrev pub moved_entry : ℕ → ℕ → ℕ
moved_entry more byte = remainder_of (bits_of (byte ∷ replicate (4 + more) 0))

pub moved_entry_is : (more b : ℕ) → b < 256 → moved_entry more b ≡ divided (8 + 8 * more) (b * 2 ^ (32 + 8 * more))
unfolding remainder_of
moved_entry_is more b small =
    let bytes : List ℕ = b ∷ replicate (4 + more) 0 in
    let zeros : length {A = ℕ} (replicate (4 + more) 0) ≡ 4 + more = length-replicate (4 + more) 0 in
    let long : length (bits_of bytes) ≡ 32 + (8 + 8 * more) = length-bits bytes ∙ ap (λ n. 8 * suc n) zeros ∙ omega arith in
    let power : 8 * length {A = ℕ} (replicate (4 + more) 0) ≡ 32 + 8 * more = omega arith in
    let whole : polynomial_of (bits_of bytes) ≡ b * 2 ^ (32 + 8 * more) =
    polynomial_of-bytes b (replicate (4 + more) 0) small ∙ ap (λ n. b * 2 ^ n + polynomial_of (bits_of (replicate (4 + more) 0))) power
    ∙ ap (λ p. b * 2 ^ (32 + 8 * more) + p) (no_polynomial (4 + more)) ∙ omega arith in
    ap (λ n. divided n (polynomial_of (bits_of bytes))) long ∙ ap (divided (32 + (8 + 8 * more))) whole
    ∙ divided_enough (8 + 8 * more) 32 (b * 2 ^ (32 + 8 * more)) (below_place more b small)

-- it is what the byte leaves at its place in twenty bytes
moved_entry_in_twenty : (more b : ℕ) → more < 16 → b < 256 → divided 128 (b * 2 ^ (32 + 8 * more)) ≡ moved_entry more b
moved_entry_in_twenty more b few small =
    ap (λ n. divided n (b * 2 ^ (32 + 8 * more))) (let e : 128 ≡ 120 - 8 * more + (8 + 8 * more) = omega arith in e)
    ∙ divided_enough (8 + 8 * more) (120 - 8 * more) (b * 2 ^ (32 + 8 * more)) (below_place more b small)
    ∙ sym (moved_entry_is more b small)

-- ---- the tables

agrees : (n : ℕ) → n < 4096
    → nat_eq (get_or (get_or REMAINDERS (n / 256) []) (n % 256) 0) (divided (8 + 8 * (n / 256)) (n % 256 * 2 ^ (32 + 8 * (n / 256)))) ≡ true
unfolding reduced_at divided
agrees n h =
    agree_below_at (λ m. nat_eq (get_or (get_or REMAINDERS (m / 256) []) (m % 256) 0) (divided (8 + 8 * (m / 256)) (m % 256 * 2 ^ (32 + 8 * (m / 256)))))
    (λ _. true) 4096 n refl h

pub tables_have : (more b : ℕ) → more < 16 → b < 256 → get_or (get_or REMAINDERS more []) b 0 ≡ moved_entry more b
tables_have more b few small =
    let place : ℕ = 256 * more + b in
    let which : place / 256 ≡ more = omega arith in
    let entry : place % 256 ≡ b = omega arith in
    eqb-true (get_or (get_or REMAINDERS more []) b 0) (divided (8 + 8 * more) (b * 2 ^ (32 + 8 * more)))
    (rw (which, entry) at (agrees place (omega arith))) ∙ sym (moved_entry_is more b small)

-- ---- four bytes far from the end

-- two parts of a number leave the sum of what each leaves, wherever they stand
parted : (high low j k : ℕ) → low < 2 ^ j → divided 128 ((high * 2 ^ j + low) * 2 ^ k) ≡ bit_xor (divided 128 (high * 2 ^ (j + k))) (divided 128 (low * 2 ^ k))
parted high low j k small =
    let apart : (high * 2 ^ j + low) * 2 ^ k ≡ high * 2 ^ (j + k) + low * 2 ^ k = rw pow-add (omega arith) in
    ap (divided 128) (apart ∙ sym (xor_shifted high (j + k) (low * 2 ^ k) (shl_below low j k small))) ∙ divided-xor 128 (high * 2 ^ (j + k)) (low * 2 ^ k)

-- a byte that so many more follow
byte_moved : (more past b k : ℕ) → more < 16 → b < 256 → k ≡ 8 * past + (32 + 8 * (more - past)) → past ≤ more → divided 128 (b * 2 ^ k) ≡ moved_entry more b
byte_moved more past b k few small is within =
    ap (λ n. divided 128 (b * 2 ^ n)) (let e : k ≡ 32 + 8 * more = omega arith in e) ∙ moved_entry_in_twenty more b few small

pub four_moved : (n more : ℕ) → n < 2 ^ 32 → more ≤ 12
    → bit_xor (bit_xor (moved_entry (more + 3) (n / 2 ^ 24 % 256)) (moved_entry (more + 2) (n / 2 ^ 16 % 256)))
    (bit_xor (moved_entry (more + 1) (n / 2 ^ 8 % 256)) (moved_entry more (n % 256)))
    ≡ divided 128 (n * 2 ^ (32 + 8 * more))
four_moved n more small few =
    let k : ℕ = 32 + 8 * more in
    let a : ℕ = n / 2 ^ 24 % 256 in
    let b : ℕ = n / 2 ^ 16 % 256 in
    let c : ℕ = n / 2 ^ 8 % 256 in
    let d : ℕ = n % 256 in
    let split : n ≡ a * 2 ^ 24 + (b * 2 ^ 16 + (c * 2 ^ 8 + d)) = omega arith in
    let one : divided 128 (a * 2 ^ (24 + k)) ≡ moved_entry (more + 3) a = byte_moved (more + 3) 3 a (24 + k) (omega arith) (omega arith) (omega arith) (omega arith) in
    let two : divided 128 (b * 2 ^ (16 + k)) ≡ moved_entry (more + 2) b = byte_moved (more + 2) 2 b (16 + k) (omega arith) (omega arith) (omega arith) (omega arith) in
    let three : divided 128 (c * 2 ^ (8 + k)) ≡ moved_entry (more + 1) c = byte_moved (more + 1) 1 c (8 + k) (omega arith) (omega arith) (omega arith) (omega arith) in
    let four : divided 128 (d * 2 ^ k) ≡ moved_entry more d = moved_entry_in_twenty more d (omega arith) (omega arith) in
    let whole : divided 128 (n * 2 ^ k)
    ≡ bit_xor (divided 128 (a * 2 ^ (24 + k))) (bit_xor (divided 128 (b * 2 ^ (16 + k))) (bit_xor (divided 128 (c * 2 ^ (8 + k))) (divided 128 (d * 2 ^ k)))) =
    ap (λ m. divided 128 (m * 2 ^ k)) split ∙ parted a (b * 2 ^ 16 + (c * 2 ^ 8 + d)) 24 k (omega arith)
    ∙ ap (bit_xor (divided 128 (a * 2 ^ (24 + k)))) (parted b (c * 2 ^ 8 + d) 16 k (omega arith)
    ∙ ap (bit_xor (divided 128 (b * 2 ^ (16 + k)))) (parted c d 8 k (omega arith))) in
    xor_assoc (moved_entry (more + 3) a) (moved_entry (more + 2) b) (bit_xor (moved_entry (more + 1) c) (moved_entry more d))
    ∙ sym (rw (one, two, three, four) at whole)

-- ---- the register and sixteen bytes

-- four bytes from a place on, as a number
abbrev pub word_at : List ℕ → ℕ → ℕ
word_at bytes k = from_be_bytes w32 (get_or bytes k 0 ∷ get_or bytes (k + 1) 0 ∷ get_or bytes (k + 2) 0 ∷ get_or bytes (k + 3) 0 ∷ [])

polynomial_of-word : (bytes : List ℕ) → 4 ≤ length bytes → AreBytes bytes
    → polynomial_of (bits_of bytes) ≡ word_at bytes 0 * 2 ^ (8 * (length bytes - 4)) + polynomial_of (bits_of (drop 4 bytes))
polynomial_of-word (a ∷ b ∷ c ∷ d ∷ rest) long small =
    let n : ℕ = length rest in
    let one : polynomial_of (bits_of (a ∷ b ∷ c ∷ d ∷ rest)) ≡ a * 2 ^ (8 * (n + 3)) + polynomial_of (bits_of (b ∷ c ∷ d ∷ rest)) =
    polynomial_of-bytes a (b ∷ c ∷ d ∷ rest) (small 0) ∙ ap (λ m. a * 2 ^ (8 * m) + polynomial_of (bits_of (b ∷ c ∷ d ∷ rest))) (omega arith) in
    let two : polynomial_of (bits_of (b ∷ c ∷ d ∷ rest)) ≡ b * 2 ^ (8 * (n + 2)) + polynomial_of (bits_of (c ∷ d ∷ rest)) =
    polynomial_of-bytes b (c ∷ d ∷ rest) (small 1) ∙ ap (λ m. b * 2 ^ (8 * m) + polynomial_of (bits_of (c ∷ d ∷ rest))) (omega arith) in
    let three : polynomial_of (bits_of (c ∷ d ∷ rest)) ≡ c * 2 ^ (8 * (n + 1)) + polynomial_of (bits_of (d ∷ rest)) =
    polynomial_of-bytes c (d ∷ rest) (small 2) ∙ ap (λ m. c * 2 ^ (8 * m) + polynomial_of (bits_of (d ∷ rest))) (omega arith) in
    let four : polynomial_of (bits_of (d ∷ rest)) ≡ d * 2 ^ (8 * n) + polynomial_of (bits_of rest) = polynomial_of-bytes d rest (small 3) in
    let p3 : 2 ^ (8 * (n + 3)) ≡ 2 ^ 24 * 2 ^ (8 * n) = ap (λ m. 2 ^ m) (let e : 8 * (n + 3) ≡ 24 + 8 * n = omega arith in e) ∙ pow-add 2 24 (8 * n) in
    let p2 : 2 ^ (8 * (n + 2)) ≡ 2 ^ 16 * 2 ^ (8 * n) = ap (λ m. 2 ^ m) (let e : 8 * (n + 2) ≡ 16 + 8 * n = omega arith in e) ∙ pow-add 2 16 (8 * n) in
    let p1 : 2 ^ (8 * (n + 1)) ≡ 2 ^ 8 * 2 ^ (8 * n) = ap (λ m. 2 ^ m) (let e : 8 * (n + 1) ≡ 8 + 8 * n = omega arith in e) ∙ pow-add 2 8 (8 * n) in
    let size : length (a ∷ b ∷ c ∷ d ∷ rest) - 4 ≡ n = omega arith in
    rw (p3, p2, p1) at (one ∙ ap (λ p. a * 2 ^ (8 * (n + 3)) + p) (two ∙ ap (λ p. b * 2 ^ (8 * (n + 2)) + p) (three ∙ ap (λ p. c * 2 ^ (8 * (n + 1)) + p) four)))
    ∙ rw size (omega arith)
polynomial_of-word bytes long small = absurd (omega arith)

word_from : (n : ℕ) (bytes : List ℕ) → word_at (drop n bytes) 0 ≡ word_at bytes n
word_from n bytes =
    let a = get_or-drop n bytes 0 0 ∙ ap (λ m. get_or bytes m 0) (add-zero n) in
    let b = get_or-drop n bytes 1 0 in
    let c = get_or-drop n bytes 2 0 in
    let d = get_or-drop n bytes 3 0 in
    rw (a, b, c, d) refl

-- the bytes from a place on: four of them, and those after these
word_step : (n m : ℕ) (bytes : List ℕ) → n + (4 + m) ≡ length bytes → AreBytes bytes
    → polynomial_of (bits_of (drop n bytes)) ≡ word_at bytes n * 2 ^ (8 * m) + polynomial_of (bits_of (drop (n + 4) bytes))
word_step n m bytes long small =
    let size : length (drop n bytes) ≡ 4 + m = length-drop n bytes ∙ omega arith in
    let rest : length (drop n bytes) - 4 ≡ m = omega arith in
    polynomial_of-word (drop n bytes) (omega arith) (AreBytes-drop n bytes small)
    ∙ ap (λ k. word_at (drop n bytes) 0 * 2 ^ (8 * k) + polynomial_of (bits_of (drop 4 (drop n bytes)))) rest
    ∙ ap (λ w. w * 2 ^ (8 * m) + polynomial_of (bits_of (drop 4 (drop n bytes)))) (word_from n bytes)
    ∙ ap (λ xs. word_at bytes n * 2 ^ (8 * m) + polynomial_of (bits_of xs)) (drop-drop 4 n bytes)

words : (bytes : List ℕ) → length bytes ≡ 16 → AreBytes bytes
    → polynomial_of (bits_of bytes) ≡ word_at bytes 0 * 2 ^ 96 + (word_at bytes 4 * 2 ^ 64 + (word_at bytes 8 * 2 ^ 32 + word_at bytes 12))
unfolding polynomial_of bits_of
words bytes long small =
    let none : polynomial_of (bits_of (drop 16 bytes)) ≡ 0 = ap (λ xs. polynomial_of (bits_of xs)) (drop_all 16 bytes (omega arith)) in
    word_step 0 12 bytes (sym long) small
    ∙ ap (λ p. word_at bytes 0 * 2 ^ 96 + p) (word_step 4 8 bytes (sym long) small
    ∙ ap (λ p. word_at bytes 4 * 2 ^ 64 + p) (word_step 8 4 bytes (sym long) small
    ∙ ap (λ p. word_at bytes 8 * 2 ^ 32 + p) (word_step 12 0 bytes (sym long) small ∙ ap (λ p. word_at bytes 12 * 2 ^ 0 + p) none ∙ omega arith)))

-- two parts of a number leave the sum of what each leaves
divided-add : (high k low : ℕ) → low < 2 ^ k → divided 128 (high * 2 ^ k + low) ≡ bit_xor (divided 128 (high * 2 ^ k)) (divided 128 low)
divided-add high k low below = ap (divided 128) (sym (xor_shifted high k low below)) ∙ divided-xor 128 (high * 2 ^ k) low

word_small : (bytes : List ℕ) (k : ℕ) → AreBytes bytes → word_at bytes k < 2 ^ 32
word_small bytes k small = omega (arith, small k, small (k + 1), small (k + 2), small (k + 3))

-- five numbers, summed in another order
summed : (a b c d r : ℕ) → bit_xor r (bit_xor a (bit_xor b (bit_xor c d))) ≡ bit_xor (bit_xor (bit_xor a b) (bit_xor c d)) r
summed a b c d r = xor_comm r (bit_xor a (bit_xor b (bit_xor c d))) ∙ ap (λ s. bit_xor s r) (sym (xor_assoc a b (bit_xor c d)))

pub sixteen_taken : (r first second third last : ℕ) (sixteen : List ℕ) → length sixteen ≡ 16 → AreBytes sixteen
    → first ≡ divided 128 (word_at sixteen 0 * 2 ^ 96) → second ≡ divided 128 (word_at sixteen 4 * 2 ^ 64) → third ≡ divided 128 (word_at sixteen 8 * 2 ^ 32)
    → last ≡ word_at sixteen 12
    → bit_xor (bit_xor (bit_xor first second) (bit_xor third last)) (divided 128 (r * 2 ^ 128)) ≡ divided 128 (r * 2 ^ 128 + polynomial_of (bits_of sixteen))
sixteen_taken r first second third last sixteen long small one two three four =
    let a : ℕ = word_at sixteen 0 in
    let b : ℕ = word_at sixteen 4 in
    let c : ℕ = word_at sixteen 8 in
    let d : ℕ = word_at sixteen 12 in
    let a_small : a < 2 ^ 32 = word_small sixteen 0 small in
    let b_small : b < 2 ^ 32 = word_small sixteen 4 small in
    let c_small : c < 2 ^ 32 = word_small sixteen 8 small in
    let d_small : d < 2 ^ 32 = word_small sixteen 12 small in
    let whole : divided 128 (r * 2 ^ 128 + polynomial_of (bits_of sixteen))
    ≡ bit_xor (divided 128 (r * 2 ^ 128)) (bit_xor (divided 128 (a * 2 ^ 96)) (bit_xor (divided 128 (b * 2 ^ 64)) (bit_xor (divided 128 (c * 2 ^ 32)) d))) =
    ap (λ p. divided 128 (r * 2 ^ 128 + p)) (words sixteen long small)
    ∙ divided-add r 128 (a * 2 ^ 96 + (b * 2 ^ 64 + (c * 2 ^ 32 + d))) (omega arith)
    ∙ ap (bit_xor (divided 128 (r * 2 ^ 128))) (divided-add a 96 (b * 2 ^ 64 + (c * 2 ^ 32 + d)) (omega arith)
    ∙ ap (bit_xor (divided 128 (a * 2 ^ 96))) (divided-add b 64 (c * 2 ^ 32 + d) (omega arith)
    ∙ ap (bit_xor (divided 128 (b * 2 ^ 64))) (divided-add c 32 d d_small ∙ ap (bit_xor (divided 128 (c * 2 ^ 32))) (divided_low 128 d d_small)))) in
    sym (rw (sym one, sym two, sym three, sym four) at whole ∙ summed first second third last (divided 128 (r * 2 ^ 128)))

-- ---- sixteen bytes after others

remainder_sixteen : (bytes sixteen : List ℕ) → length sixteen ≡ 16
    → remainder_of (bits_of (bytes ++ sixteen)) ≡ divided 128 (remainder_of (bits_of bytes) * 2 ^ 128 + polynomial_of (bits_of sixteen))
unfolding bits_of
remainder_sixteen bytes sixteen long =
    let register : ℕ = fold shifted 0 (bits_of bytes) in
    remainder_is_fold (bits_of (bytes ++ sixteen)) ∙ ap (fold shifted 0) (flat_map-append (number_bits 8) bytes sixteen)
    ∙ fold-append shifted 0 (bits_of bytes) (bits_of sixteen) ∙ sym (divided_is_fold register (bits_of sixteen))
    ∙ ap (λ m. divided m (register * 2 ^ m + polynomial_of (bits_of sixteen))) (length-bits sixteen ∙ ap (λ m. 8 * m) long)
    ∙ ap (λ r. divided 128 (r * 2 ^ 128 + polynomial_of (bits_of sixteen))) (sym (remainder_is_fold (bits_of bytes)))

-- ---- chunks of sixteen bytes in order

concat_chunks : (n k : ℕ) (xs : List ℕ) → concat (first_chunks n k xs) ≡ take (k * n) xs
concat_chunks n zero xs = ap (λ m. take m xs) (let e : 0 ≡ 0 * n = omega arith in e)
concat_chunks n (suc k) xs =
    ap (λ more. take n xs ++ more) (concat_chunks n k (drop n xs)) ∙ sym (take-add n (k * n) xs)
    ∙ ap (λ m. take m xs) (let e : n + k * n ≡ suc k * n = omega arith in e)

pub chunk_turn : (front : List ℕ) (chunks : List (List ℕ)) (i register next : ℕ) → i < length chunks → length (get_or chunks i []) ≡ 16
    → register ≡ remainder_of (bits_of (front ++ concat (take i chunks)))
    → next ≡ divided 128 (register * 2 ^ 128 + polynomial_of (bits_of (get_or chunks i [])))
    → next ≡ remainder_of (bits_of (front ++ concat (take (i + 1) chunks)))
chunk_turn front chunks i register next within long now e =
    let chunk : List ℕ = get_or chunks i [] in
    let more : front ++ concat (take (i + 1) chunks) ≡ (front ++ concat (take i chunks)) ++ chunk =
    ap (λ bytes. front ++ bytes) (ap concat (take_more chunks i [] within) ∙ concat-append (take i chunks) (chunk ∷ [])
    ∙ ap (λ last. concat (take i chunks) ++ last) (append-nil chunk)) ∙ sym (append_assoc front (concat (take i chunks)) chunk) in
    e ∙ ap (λ r. divided 128 (r * 2 ^ 128 + polynomial_of (bits_of chunk))) now
    ∙ sym (remainder_sixteen (front ++ concat (take i chunks)) chunk long) ∙ ap (λ bytes. remainder_of (bits_of bytes)) (sym more)

pub chunks_and_rest : (bytes : List ℕ) → concat (first_chunks 16 (length bytes / 16) bytes) ++ drop (length bytes / 16 * 16) bytes ≡ bytes
chunks_and_rest bytes =
    ap (λ front. front ++ drop (length bytes / 16 * 16) bytes) (concat_chunks 16 (length bytes / 16) bytes) ∙ take-append-drop (length bytes / 16 * 16) bytes
