-- Elements with a CRC-32: what is left of them, and that damage within 32 bits is seen.
use Rattle.std.proofs.Common.{◌≡◌, ℕ, suc, ◌+◌, ◌-◌, ◌*◌, ◌^◌, ◌<◌, Bool, false, List, [], ◌∷◌, ◌++◌, length, reverse, take, drop, replicate, min, refl, sym, ap, ◌∙◌, arith, inl, inr}
use Rattle.std.specs.Prelude.{bit_xor}
use Rattle.std.specs.List.{fold}
use Rattle.std.specs.Int.{w32, bit_not, to_le_bytes, bytes_low_first, reverse_bits_onto}
use Rattle.std.specs.Int.Bits.{xor_comm, xor_self, xor_zero_r}
use Rattle.std.proofs.lemmas.Bool.{cases_lt}
use Rattle.std.proofs.lemmas.List.{length-append, length-drop, length-reverse, reverse-reverse, take-append-drop, take_all, drop_all}
use Rattle.ffv1_bits.specs.Bits.{number_bits}
use Rattle.ffv1_bits.specs.Parity.{polynomial_of, divided, remainder_of, AreBytes}
use Rattle.ffv1_bits.proofs.Sums.{same_from_xor, xor_swap, xor_twice}
use Rattle.ffv1_bits.proofs.Division.{shifted, remainder_is_fold, fold_injective}
use Rattle.ffv1_bits.proofs.Numbers.{length-number_bits, polynomial_of-number_bits, fronts_alike}
use Rattle.ffv1_bits.proofs.Burst.{same_bits, byte_is}
use Rattle.ffv1_bits.proofs.Bytes.{AreBytes-drop}
use Rattle.ffv1_bits.proofs.SameChanges.{AreSameChanges, all_kept, changes_append, changes_take, changes_drop, changes_flat, fold_changes}
use Rattle.ebml.specs.Crc.{sent_bits, crc_remainder, crc32_of}
use Rattle.ebml.specs.CrcElement.{PassesCrc32, divided_bytes, element_left, Crc32BurstIsSeen}
use Rattle.ebml.specs.Inner.Register.{register_of, Advances}
use Rattle.ebml.specs.declared.crc.TheConstants.{START}
use Rattle.ebml.proofs.Turned.{sent_low_first, reversed_twice, reversed_again}
use Rattle.ebml.proofs.Registers.{left_after, start, left_is_fold, left_more, sent_append, length-sent, left_of_32, left_of_zeros, ones, remainder_left, crc_remainder_small}
use Rattle.ebml.proofs.Advances.{START_is}

-- ---- what is left of a right element

left_of_number : (r n : ℕ) → n < 2 ^ 32 → left_after r (number_bits 32 n) ≡ bit_xor (divided 32 (r * 2 ^ 32)) n
left_of_number r n small =
    left_of_32 r (number_bits 32 n) (length-number_bits 32 n) ∙ ap (bit_xor (divided 32 (r * 2 ^ 32))) (polynomial_of-number_bits 32 n small)

with_complement : (p : ℕ) → p < 2 ^ 32 → bit_xor p (bit_not w32 p) ≡ 0xFFFFFFFF
with_complement p small = ap (bit_xor p) (sym (ones p small)) ∙ xor_comm p (bit_xor 0xFFFFFFFF p) ∙ xor_twice 0xFFFFFFFF p

residue : divided 32 (0xFFFFFFFF * 2 ^ 32) ≡ 0xC704DD7B
unfolding divided
residue = refl

right_left : (rest : List ℕ) → crc_remainder (rest ++ to_le_bytes w32 (crc32_of rest)) ≡ 0xC704DD7B
unfolding crc32_of
right_left rest =
    let r : ℕ = left_after start (sent_bits rest) in
    let c : ℕ = crc_remainder rest in
    let n : ℕ = bit_not w32 (crc_remainder rest) in
    let stored : List ℕ = bytes_low_first 0 4 (reverse_bits_onto 32 (bit_not w32 (crc_remainder rest)) 0) in
    let c_is : divided 32 (left_after start (sent_bits rest) * 2 ^ 32) ≡ crc_remainder rest =
    sym (remainder_left rest ∙ left_of_zeros (left_after start (sent_bits rest))) in
    let sent : sent_bits stored ≡ number_bits 32 n = sent_low_first (reverse_bits_onto 32 n 0) ∙ reversed_twice 32 n in
    let small = crc_remainder_small rest in
    let after : left_after start (sent_bits (rest ++ stored)) ≡ 0xFFFFFFFF =
    ap (left_after start) (sent_append rest stored) ∙ left_more start (sent_bits rest) (sent_bits stored) ∙ ap (left_after r) sent
    ∙ left_of_number r n (omega arith) ∙ ap (λ x. bit_xor x n) c_is ∙ with_complement c small in
    remainder_left (rest ++ stored) ∙ ap (λ s. left_after s (replicate 32 false)) after ∙ left_of_zeros 0xFFFFFFFF ∙ residue

pub right_leaves_none : (element : List ℕ) → PassesCrc32 element → element_left element ≡ 0
unfolding element_left
right_leaves_none element right =
    ap (λ head. bit_xor (crc_remainder (drop 6 element ++ drop 2 head)) 0xC704DD7B) right
    ∙ ap (λ left. bit_xor left 0xC704DD7B) (right_left (drop 6 element))

-- ---- what is left is a sum

left_changes : (r : ℕ) (a b c d : List Bool) → AreSameChanges a b c d
    → bit_xor (left_after r a) (left_after r b) ≡ bit_xor (left_after r c) (left_after r d)
left_changes r a b c d h =
    let one = left_is_fold r a in
    let two = left_is_fold r b in
    let three = left_is_fold r c in
    let four = left_is_fold r d in
    let same = fold_changes r r r r a b c d refl h in
    cc

sent_changes : (a b c d : List ℕ) → AreSameChanges a b c d → AreSameChanges (sent_bits a) (sent_bits b) (sent_bits c) (sent_bits d)
unfolding sent_bits
sent_changes a b c d h =
    changes_flat (λ byte. reverse (number_bits 8 byte))
    (λ x y. length-reverse (number_bits 8 x) ∙ length-number_bits 8 x ∙ sym (length-reverse (number_bits 8 y) ∙ length-number_bits 8 y)) a b c d h

remainder_at_once : (bytes : List ℕ) → crc_remainder bytes ≡ left_after start (sent_bits bytes ++ replicate 32 false)
remainder_at_once bytes = remainder_left bytes ∙ sym (left_more start (sent_bits bytes) (replicate 32 false))

crc_changes : (a b c d : List ℕ) → AreSameChanges a b c d
    → bit_xor (crc_remainder a) (crc_remainder b) ≡ bit_xor (crc_remainder c) (crc_remainder d)
crc_changes a b c d h =
    let zeros : List Bool = replicate 32 false in
    let one = remainder_at_once a in
    let two = remainder_at_once b in
    let three = remainder_at_once c in
    let four = remainder_at_once d in
    let same = left_changes start (sent_bits a ++ replicate 32 false) (sent_bits b ++ replicate 32 false) (sent_bits c ++ replicate 32 false)
    (sent_bits d ++ replicate 32 false) (changes_append (sent_bits a) (sent_bits b) (sent_bits c) (sent_bits d) zeros zeros zeros zeros
    (sent_changes a b c d h) (all_kept zeros zeros refl)) in
    cc

beside : (p q c : ℕ) → bit_xor (bit_xor p c) (bit_xor q c) ≡ bit_xor p q
beside p q c = xor_swap p c q c ∙ ap (bit_xor (bit_xor p q)) (xor_self c) ∙ xor_zero_r (bit_xor p q)

pub element_changes : (a b c d : List ℕ) → AreSameChanges a b c d
    → bit_xor (element_left a) (element_left b) ≡ bit_xor (element_left c) (element_left d)
unfolding element_left
element_changes a b c d h =
    let at : (e : List ℕ) → List ℕ = λ e. drop 6 e ++ drop 2 (take 6 e) in
    beside (crc_remainder (at a)) (crc_remainder (at b)) 0xC704DD7B
    ∙ crc_changes (at a) (at b) (at c) (at d)
    (changes_append (drop 6 a) (drop 6 b) (drop 6 c) (drop 6 d) (drop 2 (take 6 a)) (drop 2 (take 6 b)) (drop 2 (take 6 c)) (drop 2 (take 6 d))
    (changes_drop 6 a b c d h)
    (changes_drop 2 (take 6 a) (take 6 b) (take 6 c) (take 6 d) (changes_take 6 a b c d h)))
    ∙ sym (beside (crc_remainder (at c)) (crc_remainder (at d)) 0xC704DD7B)

-- ---- damage within 32 bits

sent_same : (xs ys : List ℕ) → AreBytes xs → AreBytes ys → length xs ≡ length ys → sent_bits xs ≡ sent_bits ys → xs ≡ ys
unfolding sent_bits
sent_same [] [] h k l e = refl
sent_same [] (y ∷ ys) h k l e = absurd (omega arith)
sent_same (x ∷ xs) [] h k l e = absurd (omega arith)
sent_same (x ∷ xs) (y ∷ ys) h k l e =
    let size = λ (b : ℕ). length-reverse (number_bits 8 b) ∙ length-number_bits 8 b in
    let parts = fronts_alike (reverse (number_bits 8 x)) (reverse (number_bits 8 y)) (sent_bits xs) (sent_bits ys) (size x ∙ sym (size y)) e in
    let bits : number_bits 8 x ≡ number_bits 8 y = sym (reverse-reverse (number_bits 8 x)) ∙ ap reverse parts.0 ∙ reverse-reverse (number_bits 8 y) in
    let head : x ≡ y = sym (byte_is x (h 0)) ∙ ap polynomial_of bits ∙ byte_is y (k 0) in
    let rest : xs ≡ ys = sent_same xs ys (λ i. h (suc i)) (λ i. k (suc i)) (omega arith) parts.1 in
    cc

-- where nothing is left of both, their bits leave the same from 0 on
same_left : (xs ys : List Bool) → length xs ≡ length ys → left_after start xs ≡ left_after start ys → remainder_of xs ≡ remainder_of ys
same_left xs ys long same =
    let sum = fold_changes start 0 start 0 xs xs ys ys refl (all_kept xs ys long) in
    let one = left_is_fold start xs in
    let two = left_is_fold start ys in
    let r : ℕ = fold shifted start xs in
    let equal : fold shifted start xs ≡ fold shifted start ys = sym one ∙ same ∙ two in
    let same_sum : bit_xor (fold shifted start xs) (fold shifted 0 xs) ≡ bit_xor (fold shifted start xs) (fold shifted 0 ys) =
    sum ∙ ap (λ s. bit_xor s (fold shifted 0 ys)) (sym equal) in
    remainder_is_fold xs
    ∙ sym (xor_twice (fold shifted 0 xs) r) ∙ ap (λ s. bit_xor s r) (xor_comm (fold shifted 0 xs) r ∙ same_sum ∙ xor_comm r (fold shifted 0 ys))
    ∙ xor_twice (fold shifted 0 ys) r ∙ sym (remainder_is_fold ys)

same_bits_divided : (xs ys : List ℕ) (at : ℕ) → length (sent_bits xs) ≡ length (sent_bits ys) → take at (sent_bits xs) ≡ take at (sent_bits ys)
    → drop (at + 32) (sent_bits xs) ≡ drop (at + 32) (sent_bits ys) → crc_remainder xs ≡ crc_remainder ys → sent_bits xs ≡ sent_bits ys
same_bits_divided xs ys at long front back same =
    let zeros : List Bool = replicate 32 false in
    let r : ℕ = left_after start (sent_bits xs) in
    let s : ℕ = left_after start (sent_bits ys) in
    let after : left_after (left_after start (sent_bits xs)) (replicate 32 false) ≡ left_after (left_after start (sent_bits ys)) (replicate 32 false) =
    sym (remainder_left xs) ∙ same ∙ remainder_left ys in
    let before : left_after start (sent_bits xs) ≡ left_after start (sent_bits ys) =
    fold_injective r s zeros (sym (left_is_fold r zeros) ∙ after ∙ left_is_fold s zeros) in
    same_bits at (sent_bits xs) (sent_bits ys) long front back (same_left (sent_bits xs) (sent_bits ys) long before)

pub burst_seen : Crc32BurstIsSeen
unfolding element_left
burst_seen a b at bytes others near right other =
    let one : List ℕ = divided_bytes a in
    let two : List ℕ = divided_bytes b in
    let left : crc_remainder (divided_bytes a) ≡ crc_remainder (divided_bytes b) =
    same_from_xor _ 0xC704DD7B (right_leaves_none a right) ∙ sym (same_from_xor _ 0xC704DD7B (right_leaves_none b other)) in
    let sizes : length (take 6 a) ≡ length (take 6 b) = ap length right ∙ sym (ap length other) in
    let rests : length (drop 6 a) ≡ length (drop 6 b) =
    length-drop 6 a ∙ ap (λ n. n - 6) near.same_length ∙ sym (length-drop 6 b) in
    let stored : length (drop 2 (take 6 a)) ≡ length (drop 2 (take 6 b)) =
    length-drop 2 (take 6 a) ∙ ap (λ n. n - 2) sizes ∙ sym (length-drop 2 (take 6 b)) in
    let whole : length one ≡ length two =
    length-append (drop 6 a) (drop 2 (take 6 a)) ∙ omega arith ∙ sym (length-append (drop 6 b) (drop 2 (take 6 b))) in
    let long : length (sent_bits one) ≡ length (sent_bits two) = length-sent one ∙ ap (λ n. 8 * n) whole ∙ sym (length-sent two) in
    let bits : sent_bits one ≡ sent_bits two = same_bits_divided one two at long near.front near.back left in
    let parts = fronts_alike (sent_bits (drop 6 a)) (sent_bits (drop 6 b)) (sent_bits (drop 2 (take 6 a))) (sent_bits (drop 2 (take 6 b)))
    (length-sent (drop 6 a) ∙ ap (λ n. 8 * n) rests ∙ sym (length-sent (drop 6 b)))
    (sym (sent_append (drop 6 a) (drop 2 (take 6 a))) ∙ bits ∙ sent_append (drop 6 b) (drop 2 (take 6 b))) in
    let rest : drop 6 a ≡ drop 6 b =
    sent_same (drop 6 a) (drop 6 b) (AreBytes-drop 6 a bytes) (AreBytes-drop 6 b others) rests parts.0 in
    let head : take 6 a ≡ take 6 b = right ∙ ap (λ c. 0xBF ∷ 0x84 ∷ to_le_bytes w32 (crc32_of c)) rest ∙ sym other in
    sym (take-append-drop 6 a) ∙ ap (λ h. h ++ drop 6 a) head ∙ ap (λ t. take 6 b ++ t) rest ∙ take-append-drop 6 b

-- ---- what is left of an element, as the code makes it

drop_within : (n : ℕ) (xs : List ℕ) → drop (min (length xs) n) xs ≡ drop n xs
drop_within n xs =
    elim (cases_lt n (length xs)) [
      | inl low ↦ ap (λ m. drop m xs) (let e : min (length xs) n ≡ n = omega arith in e)
      | inr past ↦ drop_all (min (length xs) n) xs (omega arith) ∙ sym (drop_all n xs past)
    ]

take_within : (n : ℕ) (xs : List ℕ) → take (min (length xs) n) xs ≡ take n xs
take_within n xs =
    elim (cases_lt n (length xs)) [
      | inl low ↦ ap (λ m. take m xs) (let e : min (length xs) n ≡ n = omega arith in e)
      | inr past ↦ take_all (min (length xs) n) xs (omega arith) ∙ sym (take_all n xs past)
    ]

drop_to_end : (from : ℕ) (xs : List ℕ) → take (length xs - from) (drop from xs) ≡ drop from xs
drop_to_end from xs = take_all (length xs - from) (drop from xs) (omega (arith, length-drop from xs))

pub left_made : (element head rest : List ℕ) (mid from one two whole : ℕ) → mid ≡ min (length element) 6 → head ≡ take mid element
    → rest ≡ drop mid element → from ≡ min (length head) 2 → Advances START rest one
    → Advances one (take (length head - from) (drop from head)) two → whole ≡ reverse_bits_onto 32 two 0
    → bit_xor whole 0xC704DD7B ≡ element_left element
unfolding element_left register_of
left_made element head rest mid from one two whole mid_is head_is rest_is from_is first second last =
    let front : head ≡ take 6 element = head_is ∙ ap (λ m. take m element) mid_is ∙ take_within 6 element in
    let back : rest ≡ drop 6 element = rest_is ∙ ap (λ m. drop m element) mid_is ∙ drop_within 6 element in
    let own : take (length head - from) (drop from head) ≡ drop 2 (take 6 element) =
    drop_to_end from head ∙ ap (λ m. drop m head) from_is ∙ drop_within 2 head ∙ ap (drop 2) front in
    let after : two ≡ register_of (divided_bytes element) =
    second rest (first [] START_is) ∙ ap (λ bytes. register_of (bytes ++ take (length head - from) (drop from head))) back
    ∙ ap (λ bytes. register_of (drop 6 element ++ bytes)) own in
    ap (λ r. bit_xor r 0xC704DD7B) (last ∙ ap (λ s. reverse_bits_onto 32 s 0) after
    ∙ reversed_again 32 (crc_remainder (divided_bytes element)) (crc_remainder_small (divided_bytes element)))
