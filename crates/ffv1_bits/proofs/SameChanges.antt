-- The remainder is a sum: what changes of it where some bits change rests on these bits alone, and on their place.
use Rattle.std.proofs.Common.{◌≡◌, ℕ, zero, suc, ◌+◌, ◌*◌, ◌<◌, Bool, true, false, List, [], ◌∷◌, ◌++◌, length, take, drop, refl, sym, ap, ◌∙◌, arith, lit<}
use Rattle.std.specs.Prelude.{bit_xor}
use Rattle.std.specs.List.{fold, flat_map}
use Rattle.std.specs.Int.Bits.{xor_block, xor_self}
use Rattle.ffv1_bits.specs.Bits.{bit_value, number_bits, bits_of}
use Rattle.ffv1_bits.specs.Parity.{remainder_of}
use Rattle.ffv1_bits.specs.Inner.Division.{reduced_at}
use Rattle.ffv1_bits.proofs.Division.{shifted, reduced-xor, remainder_is_fold}
use Rattle.ffv1_bits.proofs.Numbers.{length-number_bits}

-- What the second list has other than the first, the fourth has other than the third: at each place the first two have the same and
-- the last two have the same, or else the first has what the third has and the second what the fourth has.
pub data AreSameChanges {X : Type 0} : List X → List X → List X → List X → Type 0 where
  none : AreSameChanges [] [] [] []
  kept : (x y : X) (a b c d : List X) → AreSameChanges a b c d → AreSameChanges (x ∷ a) (x ∷ b) (y ∷ c) (y ∷ d)
  changed : (x y : X) (a b c d : List X) → AreSameChanges a b c d → AreSameChanges (x ∷ a) (y ∷ b) (x ∷ c) (y ∷ d)

pub all_kept : {X : Type 0} (a c : List X) → length a ≡ length c → AreSameChanges a a c c
all_kept [] [] long = AreSameChanges.none
all_kept [] (y ∷ c) long = absurd (omega arith)
all_kept (x ∷ a) [] long = absurd (omega arith)
all_kept (x ∷ a) (y ∷ c) long = AreSameChanges.kept x y a a c c (all_kept a c (omega arith))

pub all_changed : {X : Type 0} (a b : List X) → length a ≡ length b → AreSameChanges a b a b
all_changed [] [] long = AreSameChanges.none
all_changed [] (y ∷ b) long = absurd (omega arith)
all_changed (x ∷ a) [] long = absurd (omega arith)
all_changed (x ∷ a) (y ∷ b) long = AreSameChanges.changed x y a b a b (all_changed a b (omega arith))

pub changes_append : {X : Type 0} (a b c d e f g h : List X) → AreSameChanges a b c d → AreSameChanges e f g h
    → AreSameChanges (a ++ e) (b ++ f) (c ++ g) (d ++ h)
changes_append a b c d e f g h AreSameChanges.none more = more
changes_append _ _ _ _ e f g h (AreSameChanges.kept x y a b c d rest) more =
    AreSameChanges.kept x y (a ++ e) (b ++ f) (c ++ g) (d ++ h) (changes_append a b c d e f g h rest more)
changes_append _ _ _ _ e f g h (AreSameChanges.changed x y a b c d rest) more =
    AreSameChanges.changed x y (a ++ e) (b ++ f) (c ++ g) (d ++ h) (changes_append a b c d e f g h rest more)

pub changes_take : {X : Type 0} (n : ℕ) (a b c d : List X) → AreSameChanges a b c d → AreSameChanges (take n a) (take n b) (take n c) (take n d)
changes_take zero a b c d h = AreSameChanges.none
changes_take (suc n) a b c d AreSameChanges.none = AreSameChanges.none
changes_take (suc n) _ _ _ _ (AreSameChanges.kept x y a b c d rest) =
    AreSameChanges.kept x y (take n a) (take n b) (take n c) (take n d) (changes_take n a b c d rest)
changes_take (suc n) _ _ _ _ (AreSameChanges.changed x y a b c d rest) =
    AreSameChanges.changed x y (take n a) (take n b) (take n c) (take n d) (changes_take n a b c d rest)

pub changes_drop : {X : Type 0} (n : ℕ) (a b c d : List X) → AreSameChanges a b c d → AreSameChanges (drop n a) (drop n b) (drop n c) (drop n d)
changes_drop zero a b c d h = h
changes_drop (suc n) a b c d AreSameChanges.none = AreSameChanges.none
changes_drop (suc n) _ _ _ _ (AreSameChanges.kept x y a b c d rest) = changes_drop n a b c d rest
changes_drop (suc n) _ _ _ _ (AreSameChanges.changed x y a b c d rest) = changes_drop n a b c d rest

-- of bytes, and so of their bits, in whatever order each byte has them
pub changes_flat : {X Y : Type 0} (f : X → List Y) → ((x y : X) → length (f x) ≡ length (f y)) → (a b c d : List X) → AreSameChanges a b c d
    → AreSameChanges (flat_map f a) (flat_map f b) (flat_map f c) (flat_map f d)
changes_flat f long a b c d AreSameChanges.none = AreSameChanges.none
changes_flat f long _ _ _ _ (AreSameChanges.kept x y a b c d rest) =
    changes_append (f x) (f x) (f y) (f y) (flat_map f a) (flat_map f b) (flat_map f c) (flat_map f d) (all_kept (f x) (f y) (long x y))
    (changes_flat f long a b c d rest)
changes_flat f long _ _ _ _ (AreSameChanges.changed x y a b c d rest) =
    changes_append (f x) (f y) (f x) (f y) (flat_map f a) (flat_map f b) (flat_map f c) (flat_map f d) (all_changed (f x) (f y) (long x y))
    (changes_flat f long a b c d rest)

-- ---- the register

value_small : (b : Bool) → bit_value b < 2
value_small true = lit< tt
value_small false = lit< tt

shifted-xor : (p q : ℕ) (x y : Bool) → bit_xor (shifted p x) (shifted q y) ≡ reduced_at 0 (bit_xor p q * 2 + bit_xor (bit_value x) (bit_value y))
unfolding shifted
shifted-xor p q x y =
    sym (reduced-xor 0 (p * 2 + bit_value x) (q * 2 + bit_value y))
    ∙ ap (reduced_at 0) (xor_block 1 p q (bit_value x) (bit_value y) (value_small x) (value_small y))

shifted_kept : (p q s t : ℕ) (x y : Bool) → bit_xor p q ≡ bit_xor s t → bit_xor (shifted p x) (shifted q x) ≡ bit_xor (shifted s y) (shifted t y)
shifted_kept p q s t x y same =
    shifted-xor p q x x ∙ ap (λ r. reduced_at 0 (r * 2 + bit_xor (bit_value x) (bit_value x))) same
    ∙ ap (λ v. reduced_at 0 (bit_xor s t * 2 + v)) (xor_self (bit_value x) ∙ sym (xor_self (bit_value y))) ∙ sym (shifted-xor s t y y)

shifted_changed : (p q s t : ℕ) (x y : Bool) → bit_xor p q ≡ bit_xor s t → bit_xor (shifted p x) (shifted q y) ≡ bit_xor (shifted s x) (shifted t y)
shifted_changed p q s t x y same =
    shifted-xor p q x y ∙ ap (λ r. reduced_at 0 (r * 2 + bit_xor (bit_value x) (bit_value y))) same ∙ sym (shifted-xor s t x y)

pub fold_changes : (p q s t : ℕ) (a b c d : List Bool) → bit_xor p q ≡ bit_xor s t → AreSameChanges a b c d
    → bit_xor (fold shifted p a) (fold shifted q b) ≡ bit_xor (fold shifted s c) (fold shifted t d)
fold_changes p q s t a b c d same AreSameChanges.none = same
fold_changes p q s t _ _ _ _ same (AreSameChanges.kept x y a b c d rest) =
    fold_changes (shifted p x) (shifted q x) (shifted s y) (shifted t y) a b c d (shifted_kept p q s t x y same) rest
fold_changes p q s t _ _ _ _ same (AreSameChanges.changed x y a b c d rest) =
    fold_changes (shifted p x) (shifted q y) (shifted s x) (shifted t y) a b c d (shifted_changed p q s t x y same) rest

-- the remainders of four lists of bytes
pub remainder_changes : (a b c d : List ℕ) → AreSameChanges a b c d
    → bit_xor (remainder_of (bits_of a)) (remainder_of (bits_of b)) ≡ bit_xor (remainder_of (bits_of c)) (remainder_of (bits_of d))
unfolding bits_of
remainder_changes a b c d h =
    let long = λ (x y : ℕ). length-number_bits 8 x ∙ sym (length-number_bits 8 y) in
    let one = remainder_is_fold (bits_of a) in
    let two = remainder_is_fold (bits_of b) in
    let three = remainder_is_fold (bits_of c) in
    let four = remainder_is_fold (bits_of d) in
    let same = fold_changes 0 0 0 0 (bits_of a) (bits_of b) (bits_of c) (bits_of d) refl (changes_flat (number_bits 8) long a b c d h) in
    cc
