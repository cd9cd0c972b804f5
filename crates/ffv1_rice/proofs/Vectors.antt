-- Worked values of the definitions, computed.
use Rattle.std.proofs.Common.{◌≡◌, ℕ, suc, ◌+◌, ◌*◌, ◌^◌, ◌<◌, ◌≤◌, Bool, true, false, List, [], ◌∷◌, ◌++◌, replicate, pos, negsuc, refl, arith, lit<, lit≤, inl, inr}
use Rattle.std.specs.List.{fold}
use Rattle.std.proofs.Math.Nat.{mul-le-mul}
use Rattle.std.proofs.Math.Pow.{pow_mono}
use Rattle.ffv1_bits.specs.Bits.{number_bits}
use Rattle.ffv1_rice.specs.States.{ContextState, start_state, IsParameter, code_number, after_value}
use Rattle.ffv1_rice.specs.States.{fold as fold_at}
use Rattle.ffv1_rice.specs.Codes.{prefix_bits, suffix_length, shape_bits, code_bits, SpellsValue, FooterGivesCode, IsNeedlessEscape, IsLargeCode, IsLargeLevel}
use Rattle.ffv1_rice.specs.Runs.{run_exponent, SpellsRun, line_end, whole, over_end, long_rest, IsRunWord, IsShortWord}
use Rattle.ffv1_rice.specs.declared.run.RunWord.TheVariants.{Full, Rest, ToEnd}

zeros_12 : List Bool
zeros_12 = replicate 12 false

-- ---- states and their parameters

-- all below the least parameter are too small
below_least : (s : ContextState) (k : ℕ) → s.count * 2 ^ k < s.error_sum → (j : ℕ) → j < suc k → s.count * 2 ^ j < s.error_sum
below_least s k small j below =
    let power : 2 ^ j ≤ 2 ^ k = pow_mono (let h : j ≤ k = omega arith in h) in
    let same : s.count ≤ s.count = omega arith in
    let product : s.count * 2 ^ j ≤ s.count * 2 ^ k = mul-le-mul same power in
    omega arith

wide_state : ContextState
wide_state = record { drift = negsuc 0; error_sum = 132; bias = negsuc 0; count = 2 }

start_parameter : IsParameter start_state 2
start_parameter = record { enough = lit≤ tt; least = below_least start_state 1 (lit< tt) }

wide_parameter : IsParameter wide_state 7
unfolding wide_state
wide_parameter = record { enough = lit≤ tt; least = below_least wide_state 6 (lit< tt) }

three_after_start : after_value 8 start_state (pos 3) ≡ record { drift = pos 0; error_sum = 7; bias = pos 1; count = 2 }
three_after_start = refl

three_values_of_minus_1 : fold (after_value 8) start_state (replicate 3 (negsuc 0)) ≡ record { drift = negsuc 2; error_sum = 7; bias = pos 0; count = 4 }
three_values_of_minus_1 = refl

zeros_128 : fold (after_value 8) start_state (replicate 128 (pos 0)) ≡ record { drift = pos 0; error_sum = 2; bias = pos 0; count = 65 }
zeros_128 = refl

lowest_after_start : after_value 8 start_state (negsuc 127) ≡ wide_state
unfolding wide_state
lowest_after_start = refl

minus_1_after_lowest : after_value 8 wide_state (negsuc 0) ≡ record { drift = negsuc 0; error_sum = 132; bias = negsuc 0; count = 3 }
unfolding wide_state
minus_1_after_lowest = refl

flipped_number : code_number 8 (record { drift = negsuc 1; error_sum = 6; bias = pos 0; count = 3 }) (negsuc 0) ≡ 0
flipped_number = refl

-- ---- codes

code_47 : code_bits 8 47 2 ≡ replicate 11 false ++ (true ∷ true ∷ true ∷ [])
unfolding code_bits shape_bits prefix_bits suffix_length number_bits
code_47 = refl

code_48 : code_bits 8 48 2 ≡ zeros_12 ++ (false ∷ false ∷ true ∷ false ∷ false ∷ true ∷ false ∷ true ∷ [])
unfolding code_bits shape_bits prefix_bits suffix_length number_bits zeros_12
code_48 = refl

code_255 : code_bits 8 255 2 ≡ zeros_12 ++ (true ∷ true ∷ true ∷ true ∷ false ∷ true ∷ false ∷ false ∷ [])
unfolding code_bits shape_bits prefix_bits suffix_length number_bits zeros_12
code_255 = refl

minus_1_from_start : SpellsValue 8 start_state (negsuc 0) (true ∷ false ∷ true ∷ [])
unfolding code_bits shape_bits prefix_bits suffix_length number_bits
minus_1_from_start = record { parameter = 2; is_parameter = start_parameter; same = refl }

lowest_from_start : SpellsValue 8 start_state (negsuc 127) (zeros_12 ++ (true ∷ true ∷ true ∷ true ∷ false ∷ true ∷ false ∷ false ∷ []))
unfolding code_bits shape_bits prefix_bits suffix_length number_bits zeros_12
lowest_from_start = record { parameter = 2; is_parameter = start_parameter; same = refl }

minus_1_after_wide : SpellsValue 8 wide_state (negsuc 0) (true ∷ replicate 7 false)
unfolding code_bits shape_bits prefix_bits suffix_length number_bits wide_state
minus_1_after_wide = record { parameter = 7; is_parameter = wide_parameter; same = refl }

-- ---- faults

needless_47 : IsNeedlessEscape 8 2 (zeros_12 ++ (false ∷ false ∷ true ∷ false ∷ false ∷ true ∷ false ∷ false ∷ []))
unfolding shape_bits prefix_bits suffix_length number_bits zeros_12
needless_47 = record { suffix = 36; rest = []; fits = lit< tt; begins = refl; short = lit< tt }

large_escape : IsLargeCode 8 2 (zeros_12 ++ (true ∷ true ∷ true ∷ true ∷ false ∷ true ∷ false ∷ true ∷ []))
unfolding code_bits shape_bits prefix_bits suffix_length number_bits zeros_12
large_escape = record { number = 256; rest = []; large = lit≤ tt; fits = inr (lit< tt); begins = refl }

needless_256 : IsNeedlessEscape 8 7 (zeros_12 ++ (true ∷ true ∷ true ∷ true ∷ false ∷ true ∷ false ∷ true ∷ []))
unfolding shape_bits prefix_bits suffix_length number_bits zeros_12
needless_256 = record { suffix = 245; rest = []; fits = lit< tt; begins = refl; short = lit< tt }

large_256 : IsLargeCode 8 7 (false ∷ false ∷ true ∷ replicate 7 false)
unfolding code_bits shape_bits prefix_bits suffix_length number_bits
large_256 = record { number = 256; rest = []; large = lit≤ tt; fits = inl (lit< tt); begins = refl }

cut_after_one_bit : FooterGivesCode 8 2 (true ∷ true ∷ [])
unfolding shape_bits prefix_bits suffix_length number_bits
cut_after_one_bit = record { zeros = 0; suffix = 2; missing = false; rest = []; few = lit≤ tt; cut = refl }

level_of_128 : IsLargeLevel 8 start_state true (zeros_12 ++ (true ∷ true ∷ true ∷ true ∷ false ∷ false ∷ true ∷ true ∷ []))
unfolding code_bits shape_bits prefix_bits suffix_length number_bits zeros_12
level_of_128 = record {
  is_level = refl;
  code = zeros_12 ++ (true ∷ true ∷ true ∷ true ∷ false ∷ false ∷ true ∷ true ∷ []);
  rest = [];
  spells = record { parameter = 2; is_parameter = start_parameter; same = refl };
  begins = refl;
}

-- ---- other depths

three_at_9 : after_value 9 start_state (pos 3) ≡ record { drift = pos 0; error_sum = 7; bias = pos 1; count = 2 }
three_at_9 = refl

lowest_at_9 : after_value 9 start_state (negsuc 255) ≡ record { drift = negsuc 0; error_sum = 260; bias = negsuc 0; count = 2 }
lowest_at_9 = refl

-- 128 is a difference of 9 bits, and at 8 bits it is -128
folded_128 : (fold_at 9 (pos 128) ≡ pos 128) × (fold_at 8 (pos 128) ≡ negsuc 127)
folded_128 = (refl, refl)

-- the bias stays at 127 at each depth
bias_at_most_127 : (after_value 10 (record { drift = pos 0; error_sum = 4; bias = pos 127; count = 2 }) (pos 400)).bias ≡ pos 127
bias_at_most_127 = refl

-- the escape has a suffix of 9 bits at a depth of 9, and of 17 at 17
code_255_at_9 : code_bits 9 255 2 ≡ zeros_12 ++ (false ∷ true ∷ true ∷ true ∷ true ∷ false ∷ true ∷ false ∷ false ∷ [])
unfolding code_bits shape_bits prefix_bits suffix_length number_bits zeros_12
code_255_at_9 = refl

code_59_at_17 : code_bits 17 59 2 ≡ zeros_12 ++ (replicate 11 false ++ (true ∷ true ∷ false ∷ false ∷ false ∷ false ∷ []))
unfolding code_bits shape_bits prefix_bits suffix_length number_bits zeros_12
code_59_at_17 = refl

-- a short code is the same at each
code_47_at_17 : code_bits 17 47 2 ≡ code_bits 8 47 2
unfolding code_bits shape_bits suffix_length
code_47_at_17 = refl

-- ---- runs

six_ones : List Bool
six_ones = replicate 6 true

-- four whole lengths of 1 and what follows them at the index 4
after_four : (n left next : ℕ) (bits : List Bool) → SpellsRun n left 4 bits next → SpellsRun (4 + n) (4 + left) 0 (true ∷ true ∷ true ∷ true ∷ bits) next
unfolding run_exponent
after_four n left next bits run =
    whole (3 + n) (3 + left) (true ∷ true ∷ true ∷ bits) (omega arith) (omega arith) refl
    (whole (2 + n) (2 + left) (true ∷ true ∷ bits) (omega arith) (omega arith) refl
    (whole (1 + n) (1 + left) (true ∷ bits) (omega arith) (omega arith) refl
    (whole n left bits (omega arith) (omega arith) refl run)))

line_of_8 : SpellsRun 8 8 0 six_ones 6
unfolding run_exponent six_ones
line_of_8 =
    after_four 4 4 6 (true ∷ true ∷ [])
    (whole 2 2 (true ∷ []) refl refl refl (whole 0 0 [] refl refl refl (line_end refl refl refl refl)))

line_of_7 : SpellsRun 7 7 0 six_ones 5
unfolding run_exponent six_ones
line_of_7 =
    after_four 3 3 5 (true ∷ true ∷ [])
    (whole 1 1 (true ∷ []) refl refl refl (over_end (lit< tt) (lit< tt) refl refl refl))

line_of_7_by_rest : SpellsRun 7 7 0 (true ∷ true ∷ true ∷ true ∷ true ∷ false ∷ true ∷ []) 4
unfolding run_exponent number_bits
line_of_7_by_rest =
    after_four 3 3 4 (true ∷ false ∷ true ∷ [])
    (whole 1 1 (false ∷ true ∷ []) refl refl refl (long_rest 1 (lit≤ tt) (lit< tt) (lit< tt) refl refl refl))

rest_of_1 : IsRunWord 5 4 (Rest 1) (false ∷ true ∷ []) 3
unfolding run_exponent number_bits
rest_of_1 = (lit< tt, lit< tt, refl, refl)

rest_past_end : IsRunWord 1 4 ToEnd (false ∷ true ∷ []) 3
unfolding run_exponent number_bits
rest_past_end = inr (1, lit≤ tt, lit< tt, refl, refl)

one_past_end : IsRunWord 1 4 ToEnd (true ∷ []) 4
unfolding run_exponent
one_past_end = inl (lit< tt, refl, refl)

full_of_2 : IsRunWord 2 4 (Full 2) (true ∷ []) 5
unfolding run_exponent
full_of_2 = (refl, lit≤ tt, refl, refl)

cut_at_8 : IsShortWord 8 (false ∷ true ∷ [])
unfolding run_exponent
cut_at_8 = lit< tt
