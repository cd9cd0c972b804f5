-- Slices of frames that are no keyframes: they are slices of any frame, and come before those of keyframes.
use Rattle.std.proofs.Common.{◌≡◌, ℕ, ◌+◌, ◌-◌, ◌*◌, ◌<◌, ◌≤◌, true, false, List, ◌∷◌, length, ◌⊎◌, inl, inr, sym, ap, ◌∙◌, subst, arith}
use Rattle.std.specs.Prelude.{slice_index}
use Rattle.std.specs.Ordering.{nat_cmp, ordering_then}
use Rattle.std.specs.Cmp.{nat_cmp_is}
use Rattle.std.specs.Cmp.Lexicographic.{slice_cmp}
use Rattle.std.specs.declared.cmp.Ordering.TheVariants.{Less, Equal}
use Rattle.std.proofs.lemmas.Bool.{ltb-true, ltb-false, cases_lt}
use Rattle.ffv1_bits.specs.Parity.{AreBytes}
use Rattle.ffv1_range.proofs.KeyLaws.{content_is_wider, content_is_narrower, front_tells_key}
use Rattle.ffv1_slice.specs.Slices.{content_of}
use Rattle.ffv1_slice.specs.Keyframes.{AnyFramesAreWider, KeyframesSortLast}

pub any_frames_are_wider : AnyFramesAreWider
any_frames_are_wider =
    record {
      wider = λ rules slice first tile is. record { passes = is.passes; framed = is.framed; content = content_is_wider rules (content_of slice) first tile is.content };
      narrower = λ rules slice first tile is none.
          record { passes = is.passes; framed = is.framed; content = content_is_narrower rules (content_of slice) first tile is.content none };
    }

-- of two bytes each, those of the smaller number come first
two_bytes_less : (a b c d : ℕ) (xs ys : List ℕ) → b < 256 → d < 256 → 256 * a + b < 256 * c + d → slice_cmp nat_cmp (a ∷ b ∷ xs) (c ∷ d ∷ ys) ≡ Less
two_bytes_less a b c d xs ys small_b small_d less = by (cases_lt a c)
  where
    by : (a < c) ⊎ (c ≤ a) → slice_cmp nat_cmp (a ∷ b ∷ xs) (c ∷ d ∷ ys) ≡ Less
    by (inl lt) = ap (λ o. ordering_then o (slice_cmp nat_cmp (b ∷ xs) (d ∷ ys))) (sym (nat_cmp_is a c Less lt))
    by (inr le) =
        let same : a ≡ c = omega arith in
        let second : b < d = omega arith in
        ap (λ o. ordering_then o (slice_cmp nat_cmp (b ∷ xs) (d ∷ ys))) (sym (nat_cmp_is a c Equal same))
        ∙ ap (λ o. ordering_then o (slice_cmp nat_cmp xs ys)) (sym (nat_cmp_is b d Less second))

second_is_byte : (bytes : List ℕ) (one two : ℕ) (after : List ℕ) → AreBytes bytes → bytes ≡ one ∷ two ∷ after → two < 256
second_is_byte bytes one two after small is = subst (λ z. slice_index z 1 < 256) is (small 1)

pub keyframes_sort_last : KeyframesSortLast
keyframes_sort_last rules between key codes small_between small_key bit_0 bit_1 =
    let a = front_tells_key rules (length between - 8) between false codes bit_0 in
    let b = front_tells_key rules (length key - 8) key true codes bit_1 in
    let low = ltb-true (256 * a.one + a.two) 32640 a.tells in
    let high = ltb-false (256 * b.one + b.two) 32640 b.tells in
    (λ i. slice_cmp nat_cmp (a.bytes_are i) (b.bytes_are i))
    ∙ two_bytes_less a.one a.two b.one b.two a.after b.after (second_is_byte between a.one a.two a.after small_between a.bytes_are)
    (second_is_byte key b.one b.two b.after small_key b.bytes_are) (omega (arith, low, high))
