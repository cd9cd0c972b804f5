-- A buffer that is filled from the front: what stands in front grows by what came.
use Rattle.std.proofs.Common.{◌≡◌, ℕ, ◌+◌, ◌-◌, ◌≤◌, List, ◌++◌, arith, length, take, drop, slice_range, sym, ap, ◌∙◌, le_refl, drop_at, length-take-le, take_all}
use Rattle.std.proofs.lemmas.Slice.{take-put_mid_below}
use Rattle.std.proofs.lemmas.Slice.{take-put_mid as take-put_mid-to}
use borrow.Rule.Slice.PartMut.{put_mid, post_of, same_len_mid, mid_len}
use lib.Seq.{take-add, take-append-le}

take_split : (a b : ℕ) (old new : List ℕ) → a ≤ b → take a new ≡ take a old → take a old ++ slice_range new a b ≡ take b new
take_split a b old new h front =
    let same : a + (b - a) ≡ b = omega arith in
    ap (λ l. l ++ slice_range new a b) (sym front) ∙ sym (take-add a (b - a) new) ∙ ap (λ n. take n new) same

slice_range-put_mid : (a k n : ℕ) (xs ys : List ℕ) → a ≤ length xs → n ≤ length ys → slice_range (put_mid a k xs ys) a (a + n) ≡ take n ys
slice_range-put_mid a k n xs ys within fits =
    let same : (a + n) - a ≡ n = omega arith in
    let after = post_of a k xs in
    ap (take ((a + n) - a)) (drop_at (take a xs) (ys ++ after) a (length-take-le a xs within))
    ∙ ap (λ m. take m (ys ++ after)) same ∙ take-append-le n ys after fits

-- the part from `a` on was filled with n bytes
pub take-put_mid : (a k n : ℕ) (xs ys : List ℕ) → a ≤ length xs → n ≤ length ys → take (a + n) (put_mid a k xs ys) ≡ take a xs ++ take n ys
take-put_mid a k n xs ys within fits =
    sym (take_split a (a + n) xs (put_mid a k xs ys) (omega arith) (take-put_mid_below _ _ _ _ _ (le_refl _) within))
    ∙ ap (λ l. take a xs ++ l) (slice_range-put_mid a k n xs ys within fits)

-- what stands in front up to `e` once the part from `a` to `e` was filled whole, and put back over all bytes
pub take-put_back : (a e n : ℕ) (xs ys items : List ℕ) → a ≤ e → e ≤ length xs → length ys ≡ e - a → n ≡ length xs
    → take e (take n (put_mid a (e - a) xs ys ++ drop (length (put_mid a (e - a) xs ys)) items)) ≡ take a xs ++ ys
take-put_back a e n xs ys items order within full same =
    let filled = put_mid a (e - a) xs ys in
    let size : length filled ≡ length xs = same_len_mid a (e - a) xs ys (full ∙ sym (mid_len a e xs within)) in
    let whole = take-append-le n filled (drop (length filled) items) (omega (arith, size, same)) ∙ take_all n filled (omega (arith, size, same)) in
    ap (take e) whole ∙ take-put_mid-to a (e - a) xs ys e (omega (arith, full, order)) (omega (arith, order, within))
