-- The ends whose footers give one start, 256 of them at a time: the middle byte of the size is the same in all of these.
use Rattle.ffv1_splice.proofs.Common.{◌≡◌, ℕ, ◌+◌, ◌-◌, ◌/◌, ◌%◌, ◌<◌, ◌≤◌, List, length, min, drop, get_or, ap, ◌∙◌, arith, slice_range, cases_lt, eq-eqb, get_or-take, Nowhere, NoneBefore, Passes, is_byte, AreBytes, AreBytes-range, FooterGives, length-range, LacksClaims}
use Rattle.std.proofs.lemmas.List.{get_or-drop}

-- No footer that ends from one place on, and before another, gives the start; and the places are in this order.
pub record AreUnclaimed (copy : List ℕ) (start from end : ℕ) : Type 0 where
  pub order : from ≤ end
  pub none : LacksClaims copy start from end

-- ---- bytes of a range

in_range : (xs : List ℕ) (a b k : ℕ) → a + k < b → get_or (slice_range xs a b) k 0 ≡ get_or xs (a + k) 0
in_range xs a b k within = get_or-take (b - a) (drop a xs) k 0 (omega arith) ∙ get_or-drop a xs k 0

-- the middle byte of the size that a footer gives
middle : (copy : List ℕ) (start end : ℕ) → AreBytes copy → start + 8 ≤ end → FooterGives copy start end
    → get_or copy (end - 7) 0 ≡ (end - 8 - start) / 256 % 256
middle copy start end small room cut = grind (arith, AreBytes-range, in_range)

-- The ends of one middle byte, of which none is among the bytes in the footers of the ends up to one.
lacks_in_window : (copy : List ℕ) (start end upto after : ℕ) → AreBytes copy → start + 8 ≤ end → upto ≤ after
    → after ≤ end + 256 - (end - 8 - start) % 256
    → Nowhere (Passes (is_byte ((end - 8 - start) / 256 % 256)) (slice_range copy (end - 7) (after - 7))) 0 (upto - end)
    → LacksClaims copy start end upto
lacks_in_window copy start end upto after small room below near none other later before cut =
    let k : ℕ = other - end in
    let m : ℕ = (end - 8 - start) / 256 % 256 in
    let same : (other - 8 - start) / 256 ≡ (end - 8 - start) / 256 = omega arith in
    let byte : get_or copy (other - 7) 0 ≡ m = middle copy start other small (omega arith) cut ∙ ap (λ n. n % 256) same in
    let place : end - 7 + k ≡ other - 7 = omega arith in
    let there : get_or (slice_range copy (end - 7) (after - 7)) k 0 ≡ m = cc (in_range copy (end - 7) (after - 7) k (omega arith)) in
    none k (omega arith) (omega arith) (eq-eqb _ _ there)

-- the window itself, up to its end
lacks_in_all : (copy : List ℕ) (start end after : ℕ) → AreBytes copy → start + 8 ≤ end → end ≤ after → after ≤ length copy + 1
    → after ≤ end + 256 - (end - 8 - start) % 256
    → Nowhere (Passes (is_byte ((end - 8 - start) / 256 % 256)) (slice_range copy (end - 7) (after - 7))) 0
    (length (slice_range copy (end - 7) (after - 7)))
    → LacksClaims copy start end after
lacks_in_all copy start end after small room order fits near none =
    let size : length (slice_range copy (end - 7) (after - 7)) ≡ after - 7 - (end - 7) = grind (arith, length-range) in
    lacks_in_window copy start end after after small room (omega arith) near (λ k low high. none k low (omega arith))

-- the window up to the first byte that is the middle one, and where that stands
lacks_before : (copy : List ℕ) (start end after skipped : ℕ) → AreBytes copy → start + 8 ≤ end → end ≤ after → after ≤ length copy + 1
    → after ≤ end + 256 - (end - 8 - start) % 256
    → NoneBefore (Passes (is_byte ((end - 8 - start) / 256 % 256)) (slice_range copy (end - 7) (after - 7))) 0
    (length (slice_range copy (end - 7) (after - 7))) skipped
    → (end + skipped < after) × LacksClaims copy start end (end + skipped)
lacks_before copy start end after skipped small room order fits near first =
    let size : length (slice_range copy (end - 7) (after - 7)) ≡ after - 7 - (end - 7) = grind (arith, length-range) in
    let within : end + skipped < after = omega (arith, size, first.high) in
    (within, lacks_in_window copy start end (end + skipped) after small room (omega arith) near (λ k low high. first.before k low (omega arith)))

-- ---- ends after others

unclaimed_on : (copy : List ℕ) (start from end next : ℕ) → AreUnclaimed copy start from end → end ≤ next → LacksClaims copy start end next
    → AreUnclaimed copy start from next
unclaimed_on copy start from end next so_far order none = grind (arith, cases_lt)

-- one end more
pub unclaimed_past : (copy : List ℕ) (start from end : ℕ) → AreUnclaimed copy start from end → (FooterGives copy start end → ⊥)
    → AreUnclaimed copy start from (end + 1)
unclaimed_past copy start from end so_far uncut = grind (arith, unclaimed_on)

-- ---- a turn of the loop: the window is up to the last end, or to where the middle byte changes

module _ (copy : List ℕ) (start from end last after : ℕ) (small : AreBytes copy) (room : start + 8 ≤ from) (fits : last ≤ length copy) (on : end ≤ last)
    (is : after ≡ min (last + 1) (end + 256 - (end - 8 - start) % 256)) (so_far : AreUnclaimed copy start from end) where
  -- it lacks the middle byte
  pub unclaimed_after : Nowhere (Passes (is_byte ((end - 8 - start) / 256 % 256)) (slice_range copy (end - 7) (after - 7))) 0
      (length (slice_range copy (end - 7) (after - 7)))
      → AreUnclaimed copy start from after
  unclaimed_after none =
      unclaimed_on copy start from end after so_far (omega arith)
      (lacks_in_all copy start end after small (omega (arith, so_far.order)) (omega arith) (omega arith) (omega arith) none)

  -- it has it first after so many
  pub unclaimed_before : (skipped : ℕ)
      → NoneBefore (Passes (is_byte ((end - 8 - start) / 256 % 256)) (slice_range copy (end - 7) (after - 7))) 0
      (length (slice_range copy (end - 7) (after - 7))) skipped
      → (end + skipped ≤ last) × AreUnclaimed copy start from (end + skipped)
  unclaimed_before skipped first =
      let lacks = lacks_before copy start end after skipped small (omega (arith, so_far.order)) (omega arith) (omega arith) (omega arith) first in
      (omega (arith, lacks.0), unclaimed_on copy start from end (end + skipped) so_far (omega arith) lacks.1)
