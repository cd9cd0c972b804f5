-- Two copies of a frame, each with another slice damaged: together they hold the frame.
use Rattle.std.proofs.Common.{◌≡◌, ℕ, zero, suc, ◌<◌, List, [], ◌∷◌, get_or, Contains, refl, subst, arith}
use Rattle.ffv1_slice.specs.Near.{IsNear, IsIntactIn}
use Rattle.ffv1_slice.proofs.NearVectors.{setup, rules, frame, slices, damaged_frame, other_frame, is_original, near, other_near, first_intact, second_intact}
use Rattle.ffv1_holding.specs.Contents.{holding_of}
use Rattle.ffv1_holding.specs.Originals.{AreNear, HoldsExactly}
use Rattle.ffv1_holding.proofs.ExactlyHeld.{near_held}

abbrev copies : List (List ℕ)
copies = damaged_frame ∷ other_frame ∷ []

are_near : AreNear rules frame slices copies
are_near = record { is_original = is_original; near = each; intact = intact }
  where
    at : (k : ℕ) (copy : List ℕ) → k < 2 → get_or copies k copy ≡ copy → IsNear rules frame slices copy
    at zero copy lt is = subst (IsNear rules frame slices) is near
    at (suc zero) copy lt is = subst (IsNear rules frame slices) is other_near
    at (suc (suc k)) copy lt is = absurd (omega arith)

    each : (copy : List ℕ) → Contains copies copy → IsNear rules frame slices copy
    each copy among = at among.0 copy among.1 among.2

    intact : (tile : ℕ) (d : List ℕ) → tile < 2 → (copy : List ℕ) × Contains copies copy × IsIntactIn slices copy tile (get_or slices tile d)
    intact zero d lt = (other_frame, (1, omega arith, refl), first_intact)
    intact (suc zero) d lt = (damaged_frame, (0, omega arith, refl), second_intact)
    intact (suc (suc tile)) d lt = absurd (omega arith)

-- whatever record gives this setup
both_slices : (config : List ℕ) → HoldsExactly (holding_of (record { config = config; setup = setup; rules = rules }) copies) slices
both_slices config = near_held (record { config = config; setup = setup; rules = rules }) frame slices copies are_near
