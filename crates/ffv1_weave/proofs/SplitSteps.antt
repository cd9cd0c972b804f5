-- Parts of a split: they are not empty, lie within the versions, and never overlap.
use Rattle.ffv1_weave.proofs.Common.{◌≡◌, ℕ, ◌-◌, ◌<◌, ◌≤◌, List, arith, inl, inr, cases_lt, HaveLength, IsRegion, IsPartBy, Split, Pairs, Regions, Most}
use Rattle.ffv1_weave.proofs.Agreeing.{agree_past}
use Rattle.ffv1_weave.proofs.RegionSteps.{one_region}
use Rattle.ffv1_weave.proofs.BoundarySteps.{segment_within, one_segment}

pub part_some : (split : Split) (versions : List (List ℕ)) (start end : ℕ) → IsPartBy split versions start end → start < end
part_some (Pairs distance) versions start end h = h.some
part_some Regions versions start end h = h.some
part_some (Most distance) versions start end h = h.some

pub region_within : (versions : List (List ℕ)) (size start end : ℕ) → HaveLength versions size → IsRegion versions start end → end ≤ size
region_within versions size start end long h =
    elim (cases_lt size end) [
      | inr within ↦ within
      | inl over ↦ absurd (h.last (agree_past versions size (end - 1) long (omega arith)))
    ]

module _ (versions : List (List ℕ)) (size : ℕ) (long : HaveLength versions size) where
  pub part_within : (split : Split) (start end : ℕ) → IsPartBy split versions start end → end ≤ size
  part_within (Pairs distance) start end h = segment_within distance versions size start end long h
  part_within Regions start end h = region_within versions size start end long h
  part_within (Most distance) start end h = segment_within distance versions size start end long h

  -- two parts that overlap are one
  pub one_part : (split : Split) (s e t f : ℕ) → IsPartBy split versions s e → IsPartBy split versions t f → s < f → t < e → (s ≡ t) × (e ≡ f)
  one_part (Pairs distance) s e t f h k low high = one_segment distance versions size s e t f long h k low high
  one_part Regions s e t f h k low high = one_region versions s e t f h k low high
  one_part (Most distance) s e t f h k low high = one_segment distance versions size s e t f long h k low high
