-- Each stretch of places at which versions differ closely enough lies in a region of them.
use Rattle.ffv1_weave.proofs.Common.{◌≡◌, ℕ, zero, suc, ◌+◌, ◌-◌, ◌<◌, ◌≤◌, List, subst, arith, inl, inr, cases_lt, HaveLength, AgreeAt, DifferAt, IsRegion}
use Rattle.ffv1_weave.specs.declared.regions.TheConstants.{SEPARATION}
use Rattle.ffv1_weave.proofs.Agreeing.{agree_past, some_differ}
use Rattle.ffv1_weave.proofs.RegionSteps.{within_window, window_within}

module _ (versions : List (List ℕ)) where
  -- versions differ at the first place and at the last, and each one at which they do, but the last, has another one near after it
  record IsClose (start end : ℕ) : Type 0 where
    some : start < end
    first : DifferAt versions start
    last : DifferAt versions (end - 1)
    within : (i : ℕ) → start ≤ i → i + 1 < end → DifferAt versions i → (j : ℕ) × (i < j) × (j ≤ i + SEPARATION) × (j < end) × DifferAt versions j

  close_at : (place : ℕ) → DifferAt versions place → IsClose place (place + 1)
  close_at place differ =
      record {
        some = omega arith;
        first = differ;
        last = let same : place ≡ place + 1 - 1 = omega arith in subst (DifferAt versions) same differ;
        within = λ i low high here. absurd (omega arith);
      }

  later : (start end j : ℕ) → IsClose start end → end ≤ j → j < end + SEPARATION → DifferAt versions j → IsClose start (j + 1)
  later start end j h low near differ =
      let some = h.some in
      record {
        some = omega arith;
        first = h.first;
        last = let same : j ≡ j + 1 - 1 = omega arith in subst (DifferAt versions) same differ;
        within = λ i above below here. elim (cases_lt (i + 1) end) [
          | inl old ↦ let next = h.within i above old here in (next.0, next.1, next.2, (let lt = next.3 in omega arith), next.4)
          | inr new ↦ (j, omega arith, omega arith, omega arith, differ)
        ];
      }

  sooner : (start end j : ℕ) → IsClose start end → j < start → start ≤ j + SEPARATION → DifferAt versions j → IsClose j end
  sooner start end j h low near differ =
      let some = h.some in
      record {
        some = omega arith;
        first = differ;
        last = h.last;
        within = λ i above below here. elim (cases_lt i start) [
          | inr old ↦ h.within i old below here
          | inl new ↦ (start, new, omega arith, h.some, h.first)
        ];
      }

  record HasLast (start end : ℕ) : Type 0 where
    last : ℕ
    beyond : end ≤ last
    close : IsClose start last
    after : (i : ℕ) → last ≤ i → i < last + SEPARATION → AgreeAt versions i

  to_last : (size fuel start end : ℕ) → HaveLength versions size → size ≤ end + fuel → IsClose start end → HasLast start end
  to_last size zero start end long past h =
      record { last = end; beyond = omega arith; close = h; after = λ i low lt. agree_past versions size i long (omega arith) }
  to_last size (suc fuel) start end long past h = elim (some_differ versions end SEPARATION) [
    | inl quiet ↦ record { last = end; beyond = omega arith; close = h; after = quiet }
    | inr found ↦
        let low = found.1 in
        let rest = to_last size fuel start (found.0 + 1) long (omega arith) (later start end found.0 h found.1 found.2 found.3) in
        let beyond = rest.beyond in
        record { last = rest.last; beyond = omega arith; close = rest.close; after = rest.after }
  ]

  -- a region, where they agree at enough places before it and after it
  close_region : (start end : ℕ) → IsClose start end → ((i : ℕ) → i < start → start ≤ i + SEPARATION → AgreeAt versions i)
      → ((i : ℕ) → end ≤ i → i < end + SEPARATION → AgreeAt versions i) → IsRegion versions start end
  close_region start end h before after = record { some = h.some; first = h.first; last = h.last; before = before; after = after; within = h.within }

  to_first : (fuel start end : ℕ) → start ≤ fuel → IsClose start end → ((i : ℕ) → end ≤ i → i < end + SEPARATION → AgreeAt versions i)
      → (begin : ℕ) × (begin ≤ start) × IsRegion versions begin end
  to_first zero start end past h after = (start, omega arith, close_region start end h (λ i lt near. absurd (omega arith)) after)
  to_first (suc fuel) start end past h after = elim (some_differ versions (start - SEPARATION) (start - (start - SEPARATION))) [
    | inl quiet ↦ (start, omega arith, close_region start end h (λ i lt near. quiet i (omega arith) (omega arith)) after)
    | inr found ↦
        let low = found.1 in
        let lt = found.2 in
        let rest = to_first fuel found.0 end (omega arith) (sooner start end found.0 h (omega arith) (omega arith) found.3) after in
        (rest.0, (let below = rest.1 in omega arith), rest.2)
  ]

  pub record IsInRegion (start end : ℕ) : Type 0 where
    pub begin : ℕ
    pub last : ℕ
    pub before : begin ≤ start
    pub beyond : end ≤ last
    pub region : IsRegion versions begin last

  in_region : (size start end : ℕ) → HaveLength versions size → IsClose start end → IsInRegion start end
  in_region size start end long h =
      let up = to_last size size start end long (omega arith) h in
      let down = to_first start start up.last (omega arith) up.close up.after in
      record { begin = down.0; last = up.last; before = down.1; beyond = up.beyond; region = down.2 }

  -- the region of a place at which they differ
  pub region_of : (size place : ℕ) → HaveLength versions size → DifferAt versions place → IsInRegion place (place + 1)
  region_of size place long differ = in_region size place (place + 1) long (close_at place differ)

  -- a region of others, which agree wherever these do
  pub region_around : (others : List (List ℕ)) (size start end : ℕ) → HaveLength versions size → ((i : ℕ) → AgreeAt versions i → AgreeAt others i)
      → IsRegion others start end → IsInRegion start end
  region_around others size start end long same h =
      let last : DifferAt versions (end - 1) = λ agree. h.last (same (end - 1) agree) in
      in_region size start end long (record {
        some = h.some;
        first = λ agree. h.first (same start agree);
        last = last;
        within = λ i low high differ. window_within versions start end last (λ i low high.
            let spot = within_window others start end h i low high in
            (spot.0, spot.1, spot.2, λ agree. spot.3 (same spot.0 agree))) i low high;
      })
