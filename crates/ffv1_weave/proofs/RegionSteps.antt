-- Regions: how they are found, what else is true of them, and that they never overlap.
use Rattle.ffv1_weave.proofs.Common.{◌≡◌, ℕ, zero, suc, ◌+◌, ◌-◌, ◌<◌, ◌≤◌, List, sym, subst, arith, inl, inr, cases_lt, AgreeAt, DifferAt, IsRegion}
use Rattle.ffv1_weave.specs.declared.regions.TheConstants.{SEPARATION}

-- ---- the end of a region

-- what is known of a region's end while it is sought
pub record IsEndSoFar (versions : List (List ℕ)) (start end place size : ℕ) : Type 0 where
  pub some : start < end
  pub order : end ≤ place
  pub within : place ≤ size
  pub last : DifferAt versions (end - 1)
  pub quiet : (i : ℕ) → end ≤ i → i < place → AgreeAt versions i
  pub followed : (i : ℕ) → start ≤ i → i + 1 < end → DifferAt versions i
      → (j : ℕ) × (i < j) × (j ≤ i + SEPARATION) × (j < end) × DifferAt versions j

module _ (versions : List (List ℕ)) where
  -- the end is after a place where they differ, and no further place was looked at
  end_after : (start place size : ℕ) → start ≤ place → place < size → DifferAt versions place
      → ((i : ℕ) → start ≤ i → i + 1 < place + 1 → DifferAt versions i → (j : ℕ) × (i < j) × (j ≤ i + SEPARATION) × (j < place + 1) × DifferAt versions j)
      → IsEndSoFar versions start (place + 1) (place + 1) size
  end_after start place size from within differ followed =
      record {
        some = omega arith;
        order = omega arith;
        within = omega arith;
        last = let same : place ≡ place + 1 - 1 = omega arith in subst (DifferAt versions) same differ;
        quiet = λ i low high. absurd (omega arith);
        followed = followed;
      }

  pub end_begins : (start size : ℕ) → start < size → DifferAt versions start → IsEndSoFar versions start (start + 1) (start + 1) size
  end_begins start size within first = end_after start start size (omega arith) within first (λ i low high differ. absurd (omega arith))

  pub end_stays : (start end place size : ℕ) → place < size → AgreeAt versions place → IsEndSoFar versions start end place size
      → IsEndSoFar versions start end (place + 1) size
  end_stays start end place size within agree h = grind (arith, cases_lt)

  pub end_moves : (start end place size : ℕ) → place < size → place < end + SEPARATION → DifferAt versions place → IsEndSoFar versions start end place size
      → IsEndSoFar versions start (place + 1) (place + 1) size
  end_moves start end place size within near differ h =
      let some = h.some in
      end_after start place size (omega arith) within differ (λ i low high here. elim (cases_lt (i + 1) end) [
        | inl inside ↦ let next = h.followed i low inside here in
            (next.0, next.1, next.2, (let below = next.3 in omega arith), next.4)
        | inr past ↦ (place, omega arith, omega arith, omega arith, differ)
      ])

  -- from a place where they differ on, up to the first one not before i
  walk : (fuel start end i place : ℕ) → i ≤ place + fuel → start ≤ place → place ≤ i → i + SEPARATION ≤ end → IsRegion versions start end
      → DifferAt versions place → (j : ℕ) × (i ≤ j) × (j < i + SEPARATION) × DifferAt versions j
  walk zero start end i place far low below high h differ = (place, omega arith, omega arith, differ)
  walk (suc fuel) start end i place far low below high h differ = elim (cases_lt place i) [
    | inr there ↦ (place, there, omega arith, differ)
    | inl short ↦
        let next = h.within place low (omega arith) differ in
        let after = next.1 in
        let near = next.2 in
        elim (cases_lt next.0 i) [
          | inl again ↦ walk fuel start end i next.0 (omega arith) (omega arith) (omega arith) high h next.4
          | inr there ↦ (next.0, there, omega arith, next.4)
        ]
  ]

  -- within a region they agree nowhere at SEPARATION places in a row
  pub within_window : (start end : ℕ) → IsRegion versions start end → (i : ℕ) → start ≤ i → i + SEPARATION ≤ end
      → (j : ℕ) × (i ≤ j) × (j < i + SEPARATION) × DifferAt versions j
  within_window start end h i low high = walk i start end i start (omega arith) (omega arith) low high h h.first

  -- and where they do so nowhere, each place but the last has another one near after it
  pub window_within : (start end : ℕ) → DifferAt versions (end - 1)
      → ((i : ℕ) → start ≤ i → i + SEPARATION ≤ end → (j : ℕ) × (i ≤ j) × (j < i + SEPARATION) × DifferAt versions j) → (i : ℕ) → start ≤ i → i + 1 < end
      → (j : ℕ) × (i < j) × (j ≤ i + SEPARATION) × (j < end) × DifferAt versions j
  window_within start end last window i low high = elim (cases_lt end (i + 1 + SEPARATION)) [
    | inl near ↦ (end - 1, omega arith, omega arith, omega arith, last)
    | inr far ↦
        let spot = window (i + 1) (omega arith) far in
        let above = spot.1 in
        let below = spot.2 in
        (spot.0, omega arith, omega arith, omega arith, spot.3)
  ]

  -- ---- two regions

  region_begins : (s e t f : ℕ) → IsRegion versions s e → IsRegion versions t f → s ≤ t → t < e → s ≡ t
  region_begins s e t f h k low high =
      elim (cases_lt s t) [
        | inl below ↦ elim (cases_lt t (s + SEPARATION)) [
          | inl near ↦ absurd (h.first (k.before s below (omega arith)))
          | inr far ↦ let spot = within_window s e h (t - SEPARATION) (omega arith) (omega arith) in
              let up = spot.1 in let down = spot.2 in
              absurd (spot.3 (k.before spot.0 (omega arith) (omega arith)))
        ]
        | inr same ↦ omega arith
      ]

  end_not_below : (s e f : ℕ) → IsRegion versions s e → IsRegion versions s f → e < f → ⊥
  end_not_below s e f h k below =
      elim (cases_lt (f - 1) (e + SEPARATION)) [
        | inl near ↦ k.last (h.after (f - 1) (omega arith) near)
        | inr far ↦ let spot = within_window s f k e (omega arith) (omega arith) in
            spot.3 (h.after spot.0 spot.1 spot.2)
      ]

  -- two regions that overlap are one
  pub one_region : (s e t f : ℕ) → IsRegion versions s e → IsRegion versions t f → s < f → t < e → (s ≡ t) × (e ≡ f)
  one_region s e t f h k low high =
      let starts : s ≡ t = elim (cases_lt t s) [
        | inl below ↦ sym (region_begins t f s e k h (omega arith) low)
        | inr above ↦ region_begins s e t f h k above high
      ] in
      let same : IsRegion versions s f = subst (λ n. IsRegion versions n f) (sym starts) k in (
        starts,
        elim (cases_lt e f) [
          | inl below ↦ absurd (end_not_below s e f h same below)
          | inr above ↦ elim (cases_lt f e) [
            | inl below ↦ absurd (end_not_below s f e same h below)
            | inr there ↦ omega arith
          ]
        ],
      )
