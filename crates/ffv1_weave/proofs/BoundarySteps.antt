-- Boundaries and segments: where a boundary can lie, and that segments never overlap.
use Rattle.ffv1_weave.proofs.Common.{◌≡◌, ℕ, ◌+◌, ◌-◌, ◌<◌, ◌≤◌, List, [], length, get_or, arith, inl, inr, ◌⊎◌, Contains, cases_lt, get_or_past, Contains-get_or, HaveLength, AgreeAt, DifferAt, AreParted, IsBoundary, IsSegment, IsPartFrom, Pairs}
use Rattle.ffv1_weave.proofs.Agreeing.{two_of}

module _ (distance : ℕ) (versions : List (List ℕ)) where
  -- ---- a boundary by two versions, and by a place where versions differ

  pub boundary_of : (place : ℕ) (one other : List ℕ) → Contains versions one → Contains versions other → AreParted distance one other place
      → IsBoundary distance versions place
  boundary_of place one other there here parted = record { one = one; other = other; one_there = there; other_there = here; parted = parted }

  boundary_by : (place at : ℕ) → DifferAt versions at
      → ((one other : List ℕ) → Contains versions one → Contains versions other → (get_or one at 0 ≡ get_or other at 0 → ⊥) → AreParted distance one other place)
      → IsBoundary distance versions place
  boundary_by place at differ parted =
      let two = two_of versions at differ in
      boundary_of place two.one two.other two.one_there two.other_there (parted two.one two.other two.one_there two.other_there two.differ)

  -- before it all agree
  pub boundary_before : (place : ℕ) → DifferAt versions place → ((i : ℕ) → i < place → place ≤ i + distance → AgreeAt versions i) → IsBoundary distance versions place
  boundary_before place differ quiet = boundary_by place place differ (λ one other there here apart.
      inl (record { differ = apart; before = λ i lt near. quiet i lt near one other there here }))

  -- after it all agree
  pub boundary_after : (last place : ℕ) → place ≡ last + 1 → DifferAt versions last → ((i : ℕ) → place ≤ i → i < place + distance → AgreeAt versions i)
      → IsBoundary distance versions place
  boundary_after last place next differ quiet = boundary_by place last differ (λ one other there here apart.
      inr (record { last = last; next = next; differ = apart; after = λ i low lt. quiet i low lt one other there here }))

  -- ---- where a boundary can lie

  -- Where all versions agree at a place and at the one before it, it is no boundary.
  pub quiet_no_boundary : (place : ℕ) → AgreeAt versions (place - 1) → AgreeAt versions place → IsBoundary distance versions place → ⊥
  quiet_no_boundary place before here boundary = grind arith

  pub boundary_within : (size place : ℕ) → HaveLength versions size → IsBoundary distance versions place → place ≤ size
  boundary_within size place long boundary = grind (arith, get_or_past, cases_lt)

  -- ---- two segments

  pub segment_within : (size s e : ℕ) → HaveLength versions size → IsSegment distance versions s e → e ≤ size
  segment_within size s e long h = elim h.last [
    | inl boundary ↦ boundary_within size e long boundary
    | inr at_end ↦ omega (arith, at_end.2, long at_end.0 at_end.1)
  ]

  segment_begins : (s e t f : ℕ) → IsSegment distance versions s e → IsSegment distance versions t f → s < t → t < e → ⊥
  segment_begins s e t f h k low high = elim k.first [
    | inl zero ↦ omega arith
    | inr boundary ↦ h.within t low high boundary
  ]

  segment_ends : (size s e t f : ℕ) → HaveLength versions size → IsSegment distance versions s e → IsSegment distance versions t f → t < e → e < f → ⊥
  segment_ends size s e t f long h k low high = elim h.last [
    | inl boundary ↦ k.within e low high boundary
    | inr at_end ↦ omega (arith, at_end.2, long at_end.0 at_end.1, segment_within size t f long k)
  ]

  -- two segments that overlap are one
  pub one_segment : (size s e t f : ℕ) → HaveLength versions size → IsSegment distance versions s e → IsSegment distance versions t f → s < f → t < e
      → (s ≡ t) × (e ≡ f)
  one_segment size s e t f long h k low high = (
    elim (cases_lt s t) [
      | inl below ↦ absurd (segment_begins s e t f h k below high)
      | inr above ↦ elim (cases_lt t s) [
        | inl below ↦ absurd (segment_begins t f s e k h below low)
        | inr there ↦ omega arith
      ]
    ],
    elim (cases_lt e f) [
      | inl below ↦ absurd (segment_ends size s e t f long h k high below)
      | inr above ↦ elim (cases_lt f e) [
        | inl below ↦ absurd (segment_ends size t f s e long k h low below)
        | inr there ↦ omega arith
      ]
    ],
  )

  -- ---- the next segment at which versions differ

  -- what is known of a first place at which they differ, of where its segment begins, and of the next boundary
  pub record IsAround (size from first start end : ℕ) : Type 0 where
    pub below : first < size
    pub beyond : from ≤ first
    pub until : (i : ℕ) → from ≤ i → i < first → AgreeAt versions i
    pub begins : (start ≡ from) ⊎ ((start ≡ first) × IsBoundary distance versions first)
    pub boundary : from < first → start ≡ from → IsBoundary distance versions first → ⊥
    pub after : first < end
    pub within : end ≤ size
    pub quiet : (i : ℕ) → first < i → i < end → IsBoundary distance versions i → ⊥
    pub there : end < size → IsBoundary distance versions end

  no_boundary : (size from first start end : ℕ) → IsAround size from first start end → (i : ℕ) → start < i → i < end → IsBoundary distance versions i → ⊥
  no_boundary size from first start end h i low lt boundary =
      elim (cases_lt first i) [
        | inl past ↦ h.quiet i past lt boundary
        | inr near ↦ elim h.begins [
          | inr there ↦ let is = there.0 in omega arith
          | inl is ↦ grind (arith, cases_lt, quiet_no_boundary)
        ]
      ]

  pub segment_after : (size from first start end : ℕ) → HaveLength versions size → 0 < length versions → (from ≡ 0) ⊎ ((s : ℕ) × IsSegment distance versions s from)
      → IsAround size from first start end → IsPartFrom (Pairs distance) versions from start end
  segment_after size from first start end long some edge h =
      let below = h.below in
      let beyond = h.beyond in
      let after = h.after in
      let within = h.within in
      let low : start ≤ first = elim h.begins [ inl is ↦ omega arith | inr there ↦ let is = there.0 in omega arith ] in
      let high : from ≤ start = elim h.begins [ inl is ↦ omega arith | inr there ↦ let is = there.0 in omega arith ] in
      record {
        beyond = high;
        until = λ i above under. h.until i above (omega arith);
        part = record {
          some = omega arith;
          first = grind arith;
          last = elim (cases_lt end size) [
            | inl inside ↦ inl (h.there inside)
            | inr past ↦ let there = Contains-get_or versions 0 [] some in
                inr (get_or versions 0 [], there, omega (arith, long (get_or versions 0 []) there))
          ];
          within = no_boundary size from first start end h;
        };
      }
