-- A combination of what copies have whose footer gives its own size is a combination of what they have with that size too.
use Rattle.ffv1_splice.proofs.Common.{◌≡◌, ℕ, zero, suc, ◌+◌, ◌-◌, ◌*◌, ◌<◌, ◌≤◌, List, [], ◌∷◌, ◌++◌, length, get_or, take, drop, map, get_or-drop, refl, sym, ap, ◌∙◌, subst, arith, inl, inr, ◌⊎◌, Contains, slice_range, cases_lt, get_or_append_left, get_or-append_right, get_or-take, length-take-le, be_bytes_4, get_or-eq_default, big_bytes, AreBytes, AreBytes-range, IsFramed, HaveLength, AgreeAt, IsCombination, HasEachByte, agree_past, IsPlacewise, same_range, range_at, AllReach, versions_at, sized, mapped_there, mapped_of, region_around}
use Rattle.ffv1_splice.proofs.Versions.{version_there, version_length}
use Rattle.ffv1_splice.proofs.FirstSlices.{length-sized, same_inside, combination_between}

-- ---- bytes with their size, place by place

-- where a place is one of the size field
IsInField : ℕ → ℕ → Type 0
IsInField size i = (size ≤ i + 8) × (i + 5 < size)

field_or_not : (size i : ℕ) → 8 ≤ size → (IsInField size i → ⊥) ⊎ IsInField size i
unfolding IsInField
field_or_not size i long = grind (arith, cases_lt)

module _ (bytes : List ℕ) (long : 8 ≤ length bytes) where
  -- what stands before the field
  length-front : length (take (length bytes - 8) bytes) ≡ length bytes - 8
  length-front = length-take-le (length bytes - 8) bytes (omega arith)

  sized_past : (i : ℕ) → length bytes ≤ i + 8
      → get_or (sized bytes) i 0 ≡ get_or (big_bytes 3 (length bytes - 8) ++ drop (length bytes - 5) bytes) (i - (length bytes - 8)) 0
  sized_past i low = grind (arith, get_or-append_right, length-front)

  -- off the field they are as they were
  sized_off : (i : ℕ) → (IsInField (length bytes) i → ⊥) → get_or (sized bytes) i 0 ≡ get_or bytes i 0
  unfolding IsInField
  sized_off i off = grind (arith, cases_lt, get_or_append_left, length-front, get_or-take, sized_past, get_or-append_right, get_or-drop)

  sized_in_own : (i : ℕ) → IsInField (length bytes) i
      → get_or (sized bytes) i 0 ≡ get_or (big_bytes 3 (length bytes - 8)) (i - (length bytes - 8)) 0
  unfolding IsInField
  sized_in_own i field = grind (arith, sized_past, get_or_append_left)

-- in the field they have the size of a slice that is as long
sized_in : (bytes : List ℕ) (size : ℕ) → 8 ≤ size → length bytes ≡ size → (i : ℕ) → IsInField size i
    → get_or (sized bytes) i 0 ≡ get_or (big_bytes 3 (size - 8)) (i - (size - 8)) 0
sized_in bytes size long same i = grind (arith, IsInField, sized_in_own)

-- so the size is put in place by place
pub sized_placewise : (size : ℕ) → 8 ≤ size → IsPlacewise size sized
sized_placewise size footer =
    record {
      keeps = λ bytes same. length-sized bytes (omega arith) ∙ same;
      at = λ i lt. elim (field_or_not size i footer) [
        | inl off ↦ inl (λ bytes same. sized_off bytes (omega arith) i (λ field. off (subst (λ n. IsInField n i) same field)))
        | inr field ↦ inr (get_or (big_bytes 3 (size - 8)) (i - (size - 8)) 0, λ bytes same. sized_in bytes size footer same i field)
      ];
    }

-- ---- a slice whose footer gives its own size

four_small : (a b c : ℕ) → a < 256 → b < 256 → c < 256 → AreBytes (0 ∷ a ∷ b ∷ c ∷ [])
four_small a b c x y z zero = omega arith
four_small a b c x y z (suc zero) = x
four_small a b c x y z (suc (suc zero)) = y
four_small a b c x y z (suc (suc (suc zero))) = z
four_small a b c x y z (suc (suc (suc (suc i)))) = omega arith

-- three bytes are those of the number in them
three_bytes : (a b c n : ℕ) → a < 256 → b < 256 → c < 256 → n ≡ a * 65536 + (b * 256 + (c * 1 + 0)) → big_bytes 3 n ≡ a ∷ b ∷ c ∷ []
three_bytes a b c n x y z is = ap (drop 1) (be_bytes_4 (0 ∷ a ∷ b ∷ c ∷ []) n refl (four_small a b c x y z) (omega arith))

module _ (slice : List ℕ) (small : AreBytes slice) (framed : IsFramed slice) where
  abbrev footer : List ℕ
  footer = slice_range slice (length slice - 8) (length slice)

  field_bytes : big_bytes 3 (length slice - 8) ≡ get_or footer 0 0 ∷ get_or footer 1 0 ∷ get_or footer 2 0 ∷ []
  field_bytes = grind (arith, AreBytes-range, three_bytes)

  field_at : (j : ℕ) → j < 3 → get_or footer j 0 ≡ get_or (big_bytes 3 (length slice - 8)) j 0
  field_at zero lt = sym (ap (λ z. get_or z 0 0) field_bytes)
  field_at (suc zero) lt = sym (ap (λ z. get_or z 1 0) field_bytes)
  field_at (suc (suc zero)) lt = sym (ap (λ z. get_or z 2 0) field_bytes)
  field_at (suc (suc (suc j))) lt = absurd (omega arith)

  own_field : (i : ℕ) → IsInField (length slice) i → get_or slice i 0 ≡ get_or (big_bytes 3 (length slice - 8)) (i - (length slice - 8)) 0
  unfolding IsInField
  own_field i field = grind (arith, range_at, field_at)

field_of_slice : (slice : List ℕ) (size : ℕ) → AreBytes slice → IsFramed slice → length slice ≡ size → (i : ℕ) → IsInField size i
    → get_or slice i 0 ≡ get_or (big_bytes 3 (size - 8)) (i - (size - 8)) 0
field_of_slice slice size small framed same i = grind (arith, IsInField, own_field)

-- ---- what copies have between two places, with its size

module _ (copies : List (List ℕ)) (start end : ℕ) (slice : List ℕ) (reach : AllReach copies end) (below : start + 8 ≤ end) (framed : IsFramed slice)
    (small : AreBytes slice) (slice_length : length slice ≡ end - start) where
  abbrev versions : List (List ℕ)
  versions = versions_at copies start end

  abbrev size : ℕ
  size = end - start

  long : HaveLength versions size
  long = version_length copies start end (omega arith) reach

  -- In the field the slice has what each version with its size has; elsewhere a version is as it was.
  same_in : (version : List ℕ) → Contains versions version → (i : ℕ) → IsInField size i → get_or slice i 0 ≡ get_or (sized version) i 0
  same_in version here i field = grind (arith, field_of_slice, sized_in, long)

  same_off : (version : List ℕ) → Contains versions version → (i : ℕ) → (IsInField size i → ⊥) → get_or (sized version) i 0 ≡ get_or version i 0
  same_off version here i off = grind (arith, long, sized_off, IsInField)

  -- where the versions agree, they do so with their size
  agree_sized : (i : ℕ) → AgreeAt versions i → AgreeAt (map sized versions) i
  agree_sized i agree one other in_one in_other =
      let a = mapped_of sized versions one in_one in
      let b = mapped_of sized versions other in_other in
      let same : get_or (sized a.0) i 0 ≡ get_or (sized b.0) i 0 = grind (arith, field_or_not, same_off, same_in) in
      ap (λ z. get_or z i 0) a.2 ∙ same ∙ sym (ap (λ z. get_or z i 0) b.2)

  -- what the slice has of one version, it has of that version with its size
  same_at : (version : List ℕ) → Contains versions version → (i : ℕ) → get_or slice i 0 ≡ get_or version i 0 → get_or slice i 0 ≡ get_or (sized version) i 0
  same_at version here i same = grind (arith, field_or_not, same_off, same_in)

  sized_size : (version : List ℕ) → Contains versions version → length (sized version) ≡ size
  sized_size version here = let same = long version here in length-sized version (omega arith) ∙ same

  -- each byte is intact in some version with its size where it is in some version
  pub sized_each_byte : HasEachByte slice versions → HasEachByte slice (map sized versions)
  sized_each_byte has =
      record {
        one_length = λ one in_one.
            let a = mapped_of sized versions one in_one in ap length a.2 ∙ sized_size a.0 a.1 ∙ sym slice_length;
        intact = λ i lt.
            let version = has.intact i lt in
            let same = sym version.2 in
            (sized version.0, mapped_there sized versions version.0 version.1, sym (same_at version.0 version.1 i same));
      }

  combination_sized : IsCombination versions slice → IsCombination (map sized versions) slice
  combination_sized is =
      record {
        same_length = λ one in_one.
            let a = mapped_of sized versions one in_one in slice_length ∙ sym (ap length a.2 ∙ sized_size a.0 a.1);
        agrees = λ i agree one in_one.
            let a = mapped_of sized versions one in_one in
            let same : get_or slice i 0 ≡ get_or (sized a.0) i 0 = elim (field_or_not size i (omega arith)) [
              | inl off ↦ is.agrees i (λ v w in_v in_w. sym (same_off v in_v i off)
                  ∙ agree (sized v) (sized w) (mapped_there sized versions v in_v) (mapped_there sized versions w in_w)
                  ∙ same_off w in_w i off) a.0 a.1 ∙ sym (same_off a.0 a.1 i off)
              | inr field ↦ same_in a.0 a.1 i field
            ] in
            same ∙ sym (ap (λ z. get_or z i 0) a.2);
        parts = λ from to region.
            let wide = region_around versions (map sized versions) size from to long agree_sized region in
            let whole = is.parts wide.begin wide.last wide.region in
            let low = wide.before in
            let high = wide.beyond in
            let some = region.some in
            let same = slice_length in
            let own = sized_size whole.0 whole.1 in
            let inside : to ≤ size = elim (cases_lt (to - 1) size) [
              | inl lt ↦ omega arith
              | inr past ↦ absurd (region.last (agree_sized (to - 1) (agree_past versions size (to - 1) long past)))
            ] in (
              sized whole.0,
              mapped_there sized versions whole.0 whole.1,
              same_range slice (sized whole.0) from to (omega arith) (omega arith)
                  (λ i above lt. same_at whole.0 whole.1 i (same_inside slice whole.0 wide.begin wide.last i (omega arith) (omega arith) whole.2)),
            );
      }

-- ---- a combination

module _ (copies : List (List ℕ)) (start end : ℕ) (copy slice : List ℕ) (reach : AllReach copies end) (there : Contains copies copy)
    (below : start + 8 ≤ end) (framed : IsFramed slice) (is : IsCombination (versions_at copies start end) slice) where
  first_there : Contains (versions_at copies start end) (slice_range copy start end)
  first_there = version_there copies start end copy there

  all_long : HaveLength (versions_at copies start end) (end - start)
  all_long = version_length copies start end (omega arith) reach

  length-slice : length slice ≡ end - start
  length-slice = is.same_length (slice_range copy start end) first_there ∙ all_long (slice_range copy start end) first_there

  slice_bytes : ((version : List ℕ) → Contains (versions_at copies start end) version → AreBytes version) → AreBytes slice
  slice_bytes are_bytes i = elim (cases_lt i (end - start)) [
    | inl lt ↦
        let part = combination_between (versions_at copies start end) (end - start) all_long slice is (slice_range copy start end) first_there i (i + 1)
        (omega arith) (omega arith) (omega arith) in
        let same : get_or slice i 0 ≡ get_or part.0 i 0 = same_inside slice part.0 i (i + 1) i (omega arith) (omega arith) part.2 in
        let small : AreBytes part.0 = are_bytes part.0 part.1 in
        omega (arith, small i)
    | inr past ↦ omega (arith, get_or-eq_default slice 0 (let same = length-slice in let far : length slice ≤ i = omega arith in far))
  ]

  pub sized_combination : ((version : List ℕ) → Contains (versions_at copies start end) version → AreBytes version)
      → IsCombination (map sized (versions_at copies start end)) slice
  sized_combination are_bytes = grind (arith, combination_sized, slice_bytes, length-slice)
