-- The combinations by number: each number gives one, each has one, and no two numbers give the same.
use Rattle.ffv1_weave.proofs.Common.{◌≡◌, ℕ, zero, suc, ◌+◌, ◌-◌, ◌*◌, ◌/◌, ◌%◌, ◌<◌, ◌≤◌, List, [], ◌∷◌, length, get_or, refl, sym, ap, ◌∙◌, subst, arith, inl, inr, ◌⊎◌, All, Contains, slice_index, slice_range, div-lt_iff_lt-mul, mul-add-mod_self_right, mod-eq_of_lt, mul_comm, div-mul-add, mul-add-lt, div-add-mod', cases_lt, get_or_append_left, get_or-append_right, get_or-take, get_or-drop, get_or_default, length-take-le, length-drop, ext_get_or, get_or-between, length-between, All-head, All-tail, AgreeAt, HaveLength, IsBoundary, IsPartBy, IsChoiceBy, AreNumbered, AreMoreThan, IsCombinationBy, Part, ArePartsFrom, AreAllParts, IsPartFrom, IsFit, parts_end, count_of, chosen, written, Split, Pairs, Regions, Most}
use Rattle.std.proofs.lemmas.List.{length-append}
use Rattle.ffv1_weave.proofs.SplitSteps.{part_some, part_within, one_part}
use Rattle.ffv1_weave.proofs.NextSegment.{IsNextSegment, next_segment}
use Rattle.ffv1_weave.proofs.MostSteps.{choice_of_some, some_most}

-- ---- a byte string written over bytes

module _ (bytes : List ℕ) (start : ℕ) (choice : List ℕ) (fits : start + length choice ≤ length bytes) where
  pub length-written : length (written bytes start choice) ≡ length bytes
  length-written = grind (arith, length-append, length-take-le, length-drop)

  pub written_before : (i : ℕ) → i < start → get_or (written bytes start choice) i 0 ≡ get_or bytes i 0
  written_before i lt = grind (arith, length-take-le, get_or_append_left, get_or-take)

  pub written_inside : (i : ℕ) → start ≤ i → i < start + length choice → get_or (written bytes start choice) i 0 ≡ get_or choice (i - start) 0
  written_inside i low lt = grind (arith, get_or-append_right, length-take-le, get_or_append_left)

  pub written_after : (i : ℕ) → start + length choice ≤ i → get_or (written bytes start choice) i 0 ≡ get_or bytes i 0
  written_after i low = grind (arith, get_or-append_right, length-take-le, get_or-drop)

-- bytes with the same at each place between two
pub same_range : (a b : List ℕ) (start end : ℕ) → end ≤ length a → end ≤ length b → ((i : ℕ) → start ≤ i → i < end → get_or a i 0 ≡ get_or b i 0)
    → slice_range a start end ≡ slice_range b start end
same_range a b start end la lb h =
    let long = length-between a start end la in
    cc (ext_get_or 0 (slice_range a start end) (slice_range b start end) (length-between a start end la ∙ sym (length-between b start end lb)) (λ i lt. get_or-between a start end i 0 (omega arith) ∙ h (start + i) (omega arith) (omega arith) ∙ sym (get_or-between b start end i 0 (omega arith))))

pub range_at : (a : List ℕ) (start end i : ℕ) → start ≤ i → i < end → get_or (slice_range a start end) (i - start) 0 ≡ get_or a i 0
range_at a start end i low lt = grind (arith, get_or-between)

-- ---- a fitting part

-- the choice of a number
abbrev pub choice_of : Part → ℕ → List ℕ
choice_of part k = get_or part.choices k []

module _ (size : ℕ) (part : Part) (fit : IsFit size part) where
  pub choice_size : (k : ℕ) → k < length part.choices → part.start + length (choice_of part k) ≡ part.end
  choice_size k lt = let order = fit.order in omega (arith, fit.fill k lt)

  pub digit_below : (k : ℕ) → k % length part.choices < length part.choices
  digit_below k = let some = fit.some in omega arith

-- ---- bytes that are alike

-- Before a place both are the same, and after it where all versions agree.
pub record IsAlike (versions : List (List ℕ)) (from : ℕ) (a b : List ℕ) : Type 0 where
  pub size : length a ≡ length b
  pub front : (i : ℕ) → i < from → get_or a i 0 ≡ get_or b i 0
  pub agree : (i : ℕ) → AgreeAt versions i → get_or a i 0 ≡ get_or b i 0

module _ (split : Split) (versions : List (List ℕ)) where
  -- where nothing differs any more, both are the same
  alike_end : (from : ℕ) (a b : List ℕ) → ((i : ℕ) → from ≤ i → AgreeAt versions i) → IsAlike versions from a b → a ≡ b
  alike_end from a b rest h =
      ext_get_or 0 a b h.size (λ i lt. elim (cases_lt i from) [ inl below ↦ h.front i below | inr above ↦ h.agree i (rest i above) ])

  -- before a part too
  alike_until : (from start end : ℕ) (a b : List ℕ) → IsPartFrom split versions from start end → IsAlike versions from a b → (i : ℕ) → i < start
      → get_or a i 0 ≡ get_or b i 0
  alike_until from start end a b next h i lt = grind (arith, cases_lt)

  -- both with the same choice
  alike_both : (from : ℕ) (part : Part) (k : ℕ) (a b : List ℕ) → IsPartFrom split versions from part.start part.end → IsFit (length a) part
      → k < length part.choices → IsAlike versions from a b
      → IsAlike versions part.end (written a part.start (choice_of part k)) (written b part.start (choice_of part k))
  alike_both from part k a b next fit lt h =
      let long = choice_size (length a) part fit k lt in
      let within = fit.within in
      let size = h.size in
      let fits_a : part.start + length (choice_of part k) ≤ length a = omega arith in
      let fits_b : part.start + length (choice_of part k) ≤ length b = omega arith in
      record {
        size = length-written a part.start (choice_of part k) fits_a ∙ size ∙ sym (length-written b part.start (choice_of part k) fits_b);
        front = grind (arith, cases_lt, written_before, alike_until, written_inside);
        agree = grind (arith, cases_lt, written_before, written_inside, written_after);
      }

  -- one with the choice that the other has
  alike_choice : (from : ℕ) (part : Part) (k : ℕ) (a b : List ℕ) → IsPartFrom split versions from part.start part.end → IsFit (length a) part
      → k < length part.choices → slice_range b part.start part.end ≡ choice_of part k → IsAlike versions from a b
      → IsAlike versions part.end (written a part.start (choice_of part k)) b
  alike_choice from part k a b next fit lt is h =
      grind (arith, choice_size, written_inside, range_at, length-written, cases_lt, written_before, alike_until, written_after)

-- parts fit bytes of another length that is the same
pub fit_as : (m n : ℕ) (parts : List Part) → m ≡ n → All (IsFit n) parts → All (IsFit m) parts
fit_as m n parts same fit = subst (λ s. All (IsFit s) parts) (sym same) fit

module _ (size : ℕ) (part : Part) (parts : List Part) (fit : All (IsFit size) (part ∷ parts)) where
  pub fit_head : IsFit size part
  fit_head = All-head (IsFit size) part parts fit

  pub fit_tail : All (IsFit size) parts
  fit_tail = All-tail (IsFit size) part parts fit

  pub fits_in : (k : ℕ) → k < length part.choices → part.start + length (choice_of part k) ≤ size
  fits_in k lt = let within = fit_head.within in omega (arith, choice_size size part fit_head k lt)

module _ (split : Split) (versions : List (List ℕ)) where
  -- nothing is written before the place from which the parts are sought
  pub chosen_front : (from : ℕ) (parts : List Part) (code : ℕ) (bytes : List ℕ) → ArePartsFrom split versions from parts → All (IsFit (length bytes)) parts
      → (i : ℕ) → i < from → get_or (chosen parts code bytes) i 0 ≡ get_or bytes i 0
  chosen_front from [] code bytes are fit i lt = refl
  chosen_front from (part ∷ parts) code bytes are fit i lt =
      let digit = digit_below (length bytes) part (fit_head (length bytes) part parts fit) code in
      let fits = fits_in (length bytes) part parts fit (code % length part.choices) digit in
      let long = length-written bytes part.start (choice_of part (code % length part.choices)) fits in
      let some = part_some split versions part.start part.end are.0.part in
      chosen_front part.end parts (code / length part.choices) (written bytes part.start (choice_of part (code % length part.choices))) are.2
      (fit_as _ (length bytes) parts long (fit_tail (length bytes) part parts fit)) i (omega arith)
      ∙ written_before bytes part.start (choice_of part (code % length part.choices)) fits i (omega arith)

  -- of bytes that are alike the same is made
  pub chosen_alike : (from : ℕ) (parts : List Part) (code : ℕ) (a b : List ℕ) → ArePartsFrom split versions from parts
      → ((i : ℕ) → parts_end from parts ≤ i → AgreeAt versions i) → All (IsFit (length a)) parts → IsAlike versions from a b
      → chosen parts code a ≡ chosen parts code b
  chosen_alike from [] code a b are rest fit h = alike_end split versions from a b rest h
  chosen_alike from (part ∷ parts) code a b are rest fit h =
      let digit = digit_below (length a) part (fit_head (length a) part parts fit) code in
      let long = length-written a part.start (choice_of part (code % length part.choices))
      (fits_in (length a) part parts fit (code % length part.choices) digit) in
      cc (chosen_alike part.end parts (code / length part.choices) (written a part.start (choice_of part (code % length part.choices))) (written b part.start (choice_of part (code % length part.choices))) are.2 rest (fit_as _ (length a) parts long (fit_tail (length a) part parts fit)) (alike_both split versions from part (code % length part.choices) a b are.0 (fit_head (length a) part parts fit) digit h))

  -- each combination has a number
  pub chosen_all : (from : ℕ) (parts : List Part) (bytes combination : List ℕ) → ArePartsFrom split versions from parts
      → ((i : ℕ) → parts_end from parts ≤ i → AgreeAt versions i) → All (IsFit (length bytes)) parts → IsCombinationBy split versions combination
      → IsAlike versions from bytes combination → (k : ℕ) × (k < count_of parts) × (chosen parts k bytes ≡ combination)
  chosen_all from [] bytes combination are rest fit is h = (0, omega arith, alike_end split versions from bytes combination rest h)
  chosen_all from (part ∷ parts) bytes combination are rest fit is h =
      let here = are.1.each (slice_range combination part.start part.end) (is.parts part.start part.end are.0.part) in
      let d : ℕ = here.0 in
      let n : ℕ = length part.choices in
      let lies : slice_range combination part.start part.end ≡ choice_of part d =
      sym (get_or_default part.choices d [] (slice_range combination part.start part.end) here.1 ∙ here.2) in
      let long = length-written bytes part.start (choice_of part d) (fits_in (length bytes) part parts fit d here.1) in
      let number = chosen_all part.end parts (written bytes part.start (choice_of part d)) combination are.2 rest
      (fit_as _ (length bytes) parts long (fit_tail (length bytes) part parts fit)) is
      (alike_choice split versions from part d bytes combination are.0 (fit_head (length bytes) part parts fit) here.1 lies h) in
      let digit : (number.0 * n + d) % n ≡ d = mul-add-mod_self_right number.0 n d ∙ mod-eq_of_lt here.1 in
      let up : (number.0 * n + d) / n ≡ number.0 = div-mul-add number.0 n d here.1 in (
        number.0 * n + d,
        mul-add-lt number.0 n d (count_of parts) number.1 here.1,
        ap (λ m. chosen parts m (written bytes part.start (choice_of part ((number.0 * n + d) % n)))) up
            ∙ ap (λ m. chosen parts number.0 (written bytes part.start (choice_of part m))) digit
            ∙ number.2,
      )

  -- no two numbers give the same
  pub chosen_once : (from : ℕ) (parts : List Part) (bytes : List ℕ) (j k : ℕ) → ArePartsFrom split versions from parts → All (IsFit (length bytes)) parts
      → j < count_of parts → k < count_of parts → chosen parts j bytes ≡ chosen parts k bytes → j ≡ k
  chosen_once from [] bytes j k are fit low lt same = omega arith
  chosen_once from (part ∷ parts) bytes j k are fit low lt same =
      let head = fit_head (length bytes) part parts fit in
      let n : ℕ = length part.choices in
      let some : 0 < n = head.some in
      let j_digit = digit_below (length bytes) part head j in
      let k_digit = digit_below (length bytes) part head k in
      let j_choice : List ℕ = choice_of part (j % n) in
      let k_choice : List ℕ = choice_of part (k % n) in
      let j_fits = fits_in (length bytes) part parts fit (j % n) j_digit in
      let k_fits = fits_in (length bytes) part parts fit (k % n) k_digit in
      let j_long = length-written bytes part.start j_choice j_fits in
      let k_long = length-written bytes part.start k_choice k_fits in
      let k_size = choice_size (length bytes) part head (k % n) k_digit in
      let j_rest = fit_as (length (written bytes part.start j_choice)) (length bytes) parts j_long (fit_tail (length bytes) part parts fit) in
      let k_rest = fit_as (length (written bytes part.start k_choice)) (length bytes) parts k_long (fit_tail (length bytes) part parts fit) in
      let at : (i : ℕ) → part.start ≤ i → i < part.end → get_or j_choice (i - part.start) 0 ≡ get_or k_choice (i - part.start) 0 =
      λ i from_start below. sym (written_inside bytes part.start j_choice j_fits i from_start (omega arith))
      ∙ sym (chosen_front part.end parts (j / n) (written bytes part.start j_choice) are.2 j_rest i below)
      ∙ ap (λ z. get_or z i 0) same
      ∙ chosen_front part.end parts (k / n) (written bytes part.start k_choice) are.2 k_rest i below
      ∙ written_inside bytes part.start k_choice k_fits i from_start (omega arith) in
      let choices : j_choice ≡ k_choice = ext_get_or 0 j_choice k_choice (omega arith) (λ i below.
      let there : part.start + i - part.start ≡ i = omega arith in
      ap (λ m. get_or j_choice m 0) (sym there) ∙ at (part.start + i) (omega arith) (omega arith) ∙ ap (λ m. get_or k_choice m 0) there) in
      let digits : j % n ≡ k % n = are.1.once (j % n) (k % n) j_digit k_digit choices in
      let ups : j / n ≡ k / n = chosen_once part.end parts (written bytes part.start j_choice) (j / n) (k / n) are.2 j_rest
      (let e = div-lt_iff_lt-mul {k = n} {x = j} {y = count_of parts} some in e.1 (subst (λ m. j < m) (mul_comm n (count_of parts)) low))
      (let e = div-lt_iff_lt-mul {k = n} {x = k} {y = count_of parts} some in e.1 (subst (λ m. k < m) (mul_comm n (count_of parts)) lt))
      (same ∙ ap (λ p. chosen parts (k / n) (written bytes part.start p)) (sym choices)) in
      sym (div-add-mod' j n) ∙ ap (λ q. q * n + j % n) ups ∙ ap (λ r. k / n * n + r) digits ∙ div-add-mod' k n

-- ---- a choice written over a part

module _ (split : Split) (versions : List (List ℕ)) (size : ℕ) (all_long : HaveLength versions size) where
  module _ (part : Part) (k : ℕ) (is_part : IsPartBy split versions part.start part.end) (fit : IsFit size part) (lt : k < length part.choices)
      (taken : IsChoiceBy split versions part.start part.end (choice_of part k)) (bytes : List ℕ) (long : length bytes ≡ size) where
    fits_bytes : part.start + length (choice_of part k) ≤ length bytes
    fits_bytes = let within = fit.within in omega (arith, choice_size size part fit k lt)

    length-over : length (written bytes part.start (choice_of part k)) ≡ size
    length-over = length-written bytes part.start (choice_of part k) fits_bytes ∙ long

    -- the part has the choice
    has_choice : slice_range (written bytes part.start (choice_of part k)) part.start part.end ≡ choice_of part k
    has_choice =
        let ends = choice_size size part fit k lt in
        let within = fit.within in
        let here = length-between (written bytes part.start (choice_of part k)) part.start part.end (omega (arith, length-over)) in
        cc (ext_get_or 0 (slice_range (written bytes part.start (choice_of part k)) part.start part.end) (choice_of part k) (omega arith) (λ i below. let there : part.start + i - part.start ≡ i = omega arith in get_or-between (written bytes part.start (choice_of part k)) part.start part.end i 0 (omega arith) ∙ written_inside bytes part.start (choice_of part k) fits_bytes (part.start + i) (omega arith) (omega arith) ∙ ap (λ m. get_or (choice_of part k) m 0) there))

    -- what is outside of it stays
    has_rest : (start end : ℕ) → end ≤ size → (end ≤ part.start) ⊎ (part.end ≤ start)
        → slice_range (written bytes part.start (choice_of part k)) start end ≡ slice_range bytes start end
    has_rest start end within apart = grind (arith, choice_size, same_range, length-over, written_before, fits_bytes, written_after)

    -- The part, and each other one that had what can be taken there, has what can be taken there.
    part_over : (start end : ℕ) → IsPartBy split versions start end
        → ((end ≤ part.start) ⊎ (part.end ≤ start) → IsChoiceBy split versions start end (slice_range bytes start end))
        → IsChoiceBy split versions start end (slice_range (written bytes part.start (choice_of part k)) start end)
    part_over start end other rest =
        let within = part_within versions size all_long split start end other in
        let outside = λ (apart : (end ≤ part.start) ⊎ (part.end ≤ start)). subst (IsChoiceBy split versions start end) (sym (has_rest start end within apart)) (rest apart) in
        elim (cases_lt part.start end) [
          | inr before ↦ outside (inl before)
          | inl late ↦ elim (cases_lt start part.end) [
            | inr beyond ↦ outside (inr beyond)
            | inl early ↦
                let one = one_part versions size all_long split part.start part.end start end is_part other late early in
                subst (λ s. IsChoiceBy split versions s end (slice_range (written bytes part.start (choice_of part k)) s end)) one.0
                (subst (λ e. IsChoiceBy split versions part.start e (slice_range (written bytes part.start (choice_of part k)) part.start e)) one.1
                (subst (IsChoiceBy split versions part.start part.end) (sym has_choice) taken))
          ]
        ]

    -- where all versions agree it is as they are, if it was before
    agrees_over : (i : ℕ) → AgreeAt versions i → (version : List ℕ) → Contains versions version → get_or bytes i 0 ≡ get_or version i 0
        → get_or (written bytes part.start (choice_of part k)) i 0 ≡ get_or version i 0
    agrees_over i same version there before =
        grind (arith, choice_size, choice_of_some, cases_lt, written_before, fits_bytes, written_inside, range_at, written_after)

    -- A combination stays one.
    combination_over : IsCombinationBy split versions bytes → IsCombinationBy split versions (written bytes part.start (choice_of part k))
    combination_over h = grind (arith, length-over, agrees_over, part_over)

-- ---- there is a combination

-- Bytes that are a combination as far as to a place.
record IsGoodBefore (split : Split) (versions : List (List ℕ)) (from : ℕ) (bytes : List ℕ) : Type 0 where
  same_length : (version : List ℕ) → Contains versions version → length bytes ≡ length version
  agrees : (i : ℕ) → AgreeAt versions i → (version : List ℕ) → Contains versions version → slice_index bytes i ≡ slice_index version i
  parts : (start end : ℕ) → IsPartBy split versions start end → end ≤ from → IsChoiceBy split versions start end (slice_range bytes start end)

module _ (versions : List (List ℕ)) (first : List ℕ) (all_long : HaveLength versions (length first)) (there : Contains versions first) where
  good_whole : (split : Split) (from : ℕ) (bytes : List ℕ) → length first ≤ from → IsGoodBefore split versions from bytes
      → IsCombinationBy split versions bytes
  good_whole split from bytes past h =
      record {
        same_length = h.same_length;
        agrees = h.agrees;
        parts = λ start end part. h.parts start end part (let within = part_within versions (length first) all_long split start end part in omega arith);
      }

  good_first : (split : Split) → IsGoodBefore split versions 0 first
  good_first split = grind (arith, part_some)

  module _ (distance : ℕ) where
    -- one segment more, with what most versions have there
    good_next : (from : ℕ) (bytes : List ℕ) (next : IsNextSegment distance versions from (length first)) → IsGoodBefore (Most distance) versions from bytes
        → (more : List ℕ) × IsGoodBefore (Most distance) versions next.end more
    good_next from bytes next h =
        let some_versions : 0 < length versions = omega (arith, there.1) in
        let order = part_some (Most distance) versions from next.end next.segment in
        let within = next.within in
        let most = some_most versions from next.end some_versions in
        let choice : List ℕ = slice_range most.0 from next.end in
        let part : Part = record { start = from; end = next.end; choices = choice ∷ [] } in
        let fit : IsFit (length first) part =
        record {
          order = omega arith;
          within = within;
          some = omega arith;
          fill = grind (arith, length-between);
        } in
        let taken : IsChoiceBy (Most distance) versions from next.end choice = ((most.0, most.1, refl), most.2) in
        let long = h.same_length first there in (
          written bytes from choice,
          record {
            same_length = λ version here. length-over (Most distance) versions (length first) all_long part 0 next.segment fit (omega arith) taken bytes long
                ∙ sym (all_long version here);
            agrees = λ i same version here.
                agrees_over (Most distance) versions (length first) all_long part 0 next.segment fit (omega arith) taken bytes long i same version here
                (h.agrees i same version here);
            parts = λ start end other below.
                part_over (Most distance) versions (length first) all_long part 0 next.segment fit (omega arith) taken bytes long start end other (λ apart.
                let some = part_some (Most distance) versions start end other in
                h.parts start end other (elim apart [ inl before ↦ before | inr beyond ↦ omega arith ]));
          },
        )

    good_until : (fuel from : ℕ) (bytes : List ℕ) → length first ≤ from + fuel → (from ≡ 0) ⊎ IsBoundary distance versions from
        → IsGoodBefore (Most distance) versions from bytes → (more : List ℕ) × IsCombinationBy (Most distance) versions more
    good_until zero from bytes past edge h = (bytes, good_whole (Most distance) from bytes (omega arith) h)
    good_until (suc fuel) from bytes past edge h = elim (cases_lt from (length first)) [
      | inr done ↦ (bytes, good_whole (Most distance) from bytes done h)
      | inl below ↦
          let next = next_segment distance versions from (length first) all_long (omega (arith, there.1)) below edge in
          let order = part_some (Most distance) versions from next.end next.segment in
          let more = good_next from bytes next h in
          elim next.last [
            | inl boundary ↦ good_until fuel next.end more.0 (omega arith) (inr boundary) more.1
            | inr whole ↦ (more.0, good_whole (Most distance) next.end more.0 (omega arith) more.1)
          ]
    ]

  version_by : (split : Split) → ((start end : ℕ) → IsChoiceBy split versions start end (slice_range first start end)) → IsCombinationBy split versions first
  version_by split has = grind arith

  -- By each split there is a combination: a version, or what most versions have in each segment.
  pub some_combination : (split : Split) → (bytes : List ℕ) × IsCombinationBy split versions bytes
  some_combination (Pairs distance) = (first, version_by (Pairs distance) (λ start end. (first, there, refl)))
  some_combination Regions = (first, version_by Regions (λ start end. (first, there, refl)))
  some_combination (Most distance) = good_until distance (length first) 0 first (omega arith) (inl refl) (good_first (Most distance))

-- ---- each number gives a combination

module _ (split : Split) (versions : List (List ℕ)) (size : ℕ) (all_long : HaveLength versions size) where
  pub chosen_are : (from : ℕ) (parts : List Part) (code : ℕ) (bytes : List ℕ) → length bytes ≡ size → ArePartsFrom split versions from parts
      → All (IsFit size) parts → IsCombinationBy split versions bytes → IsCombinationBy split versions (chosen parts code bytes)
  chosen_are from [] code bytes long are fit h = h
  chosen_are from (part ∷ parts) code bytes long are fit h =
      let head = fit_head size part parts fit in
      let digit = digit_below size part head code in
      let taken = are.1.only (code % length part.choices) digit in
      chosen_are part.end parts (code / length part.choices) (written bytes part.start (choice_of part (code % length part.choices)))
      (length-over split versions size all_long part (code % length part.choices) are.0.part head digit taken bytes long) are.2
      (fit_tail size part parts fit)
      (combination_over split versions size all_long part (code % length part.choices) are.0.part head digit taken bytes long h)

module _ (split : Split) (versions : List (List ℕ)) (first : List ℕ) (all_long : HaveLength versions (length first)) (there : Contains versions first) where
  -- More parts than are tried give more combinations, whatever follows them.
  pub many_chosen : (parts : List Part) (most : ℕ) → ArePartsFrom split versions 0 parts → All (IsFit (length first)) parts → most < count_of parts
      → AreMoreThan (IsCombinationBy split versions) most
  many_chosen parts most are fit over =
      let base = some_combination versions first all_long there split in
      let long = base.1.same_length first there in
      record {
        at = λ k. chosen parts k base.0;
        are = λ k low. chosen_are split versions (length first) all_long 0 parts k base.0 long are fit base.1;
        once = grind (arith, chosen_once, fit_as);
      }

module _ (split : Split) (versions : List (List ℕ)) where
  pub combination_alike : (first combination : List ℕ) → Contains versions first → IsCombinationBy split versions combination
      → IsAlike versions 0 combination first
  combination_alike first combination there is = grind arith

  pub alike_back : (from : ℕ) (a b : List ℕ) → IsAlike versions from a b → IsAlike versions from b a
  alike_back from a b h = record { size = sym h.size; front = λ i lt. sym (h.front i lt); agree = λ i same. sym (h.agree i same) }

  module _ (parts : List Part) (first : List ℕ) (long : HaveLength versions (length first)) (there : Contains versions first)
      (are : AreAllParts split versions parts) (fit : All (IsFit (length first)) parts) where
    -- written over the first version is what is written over any combination
    pub chosen_first : (code : ℕ) → IsCombinationBy split versions (chosen parts code first)
    chosen_first code =
        let base = some_combination versions first long there split in
        let alike = alike_back 0 base.0 first (combination_alike first base.0 there base.1) in
        subst (IsCombinationBy split versions) (sym (chosen_alike split versions 0 parts code first base.0 are.next are.rest fit alike))
        (chosen_are split versions (length first) long 0 parts code base.0 (base.1.same_length first there) are.next fit base.1)

    -- the combinations are numbered
    abbrev pub numbered : AreNumbered (IsCombinationBy split versions) (count_of parts)
    numbered =
        record {
          at = λ k. chosen parts k first;
          are = λ k lt. chosen_first k;
          all = λ combination is. chosen_all split versions 0 parts first combination are.next are.rest fit is
              (alike_back 0 combination first (combination_alike first combination there is));
          once = λ j k low lt same. chosen_once split versions 0 parts first j k are.next fit low lt same;
        }
