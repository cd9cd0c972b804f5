-- What is left of bytes is a sum: what a choice changes of it rests on the choice, on what stood in its place, and on the place alone.
use Rattle.ffv1_weave.proofs.Common.{◌≡◌, ℕ, ◌+◌, ◌/◌, ◌%◌, ◌<◌, ◌≤◌, List, [], ◌∷◌, ◌++◌, length, get_or, take, drop, map, Bor, refl, sym, ap, ◌∙◌, subst, arith, All, slice_range, bit_xor, xor_comm, xor_self, length-drop, length-map, get_or-map, take_more, length-take-le, split_between, length-between, All-map, All-weaker, xor_twice, AreSameChanges, all_kept, all_changed, changes_append, remainder_changes, right_leaves_none, element_changes, PassesBy, Part, ArePartsFrom, IsFit, chosen, written, remainder_in, change_of, changes_of, changed, Check, Slice, Element, Record, Flac, Split, values_of}
use Rattle.ffv1_weave.proofs.SplitSteps.{part_some}
use Rattle.ffv1_weave.proofs.References.{value_at, length-values_of}
use Rattle.ffv1_weave.proofs.Choices.{length-written, written_after, same_range, choice_of, choice_size, digit_below, fit_as, fit_head, fit_tail, fits_in}

-- ---- each check

pub passes_leaves_none : (check : Check) (bytes : List ℕ) → PassesBy check bytes → remainder_in check bytes ≡ 0
passes_leaves_none Slice bytes passes = passes.1.1
passes_leaves_none Element bytes passes = right_leaves_none bytes passes
passes_leaves_none Record bytes passes = passes.0.1
passes_leaves_none Flac bytes passes = refl

same_changes : (check : Check) (a b c d : List ℕ) → AreSameChanges a b c d
    → bit_xor (remainder_in check a) (remainder_in check b) ≡ bit_xor (remainder_in check c) (remainder_in check d)
same_changes Slice a b c d h = remainder_changes a b c d h
same_changes Element a b c d h = element_changes a b c d h
same_changes Record a b c d h = remainder_changes a b c d h
same_changes Flac a b c d h = refl

-- ---- what is left of bytes with a byte string written over them

-- bytes with a byte string written over them that stands there already
written_same : (bytes : List ℕ) (start : ℕ) (choice : List ℕ) → slice_range bytes start (start + length choice) ≡ choice → written bytes start choice ≡ bytes
written_same bytes start choice same = grind (arith, split_between)

-- such a byte string changes nothing
pub change_of_same : (check : Check) (bytes : List ℕ) (start : ℕ) (choice : List ℕ) → slice_range bytes start (start + length choice) ≡ choice
    → change_of check bytes start choice ≡ 0
change_of_same check bytes start choice same = cc (written_same bytes start choice same, xor_self (remainder_in check bytes))

-- What a byte string changes is the same in all bytes that are the same in its place.
change_alike : (a b : List ℕ) (start end : ℕ) (choice : List ℕ) → length a ≡ length b → start + length choice ≡ end → end ≤ length b
    → slice_range a start end ≡ slice_range b start end → AreSameChanges (written a start choice) a (written b start choice) b
change_alike a b start end choice long ends within same =
    let after : ℕ = start + length choice in
    let split_a : take start a ++ (slice_range a start end ++ drop (start + length choice) a) ≡ a = cc (split_between a start end (omega arith)) in
    let split_b : take start b ++ (slice_range b start end ++ drop (start + length choice) b) ≡ b = cc (split_between b start end (omega arith)) in
    let front : length (take start a) ≡ length (take start b) = length-take-le start a (omega arith) ∙ sym (length-take-le start b (omega arith)) in
    let back : length (drop after a) ≡ length (drop after b) = cc (length-drop (start + length choice) a, length-drop (start + length choice) b) in
    let middle : AreSameChanges choice (slice_range a start end) choice (slice_range b start end) = grind (arith, all_changed, length-between) in
    let whole = changes_append (take start a) (take start a) (take start b) (take start b) (choice ++ drop after a) (slice_range a start end ++ drop after a)
    (choice ++ drop after b) (slice_range b start end ++ drop after b) (all_kept (take start a) (take start b) front)
    (changes_append choice (slice_range a start end) choice (slice_range b start end) (drop after a) (drop after a) (drop after b) (drop after b) middle
    (all_kept (drop after a) (drop after b) back)) in
    subst (λ x. AreSameChanges (written a start choice) x (written b start choice) b) split_a
    (subst (λ y. AreSameChanges (written a start choice) (take start a ++ (slice_range a start end ++ drop (start + length choice) a)) (written b start choice) y)
    split_b whole)

-- ---- what is left of a combination

changed_by : (check : Check) (a b : List ℕ) (start end : ℕ) (choice : List ℕ) → length a ≡ length b → start + length choice ≡ end → end ≤ length b
    → slice_range a start end ≡ slice_range b start end
    → bit_xor (remainder_in check a) (change_of check b start choice) ≡ remainder_in check (written a start choice)
changed_by check a b start end choice long ends within same =
    ap (bit_xor (remainder_in check a))
    (sym (same_changes check (written a start choice) a (written b start choice) b (change_alike a b start end choice long ends within same)))
    ∙ xor_comm (remainder_in check a) (change_of check a start choice)
    ∙ xor_twice (remainder_in check (written a start choice)) (remainder_in check a)

module _ (check : Check) (split : Split) (versions : List (List ℕ)) (first : List ℕ) where
  pub changed_is : (from : ℕ) (parts : List Part) (code : ℕ) (bytes : List ℕ) → ArePartsFrom split versions from parts → All (IsFit (length bytes)) parts
      → length bytes ≡ length first → ((i : ℕ) → from ≤ i → get_or bytes i 0 ≡ get_or first i 0)
      → changed (map (changes_of check first) parts) code (remainder_in check bytes) ≡ remainder_in check (chosen parts code bytes)
  changed_is from [] code bytes are fit long same = refl
  changed_is from (part ∷ parts) code bytes are fit long same =
      let head = fit_head (length bytes) part parts fit in
      let n : ℕ = length part.choices in
      let digit = digit_below (length bytes) part head code in
      let choice : List ℕ = choice_of part (code % n) in
      let fits = fits_in (length bytes) part parts fit (code % n) digit in
      let ends = choice_size (length bytes) part head (code % n) digit in
      let beyond = are.0.beyond in
      let some = part_some split versions part.start part.end are.0.part in
      let within = head.within in
      let many : length (changes_of check first part) ≡ n = length-map part.choices (change_of check first part.start) in
      let entry : get_or (changes_of check first part) (code % n) 0 ≡ change_of check first part.start choice =
      get_or-map (change_of check first part.start) part.choices (code % n) [] 0 digit in
      let here : slice_range bytes part.start part.end ≡ slice_range first part.start part.end =
      same_range bytes first part.start part.end within (omega arith) (λ i low below. same i (omega arith)) in
      cc (
        changed_by check bytes first part.start part.end choice long ends (omega arith) here,
        changed_is part.end parts (code / n) (written bytes part.start choice) are.2 (fit_as (length (written bytes part.start choice)) (length bytes) parts (length-written bytes part.start choice fits) (fit_tail (length bytes) part parts fit)) (length-written bytes part.start choice fits ∙ long) (λ i low. written_after bytes part.start choice fits i (omega arith) ∙ same i (omega arith)),
      )

-- ---- the choices of a part, as the code has them

pub choice_there : (choices : List (Bor (List ℕ))) (part : Part) (i : ℕ) (d : Bor (List ℕ)) → values_of choices ≡ part.choices → i < length choices
    → (i < length part.choices) × ((get_or choices i d).now ≡ choice_of part i)
choice_there choices part i d is lt = grind (arith, length-values_of, value_at)

pub changes_more : (check : Check) (first : List ℕ) (part : Part) (i : ℕ) → i < length part.choices
    → take i (changes_of check first part) ++ change_of check first part.start (choice_of part i) ∷ [] ≡ take (i + 1) (changes_of check first part)
changes_more check first part i lt =
    ap (λ x. take i (changes_of check first part) ++ x ∷ []) (sym (get_or-map (change_of check first part.start) part.choices i [] 0 lt))
    ∙ sym (take_more (changes_of check first part) i 0 (omega (arith, length-map part.choices (change_of check first part.start))))

pub changes_some : (check : Check) (size : ℕ) (first : List ℕ) (parts : List Part) → All (IsFit size) parts
    → All (λ changes. 0 < length changes) (map (changes_of check first) parts)
changes_some check size first parts fit =
    All-map (λ changes. 0 < length changes) (changes_of check first) parts
    (All-weaker (IsFit size) (λ part. 0 < length (changes_of check first part))
    (λ part one. let some = one.some in omega (arith, length-map part.choices (change_of check first part.start))) parts fit)
