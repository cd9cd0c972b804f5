-- Entries move up to make room, and new ones go among them, from the end.
use Rattle.std.proofs.Common.{◌≡◌, ℕ, ◌+◌, ◌-◌, ◌<◌, ◌≤◌, List, length, take, drop, get_or, set, sym, refl, ap, ◌∙◌, inl, inr, arith}
use Rattle.std.specs.List.{insert, CopiedTo, SameBelow, SameFrom}
use Rattle.std.specs.List.Sorted.{IsNonDecreasingBy}
use Rattle.std.proofs.lemmas.Bool.{cases_lt, cases_order}
use Rattle.std.proofs.lemmas.List.{same_lists, drop_more, get_or-take, get_or-drop, length-take-le, length-drop, get_or_default, length-set, get_or-set_same, get_or-set_other}
use Rattle.std.proofs.lemmas.List.Edits.{get_or-insert_at, get_or-insert_above}
use Rattle.ffv1_holding.specs.Inner.Fresh.{with_fresh}
use Rattle.ffv1_holding.specs.declared.fresh.Fresh.{Fresh}
use Rattle.ffv1_holding.proofs.Insertions.{length-with_inserted, get_or-with_inserted_below}

-- The new entries from `before` on are at their places, and the held ones from `left` on are moved up to make room for the others.
pub record IsInterleaving {X : Type 0} (old : List X) (held : ℕ) (fresh : List (Fresh X)) (before left : ℕ) (now : List X) : Type 0 where
  pub long : length now ≡ held + length fresh
  pub few : before ≤ length fresh
  pub within : left ≤ held
  pub places : (j : ℕ) (d : Fresh X) → j < before → (get_or fresh j d).place ≤ left
  pub later : (j : ℕ) (d : Fresh X) → before ≤ j → j < length fresh → left ≤ (get_or fresh j d).place
  pub low : (i : ℕ) (d : X) → i < left → get_or now i d ≡ get_or old i d
  pub high : (i : ℕ) (d : X) → left ≤ i → i < held + (length fresh - before)
      → get_or now (i + before) d ≡ get_or (with_fresh (drop before fresh) (take held old)) i d

module _ {X : Type 0} (old : List X) (held : ℕ) (fresh : List (Fresh X)) (room : length old ≡ held + length fresh)
    (all : (j : ℕ) (d : Fresh X) → j < length fresh → (get_or fresh j d).place ≤ held) where
  base_long : length (take held old) ≡ held
  base_long = length-take-le held old (omega arith)

  rest_within : (before : ℕ) (j : ℕ) (d : Fresh X) → j < length (drop before fresh) → (get_or (drop before fresh) j d).place ≤ length (take held old)
  rest_within before j d lt =
      let long = base_long in
      let rest = length-drop before fresh in
      rw (get_or-drop before fresh j d) (let le = all (before + j) d (omega arith) in omega arith)

  interleaved_long : (before : ℕ) → length (with_fresh (drop before fresh) (take held old)) ≡ held + (length fresh - before)
  interleaved_long before =
      let long = base_long in
      let rest = length-drop before fresh in
      omega (arith, length-with_inserted (λ (f : Fresh X). f.place) (λ f. f.item) (drop before fresh) (take held old) (rest_within before))

  -- what is left of the held entries is at the front of the merged ones
  interleaved_low : (before left : ℕ) → left ≤ held → ((j : ℕ) (d : Fresh X) → before ≤ j → j < length fresh → left ≤ (get_or fresh j d).place)
      → (i : ℕ) (d : X) → i < left → get_or (with_fresh (drop before fresh) (take held old)) i d ≡ get_or old i d
  interleaved_low before left le later i d lt =
      let rest = length-drop before fresh in
      get_or-with_inserted_below (λ (f : Fresh X). f.place) (λ f. f.item) (drop before fresh) (take held old) left i d (rest_within before)
      (λ j e in_range. rw (get_or-drop before fresh j e) (later (before + j) e (omega arith) (omega arith))) lt
      ∙ get_or-take held old i d (omega arith)

  pub interleaving_starts : IsInterleaving old held fresh (length fresh) held old
  interleaving_starts = record {
    long = room;
    few = omega arith;
    within = omega arith;
    places = all;
    later = λ j d ge lt. absurd (omega arith);
    low = λ i d lt. refl;
    high = λ i d ge lt. absurd (omega arith);
  }

  pub interleaving_ends : (left : ℕ) (now : List X) → IsInterleaving old held fresh 0 left now → now ≡ with_fresh fresh (take held old)
  interleaving_ends left now is =
      let long = interleaved_long 0 in
      same_lists now (with_fresh fresh (take held old)) (omega (arith, is.long))
      (λ i d lt. elim (cases_lt i left) [
        | inl under ↦ is.low i d under ∙ sym (interleaved_low 0 left is.within is.later i d under)
        | inr over ↦ ap (λ n. get_or now n d) {x = i} {y = i + 0} (omega arith) ∙ is.high i d over (omega (arith, is.long))
      ])

  module _ (rise : IsNonDecreasingBy (λ (f : Fresh X). f.place) fresh) (before left : ℕ) (now copied : List X) (g : Fresh X)
      (is : IsInterleaving old held fresh (before + 1) left now) (long : length copied ≡ length now)
      (moved : CopiedTo now copied (get_or fresh before g).place ((get_or fresh before g).place + before + 1) (left - (get_or fresh before g).place)
      × SameBelow now copied ((get_or fresh before g).place + before + 1)
      × SameFrom now copied ((get_or fresh before g).place + before + 1 + (left - (get_or fresh before g).place))) where
    abbrev place : ℕ
    place = (get_or fresh before g).place

    abbrev entry : X
    entry = (get_or fresh before g).item

    pub place_fits : (get_or fresh before g).place + before < length copied
    place_fits = omega (arith, is.places before g (omega arith), is.within, is.few, is.long)

    rest_is : with_fresh (drop before fresh) (take held old) ≡ insert (with_fresh (drop (before + 1) fresh) (take held old)) place entry
    rest_is = ap (λ fs. with_fresh fs (take held old)) (drop_more fresh before g (omega (arith, is.few)))

    step_high : (i : ℕ) (d : X) → place ≤ i → i < held + (length fresh - before)
        → get_or (set copied (place + before) entry) (i + before) d ≡ get_or (with_fresh (drop before fresh) (take held old)) i d
    step_high i d ge lt =
        let rest = with_fresh (drop (before + 1) fresh) (take held old) in
        let fits = place_fits in
        let size = interleaved_long (before + 1) in
        let few = is.few in
        let below = is.places before g (omega arith) in
        let le : place ≤ length rest = omega (arith, is.within) in
        rw rest_is (elim (cases_order i place) [
          | inl same ↦ rw (same, get_or-set_same copied (place + before) entry d fits, get_or-insert_at rest place entry d le) refl
          | inr (inl under) ↦ absurd (omega arith)
          | inr (inr over) ↦
              let k = i - 1 in
              get_or-set_other copied (place + before) (i + before) entry d (λ e. omega arith)
              ∙ ap (λ n. get_or copied n d) {x = i + before} {y = k + (before + 1)} (omega arith)
              ∙ elim (cases_lt k left) [
                | inl k_under ↦
                    moved.0 (k + (before + 1)) d (omega arith) (omega arith)
                    ∙ ap (λ n. get_or now n d) {x = place + (k + (before + 1) - (place + before + 1))} {y = k} (omega arith)
                    ∙ is.low k d k_under ∙ sym (interleaved_low (before + 1) left is.within is.later k d k_under)
                | inr k_over ↦ moved.2 (k + (before + 1)) d (omega arith) ∙ is.high k d k_over (omega arith)
              ]
              ∙ sym (get_or-insert_above rest place entry d k (omega arith) le)
              ∙ ap (λ n. get_or (insert rest place entry) n d) {x = k + 1} {y = i} (omega arith)
        ])

    pub interleaving_goes : IsInterleaving old held fresh before place (set copied (place + before) entry)
    interleaving_goes = record {
      long = length-set copied (place + before) entry ∙ long ∙ is.long;
      few = omega (arith, is.few);
      within = omega (arith, is.places before g (omega arith), is.within);
      places = λ j d lt.
          let le = rise j before d (omega arith) (omega (arith, is.few)) in
          let same = ap (λ (f : Fresh X). f.place) (get_or_default fresh before d g (omega (arith, is.few))) in
          omega arith;
      later = λ j d ge lt.
          let le = rise before j d ge lt in
          let same = ap (λ (f : Fresh X). f.place) (get_or_default fresh before d g (omega (arith, is.few))) in
          omega arith;
      low = λ i d lt.
          get_or-set_other copied (place + before) i entry d (λ e. omega arith) ∙ moved.1 i d (omega arith)
          ∙ is.low i d (omega (arith, is.places before g (omega arith)));
      high = step_high;
    }
