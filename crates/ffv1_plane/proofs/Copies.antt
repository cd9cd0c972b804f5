-- A run of copies: where the sample to the left is the one above it to the left, the one above is predicted, and so again
-- after it.
use Rattle.std.proofs.Common.{◌≡◌, ℕ, zero, suc, ◌+◌, ◌-◌, ◌<◌, ◌≤◌, List, length, take, drop, get_or, set, refl, sym, ap, ◌∙◌, subst, arith, get_or-set_same, Vec, Global}
use Rattle.std.proofs.Math.Seq.{paste, paste-zero, paste-suc}
use Rattle.std.proofs.lemmas.List.{with_items_is, get_or-take, get_or-drop, length-take, length-take-le, length-drop}
use Rattle.std.proofs.lemmas.List.Edits.{length-paste}
use Rattle.std.proofs.lemmas.Slice.{put_mid-paste}
use Rattle.std.specs.Prelude.{min}
use Rattle.std.specs.Vec.{with_items}
use borrow.Rule.Slice.PartMut.{put_mid}
use Rattle.ffv1_rice.specs.States.{IsCodedDepth}
use Rattle.ffv1_plane.specs.Samples.{SamplesAbout, prediction_of, neighbours_at, Coding}
use Rattle.ffv1_plane.specs.Inner.Rows.{IsLeftAsAbove, AreNearLines, samples_so_far, RowsRead}
use Rattle.ffv1_plane.specs.Inner.Progress.{AreSkipped}
use Rattle.ffv1_plane.proofs.Halting.{prediction_small}
use Rattle.ffv1_plane.proofs.Reading.{none_skipped, skip_more}
use Rattle.ffv1_plane.proofs.Rows.{near_is, push_is, pushed}

top_predicted : (near : SamplesAbout) → near.left ≡ near.top_left → prediction_of near ≡ near.top
unfolding prediction_of
top_predicted near same = omega (arith, same)

-- The row has n copies more, `new` in place of `line`: they are skipped, and the one above is predicted after them too.
pub record AreCopied (depth w x : ℕ) (rows line above far new : List ℕ) (n : ℕ) : Type 0 where
  pub lines : AreNearLines depth w (x + n) rows new above far
  pub skipped : (coding : Coding) → IsCodedDepth coding.depth → AreSkipped w coding (samples_so_far x rows line) (samples_so_far (x + n) rows new) n
  pub same : get_or new (x + n + 1) 0 ≡ get_or above (x + n + 1) 0

-- cells of two lines of one length, from one place on, are of one length
pub cells_alike : (k n : ℕ) (a b : List ℕ) → length a ≡ length b → length (take k (drop n a)) ≡ length (take k (drop n b))
cells_alike k n a b same = simp (length-take, length-drop) (ap (λ m. min k (m - n)) same)

-- ---- one copy after the other

module _ (depth w x : ℕ) (rows line above far cells : List ℕ) (h : AreNearLines depth w x rows line above far) (inside : x + length cells ≤ w)
    (are_above : (i : ℕ) → i < length cells → get_or cells i 0 ≡ get_or above (x + 2 + i) 0)
    (same : get_or line (x + 1) 0 ≡ get_or above (x + 1) 0) where
  -- the row with its first n copies
  abbrev copied : ℕ → List ℕ
  copied n = paste line (x + 2) cells n

  none_copied : AreCopied depth w x rows line above far (copied 0) 0
  none_copied =
      let here : x ≡ x + 0 = omega arith in
      let old = samples_so_far x rows line in
      subst (λ (l : List ℕ). AreCopied depth w x rows line above far l 0) (paste-zero line (x + 2) cells) (record {
        lines = subst (λ (k : ℕ). AreNearLines depth w k rows line above far) here h;
        skipped = λ coding deep. subst (λ (k : ℕ). AreSkipped w coding old (samples_so_far k rows line) 0) here (none_skipped w coding old);
        same = ap (λ k. get_or line (k + 1) 0) (sym here) ∙ same ∙ ap (λ k. get_or above (k + 1) 0) here;
      })

  one_more : (n : ℕ) → n < length cells → AreCopied depth w x rows line above far (copied n) n → AreCopied depth w x rows line above far (copied (suc n)) (suc n)
  one_more n less so_far =
      let v = get_or cells n 0 in
      let lines = so_far.lines in
      let long = lines.line_long in
      let some = h.some in
      let room : x + n < w = omega arith in
      let old = samples_so_far x rows line in
      let mid = samples_so_far (x + n) rows (copied n) in
      let near = neighbours_at w mid (length mid) in
      let cells_are = near_is depth w (x + n) rows (copied n) above far lines room in
      let level : near.left ≡ near.top_left = sym (ap (λ s. s.left) cells_are) ∙ so_far.same ∙ ap (λ s. s.top_left) cells_are in
      let place : x + 2 + n ≡ x + n + 2 = omega arith in
      let top : v ≡ get_or above (x + n + 2) 0 = are_above n less ∙ ap (λ i. get_or above i 0) place in
      let predicted : v ≡ prediction_of near = top ∙ ap (λ s. s.top) cells_are ∙ sym (top_predicted near level) in
      let small = prediction_small depth w (length mid) mid lines.small in
      let new = set (copied n) (x + n + 2) v in
      let further : set (copied n) (x + n + 2) v ≡ copied (suc n) =
      ap (λ i. set (copied n) i v) (sym place) ∙ paste-suc line (x + 2) cells n 0 (omega arith) less in
      let more : x + n + 1 ≡ x + (n + 1) = omega arith in
      let next : x + (n + 1) + 1 ≡ x + n + 2 = omega arith in
      let count : n + 1 ≡ suc n = omega arith in
      let one : AreCopied depth w x rows line above far new (n + 1) = record {
        lines = subst (λ (k : ℕ). AreNearLines depth w k rows new above far) more
            (pushed depth w (x + n) rows (copied n) above far v lines room (omega (arith, predicted, small)));
        skipped = λ coding deep. skip_more w coding old mid _ n v near some deep (so_far.skipped coding deep) refl predicted
            (ap (λ k. samples_so_far k rows new) (sym more) ∙ push_is depth w (x + n) rows (copied n) above far v lines room);
        same = ap (λ i. get_or new i 0) next ∙ get_or-set_same (copied n) (x + n + 2) v 0 (omega (arith, long)) ∙ top ∙ ap (λ i. get_or above i 0) (sym next);
      } in
      subst (λ (k : ℕ). AreCopied depth w x rows line above far (copied (suc n)) k) count
      (subst (λ (l : List ℕ). AreCopied depth w x rows line above far l (n + 1)) further one)

  all_copied : (n : ℕ) → n ≤ length cells → AreCopied depth w x rows line above far (copied n) n
  all_copied zero least = none_copied
  all_copied (suc n) least = one_more n (omega arith) (all_copied n (omega arith))

-- ---- all copies at once

-- where the sample to the left is the one above it to the left
run_copied : (depth w x n : ℕ) (rows line above far : List ℕ) → AreNearLines depth w x rows line above far → 1 ≤ n → x + n ≤ w
    → IsLeftAsAbove (record { depth = depth; width = w; x = x; samples = samples_so_far x rows line })
    → AreCopied depth w x rows line above far (paste line (x + 2) (take n (drop (x + 2) above)) n) n
run_copied depth w x n rows line above far h some inside level =
    let near = near_is depth w x rows line above far h (omega arith) in
    let long = h.above_long in
    let cells = take n (drop (x + 2) above) in
    let count : length (take n (drop (x + 2) above)) ≡ n = length-take-le n (drop (x + 2) above) (omega (arith, length-drop (x + 2) above)) in
    all_copied depth w x rows line above far cells h (omega arith)
    (λ i less. get_or-take n (drop (x + 2) above) i 0 (omega arith) ∙ get_or-drop (x + 2) above i 0)
    (ap (λ s. s.left) near ∙ level ∙ sym (ap (λ s. s.top_left) near))
    n (omega arith)

-- the same, as the code has it: `written` is copied to the cells of `line` from x + 2 on, which were lent as `lent`, from those of `source`
abbrev pub with_cells : Vec ℕ Global → ℕ → ℕ → List ℕ → List ℕ → Vec ℕ Global
with_cells line x n lent written = with_items line (put_mid (x + 2) (x + 2 + n - (x + 2)) lent written)

pub row_copied : (depth w x n : ℕ) (rows far : List ℕ) (line : Vec ℕ Global) (above source lent written : List ℕ) → AreNearLines depth w x rows line.items above far
    → 1 ≤ n → x + n ≤ w → (seen : RowsRead) → record { depth = depth; width = w; x = x; samples = samples_so_far x rows line.items } ≡ seen → IsLeftAsAbove seen
    → lent ≡ line.items → source ≡ above → written ≡ take (x + 2 + n - (x + 2)) (drop (x + 2) source)
    → AreCopied depth w x rows line.items above far (with_cells line x n lent written).items n
row_copied depth w x n rows far line above source lent written h some inside seen seen_is level lent_is source_is written_is =
    let long = h.line_long in
    let above_long = h.above_long in
    let cells = take n (drop (x + 2) above) in
    let whole = put_mid (x + 2) (x + 2 + n - (x + 2)) lent written in
    let span : x + 2 + n - (x + 2) ≡ n = omega arith in
    let count : n ≡ length (take n (drop (x + 2) above)) = sym (length-take-le n (drop (x + 2) above) (omega (arith, length-drop (x + 2) above))) in
    let cells_are : written ≡ cells = written_is ∙ ap (λ k. take k (drop (x + 2) source)) span ∙ ap (λ l. take n (drop (x + 2) l)) source_is in
    let pasted : whole ≡ paste line.items (x + 2) cells n =
    put_mid-paste (x + 2) (x + 2 + n - (x + 2)) lent written cells n cells_are (sym span) count ∙ ap (λ l. paste l (x + 2) cells n) lent_is in
    let same_length : length whole ≡ line.len = ap length pasted ∙ length-paste line.items (x + 2) cells n (omega arith) (omega arith) ∙ sym line.ok.0 in
    subst (λ (l : List ℕ). AreCopied depth w x rows line.items above far l n) (sym (with_items_is line whole same_length ∙ pasted))
    (run_copied depth w x n rows line.items above far h some inside (subst IsLeftAsAbove (sym seen_is) level))
