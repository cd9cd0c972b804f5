-- How many runs have ended at an entry.
use Rattle.std.proofs.Common.{◌≡◌, ℕ, suc, zero, ◌+◌, ◌*◌, ◌<◌, ◌≤◌, Bool, true, false, List, [], ◌∷◌, length, take, refl, sym, ap, ◌∙◌, arith, subst, add-one, get_or, inl, inr}
use Rattle.std.specs.Prelude.{nat_le, sum, slice_index, if◌then◌else◌}
use Rattle.std.proofs.lemmas.Bool.{le-leb, lt-leb, cases_lt}
use Rattle.std.proofs.lemmas.List.Sums.{sum_by-cons, sum_by_more}
use Rattle.std.proofs.lemmas.List.{take_all}
use Rattle.std.proofs.lemmas.List.FromFn.{fill_by_all}
use Rattle.ffv1_range.specs.Tables.{runs_ended, half_of}

runs_ended-cons : (from len : ℕ) (runs : List ℕ) (k : ℕ) (b : Bool) → nat_le (from + len) k ≡ b
    → runs_ended from (len ∷ runs) k ≡ (if b then 1 else 0) + runs_ended (from + len) runs k
runs_ended-cons from len runs k b e = ap (λ z. (if z then 1 else 0) + runs_ended (from + len) runs k) e

runs_ended-before : (from : ℕ) (runs : List ℕ) (k : ℕ) → k < from → runs_ended from runs k ≡ 0
runs_ended-before from [] k h = refl
runs_ended-before from (len ∷ runs) k h =
    let later : runs_ended (from + len) runs k ≡ 0 = runs_ended-before (from + len) runs k (omega arith) in
    runs_ended-cons from len runs k false (lt-leb (from + len) k (omega arith)) ∙ omega arith

-- in run i, i runs have ended
pub runs_ended-within : (from : ℕ) (runs : List ℕ) (i k : ℕ) → i < length runs → from + sum (take i runs) ≤ k → k < from + sum (take (suc i) runs)
    → runs_ended from runs k ≡ i
runs_ended-within from [] i k h l m = absurd (omega arith)
runs_ended-within from (len ∷ runs) zero k h l m =
    let one : sum (len ∷ []) ≡ len + 0 = sum_by-cons (λ x. x) len [] in
    let none : runs_ended (from + len) runs k ≡ 0 = runs_ended-before (from + len) runs k (omega arith) in
    runs_ended-cons from len runs k false (lt-leb (from + len) k (omega arith)) ∙ omega arith
runs_ended-within from (len ∷ runs) (suc i) k h l m =
    let first : sum (len ∷ take i runs) ≡ len + sum (take i runs) = sum_by-cons (λ x. x) len (take i runs) in
    let second : sum (len ∷ take (suc i) runs) ≡ len + sum (take (suc i) runs) = sum_by-cons (λ x. x) len (take (suc i) runs) in
    let within : runs_ended (from + len) runs k ≡ i = runs_ended-within (from + len) runs i k (omega arith) (omega arith) (omega arith) in
    runs_ended-cons from len runs k true (le-leb (from + len) k (omega arith)) ∙ omega arith

-- the entries of one more run
pub half_more : (scale : ℕ) (runs items old new : List ℕ) (i begin len : ℕ) → items ≡ runs → i < length items → begin ≡ sum (take i runs)
    → len ≡ get_or items i 0
    → ((k : ℕ) → k < begin → slice_index old k ≡ scale * runs_ended 0 runs k)
    → ((k : ℕ) → begin ≤ k → k < begin + len → slice_index new k ≡ scale * i)
    → ((k : ℕ) → k < begin → slice_index new k ≡ slice_index old k)
    → record { from : begin + len ≡ sum (take (i + 1) runs); filled : (k : ℕ) → k < begin + len → slice_index new k ≡ scale * runs_ended 0 runs k }
half_more scale runs items old new i begin len same h start e below here kept =
    let inside : i < length runs = subst (λ z. i < length z) same h in
    let size : len ≡ get_or runs i 0 = subst (λ z. len ≡ get_or z i 0) same e in
    let more : sum (take (i + 1) runs) ≡ sum (take i runs) + get_or runs i 0 = sum_by_more (λ x. x) runs i 0 inside in
    let end : begin + len ≡ sum (take (suc i) runs) = subst (λ z. begin + len ≡ sum (take z runs)) (add-one i) (omega arith) in
    record {
      from = omega arith;
      filled = λ k l. elim (cases_lt k begin) [
        | inl before ↦ kept k before ∙ below k before
        | inr after ↦ here k after l ∙ ap (λ z. scale * z) (sym (runs_ended-within 0 runs i k inside (omega arith) (omega arith)))
      ];
    }

-- all entries, once all runs have ended
pub half_all : (scale : ℕ) (runs half : List ℕ) (i begin : ℕ) → length half ≡ 128 → length runs ≤ i → sum runs ≡ 128 → begin ≡ sum (take i runs)
    → ((k : ℕ) → k < begin → slice_index half k ≡ scale * runs_ended 0 runs k) → half ≡ half_of scale runs
half_all scale runs half i begin size over whole start filled =
    let end : begin ≡ 128 = start ∙ ap sum (take_all i runs over) ∙ whole in
    fill_by_all (λ k. scale * runs_ended 0 runs k) half 128 0 size (λ k h. filled k (omega arith))
