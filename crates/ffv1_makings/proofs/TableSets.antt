-- Tables and sets compared run by run, table by table and set by set.
use Rattle.std.proofs.Common.{◌≡◌, ℕ, suc, zero, ◌+◌, ◌*◌, ◌<◌, ◌≤◌, List, [], ◌∷◌, ◌++◌, length, get_or, take, refl, sym, ap, ◌∙◌, subst, arith}
use Rattle.std.specs.Prelude.{slice_index, sum}
use Rattle.std.specs.List.{All}
use Rattle.std.proofs.lemmas.List.{take_more}
use Rattle.std.proofs.lemmas.List.Elements.{All-append, All-from_get_or}
use Rattle.std.proofs.lemmas.List.FromFn.{get_or-map-range_with_len, length-map-range_with_len}
use Rattle.std.proofs.lemmas.List.Sums.{sum_by_push}
use Rattle.ffv1_range.specs.Tables.{AreScalesSmall, runs_ended, half_of, halves_of, scale_after, scale_after_all}

-- ---- the runs of a table

pub sum_more : (runs : List ℕ) (i : ℕ) → i < length runs → sum (take (i + 1) runs) ≡ sum (take i runs) + get_or runs i 0
sum_more runs i h = ap sum (take_more runs i 0 h) ∙ sum_by_push (λ x. x) (take i runs) (get_or runs i 0)

pub All-more : {X : Type 0} (P : X → Type 0) (xs : List X) (i : ℕ) (d : X) → i < length xs → All P (take i xs) → P (get_or xs i d) → All P (take (i + 1) xs)
All-more P xs i d h before one =
    subst (All P) (sym (take_more xs i d h)) (All-append P (take i xs) (get_or xs i d ∷ []) before (All-from_get_or P (get_or xs i d ∷ []) d (λ k lt. first P (get_or xs i d) d k lt one)))
  where
    first : {X : Type 0} (P : X → Type 0) (x d : X) (k : ℕ) → k < 1 → P x → P (get_or (x ∷ []) k d)
    first P x d zero lt p = p
    first P x d (suc k) lt p = absurd (omega arith)

-- ---- the tables of a set

scale_after_all-push : (scale : ℕ) (tables : List (List ℕ)) (runs : List ℕ)
    → scale_after_all scale (tables ++ runs ∷ []) ≡ scale_after (scale_after_all scale tables) runs
scale_after_all-push scale [] runs = refl
scale_after_all-push scale (table ∷ tables) runs = scale_after_all-push (scale_after scale table) tables runs

pub scale_more : (tables : List (List ℕ)) (i : ℕ) → i < length tables
    → scale_after_all 1 (take (i + 1) tables) ≡ scale_after (scale_after_all 1 (take i tables)) (get_or tables i [])
scale_more tables i h = ap (scale_after_all 1) (take_more tables i [] h) ∙ scale_after_all-push 1 (take i tables) (get_or tables i [])

AreScalesSmall-push : (scale : ℕ) (tables : List (List ℕ)) (runs : List ℕ) → AreScalesSmall scale tables
    → scale_after (scale_after_all scale tables) runs ≤ 65535 → AreScalesSmall scale (tables ++ runs ∷ [])
AreScalesSmall-push scale [] runs h small = (small, tt)
AreScalesSmall-push scale (table ∷ tables) runs h small = (h.0, AreScalesSmall-push (scale_after scale table) tables runs h.1 small)

pub scales_more : (tables : List (List ℕ)) (i : ℕ) → i < length tables → AreScalesSmall 1 (take i tables)
    → scale_after_all 1 (take (i + 1) tables) ≤ 65535 → AreScalesSmall 1 (take (i + 1) tables)
scales_more tables i h before small =
    subst (AreScalesSmall 1) (sym (take_more tables i [] h))
    (AreScalesSmall-push 1 (take i tables) (get_or tables i []) before (subst (λ n. n ≤ 65535) (scale_more tables i h) small))

pub half_at : (scale : ℕ) (tables : List (List ℕ)) (i : ℕ) → i < length tables
    → get_or (halves_of scale tables) i [] ≡ half_of (scale_after_all scale (take i tables)) (get_or tables i [])
half_at scale [] i h = absurd (omega arith)
half_at scale (runs ∷ tables) zero h = refl
half_at scale (runs ∷ tables) (suc i) h = half_at (scale_after scale runs) tables i (omega arith)

pub length-halves_of : (scale : ℕ) (tables : List (List ℕ)) → length (halves_of scale tables) ≡ length tables
length-halves_of scale [] = refl
length-halves_of scale (runs ∷ tables) = ap suc (length-halves_of (scale_after scale runs) tables)

length-half : (scale : ℕ) (runs : List ℕ) → length (half_of scale runs) ≡ 128
length-half scale runs = length-map-range_with_len (λ k. scale * runs_ended 0 runs k) 0 128

pub length-half_at : (tables : List (List ℕ)) (table : ℕ) → table < length tables → length (get_or (halves_of 1 tables) table []) ≡ 128
length-half_at tables table h = ap length (half_at 1 tables table h) ∙ length-half (scale_after_all 1 (take table tables)) (get_or tables table [])

pub half_entry-is : (scale : ℕ) (runs : List ℕ) (k : ℕ) → k < 128 → slice_index (half_of scale runs) k ≡ scale * runs_ended 0 runs k
half_entry-is scale runs k h = get_or-map-range_with_len (λ j. scale * runs_ended 0 runs j) 0 128 k k 0 h (omega arith)
