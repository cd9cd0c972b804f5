use Rattle.std.proofs.Common.{◌≡◌, ◌<◌, ◌≤◌, ◌+◌, ◌≢◌, ℕ, ℤ, Bool, true, false, List, [], pos, length, ap, ◌∙◌, sym, arith, ⊎_elim, get_or, set, get_or-set_other, get_or-set_same}
use Rattle.std.proofs.lemmas.Bool.{cases_lt}
use Rattle.std.proofs.lemmas.List.{length-set}
use Rattle.ffv1_range.specs.Setup.{set_entry}
use Rattle.ffv1_plane.proofs.tables.Tables.of.Goals as goal
use Rattle.ffv1_plane.proofs.tables.Tables.of.Goals.{then-is_zero, else-is_zero}

-- one table more is kept
one_more : (tables : List (List ℤ)) (row : List ℤ) (entry : ℕ → ℕ → ℤ) (n : ℕ) → n < length tables
    → ((t : ℕ) → t < n → (k : ℕ) → k < 256 → get_or (get_or tables t []) k (pos 0) ≡ entry t k)
    → ((k : ℕ) → k < 256 → get_or row k (pos 0) ≡ entry n k)
    → (t : ℕ) → t < n + 1 → (k : ℕ) → k < 256 → get_or (get_or (set tables n row) t []) k (pos 0) ≡ entry t k
one_more tables row entry n there before here t less k inside = ⊎_elim
    (λ earlier.
    let other : t ≢ n = omega arith in
    ap (λ l. get_or l k (pos 0)) (get_or-set_other tables n t row [] other) ∙ before t earlier k inside)
    (λ last.
    let is : t ≡ n = omega arith in
    let same : get_or (set tables n row) t [] ≡ row = ap (λ i. get_or (set tables n row) i []) is ∙ get_or-set_same tables n row [] there in
    ap (λ l. get_or l k (pos 0)) same ∙ here k inside ∙ ap (λ i. entry i k) (sym is))
    (cases_lt t n)

among_five : (t n : ℕ) → t < 5 → 5 ≤ n → t < n
among_five t n less all = omega arith

not_both : {P : Type 0} (b : Bool) → b ≡ false → b ≡ true → P
not_both b h k = absurd cc

pub loop-table-preserved : goal.loop-table-preserved
loop-table-preserved c = record {
  long = length-set c.loop-table.entries c.loop-table.table c.table_of.result ∙ c.loop-table.invariant.long;
  kept =
      one_more c.loop-table.entries c.table_of.result (set_entry c.args.recording.now.setup c.args.set) c.loop-table.table
      (omega (arith, c.loop-table.invariant.long, c.loop-table-test.true)) c.loop-table.invariant.kept c.table_of.ensures;
}

pub invariant_of-result : goal.invariant_of-result
invariant_of-result c =
    let all : 5 ≤ c.loop-table.table = c.loop-table-test.false in
    record {
      contexts = c.keeps_version_3.ensures.contexts;
      there = c.requires;
      are_entries = λ table k few less. c.loop-table.invariant.kept table (among_five table _ few all) k less;
      near = λ is k inside. elim c.if-is_zero.branch [
        | then-is_zero w ↦
            let fourth : w.is_zero-is_near.result ≡ true = sym w.is_near-is ∙ is in (
              sym (c.loop-table.invariant.kept 3 (among_five 3 _ (omega arith) all) k inside) ∙ c.is_zero.ensures w.if-is_zero.true k,
              sym (c.loop-table.invariant.kept 4 (among_five 4 _ (omega arith) all) k inside) ∙ w.is_zero-is_near.ensures fourth k,
            )
        | else-is_zero w ↦ not_both _ (w.is_near-is ∙ w.if-is_zero.false) is
      ];
    }
