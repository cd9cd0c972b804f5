-- Bits at several rows of states.
use Rattle.std.proofs.Common.{◌≡◌, ◌≢◌, ℕ, suc, ◌+◌, Bool, List, [], ◌∷◌, ◌++◌, length, refl, sym, ap, ◌∙◌, subst, arith}
use Rattle.std.specs.Prelude.{if◌then◌else◌}
use Rattle.std.proofs.lemmas.Bool.{eq-eqb, ne_eqb}
use Rattle.ffv1_range.specs.Coding.{Mode, Coder, PlaceOf, Place, IsRangeRun}
use Rattle.ffv1_range.specs.Rows.{Rows, with_row, RowBits, IsRowsRun}
use Rattle.ffv1_range.specs.Setup.{table_row_bits, fields_bits, run_fields}
use Rattle.ffv1_range.proofs.Forms.{place_of}

pub rows_append : (mode : Mode) (xs ys : List RowBits) (p m q : PlaceOf Rows) → IsRowsRun mode p xs m → IsRowsRun mode m ys q
    → IsRowsRun mode p (xs ++ ys) q
unfolding IsRowsRun
rows_append mode [] ys p m q h k = subst (λ z. IsRowsRun mode z ys q) (sym h) k
rows_append mode (x ∷ xs) ys p m q h k = (
  h.0,
  h.1,
  rows_append mode xs ys
      (record { coder = h.0.coder; states = with_row p.states x.0 h.0.states }) m q h.2 k,
)

pub rows_split : (mode : Mode) (xs ys : List RowBits) (p q : PlaceOf Rows) → IsRowsRun mode p (xs ++ ys) q → (m : PlaceOf Rows) × IsRowsRun mode p xs m
    × IsRowsRun mode m ys q
unfolding IsRowsRun
rows_split mode [] ys p q h = (p, refl, h)
rows_split mode (x ∷ xs) ys p q h =
    let r = rows_split mode xs ys (record { coder = h.0.coder; states = with_row p.states x.0 h.0.states }) q h.2 in (r.0, (h.0, h.1, r.1), r.2)

pub with_row-same : (rows : Rows) (number : ℕ) (row : List ℕ) → with_row rows number row number ≡ row
with_row-same rows number row = ap (λ b. if b then row else rows number) (eq-eqb number number refl)

pub with_row-other : (rows : Rows) (number k : ℕ) (row : List ℕ) → k ≢ number → with_row rows number row k ≡ rows k
with_row-other rows number k row h = ap (λ b. if b then row else rows k) (ne_eqb k number h)

-- the bits at one row of states
pub one_row_bits : (mode : Mode) (c : Coder) (rows : Rows) (number : ℕ) (row : List ℕ) (bits : List (ℕ × Bool)) (q : Place) → rows number ≡ row
    → IsRangeRun mode (place_of c row) bits q → IsRowsRun mode (place_of c rows) ((number, bits) ∷ []) (place_of q.coder (with_row rows number q.states))
unfolding IsRowsRun
one_row_bits mode c rows number row bits q e h = (q, subst (λ z. IsRangeRun mode (place_of c z) bits q) (sym e) h, refl)

-- the bits of more tables, at the row of each
pub table_row_bits-append : (n : ℕ) (xs ys : List (List ℕ)) → table_row_bits n (xs ++ ys) ≡ table_row_bits n xs ++ table_row_bits (n + length xs) ys
unfolding table_row_bits
table_row_bits-append n [] ys = let e : n ≡ n + 0 = omega arith in ap (λ z. table_row_bits z ys) e
table_row_bits-append n (x ∷ xs) ys =
    let next : n + 1 + length xs ≡ n + suc (length xs) = omega arith in
    ap (λ z. (33 + n, fields_bits (run_fields x)) ∷ z) (table_row_bits-append (n + 1) xs ys ∙ ap (λ z. table_row_bits (n + 1) xs ++ table_row_bits z ys) next)
