-- The lines of slices, and of one slice more.
use Rattle.std.proofs.Common.{◌≡◌, ◌+◌, ◌<◌, ◌≤◌, ℕ, suc, List, [], ◌∷◌, ◌++◌, length, get_or, take, sym, ap, ◌∙◌, append-nil, append_assoc, codes, arith}
use Rattle.std.proofs.lemmas.List.{take_more, length-take-le}
use Rattle.std.specs.Fmt.{decimal}
use Rattle.ffv1_player.specs.declared.samples.SliceEnd.{SliceEnd}
use Rattle.ffv1_player.specs.FrameLines.{unclean_line, slice_line, unclean_lines}

-- the fragments of a line, as they are written
pub unclean_line-fragments : (place spare : ℕ) → unclean_line place spare
    ≡ codes "slice " ++ (decimal place ++ (codes " unclean spare " ++ (decimal spare ++ codes "\n")))
unclean_line-fragments place spare = grouped (codes "slice ") (decimal place) (codes " unclean spare ") (decimal spare) (codes "\n")
  where
    grouped : (a b c d e : List ℕ) → a ++ b ++ c ++ d ++ e ≡ a ++ (b ++ (c ++ (d ++ e)))
    grouped a b c d e = append_assoc (a ++ b ++ c) d e ∙ append_assoc (a ++ b) c (d ++ e) ∙ append_assoc a b (c ++ (d ++ e))

unclean_lines-push : (place : ℕ) (ends : List SliceEnd) (end : SliceEnd)
    → unclean_lines place (ends ++ end ∷ []) ≡ unclean_lines place ends ++ slice_line (place + length ends) end
unclean_lines-push place [] end = append-nil (slice_line place end) ∙ ap (λ (n : ℕ). slice_line n end) (let e : place ≡ place + 0 = omega arith in e)
unclean_lines-push place (e ∷ es) end =
    ap (λ (lines : List ℕ). slice_line place e ++ lines)
    (unclean_lines-push (place + 1) es end
    ∙ ap (λ (n : ℕ). unclean_lines (place + 1) es ++ slice_line n end) (let e : place + 1 + length es ≡ place + suc (length es) = omega arith in e))
    ∙ sym (append_assoc (slice_line place e) (unclean_lines (place + 1) es) (slice_line (place + suc (length es)) end))

pub unclean_lines-more : (before : List ℕ) (ends : List SliceEnd) (place : ℕ) (d : SliceEnd) → place < length ends
    → (before ++ unclean_lines 0 (take place ends)) ++ slice_line place (get_or ends place d) ≡ before ++ unclean_lines 0 (take (place + 1) ends)
unclean_lines-more before ends place d lt =
    let end = get_or ends place d in
    let few : place ≤ length ends = omega arith in
    append_assoc before (unclean_lines 0 (take place ends)) (slice_line place end)
    ∙ ap (λ (lines : List ℕ). before ++ lines)
    (ap (λ (n : ℕ). unclean_lines 0 (take place ends) ++ slice_line n end) (let e : place ≡ 0 + length (take place ends) = omega (arith, length-take-le place ends few) in e)
    ∙ sym (unclean_lines-push 0 (take place ends) end) ∙ ap (unclean_lines 0) (sym (take_more ends place d lt)))
