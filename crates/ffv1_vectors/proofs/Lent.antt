-- Bytes of a vector that are lent and written.
use Rattle.std.proofs.Common.{◌≡◌, ℕ, List, [], ◌++◌, length, take, drop, ap, sym, ◌∙◌, arith}
use Rattle.std.proofs.lemmas.List.{append-nil, drop_all, take_all}

-- what is written through a vector's slice is what the vector has
pub put_back : (len : ℕ) (new items : List ℕ) → len ≡ length items → length new ≡ length items → take len (new ++ drop (length new) items) ≡ new
put_back len new items long same =
    let none : drop (length new) items ≡ [] = ap (λ k. drop k items) same ∙ drop_all (length items) items (omega arith) in
    ap (λ rest. take len (new ++ rest)) none ∙ ap (take len) (append-nil new) ∙ ap (λ k. take k new) (long ∙ sym same)
    ∙ take_all (length new) new (omega arith)
