-- The bits of the first samples of a row.
use Rattle.std.proofs.Common.{◌≡◌, ℕ, zero, suc, ◌≤◌, Bool, List, [], ◌++◌, sym, ap, ◌∙◌, subst, arith, append_assoc, ⊎_elim, ℤ}
use Rattle.std.proofs.lemmas.Bool.{cases_eq}
use Rattle.std.proofs.lemmas.List.{append-nil}
use Rattle.ffv1_plane.specs.Spelling.{Residuals, SamplesSpell}

-- a spelling begins with that of fewer samples
pub prefix_spells : (earlier : ℕ → List ℤ) (r : Residuals) (first m count : ℕ) (bits : List Bool) (last : ℕ) → m ≤ count → SamplesSpell earlier r first count bits last
    → (front : List Bool) × (tail : List Bool) × (index : ℕ) × (bits ≡ front ++ tail) × SamplesSpell earlier r first m front index
unfolding SamplesSpell
prefix_spells earlier r first m zero bits last low h =
    let none : zero ≡ m = omega arith in
    (bits, [], last, sym (append-nil bits), subst (λ (k : ℕ). SamplesSpell earlier r first k bits last) none h)
prefix_spells earlier r first m (suc count) bits last low h = ⊎_elim
    (λ same. (bits, [], last, sym (append-nil bits), subst (λ (k : ℕ). SamplesSpell earlier r first k bits last) (sym same) h))
    (λ other.
    let before = prefix_spells earlier r first m count h.0 h.2 (omega arith) h.4 in
    (before.0, before.1 ++ h.1, before.2, h.3 ∙ ap (λ l. l ++ h.1) before.3 ∙ append_assoc before.0 before.1 h.1, before.4))
    (cases_eq m (suc count))
