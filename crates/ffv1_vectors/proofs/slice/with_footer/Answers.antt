use Rattle.std.proofs.Common.{◌≡◌, ◌++◌, ℕ, List, length, length-append, append_assoc, arith, refl, ap, ◌∙◌}
use Rattle.std.proofs.lemmas.Result.{IfOk-weaker, err_from_is_err_and}
use Rattle.ffv1_vectors.proofs.slice.with_footer.Goals as goal

-- four bytes with their parity after them are a footer
footer_after : (content four whole bytes : List ℕ) → whole ≡ content ++ four → length four ≡ 4
    → (parity : List ℕ) × (bytes ≡ whole ++ parity) × (length parity ≡ 4) → (footer : List ℕ) × (bytes ≡ content ++ footer) × (length footer ≡ 8)
footer_after content four whole bytes is size (parity, later, count) =
    (four ++ parity, later ∙ ap (λ z. z ++ parity) is ∙ append_assoc content four parity, omega (arith, length-append four parity))

pub returns-in_err-extend_from_slice : goal.returns-in_err-extend_from_slice
returns-in_err-extend_from_slice c =
    let p = err_from_is_err_and c.from_residual.result c.from_residual.ensures.1 in rw p.1 tt

pub returns : goal.returns
returns c =
    IfOk-weaker c.with_parity.result _ _
    (λ bytes. footer_after c.args.content.items _ c.extend_from_slice.new.self.items bytes.items c.in_ok-extend_from_slice.ensures.items refl)
    c.with_parity.ensures.kept
