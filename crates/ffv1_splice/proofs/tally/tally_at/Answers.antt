use Rattle.std.proofs.lemmas.Grind.{common_steps}
use Rattle.ffv1_splice.proofs.Common.{◌≡◌, ℕ, List, [], ◌∷◌, ◌++◌, get_or, take, arith, sym, subst, slice_range, PassesParity, FooterGives, HasContent, IsPiece, IsClaimedStart, Tallies, pieces_tally, claimed_tally, Pieces, Claimed, values_of, next_value, all_values, nowhere}
use Rattle.ffv1_splice.proofs.TallySteps.{pieces-uncut, starts-uncut, pieces-failed, pieces-kept, pieces-passed, starts-cut}
use Rattle.ffv1_splice.proofs.tally.tally_at.Goals as goal
use Rattle.ffv1_splice.proofs.tally.tally_at.Goals.{in-Some+then-not-stays_with+then-passes, in-Some+else-not-stays_with, else-not-stays_with-via-then-not-stays_with+else-passes, else-not-stays_with-via-else-not-stays_with, in_default}

pub loop-copy-preserved : goal.loop-copy-preserved
loop-copy-preserved c =
    let copy : List ℕ = (get_or c.args.copies.now c.loop-copy.copy-index nowhere).now in
    let before : List (List ℕ) = take c.loop-copy.copy-index (values_of c.args.copies.now) in
    let more = next_value c.args.copies.now c.loop-copy.copy-index nowhere (omega arith) in
    let next_pieces = λ (pieces : Pieces) (is : c.match-claimed_start.pieces ≡ pieces) (claim : Tallies (IsPiece (before ++ copy ∷ []) c.args.end) (pieces_tally pieces)).
    subst (λ z. Tallies (IsPiece z c.args.end) (pieces_tally c.match-claimed_start.pieces)) more
    (subst (λ p. Tallies (IsPiece (before ++ copy ∷ []) c.args.end) (pieces_tally p)) (sym is) claim) in
    let next_starts = λ (starts : Claimed) (is : c.match-claimed_start.starts ≡ starts)
    (claim : Tallies (IsClaimedStart (before ++ copy ∷ []) c.args.end) (claimed_tally starts)).
    subst (λ z. Tallies (IsClaimedStart z c.args.end) (claimed_tally c.match-claimed_start.starts)) more
    (subst (λ p. Tallies (IsClaimedStart (before ++ copy ∷ []) c.args.end) (claimed_tally p)) (sym is) claim) in
    elim c.match-claimed_start.branch [
      | in-Some+then-not-stays_with+then-passes w ↦
          let cut : FooterGives copy w.in-Some.start c.args.end = w.in-Some.ensures.0 in
          let content : HasContent w.in-Some.start c.args.end = w.in-Some.ensures.1 in
          let passes : PassesParity (slice_range copy w.in-Some.start c.args.end) = w.passes.ensures.0 w.if-passes.true in
          record {
            pieces = grind (arith, common_steps, pieces-passed, pieces_tally);
            starts = grind (arith, common_steps, starts-cut, claimed_tally);
          }
      | in-Some+else-not-stays_with w ↦
          let cut : FooterGives copy w.in-Some.start c.args.end = w.in-Some.ensures.0 in
          let content : HasContent w.in-Some.start c.args.end = w.in-Some.ensures.1 in
          record {
            pieces = next_pieces c.loop-copy.pieces w.pieces-is
                (elim w.else-not-stays_with.branch [
                  | else-not-stays_with-via-then-not-stays_with+else-passes v ↦
                      let fails : PassesParity (slice_range copy w.in-Some.start c.args.end) → ⊥ = λ p. let t = v.passes.ensures.1 p in let f =
                      v.if-passes.false in absurd (cc) in
                      pieces-failed before copy c.args.end (pieces_tally c.loop-copy.pieces) w.in-Some.start cut fails c.loop-copy.invariant.pieces
                  | else-not-stays_with-via-else-not-stays_with v ↦
                      pieces-kept before copy c.args.end (pieces_tally c.loop-copy.pieces) w.in-Some.start cut
                      (w.stays_with.ensures.0 v.if-not-stays_with.false) c.loop-copy.invariant.pieces
                ]);
            starts = grind (arith, common_steps, starts-cut, claimed_tally);
          }
      | in_default w ↦
          let none : (start : ℕ) → FooterGives copy start c.args.end → HasContent start c.args.end → ⊥ = w.in_default.ensures in
          record {
            pieces = grind (arith, common_steps, pieces-uncut, pieces_tally);
            starts = grind (arith, common_steps, starts-uncut, claimed_tally);
          }
    ]

pub returns-clause-pieces : goal.returns-clause-pieces
returns-clause-pieces c =
    subst (λ z. Tallies (IsPiece z c.args.end) (pieces_tally c.loop-copy.pieces)) (all_values c.args.copies.now c.loop-copy.copy-index (omega arith))
    c.loop-copy.invariant.pieces

pub returns-clause-starts : goal.returns-clause-starts
returns-clause-starts c =
    subst (λ z. Tallies (IsClaimedStart z c.args.end) (claimed_tally c.loop-copy.starts)) (all_values c.args.copies.now c.loop-copy.copy-index (omega arith))
    c.loop-copy.invariant.starts
