use Rattle.ffv1_splice.proofs.Common.{subst, inl, inr, IsPiece, Tallies, pieces_tally, values_of}
use Rattle.ffv1_splice.proofs.PlaceSteps.{none_not_only, two_not_only}
use Rattle.ffv1_splice.proofs.settling.only_piece.Goals as goal

pub returns-in-None : goal.returns-in-None
returns-in-None c =
    elim c.in-None.is [
      | inl none ↦ none_not_only (IsPiece (values_of c.args.copies.now) c.args.end)
          (subst (λ p. Tallies (IsPiece (values_of c.args.copies.now) c.args.end) (pieces_tally p)) none c.tally_at.ensures.pieces)
      | inr two ↦ two_not_only (IsPiece (values_of c.args.copies.now) c.args.end)
          (subst (λ p. Tallies (IsPiece (values_of c.args.copies.now) c.args.end) (pieces_tally p)) two c.tally_at.ensures.pieces)
    ]
