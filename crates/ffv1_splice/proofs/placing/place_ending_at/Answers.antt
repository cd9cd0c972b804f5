use Rattle.ffv1_splice.proofs.Common.{◌≤◌, length, subst, refl, IsOnly, IsPiece, Tallies, pieces_tally, values_of, each_value}
use Rattle.ffv1_splice.proofs.PlaceSteps.{piece_size}
use Rattle.ffv1_splice.proofs.placing.place_ending_at.Goals as goal

pub returns-in-One : goal.returns-in-One
returns-in-One c =
    let only : IsOnly (IsPiece (values_of c.args.copies.now) c.args.end) (record { start = c.in-One.start; bytes = c.in-One.bytes.now }) =
    subst (λ p. Tallies (IsPiece (values_of c.args.copies.now) c.args.end) (pieces_tally p)) c.in-One.is c.tally_at-starts.ensures.pieces in
    record {
      bytes = c.in-One.bytes.now;
      ends = refl;
      stands = only;
      size = piece_size (values_of c.args.copies.now) c.args.end (record { start = c.in-One.start; bytes = c.in-One.bytes.now })
          (each_value c.args.copies.now (λ copy. c.args.end ≤ length copy) c.requires.within) only.there;
      written' = c.write_at.ensures;
    }
