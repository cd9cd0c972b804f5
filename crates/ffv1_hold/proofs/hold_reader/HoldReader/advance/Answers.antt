use Rattle.ffv1_hold.proofs.Common.{common_steps, refl, inr, arith, err_from_is_err_and, IsPartOfEntry, EntryShows, None, KeepsMagic}
use Rattle.ffv1_hold.proofs.hold_reader.HoldReader.advance.Given.{Over}
use Rattle.ffv1_hold.proofs.hold_reader.HoldReader.advance.Goals.{In-None}
use Rattle.ffv1_hold.proofs.TextReads.{TakesText-nil, StopsAt-after, broke_after}
use Rattle.ffv1_hold.proofs.hold_reader.HoldReader.advance.Goals as goal

pub returns-in_err-slice : goal.returns-in_err-slice
returns-in_err-slice g c =
    let p = err_from_is_err_and c.from_residual.result c.from_residual.ensures.1 in
    let part = IsPartOfEntry c.args.self.now.version c.args.reel.now c.args.self.now.held in
    let shows = EntryShows c.args.self.now.version c.args.reel.now c.args.self.now.held in
    let stops = rw c.take-last.ensures.value at c.in_err-slice.ensures.read in
    grind (arith, common_steps, StopsAt-after, TakesText-nil)

-- the end tag keeps the magic right
end_keeps : (g : Over) (c : In-None g) → KeepsMagic c.args.reel.now c.args.self.now.held None
end_keeps g c =
    let keeps = rw c.in-None.is at c.in_ok-slice.ensures.end in
    rw c.take-last.ensures.value at keeps

pub returns-in_err-next_byte-in-None : goal.returns-in_err-next_byte-in-None
returns-in_err-next_byte-in-None g c =
    let p = err_from_is_err_and c.from_residual-in_err-next_byte-in-None.result c.from_residual-in_err-next_byte-in-None.ensures.1 in
    let none = rw c.in-None.is at c.in_ok-slice.ensures.read in
    let keeps = end_keeps g (goal.at.returns-in_err-next_byte-in-None g c).In-None in
    rw (p.1, p.2) (record {
      read = broke_after _ _ _ _ _ _ _ _ _ none c.in_err-next_byte-in-None.ensures (inr (refl, keeps));
      entry = tt;
      follows = tt;
      keeps = tt;
      end_keeps = tt;
      bytes = λ none. tt;
      version = refl;
      end = tt;
    })
