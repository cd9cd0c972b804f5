use Rattle.ffv1_hold.proofs.Common.{common_steps, ◌≡◌, Option, refl, sym, ap, ◌∙◌, subst, IfSome, arith, err_from_is_err_and, Reel, Contents, with_entry, FileEntry, file_entries, last_of, Follows, IsFileEntryOf, IfNone, Some, None, KeepsMagic, TellsMagic}
use Rattle.ffv1_hold.proofs.TextReads.{TakesText-trans}
use Rattle.ffv1_hold.proofs.ReadSteps.{AreRead, none_read, one_more, next_refused, memory_refused, next_taken, next_follows, some_keeps, none_keeps, tells_all, digests_in_version}
use Rattle.ffv1_hold.proofs.reading.read_entries.Given.{Over}
use Rattle.ffv1_hold.proofs.reading.read_entries.Goals.{In-Some}
use Rattle.ffv1_hold.proofs.reading.read_entries.Goals as goal

-- the entry that is held after the last one that was taken
module _ (g : Over) (c : In-Some g) where
  entry_held : IsFileEntryOf c.args.reader.now.version c.args.holding.now.reel.rules c.in-Some.entry
  entry_held =
      subst (λ (o : Option FileEntry). IfSome o (IsFileEntryOf c.args.reader.now.version c.args.holding.now.reel.rules)) c.in-Some.is
      c.loop-reader.invariant.entry

  read_with : (grown : Contents) → grown ≡ with_entry c.loop-reader.holding c.in-Some.entry.0 c.in-Some.entry.1
      → AreRead c.args.reader.now.version c.args.holding.now.reel (g.R.Source.log c.args.source.now) (g.R.Source.log c.loop-reader.source)
      c.args.reader.now.place c.loop-reader.reader.place grown c.loop-reader.reader.held
  read_with grown is =
      let inv = c.loop-reader.invariant in
      let h = c.loop-reader.holding in
      let follows = subst (λ (o : Option FileEntry). IfSome o (λ e. Follows (last_of (file_entries h)) e.0)) c.in-Some.is inv.follows in
      let keeps = subst (λ (o : Option FileEntry). IfSome o (λ e. KeepsMagic c.args.holding.now.reel (last_of (file_entries h)) (Some e.0))) c.in-Some.is
      inv.keeps in
      one_more c.args.reader.now.version c.args.holding.now.reel _ _ _ _ h grown c.in-Some.entry inv.well_formed inv.stated inv.reel entry_held follows
      inv.begun keeps
      c.loop-reader.reader.held c.in-Some.is is inv.text

pub returns-in_err-advance : goal.returns-in_err-advance
returns-in_err-advance g c =
    let p = err_from_is_err_and c.from_residual.result c.from_residual.ensures.1 in
    let v = c.args.reader.now.version in
    let h = c.args.holding.now in
    let none = none_read v _ _ h c.args.reader.now.held c.requires.place c.reel.ensures.well_formed.reel c.requires.empty c.requires.version c.requires.first in
    rw (p.1, p.2) (record { read = next_refused v h.reel _ _ _ _ h _ none v _ refl c.reel.ensures.value _ _ c.in_err-advance.ensures.read; end = tt; well_formed = tt; stated = tt; tells = tt; reel = tt })

pub loop-reader-init : goal.loop-reader-init
loop-reader-init g c =
    let v = c.args.reader.now.version in
    let h = c.args.holding.now in
    let none = none_read v _ _ h c.args.reader.now.held c.requires.place c.reel.ensures.well_formed.reel c.requires.empty c.requires.version c.requires.first in
    let next = c.in_ok-advance.ensures in
    record {
      text = TakesText-trans _ _ _ _ _ _ _ _ none.text next.read;
      version = next.version;
      well_formed = c.reel.ensures.well_formed;
      stated = none.stated;
      reel = refl;
      entry = subst (λ (x : Reel). IfSome c.advance.new.self.held (IsFileEntryOf v x.rules)) c.reel.ensures.value next.entry;
      follows = next_follows v h.reel _ _ _ _ h _ none c.advance.new.self.held next.follows;
      begun = none.begun;
      keeps = some_keeps v h.reel _ _ _ _ h _ none c.advance.new.self.held (subst (λ (x : Reel). IfSome c.advance.new.self.held
          (λ e. KeepsMagic x c.args.reader.now.held (Some e.0))) c.reel.ensures.value next.keeps);
      end_keeps = none_keeps v h.reel _ _ _ _ h _ none c.advance.new.self.held (subst (λ (x : Reel). IfNone c.advance.new.self.held
          (KeepsMagic x c.args.reader.now.held None)) c.reel.ensures.value next.end_keeps);
      at_end = next.end;
    }

pub insert-requires-clause-origins : goal.insert-requires-clause-origins
insert-requires-clause-origins g c =
    (digests_in_version c.args.reader.now.version c.in-Some.entry.1 (entry_held g (goal.at.insert-requires-clause-origins g c).In-Some).origins).rising

-- memory for the entry that is held is refused
pub returns-in_err-insert-clause-read : goal.returns-in_err-insert-clause-read
returns-in_err-insert-clause-read g c =
    let p = err_from_is_err_and c.from_residual-in_err-insert.result c.from_residual-in_err-insert.ensures.1 in
    let grown = with_entry c.loop-reader.holding c.in-Some.entry.0 c.in-Some.entry.1 in
    let more = read_with g (goal.at.returns-in_err-insert-clause-read g c).In-Some grown refl in
    rw (p.1, p.2, c.in_err-insert.ensures.err.0) (memory_refused c.args.reader.now.version c.args.holding.now.reel _ _ _ _ _ _ more)

pub loop-reader-preserved : goal.loop-reader-preserved
loop-reader-preserved g c =
    let inv = c.loop-reader.invariant in
    let v = c.args.reader.now.version in
    let more = read_with g (goal.at.loop-reader-preserved g c).In-Some c.insert.new.holding c.in_ok-insert.ensures.ok in
    let next = c.in_ok-advance-2.ensures in
    let reel = c.reel-in-Some.ensures.value ∙ more.reel' in
    let rules = ap (λ (r : Reel). r.rules) reel in
    record {
      text = next_taken v c.loop-reader.reader.version _ _ _ _ _ _ _ _ inv.version more.text next.read;
      version = next.version ∙ inv.version;
      well_formed = more.well_formed;
      stated = more.stated;
      reel = more.reel';
      entry = grind (arith, common_steps);
      follows = next_follows v c.args.holding.now.reel _ _ _ _ _ _ more c.advance-in-Some.new.self.held next.follows;
      begun = more.begun;
      keeps = some_keeps v c.args.holding.now.reel _ _ _ _ _ _ more c.advance-in-Some.new.self.held (subst (λ (x : Reel).
          IfSome c.advance-in-Some.new.self.held (λ e. KeepsMagic x c.loop-reader.reader.held (Some e.0))) reel next.keeps);
      end_keeps = none_keeps v c.args.holding.now.reel _ _ _ _ _ _ more c.advance-in-Some.new.self.held (subst (λ (x : Reel).
          IfNone c.advance-in-Some.new.self.held (KeepsMagic x c.loop-reader.reader.held None)) reel next.end_keeps);
      at_end = next.end;
    }

pub returns-in_err-advance-2-clause-read : goal.returns-in_err-advance-2-clause-read
returns-in_err-advance-2-clause-read g c =
    let p = err_from_is_err_and c.from_residual-in_err-advance-2.result c.from_residual-in_err-advance-2.ensures.1 in
    let more = read_with g (goal.at.returns-in_err-advance-2-clause-read g c).In-Some c.insert.new.holding c.in_ok-insert.ensures.ok in
    rw (p.1, p.2) (next_refused c.args.reader.now.version c.args.holding.now.reel _ _ _ _ _ _ more _ _ c.loop-reader.invariant.version
    (c.reel-in-Some.ensures.value ∙ more.reel') _ _
    c.in_err-advance-2.ensures.read)

pub returns-clause-tells : goal.returns-clause-tells
returns-clause-tells g c =
    let inv = c.loop-reader.invariant in
    let es = file_entries c.loop-reader.holding in
    let keeps = rw c.in_default.is at inv.end_keeps in
    subst (λ (r : Reel). TellsMagic r es) (sym inv.reel) (tells_all c.args.holding.now.reel es inv.begun keeps)
