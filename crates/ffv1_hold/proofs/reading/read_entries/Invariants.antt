use Rattle.ffv1_hold.proofs.Common.{◌≡◌, ◌-◌, ◌++◌, IfSome, IfNone, IsAtEnd, file_limit, TakesText, IsHolding, entries_text, file_entries, IsStated, last_of, Follows, IsFileEntryOf, next_text, [], ◌⊎◌, Some, None, TellsMagic, KeepsMagic}
use Rattle.ffv1_hold.proofs.reading.read_entries.Given as goal

-- What was taken is the text of the entries so far, and of the one that is held after the last of them, or of the end tag.
abbrev pub invariant-loop-reader : goal.invariant-loop-reader
invariant-loop-reader g l = record {
  text : TakesText (g.R.Source.log l.fn.source) (g.R.Source.log l.source) l.fn.reader.place l.reader.place
      (entries_text l.fn.reader.version (file_entries l.holding) ++ next_text l.fn.reader.version l.reader.held);
  version : l.reader.version ≡ l.fn.reader.version;
  well_formed : IsHolding l.holding;
  stated : IsStated l.fn.reader.version l.holding;
  reel : l.holding.reel ≡ l.fn.holding.reel;
  entry : IfSome l.reader.held (IsFileEntryOf l.fn.reader.version l.fn.holding.reel.rules);
  follows : IfSome l.reader.held (λ e. Follows (last_of (file_entries l.holding)) e.0);
  begun : (file_entries l.holding ≡ []) ⊎ TellsMagic l.fn.holding.reel (file_entries l.holding);
  keeps : IfSome l.reader.held (λ e. KeepsMagic l.fn.holding.reel (last_of (file_entries l.holding)) (Some e.0));
  end_keeps : IfNone l.reader.held (KeepsMagic l.fn.holding.reel (last_of (file_entries l.holding)) None);
  at_end : IfNone l.reader.held (IsAtEnd (g.R.Source.log l.source).remaining);
}

abbrev pub decreases-loop-reader : goal.decreases-loop-reader
decreases-loop-reader g l = file_limit - l.reader.place
