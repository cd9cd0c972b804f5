use Rattle.ffv1_hold.proofs.Common.{◌≡◌, ◌≤◌, IfSome, file_limit, IsFileEntryOf, Start, AreVersions, Stands, AllGoOn}
use Rattle.ffv1_hold.proofs.merging.Merge.merge_entries.Given as goal

-- Both inputs are read as far as what was written.
abbrev pub invariant-loop-entry : goal.invariant-loop-entry
invariant-loop-entry g l = record {
  stands : (start : Start) → l.reels.left ≡ start.left_reel → l.reels.right ≡ start.right_reel → AreVersions start l.initial.self.lefts.version l.initial.self.rights.version
      → Stands start (g.R.Source.log l.initial.left).remaining (g.Q.Source.log l.initial.right).remaining
      (g.W.Sink.log l.initial.sink).contents l.initial.self.lefts.place l.initial.self.rights.place l.initial.self.room l.initial.self.lefts.held
      l.initial.self.rights.held
      → AreVersions start l.self.lefts.version l.self.rights.version
      × Stands start (g.R.Source.log l.left).remaining (g.Q.Source.log l.right).remaining
      (g.W.Sink.log l.sink).contents l.self.lefts.place l.self.rights.place l.self.room l.self.lefts.held l.self.rights.held;
  room : l.self.room ≤ file_limit;
  left_place : l.self.lefts.place ≤ file_limit;
  right_place : l.self.rights.place ≤ file_limit;
  left_entry : IfSome l.self.lefts.held (IsFileEntryOf l.self.lefts.version l.reels.left.rules);
  right_entry : IfSome l.self.rights.held (IsFileEntryOf l.self.rights.version l.reels.right.rules);
  went : AllGoOn (record { left = g.R.Source.log l.initial.left; right = g.Q.Source.log l.initial.right; sink = g.W.Sink.log l.initial.sink })
      (record { left = g.R.Source.log l.left; right = g.Q.Source.log l.right; sink = g.W.Sink.log l.sink })
      (l.initial.self.lefts.place, l.initial.self.rights.place) (l.self.lefts.place, l.self.rights.place);
}

abbrev pub decreases-loop-entry : goal.decreases-loop-entry
decreases-loop-entry g l = l.self.room
