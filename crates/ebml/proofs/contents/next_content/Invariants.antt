use Rattle.std.proofs.Common.{ℕ, ◌+◌, ◌-◌, ◌≤◌, List, length}
use Rattle.ebml.specs.Contents.{AreContents, PlacedBytes, AreContentsAt}
use Rattle.ebml.proofs.contents.next_content.Given as goal

-- none of the elements so far has the ID
abbrev pub invariant-loop-element : goal.invariant-loop-element
invariant-loop-element l = record {
  without : (contents : List (List ℕ)) → AreContents l.id l.left contents → AreContents l.id l.bytes contents;
  placed : (from : ℕ) (placed : List PlacedBytes) → AreContentsAt l.id (from + (length l.bytes - length l.left)) l.left placed → AreContentsAt l.id from l.bytes placed;
  within : length l.left ≤ length l.bytes;
}

abbrev pub decreases-loop-element : goal.decreases-loop-element
decreases-loop-element l = length l.left
