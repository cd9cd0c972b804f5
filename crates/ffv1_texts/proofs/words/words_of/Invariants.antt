use Rattle.std.proofs.Common.{◌++◌, List, ℕ, map, length}
use Rattle.ffv1_texts.specs.Words.{AreWords}
use Rattle.ffv1_texts.proofs.words.words_of.Given as goal

-- The words so far, with those of the rest, are the words of the line.
abbrev pub invariant-loop-word : goal.invariant-loop-word
invariant-loop-word l = (later : List (List ℕ)) → AreWords l.rest later → AreWords l.fn.line (map (λ word. word.now) l.words.items ++ later)

abbrev pub decreases-loop-word : goal.decreases-loop-word
decreases-loop-word l = length l.rest
