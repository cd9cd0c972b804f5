use Rattle.std.proofs.Common.{map, take}
use Rattle.std.specs.List.{AllZip}
use Rattle.ffv1_stretches.specs.Listed.{IsPlaceWord}
use Rattle.ffv1_stretches.proofs.words.read_places.Given as goal

-- the places of the words so far
abbrev pub invariant-loop-word : goal.invariant-loop-word
invariant-loop-word l = AllZip IsPlaceWord (take l.word-index (map (λ word. word.now) l.words)) l.places.items
