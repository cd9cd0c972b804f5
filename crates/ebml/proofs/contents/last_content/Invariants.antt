use Rattle.std.proofs.Common.{ℕ, ◌≡◌, List, length}
use Rattle.std.specs.Prelude.{Some}
use Rattle.std.specs.List.{fold}
use Rattle.std.specs.Option.{option_copied}
use Rattle.ebml.specs.Contents.{AreContents, OfLast}
use Rattle.ebml.proofs.contents.last_content.Given as goal

-- the last of all is the last of what is left, or the last so far
abbrev pub invariant-loop-content : goal.invariant-loop-content
invariant-loop-content l =
    (contents : List (List ℕ)) → AreContents l.id l.left contents → OfLast l.id l.bytes (λ last. last ≡ fold (λ _ x. Some x) (option_copied l.last) contents)

abbrev pub decreases-loop-content : goal.decreases-loop-content
decreases-loop-content l = length l.left
