use Rattle.std.proofs.Common.{◌≡◌, true, take}
use Rattle.std.specs.List.{list_all}
use Rattle.ffv1_stretches.specs.Lines.{is_place_settled}
use Rattle.ffv1_stretches.proofs.lines.are_settled.Given as goal

-- each place so far is settled
abbrev pub invariant-loop-place : goal.invariant-loop-place
invariant-loop-place l = list_all (λ place. is_place_settled place.standing) (take l.place-index l.places) ≡ true
