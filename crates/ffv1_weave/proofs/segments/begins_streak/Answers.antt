use Rattle.ffv1_weave.proofs.Common.{rules, slice_eq-Decides, Decides-eqb}
use Rattle.ffv1_weave.proofs.Choices.{same_range, range_at}
use Rattle.ffv1_weave.proofs.segments.begins_streak.Goals as goal

pub returns-then-one-place : goal.returns-then-one-place
returns-then-one-place c = search (rules, slice_eq-Decides, Decides-eqb, range_at, same_range)
