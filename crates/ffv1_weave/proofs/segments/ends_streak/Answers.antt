use Rattle.ffv1_weave.proofs.Common.{rules, cases_lt, get_or_past, slice_eq-Decides, Decides-eqb}
use Rattle.ffv1_weave.proofs.Choices.{same_range, range_at}
use Rattle.ffv1_weave.proofs.segments.ends_streak.Goals as goal

pub returns-then-one-place : goal.returns-then-one-place
returns-then-one-place c = search (rules, slice_eq-Decides, Decides-eqb, cases_lt, range_at, get_or_past, same_range)
