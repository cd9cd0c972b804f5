use Rattle.std.proofs.Common.{◌≡◌, ◌+◌, length, count_by}
use Rattle.ffv1_scan.specs.Verdicts.{is_passing}
use Rattle.matroska_parts.specs.Payloads.{passing_size}
use Rattle.matroska_parts.proofs.payloads.judge_frame.Given as goal

-- The links so far and those that are left are all links.
abbrev pub invariant-loop-link : goal.invariant-loop-link
invariant-loop-link l = record {
  links : l.links + length l.chain.left ≡ length l.initial.chain.left;
  passing : l.passing + count_by is_passing l.chain.left ≡ count_by is_passing l.initial.chain.left;
  size : l.size + passing_size l.chain.left ≡ passing_size l.initial.chain.left;
}

abbrev pub decreases-loop-link : goal.decreases-loop-link
decreases-loop-link l = length l.chain.left
