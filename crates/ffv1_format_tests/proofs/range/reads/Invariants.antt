use Rattle.std.proofs.Common.{◌≡◌}
use Rattle.ffv1_format_tests.proofs.range.reads.Given as goal

abbrev pub invariant-loop-value : goal.invariant-loop-value
invariant-loop-value l = l.decoder.mode ≡ l.fn.decoder.mode
