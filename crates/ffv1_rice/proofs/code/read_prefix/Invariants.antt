use Rattle.std.proofs.Common.{replicate, false}
use Rattle.ffv1_bits.specs.Reader.{ReadsBits}
use Rattle.ffv1_rice.proofs.code.read_prefix.Given as goal

abbrev pub invariant-loop-zeros : goal.invariant-loop-zeros
invariant-loop-zeros l = ReadsBits l.fn.bits (replicate l.zeros false) l.bits
