use Rattle.std.specs.Prelude.{◌≡◌}
use Rattle.ffv1_vectors.specs.SymbolEncoders.{KeepsBitStates}
use Rattle.ffv1_vectors.proofs.encoder.SymbolEncoder.all_unsigned.Given as goal

abbrev pub invariant-loop-value : goal.invariant-loop-value
invariant-loop-value l = record { kept : KeepsBitStates l.fn.self l.fn.states l.states; same : l.self.successors ≡ l.fn.self.successors }
