use Rattle.std.specs.Prelude.{◌≡◌, ◌+◌, ◌≤◌}
use Rattle.std.specs.Vec.{vec_len, vec_capacity}
use Rattle.ffv1_vectors.specs.SymbolEncoders.{KeepsBitStates}
use Rattle.ffv1_vectors.proofs.encoder.SymbolEncoder.symbol.Given as goal

abbrev pub invariant-loop-place : goal.invariant-loop-place
invariant-loop-place l =
    record {
      kept : KeepsBitStates l.fn.self l.fn.states l.states;
      room : vec_len l.self.bytes + l.count ≤ vec_capacity l.self.bytes + l.place;
      same : l.self.successors ≡ l.fn.self.successors;
    }
