use Rattle.std.proofs.Common.{take}
use Rattle.std.specs.List.{concat}
use Rattle.ebml.specs.Inner.Register.{Advances}
use Rattle.ebml.proofs.crc.advanced_by_chunks.Given as goal

-- The chunks so far were taken.
abbrev pub invariant-loop-chunk : goal.invariant-loop-chunk
invariant-loop-chunk l = Advances l.initial.register (concat (take l.chunk-index l.chunks)) l.register
