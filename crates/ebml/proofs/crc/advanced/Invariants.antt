use Rattle.std.proofs.Common.{◌/◌, ◌++◌, length, take}
use Rattle.std.specs.List.{concat}
use Rattle.std.specs.Simd.{first_chunks}
use Rattle.ebml.specs.Inner.Register.{Advances}
use Rattle.ebml.proofs.crc.advanced.Given as goal

-- The chunks and the bytes so far after them were taken.
abbrev pub invariant-loop-byte : goal.invariant-loop-byte
invariant-loop-byte l =
    Advances l.fn.register (concat (first_chunks 16 (length l.bytes / 16) l.bytes) ++ take l.byte-index l.rest) l.register
