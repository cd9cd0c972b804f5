use Rattle.std.proofs.Common.{◌≡◌, take}
use Rattle.ebml.specs.Vint.{number_of}
use Rattle.ebml.proofs.vint.number_of.Given as goal

abbrev pub invariant-loop-byte : goal.invariant-loop-byte
invariant-loop-byte l = l.number ≡ number_of (take l.byte-index l.bytes)
