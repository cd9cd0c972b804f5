use Rattle.std.proofs.Common.{◌<◌, ◌^◌}
use Rattle.ffv1_bits.specs.Bits.{number_bits}
use Rattle.ffv1_bits.specs.Reader.{ReadsBits}
use Rattle.ffv1_bits.proofs.reader.Bits.take.Given as goal

abbrev pub invariant-loop : goal.invariant-loop
invariant-loop l = record {
  fits : l.number < 2 ^ l.counter;
  read : ReadsBits l.self (number_bits l.counter l.number) l.ahead;
}
