use Rattle.std.proofs.Common.{length, ap, sym, ◌∙◌}
use Rattle.ffv1_bits.specs.Reader.{Reading}
use Rattle.ffv1_bits.proofs.Places.{bits_left}
use Rattle.ffv1_bits.proofs.reader.Bits.left.Goals as goal

pub returns-clause-value : goal.returns-clause-value
returns-clause-value c =
    sym (bits_left c.self.inside.bytes.now c.self.inside.place) ∙ ap (λ (r : Reading). length r.left) c.self.view_is
