use Rattle.std.proofs.Common.{List, Vec, ℕ, Global, IfOk, IfErr, map, length, ap, subst, arith}
use Rattle.ffv1_splice.specs.Splice.{IsSpliceOf}
use Rattle.ffv1_commands.specs.SpliceText.{IsLengthFault}
use Rattle.ffv1_commands.proofs.splice.splice_of_read.Goals as goal

pub spliced_of-requires : goal.spliced_of-requires
spliced_of-requires c = omega (arith, ap length c.as_slice.ensures.value)

pub returns : goal.returns
returns c =
    let r = c.spliced_of.result in
    record {
      ok = subst (λ (read : List (Vec ℕ Global)). IfOk r (IsSpliceOf (map (λ copy. copy.items) read))) c.as_slice.ensures.value c.spliced_of.ensures.ok;
      err = subst (λ (read : List (Vec ℕ Global)). IfErr r (IsLengthFault (map (λ copy. copy.items) read))) c.as_slice.ensures.value c.spliced_of.ensures.err;
    }
