use Rattle.std.proofs.Common.{◌≡◌, take}
use Rattle.ffv1_mend.specs.Improved.{patched}
use Rattle.ffv1_mend.proofs.PartSteps.{given_of}
use Rattle.ffv1_mend.proofs.improved.improve_spliced.Given as goal

abbrev pub invariant-loop-place : goal.invariant-loop-place
invariant-loop-place l = l.version ≡ patched l.fn.version (given_of l.part l.spliced.payload (take l.place-index l.spliced.places))
