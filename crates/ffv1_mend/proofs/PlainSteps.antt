-- Versions of which one differs from another.
use Rattle.std.proofs.Common.{◌≡◌, ℕ, ◌<◌, List, Bor, length, get_or}
use Rattle.std.specs.Prelude.{Contains}
use Rattle.ffv1_slice.specs.Members.{IsOfTwo}
use Rattle.ffv1_weave.specs.References.{values_of}
use Rattle.ffv1_weave.proofs.References.{nowhere, value_there}

pub two_versions : (versions : List (Bor (List ℕ))) (from : List ℕ) → Contains (values_of versions) from → (k : ℕ) → k < length versions
    → ((get_or versions k nowhere).now ≡ from → ⊥) → IsOfTwo (Contains (values_of versions))
two_versions versions from there k lt apart =
    record {
      one = (get_or versions k nowhere).now;
      other = from;
      one_there = value_there versions k nowhere lt;
      other_there = there;
      differ = apart;
    }
