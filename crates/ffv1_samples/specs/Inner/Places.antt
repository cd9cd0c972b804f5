-- One fault at one sample.
use Rattle.std.specs.Prelude.{◌≡◌, ℕ}
use Rattle.ffv1_samples.specs.declared.faults.SampleFault.{SampleFault}

pub record IsOneSample (fault other : SampleFault) (plane level y v x u : ℕ) : Type 0 where
  pub fault_same : fault ≡ other
  pub plane_same : plane ≡ level
  pub row_same : y ≡ v
  pub column_same : x ≡ u
