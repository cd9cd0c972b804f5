-- What the crates above use of a setup: it is one, its size and its tiles have bounds, and it has no fault.
use Rattle.std.proofs.Common.{◌≡◌, ℕ, List, sym, ◌∙◌}
use Rattle.ffv1_range.specs.Setup.{SetupValue, IsSetupOf}
use Rattle.ffv1_range.specs.SetupFaults.{FirstSetupFault}
use Rattle.ffv1_range.specs.declared.fault.SetupFault.{SetupFault}
use Rattle.ffv1_range.proofs.SetupLaws.{setup_is_one, setup-run}

-- one record and size have one setup
pub one_setup : (config : List ℕ) (width height : ℕ) (s t : SetupValue) → IsSetupOf config width height s → IsSetupOf config width height t → s ≡ t
one_setup config width height s t is also = setup_is_one config width height s t is also

-- where there is a setup there is no fault
pub no_setup_fault : (config : List ℕ) (width height : ℕ) (s : SetupValue) (f : SetupFault) → IsSetupOf config width height s
    → FirstSetupFault config width height f → ⊥
no_setup_fault config width height s f is fault = let both = sym (setup-run config width height s is) ∙ fault in cc

-- a record has one first fault
pub one_setup_fault : (config : List ℕ) (width height : ℕ) (f g : SetupFault) → FirstSetupFault config width height f → FirstSetupFault config width height g
    → f ≡ g
one_setup_fault config width height f g is also = let both = sym is ∙ also in cc
