-- What copies of a frame of any recording come to, and why nothing comes of them.
use Rattle.std.specs.Prelude.{◌≡◌, ℕ, List}
use Rattle.ffv1_holding.specs.declared.recordings.Recordings.{Recordings}
use Rattle.ffv1_holding.specs.Contents.{Contents, holding_of}
use Rattle.ffv1_hold.specs.Headline.{IsReelOf}
use Rattle.ffv1_hold.specs.Plans.{copies_of, CanBeCarriedOut, IsFirstPlanFault}
use Rattle.ffv1_hold.specs.declared.plan.Plan.{Plan}
use Rattle.ffv1_hold.specs.declared.restoring.RestorationFault.{RestorationFault}
use Rattle.ffv1_hold.specs.declared.restoring.RestorationFault.TheVariants as faults

-- The holding is what the plan comes to for a record of these recordings and a size: it holds what is found in the plan's copies.
pub record IsHoldingFor (recordings : Recordings) (config : List ℕ) (width height : ℕ) (plan : Plan) (h : Contents) : Type 0 where
  pub reel : IsReelOf recordings config width height h.reel
  pub meaning : h ≡ holding_of h.reel (copies_of plan)

-- a refusal of one of the plan's steps, or Memory after them all
abbrev pub IsAnyRestorationFault : Recordings → List ℕ → ℕ → ℕ → Plan → RestorationFault → Type 0
IsAnyRestorationFault recordings config width height plan (faults.Plan fault) = IsFirstPlanFault recordings config width height plan fault
IsAnyRestorationFault recordings config width height plan faults.Memory = CanBeCarriedOut recordings config width height plan
