-- The copies that a plan takes, and what can keep it from being carried out (own).
use Rattle.std.specs.Prelude.{◌≡◌, ◌⊎◌, ◌<◌, ℕ, List, [], ◌∷◌, ◌++◌, map, length, take, slice_index_or}
use Rattle.ffv1_hold.specs.Headline.{IsReelOf}
use Rattle.ffv1_range.specs.declared.fault.SetupFault.TheVariants as setups
use Rattle.ffv1_holding.specs.declared.fault.HoldFault.TheVariants as holds
use Rattle.ffv1_hold.specs.declared.file_fault.HoldFileFault.{HoldFileFault}
use Rattle.ffv1_hold.specs.declared.file_fault.HoldFileFault.TheVariants as files
use Rattle.ffv1_hold.specs.declared.plan.Plan.{Plan, New, Take', TakeAll', Join', Reread'}
use Rattle.ffv1_hold.specs.declared.plan.PlanFault.{PlanFault}
use Rattle.ffv1_hold.specs.declared.plan.PlanFault.TheVariants.{Setup, Hold, File}
use Rattle.ffv1_holding.specs.Reels.{Reel, FirstRecordFault}
use Rattle.ffv1_holding.specs.declared.recordings.Recordings.{Recordings}
use Rattle.ffv1_holding.specs.declared.recordings.Recordings.TheVariants.{Profile}
use Rattle.ffv1_holding.specs.Contents.{Contents, holding_of}
use Rattle.ffv1_holding.specs.TakeFaults.{IsTakeFault, AreShort}
use Rattle.ffv1_hold.specs.Saving.{IsTooLong}

abbrev pub copies_of : Plan → List (List ℕ)
copies_of New = []
copies_of (Take' p before copy) = copies_of before ++ copy.now ∷ []
copies_of (TakeAll' p before copies) = copies_of before ++ map (λ copy. copy.now) copies.now
copies_of (Join' p left q right) = copies_of left ++ copies_of right
copies_of (Reread' p before) = copies_of before

-- the holdings that go through a file have one
abbrev pub RereadsFit : Reel → Plan → Type 0
RereadsFit reel New = Unit {0}
RereadsFit reel (Take' p before copy) = RereadsFit reel before
RereadsFit reel (TakeAll' p before copies) = RereadsFit reel before
RereadsFit reel (Join' p left q right) = RereadsFit reel left × RereadsFit reel right
RereadsFit reel (Reread' p before) = RereadsFit reel before × (¬ IsTooLong (holding_of reel (copies_of before)))

-- ---- refusals

-- Memory, or the record's first fault at the size
abbrev pub IsNewFault : Recordings → List ℕ → ℕ → ℕ → PlanFault → Type 0
IsNewFault recordings config width height (Setup f) = (f ≡ setups.Memory) ⊎ FirstRecordFault recordings config width height f
IsNewFault recordings config width height (Hold f) = ⊥
IsNewFault recordings config width height (File f) = ⊥

-- a copy that is too long, or Memory at one that isn't
abbrev pub IsFaultOfCopy : List ℕ → PlanFault → Type 0
IsFaultOfCopy copy (Hold f) = IsTakeFault copy f
IsFaultOfCopy copy (Setup f) = ⊥
IsFaultOfCopy copy (File f) = ⊥

-- the first of copies that is not taken: those before it are short enough
abbrev pub IsFaultOfCopies : List (List ℕ) → PlanFault → Type 0
IsFaultOfCopies copies fault = (i : ℕ) × (i < length copies) × AreShort (take i copies) × IsFaultOfCopy (slice_index_or copies i []) fault

-- what keeps a holding from going through a file: it has none, or Memory where it has one
abbrev pub IsRereadFault : Contents → HoldFileFault → Type 0
IsRereadFault h files.TooLong = IsTooLong h
IsRereadFault h files.Memory = ¬ IsTooLong h
IsRereadFault h _ = ⊥

-- that, of the holding of copies
abbrev pub IsFaultOfFile : Recordings → List ℕ → ℕ → ℕ → List (List ℕ) → PlanFault → Type 0
IsFaultOfFile recordings config width height copies (File f) =
    (reel : Reel) × IsReelOf recordings config width height reel × IsRereadFault (holding_of reel copies) f
IsFaultOfFile recordings config width height copies (Setup f) = ⊥
IsFaultOfFile recordings config width height copies (Hold f) = ⊥

-- nothing keeps the plan from being carried out for these recordings but Memory: the record has a setup at the size, the copies are short
-- enough, and what goes through a file has one
abbrev pub CanBeCarriedOut : Recordings → List ℕ → ℕ → ℕ → Plan → Type 0
CanBeCarriedOut recordings config width height plan =
    (reel : Reel) × IsReelOf recordings config width height reel × AreShort (copies_of plan) × RereadsFit reel plan

-- The refusal of the first of the plan's steps that is refused: those before it are carried out.
abbrev pub IsFirstPlanFault : Recordings → List ℕ → ℕ → ℕ → Plan → PlanFault → Type 0
IsFirstPlanFault recordings config width height New fault = IsNewFault recordings config width height fault
IsFirstPlanFault recordings config width height (Take' p before copy) fault = IsFirstPlanFault recordings config width height before fault
    ⊎ (CanBeCarriedOut recordings config width height before × IsFaultOfCopy copy.now fault)
IsFirstPlanFault recordings config width height (TakeAll' p before copies) fault = IsFirstPlanFault recordings config width height before fault
    ⊎ (CanBeCarriedOut recordings config width height before × IsFaultOfCopies (map (λ copy. copy.now) copies.now) fault)
IsFirstPlanFault recordings config width height (Join' p left q right) fault = IsFirstPlanFault recordings config width height left fault
    ⊎ (CanBeCarriedOut recordings config width height left × (IsFirstPlanFault recordings config width height right fault
    ⊎ (CanBeCarriedOut recordings config width height right × (fault ≡ Hold holds.Memory))))
IsFirstPlanFault recordings config width height (Reread' p before) fault = IsFirstPlanFault recordings config width height before fault
    ⊎ (CanBeCarriedOut recordings config width height before × IsFaultOfFile recordings config width height (copies_of before) fault)

-- both for recordings of the profile
abbrev pub IsCarriedOut : List ℕ → ℕ → ℕ → Plan → Type 0
IsCarriedOut config width height plan = CanBeCarriedOut Profile config width height plan

abbrev pub IsPlanFault : List ℕ → ℕ → ℕ → Plan → PlanFault → Type 0
IsPlanFault config width height plan fault = IsFirstPlanFault Profile config width height plan fault
