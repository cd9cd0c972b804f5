-- What copies of a frame come to: the holding, and what is restored and shown of it.
use Rattle.std.specs.Prelude.{◌≡◌, ◌≢◌, ℕ, ◌<◌, List, length, Option, None, Result, Ok, Err, Vec, slice_index_or}
use Rattle.std.specs.declared.alloc.Global.{Global}
use Rattle.ffv1_range.specs.Setup.{SetupValue}
use Rattle.ffv1_range.specs.TileHeaders.{TileRules}
use Rattle.ffv1_slice.specs.Slices.{IsOriginal}
use Rattle.ffv1_holding.specs.declared.recordings.Recordings.TheVariants.{Profile}
use Rattle.ffv1_holding.specs.Contents.{Contents, holding_of, digests_of}
use Rattle.ffv1_holding.specs.TileState.{tile_state, restored_payload, AreSettled, IsLeastStatus}
use Rattle.ffv1_holding.specs.Refusals.{IsRefusal}
use Rattle.ffv1_holding.specs.Originals.{AreCopiesOfSlices}
use Rattle.ffv1_hold.specs.HoldingText.{holding_text}
use Rattle.ffv1_hold.specs.Headline.{IsReelOf}
use Rattle.ffv1_hold.specs.Plans.{copies_of, IsCarriedOut, IsPlanFault}
use Rattle.ffv1_hold.specs.declared.plan.Plan.{Plan}
use Rattle.ffv1_holding.specs.declared.restore.RestoreFault.{RestoreFault}
use Rattle.ffv1_holding.specs.declared.restore.RestoreFault.TheVariants as refusals
use Rattle.ffv1_picture.specs.WholePicture.{Planes}
use Rattle.ffv1_picture.specs.TilePictures.{IsPictureOfSlice}
use Rattle.ffv1_picture.specs.Frames.{IsFrameOf}
use Rattle.ffv1_holding.specs.ReportText.{report_text, slices_held}
use Rattle.ffv1_picture.specs.declared.frame.Frame.{Frame}
use Rattle.ffv1_hold.specs.declared.restoring.RestorationFault.{RestorationFault}
use Rattle.ffv1_hold.specs.declared.restoring.RestorationFault.TheVariants as faults

-- ---- the same copies

-- The holding is what the plan comes to for a record and a size: it holds what is found in the plan's copies.
pub record IsHoldingOfPlan (config : List ℕ) (width height : ℕ) (plan : Plan) (h : Contents) : Type 0 where
  pub reel : IsReelOf Profile config width height h.reel
  pub meaning : h ≡ holding_of h.reel (copies_of plan)

-- The holdings are equal in every tile, origin, file byte and report line.
pub record AreEqualInAll (a b : Contents) : Type 0 where
  pub states : (tile : ℕ) → tile_state a tile ≡ tile_state b tile
  pub held : (tile : ℕ) → length (slices_held a tile) ≡ length (slices_held b tile)
  pub statuses : (tile : ℕ) (least : Option ℕ) → IsLeastStatus (slices_held a tile) least → IsLeastStatus (slices_held b tile) least
  pub origins : (tile : ℕ) (slice : List ℕ) → digests_of a (tile, slice) ≡ digests_of b (tile, slice)
  pub file : holding_text a ≡ holding_text b
  pub report : report_text a ≡ report_text b

-- ---- what is restored

-- The settled slices joined, where every tile is settled; else the first tile that isn't.
abbrev pub IsRestored : Contents → Result (Vec ℕ Global) RestoreFault → Type 0
IsRestored h (Ok payload) = AreSettled h × (payload.items ≡ restored_payload h)
IsRestored h (Err refusal) = IsRefusal h refusal × (refusal ≢ refusals.Memory)

-- ---- copies of an original

-- Every slice that is found in the plan's copies is the original's for its tile, and each tile's is found in some copy.
pub record IsPlanFor (rules : TileRules) (plan : Plan) (original : List ℕ) (slices : List (List ℕ)) : Type 0 where
  pub is_original : IsOriginal rules original slices
  pub are_copies : AreCopiesOfSlices rules slices (copies_of plan)

-- Each sample of the frame is the one that the greatest decoded tile covering it spells, by these slices of the tiles.
pub record ShowsSlices (setup : SetupValue) (slices : List (List ℕ)) (frame : Frame) : Type 0 where
  pub pictures : List (Option Planes)
  pub count : length pictures ≡ length slices
  pub each : (tile : ℕ) (d : List ℕ) → tile < length slices → IsPictureOfSlice setup tile (slice_index_or slices tile d) (slice_index_or pictures tile None)
  pub is_frame : IsFrameOf setup pictures frame

-- ---- refusals

-- a refusal of one of the plan's steps, or Memory after them all
abbrev pub IsRestorationFault : List ℕ → ℕ → ℕ → Plan → RestorationFault → Type 0
IsRestorationFault config width height plan (faults.Plan fault) = IsPlanFault config width height plan fault
IsRestorationFault config width height plan faults.Memory = IsCarriedOut config width height plan
