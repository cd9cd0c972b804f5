-- The commands from copies to a frame: whatever trees of `take`, `join` and `merge` lead from copies to a holding file, the same copies give
-- one file and one report, and where the copies are an original's, what `restore` writes of the file is the original.
use Rattle.std.specs.Prelude.{ℕ, ◌≡◌, ◌<◌, ◌⊎◌, Bool, List, [], ◌++◌, map, length, Option, Some, slice_index_or, Contains}
use Rattle.std.specs.List.{flat_map}
use Rattle.std.specs.Io.KnownBytes.{Appends}
use Rattle.ffv1_range.specs.Setup.{SetupValue, IsSetupOf}
use Rattle.ffv1_range.specs.TileHeaders.{profile_rules}
use Rattle.ffv1_slice.specs.Slices.{IsOriginal, found_slices}
use Rattle.ffv1_holding.specs.Reels.{Reel}
use Rattle.ffv1_holding.specs.Contents.{Contents, holding_of, HasSameCopies}
use Rattle.ffv1_holding.specs.declared.recordings.Recordings.TheVariants.{Profile}
use Rattle.ffv1_holding.specs.declared.recordings.Recordings.{Recordings}
use Rattle.ffv1_holding.specs.Originals.{AreCopiesOfSlices, AreNear}
use Rattle.ffv1_hold.specs.Restorations.{AreEqualInAll, ShowsSlices}
use Rattle.ffv1_picture.specs.declared.frame.Frame.{Frame}
use Rattle.ffv1_commands.specs.TakenFrames.{IsTakenReel, IsFiled}
use Rattle.ffv1_commands.specs.Holdings.{IsHoldingFile}
use Rattle.ffv1_commands.specs.TakeText.{TakesCopies}
use Rattle.ffv1_commands.specs.JoinText.{JoinsFiles}
use Rattle.ffv1_commands.specs.MergeText.{MergesFiles}
use Rattle.ffv1_commands.specs.RestoreText.{RestoresFile, RestoreStops}
use Rattle.ffv1_commands.specs.ReportedText.{ReportsFile}
use Rattle.ffv1_commands.specs.PictureText.{ShowsFile, PictureStops}
use Rattle.ffv1_commands.specs.FrameText.{raw_bytes}
use Rattle.ffv1_commands.specs.declared.fault.CliFault.{CliFault}
use Rattle.ffv1_commands.specs.declared.fault.CliFault.TheVariants as faults

-- The file is what commands make of the copies, for one record and size: `take` made it of the copies themselves, or `join` or `merge` of
-- files that are each made of a part of them. The bytes of the readers are known, and those that are written, into a file that was empty.
pub data IsMadeOf (recordings : Recordings) (config : List ℕ) (width height : ℕ) : List (List ℕ) → List ℕ → Type 0 where
  by_take : (copies : List (List ℕ)) (file : List ℕ) (printed_before printed_after : Option (List ℕ)) (in_order : Bool)
      → TakesCopies recordings (Some config) width height (map Some copies) (Some []) (Some file) printed_before printed_after in_order
      → IsMadeOf recordings config width height copies file
  by_join : (parts : List (List (List ℕ))) (files : List (List ℕ)) (file : List ℕ) (printed_before printed_after : Option (List ℕ))
      → length parts ≡ length files
      → ((i : ℕ) → i < length files → IsMadeOf recordings config width height (slice_index_or parts i []) (slice_index_or files i []))
      → JoinsFiles recordings (map Some files) (Some []) (Some file) printed_before printed_after
      → IsMadeOf recordings config width height (flat_map (λ part. part) parts) file
  by_merge : (lefts rights : List (List ℕ)) (left right file : List ℕ)
      → IsMadeOf recordings config width height lefts left → IsMadeOf recordings config width height rights right
      → MergesFiles recordings (Some left) (Some right) (Some []) (Some file)
      → IsMadeOf recordings config width height (lefts ++ rights) file

-- the fault is of no input's bytes: an input was not read, an output was not written, or memory ran out
abbrev pub IsNoFaultOfBytes : CliFault → Type 0
IsNoFaultOfBytes (faults.Read path) = Unit {0}
IsNoFaultOfBytes (faults.Write path) = Unit {0}
IsNoFaultOfBytes faults.Memory = Unit {0}
IsNoFaultOfBytes _ = ⊥

-- What is restored of a file is these bytes: where `restore` returns Ok, it wrote them and nothing else, and where it is refused, an input
-- was not read, an output not written, or memory ran out.
pub record RestoresOnly (recordings : Recordings) (file original : List ℕ) : Type 0 where
  pub written : (out_before out_after printed_before printed_after : Option (List ℕ))
      → RestoresFile recordings (Some file) out_before out_after printed_before printed_after → Appends out_before out_after original
  pub refused : (out_before out_after printed_before printed_after : Option (List ℕ)) (fault : CliFault)
      → RestoreStops recordings (Some file) out_before out_after printed_before printed_after fault → IsNoFaultOfBytes fault

-- What is shown of a file is what the slices spell: where `picture` returns Ok, it wrote the samples of a frame, each of which is the one
-- that the greatest decoded tile covering it spells, by these slices of the tiles; where it is refused, an input was not
-- read, an output not written, or memory ran out.
pub record ShowsOnly (setup : SetupValue) (file : List ℕ) (slices : List (List ℕ)) : Type 0 where
  pub written : (out_before out_after printed_before printed_after : Option (List ℕ)) (whole : Bool)
      → ShowsFile (Some file) out_before out_after printed_before printed_after whole
      → (frame : Frame) × ShowsSlices setup slices frame × Appends out_before out_after (raw_bytes frame)
  pub refused : (out_before out_after printed_before printed_after : Option (List ℕ)) (fault : CliFault)
      → PictureStops (Some file) out_before out_after printed_before printed_after fault → IsNoFaultOfBytes fault

-- ---- laws

-- What commands make of copies is the file of the one holding that has just what is found in them, whatever tree of commands leads
-- there.
abbrev pub MadeOfCopies : Type 0
MadeOfCopies =
    (recordings : Recordings) (config : List ℕ) (width height : ℕ) (copies : List (List ℕ)) (file : List ℕ)
    → IsMadeOf recordings config width height copies file
    → (reel : Reel) × IsTakenReel recordings config width height reel
    × ((filed : Contents) × IsFiled (holding_of reel copies) filed × IsHoldingFile recordings (Some file) filed)

-- The same is found in the copies, whether these recordings are taken or those: as they are the same, or as no slice that is found is of a frame
-- between keyframes of the profile.
abbrev pub FindTheSame : (recordings also : Recordings) → List ℕ → ℕ → ℕ → List (List ℕ) → Type 0
FindTheSame recordings also config width height copies = (recordings ≡ also)
    ⊎ ((r s : Reel) → IsTakenReel recordings config width height r → IsTakenReel also config width height s
    → (copy : List ℕ) → Contains copies copy → found_slices r.rules copy ≡ found_slices s.rules copy)

-- However the same copies are ordered, grouped or repeated, and whether any recording is taken or only those of the profile, if the same is
-- found in them so, the files made of them are equal byte for byte, ..
abbrev pub SameCopiesMakeOneFile : Type 0
SameCopiesMakeOneFile =
    (recordings also : Recordings) (config : List ℕ) (width height : ℕ) (copies others : List (List ℕ)) (file other : List ℕ)
    → IsMadeOf recordings config width height copies file → IsMadeOf also config width height others other → HasSameCopies copies others
    → FindTheSame recordings also config width height copies
    → file ≡ other

-- .. what is read of them is equal in every tile and origin, ..
abbrev pub SameCopiesMakeOneHolding : Type 0
SameCopiesMakeOneHolding =
    (recordings also : Recordings) (config : List ℕ) (width height : ℕ) (copies others : List (List ℕ)) (file other : List ℕ) (h g : Contents)
    → IsMadeOf recordings config width height copies file → IsMadeOf also config width height others other → HasSameCopies copies others
    → FindTheSame recordings also config width height copies
    → IsHoldingFile recordings (Some file) h → IsHoldingFile also (Some other) g
    → AreEqualInAll h g

-- .. and so are their reports.
abbrev pub SameCopiesMakeOneReport : Type 0
SameCopiesMakeOneReport =
    (recordings also : Recordings) (config : List ℕ) (width height : ℕ) (copies others : List (List ℕ)) (file other report other_report : List ℕ)
    → IsMadeOf recordings config width height copies file → IsMadeOf also config width height others other → HasSameCopies copies others
    → FindTheSame recordings also config width height copies
    → ReportsFile recordings (Some file) (Some []) (Some report) → ReportsFile also (Some other) (Some []) (Some other_report)
    → report ≡ other_report

-- Where every slice found in the copies is the original's for its tile, and each tile's is found in some copy, what is restored of a
-- file made of them is the original byte for byte.
abbrev pub CommandsRestoreTheOriginal : Type 0
CommandsRestoreTheOriginal =
    (recordings : Recordings) (config : List ℕ) (width height : ℕ) (reel : Reel) (copies : List (List ℕ)) (file original : List ℕ) (slices : List (List ℕ))
    → IsTakenReel recordings config width height reel → IsMadeOf recordings config width height copies file
    → IsOriginal reel.rules original slices → AreCopiesOfSlices reel.rules slices copies
    → RestoresOnly recordings file original

-- So it is where each copy is near the original, and each of its slices is intact in one of them.
abbrev pub CommandsRestoreNearCopies : Type 0
CommandsRestoreNearCopies =
    (recordings : Recordings) (config : List ℕ) (width height : ℕ) (reel : Reel) (copies : List (List ℕ)) (file original : List ℕ) (slices : List (List ℕ))
    → IsTakenReel recordings config width height reel → IsMadeOf recordings config width height copies file
    → AreNear reel.rules original slices copies
    → RestoresOnly recordings file original

-- Then, of a recording of the profile, each sample shown of the file is the one that the greatest decoded tile covering it spells.
abbrev pub CommandsShowTheOriginal : Type 0
CommandsShowTheOriginal =
    (config : List ℕ) (width height : ℕ) (setup : SetupValue) (copies : List (List ℕ)) (file original : List ℕ) (slices : List (List ℕ))
    → IsSetupOf config width height setup → IsMadeOf Profile config width height copies file
    → IsOriginal (profile_rules setup) original slices → AreCopiesOfSlices (profile_rules setup) slices copies
    → ShowsOnly setup file slices

-- So it is of near copies.
abbrev pub CommandsShowNearCopies : Type 0
CommandsShowNearCopies =
    (config : List ℕ) (width height : ℕ) (setup : SetupValue) (copies : List (List ℕ)) (file original : List ℕ) (slices : List (List ℕ))
    → IsSetupOf config width height setup → IsMadeOf Profile config width height copies file
    → AreNear (profile_rules setup) original slices copies
    → ShowsOnly setup file slices
