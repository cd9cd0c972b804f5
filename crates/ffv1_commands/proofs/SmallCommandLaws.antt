-- What `restore` makes of a file of copies is what is restored from them by the function by which the record's rules read a header.
use Rattle.std.proofs.Common.{◌≡◌, ℕ, ◌*◌, List, Option, Some, None, Result, Ok, Err, sym, ap, ◌∙◌, subst}
use Rattle.ffv1_range.specs.Setup.{RecordingValue}
use Rattle.ffv1_range.specs.SetupForms.{all_granted, record_read}
use Rattle.ffv1_range.specs.TileHeaders.{rules_of}
use Rattle.ffv1_range.specs.Frames.{by_frames}
use Rattle.ffv1_range.specs.declared.frames.Frames.{Frames}
use Rattle.ffv1_range.specs.declared.fault.SetupFault.{SetupFault}
use Rattle.ffv1_range.proofs.SetupLaws.{record-run}
use Rattle.ffv1_holding.specs.declared.recordings.Recordings.{Recordings}
use Rattle.ffv1_holding.specs.Recordings.{scope_of}
use Rattle.ffv1_holding.specs.Reels.{Reel, reel_tiles}
use Rattle.ffv1_holding.specs.Contents.{Contents, holding_of}
use Rattle.ffv1_holding.specs.TileState.{AreSettled, restored_payload, IsLeastUnsettled}
use Rattle.ffv1_holding.specs.Small.{TileOf, IsRestoredFrom}
use Rattle.ffv1_holding.specs.SmallNotions.{tile_by}
use Rattle.ffv1_holding.proofs.SmallStates.{restored_of_holding}
use Rattle.ffv1_commands.specs.Holdings.{IsHoldingFile}
use Rattle.ffv1_commands.specs.RestoreText.{RestoreStops}
use Rattle.ffv1_commands.specs.Commands.{IsNoFaultOfBytes}
use Rattle.ffv1_commands.specs.SmallCommands.{RestoresBy, CommandsRestoreByAFunction}
use Rattle.ffv1_commands.specs.declared.fault.CliFault.{CliFault}
use Rattle.ffv1_commands.specs.declared.fault.CliFault.TheVariants as faults
use Rattle.ffv1_commands.specs.TakenFrames.{frames_of, in_taken_frames, as_taken}
use Rattle.ffv1_commands.proofs.CommandLaws.{IsFileOfCopies, read_taken, made, made_no_fault, unsettled_taken}

-- the function and the number of tiles that a record gives, where it is one
record Tiling : Type 0 where
  tile_of : TileOf
  tiles : ℕ

abbrev tiling : Frames → Result RecordingValue SetupFault → Tiling
tiling frames (Ok recording) = record { tile_of = tile_by (by_frames frames (rules_of recording)); tiles = recording.setup.across * recording.setup.down }
tiling frames (Err fault) = record { tile_of = λ content first. None; tiles = 0 }

unfoldable tiling_of : Recordings → List ℕ → ℕ → ℕ → Tiling
tiling_of recordings config width height = tiling (frames_of recordings) (record_read all_granted config (scope_of recordings) width height)

abbrev tiling_by : Reel → Tiling
tiling_by reel = record { tile_of = tile_by reel.rules; tiles = reel_tiles reel }

module _ (recordings : Recordings) (config : List ℕ) (width height : ℕ) (copies : List (List ℕ)) (file : List ℕ)
    (is : IsFileOfCopies recordings config width height copies file) where
  one_tiling : tiling_by is.reel ≡ tiling_of recordings config width height
  unfolding tiling_of
  one_tiling =
      let (recording, read, own) = is.of_record.1 in
      ap tiling_by (is.of_record.2 ∙ ap (in_taken_frames recordings) own)
      ∙ sym (ap (tiling (frames_of recordings)) (record-run config (scope_of recordings) width height recording read))

  read : (h : Contents) → IsHoldingFile recordings (Some file) h → as_taken recordings h ≡ holding_of is.reel copies
  read h file_is = read_taken recordings config width height copies file is h file_is

  settled : (payload : List ℕ) → IsRestoredFrom (tile_by is.reel.rules) (reel_tiles is.reel) copies payload → (h : Contents)
      → IsHoldingFile recordings (Some file) h
      → (tile : ℕ) → IsLeastUnsettled h tile → ⊥
  settled payload restored h file_is tile least =
      let own : IsLeastUnsettled (holding_of is.reel copies) tile = subst (λ (g : Contents). IsLeastUnsettled g tile) (read h file_is)
      (unsettled_taken recordings h tile least) in
      own.unsettled (((restored_of_holding is.reel copies payload).0 restored).0 tile own.in_grid)

  refused : (payload : List ℕ) → IsRestoredFrom (tile_by is.reel.rules) (reel_tiles is.reel) copies payload
      → (ob oa pb pa : Option (List ℕ)) (fault : CliFault)
      → RestoreStops recordings (Some file) ob oa pb pa fault → IsNoFaultOfBytes fault
  refused payload restored ob oa pb pa (faults.Read path) stops = tt
  refused payload restored ob oa pb pa (faults.Write path) stops = tt
  refused payload restored ob oa pb pa (faults.HoldFile fault) stops = made_no_fault recordings config width height copies file is fault stops
  refused payload restored ob oa pb pa (faults.Missing tile) (h, file_is, refusal) = settled payload restored h file_is tile refusal.0
  refused payload restored ob oa pb pa (faults.Disputed tile) (h, file_is, refusal) = settled payload restored h file_is tile refusal.0
  refused payload restored ob oa pb pa faults.Memory stops = tt
  refused payload restored ob oa pb pa fault stops = stops

  restores_by : RestoresBy (tile_by is.reel.rules) (reel_tiles is.reel) copies recordings file
  restores_by = record {
    written = λ ob oa pb pa does.
        let same : as_taken recordings does.held ≡ holding_of is.reel copies = read does.held does.file in (
          restored_payload does.held,
          (restored_of_holding is.reel copies (restored_payload does.held)).1 (subst AreSettled same does.settled, ap restored_payload same),
          does.payload,
        );
    refused = λ ob oa pb pa fault stops payload restored. refused payload restored ob oa pb pa fault stops;
  }

  by_tiling : RestoresBy (tiling_of recordings config width height).tile_of (tiling_of recordings config width height).tiles copies recordings file
  by_tiling = subst (λ (t : Tiling). RestoresBy t.tile_of t.tiles copies recordings file) one_tiling restores_by

pub commands_restore_by_a_function : CommandsRestoreByAFunction
commands_restore_by_a_function recordings config width height = (
  (tiling_of recordings config width height).tile_of,
  (tiling_of recordings config width height).tiles,
  λ copies file is. by_tiling recordings config width height copies file (made recordings config width height copies file is),
)
