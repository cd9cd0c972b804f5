-- What the proofs use of the standard library, of the crates below and of the definitions.
pub use Rattle.std.proofs.Common.{Bool, Contains, Err, IfErr, IfNone, IfOk, IfSome, IsErrOf, IsTrue, List, None, Ok, OnOk, Option, Result, Some, [], add-one, ap, append-nil, append_assoc, arith, cond, drop, drop_at, false, get_or, inl, inr, le_refl, length, length-append, length-drop, length-take-le, map, max, nat_lt, refl, replicate, rules, slice_get, subst, suc, sym, take, take-append-drop, true, zero, ℕ, ◌&&◌, ◌*◌, ◌++◌, ◌+◌, ◌-◌, ◌<◌, ◌==◌, ◌^◌, ◌||◌, ◌∙◌, ◌∷◌, ◌≡◌, ◌≢◌, ◌≤◌}
pub use Rattle.std.proofs.KnownBytes.{Appends-nil, Appends-trans, Consumes-nil, Consumes-trans}
pub use Rattle.std.proofs.Math.ListN.{get_or-append}
pub use Rattle.std.proofs.Math.Seq.{drop-append_seam, drop-cons, get_or-append_right, take-append-le, take-append_seam, take-suc}
pub use Rattle.std.proofs.lemmas.Bool.{cases_lt, cases_order, eq-eqb, false_from_ne_true, le-ltb, lt-ltb, or_left, or_right}
pub use Rattle.std.proofs.lemmas.Grind.{common_steps}
pub use Rattle.std.proofs.lemmas.List.{drop-drop, drop_all, get_or-map, get_or_default, length-map, length-replicate, length-take, map-append, nil_from_length, take-map, take_all, take_at, take_more}
pub use Rattle.std.proofs.lemmas.List.Concat.{flat_map-append}
pub use Rattle.std.proofs.lemmas.List.Folds.{list_any-append}
pub use Rattle.std.proofs.lemmas.Nat.{be_bytes_2, be_bytes_4, from_be_bytes-to_be_bytes_2, from_be_bytes-to_be_bytes_4}
pub use Rattle.std.proofs.lemmas.Result.{IfErr-weaker, IfOk-weaker, err_from_is_err_and, on_ok_weaker}
pub use Rattle.std.specs.Cmp.{Equal-is, IsTotalOrder, nat_cmp_is, tied_itself}
pub use Rattle.std.specs.FinMap.{IsAntisymmetric}
pub use Rattle.std.specs.FinMap.Entries.{by_order, put}
pub use Rattle.std.specs.Int.{from_be_bytes, to_be_bytes, w16, w32}
pub use Rattle.std.specs.Io.KnownBytes.{Appends, Consumes, IsAtEnd}
pub use Rattle.std.specs.List.{AllByRecursion, filter, flat_map, list_any}
pub use Rattle.std.specs.Ordering.{eq_by_cmp, is_eq, nat_cmp, ordering_index, ordering_reverse, ordering_then}
pub use Rattle.std.specs.Prelude.{◌⊎◌}
pub use Rattle.std.specs.Result.{IsErrAnd}
pub use Rattle.std.specs.declared.cmp.Ordering.{Ordering}
pub use Rattle.std.specs.declared.cmp.Ordering.TheVariants.{Equal, Greater, Less}
pub use Rattle.ffv1_bits.specs.Limits.{file_limit, record_limit, slice_limit}
pub use Rattle.ffv1_bits.specs.Parity.{AreBytes}
pub use Rattle.ffv1_devices.proofs.Fronts.{front-after, front-append}
pub use Rattle.ffv1_devices.proofs.Steps.{GivesUp-after, GoesOn-refl, GoesOn-trans, StopsWriting-after, StopsWriting-of, Writes-nil, Writes-trans, WritesAll-after}
pub use Rattle.ffv1_devices.specs.Logs.{BreaksOff, GoesOn, ReadLog, Reads, StopsWriting, Tries, WriteLog, Writes}
pub use Rattle.ffv1_devices.specs.Results.{WritesAll}
pub use Rattle.ffv1_devices.specs.Touching.{WritesIfTouched}
pub use Rattle.ffv1_devices.specs.Writing.{WritesFront}
pub use Rattle.ffv1_range.specs.Setup.{IsScopedRecord, IsSetupOf, RecordingValue}
pub use Rattle.ffv1_range.specs.Header.{HeadLimits}
pub use Rattle.ffv1_range.specs.TileHeaders.{TileRules, is_in_profile, rules_of}
pub use Rattle.ffv1_range.specs.declared.fault.SetupFault.{SetupFault}
pub use Rattle.ffv1_slice.proofs.SliceFacts.{slice_in_grid}
pub use Rattle.ffv1_slice.specs.Slices.{IsSliceOf}
pub use borrow.Rule.Slice.PartMut.{put_mid}
pub use mathlib.Core.Bool.{and-false, or-false, or_assoc, true≢false}
pub use Rattle.ffv1_hold.specs.FileEntries.{KeepsMagic, AreDigestsIn, AreEntries, AreOrigins, Follows, FollowsDigest, HasText, HasTextAfter, IsDigest, IsFileEntryOf, file_entry_cmp, last_of}
pub use Rattle.ffv1_hold.specs.FileFaults.{BeginsMagic, BodyShows, EndShows, EntriesShow, EntryShows, FileIsWhole, FileShows, IsEntryInPlace, IsFaultOf, IsFileReel, IsHoldingText, IsMagic, IsOutside, IsPartAfter, IsPartOfBody, IsPartOfEntries, IsPartOfEntry, IsPartOfFile, IsPartOfMagic, IsPartOfOrigins, IsPartOfReel, IsPartOfSlice, MayRead, MayTake, IsWrong, MagicShows, OriginsShow, ReadsFile, ReelIsWhole, ReelShows, Returns, ShowsAfter, SliceIsTooLong, SliceShows, recordings_of}
pub use Rattle.ffv1_hold.specs.Headline.{IsReelOf}
pub use Rattle.ffv1_hold.specs.HoldingText.{FileEntry, CanBeFirst, FitsInFile, HasFileVersion, IsNoKeyframe, IsOfAnyFrames, IsStated, IsTextOf, TellsMagic, begun_text, entry_text, file_text, holding_text, magic, origins_limit, text_after_slice, version_number}
unfoldable pub use Rattle.ffv1_hold.specs.HoldingText.{be2, be4, body_text, entries_text, file_entries, head_text, origins_text, sized_record, slice_text}
pub use Rattle.ffv1_hold.specs.Inner.FileEntries.{next_text}
pub use Rattle.ffv1_hold.specs.Inner.FileFaults.{EndIsWhole, EntriesAreWhole, HeadIsWhole, HeadShows, IsPartOfHead, IsReelAfter}
pub use Rattle.ffv1_hold.specs.Inner.MergeLogs.{StopsEntry}
pub use Rattle.ffv1_hold.specs.Inner.Merging.{AreReels, IsBegun, KeepsAll, KeepsNext, KeepsUnion, union_reel, AreVersions, Ends, EntryStops, Facts, FollowsAll, HeadRefuses, HeadsRefuse, IsOpened, IsPassed, IsReadUpTo, IsTurn, MergeIsRefused, ReadsToNext, Stands, Start, Stops, StopsAtWrite, both, digests_union, inputs_from, no_facts, part, with_digests, with_file_entry}
pub use Rattle.ffv1_hold.specs.Inner.ReadOrigins.{DigestShows, TakesDigest}
pub use Rattle.ffv1_hold.specs.Inner.Reading.{IsShorter, Never, ReadsText, Takes, TakesText}
pub use Rattle.ffv1_hold.specs.Inner.Saving.{AreWithinLimit, AreWritable, entries_length, file_entries_below, tile_file_entries}
pub use Rattle.ffv1_hold.specs.MergeLogs.{AllGoOn, Devices, MergeWent, OneStops, TakesAtMost, is_write}
pub use Rattle.ffv1_hold.specs.MergedStreams.{BeginsWithHead, BeginsWithPart, BothRefuse, EntriesPass, InputRefuses, Inputs, IsFileOf, IsFileOfSome, LeftRefusesFirst, MergeRefuses, OneRefuses, ReadsAll, ReadsOtherHeads, ReadsPart, ReadsSoFar, ReturnsOther, ReturnsUnion, ShowsNoFault, StaysInReadLimit, StreamBegins, UnionPasses, WritesAtMost, WritesEntries, WritesFrontSoFar, WritesNoEnd, WritesUnion}
pub use Rattle.ffv1_hold.specs.Plans.{CanBeCarriedOut, IsCarriedOut, IsFaultOfCopies, IsFaultOfCopy, IsFaultOfFile, IsFirstPlanFault, IsPlanFault, IsRereadFault, RereadsFit, copies_of}
pub use Rattle.ffv1_hold.specs.JoinedStreams.{JoinsStreams}
pub use Rattle.ffv1_hold.specs.ReadLimits.{AreAllDigests, EndsFirstOpen, IsReadLimitOf, LiesWhole}
pub use Rattle.ffv1_hold.specs.Reading.{EndsIn, GoesOnIn, PassesIn, Refuses, StopsAt, StopsIn, WentBefore, is_read}
pub use Rattle.ffv1_hold.specs.Saving.{IsTooLong}
pub use Rattle.ffv1_hold.specs.UnitedHoldings.{AreOfOneRecord, reel_of_both, united}
pub use Rattle.ffv1_hold.specs.declared.entry.HeldSlice.TheInside.{Inside}
pub use Rattle.ffv1_hold.specs.declared.file_fault.HoldFileFault.{HoldFileFault}
pub use Rattle.ffv1_hold.specs.declared.file_fault.HoldFileFault.TheVariants.{Write}
pub use Rattle.ffv1_hold.specs.declared.plan.Plan.{Plan}
pub use Rattle.ffv1_hold.specs.declared.plan.PlanFault.{PlanFault}
pub use Rattle.ffv1_hold.specs.declared.plan.PlanFault.TheVariants.{File, Hold}
pub use Rattle.ffv1_hold.specs.declared.version.Version.{Version}
pub use Rattle.ffv1_hold.specs.declared.version.Version.TheVariants.{First, Second}
pub use Rattle.ffv1_holding.proofs.ContentsLaws.{holding_of-same, joined-holding_of, with_copies-holding_of, with_found-holding_of}
pub use Rattle.ffv1_holding.proofs.EntrySteps.{all-insert, all-union, or_cases}
pub use Rattle.ffv1_holding.proofs.ExactlyHeld.{near_exact}
pub use Rattle.ffv1_holding.proofs.ItemsRise.{items-insert_last, items-rising, rising-append, rising_one}
pub use Rattle.ffv1_holding.proofs.Lists.{flat_map-range_more}
pub use Rattle.ffv1_holding.proofs.OriginSteps.{both_tie, held_each, held_union, whole_each, whole_union}
pub use Rattle.ffv1_holding.proofs.Reels.{one_record, profile_record_reel, record_reel_is, reel_is, reel_limits, reel_small, reel_tiles_few, same_in_frames, setup_reel_of}
pub use Rattle.ffv1_holding.proofs.RisingSets.{contains_item, insert_present, items-empty, items-from_list, or_absorbed, rising_rest, size-items, union-insert}
pub use Rattle.ffv1_holding.proofs.Tiles.{any-other, any-same, contains-tile_slices}
pub use Rattle.ffv1_holding.specs.Contents.{AreDigests, Contents, IsEntryOf, AreOwnEntries, IsHolding, IsSameReel, with_reel, digests_of, holding_of, joined, no_slices, with_copies, with_entry, with_found}
pub use Rattle.ffv1_holding.specs.HoldingParts.{IsKept, contents}
pub use Rattle.ffv1_holding.specs.Inner.TileSets.{entries_below, tile_entries}
pub use Rattle.ffv1_holding.specs.Originals.{AreNear, HoldsExactly}
pub use Rattle.ffv1_holding.specs.Reels.{FirstRecordFault, WantsMemory, IsOwnReel, IsReel, IsRecordReel, IsRecordingFor, Reel, in_frames, reel_of, reel_tiles}
pub use Rattle.ffv1_holding.specs.declared.recordings.Recordings.{Recordings}
pub use Rattle.ffv1_holding.specs.declared.recordings.Recordings.TheVariants.{Any, Profile}
pub use Rattle.ffv1_holding.specs.Rising.{IsRising}
pub use Rattle.ffv1_holding.specs.SliceOrder.{Entry, Origin, bytes_antisymmetric, bytes_cmp, bytes_total, entries_antisymmetric, entries_total, entry_cmp, origin_cmp, origins_antisymmetric, origins_total, with_each}
pub use Rattle.ffv1_holding.specs.TakeFaults.{AreShort}
pub use Rattle.ffv1_holding.specs.TileSets.{tile_slices}
unfoldable pub use Rattle.ffv1_holding.specs.TileSets.{digests_in}
pub use Rattle.ffv1_holding.specs.declared.fault.HoldFault.{HoldFault}
pub use Rattle.ffv1_holding.specs.declared.fault.HoldFault.TheVariants.{Memory, OtherReel, PayloadTooLong}
