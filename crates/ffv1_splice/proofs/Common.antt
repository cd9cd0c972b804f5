-- What the proofs use of the standard library, of the crates below and of the definitions.
pub use Rattle.std.proofs.Common.{Bool, Bor, Global, List, None, Option, Some, Vec, [], ap, arith, below_more, cond, drop, eqb, false, get_or, get_or-drop, inl, inr, length, ltb, ltb-true, map, min, mul-zero, refl, replicate, subst, suc, sym, take, take-append-drop, true, zero, ℕ, ◌%◌, ◌*◌, ◌++◌, ◌+◌, ◌-◌, ◌/◌, ◌<◌, ◌^◌, ◌∙◌, ◌∷◌, ◌≡◌, ◌≤◌}
pub use Rattle.std.proofs.Math.ListN.{get_or-eq_default}
pub use Rattle.std.proofs.Math.Path.{fun_ext}
pub use Rattle.std.proofs.Math.Seq.{drop-append_seam, get_or-append_seam, take-add}
pub use Rattle.std.proofs.lemmas.Bool.{and_parts, cases_eq, cases_lt, eq-eqb, eqb-false, eqb-true, true_from_ne_false}
pub use Rattle.std.proofs.lemmas.Cmp.{nat_list_cmp_total, tied_itself}
pub use Rattle.std.proofs.lemmas.Grind.{flat_map-append}
pub use Rattle.std.proofs.lemmas.List.{append-nil, append_assoc, drop-append-le, drop-drop, drop-replicate, drop-take, drop_all, ext_get_or, get_or-append_right, get_or-map, get_or-replicate, get_or-reverse, get_or-take, get_or_append_left, get_or_default, length-append, length-drop, length-map, length-replicate, length-reverse, length-take, length-take-le, map-append, map_push, reverse-append, take-append-le, take-replicate, take-take, take_all, take_more}
pub use Rattle.std.proofs.lemmas.List.Elements.{All-append, All-cons, All-contains, All-contains_itself, All-head, All-map, All-nil, All-tail, All-weaker, Contains-append_cases, Contains-append_left, Contains-append_right, Contains-get_or}
pub use Rattle.std.proofs.lemmas.List.Folds.{sum_by-replicate}
pub use Rattle.std.proofs.lemmas.List.Sums.{sum_by-append}
pub use Rattle.std.proofs.lemmas.Nat.{be_bytes_4}
pub use Rattle.std.proofs.lemmas.Option.{MatchOption-at_none, MatchOption-at_some}
pub use Rattle.std.proofs.lemmas.Result.{IfOk-weaker}
pub use Rattle.std.proofs.lemmas.Slice.{between-put_mid, between_is, drop-put_mid, take-put_mid, take-put_mid_below}
pub use Rattle.std.specs.Cmp.Lexicographic.{slice_cmp}
pub use Rattle.std.specs.FinMap.{nat_cmp-IsAntisymmetric, slice_cmp-IsAntisymmetric}
unfoldable pub use Rattle.std.specs.Fmt.{digits}
pub use Rattle.std.specs.List.{list_all}
pub use Rattle.std.specs.Option.{option_eq}
pub use Rattle.std.specs.Ordering.{is_lt, nat_cmp, ord_min, ordering_reverse}
pub use Rattle.std.specs.Prelude.{All, Contains, IsFalse, IsTrue, MatchOption, bit_xor, codes, reverse, slice_range, sum, ◌==◌, ◌↔◌, ◌⊎◌}
pub use Rattle.std.specs.declared.cmp.Ordering.{Ordering}
pub use Rattle.std.specs.declared.cmp.Ordering.TheVariants.{Equal, Greater, Less}
pub use Rattle.byteorder.specs.Endian.{big_bytes, big_number}
pub use Rattle.ffv1_bits.proofs.Burst.{burst}
pub use Rattle.ffv1_bits.proofs.Bytes.{AreBytes-range}
unfoldable pub use Rattle.ffv1_bits.specs.Bits.{bits_of, number_bits}
pub use Rattle.ffv1_bits.specs.Limits.{slice_limit}
pub use Rattle.ffv1_bits.specs.Parity.{AreBytes, PassesParity}
unfoldable pub use Rattle.ffv1_bits.specs.Parity.{divided, polynomial_of, remainder_of}
pub use Rattle.ffv1_slice.proofs.FoundLaws.{bytes_of_tile, original_cut}
pub use Rattle.ffv1_slice.proofs.Links.{least_end, turn_some, walked-fuel, walked-more, walked-none}
pub use Rattle.ffv1_slice.proofs.NearLaws.{length-range, same_size_field, size_of_range}
pub use Rattle.ffv1_slice.proofs.Places.{FooterGivesAt, end_of_tile, starts_none, tile_of_cut}
pub use Rattle.ffv1_slice.specs.Chain.{FooterGives, IsEnd, IsFramed, IsLinkOf, LinkValue, link_of, size_before}
pub use Rattle.ffv1_slice.specs.Chain.IsEnd.{before, last}
pub use Rattle.ffv1_slice.specs.Members.{HasSameMembers, IsOfNone, IsOfTwo, IsOnly}
pub use Rattle.ffv1_slice.specs.Near.{IsDamagedWithin32, IsNear, starts_at, version_at}
pub use Rattle.ffv1_slice.specs.TileHeaders.{TileRules}
pub use Rattle.ffv1_slice.specs.Slices.{IsOriginal, IsSliceOf}
pub use Rattle.ffv1_slice.specs.Walk.{walk_at, walked}
pub use Rattle.ffv1_weave.proofs.Agreeing.{agree_past, some_differ}
pub use Rattle.ffv1_weave.proofs.AmongTried.{are_among_tried, original_is_woven}
pub use Rattle.ffv1_weave.proofs.ChoiceSteps.{alone}
pub use Rattle.ffv1_weave.proofs.Choices.{length-written, range_at, same_range}
pub use Rattle.ffv1_weave.proofs.FewByByte.{IsPlacewise, few_changed}
pub use Rattle.ffv1_weave.proofs.FoundSteps.{two_as}
pub use Rattle.ffv1_weave.proofs.Mapped.{mapped_of, mapped_there, same_mapped}
pub use Rattle.ffv1_weave.proofs.References.{all_values, each_value, length-values_of, next_value, nowhere, value_at, value_there}
pub use Rattle.ffv1_weave.proofs.RepairLaws.{original_is_repaired, same_versions_repair}
pub use Rattle.ffv1_weave.proofs.Tried.{tried_combination}
pub use Rattle.ffv1_weave.proofs.VoteLaws.{original_is_voted, same_versions_vote}
pub use Rattle.ffv1_weave.proofs.WeaveLaws.{same_back, same_versions_weave, weave_as}
pub use Rattle.ffv1_weave.proofs.WiderRegions.{region_around, region_of}
pub use Rattle.ffv1_weave.specs.Boundaries.{IsSegment}
pub use Rattle.ffv1_weave.specs.Combinations.{HasFew, IsAmongTried, IsCombination, IsCombinationBy, IsTriedBy}
pub use Rattle.ffv1_weave.specs.Laws.{HasEachByte, KeepsOriginal}
pub use Rattle.ffv1_weave.specs.Parts.{written}
pub use Rattle.ffv1_weave.specs.References.{values_of}
pub use Rattle.ffv1_weave.specs.Regions.{AgreeAt, HaveLength}
pub use Rattle.ffv1_weave.specs.Repairs.{IsRepair, IsRepairOf, inverted}
pub use Rattle.ffv1_weave.specs.Splits.{splits}
pub use Rattle.ffv1_weave.specs.Votes.{IsVote, IsVoteOf}
pub use Rattle.ffv1_weave.specs.Weave.{AreFew, AreMany, IsWeaveOf, Weave, weave_tally}
pub use Rattle.ffv1_weave.specs.Weave.Weave.{disputed, missing, too_many, woven}
pub use Rattle.ffv1_weave.specs.declared.check.Check.TheVariants.{Slice}
pub use Rattle.ffv1_weave.specs.declared.weaving.WeaveResult.{WeaveResult}
pub use Rattle.memchr.specs.Find.{NoneBefore, Nowhere, Passes, is_byte}
pub use borrow.Rule.Slice.PartMut.{mid_of, put_mid}
pub use mathlib.Core.List.{map-map}
pub use Rattle.ffv1_splice.specs.Faults.{HasOneLength, length_at}
pub use Rattle.ffv1_splice.specs.Inner.Claims.{IsFirstClaim, LacksClaims}
pub use Rattle.ffv1_splice.specs.Inner.Placing.{IsPlaced, IsPlacedOrStop}
pub use Rattle.ffv1_splice.specs.Inner.Several.{AreMissing, AreTriedBefore, IsNextClaimedStart, TriedValue, capped, tried_more, tried_tally}
pub use Rattle.ffv1_splice.specs.Inner.Several.TriedValue.{none_woven, one_woven, undecided}
pub use Rattle.ffv1_splice.specs.Inner.Splice.{IsNextClaimed}
pub use Rattle.ffv1_splice.specs.Inner.Tally.{Tallies, TalliesBoth, TalliesMore, Tally, pieces_tally, claimed_tally}
pub use Rattle.ffv1_splice.specs.Inner.Tally.Tally.{none, one, two}
pub use Rattle.ffv1_splice.specs.Laws.{ClaimedAloneIsOriginal, GivenBackIsOriginal, IsClaimedAsIn, IsItsLink, IsLinkIfSettled, IsNearSplice, IsSplicedOriginal, KeepsLink, LinksAreTried, NearCopiesSplice, OriginalIsSpliced, RepairedIsOriginal, SameCopiesSplice, SettledInHoleIsOriginal, SettledIsOriginal, SettledWalksAreOriginal, SizedIsOriginal, VotedIsOriginal, WalkAcrossIsOriginal, WovenIsOriginal}
pub use Rattle.ffv1_splice.specs.Originals.{AreConsistentFromBelow, AreConsistentWith, AreCopiesOf, AreNearCopies, AreWeavable, HaveEachLink, IsAmong, IsIntact, IsIntactInSome, IsNearCopy, IsTriedAt, IsUndamaged}
pub use Rattle.ffv1_splice.specs.Pieces.{AllReach, HasContent, IsClaimedFrom, IsClaimedStart, IsLeast, IsPiece, IsPieceFrom, IsShortest, PieceFrom}
pub use Rattle.ffv1_splice.specs.Splice.{AreCrossings, Crossing, IsBound, IsClaimedEnd, IsCrossed, IsDivisionOf, IsGivenBack, IsLostUpTo, IsSettledDown, IsSettledOrWoven, IsSettledUp, IsSpliceOf, IsWalkAcross, IsWalkDown, IsWalkUp, LieFrom, RiseFrom, SplicedValue, crossing_places, front_of, hole_places, moved_by, undivided_places}
pub use Rattle.ffv1_splice.specs.Standings.{IsGap, IsMissingAt, IsRepairAt, IsStop, IsUnvotedAt, IsUnwovenAt, IsVoteAt, IsWeaveAt, IsWeaveFromFront, IsWeaveOfSeveral, StandsAs, sized, versions_at}
pub use Rattle.ffv1_splice.specs.Text.{place_words, standing_word}
pub use Rattle.ffv1_splice.specs.Whole.{GivenBackIsWhole, IsWholeFrame}
pub use Rattle.ffv1_splice.specs.declared.place.Place.{Place}
pub use Rattle.ffv1_splice.specs.declared.place.Standing.{Standing}
pub use Rattle.ffv1_splice.specs.declared.place.Standing.TheVariants.{Disputed, Missing, Repaired, Settled, Undivided, Voted, Woven}
pub use Rattle.ffv1_splice.specs.declared.several.Tried.{Tried}
pub use Rattle.ffv1_splice.specs.declared.tally.Pieces.{Pieces}
pub use Rattle.ffv1_splice.specs.declared.tally.Claimed.{Claimed}
pub use Rattle.ffv1_splice.specs.declared.tally.Claimed.TheVariants.{One}
