-- What the proofs use of the standard library, of the crates below and of the definitions.
pub use Rattle.std.proofs.Common.{Bool, Bor, Global, List, None, Option, Result, Some, Vec, [], add-one, add-zero, ap, append_assoc, arith, below_more, cond, drop, eq-eqb, eqb, false, get_or, inl, inr, length, length-append, lit<, map, refl, replicate, rules, set, subst, suc, sym, take, true, zero, zero-add, ℕ, ◌%◌, ◌*◌, ◌++◌, ◌+◌, ◌-◌, ◌/◌, ◌<◌, ◌^◌, ◌∙◌, ◌∷◌, ◌≡◌, ◌≤◌}
pub use Rattle.std.proofs.Math.ListN.{get_or-append}
pub use Rattle.std.proofs.Math.Nat.{div-lt_iff_lt-mul, le-div_iff_mul-le, mod-eq_of_lt, mul-add-mod_self_right, mul-lt-mul_of_pos_left, mul_assoc, mul_comm, pow-suc}
pub use Rattle.std.proofs.Math.Pow.{pow-lt}
pub use Rattle.std.proofs.lemmas.Bool.{cases_eq, cases_lt, eqb-true, false≢true, le-ltb, not-false}
pub use Rattle.std.proofs.lemmas.Bool.Decides.{Decides-eqb}
pub use Rattle.std.proofs.lemmas.Grind.{common_steps, flat_map-append}
pub use Rattle.std.proofs.lemmas.List.{append-nil, drop-set, drop_all, drop_more, ext_get_or, get_or-append_right, get_or-drop, get_or-map, get_or-replicate, get_or-set_same, get_or-take, get_or_append_left, get_or_default, get_or_past, get_or_push, length-drop, length-map, length-replicate, length-take-le, length_push, map_push, set-get_or, set-set, take-append-drop, take-set, take_all, take_more}
pub use Rattle.std.proofs.lemmas.List.Edits.{get_or-between, length-between, split_between}
pub use Rattle.std.proofs.lemmas.List.Elements.{All-contains, All-from_get_or, All-get_or, All-head, All-map, All-push, All-set, All-tail, All-weaker, Contains-append_cases, Contains-append_left, Contains-append_right, Contains-get_or, Contains-push}
pub use Rattle.std.proofs.lemmas.List.Sums.{fold-append, sum_by_push}
pub use Rattle.std.proofs.lemmas.Nat.{div-add-mod', div-mul-add, mul-add-lt}
pub use Rattle.std.proofs.lemmas.Result.{IfOk-weaker}
pub use Rattle.std.proofs.lemmas.Slice.Eq.{bytes_eq-Decides, slice_eq-Decides}
pub use Rattle.std.specs.Bool.{Decides}
pub use Rattle.std.specs.Int.{bit_at}
pub use Rattle.std.specs.Int.Bits.{xor_block, xor_comm, xor_lt, xor_self, xor_zero_l, xor_zero_r}
pub use Rattle.std.specs.List.{IsAnyAnswer, flat_map, fold}
pub use Rattle.std.specs.Prelude.{All, Contains, IfOk, MatchBool, MatchOption, bit_xor, slice_index, slice_range, sum, ◌↔◌, ◌⊎◌}
pub use Rattle.std.specs.Str.{bytes_eq}
pub use Rattle.std.specs.declared.alloc.AllocError.{AllocError}
pub use Rattle.ebml.proofs.CrcElements.{element_changes, right_leaves_none}
pub use Rattle.ffv1_bits.proofs.Burst.{bits_of-zeros, length-bits}
pub use Rattle.ffv1_bits.proofs.Division.{divided-xor, divided_low, fold_injective, reduced_low, remainder_is_fold}
unfoldable pub use Rattle.ffv1_bits.proofs.Division.{shifted}
pub use Rattle.ffv1_bits.proofs.Register.{remainder_push}
pub use Rattle.ffv1_bits.proofs.SameChanges.{AreSameChanges, all_changed, all_kept, changes_append, fold_changes, remainder_changes}
pub use Rattle.ffv1_bits.proofs.Sums.{xor_twice}
unfoldable pub use Rattle.ffv1_bits.specs.Bits.{bits_of, number_bits}
unfoldable pub use Rattle.ffv1_bits.specs.Inner.Division.{reduced_at}
unfoldable pub use Rattle.ffv1_bits.specs.Parity.{divided, polynomial_of, remainder_of}
pub use Rattle.ffv1_slice.proofs.Links.{Contains-cons, Contains-head}
pub use Rattle.ffv1_slice.specs.Members.{HasSameMembers, IsOfNone, IsOfTwo, IsOnly}
pub use lib.Pointwise.{pointwise}
pub use Rattle.ffv1_weave.specs.Boundaries.{AreParted, BeginsStreak, EndsStreak, IsBoundary, IsSegment}
pub use Rattle.ffv1_weave.specs.Checks.{PassesBy}
pub use Rattle.ffv1_weave.specs.Combinations.{HasFew, HasFewByByte, HasMany, IsAmongTried, IsCombination, IsCombinationBy, IsTriedBy, IsValid}
pub use Rattle.ffv1_weave.specs.Inner.Changes.{change_of, changed, changes_of, remainder_in}
pub use Rattle.ffv1_weave.specs.Inner.Found.{IsFoundAmong, PassesAmong}
pub use Rattle.ffv1_weave.specs.Inner.Inversions.{inversions, inversions_from, times_x}
pub use Rattle.ffv1_weave.specs.Inner.Parts.{AreAllParts, AreChoices, AreChoicesBy, AreDistinct, AreFewParts, ArePartsFrom, AreTriedParts, IsEdge, IsFit, IsPartFrom, Part, chosen, chosen_below, count_of, parts_end}
pub use Rattle.ffv1_weave.specs.Laws.{AreAmongTried, CoveredIsCombination, HasEachByte, IsCoveredByRegions, KeepsOriginal, OriginalIsWoven, RegionsAreCoarsest, SameVersionsWeave}
pub use Rattle.ffv1_weave.specs.Numbers.{AreMoreThan, AreNumbered}
pub use Rattle.ffv1_weave.specs.Parts.{written}
pub use Rattle.ffv1_weave.specs.References.{values_of}
pub use Rattle.ffv1_weave.specs.Regions.{AgreeAt, DifferAt, HaveLength, IsRegion}
pub use Rattle.ffv1_weave.specs.Repairs.{IsRepair, IsRepairOf, OriginalIsRepaired, SameVersionsRepair, inverted}
pub use Rattle.ffv1_weave.specs.Splits.{HasChoice, IsChoiceBy, IsChoiceOf, IsMost, IsPartBy, splits, votes}
pub use Rattle.ffv1_weave.specs.Votes.{AreThree, AreTriedBy, IsVote, IsVoteOf, OriginalIsVoted, SameVersionsVote}
pub use Rattle.ffv1_weave.specs.Weave.{AreFew, AreMany, IsWeaveOf, Weave}
pub use Rattle.ffv1_weave.specs.Weave.Weave.{disputed, missing, too_many, woven}
pub use Rattle.ffv1_weave.specs.declared.check.Check.{Check}
pub use Rattle.ffv1_weave.specs.declared.check.Check.TheVariants.{Element, Flac, Record, Slice}
pub use Rattle.ffv1_weave.specs.declared.found.Found.{Found}
pub use Rattle.ffv1_weave.specs.declared.parts.Parts.{Parts}
pub use Rattle.ffv1_weave.specs.declared.splits.Split.{Split}
pub use Rattle.ffv1_weave.specs.declared.splits.Split.TheVariants.{Most, Pairs, Regions}
