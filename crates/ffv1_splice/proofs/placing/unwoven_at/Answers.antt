use Rattle.std.proofs.lemmas.Grind.{common_steps}
use Rattle.ffv1_splice.proofs.Common.{◌≡◌, ◌-◌, ◌≤◌, ℕ, ◌+◌, List, [], Bor, Option, Some, Vec, Global, length, get_or, ap, ◌∙◌, inl, inr, arith, All, written, IsRepairOf, IsVoteOf, missing, AllReach, versions_at, IsWeaveAt, IsRepairAt, IsUnwovenAt, IsMissingAt, IsGap, Voted, Missing, values_of, each_value}
use Rattle.ffv1_splice.proofs.PlaceSteps.{gap_size, unwoven_weave, missing_unwoven, placed_as}
use Rattle.ffv1_splice.proofs.RepairSteps.{IsResult, unwoven_by, is_voted, is_unvoted, is_repaired, is_missing}
use Rattle.ffv1_splice.proofs.Versions.{version_length, one_length, vote_size, repair_size}
use Rattle.ffv1_splice.proofs.placing.unwoven_at.Goals as goal
use Rattle.ffv1_splice.proofs.placing.unwoven_at.Goals.{then-all_tried+in_ok-repaired+in_default-2, else-all_tried}

-- the versions of a place are as long as the first
versions_long : (copies versions : List (Bor (List ℕ))) (start end : ℕ) → IsUnwovenAt (values_of copies) start end → All (λ copy. end ≤ length copy.now) copies
    → values_of versions ≡ versions_at (values_of copies) start end → All (λ version. length version.now ≡ length (get_or (values_of versions) 0 [])) versions
versions_long copies versions start end unwoven within are =
    let claim = (unwoven_weave (values_of copies) start end unwoven).1.claim in
    one_length (versions_at (values_of copies) start end) (end - start)
    (version_length (values_of copies) start end (omega arith) (each_value copies (λ copy. end ≤ length copy) within)) versions are

pub vote-requires-clause-lengths : goal.vote-requires-clause-lengths
vote-requires-clause-lengths c =
    versions_long c.args.copies.now c.args.versions.now c.args.start c.args.end
    (unwoven_by (values_of c.args.copies.now) c.args.start c.args.end c.args.all_tried c.requires.missed c.requires.many) c.requires.within c.requires.versions

pub repair-requires-clause-lengths : goal.repair-requires-clause-lengths
repair-requires-clause-lengths c =
    versions_long c.args.copies.now c.args.versions.now c.args.start c.args.end (inl (c.requires.missed c.if-all_tried.true)) c.requires.within
    c.requires.versions

pub write_at-requires : goal.write_at-requires
write_at-requires c =
    let reach : AllReach (values_of c.args.copies.now) c.args.end =
    each_value c.args.copies.now (λ copy. c.args.end ≤ length copy) c.requires.within in
    let unwoven = unwoven_by (values_of c.args.copies.now) c.args.start c.args.end c.args.all_tried c.requires.missed c.requires.many in
    let voted = is_voted (values_of c.args.copies.now) c.args.start c.args.end (values_of c.args.versions.now) c.requires.versions
    c.in_ok-voted.field-0 unwoven c.in_ok-voted.ensures c.in-Some.voted c.in-Some.count c.in-Some.is in
    let size = vote_size (values_of c.args.copies.now) c.args.start c.args.end c.in-Some.voted.items c.in-Some.count reach voted in
    omega arith

pub returns-in-Some : goal.returns-in-Some
returns-in-Some c =
    let reach : AllReach (values_of c.args.copies.now) c.args.end =
    each_value c.args.copies.now (λ copy. c.args.end ≤ length copy) c.requires.within in
    let unwoven = unwoven_by (values_of c.args.copies.now) c.args.start c.args.end c.args.all_tried c.requires.missed c.requires.many in
    let voted = is_voted (values_of c.args.copies.now) c.args.start c.args.end (values_of c.args.versions.now) c.requires.versions
    c.in_ok-voted.field-0 unwoven c.in_ok-voted.ensures c.in-Some.voted c.in-Some.count c.in-Some.is in
    placed_as (values_of c.args.copies.now) c.args.start c.args.end c.args.payload.now c.write_at.new.payload c.in-Some.voted.items
    (Voted c.in-Some.count) voted
    (vote_size (values_of c.args.copies.now) c.args.start c.args.end c.in-Some.voted.items c.in-Some.count reach voted)
    (c.write_at.ensures ∙ ap (written c.args.payload.now c.args.start) c.as_slice.ensures.value)

-- what is repaired, and how long it is
repaired_at : (copies versions : List (Bor (List ℕ))) (start end : ℕ) → All (λ copy. end ≤ length copy.now) copies
    → values_of versions ≡ versions_at (values_of copies) start end → (voted found : Option (Vec ℕ Global × ℕ)) → IsResult (IsVoteOf (values_of versions)) voted
    → ((x : Vec ℕ Global × ℕ) → voted ≡ Some x → ⊥) → (count : ℕ) × IsWeaveAt (values_of copies) start end (missing count)
    → IsResult (IsRepairOf (values_of versions)) found → (bytes : Vec ℕ Global) (count : ℕ) → found ≡ Some (bytes, count)
    → IsRepairAt (values_of copies) start end bytes.items count × (start + length bytes.items ≡ end)
repaired_at copies versions start end within are voted found vote no_vote missed returned bytes count is =
    let unvoted = is_unvoted (values_of copies) start end (values_of versions) are voted vote no_vote in
    let repaired = is_repaired (values_of copies) start end (values_of versions) are found missed unvoted returned bytes count is in
    (repaired, repair_size (values_of copies) start end bytes.items count (each_value copies (λ copy. end ≤ length copy) within) repaired)

pub write_at-requires-in-Some-2 : goal.write_at-requires-in-Some-2
write_at-requires-in-Some-2 c =
    let repaired = repaired_at c.args.copies.now c.args.versions.now c.args.start c.args.end c.requires.within c.requires.versions _ _
    c.in_ok-voted.ensures c.in_default.not-Some (c.requires.missed c.if-all_tried.true) c.in_ok-repaired.ensures _ _ c.in-Some-2.is in
    omega (arith, repaired.1, ap length c.as_slice-in-Some-2.ensures.value)

pub returns-in-Some-2 : goal.returns-in-Some-2
returns-in-Some-2 c =
    let repaired = repaired_at c.args.copies.now c.args.versions.now c.args.start c.args.end c.requires.within c.requires.versions _ _
    c.in_ok-voted.ensures c.in_default.not-Some (c.requires.missed c.if-all_tried.true) c.in_ok-repaired.ensures _ _ c.in-Some-2.is in
    grind (arith, common_steps, placed_as, values_of, written)

pub returns : goal.returns
returns c =
    let unvoted = is_unvoted (values_of c.args.copies.now) c.args.start c.args.end (values_of c.args.versions.now) c.requires.versions c.in_ok-voted.field-0
    c.in_ok-voted.ensures c.in_default.not-Some in
    let missed : IsMissingAt (values_of c.args.copies.now) c.args.start c.args.end = elim c.if-all_tried.branch [
      | then-all_tried+in_ok-repaired+in_default-2 w ↦
          is_missing (values_of c.args.copies.now) c.args.start c.args.end (values_of c.args.versions.now) c.requires.versions w.in_ok-repaired.field-0
          (c.requires.missed w.if-all_tried.true) unvoted w.in_ok-repaired.ensures w.in_default-2.not-Some
      | else-all_tried w ↦ (inr (c.requires.many w.if-all_tried.false), unvoted)
    ] in
    let weave = (unwoven_weave (values_of c.args.copies.now) c.args.start c.args.end (missing_unwoven (values_of c.args.copies.now) c.args.start c.args.end missed)).1 in
    let gap : IsGap (values_of c.args.copies.now) c.args.start c.args.end c.least_at.result.now = record { claim = weave.claim; least = c.least_at.ensures } in
    let reach : AllReach (values_of c.args.copies.now) c.args.end =
    each_value c.args.copies.now (λ copy. c.args.end ≤ length copy) c.requires.within in
    placed_as (values_of c.args.copies.now) c.args.start c.args.end c.args.payload.now c.write_at-2.new.payload c.least_at.result.now Missing (missed, gap)
    (gap_size (values_of c.args.copies.now) c.args.start c.args.end c.least_at.result.now reach gap) c.write_at-2.ensures
