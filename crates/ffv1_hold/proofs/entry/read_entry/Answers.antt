use Rattle.ffv1_hold.proofs.Common.{[], ◌∷◌, rules, subst, err_from_is_err_and, slice_text, TakesText, Never, IsPartOfSlice, IsEntryInPlace, IsPartAfter, IsPartOfEntry, SliceIsTooLong, ShowsAfter, EntryShows}
use Rattle.ffv1_hold.proofs.TextReads.{TakesText-trans, StopsAt-after}
use Rattle.ffv1_hold.proofs.Entries.{none_is, single, entry_text-of, part_of_slice, part_after_slice, slice_shows, after_shows, wrong_stops}
use Rattle.ffv1_hold.proofs.entry.read_entry.Given.{Over}
use Rattle.ffv1_hold.proofs.entry.read_entry.Goals.{In-1}
use Rattle.ffv1_hold.proofs.entry.read_entry.Goals as goal

tag_taken : (g : Over) (c : In-1 g) → TakesText (g.S.Source.log c.args.source.now) (g.S.Source.log c.read_field.new.source) c.args.place.now
    c.read_field.new.place (1 ∷ [])
tag_taken g c = subst (TakesText _ _ _ _) (single c.read_field.new.buf 1 (search rules) c.in-1.is) c.in_ok-read_field.ensures.read

pub returns-in_err-slice-in-1-clause-read : goal.returns-in_err-slice-in-1-clause-read
returns-in_err-slice-in-1-clause-read g c =
    let p = err_from_is_err_and c.from_residual-in_err-slice-in-1.result c.from_residual-in_err-slice-in-1.ensures.1 in
    let tag = tag_taken g (goal.at.returns-in_err-slice-in-1-clause-read g c).In-1 in
    rw (p.1, p.2) (StopsAt-after IsPartOfSlice (IsPartOfEntry c.args.version c.args.reel.now c.args.last) Never Never SliceIsTooLong
    (EntryShows c.args.version c.args.reel.now c.args.last) _ _ _ _ _ (1 ∷ []) tag _ c.in_err-slice-in-1.ensures.read
    (part_of_slice c.args.version c.args.reel.now c.args.last) (λ f s h. h) (slice_shows c.args.version c.args.reel.now c.args.last))

pub returns-in_err-judge-in-1-clause-read : goal.returns-in_err-judge-in-1-clause-read
returns-in_err-judge-in-1-clause-read g c =
    let p = err_from_is_err_and c.from_residual-in_err-judge-in-1.result c.from_residual-in_err-judge-in-1.ensures.1 in
    let tag = tag_taken g (goal.at.returns-in_err-judge-in-1-clause-read g c).In-1 in
    let slice = c.in_ok-slice-in-1.ensures in
    let whole = TakesText-trans _ _ _ _ _ _ _ _ tag slice.read in
    let first = none_is c.args.last c.is_none-first.result c.is_none-first.ensures in
    rw (p.1, p.2) (wrong_stops c.args.version c.args.reel.now c.args.last _ _ c.in_ok-slice-in-1.slice _ _ _ _ _ whole slice.tile slice.fits
    (c.in_err-judge-in-1.ensures.err c.args.last slice.follows first))

pub returns-in_err-origins-in-1-clause-read : goal.returns-in_err-origins-in-1-clause-read
returns-in_err-origins-in-1-clause-read g c =
    let p = err_from_is_err_and c.from_residual-in_err-origins-in-1.result c.from_residual-in_err-origins-in-1.ensures.1 in
    let v = c.args.version in
    let r = c.args.reel.now in
    let last = c.args.last in
    let tag = tag_taken g (goal.at.returns-in_err-origins-in-1-clause-read g c).In-1 in
    let slice = c.in_ok-slice-in-1.ensures in
    let whole = TakesText-trans _ _ _ _ _ _ _ _ tag slice.read in
    let e = c.in_ok-slice-in-1.slice in
    let judged = c.in_ok-judge-in-1.ensures in
    let first = none_is last c.is_none-first.result c.is_none-first.ensures in
    let right : IsEntryInPlace r last e = (record { slice = judged.slice; fits = slice.fits }, slice.follows.0 judged.place, slice.tile, judged.keeps last first) in
    rw (p.1, p.2) (StopsAt-after (IsPartAfter v) (IsPartOfEntry v r last) Never Never (ShowsAfter v) (EntryShows v r last) _ _ _ _ _
    (1 ∷ slice_text e) whole _ c.in_err-origins-in-1.ensures.read (part_after_slice v r last e right) (λ f s h. h) (after_shows v r last e right))

pub returns-in-1-clause-read : goal.returns-in-1-clause-read
returns-in-1-clause-read g c =
    let tag = tag_taken g (goal.at.returns-in-1-clause-read g c).In-1 in
    let slice = c.in_ok-slice-in-1.ensures in
    let all = TakesText-trans _ _ _ _ _ _ _ _ (TakesText-trans _ _ _ _ _ _ _ _ tag slice.read) c.in_ok-origins-in-1.ensures.read in
    subst (TakesText _ _ _ _) (entry_text-of c.args.version (c.in_ok-slice-in-1.slice, c.in_ok-origins-in-1.origins.items)) all

pub returns-in-1-clause-entry : goal.returns-in-1-clause-entry
returns-in-1-clause-entry g c =
    let slice = c.in_ok-slice-in-1.ensures in
    let judged = c.in_ok-judge-in-1.ensures in
    let first = none_is c.args.last c.is_none-first.result c.is_none-first.ensures in (
      record { slice = record { slice = judged.slice; fits = slice.fits }; origins = c.in_ok-origins-in-1.ensures.digests },
      slice.follows.0 judged.place,
      judged.keeps c.args.last first,
    )
