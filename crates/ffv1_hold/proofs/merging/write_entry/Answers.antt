use Rattle.ffv1_hold.proofs.Common.{◌≡◌, ℕ, ◌+◌, ◌*◌, ◌++◌, List, length, ◌∷◌, arith, subst, ap, refl, ◌∙◌, err_from_is_err_and, Entry, Inside, Second, WritesFront, WriteLog, Writes, StopsWriting, GoesOn-refl, Writes-trans, StopsWriting-of, StopsWriting-after, FileEntry, slice_text, origins_text, entry_text, StopsEntry, Write, digests_union, with_digests}
use Rattle.ffv1_hold.proofs.JoinedEntries.{joined_spelled, joined_length}
use Rattle.ffv1_hold.proofs.merging.write_entry.Given.{Over}
use Rattle.ffv1_hold.proofs.merging.write_entry.Goals.{After-room_after_entry}
use Rattle.ffv1_hold.proofs.merging.write_entry.Goals as goal

module _ (g : Over) (c : After-room_after_entry g) where
  -- the slice and the digests that are lent are the entry's
  slice_is : (let s : Entry = (c.entry-inside.inside.0.0.tile, c.as_slice-slice.result.now) in s) ≡ c.args.entry.now.0
  slice_is =
      (λ i. (c.entry-inside.inside.0.0.tile, c.as_slice-slice.ensures.value i))
      ∙ ap (λ (x : Inside). x.slice) c.entry-inside.view_is ∙ ap (λ (x : FileEntry). x.0) c.entry.view_is

  origins_are : (ds : List (List ℕ)) → ds ≡ c.entry-inside.inside.0.1.0.items → ds ≡ c.args.entry.now.1
  origins_are ds lent = lent ∙ ap (λ (x : Inside). x.origins.items) c.entry-inside.view_is ∙ ap (λ (x : FileEntry). x.1) c.entry.view_is

  text_long : length (entry_text Second (with_digests c.args.entry.now c.args.others.now))
      ≡ 11 + length c.as_slice-slice.result.now + 32 * length (digests_union c.deref.result.now c.args.others.now)
  text_long =
      cc (joined_length c.args.entry.now c.args.others.now c.requires.entry.1 c.requires.others.1 _ c.deref.result.now slice_is (origins_are c.deref.result.now c.deref.ensures.value))

  text_is : (ds : List (List ℕ)) → ds ≡ c.entry-inside.inside.0.1.0.items
      → (1 ∷ slice_text (c.entry-inside.inside.0.0.tile, c.as_slice-slice.result.now)) ++ origins_text (digests_union ds c.args.others.now)
      ≡ entry_text Second (with_digests c.args.entry.now c.args.others.now)
  text_is ds lent = joined_spelled c.args.entry.now c.args.others.now _ ds slice_is (origins_are ds lent)

  -- the writing of the text stops, and there is room for it
  text_stops : (ds : List (List ℕ)) (old new : WriteLog) (left : ℕ) → ds ≡ c.entry-inside.inside.0.1.0.items
      → left + (11 + length c.as_slice-slice.result.now + 32 * c.union_count-count.result) ≡ c.args.room.now
      → StopsWriting old new ((1 ∷ slice_text (c.entry-inside.inside.0.0.tile, c.as_slice-slice.result.now)) ++ origins_text (digests_union ds c.args.others.now))
      → StopsEntry old new c.args.room.now (with_digests c.args.entry.now c.args.others.now) Write
  text_stops ds old new left lent fits stopped = record {
    stops = (subst (WritesFront _ _) (text_is ds lent) stopped.front, omega (arith, text_long, fits, c.union_count-count.ensures));
    same = stopped.same;
    tries' = stopped.tries';
  }

pub returns-in_default : goal.returns-in_default
returns-in_default g c = record {
  stops = (refl, omega (arith, text_long g (goal.at.returns-in_default g c).After-room_after_entry, c.in_default.ensures.none, c.union_count-count.ensures));
  same = refl;
  tries' = GoesOn-refl _;
}

pub returns-in_err-write_slice : goal.returns-in_err-write_slice
returns-in_err-write_slice g c =
    let p = err_from_is_err_and c.from_residual.result c.from_residual.ensures.1 in
    let at = (goal.at.returns-in_err-write_slice g c).After-room_after_entry in
    let stopped = StopsWriting-of _ _ _ (origins_text (digests_union c.deref.result.now c.args.others.now)) c.in_err-write_slice.ensures in
    rw (p.1, p.2) (text_stops g at c.deref.result.now _ _ _ c.deref.ensures.value c.in-Some.ensures.some stopped)

pub returns-in_err-write_origins : goal.returns-in_err-write_origins
returns-in_err-write_origins g c =
    let p = err_from_is_err_and c.from_residual-in_err-write_origins.result c.from_residual-in_err-write_origins.ensures.1 in
    let at = (goal.at.returns-in_err-write_origins g c).After-room_after_entry in
    let stopped = StopsWriting-after _ _ _ _ (origins_text (digests_union c.deref-2.result.now c.args.others.now)) c.in_ok-write_slice.ensures
    c.in_err-write_origins.ensures in
    rw (p.1, p.2) (text_stops g at c.deref-2.result.now _ _ _ c.deref-2.ensures.value c.in-Some.ensures.some stopped)

pub returns : goal.returns
returns g c =
    let at = (goal.at.returns g c).After-room_after_entry in
    let text = origins_text (digests_union c.deref-2.result.now c.args.others.now) in (
      subst (Writes _ _) (text_is g at c.deref-2.result.now c.deref-2.ensures.value) (Writes-trans _ _ _ _ text c.in_ok-write_slice.ensures c.in_ok-write_origins.ensures),
      omega (arith, text_long g at, c.in-Some.ensures.some, c.union_count-count.ensures),
    )
