-- A row of Golomb-Rice codes, and where its reading halts, whatever stands before it.
use Rattle.std.proofs.Common.{◌≡◌, ℕ, ◌+◌, ◌-◌, ◌<◌, ◌^◌, Bool, List, ◌++◌, length, get_or, sym, ap, ◌∙◌, subst, arith, refl, length-append}
use Rattle.ffv1_range.specs.Setup.{set_entry}
use Rattle.ffv1_rice.specs.States.{ContextState}
use Rattle.ffv1_rice.specs.declared.code.CodeFault.{CodeFault}
use Rattle.ffv1_plane.specs.Samples.{Coding, coding_at, plane_of}
use Rattle.ffv1_plane.specs.Spelling.{residuals_of}
use Rattle.ffv1_plane.specs.SetTables.{SetTables}
use Rattle.ffv1_plane.specs.Inner.Rows.{RowsRead}
use Rattle.ffv1_plane.specs.Inner.Progress.{IsContinued, RowStart, IsReadTo}
use Rattle.ffv1_plane.specs.Inner.Halts.{IsHalted, IsNextHalted}
use Rattle.ffv1_plane.specs.Inner.RiceRows.{RowPlace, IsCodeRowRead, IsCodeRowRefused}
use Rattle.ffv1_plane.specs.declared.plane.PlaneFault.TheVariants as plane_faults
use Rattle.ffv1_plane.proofs.Reading.{row_begun}
use Rattle.ffv1_plane.proofs.Readers.{same_read}

abbrev pub place_of : List ℕ → ℕ → List ContextState → List Bool → RowPlace
place_of samples index states left = record { samples = samples; index = index; states = states; left = left }

-- a whole row that was read
whole_row : (width : ℕ) (coding : Coding) (old new : List ℕ) (i j : ℕ) (states later : List ContextState) (left rest : List Bool) → IsContinued old new
    → length new ≡ length old + width → length later ≡ length states
    → ((start : RowStart) (whole : List Bool) → IsReadTo start width coding whole old 0 i states left → IsReadTo start width coding whole new width j later rest)
    → IsCodeRowRead width coding (place_of old i states left) (place_of new j later rest)
unfolding residuals_of
whole_row width coding old new i j states later left rest continued longer same read =
    record {
      row = continued.0;
      pushed = continued.1;
      count = (let sum = length-append old continued.0 in let all = ap length continued.1 in omega (arith, sum, all, longer));
      same_states = same;
      spelled = λ y earlier place fresh more.
          let start : RowStart = record { row = y; earlier = earlier; first = i } in
          let all = read start left (row_begun start width coding left old states place fresh) in
          let there = all.progress more in
          record { front = there.front; begins = there.begins; spells = there.spells; states_are = all.states_are more };
    }

-- .. as the lines of a reader have it
pub row_read : (now before after new : RowsRead) (t u : SetTables) (i j : ℕ) (states later : List ContextState) (left rest : List Bool) → before ≡ now → now.x ≡ 0
    → after.depth ≡ before.depth → after.width ≡ before.width → u ≡ t → after.x ≡ after.width → new.samples ≡ after.samples → length later ≡ length states
    → IsContinued before.samples after.samples → length after.samples ≡ length before.samples + before.width
    → ((start : RowStart) (whole : List Bool)
    → IsReadTo start before.width (coding_at before.depth (set_entry t.setup t.set)) whole before.samples before.x i states left
    → IsReadTo start after.width (coding_at after.depth (set_entry u.setup u.set)) whole after.samples after.x j later rest)
    → IsCodeRowRead now.width (coding_at now.depth (set_entry t.setup t.set)) (place_of now.samples i states left) (place_of new.samples j later rest)
row_read now before after new t u i j states later left rest same start depth width tables full pushed count continued longer read =
    let samples : before.samples ≡ now.samples = ap (λ z. z.samples) same in
    let same_depth : before.depth ≡ now.depth = ap (λ z. z.depth) same in
    let same_width : before.width ≡ now.width = ap (λ z. z.width) same in
    whole_row now.width (coding_at now.depth (set_entry t.setup t.set)) now.samples new.samples i j states later left rest
    (continued.0, pushed ∙ continued.1 ∙ ap (λ l. l ++ continued.0) samples)
    (ap length pushed ∙ longer ∙ ap (λ l. length l + before.width) samples ∙ ap (λ w. length now.samples + w) same_width) count
    (λ first whole so_far.
    same_read first after.depth now.depth after.width now.width u t j j whole rest after.samples new.samples after.x now.width later (sym (depth ∙ same_depth))
    (sym (width ∙ same_width)) (sym tables) refl pushed (sym (full ∙ width ∙ same_width))
    (read first whole
    (same_read first now.depth before.depth now.width before.width t t i i whole left now.samples before.samples 0 before.x states same_depth same_width refl refl samples
    (ap (λ z. z.x) same ∙ start) so_far)))

-- a row that halts
halted_row : (width : ℕ) (coding : Coding) (old : List ℕ) (index : ℕ) (states : List ContextState) (left : List Bool) (fault : CodeFault) (sample at : ℕ)
    → at ≡ length old → ((s : ℕ) → get_or old s 0 < 2 ^ coding.depth) → IsNextHalted width coding old 0 index states left (plane_faults.Code fault sample)
    → IsCodeRowRefused width coding (place_of old index states left) fault (sample - at)
halted_row width coding old index states left fault sample at here small halts =
    let there = halts small in
    let column : there.skipped ≡ sample - at = (let place = there.place in omega (arith, place, here)) in
    record {
      inside = (let less = there.inside in omega (arith, less, column));
      samples = there.samples;
      small = there.small;
      row = there.continued.0;
      pushed = there.continued.1;
      halted = λ y earlier place fresh more.
          let start : RowStart = record { row = y; earlier = earlier; first = index } in
          subst (λ k. IsHalted earlier (residuals_of (plane_of width coding (there.samples ++ more)) y) index left fault k)
          ((let none : 0 + there.skipped ≡ there.skipped = omega arith in none) ∙ column)
          (there.halted start left (row_begun start width coding left old states place fresh) more);
    }

-- .. as the lines of a reader have it
pub row_refused : (now before : RowsRead) (t : SetTables) (index : ℕ) (states : List ContextState) (left : List Bool) (fault : CodeFault) (sample at : ℕ) → before ≡ now
    → now.x ≡ 0 → at ≡ length before.samples → ((s : ℕ) → get_or before.samples s 0 < 2 ^ before.depth)
    → IsNextHalted before.width (coding_at before.depth (set_entry t.setup t.set)) before.samples before.x index states left (plane_faults.Code fault sample)
    → IsCodeRowRefused now.width (coding_at now.depth (set_entry t.setup t.set)) (place_of now.samples index states left) fault (sample - at)
row_refused now before t index states left fault sample at same start here small halts =
    halted_row now.width (coding_at now.depth (set_entry t.setup t.set)) now.samples index states left fault sample at
    (here ∙ ap (λ z. length z.samples) same) (subst (λ (z : RowsRead). (s : ℕ) → get_or z.samples s 0 < 2 ^ z.depth) same small)
    (subst (λ x. IsNextHalted now.width (coding_at now.depth (set_entry t.setup t.set)) now.samples x index states left (plane_faults.Code fault sample)) start
    (subst (λ (z : RowsRead). IsNextHalted z.width (coding_at z.depth (set_entry t.setup t.set)) z.samples z.x index states left (plane_faults.Code fault sample)) same
    halts))
