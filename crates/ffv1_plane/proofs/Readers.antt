-- A reader of a plane, a step further.
use Rattle.std.proofs.Common.{◌≡◌, ℕ, ◌+◌, ◌<◌, Bool, List, [], ◌∷◌, ◌++◌, Result, Ok, Err, length, get_or, refl, ap, ◌∙◌, subst, arith, append_assoc, ◌^◌}
use Rattle.std.specs.Prelude.{OnOk}
use Rattle.std.proofs.lemmas.List.{length_push}
use Rattle.ffv1_plane.specs.Samples.{Coding, coding_at, plane_of}
use Rattle.ffv1_plane.specs.Spelling.{residuals_of}
use Rattle.ffv1_range.specs.Setup.{set_entry}
use Rattle.ffv1_rice.specs.States.{ContextState}
use Rattle.ffv1_plane.specs.SetTables.{SetTables}
use Rattle.ffv1_plane.specs.Inner.Progress.{IsContinued, RowStart, IsReadTo, IsSampleRead}
use Rattle.ffv1_plane.specs.Inner.Readers.{IsSamePlane}
use Rattle.ffv1_plane.specs.Inner.Halts.{IsHalted, IsNextHalted}
use Rattle.ffv1_plane.specs.declared.plane.PlaneReader.{PlaneReader}
use Rattle.ffv1_plane.specs.declared.plane.PlaneFault.{PlaneFault}
use Rattle.ffv1_plane.specs.declared.plane.PlaneFault.TheVariants as plane_faults

-- ---- one plane

pub same_plane : (reader : PlaneReader) → IsSamePlane reader reader
same_plane reader = record { depth = refl; width = refl; tables = refl; states = refl }

pub same_planes : (a b c : PlaneReader) → IsSamePlane a b → IsSamePlane b c → IsSamePlane a c
same_planes a b c h k = record { depth = k.depth ∙ h.depth; width = k.width ∙ h.width; tables = k.tables ∙ h.tables; states = k.states ∙ h.states }

-- the same was read, and the same halts, where the depth, the width, the tables, the index, the samples and the column are
-- the same
pub same_read : (start : RowStart) (a b w v : ℕ) (t u : SetTables) (i j : ℕ) (bits left : List Bool) (samples others : List ℕ) (x z : ℕ)
    (states : List ContextState) → b ≡ a → v ≡ w → u ≡ t → j ≡ i → others ≡ samples → z ≡ x
    → IsReadTo start w (coding_at a (set_entry t.setup t.set)) bits samples x i states left
    → IsReadTo start v (coding_at b (set_entry u.setup u.set)) bits others z j states left
same_read start a b w v t u i j bits left samples others x z states depth width tables index same column read =
    rw (depth, width, tables, index, same, column) read

pub same_halted : (a b w v : ℕ) (t u : SetTables) (samples : List ℕ) (x z index : ℕ) (states : List ContextState) (left : List Bool) (fault : PlaneFault)
    → b ≡ a → v ≡ w → u ≡ t → z ≡ x → IsNextHalted w (coding_at a (set_entry t.setup t.set)) samples x index states left fault
    → IsNextHalted v (coding_at b (set_entry u.setup u.set)) samples z index states left fault
same_halted a b w v t u samples x z index states left fault depth width tables column halted = rw (depth, width, tables, column) halted

-- where a part of a row halts, so does the row
pub row_halted : (w : ℕ) (coding : Coding) (first samples : List ℕ) (z i j x : ℕ) (before states : List ContextState) (begun left : List Bool)
    (fault : PlaneFault) → z ≡ 0 → IsContinued first samples
    → length samples ≡ length first + x → ((s : ℕ) → get_or samples s 0 < 2 ^ coding.depth)
    → ((start : RowStart) (bits : List Bool) → IsReadTo start w coding bits first z i before begun → IsReadTo start w coding bits samples x j states left)
    → IsNextHalted w coding samples x j states left fault → IsNextHalted w coding first z i before begun fault
row_halted w coding first samples z i j x before states begun left (plane_faults.Code fault sample) start_is continued longer bytes read halts = λ small.
    let there = halts bytes in
    let inside = there.inside in
    let fits = there.fits in
    let column : x + there.skipped ≡ z + (x + there.skipped) = omega arith in
    record {
      samples = there.samples;
      continued = (
        continued.0 ++ there.continued.0,
        there.continued.1 ∙ ap (λ l. l ++ there.continued.0) continued.1
            ∙ append_assoc first continued.0 there.continued.0,
      );
      small = there.small;
      skipped = x + there.skipped;
      place = omega (arith, there.place);
      inside = omega arith;
      fits = omega arith;
      halted = λ start bits so_far more. subst (λ (k : ℕ). IsHalted start.earlier (residuals_of (plane_of w coding (there.samples ++ more)) start.row)
          start.first bits fault k) column (there.halted start bits (read start bits so_far) more);
    }
row_halted w coding first samples z i j x before states begun left plane_faults.Memory start_is continued longer bytes read halts = tt

-- where a sample more was read, there is one more of the plane and of its row
pub one_more : {T E : Type 0} (r : Result T E) (width : ℕ) (coding : Coding) (level : Bool) (old : List ℕ) (states : List ContextState) (bits : List Bool)
    (new : List ℕ)
    (after : List ContextState) (rest : List Bool) (x next : ℕ)
    → OnOk r (next ≡ x + 1) → OnOk r (IsSampleRead width coding level old states bits new after rest) → OnOk r (length new + x ≡ length old + next)
one_more (Ok v) width coding level old states bits new after rest x next moved read =
    omega (arith, moved, ap length read.pushed, length_push old read.sample)
one_more (Err e) width coding level old states bits new after rest x next moved read = tt

-- what follows from two facts
pub on_ok_both : {T E A B C : Type 0} (r : Result T E) → (A → B → C) → OnOk r A → OnOk r B → OnOk r C
on_ok_both (Ok v) f a b = f a b
on_ok_both (Err e) f a b = tt

-- and the samples go on from those before
pub one_continued : {T E : Type 0} (r : Result T E) (width : ℕ) (coding : Coding) (level : Bool) (old : List ℕ) (states : List ContextState)
    (bits : List Bool) (new : List ℕ) (after : List ContextState) (rest : List Bool) → OnOk r (IsSampleRead width coding level old states bits new after rest)
    → OnOk r (IsContinued old new)
one_continued (Ok v) width coding level old states bits new after rest read = (read.sample ∷ [], read.pushed)
one_continued (Err e) width coding level old states bits new after rest read = tt

-- samples after samples after samples
pub continued_on : (a b c : List ℕ) → IsContinued a b → IsContinued b c → IsContinued a c
continued_on a b c first second =
    (first.0 ++ second.0, second.1 ∙ ap (λ l. l ++ second.0) first.1 ∙ append_assoc a first.0 second.0)
