-- A whole plane, row by row.
use Rattle.std.proofs.Common.{◌≡◌, ℕ, zero, suc, ⊎_elim, ◌+◌, ◌-◌, ◌*◌, ◌/◌, ◌%◌, ◌<◌, ◌≤◌, List, [], Bool, ◌++◌, get_or, replicate, length, length-append, append_assoc, refl, sym, ap, ◌∙◌, subst, arith, ℤ, ◌^◌}
use Rattle.std.proofs.Math.Nat.{mul-le-mul_right}
use Rattle.std.proofs.Math.Seq.{get_or-append_right}
use Rattle.std.proofs.lemmas.Nat.{div-mul-add, mod-mul-add, pow_pos}
use Rattle.std.proofs.lemmas.Bool.{cases_lt}
use Rattle.std.proofs.lemmas.List.{get_or_append_left, length-replicate}
use Rattle.ffv1_rice.specs.States.{ContextState}
use Rattle.ffv1_plane.specs.Samples.{plane_of, IsPlaneOfSize, Coding}
use Rattle.ffv1_plane.specs.Spelling.{residuals_of}
use Rattle.ffv1_plane.specs.Progress.{AreStatesAfter}
use Rattle.ffv1_plane.specs.Inner.PlaneRows.{values_after_rows, RowsSpell}
use Rattle.ffv1_plane.specs.Inner.Progress.{RowStart, AreRowsRead}
use Rattle.ffv1_plane.specs.Inner.Halts.{IsHalted, IsNextHalted, IsPlaneHalted, IsDecodingHalted}
use Rattle.ffv1_plane.specs.declared.plane.PlaneFault.{PlaneFault}
use Rattle.ffv1_plane.specs.declared.plane.PlaneFault.TheVariants as plane_faults
use Rattle.ffv1_plane.proofs.Reading.{row_begun}

pub get_or-zeros : (n i : ℕ) → get_or (replicate n zero) i zero ≡ zero
get_or-zeros zero i = refl
get_or-zeros (suc n) zero = refl
get_or-zeros (suc n) (suc i) = get_or-zeros n i

-- a plane that begins with these samples
pub filled : (n width height : ℕ) (samples : List ℕ) → ((s : ℕ) → get_or samples s 0 < 2 ^ n) → length samples ≤ width * height
    → IsPlaneOfSize n width height (samples ++ replicate (width * height - length samples) 0)
filled n width height samples small fits = record {
  count = omega (arith, length-append samples (replicate (width * height - length samples) 0), length-replicate {A = ℕ} (width * height - length samples) 0);
  small = λ s. let some = pow_pos n in ⊎_elim
      (λ inside. let e = get_or_append_left samples (replicate (width * height - length samples) 0) 0 s inside in let h = small s in omega (arith, e, h))
      (λ later. let e = get_or-append_right samples (replicate (width * height - length samples) 0) s 0 later in
      let z = get_or-zeros (width * height - length samples) (s - length samples) in omega (arith, e, z))
      (cases_lt s (length samples));
}

-- no row is read yet
pub no_rows : (earlier : ℕ → List ℤ) (width : ℕ) (coding : Coding) (bits : List Bool) (states : List ContextState) → AreStatesAfter coding.depth earlier states
    → (samples : List ℕ) → AreRowsRead earlier (plane_of width coding samples) 0 bits 0 states bits
unfolding RowsSpell values_after_rows
no_rows earlier width coding bits states fresh samples = record { front = []; begins = refl; spells = (refl, refl); states_are = fresh }

-- where a row halts, so does a plane that begins with it
pub plane_halted : (width height : ℕ) (coding : Coding) (before states : List ContextState) (bits left : List Bool) (samples : List ℕ) (rows index : ℕ)
    (fault : PlaneFault) → rows < height → length samples ≡ rows * width
    → ((earlier : ℕ → List ℤ) → AreStatesAfter coding.depth earlier before
    → (more : List ℕ) → AreRowsRead earlier (plane_of width coding (samples ++ more)) rows bits index states left)
    → ((j : ℕ) → get_or samples j 0 < 2 ^ coding.depth) → IsNextHalted width coding samples 0 index states left fault
    → IsDecodingHalted width height coding before bits fault
plane_halted width height coding before states bits left samples rows index (plane_faults.Code fault sample) low whole read small halts = λ earlier after.
    let there = halts small in
    let skipped = there.skipped in
    let inside : skipped < width = (let less = there.inside in omega arith) in
    let place : sample ≡ rows * width + skipped = (let is = there.place in omega arith) in
    let through : (rows + 1) * width ≤ height * width = mul-le-mul_right width (omega arith) in
    let fits : length there.samples ≤ width * height = (let long = there.fits in omega arith) in
    let tail : List ℕ = replicate (width * height - length there.samples) 0 in
    let p = plane_of width coding (there.samples ++ tail) in
    let lists : samples ++ (there.continued.0 ++ tail) ≡ there.samples ++ tail =
    sym (append_assoc samples there.continued.0 tail) ∙ ap (λ l. l ++ tail) (sym there.continued.1) in
    let P : List ℕ → Type 0 = λ l. AreRowsRead earlier (plane_of width coding l) rows bits index states left in
    let above = subst P lists (read earlier after (there.continued.0 ++ tail)) in
    let start : RowStart = record { row = rows; earlier = values_after_rows earlier p rows; first = index } in
    let zero_on : 0 + skipped ≡ skipped = omega arith in
    let Q : ℕ → Type 0 = λ k. IsHalted start.earlier (residuals_of p rows) index left fault k in
    let here : IsPlaneHalted earlier width height coding bits fault rows skipped =
    record {
      samples = there.samples ++ tail;
      size = filled coding.depth width height there.samples there.small fits;
      row_there = low;
      column_there = inside;
      above = above.front;
      index = index;
      spells = above.spells;
      rest = left;
      begins = above.begins;
      halted = subst Q zero_on (there.halted start left (row_begun start width coding left samples states whole above.states_are) tail);
    } in
    let y_is : sample / width ≡ rows = ap (λ k. k / width) place ∙ div-mul-add rows width skipped inside in
    let x_is : sample % width ≡ skipped = ap (λ k. k % width) place ∙ mod-mul-add rows width skipped inside in
    subst (λ (k : ℕ). IsPlaneHalted earlier width height coding bits fault k (sample % width)) (sym y_is)
    (subst (λ (k : ℕ). IsPlaneHalted earlier width height coding bits fault rows k) (sym x_is) here)
plane_halted width height coding before states bits left samples rows index plane_faults.Memory low whole read small halts = tt
