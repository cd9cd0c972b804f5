use Rattle.std.proofs.Common.{ℕ, ◌<◌, get_or}
use Rattle.ffv1_makings.specs.Fitting.{FitsSlice}
use Rattle.ffv1_makings.specs.declared.spec.SliceSpec.{SliceSpec}
use Rattle.ffv1_makings.proofs.fits.fit_slices.Given as goal

-- The slices so far fit.
abbrev pub invariant-loop-slice : goal.invariant-loop-slice
invariant-loop-slice l = (place : ℕ) (d : SliceSpec) → place < l.slice-index → FitsSlice l.recording (get_or l.slices place d)
