use Rattle.std.proofs.Common.{◌≡◌, ℕ, ◌<◌, get_or}
use Rattle.ffv1_layout.specs.Layout.{headers_of, header_at, statuses_of, status_at}
use Rattle.ffv1_makings.specs.Fitting.{IsAskedHeader, asked_status}
use Rattle.ffv1_makings.specs.declared.spec.SliceSpec.{SliceSpec}
use Rattle.ffv1_makings.proofs.headers.are_asked.Given as goal

-- The slices so far are those that were asked for.
abbrev pub invariant-loop-place : goal.invariant-loop-place
invariant-loop-place l =
    record {
      headers : (place : ℕ) (d : SliceSpec) → place < l.place → IsAskedHeader l.recording (header_at (headers_of l.placed) place) (get_or l.asked place d);
      statuses : (place : ℕ) (d : SliceSpec) → place < l.place → status_at (statuses_of l.placed) place ≡ asked_status l.recording (get_or l.asked place d);
    }
