use Rattle.std.proofs.Common.{ℕ, [], ◌∷◌}
use Rattle.ffv1_plane.specs.declared.planes.PlaneSize.{PlaneSize}
use Rattle.ffv1_format_tests.proofs.range_planes.planes_of.Goals as goal

abbrev size_of : ℕ → ℕ → PlaneSize
size_of width height = record { width = width; height = height }

pub read_range_planes-read-requires-clause-states : goal.read_range_planes-read-requires-clause-states
read_range_planes-read-requires-clause-states c =
    c.in-Ok.ensures.states (size_of c.args.width c.args.height ∷ [])

pub read_range_planes-read-requires-in-2-clause-states : goal.read_range_planes-read-requires-in-2-clause-states
read_range_planes-read-requires-in-2-clause-states c =
    c.in-Ok.ensures.states (size_of c.args.width c.args.height ∷ size_of c.args.width c.args.height ∷ [])

pub read_range_planes-read-requires-in-3-clause-states : goal.read_range_planes-read-requires-in-3-clause-states
read_range_planes-read-requires-in-3-clause-states c =
    c.in-Ok.ensures.states (size_of c.args.width c.args.height ∷ size_of c.args.width c.args.height ∷ size_of c.args.width c.args.height ∷ [])

pub read_range_planes-read-requires-in_default-planes-clause-states : goal.read_range_planes-read-requires-in_default-planes-clause-states
read_range_planes-read-requires-in_default-planes-clause-states c =
    c.in-Ok.ensures.states (size_of c.args.width c.args.height ∷ size_of c.args.width c.args.height ∷ size_of c.args.width c.args.height ∷ size_of c.args.width c.args.height ∷ [])
