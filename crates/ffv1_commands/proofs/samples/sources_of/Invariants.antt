use Rattle.std.proofs.Common.{◌≡◌, map}
use Rattle.ffv1_devices.specs.Streams.{tries_of}
use Rattle.ffv1_commands.specs.InTurn.{log_of}
use Rattle.ffv1_commands.proofs.samples.sources_of.Given as goal

-- The sources so far are those of the frames so far.
abbrev pub invariant-loop-frame : goal.invariant-loop-frame
invariant-loop-frame g l =
    map (λ source. record { remaining = g.F.Read.remaining source.reader; tries = tries_of source.failures; taken = source.taken }) l.sources.items
    ≡ map (λ frame. log_of (g.F.Read.remaining frame)) l.yielded
