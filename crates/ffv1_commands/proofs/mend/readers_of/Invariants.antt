use Rattle.std.proofs.Common.{◌≡◌, map}
use Rattle.ffv1_devices.specs.Streams.{tries_of}
use Rattle.ffv1_stretches.specs.Copies.{state_of, unread}
use Rattle.ffv1_commands.specs.InTurn.{log_of}
use Rattle.ffv1_commands.proofs.mend.readers_of.Given as goal

-- The readers so far are those of the copies so far.
abbrev pub invariant-loop-copy : goal.invariant-loop-copy
invariant-loop-copy g l =
    map (state_of (λ source. record { remaining = g.C.Read.remaining source.reader; tries = tries_of source.failures; taken = source.taken })) l.readers.items
    ≡ map (λ copy. unread (log_of (g.C.Read.remaining copy))) l.yielded
