use Rattle.std.proofs.Common.{◌≡◌, map, drop}
use Rattle.std.specs.Prelude.{find}
use Rattle.ffv1_commands.specs.Formats.{has_format}
use Rattle.ffv1_commands.specs.Inner.Formats.{value_of}
use Rattle.ffv1_commands.proofs.formats.name_among.Given as goal

-- The first that fits is the first of the formats that are left.
abbrev pub invariant-loop-format : goal.invariant-loop-format
invariant-loop-format l =
    find (has_format l.recording) (map value_of l.formats) ≡ find (has_format l.recording) (map value_of (drop l.format-index l.formats))
