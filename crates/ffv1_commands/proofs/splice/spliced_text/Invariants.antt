use Rattle.std.proofs.Common.{◌≡◌, take, string_bytes}
use Rattle.std.specs.List.{flat_map}
use Rattle.ffv1_commands.specs.SpliceText.{standing_line}
use Rattle.ffv1_commands.proofs.splice.spliced_text.Given as goal

-- the lines of the places so far
abbrev pub invariant-loop-place : goal.invariant-loop-place
invariant-loop-place l = string_bytes l.text ≡ flat_map standing_line (take l.place-index l.place-items)
