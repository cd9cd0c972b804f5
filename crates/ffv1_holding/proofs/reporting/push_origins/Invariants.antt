use Rattle.std.proofs.Common.{◌≡◌, ◌++◌, string_bytes, take}
use Rattle.std.specs.List.{flat_map}
use Rattle.ffv1_holding.specs.ReportText.{origin_line}
use Rattle.ffv1_holding.proofs.reporting.push_origins.Given as goal

-- the lines of the origins so far
abbrev pub invariant-loop-origin : goal.invariant-loop-origin
invariant-loop-origin g l = string_bytes l.text ≡ string_bytes l.fn.text ++ flat_map (origin_line l.tile) (take l.origin-index l.origins)
