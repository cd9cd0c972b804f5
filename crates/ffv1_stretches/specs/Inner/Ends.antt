-- Where a copy's last stretch ends, as the code keeps it.
use Rattle.std.specs.Prelude.{ℕ, ◌+◌}
use Rattle.ffv1_stretches.specs.declared.ends.End.{End}

abbrev pub end_of : End → ℕ
end_of end = end.place + end.size
