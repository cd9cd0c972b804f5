-- How the tries of writing a file that is made are counted.
use Rattle.ffv1_devices.specs.Logs.{Tries}
use Rattle.ffv1_program.specs.declared.made.Counts.{Counts}

-- what its own counts say of its tries
abbrev pub tries_counted : Counts → Tries
tries_counted counts = record { failures = counts.failed; broken = counts.broken; in_row = counts.in_row }
