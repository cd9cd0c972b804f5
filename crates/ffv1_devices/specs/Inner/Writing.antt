-- What is left to be written.
use Rattle.std.specs.Prelude.{ℕ}
use Rattle.ffv1_devices.specs.declared.writes.TheConstants.{SHORT}

-- two fields of at most so many bytes together are one write
abbrev pub short : ℕ
short = SHORT
