-- The paths that each command has: its words that name files, and standard output.
use Rattle.std.specs.Prelude.{ℕ, ◌<◌}
use Rattle.ffv1_commands.specs.declared.path.CommandPath.{CommandPath}
use Rattle.ffv1_commands.specs.declared.path.CommandPath.TheVariants.{Record, Frame, Copy, Hold, Ranges, File, List, Inputs, Out, StandardOutput}

abbrev pub IsChainPath : CommandPath → Type 0
IsChainPath Frame = Unit {0}
IsChainPath StandardOutput = Unit {0}
IsChainPath _ = ⊥

abbrev pub IsShowPath : CommandPath → Type 0
IsShowPath Record = Unit {0}
IsShowPath StandardOutput = Unit {0}
IsShowPath _ = ⊥

-- `take` of so many copies, and `samples` of so many frames
abbrev pub IsTakePath : ℕ → CommandPath → Type 0
IsTakePath copies Record = Unit {0}
IsTakePath copies (Copy place) = place < copies
IsTakePath copies Out = Unit {0}
IsTakePath copies StandardOutput = Unit {0}
IsTakePath copies _ = ⊥

-- `splice` of so many copies
abbrev pub IsSplicePath : ℕ → CommandPath → Type 0
IsSplicePath copies (Copy place) = place < copies
IsSplicePath copies Out = Unit {0}
IsSplicePath copies StandardOutput = Unit {0}
IsSplicePath copies _ = ⊥

abbrev pub IsCheckPath : CommandPath → Type 0
IsCheckPath File = Unit {0}
IsCheckPath StandardOutput = Unit {0}
IsCheckPath _ = ⊥

abbrev pub IsScanPath : CommandPath → Type 0
IsScanPath Ranges = Unit {0}
IsScanPath File = Unit {0}
IsScanPath StandardOutput = Unit {0}
IsScanPath _ = ⊥

-- `mend` of so many copies
abbrev pub IsMendPath : ℕ → CommandPath → Type 0
IsMendPath copies List = Unit {0}
IsMendPath copies (Copy place) = place < copies
IsMendPath copies Out = Unit {0}
IsMendPath copies StandardOutput = Unit {0}
IsMendPath copies _ = ⊥

-- `join` of so many holding files
abbrev pub IsJoinPath : ℕ → CommandPath → Type 0
IsJoinPath files (Hold place) = place < files
IsJoinPath files Out = Unit {0}
IsJoinPath files StandardOutput = Unit {0}
IsJoinPath files _ = ⊥

-- `merge` of two holding files, each of which is opened by itself, and which are then read together
abbrev pub IsMergePath : CommandPath → Type 0
IsMergePath (Hold place) = place < 2
IsMergePath Inputs = Unit {0}
IsMergePath Out = Unit {0}
IsMergePath _ = ⊥

-- `report`, of one holding file
abbrev pub IsReportPath : CommandPath → Type 0
IsReportPath (Hold place) = place < 1
IsReportPath StandardOutput = Unit {0}
IsReportPath _ = ⊥

-- `restore` and `picture`, of one holding file
abbrev pub IsHoldPath : CommandPath → Type 0
IsHoldPath path = IsJoinPath 1 path

abbrev pub IsDecodePath : CommandPath → Type 0
IsDecodePath Record = Unit {0}
IsDecodePath Frame = Unit {0}
IsDecodePath Out = Unit {0}
IsDecodePath StandardOutput = Unit {0}
IsDecodePath _ = ⊥
