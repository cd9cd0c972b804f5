-- The texts that the program prints of itself.
use Rattle.std.specs.Prelude.{ℕ, List}
use Rattle.ffv1_help.specs.declared.texts.TheConstants.{HELP, VERSION}

-- what `help` prints
abbrev pub help_text : List ℕ
help_text = HELP.now

-- what `version` prints
abbrev pub version_text : List ℕ
version_text = VERSION.now
