-- The words of a command as they are matched.
use Rattle.std.specs.Prelude.{ℕ, ◌≡◌, ◌≢◌, List, Result, Ok, Err, codes}
use Rattle.clap.specs.Words.{Row, rows_of, found_of}
use Rattle.clap.specs.declared.parser.matches.ArgMatches.{ArgMatches}
use Rattle.ffv1_commands.specs.declared.fault.CliFault.{CliFault}
use Rattle.ffv1_words.specs.declared.words.Words.{Words}
use Rattle.ffv1_words.specs.Arguments.{AreArguments, RefusesAll, command_name}

-- what clap found under each name
abbrev pub rows_matched : ArgMatches → List Row
rows_matched matches = rows_of (found_of matches)

-- They are the words of the command of this name.
abbrev pub AreNamed : List Row → List ℕ → Words → Type 0
AreNamed rows name words = (command_name words ≡ name) × AreArguments rows words

-- The command of this name was read with its words, or it has none that are so, or memory ran out.
abbrev pub ReadsWords : List Row → List ℕ → Result Words CliFault → Type 0
ReadsWords rows name (Ok words) = AreNamed rows name words
ReadsWords rows name (Err fault) = RefusesAll (AreNamed rows name) fault

-- It is the name of no command over frames, records, stretches or whole files, and not `help` or `version`.
pub record IsOfHoldings (name : List ℕ) : Type 0 where
  pub not_chain : name ≢ codes "chain"
  pub not_scan : name ≢ codes "scan"
  pub not_check : name ≢ codes "check"
  pub not_show : name ≢ codes "show"
  pub not_setup : name ≢ codes "setup"
  pub not_take : name ≢ codes "take"
  pub not_splice : name ≢ codes "splice"
  pub not_mend : name ≢ codes "mend"
  pub not_decode : name ≢ codes "decode"
  pub not_samples : name ≢ codes "samples"
  pub not_help : name ≢ codes "help"
  pub not_version : name ≢ codes "version"
