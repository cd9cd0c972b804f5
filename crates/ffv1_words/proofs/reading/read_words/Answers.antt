use Rattle.std.proofs.Common.{◌≡◌, ◌∙◌, ap, sym, subst, Result, Ok, Err, IfOk, IfErr, List, [], Some, map, string_bytes}
use Rattle.clap.specs.Words.{Row, Text, fault_of, subcommand_of}
use Rattle.ffv1_commands.specs.Fault.{NamesNoPath}
use Rattle.ffv1_commands.specs.declared.fault.CliFault.{CliFault}
use Rattle.ffv1_words.specs.Inner.Arguments.{rows_matched, AreNamed, ReadsWords}
use Rattle.ffv1_words.specs.Arguments.{AreArguments, AreReadFrom, RefusesAll}
use Rattle.ffv1_words.specs.Grammar.{program_app}
use Rattle.ffv1_words.specs.declared.words.Words.{Words}
use Rattle.ffv1_words.proofs.Grammar.{met_of, taken_of, refused_of, other_kind, both_same}
use Rattle.ffv1_words.proofs.Refusals.{refuses-weaker, names_none}
use Rattle.ffv1_words.proofs.reading.read_words.Goals as goal

-- What is read is read from the arguments, or none is, or memory ran out.
record IsReadFrom (arguments : List Text) (r : Result Words CliFault) : Type 0 where
  ok : IfOk r (AreReadFrom arguments)
  err : IfErr r (RefusesAll (AreReadFrom arguments))
  names : IfErr r NamesNoPath

-- the words are those of the command that was met
read_of : (r : Result Words CliFault) (arguments : List Text) (name : Text) (rows : List Row) → fault_of program_app arguments ≡ []
    → subcommand_of program_app arguments ≡ Some (name, rows) → ReadsWords rows name r → IsReadFrom arguments r
read_of (Ok words) arguments name rows taken met read = record {
  ok = record { rows = rows; taken = taken; command = met ∙ ap (λ (n : Text). Some (n, rows)) (sym read.0); arguments' = read.1 };
  err = tt;
  names = tt;
}
read_of (Err fault) arguments name rows taken met read =
    let none = refuses-weaker (AreNamed rows name) (AreReadFrom arguments) fault (λ words is.
    let same = both_same _ _ _ _ (sym is.command ∙ met) in
    (words, (same.0, subst (λ rows. AreArguments rows words) same.1 is.arguments'))) read in
    record { ok = tt; err = none; names = names_none (AreReadFrom arguments) fault none }

pub returns-in-Some : goal.returns-in-Some
returns-in-Some c =
    let read = read_of c.words_of.result (map (λ word. string_bytes word) c.args.words.now) c.in-Some.name.now (rows_matched c.in-Some.found.now)
    (taken_of _ _ _ _ c.in-Ok-try_get_matches_from.is c.in-Ok.ensures c.try_get_matches_from.ensures.kinds)
    (met_of _ _ c.in-Ok-try_get_matches_from.matches _ _ c.in-Ok.ensures c.in-Ok-try_get_matches_from.ensures.matches c.in-Some.ensures.name c.in-Some.ensures.rows)
    c.words_of.ensures in
    record { ok = read.ok; err = read.err; names = read.names }

pub returns-in-Err-2-clause-err : goal.returns-in-Err-2-clause-err
returns-in-Err-2-clause-err c =
    λ words is. refused_of _ _ _ _ c.in-Err-2.is c.in-Ok.ensures c.try_get_matches_from.ensures.kinds
    (other_kind _ _ _ _ _ c.in-Err.is c.in-Err-2.is c.kind.ensures c.eq.ensures c.if-eq.false) is.taken
