-- What clap finds of the program's commands, by its rows.
use Rattle.std.proofs.Common.{◌≡◌, ◌≢◌, Bool, false, ◌∙◌, inl, inr, refl, sym, ap, subst, Option, Some, None, Result, Ok, Err, option_map, List, [], ◌∷◌, true}
use Rattle.clap.specs.Words.{App, FailsBy, IsAmong, Kinds, Row, Text, HasMatchesOf, fault_of, kind_of, all_of, first_of, first_value, found_of, is_simple, is_simple_and_free, rows_of, raw_values, matched_of, subcommand_of, subcommand_rows_of}
use Rattle.clap.specs.Matches.{subcommand_name_of}
use Rattle.clap.specs.declared.parser.matches.ArgMatches.{ArgMatches}
use Rattle.clap.specs.declared.parser.matches.ArgMatches.TheViews.{out-ArgMatches, out-SubCommand}
use Rattle.clap.specs.declared.error.Error.{Error}
use Rattle.clap.specs.declared.error.kind.ErrorKind.{ErrorKind}
use Rattle.clap.specs.declared.error.kind.ErrorKind.TheVariants.{OutOfMemory}
use Rattle.std.specs.Box.{box_value}
use Rattle.clap.specs.contracts.error.kind.ErrorKind.{the_type}
use denote.Enum.Bare.{sameb}
use Rattle.clap.proofs.OnLiterals.{clap_on_literals}
use Rattle.clap.proofs.WalkLemmas.{first_value-rows, raw_values-rows}
use Rattle.ffv1_words.specs.Inner.Arguments.{rows_matched}
use Rattle.ffv1_words.specs.Arguments.{IsWord, AreValues}
use Rattle.ffv1_words.specs.Grammar.{program_app}

pub first_value-word : (m : ArgMatches) (name word : Text) → first_value (found_of m) name ≡ Some word → IsWord (rows_matched m) name word
first_value-word m name word is = sym (first_value-rows (found_of m) name) ∙ is

pub raw_values-words : (m : ArgMatches) (name : Text) (words : List Text) → option_map raw_values (matched_of (found_of m) name) ≡ Some words
    → AreValues (rows_matched m) name words
raw_values-words m name words is = sym (raw_values-rows (found_of m) name) ∙ is

-- where nothing is found under a name, no word is
pub first_value-none : (m : ArgMatches) (name : Text) → first_value (found_of m) name ≡ None → (word : Text) → ¬ IsWord (rows_matched m) name word
first_value-none m name is word there =
    let none : first_of name (rows_matched m) ≡ None = sym (first_value-rows (found_of m) name) ∙ is in
    let bad : ⊥ = cc in bad

pub raw_values-none : (m : ArgMatches) (name : Text) → option_map raw_values (matched_of (found_of m) name) ≡ None → (words : List Text)
    → ¬ AreValues (rows_matched m) name words
raw_values-none m name is words there =
    let none : all_of name (rows_matched m) ≡ None = sym (raw_values-rows (found_of m) name) ∙ is in
    let bad : ⊥ = cc in bad

-- clap's words are exact of these commands
pub program_is_simple : is_simple program_app ≡ true
unfolding clap_on_literals
program_is_simple = refl

pub program_is_free : is_simple_and_free program_app ≡ true
unfolding clap_on_literals
program_is_free = refl

module _ {B : Type 0} (f : B → Text) (g : B → List Row) where
  abbrev of_both : B → Text × List Row
  of_both b = (f b, g b)

  both : (o : Option B) (name : Text) (rows : List Row) → Some name ≡ option_map f o
      → Some rows ≡ option_map (λ (p : Text × List Row). p.1) (option_map of_both o) → option_map of_both o ≡ Some (name, rows)
  both None name rows named found = cc
  both (Some b) name rows named found = cc

-- the command that was met, by its name and what was found under its names
pub met : (m : ArgMatches) (name : Text) (rows : List Row) → Some name ≡ subcommand_name_of m → Some rows ≡ option_map (λ (p : Text × List Row). p.1) (subcommand_rows_of m)
    → subcommand_rows_of m ≡ Some (name, rows)
met m name rows named found =
    both (λ b. (out-SubCommand (box_value b)).name.now) (λ b. rows_of (found_of (out-SubCommand (box_value b)).matches)) (out-ArgMatches m).subcommand name rows named found

pub met_of : (app : App) (words : List Text) (m : ArgMatches) (name : Text) (rows : List Row) → app ≡ program_app → HasMatchesOf app words m
    → Some name ≡ subcommand_name_of m → Some rows ≡ option_map (λ (p : Text × List Row). p.1) (subcommand_rows_of m)
    → subcommand_of program_app words ≡ Some (name, rows)
met_of app words m name rows is has named found =
    ap (λ (a : App). subcommand_of a words) (sym is) ∙ sym (has (ap is_simple is ∙ program_is_simple)).1 ∙ met m name rows named found

-- ---- faults

-- where the program's commands take the words, they have no fault
pub taken_of : (app : App) (words : List Text) (r : Result ArgMatches Error) (m : ArgMatches) → r ≡ Ok m → app ≡ program_app
    → (is_simple_and_free app ≡ true → FailsBy (fault_of app words) r) → fault_of program_app words ≡ []
taken_of app words r m ok is fails =
    let by = subst (FailsBy (fault_of app words)) ok (fails (ap is_simple_and_free is ∙ program_is_free)) in
    ap (λ (a : App). fault_of a words) (sym is) ∙ by

some_kind : (kinds : Kinds) (k : ErrorKind) → IsAmong k kinds → kinds ≢ []
some_kind [] k among none = among
some_kind (first ∷ others) k among none = let bad : ⊥ = cc in bad

-- where they refuse them, and not because memory ran out, they have a fault
pub refused_of : (app : App) (words : List Text) (r : Result ArgMatches Error) (e : Error) → r ≡ Err e → app ≡ program_app
    → (is_simple_and_free app ≡ true → FailsBy (fault_of app words) r) → kind_of e ≢ OutOfMemory → fault_of program_app words ≢ []
refused_of app words r e err is fails other none =
    let by = subst (FailsBy (fault_of app words)) err (fails (ap is_simple_and_free is ∙ program_is_free)) in
    elim by [
      | inl memory ↦ other memory
      | inr among ↦ some_kind (fault_of app words) (kind_of e) among (ap (λ (a : App). fault_of a words) is ∙ none)
    ]

-- the kind of an error that was found to be another
pub other_kind : (r : Result ArgMatches Error) (e d : Error) (k : ErrorKind) (same : Bool) → r ≡ Err e → r ≡ Err d → k ≡ kind_of e
    → same ≡ sameb the_type k OutOfMemory → same ≡ false → kind_of d ≢ OutOfMemory
other_kind r e d k same is is_too of tested unlike memory =
    let one : e ≡ d = cc in
    let there : k ≡ OutOfMemory = of ∙ ap kind_of one ∙ memory in
    let bad : false ≡ true = sym unlike ∙ tested ∙ ap (λ (k : ErrorKind). sameb the_type k OutOfMemory) there in
    let never : ⊥ = cc in never

-- two commands that were met are one
inside : {A : Type 0} (a b : A) → Some a ≡ Some b → a ≡ b
inside a b is = cc

-- a command by its name, and what was found under its names
abbrev pub command_as : Text → List Row → Option (Text × List Row)
command_as name rows = Some (name, rows)

pub both_same : (name other : Text) (rows others : List Row) → command_as name rows ≡ command_as other others → (name ≡ other) × (rows ≡ others)
both_same name other rows others is =
    let one = inside _ _ is in
    (ap (λ (p : Text × List Row). p.0) one, ap (λ (p : Text × List Row). p.1) one)
