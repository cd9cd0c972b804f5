-- What a command's words are read from: the values that clap finds under each name, its rows.
use Rattle.std.specs.Prelude.{ℕ, ◌≡◌, ◌<◌, ◌^◌, [], ◌∷◌, List, Some, map, codes}
use Rattle.std.specs.Str.Parse.{IsNumeral, digits_value, without_leading_plus}
use Rattle.clap.specs.Words.{Row, all_of, fault_of, first_of, subcommand_of}
use Rattle.ffv1_commands.specs.declared.fault.CliFault.{CliFault}
use Rattle.ffv1_commands.specs.declared.fault.CliFault.TheVariants as faults
use Rattle.ffv1_words.specs.Grammar.{program_app}
use Rattle.ffv1_words.specs.declared.words.RecordingWords.{RecordingWords}
use Rattle.ffv1_words.specs.declared.words.Words.{Words}
use Rattle.ffv1_words.specs.declared.words.Words.TheVariants.{Chain, Scan, Check, Show, Setup, Take, Join, Merge, Report, Restore, Picture, Splice, Mend, Decode, Samples, Help, Version}

-- The first value of this name.
abbrev pub IsWord : List Row → List ℕ → List ℕ → Type 0
IsWord rows name word = first_of name rows ≡ Some word

-- All values of this name.
abbrev pub AreValues : List Row → List ℕ → List (List ℕ) → Type 0
AreValues rows name words = all_of name rows ≡ Some words

-- The first value of this name, as a number under 2^32 in decimal digits, before which a plus may stand.
pub record IsNumberWord (rows : List Row) (name : List ℕ) (number : ℕ) : Type 0 where
  pub word : List ℕ
  pub is_word : IsWord rows name word
  pub digits : IsNumeral 10 (without_leading_plus word)
  pub value : number ≡ digits_value 10 (without_leading_plus word)
  pub fits : number < 2 ^ 32

-- The recording has the values of RECORD, WIDTH and HEIGHT.
pub record AreRecordingWords (rows : List Row) (recording : RecordingWords) : Type 0 where
  pub record' : IsWord rows (codes "RECORD") recording.record.now
  pub width : IsNumberWord rows (codes "WIDTH") recording.width
  pub height : IsNumberWord rows (codes "HEIGHT") recording.height

-- The words of a command have the values of its names, those of which there are several in their order.
abbrev pub AreArguments : List Row → Words → Type 0
AreArguments rows (Chain frame) = IsWord rows (codes "FRAME") frame.now
AreArguments rows (Scan ranges file) = IsWord rows (codes "RANGES") ranges.now × IsWord rows (codes "FILE") file.now
AreArguments rows (Check file) = IsWord rows (codes "FILE") file.now
AreArguments rows (Show recording) = AreRecordingWords rows recording
AreArguments rows (Setup recording) = AreRecordingWords rows recording
AreArguments rows (Take recording out copies) =
    AreRecordingWords rows recording × IsWord rows (codes "OUT") out.now × AreValues rows (codes "COPY") (map (λ copy. copy.now) copies.items)
AreArguments rows (Join out first others) =
    IsWord rows (codes "OUT") out.now × AreValues rows (codes "HOLD") (first.now ∷ map (λ other. other.now) others.items)
AreArguments rows (Merge out left right) =
    IsWord rows (codes "OUT") out.now × IsWord rows (codes "A") left.now × IsWord rows (codes "B") right.now
AreArguments rows (Report file) = IsWord rows (codes "HOLD") file.now
AreArguments rows (Restore file out) = IsWord rows (codes "HOLD") file.now × IsWord rows (codes "OUT") out.now
AreArguments rows (Picture file out) = IsWord rows (codes "HOLD") file.now × IsWord rows (codes "OUT") out.now
AreArguments rows (Splice out copies) = IsWord rows (codes "OUT") out.now × AreValues rows (codes "COPY") (map (λ copy. copy.now) copies.items)
AreArguments rows (Mend list out copies) =
    IsWord rows (codes "LIST") list.now × IsWord rows (codes "OUT") out.now × AreValues rows (codes "COPY") (map (λ copy. copy.now) copies.items)
AreArguments rows (Decode recording frame out) =
    AreRecordingWords rows recording × IsWord rows (codes "FRAME") frame.now × IsWord rows (codes "OUT") out.now
AreArguments rows (Samples recording out frames) =
    AreRecordingWords rows recording × IsWord rows (codes "OUT") out.now × AreValues rows (codes "FRAME") (map (λ frame. frame.now) frames.items)
AreArguments rows Help = Unit {0}
AreArguments rows Version = Unit {0}

-- the name of a command
abbrev pub command_name : Words → List ℕ
command_name (Chain frame) = codes "chain"
command_name (Scan ranges file) = codes "scan"
command_name (Check file) = codes "check"
command_name (Show recording) = codes "show"
command_name (Setup recording) = codes "setup"
command_name (Take recording out copies) = codes "take"
command_name (Join out first others) = codes "join"
command_name (Merge out left right) = codes "merge"
command_name (Report file) = codes "report"
command_name (Restore file out) = codes "restore"
command_name (Picture file out) = codes "picture"
command_name (Splice out copies) = codes "splice"
command_name (Mend list out copies) = codes "mend"
command_name (Decode recording frame out) = codes "decode"
command_name (Samples recording out frames) = codes "samples"
command_name Help = codes "help"
command_name Version = codes "version"

-- These arguments, the first of which is the program's name, are read by clap without a fault as a command with these words.
pub record AreReadFrom (arguments : List (List ℕ)) (words : Words) : Type 0 where
  pub rows : List Row
  pub taken : fault_of program_app arguments ≡ []
  pub command : subcommand_of program_app arguments ≡ Some (command_name words, rows)
  pub arguments' : AreArguments rows words

-- What is looked for was refused only because nothing is so, or memory ran out.
abbrev pub RefusesAll : {T : Type 0} → (T → Type 0) → CliFault → Type 0
RefusesAll {T} IsSo faults.Words = (value : T) → ¬ IsSo value
RefusesAll IsSo faults.Memory = Unit {0}
RefusesAll IsSo _ = ⊥
