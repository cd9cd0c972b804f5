-- Why words are refused: what a command of a name has to have.
use Rattle.std.proofs.Common.{◌≡◌, ℕ, List, Option, Some, None, Bool, true, false, Result, Ok, Err, IsErrAnd, MatchResult, refl, sym, subst, ◌∙◌, codes}
use Rattle.std.specs.Option.{ok_or}
use Rattle.std.specs.Str.{bytes_eq}
use Rattle.clap.specs.Words.{Row}
use Rattle.ffv1_commands.specs.Fault.{NamesNoPath}
use Rattle.ffv1_commands.specs.declared.fault.CliFault.{CliFault}
use Rattle.ffv1_commands.specs.declared.fault.CliFault.TheVariants as faults
use Rattle.ffv1_words.specs.Inner.Arguments.{AreNamed, ReadsWords}
use Rattle.ffv1_words.specs.Arguments.{AreValues, AreRecordingWords, AreArguments, RefusesAll, command_name}
use Rattle.ffv1_words.specs.declared.words.RecordingWords.{RecordingWords}
use Rattle.ffv1_words.specs.declared.words.Words.{Words}
use Rattle.ffv1_words.specs.declared.words.Words.TheVariants.{Show, Setup, Take, Splice, Mend, Decode, Samples}

-- what is refused for another thing that each has
pub refuses-weaker : {T V : Type 0} (P : T → Type 0) (Q : V → Type 0) (fault : CliFault) → ((v : V) → Q v → (x : T) × P x)
    → RefusesAll P fault → RefusesAll Q fault
refuses-weaker P Q faults.Words given none = λ v is. none (given v is).0 (given v is).1
refuses-weaker P Q faults.Memory given none = tt
refuses-weaker P Q _ given none = none

pub names_none : {T : Type 0} (P : T → Type 0) (fault : CliFault) → RefusesAll P fault → NamesNoPath fault
names_none P (faults.Read path) none = none
names_none P (faults.Write path) none = none
names_none P (faults.Splice path) none = none
names_none P _ none = tt

-- what is found is as it has to be, and where nothing is found nothing is so
pub found_or : {T V : Type 0} (P : T → Type 0) (Q : V → Type 0) (found : Option T) (r : Result T CliFault) → r ≡ ok_or found faults.Words
    → ((value : T) → found ≡ Some value → P value) → (found ≡ None → (v : V) → ¬ Q v) → MatchResult r P (RefusesAll Q)
found_or P Q None r is there none = subst (λ r. MatchResult r P (RefusesAll Q)) (sym is) (none refl)
found_or P Q (Some value) r is there none = subst (λ r. MatchResult r P (RefusesAll Q)) (sym is) (there value refl)

-- what a fault that is handed on says
pub handed_on : {T F : Type 0} (P : T → Type 0) (Q : F → Type 0) (r : Result T F) (fault : F) → IsErrAnd r (λ other. other ≡ fault) → Q fault
    → MatchResult r P Q
handed_on P Q (Ok value) fault same is = absurd same
handed_on P Q (Err other) fault same is = subst Q (sym same) is

pub hands_on : (rows : List Row) (name : List ℕ) (r : Result Words CliFault) (fault : CliFault) → IsErrAnd r (λ other. other ≡ fault)
    → RefusesAll (AreNamed rows name) fault → ReadsWords rows name r
hands_on rows name (Ok value) fault same is = absurd same
hands_on rows name (Err other) fault same is = subst (RefusesAll (AreNamed rows name)) (sym same) is

-- ---- what the command of a name has

abbrev When : Bool → Type 0 → Type 0 → Type 0
When true A B = A
When false A B = B

abbrev HasRecording : List Row → Type 0
HasRecording rows = (recording : RecordingWords) × AreRecordingWords rows recording

abbrev HasCopies : List Row → Type 0
HasCopies rows = (words : List (List ℕ)) × AreValues rows (codes "COPY") words

abbrev HasFrames : List Row → Type 0
HasFrames rows = (words : List (List ℕ)) × AreValues rows (codes "FRAME") words

-- a recording, or copies or frames, or both, if it is the name of a command that has them
abbrev Needs : List Row → List ℕ → Type 0
Needs rows name =
    When (bytes_eq name (codes "show")) (HasRecording rows)
    (When (bytes_eq name (codes "setup")) (HasRecording rows)
    (When (bytes_eq name (codes "decode")) (HasRecording rows)
    (When (bytes_eq name (codes "take")) (HasRecording rows × HasCopies rows)
    (When (bytes_eq name (codes "splice")) (HasCopies rows)
    (When (bytes_eq name (codes "mend")) (HasCopies rows)
    (When (bytes_eq name (codes "samples")) (HasRecording rows × HasFrames rows) (Unit {0})))))))

has_needs : (rows : List Row) (words : Words) → AreArguments rows words → Needs rows (command_name words)
has_needs rows (Show recording) is = (recording, is)
has_needs rows (Setup recording) is = (recording, is)
has_needs rows (Decode recording frame out) is = (recording, is.0)
has_needs rows (Take recording out copies) is = ((recording, is.0), (_, is.2))
has_needs rows (Splice out copies) is = (_, is.1)
has_needs rows (Mend list out copies) is = (_, is.2)
has_needs rows (Samples recording out frames) is = ((recording, is.0), (_, is.2))
has_needs rows _ is = tt

-- A command of this name is refused for what it needs.
pub refused : {T : Type 0} (P : T → Type 0) (rows : List Row) (name literal : List ℕ) → name ≡ literal → (fault : CliFault) → (Needs rows literal → (x : T) × P x)
    → RefusesAll P fault → RefusesAll (AreNamed rows name) fault
refused P rows name literal this fault given none =
    refuses-weaker P (AreNamed rows name) fault (λ words is. given (subst (Needs rows) (is.0 ∙ this) (has_needs rows words is.1))) none
