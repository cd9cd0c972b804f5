-- Parts of a file that are reported as they are read.
use Rattle.std.specs.Prelude.{ℕ, ◌+◌, ◌-◌, ◌≡◌, ◌&&◌, false, List, [], ◌∷◌, ◌++◌, length, Option, Some, None, Result, Ok, Err}
use Rattle.std.specs.List.{AllByRecursion, concat, flat_map}
use Rattle.ffv1_devices.specs.Logs.{ReadLog}
use Rattle.ebml.specs.Children.{IsChild, BeginsNoChild}
use Rattle.ebml.specs.Masters.{cluster_ids}
use Rattle.ebml.specs.declared.head.Head.{Head}
use Rattle.ebml.specs.declared.items.Kind.{Kind}
use Rattle.ebml_reader.specs.Reader.{Held, IsFault}
use Rattle.ebml_reader.specs.RunningCrc.{CrcSoFar, RunsOver}
use Rattle.ebml_reader.specs.Intake.{Passes, IsBounded, Whatever}
use Rattle.ebml_reader.specs.Pieces.{PassesUpTo, GoesOver, up_to, IsWithinLeft}
use Rattle.ebml_reader.specs.Starts.{PassesChildren, EndsItem}
use Rattle.ebml_reader.specs.declared.fault.ReaderFault.{ReaderFault}
use Rattle.ebml_reader.specs.declared.fault.ReaderFault.TheVariants.{Memory}
use Rattle.matroska.specs.declared.track.Track.{Track}
use Rattle.matroska_parts.specs.declared.parts.Part.{Part}
use Rattle.matroska_parts.specs.declared.parts.Part.TheVariants as part
use Rattle.matroska_parts.specs.declared.parts.Crc32.{Crc32}
use Rattle.matroska_parts.specs.declared.parts.Closing.{Closing}
use Rattle.matroska_parts.specs.declared.top_elements.TopElement.{TopElement}
use Rattle.matroska_parts.specs.declared.top_elements.TopElement.TheVariants as tops
use Rattle.matroska_parts.specs.MasterParts.{EachHasParts, IsMasterChild, unknown_parts}
use Rattle.matroska_parts.specs.Openings.{IsCrc32Of, passes}
use Rattle.matroska_parts.specs.ItemParts.{is_at, is_uncut, AreRecordPartsIf, AreElementParts, AreItemPartsBy}
use Rattle.matroska_parts.specs.SourceParts.{KnownTracks}
use Rattle.ffv1_check.specs.declared.report.Reporter.{Reporter}
use Rattle.ffv1_check.specs.declared.waiting.Waiting.{Waiting}
use Rattle.ffv1_check.specs.Inner.Stands.{ReporterStands}
use Rattle.matroska_parts.specs.Inner.Vouched.{vouched_if}
use Rattle.ffv1_check.specs.Inner.Vouched.{waits, WaitsFor}

-- parts were taken, or memory was refused
abbrev pub TakesParts : {T : Type 0} → List Part → Result T ReaderFault → Reporter → Reporter → Type 0
TakesParts parts (Ok x) reporter later =
    (tracks : ℕ) (before : List Part) → ReporterStands tracks before reporter → ReporterStands tracks (before ++ parts) later
TakesParts parts (Err fault) reporter later = fault ≡ Memory

-- parts like these were reported, after whatever parts stood before
abbrev pub ReportsParts : ℕ → (List Part → Type 0) → Reporter → Reporter → Type 0
ReportsParts tracks Are reporter later =
    (before : List Part) → ReporterStands tracks before reporter → (own : List Part) × Are own × ReporterStands tracks (before ++ own) later

-- a child of a Cluster was taken
abbrev pub TakesChild : {T : Type 0} → List Track → ℕ → List ℕ → Result T ReaderFault → Reporter → Reporter → Waiting → Waiting → Type 0
TakesChild tracks place bytes (Ok x) reporter later waiting kept =
    (own : List Part) × IsMasterChild tracks false place bytes own
    × ((before : List Part) → ReporterStands (length tracks) before reporter → ReporterStands (length tracks) (before ++ own) later)
    × (kept.blocks.items ≡ waiting.blocks.items ++ flat_map waits own) × (kept.checked ≡ waiting.checked)
TakesChild tracks place bytes (Err fault) reporter later waiting kept = fault ≡ Memory

-- how many bytes are left of a content
abbrev pub size_left : Option ℕ → ℕ → Option ℕ
size_left None passed = None
size_left (Some size) passed = Some (size - passed)

-- what children of a Cluster were taken at this place: their parts are reported, as they are if its CRC-32 doesn't pass
abbrev pub ReportsChildren : List Track → ℕ → List (List ℕ) → Reporter → Reporter → Waiting → Waiting → Type 0
ReportsChildren tracks place children reporter later waiting kept =
    (before : List Part) → ReporterStands (length tracks) before reporter → WaitsFor (length tracks) before [] waiting
    → (own : List Part) × EachHasParts (IsMasterChild tracks false) place children own × ReporterStands (length tracks) (before ++ own) later × WaitsFor (length tracks) before own kept

pub record ChildrenTaken (tracks : List Track) (place : ℕ) (size : Option ℕ) (passed : ℕ) (crc last : CrcSoFar) (reporter later : Reporter) (waiting kept : Waiting)
    (old new : Held) (before after : ReadLog) : Type 0 where
  pub content : List ℕ
  pub long : passed ≡ length content
  pub within : IsWithinLeft passed size
  pub passes : Passes content old new before after
  pub over : GoesOver content crc last
  pub children : List (List ℕ)
  pub joined : content ≡ concat children
  pub each : AllByRecursion (IsChild cluster_ids) children
  pub reports : ReportsChildren tracks place children reporter later waiting kept

abbrev pub TakesChildren : List Track → ℕ → Option ℕ → Result ℕ ReaderFault → (crc last : CrcSoFar) → Reporter → Reporter → Waiting → Waiting → Held → Held → ReadLog
    → ReadLog → Type 0
TakesChildren tracks place size (Ok passed) crc last reporter later waiting kept old new before after =
    ChildrenTaken tracks place size passed crc last reporter later waiting kept old new before after × IsBounded new
    × Whatever new (λ left. BeginsNoChild cluster_ids (up_to (size_left size passed) left))
TakesChildren tracks place size (Err fault) crc last reporter later waiting kept old new before after = IsFault fault old.taken before after

-- what follows the children of a Cluster was passed: nothing where its size is unknown
abbrev pub PassesAfter : Option ℕ → ℕ → List ℕ → Held → Held → ReadLog → ReadLog → Type 0
PassesAfter None children rest old new before after = (rest ≡ []) × (new ≡ old) × (after ≡ before)
PassesAfter (Some size) children rest old new before after = PassesUpTo (size - children) rest old new before after

abbrev pub PassesAfterIn : Option ℕ → ℕ → Result ℕ ReaderFault → (crc last : CrcSoFar) → Held → Held → ReadLog → ReadLog → Type 0
PassesAfterIn size children (Ok long) crc last old new before after =
    (rest : List ℕ) × (long ≡ length rest) × PassesAfter size children rest old new before after × GoesOver rest crc last
PassesAfterIn size children (Err fault) crc last old new before after = IsFault fault old.taken before after

abbrev pub closing_with : ℕ → TopElement → (size content : ℕ) → Crc32 → Closing
closing_with place element size content crc32 = record { place = place; element = element; size = size; content = content; crc32 = crc32 }

-- The end of a Cluster was taken, whose content and its last bytes are these: the parts before it stand as the CRC-32 says.
pub record ClusterEnd (known : KnownTracks) (place : ℕ) (head : Head) (children rest : ℕ) (start content bytes : List ℕ) (before own : List Part) (later : Reporter) : Type 0 where
  pub crc32 : Crc32
  pub crc32_is : IsCrc32Of head (start ++ content) crc32
  pub records : List Part
  pub are_records : AreRecordPartsIf (is_at place known.first && is_uncut crc32) (passes crc32) (place + head.length) known.tracks records
  pub stands : ReporterStands (length known.tracks)
      ((before ++ vouched_if (passes crc32) own)
      ++ (unknown_parts (place + head.length + children) bytes
      ++ (records ++ part.End (closing_with place tops.Cluster (head.length + (children + rest)) (children + rest) crc32) ∷ []))) later

abbrev pub EndsCluster : {T : Type 0} → KnownTracks → ℕ → Head → (children rest : ℕ) → CrcSoFar → Waiting → Result T ReaderFault → Reporter → Reporter → Type 0
EndsCluster known place head children rest crc waiting (Ok x) reporter later =
    (start content bytes : List ℕ) (before own : List Part) → length start ≡ head.length → children + rest ≡ length content → rest ≡ length bytes → RunsOver content crc
    → ReporterStands (length known.tracks) (before ++ own) reporter → WaitsFor (length known.tracks) before own waiting
    → ClusterEnd known place head children rest start content bytes before own later
EndsCluster known place head children rest crc waiting (Err fault) reporter later = fault ≡ Memory

-- a Cluster's content was passed, by its size
abbrev pub EndsBy : Option ℕ → List ℕ → Held → Held → ReadLog → ReadLog → Type 0
EndsBy None rest old new before after = PassesChildren rest old new before after
EndsBy (Some size) rest old new before after = PassesUpTo size rest old new before after

abbrev pub TakesCluster : KnownTracks → ℕ → Head → List ℕ → Result ℕ ReaderFault → Reporter → Reporter → Held → Held → ReadLog → ReadLog → Type 0
TakesCluster known place head start (Ok long) reporter later old new before after =
    (rest : List ℕ) × (long ≡ length rest) × EndsBy head.size rest old new before after
    × ReportsParts (length known.tracks) (AreElementParts known.first known.tracks place head (start ++ rest)) reporter later
TakesCluster known place head start (Err fault) reporter later old new before after = IsFault fault old.taken before after

abbrev pub TakesItem : KnownTracks → ℕ → Kind → List ℕ → Result ℕ ReaderFault → Reporter → Reporter → Held → Held → ReadLog → ReadLog → Type 0
TakesItem known place kind start (Ok long) reporter later old new before after =
    (rest : List ℕ) × (long ≡ length rest) × EndsItem kind rest old new before after
    × ReportsParts (length known.tracks) (AreItemPartsBy kind known.first known.tracks place (start ++ rest)) reporter later
TakesItem known place kind start (Err fault) reporter later old new before after = IsFault fault old.taken before after
