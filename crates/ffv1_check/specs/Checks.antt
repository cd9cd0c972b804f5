-- What a check of a Matroska file reports (own): the report of its parts, by the tracks that it describes.
use Rattle.std.specs.Prelude.{ℕ, ◌≡◌, ◌+◌, Bool, IsTrue, List, [], ◌∷◌, ◌++◌, length, map, take, drop}
use Rattle.ffv1_bits.specs.Parity.{AreBytes}
use Rattle.ebml.specs.Items.{ItemValue, bytes_of_items, AreItems}
use Rattle.ebml.specs.CrcElement.{DivideWithin32}
use Rattle.ebml.specs.declared.head.Head.{Head}
use Rattle.ebml.specs.declared.items.Kind.TheVariants.{Element}
use Rattle.matroska_parts.specs.Openings.{HasOne}
use Rattle.matroska.specs.declared.track.Track.{Track}
use Rattle.matroska_parts.specs.declared.parts.Part.{Part}
use Rattle.matroska_parts.specs.ItemParts.{AreFileParts}
use Rattle.ffv1_check.specs.declared.findings.Line.{Line}
use Rattle.ffv1_check.specs.declared.report.Report.{Report}
use Rattle.ffv1_check.specs.declared.report.TrackCount.{TrackCount}
use Rattle.ffv1_check.specs.Reports.{IsReportOf}
use Rattle.ffv1_check.specs.ReportLines.{check_text}

pub record IsCheckOf (file : List ℕ) (report : Report) : Type 0 where
  pub tracks : List Track
  pub parts : List Part
  pub are_parts : AreFileParts file tracks parts
  pub is_report : IsReportOf tracks (length file) parts report

-- ---- what a report says, wherever the names of codecs lie in memory

pub record CountValue : Type 0 where
  pub number : ℕ
  pub codec : List ℕ
  pub blocks : ℕ
  pub checked : ℕ

abbrev pub count_value : TrackCount → CountValue
count_value count = record { number = count.number; codec = count.codec.now; blocks = count.blocks; checked = count.checked }

pub record ReportValue : Type 0 where
  pub lines : List Line
  pub tracks : List CountValue
  pub size : ℕ
  pub checked : ℕ
  pub is_whole : Bool

abbrev pub report_value : Report → ReportValue
report_value report = record {
  lines = report.lines.items;
  tracks = map count_value report.tracks.items;
  size = report.size;
  checked = report.checked;
  is_whole = report.is_whole;
}

-- ---- laws

-- A file has one report: two of it say the same, and have one text.
abbrev pub ReportIsOne : Type 0
ReportIsOne =
    (file : List ℕ) (a b : Report) → AreBytes file → IsCheckOf file a → IsCheckOf file b → (report_value a ≡ report_value b) × (check_text a ≡ check_text b)

-- No front of a whole file is whole, and nothing that goes on after one.
abbrev pub CutFileIsSeen : Type 0
CutFileIsSeen =
    (front more : List ℕ) (a b : Report) → AreBytes (front ++ more) → IsCheckOf front a → IsCheckOf (front ++ more) b → IsTrue a.is_whole → IsTrue b.is_whole
    → more ≡ []

-- Two files of one length that differ only within the content of one element with a CRC-32, after that content's first two bytes, and there within
-- 32 consecutive bits, in the order in which CRC-32 runs them.
pub record DifferInElement (file damaged : List ℕ) : Type 0 where
  pub items : List ItemValue
  pub are_items : AreItems file items
  pub before : List ItemValue
  pub head : Head
  pub element : List ℕ
  pub after : List ItemValue
  pub at : items ≡ before ++ record { kind = Element head; bytes = element } ∷ after
  pub has : HasOne head (drop head.length element)
  pub other : List ℕ
  pub damaged_is : damaged ≡ bytes_of_items before ++ (other ++ bytes_of_items after)
  pub front : take (head.length + 2) other ≡ take (head.length + 2) element
  pub place : ℕ
  pub within : DivideWithin32 (drop head.length element) (drop head.length other) place

-- Of two files that differ so, one at most is whole, unless they are the same.
abbrev pub SmallDamageIsSeen : Type 0
SmallDamageIsSeen =
    (file damaged : List ℕ) (a b : Report) → AreBytes file → AreBytes damaged → DifferInElement file damaged → IsCheckOf file a → IsCheckOf damaged b
    → IsTrue a.is_whole → IsTrue b.is_whole → file ≡ damaged
