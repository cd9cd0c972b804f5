-- What is reported after all items of a file.
use Rattle.std.specs.Prelude.{ℕ, ◌≡◌, List, length, Result, Ok, Err}
use Rattle.ffv1_devices.specs.Logs.{ReadLog}
use Rattle.ebml.specs.Items.{ItemValue, bytes_of_items}
use Rattle.ebml_reader.specs.Reader.{AreAllItems, IsFault}
use Rattle.ebml_reader.specs.declared.fault.ReaderFault.{ReaderFault}
use Rattle.matroska_parts.specs.declared.parts.Part.{Part}
use Rattle.matroska_parts.specs.ItemParts.{AreItemParts}
use Rattle.matroska_parts.specs.SourceParts.{KnownTracks}
use Rattle.ffv1_check.specs.declared.report.Reporter.{Reporter}
use Rattle.ffv1_check.specs.Inner.Stands.{ReporterStands}

pub record AllReported (known : KnownTracks) (size : ℕ) (reporter : Reporter) (old new : ReadLog) : Type 0 where
  pub items : List ItemValue
  pub all : AreAllItems old items new
  pub size_is : size ≡ length (bytes_of_items items)
  pub parts : List Part
  pub have : AreItemParts known.first known.tracks 0 items parts
  pub reports : ReporterStands (length known.tracks) parts reporter

abbrev pub ReportsAll : KnownTracks → Result ℕ ReaderFault → Reporter → ReadLog → ReadLog → Type 0
ReportsAll known (Ok size) reporter old new = AllReported known size reporter old new
ReportsAll known (Err fault) reporter old new = IsFault fault 0 old new
