-- What was passed of an item, by private calls.
use Rattle.std.specs.Prelude.{ℕ, ◌≡◌, List, length, Result, Ok, Err}
use Rattle.ffv1_devices.specs.Logs.{ReadLog}
use Rattle.ebml.specs.declared.items.Kind.{Kind}
use Rattle.ebml_reader.specs.declared.fault.ReaderFault.{ReaderFault}
use Rattle.ebml_reader.specs.Reader.{Held, IsFault}
use Rattle.ebml_reader.specs.Intake.{Passes, IsBounded}
use Rattle.ebml_reader.specs.Starts.{IsStartOf, PassesChildren}

abbrev pub PassesFront : Kind → Result ℕ ReaderFault → Held → Held → ReadLog → ReadLog → Type 0
PassesFront kind (Ok long) old new before after =
    (bytes : List ℕ) × (long ≡ length bytes) × Passes bytes old new before after × IsBounded new × IsStartOf kind bytes new
PassesFront kind (Err fault) old new before after = IsFault fault old.taken before after

abbrev pub PassesAllChildren : Result ℕ ReaderFault → Held → Held → ReadLog → ReadLog → Type 0
PassesAllChildren (Ok long) old new before after = (bytes : List ℕ) × (long ≡ length bytes) × PassesChildren bytes old new before after
PassesAllChildren (Err fault) old new before after = IsFault fault old.taken before after
