-- The text of the entry that is read next.
use Rattle.std.specs.Prelude.{ℕ, List, [], ◌∷◌, Option, Some, None}
use Rattle.ffv1_hold.specs.declared.version.Version.{Version}
use Rattle.ffv1_hold.specs.HoldingText.{FileEntry, entry_text}

-- the text of what is read after an entry: the next one, or the end tag
abbrev pub next_text : Version → Option FileEntry → List ℕ
next_text v None = 0 ∷ []
next_text v (Some e) = entry_text v e
