-- What holds of a list that was read.
use Rattle.std.proofs.Common.{ℕ, List}
use Rattle.ffv1_devices.specs.Logs.{ReadLog}
use Rattle.ffv1_commands.specs.Lists.{ReadsList, IsList}
use Rattle.ffv1_commands.proofs.InputLaws.{whole_input}

pub list_of_bytes : (P : List ℕ → Type 0) (a b : ReadLog) → ReadsList P a b → IsList P a.remaining
list_of_bytes P a b list = record {
  text = list.text;
  whole = whole_input a.remaining b.remaining list.text (record { taken = list.whole.read.bytes'; end = list.whole.end; few = list.whole.few });
  says = list.says;
}
