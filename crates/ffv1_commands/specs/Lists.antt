-- Lists that a command reads whole, and judges whole before it reads what they list.
use Rattle.std.specs.Prelude.{ℕ, ◌≡◌, List, Option}
use Rattle.ffv1_devices.specs.Logs.{ReadLog}
use Rattle.ffv1_commands.specs.Devices.{IsWholeInput, TakesWhole}
use Rattle.ffv1_commands.specs.declared.fault.CliFault.{CliFault}
use Rattle.ffv1_commands.specs.declared.fault.CliFault.TheVariants as faults
use Rattle.ffv1_commands.specs.declared.path.CommandPath.{CommandPath}

-- The list was read whole; P is what its text says.
pub record ReadsList (P : List ℕ → Type 0) (old new : ReadLog) : Type 0 where
  pub text : List ℕ
  pub whole : TakesWhole old new text
  pub says : P text

-- The input is a list; P is what its text says, which is the input's bytes, if these are known.
pub record IsList (P : List ℕ → Type 0) (input : Option (List ℕ)) : Type 0 where
  pub text : List ℕ
  pub whole : IsWholeInput input text
  pub says : P text

-- What holds of a fault of the list that is this path of the command.
abbrev pub IfOfList : CommandPath → CliFault → Type 0 → Type 0
IfOfList path (faults.Read named) P = named ≡ path → P
IfOfList path (faults.Ranges number) P = P
IfOfList path (faults.List number) P = P
IfOfList path _ P = Unit {0}
