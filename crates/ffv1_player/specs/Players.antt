-- A player: the recording, and what the frame before has left, if it was decoded (RFC 9043, sections 3.8.1.3 and 3.8.2.4).
use Rattle.std.specs.Prelude.{List, map, Option, Some, None, Vec}
use Rattle.std.specs.declared.alloc.Global.{Global}
use Rattle.ffv1_range.specs.Setup.{RecordingValue}
use Rattle.ffv1_samples.specs.States.{slice_states_value}
use Rattle.ffv1_player.specs.Frames.{LeftValue}
use Rattle.ffv1_player.specs.declared.before.LeftSlice.{LeftSlice}

pub record PlayerValue : Type 0 where
  pub recording : RecordingValue
  pub last : Option (List LeftValue)

abbrev pub left_value : LeftSlice → LeftValue
left_value slice = record { header = slice.header; states = slice_states_value slice.states }

abbrev pub left_values : List LeftSlice → List LeftValue
left_values slices = map left_value slices

abbrev pub last_value : Option (Vec LeftSlice Global) → Option (List LeftValue)
last_value None = None
last_value (Some slices) = Some (left_values slices.items)

abbrev pub player_value : RecordingValue → Option (List LeftValue) → PlayerValue
player_value recording last = record { recording = recording; last = last }
