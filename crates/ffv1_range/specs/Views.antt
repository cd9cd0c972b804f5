-- The code's own values as those of the definitions.
use Rattle.std.specs.Prelude.{ℕ, true, List, map, ◌++◌, replicate, Some, None}
use Rattle.ffv1_range.specs.Coding.{Coder}
use Rattle.ffv1_range.specs.Setup.{RecordingValue}
use Rattle.ffv1_range.specs.SetupForms.{recording_of}
use Rattle.ffv1_range.specs.Fields.{PlanesValue, ShapeValue, TileCounts}
use Rattle.ffv1_range.specs.InitialStates.{StatesValue, uncoded_states}
use Rattle.ffv1_range.specs.Tables.{SetValue}
use Rattle.ffv1_range.specs.Tiles.{GridValue}
use Rattle.ffv1_range.specs.declared.coding.Interval.{Interval}
use Rattle.ffv1_range.specs.declared.fields.Counts.{Counts}
use Rattle.ffv1_range.specs.declared.fields.Planes.{Planes}
use Rattle.ffv1_range.specs.declared.fields.Shape.{Shape}
use Rattle.ffv1_range.specs.declared.grid.Grid.TheInside.{Inside}
use Rattle.ffv1_range.specs.declared.deltas.SetStates.{SetStates}
use Rattle.ffv1_range.specs.declared.deltas.SetStates.TheVariants.{Uncoded, Dropped, Kept}
use Rattle.ffv1_range.specs.declared.tables.TableSet.{TableSet}

abbrev pub coder_of : Interval → Coder
coder_of x = record { range = x.range; low = x.low; rest = x.rest.now ++ replicate x.zeros 0 }

abbrev pub planes_value : Planes → PlanesValue
planes_value x = record { has_chroma = x.has_chroma; shift_h = x.shift_h; shift_v = x.shift_v }

abbrev pub shape_value : Shape → ShapeValue
shape_value x =
    record {
      coder = x.coder;
      transitions = x.transitions;
      is_rgb = x.is_rgb;
      depth = x.depth;
      planes = planes_value x.planes;
      has_alpha = x.has_alpha;
    }

abbrev pub counts_of : Counts → TileCounts
counts_of x = record { across = x.across; down = x.down }

abbrev pub set_value : TableSet → SetValue
set_value x = record { halves = x.halves; contexts = x.contexts }

abbrev pub set_values : List TableSet → List SetValue
set_values sets = map set_value sets

abbrev pub states_value : SetStates → StatesValue
states_value Uncoded = uncoded_states
states_value Dropped = record { coded = true; initial = None }
states_value (Kept states) = record { coded = true; initial = Some states.items }

abbrev pub states_values : List TableSet → List StatesValue
states_values sets = map (λ set. states_value set.states) sets

abbrev pub grid_value : Inside → GridValue
grid_value g =
    record { width = g.width; height = g.height; across = g.across; down = g.down; has_chroma = g.has_chroma; shift_h = g.shift_h; shift_v = g.shift_v }

-- and back
abbrev pub grid_fields : GridValue → Inside
grid_fields g =
    record { width = g.width; height = g.height; across = g.across; down = g.down; has_chroma = g.has_chroma; shift_h = g.shift_h; shift_v = g.shift_v }

-- a recording from the code's fields
abbrev pub recording_fields : ℕ → Shape → Counts → List TableSet → ℕ → ℕ → ℕ → ℕ → RecordingValue
recording_fields micro shape counts sets ec intra width height =
    recording_of (record { micro = micro; shape = shape_value shape; tiles = counts_of counts; sets = 0 }) (set_values sets) (states_values sets) (ec, intra) width height
