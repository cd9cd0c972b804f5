use Rattle.std.proofs.Common.{◌≡◌, ◌-◌, [], length, take}
use Rattle.ffv1_range.specs.Fields.{deltas_onto}
use Rattle.ffv1_range.specs.declared.fault.SetupFault.TheVariants.{Range}
use Rattle.ffv1_range.proofs.Forms.{Continues, IsAtPlace}
use Rattle.ffv1_range.proofs.fields.read_transition_deltas.Given as goal

-- The deltas so far were read, and what is left to read is the rest of the 255.
abbrev pub invariant-loop-index : goal.invariant-loop-index
invariant-loop-index l =
    record {
      going : Continues Range (deltas_onto 255 []) l.fn.decoder l.fn.states (deltas_onto (255 - l.index) (take l.index l.deltas)) l.decoder l.states;
      size : length l.deltas ≡ 255;
      alive : IsAtPlace l.decoder;
    }
