use Rattle.std.proofs.Common.{map, take}
use Rattle.std.specs.List.{AllByRecursion}
use Rattle.flac_frame.specs.Frame.{PassesFlac}
use Rattle.matroska.proofs.sound.all_pass.Given as goal

-- those so far pass
abbrev pub invariant-loop-frame : goal.invariant-loop-frame
invariant-loop-frame l = AllByRecursion PassesFlac (map (λ frame. frame.now) (take l.frame-index l.frames))
