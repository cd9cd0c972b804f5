use Rattle.std.proofs.Common.{Bor, List, ℕ, [], false}
use Rattle.std.specs.Prelude.{IsTrue}
use Rattle.flac_frame.specs.Frame.{PassesFlac}
use Rattle.matroska.proofs.LaceSteps.{at_index}
use Rattle.matroska.proofs.sound.all_pass.Goals as goal

false_is : IsTrue false → ⊥
false_is t = cc

pub returns-then-not-passes_flac : goal.returns-then-not-passes_flac
returns-then-not-passes_flac c = (
  λ right. absurd (false_is right),
  λ all. c.if-not-passes_flac.ensures.1 (at_index PassesFlac (λ (frame : Bor (List ℕ)). frame.now) c.args.frames.now c.loop-frame.frame-index
      record { ref_ptr = (0, 0); now = [] } c.loop-frame-test.true all),
)
