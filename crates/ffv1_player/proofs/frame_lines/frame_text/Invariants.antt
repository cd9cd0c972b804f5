use Rattle.std.proofs.Common.{◌≡◌, ◌++◌, take, string_bytes}
use Rattle.ffv1_player.specs.FrameLines.{played_line, unclean_lines}
use Rattle.ffv1_player.proofs.frame_lines.frame_text.Given as goal

-- the lines so far
abbrev pub invariant-loop-place : goal.invariant-loop-place
invariant-loop-place l =
    string_bytes l.text ≡ played_line l.number l.frame ++ unclean_lines 0 (take l.place l.frame.slices.items)
