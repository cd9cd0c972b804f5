use Rattle.std.proofs.Common.{◌≡◌, ◌++◌, ℕ, List, OnOk, string_bytes, sym, subst}
use Rattle.ffv1_player.proofs.LineSteps.{unclean_line-fragments}
use Rattle.ffv1_player.proofs.frame_lines.push_unclean.Goals as goal

pub returns : goal.returns
returns c =
    subst (λ (line : List ℕ). OnOk c.writeln.result (string_bytes c.writeln.new.self ≡ string_bytes c.args.text.now ++ line))
    (sym (unclean_line-fragments c.args.place c.args.spare)) c.writeln.ensures.bytes
