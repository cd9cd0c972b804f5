use Rattle.std.proofs.Common.{◌≡◌, ◌++◌, ℕ, List, OnOk, string_bytes, sym, subst}
use Rattle.ffv1_commands.proofs.Outcomes.{stuck_line-fragments}
use Rattle.ffv1_commands.proofs.any_picture.push_sample.Goals as goal

pub returns : goal.returns
returns c =
    subst (λ (line : List ℕ). OnOk c.writeln.result (string_bytes c.writeln.new.self ≡ string_bytes c.args.text.now ++ line))
    (sym (stuck_line-fragments c.args.tile c.args.plane c.args.y c.args.x)) c.writeln.ensures.bytes
