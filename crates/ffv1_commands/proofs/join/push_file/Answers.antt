use Rattle.std.proofs.Common.{◌≡◌, ◌++◌, ℕ, List, OnOk, string_bytes, sym, subst}
use Rattle.ffv1_commands.proofs.Outcomes.{file_line-fragments}
use Rattle.ffv1_commands.proofs.join.push_file.Goals as goal

pub returns : goal.returns
returns c =
    subst (λ (line : List ℕ). OnOk c.writeln.result (string_bytes c.writeln.new.self ≡ string_bytes c.args.text.now ++ line))
    (sym (file_line-fragments c.args.number c.args.new)) c.writeln.ensures.bytes
