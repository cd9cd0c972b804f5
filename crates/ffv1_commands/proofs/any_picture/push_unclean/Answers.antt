use Rattle.std.proofs.Common.{◌≡◌, ◌++◌, ℕ, List, OnOk, string_bytes, sym, subst}
use Rattle.ffv1_commands.proofs.Outcomes.{unclean_tile_line-fragments}
use Rattle.ffv1_commands.proofs.any_picture.push_unclean.Goals as goal

pub returns : goal.returns
returns c =
    subst (λ (line : List ℕ). OnOk c.writeln.result (string_bytes c.writeln.new.self ≡ string_bytes c.args.text.now ++ line))
    (sym (unclean_tile_line-fragments c.args.tile c.args.spare)) c.writeln.ensures.bytes
