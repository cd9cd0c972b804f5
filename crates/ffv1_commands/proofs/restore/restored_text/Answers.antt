use Rattle.std.proofs.Common.{◌≡◌, ℕ, List, IfOk, string_bytes, sym, subst}
use Rattle.ffv1_commands.proofs.Outcomes.{restored_line-fragments}
use Rattle.ffv1_commands.proofs.restore.restored_text.Goals as goal

pub returns : goal.returns
returns c =
    subst (λ (text : List ℕ). IfOk c.format.result (λ line. string_bytes line ≡ text)) (sym (restored_line-fragments c.args.count)) c.format.ensures.ok
