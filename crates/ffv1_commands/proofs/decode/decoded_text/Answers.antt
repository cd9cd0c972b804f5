use Rattle.std.proofs.Common.{◌≡◌, ℕ, List, IfOk, string_bytes, sym, subst}
use Rattle.ffv1_commands.proofs.Outcomes.{decoded_line-fragments}
use Rattle.ffv1_commands.proofs.decode.decoded_text.Goals as goal

pub returns : goal.returns
returns c =
    subst (λ (text : List ℕ). IfOk c.format.result (λ line. string_bytes line ≡ text))
    (sym (decoded_line-fragments c.args.width c.args.height c.args.planes)) c.format.ensures.ok
