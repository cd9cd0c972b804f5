use Rattle.std.proofs.Common.{◌≡◌, ◌++◌, ℕ, List, OnOk, string_bytes, sym, subst, rules}
use Rattle.ffv1_commands.proofs.Outcomes.{copy_line-fragments}
use Rattle.ffv1_commands.proofs.take.push_taken.Goals as goal

pub returns : goal.returns
returns c =
    let taken = c.args.taken in
    subst (λ (line : List ℕ). OnOk c.writeln.result (string_bytes c.writeln.new.self ≡ string_bytes c.args.text.now ++ line))
    (sym (copy_line-fragments c.args.number taken.links taken.slices taken.new c.args.in_order)) (search (rules, c.writeln.ensures.bytes))
