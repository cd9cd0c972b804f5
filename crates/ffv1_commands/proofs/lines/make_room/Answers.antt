use Rattle.std.proofs.Common.{◌≡◌, ◌++◌, ◌∙◌, ℕ, List, [], refl, sym, ap, subst, append-nil, string_bytes, rules}
use Rattle.ffv1_devices.specs.Logs.{Writes}
use Rattle.ffv1_devices.proofs.Steps.{Writes-nil}
use Rattle.ffv1_commands.proofs.lines.make_room.Goals as goal

pub returns-then-len-clause-ok : goal.returns-then-len-clause-ok
returns-then-len-clause-ok g c = record { printed = []; split = refl; written = Writes-nil _ }

pub returns-clause-ok : goal.returns-clause-ok
returns-clause-ok g c =
    let none : string_bytes c.clear.new.self ≡ [] = search rules in
    let same : c.as_bytes.result.now ≡ string_bytes c.args.text.now = search rules in
    record {
      printed = string_bytes c.args.text.now;
      split = sym (append-nil _) ∙ ap (λ (l : List ℕ). string_bytes c.args.text.now ++ l) (sym none);
      written = subst (Writes _ _) same c.in_ok-write_field.ensures;
    }
