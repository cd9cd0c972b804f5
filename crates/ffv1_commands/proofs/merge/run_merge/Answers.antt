use Rattle.std.proofs.Common.{rules, List, ℕ, Option, sym, subst, ap}
use Rattle.ffv1_devices.specs.Logs.{ReadLog}
use Rattle.ffv1_hold.specs.MergedStreams.{BeginsWithHead, IsFileOf}
use Rattle.ffv1_commands.specs.declared.path.CommandPath.TheVariants as paths
use Rattle.ffv1_commands.proofs.MendCommandSteps.{left_touched}
use Rattle.ffv1_commands.proofs.MergedFiles.{merge_of_bytes}
use Rattle.ffv1_commands.proofs.merge.run_merge.Goals as goal

abbrev remaining_of : ReadLog → Option (List ℕ)
remaining_of log = log.remaining

pub returns-clause-other : goal.returns-clause-other
returns-clause-other g c one two left right other =
    c.merge_of.ensures.other one two (subst (λ (o : Option (List ℕ)). BeginsWithHead c.args.recordings o one) (sym (ap remaining_of c.new.ensures.log)) left)
    (subst (λ (o : Option (List ℕ)). BeginsWithHead c.args.recordings o two) (sym (ap remaining_of c.new-2.ensures.log)) right) other

pub returns-clause-only : goal.returns-clause-only
returns-clause-only g c v w one two same taken also left right =
    c.merge_of.ensures.only v w one two same taken also (subst (λ (o : Option (List ℕ)). IsFileOf o v one) (sym (ap remaining_of c.new.ensures.log)) left)
    (subst (λ (o : Option (List ℕ)). IsFileOf o w two) (sym (ap remaining_of c.new-2.ensures.log)) right)

pub returns-clause-ok : goal.returns-clause-ok
returns-clause-ok g c =
    let bytes = merge_of_bytes _ _ _ c.merge_of.result c.merge_of.ensures.reported in
    search (rules, bytes.ok)

pub returns-clause-err : goal.returns-clause-err
returns-clause-err g c =
    let bytes = merge_of_bytes _ _ _ c.merge_of.result c.merge_of.ensures.reported in
    search (rules, bytes.err)

pub returns-clause-leaves : goal.returns-clause-leaves
returns-clause-leaves g c =
    let bytes = merge_of_bytes _ _ _ c.merge_of.result c.merge_of.ensures.reported in
    search (rules, bytes.leaves)

pub returns-clause-names : goal.returns-clause-names
returns-clause-names g c = (merge_of_bytes _ _ _ c.merge_of.result c.merge_of.ensures.reported).names

pub returns-clause-out_untouched : goal.returns-clause-out_untouched
returns-clause-out_untouched g c =
    left_touched g.O.Write.contents c.new-3.result c.merge_of.new.out c.args.out.now _ _ c.new-3.ensures.log c.new-3.ensures.writer (search rules)
    paths.Out c.merge_of.result c.merge_of.ensures.out_untouched
