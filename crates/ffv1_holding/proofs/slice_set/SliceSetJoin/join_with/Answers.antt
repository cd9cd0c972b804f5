use Rattle.std.proofs.Common.{◌++◌, ◌∷◌, [], map, take, sym, ap, ◌∙◌, arith, refl}
use Rattle.std.proofs.lemmas.List.{map_more}
use Rattle.ffv1_holding.specs.Sets as set
use Rattle.ffv1_holding.specs.SliceOrder.{bytes_total, bytes_antisymmetric}
use Rattle.ffv1_holding.proofs.RisingSets.{size_grows}
use Rattle.std.proofs.lemmas.Result.{err_from_is_err_and}
use Rattle.ffv1_holding.proofs.Errors.{error_is, memory_is_no_other, memory_is_not_long}
use Rattle.ffv1_holding.proofs.slice_set.SliceSetJoin.join_with.Goals as goal

pub loop-slice-init : goal.loop-slice-init
loop-slice-init c =
    let same = c.in_ok-whole.ensures.ok in
    record { added = same ∙ sym (set.union_empty bytes_total bytes_antisymmetric c.args.self.now); kept = rw same (omega arith) }

pub loop-slice-preserved : goal.loop-slice-preserved
loop-slice-preserved c =
    let slices = c.deref-slice-items.result.now in
    let slice = c.deref.result.now in
    let item = c.deref.ensures.value ∙ ap (λ v. v.items) c.slice-item.is in
    let one_more = map_more (λ v. v.items) slices c.loop-slice.slice-index c.slice-item.result c.loop-slice-test.true in
    let inserted = c.in_ok-insert.ensures.ok ∙ ap (λ s. set.insert s slice) c.loop-slice.invariant.added in
    let pushed = set.union-push bytes_total bytes_antisymmetric c.args.self.now (map (λ v. v.items) (take c.loop-slice.slice-index slices)) slice in
    record {
      added = inserted ∙ sym pushed ∙ ap (λ x. set.union c.args.self.now
          (set.from_list (map (λ v. v.items) (take c.loop-slice.slice-index slices) ++ x ∷ []))) item
          ∙ ap (λ xs. set.union c.args.self.now (set.from_list xs)) (sym one_more);
      kept = omega (arith, c.loop-slice.invariant.kept, size_grows bytes_total c.loop-slice.whole slice, ap set.size c.in_ok-insert.ensures.ok);
    }

pub returns-in_err-whole : goal.returns-in_err-whole
returns-in_err-whole c =
    let p = err_from_is_err_and c.from_residual.result c.from_residual.ensures.1 in
    rw (p.1, p.2, error_is c.in_err-whole.ensures.memory) (record { joined = tt; growth = tt; fits = tt; joinable = tt; other_reel = λ e. absurd (memory_is_no_other e); memory = λ _. tt; too_long = memory_is_not_long; err = refl })

pub returns-in_err-insert : goal.returns-in_err-insert
returns-in_err-insert c =
    let p = err_from_is_err_and c.from_residual-in_err-insert.result c.from_residual-in_err-insert.ensures.1 in
    rw (p.1, p.2, error_is c.in_err-insert.ensures.memory) (record { joined = tt; growth = tt; fits = tt; joinable = tt; other_reel = λ e. absurd (memory_is_no_other e); memory = λ _. tt; too_long = memory_is_not_long; err = refl })
