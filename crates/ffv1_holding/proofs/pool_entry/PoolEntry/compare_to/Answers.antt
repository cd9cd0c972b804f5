use Rattle.std.proofs.Common.{◌≡◌, take, drop, sym, refl, ap, ◌∙◌}
use Rattle.std.specs.Ordering.{nat_cmp, ordering_then}
use Rattle.std.specs.Cmp.{tied_itself}
use Rattle.std.specs.declared.cmp.Ordering.{Ordering}
use Rattle.std.specs.declared.cmp.Ordering.TheVariants.{Less, Equal, Greater}
use Rattle.ffv1_holding.specs.SliceOrder.{bytes_cmp, bytes_total}
use Rattle.ffv1_holding.specs.Inner.PoolEntries.{slice_in}
use Rattle.ffv1_holding.proofs.pool_entry.PoolEntry.compare_to.Goals as goal

then_tied : (o : Ordering) → ordering_then o Equal ≡ o
then_tied Less = refl
then_tied Equal = refl
then_tied Greater = refl

-- the same place has the same bytes
pub returns-then-self-other-2 : goal.returns-then-self-other-2
returns-then-self-other-2 c =
    let bytes = c.args.bytes.now in
    let one = slice_in bytes c.args.self.now in
    let same : one ≡ slice_in bytes c.args.other = λ i. take (c.if-self-other-2.true i) (drop (c.if-self-other.true i) bytes) in
    let tied : bytes_cmp one (slice_in bytes c.args.other) ≡ Equal = ap (bytes_cmp one) (sym same) ∙ tied_itself bytes_total one in
    c.cmp.ensures ∙ sym (ap (ordering_then (nat_cmp c.args.self.now.tile c.args.other.tile)) tied ∙ then_tied (nat_cmp c.args.self.now.tile c.args.other.tile))
