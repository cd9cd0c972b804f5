use Rattle.std.proofs.Common.{ℕ, Vec, Global, rules}
use Rattle.std.proofs.lemmas.Fn.{always_returns_same}
use Rattle.ffv1_holding.specs.SliceOrder.{bytes_cmp, bytes_total, bytes_antisymmetric}
use Rattle.ffv1_holding.proofs.RisingSets.{items-from_list}
use Rattle.ffv1_holding.proofs.Searches.{searched}
use Rattle.ffv1_holding.proofs.slice_set.SliceSet.place_of.Goals as goal

-- the closure compares the bytes of a slice, and the list is that of the set's items
pub returns : goal.returns
returns c =
    let facts = c.binary_search_by.ensures in
    let slices = c.self.inside.slices.items in
    let by_bytes = facts.position (λ held. bytes_cmp held.items c.args.slice.now) (always_returns_same _ _ _ (λ a r g called. search rules)) in
    let listed = items-from_list bytes_total _ c.self.invariant in
    let is = searched bytes_total (λ (held : Vec ℕ Global). held.items) bytes_antisymmetric slices c.args.slice.now c.self.invariant _
    (rw (← c.deref.ensures.value) facts.bound) (rw (← c.deref.ensures.value) by_bytes) in
    rw (← c.self.view_is, listed) is
