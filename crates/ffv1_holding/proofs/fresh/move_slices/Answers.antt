use Rattle.std.proofs.Common.{ℕ, List, drop, sum_by, ◌≤◌, vec_capacity, ◌≡◌, ◌<◌, ◌+◌, cond, is_ok, vec_len, subst, ◌++◌, [], length, get_or, ap, ◌∙◌, sym, refl, arith, append_assoc}
use Rattle.std.proofs.lemmas.List.{append-nil, length-set, get_or_default}
use Rattle.std.proofs.lemmas.List.Sums.{sum_by-drop_more}
use Rattle.ffv1_holding.specs.Inner.PoolEntries.{slice_in, IsEntryIn}
use Rattle.ffv1_holding.specs.declared.fresh.Fresh.{Fresh}
use Rattle.ffv1_holding.specs.declared.pool_entry.PoolEntry.{PoolEntry}
use Rattle.ffv1_holding.proofs.Moves.{begins, slice_long, moved_more, left_more}
use Rattle.ffv1_holding.proofs.fresh.move_slices.Goals as goal

abbrev nothing : Fresh PoolEntry
nothing = record { place = 0; item = record { tile = 0; start = 0; length = 0 } }

abbrev long : Fresh PoolEntry → ℕ
long f = f.item.length

-- the next slice fits, and leaves room for those after it
room_left : (from slice : List ℕ) (old : List (Fresh PoolEntry)) (f : Fresh PoolEntry) (i used room : ℕ) → i < length old → f ≡ get_or old i nothing
    → IsEntryIn from (get_or old i nothing).item → slice ≡ slice_in from f.item → used + sum_by long (drop i old) ≤ room
    → used + length slice + sum_by long (drop (i + 1) old) ≤ room
room_left from slice old f i used room lt same lies is fits =
    let size = ap length is ∙ slice_long from [] f (subst (λ (g : Fresh PoolEntry). IsEntryIn from g.item) (sym same) lies) in
    omega (arith, fits, sum_by-drop_more long old i nothing lt, ap long same, size)

pub loop-index-init : goal.loop-index-init
loop-index-init c = record {
  room = c.requires.room;
  more = [];
  later = sym (append-nil c.args.bytes.now.items);
  long = refl;
  done = λ i d lt. absurd (omega arith);
  left = λ i d ge. refl;
}

pub loop-index-preserved : goal.loop-index-preserved
loop-index-preserved c =
    let inv = c.loop-index.invariant in
    let fresh = c.loop-index.fresh in
    let i = c.loop-index.index in
    let f = get_or fresh i nothing in
    let lt : i < length fresh = omega (arith, c.loop-index-test.true, inv.long) in
    let here : get_or fresh i f ≡ f = get_or_default fresh i f nothing lt in
    let begin : c.len-start.result ≡ length c.loop-index.bytes.items = omega (arith, c.len-start.ensures) in
    let from = c.args.from.now in
    let next : c.extend_from_slice.new.self.items ≡ c.loop-index.bytes.items ++ slice_in from f.item =
    c.extend_from_slice.ensures.items
    ∙ ap (λ r. cond (is_ok r) (c.loop-index.bytes.items ++ c.slice.result.now) c.loop-index.bytes.items) c.unwrap.ensures
    ∙ ap (λ s. c.loop-index.bytes.items ++ s) c.slice.ensures in
    let left = room_left from c.slice.result.now c.args.fresh.now f i (vec_len c.loop-index.bytes) (vec_capacity c.loop-index.bytes) c.loop-index-test.true
    (inv.left i nothing (omega arith)) (c.requires.coming i nothing c.loop-index-test.true) c.slice.ensures inv.room in
    let grown = c.extend_from_slice.ensures.len
    ∙ ap (λ r. cond (is_ok r) (vec_len c.loop-index.bytes + length c.slice.result.now) (vec_len c.loop-index.bytes)) c.unwrap.ensures in
    record {
      room = omega (arith, left, grown, c.extend_from_slice.ensures.capacity);
      more = inv.more ++ slice_in from f.item;
      later = next ∙ ap (λ b. b ++ slice_in from f.item) inv.later ∙ append_assoc c.args.bytes.now.items inv.more (slice_in from f.item);
      long = length-set fresh i (begins f c.len-start.result) ∙ inv.long;
      done = moved_more from c.loop-index.bytes.items c.args.fresh.now fresh i c.len-start.result f lt inv.long here begin c.requires.coming inv.done inv.left
          c.extend_from_slice.new.self.items next;
      left = left_more from c.loop-index.bytes.items c.args.fresh.now fresh i c.len-start.result f lt inv.long here begin c.requires.coming inv.done inv.left;
    }

pub returns : goal.returns
returns c =
    let inv = c.loop-index.invariant in
    record { more = inv.more; later = inv.later; long = inv.long; each = λ i d lt. inv.done i d (omega (arith, c.loop-index-test.false)) }

pub bounds-fresh-index : goal.bounds-fresh-index
bounds-fresh-index c = subst (λ n. c.loop-index.index < n) (sym c.loop-index.invariant.long) c.loop-index-test.true

pub bounds-fresh-index-in-loop-index : goal.bounds-fresh-index-in-loop-index
bounds-fresh-index-in-loop-index c = subst (λ n. c.loop-index.index < n) (sym c.loop-index.invariant.long) c.loop-index-test.true

pub bounds-fresh-index-in-loop-index-2 : goal.bounds-fresh-index-in-loop-index-2
bounds-fresh-index-in-loop-index-2 c = subst (λ n. c.loop-index.index < n) (sym c.loop-index.invariant.long) c.loop-index-test.true

pub unwrap-requires : goal.unwrap-requires
unwrap-requires c =
    let inv = c.loop-index.invariant in
    let i = c.loop-index.index in
    let left = room_left c.args.from.now c.slice.result.now c.args.fresh.now (get_or c.loop-index.fresh i nothing) i (vec_len c.loop-index.bytes)
    (vec_capacity c.loop-index.bytes) c.loop-index-test.true (inv.left i nothing (omega arith)) (c.requires.coming i nothing c.loop-index-test.true)
    c.slice.ensures inv.room in
    c.extend_from_slice.ensures.succeeds (omega (arith, left))
