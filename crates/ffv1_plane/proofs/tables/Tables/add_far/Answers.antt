use Rattle.std.proofs.Common.{◌≡◌, ℕ, ◌<◌, pos, arith, subst}
use Rattle.std.proofs.lemmas.Int.{ints}
use Rattle.ffv1_range.specs.Setup.{set_entry}
use Rattle.ffv1_plane.specs.Samples.{SamplesAbout, modular_difference}
use Rattle.ffv1_plane.specs.SetTables.{SetTables}
use Rattle.ffv1_plane.proofs.tables.Tables.add_far.Goals as goal

pub returns-then-self : goal.returns-then-self
returns-then-self c =
    let AreZero : SetTables → Type 0 = λ t. (k : ℕ) → k < 256 → (set_entry t.setup t.set 3 k ≡ pos 0) × (set_entry t.setup t.set 4 k ≡ pos 0) in
    let zero = subst AreZero c.self.view_is (c.self.invariant.near c.if-self.true) in
    let Second : SamplesAbout → Type 0 = λ n. c.entry.result ≡ set_entry c.args.self.now.setup c.args.self.now.set 2 (modular_difference n.top n.top_right) in
    let second = subst Second c.near.view_is c.entry.ensures.entry in
    let third : set_entry c.args.self.now.setup c.args.self.now.set 3 (modular_difference c.args.near.now.left_of_left c.args.near.now.left) ≡ pos 0 =
    (zero (modular_difference c.args.near.now.left_of_left c.args.near.now.left) (omega arith)).0 in
    let fourth : set_entry c.args.self.now.setup c.args.self.now.set 4 (modular_difference c.args.near.now.top_of_top c.args.near.now.top) ≡ pos 0 =
    (zero (modular_difference c.args.near.now.top_of_top c.args.near.now.top) (omega arith)).1 in
    rw (third, fourth, ← second) (omega (arith, ints))

pub returns : goal.returns
returns c = rw (← c.near.view_is, ← c.entry.ensures.entry, ← c.entry-2.ensures.entry, ← c.entry-3.ensures.entry) (omega (arith, ints))
