use Rattle.std.proofs.Common.{◌≡◌, ◌<◌, ◌%◌, [], pos, get_or, arith, ap, ◌∙◌, ◌+◌, ◌-◌}
use Rattle.ffv1_range.specs.Setup.{set_entry}
use Rattle.ffv1_plane.specs.Samples.{modular_difference}
use Rattle.ffv1_plane.proofs.Contexts.{entry_low, entry_high, kept_entry}
use Rattle.ffv1_plane.proofs.tables.Tables.entry.Goals as goal

pub returns-clause-entry : goal.returns-clause-entry
returns-clause-entry c =
    let place : (c.args.high + (4294967296 - c.args.low)) % 4294967296 % 256 ≡ modular_difference c.args.high c.args.low =
    (let small = c.ranges.low in let tiny = c.ranges.high in omega arith) in
    let inside : modular_difference c.args.high c.args.low < 256 = omega arith in
    let kept = c.self.invariant.are_entries c.args.table (modular_difference c.args.high c.args.low) c.requires.table inside in
    let there : get_or (get_or c.self.inside.entries c.args.table []) ((c.args.high + (4294967296 - c.args.low)) % 4294967296 % 256)
    (pos 0) ≡ set_entry c.self.inside.recording.now.setup c.self.inside.set c.args.table (modular_difference c.args.high c.args.low) =
    ap (λ k. get_or (get_or c.self.inside.entries c.args.table []) k (pos 0)) place ∙ kept in
    let low = entry_low c.self.inside.recording.now.setup c.self.inside.set c.args.table
    (modular_difference c.args.high c.args.low) c.self.invariant.contexts c.self.invariant.there c.requires.table in
    let high = entry_high c.self.inside.recording.now.setup c.self.inside.set c.args.table
    (modular_difference c.args.high c.args.low) c.self.invariant.contexts c.self.invariant.there c.requires.table in
    rw (← c.self.view_is) (kept_entry c.from.result _ _ c.from.ensures there low high)

pub returns-clause-low : goal.returns-clause-low
returns-clause-low c =
    let low = entry_low c.self.inside.recording.now.setup c.self.inside.set c.args.table
    (modular_difference c.args.high c.args.low) c.self.invariant.contexts c.self.invariant.there c.requires.table in
    rw (returns-clause-entry c, ← c.self.view_is) low

pub returns-clause-high : goal.returns-clause-high
returns-clause-high c =
    let high = entry_high c.self.inside.recording.now.setup c.self.inside.set c.args.table
    (modular_difference c.args.high c.args.low) c.self.invariant.contexts c.self.invariant.there c.requires.table in
    rw (returns-clause-entry c, ← c.self.view_is) high
