use Rattle.std.proofs.Common.{◌∙◌, arith}
use Rattle.std.proofs.lemmas.List.{length-set}
use Rattle.ffv1_range.specs.Setup.{set_entry}
use Rattle.ffv1_plane.proofs.Contexts.{entry_low, entry_high, entry_fits, stored_entry, kept_more}
use Rattle.ffv1_plane.proofs.tables.table_of.Goals as goal

pub overflow_cast-entries : goal.overflow_cast-entries
overflow_cast-entries c =
    rw c.entry.ensures
    (entry_fits _ (entry_low c.args.recording.now.setup c.args.set c.args.table c.loop-index.index c.keeps_version_3.ensures.contexts c.requires.set c.requires.table)
    (entry_high c.args.recording.now.setup c.args.set c.args.table c.loop-index.index c.keeps_version_3.ensures.contexts c.requires.set c.requires.table))

pub loop-index-preserved : goal.loop-index-preserved
loop-index-preserved c =
    let stored = stored_entry c.entry.result _ c.entry.ensures (entry_low c.args.recording.now.setup c.args.set c.args.table c.loop-index.index c.keeps_version_3.ensures.contexts
    c.requires.set c.requires.table)
    (entry_high c.args.recording.now.setup c.args.set c.args.table c.loop-index.index c.keeps_version_3.ensures.contexts c.requires.set c.requires.table) in
    record {
      kept = kept_more c.loop-index.entries c.loop-index.index _ (set_entry c.args.recording.now.setup c.args.set c.args.table)
          (omega (arith, c.loop-index.invariant.long, c.loop-index-test.true)) c.loop-index.invariant.kept stored;
      long = length-set c.loop-index.entries c.loop-index.index _ ∙ c.loop-index.invariant.long;
    }
