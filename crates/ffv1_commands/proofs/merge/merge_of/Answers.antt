use Rattle.std.proofs.Common.{◌≡◌, rules, refl}
use Rattle.ffv1_hold.specs.UnitedHoldings.{united}
use Rattle.ffv1_hold.specs.MergedStreams.{WritesFrontSoFar, inputs_read}
use Rattle.ffv1_hold.specs.declared.file_fault.HoldFileFault.TheVariants.{Write}
use Rattle.ffv1_commands.specs.Fault.{of_merge}
use Rattle.ffv1_commands.proofs.MendCommandSteps.{or_touched}
use Rattle.ffv1_commands.proofs.MergedFiles.{leaves_front, other_heads, returns_files, returns_other_heads}
use Rattle.ffv1_commands.proofs.merge.merge_of.Goals as goal

pub returns-in-Ok-clause-reported : goal.returns-in-Ok-clause-reported
returns-in-Ok-clause-reported g c = (c.in-Ok.ensures.streams.union, c.in-Ok.ensures.streams.went)

pub returns-in-Ok-clause-most : goal.returns-in-Ok-clause-most
returns-in-Ok-clause-most g c = c.in-Ok.ensures.streams.most

pub returns-in-Err-clause-reported : goal.returns-in-Err-clause-reported
returns-in-Err-clause-reported g c =
    let streams = c.in-Err.ensures.streams in
    let front : c.in-Err.fault ≡ Write → WritesFrontSoFar (inputs_read c.args.recordings (g.R.Source.log c.args.left.now)
    (g.R.Source.log c.join_streams_of.new.left) (g.Q.Source.log c.args.right.now) (g.Q.Source.log c.join_streams_of.new.right))
    (g.O.Sink.log c.args.out.now).contents (g.O.Sink.log c.join_streams_of.new.sink).contents = λ is. streams.write (search (rules, is)) in
    rw c.of_merge.ensures (
      c.in-Err.fault,
      refl,
      record {
        shown = streams.fault;
        first = streams.left_first;
        leaves = leaves_front _ _ _ c.in-Err.fault streams.no_end front;
        went = streams.went;
      },
    )

pub returns-in-Err-clause-most : goal.returns-in-Err-clause-most
returns-in-Err-clause-most g c = c.in-Err.ensures.streams.most

pub returns-in-Err-clause-other : goal.returns-in-Err-clause-other
returns-in-Err-clause-other g c one two left right other =
    rw c.of_merge.ensures (returns_other_heads c.in-Err.fault (c.in-Err.ensures.streams.other one two left right other))

pub returns-in-Err-clause-only : goal.returns-in-Err-clause-only
returns-in-Err-clause-only g c v w one two same taken also left right =
    rw c.of_merge.ensures (returns_files (united one two) c.in-Err.fault (c.in-Err.ensures.streams.only v w one two same taken also left right))

pub returns-in-Err-clause-untouched : goal.returns-in-Err-clause-untouched
returns-in-Err-clause-untouched g c =
    rw c.of_merge.ensures (λ is. c.in-Err.ensures.untouched (search (rules, other_heads c.in-Err.fault (search (rules, is)))))

pub returns-in-Err-clause-out_untouched : goal.returns-in-Err-clause-out_untouched
returns-in-Err-clause-out_untouched g c = rw c.of_merge.ensures (or_touched of_merge c.in-Err.fault Write c.in-Err.ensures.sink_untouched)
