use Rattle.std.proofs.Common.{refl}
use Rattle.ffv1_program.proofs.Runs.{text_as_promised}
use Rattle.ffv1_program.proofs.command.run.Goals as goal

pub returns-in-Chain : goal.returns-in-Chain
returns-in-Chain g c = record { promise = rw (c.in-Chain.is, c.all_done.ensures) (c.chain_file.ensures c.args.recordings); untouched = rw c.in-Chain.is refl }

pub returns-in-Scan : goal.returns-in-Scan
returns-in-Scan g c = record { promise = rw c.in-Scan.is (c.scan_files.ensures c.args.recordings); untouched = rw c.in-Scan.is refl }

pub returns-in-Check : goal.returns-in-Check
returns-in-Check g c = record { promise = rw c.in-Check.is (c.check_named.ensures c.args.recordings); untouched = rw c.in-Check.is refl }

pub returns-in-Show : goal.returns-in-Show
returns-in-Show g c = record { promise = rw (c.in-Show.is, c.all_done-in-Show.ensures) (c.show_record.ensures c.args.recordings); untouched = rw c.in-Show.is refl }

pub returns-in-Setup : goal.returns-in-Setup
returns-in-Setup g c = record { promise = rw (c.in-Setup.is, c.all_done-in-Setup.ensures) (c.setup_record.ensures c.args.recordings); untouched = rw c.in-Setup.is refl }

pub returns-in-Take : goal.returns-in-Take
returns-in-Take g c = record { promise = rw c.in-Take.is (c.take_files.ensures c.in-Take.out); untouched = rw c.in-Take.is tt }

pub returns-in-Join : goal.returns-in-Join
returns-in-Join g c = record { promise = rw (c.in-Join.is, c.all_done-in-Join.ensures) (c.join_files.ensures c.in-Join.out); untouched = rw c.in-Join.is tt }

pub returns-in-Restore : goal.returns-in-Restore
returns-in-Restore g c = record { promise = rw (c.in-Restore.is, c.all_done-in-Restore.ensures) (c.restore_file.ensures c.in-Restore.out); untouched = rw c.in-Restore.is tt }

pub returns-in-Picture : goal.returns-in-Picture
returns-in-Picture g c = record { promise = rw c.in-Picture.is (c.picture_file.ensures c.in-Picture.out); untouched = rw c.in-Picture.is tt }

pub returns-in-Splice : goal.returns-in-Splice
returns-in-Splice g c = record { promise = rw c.in-Splice.is (c.splice_files.ensures c.args.recordings c.in-Splice.out); untouched = rw c.in-Splice.is tt }

pub returns-in-Mend : goal.returns-in-Mend
returns-in-Mend g c = record { promise = rw c.in-Mend.is (c.mend_files.ensures c.args.recordings); untouched = rw c.in-Mend.is tt }

pub returns-in-Decode : goal.returns-in-Decode
returns-in-Decode g c = record { promise = rw (c.in-Decode.is, c.all_done-in-Decode.ensures) (c.decode_files.ensures c.args.recordings c.in-Decode.out); untouched = rw c.in-Decode.is tt }

pub returns-in-Samples : goal.returns-in-Samples
returns-in-Samples g c = record { promise = rw c.in-Samples.is (c.samples_files.ensures c.args.recordings); untouched = rw c.in-Samples.is tt }

pub returns-in-Help : goal.returns-in-Help
returns-in-Help g c =
    record {
      promise = rw c.in-Help.is (text_as_promised _ g.W.Sink.log _ _ _ _ c.all_printed.ensures c.print_help.ensures);
      untouched = rw c.in-Help.is refl;
    }

pub returns-in-Version : goal.returns-in-Version
returns-in-Version g c =
    record {
      promise = rw c.in-Version.is (text_as_promised _ g.W.Sink.log _ _ _ _ c.all_printed-in-Version.ensures c.print_version.ensures);
      untouched = rw c.in-Version.is refl;
    }
