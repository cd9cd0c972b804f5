use Rattle.std.proofs.Common.{codes}
use Rattle.ffv1_words.specs.Inner.Arguments.{rows_matched}
use Rattle.ffv1_words.proofs.Refusals.{hands_on, refused}
use Rattle.ffv1_words.proofs.reading.words_of.Goals as goal

pub returns-in_err-recording_words-in-show : goal.returns-in_err-recording_words-in-show
returns-in_err-recording_words-in-show c =
    hands_on (rows_matched c.args.matches.now) c.args.name.now c.from_residual-in_err-recording_words-in-show.result _ c.from_residual-in_err-recording_words-in-show.ensures.1
    (refused _ (rows_matched c.args.matches.now) _ (codes "show") c.in-show.is _ (λ need. need) c.in_err-recording_words-in-show.ensures)

pub returns-in_err-recording_words-in-setup : goal.returns-in_err-recording_words-in-setup
returns-in_err-recording_words-in-setup c =
    hands_on (rows_matched c.args.matches.now) c.args.name.now c.from_residual-in_err-recording_words-in-setup.result _ c.from_residual-in_err-recording_words-in-setup.ensures.1
    (refused _ (rows_matched c.args.matches.now) _ (codes "setup") c.in-setup.is _ (λ need. need) c.in_err-recording_words-in-setup.ensures)

pub returns-in_err-recording_words-in-take : goal.returns-in_err-recording_words-in-take
returns-in_err-recording_words-in-take c =
    hands_on (rows_matched c.args.matches.now) c.args.name.now c.from_residual-in_err-recording_words-in-take.result _ c.from_residual-in_err-recording_words-in-take.ensures.1
    (refused _ (rows_matched c.args.matches.now) _ (codes "take") c.in-take.is _ (λ need. need.0) c.in_err-recording_words-in-take.ensures)

pub returns-in_err-copies-in-take : goal.returns-in_err-copies-in-take
returns-in_err-copies-in-take c =
    hands_on (rows_matched c.args.matches.now) c.args.name.now c.from_residual-in_err-copies-in-take.result _ c.from_residual-in_err-copies-in-take.ensures.1
    (refused _ (rows_matched c.args.matches.now) _ (codes "take") c.in-take.is _ (λ need. need.1) c.in_err-copies-in-take.ensures)

pub returns-in_err-copies-in-splice : goal.returns-in_err-copies-in-splice
returns-in_err-copies-in-splice c =
    hands_on (rows_matched c.args.matches.now) c.args.name.now c.from_residual-in_err-copies-in-splice.result _ c.from_residual-in_err-copies-in-splice.ensures.1
    (refused _ (rows_matched c.args.matches.now) _ (codes "splice") c.in-splice.is _ (λ need. need) c.in_err-copies-in-splice.ensures)

pub returns-in_err-copies-in-mend : goal.returns-in_err-copies-in-mend
returns-in_err-copies-in-mend c =
    hands_on (rows_matched c.args.matches.now) c.args.name.now c.from_residual-in_err-copies-in-mend.result _ c.from_residual-in_err-copies-in-mend.ensures.1
    (refused _ (rows_matched c.args.matches.now) _ (codes "mend") c.in-mend.is _ (λ need. need) c.in_err-copies-in-mend.ensures)

pub returns-in_err-recording_words-in-decode : goal.returns-in_err-recording_words-in-decode
returns-in_err-recording_words-in-decode c =
    hands_on (rows_matched c.args.matches.now) c.args.name.now c.from_residual-in_err-recording_words-in-decode.result _ c.from_residual-in_err-recording_words-in-decode.ensures.1
    (refused _ (rows_matched c.args.matches.now) _ (codes "decode") c.in-decode.is _ (λ need. need) c.in_err-recording_words-in-decode.ensures)

pub returns-in_err-recording_words-in-samples : goal.returns-in_err-recording_words-in-samples
returns-in_err-recording_words-in-samples c =
    hands_on (rows_matched c.args.matches.now) c.args.name.now c.from_residual-in_err-recording_words-in-samples.result _ c.from_residual-in_err-recording_words-in-samples.ensures.1
    (refused _ (rows_matched c.args.matches.now) _ (codes "samples") c.in-samples.is _ (λ need. need.0) c.in_err-recording_words-in-samples.ensures)

pub returns-in_err-frames-in-samples : goal.returns-in_err-frames-in-samples
returns-in_err-frames-in-samples c =
    hands_on (rows_matched c.args.matches.now) c.args.name.now c.from_residual-in_err-frames-in-samples.result _ c.from_residual-in_err-frames-in-samples.ensures.1
    (refused _ (rows_matched c.args.matches.now) _ (codes "samples") c.in-samples.is _ (λ need. need.1) c.in_err-frames-in-samples.ensures)
