use Rattle.ffv1_words.specs.Inner.Arguments.{rows_matched}
use Rattle.ffv1_words.specs.Arguments.{AreRecordingWords}
use Rattle.ffv1_words.proofs.Refusals.{handed_on, refuses-weaker}
use Rattle.ffv1_words.proofs.reading.recording_words.Goals as goal

pub returns : goal.returns
returns c = record { record' = c.in_ok-word.ensures.read; width = c.in_ok-number.ensures.read; height = c.in_ok-number-2.ensures.read }

pub returns-in_err-number : goal.returns-in_err-number
returns-in_err-number c =
    handed_on _ _ c.from_residual-in_err-number.result _ c.from_residual-in_err-number.ensures.1
    (refuses-weaker _ (AreRecordingWords (rows_matched c.args.matches.now)) _ (λ recording is. (recording.width, is.width)) c.in_err-number.ensures.read)

pub returns-in_err-number-2 : goal.returns-in_err-number-2
returns-in_err-number-2 c =
    handed_on _ _ c.from_residual-in_err-number-2.result _ c.from_residual-in_err-number-2.ensures.1
    (refuses-weaker _ (AreRecordingWords (rows_matched c.args.matches.now)) _ (λ recording is. (recording.height, is.height)) c.in_err-number-2.ensures.read)
