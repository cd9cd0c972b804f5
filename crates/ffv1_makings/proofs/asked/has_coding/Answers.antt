use Rattle.ffv1_makings.proofs.StateChanges.{asked_coding}
use Rattle.ffv1_makings.proofs.asked.has_coding.Goals as goal

pub returns-then-has_fields : goal.returns-then-has_fields
returns-then-has_fields c = λ yes recorded.
    asked_coding c.args.recording.now c.args.spec.now recorded (c.has_fields.ensures c.if-has_fields.true) (c.has_transitions.ensures yes)
