use Rattle.matroska.proofs.TrackSteps.{says_by, says_nothing}
use Rattle.matroska.proofs.record.says_parities.Goals as goal

pub returns-in-Ok : goal.returns-in-Ok
returns-in-Ok c =
    says_by c.args.record.now c.args.width c.args.height c.in-Ok-Ok.width c.in-Ok-Ok.height c.in-Ok.recording c.ec.result c.in-Ok-Ok.ensures.1 c.in-Ok-Ok.ensures'.1
    c.in-Ok.ensures.found c.in-Ok.ensures.only c.ec.ensures

pub returns-in_default-fault : goal.returns-in_default-fault
returns-in_default-fault c =
    says_nothing c.args.record.now c.args.width c.args.height c.in-Ok-Ok.width c.in-Ok-Ok.height c.in-Ok-Ok.ensures.1 c.in-Ok-Ok.ensures'.1
    (λ r is. c.in_default-fault.not-Memory (c.in-Err.ensures.only r is))
