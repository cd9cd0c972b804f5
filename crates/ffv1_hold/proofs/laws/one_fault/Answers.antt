use Rattle.ffv1_hold.proofs.Common.{sym, ◌∙◌}
use Rattle.ffv1_hold.proofs.OneFault.{one_fault}
use Rattle.ffv1_hold.proofs.OneInput.{one_input}
use Rattle.ffv1_hold.proofs.laws.one_fault.Goals as goal

pub returns-clause-input : goal.returns-clause-input
returns-clause-input c = one_input

pub returns-clause-beginnings : goal.returns-clause-beginnings
returns-clause-beginnings c q input seen rest others rest' f g one two a b = one_fault q f g seen others rest rest' (sym one ∙ two) a b
