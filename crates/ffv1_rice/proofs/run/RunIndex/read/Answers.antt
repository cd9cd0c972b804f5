use Rattle.std.proofs.Common.{◌≡◌, ◌-◌, false, [], ◌∷◌, ap, ◌∙◌, rules}
use Rattle.std.specs.Prelude.{Ok}
use Rattle.ffv1_bits.specs.Reader.{ReadsBits}
use Rattle.ffv1_rice.specs.Runs.{run_exponent}
use Rattle.ffv1_rice.proofs.Words.{rest_word, long_word, cut_number}
use Rattle.ffv1_rice.proofs.OneRun.{same_word, no_read_when_cut}
use Rattle.ffv1_rice.proofs.run.RunIndex.read.Goals as goal
use Rattle.ffv1_rice.proofs.run.RunIndex.read.Goals.{After-saturating_sub-self-inside as AfterFall}

-- ---- after a bit 0 and the bits of a number

exponent_taken : (c : AfterFall) → c.exponent-exponent.result ≡ run_exponent c.args.self.now
exponent_taken c = c.exponent-exponent.ensures.value ∙ ap run_exponent c.self.view_is

zero_read : (c : AfterFall) → ReadsBits c.args.bits.now (false ∷ []) c.bit.new.self
zero_read c = rw (c.if-whole.false, c.fork-ahead.ensures) at c.in-Some.ensures.some

index_fallen : (c : AfterFall) → c.saturating_sub-self-inside.result ≡ c.args.self.now - 1
index_fallen c = search rules

pub returns-in_default-take-clause-found : goal.returns-in_default-take-clause-found
returns-in_default-take-clause-found c =
    let e : c.exponent-exponent.result ≡ run_exponent c.args.self.now = c.exponent-exponent.ensures.value ∙ ap run_exponent c.self.view_is in
    let zero : ReadsBits c.args.bits.now (false ∷ []) c.bit.new.self = rw (c.if-whole.false, c.fork-ahead.ensures) at c.in-Some.ensures.some in
    λ word next after is. absurd (no_read_when_cut _ _ next word _ after (cut_number _ _ _ _ e zero c.in_default-take.ensures.none) is)

pub returns-then-length-left-2 : goal.returns-then-length-left-2
returns-then-length-left-2 c =
    let t = (goal.at.returns-then-length-left-2 c).After-saturating_sub-self-inside in
    let read = rest_word _ _ _ _ _ _ _ (exponent_taken t) c.in-Some-take.ensures.fits c.if-length-left-2.true (zero_read t) c.in-Some-take.ensures.some in
    record { ok = rw (index_fallen t) read; found = λ w n after is. ap Ok (same_word _ _ _ _ _ _ _ _ _ read is); truncated = tt; err = tt; unchanged = tt }

pub returns : goal.returns
returns c =
    let t = (goal.at.returns c).After-saturating_sub-self-inside in
    let read = long_word _ _ _ _ _ _ _ (exponent_taken t) c.in-Some-take.ensures.fits c.if-length-left-2.false (zero_read t) c.in-Some-take.ensures.some in
    record { ok = rw (index_fallen t) read; found = λ w n after is. ap Ok (same_word _ _ _ _ _ _ _ _ _ read is); truncated = tt; err = tt; unchanged = tt }
