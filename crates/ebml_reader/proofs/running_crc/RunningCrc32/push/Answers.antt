use Rattle.std.proofs.Common.{◌++◌, List, ℕ, take, sym, ap, ◌∙◌, subst, arith}
use Rattle.std.proofs.lemmas.List.{length-take-le}
use Rattle.ebml.specs.Crc.{crc32_of}
use Rattle.ebml.specs.CrcElement.{HasCrc32}
use Rattle.ebml_reader.specs.RunningCrc.{RunsOver}
use Rattle.ebml_reader.proofs.RunningSteps.{pushed}
use Rattle.ebml_reader.proofs.running_crc.RunningCrc32.push.Goals as goal

pub returns-then-has_crc32 : goal.returns-then-has_crc32
returns-then-has_crc32 c = λ content runs.
    let inside = c.self.inside in
    let piece = c.args.piece.now in
    let n = c.min-count.result in
    let within = c.self.invariant in
    let long = length-take-le inside.length inside.front (omega (arith, within, c.self.told)) in
    let count = c.min-count.ensures in
    let front = c.put_at-self-inside.ensures.both ∙ ap (λ (l : List ℕ). take c.self.inside.length c.self.inside.front ++ l) c.split_at.ensures.front in
    subst (λ (f : List ℕ). RunsOver (content ++ c.args.piece.now) record { front = f; crc = c.crc32_after-self-inside.result }) (sym front)
    (pushed content piece (take inside.length inside.front) n inside.crc (subst (RunsOver content) (sym c.self.view_is) runs) (omega (arith, count, long))
    c.crc32_after-self-inside.result
    (λ bytes is. c.crc32_after-self-inside.ensures bytes is ∙ ap (λ (l : List ℕ). crc32_of (bytes ++ l)) c.split_at.ensures.back)
    (subst HasCrc32 front (c.has_crc32.ensures.0 c.if-has_crc32.true)))
