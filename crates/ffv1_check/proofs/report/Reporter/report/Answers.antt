use Rattle.std.proofs.Common.{length, refl, subst}
use Rattle.ffv1_check.specs.Inner.Stands.{AreCounted}
use Rattle.ffv1_check.proofs.ReportSteps.{lines_end, IsWholeBy, report_there}
use Rattle.ffv1_check.proofs.report.Reporter.report.Goals as goal

pub returns : goal.returns
returns c = λ parts stands.
    let lines = lines_end (length c.args.tracks.now) c.args.size parts c.args.self.lines.items c.push_found.new.lines.items c.args.self.progress.tops.segment
    c.found_at_end-found.result stands.lines c.in_ok-push_found.ensures c.found_at_end-found.ensures stands.stands.tops.segment in
    report_there c.args.tracks.now c.args.size parts c.args.self.progress _ stands.stands stands.many lines
    (subst (λ z. AreCounted c.args.tracks.now z c.in_ok-counts.counts.items) c.deref.ensures.value c.in_ok-counts.ensures) refl refl
    (subst (λ z. IsWholeBy c.args.tracks.now c.is_whole-is_whole.result c.push_found.new.lines.items z) c.deref-3.ensures.value
    (subst (λ z. IsWholeBy c.args.tracks.now c.is_whole-is_whole.result z c.deref-3.result.now) c.deref-2.ensures.value c.is_whole-is_whole.ensures))
