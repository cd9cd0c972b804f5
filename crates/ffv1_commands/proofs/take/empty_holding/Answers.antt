use Rattle.std.proofs.Common.{ℕ, List, refl, sym, ap, ◌∙◌, subst}
use Rattle.std.proofs.lemmas.Result.{err_from_is_err_and}
use Rattle.ffv1_holding.specs.Reels.{IsRecordingFor, reel_of}
use Rattle.ffv1_holding.specs.Contents.{Contents, no_slices}
use Rattle.ffv1_commands.specs.TakenFrames.{in_taken_frames, as_taken}
use Rattle.ffv1_commands.proofs.RecordFaults.{reel_unread, reel_refused}
use Rattle.ffv1_commands.proofs.TakeReported.{reel_read}
use Rattle.ffv1_commands.proofs.take.empty_holding.Goals as goal

pub returns-in_err-config-clause-err : goal.returns-in_err-config-clause-err
returns-in_err-config-clause-err g c =
    let p = err_from_is_err_and c.from_residual.result c.from_residual.ensures.1 in
    rw (p.1, p.2) (reel_unread c.args.recordings c.args.width c.args.height _ _ c.in_err-config.field-0.0 c.in_err-config.ensures)

pub returns-in_err-holding-clause-err : goal.returns-in_err-holding-clause-err
returns-in_err-holding-clause-err g c =
    let p = err_from_is_err_and c.from_residual-in_err-holding.result c.from_residual-in_err-holding.ensures.1 in
    rw (p.1, p.2) (reel_refused c.args.recordings c.args.width c.args.height _ _ c.in_ok-config.config.items _ c.as_slice.ensures.value c.in_ok-config.ensures
    c.in_err-holding.field-0.0 c.in_err-holding.ensures.fault)

pub returns-clause-empty : goal.returns-clause-empty
returns-clause-empty g c =
    let same = c.as_taken.ensures ∙ ap (as_taken c.args.recordings) c.in_ok-holding.ensures.found.2 in
    same ∙ ap no_slices (sym (ap (λ (h : Contents). h.reel) same))

pub returns-clause-reel : goal.returns-clause-reel
returns-clause-reel g c =
    let found = c.in_ok-holding.ensures.found in
    let same = c.as_slice.ensures.value in
    let is = subst (λ (bytes : List ℕ). IsRecordingFor c.args.recordings bytes c.args.width c.args.height found.0) same found.1 in
    let reel = ap (λ (h : Contents). h.reel) c.as_taken.ensures ∙ ap (λ (h : Contents). in_taken_frames c.args.recordings h.reel) found.2
    ∙ ap (λ (bytes : List ℕ). in_taken_frames c.args.recordings (reel_of bytes found.0)) same in
    reel_read c.args.recordings _ _ c.in_ok-config.config.items c.args.width c.args.height c.as_taken.result.reel c.in_ok-config.ensures
    (reel_of c.in_ok-config.config.items found.0, (found.0, is, refl), reel)
