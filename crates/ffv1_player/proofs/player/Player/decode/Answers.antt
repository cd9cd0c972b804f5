use Rattle.std.proofs.Common.{refl, sym, ◌∙◌, subst}
use Rattle.std.proofs.lemmas.Result.{err_from_is_err_and}
use Rattle.ffv1_player.specs.Frames.{IsPlayedFrame}
use Rattle.ffv1_player.specs.Faults.{IsFirstSamplesFault}
use Rattle.ffv1_player.specs.Players.{PlayerValue, left_values, last_value}
use Rattle.ffv1_player.specs.SmallFrames.{IsFrame}
use Rattle.ffv1_player.proofs.OneFrame.{one_frame, refused_has_no_frame}
use Rattle.ffv1_player.proofs.SmallFrames.{frame_to, frame_from}
use Rattle.ffv1_player.proofs.player.Player.decode.Goals as goal

pub returns-in_err-frame-clause-found : goal.returns-in_err-frame-clause-found
returns-in_err-frame-clause-found c =
    λ frame left is.
    let r = c.self.inside.recording in
    let last = last_value c.self.inside.before in
    let payload = c.args.payload.now in
    let fault = c.in_err-frame.field-0.0 in
    let p = err_from_is_err_and c.from_residual.result c.from_residual.ensures.1 in
    rw (p.1, p.2) (refused_has_no_frame r c.keeps_version_3.ensures last c.self.invariant payload frame left
    (subst (λ (v : PlayerValue). IsPlayedFrame v.recording v.last payload frame left) (sym c.self.view_is) is) fault
    (subst (λ l. IsFirstSamplesFault r (last_value l) payload fault) c.take-last.ensures.value c.in_err-frame.ensures.err))

pub returns-in_err-frame-clause-err : goal.returns-in_err-frame-clause-err
returns-in_err-frame-clause-err c =
    let r = c.self.inside.recording in
    let payload = c.args.payload.now in
    let fault = c.in_err-frame.field-0.0 in
    let p = err_from_is_err_and c.from_residual.result c.from_residual.ensures.1 in
    rw (p.1, p.2) (subst (λ (v : PlayerValue). IsFirstSamplesFault v.recording v.last payload fault) c.self.view_is
    (subst (λ l. IsFirstSamplesFault r (last_value l) payload fault) c.take-last.ensures.value c.in_err-frame.ensures.err))

pub returns-clause-found : goal.returns-clause-found
returns-clause-found c =
    λ frame left is.
    let r = c.self.inside.recording in
    let last = last_value c.self.inside.before in
    let payload = c.args.payload.now in
    one_frame r c.keeps_version_3.ensures last c.self.invariant payload frame left
    (subst (λ (v : PlayerValue). IsPlayedFrame v.recording v.last payload frame left) (sym c.self.view_is) is) c.in_ok-frame.frame
    (left_values c.in_ok-frame.left.items)
    (subst (λ l. IsPlayedFrame r (last_value l) payload c.in_ok-frame.frame (left_values c.in_ok-frame.left.items)) c.take-last.ensures.value
    c.in_ok-frame.ensures.ok)

pub returns-in_err-frame-clause-sought : goal.returns-in_err-frame-clause-sought
returns-in_err-frame-clause-sought c =
    λ frame left is.
    let r = c.self.inside.recording in
    let last = last_value c.self.inside.before in
    let payload = c.args.payload.now in
    let fault = c.in_err-frame.field-0.0 in
    let p = err_from_is_err_and c.from_residual.result c.from_residual.ensures.1 in
    let there = frame_from r c.keeps_version_3.ensures last c.self.invariant payload frame left
    (subst (λ (v : PlayerValue). IsFrame v.recording v.last payload frame left) (sym c.self.view_is) is) in
    rw (p.1, p.2) (refused_has_no_frame r c.keeps_version_3.ensures last c.self.invariant payload there.0 there.1 there.2 fault
    (subst (λ l. IsFirstSamplesFault r (last_value l) payload fault) c.take-last.ensures.value c.in_err-frame.ensures.err))

pub returns-clause-shown : goal.returns-clause-shown
returns-clause-shown c =
    let r = c.self.inside.recording in
    let last = last_value c.self.inside.before in
    let payload = c.args.payload.now in
    let frame = c.in_ok-frame.frame in
    let left = left_values c.in_ok-frame.left.items in
    let played = subst (λ l. IsPlayedFrame r (last_value l) payload frame left) c.take-last.ensures.value c.in_ok-frame.ensures.ok in (
      left,
      subst (λ (v : PlayerValue). IsFrame v.recording v.last payload frame left) c.self.view_is
          (frame_to r c.keeps_version_3.ensures last c.self.invariant payload frame left played),
      refl,
    )

pub returns-clause-sought : goal.returns-clause-sought
returns-clause-sought c =
    λ frame left is.
    let r = c.self.inside.recording in
    let last = last_value c.self.inside.before in
    let payload = c.args.payload.now in
    let there = frame_from r c.keeps_version_3.ensures last c.self.invariant payload frame left
    (subst (λ (v : PlayerValue). IsFrame v.recording v.last payload frame left) (sym c.self.view_is) is) in
    let same = one_frame r c.keeps_version_3.ensures last c.self.invariant payload there.0 there.1 there.2 c.in_ok-frame.frame
    (left_values c.in_ok-frame.left.items)
    (subst (λ l. IsPlayedFrame r (last_value l) payload c.in_ok-frame.frame (left_values c.in_ok-frame.left.items)) c.take-last.ensures.value
    c.in_ok-frame.ensures.ok) in
    (same.planes ∙ there.3, same.is_key ∙ there.4)
