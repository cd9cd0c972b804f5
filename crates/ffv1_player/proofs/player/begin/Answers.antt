use Rattle.std.proofs.Common.{◌≡◌, false, refl, sym, ap, ◌∙◌, subst}
use Rattle.std.specs.Prelude.{MatchBool, Some, []}
use Rattle.ffv1_layout.specs.Layout.{headers_of}
use Rattle.ffv1_player.specs.Frames.{is_key, FrameGoesOn}
use Rattle.ffv1_player.specs.Faults.{IsFirstStop}
use Rattle.ffv1_player.specs.Players.{left_values, last_value}
use Rattle.ffv1_player.specs.Inner.Playing.{IsPreviousStop}
use Rattle.ffv1_player.specs.declared.fault.SamplesFault.TheVariants.{Previous}
use Rattle.ffv1_player.proofs.player.begin.Goals as goal

pub returns-in-Some-first_stop-clause-err : goal.returns-in-Some-first_stop-clause-err
returns-in-Some-first_stop-clause-err c =
    let r = c.args.recording.now in
    let headers = headers_of c.args.placed.now in
    let place = c.in-Some-first_stop.place in
    let no_key : is_key headers ≡ false = sym c.is_key.ensures ∙ c.if-is_key.false in
    subst (λ last. IsPreviousStop r headers (last_value last) (Previous place)) (sym c.in-Some.is) (record {
      place = place;
      is = refl;
      no_key = no_key;
      first = subst (λ before. IsFirstStop r headers (Some (left_values before)) place) c.deref.ensures.value c.in-Some-first_stop.ensures;
    })

pub returns-in-None-clause-ok : goal.returns-in-None-clause-ok
returns-in-None-clause-ok c =
    let r = c.args.recording.now in
    let headers = headers_of c.args.placed.now in
    let before = left_values c.in-Some.before.items in
    let no_key : is_key headers ≡ false = sym c.is_key.ensures ∙ c.if-is_key.false in
    let goes : FrameGoesOn r headers before = subst (λ items. FrameGoesOn r headers (left_values items)) c.deref.ensures.value c.in-None.ensures in
    subst (λ key. MatchBool key (before ≡ []) ((last_value c.args.last ≡ Some before) × FrameGoesOn r headers before)) (sym no_key)
    (ap last_value c.in-Some.is, goes)
