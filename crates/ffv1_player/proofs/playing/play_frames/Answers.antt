use Rattle.std.proofs.Common.{◌<◌, length, get_or, refl, map, arith, inr}
use Rattle.std.proofs.lemmas.Result.{err_from_is_err_and}
use Rattle.std.proofs.lemmas.List.{length-map}
use Rattle.ffv1_player.proofs.Turns.{next_went}
use Rattle.ffv1_player.proofs.PlaySteps.{none_played, all_played, next_stops, next_keeps, shown_first, shown_stops, shown_on}
use Rattle.ffv1_player.proofs.playing.play_frames.Goals as goal

pub loop-place-init : goal.loop-place-init
loop-place-init g c = record {
  so_far = none_played c.args.player.now (map g.S.Source.log c.args.sources.now) (g.O.Sink.log c.args.out.now) (g.W.Sink.log c.args.output.now);
  untouched = λ _. (refl, refl);
}

pub returns-in_err-frame-clause-played : goal.returns-in_err-frame-clause-played
returns-in_err-frame-clause-played g c =
    let p = err_from_is_err_and c.from_residual.result c.from_residual.ensures.1 in
    let so_far = c.loop-place.invariant.so_far in
    let there : c.loop-place.place < length c.loop-place.sources = omega (arith, c.loop-place-test.true, c.loop-place.auto.sources) in
    rw (p.1, p.2) (next_stops _ _ c.loop-place.place _ _ _ _ _ _ _ _ so_far _ _
    (λ Went went. next_went g.S.Source.log c.args.sources.now c.loop-place.sources c.loop-place.place _ c.play_next.new.source so_far.payloads Went so_far.count
    c.loop-place.auto.sources there so_far.read went)
    c.play_next.new.player c.in_err-frame.field-0.0 c.in_err-frame.ensures)

pub returns-in_err-frame-clause-untouched : goal.returns-in_err-frame-clause-untouched
returns-in_err-frame-clause-untouched g c =
    let p = err_from_is_err_and c.from_residual.result c.from_residual.ensures.1 in
    let so_far = c.loop-place.invariant.so_far in
    let there : c.loop-place.place < length c.loop-place.sources = omega (arith, c.loop-place-test.true, c.loop-place.auto.sources) in
    rw p.1 (next_keeps _ _ c.loop-place.place _ _ _ _ _ _ _ _ so_far
    (g.S.Source.log (get_or c.loop-place.sources c.loop-place.place c.index-sources-place.result)) (g.S.Source.log c.play_next.new.source)
    (λ Went went. next_went g.S.Source.log c.args.sources.now c.loop-place.sources c.loop-place.place c.index-sources-place.result c.play_next.new.source
    so_far.payloads Went so_far.count c.loop-place.auto.sources there so_far.read went)
    _ c.loop-place.invariant.untouched)

pub returns-in_err-clean-clause-played : goal.returns-in_err-clean-clause-played
returns-in_err-clean-clause-played g c =
    let p = err_from_is_err_and c.from_residual-in_err-clean.result c.from_residual-in_err-clean.ensures.1 in
    let so_far = c.loop-place.invariant.so_far in
    let there : c.loop-place.place < length c.loop-place.sources = omega (arith, c.loop-place-test.true, c.loop-place.auto.sources) in
    rw (p.1, p.2) (shown_stops _ _ c.loop-place.place _ _ _ _ _ _ _ _ so_far _ _
    (λ Went went. next_went g.S.Source.log c.args.sources.now c.loop-place.sources c.loop-place.place _ c.play_next.new.source so_far.payloads Went so_far.count
    c.loop-place.auto.sources there so_far.read went)
    c.play_next.new.player c.in_ok-frame.frame c.in_ok-frame.ensures _ _ c.in_err-clean.field-0.0 c.in_err-clean.ensures.shown)

pub returns-in_err-clean-clause-untouched : goal.returns-in_err-clean-clause-untouched
returns-in_err-clean-clause-untouched g c =
    let p = err_from_is_err_and c.from_residual-in_err-clean.result c.from_residual-in_err-clean.ensures.1 in
    let so_far = c.loop-place.invariant.so_far in
    let there : c.loop-place.place < length c.loop-place.sources = omega (arith, c.loop-place-test.true, c.loop-place.auto.sources) in
    rw p.1 (inr (shown_first _ _ c.loop-place.place _ _ _ _ _ _ _ _ so_far _ _
    (λ Went went. next_went g.S.Source.log c.args.sources.now c.loop-place.sources c.loop-place.place _ c.play_next.new.source so_far.payloads Went so_far.count
    c.loop-place.auto.sources there so_far.read went)
    c.play_next.new.player c.in_ok-frame.frame c.in_ok-frame.ensures))

pub loop-place-preserved : goal.loop-place-preserved
loop-place-preserved g c =
    let so_far = c.loop-place.invariant.so_far in
    let there : c.loop-place.place < length c.loop-place.sources = omega (arith, c.loop-place-test.true, c.loop-place.auto.sources) in
    record {
      so_far = shown_on _ _ c.loop-place.place _ _ _ _ _ _ _ _ so_far _ _
          (λ Went went. next_went g.S.Source.log c.args.sources.now c.loop-place.sources c.loop-place.place _ c.play_next.new.source so_far.payloads Went
          so_far.count c.loop-place.auto.sources there so_far.read went)
          c.play_next.new.player c.in_ok-frame.frame c.in_ok-frame.ensures _ _ c.in_ok-clean.field-0 c.in_ok-clean.ensures.shown;
      untouched = λ e. let no : ⊥ = omega (arith, e) in absurd no;
    }

pub returns-clause-played : goal.returns-clause-played
returns-clause-played g c =
    all_played _ _ c.loop-place.place _ _ _ _ _ _ _ (omega (arith, c.loop-place-test.false, length-map c.args.sources.now g.S.Source.log)) c.loop-place.invariant.so_far
