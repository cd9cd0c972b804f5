use Rattle.std.proofs.Common.{◌≡◌, List, ℕ, length, sym, subst, arith, refl}
use Rattle.ffv1_check.specs.Inner.Counted.{AreVouched}
use Rattle.ffv1_check.specs.declared.track_states.TrackState.{TrackState}
use Rattle.ffv1_check.proofs.TrackSteps.{written}
use Rattle.ffv1_check.proofs.WaitingSteps.{blocks_below, blocks_room, vouched_stands}
use Rattle.ffv1_check.proofs.report.Reporter.vouch.Goals as goal

pub vouch_blocks-requires-clause-below : goal.vouch_blocks-requires-clause-below
vouch_blocks-requires-clause-below c =
    let r = c.requires.stands in
    rw (c.deref_mut.ensures.value, c.deref.ensures.value) (blocks_below r.0 r.1 r.2 c.args.self.now c.args.waiting.now r.3 r.4)

pub vouch_blocks-requires-clause-room : goal.vouch_blocks-requires-clause-room
vouch_blocks-requires-clause-room c =
    let r = c.requires.stands in let room = c.requires.room in
    rw (c.deref_mut.ensures.value, c.deref.ensures.value) (blocks_room r.0 r.1 r.2 c.args.self.now c.args.waiting.now r.3 r.4 (omega (arith, room)))

pub returns : goal.returns
returns c = λ tracks before own stands waits_for.
    let blocks = c.args.waiting.now.blocks.items in
    let items = c.args.self.now.progress.tracks.items in
    let are : AreVouched c.args.waiting.now.blocks.items c.args.self.now.progress.tracks.items c.vouch_blocks.new.tracks =
    subst (λ (b : List ℕ). AreVouched b c.args.self.now.progress.tracks.items c.vouch_blocks.new.tracks) c.deref.ensures.value
    (subst (λ (t : List TrackState). AreVouched c.deref.result.now t c.vouch_blocks.new.tracks) c.deref_mut.ensures.value c.vouch_blocks.ensures) in
    let kept : length c.vouch_blocks.new.tracks ≡ length c.args.self.now.progress.tracks.items = are.as_many in
    let long : c.args.self.now.progress.tracks.len ≡ length c.args.self.now.progress.tracks.items = omega arith in
    vouched_stands tracks before own c.args.self.now c.args.waiting.now stands waits_for _
    (subst (AreVouched c.args.waiting.now.blocks.items c.args.self.now.progress.tracks.items)
    (sym (written c.vouch_blocks.new.tracks c.args.self.now.progress.tracks.items c.args.self.now.progress.tracks.len kept long)) are) refl refl refl refl
