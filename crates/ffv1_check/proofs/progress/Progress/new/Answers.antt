use Rattle.std.proofs.Common.{◌<◌, [], get_or, length, arith, refl, sym, ap, ◌∙◌, subst}
use Rattle.std.proofs.lemmas.List.{get_or-replicate, length-replicate}
use Rattle.ffv1_check.specs.declared.track_states.TrackState.{TrackState}
use Rattle.ffv1_check.specs.Inner.Stands.{TrackStands, no_state}
use Rattle.ffv1_check.proofs.progress.Progress.new.Goals as goal

pub returns-clause-stands : goal.returns-clause-stands
returns-clause-stands c =
    let first : TrackState = c.new-2.result in
    let items = c.in_ok-vec.ensures.items_if_clones_equal (λ y e. e) in
    record {
      tops = c.new.ensures;
      checked = refl;
      tracks = λ index within.
          let long = ap length items in
          let below : index < c.args.tracks = omega (arith, within, long, length-replicate c.args.tracks first) in
          subst (TrackStands [] index) (sym (ap (λ xs. get_or xs index no_state) items ∙ get_or-replicate c.args.tracks index first no_state below)) (c.new-2.ensures index);
    }
