use Rattle.std.proofs.Common.{◌≡◌, false, cond, List, [], ◌∷◌, ◌++◌, take, get_or, length, arith, sym, ap, ◌∙◌, subst}
use Rattle.std.specs.Prelude.{Some}
use Rattle.std.specs.Ordering.{nat_cmp, is_eq}
use Rattle.std.specs.BTreeMap.{get}
use Rattle.std.proofs.lemmas.List.{take_more}
use Rattle.matroska.specs.declared.track.Track.{Track}
use Rattle.matroska.proofs.NamedSteps.{NamedSoFar, one_named, one_unnamed}
use Rattle.matroska.proofs.named.NamedTracks.new.Goals as goal
use Rattle.matroska.proofs.named.NamedTracks.new.Goals.{then-track-ne0+then-not-contains_key+in_ok-insert+in_ok-push, else-track-ne0, else-track-ne0-via-then-track-ne0+else-not-contains_key, else-track-ne0-via-else-track-ne0}

abbrev no_track : Track
no_track = record { number = 0; kind = 0; codec = record { ref_ptr = (0, 0); now = [] }; private = record { ref_ptr = (0, 0); now = [] }; private_at = 0; is_encoded = false; width = 0; height = 0 }

pub loop-track-preserved : goal.loop-track-preserved
loop-track-preserved c =
    let tracks : List Track = take c.loop-track.track-index c.args.tracks.now in
    let track : Track = get_or c.args.tracks.now c.loop-track.track-index no_track in
    let grown = take_more c.args.tracks.now c.loop-track.track-index no_track c.loop-track-test.true in
    let so_far : NamedSoFar (take c.loop-track.track-index c.args.tracks.now) c.loop-track.named.items c.loop-track.places = c.loop-track.invariant in
    subst (λ z. NamedSoFar z c.if-track-ne0.named.items c.if-track-ne0.places) (sym grown)
    (elim c.if-track-ne0.branch [
      | then-track-ne0+then-not-contains_key+in_ok-insert+in_ok-push w ↦
          one_named tracks c.loop-track.named.items c.if-track-ne0.named.items c.loop-track.places c.if-track-ne0.places track so_far w.if-track-ne0.true
          (sym w.contains_key.ensures ∙ w.if-not-contains_key.true) (ap (λ v. v.items) w.named-is ∙ w.in_ok-push.ensures.items)
          (λ number. ap (λ m. get nat_cmp m number) w.places-is ∙ w.in_ok-insert.ensures.updates.0 number ∙ ap (λ n. cond (is_eq (nat_cmp track.number number)) (Some n) (get nat_cmp c.loop-track.places number)) (let long : w.len.result ≡ length c.loop-track.named.items = omega arith in long))
      | else-track-ne0 w ↦
          subst (λ v. NamedSoFar (tracks ++ track ∷ []) v.items c.if-track-ne0.places) (sym w.named-is)
          (subst (NamedSoFar (tracks ++ track ∷ []) c.loop-track.named.items) (sym w.places-is)
          (one_unnamed tracks c.loop-track.named.items c.loop-track.places track so_far
          (λ some. elim w.else-track-ne0.branch [
            | else-track-ne0-via-then-track-ne0+else-not-contains_key w' ↦ sym w'.contains_key.ensures ∙ w'.if-not-contains_key.false
            | else-track-ne0-via-else-track-ne0 w' ↦ absurd (some w'.if-track-ne0.false)
          ])))
    ])
