use Rattle.std.proofs.Common.{◌≡◌, ℕ, List, ◌++◌, take, drop, sym, subst, ap, ◌∙◌, take-append-drop}
use Rattle.std.proofs.lemmas.Grind.{flat_map-append}
use Rattle.std.proofs.lemmas.Result.{err_from_is_err_and}
use Rattle.ffv1_devices.specs.Logs.{Writes, StopsWriting}
use Rattle.ffv1_devices.proofs.Steps.{Writes-trans, StopsWriting-after, StopsWriting-of}
use Rattle.ffv1_devices.proofs.Fronts.{moves_front}
use Rattle.ffv1_player.specs.Written.{sample_bytes, plane_bytes}
use Rattle.ffv1_player.proofs.write.write_plane.Goals as goal

plane_bytes-parts : (depth : ℕ) (all done rest : List ℕ) (n : ℕ) → all ≡ done ++ rest
    → plane_bytes depth done ++ (plane_bytes depth (take n rest) ++ plane_bytes depth (drop n rest)) ≡ plane_bytes depth all
plane_bytes-parts depth all done rest n e =
    ap (λ l. plane_bytes depth done ++ l)
    (sym (flat_map-append (sample_bytes depth) (take n rest) (drop n rest)) ∙ ap (λ l. plane_bytes depth l) (take-append-drop n rest))
    ∙ sym (flat_map-append (sample_bytes depth) done rest) ∙ ap (λ l. plane_bytes depth l) (sym e)

pub returns-in_err-write_field : goal.returns-in_err-write_field
returns-in_err-write_field g c =
    let p = err_from_is_err_and c.from_residual.result c.from_residual.ensures.1 in
    let (done, split, written) = c.loop-rest.invariant in
    let rest = c.loop-rest.rest.now in
    let n = c.min-taken.result in
    let stopped = subst (StopsWriting _ _) c.put_samples-count.ensures.bytes c.in_err-write_field.ensures in
    rw p.1 (subst (StopsWriting _ _) (plane_bytes-parts c.args.depth _ done rest n split)
    (StopsWriting-after _ _ _ _ _ written (StopsWriting-of _ _ (plane_bytes c.args.depth (take n rest)) (plane_bytes c.args.depth (drop n rest)) stopped)))

pub loop-rest-preserved : goal.loop-rest-preserved
loop-rest-preserved g c =
    let (done, split, written) = c.loop-rest.invariant in
    let rest = c.loop-rest.rest.now in
    let n = c.min-taken.result in
    let sent = subst (Writes _ _) c.put_samples-count.ensures.bytes c.in_ok-write_field.ensures in (
      done ++ take n rest,
      moves_front _ done rest n split,
      subst (Writes _ _) (sym (flat_map-append (sample_bytes c.args.depth) done (take n rest)))
          (Writes-trans _ _ _ (plane_bytes c.args.depth done) (plane_bytes c.args.depth (take n rest)) written sent),
    )
