use Rattle.std.proofs.Common.{◌≡◌, ◌∙◌, ap, sym, take, map, arith, [], ◌∷◌, ◌++◌, get_or, add-one, length}
use Rattle.std.proofs.Math.Seq.{take-suc, take-length}
use Rattle.std.proofs.lemmas.List.{map-append}
use Rattle.ffv1_plane.specs.Inner.Planes.{new_rows}
use Rattle.ffv1_plane.specs.RangeSlices.{coded_depth_of}
use Rattle.ffv1_plane.proofs.planes.SlicePlanes.new.Goals as goal

pub loop-size-init : goal.loop-size-init
loop-size-init c = record { made = c.in_ok-lines.ensures.items }

pub loop-size-preserved : goal.loop-size-preserved
loop-size-preserved c =
    let i = c.loop-size.size-index in
    let sizes = c.args.sizes.now in
    let row = new_rows c.coded_depth-depth.result in
    let next = ap (λ n. take n sizes) (add-one i) ∙ take-suc sizes i (record { width = 0; height = 0 }) c.loop-size-test.true in
    record {
      made =
          c.in_ok-push.ensures.items ∙ ap (λ l. l ++ c.in_ok-new.field-0 ∷ []) c.loop-size.invariant.made
          ∙ ap (λ r. map row (take i sizes) ++ r ∷ []) c.in_ok-new.ensures
          ∙ sym (ap (map row) next ∙ map-append row (take i sizes) (get_or sizes i (record { width = 0; height = 0 }) ∷ []));
    }

pub returns : goal.returns
returns c = record {
  lines = c.loop-size.invariant.made
      ∙ ap (λ n. map (new_rows n) (take c.loop-size.size-index c.args.sizes.now)) c.coded_depth-depth.ensures
      ∙ (let whole : c.loop-size.size-index ≡ length c.args.sizes.now = omega (arith, c.loop-size-test.false, c.loop-size.auto.size-index-end) in
      ap (λ n. map (new_rows (coded_depth_of c.args.recording.now)) (take n c.args.sizes.now)) whole
      ∙ ap (map (new_rows (coded_depth_of c.args.recording.now))) (take-length c.args.sizes.now));
  luma = c.of.ensures;
  chroma = c.of-2.ensures;
  alpha = c.of-3.ensures;
  has_chroma = c.has_chroma.ensures;
  is_signed = c.is_signed.ensures;
}
