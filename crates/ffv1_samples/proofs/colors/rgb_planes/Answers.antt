use Rattle.std.proofs.Common.{◌≡◌, length, map, sym, subst, arith}
use Rattle.std.specs.Prelude.{Some}
use Rattle.std.proofs.lemmas.List.{length-map}
use Rattle.ffv1_colors.specs.Planes.{ThreePlanes, color_planes, IsColorsFaultOf}
use Rattle.ffv1_samples.specs.Pictures.{color_coding, slice_plane_at, three_planes}
use Rattle.ffv1_samples.specs.Inner.Planes.{IsPlanesFault, first_outside}
use Rattle.ffv1_samples.proofs.JudgedColors.{alpha_first, first_is, coding_is, plane_of, three_are, colors_at, outside_at, found_at, before_at, none_at}
use Rattle.ffv1_samples.proofs.colors.rgb_planes.Goals as goal

pub returns-in-Some-clause-err : goal.returns-in-Some-clause-err
returns-in-Some-clause-err c =
    let r = c.args.recording.now in
    let coded = map (λ plane. plane.items) c.args.coded.now in
    let long : length (map (λ plane. plane.items) c.args.coded.now) ≡ length c.args.coded.now = length-map c.args.coded.now (λ plane. plane.items) in
    let coding = coding_is r c.new-coding.result c.depth.result c.has_alpha.result c.new-coding.ensures c.depth.ensures.value c.has_alpha.ensures in
    let three = three_are coded c.deref.result.now c.deref-2.result.now c.deref-3.result.now
    (plane_of c.args.coded.now 0 c.index-coded-0.result c.deref.result.now (omega (arith, long, c.requires.planes.count)) c.index-coded-0.is c.deref.ensures.value)
    (plane_of c.args.coded.now 1 c.index-coded-1.result c.deref-2.result.now (omega (arith, long, c.requires.planes.count)) c.index-coded-1.is c.deref-2.ensures.value)
    (plane_of c.args.coded.now 2 c.index-coded-2.result c.deref-3.result.now (omega (arith, long, c.requires.planes.count)) c.index-coded-2.is c.deref-3.ensures.value) in
    let colors = colors_at c.new-coding.result (color_coding r)
    (record { first = c.deref.result.now; second = c.deref-2.result.now; third = c.deref-3.result.now }) (three_planes coded) (color_planes c.in-Ok.colors)
    coding three c.in-Ok.ensures.ok in (
      c.requires.rgb,
      alpha_first r coded (color_planes c.in-Ok.colors) c.in-Some.place colors c.requires.planes.alpha
          (found_at c.depth-2.result r.depth c.alpha_of.result.now (slice_plane_at coded 3) c.depth-2.ensures.value c.alpha_of.ensures (Some c.in-Some.place) c.in-Some.ensures.found)
          (before_at c.depth-2.result r.depth c.alpha_of.result.now (slice_plane_at coded 3) c.depth-2.ensures.value c.alpha_of.ensures (Some c.in-Some.place)
          c.in-Some.ensures.before),
    )

pub returns-in-Err-Outside-clause-err : goal.returns-in-Err-Outside-clause-err
returns-in-Err-Outside-clause-err c =
    let r = c.args.recording.now in
    let coded = map (λ plane. plane.items) c.args.coded.now in
    let long : length (map (λ plane. plane.items) c.args.coded.now) ≡ length c.args.coded.now = length-map c.args.coded.now (λ plane. plane.items) in
    let coding = coding_is r c.new-coding.result c.depth.result c.has_alpha.result c.new-coding.ensures c.depth.ensures.value c.has_alpha.ensures in
    let three = three_are coded c.deref.result.now c.deref-2.result.now c.deref-3.result.now
    (plane_of c.args.coded.now 0 c.index-coded-0.result c.deref.result.now (omega (arith, long, c.requires.planes.count)) c.index-coded-0.is c.deref.ensures.value)
    (plane_of c.args.coded.now 1 c.index-coded-1.result c.deref-2.result.now (omega (arith, long, c.requires.planes.count)) c.index-coded-1.is c.deref-2.ensures.value)
    (plane_of c.args.coded.now 2 c.index-coded-2.result c.deref-3.result.now (omega (arith, long, c.requires.planes.count)) c.index-coded-2.is c.deref-3.ensures.value) in
    let here : ThreePlanes = record { first = c.deref.result.now; second = c.deref-2.result.now; third = c.deref-3.result.now } in
    let given = subst (IsColorsFaultOf c.new-coding.result here) c.in-Err-Outside.field-0-is c.in-Err-Outside.ensures.err in
    let outside = outside_at c.new-coding.result (color_coding r) here (three_planes coded) c.in-Err-Outside.place c.in-Err-Outside.plane coding three given in
    let at : c.first_outside.result ≡ first_outside c.in-Err-Outside.place c.in-Err-Outside.plane c.first_larger-larger.result = cc in
    subst (IsPlanesFault r coded) (sym at)
    (first_is r coded c.in-Err-Outside.place c.in-Err-Outside.plane c.first_larger-larger.result c.requires.rgb outside
    (found_at c.depth-2.result r.depth c.alpha_of.result.now (slice_plane_at coded 3) c.depth-2.ensures.value c.alpha_of.ensures c.first_larger-larger.result
    c.first_larger-larger.ensures.found)
    (before_at c.depth-2.result r.depth c.alpha_of.result.now (slice_plane_at coded 3) c.depth-2.ensures.value c.alpha_of.ensures c.first_larger-larger.result
    c.first_larger-larger.ensures.before)
    (none_at c.depth-2.result r.depth c.alpha_of.result.now (slice_plane_at coded 3) c.depth-2.ensures.value c.alpha_of.ensures c.first_larger-larger.result
    c.first_larger-larger.ensures.none))
