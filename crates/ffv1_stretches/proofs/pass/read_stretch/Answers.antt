use Rattle.std.proofs.Common.{◌≡◌, ◌<◌, ℕ, List, None, length, map, get_or, ap, sym, subst, ◌∙◌, arith}
use Rattle.std.proofs.lemmas.Result.{err_from_is_err_and}
use Rattle.std.proofs.lemmas.List.{length-map, get_or-map}
use Rattle.ffv1_mend.proofs.PartSteps.{zip_at}
use Rattle.ffv1_stretches.specs.Stretches.{StretchValue, IsAfter}
use Rattle.ffv1_stretches.specs.Copies.{CopyState, state_of}
use Rattle.ffv1_stretches.proofs.PassLemmas.{none_read, is_old, all_read, copy_steps, copies_stop}
use Rattle.ffv1_stretches.proofs.pass.read_stretch.Goals as goal

pub loop-index-init : goal.loop-index-init
loop-index-init g c =
    none_read c.args.stretch.now.size c.args.stretch.now.places (map (state_of g.S.Source.log) c.args.copies.now)

pub read_placed-requires : goal.read_placed-requires
read_placed-requires g c =
    let own : c.stretch.inside.places.items ≡ c.args.stretch.now.places = ap (λ (s : StretchValue). s.places) c.stretch.view_is in
    let places = c.as_slice-places.ensures.value ∙ own in
    let i = c.loop-index.index in
    let d : CopyState = state_of g.S.Source.log c.index-copies-index.result in
    let count = c.requires.count in
    let kept = c.loop-index.auto.copies in
    let lt : i < length c.args.stretch.now.places = omega (arith, ap length places) in
    let there : i < length c.loop-index.copies = omega (arith, count, kept, lt) in
    let olds : List CopyState = map (state_of g.S.Source.log) c.args.copies.now in
    let nows : List CopyState = map (state_of g.S.Source.log) c.loop-index.copies in
    let ends : List ℕ = map (λ (s : CopyState). s.end) (map (state_of g.S.Source.log) c.args.copies.now) in
    let few : i < length (map (state_of g.S.Source.log) c.args.copies.now) = omega (arith, count, lt, length-map c.args.copies.now (state_of g.S.Source.log)) in
    let many : i < length (map (λ (s : CopyState). s.end) (map (state_of g.S.Source.log) c.args.copies.now)) =
    omega (arith, few, length-map (map (state_of g.S.Source.log) c.args.copies.now) (λ (s : CopyState). s.end)) in
    let after = zip_at IsAfter ends c.args.stretch.now.places i 0 None c.requires.follows many in
    let same : get_or (map (λ (s : CopyState). s.end) (map (state_of g.S.Source.log) c.args.copies.now)) i 0
    ≡ (state_of g.S.Source.log (get_or c.loop-index.copies i c.index-copies-index.result)).end =
    get_or-map (λ (s : CopyState). s.end) olds i d 0 few
    ∙ ap (λ (s : CopyState). s.end) (sym (is_old c.args.stretch.now.size c.args.stretch.now.places i olds nows c.loop-index.invariant lt
    (count ∙ sym (length-map c.args.copies.now (state_of g.S.Source.log))) d)
    ∙ get_or-map (state_of g.S.Source.log) c.loop-index.copies i c.index-copies-index.result d there) in
    subst (λ ps. IsAfter (state_of g.S.Source.log (get_or c.loop-index.copies i c.index-copies-index.result)).end (get_or ps i None)) (sym places)
    (subst (λ n. IsAfter n (get_or c.args.stretch.now.places i None)) same after)

pub returns-in_err-read_placed : goal.returns-in_err-read_placed
returns-in_err-read_placed g c =
    let p = err_from_is_err_and c.from_residual.result c.from_residual.ensures.1 in
    let own : c.stretch.inside.places.items ≡ c.args.stretch.now.places = ap (λ (s : StretchValue). s.places) c.stretch.view_is in
    let size : c.stretch.inside.size ≡ c.args.stretch.now.size = ap (λ (s : StretchValue). s.size) c.stretch.view_is in
    let places = c.as_slice-places.ensures.value ∙ own in
    rw (p.1, p.2) (copies_stop g.S.Source.log c.args.stretch.now.size c.stretch.inside.size c.args.stretch.now.places c.as_slice-places.result.now
    c.loop-index.index c.args.copies.now c.loop-index.copies c.index-copies-index.result c.read_placed.new.copy c.loop-index.invariant
    (omega (arith, ap length places, c.loop-index-test.true)) c.requires.count c.loop-index.auto.copies size places (Unit {0}) c.in_err-read_placed.field-0.0
    c.in_err-read_placed.ensures)

pub loop-index-preserved : goal.loop-index-preserved
loop-index-preserved g c =
    let own : c.stretch.inside.places.items ≡ c.args.stretch.now.places = ap (λ (s : StretchValue). s.places) c.stretch.view_is in
    let size : c.stretch.inside.size ≡ c.args.stretch.now.size = ap (λ (s : StretchValue). s.size) c.stretch.view_is in
    let places = c.as_slice-places.ensures.value ∙ own in
    let (more, step) = c.in_ok-read_placed.ensures in
    copy_steps g.S.Source.log c.args.stretch.now.size c.stretch.inside.size c.args.stretch.now.places c.as_slice-places.result.now
    c.loop-index.index c.args.copies.now c.loop-index.copies c.index-copies-index.result c.read_placed.new.copy c.loop-index.invariant
    (omega (arith, ap length places, c.loop-index-test.true)) c.requires.count c.loop-index.auto.copies size places more step

pub returns : goal.returns
returns g c =
    let own : c.stretch.inside.places.items ≡ c.args.stretch.now.places = ap (λ (s : StretchValue). s.places) c.stretch.view_is in
    let places = c.as_slice-places.ensures.value ∙ own in
    all_read c.args.stretch.now.size c.args.stretch.now.places c.loop-index.index (map (state_of g.S.Source.log) c.args.copies.now)
    (map (state_of g.S.Source.log) c.loop-index.copies) c.loop-index.invariant (omega (arith, c.loop-index-test.false, ap length places))
    (c.requires.count ∙ sym (length-map c.args.copies.now (state_of g.S.Source.log)))
