use Rattle.std.proofs.Common.{◌<◌, ◌≡◌, ◌++◌, ◌∷◌, [], List, ℕ, None, map, length, get_or, ap, sym, ◌∙◌, arith, take_all}
use Rattle.std.proofs.lemmas.List.{length-map, map-append}
use Rattle.ffv1_stretches.specs.Stretches.{StretchValue, end_after}
use Rattle.ffv1_stretches.specs.declared.ends.End.{End}
use Rattle.ffv1_stretches.specs.Inner.Ends.{end_of}
use Rattle.ffv1_stretches.proofs.EndSteps.{moved_ends, length-moved_ends, moved_ends_more, end_at}
use Rattle.ffv1_stretches.proofs.ends.next_ends.Goals as goal

abbrev no_end : End
no_end = record { place = 0; size = 0 }

pub loop-index-preserved : goal.loop-index-preserved
loop-index-preserved c =
    let own : c.stretch.inside.places.items ≡ c.args.stretch.now.places = ap (λ (s : StretchValue). s.places) c.stretch.view_is in
    let size : c.stretch.inside.size ≡ c.args.stretch.now.size = ap (λ (s : StretchValue). s.size) c.stretch.view_is in
    let i = c.loop-index.index in
    let long = length-map c.args.ends.now end_of in
    let places = c.as_slice-places.ensures.value ∙ own in
    let lt : i < length (map end_of c.args.ends.now) = omega (arith, long, c.requires, ap length places) in
    ap (map end_of) c.in_ok-push.ensures.items ∙ map-append end_of c.loop-index.next.items (c.moved.result ∷ [])
    ∙ ap (λ (front : List ℕ). front ++ end_of c.moved.result ∷ []) c.loop-index.invariant
    ∙ moved_ends_more c.args.stretch.now.size (map end_of c.args.ends.now) c.args.stretch.now.places i (end_of c.moved.result) lt (c.requires ∙ sym long)
    (c.moved.ensures ∙ ap (λ n. end_after n (end_of (get_or c.args.ends.now i no_end)) (get_or c.as_slice-places.result.now i None)) size
    ∙ ap (λ n. end_after c.args.stretch.now.size n (get_or c.as_slice-places.result.now i None)) (sym (end_at c.args.ends.now i no_end (omega (arith, long))))
    ∙ ap (λ ps. end_after c.args.stretch.now.size (get_or (map end_of c.args.ends.now) i 0) (get_or ps i None)) places)

pub returns : goal.returns
returns c =
    let own : c.stretch.inside.places.items ≡ c.args.stretch.now.places = ap (λ (s : StretchValue). s.places) c.stretch.view_is in
    let long = length-map c.args.ends.now end_of in
    let whole : length (moved_ends c.args.stretch.now.size (map end_of c.args.ends.now) c.args.stretch.now.places) ≡ length (map end_of c.args.ends.now) =
    length-moved_ends c.args.stretch.now.size (map end_of c.args.ends.now) c.args.stretch.now.places (c.requires ∙ sym long) in
    c.loop-index.invariant ∙ take_all c.loop-index.index (moved_ends c.args.stretch.now.size (map end_of c.args.ends.now) c.args.stretch.now.places)
    (omega (arith, long, c.requires, ap length (c.as_slice-places.ensures.value ∙ own), whole, c.loop-index-test.false))
