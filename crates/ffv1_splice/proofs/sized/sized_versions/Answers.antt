use Rattle.ffv1_weave.proofs.WeaveSteps.{put_back}
use Rattle.ffv1_splice.proofs.Common.{◌≡◌, ◌≤◌, ◌++◌, ◌∷◌, [], ℕ, List, take, drop, length, map, get_or, sym, ap, ◌∙◌, arith, slice_range, map_push, length-range, values_of, next_value, nowhere, versions_at, sized}
use Rattle.ffv1_splice.proofs.FirstSlices.{length-sized}
use Rattle.ffv1_splice.proofs.sized.sized_versions.Goals as goal

pub loop-copy-preserved : goal.loop-copy-preserved
loop-copy-preserved c =
    let i : ℕ = c.loop-copy.copy-index in
    let before : List (List ℕ) = take i (values_of c.args.copies.now) in
    let copy : List ℕ = (get_or c.args.copies.now i nowhere).now in
    let new : List ℕ = c.set_size.new.bytes in
    let old : List ℕ = c.in_ok-version.version.items in
    let version : old ≡ slice_range copy c.args.start c.args.end = c.in_ok-version.ensures.items in
    let is : new ≡ sized old = c.set_size.ensures ∙ ap sized c.deref_mut.ensures.value in
    let within : c.args.end ≤ length copy = c.requires.within i nowhere c.loop-copy-test.true in
    let long = ap length version in
    let size = length-range copy c.args.start c.args.end (let footer = c.requires.footer in omega arith) within in
    let held = c.in_ok-version.ensures.len in
    let same_length : length new ≡ length old = ap length is ∙ length-sized old (let footer = c.requires.footer in omega arith) in
    ap (map (λ version. version.items)) c.in_ok-push.ensures.items ∙ map_push (λ version. version.items) c.loop-copy.versions.items _
    ∙ ap (λ z. z ++ take c.in_ok-version.version.len (new ++ drop (length new) old) ∷ []) c.loop-copy.invariant
    ∙ ap (λ v. map sized (versions_at before c.args.start c.args.end) ++ v ∷ []) (put_back c.in_ok-version.version.len new old (omega arith) same_length ∙ is ∙ ap sized version)
    ∙ sym (ap (map sized) (map_push (λ copy. slice_range copy c.args.start c.args.end) before copy)
    ∙ map_push sized (versions_at before c.args.start c.args.end) (slice_range copy c.args.start c.args.end))
    ∙ ap (λ copies. map sized (versions_at copies c.args.start c.args.end)) (next_value c.args.copies.now i nowhere (omega arith))
