use Rattle.std.proofs.Common.{◌∷◌, [], List, ℕ, map, ap, ◌∙◌, Bor}
use Rattle.std.proofs.lemmas.List.{map-append}
use Rattle.matroska.proofs.LaceSteps.{one_frame_more, no_room}
use Rattle.matroska.proofs.laces.cut.Goals as goal

-- what the frames point to
abbrev texts : List (Bor (List ℕ)) → List (List ℕ)
texts frames = map (λ (frame : Bor (List ℕ)). frame.now) frames

pub returns-in_default : goal.returns-in_default
returns-in_default c =
    no_room c.args.sizes.now c.args.bytes.now c.loop-size.size-index (texts c.loop-size.frames.items) c.loop-size.rest.now c.loop-size.invariant
    c.loop-size-test.true c.in_default.ensures.cases

pub loop-size-preserved : goal.loop-size-preserved
loop-size-preserved c =
    let items = c.in_ok-push.ensures.items in
    let grown = ap texts items ∙ map-append (λ (frame : Bor (List ℕ)). frame.now) c.loop-size.frames.items (c.in-Some.frame ∷ []) in
    let cases = c.in-Some.ensures.cases in
    one_frame_more c.args.sizes.now c.args.bytes.now c.loop-size.size-index (texts c.loop-size.frames.items) (texts c.push.new.self.items)
    c.loop-size.rest.now c.in-Some.frame.now c.in-Some.more.now c.loop-size.invariant c.loop-size-test.true cases.1 cases.2 cases.3 grown
