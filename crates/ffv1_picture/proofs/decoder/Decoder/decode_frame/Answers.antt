use Rattle.std.proofs.Common.{◌≡◌, length, List, refl, subst, ◌∙◌, rules, IfOk, IfErr}
use Rattle.std.proofs.lemmas.Result.{err_from_is_err_and}
use Rattle.std.proofs.Math.ListN.{length-reverse}
use Rattle.ffv1_range.specs.Setup.{SetupValue, IsInProfile}
use Rattle.ffv1_range.specs.Tiles.{grid_of, tile_count}
use Rattle.ffv1_slice.specs.Chain.{LinkValue}
use Rattle.ffv1_slice.specs.Walk.{links_of}
use Rattle.ffv1_picture.specs.Frames.{links_from_front, HasWholeChain, IsOrdered, IsDrawnOf, IsDecodedFrame}
use Rattle.ffv1_picture.specs.FrameFaults.{AreInOrderBefore, IsFirstDisorder, IsFirstFault, IsFirstUnreadable}
use Rattle.ffv1_picture.proofs.FrameFaults.{disorder_is_first, first_fault}
use Rattle.ffv1_picture.proofs.OneFrame.{decoded, found, no_fault}
use Rattle.ffv1_picture.proofs.decoder.Decoder.decode_frame.Goals as goal
use Rattle.ffv1_picture.proofs.decoder.Decoder.decode_frame.Goals.{After-drop-links-2}

pub returns-then-not-has_whole_chain : goal.returns-then-not-has_whole_chain
returns-then-not-has_whole_chain c =
    let payload = c.args.payload.now in
    let own : HasWholeChain c.self.inside.setup payload → ⊥ = search rules in
    let none = subst (λ (s : SetupValue). HasWholeChain s payload → ⊥) c.self.view_is own in
    record { frame = tt; found = λ pictures spells. absurd (none spells.ordered.chain); fault = none }

pub returns-in_err-links : goal.returns-in_err-links
returns-in_err-links c =
    let p = err_from_is_err_and c.from_residual.result c.from_residual.ensures.1 in
    let payload = c.args.payload.now in
    let own : HasWholeChain c.self.inside.setup payload = search rules in
    rw (p.1, p.2) (record { frame = tt; found = λ pictures spells. refl; fault = subst (λ (s : SetupValue). HasWholeChain s payload) c.self.view_is own })

pub returns-in_err-check_order : goal.returns-in_err-check_order
returns-in_err-check_order c =
    let p = err_from_is_err_and c.from_residual-in_err-check_order.result c.from_residual-in_err-check_order.ensures.1 in
    let setup = c.self.inside.setup in
    let payload = c.args.payload.now in
    let f = c.in_err-check_order.field-0.0 in
    let own : HasWholeChain setup payload = search rules in
    let first = subst (λ (links : List LinkValue). IsFirstDisorder setup links f)
    (c.deref.ensures.value ∙ c.in_ok-links.ensures) c.in_err-check_order.ensures.err in
    let fault = subst (λ (s : SetupValue). IsFirstFault s payload f) c.self.view_is (disorder_is_first setup payload own f first) in
    rw (p.1, p.2) (record { frame = tt; found = λ pictures spells. no_fault c.args.self.now payload pictures spells f fault; fault = fault })

is_ordered : (c : After-drop-links-2) → IsOrdered c.self.inside.setup c.args.payload.now
is_ordered c =
    let setup = c.self.inside.setup in
    let payload = c.args.payload.now in
    let chain : HasWholeChain setup payload = search rules in
    let P : List LinkValue → Type 0 = λ links. AreInOrderBefore setup links (length links) in
    let first = subst P (c.deref.ensures.value ∙ c.in_ok-links.ensures) c.in_ok-check_order.ensures.ok in
    let count : length (links_from_front payload) ≡ tile_count (grid_of setup) = length-reverse (links_of payload) ∙ chain.count in
    record { chain = chain; each = subst (λ n. AreInOrderBefore setup (links_from_front payload) n) count first }

pub returns-clause-frame : goal.returns-clause-frame
returns-clause-frame c =
    let payload = c.args.payload.now in
    let P : List LinkValue → Type 0 = λ links. IfOk c.draw_links.result (IsDrawnOf c.self.inside.setup links (length links)) in
    let Q : SetupValue → Type 0 = λ s. IfOk c.draw_links.result (IsDecodedFrame s payload) in
    subst Q c.self.view_is (decoded c.self.inside.setup payload (is_ordered c) c.draw_links.result
    (subst P (c.deref-2.ensures.value ∙ c.in_ok-links.ensures) c.draw_links.ensures.ok))

pub returns-clause-fault : goal.returns-clause-fault
returns-clause-fault c =
    let payload = c.args.payload.now in
    let P : List LinkValue → Type 0 = λ links. IfErr c.draw_links.result (IsFirstUnreadable c.self.inside.setup links) in
    let Q : SetupValue → Type 0 = λ s. IfErr c.draw_links.result (IsFirstFault s payload) in
    subst Q c.self.view_is (first_fault c.self.inside.setup payload (is_ordered c) c.draw_links.result
    (subst P (c.deref-2.ensures.value ∙ c.in_ok-links.ensures) c.draw_links.ensures.err))

pub returns-clause-found : goal.returns-clause-found
returns-clause-found c pictures spells =
    found c.args.self.now c.args.payload.now pictures spells (subst IsInProfile c.self.view_is c.keeps_profile.ensures) c.draw_links.result
    (returns-clause-frame c) (returns-clause-fault c)
