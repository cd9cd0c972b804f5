use Rattle.std.proofs.Common.{◌≡◌, ◌++◌, ℕ, List, OnOk, string_bytes, sym, ap, subst, ◌∙◌}
use Rattle.ffv1_slice.proofs.SliceFacts.{slice_footer}
use Rattle.ffv1_holding.specs.TileSets.{tile_slices}
use Rattle.ffv1_holding.specs.TileState.{settled, disputed}
use Rattle.ffv1_holding.proofs.RisingSets.{size-items}
use Rattle.ffv1_holding.specs.ReportText.{slices_held, settled_words, disputed_words, tile_words, least_status}
use Rattle.ffv1_holding.proofs.SettledSlices.{settled_entry}
use Rattle.ffv1_holding.proofs.reporting.push_state.Goals as goal

pub push_settled-requires : goal.push_settled-requires
push_settled-requires g c =
    let h = c.args.holding.now in
    let slice = c.in-Settled.slice.now in
    slice_footer h.reel.rules slice _ c.args.tile (settled_entry h c.reel-reel.ensures.well_formed c.args.tile slice (sym c.in-Settled.ensures)).slice

pub returns-in-Settled : goal.returns-in-Settled
returns-in-Settled g c =
    let h = c.args.holding.now in
    let slice = c.in-Settled.slice.now in
    let held = slices_held h c.args.tile in
    let P : List ℕ → Type 0 = λ words. OnOk c.push_settled.result (string_bytes c.push_settled.new.text ≡ string_bytes c.args.text.now ++ words) in
    subst P (ap (settled_words slice) (c.held-held.ensures ∙ size-items (tile_slices h.slices c.args.tile))
    ∙ ap (tile_words held) {x = settled slice} c.in-Settled.ensures) c.push_settled.ensures

pub returns-in-Disputed : goal.returns-in-Disputed
returns-in-Disputed g c =
    let h = c.args.holding.now in
    let held = slices_held h c.args.tile in
    let n = c.in-Disputed.slices in
    let P : List ℕ → Type 0 = λ words. OnOk c.push_disputed.result (string_bytes c.push_disputed.new.text ≡ string_bytes c.args.text.now ++ words) in
    subst P
    (ap (λ status. disputed_words n status c.held-held.result) c.held_status.ensures
    ∙ ap (disputed_words n (least_status held)) (c.held-held.ensures ∙ size-items (tile_slices h.slices c.args.tile))
    ∙ ap (tile_words held) {x = disputed n} c.in-Disputed.ensures)
    c.push_disputed.ensures
