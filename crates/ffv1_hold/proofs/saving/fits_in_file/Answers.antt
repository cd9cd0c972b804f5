use Rattle.ffv1_hold.proofs.Common.{◌≡◌, ◌+◌, length, arith, refl, sym, ap, ◌∙◌, true≢false, Second, Reel, entries_text, file_entries, holding_text}
use Rattle.ffv1_hold.proofs.SavedTiles.{writable}
use Rattle.ffv1_hold.proofs.Slots.{length-text}
use Rattle.ffv1_hold.proofs.saving.fits_in_file.Given.{Over}
use Rattle.ffv1_hold.proofs.saving.fits_in_file.Goals.{After-config-config, After-room_after}
use Rattle.ffv1_hold.proofs.saving.fits_in_file.Goals as goal

config_long : (g : Over) (c : After-config-config g) → length c.config-config.result.now ≡ length c.args.holding.now.reel.config
config_long g c = ap length (c.config-config.ensures ∙ ap (λ (r : Reel). r.config) c.reel.ensures.value)

text_long : (g : Over) (c : After-room_after g) → length (holding_text c.args.holding.now)
    ≡ 21 + length c.config-config.result.now + length (entries_text Second (file_entries c.args.holding.now))
text_long g c =
    let text = length-text Second c.args.holding.now.reel (entries_text Second (file_entries c.args.holding.now)) in
    omega (arith, text, ap length (c.config-config.ensures ∙ ap (λ (r : Reel). r.config) c.reel.ensures.value))

pub returns-in-Some-clause-fits : goal.returns-in-Some-clause-fits
returns-in-Some-clause-fits g c =
    let long = config_long g (goal.at.returns-in-Some-clause-fits g c).After-config-config in
    let text = text_long g (goal.at.returns-in-Some-clause-fits g c).After-room_after in
    (λ _. (omega (arith, long), omega (arith, text, c.in-Some.ensures.some)), λ _. refl)

pub returns-in-None-clause-fits : goal.returns-in-None-clause-fits
returns-in-None-clause-fits g c =
    let text = text_long g (goal.at.returns-in-None-clause-fits g c).After-room_after in
    (λ no. absurd (true≢false (sym no)), λ fits. absurd (omega (arith, text, c.in-None.ensures.none, fits.1)))

pub room_after-requires-clause-entries : goal.room_after-requires-clause-entries
room_after-requires-clause-entries g c = writable c.args.holding.now c.reel.ensures.well_formed
