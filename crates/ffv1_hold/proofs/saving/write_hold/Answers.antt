use Rattle.ffv1_hold.proofs.Common.{◌≤◌, length, rules, arith, inl, inr, err_from_is_err_and, record_limit, file_limit, Contents, holding_text, IsTooLong}
use Rattle.ffv1_hold.proofs.SavedTiles.{writable}
use Rattle.ffv1_hold.proofs.TileTexts.{fits_within}
use Rattle.ffv1_hold.proofs.saving.write_hold.Goals as goal

pub write_text-requires-clause-fits : goal.write_text-requires-clause-fits
write_text-requires-clause-fits g c = fits_within c.args.holding.now c.fits_in_file.ensures.well_formed (c.tells_magic.ensures.tells.0 (search rules))
    (c.if-not-fits_in_file.ensures.fits.0 (search rules))

pub returns-clause-saved : goal.returns-clause-saved
returns-clause-saved g c = (
  fits_within c.args.holding.now c.fits_in_file.ensures.well_formed (c.tells_magic.ensures.tells.0 (search rules))
      (c.if-not-fits_in_file.ensures.fits.0 (search rules)),
  c.in_ok-write_text.ensures,
)

pub write_text-requires-clause-entries : goal.write_text-requires-clause-entries
write_text-requires-clause-entries g c = writable c.args.holding.now c.fits_in_file.ensures.well_formed

too_long : (h : Contents) → (length h.reel.config ≤ record_limit) × (length (holding_text h) ≤ file_limit) → IsTooLong h → ⊥
too_long h fits (inl over) = omega (arith, fits.0, over)
too_long h fits (inr over) = omega (arith, fits.1, over)

pub returns-in_err-write_text-clause-saved : goal.returns-in_err-write_text-clause-saved
returns-in_err-write_text-clause-saved g c =
    let p = err_from_is_err_and c.from_residual.result c.from_residual.ensures.1 in
    rw (p.1, p.2) (too_long c.args.holding.now (c.if-not-fits_in_file.ensures.fits.0 (search rules)), c.in_err-write_text.ensures)
