-- What equal holdings have in common, and what copies of an original restore and show.
use Rattle.std.proofs.Common.{◌≡◌, ℕ, List, [], length, get_or, None, Result, Ok, Err, IsOkAnd, Vec, Global, refl, sym, ap, subst, ◌∙◌, arith}
use Rattle.ffv1_slice.specs.Slices.{IsOriginal}
use Rattle.ffv1_holding.specs.Contents.{Contents, holding_of, HasSameCopies}
use Rattle.ffv1_holding.proofs.ContentsLaws.{holding_of-same}
use Rattle.ffv1_holding.specs.TileState.{StateOfTile, settled, IsSettled, IsLeastUnsettled}
use Rattle.ffv1_holding.specs.Originals.{AreNear, HoldsExactly}
use Rattle.ffv1_hold.specs.Plans.{copies_of}
use Rattle.ffv1_hold.specs.declared.plan.Plan.{Plan}
use Rattle.ffv1_holding.specs.declared.restore.RestoreFault.{RestoreFault}
use Rattle.ffv1_holding.specs.declared.restore.RestoreFault.TheVariants as refusals
use Rattle.ffv1_hold.proofs.PlanSteps.{one_reel}
use Rattle.ffv1_range.specs.TileHeaders.{TileRules}
use Rattle.ffv1_holding.specs.Reels.{IsReel, reel_tiles}
use Rattle.ffv1_holding.specs.declared.recordings.Recordings.TheVariants.{Profile}
use Rattle.ffv1_holding.proofs.ExactlyHeld.{exactly_held, near_are_copies}
use Rattle.ffv1_holding.proofs.Restored.{settled_alone, restored_original, tile_for_each}
use Rattle.ffv1_picture.specs.PartialPictures.{IsShown, IsPartialPicture}
use Rattle.ffv1_hold.specs.Restorations.{IsHoldingOfPlan, AreEqualInAll, IsRestored, IsPlanFor, ShowsSlices}
use Rattle.ffv1_picture.specs.declared.partial.Partial.{Partial}
use Rattle.ffv1_picture.specs.declared.partial.TileOutcome.TheVariants.{Missing}
use Rattle.ffv1_picture.proofs.OnePicture.{shown_picture}

pub same_in_all : (a : Contents) → AreEqualInAll a a
same_in_all a = record { states = λ tile. refl; held = λ tile. refl; origins = λ tile slice. refl; statuses = λ tile least is. is; file = refl; report = refl }

-- plans of the same copies come to equal holdings
pub equal_holdings : (config : List ℕ) (width height : ℕ) (plan other : Plan) (a b : Contents) → IsHoldingOfPlan config width height plan a
    → IsHoldingOfPlan config width height other b → HasSameCopies (copies_of plan) (copies_of other) → AreEqualInAll a b
equal_holdings config width height plan other a b is also same =
    let e : a ≡ b = is.meaning ∙ ap (λ r. holding_of r (copies_of plan)) (one_reel Profile config width height a.reel b.reel is.reel also.reel)
    ∙ holding_of-same b.reel (copies_of plan) (copies_of other) same ∙ sym also.meaning in
    let P : Contents → Type 0 = λ h. AreEqualInAll a h in
    subst P e (same_in_all a)

-- ---- a holding of just an original's slices

module _ (h : Contents) (original : List ℕ) (slices : List (List ℕ)) (reel : IsReel h.reel)
    (is_original : IsOriginal h.reel.rules original slices) (exact : HoldsExactly h slices) where
  count : length slices ≡ reel_tiles h.reel
  count = tile_for_each h slices exact original reel is_original

  pub exact_shows : (partial : Partial) → IsPartialPicture h partial → ShowsSlices h.reel.setup slices partial.frame
  exact_shows partial shown = record {
    pictures = shown.pictures;
    count = shown.count ∙ sym count;
    each = λ tile d lt.
        let P : StateOfTile → Type 0 = λ s. IsShown h.reel.setup tile s (get_or partial.tiles.items tile Missing) (get_or shown.pictures tile None) in
        shown_picture h.reel.setup tile (settled (get_or slices tile d)) (get_or partial.tiles.items tile Missing) (get_or shown.pictures tile None)
        (subst P (settled_alone h slices exact tile d lt) (shown.each tile (omega (arith, lt, count))));
    is_frame = shown.is_frame;
  }

  -- each of its tiles is settled
  pub exact_settles : (tile : ℕ) → IsLeastUnsettled h tile → ⊥
  exact_settles tile least = least.unsettled (subst IsSettled (sym (settled_alone h slices exact tile [] (omega (arith, least.in_grid, count)))) tt)

  pub exact_restores : (r : Result (Vec ℕ Global) RestoreFault) → IsRestored h r → IsOkAnd r (λ payload. payload.items ≡ original)
  exact_restores (Ok payload) is = is.1 ∙ restored_original h slices exact original reel is_original
  exact_restores (Err (refusals.Missing tile)) is = absurd (exact_settles tile is.0.0)
  exact_restores (Err (refusals.Disputed tile)) is = absurd (exact_settles tile is.0.0)
  exact_restores (Err refusals.Memory) is = absurd (is.1 refl)

-- ---- a plan of copies of an original

module _ (config : List ℕ) (width height : ℕ) (plan : Plan) (h : Contents) (reel : IsReel h.reel) (is : IsHoldingOfPlan config width height plan h)
    (original : List ℕ) (slices : List (List ℕ)) (for : IsPlanFor h.reel.rules plan original slices) where
  held_exactly : HoldsExactly h slices
  held_exactly =
      let P : Contents → Type 0 = λ g. HoldsExactly g slices in
      subst P (sym is.meaning) (exactly_held h.reel slices (copies_of plan) for.are_copies)

  pub shows_slices : (partial : Partial) → IsPartialPicture h partial → ShowsSlices h.reel.setup slices partial.frame
  shows_slices = exact_shows h original slices reel for.is_original held_exactly

  pub restores_original : (r : Result (Vec ℕ Global) RestoreFault) → IsRestored h r → IsOkAnd r (λ payload. payload.items ≡ original)
  restores_original = exact_restores h original slices reel for.is_original held_exactly

-- copies near an original, with each of its slices intact in one of them, are copies of it
pub near_plan : (rules : TileRules) (plan : Plan) (original : List ℕ) (slices : List (List ℕ)) → AreNear rules original slices (copies_of plan)
    → IsPlanFor rules plan original slices
near_plan rules plan original slices near = record { is_original = near.is_original; are_copies = near_are_copies rules original slices (copies_of plan) near }
