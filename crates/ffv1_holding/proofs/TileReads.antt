-- What the fields of a holding say of one tile.
use Rattle.std.proofs.Common.{◌≡◌, ℕ, ◌<◌, ◌≤◌, ap, ◌∙◌, subst, arith}
use Rattle.ffv1_holding.specs.Reels.{IsReel, reel_tiles}
use Rattle.ffv1_holding.specs.Contents.{Contents}
use Rattle.ffv1_holding.specs.HoldingParts.{contents, IsKept}
use Rattle.ffv1_holding.specs.declared.holding.Holding.TheInside.{Inside}

-- a place before the end of a loop over the tiles
pub in_grid : {S : Type 0} (a : Inside S) → IsKept a → (h : Contents) → contents a ≡ h → (t end : ℕ) → t < end → end ≡ a.held.tiles → t < reel_tiles h.reel
in_grid a kept h is t end lt same =
    let count : a.held.tiles ≡ reel_tiles h.reel = kept.tiles ∙ ap (λ (x : Contents). reel_tiles x.reel) is in
    omega arith

-- each tile was passed where the loop ends
pub passed : {S : Type 0} (a : Inside S) → IsKept a → (h : Contents) → contents a ≡ h → (t end place : ℕ) → t < reel_tiles h.reel → end ≡ a.held.tiles
    → end ≤ place → t < place
passed a kept h is t end place lt same past =
    let count : a.held.tiles ≡ reel_tiles h.reel = kept.tiles ∙ ap (λ (x : Contents). reel_tiles x.reel) is in
    omega arith

-- the reel that is shown is one
pub reel_shown : {S : Type 0} (a : Inside S) → IsKept a → (h : Contents) → contents a ≡ h → IsReel h.reel
reel_shown a kept h is = subst (λ (x : Contents). IsReel x.reel) is kept.reel
