-- What a holding keeps and shows after a step.
use Rattle.std.proofs.Common.{◌≡◌, sym, ap, ◌∙◌, subst}
use Rattle.ffv1_holding.specs.Sets as set
use Rattle.ffv1_holding.specs.SliceOrder.{entry_cmp, origin_cmp, entries_total, entries_antisymmetric}
use Rattle.ffv1_holding.specs.Inner.TileSets.{TileSlices, with_more}
use Rattle.ffv1_holding.specs.Contents.{Contents, IsEntryOf, AreEntriesOf, AreHeld, AreOfDigestLength}
use Rattle.ffv1_holding.specs.Reels.{Reel, IsReel, reel_tiles}
use Rattle.ffv1_holding.specs.HoldingParts.{contents, IsKept}
use Rattle.ffv1_holding.specs.declared.holding.Holding.TheInside.{Inside}
use Rattle.ffv1_holding.proofs.EntrySteps.{all-union}
use Rattle.ffv1_holding.proofs.OriginSteps.{held_union, whole_union}
use Rattle.ffv1_holding.proofs.TileUnions.{tiles-grown, slices-grown, origins-grown}

abbrev pub holding : {S : Type 0} → Inside S → TileSlices → Inside S
holding a held = record { reel = a.reel; held = held }

module _ {S : Type 0} (a : Inside S) (new : TileSlices) where
  -- what is held is as before
  pub kept-same : new ≡ a.held → IsKept a → IsKept (holding a new)
  kept-same same is = subst (λ held. IsKept (holding a held)) (sym same) is

  -- what is shown where these slices are held
  pub shown : (held : TileSlices) (whole : Contents) → new ≡ held → contents (holding a held) ≡ whole → contents (holding a new) ≡ whole
  shown held whole same is = ap (λ (h : TileSlices). contents (holding a h)) same ∙ is

  -- entries of the reel came to what is held, each from some copy
  pub kept-grown : (slices : set.SetOf entry_cmp) (origins : set.SetOf origin_cmp) → new ≡ with_more a.held slices origins → IsKept a
      → AreEntriesOf a.reel.rules slices → AreHeld slices origins → AreOfDigestLength origins → IsKept (holding a new)
  kept-grown slices origins grown is entries held whole = record {
    reel = is.reel;
    tiles = tiles-grown a.held new slices origins grown ∙ is.tiles;
    slices = subst (AreEntriesOf a.reel.rules) (sym (slices-grown a.held new slices origins grown))
        (all-union entries_total entries_antisymmetric (IsEntryOf a.reel.rules) a.held.slices slices is.slices entries);
    origins_held = subst (λ (h : TileSlices). AreHeld h.slices h.origins) (sym grown) (held_union a.held.slices slices a.held.origins origins is.origins_held held);
    digests_whole = subst AreOfDigestLength (sym (origins-grown a.held new slices origins grown)) (whole_union a.held.origins origins is.digests_whole whole);
  }

-- what is kept is kept in another form
pub kept-moved : {S T : Type 0} (a : Inside S) (b : Inside T) → b.reel ≡ a.reel → b.held ≡ a.held → IsKept a → IsKept b
kept-moved a b reel held is = record {
  reel = subst IsReel (sym reel) is.reel;
  tiles = ap (λ (h : TileSlices). h.tiles) held ∙ is.tiles ∙ ap reel_tiles (sym reel);
  slices = subst (λ (r : Reel). AreEntriesOf r.rules b.held.slices) (sym reel)
      (subst (λ (h : TileSlices). AreEntriesOf a.reel.rules h.slices) (sym held) is.slices);
  origins_held = subst (λ (h : TileSlices). AreHeld h.slices h.origins) (sym held) is.origins_held;
  digests_whole = subst (λ (h : TileSlices). AreOfDigestLength h.origins) (sym held) is.digests_whole;
}
