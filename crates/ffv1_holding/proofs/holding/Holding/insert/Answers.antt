use Rattle.std.proofs.Common.{◌≡◌, ℕ, ◌<◌, List, [], length, get_or, Result, Ok, Err, OnOk, OnErr, sym, ap, subst, ◌∙◌}
use Rattle.std.proofs.lemmas.List.{get_or_default}
use Rattle.ffv1_holding.specs.SliceOrder.{Entry, entries_total, entries_antisymmetric}
use Rattle.ffv1_holding.specs.Inner.TileSets.{TileSlices, with_tile_entry}
use Rattle.ffv1_holding.specs.Contents.{Contents, IsEntryOf, AreEntriesOf, AreHeld, AreOfDigestLength}
use Rattle.ffv1_holding.specs.HoldingParts.{IsKept}
use Rattle.ffv1_holding.specs.declared.holding.Holding.TheInside.{Inside}
use Rattle.ffv1_holding.proofs.EntrySteps.{all-insert}
use Rattle.ffv1_holding.proofs.OriginSteps.{held_each, whole_each}
use Rattle.ffv1_holding.proofs.HoldingSteps.{holding, kept-same}
use Rattle.ffv1_holding.proofs.holding.Holding.insert.Goals as goal

-- what a holding keeps is kept with one slice more, and where none was added
kept : {S T E : Type 0} (r : Result T E) (a : Inside S) (e : Entry) (digests : List (List ℕ)) (new : TileSlices) → IsKept a → IsEntryOf a.reel.rules e
    → ((i : ℕ) (d : List ℕ) → i < length digests → length (get_or digests i d) ≡ 32)
    → OnOk r (new ≡ with_tile_entry a.held e digests) → OnErr r (new ≡ a.held) → IsKept (holding a new)
kept (Ok x) a e digests new is entry long ok err = record {
  reel = is.reel;
  tiles = ap (λ (h : TileSlices). h.tiles) ok ∙ is.tiles;
  slices = subst (λ (h : TileSlices). AreEntriesOf a.reel.rules h.slices) (sym ok)
      (all-insert entries_total entries_antisymmetric (IsEntryOf a.reel.rules) a.held.slices e is.slices entry);
  origins_held = subst (λ (h : TileSlices). AreHeld h.slices h.origins) (sym ok) (held_each a.held.slices a.held.origins e digests is.origins_held);
  digests_whole = subst (λ (h : TileSlices). AreOfDigestLength h.origins) (sym ok) (whole_each a.held.slices a.held.origins e digests is.digests_whole long);
}
kept (Err x) a e digests new is entry long ok err = kept-same a new err is

pub invariant_of-self : goal.invariant_of-self
invariant_of-self g c =
    let entry = subst (λ (h : Contents). IsEntryOf h.reel.rules (c.args.tile, c.args.slice.now)) (sym c.self.view_is) c.requires.slice in
    let long = λ (i : ℕ) (d : List ℕ) (lt : i < length c.args.origins.now). ap length (get_or_default c.args.origins.now i d [] lt) ∙ c.told-origins i lt in
    kept c.insert.result c.self.inside (c.args.tile, c.args.slice.now) c.args.origins.now c.insert.new.self c.self.invariant entry long
    c.insert.ensures.ok c.insert.ensures.err
