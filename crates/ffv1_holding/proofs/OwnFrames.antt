-- Which holdings of any frames are holdings by the record's own rules: those whose slices of the first tile are.
use Rattle.std.proofs.Common.{◌≡◌, ℕ, Result, Ok, Err, IfOk, zero, suc, ◌<◌, ◌==◌, true, false, List, get_or, refl, sym, ap, ◌∙◌, subst, arith, true≢false}
use Rattle.std.proofs.Math.Dec.{eqb-suc-zero}
use Rattle.std.specs.Result.{is_err}
use Rattle.ffv1_range.specs.TileHeaders.{TileRules}
use Rattle.ffv1_range.specs.Frames.{by_frames}
use Rattle.ffv1_range.specs.declared.frames.Frames.{Frames}
use Rattle.ffv1_range.specs.declared.frames.Frames.TheVariants.{Ruled, Any}
use Rattle.ffv1_slice.specs.Slices.{IsSliceOf}
use Rattle.ffv1_slice.specs.declared.slice.LinkFault.{LinkFault}
use Rattle.ffv1_slice.proofs.KeyframeLaws.{any_frames_are_wider}
use Rattle.ffv1_holding.specs.Sets as set
use Rattle.ffv1_holding.specs.SliceOrder.{Entry, entry_cmp, bytes_total, bytes_antisymmetric}
use Rattle.ffv1_holding.specs.TileSets.{tile_slices}
use Rattle.ffv1_holding.specs.Contents.{Contents, IsEntryOf, AreEntriesOf, AreOwnEntries}
use Rattle.ffv1_holding.specs.Reels.{Reel, IsOwnReel, reel_tiles, in_frames}
use Rattle.ffv1_holding.specs.HoldingParts.{IsKept}
use Rattle.ffv1_holding.specs.declared.holding.Holding.TheInside.{Inside}
use Rattle.ffv1_holding.proofs.Reels.{any_reel_is, own_one, record_reel_is}
use Rattle.ffv1_holding.proofs.Tiles.{contains-tile_slices}
use Rattle.ffv1_holding.proofs.RisingSets.{contains_item, size-items}
use Rattle.ffv1_holding.proofs.EntrySteps.{all-from_list}
use Rattle.ffv1_holding.proofs.HoldingSteps.{kept-moved}

-- a slice by the rules is one in these frames
in_more_frames : (frames : Frames) (rules : TileRules) (e : Entry) → IsEntryOf rules e → IsEntryOf (by_frames frames rules) e
in_more_frames Ruled rules e is = is
in_more_frames Any rules e is = record { slice = any_frames_are_wider.wider rules e.1 (e.0 == 0) e.0 is.slice; fits = is.fits }

-- .. so entries by the record's own rules are entries in any frames
pub any_entries : (r : Reel) (slices : set.SetOf entry_cmp) → AreEntriesOf r.rules slices → AreEntriesOf (by_frames Any r.rules) slices
any_entries r slices all e held = in_more_frames Any r.rules e (all e held)

-- a slice without a keyframe bit is one by the rules
without_key : (frames : Frames) (rules : TileRules) (slice : List ℕ) (tile : ℕ) → IsSliceOf (by_frames frames rules) slice false tile
    → IsSliceOf rules slice false tile
without_key Ruled rules slice tile is = is
without_key Any rules slice tile is = any_frames_are_wider.narrower rules slice false tile is (λ first. absurd (true≢false (sym first)))

-- what is read as a slice at its payload's start is one of the first tile
pub read_first : (rules : TileRules) (slice : List ℕ) (r : Result ℕ LinkFault) → is_err r ≡ false → IfOk r (λ tile. IsSliceOf rules slice true tile)
    → IsSliceOf rules slice true 0
read_first rules slice (Ok tile) ok is = subst (λ t. IsSliceOf rules slice true t) (is.content.first_tile.0 refl) is
read_first rules slice (Err fault) ok is = absurd (true≢false ok)

abbrev pub FirstsAreOf : TileRules → set.SetOf entry_cmp → Type 0
FirstsAreOf rules slices =
    (i : ℕ) (d : List ℕ) → i < set.size (tile_slices slices 0) → IsSliceOf rules (get_or (set.items (tile_slices slices 0)) i d) true 0

-- entries in some frames are entries by the rules where those of the first tile are
pub own_entries : (frames : Frames) (rules : TileRules) (slices : set.SetOf entry_cmp) → AreEntriesOf (by_frames frames rules) slices
    → FirstsAreOf rules slices → AreEntriesOf rules slices
own_entries frames rules slices all firsts (zero, b) held =
    let first : (q : List ℕ) → set.contains (set.from_list (set.items (tile_slices slices 0))) q ≡ true → IsSliceOf rules q true 0 =
    all-from_list bytes_total bytes_antisymmetric (λ q. IsSliceOf rules q true 0) (set.items (tile_slices slices 0))
    (λ i d lt. firsts i d (omega (arith, size-items (tile_slices slices 0)))) in
    let there : set.contains (set.from_list (set.items (tile_slices slices 0))) b ≡ true =
    ap (λ s. set.contains s b) (set.from_list-items bytes_total bytes_antisymmetric (tile_slices slices 0)) ∙ contains-tile_slices slices 0 b ∙ held in
    record { slice = first b there; fits = (all (0, b) held).fits }
own_entries frames rules slices all firsts (suc tile, b) held =
    let later : (suc tile == 0) ≡ false = eqb-suc-zero tile in
    let is = subst (λ first. IsSliceOf (by_frames frames rules) b first (suc tile)) later (all (suc tile, b) held).slice in
    record {
      slice = subst (λ first. IsSliceOf rules b first (suc tile)) (sym later) (without_key frames rules b (suc tile) is);
      fits = (all (suc tile, b) held).fits;
    }

-- .. and only there
pub firsts_are : (rules : TileRules) (slices : set.SetOf entry_cmp) → AreEntriesOf rules slices → FirstsAreOf rules slices
firsts_are rules slices all i d lt =
    let first = get_or (set.items (tile_slices slices 0)) i d in
    let there = sym (contains-tile_slices slices 0 first) ∙ contains_item bytes_total (tile_slices slices 0) i d (omega (arith, size-items (tile_slices slices 0))) in
    (all (0, first) there).slice

-- what a holding keeps it keeps in any frames
pub kept-any : {S : Type 0} (a b : Inside S) → b.reel ≡ in_frames Any a.reel → b.held ≡ a.held → IsKept a → IsKept b
kept-any {S = S} a b reel held is =
    let r = in_frames Any a.reel in
    let moved : IsKept {S = S} (record { reel = r; held = a.held }) =
    record {
      reel = any_reel_is a.reel is.reel;
      tiles = is.tiles;
      slices = any_entries a.reel a.held.slices is.slices;
      origins_held = is.origins_held;
      digests_whole = is.digests_whole;
    } in
    kept-moved {S = S} {T = S} (record { reel = r; held = a.held }) b reel held moved

-- .. and by the record's own rules, where its slices are of these
pub kept-own : {S : Type 0} (a b : Inside S) → IsOwnReel b.reel a.reel → b.held ≡ a.held → AreEntriesOf b.reel.rules a.held.slices → IsKept a → IsKept b
kept-own {S = S} a b own held all is =
    let moved : IsKept {S = S} (record { reel = b.reel; held = a.held }) =
    record {
      reel = record_reel_is b.reel own.0;
      tiles = is.tiles ∙ ap reel_tiles own.1.1;
      slices = all;
      origins_held = is.origins_held;
      digests_whole = is.digests_whole;
    } in
    kept-moved {S = S} {T = S} (record { reel = b.reel; held = a.held }) b refl held moved

-- each own reel has the same rules
pub own_all : (h : Contents) (own : Reel) → IsOwnReel own h.reel → AreEntriesOf own.rules h.slices → AreOwnEntries h
own_all h own is all = λ also is'. subst (λ (r : Reel). AreEntriesOf r.rules h.slices) (own_one h.reel own also is is') all

-- a holding in some frames is one of entries by the rules where those of the first tile are
pub own_held : (h : Contents) (own : Reel) → IsOwnReel own h.reel → AreEntriesOf h.reel.rules h.slices → FirstsAreOf own.rules h.slices → AreOwnEntries h
own_held h own is all firsts =
    own_all h own is
    (own_entries is.1.0 own.rules h.slices (subst (λ (r : Reel). AreEntriesOf r.rules h.slices) is.1.1 all) firsts)
