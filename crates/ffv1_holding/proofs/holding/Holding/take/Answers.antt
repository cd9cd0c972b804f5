use mathlib.Core.List.{map-map}
use Rattle.std.proofs.Common.{◌≡◌, List, ℕ, map, ap, sym, ◌∙◌, subst, refl, arith}
use Rattle.std.proofs.lemmas.Result.{err_from_is_err_and}
use Rattle.sha2.specs.Sha256.{sha256}
use Rattle.ffv1_range.specs.TileHeaders.{TileRules}
use Rattle.ffv1_slice.specs.Slices.{found_slices}
use Rattle.ffv1_holding.specs.Sets as set
use Rattle.ffv1_holding.specs.SliceOrder.{entry_cmp, origin_cmp}
use Rattle.ffv1_holding.specs.Inner.TileSets.{TileSlices, with_more}
use Rattle.ffv1_holding.specs.Inner.PoolEntries.{entry_in, IsPool}
use Rattle.ffv1_holding.specs.declared.pool_entry.PoolEntry.{PoolEntry}
use Rattle.ffv1_holding.specs.Contents.{Contents, origins_of_copy, with_found}
use Rattle.ffv1_holding.specs.TileOrder.{fall, is_in_tile_order}
use Rattle.ffv1_holding.proofs.Errors.{error_is}
use Rattle.ffv1_holding.proofs.Digests.{length-sha256}
use Rattle.ffv1_holding.proofs.OriginSteps.{held_marked, whole_marked, marked_same}
use Rattle.ffv1_holding.proofs.TileUnions.{size_grown}
use Rattle.ffv1_holding.proofs.HoldingSteps.{kept-same, kept-grown, shown}
use Rattle.ffv1_holding.proofs.holding.Holding.take.Given.{Over}
use Rattle.ffv1_holding.proofs.holding.Holding.take.Goals as goal

pub returns-then-payload-gt-PAYLOAD_LIMIT : goal.returns-then-payload-gt-PAYLOAD_LIMIT
returns-then-payload-gt-PAYLOAD_LIMIT g c = record { ok = tt; short = tt; links = tt; slices = tt; new = tt; order = tt; fault = omega arith; err = refl }

pub returns-in_err-links : goal.returns-in_err-links
returns-in_err-links g c =
    let p = err_from_is_err_and c.from_residual.result c.from_residual.ensures.1 in
    let memory = error_is c.in_err-links.ensures.memory in
    rw (p.1, p.2, memory) (record { ok = tt; short = tt; links = tt; slices = tt; new = tt; order = tt; fault = omega arith; err = refl })

pub returns-in_err-put_in_order : goal.returns-in_err-put_in_order
returns-in_err-put_in_order g c =
    let p = err_from_is_err_and c.from_residual-in_err-put_in_order.result c.from_residual-in_err-put_in_order.ensures.1 in
    rw (p.1, p.2) (record { ok = tt; short = tt; links = tt; slices = tt; new = tt; order = tt; fault = omega arith; err = refl })

pub insert_copy-requires : goal.insert_copy-requires
insert_copy-requires g c = subst (IsPool c.args.payload.now) (sym c.deref.ensures.value) c.in_ok-put_in_order.ensures.ok

pub invariant_of-self : goal.invariant_of-self
invariant_of-self g c = kept-same c.self.inside c.insert_copy.new.self c.in_err-insert_copy.ensures.err c.self.invariant

pub returns-in_err-insert_copy : goal.returns-in_err-insert_copy
returns-in_err-insert_copy g c =
    let p = err_from_is_err_and c.from_residual-in_err-insert_copy.result c.from_residual-in_err-insert_copy.ensures.1 in
    rw (p.1, p.2, error_is c.in_err-insert_copy.ensures.memory) (record {
      ok = tt;
      short = tt;
      links = tt;
      slices = tt;
      new = tt;
      order = tt;
      fault = omega arith;
      err = shown c.self.inside c.insert_copy.new.self c.self.inside.held _ c.in_err-insert_copy.ensures.err c.self.view_is;
    })

abbrev slices_in : TileRules → List ℕ → set.SetOf entry_cmp
slices_in rules copy = set.from_list (found_slices rules copy)

abbrev origins_in : TileRules → List ℕ → set.SetOf origin_cmp
origins_in rules copy = set.from_list (origins_of_copy rules copy)

-- a pool with the entries of a copy, which were lent in order, has what is found in it
grown : (old new : TileSlices) (rules : TileRules) (copy : List ℕ) (lent found listed : List PoolEntry) → lent ≡ found
    → new ≡ with_more old (set.from_list (map (entry_in copy) lent)) (set.from_list (map (λ e. (e, sha256 copy)) (map (entry_in copy) lent)))
    → set.from_list {R = entry_cmp} (map (entry_in copy) found) ≡ set.from_list (map (entry_in copy) listed)
    → map (entry_in copy) listed ≡ found_slices rules copy → new ≡ with_more old (slices_in rules copy) (origins_in rules copy)
grown old new rules copy lent found listed order added same is =
    let all = ap (λ (es : List PoolEntry). set.from_list {R = entry_cmp} (map (entry_in copy) es)) order ∙ same ∙ ap set.from_list is in
    let marked = marked_same (sha256 copy) (map (entry_in copy) lent) (found_slices rules copy) all in
    added ∙ (λ i. with_more old (all i) (marked i))

grown_first : (g : Over) (c : goal.After-size g) → c.insert_copy.new.self ≡ with_more c.self.inside.held (slices_in c.self.inside.reel.rules c.args.payload.now)
    (origins_in c.self.inside.reel.rules c.args.payload.now)
grown_first g c =
    grown c.self.inside.held c.insert_copy.new.self c.self.inside.reel.rules c.args.payload.now _ _ _ c.deref.ensures.value
    c.in_ok-insert_copy.ensures.ok c.in_ok-put_in_order.ensures.same c.in_ok-links.ensures.found

pub overflow_sub-new : goal.overflow_sub-new
overflow_sub-new g c =
    let rules = c.self.inside.reel.rules in
    let more = size_grown c.self.inside.held c.insert_copy.new.self (slices_in rules c.args.payload.now)
    (origins_in rules c.args.payload.now) (grown_first g c) in
    omega (arith, more, c.size.ensures, c.size-before.ensures)

grown_last : (g : Over) (c : goal.After-drop-found-2 g) → c.insert_copy.new.self ≡ with_more c.self.inside.held (slices_in c.self.inside.reel.rules c.args.payload.now)
    (origins_in c.self.inside.reel.rules c.args.payload.now)
grown_last g c =
    grown c.self.inside.held c.insert_copy.new.self c.self.inside.reel.rules c.args.payload.now _ _ _ c.deref.ensures.value
    c.in_ok-insert_copy.ensures.ok c.in_ok-put_in_order.ensures.same c.in_ok-links.ensures.found

pub invariant_of-self-2 : goal.invariant_of-self-2
invariant_of-self-2 g c =
    let copy = c.args.payload.now in
    let found = found_slices c.self.inside.reel.rules copy in
    let slices = slices_in c.self.inside.reel.rules copy in
    kept-grown c.self.inside c.insert_copy.new.self slices (origins_in c.self.inside.reel.rules copy) (grown_last g c) c.self.invariant
    c.in_ok-links.ensures.well_formed
    (held_marked (sha256 copy) found) (whole_marked (sha256 copy) found (length-sha256 copy))

pub returns-clause-new : goal.returns-clause-new
returns-clause-new g c =
    let rules = c.self.inside.reel.rules in
    let more = size_grown c.self.inside.held c.insert_copy.new.self (slices_in rules c.args.payload.now) (origins_in rules c.args.payload.now) (grown_last g c) in
    omega (arith, more, c.size.ensures, c.size-before.ensures, ap (λ (h : Contents). set.size h.slices) c.self.view_is)

pub returns-clause-ok : goal.returns-clause-ok
returns-clause-ok g c =
    let copy = c.args.payload.now in
    let whole = λ (held : TileSlices). let h : Contents = record { reel = c.self.inside.reel; slices = held.slices; origins = held.origins } in h in
    ap whole (grown_last g c)
    ∙ ap (λ (h : Contents). with_found h copy) c.self.view_is

pub list_found-requires-clause-short : goal.list_found-requires-clause-short
list_found-requires-clause-short g c = omega arith

pub returns-clause-links : goal.returns-clause-links
returns-clause-links g c = c.in_ok-links.ensures.links

pub returns-clause-short : goal.returns-clause-short
returns-clause-short g c = omega arith

-- the tiles of entries are those of the slices that they are
tiles_found : (rules : TileRules) (copy : List ℕ) (found : List PoolEntry) → map (entry_in copy) found ≡ found_slices rules copy
    → fall (map (λ e. e.tile) found) ≡ is_in_tile_order rules copy
tiles_found rules copy found is = ap fall (sym (map-map (λ s. s.0) (entry_in copy) found) ∙ ap (map (λ s. s.0)) is)

pub returns-clause-order : goal.returns-clause-order
returns-clause-order g c =
    let rules = c.self.inside.reel.rules in
    c.is_in_order-in_order.ensures ∙ ap (λ (es : List PoolEntry). fall (map (λ e. e.tile) es)) c.as_slice.ensures.value
    ∙ tiles_found rules c.args.payload.now _ c.in_ok-links.ensures.found
    ∙ ap (λ (h : Contents). is_in_tile_order h.reel.rules c.args.payload.now) c.self.view_is

pub returns-clause-fault : goal.returns-clause-fault
returns-clause-fault g c = tt

pub returns-clause-err : goal.returns-clause-err
returns-clause-err g c = tt
