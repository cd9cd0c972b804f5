use Rattle.std.proofs.Common.{◌≡◌, ℕ, ◌<◌, ◌*◌, ◌≤◌, ◌++◌, ◌∷◌, [], List, length, map, refl, sym, ap, ◌∙◌, subst, arith}
use Rattle.std.specs.List.{filter_map, AllByRecursion}
use Rattle.std.proofs.lemmas.List.{map-append, length-map, get_or-map}
use Rattle.ffv1_bits.specs.Limits.{slice_limit}
use Rattle.ffv1_slice.specs.Chain.{LinkValue, IsLinkOf, link_of, IsFramed}
use Rattle.ffv1_slice.specs.Slices.{slice_at, found_slices}
use Rattle.ffv1_slice.specs.Walk.{links_of}
use Rattle.ffv1_slice.proofs.SliceFacts.{found_slices-links}
use Rattle.ffv1_holding.specs.Sets as set
use Rattle.ffv1_holding.specs.SliceOrder.{Entry, entries_total, entries_antisymmetric}
use Rattle.ffv1_holding.specs.Contents.{IsEntryOf, AreEntriesOf}
use Rattle.ffv1_holding.specs.Inner.PoolEntries.{entry_in, IsEntryIn}
use Rattle.ffv1_holding.specs.declared.pool_entry.PoolEntry.{PoolEntry}
use Rattle.ffv1_holding.proofs.Found.{passed_more, found_more, none_more, entry_of_link, links_fit, length-more, all_passed}
use Rattle.ffv1_holding.proofs.Sifting.{each-push}
use Rattle.ffv1_holding.proofs.Listing.{slice_listed, entry_listed}
use Rattle.ffv1_holding.proofs.EntrySteps.{all-from_list}
use Rattle.ffv1_holding.proofs.take.list_found.Given.{Over}
use Rattle.ffv1_holding.proofs.take.list_found.Goals as goal

abbrev AreCut : List ℕ → List LinkValue → Type 0
AreCut payload = AllByRecursion (λ link. (q : ℕ) × IsLinkOf payload link.start q × (link ≡ link_of payload link.start q))

pub loop-link-init : goal.loop-link-init
loop-link-init g c =
    let none = c.requires.none in
    record {
      passed = [];
      whole = c.new-chain.ensures.value;
      links = refl;
      all_links = c.new-chain.ensures.links.only;
      listed = ap (map (entry_in c.args.payload.now)) none;
      lie = λ i d lt. absurd (omega (arith, ap length none));
      well_formed = λ i d lt. absurd (omega (arith, ap length none));
    }

pub overflow_add-links : goal.overflow_add-links
overflow_add-links g c =
    let inv = c.loop-link.invariant in
    links_fit c.args.reel.now.rules inv.passed c.in-Some.link c.next_link.new.chain.left (links_of c.args.payload.now) c.args.payload.now c.loop-link.links
    (ap (λ xs. inv.passed ++ xs) (sym c.in-Some.ensures.some) ∙ inv.whole)
    (subst (λ xs. 8 * length xs ≤ length c.args.payload.now) c.new-chain.ensures.value c.new-chain.ensures.few) c.requires.short inv.links

pub loop-link-preserved-in-Continue-1 : goal.loop-link-preserved-in-Continue-1
loop-link-preserved-in-Continue-1 g c =
    let inv = c.loop-link.invariant in
    let passed = inv.passed in
    let link = c.in-Some.link in
    let rest = c.next_link.new.chain.left in
    let rules = c.args.reel.now.rules in
    let payload = c.args.payload.now in
    let tile = c.in-Ok.tile in
    let is = c.in-Ok.ensures.found in
    let all_links : AreCut payload (link ∷ rest) = subst (AreCut payload) c.in-Some.ensures.some inv.all_links in
    let cut = all_links.0 in
    let new : PoolEntry = record { tile = tile; start = c.start.result; length = length c.bytes.result.now } in
    let grown : c.push.new.self.items ≡ c.loop-link.found.items ++ new ∷ [] = c.in_ok-push.ensures.items in
    let long = ap length c.bytes.ensures.value in
    let slice = slice_listed payload link cut.0 cut.2 tile c.start.result (length c.bytes.result.now) c.start.ensures long in
    let view : entry_in payload new ≡ (tile, link.bytes) = (λ i. (tile, slice i)) in
    let lies : IsEntryIn payload new = entry_listed payload link cut.0 cut.2 tile c.start.result
    (length c.bytes.result.now) c.start.ensures long (subst IsFramed c.bytes.ensures.value c.bytes.ensures.framed) in
    let entry : IsEntryOf rules (entry_in payload new) = subst (IsEntryOf rules) (sym view)
    (entry_of_link rules link tile is (subst (λ (b : List ℕ). length b ≤ slice_limit) c.bytes.ensures.value c.bytes.ensures.short)) in
    record {
      passed = passed ++ link ∷ [];
      whole = passed_more rules passed link rest (links_of payload) (ap (λ xs. passed ++ xs) (sym c.in-Some.ensures.some) ∙ inv.whole);
      links = length-more c.loop-link.links passed (passed ++ link ∷ []) link inv.links refl;
      all_links = all_links.1;
      listed = ap (map (entry_in payload)) grown ∙ map-append (entry_in payload) c.loop-link.found.items (new ∷ [])
          ∙ (λ i. inv.listed i ++ view i ∷ []) ∙ sym (found_more rules passed link tile is);
      lie = rw grown (each-push (IsEntryIn payload) c.loop-link.found.items new inv.lie lies);
      well_formed = rw grown (each-push (λ (e : PoolEntry). IsEntryOf rules (entry_in payload e)) c.loop-link.found.items new inv.well_formed entry);
    }

pub loop-link-preserved : goal.loop-link-preserved
loop-link-preserved g c =
    let inv = c.loop-link.invariant in
    let link = c.in-Some.link in
    let rules = c.args.reel.now.rules in
    let same = none_more rules inv.passed link (λ tile is. c.in_default-slice_of.not-Ok tile (c.slice_of.ensures.only tile is)) in
    record {
      passed = inv.passed ++ link ∷ [];
      whole = passed_more rules inv.passed link c.next_link.new.chain.left (links_of c.args.payload.now)
          (ap (λ xs. inv.passed ++ xs) (sym c.in-Some.ensures.some) ∙ inv.whole);
      links = length-more c.loop-link.links inv.passed (inv.passed ++ link ∷ []) link inv.links refl;
      all_links = (subst (AreCut c.args.payload.now) c.in-Some.ensures.some inv.all_links).1;
      listed = inv.listed ∙ sym same;
      lie = inv.lie;
      well_formed = inv.well_formed;
    }

all_found : (g : Over) (c : goal.In_default g) → map (entry_in c.args.payload.now) c.loop-link.found.items ≡ found_slices c.args.reel.now.rules c.args.payload.now
all_found g c =
    let inv = c.loop-link.invariant in
    let rules = c.args.reel.now.rules in
    let all = all_passed inv.passed c.loop-link.chain.left (links_of c.args.payload.now) c.in_default.ensures.none inv.whole in
    inv.listed ∙ ap (filter_map (slice_at rules)) all ∙ sym (found_slices-links rules c.args.payload.now)

pub returns-clause-found : goal.returns-clause-found
returns-clause-found g c = all_found g c

pub returns-clause-well_formed : goal.returns-clause-well_formed
returns-clause-well_formed g c =
    let inv = c.loop-link.invariant in
    let rules = c.args.reel.now.rules in
    let payload = c.args.payload.now in
    let es = c.loop-link.found.items in
    let nothing : PoolEntry = record { tile = 0; start = 0; length = 0 } in
    subst (λ (xs : List Entry). AreEntriesOf rules (set.from_list xs)) (all_found g c)
    (all-from_list entries_total entries_antisymmetric (IsEntryOf rules) (map (entry_in payload) es)
    (λ i d lt. let in_range : i < length es = omega (arith, length-map es (entry_in payload)) in
    rw (get_or-map (entry_in payload) es i nothing d in_range) (inv.well_formed i nothing in_range)))

pub returns-clause-links : goal.returns-clause-links
returns-clause-links g c =
    let inv = c.loop-link.invariant in
    inv.links ∙ ap length (all_passed inv.passed c.loop-link.chain.left (links_of c.args.payload.now) c.in_default.ensures.none inv.whole)
