-- The header of a slice of one tile is read where it is coded, and nowhere else.
use Rattle.std.proofs.Common.{◌≡◌, ℕ, ◌+◌, ◌<◌, ◌≤◌, Bool, true, false, List, [], ◌∷◌, ◌++◌, length, Result, Ok, Err, refl, sym, ap, ◌∙◌, subst, arith, length-append}
use Rattle.std.specs.Prelude.{◌↔◌, IfOk, IsTrue, is_some, nat_lt, ◌==◌, ◌&&◌, slice_index, if◌then◌else◌}
use Rattle.std.specs.List.{All, list_all}
use Rattle.std.proofs.lemmas.Bool.{and_parts, and_from, ltb-true, lt-ltb, eqb-true, eq-eqb}
use Rattle.ffv1_range.specs.Results.{◌>>>◌}
use Rattle.ffv1_range.specs.Coding.{Coder}
use Rattle.ffv1_range.specs.HeaderForms.{HeaderRead}
use Rattle.ffv1_range.specs.Header.{BeginAt, header_read, codes_read, is_in_place}
use Rattle.ffv1_range.specs.SliceHeader.{field_count, table_indexes}
use Rattle.ffv1_range.specs.TileHeaders.{TileRules, IsTileContent, scope_by, tile_mode, tile_bytes, tile_of_fields, tile_codes, tile_judged, tile_read}
use Rattle.ffv1_range.specs.declared.head.HeadFault.{HeadFault}
use Rattle.ffv1_range.proofs.Forms.{bind_ok}
use Rattle.ffv1_range.proofs.Spelling.{bind_is_ok, same_ok}
use Rattle.ffv1_range.proofs.HeaderFound.{header_found, header_run, header_leaves, codes_found, codes_run, if_ok, if_true, in_place, placed}
use Rattle.ffv1_range.proofs.SliceHeaderFound.{all_below, below_all}

-- ---- the bit that ends the header's coding

codes_by : Bool → List ℕ → Coder → Result (Unit {0}) HeadFault
codes_by has_codes content end = if has_codes then (codes_read content end >>> λ place. Ok tt) else Ok tt

ended_found : (has_codes : Bool) (content : List ℕ) (end : Coder) → (has_codes ≡ true → length end.rest + 2 ≤ length content)
    → codes_by has_codes content end ≡ Ok tt
    → has_codes ≡ true → (place : ℕ) × BeginAt content end place
unfolding codes_by
ended_found true content end leaves h is =
    let x = bind_is_ok (codes_read content end) (λ place. Ok tt) tt h in (x.0, codes_found content end x.0 (leaves refl) x.1)
ended_found false content end leaves h is = absurd cc

ended_run : (has_codes : Bool) (content : List ℕ) (end : Coder) → (has_codes ≡ true → (place : ℕ) × BeginAt content end place)
    → codes_by has_codes content end ≡ Ok tt
unfolding codes_by
ended_run true content end h = bind_ok (codes_read content end) (λ place. Ok tt) (h refl).0 (codes_run content end (h refl).0 (h refl).1)
ended_run false content end h = refl

-- ---- the fields

-- The fields are those of a tile.
record AreOfTile (rules : TileRules) (first : Bool) (fields : List ℕ) (tile : ℕ) : Type 0 where
  column : slice_index fields 0 < rules.limits.across
  row : slice_index fields 1 < rules.limits.down
  width : slice_index fields 2 ≡ 0
  height : slice_index fields 3 ≡ 0
  tables : All (λ table. table < rules.limits.sets) (table_indexes rules.has_alpha fields)
  of_tile : tile ≡ tile_of_fields rules fields
  first_tile : IsTrue first ↔ (tile ≡ 0)

judged_found : (rules : TileRules) (first : Bool) (fields : List ℕ) (tile : ℕ) → tile_judged rules first fields ≡ Ok tile → AreOfTile rules first fields tile
judged_found rules first fields tile h =
    let grid = if_ok (nat_lt (slice_index fields 0) rules.limits.across && nat_lt (slice_index fields 1) rules.limits.down) _ _ tile h in
    let spans = if_ok (slice_index fields 2 == 0 && slice_index fields 3 == 0) _ _ tile grid.1 in
    let tables = if_ok (list_all (λ table. nat_lt table rules.limits.sets) (table_indexes rules.has_alpha fields)) _ _ tile spans.1 in
    let place = if_ok (is_in_place first (tile_of_fields rules fields)) _ _ tile tables.1 in
    let in_grid = and_parts (nat_lt (slice_index fields 0) rules.limits.across) (nat_lt (slice_index fields 1) rules.limits.down) grid.0 in
    let one_tile = and_parts (slice_index fields 2 == 0) (slice_index fields 3 == 0) spans.0 in
    let same : tile ≡ tile_of_fields rules fields = sym (same_ok (tile_of_fields rules fields) tile place.1) in
    record {
      column = ltb-true (slice_index fields 0) rules.limits.across in_grid.0;
      row = ltb-true (slice_index fields 1) rules.limits.down in_grid.1;
      width = eqb-true (slice_index fields 2) 0 one_tile.0;
      height = eqb-true (slice_index fields 3) 0 one_tile.1;
      tables = all_below rules.limits.sets (table_indexes rules.has_alpha fields) tables.0;
      of_tile = same;
      first_tile = subst (λ z. IsTrue first ↔ (z ≡ 0)) (sym same) (in_place first (tile_of_fields rules fields) place.0);
    }

judged_run : (rules : TileRules) (first : Bool) (fields : List ℕ) (tile : ℕ) → AreOfTile rules first fields tile → tile_judged rules first fields ≡ Ok tile
judged_run rules first fields tile h =
    if_true (nat_lt (slice_index fields 0) rules.limits.across && nat_lt (slice_index fields 1) rules.limits.down) _ _
    (and_from (nat_lt (slice_index fields 0) rules.limits.across) (nat_lt (slice_index fields 1) rules.limits.down)
    (lt-ltb (slice_index fields 0) rules.limits.across h.column) (lt-ltb (slice_index fields 1) rules.limits.down h.row))
    ∙ if_true (slice_index fields 2 == 0 && slice_index fields 3 == 0) _ _
    (and_from (slice_index fields 2 == 0) (slice_index fields 3 == 0) (eq-eqb (slice_index fields 2) 0 h.width) (eq-eqb (slice_index fields 3) 0 h.height))
    ∙ if_true (list_all (λ table. nat_lt table rules.limits.sets) (table_indexes rules.has_alpha fields)) _ _
    (below_all rules.limits.sets (table_indexes rules.has_alpha fields) h.tables)
    ∙ if_true (is_in_place first (tile_of_fields rules fields)) _ _
    (placed first (tile_of_fields rules fields) (subst (λ z. IsTrue first ↔ (z ≡ 0)) h.of_tile h.first_tile))
    ∙ ap Ok (sym h.of_tile)

-- ---- the header

after_codes : TileRules → Bool → List ℕ → Unit {0} → Result ℕ HeadFault
after_codes rules first fields _ = tile_judged rules first fields

after_header : TileRules → List ℕ → Bool → HeaderRead → Result ℕ HeadFault
after_header rules content first read = tile_codes rules content read.end >>> after_codes rules first read.fields

header_of : TileRules → List ℕ → Bool → Result HeaderRead HeadFault
header_of rules content first =
    header_read (scope_by rules.is_profile) (tile_mode rules) (field_count rules.has_alpha) (tile_bytes rules content) first

-- with Golomb-Rice codes nothing follows the content
bytes_are : (rules : TileRules) (content : List ℕ) → rules.has_codes ≡ true → tile_bytes rules content ≡ content
bytes_are rules content h = ap (λ b. if b then content else content ++ 0 ∷ []) h

pub tile_found : (rules : TileRules) (content : List ℕ) (first : Bool) (tile : ℕ) → tile_read rules content first ≡ Ok tile
    → IsTileContent rules content first tile
unfolding after_codes after_header header_of codes_by
tile_found rules content first tile h =
    let read = bind_is_ok (header_of rules content first) (after_header rules content first) tile h in
    let codes = bind_is_ok (tile_codes rules content read.0.end) (after_codes rules first read.0.fields) tile read.2 in
    let found = header_found (scope_by rules.is_profile) (tile_mode rules) (field_count rules.has_alpha) (tile_bytes rules content) first read.0 read.1 in
    let judged = judged_found rules first read.0.fields tile codes.2 in
    record {
      key = read.0.key;
      fields = read.0.fields;
      end = read.0.end;
      header = found.0;
      has_key = found.1;
      takes_key = found.2;
      goes_on = ended_found rules.has_codes content read.0.end
          (λ e. subst (λ z. length read.0.end.rest + 2 ≤ length z) (bytes_are rules content e)
          (header_leaves (tile_mode rules) (field_count rules.has_alpha) (tile_bytes rules content) read.0.key read.0.fields read.0.end refl found.0))
          codes.1;
      column = judged.column;
      row = judged.row;
      width = judged.width;
      height = judged.height;
      tables = judged.tables;
      of_tile = judged.of_tile;
      first_tile = judged.first_tile;
    }

pub tile_run : (rules : TileRules) (content : List ℕ) (first : Bool) (tile : ℕ) → IsTileContent rules content first tile
    → tile_read rules content first ≡ Ok tile
unfolding after_codes after_header header_of codes_by
tile_run rules content first tile h =
    let read : HeaderRead = record { key = h.key; fields = h.fields; end = h.end } in
    ap (λ z. header_of rules content z >>> after_header rules content first) (sym h.has_key)
    ∙ bind_ok (header_of rules content (is_some h.key)) (after_header rules content first) read
    (header_run (scope_by rules.is_profile) (tile_mode rules) (field_count rules.has_alpha) (tile_bytes rules content) h.key h.fields h.end h.header h.takes_key)
    ∙ bind_ok (tile_codes rules content h.end) (after_codes rules first h.fields) tt (ended_run rules.has_codes content h.end h.goes_on)
    ∙ judged_run rules first h.fields tile
    (record {
      column = h.column;
      row = h.row;
      width = h.width;
      height = h.height;
      tables = h.tables;
      of_tile = h.of_tile;
      first_tile = h.first_tile;
    })

pub tile_is_found : (rules : TileRules) (content : List ℕ) (first : Bool) (r : Result ℕ HeadFault) → r ≡ tile_read rules content first
    → IfOk r (IsTileContent rules content first)
tile_is_found rules content first (Ok tile) h = tile_found rules content first tile (sym h)
tile_is_found rules content first (Err e) h = tt

-- what the contract says of a result that reading gives
pub given : (rules : TileRules) (content : List ℕ) (first : Bool) (result : Result ℕ HeadFault) → result ≡ tile_read rules content first
    → record {
      found : IfOk result (IsTileContent rules content first);
      only : (tile : ℕ) → IsTileContent rules content first tile → result ≡ Ok tile;
      fault : result ≡ tile_read rules content first;
    }
given rules content first result h =
    record { found = tile_is_found rules content first result h; only = λ tile is. h ∙ tile_run rules content first tile is; fault = h }

-- nothing, or one byte, follows the content
few_more : (has_codes : Bool) (content : List ℕ) → length (if has_codes then content else content ++ 0 ∷ []) ≤ length content + 1
few_more true content = omega arith
few_more false content = omega (arith, length-append content (0 ∷ []))

-- a content has a byte at least
pub tile_filled : (rules : TileRules) (content : List ℕ) (first : Bool) (tile : ℕ) → IsTileContent rules content first tile → 1 ≤ length content
tile_filled rules content first tile h =
    omega (
      arith,
      few_more rules.has_codes content,
      header_leaves (tile_mode rules) (field_count rules.has_alpha) (tile_bytes rules content) h.key h.fields h.end refl h.header,
    )
