-- A content of the profile is of the tile that its header names.
use Rattle.std.proofs.Common.{◌≡◌, ℕ, ◌+◌, ◌*◌, Bool, true, false, List, Result, Ok, Err, refl, ap, ◌∙◌}
use Rattle.std.specs.Prelude.{nat_lt, ◌==◌, ◌&&◌, slice_index, if◌then◌else◌}
use Rattle.ffv1_range.specs.Results.{◌>>>◌}
use Rattle.ffv1_range.specs.Coding.{header_mode}
use Rattle.ffv1_range.specs.HeaderForms.{HeaderRead}
use Rattle.ffv1_range.specs.Setup.{SetupValue}
use Rattle.ffv1_range.specs.Header.{HeadLimits, header_limits, header_read, codes_read, is_in_place, head_judged, head_with}
use Rattle.ffv1_range.specs.TileHeaders.{profile_rules, tile_of_fields, tile_judged, tile_codes, HeadsTile}
use Rattle.ffv1_range.specs.declared.scope.Scope.TheVariants.{Profile}
use Rattle.ffv1_range.specs.declared.head.SliceHead.{SliceHead}
use Rattle.ffv1_range.specs.declared.head.HeadFault.{HeadFault}
use Rattle.ffv1_range.specs.declared.head.HeadFault.TheVariants.{OutsideGrid, Spans, TableIndex, FirstElsewhere}

abbrev ended : ℕ → Result (Unit {0}) HeadFault
ended place = Ok tt

abbrev tile_of : SliceHead × ℕ → Result ℕ HeadFault
tile_of head = Ok head.0.tile

and_true : (a b : Bool) → (a && (b && true)) ≡ (a && b)
and_true true true = refl
and_true true false = refl
and_true false b = refl

-- the tests one after the other
tested : {A : Type 0} → (grid alone tables place : Bool) → A → Result A HeadFault
tested grid alone tables place x =
    if grid then (if alone then (if tables then (if place then Ok x else Err FirstElsewhere) else Err TableIndex) else Err Spans) else Err OutsideGrid

tested-tile : (grid alone tables place : Bool) (head : SliceHead) (codes : ℕ)
    → tested grid alone tables place head.tile ≡ ((tested grid alone tables place head >>> λ head. Ok (head, codes)) >>> tile_of)
unfolding tested
tested-tile true true true true head codes = refl
tested-tile true true true false head codes = refl
tested-tile true true false place head codes = refl
tested-tile true false tables place head codes = refl
tested-tile false alone tables place head codes = refl

judged_alike : (setup : SetupValue) (first : Bool) (fields : List ℕ) (codes : ℕ)
    → tile_judged (profile_rules setup) first fields ≡ ((head_judged (header_limits setup) first fields >>> λ head. Ok (head, codes)) >>> tile_of)
unfolding tested
judged_alike setup first fields codes =
    let limits : HeadLimits = header_limits setup in
    let grid = nat_lt (slice_index fields 0) limits.across && nat_lt (slice_index fields 1) limits.down in
    let alone = (slice_index fields 2 == 0) && (slice_index fields 3 == 0) in
    let place = is_in_place first (slice_index fields 1 * limits.across + slice_index fields 0) in
    ap (λ tables. tested grid alone tables place (tile_of_fields (profile_rules setup) fields))
    (and_true (nat_lt (slice_index fields 4) limits.sets) (nat_lt (slice_index fields 5) limits.sets))
    ∙ tested-tile grid alone (nat_lt (slice_index fields 4) limits.sets && nat_lt (slice_index fields 5) limits.sets) place (head_with limits fields) codes

after_codes : (setup : SetupValue) (first : Bool) (fields : List ℕ) (codes : Result ℕ HeadFault)
    → ((codes >>> ended) >>> λ _. tile_judged (profile_rules setup) first fields)
    ≡ ((codes >>> λ place. (head_judged (header_limits setup) first fields >>> λ head. Ok (head, place))) >>> tile_of)
after_codes setup first fields (Ok place) = judged_alike setup first fields place
after_codes setup first fields (Err e) = refl

after_header : (setup : SetupValue) (content : List ℕ) (first : Bool) (read : Result HeaderRead HeadFault)
    → (read >>> λ read. (tile_codes (profile_rules setup) content read.end >>> λ _. tile_judged (profile_rules setup) first read.fields))
    ≡ ((read >>> λ read. (codes_read content read.end >>> λ place. (head_judged (header_limits setup) first read.fields >>> λ head. Ok (head, place)))) >>> tile_of)
after_header setup content first (Ok read) = after_codes setup first read.fields (codes_read content read.end)
after_header setup content first (Err e) = refl

pub heads_tile : HeadsTile
heads_tile setup content first = after_header setup content first (header_read Profile header_mode 9 content first)
