use Rattle.std.proofs.Common.{◌≡◌, ◌<◌, true, rules, sym, ◌∙◌, take, length}
use Rattle.std.specs.Prelude.{◌==◌, ◌&&◌, slice_index, nat_lt}
use Rattle.std.specs.List.{list_all}
use Rattle.std.proofs.lemmas.Bool.{and_from, lt-ltb, eq-eqb}
use Rattle.ffv1_range.specs.Header.{is_in_place}
use Rattle.ffv1_range.specs.TileHeaders.{rules_of, tile_of_fields}
use Rattle.ffv1_range.specs.SliceHeader.{field_count, table_indexes}
use Rattle.ffv1_range.proofs.HeaderFound.{if_true}
use Rattle.ffv1_range.proofs.head.judged_tile.Goals as goal

pub returns : goal.returns
returns c =
    let recording = c.args.recording.now in
    let fields = take (field_count recording.has_alpha) c.args.fields.now in
    let column : slice_index fields 0 < recording.setup.across = search rules in
    let row : slice_index fields 1 < recording.setup.down = search rules in
    let width : slice_index fields 2 ≡ 0 = search rules in
    let height : slice_index fields 3 ≡ 0 = search rules in
    let tables : list_all (λ table. nat_lt table (length recording.setup.sets)) (table_indexes recording.has_alpha fields) ≡ true = search rules in
    let place : is_in_place c.args.first (tile_of_fields (rules_of recording) fields) ≡ true = search rules in
    sym (if_true (nat_lt (slice_index fields 0) recording.setup.across && nat_lt (slice_index fields 1) recording.setup.down) _ _
    (and_from (nat_lt (slice_index fields 0) recording.setup.across) (nat_lt (slice_index fields 1) recording.setup.down)
    (lt-ltb (slice_index fields 0) recording.setup.across column) (lt-ltb (slice_index fields 1) recording.setup.down row))
    ∙ if_true (slice_index fields 2 == 0 && slice_index fields 3 == 0) _ _
    (and_from (slice_index fields 2 == 0) (slice_index fields 3 == 0) (eq-eqb (slice_index fields 2) 0 width) (eq-eqb (slice_index fields 3) 0 height))
    ∙ if_true (list_all (λ table. nat_lt table (length recording.setup.sets)) (table_indexes recording.has_alpha fields)) _ _ tables
    ∙ if_true (is_in_place c.args.first (tile_of_fields (rules_of recording) fields)) _ _ place
    ∙ search rules)
