use Rattle.std.proofs.Common.{◌≡◌, ◌<◌, ◌≤◌, ◌+◌, ◌-◌, ◌*◌, [], length, map, take, get_or, sym, ap, subst, ◌∙◌, arith, below_more}
use Rattle.std.proofs.lemmas.List.{length-map}
use Rattle.ffv1_vectors.proofs.FrameSteps.{plane_is}
use Rattle.ffv1_range.specs.Tables.{IsTable, half_of, halves_of, scale_after_all}
use Rattle.ffv1_makings.specs.Inner.ReadBack.{ShowsHalf}
use Rattle.ffv1_makings.proofs.TableSets.{All-more, scale_more, scales_more, half_at}
use Rattle.ffv1_makings.proofs.sets.has_tables.Goals as goal

pub loop-table-preserved : goal.loop-table-preserved
loop-table-preserved c =
    let table = c.loop-table.table in
    let asked = map (λ runs. runs.items) c.args.tables.now in
    let before = scale_after_all 1 (take table asked) in
    let below : table < length c.args.tables.now = omega arith in
    let inside : table < length asked = omega (arith, length-map c.args.tables.now (λ runs. runs.items)) in
    let is : get_or asked table [] ≡ c.index-tables-table.result.items =
    plane_is c.args.tables.now table c.index-tables-table.result below c.index-tables-table.is in
    let is_table = subst IsTable (c.deref.ensures.value ∙ sym is) (c.is_table.ensures.table c.if-not-is_table.false) in
    let scale : c.loop-table.scale * (2 * c.len.result - 1) ≡ scale_after_all 1 (take (table + 1) asked) =
    ap (λ s. s * (2 * c.len.result - 1)) c.loop-table.invariant.scale
    ∙ ap (λ n. before * (2 * n - 1)) (c.len.ensures ∙ sym c.deref.ensures.len ∙ ap length (c.deref.ensures.value ∙ sym is)) ∙ sym (scale_more asked table inside) in
    let small : c.loop-table.scale * (2 * c.len.result - 1) ≤ 65535 = c.if-next-gt-MOST_SIGNED_CONTEXTS.false in
    let half : half_of c.loop-table.scale c.deref-else-not-is_table.result.now ≡ get_or (halves_of 1 asked) table [] =
    ap (λ s. half_of s c.deref-else-not-is_table.result.now) c.loop-table.invariant.scale
    ∙ ap (half_of before) (c.deref-else-not-is_table.ensures.value ∙ sym is) ∙ sym (half_at 1 asked table inside) in
    record {
      scale = scale;
      small = small;
      tables = All-more IsTable asked table [] inside c.loop-table.invariant.tables is_table;
      scales = scales_more asked table inside c.loop-table.invariant.scales (subst (λ n. n ≤ 65535) scale small);
      halves =
          below_more _ _ c.loop-table.invariant.halves
          (subst (ShowsHalf c.args.recording.now c.args.set table) half (c.has_half.ensures c.if-not-has_half.false));
    }
