-- The links of a payload, named by what stands before them, are those of its chain; and what is found by a recording's rules is the same.
use Rattle.std.proofs.Common.{◌≡◌, ℕ, ◌+◌, ◌-◌, ◌*◌, ◌^◌, ◌≤◌, Bool, List, ◌++◌, length, take, drop, get_or, Result, Ok, Err, Some, Contains, sym, ap, ◌∙◌, subst, arith, append_assoc, take-append-drop, length-append, length-drop}
use Rattle.std.specs.Prelude.{◌==◌, slice_range}
use Rattle.std.proofs.Math.Seq.{take-append_seam}
use Rattle.std.proofs.lemmas.List.{take_all, length-take-le}
use Rattle.ffv1_bits.specs.Limits.{payload_limit}
use Rattle.ffv1_range.specs.TileHeaders.{TileRules, tile_read}
use Rattle.ffv1_range.specs.declared.head.HeadFault.{HeadFault}
use Rattle.ffv1_range.proofs.TileHeaderFound.{tile_found, tile_run}
use Rattle.ffv1_slice.specs.Chain.{size_before, footer_before, FooterGives, IsEnd, IsLinkOf}
use Rattle.ffv1_slice.specs.Chain as chain
use Rattle.ffv1_slice.specs.Chain.IsEnd.{last as all_of_it, before as before_link}
use Rattle.ffv1_slice.specs.Slices as slices_of
use Rattle.ffv1_slice.proofs.Places.{size_in, range_in, taken_on}
use Rattle.ffv1_slice.proofs.NearLaws.{length-range, size_of_range}
use Rattle.ffv1_slice.proofs.Links.{end_within}
use Rattle.ffv1_holding.specs.TileState.{status_of}
use Rattle.ffv1_holding.specs.Originals.{AreCopiesOfSlices}
use Rattle.ffv1_holding.specs.Small.{footer, slice_size, content, error_status, FitsFooter, IsLink, IsTileSlice, IsFound, IsOriginalPayload, AreCopies}
use Rattle.ffv1_holding.specs.Small.IsLink.{last, earlier}
use Rattle.ffv1_holding.specs.SmallNotions.{tile_or_none, tile_by, OriginalIsOfRules, CopiesAreOfRules}

-- ---- footers

footer_is : (slice : List ℕ) → 8 ≤ length slice → footer_before slice (length slice) ≡ footer slice
footer_is slice long =
    take_all (length slice - (length slice - 8)) (drop (length slice - 8) slice) (omega (arith, length-drop (length slice - 8) slice))

size_is : (slice : List ℕ) → 8 ≤ length slice → size_before slice (length slice) ≡ slice_size slice
size_is slice long =
    ap (λ (f : List ℕ). get_or f 0 0 * 256 ^ 2 + (get_or f 1 0 * 256 ^ 1 + (get_or f 2 0 * 256 ^ 0 + 0))) (footer_is slice long) ∙ omega arith

pub status_is : (slice : List ℕ) → 8 ≤ length slice → status_of slice ≡ error_status slice
status_is slice long = ap (λ f. get_or f 3 0) (footer_is slice long)

framed_from : (slice : List ℕ) → FitsFooter slice → chain.IsFramed slice
framed_from slice framed = record { footer = framed.footed; size = size_is slice framed.footed ∙ framed.size }

framed_to : (slice : List ℕ) → chain.IsFramed slice → FitsFooter slice
framed_to slice framed = record { footed = framed.footer; size = sym (size_is slice framed.footer) ∙ framed.size }

-- ---- links

module _ (whole before slice : List ℕ) (end : ℕ) (within : end ≤ length whole) (framed : FitsFooter slice)
    (cut : before ++ slice ≡ take end whole) where
  ends_at : length before + length slice ≡ end
  ends_at = sym (length-append before slice) ∙ ap length cut ∙ length-take-le end whole within

  laid : before ++ (slice ++ drop end whole) ≡ whole
  laid = sym (append_assoc before slice (drop end whole)) ∙ ap (λ z. z ++ drop end whole) cut ∙ take-append-drop end whole

  cut_there : FooterGives whole (length before) end
  cut_there =
      let own = framed_from slice framed in
      let size : size_before whole end ≡ length slice - 8 =
      ap (size_before whole) (sym ends_at) ∙ ap (λ z. size_before z (length before + length slice)) (sym laid)
      ∙ size_in before slice (drop end whole) own.footer ∙ own.size in
      let at = ends_at in
      let long : 8 ≤ length slice = own.footer in
      omega arith

  bytes_there : slice ≡ slice_range whole (length before) end
  bytes_there =
      sym (ap (slice_range whole (length before)) (sym ends_at) ∙ ap (λ z. slice_range z (length before) (length before + length slice)) (sym laid)
      ∙ range_in before slice (drop end whole))

  before_there : before ≡ take (length before) whole
  before_there = sym (ap (take (length before)) (sym laid) ∙ take-append_seam before (slice ++ drop end whole))

-- a link of what stands before an end is one of the payload
link_from : (whole before slice payload : List ℕ) → IsLink before slice payload → (place : ℕ) → IsEnd whole place → place ≤ length whole
    → payload ≡ take place whole → (end : ℕ) × IsLinkOf whole (length before) end × (slice ≡ slice_range whole (length before) end)
link_from whole before slice payload (last framed) place is_end within cut = (
  place,
  record { is_end = is_end; cut = cut_there whole before slice place within framed cut },
  bytes_there whole before slice place within framed cut,
)
link_from whole before slice payload (earlier {rest = rest} {other = other} link framed) place is_end within cut =
    let at = ends_at whole rest other place within framed cut in
    link_from whole before slice rest link (length rest) (before_link is_end (cut_there whole rest other place within framed cut)) (omega arith)
    (before_there whole rest other place within framed cut)

-- what a footer of the payload frames
framed_there : (whole : List ℕ) (from to : ℕ) → to ≤ length whole → FooterGives whole from to → FitsFooter (slice_range whole from to)
framed_there whole from to within cut =
    let long : length (slice_range whole from to) ≡ to - from = length-range whole from to (omega arith) within in
    let size = size_of_range whole from to (omega arith) within in
    framed_to (slice_range whole from to) (record { footer = omega arith; size = sym size ∙ omega arith })

up_to : (whole before slice : List ℕ) (place : ℕ) → IsEnd whole place → IsLink before slice (take place whole) → IsLink before slice whole
up_to whole before slice place all_of_it link = subst (IsLink before slice) (take_all (length whole) whole (omega arith)) link
up_to whole before slice place (before_link {q = next} is_end cut) link =
    let within = end_within whole next is_end in
    up_to whole before slice next is_end (subst (IsLink before slice) (taken_on whole place next (omega arith))
    (earlier link (framed_there whole place next within cut)))

link_to : (whole : List ℕ) (start end : ℕ) → IsLinkOf whole start end → IsLink (take start whole) (slice_range whole start end) whole
link_to whole start end is =
    let within = end_within whole end is.is_end in
    let cut = is.cut in
    up_to whole (take start whole) (slice_range whole start end) end is.is_end
    (subst (IsLink (take start whole) (slice_range whole start end)) (taken_on whole start end (omega arith))
    (last (framed_there whole start end within cut)))

-- ---- slices of a tile

tile_is : (r : Result ℕ HeadFault) (tile : ℕ) → tile_or_none r ≡ Some tile → r ≡ Ok tile
tile_is (Ok read) tile h = ap Ok (let same : ◌≡◌ {A = _} (Some read) (Some tile) = h in cc)
tile_is (Err fault) tile h = absurd cc

slice_from : (rules : TileRules) (slice : List ℕ) (first : Bool) (tile : ℕ) → IsTileSlice (tile_by rules) slice first tile
    → slices_of.IsSliceOf rules slice first tile
unfolding tile_by
slice_from rules slice first tile is = record {
  passes = is.passes;
  framed = framed_from slice is.framed;
  content = tile_found rules (content slice) first tile (tile_is (tile_read rules (content slice) first) tile is.of_tile);
}

slice_to : (rules : TileRules) (slice : List ℕ) (first : Bool) (tile : ℕ) → slices_of.IsSliceOf rules slice first tile
    → IsTileSlice (tile_by rules) slice first tile
unfolding tile_by
slice_to rules slice first tile is = record {
  passes = is.passes;
  framed = framed_to slice is.framed;
  of_tile = ap tile_or_none (tile_run rules (content slice) first tile is.content);
}

-- ---- what is found

pub found_from : (rules : TileRules) (copies : List (List ℕ)) (tile : ℕ) (slice : List ℕ) → IsFound (tile_by rules) copies tile slice
    → (copy : List ℕ) × Contains copies copy × slices_of.IsFoundIn rules copy tile slice
found_from rules copies tile slice found =
    let at = link_from found.copy found.before slice found.copy found.link (length found.copy) all_of_it (omega arith)
    (sym (take_all (length found.copy) found.copy (omega arith))) in (
      found.copy,
      found.among,
      record {
        start = length found.before;
        end = at.0;
        link = at.1;
        bytes = at.2;
        is_slice = slice_from rules slice (length found.before == 0) tile found.is_slice;
      },
    )

pub found_to : (rules : TileRules) (copies : List (List ℕ)) (tile : ℕ) (slice copy : List ℕ) → Contains copies copy
    → slices_of.IsFoundIn rules copy tile slice
    → IsFound (tile_by rules) copies tile slice
found_to rules copies tile slice copy among found =
    let within = end_within copy found.end found.link.is_end in
    let cut : FooterGives copy found.start found.end = found.link.cut in
    let start : length (take found.start copy) ≡ found.start = length-take-le found.start copy (omega arith) in
    record {
      copy = copy;
      among = among;
      before = take found.start copy;
      link = subst (λ z. IsLink (take found.start copy) z copy) (sym found.bytes) (link_to copy found.start found.end found.link);
      is_slice = subst (λ n. IsTileSlice (tile_by rules) slice (n == 0) tile) (sym start)
          (slice_to rules slice (found.start == 0) tile found.is_slice);
    }

-- ---- originals and their copies

original_from : (rules : TileRules) (payload : List ℕ) (slices : List (List ℕ)) → slices_of.IsOriginal rules payload slices
    → IsOriginalPayload (tile_by rules) (rules.limits.across * rules.limits.down) payload slices × (length payload ≤ payload_limit)
original_from rules payload slices is = (
  record {
    count = is.count;
    joined = is.joined;
    each = λ tile d lt. slice_to rules (get_or slices tile d) (tile == 0) tile (is.each tile d (omega (arith, is.count)));
  },
  is.short,
)

original_to : (rules : TileRules) (payload : List ℕ) (slices : List (List ℕ))
    → IsOriginalPayload (tile_by rules) (rules.limits.across * rules.limits.down) payload slices
    → length payload ≤ payload_limit → slices_of.IsOriginal rules payload slices
original_to rules payload slices is short = record {
  count = is.count;
  joined = is.joined;
  short = short;
  each = λ tile d lt. slice_from rules (get_or slices tile d) (tile == 0) tile (is.each tile d (omega (arith, is.count)));
}

pub original_of_rules : OriginalIsOfRules
original_of_rules rules payload slices = (original_from rules payload slices, λ both. original_to rules payload slices both.0 both.1)

copies_from : (rules : TileRules) (slices copies : List (List ℕ)) → AreCopiesOfSlices rules slices copies → AreCopies (tile_by rules) slices copies
copies_from rules slices copies are = record {
  only = λ tile slice found. let at = found_from rules copies tile slice found in are.only at.0 tile slice at.1 at.2;
  all = λ tile d lt. let at = are.all tile d lt in found_to rules copies tile (get_or slices tile d) at.0 at.1 at.2;
}

copies_to : (rules : TileRules) (slices copies : List (List ℕ)) → AreCopies (tile_by rules) slices copies → AreCopiesOfSlices rules slices copies
copies_to rules slices copies are = record {
  only = λ copy tile slice among found. are.only tile slice (found_to rules copies tile slice copy among found);
  all = λ tile d lt. found_from rules copies tile (get_or slices tile d) (are.all tile d lt);
}

pub copies_of_rules : CopiesAreOfRules
copies_of_rules rules slices copies = (copies_from rules slices copies, copies_to rules slices copies)
