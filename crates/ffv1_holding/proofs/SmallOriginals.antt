-- In an original just its own slices are found, whatever function gives a content its tile: its links are its slices.
use Rattle.std.proofs.Common.{◌≡◌, ℕ, zero, suc, ◌+◌, ◌-◌, ◌*◌, ◌<◌, ◌≤◌, ◌==◌, Bool, List, [], ◌∷◌, ◌++◌, length, take, drop, get_or, Some, Contains, refl, sym, ap, ◌∙◌, subst, arith, length-append}
use Rattle.std.specs.List.{flat_map}
use Rattle.std.proofs.Math.Seq.{drop-append-add, drop-append_seam, take-append_seam}
use Rattle.std.proofs.lemmas.Bool.{ne_eqb}
use Rattle.std.proofs.lemmas.Grind.{flat_map-append}
use Rattle.std.proofs.lemmas.List.{append-nil, take_all, take_more, get_or_default}
use Rattle.ffv1_slice.proofs.Links.{Contains-head}
use Rattle.ffv1_holding.specs.Small.{TileOf, footer, slice_size, content, FitsFooter, IsLink, IsTileSlice, IsFound, IsOriginalPayload, AreCopies, OriginalIsACopy}
use Rattle.ffv1_holding.specs.Small.IsLink.{last, earlier}

-- the first slices, joined
abbrev pub joined_to : List (List ℕ) → ℕ → List ℕ
joined_to slices n = flat_map (λ slice. slice) (take n slices)

joined_next : (slices : List (List ℕ)) (n : ℕ) (d : List ℕ) → n < length slices → joined_to slices (n + 1) ≡ joined_to slices n ++ get_or slices n d
joined_next slices n d lt =
    ap (flat_map (λ (slice : List ℕ). slice)) (take_more slices n d lt)
    ∙ flat_map-append (λ (slice : List ℕ). slice) (take n slices) (get_or slices n d ∷ [])
    ∙ ap (λ z. joined_to slices n ++ z) (append-nil (get_or slices n d))

-- ---- one footer, one cut

footer_after : (before slice : List ℕ) → 8 ≤ length slice → footer (before ++ slice) ≡ footer slice
footer_after before slice long =
    let at : length (before ++ slice) - 8 ≡ length before + (length slice - 8) = omega (arith, length-append before slice) in
    ap (λ n. drop n (before ++ slice)) at ∙ drop-append-add before slice (length slice - 8)

one_cut : (a s b t : List ℕ) → FitsFooter s → FitsFooter t → a ++ s ≡ b ++ t → (a ≡ b) × (s ≡ t)
one_cut a s b t s_framed t_framed same =
    let footers : footer s ≡ footer t =
    sym (footer_after a s s_framed.footed) ∙ ap footer same ∙ footer_after b t t_framed.footed in
    let sizes : slice_size s ≡ slice_size t =
    ap (λ (f : List ℕ). get_or f 0 0 * 65536 + get_or f 1 0 * 256 + get_or f 2 0) footers in
    let fronts : length a ≡ length b = omega (
      arith,
      s_framed.footed,
      s_framed.size,
      t_framed.footed,
      t_framed.size,
      ap length same,
      length-append a s,
      length-append b t,
    ) in (
      sym (take-append_seam a s) ∙ ap (take (length a)) same ∙ ap (λ n. take n (b ++ t)) fronts ∙ take-append_seam b t,
      sym (drop-append_seam a s) ∙ ap (drop (length a)) same ∙ ap (λ n. drop n (b ++ t)) fronts ∙ drop-append_seam b t,
    )

-- ---- the links of slices that are joined

module _ (slices : List (List ℕ)) (framed : (k : ℕ) (d : List ℕ) → k < length slices → FitsFooter (get_or slices k d)) where
  cut_at : (m : ℕ) (a s : List ℕ) → suc m ≤ length slices → FitsFooter s → a ++ s ≡ joined_to slices (suc m)
      → (a ≡ joined_to slices m) × (s ≡ get_or slices m [])
  cut_at m a s few is_framed same =
      let next : suc m ≡ m + 1 = omega arith in
      one_cut a s (joined_to slices m) (get_or slices m []) is_framed (framed m [] (omega arith))
      (same ∙ ap (joined_to slices) next ∙ joined_next slices m [] (omega arith))

  pub link_among : (before slice payload : List ℕ) → IsLink before slice payload → (n : ℕ) → n ≤ length slices → payload ≡ joined_to slices n
      → (k : ℕ) × (k < length slices) × (before ≡ joined_to slices k) × (slice ≡ get_or slices k [])
  link_among before slice payload (last is_framed) zero few same =
      absurd (omega (arith, is_framed.footed, length-append before slice, ap length same))
  link_among before slice payload (last is_framed) (suc m) few same =
      let cut = cut_at m before slice few is_framed same in (m, omega arith, cut.0, cut.1)
  link_among before slice payload (earlier {rest = rest} {other = other} link is_framed) zero few same =
      absurd (omega (arith, is_framed.footed, length-append rest other, ap length same))
  link_among before slice payload (earlier {rest = rest} {other = other} link is_framed) (suc m) few same =
      let cut = cut_at m rest other few is_framed same in link_among before slice rest link m (omega arith) cut.0

  link_there : (k : ℕ) (d : List ℕ) → k < length slices → (more : ℕ) → k + 1 + more ≤ length slices
      → IsLink (joined_to slices k) (get_or slices k d) (joined_to slices (k + 1 + more))
  link_there k d lt zero few =
      let at : k + 1 ≡ k + 1 + 0 = omega arith in
      subst (IsLink (joined_to slices k) (get_or slices k d)) (sym (joined_next slices k d lt) ∙ ap (joined_to slices) at) (last (framed k d lt))
  link_there k d lt (suc more) few =
      let at : k + 1 + more + 1 ≡ k + 1 + suc more = omega arith in
      subst (IsLink (joined_to slices k) (get_or slices k d)) (sym (joined_next slices (k + 1 + more) [] (omega arith)) ∙ ap (joined_to slices) at)
      (earlier (link_there k d lt more (omega arith)) (framed (k + 1 + more) [] (omega arith)))

  -- only the first begins at the start
  begins : (k : ℕ) → k < length slices → (length (joined_to slices k) == 0) ≡ (k == 0)
  begins zero lt = refl
  begins (suc m) lt =
      let next : suc m ≡ m + 1 = omega arith in
      let long : 8 ≤ length (get_or slices m []) = (framed m [] (omega arith)).footed in
      ne_eqb (length (joined_to slices (suc m))) 0 (λ none. omega (
        arith,
        ap length (ap (joined_to slices) next ∙ joined_next slices m [] (omega arith)),
        length-append (joined_to slices m) (get_or slices m []),
      ))
      ∙ sym (ne_eqb (suc m) 0 (λ none. omega arith))

module _ (tile_of : TileOf) (tiles : ℕ) (original : List ℕ) (slices : List (List ℕ)) (is : IsOriginalPayload tile_of tiles original slices) where
  each_framed : (k : ℕ) (d : List ℕ) → k < length slices → FitsFooter (get_or slices k d)
  each_framed k d lt = (is.each k d (omega (arith, is.count))).framed

  whole : original ≡ joined_to slices (length slices)
  whole = is.joined ∙ ap (flat_map (λ (slice : List ℕ). slice)) (sym (take_all (length slices) slices (omega arith)))

  the_copy : (copy : List ℕ) → Contains (original ∷ []) copy → copy ≡ original
  the_copy copy (zero, lt, same) = sym same
  the_copy copy (suc k, lt, same) = absurd (omega arith)

  only_own : (tile : ℕ) (slice : List ℕ) → IsFound tile_of (original ∷ []) tile slice → (tile < length slices) × (slice ≡ get_or slices tile slice)
  only_own tile slice found =
      let at = link_among slices each_framed found.before slice found.copy found.link (length slices) (omega arith)
      (the_copy found.copy found.among ∙ whole) in
      let own = is.each at.0 [] (omega (arith, at.1, is.count)) in
      let first : (length found.before == 0) ≡ (at.0 == 0) = ap (λ (b : List ℕ). length b == 0) at.2 ∙ begins slices each_framed at.0 at.1 in
      let both : Some tile ≡ Some at.0 =
      sym found.is_slice.of_tile ∙ ap (λ (s : List ℕ). tile_of (content s) (length found.before == 0)) at.3
      ∙ ap (tile_of (content (get_or slices at.0 []))) first ∙ own.of_tile in
      let tiles_are : tile ≡ at.0 = cc in (
        subst (λ t. t < length slices) (sym tiles_are) at.1,
        at.3 ∙ get_or_default slices at.0 [] slice at.1 ∙ ap (λ t. get_or slices t slice) (sym tiles_are),
      )

  all_own : (tile : ℕ) (d : List ℕ) → tile < length slices → IsFound tile_of (original ∷ []) tile (get_or slices tile d)
  all_own tile d lt =
      let rest : tile + 1 + (length slices - (tile + 1)) ≡ length slices = omega arith in
      record {
        copy = original;
        among = Contains-head original [];
        before = joined_to slices tile;
        link = subst (IsLink (joined_to slices tile) (get_or slices tile d)) (ap (joined_to slices) rest ∙ sym whole)
            (link_there slices each_framed tile d lt (length slices - (tile + 1)) (omega arith));
        is_slice = subst (λ (first : Bool). IsTileSlice tile_of (get_or slices tile d) first tile) (sym (begins slices each_framed tile lt))
            (is.each tile d (omega (arith, is.count)));
      }

  own_copy : AreCopies tile_of slices (original ∷ [])
  own_copy = record { only = only_own; all = all_own }

pub original_is_a_copy : OriginalIsACopy
original_is_a_copy tile_of tiles original slices is = own_copy tile_of tiles original slices is
