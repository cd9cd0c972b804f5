-- One link more is looked at.
use Rattle.std.proofs.Common.{◌≡◌, ℕ, ◌+◌, ◌*◌, ◌<◌, ◌≤◌, ◌==◌, List, [], ◌∷◌, ◌++◌, length, Fits, w64, sym, ap, ◌∙◌, subst, arith, append_assoc, length-append}
use Rattle.std.specs.List.{filter_map, cons_option}
use Rattle.std.proofs.lemmas.List.Elements.{filter_map-append}
use Rattle.std.proofs.lemmas.List.{append-nil}
use Rattle.ffv1_bits.specs.Limits.{payload_limit, slice_limit}
use Rattle.ffv1_range.specs.TileHeaders.{TileRules}
use Rattle.ffv1_slice.specs.Chain.{LinkValue}
use Rattle.ffv1_slice.specs.Slices.{IsSliceOf}
use Rattle.ffv1_slice.specs.Slices.{slice_at}
use Rattle.ffv1_slice.proofs.SliceFacts.{slice_at-found, slice_at-none, slice_first}
use Rattle.ffv1_holding.specs.Contents.{IsEntryOf}

module _ (rules : TileRules) (passed : List LinkValue) (link : LinkValue) (rest all : List LinkValue) (whole : passed ++ link ∷ rest ≡ all) where
  -- it is passed
  pub passed_more : (passed ++ link ∷ []) ++ rest ≡ all
  passed_more = append_assoc passed (link ∷ []) rest ∙ whole

  -- and was not counted before
  pub few_passed : length passed < length all
  few_passed = omega (arith, ap length whole, length-append passed (link ∷ rest))

module _ (rules : TileRules) (passed : List LinkValue) (link : LinkValue) where
  one_more : filter_map (slice_at rules) (passed ++ link ∷ []) ≡ filter_map (slice_at rules) passed ++ cons_option (slice_at rules link) []
  one_more = filter_map-append (slice_at rules) passed (link ∷ [])

  -- it is a slice
  pub found_more : (tile : ℕ) → IsSliceOf rules link.bytes (link.start == 0) tile
      → filter_map (slice_at rules) (passed ++ link ∷ []) ≡ filter_map (slice_at rules) passed ++ (tile, link.bytes) ∷ []
  found_more tile is = one_more ∙ ap (λ o. filter_map (slice_at rules) passed ++ cons_option o []) (slice_at-found rules link tile is)

  -- or it is none
  pub none_more : ((tile : ℕ) → IsSliceOf rules link.bytes (link.start == 0) tile → ⊥)
      → filter_map (slice_at rules) (passed ++ link ∷ []) ≡ filter_map (slice_at rules) passed
  none_more none = one_more ∙ ap (λ o. filter_map (slice_at rules) passed ++ cons_option o []) (slice_at-none rules link none) ∙ append-nil _

-- a link that is a slice is one of its tile
pub entry_of_link : (rules : TileRules) (link : LinkValue) (tile : ℕ) → IsSliceOf rules link.bytes (link.start == 0) tile → length link.bytes ≤ slice_limit
    → IsEntryOf rules (tile, link.bytes)
entry_of_link rules link tile is short = record {
  slice = subst (λ first. IsSliceOf rules link.bytes first tile) (slice_first rules link.bytes (link.start == 0) tile is) is;
  fits = short;
}

-- counts of links fit in a `usize`, since a payload's length does
module _ (rules : TileRules) (passed : List LinkValue) (link : LinkValue) (rest all : List LinkValue) (payload : List ℕ) (count : ℕ)
    (whole : passed ++ link ∷ rest ≡ all) (few : 8 * length all ≤ length payload) (short : length payload ≤ payload_limit) where
  pub links_fit : count ≡ length passed → Fits w64 (count + 1)
  links_fit is = omega (arith, few_passed rules passed link rest all whole)

pub length-more : {X : Type 0} (n : ℕ) (xs more : List X) (x : X) → n ≡ length xs → more ≡ xs ++ x ∷ [] → n + 1 ≡ length more
length-more n xs more x is longer = omega (arith, ap length longer, length-append xs (x ∷ []))

-- in the end each link was passed
pub all_passed : (yielded left all : List LinkValue) → left ≡ [] → yielded ++ left ≡ all → yielded ≡ all
all_passed yielded left all none whole = sym (append-nil yielded) ∙ ap (λ xs. yielded ++ xs) (sym none) ∙ whole
