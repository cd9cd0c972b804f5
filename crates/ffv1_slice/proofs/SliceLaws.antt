-- A slice is read where it is one, and nowhere else.
use Rattle.std.proofs.Common.{◌≡◌, ℕ, ◌-◌, ◌≤◌, Bool, true, false, List, Result, Ok, Err, refl, sym, ap, ◌∙◌, length}
use Rattle.std.specs.Prelude.{IfOk, nat_le, ◌==◌, ◌&&◌, if◌then◌else◌}
use Rattle.std.proofs.lemmas.Bool.{and_parts, and_from, leb-true, le-leb, eqb-true, eq-eqb}
use Rattle.ffv1_bits.specs.Bits.{bits_of}
use Rattle.ffv1_bits.specs.Parity.{remainder_of, PassesParity}
use Rattle.ffv1_range.specs.TileHeaders.{TileRules, tile_read}
use Rattle.ffv1_range.specs.declared.head.HeadFault.{HeadFault}
use Rattle.ffv1_range.proofs.TileHeaderFound.{tile_found, tile_run}
use Rattle.ffv1_slice.specs.Chain.{size_before, IsFramed}
use Rattle.ffv1_slice.specs.Slices.{IsSliceOf, content_of, link_tile, is_passing_slice, slice_read}
use Rattle.ffv1_slice.specs.declared.slice.LinkFault.{LinkFault}
use Rattle.ffv1_slice.specs.declared.slice.LinkFault.TheVariants.{Parity}

-- ---- framed, with a right parity

whole_parts : (slice : List ℕ) → is_passing_slice slice ≡ true → IsFramed slice × PassesParity slice
whole_parts slice h =
    let long = and_parts (nat_le 8 (length slice)) ((size_before slice (length slice) == length slice - 8) && (remainder_of (bits_of slice) == 0)) h in
    let sized = and_parts (size_before slice (length slice) == length slice - 8) (remainder_of (bits_of slice) == 0) long.1 in
    let room : 8 ≤ length slice = leb-true 8 (length slice) long.0 in (
      record { footer = room; size = eqb-true (size_before slice (length slice)) (length slice - 8) sized.0 },
      (room, eqb-true (remainder_of (bits_of slice)) 0 sized.1),
    )

whole_from : (slice : List ℕ) → IsFramed slice → PassesParity slice → is_passing_slice slice ≡ true
whole_from slice framed passes =
    and_from (nat_le 8 (length slice)) ((size_before slice (length slice) == length slice - 8) && (remainder_of (bits_of slice) == 0))
    (le-leb 8 (length slice) framed.footer)
    (and_from (size_before slice (length slice) == length slice - 8) (remainder_of (bits_of slice) == 0)
    (eq-eqb (size_before slice (length slice)) (length slice - 8) framed.size) (eq-eqb (remainder_of (bits_of slice)) 0 passes.1))

if_whole : (b : Bool) (r : Result ℕ LinkFault) (tile : ℕ) → (if b then r else Err Parity) ≡ Ok tile → (b ≡ true) × (r ≡ Ok tile)
if_whole true r tile h = (refl, h)
if_whole false r tile h = absurd cc

pub if_true : {A : Type 0} (b : Bool) (r s : A) → b ≡ true → (if b then r else s) ≡ r
if_true true r s h = refl
if_true false r s h = absurd cc

link_tile_is : (r : Result ℕ HeadFault) (tile : ℕ) → link_tile r ≡ Ok tile → r ≡ Ok tile
link_tile_is (Ok read) tile h = h'
  where
    h' : ◌≡◌ {A = Result ℕ HeadFault} (Ok read) (Ok tile)
    h' = ap Ok (let same : ◌≡◌ {A = Result ℕ LinkFault} (Ok read) (Ok tile) = h in cc)
link_tile_is (Err fault) tile h = absurd cc

-- ---- slices

pub slice_found : (rules : TileRules) (slice : List ℕ) (first : Bool) (tile : ℕ) → slice_read rules slice first ≡ Ok tile → IsSliceOf rules slice first tile
unfolding slice_read
slice_found rules slice first tile h =
    let whole = if_whole (is_passing_slice slice) (link_tile (tile_read rules (content_of slice) first)) tile h in
    let parts = whole_parts slice whole.0 in
    record {
      passes = parts.1;
      framed = parts.0;
      content = tile_found rules (content_of slice) first tile (link_tile_is (tile_read rules (content_of slice) first) tile whole.1);
    }

-- what is whole is read by its header
pub slice_read-whole : (rules : TileRules) (slice : List ℕ) (first : Bool) → IsFramed slice → PassesParity slice
    → slice_read rules slice first ≡ link_tile (tile_read rules (content_of slice) first)
unfolding slice_read
slice_read-whole rules slice first framed passes =
    if_true (is_passing_slice slice) (link_tile (tile_read rules (content_of slice) first)) (Err Parity) (whole_from slice framed passes)

-- what fails its parity is refused for that
pub slice_read-fails : (rules : TileRules) (slice : List ℕ) (first : Bool) → (PassesParity slice → ⊥) → slice_read rules slice first ≡ Err Parity
unfolding slice_read
slice_read-fails rules slice first fails =
    elim (is_passing_slice slice) as (λ b. is_passing_slice slice ≡ b → (if b then link_tile (tile_read rules (content_of slice) first) else Err Parity)
    ≡ Err Parity)
    [ true ↦ λ e. absurd (fails (whole_parts slice e).1) | false ↦ λ e. refl ] refl

pub slice_run : (rules : TileRules) (slice : List ℕ) (first : Bool) (tile : ℕ) → IsSliceOf rules slice first tile → slice_read rules slice first ≡ Ok tile
slice_run rules slice first tile h =
    slice_read-whole rules slice first h.framed h.passes
    ∙ ap link_tile (tile_run rules (content_of slice) first tile h.content)

pub slice_is_found : (rules : TileRules) (slice : List ℕ) (first : Bool) (r : Result ℕ LinkFault) → r ≡ slice_read rules slice first
    → IfOk r (IsSliceOf rules slice first)
slice_is_found rules slice first (Ok tile) h = slice_found rules slice first tile (sym h)
slice_is_found rules slice first (Err fault) h = tt

-- bytes are a slice of one tile
pub one_tile : (rules : TileRules) (slice : List ℕ) (first : Bool) (a b : ℕ) → IsSliceOf rules slice first a → IsSliceOf rules slice first b → a ≡ b
one_tile rules slice first a b h k = let both = sym (slice_run rules slice first a h) ∙ slice_run rules slice first b k in cc
