-- How a payload of any recording is cut into slices (RFC 9043, section 4.9): each ends with its footer, which gives the number of bytes
-- before it.
use Rattle.std.specs.Prelude.{◌≡◌, ℕ, ◌-◌, ◌≤◌, ◌==◌, List, [], ◌∷◌, ◌++◌, length, take, slice_range, slice_index_or, if◌then◌else◌, Option, Some, None}
use Rattle.ffv1_bits.specs.Limits.{slice_limit}
use Rattle.ffv1_range.specs.Setup.{RecordingValue}
use Rattle.ffv1_range.specs.Tiles.{grid_of, tile_count}
use Rattle.ffv1_slice.specs.Chain.{FooterLeads, status_before}

-- the bytes of a footer: 3 of size, and with ec 1 one of error status and 4 of parity (sections 4.9.1 to 4.9.3)
abbrev pub footer_length : ℕ → ℕ
footer_length ec = if ec == 0 then 3 else 8

-- The first q bytes of a payload are these slices, from its front.
pub data AreCutAt (footer : ℕ) (payload : List ℕ) : ℕ → List (List ℕ) → Type 0 where
  -- none
  no_slice : {q : ℕ} {slices : List (List ℕ)} → q ≡ 0 → slices ≡ [] → AreCutAt footer payload q slices
  -- one after the others
  one_slice : {q : ℕ} {slices : List (List ℕ)} (p : ℕ) (others : List (List ℕ)) → FooterLeads footer payload p q
      → slices ≡ others ++ slice_range payload p q ∷ [] → AreCutAt footer payload p others → AreCutAt footer payload q slices

-- A payload is these slices: one at least, and no more than the frame has tiles.
pub record AreSlicesOf (r : RecordingValue) (payload : List ℕ) (slices : List (List ℕ)) : Type 0 where
  pub cut : AreCutAt (footer_length r.setup.ec) payload (length payload) slices
  pub some : 1 ≤ length slices
  pub few : length slices ≤ tile_count (grid_of r.setup)

-- what of a slice stands before its footer
abbrev pub slice_content : RecordingValue → List ℕ → List ℕ
slice_content r slice = take (length slice - footer_length r.setup.ec) slice

-- the error status in a slice's footer, which with ec 0 has none (section 4.9.2)
abbrev pub slice_status : RecordingValue → List ℕ → Option ℕ
slice_status r slice = if r.setup.ec == 0 then None else Some (status_before slice (length slice))

-- each slice is as long as a footer can tell, at most
abbrev pub FitFooters : List (List ℕ) → Type 0
FitFooters slices = (place : ℕ) → length (slice_index_or slices place []) ≤ slice_limit
