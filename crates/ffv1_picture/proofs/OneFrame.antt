-- A payload that spells pictures is at no fault, and it spells one frame.
use Rattle.std.proofs.Common.{◌≡◌, ◌∙◌, ℕ, ◌<◌, List, [], map, length, get_or, Some, Ok, Err, Result, IfOk, IfErr, MatchResult, refl, sym, ap, subst, arith}
use Rattle.std.proofs.lemmas.List.{ext_get_or}
use Rattle.std.proofs.Math.ListN.{length-reverse}
use Rattle.ffv1_range.specs.Setup.{SetupValue, IsInProfile}
use Rattle.ffv1_range.specs.Tiles.{grid_of, tile_count}
use Rattle.ffv1_slice.specs.Walk.{links_of}
use Rattle.ffv1_plane.specs.Picture.{PictureValue}
use Rattle.ffv1_plane.proofs.Pictures.{one_reading_is}
use Rattle.ffv1_picture.specs.WholePicture.{Planes}
use Rattle.ffv1_picture.specs.Frames.{links_from_front, content_at, IsFrameOf, IsOrdered, SpellsPictures, IsDrawnOf, IsDecodedFrame}
use Rattle.ffv1_picture.specs.FrameFaults.{IsFirstFault}
use Rattle.ffv1_picture.specs.declared.frame.Frame.{Frame}
use Rattle.ffv1_picture.specs.declared.fault.FrameFault.{FrameFault}
use Rattle.ffv1_picture.specs.declared.fault.FrameFault.TheVariants.{Chain, Slice, Order, Tile, Memory}

-- the frame that is drawn of an ordered payload is decoded
pub decoded : (setup : SetupValue) (payload : List ℕ) → IsOrdered setup payload → (r : Result Frame FrameFault)
    → IfOk r (IsDrawnOf setup (links_from_front payload) (length (links_from_front payload))) → IfOk r (IsDecodedFrame setup payload)
decoded setup payload ordered (Ok frame) drawn =
    let count : length (links_from_front payload) ≡ tile_count (grid_of setup) = length-reverse (links_of payload) ∙ ordered.chain.count in
    record { ordered = ordered; drawn = subst (λ n. IsDrawnOf setup (links_from_front payload) n frame) count drawn }
decoded setup payload ordered (Err fault) drawn = drawn

module _ (setup : SetupValue) (payload : List ℕ) (pictures : List Planes) (spells : SpellsPictures setup payload pictures) where
  among : (place : ℕ) → place < length (links_from_front payload) → place < tile_count (grid_of setup)
  among place lt = omega (arith, lt, length-reverse (links_of payload), spells.ordered.chain.count)

  pub no_fault : (fault : FrameFault) → IsFirstFault setup payload fault → fault ≡ Memory
  no_fault Chain first = absurd (first spells.ordered.chain)
  no_fault (Slice place cause) first = absurd (let both = sym (spells.ordered.each place (among place first.1.0)) ∙ first.1.2 in cc)
  no_fault (Order place) first = absurd (first.1.2.2 (let both = sym first.1.2.1 ∙ spells.ordered.each place (among place first.1.0) in cc))
  no_fault (Tile tile cause) first =
      let picture = spells.each tile (among tile first.1.0) in absurd (first.1.2.no_picture (get_or pictures tile []) picture.0 picture.1)
  no_fault Memory first = refl

  module _ (profile : IsInProfile setup) (frame : Frame) (is : IsDecodedFrame setup payload frame) where
    one_picture : (tile : ℕ) → tile < tile_count (grid_of setup) → get_or is.drawn.pictures tile [] ≡ get_or pictures tile []
    one_picture tile lt =
        let a = is.drawn.each tile lt in
        let b = spells.each tile lt in
        ap (λ (p : PictureValue). p.planes) (one_reading_is.pictures setup tile (content_at (links_from_front payload) tile) _ _ profile lt a.1 b.1)

    pub one_frame : IsFrameOf setup (map Some pictures) frame
    one_frame =
        let same : is.drawn.pictures ≡ pictures =
        ext_get_or [] is.drawn.pictures pictures (is.drawn.count ∙ sym spells.count) (λ tile lt. one_picture tile (omega (arith, lt, is.drawn.count))) in
        subst (λ (ps : List Planes). IsFrameOf setup (map Some ps) frame) same is.drawn.is_frame

  -- a result that is a frame of the payload or its first fault
  pub found : IsInProfile setup → (r : Result Frame FrameFault) → IfOk r (IsDecodedFrame setup payload) → IfErr r (IsFirstFault setup payload)
      → MatchResult r (IsFrameOf setup (map Some pictures)) (λ fault. fault ≡ Memory)
  found profile (Ok frame) is first = one_frame profile frame is
  found profile (Err fault) is first = no_fault fault first
