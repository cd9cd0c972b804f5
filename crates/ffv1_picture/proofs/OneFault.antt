-- A payload that is no frame has one first fault.
use Rattle.std.proofs.Common.{◌≡◌, ◌==◌, ◌∙◌, ℕ, ◌<◌, List, length, Result, Ok, Err, refl, sym, ap, subst, arith, inl, inr}
use Rattle.std.specs.Prelude.{◌≢◌}
use Rattle.std.proofs.lemmas.Bool.{cases_order}
use Rattle.std.proofs.Math.ListN.{length-reverse}
use Rattle.ffv1_range.specs.Setup.{SetupValue, IsInProfile}
use Rattle.ffv1_range.specs.Tiles.{grid_of, tile_count}
use Rattle.ffv1_range.specs.TileHeaders.{profile_rules}
use Rattle.ffv1_slice.specs.Chain.{LinkValue}
use Rattle.ffv1_slice.specs.Slices.{slice_read}
use Rattle.ffv1_slice.specs.Walk.{links_of}
use Rattle.ffv1_slice.specs.declared.slice.LinkFault.{LinkFault}
use Rattle.ffv1_plane.specs.declared.tile.TileFault.{TileFault}
use Rattle.ffv1_plane.proofs.OneStuck.{one_result}
use Rattle.ffv1_picture.specs.Frames.{links_from_front, link_at, content_at, HasPicture, IsInOrder, IsOrdered}
use Rattle.ffv1_picture.specs.FrameFaults.{AreInOrderBefore, IsFirstFault}
use Rattle.ffv1_picture.specs.TilePictures.{IsUnreadable}
use Rattle.ffv1_picture.specs.declared.fault.FrameFault.{FrameFault}
use Rattle.ffv1_picture.specs.declared.fault.FrameFault.TheVariants.{Chain, Slice, Order, Tile, Memory}

ok_or_err : (read : Result ℕ LinkFault) (tile : ℕ) (cause : LinkFault) → read ≡ Ok tile → read ≡ Err cause → ⊥
ok_or_err read tile cause a b = cc

one_tile : (read : Result ℕ LinkFault) (tile other : ℕ) → read ≡ Ok tile → read ≡ Ok other → tile ≡ other
one_tile read tile other a b = cc

one_cause : (read : Result ℕ LinkFault) (cause other : LinkFault) → read ≡ Err cause → read ≡ Err other → cause ≡ other
one_cause read cause other a b = cc

module _ (setup : SetupValue) (links : List LinkValue) where
  abbrev read_at : ℕ → Result ℕ LinkFault
  read_at place = slice_read (profile_rules setup) (link_at links place).bytes ((link_at links place).start == 0)

  -- the first place that is not in order is one
  one_place : (place other : ℕ) → AreInOrderBefore setup links place → AreInOrderBefore setup links other → ¬ IsInOrder setup links place
      → ¬ IsInOrder setup links other → place ≡ other
  one_place place other before earlier none neither = elim (cases_order place other) [
    | inl same ↦ same
    | inr (inl less) ↦ absurd (none (earlier place less))
    | inr (inr less) ↦ absurd (neither (before other less))
  ]

  refused : (place : ℕ) (cause : LinkFault) → read_at place ≡ Err cause → ¬ IsInOrder setup links place
  refused place cause is ordered = ok_or_err (read_at place) place cause ordered is

  elsewhere : (place tile : ℕ) → read_at place ≡ Ok tile → tile ≢ place → ¬ IsInOrder setup links place
  elsewhere place tile is other ordered = other (one_tile (read_at place) tile place is ordered)

  -- the first tile without a picture is one
  one_unreadable : (tile other : ℕ) (cause more : TileFault) → ((t : ℕ) → t < tile → HasPicture setup links t) → ((t : ℕ) → t < other → HasPicture setup links t)
      → IsUnreadable setup tile (content_at links tile) cause → IsUnreadable setup other (content_at links other) more → tile ≡ other
  one_unreadable tile other cause more before earlier a b = elim (cases_order tile other) [
    | inl same ↦ same
    | inr (inl less) ↦ let has = earlier tile less in absurd (a.no_picture has.0 has.1 has.2)
    | inr (inr less) ↦ let has = before other less in absurd (b.no_picture has.0 has.1 has.2)
  ]

module _ (setup : SetupValue) (profile : IsInProfile setup) (payload : List ℕ) where
  abbrev all : List LinkValue
  all = links_from_front payload

  ordered_at : IsOrdered setup payload → (place : ℕ) → place < length (links_from_front payload) → IsInOrder setup (links_from_front payload) place
  ordered_at ordered place less = ordered.each place (omega (arith, less, length-reverse (links_of payload), ordered.chain.count))

  pub one_fault : (fault other : FrameFault) → fault ≢ Memory → other ≢ Memory → IsFirstFault setup payload fault → IsFirstFault setup payload other → fault ≡ other
  one_fault Memory other some more a b = absurd (some refl)
  one_fault fault Memory some more a b = absurd (more refl)
  one_fault Chain Chain some more a b = refl
  one_fault Chain (Slice place cause) some more a b = absurd (a b.0)
  one_fault Chain (Order place) some more a b = absurd (a b.0)
  one_fault Chain (Tile tile cause) some more a b = absurd (a b.0.chain)
  one_fault (Slice place cause) Chain some more a b = absurd (b a.0)
  one_fault (Order place) Chain some more a b = absurd (b a.0)
  one_fault (Tile tile cause) Chain some more a b = absurd (b a.0.chain)
  one_fault (Slice place cause) (Slice other level) some more a b =
      let same = one_place setup all place other a.1.1 b.1.1 (refused setup all place cause a.1.2) (refused setup all other level b.1.2) in
      ap (λ p. Slice p cause) same
      ∙ ap (Slice other) (one_cause (read_at setup all other) cause level (subst (λ p. read_at setup all p ≡ Err cause) same a.1.2) b.1.2)
  one_fault (Slice place cause) (Order other) some more a b =
      let same = one_place setup all place other a.1.1 b.1.1 (refused setup all place cause a.1.2) (elsewhere setup all other b.1.2.0 b.1.2.1 b.1.2.2) in
      absurd (ok_or_err (read_at setup all other) b.1.2.0 cause b.1.2.1 (subst (λ p. read_at setup all p ≡ Err cause) same a.1.2))
  one_fault (Order place) (Slice other level) some more a b =
      let same = one_place setup all other place b.1.1 a.1.1 (refused setup all other level b.1.2) (elsewhere setup all place a.1.2.0 a.1.2.1 a.1.2.2) in
      absurd (ok_or_err (read_at setup all place) a.1.2.0 level a.1.2.1 (subst (λ p. read_at setup all p ≡ Err level) same b.1.2))
  one_fault (Order place) (Order other) some more a b =
      ap Order (one_place setup all place other a.1.1 b.1.1 (elsewhere setup all place a.1.2.0 a.1.2.1 a.1.2.2) (elsewhere setup all other b.1.2.0 b.1.2.1 b.1.2.2))
  one_fault (Slice place cause) (Tile tile level) some more a b = absurd (refused setup all place cause a.1.2 (ordered_at b.0 place a.1.0))
  one_fault (Order place) (Tile tile level) some more a b = absurd (elsewhere setup all place a.1.2.0 a.1.2.1 a.1.2.2 (ordered_at b.0 place a.1.0))
  one_fault (Tile tile cause) (Slice place level) some more a b = absurd (refused setup all place level b.1.2 (ordered_at a.0 place b.1.0))
  one_fault (Tile tile cause) (Order place) some more a b = absurd (elsewhere setup all place b.1.2.0 b.1.2.1 b.1.2.2 (ordered_at a.0 place b.1.0))
  one_fault (Tile tile cause) (Tile other level) some more a b =
      let same = one_unreadable setup all tile other cause level a.1.1 b.1.1 a.1.2 b.1.2 in
      let here = subst (λ t. IsUnreadable setup t (content_at all t) cause) same a.1.2 in
      let inside : other < tile_count (grid_of setup) = omega (arith, b.1.0, length-reverse (links_of payload), b.0.chain.count) in
      ap (λ t. Tile t cause) same ∙ ap (Tile other) (one_result.one_fault setup other (content_at all other) cause level profile inside here.is_cause b.1.2.is_cause)
