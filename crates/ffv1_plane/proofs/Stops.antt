-- Where the planes of a tile stop at a word that can't be read, the content is stuck there.
use Rattle.std.proofs.Common.{◌≡◌, ℕ, ◌-◌, ◌*◌, ◌<◌, Bool, true, false, List, [], ◌∷◌, ◌++◌, replicate, take, drop, length, refl, sym, ap, ◌∙◌, subst, arith, append_assoc, inl, inr, ⊎_elim, ◌⊎◌, ℤ}
use Rattle.std.specs.Prelude.{◌==◌}
use Rattle.ffv1_plane.specs.Samples.{plane_of, coding_at}
use Rattle.ffv1_bits.specs.Bits.{bits_of}
use Rattle.ffv1_range.specs.Header.{IsHeadOf, header_limits}
use Rattle.ffv1_range.specs.Setup.{SetupValue, IsInProfile, set_entry}
use Rattle.ffv1_range.specs.Tiles.{grid_of, tile_count, plane_count, plane_rect}
use Rattle.ffv1_range.specs.declared.grid.TileRect.{TileRect}
use Rattle.ffv1_range.specs.declared.head.SliceHead.{SliceHead}
use Rattle.ffv1_rice.specs.States.{ContextState}
use Rattle.ffv1_rice.specs.declared.code.CodeFault.{CodeFault}
use Rattle.ffv1_plane.specs.Spelling.{residuals_of}
use Rattle.ffv1_plane.specs.Lines.{line_at, lines_of_plane, plane_after_plane, first_index, values_after_lines}
use Rattle.ffv1_plane.specs.Picture.{ArePlanesOf, IsPlaneIn, samples_of, plane_set, shaped_plane, tile_plane, plane_group, picture_planes, plane_height, no_values}
use Rattle.ffv1_plane.specs.Progress.{AreStatesAfter}
use Rattle.ffv1_plane.specs.Inner.PlaneRows.{values_after_rows, RowsSpell}
use Rattle.ffv1_plane.specs.Inner.Progress.{IsPlaneRead}
use Rattle.ffv1_plane.specs.Inner.Groups.{IsLumaRead}
use Rattle.ffv1_plane.specs.Stuck.{IsWordRefused, AreBitsStuck}
use Rattle.ffv1_plane.specs.Inner.Halts.{IsTilePlaneHalted, IsPlaneOfHalted, IsLumaHalted, IsCrHalted, IsChromaHalted, ArePlanesStuck, ArePlanesHalted}
use Rattle.ffv1_plane.specs.StuckLaws.{IsRefusedFor}
use Rattle.ffv1_plane.specs.declared.tile.TileFault.{TileFault}
use Rattle.ffv1_plane.specs.declared.tile.TileFault.TheVariants.{Head, OtherTile, Code, Memory}
use Rattle.ffv1_plane.proofs.CodedLines.{values_after_append, lines_append, values_of_rows, rows_spell, planes_split}
use Rattle.ffv1_plane.proofs.Fronts.{stuck_on}
use Rattle.ffv1_plane.proofs.Pictures.{AreBelowSpelled, values_below, none_below, luma_below, cb_below, luma_values, cb_values, cr_values, gray_sizes, colour_sizes, count_of, after_place}
use Rattle.ffv1_plane.proofs.Wholes.{filled}

pub cr_stops : (setup : SetupValue) (head : SliceHead) (states between : List ContextState) (bits mid : List Bool) (cb : List ℕ)
    → AreStatesAfter 8 no_values states → IsPlaneIn (plane_rect (grid_of setup) head.tile 1) cb
    → IsPlaneRead (plane_rect (grid_of setup) head.tile 1).w (plane_rect (grid_of setup) head.tile 1).h
    (coding_at 8 (set_entry setup (plane_set head 1))) states bits cb between mid
    → (fault : TileFault) → IsPlaneOfHalted setup head 2 between mid fault → IsChromaHalted setup head bits fault
cr_stops setup head states between bits mid cb fresh size read (Code fault level y x) h =
    let first = read no_values fresh in
    inr (
      h.0,
      record {
        cb = cb;
        size = size;
        front = first.1.front;
        rest = mid;
        begins = first.1.begins;
        spells = (first.0, first.1.spells);
        halted = h.1 (values_after_rows no_values (shaped_plane setup head 1 cb) (plane_height setup head.tile 1)) first.1.states_are;
      },
    )
cr_stops setup head states between bits mid cb fresh size read Memory h = tt
cr_stops setup head states between bits mid cb fresh size read (Head fault) h = absurd h
cr_stops setup head states between bits mid cb fresh size read OtherTile h = absurd h

-- some plane of a rectangle
blank : TileRect → List ℕ
blank rect = [] ++ replicate (rect.w * rect.h - length {A = ℕ} []) 0

blank_in : (rect : TileRect) → IsPlaneIn rect (blank rect)
unfolding blank
blank_in rect = filled 8 rect.w rect.h [] (λ s. omega arith) (omega arith)

module _ (setup : SetupValue) (head : SliceHead) (profile : IsInProfile setup) (inside : head.tile < tile_count (grid_of setup)) where
  -- A plane of a picture halts after the planes before it.
  plane_stuck : (planes : List (List ℕ)) (n : ℕ) (earlier : ℕ → List ℤ) (bits front rest : List Bool) (fault : CodeFault) (y x : ℕ)
      → ArePlanesOf setup head.tile planes → n < plane_count (grid_of setup) → bits ≡ front ++ rest → AreBelowSpelled setup head profile inside planes n front
      → values_below setup head profile inside planes n (plane_group n) ≡ earlier → (h : IsTilePlaneHalted setup head n earlier rest fault y x)
      → samples_of planes n ≡ h.samples → ArePlanesStuck setup head bits fault n y x
  unfolding AreBelowSpelled values_below
  plane_stuck planes n earlier bits front rest fault y x sizes there begins below values h samples =
      let c = picture_planes setup head planes in
      let height = plane_height setup head.tile in
      let rect = plane_rect (grid_of setup) head.tile n in
      let coding = coding_at 8 (set_entry setup (plane_set head n)) in
      let before = plane_after_plane height n in
      let past = values_after_lines c (λ group. no_values) before in
      let split = planes_split height n y (plane_count (grid_of setup)) there h.row_there in
      let P : (ℕ → List ℤ) → List ℕ → Type 0 = λ v l. RowsSpell v (plane_of rect.w coding l) y h.above h.index in
      let above : P (past (plane_group n)) (samples_of planes n) =
      subst (P (past (plane_group n))) (sym samples) (subst (λ (v : ℕ → List ℤ). P v h.samples) (sym values) h.spells) in
      let rows = rows_spell c past n (λ row. refl) below.0 y h.above h.index above in
      let lines = lines_append c (λ group. no_values) 0 below.0 rows.0 before (lines_of_plane n y) front h.above below.1 rows.1 in
      let Q : (ℕ → List ℤ) → List ℕ → ℕ → Type 0 = λ v l i.
      IsWordRefused v (residuals_of (plane_of rect.w coding l) y) i x h.halted.part h.halted.others fault in
      let value : values_after_lines c (λ group. no_values) (before ++ lines_of_plane n y) (plane_group n)
      ≡ values_after_rows (past (plane_group n)) (tile_plane setup head planes n) y =
      ap (λ f. f (plane_group n)) (values_after_append c (λ group. no_values) before (lines_of_plane n y)) ∙ values_of_rows c past n y in
      let there_too : values_after_rows (past (plane_group n)) (tile_plane setup head planes n) y ≡ values_after_rows earlier (plane_of rect.w coding h.samples) y =
      ap (λ v. values_after_rows v (tile_plane setup head planes n) y) values ∙ ap (λ l. values_after_rows earlier (plane_of rect.w coding l) y) samples in
      let refused : Q (values_after_lines c (λ group. no_values) (before ++ lines_of_plane n y) (plane_group n)) (samples_of planes n)
      (first_index c rows.0 (line_at n y)) =
      subst (λ (v : ℕ → List ℤ). Q v (samples_of planes n) (first_index c rows.0 (line_at n y))) (sym (value ∙ there_too))
      (subst (λ (l : List ℕ). Q (values_after_rows earlier (plane_of rect.w coding h.samples) y) l (first_index c rows.0 (line_at n y))) (sym samples)
      (subst (Q (values_after_rows earlier (plane_of rect.w coding h.samples) y) h.samples) (sym rows.2) h.halted.refused)) in
      record {
        planes = planes;
        sizes = sizes;
        front = (front ++ h.above) ++ h.halted.part;
        stuck = record {
          place = record { plane_there = there; row_there = h.row_there; column_there = h.column_there };
          before = before ++ lines_of_plane n y;
          later = split.0;
          lines = split.1;
          whole = front ++ h.above;
          index = rows.0;
          spells = lines;
          part = h.halted.part;
          joined = refl;
          others = h.halted.others;
          begins = begins ∙ ap (λ l. front ++ l) (h.begins ∙ ap (λ l. h.above ++ l) h.halted.begins)
              ∙ sym (append_assoc front h.above (h.halted.part ++ h.halted.others)) ∙ sym (append_assoc (front ++ h.above) h.halted.part h.halted.others);
          refused = refused;
        };
      }

  luma_stuck : (bits : List Bool) (fault : CodeFault) (y x : ℕ) → IsTilePlaneHalted setup head 0 no_values bits fault y x
      → ArePlanesStuck setup head bits fault 0 y x
  luma_stuck bits fault y x h = either setup.has_chroma refl
    where
      either : (b : Bool) → setup.has_chroma ≡ b → ArePlanesStuck setup head bits fault 0 y x
      either false gray =
          let count = count_of setup head profile inside false gray in
          let planes = h.samples ∷ [] in
          plane_stuck planes 0 no_values bits [] bits fault y x (gray_sizes setup head profile inside h.samples count h.size) (omega (arith, count)) refl
          (none_below setup head profile inside planes) (luma_values setup head profile inside planes) h refl
      either true colour =
          let count = count_of setup head profile inside true colour in
          let cb = plane_rect (grid_of setup) head.tile 1 in
          let cr = plane_rect (grid_of setup) head.tile 2 in
          let planes = h.samples ∷ blank cb ∷ blank cr ∷ [] in
          plane_stuck planes 0 no_values bits [] bits fault y x
          (colour_sizes setup head profile inside h.samples (blank cb) (blank cr) count h.size (blank_in cb) (blank_in cr)) (omega (arith, count)) refl
          (none_below setup head profile inside planes) (luma_values setup head profile inside planes) h refl

  pub luma_planes : (bits : List Bool) (fault : TileFault) → IsLumaHalted setup head bits fault → ArePlanesHalted setup head bits fault
  luma_planes bits (Code fault level y x) h = subst (λ (k : ℕ). ArePlanesStuck setup head bits fault k y x) (sym h.0) (luma_stuck bits fault y x h.1)
  luma_planes bits Memory h = tt
  luma_planes bits (Head fault) h = absurd h
  luma_planes bits OtherTile h = absurd h

  module _ (bits mid : List Bool) (y_samples : List ℕ) (colour : setup.has_chroma ≡ true) (luma : IsLumaRead setup head bits y_samples mid) where
    cb_stuck : (fault : CodeFault) (y x : ℕ) → IsTilePlaneHalted setup head 1 no_values mid fault y x → ArePlanesStuck setup head bits fault 1 y x
    cb_stuck fault y x h =
        let count = count_of setup head profile inside true colour in
        let cr = plane_rect (grid_of setup) head.tile 2 in
        let planes = y_samples ∷ h.samples ∷ blank cr ∷ [] in
        plane_stuck planes 1 no_values bits luma.front mid fault y x
        (colour_sizes setup head profile inside y_samples h.samples (blank cr) count luma.size h.size (blank_in cr)) (omega (arith, count)) luma.begins
        (luma_below setup head profile inside planes luma.front luma.spells) (cb_values setup head profile inside planes) h refl

    cr_stuck : (fault : CodeFault) (y x : ℕ) → IsCrHalted setup head mid fault y x → ArePlanesStuck setup head bits fault 2 y x
    cr_stuck fault y x k =
        let count = count_of setup head profile inside true colour in
        let h = k.halted in
        let planes = y_samples ∷ k.cb ∷ h.samples ∷ [] in
        plane_stuck planes 2 (values_after_rows no_values (shaped_plane setup head 1 k.cb) (plane_height setup head.tile 1)) bits (luma.front ++ k.front) k.rest
        fault y x (colour_sizes setup head profile inside y_samples k.cb h.samples count luma.size k.size h.size) (omega (arith, count))
        (luma.begins ∙ ap (λ l. luma.front ++ l) k.begins ∙ sym (append_assoc luma.front k.front k.rest))
        (cb_below setup head profile inside planes luma.front k.front luma.spells k.spells) (cr_values setup head profile inside planes) h refl

    pub chroma_planes : (fault : TileFault) → IsChromaHalted setup head mid fault → ArePlanesHalted setup head bits fault
    chroma_planes (Code fault level y x) h = ⊎_elim
        (λ cb. subst (λ (k : ℕ). ArePlanesStuck setup head bits fault k y x) (sym cb.0) (cb_stuck fault y x cb.1))
        (λ cr. subst (λ (k : ℕ). ArePlanesStuck setup head bits fault k y x) (sym cr.0) (cr_stuck fault y x cr.1))
        h
    chroma_planes Memory h = tt
    chroma_planes (Head fault) h = absurd h
    chroma_planes OtherTile h = absurd h

-- ---- the content

pub planes_refused : (setup : SetupValue) (tile : ℕ) (content : List ℕ) (head : SliceHead) (place : ℕ) (bits : List Bool)
    → IsHeadOf (header_limits setup) content (tile == 0) head place → head.tile ≡ tile
    → bits ≡ bits_of (take (length content - place) (drop place content))
    → (fault : TileFault) → ArePlanesHalted setup head bits fault → (fault ≡ Memory) ⊎ IsRefusedFor setup tile content fault
planes_refused setup tile content head place bits is_head of_tile later (Code fault plane y x) h =
    let all = stuck_on setup head h.planes bits fault plane y x h.front h.stuck in
    inr
    (record {
      head = head;
      place = place;
      is_head = is_head;
      of_tile = of_tile;
      planes = h.planes;
      sizes = subst (λ (t : ℕ). ArePlanesOf setup t h.planes) of_tile h.sizes;
      words = all.words;
      spells = all.spells;
      front = h.front;
      later = all.later;
      begins = all.begins;
      stuck = subst (λ (l : List Bool). AreBitsStuck setup head h.planes l fault plane y x h.front)
          (later ∙ ap bits_of (after_place place content)) h.stuck;
    })
planes_refused setup tile content head place bits is_head of_tile later Memory h = inl refl
planes_refused setup tile content head place bits is_head of_tile later (Head fault) h = absurd h
planes_refused setup tile content head place bits is_head of_tile later OtherTile h = absurd h
