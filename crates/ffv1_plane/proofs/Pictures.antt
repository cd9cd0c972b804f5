-- The planes of a tile: their sizes, and that bits begin with those of one picture.
use Rattle.std.proofs.Common.{◌≡◌, ℕ, zero, suc, ◌*◌, ◌^◌, ◌<◌, ◌≤◌, Bool, true, false, cond, List, [], ◌∷◌, ◌++◌, length, take, drop, get_or, ◌-◌, length-drop, refl, sym, ap, ◌∙◌, subst, arith, append_assoc, ⊎_elim, ℤ, rules}
use Rattle.std.specs.Prelude.{◌==◌}
use Rattle.std.specs.Int.{div_ceil}
use Rattle.std.proofs.lemmas.Bool.{cases_lt}
use Rattle.std.proofs.lemmas.List.{ext_get_or, get_or_past, take_all}
use Rattle.ffv1_rice.proofs.Depths.{bytes}
use Rattle.ffv1_bits.specs.Limits.{greatest_side}
use Rattle.ffv1_bits.specs.Bits.{bits_of}
use Rattle.ffv1_range.specs.Header.{IsHeadOf, HeadLimits, header_limits}
use Rattle.ffv1_range.specs.Setup.{SetupValue, IsInProfile, set_entry}
use Rattle.ffv1_range.specs.Tiles.{GridValue, IsGrid, grid_of, tile_count, plane_count, tile_rect, plane_rect, rect_in_plane}
use Rattle.ffv1_range.specs.declared.grid.TileRect.{TileRect}
use Rattle.ffv1_range.specs.declared.head.SliceHead.{SliceHead}
use Rattle.ffv1_range.proofs.TileLaws.{each_tile}
use Rattle.ffv1_range.proofs.HeaderFound.{head_run}
use Rattle.ffv1_range.proofs.Spelling.{same_ok}
use Rattle.ffv1_rice.specs.States.{ContextState}
use Rattle.ffv1_plane.specs.Samples.{coding_at}
use Rattle.ffv1_plane.specs.Lines.{lines_of_plane, plane_after_plane, values_after_lines, LinesSpell}
use Rattle.ffv1_plane.specs.Progress.{AreStatesAfter}
use Rattle.ffv1_plane.specs.Inner.PlaneRows.{values_after_rows, RowsSpell, PlaneSpells}
use Rattle.ffv1_plane.specs.Inner.Progress.{IsPlaneRead}
use Rattle.ffv1_plane.specs.Picture.{PictureValue, ArePlanesOf, IsPlaneIn, samples_of, plane_set, shaped_plane, tile_plane, plane_group, picture_planes, plane_height, picture_lines, no_values, PictureSpells, IsPictureOf, OneReading}
use Rattle.ffv1_plane.specs.Inner.Groups.{IsLumaRead, IsChromaRead, ArePlanesRead}
use Rattle.ffv1_plane.proofs.CodedLines.{values_after_append, values_of_rows, values_elsewhere, planes_spell, none_known, known_planes, order_planes}
use Rattle.ffv1_plane.proofs.OneLines.{AreKnownSame, one_lines}

-- ---- sizes

is_grid : (setup : SetupValue) → IsInProfile setup → IsGrid (grid_of setup)
is_grid setup h = search rules

ceil_within : (a shift : ℕ) → 1 ≤ a → shift ≤ 2 → (1 ≤ div_ceil a (2 ^ shift)) × (div_ceil a (2 ^ shift) ≤ a)
ceil_within a zero some low = (omega arith, omega arith)
ceil_within a (suc zero) some low = (omega arith, omega arith)
ceil_within a (suc (suc zero)) some low = (omega arith, omega arith)
ceil_within a (suc (suc (suc n))) some low = absurd (omega arith)

-- A rectangle of a plane has at least one sample, and lies within the limits.
pub record IsWithinLimits (rect : TileRect) : Type 0 where
  pub some_columns : 1 ≤ rect.w
  pub few_columns : rect.w ≤ greatest_side
  pub some_rows : 1 ≤ rect.h
  pub few_rows : rect.h ≤ greatest_side

within_plane : (g : GridValue) (rect : TileRect) (plane : ℕ) → g.shift_h ≤ 2 → g.shift_v ≤ 2 → IsWithinLimits rect → IsWithinLimits (rect_in_plane g plane rect)
within_plane g rect zero low_h low_v h = h
within_plane g rect (suc plane) low_h low_v h =
    let wide = ceil_within rect.w g.shift_h h.some_columns low_h in
    let high = ceil_within rect.h g.shift_v h.some_rows low_v in
    record { some_columns = wide.0; few_columns = omega (arith, wide.1, h.few_columns); some_rows = high.0; few_rows = omega (arith, high.1, h.few_rows) }

pub plane_within : (setup : SetupValue) (tile plane : ℕ) → IsInProfile setup → tile < tile_count (grid_of setup)
    → IsWithinLimits (plane_rect (grid_of setup) tile plane)
plane_within setup tile plane h less =
    let g = grid_of setup in
    let t = each_tile g (is_grid setup h) tile less in
    within_plane g (tile_rect g tile) plane h.small_h h.small_v
    (record {
      some_columns = t.some_columns;
      few_columns = omega (arith, t.in_width, h.narrow);
      some_rows = t.some_rows;
      few_rows = omega (arith, t.in_height, h.low);
    })

-- the same of a rectangle that is a plane's
pub plane_within_is : (setup : SetupValue) (tile plane : ℕ) (rect : TileRect) → IsInProfile setup → tile < tile_count (grid_of setup)
    → rect ≡ plane_rect (grid_of setup) tile plane → IsWithinLimits rect
plane_within_is setup tile plane rect profile there is = subst IsWithinLimits (sym is) (plane_within setup tile plane profile there)

-- ---- the planes

module _ (setup : SetupValue) (head : SliceHead) (profile : IsInProfile setup) (inside : head.tile < tile_count (grid_of setup)) where
  pub some_columns : (plane : ℕ) → 1 ≤ (plane_rect (grid_of setup) head.tile plane).w
  some_columns plane = (plane_within setup head.tile plane profile inside).some_columns

  pub chroma_read : (bits mid rest : List Bool) (states between after : List ContextState) (cb cr : List ℕ) → AreStatesAfter 8 no_values states
      → IsPlaneIn (plane_rect (grid_of setup) head.tile 1) cb → IsPlaneIn (plane_rect (grid_of setup) head.tile 2) cr
      → IsPlaneRead (plane_rect (grid_of setup) head.tile 1).w (plane_rect (grid_of setup) head.tile 1).h
      (coding_at 8 (set_entry setup (plane_set head 1))) states bits cb between mid
      → IsPlaneRead (plane_rect (grid_of setup) head.tile 2).w (plane_rect (grid_of setup) head.tile 2).h
      (coding_at 8 (set_entry setup (plane_set head 2))) between mid cr after rest → IsChromaRead setup head bits cb cr rest
  chroma_read bits mid rest states between after cb cr fresh cb_size cr_size first second =
      let one = (first no_values fresh).1 in
      let two = second (values_after_rows no_values (shaped_plane setup head 1 cb) (plane_height setup head.tile 1)) one.states_are in
      record {
        cb_size = cb_size;
        cr_size = cr_size;
        front = one.front;
        back = two.1.front;
        begins = one.begins ∙ ap (λ l. one.front ++ l) two.1.begins;
        cb_spells = ((first no_values fresh).0, one.spells);
        cr_spells = (two.0, two.1.spells);
      }

  -- ---- whole pictures

  pub gray_sizes : (samples : List ℕ) → plane_count (grid_of setup) ≡ 1 → IsPlaneIn (plane_rect (grid_of setup) head.tile 0) samples
      → ArePlanesOf setup head.tile (samples ∷ [])
  gray_sizes samples one size = record { count = sym one; sizes = sizes }
    where
      sizes : (plane : ℕ) → plane < plane_count (grid_of setup) → IsPlaneIn (plane_rect (grid_of setup) head.tile plane) (samples_of (samples ∷ []) plane)
      sizes zero less = size
      sizes (suc plane) less = absurd (omega (arith, one))

  pub colour_sizes : (y cb cr : List ℕ) → plane_count (grid_of setup) ≡ 3 → IsPlaneIn (plane_rect (grid_of setup) head.tile 0) y
      → IsPlaneIn (plane_rect (grid_of setup) head.tile 1) cb → IsPlaneIn (plane_rect (grid_of setup) head.tile 2) cr
      → ArePlanesOf setup head.tile (y ∷ cb ∷ cr ∷ [])
  colour_sizes y cb cr three y_size cb_size cr_size = record { count = sym three; sizes = sizes }
    where
      sizes : (plane : ℕ) → plane < plane_count (grid_of setup) → IsPlaneIn (plane_rect (grid_of setup) head.tile plane) (samples_of (y ∷ cb ∷ cr ∷ []) plane)
      sizes zero less = y_size
      sizes (suc zero) less = cb_size
      sizes (suc (suc zero)) less = cr_size
      sizes (suc (suc (suc plane))) less = absurd (omega (arith, three))

  pub count_of : (b : Bool) → setup.has_chroma ≡ b → plane_count (grid_of setup) ≡ cond b 3 1
  count_of b is = ap (λ c. cond c 3 1) is

  -- the lines of the first planes
  module _ (planes : List (List ℕ)) where
    unfoldable pub values_below : ℕ → (ℕ → ℕ → List ℤ)
    values_below n = values_after_lines (picture_planes setup head planes) (λ group. no_values) (plane_after_plane (plane_height setup head.tile) n)

    unfoldable pub AreBelowSpelled : ℕ → List Bool → Type 0
    AreBelowSpelled n bits =
        (last : ℕ) × LinesSpell (picture_planes setup head planes) (λ group. no_values) 0 (plane_after_plane (plane_height setup head.tile) n) bits last

    pub luma_values : values_below 0 0 ≡ no_values
    unfolding values_below values_after_lines plane_after_plane
    luma_values = refl

    pub cb_values : values_below 1 1 ≡ no_values
    unfolding values_below values_after_lines plane_after_plane
    cb_values = values_elsewhere (picture_planes setup head planes) (λ group. no_values) 0 (plane_height setup head.tile 0) 1 (λ e. absurd (omega arith))

    pub cr_values : values_below 2 1 ≡ values_after_rows no_values (tile_plane setup head planes 1) (plane_height setup head.tile 1)
    unfolding values_below plane_after_plane
    cr_values =
        let c = picture_planes setup head planes in
        let luma = plane_after_plane (plane_height setup head.tile) 1 in
        ap (λ f. f 1) (values_after_append c (λ group. no_values) luma (lines_of_plane 1 (plane_height setup head.tile 1)))
        ∙ values_of_rows c (values_after_lines c (λ group. no_values) luma) 1 (plane_height setup head.tile 1)
        ∙ ap (λ v. values_after_rows v (tile_plane setup head planes 1) (plane_height setup head.tile 1)) cb_values

    pub none_below : AreBelowSpelled 0 []
    unfolding AreBelowSpelled LinesSpell plane_after_plane
    none_below = (0, (refl, refl))

    -- one plane more
    pub below_more : (n : ℕ) (earlier : ℕ → List ℤ) (front back : List Bool) → values_below n (plane_group n) ≡ earlier → AreBelowSpelled n front
        → PlaneSpells earlier (tile_plane setup head planes n) (plane_height setup head.tile n) back → AreBelowSpelled (suc n) (front ++ back)
    unfolding AreBelowSpelled values_below
    below_more n earlier front back values before spells =
        let P : (ℕ → List ℤ) → Type 0 = λ v. RowsSpell v (tile_plane setup head planes n) (plane_height setup head.tile n) back spells.0 in
        planes_spell (picture_planes setup head planes) (λ group. no_values) (plane_height setup head.tile) 0 before.0 n front back spells.0 (λ row. refl) before.1
        (subst P (sym values) spells.1)

    pub luma_below : (bits : List Bool) → PlaneSpells no_values (tile_plane setup head planes 0) (plane_height setup head.tile 0) bits → AreBelowSpelled 1 bits
    luma_below bits spells = below_more 0 no_values [] bits luma_values none_below spells

    pub cb_below : (front back : List Bool) → PlaneSpells no_values (tile_plane setup head planes 0) (plane_height setup head.tile 0) front
        → PlaneSpells no_values (tile_plane setup head planes 1) (plane_height setup head.tile 1) back → AreBelowSpelled 2 (front ++ back)
    cb_below front back luma cb = below_more 1 no_values front back cb_values (luma_below front luma) cb

    -- all planes
    pub below_all : (count : ℕ) (bits : List Bool) → plane_count (grid_of setup) ≡ count → AreBelowSpelled count bits → PictureSpells setup head planes bits
    unfolding AreBelowSpelled
    below_all count bits is spelled =
        let P : ℕ → Type 0 = λ n. (last : ℕ) × LinesSpell (picture_planes setup head planes) (λ group. no_values) 0
        (plane_after_plane (plane_height setup head.tile) n) bits last in
        subst P (sym is) spelled

  pub gray_read : (bits rest : List Bool) (samples : List ℕ) → setup.has_chroma ≡ false → IsLumaRead setup head bits samples rest
      → ArePlanesRead setup head bits (samples ∷ []) rest
  gray_read bits rest samples gray h =
      record {
        sizes = gray_sizes samples (count_of false gray) h.size;
        words = h.front;
        begins = h.begins;
        spells = below_all (samples ∷ []) 1 h.front (count_of false gray) (luma_below (samples ∷ []) h.front h.spells);
      }

  pub colour_read : (bits mid rest : List Bool) (y cb cr : List ℕ) → setup.has_chroma ≡ true → IsLumaRead setup head bits y mid
      → IsChromaRead setup head mid cb cr rest → ArePlanesRead setup head bits (y ∷ cb ∷ cr ∷ []) rest
  colour_read bits mid rest y cb cr colour h k =
      let planes = y ∷ cb ∷ cr ∷ [] in
      record {
        sizes = colour_sizes y cb cr (count_of true colour) h.size k.cb_size k.cr_size;
        words = (h.front ++ k.front) ++ k.back;
        begins = h.begins ∙ ap (λ l. h.front ++ l) k.begins ∙ sym (append_assoc h.front k.front (k.back ++ rest))
            ∙ sym (append_assoc (h.front ++ k.front) k.back rest);
        spells = below_all planes 3 ((h.front ++ k.front) ++ k.back) (count_of true colour)
            (below_more planes 2 (values_after_rows no_values (tile_plane setup head planes 1) (plane_height setup head.tile 1)) (h.front ++ k.front) k.back
            (cr_values planes) (cb_below planes h.front k.front h.spells k.cb_spells) k.cr_spells);
      }

  -- ---- one picture

  -- the samples of each plane are bytes
  pub bytes_of_planes : (planes : List (List ℕ)) → ArePlanesOf setup head.tile planes → (n j : ℕ) → get_or (samples_of planes n) j 0 < 2 ^ 8
  bytes_of_planes planes sizes n j = ⊎_elim
      (λ there. (sizes.sizes n there).small j)
      (λ past.
      let none : samples_of planes n ≡ [] = get_or_past planes n [] (omega (arith, past, sizes.count)) in
      subst (λ (l : List ℕ). get_or l j 0 < 2 ^ 8) (sym none) (let least : 0 < 2 ^ 8 = omega arith in least))
      (cases_lt n (plane_count (grid_of setup)))

  pub one_picture : (bits rest more : List Bool) (planes others : List (List ℕ)) → ArePlanesRead setup head bits planes rest
      → ArePlanesRead setup head bits others more → (planes ≡ others) × (rest ≡ more)
  unfolding AreKnownSame
  one_picture bits rest more planes others a b =
      let g = grid_of setup in
      let height = plane_height setup head.tile in
      let width = λ (n : ℕ). (plane_rect g head.tile n).w in
      let coding = λ (n : ℕ). coding_at 8 (set_entry setup (plane_set head n)) in
      let one = one_lines plane_group (λ line. line.row == 0) width coding (samples_of planes) (samples_of others) some_columns (λ n. bytes)
      (bytes_of_planes planes a.sizes) (bytes_of_planes others b.sizes) none_known (λ group. no_values) 0 (picture_lines setup head.tile)
      a.words b.words rest more a.spells.0 b.spells.0 (order_planes height (plane_count g)) (λ n j less. absurd (omega arith))
      a.spells.1 b.spells.1 (sym a.begins ∙ b.begins) in
      let plane = λ (n : ℕ) (there : n < plane_count g).
      let p = a.sizes.sizes n there in
      let q = b.sizes.sizes n there in
      let known = known_planes height (plane_count g) n there in
      let same : samples_of planes n ≡ samples_of others n = ext_get_or 0 (samples_of planes n) (samples_of others n) (p.count ∙ sym q.count)
      (λ j less. one.samples n j (subst (λ (k : ℕ). j < k * width n) (sym known) (omega (arith, less, p.count)))) in
      same in
      (ext_get_or [] planes others (a.sizes.count ∙ sym b.sizes.count) (λ n less. plane n (omega (arith, less, a.sizes.count))), one.later)

-- ---- the law

pub head_is_one : (limits : HeadLimits) (content : List ℕ) (first : Bool) (a b : SliceHead) (place other : ℕ) → IsHeadOf limits content first a place
    → IsHeadOf limits content first b other → (a ≡ b) × (place ≡ other)
head_is_one limits content first a b place other h k =
    let same = same_ok (a, place) (b, other) (sym (head_run limits content first a place h) ∙ head_run limits content first b other k) in
    (ap (λ z. z.0) same, ap (λ z. z.1) same)

-- what stands after a place
pub after_place : (k : ℕ) (content : List ℕ) → take (length content - k) (drop k content) ≡ drop k content
after_place k content = take_all (length content - k) (drop k content) (omega (arith, length-drop k content))

abbrev pub picture : List (List ℕ) → ℕ → PictureValue
picture planes spare_bits = record { planes = planes; spare_bits = spare_bits }

-- what is read after a header is a picture of its tile
pub picture_is : (setup : SetupValue) (tile : ℕ) (content : List ℕ) (head : SliceHead) (place : ℕ) (bits rest : List Bool) (planes : List (List ℕ))
    (spare_bits : ℕ) → IsHeadOf (header_limits setup) content (tile == 0) head place → head.tile ≡ tile
    → bits ≡ bits_of (take (length content - place) (drop place content)) → ArePlanesRead setup head bits planes rest → spare_bits ≡ length rest
    → IsPictureOf setup tile content (picture planes spare_bits)
picture_is setup tile content head place bits rest planes spare_bits is_head of_tile later read spare = record {
  head = head;
  place = place;
  is_head = is_head;
  of_tile = of_tile;
  planes = subst (λ (t : ℕ). ArePlanesOf setup t planes) of_tile read.sizes;
  words = read.words;
  spare = rest;
  begins = sym (later ∙ ap bits_of (after_place place content)) ∙ read.begins;
  spells = read.spells;
  spare_bits = spare;
}

-- the planes of a picture, as they are read after the header
pub picture_read : (setup : SetupValue) (tile : ℕ) (content : List ℕ) (pic : PictureValue) (head : SliceHead) (place : ℕ)
    → (p : IsPictureOf setup tile content pic) → p.head ≡ head → p.place ≡ place
    → ArePlanesRead setup head (bits_of (drop place content)) pic.planes p.spare
picture_read setup tile content pic head place p same_head same_place =
    let read : ArePlanesRead setup p.head (bits_of (drop p.place content)) pic.planes p.spare =
    record { sizes = subst (λ (t : ℕ). ArePlanesOf setup t pic.planes) (sym p.of_tile) p.planes; words = p.words; begins = p.begins; spells = p.spells } in
    subst (λ (k : ℕ). ArePlanesRead setup head (bits_of (drop k content)) pic.planes p.spare) same_place
    (subst (λ (h : SliceHead). ArePlanesRead setup h (bits_of (drop p.place content)) pic.planes p.spare) same_head read)

pub one_reading_is : OneReading
one_reading_is = record {
  planes = λ setup head planes others words more rest tail profile inside sizes sizes_too spells spells_too same.
      one_picture setup head profile inside (words ++ rest) rest tail planes others
      (record { sizes = sizes; words = words; begins = refl; spells = spells })
      (record { sizes = sizes_too; words = more; begins = same; spells = spells_too });
  pictures = λ setup tile content pic other profile inside a b.
      let one = head_is_one (header_limits setup) content (tile == 0) a.head b.head a.place b.place a.is_head b.is_head in
      let a_read = picture_read setup tile content pic a.head a.place a refl refl in
      let b_read = picture_read setup tile content other a.head a.place b (sym one.0) (sym one.1) in
      let same = one_picture setup a.head profile (subst (λ (t : ℕ). t < tile_count (grid_of setup)) (sym a.of_tile) inside)
      (bits_of (drop a.place content)) a.spare b.spare pic.planes other.planes a_read b_read in
      picture_same pic other same.0 (a.spare_bits ∙ ap length same.1 ∙ sym b.spare_bits);
}
  where
    picture_same : (p q : PictureValue) → p.planes ≡ q.planes → p.spare_bits ≡ q.spare_bits → p ≡ q
    picture_same p q planes spare = ap (λ l. picture l p.spare_bits) planes ∙ ap (λ n. picture q.planes n) spare
