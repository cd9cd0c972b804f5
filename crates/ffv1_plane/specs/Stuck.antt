-- Where the content of a slice can't be read on (RFC 9043, section 3.8.2). As in Spelling, all is said of a whole picture
-- and its bits: those of its words that start before a sample are there, and a word that is due at the sample isn't.
use Rattle.std.specs.Prelude.{◌≡◌, ℕ, ◌+◌, ◌<◌, ◌≤◌, ◌==◌, ◌⊎◌, Bool, true, false, List, [], ◌∷◌, ◌++◌, drop, ℤ}
use Rattle.ffv1_bits.specs.Bits.{bits_of}
use Rattle.ffv1_range.specs.Header.{IsHeadOf, header_limits}
use Rattle.ffv1_range.specs.Setup.{SetupValue}
use Rattle.ffv1_range.specs.Tiles.{grid_of, plane_count, plane_rect}
use Rattle.ffv1_range.specs.declared.head.SliceHead.{SliceHead}
use Rattle.ffv1_rice.specs.Codes.{IsCodeFault}
use Rattle.ffv1_rice.specs.Runs.{whole_length, SpellsRun, IsShortWord}
use Rattle.ffv1_rice.specs.declared.code.CodeFault.{CodeFault}
use Rattle.ffv1_rice.specs.declared.code.CodeFault.TheVariants.{Truncated}
use Rattle.ffv1_plane.specs.Spelling.{Residuals, residuals_of, is_in_run, is_coded, starts_run, left_in_line, run_length, context_number, state_before, SamplesSpell}
use Rattle.ffv1_plane.specs.Lines.{Line, line_at, first_index, values_after_lines, LinesSpell}
use Rattle.ffv1_plane.specs.Picture.{ArePlanesOf, tile_plane, picture_planes, picture_lines, no_values, PictureSpells}

-- ---- the words before a word of a run

-- SpellsFront n i bits next: the first words of a run have these bits at the run index i, skip n samples, and leave the
-- index at next, where another word of the run follows. So each of them is a one that stands for a whole length.
pub data SpellsFront : ℕ → ℕ → List Bool → ℕ → Type 0 where
  -- no word yet
  no_word : {n i next : ℕ} {bits : List Bool} → n ≡ 0 → bits ≡ [] → next ≡ i → SpellsFront n i bits next
  -- a one stands for a whole length, and the index rises
  one_word : {n i next : ℕ} {bits : List Bool} (m : ℕ) (others : List Bool) → n ≡ whole_length i + m → bits ≡ true ∷ others
      → SpellsFront m (i + 1) others next → SpellsFront n i bits next

-- A word of a run is due at column x, at a run index, in a row that begins at run index `first`. Each word starts at the
-- first sample not yet skipped: words of the run have skipped those from its start up to x, which lies in the row. The bits
-- are those of the row's words before x.
pub record IsRunWordDue (earlier : ℕ → List ℤ) (r : Residuals) (first x : ℕ) (bits : List Bool) (index : ℕ) : Type 0 where
  pub start : ℕ
  pub skipped : ℕ
  pub place : x ≡ start + skipped
  pub starts : starts_run r start ≡ true
  pub in_run : skipped ≤ run_length r start
  pub in_line : skipped < left_in_line r start
  pub before : List Bool
  pub begun : ℕ
  pub spells : SamplesSpell earlier r first start before begun
  pub words : List Bool
  pub front : SpellsFront skipped begun words index
  pub joined : bits ≡ before ++ words

-- ---- the words before a code

-- A code is due at column x, whose sample is coded, in a row that begins at run index `first`. The bits are those of the
-- row's words before the code: all words that start before x, and for a level those of its run.
pub record IsCodeDue (earlier : ℕ → List ℤ) (r : Residuals) (first x : ℕ) (bits : List Bool) : Type 0 where
  pub coded : is_coded r x ≡ true
  pub before : List Bool
  pub index : ℕ
  pub spells : SamplesSpell earlier r first x before index
  pub run : List Bool
  pub next : ℕ
  pub run_starts : starts_run r x ≡ true → SpellsRun (run_length r x) (left_in_line r x) index run next
  pub no_run_starts : starts_run r x ≡ false → (run ≡ []) × (next ≡ index)
  pub joined : bits ≡ before ++ run

-- ---- words that can't be read

-- After these bits of a row a word of a run is due at column x, and the others end within it.
abbrev pub IsRunWordShort : (ℕ → List ℤ) → Residuals → ℕ → ℕ → List Bool → List Bool → Type 0
IsRunWordShort earlier r first x bits others = (index : ℕ) × IsRunWordDue earlier r first x bits index × IsShortWord index others

-- After these bits of a row a code is due at column x, and the others end within it or begin with what no sample has.
abbrev pub IsCodeRefused : (ℕ → List ℤ) → Residuals → ℕ → ℕ → List Bool → List Bool → CodeFault → Type 0
IsCodeRefused earlier r first x bits others fault =
    IsCodeDue earlier r first x bits × IsCodeFault r.depth (state_before earlier r (context_number r x) x) (is_in_run r x) others fault

-- After these bits of a row no word of column x can be read, for this fault.
abbrev pub IsWordRefused : (ℕ → List ℤ) → Residuals → ℕ → ℕ → List Bool → List Bool → CodeFault → Type 0
IsWordRefused earlier r first x bits others fault =
    ((fault ≡ Truncated) × IsRunWordShort earlier r first x bits others) ⊎ IsCodeRefused earlier r first x bits others fault

-- ---- whole pictures

-- The place of a fault: a sample of a plane of a tile, by its row and its column.
pub record IsPlaceIn (setup : SetupValue) (tile plane y x : ℕ) : Type 0 where
  pub plane_there : plane < plane_count (grid_of setup)
  pub row_there : y < (plane_rect (grid_of setup) tile plane).h
  pub column_there : x < (plane_rect (grid_of setup) tile plane).w

-- The bits begin with the lines before row y of a plane and with those words of that row that start before column x, and
-- then no word of that sample can be read, for this fault. `front` is what stands before it.
pub record AreBitsStuck (setup : SetupValue) (head : SliceHead) (planes : List (List ℕ)) (bits : List Bool) (fault : CodeFault) (plane y x : ℕ)
    (front : List Bool) : Type 0 where
  pub place : IsPlaceIn setup head.tile plane y x
  pub before : List Line
  pub later : List Line
  pub lines : picture_lines setup head.tile ≡ before ++ line_at plane y ∷ later
  pub whole : List Bool
  pub index : ℕ
  pub spells : LinesSpell (picture_planes setup head planes) (λ group. no_values) 0 before whole index
  pub part : List Bool
  pub joined : front ≡ whole ++ part
  pub others : List Bool
  pub begins : bits ≡ front ++ others
  pub refused : let c = picture_planes setup head planes in
      IsWordRefused (values_after_lines c (λ group. no_values) before (c.group plane)) (residuals_of (tile_plane setup head planes plane) y)
      (first_index c index (line_at plane y)) x part others fault

-- A content that is stuck at column x of a row, from its first byte on, and which definition says what of it:
--
--     header | lines before the row | words of the row that start before x | a word that can't be read
--            | ------ whole ------- | --------------- part --------------- | others
--            | ------------------------ front ----------------------------   |
--
--     IsStuckAt          the header, and that `front` begins the bits of a picture
--     AreBitsStuck       `whole`, by LinesSpell, and then `part`
--     IsWordRefused      `others`: a word of a run that ends too early (IsRunWordShort), or a code that is refused (IsCodeRefused)
--     IsRunWordDue,      `part`: which word is due at x after it
--     IsCodeDue

-- The content of a slice is stuck at a sample of a tile: it has a header of the tile, and for some picture of the tile and
-- the bits of that picture, those of them before the sample's word begin the bits after the header, and what follows
-- there can't be read, for this fault.
pub record IsStuckAt (setup : SetupValue) (tile : ℕ) (content : List ℕ) (fault : CodeFault) (plane y x : ℕ) : Type 0 where
  pub head : SliceHead
  pub place : ℕ
  pub is_head : IsHeadOf (header_limits setup) content (tile == 0) head place
  pub of_tile : head.tile ≡ tile
  pub planes : List (List ℕ)
  pub sizes : ArePlanesOf setup tile planes
  pub words : List Bool
  pub spells : PictureSpells setup head planes words
  pub front : List Bool
  pub later : List Bool
  pub begins : words ≡ front ++ later
  pub stuck : AreBitsStuck setup head planes (bits_of (drop place content)) fault plane y x front
