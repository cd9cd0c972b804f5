-- A content that is stuck spells no picture, and is stuck at one sample.
use Rattle.std.proofs.Common.{◌≡◌, ◌≢◌, ℕ, ◌<◌, Bool, List, ◌++◌, drop, refl, sym, ap, ◌∙◌, subst, arith, append_assoc}
use Rattle.std.specs.Prelude.{◌==◌, Err}
use Rattle.ffv1_rice.proofs.Depths.{bytes}
use Rattle.ffv1_bits.specs.Bits.{bits_of}
use Rattle.ffv1_range.specs.Header.{IsHeadOf, header_limits, head_read}
use Rattle.ffv1_range.specs.Setup.{SetupValue, IsInProfile, set_entry}
use Rattle.ffv1_range.specs.Tiles.{grid_of, tile_count, plane_count, plane_rect}
use Rattle.ffv1_range.specs.declared.head.HeadFault.{HeadFault}
use Rattle.ffv1_range.specs.declared.head.SliceHead.{SliceHead}
use Rattle.ffv1_range.proofs.HeaderFound.{head_run}
use Rattle.ffv1_rice.specs.declared.code.CodeFault.{CodeFault}
use Rattle.ffv1_plane.specs.Samples.{Coding, coding_at}
use Rattle.ffv1_plane.specs.Picture.{PictureValue, ArePlanesOf, samples_of, plane_set, plane_group, picture_planes, plane_height, picture_lines, no_values, PictureSpells, IsPictureOf}
use Rattle.ffv1_plane.specs.Stuck.{AreBitsStuck, IsStuckAt}
use Rattle.ffv1_plane.specs.StuckLaws.{StuckSpellsNothing, IsOnePlace, StuckIsOne, IsRefusedFor, OneResult}
use Rattle.ffv1_plane.specs.declared.tile.TileFault.{TileFault}
use Rattle.ffv1_plane.specs.declared.tile.TileFault.TheVariants.{Head, OtherTile, Code, Memory}
use Rattle.ffv1_plane.proofs.CodedLines.{none_known, order_planes}
use Rattle.ffv1_plane.proofs.OneLines.{AreLinesStuck, AreKnownSame, stuck_excludes, stuck_one}
use Rattle.ffv1_plane.proofs.Pictures.{some_columns, bytes_of_planes, head_is_one}

-- the lines of a picture at which bits are stuck
lines_stuck : (setup : SetupValue) (head : SliceHead) (planes : List (List ℕ)) (bits front : List Bool) (fault : CodeFault) (plane y x : ℕ)
    → AreBitsStuck setup head planes bits fault plane y x front
    → AreLinesStuck (picture_planes setup head planes) (λ group. no_values) 0 (picture_lines setup head.tile) bits fault plane y x
lines_stuck setup head planes bits front fault plane y x stuck = record {
  before = stuck.before;
  later = stuck.later;
  lines_are = stuck.lines;
  whole = stuck.whole;
  between = stuck.index;
  spells = stuck.spells;
  part = stuck.part;
  others = stuck.others;
  begins = stuck.begins ∙ ap (λ l. l ++ stuck.others) stuck.joined ∙ append_assoc stuck.whole stuck.part stuck.others;
  refused = stuck.refused;
}

module _ (setup : SetupValue) (head : SliceHead) (profile : IsInProfile setup) (inside : head.tile < tile_count (grid_of setup))
    (planes others : List (List ℕ)) (sizes : ArePlanesOf setup head.tile planes) (sizes_too : ArePlanesOf setup head.tile others) where
  width : ℕ → ℕ
  width plane = (plane_rect (grid_of setup) head.tile plane).w

  coding : ℕ → Coding
  coding plane = coding_at 8 (set_entry setup (plane_set head plane))

  -- bits that are stuck begin with no picture
  excludes : (bits words spare front : List Bool) (fault : CodeFault) (plane y x : ℕ) → AreBitsStuck setup head planes bits fault plane y x front
      → PictureSpells setup head others words → bits ≡ words ++ spare → ⊥
  unfolding AreKnownSame width coding
  excludes bits words spare front fault plane y x stuck spells begins =
      stuck_excludes plane_group (λ line. line.row == 0) width coding (samples_of planes) (samples_of others)
      (some_columns setup head profile inside) (λ n. bytes) (bytes_of_planes setup head profile inside planes sizes)
      (bytes_of_planes setup head profile inside others sizes_too)
      none_known (λ group. no_values) 0 (picture_lines setup head.tile) bits words spare spells.0 fault plane y x stuck.place.column_there
      (order_planes (plane_height setup head.tile) (plane_count (grid_of setup))) (λ n j less. absurd (omega arith))
      (lines_stuck setup head planes bits front fault plane y x stuck) spells.1 begins

  -- and are stuck at one place
  one_place : (bits front more : List Bool) (fault other : CodeFault) (plane level y v x u : ℕ) → AreBitsStuck setup head planes bits fault plane y x front
      → AreBitsStuck setup head others bits other level v u more → IsOnePlace fault other plane level y v x u
  unfolding AreKnownSame width coding
  one_place bits front more fault other plane level y v x u stuck stuck_too =
      stuck_one plane_group (λ line. line.row == 0) width coding (samples_of planes) (samples_of others)
      (some_columns setup head profile inside) (λ n. bytes) (bytes_of_planes setup head profile inside planes sizes)
      (bytes_of_planes setup head profile inside others sizes_too)
      none_known (λ group. no_values) 0 (picture_lines setup head.tile) bits fault other plane level y v x u stuck.place.column_there
      stuck_too.place.column_there
      (order_planes (plane_height setup head.tile) (plane_count (grid_of setup))) (λ n j less. absurd (omega arith))
      (lines_stuck setup head planes bits front fault plane y x stuck) (lines_stuck setup head others bits more other level v u stuck_too)

-- ---- contents

-- what stands after one header
record StuckAfterHead (setup : SetupValue) (head : SliceHead) (place tile : ℕ) (content : List ℕ) (fault : CodeFault) (plane y x : ℕ) : Type 0 where
  planes : List (List ℕ)
  sizes : ArePlanesOf setup head.tile planes
  front : List Bool
  stuck : AreBitsStuck setup head planes (bits_of (drop place content)) fault plane y x front

stuck_after_head : (setup : SetupValue) (tile : ℕ) (content : List ℕ) (fault : CodeFault) (plane y x : ℕ) (head : SliceHead) (place : ℕ)
    → IsHeadOf (header_limits setup) content (tile == 0) head place
    → IsStuckAt setup tile content fault plane y x → StuckAfterHead setup head place tile content fault plane y x
stuck_after_head setup tile content fault plane y x head place is_head a =
    let one = head_is_one (header_limits setup) content (tile == 0) a.head head a.place place a.is_head is_head in
    let here : StuckAfterHead setup a.head a.place tile content fault plane y x =
    record { planes = a.planes; sizes = subst (λ (t : ℕ). ArePlanesOf setup t a.planes) (sym a.of_tile) a.sizes; front = a.front; stuck = a.stuck } in
    subst (λ (h : SliceHead). StuckAfterHead setup h place tile content fault plane y x) one.0
    (subst (λ (k : ℕ). StuckAfterHead setup a.head k tile content fault plane y x) one.1 here)

pub stuck_spells_nothing : StuckSpellsNothing
stuck_spells_nothing setup tile content fault plane y x picture profile inside stuck p =
    let a = stuck_after_head setup tile content fault plane y x p.head p.place p.is_head stuck in
    let there : p.head.tile < tile_count (grid_of setup) = subst (λ (t : ℕ). t < tile_count (grid_of setup)) (sym p.of_tile) inside in
    excludes setup p.head profile there a.planes picture.planes a.sizes (subst (λ (t : ℕ). ArePlanesOf setup t picture.planes) (sym p.of_tile) p.planes)
    (bits_of (drop p.place content)) p.words p.spare a.front fault plane y x a.stuck p.spells p.begins

pub stuck_is_one : StuckIsOne
stuck_is_one setup tile content fault other plane level y v x u profile inside stuck p =
    let a = stuck_after_head setup tile content fault plane y x p.head p.place p.is_head stuck in
    let b = stuck_after_head setup tile content other level v u p.head p.place p.is_head p in
    let there : p.head.tile < tile_count (grid_of setup) = subst (λ (t : ℕ). t < tile_count (grid_of setup)) (sym p.of_tile) inside in
    one_place setup p.head profile there a.planes b.planes a.sizes b.sizes (bits_of (drop p.place content)) a.front b.front fault other plane level y v x u
    a.stuck b.stuck

-- ---- results

-- a content with a header has no fault of the header, and no other header
no_head_fault : (setup : SetupValue) (tile : ℕ) (content : List ℕ) (fault : HeadFault) (head : SliceHead) (place : ℕ)
    → head_read (header_limits setup) content (tile == 0) ≡ Err fault → IsHeadOf (header_limits setup) content (tile == 0) head place → ⊥
no_head_fault setup tile content fault head place given is = let read = head_run (header_limits setup) content (tile == 0) head place is in cc

no_other_tile : (setup : SetupValue) (tile : ℕ) (content : List ℕ) (head other : SliceHead) (place at : ℕ)
    → IsHeadOf (header_limits setup) content (tile == 0) head place → head.tile ≢ tile → IsHeadOf (header_limits setup) content (tile == 0) other at
    → other.tile ≡ tile → ⊥
no_other_tile setup tile content head other place at is differs also same =
    let one = head_is_one (header_limits setup) content (tile == 0) head other place at is also in
    differs (ap (λ h. h.tile) one.0 ∙ same)

same_head_fault : (setup : SetupValue) (tile : ℕ) (content : List ℕ) (fault other : HeadFault)
    → head_read (header_limits setup) content (tile == 0) ≡ Err fault → head_read (header_limits setup) content (tile == 0) ≡ Err other → fault ≡ other
same_head_fault setup tile content fault other a b = cc

same_code : (fault other : CodeFault) (plane level y v x u : ℕ) → IsOnePlace fault other plane level y v x u → Code fault plane y x ≡ Code other level v u
same_code fault other plane level y v x u one = let f = one.fault_same in let p = one.plane_same in let r = one.row_same in let c = one.column_same in cc

pub one_result : OneResult
one_result = record { no_picture = no_picture; one_fault = one_fault }
  where
    no_picture : (setup : SetupValue) (tile : ℕ) (content : List ℕ) (fault : TileFault) (picture : PictureValue) → IsInProfile setup
        → tile < tile_count (grid_of setup)
        → IsRefusedFor setup tile content fault → IsPictureOf setup tile content picture → ⊥
    no_picture setup tile content (Head fault) picture profile inside a p = no_head_fault setup tile content fault p.head p.place a p.is_head
    no_picture setup tile content OtherTile picture profile inside a p = no_other_tile setup tile content a.0 p.head a.1 p.place a.2 a.3 p.is_head p.of_tile
    no_picture setup tile content (Code fault plane y x) picture profile inside a p =
        stuck_spells_nothing setup tile content fault plane y x picture profile inside a p
    no_picture setup tile content Memory picture profile inside a p = a

    one_fault : (setup : SetupValue) (tile : ℕ) (content : List ℕ) (fault other : TileFault) → IsInProfile setup → tile < tile_count (grid_of setup)
        → IsRefusedFor setup tile content fault → IsRefusedFor setup tile content other → fault ≡ other
    one_fault setup tile content (Head fault) (Head other) profile inside a b = ap Head (same_head_fault setup tile content fault other a b)
    one_fault setup tile content (Head fault) OtherTile profile inside a b = absurd (no_head_fault setup tile content fault b.0 b.1 a b.2)
    one_fault setup tile content (Head fault) (Code other level v u) profile inside a b =
        absurd (no_head_fault setup tile content fault b.head b.place a b.is_head)
    one_fault setup tile content (Head fault) Memory profile inside a b = absurd b
    one_fault setup tile content OtherTile (Head other) profile inside a b = absurd (no_head_fault setup tile content other a.0 a.1 b a.2)
    one_fault setup tile content OtherTile OtherTile profile inside a b = refl
    one_fault setup tile content OtherTile (Code other level v u) profile inside a b =
        absurd (no_other_tile setup tile content a.0 b.head a.1 b.place a.2 a.3 b.is_head b.of_tile)
    one_fault setup tile content OtherTile Memory profile inside a b = absurd b
    one_fault setup tile content (Code fault plane y x) (Head other) profile inside a b =
        absurd (no_head_fault setup tile content other a.head a.place b a.is_head)
    one_fault setup tile content (Code fault plane y x) OtherTile profile inside a b =
        absurd (no_other_tile setup tile content b.0 a.head b.1 a.place b.2 b.3 a.is_head a.of_tile)
    one_fault setup tile content (Code fault plane y x) (Code other level v u) profile inside a b =
        same_code fault other plane level y v x u (stuck_is_one setup tile content fault other plane level y v x u profile inside a b)
    one_fault setup tile content (Code fault plane y x) Memory profile inside a b = absurd b
    one_fault setup tile content Memory other profile inside a b = absurd a
