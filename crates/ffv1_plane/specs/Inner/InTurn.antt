-- Lines of the planes of a slice that are read one after the other, by whatever reads a row.
use Rattle.std.specs.Prelude.{◌≡◌, ℕ, ◌*◌, ◌<◌, List, [], ◌∷◌, ◌++◌, length}
use Rattle.ffv1_plane.specs.Lines.{Line}
use Rattle.ffv1_plane.specs.Inner.Rows.{RowsRead}
use Rattle.ffv1_plane.specs.Inner.RangeLines.{rows_at, count_in, IsGrown}
use Rattle.ffv1_plane.specs.declared.planes.SlicePlanes.{SlicePlanes}

-- A line stands where its plane was read up to.
pub record IsNextLine (planes : List RowsRead) (line : Line) : Type 0 where
  pub inside : line.plane < length planes
  pub ended : (rows_at planes line.plane).x ≡ 0
  pub place : length (rows_at planes line.plane).samples ≡ line.row * (rows_at planes line.plane).width

-- Each plane has grown by its lines among some ..
pub record HaveGrown (lines : List Line) (old new : List RowsRead) : Type 0 where
  pub count : length new ≡ length old
  pub grown : (p : ℕ) → IsGrown (count_in p lines) (rows_at old p) (rows_at new p)

-- .. or by one line.
abbrev pub HasGrownBy : Line → List RowsRead → List RowsRead → Type 0
HasGrownBy line old new = HaveGrown (line ∷ []) old new

module _ {R : Type 0} (reads : SlicePlanes → R → Line → SlicePlanes → R → Type 0) where
  -- Lines were read one after the other, from planes and a reader to others.
  pub data AreReadInTurn : List Line → SlicePlanes → R → SlicePlanes → R → Type 0 where
    none : (planes : SlicePlanes) (reader : R) → AreReadInTurn [] planes reader planes reader
    more : (lines : List Line) (line : Line) (old mid new : SlicePlanes) (reader between after : R) → AreReadInTurn lines old reader mid between
        → reads mid between line new after → AreReadInTurn (lines ++ line ∷ []) old reader new after

  -- Some were, and the next one is refused.
  pub record AreCutInTurn {F : Type 0} (refuses : SlicePlanes → R → Line → F → Type 0) (lines : List Line) (old : SlicePlanes) (reader : R) (fault : F) : Type 0 where
    pub done : List Line
    pub line : Line
    pub later : List Line
    pub order : lines ≡ done ++ line ∷ later
    pub planes : SlicePlanes
    pub between : R
    pub read : AreReadInTurn done old reader planes between
    pub refused : refuses planes between line fault
