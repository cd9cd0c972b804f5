-- Lines in coded order, and their bits.
use Rattle.std.proofs.Common.{◌≡◌, ◌≢◌, ℕ, zero, suc, ◌+◌, ◌<◌, ◌≤◌, Bool, false, cond, eqb, eq-eqb, List, [], ◌∷◌, ◌++◌, refl, sym, ap, ◌∙◌, subst, arith, append_assoc, ⊎_elim, ℤ}
use Rattle.std.specs.Prelude.{◌==◌, if◌then◌else◌}
use Rattle.std.proofs.lemmas.Bool.{cases_eq, ne_eqb}
use Rattle.std.proofs.lemmas.List.{append-nil}
use Rattle.ffv1_plane.specs.Spelling.{residuals_of, values_after, RowSpells}
use Rattle.ffv1_plane.specs.Lines.{Line, line_at, lines_of_plane, plane_after_plane, CodedPlanes, first_index, values_after_line, values_after_lines, LinesSpell}
use Rattle.ffv1_plane.specs.Inner.PlaneRows.{values_after_rows, RowsSpell}
use Rattle.ffv1_plane.proofs.Totals.{row_bits}

-- ---- lines after lines

pub values_after_append : (c : CodedPlanes) (values : ℕ → ℕ → List ℤ) (before lines : List Line)
    → values_after_lines c values (before ++ lines) ≡ values_after_lines c (values_after_lines c values before) lines
unfolding values_after_lines
values_after_append c values [] lines = refl
values_after_append c values (line ∷ before) lines = values_after_append c (values_after_line c values line) before lines

pub lines_append : (c : CodedPlanes) (values : ℕ → ℕ → List ℤ) (index between next : ℕ) (before lines : List Line) (front back : List Bool)
    → LinesSpell c values index before front between → LinesSpell c (values_after_lines c values before) between lines back next
    → LinesSpell c values index (before ++ lines) (front ++ back) next
unfolding LinesSpell values_after_lines
lines_append c values index between next [] lines front back (none, same) k =
    let P : ℕ → Type 0 = λ i. LinesSpell c values i lines back next in
    let Q : List Bool → Type 0 = λ l. LinesSpell c values index lines (l ++ back) next in
    subst Q (sym none) (subst P same k)
lines_append c values index between next (line ∷ before) lines front back (first, others, i, joined, row, rest) k = (
  first,
  others ++ back,
  i,
  ap (λ l. l ++ back) joined ∙ append_assoc first others back,
  row,
  lines_append c (values_after_line c values line) i between next before lines others back rest k,
)

-- one line
pub line_spells : (c : CodedPlanes) (values : ℕ → ℕ → List ℤ) (index next : ℕ) (line : Line) (bits : List Bool)
    → RowSpells (values (c.group line.plane)) (residuals_of (c.plane line.plane) line.row) (first_index c index line) bits next
    → LinesSpell c values index (line ∷ []) bits next
unfolding LinesSpell
line_spells c values index next line bits row = (bits, [], next, sym (append-nil bits), row, (refl, refl))

-- each list of lines has a spelling
pub lines_bits : (c : CodedPlanes) (values : ℕ → ℕ → List ℤ) (index : ℕ) (lines : List Line) → (bits : List Bool) × (next : ℕ)
    × LinesSpell c values index lines bits next
unfolding LinesSpell
lines_bits c values index [] = ([], index, (refl, refl))
lines_bits c values index (line ∷ lines) =
    let row = row_bits (values (c.group line.plane)) (residuals_of (c.plane line.plane) line.row) (first_index c index line) in
    let rest = lines_bits c (values_after_line c values line) row.1 lines in
    (row.0 ++ rest.0, rest.1, (row.0, rest.0, row.1, refl, row.2, rest.2))

-- ---- the rows of one plane

module _ (c : CodedPlanes) (values : ℕ → ℕ → List ℤ) (plane : ℕ) where
  -- one row more
  values_row : (count group : ℕ) → values_after_lines c values (lines_of_plane plane (suc count)) group ≡ cond (eqb group (c.group plane))
      (values_after (values_after_lines c values (lines_of_plane plane count) group) (residuals_of (c.plane plane) count))
      (values_after_lines c values (lines_of_plane plane count) group)
  unfolding lines_of_plane values_after_lines values_after_line
  values_row count group = ap (λ f. f group) (values_after_append c values (lines_of_plane plane count) (line_at plane count ∷ []))

  pub values_of_rows : (count : ℕ) → values_after_lines c values (lines_of_plane plane count) (c.group plane)
      ≡ values_after_rows (values (c.group plane)) (c.plane plane) count
  unfolding lines_of_plane values_after_lines values_after_rows
  values_of_rows zero = refl
  values_of_rows (suc count) =
      let r = residuals_of (c.plane plane) count in
      let now = values_after_lines c values (lines_of_plane plane count) (c.group plane) in
      values_row count (c.group plane)
      ∙ ap (λ b. cond b (values_after now r) now) (eq-eqb (c.group plane) (c.group plane) refl)
      ∙ ap (λ v. values_after v r) (values_of_rows count)

  pub values_elsewhere : (count group : ℕ) → group ≢ c.group plane → values_after_lines c values (lines_of_plane plane count) group ≡ values group
  unfolding lines_of_plane values_after_lines
  values_elsewhere zero group other = refl
  values_elsewhere (suc count) group other =
      let r = residuals_of (c.plane plane) count in
      let now = values_after_lines c values (lines_of_plane plane count) group in
      values_row count group ∙ ap (λ b. cond b (values_after now r) now) (ne_eqb group (c.group plane) other) ∙ values_elsewhere count group other

  -- the rows of a plane at whose top the run index starts anew
  pub rows_spell : ((row : ℕ) → c.is_anew (line_at plane row) ≡ (row == 0)) → (index count : ℕ) (bits : List Bool) (next : ℕ)
      → RowsSpell (values (c.group plane)) (c.plane plane) count bits next
      → (last : ℕ) × LinesSpell c values index (lines_of_plane plane count) bits last × (first_index c last (line_at plane count) ≡ next)
  unfolding lines_of_plane LinesSpell RowsSpell
  rows_spell anew index zero bits next (none, start) = (
    index,
    (none, refl),
    ap (λ b. cond b 0 index) (anew zero) ∙ sym start,
  )
  rows_spell anew index (suc count) bits next (front, back, i, joined, rows, row) =
      let before = rows_spell anew index count front i rows in
      let P : (ℕ → List ℤ) → Type 0 = λ v. RowSpells v (residuals_of (c.plane plane) count) i back next in
      let Q : ℕ → Type 0 = λ k. RowSpells (values_after_lines c values (lines_of_plane plane count) (c.group plane)) (residuals_of (c.plane plane) count) k back next in
      let here = line_spells c (values_after_lines c values (lines_of_plane plane count)) before.0 next (line_at plane count) back
      (subst Q (sym before.2) (subst P (sym (values_of_rows count)) row)) in
      let all = lines_append c values index before.0 next (lines_of_plane plane count) (line_at plane count ∷ []) front back before.1 here in
      let R : List Bool → Type 0 = λ l. LinesSpell c values index (lines_of_plane plane count ++ line_at plane count ∷ []) l next in
      let later : c.is_anew (line_at plane (suc count)) ≡ false = anew (suc count) ∙ (let no : eqb (suc count) 0 ≡ false = grind arith in no) in
      (next, subst R (sym joined) all, ap (λ b. cond b 0 next) later)

-- ---- plane after plane

-- one plane more
pub planes_spell : (c : CodedPlanes) (values : ℕ → ℕ → List ℤ) (height : ℕ → ℕ) (index between count : ℕ) (front back : List Bool) (next : ℕ)
    → ((row : ℕ) → c.is_anew (line_at count row) ≡ (row == 0)) → LinesSpell c values index (plane_after_plane height count) front between
    → RowsSpell (values_after_lines c values (plane_after_plane height count) (c.group count)) (c.plane count) (height count) back next
    → (last : ℕ) × LinesSpell c values index (plane_after_plane height (suc count)) (front ++ back) last
unfolding plane_after_plane
planes_spell c values height index between count front back next anew before rows =
    let plane = rows_spell c (values_after_lines c values (plane_after_plane height count)) count anew between (height count) back next rows in
    (plane.0, lines_append c values index between plane.0 (plane_after_plane height count) (lines_of_plane count (height count)) front back before plane.1)

-- a row among those of its plane
pub rows_split : (plane y count : ℕ) → y < count → (later : List Line) × (lines_of_plane plane count ≡ lines_of_plane plane y ++ line_at plane y ∷ later)
unfolding lines_of_plane
rows_split plane y zero less = absurd (omega arith)
rows_split plane y (suc count) less = ⊎_elim
    (λ same. ([], ap (λ k. lines_of_plane plane k ++ line_at plane k ∷ []) (sym same)))
    (λ other.
    let before = rows_split plane y count (omega arith) in (
      before.0 ++ line_at plane count ∷ [],
      ap (λ l. l ++ line_at plane count ∷ []) before.1
          ∙ append_assoc (lines_of_plane plane y) (line_at plane y ∷ before.0) (line_at plane count ∷ []),
    ))
    (cases_eq y count)

-- and among those of all planes
pub planes_split : (height : ℕ → ℕ) (plane y count : ℕ) → plane < count → y < height plane → (later : List Line)
    × (plane_after_plane height count ≡ (plane_after_plane height plane ++ lines_of_plane plane y) ++ line_at plane y ∷ later)
unfolding plane_after_plane
planes_split height plane y zero there row = absurd (omega arith)
planes_split height plane y (suc count) there row = ⊎_elim
    (λ same.
    let rows = rows_split plane y (height plane) row in (
      rows.0,
      ap (λ k. plane_after_plane height k ++ lines_of_plane k (height k)) (sym same)
          ∙ ap (λ l. plane_after_plane height plane ++ l) rows.1
          ∙ sym (append_assoc (plane_after_plane height plane) (lines_of_plane plane y) (line_at plane y ∷ rows.0)),
    ))
    (λ other.
    let before = planes_split height plane y count (omega arith) row in (
      before.0 ++ lines_of_plane count (height count),
      ap (λ l. l ++ lines_of_plane count (height count)) before.1
          ∙ append_assoc (plane_after_plane height plane ++ lines_of_plane plane y) (line_at plane y ∷ before.0) (lines_of_plane count (height count)),
    ))
    (cases_eq plane count)

-- ---- the rows of each plane in order

-- how many rows of each plane are known with one more of a plane ..
unfoldable pub row_more : (ℕ → ℕ) → ℕ → (ℕ → ℕ)
row_more known plane n = if n == plane then suc (known n) else known n

-- .. and with some lines more
unfoldable pub rows_known : (ℕ → ℕ) → List Line → (ℕ → ℕ)
rows_known known [] = known
rows_known known (line ∷ lines) = rows_known (row_more known line.plane) lines

-- Each line is the row of its plane after those that are known.
unfoldable pub AreRowsInOrder : (ℕ → ℕ) → List Line → Type 0
AreRowsInOrder known [] = Unit {0}
AreRowsInOrder known (line ∷ lines) = (line.row ≡ known line.plane) × AreRowsInOrder (row_more known line.plane) lines

pub known_append : (known : ℕ → ℕ) (before lines : List Line) → rows_known known (before ++ lines) ≡ rows_known (rows_known known before) lines
unfolding rows_known
known_append known [] lines = refl
known_append known (line ∷ before) lines = known_append (row_more known line.plane) before lines

pub order_append : (known : ℕ → ℕ) (before lines : List Line) → AreRowsInOrder known before → AreRowsInOrder (rows_known known before) lines
    → AreRowsInOrder known (before ++ lines)
unfolding rows_known AreRowsInOrder
order_append known [] lines h k = k
order_append known (line ∷ before) lines h k = (h.0, order_append (row_more known line.plane) before lines h.1 k)

pub known_row : (known : ℕ → ℕ) (plane count n : ℕ) → rows_known known (lines_of_plane plane (suc count)) n ≡ cond (eqb n plane)
    (suc (rows_known known (lines_of_plane plane count) n)) (rows_known known (lines_of_plane plane count) n)
unfolding lines_of_plane rows_known row_more
known_row known plane count n = ap (λ f. f n) (known_append known (lines_of_plane plane count) (line_at plane count ∷ []))

known_there : (known : ℕ → ℕ) (plane count : ℕ) → rows_known known (lines_of_plane plane count) plane ≡ known plane + count
unfolding lines_of_plane rows_known
known_there known plane zero = omega arith
known_there known plane (suc count) =
    let before = known_there known plane count in
    let now = rows_known known (lines_of_plane plane count) plane in
    let more : suc now ≡ known plane + suc count = omega arith in
    known_row known plane count plane ∙ ap (λ b. cond b (suc now) now) (eq-eqb plane plane refl) ∙ more

known_elsewhere : (known : ℕ → ℕ) (plane count n : ℕ) → n ≢ plane → rows_known known (lines_of_plane plane count) n ≡ known n
unfolding lines_of_plane rows_known
known_elsewhere known plane zero n other = refl
known_elsewhere known plane (suc count) n other =
    let now = rows_known known (lines_of_plane plane count) n in
    known_row known plane count n ∙ ap (λ b. cond b (suc now) now) (ne_eqb n plane other) ∙ known_elsewhere known plane count n other

order_rows : (known : ℕ → ℕ) (plane count : ℕ) → known plane ≡ 0 → AreRowsInOrder known (lines_of_plane plane count)
unfolding lines_of_plane AreRowsInOrder
order_rows known plane zero none = tt
order_rows known plane (suc count) none =
    let there = known_there known plane count in
    order_append known (lines_of_plane plane count) (line_at plane count ∷ []) (order_rows known plane count none)
    ((let k : count ≡ rows_known known (lines_of_plane plane count) plane = omega arith in k), tt)

abbrev pub none_known : ℕ → ℕ
none_known n = 0

pub known_past : (height : ℕ → ℕ) (count n : ℕ) → count ≤ n → rows_known none_known (plane_after_plane height count) n ≡ 0
unfolding plane_after_plane rows_known
known_past height zero n past = refl
known_past height (suc count) n past =
    ap (λ f. f n) (known_append none_known (plane_after_plane height count) (lines_of_plane count (height count)))
    ∙ known_elsewhere (rows_known none_known (plane_after_plane height count)) count (height count) n (λ e. absurd (omega arith))
    ∙ known_past height count n (omega arith)

pub known_planes : (height : ℕ → ℕ) (count n : ℕ) → n < count → rows_known none_known (plane_after_plane height count) n ≡ height n
unfolding plane_after_plane rows_known
known_planes height zero n less = absurd (omega arith)
known_planes height (suc count) n less =
    let known = rows_known none_known (plane_after_plane height count) in
    ap (λ f. f n) (known_append none_known (plane_after_plane height count) (lines_of_plane count (height count)))
    ∙ ⊎_elim
    (λ same.
    let none : known count ≡ 0 = known_past height count count (omega arith) in
    let there : rows_known known (lines_of_plane count (height count)) count ≡ known count + height count = known_there known count (height count) in
    let all : rows_known known (lines_of_plane count (height count)) count ≡ height count = omega arith in
    subst (λ (k : ℕ). rows_known known (lines_of_plane count (height count)) k ≡ height k) (sym same) all)
    (λ other. known_elsewhere known count (height count) n other ∙ known_planes height count n (omega arith))
    (cases_eq n count)

pub order_planes : (height : ℕ → ℕ) (count : ℕ) → AreRowsInOrder none_known (plane_after_plane height count)
unfolding plane_after_plane AreRowsInOrder
order_planes height zero = tt
order_planes height (suc count) =
    order_append none_known (plane_after_plane height count) (lines_of_plane count (height count)) (order_planes height count)
    (order_rows (rows_known none_known (plane_after_plane height count)) count (height count) (known_past height count count (omega arith)))
