-- A length cut into parts: where each part begins, that each place lies in one part, and so in one tile.
use Rattle.std.proofs.Common.{◌≡◌, ℕ, ◌+◌, ◌-◌, ◌*◌, ◌/◌, ◌%◌, ◌<◌, ◌≤◌, sym, ap, subst, arith}
use Rattle.std.proofs.Math.Nat.{div-lt_iff_lt-mul, le-div_iff_mul-le, div-mul-le_self, lt-div-mul-add, mul-le-mul_right, lt_of_mul-lt-mul_left, div-eq_of_lt-le, mod-add-div', mod-lt}
use Rattle.ffv1_range.specs.Tiles.{GridValue, IsGrid, part_start, tile_rect, IsInside, EachPlaceInOneTile, EachTileInFrame}

-- ---- one direction: part i begins at x or before exactly where i * len < (x + 1) * n

starts_by : (len n i x : ℕ) → 0 < n → i * len < (x + 1) * n → part_start len n i ≤ x
starts_by len n i x some h =
    let below : part_start len n i < x + 1 = (div-lt_iff_lt-mul {k = n} {x = i * len} {y = x + 1} some).1 h in omega arith

started_by : (len n i x : ℕ) → 0 < n → part_start len n i ≤ x → i * len < (x + 1) * n
started_by len n i x some h = (div-lt_iff_lt-mul {k = n} {x = i * len} {y = x + 1} some).0 (omega arith)

starts_after : (len n i x : ℕ) → 0 < n → (x + 1) * n ≤ i * len → x < part_start len n i
starts_after len n i x some h =
    let above : x + 1 ≤ part_start len n i = (le-div_iff_mul-le {k = n} {x = x + 1} {y = i * len} some).1 h in omega arith

started_after : (len n i x : ℕ) → 0 < n → x < part_start len n i → (x + 1) * n ≤ i * len
started_after len n i x some h = (le-div_iff_mul-le {k = n} {x = x + 1} {y = i * len} some).0 (omega arith)

-- the part that place x lies in
part_at : ℕ → ℕ → ℕ → ℕ
part_at len n x = ((x + 1) * n - 1) / len

record LiesInPart (len n i x : ℕ) : Type 0 where
  starts : part_start len n i ≤ x
  ends : x < part_start len n (i + 1)

has_part : (len n x : ℕ) → 0 < n → n ≤ len → x < len → (part_at len n x < n) × LiesInPart len n (part_at len n x) x
unfolding part_at
has_part len n x some fits inside =
    let a = (x + 1) * n in
    let i = (a - 1) / len in
    let positive : 1 ≤ (x + 1) * n = omega arith in
    let low : (((x + 1) * n - 1) / len) * len ≤ (x + 1) * n - 1 = div-mul-le_self ((x + 1) * n - 1) len in
    let high : (x + 1) * n - 1 < (((x + 1) * n - 1) / len) * len + len = lt-div-mul-add {a = (x + 1) * n - 1} {b = len} (omega arith) in
    let most : (x + 1) * n ≤ len * n = mul-le-mul_right {m = x + 1} {n = len} n (omega arith) in
    let few : ((x + 1) * n - 1) / len < n =
    lt_of_mul-lt-mul_left len {m = ((x + 1) * n - 1) / len} {n = n} (omega arith) in (
      few,
      record {
        starts = starts_by len n (((x + 1) * n - 1) / len) x some (omega arith);
        ends = starts_after len n (((x + 1) * n - 1) / len + 1) x some (omega arith);
      },
    )

one_part : (len n x i : ℕ) → 0 < n → n ≤ len → LiesInPart len n i x → part_at len n x ≡ i
unfolding part_at
one_part len n x i some fits lies =
    let low : i * len < (x + 1) * n = started_by len n i x some lies.starts in
    let high : (x + 1) * n ≤ (i + 1) * len = started_after len n (i + 1) x some lies.ends in
    div-eq_of_lt-le {k = i} len {m = (x + 1) * n - 1} (omega arith) (omega arith)

pub parts_rise : (len n i : ℕ) → 0 < n → n ≤ len → part_start len n i < part_start len n (i + 1)
parts_rise len n i some fits =
    let low : i * len / n * n ≤ i * len = div-mul-le_self (i * len) n in
    starts_after len n (i + 1) (part_start len n i) some (omega arith)

pub part_within : (len n i : ℕ) → 0 < n → i ≤ n → part_start len n i ≤ len
part_within len n i some h =
    let most : i * len ≤ n * len = mul-le-mul_right {m = i} {n = n} len h in
    starts_by len n i len some (omega arith)

-- ---- tiles, counted row by row

pub column_of : (across i j : ℕ) → i < across → (j * across + i) % across ≡ i
column_of across i j h =
    let row : (j * across + i) / across ≡ j = div-eq_of_lt-le {k = j} across {m = j * across + i} (omega arith) (omega arith) in
    let whole : (j * across + i) % across + (j * across + i) / across * across ≡ j * across + i = mod-add-div' (j * across + i) across in
    let product : (j * across + i) / across * across ≡ j * across = ap (λ q. q * across) row in
    omega arith

pub row_of : (across i j : ℕ) → i < across → (j * across + i) / across ≡ j
row_of across i j h = div-eq_of_lt-le {k = j} across {m = j * across + i} (omega arith) (omega arith)

-- a tile's row is one of the grid's
pub row_below : (across down t : ℕ) → 0 < across → t < across * down → t / across < down
row_below across down t some h = (div-lt_iff_lt-mul {k = across} {x = t} {y = down} some).1 (omega arith)

pub number_below : (across down i j : ℕ) → i < across → j < down → j * across + i < across * down
number_below across down i j h k =
    let most : (j + 1) * across ≤ down * across = mul-le-mul_right {m = j + 1} {n = down} across (omega arith) in omega arith

-- ---- the laws

inside_of : (g : GridValue) (t x y : ℕ) → IsGrid g → LiesInPart g.width g.across (t % g.across) x → LiesInPart g.height g.down (t / g.across) y
    → IsInside (tile_rect g t) x y
inside_of g t x y is_grid column row =
    let wide : part_start g.width g.across (t % g.across) < part_start g.width g.across (t % g.across + 1) =
    parts_rise g.width g.across (t % g.across) is_grid.some_across is_grid.not_finer_across in
    let high : part_start g.height g.down (t / g.across) < part_start g.height g.down (t / g.across + 1) =
    parts_rise g.height g.down (t / g.across) is_grid.some_down is_grid.not_finer_down in
    record { right_of = column.starts; left_of = omega (arith, column.ends); below = row.starts; above = omega (arith, row.ends) }

column_inside : (g : GridValue) (t x y : ℕ) → IsGrid g → IsInside (tile_rect g t) x y → LiesInPart g.width g.across (t % g.across) x
column_inside g t x y is_grid inside =
    let wide : part_start g.width g.across (t % g.across) < part_start g.width g.across (t % g.across + 1) =
    parts_rise g.width g.across (t % g.across) is_grid.some_across is_grid.not_finer_across in
    record { starts = inside.right_of; ends = omega (arith, inside.left_of) }

row_inside : (g : GridValue) (t x y : ℕ) → IsGrid g → IsInside (tile_rect g t) x y → LiesInPart g.height g.down (t / g.across) y
row_inside g t x y is_grid inside =
    let high : part_start g.height g.down (t / g.across) < part_start g.height g.down (t / g.across + 1) =
    parts_rise g.height g.down (t / g.across) is_grid.some_down is_grid.not_finer_down in
    record { starts = inside.below; ends = omega (arith, inside.above) }

pub each_place : EachPlaceInOneTile
each_place g is_grid x y in_width in_height =
    let i : ℕ = part_at g.width g.across x in
    let j : ℕ = part_at g.height g.down y in
    let column = has_part g.width g.across x is_grid.some_across is_grid.not_finer_across in_width in
    let row = has_part g.height g.down y is_grid.some_down is_grid.not_finer_down in_height in
    let at_column = column_of g.across i j column.0 in
    let at_row = row_of g.across i j column.0 in (
      j * g.across + i,
      number_below g.across g.down i j column.0 row.0,
      inside_of g (j * g.across + i) x y is_grid (subst (λ q. LiesInPart g.width g.across q x) (sym at_column) column.1)
          (subst (λ q. LiesInPart g.height g.down q y) (sym at_row) row.1),
      λ other below inside.
          let same_column : part_at g.width g.across x ≡ other % g.across =
          one_part g.width g.across x (other % g.across) is_grid.some_across is_grid.not_finer_across (column_inside g other x y is_grid inside) in
          let same_row : part_at g.height g.down y ≡ other / g.across =
          one_part g.height g.down y (other / g.across) is_grid.some_down is_grid.not_finer_down (row_inside g other x y is_grid inside) in
          let whole : other % g.across + other / g.across * g.across ≡ other = mod-add-div' other g.across in
          let product : part_at g.height g.down y * g.across ≡ other / g.across * g.across = ap (λ q. q * g.across) same_row in
          omega arith,
    )

pub each_tile : EachTileInFrame
each_tile g is_grid t below =
    let column : t % g.across < g.across = mod-lt t is_grid.some_across in
    let row : t / g.across < g.down = row_below g.across g.down t is_grid.some_across below in
    let wide : part_start g.width g.across (t % g.across) < part_start g.width g.across (t % g.across + 1) =
    parts_rise g.width g.across (t % g.across) is_grid.some_across is_grid.not_finer_across in
    let high : part_start g.height g.down (t / g.across) < part_start g.height g.down (t / g.across + 1) =
    parts_rise g.height g.down (t / g.across) is_grid.some_down is_grid.not_finer_down in
    let in_width : part_start g.width g.across (t % g.across + 1) ≤ g.width = part_within g.width g.across (t % g.across + 1) is_grid.some_across
    (omega arith) in
    let in_height : part_start g.height g.down (t / g.across + 1) ≤ g.height = part_within g.height g.down (t / g.across + 1) is_grid.some_down (omega arith) in
    record { some_columns = omega arith; some_rows = omega arith; in_width = omega arith; in_height = omega arith }
