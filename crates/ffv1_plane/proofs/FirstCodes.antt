-- The first rows of planes of Golomb-Rice codes stand alone.
use Rattle.std.proofs.Common.{◌≡◌, ℕ, ◌*◌, ◌^◌, ◌<◌, ◌≤◌, Bool, true, List, [], ◌∷◌, ◌++◌, length, get_or, inl, inr, refl, sym, ap, ◌∙◌, subst, arith, append_assoc, ℤ}
use Rattle.std.specs.Prelude.{◌==◌, if◌then◌else◌, slice_index, slice_index_or}
use Rattle.std.specs.List.{All}
use Rattle.std.proofs.Math.Path.{fun_ext}
use Rattle.std.proofs.Math.Nat.{mul_comm, mul-le-mul_right}
use Rattle.std.proofs.lemmas.Bool.{cases_lt}
use Rattle.std.proofs.lemmas.List.{get_or-map, get_or_past, length-map}
use Rattle.std.proofs.lemmas.Nat.{pow_pos}
use Rattle.ffv1_range.specs.Setup.{RecordingValue, set_entry}
use Rattle.ffv1_plane.specs.Samples.{Plane, plane_of, coding_at, IsPlaneOfSize}
use Rattle.ffv1_plane.specs.Lines.{Line, line_at, CodedPlanes, first_index, values_after_line, LinesSpell, row_after_row}
use Rattle.ffv1_plane.specs.RangeSlices.{slice_shape, lines_of, size_at, height_at, no_size, coded_depth_of, group_at, slice_plane, ArePlanesOfSizes}
use Rattle.ffv1_plane.specs.RangeReading.{IsPlaneSize}
use Rattle.ffv1_plane.specs.RiceSlices.{is_anew_at, slice_planes, ArePlanesSpelled}
use Rattle.ffv1_plane.specs.FirstRows.{with_rows, rows_to, AreFirstRows, RowsBeforeAreSpelled, FirstRowsAreSpelled}
use Rattle.ffv1_plane.specs.declared.planes.PlaneSize.{PlaneSize}
use Rattle.ffv1_plane.proofs.LineRuns.{all_rows_begin}
use Rattle.ffv1_plane.proofs.RangeSlices.{AreBelow, none, followed, all_rows_below, orders_below, below_middle}
use Rattle.ffv1_plane.proofs.RiceSlices.{planes_as}
use Rattle.ffv1_plane.proofs.SameRows.{HaveSameRows, row_spells_same, row_leaves_same, AreRowsBelow, no_line, line_then, all_rows_are_below, rows_before, first_samples, length-first_samples, first_samples_at, first_samples_whole, planes_made, length-planes_made, planes_made_at}

-- ---- lines of planes whose first rows are the same

module _ (f g : ℕ → Plane) (group : ℕ → ℕ) (is_anew : Line → Bool) (n rows : ℕ) (same : (p : ℕ) → p < n → HaveSameRows rows (f p) (g p)) where
  line_leaves : (values : ℕ → ℕ → List ℤ) (line : Line) → line.plane < n → line.row < rows
      → values_after_line (planes_as f group is_anew) values line ≡ values_after_line (planes_as g group is_anew) values line
  unfolding values_after_line
  line_leaves values line less inside =
      let after : (ℕ → ℕ → List ℤ) → (ℕ → ℕ → List ℤ) = λ left k. if k == group line.plane then left k else values k in
      ap after (fun_ext (λ k. row_leaves_same rows line.row (f line.plane) (g line.plane) (values k) (same line.plane less) inside))

  pub first_lines_spell : (values : ℕ → ℕ → List ℤ) (index : ℕ) (lines : List Line) (bits : List Bool) (next : ℕ) → AreBelow n lines → AreRowsBelow rows lines
      → LinesSpell (planes_as f group is_anew) values index lines bits next → LinesSpell (planes_as g group is_anew) values index lines bits next
  unfolding LinesSpell
  first_lines_spell values index [] bits next none no_line h = h
  first_lines_spell values index (line ∷ lines) bits next (followed less below) (line_then inside first) (front, back, between, joined, row, rest) = (
    front,
    back,
    between,
    joined,
    row_spells_same rows line.row (f line.plane) (g line.plane) (values (group line.plane)) (first_index (planes_as g group is_anew) index line) front between
        (same line.plane less) inside row,
    first_lines_spell (values_after_line (planes_as g group is_anew) values line) between lines back next below first
        (subst (λ v. LinesSpell (planes_as f group is_anew) v between lines back next) (line_leaves values line less inside) rest),
  )

joined_on : (bits whole front back tail : List Bool) → bits ≡ whole ++ tail → whole ≡ front ++ back → bits ≡ front ++ (back ++ tail)
joined_on bits whole front back tail h k = h ∙ ap (λ l. l ++ tail) k ∙ append_assoc front back tail

-- the first of some lines
lines_front : (c : CodedPlanes) (values : ℕ → ℕ → List ℤ) (index : ℕ) (xs ys : List Line) (bits : List Bool) (next : ℕ) → LinesSpell c values index (xs ++ ys) bits next
    → (front back : List Bool) × (between : ℕ) × (bits ≡ front ++ back) × LinesSpell c values index xs front between
unfolding LinesSpell
lines_front c values index [] ys bits next h = ([], bits, index, refl, (refl, refl))
lines_front c values index (line ∷ xs) ys bits next (front, back, between, joined, row, rest) =
    let more = lines_front c (values_after_line c values line) between xs ys back next rest in (
      front ++ more.0,
      more.1,
      more.2,
      joined ∙ ap (λ l. front ++ l) more.3 ∙ sym (append_assoc front more.0 more.1),
      (front, more.0, between, refl, row, more.4),
    )

-- ---- the planes of a slice of fewer rows

pub first_planes : List PlaneSize → ℕ → List (List ℕ) → List (List ℕ)
first_planes sizes y planes = planes_made (λ p. first_samples (y * (size_at sizes p).width) (slice_index_or planes p [])) (length sizes)

pub first_plane_at : (sizes : List PlaneSize) (y : ℕ) (planes : List (List ℕ)) (p : ℕ) → p < length sizes
    → slice_index_or (first_planes sizes y planes) p [] ≡ first_samples (y * (size_at sizes p).width) (slice_index_or planes p [])
unfolding first_planes
first_plane_at sizes y planes p less = planes_made_at (λ p. first_samples (y * (size_at sizes p).width) (slice_index_or planes p [])) (length sizes) p less

pub size_of_rows : (sizes : List PlaneSize) (y p : ℕ) → p < length sizes → size_at (rows_to y sizes) p ≡ with_rows y (size_at sizes p)
size_of_rows sizes y p less = get_or-map (with_rows y) sizes p no_size no_size less

pub first_order : (r : RecordingValue) (sizes : List PlaneSize) (y : ℕ) → r.is_rgb ≡ true → 1 ≤ length sizes
    → row_after_row (length sizes) y ≡ lines_of r.is_rgb (rows_to y sizes)
first_order r sizes y rgb some =
    ap (λ n. row_after_row n y) (sym (length-map sizes (with_rows y)))
    ∙ ap (row_after_row (length (rows_to y sizes))) (sym (ap (λ z. z.height) (size_of_rows sizes y 0 some)))
    ∙ ap (λ b. lines_of b (rows_to y sizes)) (sym rgb)

pub first_sizes : (n : ℕ) (sizes : List PlaneSize) (y : ℕ) (planes : List (List ℕ))
    → ((p : ℕ) → p < length sizes → (s : ℕ) → get_or (slice_index_or planes p []) s 0 < 2 ^ n) → ArePlanesOfSizes n (rows_to y sizes) (first_planes sizes y planes)
unfolding first_planes
first_sizes n sizes y planes small =
    record {
      count = length-planes_made (λ p. first_samples (y * (size_at sizes p).width) (slice_index_or planes p [])) (length sizes) ∙ sym (length-map sizes (with_rows y));
      each = λ p inside.
          let less : p < length sizes = (let count = length-map sizes (with_rows y) in omega (arith, inside, count)) in
          let w : ℕ = (size_at sizes p).width in
          let xs : List ℕ = slice_index_or planes p [] in
          let here : IsPlaneOfSize n w y (first_samples (y * w) xs) = record {
            count = length-first_samples (y * w) xs ∙ mul_comm y w;
            small = λ s. elim (cases_lt s (y * w)) [
              | inl within ↦ subst (λ v. v < 2 ^ n) (sym (first_samples_at (y * w) xs s within)) (small p less s)
              | inr past ↦
                  (let none_there = get_or_past (first_samples (y * w) xs) s 0 (let long = length-first_samples (y * w) xs in omega (arith, past, long)) in
                  let some = pow_pos n in omega (arith, none_there, some))
            ];
          } in
          subst (λ (z : PlaneSize). IsPlaneOfSize n z.width z.height (slice_index_or (first_planes sizes y planes) p [])) (sym (size_of_rows sizes y p less))
          (subst (IsPlaneOfSize n w y) (sym (first_plane_at sizes y planes p less)) here);
    }

pub same_first_rows : (r : RecordingValue) (sets : List ℕ) (sizes : List PlaneSize) (y : ℕ) (planes : List (List ℕ)) (p : ℕ) → All IsPlaneSize sizes → p < length sizes
    → HaveSameRows y (slice_plane (slice_shape r sets sizes) planes p).plane (slice_plane (slice_shape r sets (rows_to y sizes)) (first_planes sizes y planes) p).plane
same_first_rows r sets sizes y planes p fit less =
    let w : ℕ = (size_at sizes p).width in
    let xs : List ℕ = slice_index_or planes p [] in
    let coding = coding_at (coded_depth_of r) (set_entry r.setup (slice_index sets (group_at (slice_shape r sets sizes) p))) in
    record {
      width = w;
      coding = coding;
      xs = xs;
      ys = first_samples (y * w) xs;
      first = refl;
      second =
          ap (λ (z : PlaneSize). plane_of z.width coding (slice_index_or (first_planes sizes y planes) p [])) (size_of_rows sizes y p less)
          ∙ ap (plane_of w coding) (first_plane_at sizes y planes p less);
      some = (fit p no_size less).0;
      same = λ j inside. sym (first_samples_at (y * w) xs j inside);
    }

pub are_first_rows : (n : ℕ) (sizes : List PlaneSize) (y height : ℕ) (planes : List (List ℕ)) → ArePlanesOfSizes n sizes planes → y ≤ height
    → ((p : ℕ) → p < length sizes → height_at sizes p ≡ height) → AreFirstRows sizes y planes (first_planes sizes y planes)
unfolding first_planes
are_first_rows n sizes y height planes h most equal =
    record {
      count = length-planes_made (λ p. first_samples (y * (size_at sizes p).width) (slice_index_or planes p [])) (length sizes);
      each = λ p less.
          let w : ℕ = (size_at sizes p).width in
          let xs : List ℕ = slice_index_or planes p [] in
          let long : length xs ≡ height * w = (h.each p less).count ∙ mul_comm w (height_at sizes p) ∙ ap (λ k. k * w) (equal p less) in
          let fits : y * w ≤ height * w = mul-le-mul_right w most in
          first_plane_at sizes y planes p less ∙ first_samples_whole (y * w) xs (omega (arith, long, fits));
    }

-- ---- the laws

-- lines of the first rows, as those of a slice that has no others
first_are_spelled : (r : RecordingValue) (sets : List ℕ) (sizes : List PlaneSize) (values : ℕ → ℕ → List ℤ) (bits words rest : List Bool) (next y : ℕ)
    (planes : List (List ℕ)) → All IsPlaneSize sizes → r.is_rgb ≡ true → 1 ≤ length sizes
    → ((p : ℕ) → p < length sizes → (s : ℕ) → get_or (slice_index_or planes p []) s 0 < 2 ^ coded_depth_of r)
    → LinesSpell (slice_planes (slice_shape r sets sizes) planes) values 0 (row_after_row (length sizes) y) words next → bits ≡ words ++ rest
    → ArePlanesSpelled (slice_shape r sets (rows_to y sizes)) values bits (first_planes sizes y planes) rest
first_are_spelled r sets sizes values bits words rest next y planes fit rgb some small spells begins =
    let shape = slice_shape r sets sizes in
    let firsts = slice_shape r sets (rows_to y sizes) in
    record {
      sizes = first_sizes (coded_depth_of r) sizes y planes small;
      words = words;
      begins = begins;
      last = next;
      spells =
          subst (λ lines. LinesSpell (slice_planes firsts (first_planes sizes y planes)) values 0 lines words next) (first_order r sizes y rgb some)
          (first_lines_spell (λ p. (slice_plane shape planes p).plane) (λ p. (slice_plane firsts (first_planes sizes y planes) p).plane) (group_at shape)
          (is_anew_at r.is_rgb) (length sizes) y (λ p less. same_first_rows r sets sizes y planes p fit less) values 0 (row_after_row (length sizes) y) words next
          (all_rows_below (length sizes) y) (all_rows_are_below (length sizes) y) spells);
    }

pub rows_before_are_spelled : RowsBeforeAreSpelled
rows_before_are_spelled r sets sizes values bits fault plane y x fit rgb s =
    let order : row_after_row (length sizes) (height_at sizes 0) ≡ s.done ++ line_at plane y ∷ s.later =
    ap (λ b. lines_of b sizes) (sym rgb) ∙ s.order in
    let inside : plane < length sizes =
    below_middle (length sizes) s.done s.later (line_at plane y) (subst (AreBelow (length sizes)) s.order (orders_below r.is_rgb sizes)) in
    let rows = rows_before (length sizes) (height_at sizes 0) s.done s.later plane y order in
    let c = slice_planes (slice_shape r sets sizes) s.planes in
    let front =
    lines_front c values 0 (row_after_row (length sizes) y) rows.0 s.whole s.index (subst (λ lines. LinesSpell c values 0 lines s.whole s.index) rows.1 s.spells) in (
      first_planes sizes y s.planes,
      front.1 ++ (s.part ++ s.others),
      first_are_spelled r sets sizes values bits front.0 (front.1 ++ (s.part ++ s.others)) front.2 y s.planes fit rgb (omega (arith, inside)) s.small front.4
          (joined_on bits s.whole front.0 front.1 (s.part ++ s.others) s.begins front.3),
    )

pub first_rows_are_spelled : FirstRowsAreSpelled
first_rows_are_spelled r sets sizes values bits rest planes y fit some equal rgb most h =
    let rows = all_rows_begin (length sizes) (height_at sizes 0) y most in
    let order : lines_of r.is_rgb sizes ≡ row_after_row (length sizes) y ++ rows.0 = ap (λ b. lines_of b sizes) rgb ∙ rows.1 in
    let c = slice_planes (slice_shape r sets sizes) planes in
    let front =
    lines_front c values 0 (row_after_row (length sizes) y) rows.0 h.words h.last (subst (λ lines. LinesSpell c values 0 lines h.words h.last) order h.spells) in (
      first_planes sizes y planes,
      front.1 ++ rest,
      are_first_rows (coded_depth_of r) sizes y (height_at sizes 0) planes h.sizes most (λ p less. equal rgb p less),
      first_are_spelled r sets sizes values bits front.0 (front.1 ++ rest) front.2 y planes fit rgb some (λ p less. (h.sizes.each p less).small) front.4
          (joined_on bits h.words front.0 front.1 rest h.begins front.3),
    )
