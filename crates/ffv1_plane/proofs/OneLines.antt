-- No bits begin with the spellings of the same lines of two pictures, and where they are stuck, they are so at one place.
use Rattle.std.proofs.Common.{◌≡◌, ℕ, suc, ◌+◌, ◌*◌, ◌^◌, ◌<◌, ◌≤◌, Bool, true, false, cond, eqb, eq-eqb, List, [], ◌∷◌, ◌++◌, get_or, refl, sym, ap, ◌∙◌, subst, arith, append_assoc, inl, inr, ⊎_elim, ◌⊎◌, ℤ}
use Rattle.std.specs.Prelude.{◌==◌, if◌then◌else◌}
use Rattle.std.proofs.Math.Path.{fun_ext}
use Rattle.std.proofs.lemmas.Bool.{cases_eq, ne_eqb}
use Rattle.ffv1_rice.specs.States.{IsCodedDepth}
use Rattle.ffv1_rice.specs.declared.code.CodeFault.{CodeFault}
use Rattle.ffv1_plane.specs.Samples.{Coding, plane_of}
use Rattle.ffv1_plane.specs.Spelling.{Residuals, residuals_of, values_before, values_after, RowSpells}
use Rattle.ffv1_plane.specs.Lines.{Line, line_at, CodedPlanes, first_index, values_after_line, values_after_lines, LinesSpell}
use Rattle.ffv1_plane.specs.Stuck.{IsWordRefused}
use Rattle.ffv1_plane.specs.StuckLaws.{IsOnePlace}
use Rattle.ffv1_plane.proofs.OnePlane.{one_row, row_excludes, row_one}
use Rattle.ffv1_plane.proofs.CodedLines.{row_more, rows_known, AreRowsInOrder}

-- Bits begin with the first lines and with those words of the next that start before column x, and then no word of that
-- column can be read.
pub record AreLinesStuck (c : CodedPlanes) (values : ℕ → ℕ → List ℤ) (index : ℕ) (lines : List Line) (bits : List Bool) (fault : CodeFault) (plane y x : ℕ)
    : Type 0 where
  pub before : List Line
  pub later : List Line
  pub lines_are : lines ≡ before ++ line_at plane y ∷ later
  pub whole : List Bool
  pub between : ℕ
  pub spells : LinesSpell c values index before whole between
  pub part : List Bool
  pub others : List Bool
  pub begins : bits ≡ whole ++ (part ++ others)
  pub refused : IsWordRefused (values_after_lines c values before (c.group plane)) (residuals_of (c.plane plane) y) (first_index c between (line_at plane y)) x
      part others fault

-- a word of the first line can't be read
pub record IsFirstStuck (c : CodedPlanes) (values : ℕ → ℕ → List ℤ) (index : ℕ) (line : Line) (bits : List Bool) (fault : CodeFault) (plane y x : ℕ)
    : Type 0 where
  pub plane_same : line.plane ≡ plane
  pub row_same : line.row ≡ y
  pub part : List Bool
  pub others : List Bool
  pub begins : bits ≡ part ++ others
  pub refused : IsWordRefused (values (c.group line.plane)) (residuals_of (c.plane line.plane) line.row) (first_index c index line) x part others fault

-- the first line is read, and a later one is stuck
pub record IsLaterStuck (c : CodedPlanes) (values : ℕ → ℕ → List ℤ) (index : ℕ) (line : Line) (lines : List Line) (bits : List Bool) (fault : CodeFault)
    (plane y x : ℕ) : Type 0 where
  pub front : List Bool
  pub back : List Bool
  pub between : ℕ
  pub begins : bits ≡ front ++ back
  pub row : RowSpells (values (c.group line.plane)) (residuals_of (c.plane line.plane) line.row) (first_index c index line) front between
  pub stuck : AreLinesStuck c (values_after_line c values line) between lines back fault plane y x

pub none_stuck : (c : CodedPlanes) (values : ℕ → ℕ → List ℤ) (index : ℕ) (bits : List Bool) (fault : CodeFault) (plane y x : ℕ)
    → AreLinesStuck c values index [] bits fault plane y x → ⊥
none_stuck c values index bits fault plane y x s = no s.before s.later s.lines_are
  where
    no : (before later : List Line) → [] ≡ before ++ line_at plane y ∷ later → ⊥
    no [] later same = cc
    no (b ∷ before) later same = cc

-- the first line is stuck, or a later one
pub first_or_later : (c : CodedPlanes) (values : ℕ → ℕ → List ℤ) (index : ℕ) (line : Line) (lines : List Line) (bits : List Bool) (fault : CodeFault)
    (plane y x : ℕ) → AreLinesStuck c values index (line ∷ lines) bits fault plane y x
    → IsFirstStuck c values index line bits fault plane y x ⊎ IsLaterStuck c values index line lines bits fault plane y x
unfolding LinesSpell values_after_lines
first_or_later c values index line lines bits fault plane y x s =
    either s.before s.later s.lines_are s.whole s.between s.spells s.part s.others s.begins s.refused
  where
    either : (before later : List Line) → line ∷ lines ≡ before ++ line_at plane y ∷ later → (whole : List Bool) (between : ℕ)
        → LinesSpell c values index before whole between → (part others : List Bool) → bits ≡ whole ++ (part ++ others)
        → IsWordRefused (values_after_lines c values before (c.group plane)) (residuals_of (c.plane plane) y) (first_index c between (line_at plane y)) x
        part others fault
        → IsFirstStuck c values index line bits fault plane y x ⊎ IsLaterStuck c values index line lines bits fault plane y x
    either [] later same whole between (none, start) part others begins refused =
        let is : line ≡ line_at plane y = cc in
        let P : ℕ → Type 0 = λ i. IsWordRefused (values (c.group plane)) (residuals_of (c.plane plane) y) (first_index c i (line_at plane y)) x part others fault in
        let Q : Line → Type 0 = λ l. IsWordRefused (values (c.group l.plane)) (residuals_of (c.plane l.plane) l.row) (first_index c index l) x part others fault in
        inl (record {
          plane_same = ap (λ l. l.plane) is;
          row_same = ap (λ l. l.row) is;
          part = part;
          others = others;
          begins = begins ∙ ap (λ l. l ++ (part ++ others)) none;
          refused = subst Q (sym is) (subst P start refused);
        })
    either (b ∷ before) later same whole between (front, back, i, joined, row, rest) part others begins refused =
        let is : line ≡ b = cc in
        let lines_are : lines ≡ before ++ line_at plane y ∷ later = cc in
        let R : Line → Type 0 = λ l. IsLaterStuck c values index l lines bits fault plane y x in
        inr (subst R (sym is) (record {
          front = front;
          back = back ++ (part ++ others);
          between = i;
          begins = begins ∙ ap (λ l. l ++ (part ++ others)) joined ∙ append_assoc front back (part ++ others);
          row = row;
          stuck = record {
            before = before;
            later = later;
            lines_are = lines_are;
            whole = back;
            between = between;
            spells = rest;
            part = part;
            others = others;
            begins = refl;
            refused = refused;
          };
        }))

-- rows whose values are the same leave the same
left_same : (b : Bool) (earlier : ℕ → List ℤ) (r q : Residuals) (k : ℕ) → values_before r k r.width ≡ values_before q k q.width
    → (if b then values_after earlier r else earlier) k ≡ (if b then values_after earlier q else earlier) k
left_same true earlier r q k same = ap (λ l. earlier k ++ l) same
left_same false earlier r q k same = refl

-- ---- two pictures whose planes have the same widths and are coded alike

abbrev pub coded : (ℕ → ℕ) → (Line → Bool) → (ℕ → ℕ) → (ℕ → Coding) → (ℕ → List ℕ) → CodedPlanes
coded group is_anew width coding samples = record { plane = λ n. plane_of (width n) (coding n) (samples n); group = group; is_anew = is_anew }

module _ (group : ℕ → ℕ) (is_anew : Line → Bool) (width : ℕ → ℕ) (coding : ℕ → Coding) (xs ys : ℕ → List ℕ) (some : (n : ℕ) → 1 ≤ width n)
    (deep : (n : ℕ) → IsCodedDepth (coding n).depth) (small : (n j : ℕ) → get_or (xs n) j 0 < 2 ^ (coding n).depth)
    (tiny : (n j : ℕ) → get_or (ys n) j 0 < 2 ^ (coding n).depth) where
  -- the rows that are known are the same
  unfoldable pub AreKnownSame : (ℕ → ℕ) → Type 0
  AreKnownSame known = (n j : ℕ) → j < known n * width n → get_or (xs n) j 0 ≡ get_or (ys n) j 0

  above : (known : ℕ → ℕ) (line : Line) → line.row ≡ known line.plane → AreKnownSame known → (j : ℕ) → j < line.row * width line.plane
      → get_or (xs line.plane) j 0 ≡ get_or (ys line.plane) j 0
  unfolding AreKnownSame
  above known line order same j less = same line.plane j (subst (λ (k : ℕ). j < k * width line.plane) order less)

  -- one row more
  known_more : (known : ℕ → ℕ) (line : Line) → line.row ≡ known line.plane → AreKnownSame known
      → ((j : ℕ) → j < line.row * width line.plane + width line.plane → get_or (xs line.plane) j 0 ≡ get_or (ys line.plane) j 0)
      → AreKnownSame (row_more known line.plane)
  unfolding AreKnownSame row_more
  known_more known line order same row n j less = ⊎_elim
      (λ there.
      let test : eqb n line.plane ≡ true = eq-eqb n line.plane there in
      let opened : j < suc (known n) * width n = subst (λ (b : Bool). j < cond b (suc (known n)) (known n) * width n) test less in
      let known_is : known n ≡ line.row = ap known there ∙ sym order in
      let width_is : width n ≡ width line.plane = ap width there in
      let within : j < suc (line.row) * width line.plane = subst (λ (w : ℕ). j < suc (line.row) * w) width_is
      (subst (λ (k : ℕ). j < suc k * width n) known_is opened) in
      subst (λ (k : ℕ). get_or (xs k) j 0 ≡ get_or (ys k) j 0) (sym there) (row j (omega arith)))
      (λ other.
      same n j (subst (λ (b : Bool). j < cond b (suc (known n)) (known n) * width n) (ne_eqb n line.plane other) less))
      (cases_eq n line.plane)

  values_same : (values : ℕ → ℕ → List ℤ) (line : Line)
      → ((k : ℕ) → values_before (residuals_of (plane_of (width line.plane) (coding line.plane) (xs line.plane)) line.row) k (width line.plane)
      ≡ values_before (residuals_of (plane_of (width line.plane) (coding line.plane) (ys line.plane)) line.row) k (width line.plane))
      → values_after_line (coded group is_anew width coding xs) values line ≡ values_after_line (coded group is_anew width coding ys) values line
  unfolding values_after_line residuals_of
  values_same values line same =
      let r = residuals_of (plane_of (width line.plane) (coding line.plane) (xs line.plane)) line.row in
      let q = residuals_of (plane_of (width line.plane) (coding line.plane) (ys line.plane)) line.row in
      fun_ext (λ g. fun_ext (λ k. left_same (g == group line.plane) (values g) r q k (same k)))

  pub record AreOneLines (known : ℕ → ℕ) (next last : ℕ) (rest tail : List Bool) : Type 0 where
    pub samples : AreKnownSame known
    pub index : next ≡ last
    pub later : rest ≡ tail

  pub one_lines : (known : ℕ → ℕ) (values : ℕ → ℕ → List ℤ) (index : ℕ) (lines : List Line) (words more rest tail : List Bool) (next last : ℕ)
      → AreRowsInOrder known lines → AreKnownSame known → LinesSpell (coded group is_anew width coding xs) values index lines words next
      → LinesSpell (coded group is_anew width coding ys) values index lines more last → words ++ rest ≡ more ++ tail
      → AreOneLines (rows_known known lines) next last rest tail
  unfolding LinesSpell AreRowsInOrder rows_known
  one_lines known values index [] words more rest tail next last order same (none, start) (nothing, begin) joined = record {
    samples = same;
    index = start ∙ sym begin;
    later = ap (λ l. l ++ rest) (sym none) ∙ joined ∙ ap (λ l. l ++ tail) nothing;
  }
  one_lines known values index (line ∷ lines) words more rest tail next last order same (a, b, i, ab, row, others) (p, q, k, pq, row_too, others_too) joined =
      let n = line.plane in
      let begins : a ++ (b ++ rest) ≡ p ++ (q ++ tail) = sym (append_assoc a b rest) ∙ ap (λ l. l ++ rest) (sym ab) ∙ joined ∙ ap (λ l. l ++ tail) pq
      ∙ append_assoc p q tail in
      let one = one_row (width n) (coding n) (some n) (deep n) (xs n) (ys n) (small n) (tiny n) line.row (above known line order.0 same) (values (group n))
      (first_index (coded group is_anew width coding xs) index line) a p (b ++ rest) (q ++ tail) i k row row_too begins in
      let P : (ℕ → ℕ → List ℤ) → Type 0 = λ v. LinesSpell (coded group is_anew width coding ys) v k lines q last in
      let Q : ℕ → Type 0 = λ j. LinesSpell (coded group is_anew width coding ys) (values_after_line (coded group is_anew width coding xs) values line) j lines q last in
      one_lines (row_more known n) (values_after_line (coded group is_anew width coding xs) values line) i lines b q rest tail next last order.1
      (known_more known line order.0 same one.samples) others
      (subst Q (sym one.index) (subst P (sym (values_same values line one.values)) others_too)) one.later

  -- bits that are stuck in the lines begin with no spelling of them
  pub stuck_excludes : (known : ℕ → ℕ) (values : ℕ → ℕ → List ℤ) (index : ℕ) (lines : List Line) (bits words spare : List Bool) (last : ℕ) (fault : CodeFault)
      (plane y x : ℕ) → x < width plane → AreRowsInOrder known lines → AreKnownSame known
      → AreLinesStuck (coded group is_anew width coding xs) values index lines bits fault plane y x
      → LinesSpell (coded group is_anew width coding ys) values index lines words last → bits ≡ words ++ spare → ⊥
  unfolding LinesSpell AreRowsInOrder
  stuck_excludes known values index [] bits words spare last fault plane y x inside order same stuck spells joined =
      none_stuck (coded group is_anew width coding xs) values index bits fault plane y x stuck
  stuck_excludes known values index (line ∷ lines) bits words spare last fault plane y x inside order same stuck (p, q, k, pq, row_too, others_too) joined =
      let n = line.plane in
      let begins : bits ≡ p ++ (q ++ spare) = joined ∙ ap (λ l. l ++ spare) pq ∙ append_assoc p q spare in
      ⊎_elim
      (λ here.
      let within : x < width n = subst (λ (m : ℕ). x < width m) (sym here.plane_same) inside in
      row_excludes (width n) (coding n) (some n) (deep n) (xs n) (ys n) (small n) (tiny n) line.row (above known line order.0 same) (values (group n))
      (first_index (coded group is_anew width coding xs) index line) x here.part here.others p (q ++ spare) k fault within here.refused row_too
      (sym here.begins ∙ begins))
      (λ later.
      let one = one_row (width n) (coding n) (some n) (deep n) (xs n) (ys n) (small n) (tiny n) line.row (above known line order.0 same) (values (group n))
      (first_index (coded group is_anew width coding xs) index line) later.front p later.back (q ++ spare) later.between k later.row row_too
      (sym later.begins ∙ begins) in
      let P : (ℕ → ℕ → List ℤ) → Type 0 = λ v. LinesSpell (coded group is_anew width coding ys) v k lines q last in
      let Q : ℕ → Type 0 = λ j. LinesSpell (coded group is_anew width coding ys) (values_after_line (coded group is_anew width coding xs) values line) j lines q last in
      stuck_excludes (row_more known n) (values_after_line (coded group is_anew width coding xs) values line) later.between lines later.back q spare last fault
      plane y x inside order.1 (known_more known line order.0 same one.samples) later.stuck
      (subst Q (sym one.index) (subst P (sym (values_same values line one.values)) others_too)) one.later)
      (first_or_later (coded group is_anew width coding xs) values index line lines bits fault plane y x stuck)

  -- and they are stuck at one place
  pub stuck_one : (known : ℕ → ℕ) (values : ℕ → ℕ → List ℤ) (index : ℕ) (lines : List Line) (bits : List Bool) (fault other : CodeFault)
      (plane level y v x u : ℕ) → x < width plane → u < width level → AreRowsInOrder known lines → AreKnownSame known
      → AreLinesStuck (coded group is_anew width coding xs) values index lines bits fault plane y x
      → AreLinesStuck (coded group is_anew width coding ys) values index lines bits other level v u → IsOnePlace fault other plane level y v x u
  unfolding AreRowsInOrder
  stuck_one known values index [] bits fault other plane level y v x u inside there order same stuck stuck_too =
      absurd (none_stuck (coded group is_anew width coding xs) values index bits fault plane y x stuck)
  stuck_one known values index (line ∷ lines) bits fault other plane level y v x u inside there order same stuck stuck_too =
      let n = line.plane in
      let c = coded group is_anew width coding xs in
      let d = coded group is_anew width coding ys in
      let up = above known line order.0 same in
      let down = λ (j : ℕ) (less : j < line.row * width n). sym (up j less) in
      ⊎_elim
      (λ here. ⊎_elim
      (λ here_too.
      let one = row_one (width n) (coding n) (some n) (deep n) (xs n) (ys n) (small n) (tiny n) line.row up (values (group n)) (first_index c index line)
      x u here.part here.others here_too.part here_too.others fault other (subst (λ (m : ℕ). x < width m) (sym here.plane_same) inside)
      (subst (λ (m : ℕ). u < width m) (sym here_too.plane_same) there) here.refused here_too.refused (sym here.begins ∙ here_too.begins) in
      record {
        fault_same = one.fault_same;
        plane_same = sym here.plane_same ∙ here_too.plane_same;
        row_same = sym here.row_same ∙ here_too.row_same;
        column_same = one.sample;
      })
      (λ later_too. absurd (row_excludes (width n) (coding n) (some n) (deep n) (xs n) (ys n) (small n) (tiny n) line.row up (values (group n))
      (first_index c index line) x here.part here.others later_too.front later_too.back later_too.between fault
      (subst (λ (m : ℕ). x < width m) (sym here.plane_same) inside) here.refused later_too.row (sym here.begins ∙ later_too.begins)))
      (first_or_later d values index line lines bits other level v u stuck_too))
      (λ later. ⊎_elim
      (λ here_too. absurd (row_excludes (width n) (coding n) (some n) (deep n) (ys n) (xs n) (tiny n) (small n) line.row down (values (group n))
      (first_index c index line) u here_too.part here_too.others later.front later.back later.between other
      (subst (λ (m : ℕ). u < width m) (sym here_too.plane_same) there) here_too.refused later.row (sym here_too.begins ∙ later.begins)))
      (λ later_too.
      let one = one_row (width n) (coding n) (some n) (deep n) (xs n) (ys n) (small n) (tiny n) line.row up (values (group n)) (first_index c index line)
      later.front later_too.front later.back later_too.back later.between later_too.between later.row later_too.row (sym later.begins ∙ later_too.begins) in
      let next_values = values_after_line c values line in
      let P : (ℕ → ℕ → List ℤ) → Type 0 = λ w. AreLinesStuck d w later_too.between lines later_too.back other level v u in
      let Q : ℕ → Type 0 = λ j. AreLinesStuck d next_values j lines later_too.back other level v u in
      let R : List Bool → Type 0 = λ l. AreLinesStuck d next_values later.between lines l other level v u in
      stuck_one (row_more known n) next_values later.between lines later.back fault other plane level y v x u inside there order.1
      (known_more known line order.0 same one.samples) later.stuck
      (subst R (sym one.later) (subst Q (sym one.index) (subst P (sym (values_same values line one.values)) later_too.stuck))))
      (first_or_later d values index line lines bits other level v u stuck_too))
      (first_or_later c values index line lines bits fault plane y x stuck)
