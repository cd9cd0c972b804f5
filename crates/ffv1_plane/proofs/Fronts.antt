-- What stands before a word goes on to a spelling of the whole row, and of the whole picture.
use Rattle.std.proofs.Common.{◌≡◌, ℕ, suc, ◌+◌, ◌-◌, ◌<◌, Bool, List, ◌∷◌, ◌++◌, refl, sym, ap, ◌∙◌, subst, arith, append_assoc, ⊎_elim, ℤ}
use Rattle.ffv1_range.specs.Setup.{SetupValue}
use Rattle.ffv1_range.specs.declared.head.SliceHead.{SliceHead}
use Rattle.ffv1_rice.specs.Runs.{SpellsRun, whole}
use Rattle.ffv1_rice.specs.declared.code.CodeFault.{CodeFault}
use Rattle.ffv1_plane.specs.Spelling.{Residuals, residuals_of, left_in_line, run_length, SamplesSpell}
use Rattle.ffv1_plane.specs.Lines.{Line, line_at, first_index, values_after_line, values_after_lines, LinesSpell}
use Rattle.ffv1_plane.specs.Picture.{tile_plane, plane_group, picture_planes, picture_lines, no_values, PictureSpells}
use Rattle.ffv1_plane.specs.Stuck.{SpellsFront, no_word, one_word, IsRunWordDue, IsCodeDue, IsWordRefused, AreBitsStuck}
use Rattle.ffv1_plane.proofs.CodedLines.{lines_append, lines_bits}
use Rattle.ffv1_plane.proofs.Totals.{run_of, length_low, past_run, spells_on, differ}

-- the first words of a run, and those of what is left of it
pub front_on : {n i next : ℕ} {words : List Bool} (m room last : ℕ) (others : List Bool) → SpellsFront n i words next → SpellsRun m room next others last
    → SpellsRun (n + m) (n + room) i (words ++ others) last
front_on {n = n} {i = i} {next = next} {words = words} m room last others (no_word a b c) run =
    let m_is : m ≡ n + m = omega (arith, a) in
    let room_is : room ≡ n + room = omega (arith, a) in
    let bits : others ≡ words ++ others = ap (λ l. l ++ others) (sym b) in
    let P : ℕ → Type 0 = λ k. SpellsRun k room next others last in
    let Q : ℕ → Type 0 = λ k. SpellsRun (n + m) k next others last in
    let R : ℕ → Type 0 = λ k. SpellsRun (n + m) (n + room) k others last in
    let S : List Bool → Type 0 = λ l. SpellsRun (n + m) (n + room) i l last in
    subst S bits (subst R c (subst Q room_is (subst P m_is run)))
front_on {n = n} {i = i} {next = next} {words = words} m room last others (one_word k more a b c) run =
    whole (k + m) (k + room) (more ++ others) (omega (arith, a)) (omega (arith, a)) (ap (λ l. l ++ others) b) (front_on m room last others c run)

-- the bits of the first samples that begin with those before a word
pub record GoesOn (earlier : ℕ → List ℤ) (r : Residuals) (first count : ℕ) (part : List Bool) : Type 0 where
  pub bits : List Bool
  pub tail : List Bool
  pub last : ℕ
  pub joined : bits ≡ part ++ tail
  pub spells : SamplesSpell earlier r first count bits last

module _ (earlier : ℕ → List ℤ) (r : Residuals) (first s count : ℕ) (part : List Bool) (inside : s < count) where
  code_on : IsCodeDue earlier r first s part → GoesOn earlier r first count part
  unfolding SamplesSpell
  code_on due =
      let all = past_run earlier r s due.index due.next due.run due.run_starts due.no_run_starts in
      let read : SamplesSpell earlier r first (suc s) (due.before ++ (due.run ++ all.0)) due.next =
      (due.before, due.run ++ all.0, due.index, refl, due.spells, all.1) in
      let on = spells_on earlier r first count (suc s) (due.before ++ (due.run ++ all.0)) due.next (omega arith) read in
      record {
        bits = (due.before ++ (due.run ++ all.0)) ++ on.0;
        tail = all.0 ++ on.0;
        last = on.1;
        joined = ap (λ l. l ++ on.0) (sym (append_assoc due.before due.run all.0)) ∙ append_assoc (due.before ++ due.run) all.0 on.0
            ∙ ap (λ l. l ++ (all.0 ++ on.0)) (sym due.joined);
        spells = on.2;
      }

  run_on : (index : ℕ) → IsRunWordDue earlier r first s part index → GoesOn earlier r first count part
  unfolding SamplesSpell
  run_on index due =
      let n = run_length r due.start in
      let left = left_in_line r due.start in
      let low = length_low r left due.start in
      let later = run_of (n - due.skipped) (left - due.skipped) index (omega (arith, low, due.in_run, due.in_line)) in
      let n_is : due.skipped + (n - due.skipped) ≡ n = omega (arith, due.in_run) in
      let left_is : due.skipped + (left - due.skipped) ≡ left = omega (arith, due.in_line) in
      let whole_run = front_on (n - due.skipped) (left - due.skipped) later.1 later.0 due.front later.2 in
      let P : ℕ → Type 0 = λ k. SpellsRun k (due.skipped + (left - due.skipped)) due.begun (due.words ++ later.0) later.1 in
      let Q : ℕ → Type 0 = λ k. SpellsRun n k due.begun (due.words ++ later.0) later.1 in
      let spelled : SpellsRun n left due.begun (due.words ++ later.0) later.1 = subst Q left_is (subst P n_is whole_run) in
      let all = past_run earlier r due.start due.begun later.1 (due.words ++ later.0) (λ h. spelled) (λ h. absurd (differ due.starts h)) in
      let portion : List Bool = (due.words ++ later.0) ++ all.0 in
      let read : SamplesSpell earlier r first (suc due.start) (due.before ++ portion) later.1 = (due.before, portion, due.begun, refl, due.spells, all.1) in
      let on = spells_on earlier r first count (suc due.start) (due.before ++ portion) later.1 (omega (arith, due.place)) read in
      record {
        bits = (due.before ++ portion) ++ on.0;
        tail = later.0 ++ (all.0 ++ on.0);
        last = on.1;
        joined =
            ap (λ l. (due.before ++ l) ++ on.0) (append_assoc due.words later.0 all.0)
            ∙ ap (λ l. l ++ on.0) (sym (append_assoc due.before due.words (later.0 ++ all.0)))
            ∙ append_assoc (due.before ++ due.words) (later.0 ++ all.0) on.0
            ∙ ap (λ l. (due.before ++ due.words) ++ l) (append_assoc later.0 all.0 on.0)
            ∙ ap (λ l. l ++ (later.0 ++ (all.0 ++ on.0))) (sym due.joined);
        spells = on.2;
      }

  pub refused_on : (others : List Bool) (fault : CodeFault) → IsWordRefused earlier r first s part others fault → GoesOn earlier r first count part
  refused_on others fault = ⊎_elim (λ cut. run_on cut.1.0 cut.1.1) (λ code. code_on code.0)

-- ---- whole pictures

pub each_is_spelled : (setup : SetupValue) (head : SliceHead) (planes : List (List ℕ)) → (words : List Bool) × PictureSpells setup head planes words
each_is_spelled setup head planes =
    let all = lines_bits (picture_planes setup head planes) (λ group. no_values) 0 (picture_lines setup head.tile) in
    (all.0, (all.1, all.2))

-- the spelling of a picture that begins with what stands before a refused word
pub record FrontOf (setup : SetupValue) (head : SliceHead) (planes : List (List ℕ)) (front : List Bool) : Type 0 where
  pub words : List Bool
  pub later : List Bool
  pub spells : PictureSpells setup head planes words
  pub begins : words ≡ front ++ later

pub stuck_on : (setup : SetupValue) (head : SliceHead) (planes : List (List ℕ)) (bits : List Bool) (fault : CodeFault) (plane y x : ℕ) (front : List Bool)
    → AreBitsStuck setup head planes bits fault plane y x front → FrontOf setup head planes front
unfolding LinesSpell residuals_of
stuck_on setup head planes bits fault plane y x front stuck =
    let c = picture_planes setup head planes in
    let line = line_at plane y in
    let values = values_after_lines c (λ group. no_values) stuck.before in
    let first = first_index c stuck.index line in
    let r = residuals_of (tile_plane setup head planes plane) y in
    let row = refused_on (values (plane_group plane)) r first x r.width stuck.part stuck.place.column_there stuck.others fault stuck.refused in
    let rest = lines_bits c (values_after_line c values line) row.last stuck.later in
    let all : LinesSpell c (λ group. no_values) 0 (stuck.before ++ line ∷ stuck.later) (stuck.whole ++ (row.bits ++ rest.0)) rest.1 =
    lines_append c (λ group. no_values) 0 stuck.index rest.1 stuck.before (line ∷ stuck.later) stuck.whole (row.bits ++ rest.0) stuck.spells
    (row.bits, rest.0, row.last, refl, row.spells, rest.2) in
    let P : List Line → Type 0 = λ l. LinesSpell c (λ group. no_values) 0 l (stuck.whole ++ (row.bits ++ rest.0)) rest.1 in
    record {
      words = stuck.whole ++ (row.bits ++ rest.0);
      later = row.tail ++ rest.0;
      spells = (rest.1, subst P (sym stuck.lines) all);
      begins =
          ap (λ l. stuck.whole ++ (l ++ rest.0)) row.joined
          ∙ ap (λ l. stuck.whole ++ l) (append_assoc stuck.part row.tail rest.0)
          ∙ sym (append_assoc stuck.whole stuck.part (row.tail ++ rest.0))
          ∙ ap (λ l. l ++ (row.tail ++ rest.0)) (sym stuck.joined);
    }
