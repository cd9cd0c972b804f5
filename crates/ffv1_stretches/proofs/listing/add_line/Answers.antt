use Rattle.std.proofs.Common.{◌≡◌, List, ℕ, Bor, true, false, refl, map, sym, ◌∙◌, subst}
use Rattle.std.specs.Prelude.{IsTrue}
use Rattle.ffv1_texts.specs.Words.{AreWords}
use Rattle.ffv1_stretches.specs.Inner.ListSteps.{BeginsPart}
use Rattle.ffv1_stretches.proofs.ListLemmas.{part_adds, stretch_adds, stretch_moves, stretch_counts}
use Rattle.ffv1_stretches.proofs.WordLemmas.{now_of}
use Rattle.ffv1_stretches.proofs.listing.add_line.Goals as goal

-- the words of a line, as a slice of them
words_are : (line : List ℕ) (words part : List (Bor (List ℕ))) → part ≡ words → AreWords line (map now_of words) → AreWords line (map now_of part)
words_are line words part same are = subst (λ (ws : List (Bor (List ℕ))). AreWords line (map now_of ws)) (sym same) are

pub returns-then-begins_part-clause-line : goal.returns-then-begins_part-clause-line
returns-then-begins_part-clause-line c =
    let yes : IsTrue true = refl in
    let same = c.as_slice-then-begins_part.ensures.value in
    let begins : BeginsPart (map now_of c.as_slice-then-begins_part.result.now) =
    subst (λ (ws : List (Bor (List ℕ))). BeginsPart (map now_of ws)) (c.as_slice.ensures.value ∙ sym same) (c.if-begins_part.ensures.0 yes) in
    part_adds c.args.line.now (map now_of c.as_slice-then-begins_part.result.now) c.args.ends.now.items _ _ (words_are _ _ _ same c.in_ok-words.ensures)
    c.requires begins c.add_part.result c.add_part.ensures

pub returns-clause-line : goal.returns-clause-line
returns-clause-line c =
    let same = c.as_slice-else-begins_part.ensures.value in
    let no : BeginsPart (map now_of c.as_slice-else-begins_part.result.now) → ⊥ = λ begins.
    let no : IsTrue false = c.if-begins_part.ensures.1 (subst (λ (ws : List (Bor (List ℕ))). BeginsPart (map now_of ws)) (same ∙ sym c.as_slice.ensures.value) begins) in
    cc in
    stretch_adds c.args.line.now (map now_of c.as_slice-else-begins_part.result.now) c.args.ends.now.items _ _ (words_are _ _ _ same c.in_ok-words.ensures)
    c.requires no _ c.add_stretch.result c.add_stretch.ensures

pub returns-clause-ends : goal.returns-clause-ends
returns-clause-ends c =
    stretch_moves c.args.line.now (map now_of c.as_slice-else-begins_part.result.now) c.args.ends.now.items _ _
    (words_are _ _ _ c.as_slice-else-begins_part.ensures.value c.in_ok-words.ensures) c.requires _ c.add_stretch.result c.add_stretch.ensures

pub returns-clause-count : goal.returns-clause-count
returns-clause-count c =
    stretch_counts c.args.line.now (map now_of c.as_slice-else-begins_part.result.now) c.args.ends.now.items _ _
    (words_are _ _ _ c.as_slice-else-begins_part.ensures.value c.in_ok-words.ensures) c.requires _ c.add_stretch.result c.add_stretch.ensures
