-- What was read of the copies, stretch by stretch.
use Rattle.std.proofs.Common.{◌≡◌, ℕ, zero, suc, ◌+◌, ◌<◌, ◌≤◌, List, [], ◌∷◌, ◌++◌, Option, Some, None, length, get_or, take, drop, map, refl, sym, ap, ◌∙◌, subst, arith}
use Rattle.std.specs.Prelude.{All, IfSome, MatchOption}
use Rattle.std.specs.List.{AllZip, fold, zip}
use Rattle.std.proofs.Math.Seq.{drop-append_seam, take-length}
use Rattle.std.proofs.lemmas.List.{append_assoc, append-nil, length-append, length-drop, length-take-le, drop-append-le, take-append-le}
use Rattle.std.proofs.lemmas.List.Elements.{All-nil, All-cons}
use Rattle.ffv1_devices.specs.Logs.{ReadLog, Reads}
use Rattle.ffv1_devices.specs.Exact.{StopsReading}
use Rattle.ffv1_devices.proofs.Steps.{Reads-trans}
use Rattle.ffv1_devices.proofs.ExactSteps.{StopsReading-after}
use Rattle.ffv1_mend.specs.Mended.{MendedValue}
use Rattle.ffv1_stretches.specs.Stretches.{StretchValue, HasPlace, IsAfter, end_after, ends_after, AreInOrder}
use Rattle.ffv1_stretches.specs.Cells.{cell_of, cells_of, IsStretchMend}
use Rattle.ffv1_stretches.specs.Inner.CellSteps.{HasVersion, IsAsLong, HasRoom, held_cell, held_cells}
use Rattle.ffv1_stretches.specs.Copies.{CopyState}
use Rattle.ffv1_stretches.specs.Lines.{stretch_text, mend_text}
use Rattle.ffv1_stretches.specs.Inner.PassSteps.{StepsCopy, StopsCopy, CopyStep}
use Rattle.ffv1_stretches.specs.Passes.{AreRead, AreReadBut}
use Rattle.ffv1_stretches.proofs.EndSteps.{moved_ends, length-moved_ends}
use Rattle.ffv1_stretches.proofs.CellLemmas.{held_at}

-- ---- files that grow

unfoldable pub joined : List (List ℕ) → List (List ℕ) → List (List ℕ)
joined [] mores = []
joined (file ∷ files) [] = []
joined (file ∷ files) (more ∷ mores) = (file ++ more) ∷ joined files mores

-- Each copy was read as its file, which ends where its last stretch does.
abbrev pub AreReadAs : List ReadLog → List CopyState → List (List ℕ) → Type 0
AreReadAs (old ∷ olds) (state ∷ states) (file ∷ files) = (Reads old state.log file × (length file ≡ state.end)) × AreReadAs olds states files
AreReadAs [] [] [] = Unit {0}
AreReadAs _ _ _ = ⊥

pub ends_are_lengths : (olds : List ReadLog) (states : List CopyState) (files : List (List ℕ)) → AreReadAs olds states files
    → AllZip (λ end file. length file ≡ end) (map (λ (s : CopyState). s.end) states) files
ends_are_lengths [] [] [] read = tt
ends_are_lengths [] [] (f ∷ files) read = absurd read
ends_are_lengths [] (s ∷ states) files read = absurd read
ends_are_lengths (o ∷ olds) [] files read = absurd read
ends_are_lengths (o ∷ olds) (s ∷ states) [] read = absurd read
ends_are_lengths (o ∷ olds) (s ∷ states) (f ∷ files) read = (read.0.1, ends_are_lengths olds states files read.1)

pub as_many_files : (olds : List ReadLog) (states : List CopyState) (files : List (List ℕ)) → AreReadAs olds states files → length files ≡ length states
as_many_files [] [] [] read = refl
as_many_files [] [] (f ∷ files) read = absurd read
as_many_files [] (s ∷ states) files read = absurd read
as_many_files (o ∷ olds) [] files read = absurd read
as_many_files (o ∷ olds) (s ∷ states) [] read = absurd read
as_many_files (o ∷ olds) (s ∷ states) (f ∷ files) read = omega (arith, as_many_files olds states files read.1)

pub all_are_read : (olds : List ReadLog) (states : List CopyState) (files : List (List ℕ)) → AreReadAs olds states files
    → AreRead olds (map (λ (s : CopyState). s.log) states) files
all_are_read [] [] [] read = tt
all_are_read [] [] (f ∷ files) read = absurd read
all_are_read [] (s ∷ states) files read = absurd read
all_are_read (o ∷ olds) [] files read = absurd read
all_are_read (o ∷ olds) (s ∷ states) [] read = absurd read
all_are_read (o ∷ olds) (s ∷ states) (f ∷ files) read = (read.0.0, all_are_read olds states files read.1)

-- ---- one copy

step_on : (size : ℕ) (place : Option ℕ) (old new : CopyState) (more : List ℕ) → StepsCopy size place old new more → (log : ReadLog) (file : List ℕ)
    → Reads log old.log file → length file ≡ old.end → Reads log new.log (file ++ more) × (length (file ++ more) ≡ new.end)
step_on size None old new more step log file read long =
    subst (λ (s : CopyState). Reads log s.log (file ++ more) × (length (file ++ more) ≡ s.end)) (sym step.0)
    (subst (λ (m : List ℕ). Reads log old.log (file ++ m) × (length (file ++ m) ≡ old.end)) (sym step.1)
    (subst (λ (b : List ℕ). Reads log old.log b × (length b ≡ old.end)) (sym (append-nil file)) (read, long)))
step_on size (Some place) old new more step log file read long = (
  Reads-trans log old.log new.log file more read step.read,
  omega (arith, length-append file more, ap length step.whole, length-append step.before step.here, step.gap, step.long, step.end', long),
)

step_cell : (size : ℕ) (place : Option ℕ) (old new : CopyState) (more : List ℕ) → StepsCopy size place old new more → (file : List ℕ)
    → length file ≡ old.end → held_cell size place new.room ≡ cell_of size (file ++ more) place
step_cell size None old new more step file long = refl
step_cell size (Some place) old new more step file long =
    let front : List ℕ = file ++ step.before in
    let boundary : length (file ++ step.before) ≡ place = omega (arith, length-append file step.before, long, step.gap) in
    let whole : file ++ more ≡ (file ++ step.before) ++ step.here = ap (λ m. file ++ m) step.whole ∙ sym (append_assoc file step.before step.here) in
    let there : take size (drop place (file ++ more)) ≡ step.here =
    ap (λ b. take size (drop place b)) whole ∙ ap (λ n. take size (drop n ((file ++ step.before) ++ step.here))) (sym boundary)
    ∙ ap (take size) (drop-append_seam (file ++ step.before) step.here) ∙ ap (λ n. take n step.here) (sym step.long) ∙ take-length step.here in
    ap Some (step.held ∙ sym there)

step_fits : (size : ℕ) (place : Option ℕ) (old new : CopyState) (more : List ℕ) → StepsCopy size place old new more → HasRoom size place new.room
step_fits size None old new more step = tt
step_fits size (Some place) old new more step = step.fits

step_end : (size : ℕ) (place : Option ℕ) (old new : CopyState) (more : List ℕ) → StepsCopy size place old new more → new.end ≡ end_after size old.end place
step_end size None old new more step = ap (λ (s : CopyState). s.end) step.0
step_end size (Some place) old new more step = step.end'

-- ---- all copies

abbrev pub places_of : {size : ℕ} → List (CopyStep size) → List (Option ℕ)
places_of steps = map (λ step. step.place) steps

abbrev pub olds_of : {size : ℕ} → List (CopyStep size) → List CopyState
olds_of steps = map (λ step. step.old) steps

abbrev pub news_of : {size : ℕ} → List (CopyStep size) → List CopyState
news_of steps = map (λ step. step.new) steps

abbrev pub mores_of : {size : ℕ} → List (CopyStep size) → List (List ℕ)
mores_of steps = map (λ step. step.more) steps

abbrev pub cells_in : ℕ → List (List ℕ) → List (Option ℕ) → List (Option (List ℕ))
cells_in size files places = map (λ pair. cell_of size pair.0 pair.1) (zip files places)

module _ (size : ℕ) where
  pub read_on : (steps : List (CopyStep size)) (olds : List ReadLog) (files : List (List ℕ)) → AreReadAs olds (olds_of steps) files
      → AreReadAs olds (news_of steps) (joined files (mores_of steps))
  unfolding joined
  read_on [] [] [] read = tt
  read_on [] [] (f ∷ files) read = absurd read
  read_on [] (o ∷ olds) files read = absurd read
  read_on (s ∷ steps) [] files read = absurd read
  read_on (s ∷ steps) (o ∷ olds) [] read = absurd read
  read_on (s ∷ steps) (o ∷ olds) (f ∷ files) read =
      (step_on size s.place s.old s.new s.more s.step o f read.0.0 read.0.1, read_on steps olds files read.1)

  pub held_all : (steps : List (CopyStep size)) → AllZip (HasRoom size) (places_of steps) (map (λ (s : CopyState). s.room) (news_of steps))
  held_all [] = tt
  held_all (s ∷ steps) = (step_fits size s.place s.old s.new s.more s.step, held_all steps)

  pub cells_here : (steps : List (CopyStep size)) (olds : List ReadLog) (files : List (List ℕ)) → AreReadAs olds (olds_of steps) files
      → held_cells size (places_of steps) (map (λ (s : CopyState). s.room) (news_of steps)) ≡ cells_in size (joined files (mores_of steps)) (places_of steps)
  unfolding joined
  cells_here [] [] [] read = refl
  cells_here [] [] (f ∷ files) read = absurd read
  cells_here [] (o ∷ olds) files read = absurd read
  cells_here (s ∷ steps) [] files read = absurd read
  cells_here (s ∷ steps) (o ∷ olds) [] read = absurd read
  cells_here (s ∷ steps) (o ∷ olds) (f ∷ files) read =
      let here = step_cell size s.place s.old s.new s.more s.step f read.0.1 in
      let rest = cells_here steps olds files read.1 in
      ap (λ cell. cell ∷ held_cells size (places_of steps) (map (λ (s : CopyState). s.room) (news_of steps))) here
      ∙ ap (λ cells. cell_of size (f ++ s.more) s.place ∷ cells) rest

  pub ends_on : (steps : List (CopyStep size))
      → map (λ (s : CopyState). s.end) (news_of steps) ≡ moved_ends size (map (λ (s : CopyState). s.end) (olds_of steps)) (places_of steps)
  ends_on [] = refl
  ends_on (s ∷ steps) =
      ap (λ e. e ∷ map (λ (s : CopyState). s.end) (news_of steps)) (step_end size s.place s.old s.new s.more s.step)
      ∙ ap (λ es. end_after size s.old.end s.place ∷ es) (ends_on steps)

  -- ---- a copy that stopped

  rest_read : (olds : List ReadLog) (rest : List CopyState) (files : List (List ℕ)) → AreReadAs olds rest files
      → AreRead olds (map (λ (s : CopyState). s.log) rest) (joined files (map (λ (s : CopyState). []) rest))
  unfolding joined
  rest_read [] [] [] read = tt
  rest_read [] [] (f ∷ files) read = absurd read
  rest_read [] (s ∷ states) files read = absurd read
  rest_read (o ∷ olds) [] files read = absurd read
  rest_read (o ∷ olds) (s ∷ states) [] read = absurd read
  rest_read (o ∷ olds) (s ∷ states) (f ∷ files) read =
      (subst (Reads o s.log) (sym (append-nil f)) read.0.0, rest_read olds states files read.1)

  -- what was read of all where one stopped
  abbrev pub stopped_mores : List (CopyStep size) → List ℕ → List CopyState → List (List ℕ)
  stopped_mores steps more rest = mores_of steps ++ more ∷ map (λ (s : CopyState). []) rest

  pub but_one_read : (steps : List (CopyStep size)) (old new : CopyState) (more : List ℕ) (rest : List CopyState) (olds : List ReadLog) (files : List (List ℕ))
      → StopsReading old.log new.log more → AreReadAs olds (olds_of steps ++ old ∷ rest) files
      → AreReadBut (length steps) olds (map (λ (s : CopyState). s.log) (news_of steps ++ new ∷ rest)) (joined files (stopped_mores steps more rest))
  unfolding joined
  but_one_read [] old new more rest [] files stop read = absurd read
  but_one_read [] old new more rest (o ∷ olds) [] stop read = absurd read
  but_one_read [] old new more rest (o ∷ olds) (f ∷ files) stop read =
      (StopsReading-after o old.log new.log f more read.0.0 stop, rest_read olds rest files read.1)
  but_one_read (s ∷ steps) old new more rest [] files stop read = absurd read
  but_one_read (s ∷ steps) old new more rest (o ∷ olds) [] stop read = absurd read
  but_one_read (s ∷ steps) old new more rest (o ∷ olds) (f ∷ files) stop read =
      ((step_on size s.place s.old s.new s.more s.step o f read.0.0 read.0.1).0, but_one_read steps old new more rest olds files stop read.1)

  pub all_read_so_far : (steps : List (CopyStep size)) (old new : CopyState) (more : List ℕ) (rest : List CopyState) (olds : List ReadLog) (files : List (List ℕ))
      → Reads old.log new.log more → AreReadAs olds (olds_of steps ++ old ∷ rest) files
      → AreRead olds (map (λ (s : CopyState). s.log) (news_of steps ++ new ∷ rest)) (joined files (stopped_mores steps more rest))
  unfolding joined
  all_read_so_far [] old new more rest [] files stop read = absurd read
  all_read_so_far [] old new more rest (o ∷ olds) [] stop read = absurd read
  all_read_so_far [] old new more rest (o ∷ olds) (f ∷ files) stop read =
      (Reads-trans o old.log new.log f more read.0.0 stop, rest_read olds rest files read.1)
  all_read_so_far (s ∷ steps) old new more rest [] files stop read = absurd read
  all_read_so_far (s ∷ steps) old new more rest (o ∷ olds) [] stop read = absurd read
  all_read_so_far (s ∷ steps) old new more rest (o ∷ olds) (f ∷ files) stop read =
      ((step_on size s.place s.old s.new s.more s.step o f read.0.0 read.0.1).0, all_read_so_far steps old new more rest olds files stop read.1)

  end_rises : (end : ℕ) (place : Option ℕ) → IsAfter end place → end ≤ end_after size end place
  end_rises end None after = omega arith
  end_rises end (Some place) after = omega (arith, after)

  rest_most : (olds : List ReadLog) (rest : List CopyState) (files : List (List ℕ)) (places : List (Option ℕ)) → AreReadAs olds rest files
      → AllZip IsAfter (map (λ (s : CopyState). s.end) rest) places
      → AllZip (λ end file. length file ≤ end) (moved_ends size (map (λ (s : CopyState). s.end) rest) places) (joined files (map (λ (s : CopyState). []) rest))
  unfolding joined
  rest_most [] [] [] [] read after = tt
  rest_most [] [] [] (p ∷ places) read after = absurd after
  rest_most [] [] (f ∷ files) places read after = absurd read
  rest_most [] (s ∷ states) files places read after = absurd read
  rest_most (o ∷ olds) [] files places read after = absurd read
  rest_most (o ∷ olds) (s ∷ states) [] places read after = absurd read
  rest_most (o ∷ olds) (s ∷ states) (f ∷ files) [] read after = absurd after
  rest_most (o ∷ olds) (s ∷ states) (f ∷ files) (p ∷ places) read after =
      let up = end_rises s.end p after.0 in
      let long = read.0.1 in
      (omega (arith, up, long, ap length (append-nil f)), rest_most olds states files places read.1 after.1)

  pub stopped_most : (Went : ReadLog → ReadLog → List ℕ → Type 0) (steps : List (CopyStep size)) (place : Option ℕ) (old new : CopyState) (more : List ℕ)
      (later : List (Option ℕ)) (rest : List CopyState) (olds : List ReadLog) (files : List (List ℕ)) → StopsCopy Went size place old new more
      → AreReadAs olds (olds_of steps ++ old ∷ rest) files
      → AllZip IsAfter (map (λ (s : CopyState). s.end) (olds_of steps ++ old ∷ rest)) (places_of steps ++ place ∷ later)
      → AllZip (λ end file. length file ≤ end) (moved_ends size (map (λ (s : CopyState). s.end) (olds_of steps ++ old ∷ rest)) (places_of steps ++ place ∷ later))
      (joined files (stopped_mores steps more rest))
  unfolding joined
  stopped_most Went [] place old new more later rest [] files stop read after = absurd read
  stopped_most Went [] place old new more later rest (o ∷ olds) [] stop read after = absurd read
  stopped_most Went [] place old new more later rest (o ∷ olds) (f ∷ files) stop read after =
      let short = stop.short in
      let long = read.0.1 in
      let ends : end_after size old.end place ≡ stop.start + size = ap (end_after size old.end) stop.there in
      (omega (arith, short, long, ends, length-append f more), rest_most olds rest files later read.1 after.1)
  stopped_most Went (s ∷ steps) place old new more later rest [] files stop read after = absurd read
  stopped_most Went (s ∷ steps) place old new more later rest (o ∷ olds) [] stop read after = absurd read
  stopped_most Went (s ∷ steps) place old new more later rest (o ∷ olds) (f ∷ files) stop read after =
      let long = (step_on size s.place s.old s.new s.more s.step o f read.0.0 read.0.1).1 in
      let ends = step_end size s.place s.old s.new s.more s.step in
      (omega (arith, long, ends), stopped_most Went steps place old new more later rest olds files stop read.1 after.1)

  -- the copy that stopped is too short
  pub stopped_short : (Went : ReadLog → ReadLog → List ℕ → Type 0) (steps : List (CopyStep size)) (place : Option ℕ) (old new : CopyState) (more : List ℕ)
      (rest : List CopyState) (olds : List ReadLog) (files : List (List ℕ)) (stop : StopsCopy Went size place old new more)
      → AreReadAs olds (olds_of steps ++ old ∷ rest) files
      → length (get_or (joined files (stopped_mores steps more rest)) (length steps) []) < stop.start + size
  unfolding joined
  stopped_short Went [] place old new more rest [] files stop read = absurd read
  stopped_short Went [] place old new more rest (o ∷ olds) [] stop read = absurd read
  stopped_short Went [] place old new more rest (o ∷ olds) (f ∷ files) stop read =
      let short = stop.short in
      let long = read.0.1 in
      omega (arith, short, long, length-append f more)
  stopped_short Went (s ∷ steps) place old new more rest [] files stop read = absurd read
  stopped_short Went (s ∷ steps) place old new more rest (o ∷ olds) [] stop read = absurd read
  stopped_short Went (s ∷ steps) place old new more rest (o ∷ olds) (f ∷ files) stop read =
      stopped_short Went steps place old new more rest olds files stop read.1

module _ (size : ℕ) where
  step_has : (place : Option ℕ) (old new : CopyState) (more file : List ℕ) → StepsCopy size place old new more → length file ≡ old.end
      → IfSome place (λ start. start + size ≤ length (file ++ more))
  step_has None old new more file step long = tt
  step_has (Some start) old new more file step long =
      omega (arith, long, step.gap, step.long, ap length step.whole, length-append file more, length-append step.before step.here)

  -- the copies before the one that stopped have the stretch
  pub earlier_have : (steps : List (CopyStep size)) (place : Option ℕ) (old : CopyState) (more : List ℕ) (later : List (Option ℕ)) (rest : List CopyState)
      (olds : List ReadLog) (files : List (List ℕ)) → AreReadAs olds (olds_of steps ++ old ∷ rest) files
      → AllZip (λ start file. IfSome start (λ begin. begin + size ≤ length file)) (take (length steps) (places_of steps ++ place ∷ later))
      (take (length steps) (joined files (stopped_mores size steps more rest)))
  unfolding joined
  earlier_have [] place old more later rest olds files read = tt
  earlier_have (s ∷ steps) place old more later rest [] files read = absurd read
  earlier_have (s ∷ steps) place old more later rest (o ∷ olds) [] read = absurd read
  earlier_have (s ∷ steps) place old more later rest (o ∷ olds) (f ∷ files) read =
      (step_has s.place s.old s.new s.more f s.step read.0.1, earlier_have steps place old more later rest olds files read.1)

pub at_boundary : {X : Type 0} (xs : List X) (x : X) (ys : List X) (d : X) → get_or (xs ++ x ∷ ys) (length xs) d ≡ x
at_boundary [] x ys d = refl
at_boundary (y ∷ xs) x ys d = at_boundary xs x ys d

-- ---- the cells of a stretch that was read

pub long_cells : (size : ℕ) (places : List (Option ℕ)) (rooms : List (List ℕ)) → AllZip (HasRoom size) places rooms → All (IsAsLong size) (held_cells size places rooms)
long_cells size [] [] held = All-nil (IsAsLong size)
long_cells size [] (r ∷ rooms) held = absurd held
long_cells size (p ∷ places) [] held = absurd held
long_cells size (None ∷ places) (r ∷ rooms) held =
    All-cons (IsAsLong size) None (held_cells size places rooms) tt (long_cells size places rooms held.1)
long_cells size (Some p ∷ places) (r ∷ rooms) held =
    All-cons (IsAsLong size) (Some (take size r)) (held_cells size places rooms) (length-take-le size r held.0) (long_cells size places rooms held.1)

place_there : (places : List (Option ℕ)) (i : ℕ) → HasPlace places i → i < length places
place_there [] i has = absurd (let no : None ≡ Some has.0 = has.1 in cc)
place_there (p ∷ places) zero has = omega arith
place_there (p ∷ places) (suc i) has = omega (arith, place_there places i has)

pub has_version : (size : ℕ) (places : List (Option ℕ)) (rooms : List (List ℕ)) (i : ℕ) → length places ≡ length rooms → HasPlace places i
    → HasVersion (held_cells size places rooms) i
has_version size places rooms i long has =
    let there = place_there places i has in (
      take size (get_or rooms i []),
      held_at size places rooms i there (omega arith) ∙ ap (λ p. held_cell size p (get_or rooms i [])) has.1,
    )

-- ---- earlier stretches, once more was read

-- a stretch lies within what was read
abbrev pub LiesWithin : ℕ → List (Option ℕ) → List (List ℕ) → Type 0
LiesWithin size places files = AllZip (λ place file. MatchOption place (Unit {0}) (λ start. start + size ≤ length file)) places files

cell_kept : (size : ℕ) (file more : List ℕ) (place : Option ℕ) → MatchOption place (Unit {0}) (λ start. start + size ≤ length file)
    → cell_of size (file ++ more) place ≡ cell_of size file place
cell_kept size file more None within = refl
cell_kept size file more (Some place) within =
    ap Some (ap (take size) (drop-append-le place file more (omega (arith, within)))
    ∙ take-append-le size (drop place file) more (omega (arith, within, length-drop place file)))

cells_kept : (size : ℕ) (files mores : List (List ℕ)) (places : List (Option ℕ)) → LiesWithin size places files → length mores ≡ length files
    → cells_in size (joined files mores) places ≡ cells_in size files places
unfolding joined
cells_kept size [] mores places within long = refl
cells_kept size (f ∷ files) [] places within long = absurd (omega arith)
cells_kept size (f ∷ files) (m ∷ mores) [] within long = absurd within
cells_kept size (f ∷ files) (m ∷ mores) (p ∷ places) within long =
    ap (λ cell. cell ∷ cells_in size (joined files mores) places) (cell_kept size f m p within.0)
    ∙ ap (λ cells. cell_of size f p ∷ cells) (cells_kept size files mores places within.1 (omega arith))

-- ends that no file stops before
abbrev pub AreBelow : List ℕ → List (List ℕ) → Type 0
AreBelow ends files = AllZip (λ end file. end ≤ length file) ends files

lies_within : (size : ℕ) (ends : List ℕ) (places : List (Option ℕ)) (files : List (List ℕ)) → length places ≡ length ends
    → AreBelow (moved_ends size ends places) files → LiesWithin size places files
lies_within size [] [] [] long below = tt
lies_within size [] [] (f ∷ files) long below = absurd below
lies_within size [] (p ∷ places) files long below = absurd (omega arith)
lies_within size (e ∷ ends) [] files long below = absurd (omega arith)
lies_within size (e ∷ ends) (p ∷ places) [] long below = absurd below
lies_within size (e ∷ ends) (None ∷ places) (f ∷ files) long below = (tt, lies_within size ends places files (omega arith) below.1)
lies_within size (e ∷ ends) (Some p ∷ places) (f ∷ files) long below = (below.0, lies_within size ends places files (omega arith) below.1)

-- ---- ends rise

abbrev pub Rise : List ℕ → List ℕ → Type 0
Rise ends later = AllZip (λ end after. end ≤ after) ends later

rise_same : (ends : List ℕ) → Rise ends ends
rise_same [] = tt
rise_same (e ∷ ends) = (omega arith, rise_same ends)

rise_through : (a b c : List ℕ) → Rise a b → Rise b c → Rise a c
rise_through [] [] [] p q = tt
rise_through [] [] (z ∷ c) p q = absurd q
rise_through [] (y ∷ b) c p q = absurd p
rise_through (x ∷ a) [] c p q = absurd p
rise_through (x ∷ a) (y ∷ b) [] p q = absurd q
rise_through (x ∷ a) (y ∷ b) (z ∷ c) p q = (omega (arith, p.0, q.0), rise_through a b c p.1 q.1)

pub below_later : (a b : List ℕ) (files : List (List ℕ)) → Rise a b → AreBelow b files → AreBelow a files
below_later [] [] [] p q = tt
below_later [] [] (f ∷ files) p q = absurd q
below_later [] (y ∷ b) files p q = absurd p
below_later (x ∷ a) [] files p q = absurd p
below_later (x ∷ a) (y ∷ b) [] p q = absurd q
below_later (x ∷ a) (y ∷ b) (f ∷ files) p q = (omega (arith, p.0, q.0), below_later a b files p.1 q.1)

pub most_later : (a b : List ℕ) (files : List (List ℕ)) → AllZip (λ end file. length file ≤ end) a files → Rise a b
    → AllZip (λ end file. length file ≤ end) b files
most_later [] [] [] p q = tt
most_later [] (y ∷ b) files p q = absurd q
most_later [] [] (f ∷ files) p q = absurd p
most_later (x ∷ a) b [] p q = absurd p
most_later (x ∷ a) [] (f ∷ files) p q = absurd q
most_later (x ∷ a) (y ∷ b) (f ∷ files) p q = (omega (arith, p.0, q.0), most_later a b files p.1 q.1)

rise_one : (size : ℕ) (ends : List ℕ) (places : List (Option ℕ)) → AllZip IsAfter ends places → Rise ends (moved_ends size ends places)
rise_one size [] [] after = tt
rise_one size [] (p ∷ places) after = absurd after
rise_one size (e ∷ ends) [] after = absurd after
rise_one size (e ∷ ends) (p ∷ places) after = (end_rises size e p after.0, rise_one size ends places after.1)

pub ends_rise : (copies : ℕ) (ends : List ℕ) (rest : List StretchValue) → AreInOrder copies ends rest → length ends ≡ copies
    → Rise ends (fold ends_after ends rest)
ends_rise copies ends [] order long = rise_same ends
ends_rise copies ends (s ∷ rest) order long =
    let count : length s.places ≡ length ends = order.0.count ∙ sym long in
    rise_through ends (ends_after ends s) (fold ends_after (ends_after ends s) rest) (rise_one s.size ends s.places order.1)
    (ends_rise copies (ends_after ends s) rest order.2 (length-moved_ends s.size ends s.places count ∙ long))

-- where all stretches lie within files, so does each of them
pub each_within : (copies : ℕ) (ends : List ℕ) (front : List StretchValue) (s : StretchValue) (later : List StretchValue) (files : List (List ℕ))
    → length ends ≡ copies → AreInOrder copies ends (front ++ s ∷ later) → AreBelow (fold ends_after ends (front ++ s ∷ later)) files
    → LiesWithin s.size s.places files
each_within copies ends [] s later files long order below =
    let count : length s.places ≡ length ends = order.0.count ∙ sym long in
    let next : length (ends_after ends s) ≡ copies = length-moved_ends s.size ends s.places count ∙ long in
    lies_within s.size ends s.places files count
    (below_later (ends_after ends s) (fold ends_after (ends_after ends s) later) files (ends_rise copies (ends_after ends s) later order.2 next) below)
each_within copies ends (t ∷ front) s later files long order below =
    let count : length t.places ≡ length ends = order.0.count ∙ sym long in
    each_within copies (ends_after ends t) front s later files (length-moved_ends t.size ends t.places count ∙ long) order.2 below

-- What became of stretches is so with more of the copies read, and so are their lines.
pub kept_all : (copies number : ℕ) (ends : List ℕ) (front : List StretchValue) (mended : List MendedValue) (files mores : List (List ℕ))
    → AreInOrder copies ends front → length ends ≡ copies → AreBelow (fold ends_after ends front) files → length mores ≡ length files
    → AllZip (λ stretch one. IsStretchMend (cells_of files stretch) stretch one) front mended
    → AllZip (λ stretch one. IsStretchMend (cells_of (joined files mores) stretch) stretch one) front mended
    × (mend_text number (joined files mores) front mended ≡ mend_text number files front mended)
kept_all copies number ends [] [] files mores order long below as_many outcomes = (tt, refl)
kept_all copies number ends [] (m ∷ mended) files mores order long below as_many outcomes = absurd outcomes
kept_all copies number ends (s ∷ front) [] files mores order long below as_many outcomes = absurd outcomes
kept_all copies number ends (s ∷ front) (m ∷ mended) files mores order long below as_many outcomes =
    let count : length s.places ≡ length ends = order.0.count ∙ sym long in
    let next : length (ends_after ends s) ≡ copies = length-moved_ends s.size ends s.places count ∙ long in
    let own = below_later (ends_after ends s) (fold ends_after (ends_after ends s) front) files (ends_rise copies (ends_after ends s) front order.2 next) below in
    let cells : cells_of (joined files mores) s ≡ cells_of files s =
    cells_kept s.size files mores s.places (lies_within s.size ends s.places files count own) as_many in
    let rest = kept_all copies (number + 1) (ends_after ends s) front mended files mores order.2 next below as_many outcomes.1 in (
      (subst (λ cells. IsStretchMend cells s m) (sym cells) outcomes.0, rest.0),
      ap (λ cells. stretch_text number cells s m ++ mend_text (number + 1) (joined files mores) front mended) cells
          ∙ ap (λ lines. stretch_text number (cells_of files s) s m ++ lines) rest.1,
    )

-- ---- one stretch more

pub text_push : (number : ℕ) (files : List (List ℕ)) (front : List StretchValue) (mended : List MendedValue) (s : StretchValue) (m : MendedValue)
    → AllZip (λ stretch one. IsStretchMend (cells_of files stretch) stretch one) front mended
    → mend_text number files (front ++ s ∷ []) (mended ++ m ∷ []) ≡ mend_text number files front mended ++ stretch_text (number + length front) (cells_of files s) s m
text_push number files [] [] s m outcomes =
    append-nil (stretch_text number (cells_of files s) s m) ∙ ap (λ n. stretch_text n (cells_of files s) s m) (let e : number ≡ number + 0 = omega arith in e)
text_push number files [] (o ∷ mended) s m outcomes = absurd outcomes
text_push number files (f ∷ front) [] s m outcomes = absurd outcomes
text_push number files (f ∷ front) (o ∷ mended) s m outcomes =
    ap (λ lines. stretch_text number (cells_of files f) f o ++ lines)
    (text_push (number + 1) files front mended s m outcomes.1
    ∙ ap (λ n. mend_text (number + 1) files front mended ++ stretch_text n (cells_of files s) s m) (let e : number + 1 + length front ≡ number + suc (length front) = omega arith in e))
    ∙ sym (append_assoc (stretch_text number (cells_of files f) f o) (mend_text (number + 1) files front mended)
    (stretch_text (number + suc (length front)) (cells_of files s) s m))
