-- A stretch that is read of each copy in turn.
use Rattle.std.proofs.Common.{◌≡◌, ℕ, zero, suc, ◌+◌, ◌<◌, ◌≤◌, List, [], ◌∷◌, ◌++◌, Option, None, length, get_or, set, take, drop, map, refl, sym, ap, ◌∙◌, subst, arith, Err}
use Rattle.std.proofs.lemmas.List.{take_all, length-map, map-append, length-set, length-take-le, get_or-map, map-set}
use Rattle.ffv1_devices.specs.Logs.{ReadLog, Reads}
use Rattle.ffv1_devices.specs.Exact.{StopsReading}
use Rattle.ffv1_stretches.specs.declared.pass.MendFault.{MendFault}
use Rattle.ffv1_stretches.specs.declared.pass.MendFault.TheVariants as faults
use Rattle.ffv1_stretches.specs.Copies.{CopyState, state_of}
use Rattle.ffv1_stretches.specs.declared.copy.CopyReader.{CopyReader}
use Rattle.ffv1_stretches.specs.Inner.PassSteps.{StepsCopy, StopsCopy, ReadsPlaced, CopyStep, AreSteps, StopsCopies, ReadsEach}

-- ---- by index

pub parted_at : {X : Type 0} (xs : List X) (i : ℕ) (d : X) → i < length xs → xs ≡ take i xs ++ get_or xs i d ∷ drop (suc i) xs
parted_at [] i d lt = absurd (omega arith)
parted_at (x ∷ xs) zero d lt = refl
parted_at (x ∷ xs) (suc i) d lt = ap (λ more. x ∷ more) (parted_at xs i d (omega arith))

set_parted : {X : Type 0} (xs : List X) (i : ℕ) (x : X) → i < length xs → set xs i x ≡ take i xs ++ x ∷ drop (suc i) xs
set_parted [] i x lt = absurd (omega arith)
set_parted (y ∷ xs) zero x lt = refl
set_parted (y ∷ xs) (suc i) x lt = ap (λ more. y ∷ more) (set_parted xs i x (omega arith))

take_set : {X : Type 0} (xs : List X) (i : ℕ) (x : X) → i < length xs → take (suc i) (set xs i x) ≡ take i xs ++ x ∷ []
take_set [] i x lt = absurd (omega arith)
take_set (y ∷ xs) zero x lt = refl
take_set (y ∷ xs) (suc i) x lt = ap (λ more. y ∷ more) (take_set xs i x (omega arith))

drop_set : {X : Type 0} (xs : List X) (i : ℕ) (x : X) → drop (suc i) (set xs i x) ≡ drop (suc i) xs
drop_set [] i x = refl
drop_set (y ∷ xs) zero x = refl
drop_set (y ∷ xs) (suc i) x = drop_set xs i x

nothing : {X : Type 0} (i : ℕ) (zs : List X) → drop i zs ≡ [] → drop (suc i) zs ≡ []
nothing zero [] e = refl
nothing zero (z ∷ zs) e = absurd (omega (arith, ap length e))
nothing (suc i) [] e = refl
nothing (suc i) (z ∷ zs) e = nothing i zs e

drop_suc : {X : Type 0} (xs ys : List X) (i : ℕ) → drop i xs ≡ drop i ys → drop (suc i) xs ≡ drop (suc i) ys
drop_suc [] [] zero e = refl
drop_suc [] (y ∷ ys) zero e = absurd (omega (arith, ap length e))
drop_suc (x ∷ xs) [] zero e = absurd (omega (arith, ap length e))
drop_suc (x ∷ xs) (y ∷ ys) zero e = cc
drop_suc [] [] (suc i) e = refl
drop_suc [] (y ∷ ys) (suc i) e = sym (nothing i ys (sym e))
drop_suc (x ∷ xs) [] (suc i) e = nothing i xs e
drop_suc (x ∷ xs) (y ∷ ys) (suc i) e = drop_suc xs ys i e

get_dropped : {X : Type 0} (xs ys : List X) (i : ℕ) (d : X) → drop i xs ≡ drop i ys → i < length xs → i < length ys → get_or xs i d ≡ get_or ys i d
get_dropped [] ys i d e lt within = absurd (omega arith)
get_dropped (x ∷ xs) [] i d e lt within = absurd (omega arith)
get_dropped (x ∷ xs) (y ∷ ys) zero d e lt within = let same : x ≡ y = cc in same
get_dropped (x ∷ xs) (y ∷ ys) (suc i) d e lt within = get_dropped xs ys i d e (omega arith) (omega arith)

take_suc : {X : Type 0} (xs : List X) (i : ℕ) (d : X) → i < length xs → take (suc i) xs ≡ take i xs ++ get_or xs i d ∷ []
take_suc [] i d lt = absurd (omega arith)
take_suc (x ∷ xs) zero d lt = refl
take_suc (x ∷ xs) (suc i) d lt = ap (λ more. x ∷ more) (take_suc xs i d (omega arith))

-- ---- the loop over the copies

-- The stretch was read of the copies before this one, and nothing of the others.
pub record AreReadTo (size : ℕ) (places : List (Option ℕ)) (i : ℕ) (olds now : List CopyState) : Type 0 where
  pub steps : List (CopyStep size)
  pub are : AreSteps size (take i places) (take i olds) (take i now) steps
  pub others : drop i now ≡ drop i olds
  pub count : length now ≡ length olds

pub none_read : (size : ℕ) (places : List (Option ℕ)) (olds : List CopyState) → AreReadTo size places 0 olds olds
none_read size places olds = record { steps = []; are = record { places' = refl; olds' = refl; news' = refl }; others = refl; count = refl }

module _ (size : ℕ) (places : List (Option ℕ)) (i : ℕ) (olds now : List CopyState) (so_far : AreReadTo size places i olds now)
    (lt : i < length places) (long : length places ≡ length olds) (d : CopyState) where
  abbrev place : Option ℕ
  place = get_or places i None

  pub is_old : get_or now i d ≡ get_or olds i d
  is_old = get_dropped now olds i d so_far.others (omega (arith, so_far.count)) (omega arith)

  pub one_read : (new : CopyState) (more : List ℕ) → StepsCopy size place (get_or now i d) new more → AreReadTo size places (i + 1) olds (set now i new)
  one_read new more step =
      let within : i < length now = omega (arith, so_far.count) in
      let next : suc i ≡ i + 1 = omega arith in
      let steps : List (CopyStep size) = so_far.steps in
      let here : CopyStep size = record {
        place = place;
        old = get_or olds i d;
        new = new;
        more = more;
        step = subst (λ (s : CopyState). StepsCopy size place s new more) is_old step;
      } in
      subst (λ n. AreReadTo size places n olds (set now i new)) next (record {
        steps = steps ++ here ∷ [];
        are = record {
          places' = take_suc places i None lt ∙ ap (λ ps. ps ++ place ∷ []) so_far.are.places' ∙ sym (map-append (λ (s : CopyStep size). s.place) steps (here ∷ []));
          olds' = take_suc olds i d (omega arith) ∙ ap (λ os. os ++ get_or olds i d ∷ []) so_far.are.olds' ∙ sym (map-append (λ (s : CopyStep size). s.old) steps (here ∷ []));
          news' = take_set now i new within ∙ ap (λ ns. ns ++ new ∷ []) so_far.are.news' ∙ sym (map-append (λ (s : CopyStep size). s.new) steps (here ∷ []));
        };
        others = drop_set now i new ∙ drop_suc now olds i so_far.others;
        count = length-set now i new ∙ so_far.count;
      })

  pub one_stops : (Went : ReadLog → ReadLog → List ℕ → Type 0) (new : CopyState) (more : List ℕ) → StopsCopy Went size place (get_or now i d) new more
      → (stops : StopsCopies Went size places olds (set now i new)) × (i ≡ length stops.steps)
  one_stops Went new more stop =
      let within : i < length now = omega (arith, so_far.count) in
      let steps : List (CopyStep size) = so_far.steps in
      let number : i ≡ length steps =
      sym (length-take-le i places (omega arith)) ∙ ap length so_far.are.places' ∙ length-map steps (λ (s : CopyStep size). s.place) in (
        record {
          steps = steps;
          place = place;
          old = get_or olds i d;
          new = new;
          more = more;
          stop = subst (λ (s : CopyState). StopsCopy Went size place s new more) is_old stop;
          later = drop (suc i) places;
          rest = drop (suc i) olds;
          places' = parted_at places i None lt ∙ ap (λ ps. ps ++ place ∷ drop (suc i) places) so_far.are.places';
          olds' = parted_at olds i d (omega arith) ∙ ap (λ os. os ++ get_or olds i d ∷ drop (suc i) olds) so_far.are.olds';
          news' = set_parted now i new within ∙ ap (λ later. take i now ++ new ∷ later) (drop_suc now olds i so_far.others)
              ∙ ap (λ ns. ns ++ new ∷ drop (suc i) olds) so_far.are.news';
        },
        number,
      )

  -- the copy stopped
  pub each_stops : (T : Type 0) (fault : MendFault) (new : CopyState) → ReadsPlaced {T = T} i size place (Err fault) (get_or now i d) new
      → ReadsEach {T = T} size places (Err fault) olds (set now i new)
  each_stops T (faults.Read copy) new stop = let all = one_stops StopsReading new stop.1.0 stop.1.1 in (all.0, stop.0 ∙ all.1)
  each_stops T faults.Memory new stop = (one_stops Reads new stop.0 stop.1).0
  each_stops T faults.Out new stop = absurd stop
  each_stops T faults.Output new stop = absurd stop

-- all were read
pub all_read : (size : ℕ) (places : List (Option ℕ)) (i : ℕ) (olds now : List CopyState) → AreReadTo size places i olds now → length places ≤ i
    → length places ≡ length olds → (steps : List (CopyStep size)) × AreSteps size places olds now steps
all_read size places i olds now so_far end long = (
  so_far.steps,
  record {
    places' = sym (take_all i places end) ∙ so_far.are.places';
    olds' = sym (take_all i olds (omega arith)) ∙ so_far.are.olds';
    news' = sym (take_all i now (omega (arith, so_far.count))) ∙ so_far.are.news';
  },
)

-- ---- the same of copies as they are read

module _ {S : Type 0} (log : S → ReadLog) (size own : ℕ) (places theirs : List (Option ℕ)) (i : ℕ) (olds nows : List (CopyReader S)) (r new : CopyReader S)
    (so_far : AreReadTo size places i (map (state_of log) olds) (map (state_of log) nows)) (lt : i < length places)
    (long : length places ≡ length olds) (kept : length nows ≡ length olds) (own_is : own ≡ size) (theirs_are : theirs ≡ places) where
  abbrev d : CopyState
  d = state_of log r

  there : i < length nows
  there = omega (arith, lt, long, kept)

  counted : length places ≡ length (map (state_of log) olds)
  counted = long ∙ sym (length-map olds (state_of log))

  now_is : state_of log (get_or nows i r) ≡ get_or (map (state_of log) nows) i d
  now_is = sym (get_or-map (state_of log) nows i r d there)

  place_is : get_or theirs i None ≡ get_or places i None
  place_is = ap (λ (ps : List (Option ℕ)). get_or ps i None) theirs_are

  pub copy_steps : (more : List ℕ) → StepsCopy own (get_or theirs i None) (state_of log (get_or nows i r)) (state_of log new) more
      → AreReadTo size places (i + 1) (map (state_of log) olds) (map (state_of log) (set nows i new))
  copy_steps more step =
      subst (AreReadTo size places (i + 1) (map (state_of log) olds)) (sym (map-set (state_of log) nows i new))
      (one_read size places i (map (state_of log) olds) (map (state_of log) nows) so_far lt counted d (state_of log new) more
      (subst (λ n. StepsCopy n (get_or places i None) (get_or (map (state_of log) nows) i d) (state_of log new) more) own_is
      (subst (λ p. StepsCopy own p (get_or (map (state_of log) nows) i d) (state_of log new) more) place_is
      (subst (λ s. StepsCopy own (get_or theirs i None) s (state_of log new) more) now_is step))))

  pub copies_stop : (T : Type 0) (fault : MendFault) → ReadsPlaced {T = T} i own (get_or theirs i None) (Err fault) (state_of log (get_or nows i r)) (state_of log new)
      → ReadsEach {T = T} size places (Err fault) (map (state_of log) olds) (map (state_of log) (set nows i new))
  copies_stop T fault stop =
      subst (ReadsEach {T = T} size places (Err fault) (map (state_of log) olds)) (sym (map-set (state_of log) nows i new))
      (each_stops size places i (map (state_of log) olds) (map (state_of log) nows) so_far lt counted d T fault (state_of log new)
      (subst (λ n. ReadsPlaced {T = T} i n (get_or places i None) (Err fault) (get_or (map (state_of log) nows) i d) (state_of log new)) own_is
      (subst (λ p. ReadsPlaced {T = T} i own p (Err fault) (get_or (map (state_of log) nows) i d) (state_of log new)) place_is
      (subst (λ s. ReadsPlaced {T = T} i own (get_or theirs i None) (Err fault) s (state_of log new)) now_is stop))))
