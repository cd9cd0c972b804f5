-- Fields that are read one by one, each judged as soon as it was read, are read where they are coded, and nowhere else.
use Rattle.std.proofs.Common.{lit≤, ◌≡◌, ℕ, zero, suc, ◌++◌, length, map, append-nil, append_assoc, sym, subst, arith, ◌+◌, ◌*◌, Bool, true, false, List, [], ◌∷◌, Result, Ok, Err, refl, ap, ◌∙◌}
use Rattle.std.proofs.Math.Path.{fun_ext}
use Rattle.std.specs.Prelude.{nat_le, ◌==◌, ◌&&◌, if◌then◌else◌}
use Rattle.ffv1_bits.specs.Limits.{most_tiles}
use Rattle.ffv1_range.specs.Results.{◌>>>◌}
use Rattle.ffv1_range.specs.Coding.{Mode, PlaceOf, Place, IsRangeRun}
use Rattle.ffv1_range.specs.Forms.{Form, ◌>>=◌, giving, accepted, lifted, lifted_result, slot_form}
use Rattle.ffv1_range.specs.Reading.{symbol_form, signed_symbol_form}
use Rattle.ffv1_range.specs.Scopes.{accepts_coder, accepts_space, accepts_depth, accepts_chroma, accepts_shift, accepts_extra_plane, accepts_ec, delta_count}
use Rattle.ffv1_range.specs.Transitions.{delta_byte, delta_bytes, transitions_with}
use Rattle.ffv1_range.specs.declared.transitions.Transitions.{Transitions}
use Rattle.ffv1_range.specs.TableForms.{set_count}
use Rattle.ffv1_range.specs.declared.scope.Scope.{Scope}
use Rattle.std.specs.List.{All}
use Rattle.std.specs.Prelude.{ℤ, unsigned_abs, replicate}
use Rattle.std.proofs.lemmas.List.Elements.{All-nil, All-cons, All-head, All-tail}
use Rattle.ffv1_range.specs.Symbols.{symbol_bits, signed_symbol_bits}
use Rattle.ffv1_range.specs.Fields.{number, flag, PlanesValue, ShapeValue, TileCounts, deltas_onto, transition_deltas, chroma_planes_of, shape_of, shape_fields, tile_counts, last_fields}
use Rattle.ffv1_range.specs.Setup.{FieldValue, symbol, bit, signed, field_bits, fields_bits, IsSymbol}
use Rattle.ffv1_range.specs.SetupForms.{FrontValue, front_form}
use Rattle.ffv1_range.specs.declared.coding.RangeFault.{RangeFault}
use Rattle.ffv1_range.specs.declared.fault.SetupFault.{SetupFault}
use Rattle.ffv1_range.specs.declared.fault.SetupFault.TheVariants.{Range, Version, Micro, Coder, ColorSpace, Depth, Subsampling, ExtraPlane, GridTooFine, TooManyTiles, TableCount, ParityMode}
use Rattle.ffv1_range.proofs.Spelling.{symbol_is_spelled, signed_symbol_is_spelled, bind_is_ok, same_ok, run_append, run_split}
use Rattle.ffv1_range.proofs.Forms.{bind_ok}

-- ---- one field

pub lifted_ok : {A E : Type 0} (lift : RangeFault → E) (r : Result A RangeFault) (x : A) → lifted_result lift r ≡ Ok x → r ≡ Ok x
lifted_ok lift (Ok y) x h = ap (λ z. Ok z) (same_ok y x h)
lifted_ok lift (Err e) x h = absurd cc

pub number-found : (mode : Mode) (p : Place) (x : ℕ × Place) → number mode p ≡ Ok x → IsSymbol x.0 × IsRangeRun mode p (symbol_bits x.0) x.1
number-found mode p x h = (symbol_is_spelled mode p x.1 x.0).0 (lifted_ok Range (symbol_form mode p) x h)

pub number-run : (mode : Mode) (n : ℕ) (p q : Place) → IsSymbol n → IsRangeRun mode p (symbol_bits n) q → number mode p ≡ Ok (n, q)
number-run mode n p q small run = ap (lifted_result Range) ((symbol_is_spelled mode p q n).1 (small, run))

pub flag-found : (mode : Mode) (p : Place) (x : Bool × Place) → flag mode p ≡ Ok x → IsRangeRun mode p (fields_bits (bit x.0 ∷ [])) x.1
unfolding IsRangeRun fields_bits
flag-found mode p x h = (x.1, lifted_ok Range (slot_form 0 mode p) x h, refl)

pub flag-run : (mode : Mode) (b : Bool) (p q : Place) → IsRangeRun mode p (fields_bits (bit b ∷ [])) q → flag mode p ≡ Ok (b, q)
unfolding IsRangeRun fields_bits
flag-run mode b p q run = ap (lifted_result Range) run.1 ∙ ap (λ z. Ok (b, z)) run.2

pub accepted-found : {X A : Type 0} (mode : Mode) (p : PlaceOf X) (t : Bool) (f : SetupFault) (k : Bool → Form X A SetupFault) (y : A × PlaceOf X)
    → (accepted t f >>= k) mode p ≡ Ok y → (t ≡ true) × (k true mode p ≡ Ok y)
accepted-found mode p true f k y h = (refl, h)
accepted-found mode p false f k y h = absurd cc

pub accepted-run : {X A : Type 0} (mode : Mode) (p : PlaceOf X) (t : Bool) (f : SetupFault) (k : Bool → Form X A SetupFault) → t ≡ true
    → (accepted t f >>= k) mode p ≡ k true mode p
accepted-run mode p t f k e = ap (λ b. (accepted b f >>= k) mode p) e

-- the deltas of transitions

pub deltas-found : (mode : Mode) (n : ℕ) (done : List ℕ) (p : Place) (y : List ℕ × Place) → deltas_onto n done mode p ≡ Ok y
    → (deltas : List ℤ) × (length deltas ≡ n) × All (λ delta. IsSymbol (unsigned_abs delta)) deltas × (y.0 ≡ done ++ map delta_byte deltas)
    × IsRangeRun mode p (fields_bits (map signed deltas)) y.1
unfolding deltas_onto IsRangeRun fields_bits
deltas-found mode zero done p y h =
    let pair = same_ok (done, p) y h in
    ([], refl, All-nil (λ delta. IsSymbol (unsigned_abs delta)), sym (ap (λ z. z.0) pair) ∙ sym (append-nil done), ap (λ z. z.1) pair)
deltas-found mode (suc n) done p y h =
    let x = bind_is_ok (lifted Range signed_symbol_form mode p) (λ x. deltas_onto n (done ++ delta_byte x.0 ∷ []) mode x.1) y h in
    let s = (signed_symbol_is_spelled 32 (lit≤ tt) mode p x.0.1 x.0.0).0 (lifted_ok Range (signed_symbol_form mode p) x.0 x.1) in
    let r = deltas-found mode n (done ++ delta_byte x.0.0 ∷ []) x.0.1 y x.2 in (
      x.0.0 ∷ r.0,
      ap suc r.1,
      All-cons (λ delta. IsSymbol (unsigned_abs delta)) x.0.0 r.0 s.0 r.2,
      r.3 ∙ append_assoc done (delta_byte x.0.0 ∷ []) (map delta_byte r.0),
      run_append mode (signed_symbol_bits x.0.0) (fields_bits (map signed r.0)) p x.0.1 y.1 s.1 r.4,
    )

pub deltas-run : (mode : Mode) (n : ℕ) (done : List ℕ) (deltas : List ℤ) (p q : Place) → length deltas ≡ n
    → All (λ delta. IsSymbol (unsigned_abs delta)) deltas → IsRangeRun mode p (fields_bits (map signed deltas)) q
    → deltas_onto n done mode p ≡ Ok (done ++ map delta_byte deltas, q)
unfolding deltas_onto IsRangeRun fields_bits
deltas-run mode zero done [] p q size small run = ap (λ z. Ok (z, p)) (sym (append-nil done)) ∙ ap (λ z. Ok (done ++ [], z)) run
deltas-run mode zero done (delta ∷ deltas) p q size small run = absurd (omega arith)
deltas-run mode (suc n) done [] p q size small run = absurd (omega arith)
deltas-run mode (suc n) done (delta ∷ deltas) p q size small run =
    let s = run_split mode (signed_symbol_bits delta) (fields_bits (map signed deltas)) p q run in
    let first = All-head (λ delta. IsSymbol (unsigned_abs delta)) delta deltas small in
    bind_ok (lifted Range signed_symbol_form mode p) (λ x. deltas_onto n (done ++ delta_byte x.0 ∷ []) mode x.1) (delta, s.0)
    (ap (lifted_result Range) ((signed_symbol_is_spelled 32 (lit≤ tt) mode p s.0 delta).1 (first, s.1)))
    ∙ deltas-run mode n (done ++ delta_byte delta ∷ []) deltas s.0 q (omega arith) (All-tail (λ delta. IsSymbol (unsigned_abs delta)) delta deltas small) s.2
    ∙ ap (λ z. Ok (z, q)) (append_assoc done (delta_byte delta ∷ []) (map delta_byte deltas))

-- the same where they are coded, and else all are 0
pub transitions-found : (is_coded : Bool) (mode : Mode) (p : Place) (y : List ℕ × Place)
    → (if is_coded then deltas_onto 255 [] else giving (replicate 255 0)) mode p ≡ Ok y
    → (deltas : List ℤ) × (length deltas ≡ (if is_coded then 255 else 0)) × All (λ delta. IsSymbol (unsigned_abs delta)) deltas
    × (y.0 ≡ (if is_coded then map delta_byte deltas else replicate 255 0)) × IsRangeRun mode p (fields_bits (map signed deltas)) y.1
unfolding IsRangeRun fields_bits
transitions-found true mode p y h = deltas-found mode 255 [] p y h
transitions-found false mode p y h =
    let pair = same_ok (replicate 255 0, p) y h in ([], refl, All-nil (λ delta. IsSymbol (unsigned_abs delta)), sym (ap (λ z. z.0) pair), ap (λ z. z.1) pair)

pub transitions-run : (is_coded : Bool) (mode : Mode) (deltas : List ℤ) (p q : Place) → length deltas ≡ (if is_coded then 255 else 0)
    → All (λ delta. IsSymbol (unsigned_abs delta)) deltas → IsRangeRun mode p (fields_bits (map signed deltas)) q
    → (if is_coded then deltas_onto 255 [] else giving (replicate 255 0)) mode p
    ≡ Ok ((if is_coded then map delta_byte deltas else replicate 255 0), q)
unfolding IsRangeRun fields_bits
transitions-run true mode deltas p q size small run = deltas-run mode 255 [] deltas p q size small run
transitions-run false mode [] p q size small run = ap (λ z. Ok (replicate 255 0, z)) run
transitions-run false mode (delta ∷ deltas) p q size small run = absurd (omega arith)

-- bits of fields, and of those after them
pub fields_bits-append : (xs ys : List FieldValue) → fields_bits (xs ++ ys) ≡ fields_bits xs ++ fields_bits ys
unfolding fields_bits
fields_bits-append [] ys = refl
fields_bits-append (x ∷ xs) ys = ap (λ z. field_bits x ++ z) (fields_bits-append xs ys) ∙ sym (append_assoc (field_bits x) (fields_bits xs) (fields_bits ys))

-- ---- fields one after the other

-- What is read next, up to a value: a number, a bit, deltas, or a test of what was read, with its fault.
pub data Plan (A : Type 0) : Type 0 where
  done : A → Plan A
  number_then : (ℕ → Plan A) → Plan A
  flag_then : (Bool → Plan A) → Plan A
  deltas_then : ℕ → (List ℕ → Plan A) → Plan A
  tested : Bool → SetupFault → Plan A → Plan A

unfoldable pub form_of : {A : Type 0} → Plan A → Form (List ℕ) A SetupFault
form_of (done a) = giving a
form_of (number_then next) = number >>= λ n. form_of (next n)
form_of (flag_then next) = flag >>= λ b. form_of (next b)
form_of (deltas_then coder next) = transition_deltas coder >>= λ bytes. form_of (next bytes)
form_of (tested test fault next) = accepted test fault >>= λ fits. form_of next

-- fields that a plan takes, with what its tests say of them
unfoldable pub Taken : {A : Type 0} → Plan A → Type 0
Taken (done a) = Unit {0}
Taken (number_then next) = (n : ℕ) × IsSymbol n × Taken (next n)
Taken (flag_then next) = (b : Bool) × Taken (next b)
Taken (deltas_then coder next) =
    (deltas : List ℤ) × (length deltas ≡ delta_count coder) × All (λ delta. IsSymbol (unsigned_abs delta)) deltas
    × Taken (next (delta_bytes coder deltas))
Taken (tested test fault next) = (test ≡ true) × Taken next

unfoldable pub fields_of : {A : Type 0} (plan : Plan A) → Taken plan → List FieldValue
unfolding Taken
fields_of (done a) x = []
fields_of (number_then next) x = symbol x.0 ∷ fields_of (next x.0) x.2
fields_of (flag_then next) x = bit x.0 ∷ fields_of (next x.0) x.1
fields_of (deltas_then coder next) x = map signed x.0 ++ fields_of (next (delta_bytes coder x.0)) x.3
fields_of (tested test fault next) x = fields_of next x.1

unfoldable pub value_of : {A : Type 0} (plan : Plan A) → Taken plan → A
unfolding Taken
value_of (done a) x = a
value_of (number_then next) x = value_of (next x.0) x.2
value_of (flag_then next) x = value_of (next x.0) x.1
value_of (deltas_then coder next) x = value_of (next (delta_bytes coder x.0)) x.3
value_of (tested test fault next) x = value_of next x.1

-- a fact of all fields that a plan takes, with an argument for each field and each test
unfoldable pub Each : {A : Type 0} (plan : Plan A) → (Taken plan → Type 0) → Type 0
unfolding Taken
Each (done a) P = P tt
Each (number_then next) P = (n : ℕ) (small : IsSymbol n) → Each (next n) (λ x. P (n, small, x))
Each (flag_then next) P = (b : Bool) → Each (next b) (λ x. P (b, x))
Each (deltas_then coder next) P =
    (deltas : List ℤ) (size : length deltas ≡ delta_count coder) (small : All (λ delta. IsSymbol (unsigned_abs delta)) deltas)
    → Each (next (delta_bytes coder deltas)) (λ x. P (deltas, size, small, x))
Each (tested test fault next) P = (passed : test ≡ true) → Each next (λ x. P (passed, x))

pub Each-at : {A : Type 0} (plan : Plan A) (P : Taken plan → Type 0) → Each plan P → (x : Taken plan) → P x
unfolding Taken Each
Each-at (done a) P h x = h
Each-at (number_then next) P h x = Each-at (next x.0) (λ z. P (x.0, x.1, z)) (h x.0 x.1) x.2
Each-at (flag_then next) P h x = Each-at (next x.0) (λ z. P (x.0, z)) (h x.0) x.1
Each-at (deltas_then coder next) P h x = Each-at (next (delta_bytes coder x.0)) (λ z. P (x.0, x.1, x.2, z)) (h x.0 x.1 x.2) x.3
Each-at (tested test fault next) P h x = Each-at next (λ z. P (x.0, z)) (h x.0) x.1

pub Each-from : {A : Type 0} (plan : Plan A) (P : Taken plan → Type 0) → ((x : Taken plan) → P x) → Each plan P
unfolding Taken Each
Each-from (done a) P h = h tt
Each-from (number_then next) P h = λ n small. Each-from (next n) (λ z. P (n, small, z)) (λ z. h (n, small, z))
Each-from (flag_then next) P h = λ b. Each-from (next b) (λ z. P (b, z)) (λ z. h (b, z))
Each-from (deltas_then coder next) P h =
    λ deltas size small. Each-from (next (delta_bytes coder deltas)) (λ z. P (deltas, size, small, z)) (λ z. h (deltas, size, small, z))
Each-from (tested test fault next) P h = λ passed. Each-from next (λ z. P (passed, z)) (λ z. h (passed, z))

-- From p to the end of what was read, fields that the plan takes are coded, and what was read is their value.
abbrev pub PlanAt : {A : Type 0} → Plan A → Mode → Place → A × Place → Type 0
PlanAt plan mode p y = (x : Taken plan) × (value_of plan x ≡ y.0) × IsRangeRun mode p (fields_bits (fields_of plan x)) y.1

-- Where a plan is read, fields that it takes are coded.
pub plan-found : {A : Type 0} (plan : Plan A) (mode : Mode) (p : Place) (y : A × Place) → form_of plan mode p ≡ Ok y
    → PlanAt plan mode p y
unfolding form_of Taken fields_of value_of fields_bits IsRangeRun
plan-found (done a) mode p y h = let same = same_ok (a, p) y h in (tt, ap (λ z. z.0) same, ap (λ z. z.1) same)
plan-found (number_then next) mode p y h =
    let n = bind_is_ok (number mode p) (λ x. form_of (next x.0) mode x.1) y h in
    let s = number-found mode p n.0 n.1 in
    let r = plan-found (next n.0.0) mode n.0.1 y n.2 in
    ((n.0.0, s.0, r.0), r.1, run_append mode (symbol_bits n.0.0) (fields_bits (fields_of (next n.0.0) r.0)) p n.0.1 y.1 s.1 r.2)
plan-found (flag_then next) mode p y h =
    let b = bind_is_ok (flag mode p) (λ x. form_of (next x.0) mode x.1) y h in
    let r = plan-found (next b.0.0) mode b.0.1 y b.2 in
    ((b.0.0, r.0), r.1, (b.0.1, lifted_ok Range (slot_form 0 mode p) b.0 b.1, r.2))
plan-found (deltas_then coder next) mode p y h =
    let b = bind_is_ok (transition_deltas coder mode p) (λ x. form_of (next x.0) mode x.1) y h in
    let s = transitions-found (coder == 2) mode p b.0 b.1 in
    let r = plan-found (next (delta_bytes coder s.0)) mode b.0.1 y (ap (λ z. form_of (next z) mode b.0.1) (sym s.3) ∙ b.2) in (
      (s.0, s.1, s.2, r.0),
      r.1,
      subst (λ z. IsRangeRun mode p z y.1) (sym (fields_bits-append (map signed s.0) (fields_of (next (delta_bytes coder s.0)) r.0)))
          (run_append mode (fields_bits (map signed s.0)) (fields_bits (fields_of (next (delta_bytes coder s.0)) r.0)) p b.0.1 y.1 s.4 r.2),
    )
plan-found (tested test fault next) mode p y h =
    let t = accepted-found mode p test fault (λ fits. form_of next) y h in
    let r = plan-found next mode p y t.1 in
    ((t.0, r.0), r.1, r.2)

-- Where such fields are coded, it is read.
pub plan-run : {A : Type 0} (plan : Plan A) (x : Taken plan) (mode : Mode) (p q : Place) → IsRangeRun mode p (fields_bits (fields_of plan x)) q
    → form_of plan mode p ≡ Ok (value_of plan x, q)
unfolding form_of Taken fields_of value_of fields_bits IsRangeRun
plan-run (done a) x mode p q run = ap (λ z. Ok (a, z)) run
plan-run (number_then next) x mode p q run =
    let s = run_split mode (symbol_bits x.0) (fields_bits (fields_of (next x.0) x.2)) p q run in
    bind_ok (number mode p) (λ z. form_of (next z.0) mode z.1) (x.0, s.0) (number-run mode x.0 p s.0 x.1 s.1)
    ∙ plan-run (next x.0) x.2 mode s.0 q s.2
plan-run (flag_then next) x mode p q run =
    bind_ok (flag mode p) (λ z. form_of (next z.0) mode z.1) (x.0, run.0) (ap (lifted_result Range) run.1)
    ∙ plan-run (next x.0) x.1 mode run.0 q run.2
plan-run (deltas_then coder next) x mode p q run =
    let s = run_split mode (fields_bits (map signed x.0)) (fields_bits (fields_of (next (delta_bytes coder x.0)) x.3)) p q
    (subst (λ z. IsRangeRun mode p z q) (fields_bits-append (map signed x.0) (fields_of (next (delta_bytes coder x.0)) x.3)) run) in
    bind_ok (transition_deltas coder mode p) (λ z. form_of (next z.0) mode z.1) (delta_bytes coder x.0, s.0)
    (transitions-run (coder == 2) mode x.0 p s.0 x.1 x.2 s.1)
    ∙ plan-run (next (delta_bytes coder x.0)) x.3 mode s.0 q s.2
plan-run (tested test fault next) x mode p q run =
    accepted-run mode p test fault (λ fits. form_of next) x.0 ∙ plan-run next x.1 mode p q run

-- a plan, and then one that follows from its value
unfoldable pub followed : {A B : Type 0} → Plan A → (A → Plan B) → Plan B
followed (done a) k = k a
followed (number_then next) k = number_then (λ n. followed (next n) k)
followed (flag_then next) k = flag_then (λ b. followed (next b) k)
followed (deltas_then coder next) k = deltas_then coder (λ bytes. followed (next bytes) k)
followed (tested test fault next) k = tested test fault (followed next k)

bind_each : {A B C E : Type 0} (r : Result A E) (f : A → Result B E) (g : B → Result C E) (both : A → Result C E) → ((x : A) → both x ≡ (f x >>> g))
    → (r >>> both) ≡ ((r >>> f) >>> g)
bind_each (Ok x) f g both h = h x
bind_each (Err e) f g both h = refl

followed_at : {A B : Type 0} (plan : Plan A) (k : A → Plan B) (mode : Mode) (p : Place)
    → form_of (followed plan k) mode p ≡ (form_of plan >>= λ a. form_of (k a)) mode p
unfolding form_of followed
followed_at (done a) k mode p = refl
followed_at (number_then next) k mode p =
    bind_each (number mode p) (λ x. form_of (next x.0) mode x.1) (λ x. form_of (k x.0) mode x.1) (λ x. form_of (followed (next x.0) k) mode x.1)
    (λ x. followed_at (next x.0) k mode x.1)
followed_at (flag_then next) k mode p =
    bind_each (flag mode p) (λ x. form_of (next x.0) mode x.1) (λ x. form_of (k x.0) mode x.1) (λ x. form_of (followed (next x.0) k) mode x.1)
    (λ x. followed_at (next x.0) k mode x.1)
followed_at (deltas_then coder next) k mode p =
    bind_each (transition_deltas coder mode p) (λ x. form_of (next x.0) mode x.1) (λ x. form_of (k x.0) mode x.1) (λ x. form_of (followed
    (next x.0) k) mode x.1)
    (λ x. followed_at (next x.0) k mode x.1)
followed_at (tested true fault next) k mode p = followed_at next k mode p
followed_at (tested false fault next) k mode p = refl

form_of-followed : {A B : Type 0} (plan : Plan A) (k : A → Plan B) (rest : A → Form (List ℕ) B SetupFault) → ((a : A) → form_of (k a) ≡ rest a)
    → form_of (followed plan k) ≡ (form_of plan >>= rest)
form_of-followed plan k rest h =
    fun_ext (λ mode. fun_ext λ p. followed_at plan k mode p) ∙ ap (λ f. form_of plan >>= f) (fun_ext h)

-- ---- the fields of a record

abbrev pub versions_plan : Plan ℕ
versions_plan = number_then λ version. tested (version == 3) Version (number_then λ micro. tested (nat_le 4 micro) Micro (done micro))

abbrev pub coder_plan : Scope → Plan (ℕ × Transitions)
coder_plan scope = number_then λ coder. tested (accepts_coder scope coder) Coder (deltas_then coder λ deltas. done (coder, transitions_with deltas))

abbrev pub sample_plan : Scope → Plan (ℕ × ℕ)
sample_plan scope =
    number_then λ space. tested (accepts_space scope space) ColorSpace (
    number_then λ depth. tested (accepts_depth scope depth) Depth (done (space, depth)))

abbrev pub chroma_plan : Scope → ℕ → Plan PlanesValue
chroma_plan scope space =
    flag_then λ chroma. tested (accepts_chroma space chroma) ColorSpace (
    number_then λ shift_h. tested (accepts_shift scope space chroma shift_h) Subsampling (
    number_then λ shift_v. tested (accepts_shift scope space chroma shift_v) Subsampling (done (chroma_planes_of chroma shift_h shift_v))))

abbrev pub extra_plan : Scope → Plan Bool
extra_plan scope = flag_then λ extra. tested (accepts_extra_plane scope extra) ExtraPlane (done extra)

abbrev pub shape_plan : Scope → Plan ShapeValue
shape_plan scope =
    followed (coder_plan scope) λ coder. followed (sample_plan scope) λ samples. followed (chroma_plan scope samples.0) λ planes.
    followed (extra_plan scope) λ extra. done (shape_of coder.0 coder.1 samples.0 samples.1 planes extra)

abbrev pub counts_plan : ℕ → ℕ → Plan TileCounts
counts_plan width height =
    number_then λ across. number_then λ down.
    tested (nat_le (across + 1) width && nat_le (down + 1) height) GridTooFine (
    tested (nat_le ((across + 1) * (down + 1)) most_tiles) TooManyTiles (
    done (record { across = across + 1; down = down + 1 })))

abbrev pub set_count_plan : Plan ℕ
set_count_plan = number_then λ count. tested (nat_le 1 count) TableCount (tested (nat_le count 8) TableCount (done count))

abbrev pub front_plan : Scope → ℕ → ℕ → Plan FrontValue
front_plan scope width height =
    followed versions_plan λ micro. followed (shape_plan scope) λ shape. followed (counts_plan width height) λ tiles. followed set_count_plan λ sets.
    done (record { micro = micro; shape = shape; tiles = tiles; sets = sets })

shape_fields-plan : (scope : Scope) → form_of (shape_plan scope) ≡ shape_fields scope
unfolding form_of
shape_fields-plan scope =
    form_of-followed (coder_plan scope) _ _ λ coder. form_of-followed (sample_plan scope) _ _ λ samples.
    form_of-followed (chroma_plan scope samples.0) _ _ λ planes. form_of-followed (extra_plan scope) _ _ λ extra. refl

pub front_form-plan : (scope : Scope) (width height : ℕ) → form_of (front_plan scope width height) ≡ front_form scope width height
unfolding form_of
front_form-plan scope width height =
    form_of-followed versions_plan _ _ λ micro. form_of-followed (shape_plan scope) _ _ (λ shape.
    form_of-followed (counts_plan width height) _ _ λ tiles. form_of-followed set_count_plan _ _ λ sets. refl)
    ∙ ap (λ f. f >>= λ shape. tile_counts width height >>= λ tiles. set_count >>= λ sets.
    giving (record { micro = micro; shape = shape; tiles = tiles; sets = sets })) (shape_fields-plan scope)

abbrev pub last_plan : Scope → Plan (ℕ × ℕ)
last_plan scope = number_then λ ec. tested (accepts_ec scope ec) ParityMode (number_then λ intra. done (ec, intra))

pub last_fields-plan : (scope : Scope) → form_of (last_plan scope) ≡ last_fields scope
unfolding form_of
last_fields-plan scope = refl
