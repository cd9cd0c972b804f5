-- A record is read where its fields are coded, and nowhere else.
use Rattle.std.proofs.Common.{◌≡◌, ◌≢◌, ℕ, suc, ◌+◌, ◌*◌, ◌<◌, ◌≤◌, Bool, true, List, [], ◌∷◌, ◌++◌, length, map, Result, Ok, refl, sym, ap, ◌∙◌, subst, arith}
use Rattle.std.specs.Prelude.{nat_le, ℤ}
use Rattle.std.specs.List.{All, flat_map}
use Rattle.std.proofs.lemmas.Bool.{eqb-true, eq-eqb, leb-true, le-leb, and_parts, and_from}
use Rattle.std.proofs.lemmas.List.Elements.{All-map}
use Rattle.std.proofs.lemmas.List.{length-replicate, get_or-replicate}
use Rattle.ffv1_bits.specs.Limits.{greatest_side, most_tiles}
use Rattle.ffv1_range.specs.Coding.{record_mode, Coder, PlaceOf, Place, IsRangeRun}
use Rattle.ffv1_range.specs.Rows.{Rows, with_row, RowBits, IsRowsRun}
use Rattle.ffv1_range.specs.Forms.{apart}
use Rattle.ffv1_range.specs.Fields.{last_fields}
use Rattle.ffv1_range.specs.Tables.{SetValue, IsTableSet, set_of}
use Rattle.ffv1_range.specs.TableForms.{fresh_row, fresh_rows, TwoRows, sets_from, sets_states, states_form}
use Rattle.ffv1_range.specs.InitialStates.{StatesValue, keeps_states, states_of}
use Rattle.ffv1_range.specs.Setup.{RecordingValue, FieldValue, symbol, bit, signed, fields_bits, SetFields, IsSetFields, RecordFields, front_fields, back_fields, fresh_states, table_row_bits, deltas_row_bits, record_row_bits, IsAccepted, recording_value}
use Rattle.ffv1_range.specs.SetupForms.{FrontValue, front_form, recording_of, all_granted, record_form}
use Rattle.ffv1_range.specs.Fields.{chroma_planes_of, shape_of}
use Rattle.ffv1_range.specs.Transitions.{delta_bytes, transitions_with}
use Rattle.ffv1_range.specs.declared.scope.Scope.{Scope}
use Rattle.ffv1_range.specs.declared.fault.SetupFault.{SetupFault}
use Rattle.ffv1_range.proofs.Forms.{place_of, bind_ok}
use Rattle.ffv1_range.proofs.Spelling.{bind_is_ok, same_ok}
use Rattle.ffv1_range.proofs.FieldRuns.{Plan, form_of, followed, Taken, fields_of, value_of, Each, Each-at, Each-from, PlanAt, plan-found, plan-run, front_plan, front_form-plan, last_plan, last_fields-plan}
use Rattle.ffv1_range.proofs.RowRuns.{rows_append, rows_split, with_row-same, with_row-other, one_row_bits}
use Rattle.ffv1_range.proofs.TableRuns.{SetsAt, sets-found, sets-run}
use Rattle.ffv1_range.proofs.DeltaRuns.{AreRowsOf, SetsStatesAt, sets-states-found, sets-states-run}
use Rattle.ffv1_range.proofs.SetupSteps.{front_rest, memory_rest, sets_rest, states_rest, last_rest}

-- ---- the rows before the deltas

before_deltas : (rows after : Rows) (row : List ℕ) → rows 0 ≡ row → ((k : ℕ) → 0 < k → rows k ≡ fresh_row) → ((k : ℕ) → k < 33 → after k ≡ rows k)
    → AreRowsOf after (row, fresh_rows)
before_deltas rows after row main fresh kept =
    record {
      size = length-replicate 32 fresh_row;
      main = kept 0 (omega arith) ∙ main;
      deltas = λ k h. kept (1 + k) (omega arith) ∙ fresh (1 + k) (omega arith) ∙ sym (get_or-replicate 32 k fresh_row [] h);
    }

-- the rows once the first fields were read
first_rows : List ℕ → Rows
first_rows row = with_row fresh_states 0 row

first_rows-fresh : (row : List ℕ) (k : ℕ) → 0 < k → first_rows row k ≡ fresh_row
unfolding first_rows
first_rows-fresh row k h = let apart : k ≢ 0 = omega arith in with_row-other fresh_states 0 k row apart

-- the tables of all sets
flat_tables : (sets : List SetFields) → flat_map (λ set. set) (map (λ set. set.tables) sets) ≡ flat_map (λ set. set.tables) sets
flat_tables [] = refl
flat_tables (set ∷ sets) = ap (λ z. set.tables ++ z) (flat_tables sets)

values_of : (sets : List SetFields) → map set_of (map (λ set. set.tables) sets) ≡ map (λ set. set_of set.tables) sets
values_of [] = refl
values_of (set ∷ sets) = ap (λ z. set_of set.tables ∷ z) (values_of sets)

-- ---- what is read is coded

-- A setup and the fields that give it, coded from a place.
pub record SetupAt (scope : Scope) (width height : ℕ) (c : Coder) (value : RecordingValue) : Type 0 where
  pub fields : RecordFields
  pub accepted : IsAccepted scope width height fields
  pub end : PlaceOf Rows
  pub coded : IsRowsRun record_mode (place_of c fresh_states) (record_row_bits fields) end
  pub is : value ≡ recording_value width height fields

-- the sets, read at rows of their own
abbrev sets_apart : ℕ → Place → Result (List SetValue × Place) SetupFault
sets_apart n p = apart tt (sets_from n []) record_mode p

-- The parts of a record are coded one after the other.
record PartsCoded (c : Coder) (first : List FieldValue) (sets : List SetFields) (last : List FieldValue) : Type 0 where
  front : Place
  first_coded : IsRangeRun record_mode (place_of c fresh_row) (fields_bits first) front
  tables : Coder
  middle : Rows
  tables_coded : IsRowsRun record_mode (place_of front.coder (first_rows front.states)) (table_row_bits 0 (flat_map (λ set. set.tables) sets))
      (place_of tables middle)
  deltas : Coder
  later : Rows
  deltas_coded : IsRowsRun record_mode (place_of tables middle) (flat_map (λ set. deltas_row_bits set.deltas) sets) (place_of deltas later)
  end : Place
  last_coded : IsRangeRun record_mode (place_of deltas (later 0)) (fields_bits last) end

-- the bits of a record by their rows of states, one part after the other
rows_bits_coded : (r : RecordFields) (c : Coder) (first last : List FieldValue) (parts : PartsCoded c first r.sets last)
    → last ≡ back_fields r → first ≡ front_fields r
    → IsRowsRun record_mode (place_of c fresh_states) (record_row_bits r) (place_of parts.end.coder (with_row parts.later 0 parts.end.states))
unfolding first_rows
rows_bits_coded r c first last parts same_last same =
    let h = subst (λ z. IsRangeRun record_mode (place_of c fresh_row) (fields_bits z) parts.front) same parts.first_coded in
    let m = subst (λ z. IsRangeRun record_mode (place_of parts.deltas (parts.later 0)) (fields_bits z) parts.end) same_last parts.last_coded in
    let front : PlaceOf Rows = place_of parts.front.coder (first_rows parts.front.states) in
    rows_append record_mode ((0, fields_bits (front_fields r)) ∷ []) _ (place_of c fresh_states) front _
    (one_row_bits record_mode c fresh_states 0 fresh_row (fields_bits (front_fields r)) parts.front refl h)
    (rows_append record_mode (table_row_bits 0 (flat_map (λ set. set.tables) r.sets)) _ front (place_of parts.tables parts.middle) _ parts.tables_coded
    (rows_append record_mode (flat_map (λ set. deltas_row_bits set.deltas) r.sets) ((0, fields_bits (back_fields r)) ∷ []) (place_of parts.tables parts.middle)
    (place_of parts.deltas parts.later) _ parts.deltas_coded
    (one_row_bits record_mode parts.deltas parts.later 0 (parts.later 0) (fields_bits (back_fields r)) parts.end refl m)))

-- the fields before the tables, of as many sets as were counted
first_fields : (version micro coder : ℕ) (deltas : List ℤ) (space depth : ℕ) (chroma : Bool) (shift_h shift_v : ℕ) (extra : Bool) (across down count : ℕ)
    (sets : List SetFields) → length sets ≡ count
    → symbol version ∷ symbol micro ∷ symbol coder ∷ (map signed deltas ++
    symbol space ∷ symbol depth ∷ bit chroma ∷ symbol shift_h ∷ symbol shift_v ∷ bit extra ∷ symbol across ∷ symbol down ∷ symbol count ∷ [])
    ≡ symbol version ∷ symbol micro ∷ symbol coder ∷ (map signed deltas ++
    symbol space ∷ symbol depth ∷ bit chroma ∷ symbol shift_h ∷ symbol shift_v ∷ bit extra ∷ symbol across ∷ symbol down ∷ symbol (length sets) ∷ [])
first_fields version micro coder deltas space depth chroma shift_h shift_v extra across down count sets size =
    ap (λ n. symbol version ∷ symbol micro ∷ symbol coder ∷ (map signed deltas ++
    symbol space ∷ symbol depth ∷ bit chroma ∷ symbol shift_h ∷ symbol shift_v ∷ bit extra ∷ symbol across ∷ symbol down ∷ symbol n ∷ [])) (sym size)

-- Fields that are coded before the tables and after the deltas, with sets between them, are those of a record.
abbrev AreOfSetup : (scope : Scope) (width height : ℕ) → Coder → List SetFields → Taken (last_plan scope) → Taken (front_plan scope width height) → Type 0
AreOfSetup scope width height c sets z x =
    length sets ≡ (value_of (front_plan scope width height) x).sets → All IsSetFields sets
    → PartsCoded c (fields_of (front_plan scope width height) x) sets (fields_of (last_plan scope) z)
    → SetupAt scope width height c
    (recording_of (value_of (front_plan scope width height) x) (map (λ set. set_of set.tables) sets)
    (map (λ set. states_of (keeps_states (value_of (front_plan scope width height) x).shape.coder) set.deltas) sets) (value_of (last_plan scope) z)
    width height)

are_of_setup : (scope : Scope) (width height : ℕ) (c : Coder) (sets : List SetFields) (z : Taken (last_plan scope)) (x : Taken (front_plan scope width height))
    → AreOfSetup scope width height c sets z x
unfolding followed Taken Each fields_of value_of
are_of_setup scope width height c sets z =
    Each-at (front_plan scope width height) (AreOfSetup scope width height c sets z)
    λ version _ is_three micro small_micro is_late coder small_coder is_coder deltas size_deltas small_deltas space small_space is_space
    depth small_depth is_depth chroma has_chroma shift_h small_h fits_h shift_v small_v fits_v extra is_extra
    across _ down _ is_coarse are_few count _ is_some is_few size each parts.
    let r : RecordFields = record {
      version = version;
      micro_version = micro;
      coder_type = coder;
      state_transition_delta = deltas;
      colorspace_type = space;
      bits_per_raw_sample = depth;
      chroma_planes = chroma;
      log2_h_chroma_subsample = shift_h;
      log2_v_chroma_subsample = shift_v;
      extra_plane = extra;
      num_h_slices_less_1 = across;
      num_v_slices_less_1 = down;
      sets = sets;
      ec = z.0;
      intra = z.2.1.0;
    } in
    let grid = and_parts (nat_le (across + 1) width) (nat_le (down + 1) height) is_coarse in
    let some : 1 ≤ count = leb-true 1 count is_some in
    let few : count ≤ 8 = leb-true count 8 is_few in
    record {
      fields = r;
      accepted = record {
        version = eqb-true version 3 is_three;
        micro_version = leb-true 4 micro is_late;
        coder_type = is_coder;
        state_transition_delta = size_deltas;
        colorspace_type = is_space;
        bits_per_raw_sample = is_depth;
        chroma_planes = has_chroma;
        log2_h_chroma_subsample = fits_h;
        log2_v_chroma_subsample = fits_v;
        extra_plane = is_extra;
        across = leb-true (across + 1) width grid.0;
        down = leb-true (down + 1) height grid.1;
        tiles = leb-true ((across + 1) * (down + 1)) most_tiles are_few;
        some_set = omega (arith, size);
        few_sets = omega (arith, size);
        sets = each;
        ec = z.2.0;
        symbols = record {
          micro_version = small_micro;
          coder_type = small_coder;
          state_transition_delta = small_deltas;
          colorspace_type = small_space;
          bits_per_raw_sample = small_depth;
          log2_h_chroma_subsample = small_h;
          log2_v_chroma_subsample = small_v;
          ec = z.1;
          intra = z.2.1.1;
        };
      };
      end = place_of parts.end.coder (with_row parts.later 0 parts.end.states);
      coded = rows_bits_coded r c _ _ parts refl (first_fields version micro coder deltas space depth chroma shift_h shift_v extra across down count sets size);
      is = refl;
    }

-- ---- part by part

-- the last fields
record LastAt (scope : Scope) (width height : ℕ) (front : FrontValue) (sets : List SetValue) (states : List StatesValue) (p : Place) (y : RecordingValue × Place) : Type 0 where
  read : (ℕ × ℕ) × Place
  fields : PlanAt (last_plan scope) record_mode p read
  is : y.0 ≡ recording_of front sets states read.0 width height

last-found : (scope : Scope) (width height : ℕ) (front : FrontValue) (sets : List SetValue) (states : List StatesValue) (p : Place)
    (y : RecordingValue × Place)
    → states_rest scope width height front sets states record_mode p ≡ Ok y
    → LastAt scope width height front sets states p y
unfolding states_rest last_rest
last-found scope width height front sets states p y h =
    let x = bind_is_ok (last_fields scope record_mode p) (λ x. last_rest scope width height front sets states x.0 record_mode x.1) y h in
    let pair = same_ok (recording_of front sets states x.0.0 width height, x.0.1) y x.2 in
    record {
      read = x.0;
      fields = plan-found (last_plan scope) record_mode p x.0 (ap (λ f. f record_mode p) (last_fields-plan scope)
          ∙ x.1);
      is = sym (ap (λ z. z.0) pair);
    }

-- memory for the states of each set
abbrev all_sets : ℕ → Bool
all_sets set = true

-- whether the states of a record are kept
abbrev keeps_of : FrontValue → Bool
keeps_of front = keeps_states front.shape.coder

-- the states, and what is read after them
record StatesAt (scope : Scope) (width height : ℕ) (front : FrontValue) (sets : List SetValue) (contexts : List ℕ) (p : Place)
    (y : RecordingValue × Place) : Type 0 where
  states : List StatesValue
  after : PlaceOf TwoRows
  read : sets_states (λ set. true) (keeps_of front) contexts [] record_mode (place_of p.coder (p.states, fresh_rows)) ≡ Ok (states, after)
  rest : states_rest scope width height front sets states record_mode (place_of after.coder after.states.0) ≡ Ok y

states-found : (scope : Scope) (width height : ℕ) (front : FrontValue) (sets : List SetValue) (p : Place) (y : RecordingValue × Place)
    → sets_rest all_sets scope width height front sets record_mode p ≡ Ok y
    → StatesAt scope width height front sets (map (λ set. set.contexts) sets) p y
unfolding sets_rest
states-found scope width height front sets p y h =
    let x = bind_is_ok (states_form all_sets (keeps_of front) (map (λ set. set.contexts) sets) record_mode p)
    (λ x. states_rest scope width height front sets x.0 record_mode x.1) y h in
    let d = bind_is_ok (sets_states all_sets (keeps_of front) (map (λ set. set.contexts) sets) [] record_mode (place_of p.coder (p.states, fresh_rows)))
    (λ x. Ok (x.0, place_of x.1.coder x.1.states.0)) x.0 x.1 in
    let pair = same_ok (d.0.0, place_of d.0.1.coder d.0.1.states.0) x.0 d.2 in
    record {
      states = d.0.0;
      after = d.0.1;
      read = d.1;
      rest = ap (λ z. states_rest scope width height front sets z.0 record_mode z.1) pair ∙ x.2;
    }

-- the sets, and what is read after them
record TablesAt (scope : Scope) (width height : ℕ) (front : FrontValue) (p : Place) (y : RecordingValue × Place) : Type 0 where
  sets : List SetValue
  after : PlaceOf (Unit {0})
  read : sets_from front.sets [] record_mode (place_of p.coder tt) ≡ Ok (sets, after)
  rest : sets_rest all_sets scope width height front sets record_mode (place_of after.coder p.states) ≡ Ok y

tables-found : (scope : Scope) (width height : ℕ) (front : FrontValue) (p : Place) (y : RecordingValue × Place)
    → front_rest all_granted scope width height front record_mode p ≡ Ok y
    → TablesAt scope width height front p y
unfolding front_rest memory_rest
tables-found scope width height front p y h =
    let x = bind_is_ok (sets_apart front.sets p) (λ x. sets_rest all_sets scope width height front x.0 record_mode x.1) y h in
    let d = bind_is_ok (sets_from front.sets [] record_mode (place_of p.coder tt)) (λ x. Ok (x.0, place_of x.1.coder p.states)) x.0 x.1 in
    let pair = same_ok (d.0.0, place_of d.0.1.coder p.states) x.0 d.2 in
    record { sets = d.0.0; after = d.0.1; read = d.1; rest = ap (λ z. sets_rest all_sets scope width height front z.0 record_mode z.1) pair ∙ x.2 }

tables_count : (sets : List SetFields) → length (map (λ set. set.tables) sets) ≡ length sets
tables_count [] = refl
tables_count (set ∷ sets) = ap suc (tables_count sets)

-- the parts that were read, as the fields of a record
parts_found : (scope : Scope) (width height : ℕ) (c : Coder) (y : RecordingValue × Place) (front : FrontValue) (p : Place)
    → PlanAt (front_plan scope width height) record_mode (place_of c fresh_row) (front, p)
    → TablesAt scope width height front p y → SetupAt scope width height c y.0
unfolding first_rows
parts_found scope width height c y front p f t =
    let s = sets-found record_mode front.sets [] p.coder (t.sets, t.after) t.read in
    let d = states-found scope width height front t.sets (place_of t.after.coder p.states) y t.rest in
    let e = sets-states-found record_mode (keeps_of front) s.sets [] (place_of t.after.coder (p.states, fresh_rows)) (d.states, d.after) s.each
    (subst (λ z. sets_states (λ set. true) (keeps_of front) (map (λ set. set.contexts) z) [] record_mode (place_of t.after.coder (p.states, fresh_rows))
    ≡ Ok (d.states, d.after)) s.is d.read) in
    let l = last-found scope width height front t.sets d.states (place_of d.after.coder d.after.states.0) y d.rest in
    parts_coded scope width height c y front p f t s d e l
  where
    parts_coded : (scope : Scope) (width height : ℕ) (c : Coder) (y : RecordingValue × Place) (front : FrontValue) (p : Place)
        (f : PlanAt (front_plan scope width height) record_mode (place_of c fresh_row) (front, p))
        (t : TablesAt scope width height front p y) (s : SetsAt record_mode front.sets [] p.coder (t.sets, t.after))
        (d : StatesAt scope width height front t.sets (map (λ set. set.contexts) t.sets) (place_of t.after.coder p.states) y)
        (e : SetsStatesAt record_mode (keeps_of front) s.sets [] (place_of t.after.coder (p.states, fresh_rows)) (d.states, d.after))
        (l : LastAt scope width height front t.sets d.states (place_of d.after.coder d.after.states.0) y) → SetupAt scope width height c y.0
    parts_coded scope width height c y front p f t s d e l =
        let values : List SetValue = map (λ set. set_of set.tables) e.sets in
        let states = λ (z : FrontValue). map (λ (set : SetFields). states_of (keeps_of z) set.deltas) e.sets in
        let last : ℕ × ℕ = value_of (last_plan scope) l.fields.0 in
        let count = sym (tables_count e.sets) ∙ ap length e.same ∙ s.size ∙ ap (λ z. z.sets) (sym f.1) in
        let tables : flat_map (λ set. set) s.sets ≡ flat_map (λ set. set.tables) e.sets = ap (flat_map (λ set. set)) (sym e.same) ∙ flat_tables e.sets in
        let same : values ≡ t.sets = sym (s.is ∙ ap (map set_of) (sym e.same) ∙ values_of e.sets) in
        let k = s.coded 0 (first_rows p.states) (λ j h. first_rows-fresh p.states (33 + j) (omega arith)) in
        let m = e.coded k.after (before_deltas (first_rows p.states) k.after p.states (with_row-same fresh_states 0 p.states)
        (first_rows-fresh p.states) k.kept) in
        subst (SetupAt scope width height c)
        (ap (λ z. recording_of z values (states z) last width height) f.1 ∙ ap (λ z. recording_of front z (states front) last width height) same
        ∙ ap (λ z. recording_of front t.sets z last width height) (sym e.is)
        ∙ ap (λ z. recording_of front t.sets d.states z width height) l.fields.1 ∙ sym l.is)
        (are_of_setup scope width height c e.sets l.fields.0 f.0 count e.each (record {
          front = p;
          first_coded = f.2;
          tables = t.after.coder;
          middle = k.after;
          tables_coded =
              subst (λ z. IsRowsRun record_mode (place_of p.coder (first_rows p.states)) (table_row_bits 0 z) (place_of t.after.coder k.after)) tables k.coded;
          deltas = d.after.coder;
          later = m.0;
          deltas_coded = m.1;
          end = l.read.1;
          last_coded = subst (λ z. IsRangeRun record_mode (place_of d.after.coder z) (fields_bits (fields_of
              (last_plan scope) l.fields.0)) l.read.1) (sym m.2.main)
              l.fields.2;
        }))

pub record_form-found : (scope : Scope) (width height : ℕ) (c : Coder) (y : RecordingValue × Place) → record_form all_granted scope width height record_mode
    (place_of c fresh_row) ≡ Ok y
    → SetupAt scope width height c y.0
unfolding front_rest memory_rest sets_rest states_rest last_rest
record_form-found scope width height c y h =
    let a = bind_is_ok (front_form scope width height record_mode (place_of c fresh_row)) (λ x. front_rest all_granted scope width height x.0 record_mode x.1) y h in
    parts_found scope width height c y a.0.0 a.0.1
    (plan-found (front_plan scope width height) record_mode (place_of c fresh_row) a.0 (ap (λ f. f record_mode (place_of c fresh_row))
    (front_form-plan scope width height) ∙ a.1))
    (tables-found scope width height a.0.0 a.0.1 y a.2)

-- ---- what is coded is read

-- the front of a record, from its fields
abbrev front_value : RecordFields → FrontValue
front_value r =
    record {
      micro = r.micro_version;
      shape = shape_of r.coder_type (transitions_with (delta_bytes r.coder_type r.state_transition_delta)) r.colorspace_type r.bits_per_raw_sample
          (chroma_planes_of r.chroma_planes r.log2_h_chroma_subsample r.log2_v_chroma_subsample) r.extra_plane;
      tiles = record { across = r.num_h_slices_less_1 + 1; down = r.num_v_slices_less_1 + 1 };
      sets = length r.sets;
    }

-- the fields before the tables, where they are coded
front-run : (scope : Scope) (width height : ℕ) (p : Place) (r : RecordFields) (z : Place) → IsAccepted scope width height r → width ≤ greatest_side
    → height ≤ greatest_side
    → IsRangeRun record_mode p (fields_bits (front_fields r)) z → front_form scope width height record_mode p ≡ Ok (front_value r, z)
unfolding followed Taken Each fields_of value_of
front-run scope width height p r z ok wide high run =
    let plan : Plan FrontValue = front_plan scope width height in
    ap (λ f. f record_mode p) (sym (front_form-plan scope width height))
    ∙ Each-from plan (λ x. IsRangeRun record_mode p (fields_bits (fields_of plan x)) z → form_of plan record_mode p ≡ Ok (value_of plan x, z))
    (λ x. plan-run plan x record_mode p z)
    r.version (omega (arith, ok.version)) (eq-eqb r.version 3 ok.version)
    r.micro_version ok.symbols.micro_version (le-leb 4 r.micro_version ok.micro_version)
    r.coder_type ok.symbols.coder_type ok.coder_type
    r.state_transition_delta ok.state_transition_delta ok.symbols.state_transition_delta
    r.colorspace_type ok.symbols.colorspace_type ok.colorspace_type
    r.bits_per_raw_sample ok.symbols.bits_per_raw_sample ok.bits_per_raw_sample
    r.chroma_planes ok.chroma_planes
    r.log2_h_chroma_subsample ok.symbols.log2_h_chroma_subsample ok.log2_h_chroma_subsample
    r.log2_v_chroma_subsample ok.symbols.log2_v_chroma_subsample ok.log2_v_chroma_subsample
    r.extra_plane ok.extra_plane
    r.num_h_slices_less_1 (omega (arith, ok.across)) r.num_v_slices_less_1 (omega (arith, ok.down))
    (and_from (nat_le (r.num_h_slices_less_1 + 1) width) (nat_le (r.num_v_slices_less_1 + 1) height)
    (le-leb (r.num_h_slices_less_1 + 1) width ok.across) (le-leb (r.num_v_slices_less_1 + 1) height ok.down))
    (le-leb ((r.num_h_slices_less_1 + 1) * (r.num_v_slices_less_1 + 1)) most_tiles ok.tiles)
    (length r.sets) (omega (arith, ok.few_sets)) (le-leb 1 (length r.sets) ok.some_set) (le-leb (length r.sets) 8 ok.few_sets)
    run

-- the fields after the deltas, where they are coded
last-run : (scope : Scope) (width height : ℕ) (p : Place) (r : RecordFields) (z : Place) → IsAccepted scope width height r
    → IsRangeRun record_mode p (fields_bits (back_fields r)) z → last_fields scope record_mode p ≡ Ok ((r.ec, r.intra), z)
unfolding Taken fields_of value_of
last-run scope width height p r z ok run =
    ap (λ f. f record_mode p) (sym (last_fields-plan scope))
    ∙ plan-run (last_plan scope) (r.ec, ok.symbols.ec, (ok.ec, (r.intra, ok.symbols.intra, tt))) record_mode p z run

-- the parts of a setup, where each is read
parts_read : (scope : Scope) (width height : ℕ) (c : Coder) (r : RecordFields) (p : Place) (q : Coder) (two : TwoRows) (d : Coder) (last : Place)
    → front_form scope width height record_mode (place_of c fresh_row) ≡ Ok (front_value r, p)
    → sets_from (length r.sets) [] record_mode (place_of p.coder tt) ≡ Ok (map (λ set. set_of set.tables) r.sets, place_of q tt)
    → sets_states (λ set. true) (keeps_states r.coder_type) (map (λ set. set.contexts) (map (λ set. set_of set.tables) r.sets)) [] record_mode
    (place_of q (p.states, fresh_rows)) ≡ Ok (map (λ set. states_of (keeps_states r.coder_type) set.deltas) r.sets, place_of d two)
    → last_fields scope record_mode (place_of d two.0) ≡ Ok ((r.ec, r.intra), last)
    → record_form all_granted scope width height record_mode (place_of c fresh_row) ≡ Ok (recording_value width height r, last)
unfolding front_rest memory_rest sets_rest states_rest last_rest
parts_read scope width height c r p q two d last h k l m =
    let values : List SetValue = map (λ set. set_of set.tables) r.sets in
    let front : FrontValue = front_value r in
    let keeps : Bool = keeps_states r.coder_type in
    let states : List StatesValue = map (λ set. states_of keeps set.deltas) r.sets in
    bind_ok (front_form scope width height record_mode (place_of c fresh_row)) (λ x. front_rest all_granted scope width height x.0 record_mode x.1) (front, p) h
    ∙ bind_ok (sets_apart (length r.sets) p) (λ x. sets_rest all_sets scope width height front x.0 record_mode x.1) (values, place_of q p.states)
    (bind_ok (sets_from (length r.sets) [] record_mode (place_of p.coder tt)) (λ x. Ok (x.0, place_of x.1.coder p.states)) (values, place_of q tt) k)
    ∙ bind_ok (states_form all_sets keeps (map (λ set. set.contexts) values) record_mode (place_of q p.states)) (λ x. states_rest scope width height front values
    x.0 record_mode x.1)
    (states, place_of d two.0)
    (bind_ok (sets_states all_sets keeps (map (λ set. set.contexts) values) [] record_mode (place_of q (p.states, fresh_rows)))
    (λ x. Ok (x.0, place_of x.1.coder x.1.states.0))
    (states, place_of d two) l)
    ∙ bind_ok (last_fields scope record_mode (place_of d two.0)) (λ x. last_rest scope width height front values states x.0 record_mode x.1)
    ((r.ec, r.intra), last) m

pub record_form-run : (scope : Scope) (width height : ℕ) (c : Coder) (r : RecordFields) (z : PlaceOf Rows) → IsAccepted scope width height r
    → width ≤ greatest_side
    → height ≤ greatest_side
    → IsRowsRun record_mode (place_of c fresh_states) (record_row_bits r) z
    → (last : Place) × (record_form all_granted scope width height record_mode (place_of c fresh_row) ≡ Ok (recording_value width height r, last))
unfolding IsRowsRun first_rows
record_form-run scope width height c r z ok wide high run =
    let tables : List RowBits = table_row_bits 0 (flat_map (λ set. set.tables) r.sets) in
    let deltas : List RowBits = flat_map (λ set. deltas_row_bits set.deltas) r.sets in
    let back : List RowBits = (0, fields_bits (back_fields r)) ∷ [] in
    let front = front-run scope width height (place_of c fresh_row) r run.0 ok wide high run.1 in
    let s = rows_split record_mode tables (deltas ++ back) (place_of run.0.coder (first_rows run.0.states)) z run.2 in
    let d = rows_split record_mode deltas back s.0 z s.2 in
    rest_run scope width height c r z run.0 s.0 d.0 ok front s.1 d.1 d.2
  where
    rest_run : (scope : Scope) (width height : ℕ) (c : Coder) (r : RecordFields) (z : PlaceOf Rows) (p : Place) (s d : PlaceOf Rows)
        → IsAccepted scope width height r
        → front_form scope width height record_mode (place_of c fresh_row) ≡ Ok (front_value r, p)
        → IsRowsRun record_mode (place_of p.coder (first_rows p.states)) (table_row_bits 0 (flat_map (λ set. set.tables) r.sets)) s
        → IsRowsRun record_mode s (flat_map (λ set. deltas_row_bits set.deltas) r.sets) d
        → IsRowsRun record_mode d ((0, fields_bits (back_fields r)) ∷ []) z
        → (last : Place) × (record_form all_granted scope width height record_mode (place_of c fresh_row) ≡ Ok (recording_value width height r, last))
    rest_run scope width height c r z p s d ok front run more end =
        let t = sets-run record_mode (length r.sets) [] (map (λ set. set.tables) r.sets) 0 p.coder (first_rows p.states) s (tables_count r.sets)
        (All-map IsTableSet (λ set. set.tables) r.sets (λ k e h. (ok.sets k e h).tables))
        (λ j h. first_rows-fresh p.states (33 + j) (omega arith))
        (subst (λ w. IsRowsRun record_mode (place_of p.coder (first_rows p.states)) (table_row_bits 0 w) s) (sym (flat_tables r.sets)) run) in
        let e = sets-states-run record_mode (keeps_states r.coder_type) r.sets [] (place_of s.coder (p.states, fresh_rows)) s.states d ok.sets
        (before_deltas (first_rows p.states) s.states p.states (with_row-same fresh_states 0 p.states) (first_rows-fresh p.states) t.kept) more in
        let l = last-run scope width height (place_of d.coder e.after.0) r end.0 ok
        (subst (λ w. IsRangeRun record_mode (place_of d.coder w) (fields_bits (back_fields r)) end.0) e.matches.main end.1) in (
          end.0,
          parts_read scope width height c r p s.coder e.after d.coder end.0 front
              (t.read ∙ ap (λ w. Ok (w, place_of s.coder tt)) (values_of r.sets)) e.read l,
        )
