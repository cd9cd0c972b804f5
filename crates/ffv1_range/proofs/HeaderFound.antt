-- A header is read where its fields are coded, and nowhere else.
use Rattle.std.proofs.Common.{◌≡◌, ℕ, suc, zero, ◌+◌, ◌-◌, ◌*◌, ◌^◌, ◌<◌, ◌≤◌, Bool, true, false, List, [], ◌∷◌, ◌++◌, Result, Ok, Err, refl, sym, ap, ◌∙◌, subst, arith, length, append_assoc}
use Rattle.std.specs.Prelude.{◌↔◌, IfOk, IsTrue, Option, Some, None, MatchOption, is_some, nat_lt, ◌==◌, ◌&&◌, slice_index, if◌then◌else◌}
use Rattle.std.specs.List.{All, flat_map}
use Rattle.std.proofs.lemmas.List.{append-nil}
use Rattle.std.proofs.lemmas.List.Elements.{All-cons, All-nil, All-head, All-tail}
use Rattle.std.proofs.lemmas.Bool.{and_parts, and_from, ltb-true, lt-ltb, eqb-true, eq-eqb}
use Rattle.ffv1_range.specs.Results.{◌>>>◌}
use Rattle.ffv1_range.specs.Coding.{header_mode, Mode, Coder, Place, PlaceOf, bit_at, start_of, IsRangeRun}
use Rattle.ffv1_range.specs.Symbols.{symbol_bits}
use Rattle.ffv1_range.specs.Forms.{lifted_result}
use Rattle.ffv1_range.specs.Reading.{symbol_form}
use Rattle.ffv1_range.specs.TableForms.{fresh_row}
use Rattle.ffv1_range.specs.HeaderForms.{symbols_onto, header_fields, key_coder, HeaderRead, fields_after, header_from}
use Rattle.ffv1_range.specs.Scopes.{accepts_key}
use Rattle.ffv1_range.specs.declared.scope.Scope.{Scope}
use Rattle.ffv1_range.specs.declared.scope.Scope.TheVariants.{Profile}
use Rattle.ffv1_range.specs.Header.{IsHeaderOf, BeginAt, IsHeadOf, IsTileHeader, HeadLimits, header_read, codes_read, head_judged, head_read, head_with, is_in_place}
use Rattle.ffv1_range.specs.declared.coding.RangeFault.TheVariants.{Start}
use Rattle.ffv1_range.specs.declared.head.HeadFault.{HeadFault}
use Rattle.ffv1_range.specs.declared.head.HeadFault.TheVariants.{Range, NotKey}
use Rattle.ffv1_range.specs.declared.head.SliceHead.{SliceHead}
use Rattle.ffv1_range.proofs.Forms.{place_of, bind_ok}
use Rattle.ffv1_range.proofs.Spelling.{bind_is_ok, same_ok, run_append, run_split, symbol_is_spelled}
use Rattle.ffv1_range.proofs.FieldRuns.{lifted_ok}
use Rattle.ffv1_range.proofs.Shrinks.{bit_shrinks, run_shrinks}

-- ---- symbols in a row

-- n symbols are coded from p up to q
record AreSymbols (mode : Mode) (n : ℕ) (p q : Place) (symbols : List ℕ) : Type 0 where
  count : length symbols ≡ n
  fit : All (λ symbol. symbol < 2 ^ 32) symbols
  coded : IsRangeRun mode p (flat_map symbol_bits symbols) q

symbols_found : (mode : Mode) (n : ℕ) (done fields : List ℕ) (p q : Place) → symbols_onto n done mode p ≡ Ok (fields, q)
    → (more : List ℕ) × (fields ≡ done ++ more) × AreSymbols mode n p q more
unfolding symbols_onto IsRangeRun
symbols_found mode zero done fields p q h =
    let e = same_ok (done, p) (fields, q) h in
    ([], sym (ap (λ z. z.0) e) ∙ sym (append-nil done), record { count = refl; fit = All-nil (λ symbol. symbol < 2 ^ 32); coded = ap (λ z. z.1) e })
symbols_found mode (suc n) done fields p q h =
    let x = bind_is_ok (symbol_form mode p) (λ x. symbols_onto n (done ++ x.0 ∷ []) mode x.1) (fields, q) h in
    let first = (symbol_is_spelled mode p x.0.1 x.0.0).0 x.1 in
    let rest = symbols_found mode n (done ++ x.0.0 ∷ []) fields x.0.1 q x.2 in (
      x.0.0 ∷ rest.0,
      rest.1 ∙ append_assoc done (x.0.0 ∷ []) rest.0,
      record {
        count = ap suc rest.2.count;
        fit = All-cons (λ symbol. symbol < 2 ^ 32) x.0.0 rest.0 first.0 rest.2.fit;
        coded = run_append mode (symbol_bits x.0.0) (flat_map symbol_bits rest.0) p x.0.1 q first.1 rest.2.coded;
      },
    )

symbols_run : (mode : Mode) (done fields : List ℕ) (p q : Place) → All
    (λ symbol. symbol < 2 ^ 32) fields → IsRangeRun mode p (flat_map symbol_bits fields) q
    → symbols_onto (length fields) done mode p ≡ Ok (done ++ fields, q)
unfolding symbols_onto IsRangeRun
symbols_run mode done [] p q fit run = ap (λ z. Ok (done, z)) run ∙ ap (λ z. Ok (z, q)) (sym (append-nil done))
symbols_run mode done (a ∷ fields) p q fit run =
    let parts = run_split mode (symbol_bits a) (flat_map symbol_bits fields) p q run in
    let read = (symbol_is_spelled mode p parts.0 a).1 (All-head (λ symbol. symbol < 2 ^ 32) a fields fit, parts.1) in
    bind_ok (symbol_form mode p) (λ x. symbols_onto (length fields) (done ++ x.0 ∷ []) mode x.1) (a, parts.0) read
    ∙ symbols_run mode (done ++ a ∷ []) fields parts.0 q (All-tail (λ symbol. symbol < 2 ^ 32) a fields fit) parts.2
    ∙ ap (λ z. Ok (z, q)) (append_assoc done (a ∷ []) fields)

fields_found : (mode : Mode) (count : ℕ) (c : Coder) (fields : List ℕ) (q : PlaceOf (Unit {0})) → header_fields count mode (place_of c tt) ≡ Ok (fields, q)
    → (end : Place) × (q.coder ≡ end.coder) × AreSymbols mode count (place_of c fresh_row) end fields
fields_found mode count c fields q h =
    let x = bind_is_ok (symbols_onto count [] mode (place_of c fresh_row)) (λ x. Ok (x.0, place_of x.1.coder tt)) (fields, q) h in
    let e = same_ok (x.0.0, place_of x.0.1.coder tt) (fields, q) x.2 in
    let found = symbols_found mode count [] x.0.0 (place_of c fresh_row) x.0.1 x.1 in
    let same : fields ≡ found.0 = sym (ap (λ z. z.0) e) ∙ found.1 in
    (x.0.1, sym (ap (λ z. z.1.coder) e), subst (λ z. AreSymbols mode count (place_of c fresh_row) x.0.1 z) (sym same) found.2)

fields_run : (mode : Mode) (count : ℕ) (c : Coder) (fields : List ℕ) (end : Place) → length fields ≡ count → All (λ field. field < 2 ^ 32) fields
    → IsRangeRun mode (place_of c fresh_row) (flat_map symbol_bits fields) end → header_fields count mode (place_of c tt) ≡ Ok (fields, place_of end.coder tt)
fields_run mode count c fields end size fit run =
    bind_ok (symbols_onto count [] mode (place_of c fresh_row)) (λ x. Ok (x.0, place_of x.1.coder tt)) (fields, end)
    (ap (λ n. symbols_onto n [] mode (place_of c fresh_row)) (sym size) ∙ symbols_run mode [] fields (place_of c fresh_row) end fit run)

-- ---- what is still to come never grows

start_leaves : (content : List ℕ) (c : Coder) → start_of false content ≡ Ok c → length c.rest + 2 ≤ length content
unfolding start_of
start_leaves [] c h = absurd cc
start_leaves (a ∷ []) c h = absurd cc
start_leaves (a ∷ b ∷ rest) c h =
    elim (nat_lt (256 * a + b) 65280) as (λ t. (if t then Ok (record { range = 65280; low = 256 * a + b; rest = rest }) else Err Start) ≡ Ok c
    → length c.rest + 2 ≤ length (a ∷ b ∷ rest))
    [ true ↦ λ e. omega (arith, ap (λ z. length z.rest) (same_ok (record { range = 65280; low = 256 * a + b; rest = rest }) c e)) | false ↦ λ e. absurd cc ] h

-- ---- the keyframe bit

-- a scope accepts the keyframe bit, where there is one
abbrev pub KeyFits : Scope → Option Bool → Type 0
KeyFits scope key = MatchOption key (Unit {0}) (λ bit. accepts_key scope bit ≡ true)

-- the keyframe bit stands between two coders, where there is one
abbrev pub KeyAt : Mode → Coder → Option Bool → Coder → Type 0
KeyAt mode c key d = MatchOption key (d ≡ c) (λ bit. bit_at mode.closed c 128 ≡ Ok (bit, d))

key_bit : (accepts : Bool) (bit : Bool) (d : Coder) (y : Option Bool × Coder) → (if accepts then Ok (Some bit, d) else Err NotKey) ≡ Ok y
    → (accepts ≡ true) × ((Some bit, d) ≡ y)
key_bit true bit d y h = (refl, same_ok (Some bit, d) y h)
key_bit false bit d y h = absurd cc

key_found : (scope : Scope) (first : Bool) (mode : Mode) (c : Coder) (y : Option Bool × Coder) → key_coder scope first mode c ≡ Ok y
    → KeyAt mode c y.0 y.1 × (is_some y.0 ≡ first) × KeyFits scope y.0
key_found scope false mode c y h =
    let pair = same_ok (None, c) y h in subst (λ z. KeyAt mode c z.0 z.1 × (is_some z.0 ≡ false) × KeyFits scope z.0) pair (refl, refl, tt)
key_found scope true mode c y h =
    let x = bind_is_ok (lifted_result Range (bit_at mode.closed c 128)) (λ bit. if accepts_key scope bit.0 then Ok (Some bit.0, bit.1) else Err NotKey) y h in
    let bit = key_bit (accepts_key scope x.0.0) x.0.0 x.0.1 y x.2 in
    subst (λ z. KeyAt mode c z.0 z.1 × (is_some z.0 ≡ true) × KeyFits scope z.0) bit.1
    (lifted_ok Range (bit_at mode.closed c 128) x.0 x.1, refl, bit.0)

key_run : (scope : Scope) (mode : Mode) (c : Coder) (key : Option Bool) (d : Coder) → KeyAt mode c key d → KeyFits scope key
    → key_coder scope (is_some key) mode c ≡ Ok (key, d)
key_run scope mode c None d at fits = ap (λ z. Ok (None, z)) (sym at)
key_run scope mode c (Some bit) d at fits =
    ap (λ z. lifted_result Range z >>> λ bit. if accepts_key scope bit.0 then Ok (Some bit.0, bit.1) else Err NotKey) at
    ∙ ap (λ b. if b then Ok (Some bit, d) else Err NotKey) fits

key_shrinks : (mode : Mode) (c : Coder) (key : Option Bool) (d : Coder) → KeyAt mode c key d → length d.rest ≤ length c.rest
key_shrinks mode c (Some bit) d h = bit_shrinks mode.closed c d 128 bit h
key_shrinks mode c None d h = omega (arith, ap (λ z. length z.rest) h)

-- ---- the header

pub header_found : (scope : Scope) (mode : Mode) (count : ℕ) (bytes : List ℕ) (first : Bool) (y : HeaderRead)
    → header_read scope mode count bytes first ≡ Ok y
    → IsHeaderOf mode count bytes y.key y.fields y.end × (is_some y.key ≡ first) × KeyFits scope y.key
header_found scope mode count bytes first y h =
    let start = bind_is_ok (lifted_result Range (start_of mode.closed bytes)) (header_from scope mode count first) y h in
    let key = bind_is_ok (key_coder scope first mode start.0) (fields_after mode count) y start.2 in
    let read = bind_is_ok (lifted_result Range (header_fields count mode (place_of key.0.1 tt)))
    (λ read. Ok (record { key = key.0.0; fields = read.0; end = read.1.coder })) y key.2 in
    let all = same_ok (record { key = key.0.0; fields = read.0.0; end = read.0.1.coder }) y read.2 in
    let got = fields_found mode count key.0.1 read.0.0 read.0.1 (lifted_ok Range (header_fields count mode (place_of key.0.1 tt)) read.0 read.1) in
    let keyed = key_found scope first mode start.0 key.0 key.1 in
    subst (λ z. IsHeaderOf mode count bytes z.key z.fields z.end × (is_some z.key ≡ first) × KeyFits scope z.key) all (
      record {
        before_key = start.0;
        start = lifted_ok Range (start_of mode.closed bytes) start.0 start.1;
        after_key = key.0.1;
        keyed = keyed.0;
        size = got.2.count;
        fit = got.2.fit;
        last = got.0;
        coded = got.2.coded;
        is = got.1;
      },
      keyed.1,
      keyed.2,
    )

pub header_run : (scope : Scope) (mode : Mode) (count : ℕ) (bytes : List ℕ) (key : Option Bool) (fields : List ℕ) (end : Coder)
    → IsHeaderOf mode count bytes key fields end → KeyFits scope key
    → header_read scope mode count bytes (is_some key) ≡ Ok (record { key = key; fields = fields; end = end })
header_run scope mode count bytes key fields end h fits =
    bind_ok (lifted_result Range (start_of mode.closed bytes)) (header_from scope mode count (is_some key)) h.before_key (ap (lifted_result Range) h.start)
    ∙ bind_ok (key_coder scope (is_some key) mode h.before_key) (fields_after mode count) (key, h.after_key)
    (key_run scope mode h.before_key key h.after_key h.keyed fits)
    ∙ bind_ok (lifted_result Range (header_fields count mode (place_of h.after_key tt)))
    (λ read. Ok (record { key = key; fields = read.0; end = read.1.coder })) (fields, place_of h.last.coder tt)
    (ap (lifted_result Range) (fields_run mode count h.after_key fields h.last h.size h.fit h.coded))
    ∙ ap (λ z. Ok (record { key = key; fields = fields; end = z })) (sym h.is)

-- a header takes two bytes at least
pub header_leaves : (mode : Mode) (count : ℕ) (bytes : List ℕ) (key : Option Bool) (fields : List ℕ) (end : Coder) → mode.closed ≡ false
    → IsHeaderOf mode count bytes key fields end → length end.rest + 2 ≤ length bytes
header_leaves mode count bytes key fields end is_open h =
    let start = subst (λ closed. start_of closed bytes ≡ Ok h.before_key) is_open h.start in
    omega (
      arith,
      start_leaves bytes h.before_key start,
      key_shrinks mode h.before_key key h.after_key h.keyed,
      run_shrinks mode (place_of h.after_key fresh_row) h.last (flat_map symbol_bits fields) h.coded,
      ap (λ z. length z.rest) h.is,
    )

-- ---- the place of the codes

pub codes_found : (content : List ℕ) (end : Coder) (place : ℕ) → length end.rest + 2 ≤ length content → codes_read content end ≡ Ok place
    → BeginAt content end place
codes_found content end place leaves h =
    let last = bind_is_ok (lifted_result Range (bit_at false end 129)) (λ last. Ok (length content - (length last.1.rest + 1))) place h in
    let ended = lifted_ok Range (bit_at false end 129) last.0 last.1 in
    record {
      last = last.0;
      ended = ended;
      at = omega (arith, leaves, bit_shrinks false end last.0.1 129 last.0.0 ended, same_ok (length content - (length last.0.1.rest + 1)) place last.2);
    }

pub codes_run : (content : List ℕ) (end : Coder) (place : ℕ) → BeginAt content end place → codes_read content end ≡ Ok place
codes_run content end place h =
    bind_ok (lifted_result Range (bit_at false end 129)) (λ last. Ok (length content - (length last.1.rest + 1))) h.last (ap (lifted_result Range) h.ended)
    ∙ (let at : length content - (length h.last.1.rest + 1) ≡ place = omega (arith, h.at) in ap (λ z. Ok z) at)

-- ---- the fields of one tile

pub if_ok : {A : Type 0} (b : Bool) (r : Result A HeadFault) (e : HeadFault) (x : A) → (if b then r else Err e) ≡ Ok x → (b ≡ true) × (r ≡ Ok x)
if_ok true r e x h = (refl, h)
if_ok false r e x h = absurd cc

pub if_true : {A : Type 0} (b : Bool) (r s : Result A HeadFault) → b ≡ true → (if b then r else s) ≡ r
if_true true r s h = refl
if_true false r s h = absurd cc

pub in_place : (first : Bool) (tile : ℕ) → is_in_place first tile ≡ true → IsTrue first ↔ (tile ≡ 0)
in_place true tile h = (λ _. eqb-true tile 0 h, λ _. refl)
in_place false tile h = (λ t. absurd cc, λ e. absurd (let l : 0 < tile = ltb-true 0 tile h in omega arith))

pub placed : (first : Bool) (tile : ℕ) → IsTrue first ↔ (tile ≡ 0) → is_in_place first tile ≡ true
placed true tile h = eq-eqb tile 0 (h.0 refl)
placed false zero h = absurd (let e : false ≡ true = h.1 refl in cc)
placed false (suc tile) h = lt-ltb 0 (suc tile) (omega arith)

judged_found : (limits : HeadLimits) (first : Bool) (fields : List ℕ) (head : SliceHead) → head_judged limits first fields ≡ Ok head
    → IsTileHeader limits fields × (head ≡ head_with limits fields) × (IsTrue first ↔ (head.tile ≡ 0))
judged_found limits first fields head h =
    let tile = slice_index fields 1 * limits.across + slice_index fields 0 in
    let grid = if_ok (nat_lt (slice_index fields 0) limits.across && nat_lt (slice_index fields 1) limits.down) _ _ head h in
    let spans = if_ok (slice_index fields 2 == 0 && slice_index fields 3 == 0) _ _ head grid.1 in
    let tables = if_ok (nat_lt (slice_index fields 4) limits.sets && nat_lt (slice_index fields 5) limits.sets) _ _ head spans.1 in
    let place = if_ok (is_in_place first (slice_index fields 1 * limits.across + slice_index fields 0)) _ _ head tables.1 in
    let in_grid = and_parts (nat_lt (slice_index fields 0) limits.across) (nat_lt (slice_index fields 1) limits.down) grid.0 in
    let one_tile = and_parts (slice_index fields 2 == 0) (slice_index fields 3 == 0) spans.0 in
    let has_tables = and_parts (nat_lt (slice_index fields 4) limits.sets) (nat_lt (slice_index fields 5) limits.sets) tables.0 in
    let same : head ≡ head_with limits fields = sym (same_ok (head_with limits fields) head place.1) in (
      record {
        column = ltb-true (slice_index fields 0) limits.across in_grid.0;
        row = ltb-true (slice_index fields 1) limits.down in_grid.1;
        width = eqb-true (slice_index fields 2) 0 one_tile.0;
        height = eqb-true (slice_index fields 3) 0 one_tile.1;
        luma_table = ltb-true (slice_index fields 4) limits.sets has_tables.0;
        chroma_table = ltb-true (slice_index fields 5) limits.sets has_tables.1;
      },
      same,
      subst (λ z. IsTrue first ↔ (z.tile ≡ 0)) (sym same) (in_place first (slice_index fields 1 * limits.across + slice_index fields 0) place.0),
    )

judged_run : (limits : HeadLimits) (first : Bool) (fields : List ℕ) (head : SliceHead) → IsTileHeader limits fields → head ≡ head_with limits fields
    → IsTrue first ↔ (head.tile ≡ 0) → head_judged limits first fields ≡ Ok head
judged_run limits first fields head h same is_first =
    if_true (nat_lt (slice_index fields 0) limits.across && nat_lt (slice_index fields 1) limits.down) _ _
    (and_from (nat_lt (slice_index fields 0) limits.across) (nat_lt (slice_index fields 1) limits.down)
    (lt-ltb (slice_index fields 0) limits.across h.column) (lt-ltb (slice_index fields 1) limits.down h.row))
    ∙ if_true (slice_index fields 2 == 0 && slice_index fields 3 == 0) _ _
    (and_from (slice_index fields 2 == 0) (slice_index fields 3 == 0) (eq-eqb (slice_index fields 2) 0 h.width) (eq-eqb (slice_index fields 3) 0 h.height))
    ∙ if_true (nat_lt (slice_index fields 4) limits.sets && nat_lt (slice_index fields 5) limits.sets) _ _
    (and_from (nat_lt (slice_index fields 4) limits.sets) (nat_lt (slice_index fields 5) limits.sets)
    (lt-ltb (slice_index fields 4) limits.sets h.luma_table) (lt-ltb (slice_index fields 5) limits.sets h.chroma_table))
    ∙ if_true (is_in_place first (slice_index fields 1 * limits.across + slice_index fields 0)) _ _
    (placed first (slice_index fields 1 * limits.across + slice_index fields 0) (subst (λ z. IsTrue first ↔ (z.tile ≡ 0)) same is_first))
    ∙ ap Ok (sym same)

-- ---- the head

after_place : HeadLimits → Bool → List ℕ → ℕ → Result (SliceHead × ℕ) HeadFault
after_place limits first fields place = head_judged limits first fields >>> λ head. Ok (head, place)

after_header : HeadLimits → List ℕ → Bool → HeaderRead → Result (SliceHead × ℕ) HeadFault
after_header limits content first read = codes_read content read.end >>> after_place limits first read.fields

-- the keyframe bit of the profile is 1
key_is : (first : Bool) (key : Option Bool) → is_some key ≡ first → KeyFits Profile key → key ≡ (if first then Some true else None)
key_is true (Some bit) h fits = ap Some fits
key_is false None h fits = refl
key_is true None h fits = absurd cc
key_is false (Some bit) h fits = absurd cc

key_fits : (first : Bool) → KeyFits Profile (if first then Some true else None)
key_fits true = refl
key_fits false = tt

abbrev profile_key : Bool → Option Bool
profile_key first = if first then Some true else None

has_key : (first : Bool) → is_some (profile_key first) ≡ first
has_key true = refl
has_key false = refl

pub head_found : (limits : HeadLimits) (content : List ℕ) (first : Bool) (head : SliceHead) (place : ℕ) → head_read limits content first ≡ Ok (head, place)
    → IsHeadOf limits content first head place
unfolding after_header after_place
head_found limits content first head place h =
    let read = bind_is_ok (header_read Profile header_mode 9 content first) (after_header limits content first) (head, place) h in
    let codes = bind_is_ok (codes_read content read.0.end) (after_place limits first read.0.fields) (head, place) read.2 in
    let got = bind_is_ok (head_judged limits first read.0.fields) (λ head. Ok (head, codes.0)) (head, place) codes.2 in
    let end = same_ok (got.0, codes.0) (head, place) got.2 in
    let header = header_found Profile header_mode 9 content first read.0 read.1 in
    let judged = judged_found limits first read.0.fields got.0 got.1 in
    record {
      fields = read.0.fields;
      end = read.0.end;
      header = subst (λ z. IsHeaderOf header_mode 9 content z read.0.fields read.0.end) (key_is first read.0.key header.1 header.2) header.0;
      codes = subst (λ z. BeginAt content read.0.end z) (ap (λ z. z.1) end)
          (codes_found content read.0.end codes.0 (header_leaves header_mode 9 content read.0.key read.0.fields read.0.end refl header.0) codes.1);
      of_tile = judged.0;
      values = sym (ap (λ z. z.0) end) ∙ judged.1;
      first_tile = subst (λ z. IsTrue first ↔ (z.tile ≡ 0)) (ap (λ z. z.0) end) judged.2;
    }

pub head_run : (limits : HeadLimits) (content : List ℕ) (first : Bool) (head : SliceHead) (place : ℕ) → IsHeadOf limits content first head place
    → head_read limits content first ≡ Ok (head, place)
unfolding after_header after_place
head_run limits content first head place h =
    let key : Option Bool = if first then Some true else None in
    let read : HeaderRead = record { key = key; fields = h.fields; end = h.end } in
    ap (λ z. header_read Profile header_mode 9 content z >>> after_header limits content first) (sym (has_key first))
    ∙ bind_ok (header_read Profile header_mode 9 content (is_some key)) (after_header limits content first) read
    (header_run Profile header_mode 9 content key h.fields h.end h.header (key_fits first))
    ∙ bind_ok (codes_read content h.end) (after_place limits first h.fields) place (codes_run content h.end place h.codes)
    ∙ bind_ok (head_judged limits first h.fields) (λ head. Ok (head, place)) head (judged_run limits first h.fields head h.of_tile h.values h.first_tile)

pub head_is_found : (limits : HeadLimits) (content : List ℕ) (first : Bool) (r : Result (SliceHead × ℕ) HeadFault) → r ≡ head_read limits content first
    → IfOk r (λ x. IsHeadOf limits content first x.0 x.1)
head_is_found limits content first (Ok x) h = head_found limits content first x.0 x.1 (sym h)
head_is_found limits content first (Err e) h = tt
