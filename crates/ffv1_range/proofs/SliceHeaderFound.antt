-- The header of a slice of any recording is read where it is coded, and nowhere else.
use Rattle.std.proofs.Common.{◌≡◌, ℕ, ◌+◌, ◌<◌, ◌≤◌, Bool, true, false, List, [], ◌∷◌, ◌++◌, length, Result, Ok, Err, refl, sym, ap, ◌∙◌, subst}
use Rattle.std.specs.Prelude.{IfOk, Option, Some, None, is_some, nat_lt, nat_le, ◌==◌, ◌&&◌, slice_index, if◌then◌else◌}
use Rattle.std.specs.List.{All, list_all}
use Rattle.std.proofs.lemmas.List.Elements.{All-cons, All-nil, All-head, All-tail}
use Rattle.std.proofs.lemmas.Bool.{and_parts, and_from, ltb-true, lt-ltb, leb-true, le-leb, eqb-true, eqb-false, eq-eqb, ne_eqb}
use Rattle.ffv1_range.specs.Results.{◌>>>◌}
use Rattle.ffv1_range.specs.Coding.{Coder}
use Rattle.ffv1_range.specs.Setup.{RecordingValue}
use Rattle.ffv1_range.specs.HeaderForms.{HeaderRead}
use Rattle.ffv1_range.specs.Header.{IsHeaderOf, header_read, codes_read}
use Rattle.ffv1_range.specs.SliceHeader.{slice_mode, slice_bytes, field_count, table_indexes, slice_header_with, FitsRecording, FollowsHeader, IsSliceHeaderOf, start_read, slice_header_judged, slice_header_read}
use Rattle.ffv1_range.specs.declared.scope.Scope.TheVariants.{Version3}
use Rattle.ffv1_range.specs.declared.head.SliceHeader.{SliceHeader}
use Rattle.ffv1_range.specs.declared.head.SliceStart.{SliceStart}
use Rattle.ffv1_range.specs.declared.head.SliceStart.TheVariants.{Codes, Samples}
use Rattle.ffv1_range.specs.declared.head.HeadFault.{HeadFault}
use Rattle.ffv1_range.proofs.Forms.{bind_ok}
use Rattle.ffv1_range.proofs.Spelling.{bind_is_ok, same_ok}
use Rattle.ffv1_range.proofs.HeaderFound.{KeyFits, header_found, header_run, header_leaves, codes_found, codes_run, if_ok, if_true}

-- ---- how it goes on

samples_from : RecordingValue → List ℕ → Coder → SliceStart
samples_from r content end = Samples (record { mode = slice_mode r; total = length (slice_bytes r content); at = Ok end })

start_by : Bool → RecordingValue → List ℕ → Coder → Result SliceStart HeadFault
start_by is_zero r content end = if is_zero then (codes_read content end >>> λ place. Ok (Codes place)) else Ok (samples_from r content end)

start_found : (is_zero : Bool) (r : RecordingValue) (content : List ℕ) (end : Coder) (start : SliceStart) → (r.coder == 0) ≡ is_zero
    → (is_zero ≡ true → length end.rest + 2 ≤ length content) → start_by is_zero r content end ≡ Ok start → FollowsHeader r content end start
unfolding start_by samples_from
start_found true r content end start e leaves h =
    let x = bind_is_ok (codes_read content end) (λ place. Ok (Codes place)) start h in
    subst (λ z. FollowsHeader r content end z) (same_ok (Codes x.0) start x.2) (eqb-true r.coder 0 e, codes_found content end x.0 (leaves refl) x.1)
start_found false r content end start e leaves h =
    subst (λ z. FollowsHeader r content end z) (same_ok (samples_from r content end) start h) (eqb-false r.coder 0 e, refl)

start_run : (r : RecordingValue) (content : List ℕ) (end : Coder) (start : SliceStart) → FollowsHeader r content end start → start_read r content end ≡ Ok start
unfolding start_by samples_from
start_run r content end (Codes place) h =
    ap (λ b. start_by b r content end) (eq-eqb r.coder 0 h.0)
    ∙ bind_ok (codes_read content end) (λ place. Ok (Codes place)) place (codes_run content end place h.1)
start_run r content end (Samples decoder) h = ap (λ b. start_by b r content end) (ne_eqb r.coder 0 h.0) ∙ ap (λ z. Ok (Samples z)) (sym h.1)

-- with coder_type 0 nothing follows the content
bytes_are : (r : RecordingValue) (content : List ℕ) → (r.coder == 0) ≡ true → slice_bytes r content ≡ content
bytes_are r content h = ap (λ b. if b then content else content ++ 0 ∷ []) h

-- ---- the fields

pub all_below : (n : ℕ) (xs : List ℕ) → list_all (λ table. nat_lt table n) xs ≡ true → All (λ table. table < n) xs
all_below n [] h = All-nil (λ table. table < n)
all_below n (x ∷ xs) h =
    let parts = and_parts (nat_lt x n) (list_all (λ table. nat_lt table n) xs) h in
    All-cons (λ table. table < n) x xs (ltb-true x n parts.0) (all_below n xs parts.1)

pub below_all : (n : ℕ) (xs : List ℕ) → All (λ table. table < n) xs → list_all (λ table. nat_lt table n) xs ≡ true
below_all n [] h = refl
below_all n (x ∷ xs) h =
    and_from (nat_lt x n) (list_all (λ table. nat_lt table n) xs) (lt-ltb x n (All-head (λ table. table < n) x xs h))
    (below_all n xs (All-tail (λ table. table < n) x xs h))

judged_found : (r : RecordingValue) (key : Option Bool) (fields : List ℕ) (header : SliceHeader) → slice_header_judged r key fields ≡ Ok header
    → FitsRecording r fields × (header ≡ slice_header_with r.has_alpha key fields)
judged_found r key fields header h =
    let grid = if_ok (nat_le (slice_index fields 0 + (slice_index fields 2 + 1)) r.setup.across
    && nat_le (slice_index fields 1 + (slice_index fields 3 + 1)) r.setup.down) _ _ header h in
    let tables = if_ok (list_all (λ table. nat_lt table (length r.setup.sets)) (table_indexes r.has_alpha fields)) _ _ header grid.1 in
    let in_grid = and_parts (nat_le (slice_index fields 0 + (slice_index fields 2 + 1)) r.setup.across)
    (nat_le (slice_index fields 1 + (slice_index fields 3 + 1)) r.setup.down) grid.0 in (
      record {
        columns = leb-true (slice_index fields 0 + (slice_index fields 2 + 1)) r.setup.across in_grid.0;
        rows = leb-true (slice_index fields 1 + (slice_index fields 3 + 1)) r.setup.down in_grid.1;
        tables = all_below (length r.setup.sets) (table_indexes r.has_alpha fields) tables.0;
      },
      sym (same_ok (slice_header_with r.has_alpha key fields) header tables.1),
    )

judged_run : (r : RecordingValue) (key : Option Bool) (fields : List ℕ) → FitsRecording r fields
    → slice_header_judged r key fields ≡ Ok (slice_header_with r.has_alpha key fields)
judged_run r key fields h =
    if_true (nat_le (slice_index fields 0 + (slice_index fields 2 + 1)) r.setup.across
    && nat_le (slice_index fields 1 + (slice_index fields 3 + 1)) r.setup.down) _ _
    (and_from (nat_le (slice_index fields 0 + (slice_index fields 2 + 1)) r.setup.across)
    (nat_le (slice_index fields 1 + (slice_index fields 3 + 1)) r.setup.down)
    (le-leb (slice_index fields 0 + (slice_index fields 2 + 1)) r.setup.across h.columns)
    (le-leb (slice_index fields 1 + (slice_index fields 3 + 1)) r.setup.down h.rows))
    ∙ if_true (list_all (λ table. nat_lt table (length r.setup.sets)) (table_indexes r.has_alpha fields)) _ _
    (below_all (length r.setup.sets) (table_indexes r.has_alpha fields) h.tables)

-- ---- the header

-- every keyframe bit is accepted
any_key : (key : Option Bool) → KeyFits Version3 key
any_key None = tt
any_key (Some bit) = refl

after_start : RecordingValue → HeaderRead → SliceStart → Result (SliceHeader × SliceStart) HeadFault
after_start r read start = slice_header_judged r read.key read.fields >>> λ header. Ok (header, start)

after_header : RecordingValue → List ℕ → HeaderRead → Result (SliceHeader × SliceStart) HeadFault
after_header r content read = start_read r content read.end >>> after_start r read

header_of : RecordingValue → List ℕ → Bool → Result HeaderRead HeadFault
header_of r content first = header_read Version3 (slice_mode r) (field_count r.has_alpha) (slice_bytes r content) first

pub slice_header_found : (r : RecordingValue) (content : List ℕ) (first : Bool) (header : SliceHeader) (start : SliceStart)
    → slice_header_read r content first ≡ Ok (header, start) → IsSliceHeaderOf r content first header start
unfolding after_start after_header header_of start_by samples_from
slice_header_found r content first header start h =
    let read = bind_is_ok (header_of r content first) (after_header r content) (header, start) h in
    let on = bind_is_ok (start_read r content read.0.end) (after_start r read.0) (header, start) read.2 in
    let got = bind_is_ok (slice_header_judged r read.0.key read.0.fields) (λ header. Ok (header, on.0)) (header, start) on.2 in
    let end = same_ok (got.0, on.0) (header, start) got.2 in
    let found = header_found Version3 (slice_mode r) (field_count r.has_alpha) (slice_bytes r content) first read.0 read.1 in
    let judged = judged_found r read.0.key read.0.fields got.0 got.1 in
    let values : header ≡ slice_header_with r.has_alpha read.0.key read.0.fields = sym (ap (λ z. z.0) end) ∙ judged.1 in
    let key : header.key ≡ read.0.key = ap (λ z. z.key) values in
    record {
      fields = read.0.fields;
      end = read.0.end;
      coded = subst (λ z. IsHeaderOf (slice_mode r) (field_count r.has_alpha) (slice_bytes r content) z read.0.fields read.0.end) (sym key) found.0;
      has_key = ap is_some key ∙ found.1;
      fits = judged.0;
      values = values ∙ ap (λ z. slice_header_with r.has_alpha z read.0.fields) (sym key);
      follows = subst (λ z. FollowsHeader r content read.0.end z) (ap (λ z. z.1) end)
          (start_found (r.coder == 0) r content read.0.end on.0 refl
          (λ e. subst (λ z. length read.0.end.rest + 2 ≤ length z) (bytes_are r content e)
          (header_leaves (slice_mode r) (field_count r.has_alpha) (slice_bytes r content) read.0.key read.0.fields read.0.end refl found.0)) on.1);
    }

pub slice_header_run : (r : RecordingValue) (content : List ℕ) (first : Bool) (header : SliceHeader) (start : SliceStart)
    → IsSliceHeaderOf r content first header start → slice_header_read r content first ≡ Ok (header, start)
unfolding after_start after_header header_of
slice_header_run r content first header start h =
    let read : HeaderRead = record { key = header.key; fields = h.fields; end = h.end } in
    ap (λ z. header_of r content z >>> after_header r content) (sym h.has_key)
    ∙ bind_ok (header_of r content (is_some header.key)) (after_header r content) read
    (header_run Version3 (slice_mode r) (field_count r.has_alpha) (slice_bytes r content) header.key h.fields h.end h.coded (any_key header.key))
    ∙ bind_ok (start_read r content h.end) (after_start r read) start (start_run r content h.end start h.follows)
    ∙ bind_ok (slice_header_judged r header.key h.fields) (λ header. Ok (header, start)) (slice_header_with r.has_alpha header.key h.fields)
    (judged_run r header.key h.fields h.fits)
    ∙ ap (λ z. Ok (z, start)) (sym h.values)

slice_header_is_found : (r : RecordingValue) (content : List ℕ) (first : Bool) (result : Result (SliceHeader × SliceStart) HeadFault)
    → result ≡ slice_header_read r content first → IfOk result (λ x. IsSliceHeaderOf r content first x.0 x.1)
slice_header_is_found r content first (Ok x) h = slice_header_found r content first x.0 x.1 (sym h)
slice_header_is_found r content first (Err e) h = tt

-- what the contract says of a result that reading gives
pub given : (r : RecordingValue) (content : List ℕ) (first : Bool) (result : Result (SliceHeader × SliceStart) HeadFault)
    → result ≡ slice_header_read r content first
    → record {
      found : IfOk result (λ x. IsSliceHeaderOf r content first x.0 x.1);
      only : (header : SliceHeader) (start : SliceStart) → IsSliceHeaderOf r content first header start → result ≡ Ok (header, start);
      fault : result ≡ slice_header_read r content first;
    }
given r content first result h =
    record {
      found = slice_header_is_found r content first result h;
      only = λ header start is. h ∙ slice_header_run r content first header start is;
      fault = h;
    }
