-- Forms of the sets of quantization tables and of the initial states in a configuration record (RFC 9043, sections 4.2 and 4.3).
use Rattle.std.specs.Prelude.{ℕ, zero, suc, ◌+◌, ◌/◌, Bool, ◌||◌, not, List, [], ◌∷◌, ◌++◌, length, replicate, nat_le, ℤ, slice_index_or, slice_set, if◌then◌else◌}
use Rattle.ffv1_range.specs.Forms.{Form, ◌>>=◌, giving, accepted, lifted, on, apart}
use Rattle.ffv1_range.specs.Reading.{signed_symbol_form}
use Rattle.ffv1_range.specs.Fields.{number, flag}
use Rattle.ffv1_range.specs.Transitions.{delta_byte}
use Rattle.ffv1_range.specs.InitialStates.{StatesValue, uncoded_states, coded_states}
use Rattle.ffv1_range.specs.Tables.{SetValue, half_of, scale_after}
use Rattle.ffv1_range.specs.declared.fault.SetupFault.{SetupFault}
use Rattle.ffv1_range.specs.declared.fault.SetupFault.TheVariants.{Range, TableCount, TableRun, Contexts, Memory}

-- a row of states as it is before its first bit
abbrev pub fresh_row : List ℕ
fresh_row = replicate 32 128

-- The lengths of a table's runs, of which `got` were read and fill the table up to an entry; n is at least the number of
-- those that are left.
unfoldable pub runs_from : ℕ → ℕ → List ℕ → Form (List ℕ) (List ℕ) SetupFault
runs_from zero filled got = giving got
runs_from (suc n) filled got =
    if nat_le 128 filled then giving got else (number >>= λ less.
    accepted (nat_le (filled + (less + 1)) 128) TableRun >>= λ fits.
    runs_from n (filled + (less + 1)) (got ++ (less + 1) ∷ []))

-- a table has a row of states of its own
abbrev pub table_form : Form (Unit {0}) (List ℕ) SetupFault
table_form = apart fresh_row (runs_from 128 0 [])

-- n more tables of a set, the first of this scale, after those that were read
unfoldable pub tables_from : ℕ → ℕ → List (List ℕ) → Form (Unit {0}) SetValue SetupFault
tables_from zero scale halves = giving (record { halves = halves; contexts = (scale + 1) / 2 })
tables_from (suc n) scale halves =
    table_form >>= λ runs.
    accepted (nat_le (scale_after scale runs) 65535) Contexts >>= λ fits.
    tables_from n (scale_after scale runs) (halves ++ half_of scale runs ∷ [])

-- n more sets, after those that were read
unfoldable pub sets_from : ℕ → List SetValue → Form (Unit {0}) (List SetValue) SetupFault
sets_from zero sets = giving sets
sets_from (suc n) sets = tables_from 5 1 [] >>= λ set. sets_from n (sets ++ set ∷ [])

-- quant_table_set_count
abbrev pub set_count : Form (List ℕ) ℕ SetupFault
set_count = do
  count ← number
  is_some ← accepted (nat_le 1 count) TableCount
  is_few ← accepted (nat_le count 8) TableCount
  giving count

-- ---- deltas

-- a delta, at one row of several
abbrev pub delta_form : ℕ → Form (List (List ℕ)) ℤ SetupFault
delta_form k = on (λ rows. slice_index_or rows k []) (λ rows row. slice_set rows k row) (lifted Range signed_symbol_form)

-- n more deltas of a context, the first of number k and at the row of that number, each modulo 256, after those that were read
unfoldable pub context_deltas : ℕ → ℕ → List ℕ → Form (List (List ℕ)) (List ℕ) SetupFault
context_deltas zero k done = giving done
context_deltas (suc n) k done = delta_form k >>= λ delta. context_deltas n (k + 1) (done ++ delta_byte delta ∷ [])

-- the 32 deltas of each of n more contexts, after those that were read
unfoldable pub contexts_deltas : ℕ → List (List ℕ) → Form (List (List ℕ)) (List (List ℕ)) SetupFault
contexts_deltas zero done = giving done
contexts_deltas (suc n) done = context_deltas 32 0 [] >>= λ deltas. contexts_deltas n (done ++ deltas ∷ [])

-- The record's row of states, and the 32 rows of its deltas.
abbrev pub TwoRows : Type 0
TwoRows = List ℕ × List (List ℕ)

abbrev pub record_row : TwoRows → List ℕ
record_row rows = rows.0

abbrev pub with_record_row : TwoRows → List ℕ → TwoRows
with_record_row rows row = (row, rows.1)

abbrev pub delta_rows : TwoRows → List (List ℕ)
delta_rows rows = rows.1

abbrev pub with_delta_rows : TwoRows → List (List ℕ) → TwoRows
with_delta_rows rows deltas = (rows.0, deltas)

-- the deltas of a set with this number of contexts, and the states that they give, for which memory is granted or refused where they are kept
abbrev pub kept_states : Bool → Bool → ℕ → Form TwoRows StatesValue SetupFault
kept_states granted keeps contexts = do
  has_memory ← accepted (granted || not keeps) Memory
  deltas ← on delta_rows with_delta_rows (contexts_deltas contexts [])
  giving (coded_states keeps deltas)

-- states_coded of a set, and its deltas where it is 1
abbrev pub set_states : Bool → Bool → ℕ → Form TwoRows StatesValue SetupFault
set_states granted keeps contexts =
    on record_row with_record_row flag >>= λ coded.
    if coded then kept_states granted keeps contexts else giving uncoded_states

-- the states of more sets, given by their contexts, after those that were read; memory is granted or refused by the number of the set
unfoldable pub sets_states : (ℕ → Bool) → Bool → List ℕ → List StatesValue → Form TwoRows (List StatesValue) SetupFault
sets_states granted keeps [] done = giving done
sets_states granted keeps (contexts ∷ sets) done =
    set_states (granted (length done)) keeps contexts >>= λ states. sets_states granted keeps sets (done ++ states ∷ [])

-- the rows of the deltas as they are before the first
abbrev pub fresh_rows : List (List ℕ)
fresh_rows = replicate 32 fresh_row

abbrev pub beside_fresh_rows : List ℕ → TwoRows
beside_fresh_rows row = (row, fresh_rows)

abbrev pub record_row_after : List ℕ → TwoRows → List ℕ
record_row_after row rows = rows.0

-- the deltas' rows start once a record, and are kept over its sets
abbrev pub states_form : (ℕ → Bool) → Bool → List ℕ → Form (List ℕ) (List StatesValue) SetupFault
states_form granted keeps contexts = on beside_fresh_rows record_row_after (sets_states granted keeps contexts [])
