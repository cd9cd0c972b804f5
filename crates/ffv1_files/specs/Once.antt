-- Files that are opened once.
use Rattle.std.specs.Prelude.{ℕ, ◌≡◌, Bool, false, not, ◌&&◌, ◌==◌, ◌⊎◌, List, length, Result, Ok, Err, if◌then◌else◌}
use Rattle.ffv1_files.specs.declared.once.Once.{Once}
use Rattle.ffv1_files.specs.declared.once.Once.TheVariants.{Unopened, Open, Closed}

-- A file that is not opened yet is opened, or stays so where that fails. Any other stays as it is.
abbrev pub OpensOnce : {O F E : Type 0} → (O → Result F E → Type 0) → Once O F → Result (Unit {0}) E → Once O F → Type 0
OpensOnce opens (Unopened opener) (Ok _) (Open file) = opens opener (Ok file)
OpensOnce opens (Unopened opener) (Ok _) _ = ⊥
OpensOnce opens (Unopened opener) (Err error) new = opens opener (Err error) × (new ≡ Unopened opener)
OpensOnce opens old (Ok _) new = new ≡ old
OpensOnce opens old (Err _) new = ⊥

-- no byte came to a buffer that has room
abbrev pub reports_end : {E : Type 0} → Result ℕ E → List ℕ → Bool
reports_end (Ok count) buf = (count == 0) && not (length buf == 0)
reports_end (Err _) buf = false

-- The result of a read is that of the open file, which is closed if the read reached its end, and else open as the read left it. A file
-- that is not open gives no bytes, and stays as it is.
abbrev pub ReadsOpen : {O F E : Type 0} → (F → Result ℕ E → List ℕ → F → Type 0) → Once O F → Result ℕ E → List ℕ → Once O F → Type 0
ReadsOpen {F} reads (Open file) result buf new =
    (left : F) × reads file result buf left × (new ≡ (if reports_end result buf then Closed else Open left))
ReadsOpen reads old result buf new = (result ≡ Ok 0) × (new ≡ old)

-- A file is opened if it is not opened yet. If that fails, the result is its error. Else the opened file is used so.
abbrev pub UsesOnce : {O F E : Type 0} → (O → Result F E → Type 0) → (Once O F → Type 0) → Once O F → Result ℕ E → Once O F → Type 0
UsesOnce {O} {F} {E} opens uses old result new =
    ((error : E) × OpensOnce opens old (Err error) new × (result ≡ Err error))
    ⊎ ((opened : Once O F) × OpensOnce opens old (Ok tt) opened × uses opened)

-- the file is read, after it is opened if it is not opened yet
abbrev pub ReadsOnce : {O F E : Type 0} → (O → Result F E → Type 0) → (F → Result ℕ E → List ℕ → F → Type 0)
    → Once O F → Result ℕ E → List ℕ → Once O F → Type 0
ReadsOnce opens reads old result buf new = UsesOnce opens (λ opened. ReadsOpen reads opened result buf new) old result new

-- The result of a write is that of the open file, which stays open as the write left it. A file that is not open takes nothing, and
-- stays as it is.
abbrev pub WritesOpen : {O F E : Type 0} → (F → Result ℕ E → List ℕ → F → Type 0) → Once O F → Result ℕ E → List ℕ → Once O F → Type 0
WritesOpen {F} writes (Open file) result buf new = (left : F) × writes file result buf left × (new ≡ Open left)
WritesOpen writes old result buf new = (result ≡ Ok 0) × (new ≡ old)

-- the file is written, after it is opened if it is not opened yet
abbrev pub WritesOnce : {O F E : Type 0} → (O → Result F E → Type 0) → (F → Result ℕ E → List ℕ → F → Type 0)
    → Once O F → Result ℕ E → List ℕ → Once O F → Type 0
WritesOnce opens writes old result buf new = UsesOnce opens (λ opened. WritesOpen writes opened result buf new) old result new
