-- Facts said of equals.
use Rattle.std.proofs.Common.{◌≡◌, Result, Ok, Err, IsErrAnd, ap}

-- a fault that is handed on is what is returned
pub is_fault : {T E : Type 0} (fault : E) (result : Result T E) → IsErrAnd result (λ other. other ≡ fault) → result ≡ Err fault
is_fault fault (Ok value) same = absurd same
is_fault fault (Err other) same = ap Err same
