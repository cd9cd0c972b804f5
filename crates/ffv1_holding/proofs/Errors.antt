-- What an error says is the same, whatever value there might have been in its place.
use Rattle.std.proofs.Common.{◌≡◌, Result, Ok, Err, ap}
use Rattle.ffv1_holding.specs.declared.fault.HoldFault.{HoldFault}
use Rattle.ffv1_holding.specs.declared.fault.HoldFault.TheVariants.{OtherReel, PayloadTooLong, Memory}

-- the error of a result, or another where it has none
abbrev error_or : {T E : Type 0} → E → Result T E → E
error_or other (Ok x) = other
error_or other (Err e) = e

-- two errors that make one result are the same
pub error_is : {T E : Type 0} {x y : E} → (let r : Result T E = Err x in r) ≡ Err y → x ≡ y
error_is {x = x} same = ap (error_or x) same

-- what memory refuses is refused for no other cause
pub memory_is_no_other : {T : Type 0} → (let r : Result T HoldFault = Err Memory in r) ≡ Err OtherReel → ⊥
memory_is_no_other same = cc

pub memory_is_not_long : {T : Type 0} → (let r : Result T HoldFault = Err Memory in r) ≡ Err PayloadTooLong → ⊥
memory_is_not_long same = cc
