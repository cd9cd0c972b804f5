-- Which copies can be taken, and what a refusal says of one.
use Rattle.std.specs.Prelude.{ℕ, ◌<◌, ◌≤◌, List, [], ◌∷◌, length}
use Rattle.ffv1_bits.specs.Limits.{payload_limit}
use Rattle.ffv1_holding.specs.declared.fault.HoldFault.{HoldFault}
use Rattle.ffv1_holding.specs.declared.fault.HoldFault.TheVariants.{OtherReel, PayloadTooLong, Memory}

-- no copy passes the limit
abbrev pub AreShort : List (List ℕ) → Type 0
AreShort [] = Unit {0}
AreShort (copy ∷ copies) = (length copy ≤ payload_limit) × AreShort copies

-- A copy that is too long is reported as that, and one that isn't can only meet Memory.
abbrev pub IsTakeFault : List ℕ → HoldFault → Type 0
IsTakeFault copy PayloadTooLong = payload_limit < length copy
IsTakeFault copy Memory = length copy ≤ payload_limit
IsTakeFault copy OtherReel = ⊥
