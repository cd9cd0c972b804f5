-- What references have now: the values of a slice of references, as a list (own).
use Rattle.std.specs.Prelude.{List, map}
use Rattle.std.specs.Borrow.{Bor}

-- the values, in the order of their references
abbrev pub values_of : {A : Type 0} → List (Bor A) → List A
values_of references = map (λ reference. reference.now) references
