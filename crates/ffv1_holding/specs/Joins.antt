-- Values joined one after another (own).
use Rattle.std.specs.Prelude.{List, [], ◌∷◌, Contains}

-- a value with each of the others joined into it in their order
abbrev pub joined_all : {T : Type 0} → (T → T → T) → T → List T → T
joined_all union whole [] = whole
joined_all union whole (other ∷ others) = joined_all union (union whole other) others

-- each of the others can be joined into what those before it came to
abbrev pub AreJoinable : {T : Type 0} → (T → T → Type 0) → (T → T → T) → T → List T → Type 0
AreJoinable joinable union whole [] = Unit {0}
AreJoinable joinable union whole (other ∷ others) = joinable whole other × AreJoinable joinable union (union whole other) others

-- any two of the others can be joined, and each into the value
abbrev pub AreJoinableInPairs : {T : Type 0} → (T → T → Type 0) → T → List T → Type 0
AreJoinableInPairs joinable whole others =
    ((b : _) → Contains others b → joinable whole b) × ((a b : _) → Contains others a → Contains others b → joinable a b)
