-- Facts of what several copies have, which rest on the set of the copies: on which there are, and not on how often or in what order.
use Rattle.std.specs.Prelude.{◌≡◌, List, Contains}

-- each member of one list is one of the other, in whatever order and however often
abbrev pub HasSameMembers : {T : Type 0} → List T → List T → Type 0
HasSameMembers xs ys = (x : _) → (Contains xs x → Contains ys x) × (Contains ys x → Contains xs x)

-- a fact of some value, and of no other
pub record IsOnly {X : Type 0} (P : X → Type 0) (value : X) : Type 0 where
  pub there : P value
  pub others : (other : X) → P other → other ≡ value

-- a fact of two values that differ
pub record IsOfTwo {X : Type 0} (P : X → Type 0) : Type 0 where
  pub one : X
  pub other : X
  pub one_there : P one
  pub other_there : P other
  pub differ : one ≡ other → ⊥

-- a fact of no value
abbrev pub IsOfNone : {X : Type 0} → (X → Type 0) → Type 0
IsOfNone {X} P = (value : X) → P value → ⊥
