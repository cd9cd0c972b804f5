-- What holds of inputs that were read.
use Rattle.std.proofs.Common.{◌≡◌, ℕ, List, [], ◌∷◌, ◌++◌, ◌≤◌, length, take, map, Option, None, Some, refl, sym, arith}
use Rattle.std.proofs.lemmas.List.{length-map, length-take-le, take_all}
use Rattle.std.proofs.KnownBytes.{Consumes-whole}
use Rattle.std.specs.Io.KnownBytes.{Consumes}
use Rattle.ffv1_commands.specs.Inner.Devices.{ReadsWhole}
use Rattle.ffv1_commands.specs.Devices.{InputBegins, HasBytes, IsWholeInput, AreWholeInputs}
use Rattle.ffv1_commands.specs.InTurn.{IsTaken, AreTaken}

-- what was read to the end is what the input has
pub reports_whole : (before after : Option (List ℕ)) (bytes : List ℕ) → ReadsWhole before after bytes → HasBytes before bytes
reports_whole before after bytes whole = Consumes-whole before after bytes (λ reported. reported ≡ bytes) whole.taken whole.end refl

pub whole_input : (before after : Option (List ℕ)) (bytes : List ℕ) → ReadsWhole before after bytes → IsWholeInput before bytes
whole_input before after bytes whole = record { reported = reports_whole before after bytes whole; few = whole.few }

-- an input begins with what was taken from it
pub begins : (before after : Option (List ℕ)) (bytes : List ℕ) → Consumes before after bytes → InputBegins before bytes
begins None after bytes taken = tt
begins (Some all) None bytes taken = absurd taken
begins (Some all) (Some rest) bytes taken = (rest, taken)

pub length-AreWholeInputs : (inputs : List (Option (List ℕ))) (all : List (List ℕ)) → AreWholeInputs inputs all → length inputs ≡ length all
length-AreWholeInputs [] [] each = refl
length-AreWholeInputs [] (b ∷ bs) each = absurd each
length-AreWholeInputs (i ∷ is) [] each = absurd each
length-AreWholeInputs (i ∷ is) (b ∷ bs) each = let rest = length-AreWholeInputs is bs each.1 in omega arith

-- ---- inputs that were read, each by a source of its own

pub AreTaken-push : (inputs : List (Option (List ℕ))) (all : List (List ℕ)) (input : Option (List ℕ)) (bytes : List ℕ) → AreTaken inputs all
    → IsTaken input bytes → AreTaken (inputs ++ input ∷ []) (all ++ bytes ∷ [])
AreTaken-push [] [] input bytes each one = (one, tt)
AreTaken-push [] (b ∷ bs) input bytes each one = absurd each
AreTaken-push (i ∷ is) [] input bytes each one = absurd each
AreTaken-push (i ∷ is) (b ∷ bs) input bytes each one = (each.0, AreTaken-push is bs input bytes each.1 one)

pub taken_whole : (inputs : List (Option (List ℕ))) (all : List (List ℕ)) → AreTaken inputs all → AreWholeInputs inputs all
taken_whole [] [] each = tt
taken_whole [] (b ∷ bs) each = absurd each
taken_whole (i ∷ is) [] each = absurd each
taken_whole (i ∷ is) (b ∷ bs) ((log, took), rest) =
    (whole_input i log.remaining b (record { taken = took.read.bytes'; end = took.end; few = took.few }), taken_whole is bs rest)

-- ---- a list of inputs that are read in turn

module _ {C : Type 0} (reports : C → Option (List ℕ)) where
  -- so many come before a place
  pub length-inputs : (old : List C) (i : ℕ) → i ≤ length old → i ≡ length (take i (map reports old))
  length-inputs old i le = let few : i ≤ length (map reports old) = omega (arith, length-map old reports) in sym (length-take-le i (map reports old) few)

  pub inputs_all : (old : List C) (i : ℕ) → length old ≤ i → take i (map reports old) ≡ map reports old
  inputs_all old i le = let few : length (map reports old) ≤ i = omega (arith, length-map old reports) in take_all i (map reports old) few
