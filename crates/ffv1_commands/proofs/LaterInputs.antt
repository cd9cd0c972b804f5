-- Inputs that are read in turn, of which those after one are as they were.
use Rattle.std.proofs.Common.{◌≡◌, ℕ, ◌+◌, ◌<◌, List, [], ◌∷◌, ◌++◌, length, get_or, take, set, drop, map, Option, None, sym, ap, subst, ◌∙◌, arith}
use Rattle.std.proofs.lemmas.List.{get_or-drop, get_or-map, drop-drop, drop-set-lt, take_more, length-map}
use Rattle.ffv1_devices.specs.Logs.{ReadLog}
use Rattle.ffv1_commands.specs.InTurn.{AreKeptFrom, AreTaken, ReadsAlone, StopsAtCopy}
use Rattle.ffv1_commands.specs.declared.fault.CliFault.{CliFault}
use Rattle.ffv1_commands.specs.declared.path.CommandPath.{CommandPath}
use Rattle.ffv1_commands.specs.declared.path.CommandPath.TheVariants as paths

-- what a function gives of the first elements, and of the next
pub map_more : {X Y : Type 0} (f : X → Y) (xs : List X) (i : ℕ) (d : X) → i < length xs → take i (map f xs) ++ f (get_or xs i d) ∷ [] ≡ take (i + 1) (map f xs)
map_more f xs i d lt =
    let few : i < length (map f xs) = omega (arith, length-map xs f) in
    ap (λ y. take i (map f xs) ++ y ∷ []) (sym (get_or-map f xs i d (f d) lt)) ∙ sym (take_more (map f xs) i (f d) few)

module _ {C : Type 0} (old now : List C) (i : ℕ) (same : AreKeptFrom i old now) where
  -- the next one is as it was
  next_kept : (d : C) → get_or now i d ≡ get_or old i d
  next_kept d =
      let here : i + 0 ≡ i = omega arith in
      ap (λ n. get_or now n d) (sym here) ∙ sym (get_or-drop i now 0 d) ∙ ap (λ (l : List C). get_or l 0 d) same ∙ get_or-drop i old 0 d
      ∙ ap (λ n. get_or old n d) here

  -- once that one was read, those after it are
  pub rest_kept : (new : C) → AreKeptFrom (i + 1) old (set now i new)
  rest_kept new = drop-set-lt (i + 1) now i new (omega arith) ∙ sym (drop-drop 1 i now) ∙ ap (drop 1) same ∙ drop-drop 1 i old

  module _ (reports : C → Option (List ℕ)) (there : i < length old) (d : C) where
    -- one input more
    pub inputs_more : take i (map reports old) ++ reports (get_or now i d) ∷ [] ≡ take (i + 1) (map reports old)
    inputs_more = ap (λ c. take i (map reports old) ++ reports c ∷ []) (next_kept d) ∙ map_more reports old i d there

    -- the input at this place
    pub input_here : get_or (map reports old) i None ≡ reports (get_or now i d)
    input_here = get_or-map reports old i d None there ∙ ap reports (sym (next_kept d))

    -- the command stopped there
    pub stops_here : (Stops : CommandPath → CliFault → ReadLog → ReadLog → Type 0) (new : C) (fault : CliFault) (copies : List (List ℕ))
        → AreTaken (take i (map reports old)) copies → ReadsAlone (Stops (paths.Copy i) fault) (reports (get_or now i d))
        → StopsAtCopy Stops reports old (set now i new) fault
    stops_here Stops new fault copies earlier stopped = record {
      index = i;
      there = there;
      copies = copies;
      earlier = earlier;
      stopped = subst (ReadsAlone (Stops (paths.Copy i) fault)) (sym input_here) stopped;
      later = rest_kept new;
    }
