-- Whether bits that are left are fewer than eight, and all 0.
use Rattle.std.proofs.Common.{◌≡◌, ◌<◌, Bool, true, false, List, [], ◌∷◌, ◌++◌, length, refl, sym, ap, ◌∙◌}
use Rattle.std.specs.Prelude.{not, ◌&&◌, nat_lt}
use Rattle.std.specs.List.{list_all}
use Rattle.std.proofs.lemmas.Bool.{lt-ltb}
use Rattle.ffv1_samples.specs.Coded.{is_clean_rest}

-- a bit 1
pub rest_unclean : (bits left rest : List Bool) → list_all not left ≡ list_all not bits → left ≡ (true ∷ []) ++ rest → false ≡ is_clean_rest bits
rest_unclean bits left rest same is =
    let none : false ≡ list_all not bits = sym (ap (list_all not) is) ∙ same in
    either (nat_lt (length bits) 8) none
  where
    either : (b : Bool) → false ≡ list_all not bits → false ≡ (b && list_all not bits)
    either true h = h
    either false h = refl

-- none is left
pub rest_clean : (bits left : List Bool) → length bits < 8 → list_all not left ≡ list_all not bits → left ≡ [] → true ≡ is_clean_rest bits
rest_clean bits left few same is =
    sym (ap (λ b. b && list_all not bits) (lt-ltb (length bits) 8 few) ∙ sym same ∙ ap (list_all not) is)

-- a bit 0
pub rest_goes_on : (bits left rest : List Bool) → list_all not left ≡ list_all not bits → left ≡ (false ∷ []) ++ rest → list_all not rest ≡ list_all not bits
rest_goes_on bits left rest same is = sym (ap (list_all not) is) ∙ same
