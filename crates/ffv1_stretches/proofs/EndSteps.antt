-- Where the stretches of each copy end, copy by copy.
use Rattle.std.proofs.Common.{◌≡◌, ℕ, zero, suc, ◌+◌, ◌<◌, List, [], ◌∷◌, ◌++◌, Option, None, length, get_or, take, map, refl, sym, ap, ◌∙◌, arith}
use Rattle.std.specs.List.{zip}
use Rattle.std.proofs.lemmas.List.{take_more}
use Rattle.ffv1_stretches.specs.Stretches.{end_after}
use Rattle.ffv1_stretches.specs.Inner.Ends.{end_of}
use Rattle.ffv1_stretches.specs.declared.ends.End.{End}

-- where they end with one more at these places
abbrev pub moved_ends : ℕ → List ℕ → List (Option ℕ) → List ℕ
moved_ends size ends places = map (λ pair. end_after size pair.0 pair.1) (zip ends places)

pub length-moved_ends : (size : ℕ) (ends : List ℕ) (places : List (Option ℕ)) → length places ≡ length ends → length (moved_ends size ends places) ≡ length ends
length-moved_ends size [] places long = refl
length-moved_ends size (e ∷ ends) [] long = absurd (omega arith)
length-moved_ends size (e ∷ ends) (p ∷ places) long = omega (arith, length-moved_ends size ends places (omega arith))

pub moved_ends_at : (size : ℕ) (ends : List ℕ) (places : List (Option ℕ)) (i : ℕ) → i < length ends → i < length places
    → get_or (moved_ends size ends places) i 0 ≡ end_after size (get_or ends i 0) (get_or places i None)
moved_ends_at size [] places i lt within = absurd (omega arith)
moved_ends_at size (e ∷ ends) [] i lt within = absurd (omega arith)
moved_ends_at size (e ∷ ends) (p ∷ places) zero lt within = refl
moved_ends_at size (e ∷ ends) (p ∷ places) (suc i) lt within = moved_ends_at size ends places i (omega arith) (omega arith)

pub moved_ends_more : (size : ℕ) (ends : List ℕ) (places : List (Option ℕ)) (i next : ℕ) → i < length ends → length places ≡ length ends
    → next ≡ end_after size (get_or ends i 0) (get_or places i None) → take i (moved_ends size ends places) ++ next ∷ [] ≡ take (i + 1) (moved_ends size ends places)
moved_ends_more size ends places i next lt long is =
    ap (λ n. take i (moved_ends size ends places) ++ n ∷ []) (is ∙ sym (moved_ends_at size ends places i lt (omega arith)))
    ∙ sym (take_more (moved_ends size ends places) i 0 (omega (arith, length-moved_ends size ends places long)))

pub end_at : (ends : List End) (i : ℕ) (d : End) → i < length ends → get_or (map end_of ends) i 0 ≡ end_of (get_or ends i d)
end_at [] i d lt = absurd (omega arith)
end_at (e ∷ ends) zero d lt = refl
end_at (e ∷ ends) (suc i) d lt = end_at ends i d (omega arith)
