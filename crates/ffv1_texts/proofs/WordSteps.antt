-- Words of a line.
use Rattle.std.proofs.Common.{◌≡◌, ℕ, List, [], ◌∷◌, ◌++◌, arith, refl, sym, ap, subst, append_assoc}
use Rattle.std.proofs.lemmas.Str.Parse.{digit_from_value}
use Rattle.std.specs.Str.Parse.{AllDigits}
use Rattle.ffv1_texts.specs.Words.{HasNoSpace, AreWords, last, more}
use Rattle.ffv1_texts.proofs.PartSteps.{one_parting, no_parting}

-- digits are no space
pub HasNoSpace-digits : (digits : List ℕ) → AllDigits 10 digits → HasNoSpace digits
HasNoSpace-digits [] h = tt
HasNoSpace-digits (c ∷ cs) h =
    ((λ (e : c ≡ 32). let range = digit_from_value c h.0 in absurd (omega (arith, range, e))), HasNoSpace-digits cs h.1)

-- one word more of those that begin a line
pub words_on : (line word rest others : List ℕ) (words : List (List ℕ)) → rest ≡ word ++ 32 ∷ others → HasNoSpace word
    → ((later : List (List ℕ)) → AreWords rest later → AreWords line (words ++ later))
    → (later : List (List ℕ)) → AreWords others later → AreWords line ((words ++ word ∷ []) ++ later)
words_on line word rest others words split free on later are =
    subst (AreWords line) (sym (append_assoc words (word ∷ []) later))
    (on (word ∷ later) (subst (λ (t : List ℕ). AreWords t (word ∷ later)) (sym split) (more free are)))

-- ---- one list of words

same_words : (line other : List ℕ) (xs ys : List (List ℕ)) → AreWords line xs → AreWords other ys → line ≡ other → xs ≡ ys
same_words line other xs ys (last {word = w} free) (last {word = v} free') e = ap (λ (x : List ℕ). x ∷ []) e
same_words line other xs ys (last {word = w} free) (more {word = v} {rest = r} free' are') e = absurd (no_parting 32 w v r free e)
same_words line other xs ys (more {word = w} {rest = rest} free are) (last {word = v} free') e = absurd (no_parting 32 v w rest free' (sym e))
same_words line other xs ys (more {word = w} {rest = rest} {words = ws} free are) (more {word = v} {rest = r} {words = vs} free' are') e =
    let one = one_parting 32 w rest v r free free' e in
    let same = same_words rest r ws vs are are' one.1 in
    cc (one.0, same)

-- a line has one list of words
pub words_are_one : (line : List ℕ) (xs ys : List (List ℕ)) → AreWords line xs → AreWords line ys → xs ≡ ys
words_are_one line xs ys p q = same_words line line xs ys p q refl
