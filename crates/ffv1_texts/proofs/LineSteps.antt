-- Lines of a text.
use Rattle.std.proofs.Common.{◌≡◌, ◌≢◌, ℕ, ◌<◌, List, [], ◌∷◌, ◌++◌, length, arith, refl, sym, ap, subst, append_assoc, ◌⊎◌, inl, inr}
use Rattle.std.proofs.lemmas.Bool.{cases_eq}
use Rattle.ffv1_texts.specs.Lines.{HasNoFeed, AreLines, none, ended, last}
use Rattle.ffv1_texts.proofs.PartSteps.{one_parting, no_parting}

line_more : (c : ℕ) (text : List ℕ) (lines : List (List ℕ)) → c ≢ 10 → AreLines text lines → (more : List (List ℕ)) × AreLines (c ∷ text) more
line_more c text lines apart none = ((c ∷ []) ∷ [], last (apart, tt) (omega arith))
line_more c text lines apart (ended {line = line} {rest = rest} {lines = others} free are) =
    ((c ∷ line) ∷ others, ended (apart, free) are)
line_more c text lines apart (last {line = line} free some) = ((c ∷ line) ∷ [], last (apart, free) (omega arith))

-- each text has lines
pub lines_of : (text : List ℕ) → (lines : List (List ℕ)) × AreLines text lines
lines_of [] = ([], none)
lines_of (c ∷ text) =
    let rest = lines_of text in
    elim (cases_eq c 10) [
      | inl feed ↦ ([] ∷ rest.0, subst (λ (b : ℕ). AreLines (b ∷ text) ([] ∷ rest.0)) (sym feed) (ended {line = []} tt rest.1))
      | inr apart ↦ line_more c text rest.0 apart rest.1
    ]

pub empty_lines : (rest : List ℕ) → length rest ≡ 0 → AreLines rest []
empty_lines [] h = none
empty_lines (c ∷ rest) h = absurd (omega (arith, h))

-- nothing has no lines
no_lines : (text : List ℕ) (lines : List (List ℕ)) → AreLines text lines → text ≡ [] → lines ≡ []
no_lines text lines none e = refl
no_lines text lines (ended {line = []} free are) e = cc
no_lines text lines (ended {line = c ∷ line} free are) e = cc
no_lines text lines (last {line = line} free some) e = absurd (omega (arith, ap length e, some))

last_on : (text line rest others : List ℕ) (lines : List (List ℕ)) → HasNoFeed line → 0 < length rest → rest ≡ line → others ≡ []
    → ((more : List (List ℕ)) → AreLines rest more → AreLines text (lines ++ more))
    → (more : List (List ℕ)) → AreLines others more → AreLines text (lines ++ (line ∷ more))
last_on text line rest others lines free some whole ends on more are =
    let none_left = no_lines others more are ends in
    subst (λ (m : List (List ℕ)). AreLines text (lines ++ (line ∷ m))) (sym none_left)
    (on (line ∷ []) (subst (λ (t : List ℕ). AreLines t (line ∷ [])) (sym whole) (last free (omega (arith, ap length whole, some)))))

-- one line more of those that begin a text
pub lines_on : (text line rest others : List ℕ) (lines : List (List ℕ)) → HasNoFeed line → 0 < length rest
    → (rest ≡ line ++ 10 ∷ others) ⊎ ((rest ≡ line) × (others ≡ []))
    → ((more : List (List ℕ)) → AreLines rest more → AreLines text (lines ++ more))
    → (more : List (List ℕ)) → AreLines others more → AreLines text ((lines ++ line ∷ []) ++ more)
lines_on text line rest others lines free some split on more are =
    subst (AreLines text) (sym (append_assoc lines (line ∷ []) more)) (elim split [
      | inl feed ↦ on (line ∷ more) (subst (λ (t : List ℕ). AreLines t (line ∷ more)) (sym feed) (ended free are))
      | inr last' ↦ last_on text line rest others lines free some last'.0 last'.1 on more are
    ])

-- ---- one list of lines

-- a line that ends with a feed is no last one
ended_not_last : (line rest other : List ℕ) → HasNoFeed other → line ++ 10 ∷ rest ≡ other → ⊥
ended_not_last line rest other free e = no_parting 10 other line rest free (sym e)

same_lines : (text other : List ℕ) (xs ys : List (List ℕ)) → AreLines text xs → AreLines other ys → text ≡ other → xs ≡ ys
same_lines text other xs ys none are e = sym (no_lines other ys are (sym e))
same_lines text other xs ys (ended {line = line} {rest = rest} {lines = lines} free are) none e =
    no_lines (line ++ 10 ∷ rest) (line ∷ lines) (ended free are) e
same_lines text other xs ys (ended {line = line} {rest = rest} {lines = lines} free are) (ended {line = l} {rest = r} {lines = ls} free' are') e =
    let one = one_parting 10 line rest l r free free' e in
    let same = same_lines rest r lines ls are are' one.1 in
    cc (one.0, same)
same_lines text other xs ys (ended {line = line} {rest = rest} free are) (last {line = l} free' some) e =
    absurd (ended_not_last line rest l free' e)
same_lines text other xs ys (last {line = line} free some) none e = no_lines line (line ∷ []) (last free some) e
same_lines text other xs ys (last {line = line} free some) (ended {line = l} {rest = r} free' are') e =
    absurd (ended_not_last l r line free (sym e))
same_lines text other xs ys (last {line = line} free some) (last {line = l} free' some') e = ap (λ (x : List ℕ). x ∷ []) e

-- a text has one list of lines
pub lines_are_one : (text : List ℕ) (xs ys : List (List ℕ)) → AreLines text xs → AreLines text ys → xs ≡ ys
lines_are_one text xs ys p q = same_lines text text xs ys p q refl
