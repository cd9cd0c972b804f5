-- Bytes that are known, after tries that moved none of them.
use Rattle.std.proofs.Common.{◌≡◌, ℕ, ◌<◌, List, [], ◌∷◌, ◌++◌, length, take, get_or, Option, None, Some, arith, refl, sym, ap, ◌∙◌, append-nil}
use Rattle.std.specs.Io.KnownBytes.{Keeps, Consumes, Appends}

pub Consumes-after : (a b c : Option (List ℕ)) (bs : List ℕ) → Keeps a b → Consumes b c bs → Consumes a c bs
Consumes-after None b c bs p q = tt
Consumes-after (Some x) None c bs p q = absurd p
Consumes-after (Some x) (Some y) None bs p q = absurd q
Consumes-after (Some x) (Some y) (Some z) bs p q = sym p ∙ q

-- what is less than one byte is none
pub none_of-length : (bs : List ℕ) → length bs < 1 → bs ≡ []
none_of-length [] h = refl
none_of-length (x ∷ bs) h = absurd (omega arith)

pub take-one : (xs : List ℕ) (d : ℕ) → length xs ≡ 1 → take 1 xs ≡ get_or xs 0 d ∷ []
take-one [] d e = absurd (omega arith)
take-one (x ∷ xs) d e = refl

pub Consumes-kept_nil : (a b : Option (List ℕ)) → Keeps a b → Consumes a b []
Consumes-kept_nil None b p = tt
Consumes-kept_nil (Some x) None p = absurd p
Consumes-kept_nil (Some x) (Some y) p = sym p

pub Appends-after : (a b c : Option (List ℕ)) (bs : List ℕ) → Keeps a b → Appends b c bs → Appends a c bs
Appends-after None b c bs p q = tt
Appends-after (Some x) None c bs p q = absurd p
Appends-after (Some x) (Some y) None bs p q = absurd q
Appends-after (Some x) (Some y) (Some z) bs p q = q ∙ ap (λ l. l ++ bs) p

-- what takes nothing keeps
pub Keeps-of_nil : (a b c : Option (List ℕ)) → Keeps a b → Appends b c [] → Keeps a c
Keeps-of_nil None b c p q = tt
Keeps-of_nil (Some x) None c p q = absurd p
Keeps-of_nil (Some x) (Some y) None p q = absurd q
Keeps-of_nil (Some x) (Some y) (Some z) p q = q ∙ append-nil y ∙ p
