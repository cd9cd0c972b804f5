-- How the bytes of a frame stand is one verdict.
use Rattle.std.proofs.Common.{◌≡◌, ℕ, zero, suc, ◌<◌, true, false, eqb, List, [], ◌∷◌, length, refl, sym, ap, ◌∙◌, subst, arith}
use Rattle.std.specs.Prelude.{count_by}
use Rattle.std.specs.List.{AllByRecursion, AllPairs, Contains}
use Rattle.std.proofs.lemmas.Bool.{eqb-true, eq-eqb}
use Rattle.ffv1_slice.specs.Chain.{IsLinkOf, LinkValue, link_of, AreLinksOf}
use Rattle.ffv1_slice.specs.Ending.{EndsAs}
use Rattle.ffv1_slice.specs.declared.chain.ChainEnd.{ChainEnd}
use Rattle.ffv1_slice.specs.declared.chain.ChainEnd.TheVariants.{Whole, Broken}
use Rattle.ffv1_slice.proofs.Links.{Contains-head}
use Rattle.ffv1_scan.specs.Verdicts.{is_passing, IsVerdictOf}
use Rattle.ffv1_scan.specs.declared.verdict.Verdict.{Verdict}

-- ---- lists whose starts fall

abbrev Fall : List LinkValue → Type 0
Fall links = AllPairs (λ a b. b.start < a.start) links

rest_falls : (x : LinkValue) (xs : List LinkValue) → Fall (x ∷ xs) → Fall xs
rest_falls x xs falls = λ i j d less within. falls (suc i) (suc j) d (omega (arith, less)) (omega (arith, within))

below_first : (x : LinkValue) (xs : List LinkValue) (y : LinkValue) → Fall (x ∷ xs) → Contains xs y → y.start < x.start
below_first x xs y falls at =
    let within = at.1 in
    subst (λ z. z.start < x.start) at.2 (falls zero (suc at.0) y (omega arith) (omega (arith, within)))

in_rest : (y : LinkValue) (ys : List LinkValue) (z : LinkValue) → Contains (y ∷ ys) z → z.start < y.start → Contains ys z
in_rest y ys z (zero, within, is) less = let same : y.start ≡ z.start = ap (λ v. v.start) is in absurd (omega (arith, same, less))
in_rest y ys z (suc k, within, is) less = (k, omega (arith, within), is)

first_same : (x : LinkValue) (xs : List LinkValue) (y : LinkValue) (ys : List LinkValue) → Fall (x ∷ xs) → Fall (y ∷ ys) → Contains (y ∷ ys) x → Contains (x ∷ xs) y → x ≡ y
first_same x xs y ys falls others (zero, within, is) back = sym is
first_same x xs y ys falls others (suc k, within, is) (zero, room, same) = same
first_same x xs y ys falls others (suc k, within, is) (suc j, room, same) =
    let less = below_first y ys x others (k, omega (arith, within), is) in
    let more = below_first x xs y falls (j, omega (arith, room), same) in absurd (omega (arith, less, more))

none_in : (x : LinkValue) → Contains [] x → ⊥
none_in x at = let within = at.1 in omega (arith, within)

-- two that have the same links are one
same_links : (xs ys : List LinkValue) → Fall xs → Fall ys → ((z : LinkValue) → Contains xs z → Contains ys z) → ((z : LinkValue) → Contains ys z → Contains xs z) → xs ≡ ys
same_links [] [] falls others there back = refl
same_links [] (y ∷ ys) falls others there back = absurd (none_in y (back y (Contains-head y ys)))
same_links (x ∷ xs) [] falls others there back = absurd (none_in x (there x (Contains-head x xs)))
same_links (x ∷ xs) (y ∷ ys) falls others there back =
    let same = first_same x xs y ys falls others (there x (Contains-head x xs)) (back y (Contains-head y ys)) in
    let start : x.start ≡ y.start = ap (λ v. v.start) same in
    let more = same_links xs ys (rest_falls x xs falls) (rest_falls y ys others)
    (λ z at. let less = below_first x xs z falls at in in_rest y ys z (there z (in_more x xs z at)) (omega (arith, less, start)))
    (λ z at. let less = below_first y ys z others at in in_rest x xs z (back z (in_more y ys z at)) (omega (arith, less, start))) in
    ap (λ z. z ∷ xs) same ∙ ap (λ z. y ∷ z) more
  where
    in_more : (x : LinkValue) (xs : List LinkValue) (z : LinkValue) → Contains xs z → Contains (x ∷ xs) z
    in_more x xs z at = let within = at.1 in (suc at.0, omega (arith, within), at.2)

-- ---- links and verdicts

pub all_contained : {X : Type 0} (P : X → Type 0) (xs : List X) (z : X) → AllByRecursion P xs → Contains xs z → P z
all_contained P [] z all at = let within = at.1 in absurd (omega (arith, within))
all_contained P (x ∷ xs) z all (zero, within, is) = subst P is all.0
all_contained P (x ∷ xs) z all (suc k, within, is) = all_contained P xs z all.1 (k, omega (arith, within), is)

pub links_are_one : (bytes : List ℕ) (xs ys : List LinkValue) → AreLinksOf bytes xs → AreLinksOf bytes ys → xs ≡ ys
links_are_one bytes xs ys are others = same_links xs ys are.falling others.falling (λ z at. moved xs ys z are others at) (λ z at. moved ys xs z others are at)
  where
    moved : (xs ys : List LinkValue) (z : LinkValue) → AreLinksOf bytes xs → AreLinksOf bytes ys → Contains xs z → Contains ys z
    moved xs ys z are others at =
        let is = all_contained (λ link. (q : ℕ) × IsLinkOf bytes link.start q × (link ≡ link_of bytes link.start q)) xs z are.only at in
        subst (Contains ys) (sym is.2) (others.all z.start is.0 is.1)

ends_are_one : (bytes : List ℕ) (a b : ChainEnd) → EndsAs bytes a → EndsAs bytes b → a ≡ b
ends_are_one bytes Whole Whole is other = refl
ends_are_one bytes Whole (Broken q) is other = absurd (other.0 is)
ends_are_one bytes (Broken p) Whole is other = absurd (is.0 other)
ends_are_one bytes (Broken p) (Broken q) is other =
    let least = is.2 q other.1 in
    let other_least = other.2 p is.1 in
    let same : p ≡ q = omega (arith, least, other_least) in ap (λ z. Broken z) same

pub same_verdict : (a b : Verdict) → a.links ≡ b.links → a.passing ≡ b.passing → a.end ≡ b.end → a ≡ b
same_verdict a b links passing end =
    let of : ℕ → ℕ → ChainEnd → Verdict = λ l p e. record { links = l; passing = p; end = e } in
    ap (λ l. of l a.passing a.end) links ∙ ap (λ p. of b.links p a.end) passing ∙ ap (λ e. of b.links b.passing e) end

pub verdict_is_one : (bytes : List ℕ) (a b : Verdict) → IsVerdictOf bytes a → IsVerdictOf bytes b → a ≡ b
verdict_is_one bytes a b is other =
    let links = links_are_one bytes is.links other.links is.are_links other.are_links in
    same_verdict a b (is.count ∙ ap length links ∙ sym other.count) (is.passing ∙ ap (count_by is_passing) links ∙ sym other.passing)
    (ends_are_one bytes a.end b.end is.ends other.ends)

-- ---- what cannot differ is the same

nat_stable : (a b : ℕ) → ((a ≡ b → ⊥) → ⊥) → a ≡ b
nat_stable a b none =
    elim (eqb a b) as (λ t. eqb a b ≡ t → a ≡ b) [
      | true ↦ λ e. eqb-true a b e
      | false ↦ λ e. absurd (none (λ same. let no : true ≡ false = sym (eq-eqb a b same) ∙ e in cc))
    ] refl

end_stable : (a b : ChainEnd) → ((a ≡ b → ⊥) → ⊥) → a ≡ b
end_stable Whole Whole none = refl
end_stable Whole (Broken q) none = absurd (none (λ same. cc))
end_stable (Broken p) Whole none = absurd (none (λ same. cc))
end_stable (Broken p) (Broken q) none = ap (λ z. Broken z) (nat_stable p q (λ apart. none (λ same. let is : p ≡ q = cc in apart is)))

pub verdict_stable : (a b : Verdict) → ((a ≡ b → ⊥) → ⊥) → a ≡ b
verdict_stable a b none =
    same_verdict a b (nat_stable a.links b.links (λ apart. none (λ same. apart (ap (λ v. v.links) same))))
    (nat_stable a.passing b.passing (λ apart. none (λ same. apart (ap (λ v. v.passing) same))))
    (end_stable a.end b.end (λ apart. none (λ same. apart (ap (λ v. v.end) same))))
