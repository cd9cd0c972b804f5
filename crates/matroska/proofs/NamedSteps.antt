-- The tracks that blocks can name, as they are gathered.
use Rattle.std.proofs.Common.{◌≡◌, ℕ, ◌+◌, Bool, true, false, cond, eqb, zero-add, List, [], ◌∷◌, ◌++◌, length, refl, sym, ap, ◌∙◌, subst, arith}
use Rattle.std.specs.Prelude.{◌||◌, Option, Some, None, position, is_some}
use Rattle.std.specs.List.{list_any, position_from}
use Rattle.std.specs.Ordering.{nat_cmp, is_eq}
use Rattle.std.specs.BTreeMap.{BTreeMap, get}
use Rattle.std.proofs.lemmas.List.{append_assoc, append-nil}
use Rattle.std.proofs.lemmas.List.Folds.{list_any-append}
use Rattle.std.proofs.lemmas.Iterator.Adapters.{position_from-zero}
use Rattle.std.proofs.lemmas.Bool.{eqb-true, eq-eqb, ne_eqb}
use Rattle.std.proofs.lemmas.Bool.Decides.{nat_tests}
use Rattle.std.proofs.Math.Bool.{or-false}
use Rattle.matroska.specs.NamedTracks.{each_after, by_those_before, has_number, is_unnamed, named_tracks}
use Rattle.matroska.specs.declared.track.Track.{Track}

-- what one element more gives
pub each_after-append : {X Y : Type 0} (f : List X → X → List Y) (before xs : List X) (y : X)
    → each_after f before (xs ++ y ∷ []) ≡ each_after f before xs ++ f (before ++ xs) y
each_after-append f before [] y = append-nil (f before y) ∙ ap (λ z. f z y) (sym (append-nil before))
each_after-append f before (x ∷ xs) y =
    ap (λ z. f before x ++ z) (each_after-append f (before ++ x ∷ []) xs y ∙ ap (λ z. each_after f (before ++ x ∷ []) xs ++ f z y) (append_assoc before (x ∷ []) xs))
    ∙ sym (append_assoc (f before x) (each_after f (before ++ x ∷ []) xs) (f (before ++ (x ∷ xs)) y))

pub by_those_before-append : {X Y : Type 0} (f : List X → X → List Y) (xs : List X) (y : X)
    → by_those_before f (xs ++ y ∷ []) ≡ by_those_before f xs ++ f xs y
by_those_before-append f xs y = each_after-append f [] xs y

-- ---- where a number is first

abbrev found_or : Option ℕ → Option ℕ → Option ℕ
found_or (Some i) other = Some i
found_or None other = other

from-append : {X : Type 0} (t : X → Bool) (i : ℕ) (xs : List X) (y : X)
    → position_from t i (xs ++ y ∷ []) ≡ found_or (position_from t i xs) (cond (t y) (Some (i + length xs)) None)
from-append t i [] y = let same : i ≡ i + 0 = omega arith in ap (λ n. cond (t y) (Some n) None) same
from-append t i (x ∷ xs) y =
    let same : i + 1 + length xs ≡ i + length (x ∷ xs) = omega arith in
    let more : position_from t (i + 1) (xs ++ y ∷ []) ≡ found_or (position_from t (i + 1) xs) (cond (t y) (Some (i + length (x ∷ xs))) None) =
    from-append t (i + 1) xs y ∙ ap (λ n. found_or (position_from t (i + 1) xs) (cond (t y) (Some n) None)) same in
    elim (t x) as (λ b. cond b (Some i) (position_from t (i + 1) (xs ++ y ∷ [])) ≡ found_or (cond b (Some i) (position_from t (i + 1) xs)) (cond (t y) (Some (i + length (x ∷ xs))) None))
    [ true ↦ refl | false ↦ more ]

position-append : {X : Type 0} (t : X → Bool) (xs : List X) (y : X)
    → position t (xs ++ y ∷ []) ≡ found_or (position t xs) (cond (t y) (Some (length xs)) None)
position-append t xs y =
    position_from-zero t (xs ++ y ∷ []) ∙ from-append t 0 xs y
    ∙ ap (λ o. found_or o (cond (t y) (Some (0 + length xs)) None)) (sym (position_from-zero t xs))
    ∙ ap (λ n. found_or (position t xs) (cond (t y) (Some n) None)) (zero-add (length xs))

any_is_found : {X : Type 0} (t : X → Bool) (i : ℕ) (xs : List X) → list_any t xs ≡ is_some (position_from t i xs)
any_is_found t i [] = refl
any_is_found t i (x ∷ xs) =
    elim (t x) as (λ b. (b || list_any t xs) ≡ is_some (cond b (Some i) (position_from t (i + 1) xs))) [ true ↦ refl | false ↦ any_is_found t (i + 1) xs ]

pub any_is_position : {X : Type 0} (t : X → Bool) (xs : List X) → list_any t xs ≡ is_some (position t xs)
any_is_position t xs = any_is_found t 0 xs ∙ ap is_some (sym (position_from-zero t xs))

-- ---- the tracks so far

pub record NamedSoFar (tracks named : List Track) (places : BTreeMap ℕ ℕ) : Type 0 where
  pub named_are : named ≡ named_tracks tracks
  pub found : (number : ℕ) → get nat_cmp places number ≡ position (has_number number) named
  pub same : (number : ℕ) → (number ≡ 0 → ⊥) → list_any (has_number number) tracks ≡ list_any (has_number number) named

same_number : (a b : ℕ) → is_eq (nat_cmp a b) ≡ eqb a b
same_number a b = grind (arith, nat_tests)

any_more : (number : ℕ) (tracks : List Track) (track : Track) → list_any (has_number number) (tracks ++ track ∷ []) ≡ (list_any (has_number number) tracks || has_number number track)
any_more number tracks track =
    list_any-append (has_number number) tracks (track ∷ []) ∙ ap (λ b. list_any (has_number number) tracks || b) (or-false (has_number number track))

is_none : (o : Option ℕ) → is_some o ≡ false → o ≡ None
is_none None e = refl
is_none (Some i) e = cc

kept_found : (o : Option ℕ) → found_or o None ≡ o
kept_found None = refl
kept_found (Some i) = refl

named_places : (number own count : ℕ) (old other : Option ℕ) (b : Bool) → eqb own number ≡ b → (own ≡ number → old ≡ None) → other ≡ old
    → cond b (Some count) other ≡ found_or old (cond b (Some count) None)
named_places number own count old other true e none same =
    ap (λ o. found_or o (Some count)) (sym (none (eqb-true own number e)))
named_places number own count old other false e none same = same ∙ sym (kept_found old)

pub one_named : (tracks named grown : List Track) (places grown_places : BTreeMap ℕ ℕ) (track : Track) → NamedSoFar tracks named places
    → (track.number ≡ 0 → ⊥) → is_some (get nat_cmp places track.number) ≡ false → grown ≡ named ++ track ∷ []
    → ((number : ℕ) → get nat_cmp grown_places number ≡ cond (is_eq (nat_cmp track.number number)) (Some (length named)) (get nat_cmp places number))
    → NamedSoFar (tracks ++ track ∷ []) grown grown_places
one_named tracks named grown places grown_places track so_far some absent grown_is places_are =
    let none : position (has_number track.number) named ≡ None = sym (so_far.found track.number) ∙ is_none (get nat_cmp places track.number) absent in
    let unused : list_any (has_number track.number) tracks ≡ false =
    so_far.same track.number some ∙ any_is_position (has_number track.number) named ∙ ap is_some none in
    let is_new : is_unnamed tracks track ≡ false = ap (λ b. b || list_any (has_number track.number) tracks) (ne_eqb track.number 0 some) ∙ unused in
    record {
      named_are = grown_is ∙ ap (λ xs. xs ++ track ∷ []) so_far.named_are
          ∙ ap (λ b. named_tracks tracks ++ cond b [] (track ∷ [])) (sym is_new)
          ∙ sym (by_those_before-append (λ before other. cond (is_unnamed before other) [] (other ∷ [])) tracks track);
      found = λ number.
          let at_it : track.number ≡ number → position (has_number number) named ≡ None =
          λ e. subst (λ n. position (has_number n) named ≡ None) e none in
          places_are number ∙ ap (λ b. cond b (Some (length named)) (get nat_cmp places number)) (same_number track.number number)
          ∙ named_places number track.number (length named) (position (has_number number) named) (get nat_cmp places number) (eqb track.number number) refl at_it (so_far.found number)
          ∙ sym (position-append (has_number number) named track) ∙ ap (position (has_number number)) (sym grown_is);
      same = λ number other.
          any_more number tracks track ∙ ap (λ b. b || has_number number track) (so_far.same number other) ∙ sym (any_more number named track)
          ∙ ap (list_any (has_number number)) (sym grown_is);
    }

pub one_unnamed : (tracks named : List Track) (places : BTreeMap ℕ ℕ) (track : Track) → NamedSoFar tracks named places
    → ((track.number ≡ 0 → ⊥) → is_some (get nat_cmp places track.number) ≡ true) → NamedSoFar (tracks ++ track ∷ []) named places
one_unnamed tracks named places track so_far there =
    let used : (track.number ≡ 0 → ⊥) → list_any (has_number track.number) named ≡ true =
    λ some. any_is_position (has_number track.number) named ∙ ap is_some (sym (so_far.found track.number)) ∙ there some in
    let old : is_unnamed tracks track ≡ true = unnamed_by track.number (list_any (has_number track.number) tracks) (eqb track.number 0) refl (λ some. so_far.same track.number some ∙ used some) in
    record {
      named_are = so_far.named_are ∙ sym (append-nil (named_tracks tracks)) ∙ ap (λ b. named_tracks tracks ++ cond b [] (track ∷ [])) (sym old)
          ∙ sym (by_those_before-append (λ before other. cond (is_unnamed before other) [] (other ∷ [])) tracks track);
      found = so_far.found;
      same = λ number other.
          any_more number tracks track ∙ ap (λ b. b || has_number number track) (so_far.same number other)
          ∙ absorbed (list_any (has_number number) named) (eqb track.number number)
          (λ e. let same : track.number ≡ number = eqb-true track.number number e in subst (λ n. list_any (has_number n) named ≡ true) same (used (λ z. other (sym same ∙ z))));
    }
  where
    unnamed_by : (n : ℕ) (any b : Bool) → eqb n 0 ≡ b → ((n ≡ 0 → ⊥) → any ≡ true) → (b || any) ≡ true
    unnamed_by n any true e there = refl
    unnamed_by n any false e there = there (λ z. let yes : eqb n 0 ≡ true = eq-eqb n 0 z in let no : true ≡ false = sym yes ∙ e in cc)

    absorbed : (any b : Bool) → (b ≡ true → any ≡ true) → (any || b) ≡ any
    absorbed true b given = refl
    absorbed false true given = sym (given refl)
    absorbed false false given = refl
