-- Spans that pass a check, of bytes that are put together.
use Rattle.std.proofs.Common.{◌≡◌, ℕ, ◌+◌, ◌≤◌, Bool, true, false, List, [], ◌∷◌, ◌++◌, map, length, take, drop, refl, sym, ap, ◌∙◌, subst, arith}
use Rattle.std.specs.Prelude.{sum_by}
use Rattle.std.specs.List.{AllByRecursion}
use Rattle.std.proofs.lemmas.List.{length-append, length-drop, take-append-le, drop-append-le, drop_at, drop-drop, take_all}
use Rattle.std.proofs.lemmas.List.Sums.{sum_by-append, sum_by-cons}
use Rattle.matroska_parts.specs.declared.parts.Span.{Span}
use Rattle.ffv1_check.specs.Spans.{bytes_at, PassCheck, Follow, HasChecked}

abbrev size_of : Span → ℕ
size_of span = span.size

abbrev AllPass : List ℕ → List Span → Type 0
AllPass bytes spans = AllByRecursion (λ span. PassCheck (bytes_at bytes span)) spans

least : (from : ℕ) (spans : List Span) (to : ℕ) → Follow from spans to → from ≤ to
least from [] to follow = follow
least from (s ∷ ss) to follow = omega (arith, follow.0, least (s.place + s.size) ss to follow.1)

follow_join : (from : ℕ) (xs : List Span) (middle : ℕ) (ys : List Span) (to : ℕ) → Follow from xs middle → Follow middle ys to → Follow from (xs ++ ys) to
follow_join from [] middle [] to a b = omega (arith, a, b)
follow_join from [] middle (y ∷ ys) to a b = (omega (arith, a, b.0), b.1)
follow_join from (x ∷ xs) middle ys to a b = (a.0, follow_join (x.place + x.size) xs middle ys to a.1 b)

abbrev shifted : ℕ → Span → Span
shifted n span = record { place = n + span.place; size = span.size }

follow_shifted : (n from : ℕ) (spans : List Span) (to : ℕ) → Follow from spans to → Follow (n + from) (map (shifted n) spans) (n + to)
follow_shifted n from [] to follow = omega (arith, follow)
follow_shifted n from (s ∷ ss) to follow = (
  omega (arith, follow.0),
  subst (λ z. Follow z (map (shifted n) ss) (n + to)) (omega arith) (follow_shifted n (s.place + s.size) ss to follow.1),
)

sum_shifted : (n : ℕ) (spans : List Span) → sum_by size_of (map (shifted n) spans) ≡ sum_by size_of spans
sum_shifted n [] = refl
sum_shifted n (s ∷ ss) = omega (arith, sum_by-cons size_of (shifted n s) (map (shifted n) ss), sum_by-cons size_of s ss, sum_shifted n ss)

-- ---- bytes at a place

at_left : (xs ys : List ℕ) (span : Span) → span.place + span.size ≤ length xs → bytes_at (xs ++ ys) span ≡ bytes_at xs span
at_left xs ys span within =
    ap (take span.size) (drop-append-le span.place xs ys (omega (arith, within)))
    ∙ take-append-le span.size (drop span.place xs) ys (omega (arith, within, length-drop span.place xs))

at_right : (xs ys : List ℕ) (span : Span) → bytes_at (xs ++ ys) (shifted (length xs) span) ≡ bytes_at ys span
at_right xs ys span =
    ap (take span.size) (sym (drop-drop span.place (length xs) (xs ++ ys)) ∙ ap (drop span.place) (drop_at xs ys (length xs) refl))

pass_left : (from : ℕ) (xs ys : List ℕ) (spans : List Span) → Follow from spans (length xs) → AllPass xs spans → AllPass (xs ++ ys) spans
pass_left from xs ys [] follow pass = tt
pass_left from xs ys (s ∷ ss) follow pass =
    (subst PassCheck (sym (at_left xs ys s (least (s.place + s.size) ss (length xs) follow.1))) pass.0, pass_left (s.place + s.size) xs ys ss follow.1 pass.1)

pass_right : (xs ys : List ℕ) (spans : List Span) → AllPass ys spans → AllPass (xs ++ ys) (map (shifted (length xs)) spans)
pass_right xs ys [] pass = tt
pass_right xs ys (s ∷ ss) pass = (subst PassCheck (sym (at_right xs ys s)) pass.0, pass_right xs ys ss pass.1)

all_join : (P : Span → Type 0) (xs ys : List Span) → AllByRecursion P xs → AllByRecursion P ys → AllByRecursion P (xs ++ ys)
all_join P [] ys a b = b
all_join P (x ∷ xs) ys a b = (a.0, all_join P xs ys a.1 b)

-- ---- how many bytes pass

pub checked_none : (bytes : List ℕ) → HasChecked bytes 0
checked_none bytes = record { spans = []; follow = omega arith; pass = tt; sum = refl }

pub checked_all : (bytes : List ℕ) → PassCheck bytes → HasChecked bytes (length bytes)
checked_all bytes pass = record {
  spans = record { place = 0; size = length bytes } ∷ [];
  follow = (omega arith, omega arith);
  pass = (subst PassCheck (sym (take_all (length bytes) bytes (omega arith))) pass, tt);
  sum = omega arith;
}

pub checked_join : (xs ys : List ℕ) (a b : ℕ) → HasChecked xs a → HasChecked ys b → HasChecked (xs ++ ys) (a + b)
checked_join xs ys a b left right =
    let later : List Span = map (shifted (length xs)) right.spans in
    let follow : Follow (length xs) (map (shifted (length xs)) right.spans) (length (xs ++ ys)) =
    subst (λ z. Follow z (map (shifted (length xs)) right.spans) (length (xs ++ ys))) (omega arith)
    (subst (Follow (length xs + 0) (map (shifted (length xs)) right.spans)) (sym (length-append xs ys)) (follow_shifted (length xs) 0 right.spans (length ys) right.follow)) in
    record {
      spans = left.spans ++ later;
      follow = follow_join 0 left.spans (length xs) later (length (xs ++ ys)) left.follow follow;
      pass = all_join (λ span. PassCheck (bytes_at (xs ++ ys) span)) left.spans later (pass_left 0 xs ys left.spans left.follow left.pass) (pass_right xs ys right.spans right.pass);
      sum = omega (arith, left.sum, right.sum, sum_by-append size_of left.spans later, sum_shifted (length xs) right.spans);
    }

-- ---- the same, or none at all where something else vouches for them

abbrev pub Counts : Bool → List ℕ → ℕ → Type 0
Counts true bytes size = size ≡ 0
Counts false bytes size = HasChecked bytes size

pub counts_none : (vouched : Bool) (bytes : List ℕ) → Counts vouched bytes 0
counts_none true bytes = refl
counts_none false bytes = checked_none bytes

pub counts_join : (vouched : Bool) (xs ys : List ℕ) (a b : ℕ) → Counts vouched xs a → Counts vouched ys b → Counts vouched (xs ++ ys) (a + b)
counts_join true xs ys a b left right = omega (arith, left, right)
counts_join false xs ys a b left right = checked_join xs ys a b left right
