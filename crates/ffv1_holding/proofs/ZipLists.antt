-- Two lists side by side, with items put into both.
use Rattle.std.proofs.Common.{◌≡◌, ℕ, zero, suc, ◌+◌, List, [], ◌∷◌, length, map, drop, get_or, refl, ap, ◌∙◌, arith}
use Rattle.std.specs.List.{zip, insert}
use Rattle.std.proofs.lemmas.List.{length-map}
use Rattle.ffv1_holding.specs.Inner.Fresh.{with_inserted, with_fresh}
use Rattle.ffv1_holding.specs.declared.fresh.Fresh.{Fresh}

pub zip-map : {X Y Z : Type 0} (f : X → Z) (xs : List X) (ys : List Y) → map (λ (r : X × Y). let p : Z × Y = (f r.0, r.1) in p) (zip xs ys) ≡ zip (map f xs) ys
zip-map f [] ys = refl
zip-map f (x ∷ xs) [] = refl
zip-map f (x ∷ xs) (y ∷ ys) = ap (λ r. (f x, y) ∷ r) (zip-map f xs ys)

pub length-insert_any : {X : Type 0} (xs : List X) (i : ℕ) (x : X) → length (insert xs i x) ≡ length xs + 1
length-insert_any xs zero x = omega arith
length-insert_any [] (suc i) x = omega arith
length-insert_any (y ∷ xs) (suc i) x = omega (arith, length-insert_any xs i x)

pub zip-insert : {X Y : Type 0} (xs : List X) (ys : List Y) (i : ℕ) (x : X) (y : Y) → length ys ≡ length xs
    → zip (insert xs i x) (insert ys i y) ≡ insert (zip xs ys) i (x, y)
zip-insert xs ys zero x y long = refl
zip-insert [] [] (suc i) x y long = refl
zip-insert [] (w ∷ ys) (suc i) x y long = absurd (omega arith)
zip-insert (v ∷ xs) [] (suc i) x y long = absurd (omega arith)
zip-insert (v ∷ xs) (w ∷ ys) (suc i) x y long = ap (λ r. (v, w) ∷ r) (zip-insert xs ys i x y (omega arith))

pub length-with_fresh : {X : Type 0} (fs : List (Fresh X)) (xs : List X) → length (with_fresh fs xs) ≡ length xs + length fs
length-with_fresh [] xs = omega arith
length-with_fresh (f ∷ fs) xs = omega (arith, length-insert_any (with_fresh fs xs) f.place f.item, length-with_fresh fs xs)

-- new items that go to the same places among both lists
pub zip-with_fresh : {X Y : Type 0} (fs : List (Fresh X)) (gs : List (Fresh Y)) (xs : List X) (ys : List Y) → map (λ f. f.place) gs ≡ map (λ f. f.place) fs
    → length ys ≡ length xs → zip (with_fresh fs xs) (with_fresh gs ys) ≡ with_inserted (λ f. f.0.place) (λ f. (f.0.item, f.1.item)) (zip fs gs) (zip xs ys)
zip-with_fresh [] [] xs ys same long = refl
zip-with_fresh [] (g ∷ gs) xs ys same long = absurd (omega (arith, ap length same))
zip-with_fresh (f ∷ fs) [] xs ys same long = absurd (omega (arith, ap length same))
zip-with_fresh (f ∷ fs) (g ∷ gs) xs ys same long =
    let rest : map (λ f. f.place) gs ≡ map (λ f. f.place) fs = ap (drop 1) same in
    let here : g.place ≡ f.place = ap (λ ps. get_or ps 0 0) same in
    let sizes : length gs ≡ length fs = omega (arith, ap length rest, length-map gs (λ f. f.place), length-map fs (λ f. f.place)) in
    ap (λ p. zip (insert (with_fresh fs xs) f.place f.item) (insert (with_fresh gs ys) p g.item)) here
    ∙ zip-insert (with_fresh fs xs) (with_fresh gs ys) f.place f.item g.item (omega (arith, length-with_fresh fs xs, length-with_fresh gs ys))
    ∙ ap (λ r. insert r f.place (f.item, g.item)) (zip-with_fresh fs gs xs ys rest long)
