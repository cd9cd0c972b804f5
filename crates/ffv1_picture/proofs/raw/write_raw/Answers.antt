use Rattle.std.proofs.Common.{◌≡◌, ℕ, zero, suc, ◌+◌, ◌<◌, List, [], ◌∷◌, ◌++◌, length, get_or, take, drop, refl, ap, subst, ◌∙◌, append_assoc, arith}
use Rattle.std.specs.List.{flat_map}
use Rattle.std.proofs.lemmas.Result.{err_from_is_err_and}
use Rattle.ffv1_devices.specs.Logs.{StopsWriting}
use Rattle.ffv1_devices.proofs.Steps.{StopsWriting-after, StopsWriting-of}
use Rattle.ffv1_picture.proofs.Drawings.{items_of}
use Rattle.ffv1_picture.proofs.raw.write_raw.Goals as goal

-- the lists before a place, the one there, and those after it
flat_map-at : {X : Type 0} (f : X → List ℕ) (xs : List X) (i : ℕ) (d : X) → i < length xs
    → flat_map f (take i xs) ++ (f (get_or xs i d) ++ flat_map f (drop (i + 1) xs)) ≡ flat_map f xs
flat_map-at f [] i d lt = absurd (omega arith)
flat_map-at f (x ∷ xs) zero d lt = refl
flat_map-at f (x ∷ xs) (suc i) d lt =
    let front = flat_map f (take i xs) in
    let here = f (get_or xs i d) in
    append_assoc (f x) front (here ++ flat_map f (drop (suc i + 1) (x ∷ xs)))
    ∙ ap (λ n. f x ++ (front ++ (here ++ flat_map f (drop n (x ∷ xs))))) {x = suc i + 1} {y = suc (i + 1)} (omega arith)
    ∙ ap (λ l. f x ++ l) (flat_map-at f xs i d (omega arith))

pub returns-in_err-write_field : goal.returns-in_err-write_field
returns-in_err-write_field g c =
    let p = err_from_is_err_and c.from_residual.result c.from_residual.ensures.1 in
    let planes = c.args.frame.now.planes.items in
    let i = c.loop-plane.plane-index in
    let v = c.plane-item.result in
    let same = c.deref-plane-items.ensures.value in
    let here = c.deref.ensures.value ∙ ap items_of (c.plane-item.is ∙ ap (λ xs. get_or xs i v) same) in
    let lt : i < length planes = omega (arith, c.loop-plane-test.true, ap length same) in
    let rest = flat_map items_of (drop (i + 1) planes) in
    let stopped = StopsWriting-of _ _ (items_of (get_or planes i v)) rest (subst (StopsWriting _ _) here c.in_err-write_field.ensures) in
    rw p.1 (subst (StopsWriting _ _) (flat_map-at items_of planes i v lt)
    (StopsWriting-after _ _ _ (flat_map items_of (take i planes)) _ c.loop-plane.invariant stopped))
