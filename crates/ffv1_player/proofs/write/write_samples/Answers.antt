use Rattle.std.proofs.Common.{◌≡◌, ℕ, ◌+◌, ◌<◌, List, [], ◌∷◌, ◌++◌, length, get_or, take, drop, sym, ap, subst, ◌∙◌, append-nil, take-append-drop, arith, Vec, Global}
use Rattle.std.specs.List.{flat_map}
use Rattle.std.proofs.lemmas.List.{take_more}
use Rattle.std.proofs.lemmas.Grind.{flat_map-append}
use Rattle.std.proofs.lemmas.Result.{err_from_is_err_and}
use Rattle.ffv1_devices.specs.Logs.{StopsWriting}
use Rattle.ffv1_devices.proofs.Steps.{StopsWriting-after, StopsWriting-of}
use Rattle.ffv1_player.specs.Written.{plane_bytes}
use Rattle.ffv1_picture.proofs.Drawings.{items_of}
use Rattle.ffv1_player.proofs.write.write_samples.Goals as goal

abbrev bytes_of : ℕ → Vec ℕ Global → List ℕ
bytes_of depth v = plane_bytes depth v.items

-- the lists up to a place, and those after it
flat_map-parts : {X : Type 0} (f : X → List ℕ) (xs : List X) (i : ℕ) (d : X) → i < length xs
    → (flat_map f (take i xs) ++ f (get_or xs i d)) ++ flat_map f (drop (i + 1) xs) ≡ flat_map f xs
flat_map-parts f xs i d lt =
    let x = get_or xs i d in
    ap (λ l. l ++ flat_map f (drop (i + 1) xs))
    (ap (λ l. flat_map f (take i xs) ++ l) (sym (append-nil (f x))) ∙ sym (flat_map-append f (take i xs) (x ∷ []))
    ∙ ap (flat_map f) (sym (take_more xs i d lt)))
    ∙ sym (flat_map-append f (take (i + 1) xs) (drop (i + 1) xs)) ∙ ap (flat_map f) (take-append-drop (i + 1) xs)

pub returns-in_err-write_plane : goal.returns-in_err-write_plane
returns-in_err-write_plane g c =
    let p = err_from_is_err_and c.from_residual.result c.from_residual.ensures.1 in
    let depth = c.args.frame.now.depth in
    let planes = c.args.frame.now.planes.items in
    let i = c.loop-plane.plane-index in
    let v = c.plane-item.result in
    let same = c.deref-plane-items.ensures.value in
    let here = ap (plane_bytes depth) (c.deref.ensures.value ∙ ap items_of (c.plane-item.is ∙ ap (λ xs. get_or xs i v) same)) in
    let lt : i < length planes = omega (arith, c.loop-plane-test.true, ap length same) in
    let stopped = subst (StopsWriting _ _) here c.in_err-write_plane.ensures in
    rw p.1 (subst (StopsWriting _ _) (flat_map-parts (bytes_of depth) planes i v lt)
    (StopsWriting-of _ _ (flat_map (bytes_of depth) (take i planes) ++ bytes_of depth (get_or planes i v)) (flat_map (bytes_of depth) (drop (i + 1) planes))
    (StopsWriting-after _ _ _ (flat_map (bytes_of depth) (take i planes)) (bytes_of depth (get_or planes i v)) c.loop-plane.invariant stopped)))
