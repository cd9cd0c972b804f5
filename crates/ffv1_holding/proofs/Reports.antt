-- What a report counts and measures.
use Rattle.std.proofs.Common.{◌≡◌, ℕ, zero, suc, ◌+◌, ◌<◌, ◌≤◌, Bool, cond, List, [], ◌∷◌, ◌++◌, length, get_or, take, count_by, Option, Some, None, Result, Ok, Err, OnOk, append_assoc, unwrap_or, sym, ap, ◌∙◌, arith}
use Rattle.std.specs.List.{flat_map, range_with_len, sum_by}
use Rattle.std.proofs.lemmas.List.{take_more, append-nil}
use Rattle.std.proofs.lemmas.Grind.{flat_map-append}
use Rattle.std.proofs.lemmas.List.Sums.{sum_by-append}
use Rattle.ffv1_holding.specs.Contents.{Contents}
use Rattle.ffv1_holding.specs.TileState.{StateOfTile, status_of, tile_state, IsLeastStatus}
use Rattle.ffv1_holding.proofs.Lists.{range_more}
use Rattle.ffv1_holding.specs.ReportText.{least_status}

-- ---- the least error_status

least_below : (xs : List (List ℕ)) (i : ℕ) (d : List ℕ) → i < length xs → least_status xs ≤ status_of (get_or xs i d)
least_below [] i d lt = absurd (omega arith)
least_below (b ∷ []) zero d lt = omega arith
least_below (b ∷ []) (suc i) d lt = absurd (omega arith)
least_below (b ∷ c ∷ bs) zero d lt = omega arith
least_below (b ∷ c ∷ bs) (suc i) d lt = omega (arith, least_below (c ∷ bs) i d (omega arith))

least_above : (xs : List (List ℕ)) (least : ℕ) → 0 < length xs → ((i : ℕ) (d : List ℕ) → i < length xs → least ≤ status_of (get_or xs i d))
    → least ≤ least_status xs
least_above [] least some low = absurd (omega arith)
least_above (b ∷ []) least some low = low 0 b (omega arith)
least_above (b ∷ c ∷ bs) least some low =
    omega (arith, low 0 b (omega arith), least_above (c ∷ bs) least (omega arith) (λ i d lt. low (suc i) d (omega arith)))

pub least_is : (xs : List (List ℕ)) (o : Option ℕ) → IsLeastStatus xs o → unwrap_or o 0 ≡ least_status xs
least_is xs None none = sym (ap least_status none)
least_is xs (Some least) is =
    omega (arith, least_above xs least (omega (arith, is.in_range)) is.low, least_below xs is.at [] is.in_range, is.met [])

-- ---- how many tiles stand in a way

count_by-push : (p : ℕ → Bool) (xs : List ℕ) (x : ℕ) → count_by p (xs ++ x ∷ []) ≡ count_by p xs + cond (p x) 1 0
count_by-push p xs x = sum_by-append (λ y. cond (p y) 1 0) xs (x ∷ [])
    ∙ (let e : count_by p xs + sum_by (λ y. cond (p y) 1 0) (x ∷ []) ≡ count_by p xs + cond (p x) 1 0 = omega arith in e)

module _ (h : Contents) (stands : StateOfTile → Bool) (n count : ℕ) (so_far : count ≡ count_by
    (λ tile. stands (tile_state h tile)) (range_with_len 0 n)) (s : StateOfTile) (is : s ≡ tile_state h n) where
  more : count_by (λ tile. stands (tile_state h tile)) (range_with_len 0 (n + 1)) ≡ count + cond (stands s) 1 0
  more =
      ap (count_by (λ tile. stands (tile_state h tile))) (range_more 0 n n (omega arith))
      ∙ count_by-push (λ tile. stands (tile_state h tile)) (range_with_len 0 n) n
      ∙ (λ i. sym so_far i + cond (stands (sym is i)) 1 0)

  -- the count with one tile more
  pub with_tile : count + cond (stands s) 1 0 ≡ count_by (λ tile. stands (tile_state h tile)) (range_with_len 0 (n + 1))
  with_tile = sym more

-- ---- text that is added

-- text after text
pub then_pushed : {E : Type 0} (r : Result (Unit {0}) E) (old mid new first second second' : List ℕ) → mid ≡ old ++ first → OnOk r (new ≡ mid ++ second)
    → second ≡ second'
    → OnOk r (new ≡ old ++ (first ++ second'))
then_pushed (Ok done) old mid new first second second' before added same =
    added ∙ ap (λ text. text ++ second) before ∙ append_assoc old first second ∙ ap (λ link. old ++ (first ++ link)) same
then_pushed (Err fault) old mid new first second second' before added same = added

-- ---- lines that are added one after the other

flat_map-take_more : {X : Type 0} (f : X → List ℕ) (xs : List X) (i : ℕ) (d : X) → i < length xs
    → flat_map f (take (i + 1) xs) ≡ flat_map f (take i xs) ++ f (get_or xs i d)
flat_map-take_more f xs i d lt =
    ap (flat_map f) (take_more xs i d lt) ∙ flat_map-append f (take i xs) (get_or xs i d ∷ [])
    ∙ ap (λ l. flat_map f (take i xs) ++ l) (append-nil (f (get_or xs i d)))

pub added_more : {X : Type 0} (f : X → List ℕ) (xs : List X) (i : ℕ) (d : X) (old now next : List ℕ) → i < length xs → next ≡ now ++ f (get_or xs i d)
    → now ≡ old ++ flat_map f (take i xs) → next ≡ old ++ flat_map f (take (i + 1) xs)
added_more f xs i d old now next lt added is =
    added ∙ ap (λ l. l ++ f (get_or xs i d)) is ∙ append_assoc old (flat_map f (take i xs)) (f (get_or xs i d))
    ∙ ap (λ l. old ++ l) (sym (flat_map-take_more f xs i d lt))
