-- The union of two lists of rising digests.
use Rattle.ffv1_hold.proofs.Common.{◌≡◌, ℕ, zero, suc, ◌<◌, Bool, true, false, ◌||◌, List, [], ◌∷◌, length, get_or, refl, sym, ap, ◌∙◌, subst, arith, or_left, or_right, true≢false, or_assoc, or-false, is_eq, eq_by_cmp, ordering_reverse, tied_itself, Ordering, Less, Equal, Greater, bytes_cmp, bytes_total, bytes_antisymmetric, IsRising, AreDigests, rising_rest, items-rising, or_cases, digests_union}
use Rattle.ffv1_holding.specs.Sets as set
use Rattle.ffv1_hold.proofs.DigestSets.{has, digest_tie, rising_cons, same_digests}

pub has-union : (xs ys : List (List ℕ)) (d : List ℕ) → has (digests_union xs ys) d ≡ (has xs d || has ys d)
has-union xs ys d =
    sym (set.contains-items (set.union (set.from_list {R = bytes_cmp} xs) (set.from_list ys)) d)
    ∙ set.contains-union bytes_total (set.from_list xs) (set.from_list ys) d
    ∙ (λ i. set.contains-from_list bytes_total xs d i || set.contains-from_list bytes_total ys d i)

pub union-rises : (xs ys : List (List ℕ)) → AreDigests (digests_union xs ys)
union-rises xs ys = items-rising (set.union (set.from_list {R = bytes_cmp} xs) (set.from_list ys))

pub union-comm : (xs ys : List (List ℕ)) → digests_union xs ys ≡ digests_union ys xs
union-comm xs ys = ap set.items (set.union_comm bytes_total bytes_antisymmetric (set.from_list xs) (set.from_list ys))

-- ---- a digest below all others

-- an item of a list is one of its digests
has_item : (xs : List (List ℕ)) (j : ℕ) (d : List ℕ) → j < length xs → has xs (get_or xs j d) ≡ true
has_item [] j d lt = absurd (omega arith)
has_item (x ∷ xs) zero d lt = or_left (eq_by_cmp bytes_cmp x x) (has xs x) (ap is_eq (tied_itself bytes_total x))
has_item (x ∷ xs) (suc j) d lt = or_right (eq_by_cmp bytes_cmp (get_or xs j d) x) (has xs (get_or xs j d)) (has_item xs j d (omega arith))

-- what holds of each item holds of each digest
has_each : (P : List ℕ → Type 0) (xs : List (List ℕ)) → ((j : ℕ) (d : List ℕ) → j < length xs → P (get_or xs j d)) → (q : List ℕ) → has xs q ≡ true → P q
has_each P [] each q there = absurd (true≢false (sym there))
has_each P (x ∷ xs) each q there =
    or_cases (eq_by_cmp bytes_cmp q x) (has xs q) (P q) there (λ tie. subst P (sym (digest_tie q x tie)) (each 0 x (omega arith)))
    (has_each P xs (λ j d lt. each (suc j) d (omega arith)) q)

-- below each of them
abbrev IsBelow : List ℕ → List (List ℕ) → Type 0
IsBelow x xs = (d : List ℕ) → has xs d ≡ true → bytes_cmp x d ≡ Less

below_rest : (x : List ℕ) (xs : List (List ℕ)) → IsRising bytes_cmp (x ∷ xs) → IsBelow x xs
below_rest x xs up = has_each (λ d. bytes_cmp x d ≡ Less) xs (λ j d lt. up 0 (suc j) d (omega arith) (omega arith))

below_less : (x y : List ℕ) (ys : List (List ℕ)) → bytes_cmp x y ≡ Less → IsRising bytes_cmp (y ∷ ys) → IsBelow x (y ∷ ys)
below_less x y ys less up d there =
    cc (or_cases (eq_by_cmp bytes_cmp d y) (has ys d) (bytes_cmp x d ≡ Less) there (λ tie. ap (bytes_cmp x) (digest_tie d y tie) ∙ less) (λ rest. bytes_total.trans x y d less (below_rest y ys up d rest)))

below_union : (x : List ℕ) (xs ys : List (List ℕ)) → IsBelow x xs → IsBelow x ys → IsRising bytes_cmp (x ∷ digests_union xs ys)
below_union x xs ys left right =
    rising_cons x (digests_union xs ys) (union-rises xs ys) (λ j d lt.
    let q = get_or (digests_union xs ys) j d in
    or_cases (has xs q) (has ys q) (bytes_cmp x q ≡ Less) (sym (has-union xs ys q) ∙ has_item (digests_union xs ys) j d lt) (left q) (right q))

-- the union of digests of which the first is below all
union_first : (x : List ℕ) (xs ys : List (List ℕ)) → IsBelow x xs → IsBelow x ys → digests_union (x ∷ xs) ys ≡ x ∷ digests_union xs ys
union_first x xs ys left right =
    cc (same_digests (digests_union (x ∷ xs) ys) (x ∷ digests_union xs ys) (union-rises (x ∷ xs) ys) (below_union x xs ys left right) (λ d. has-union (x ∷ xs) ys d ∙ or_assoc (eq_by_cmp bytes_cmp d x) (has xs d) (has ys d) ∙ ap (λ b. eq_by_cmp bytes_cmp d x || b) (sym (has-union xs ys d))))

-- ---- one step of both lists

none_below : (x : List ℕ) → IsBelow x []
none_below x d there = absurd (true≢false (sym there))

pub union-nil_right : (x : List ℕ) (xs : List (List ℕ)) → IsRising bytes_cmp (x ∷ xs) → digests_union (x ∷ xs) [] ≡ x ∷ digests_union xs []
union-nil_right x xs up = union_first x xs [] (below_rest x xs up) (none_below x)

pub union-nil_left : (y : List ℕ) (ys : List (List ℕ)) → IsRising bytes_cmp (y ∷ ys) → digests_union [] (y ∷ ys) ≡ y ∷ digests_union [] ys
union-nil_left y ys up = union-comm [] (y ∷ ys) ∙ union-nil_right y ys up ∙ ap (λ zs. y ∷ zs) (union-comm ys [])

pub union-less : (x y : List ℕ) (xs ys : List (List ℕ)) → bytes_cmp x y ≡ Less → IsRising bytes_cmp (x ∷ xs) → IsRising bytes_cmp (y ∷ ys)
    → digests_union (x ∷ xs) (y ∷ ys) ≡ x ∷ digests_union xs (y ∷ ys)
union-less x y xs ys less left right = union_first x xs (y ∷ ys) (below_rest x xs left) (below_less x y ys less right)

pub union-greater : (x y : List ℕ) (xs ys : List (List ℕ)) → bytes_cmp x y ≡ Greater → IsRising bytes_cmp (x ∷ xs) → IsRising bytes_cmp (y ∷ ys)
    → digests_union (x ∷ xs) (y ∷ ys) ≡ y ∷ digests_union (x ∷ xs) ys
union-greater x y xs ys greater left right =
    cc (union-comm (x ∷ xs) (y ∷ ys), union-less y x ys xs (bytes_total.antisymm y x ∙ ap ordering_reverse greater) right left, union-comm ys (x ∷ xs))

pub union-equal : (x y : List ℕ) (xs ys : List (List ℕ)) → bytes_cmp x y ≡ Equal → IsRising bytes_cmp (x ∷ xs) → IsRising bytes_cmp (y ∷ ys)
    → digests_union (x ∷ xs) (y ∷ ys) ≡ x ∷ digests_union xs ys
union-equal x y xs ys equal left right =
    let same = bytes_antisymmetric x y equal in
    let also = subst (λ z. IsRising bytes_cmp (z ∷ ys)) (sym same) right in
    ap (λ z. digests_union (x ∷ xs) (z ∷ ys)) (sym same)
    ∙ same_digests (digests_union (x ∷ xs) (x ∷ ys)) (x ∷ digests_union xs ys) (union-rises (x ∷ xs) (x ∷ ys))
    (below_union x xs ys (below_rest x xs left) (below_rest x ys also))
    (λ d. has-union (x ∷ xs) (x ∷ ys) d ∙ or_shared (eq_by_cmp bytes_cmp d x) (has xs d) (has ys d)
    ∙ ap (λ b. eq_by_cmp bytes_cmp d x || b) (sym (has-union xs ys d)))
  where
    or_shared : (a b c : Bool) → ((a || b) || (a || c)) ≡ (a || (b || c))
    or_shared true b c = refl
    or_shared false b c = refl

pub union-none : digests_union [] [] ≡ []
union-none = same_digests (digests_union [] []) [] (union-rises [] []) (λ i j d lt in_range. absurd (omega arith)) (λ d. has-union [] [] d)

-- with no others they stay
pub union-alone : (xs : List (List ℕ)) → AreDigests xs → digests_union xs [] ≡ xs
union-alone xs up = same_digests (digests_union xs []) xs (union-rises xs []) up (λ d. has-union xs [] d ∙ or-false (has xs d))

-- ---- by what the lists begin with

pub rest_rises : (xs : List (List ℕ)) (x : List ℕ) (rest : List (List ℕ)) → xs ≡ x ∷ rest → AreDigests xs → AreDigests rest
rest_rises xs x rest is up = rising_rest bytes_cmp x rest (subst AreDigests is up)

-- the union's first digest and what stands after it, by the order of both first ones
abbrev pub BeginsBy : (xs ys : List (List ℕ)) (x y : List ℕ) (xs' ys' : List (List ℕ)) → Ordering → Type 0
BeginsBy xs ys x y xs' ys' Less = digests_union xs ys ≡ x ∷ digests_union xs' ys
BeginsBy xs ys x y xs' ys' Equal = digests_union xs ys ≡ x ∷ digests_union xs' ys'
BeginsBy xs ys x y xs' ys' Greater = digests_union xs ys ≡ y ∷ digests_union xs ys'

module _ (xs ys : List (List ℕ)) (x y : List ℕ) (xs' ys' : List (List ℕ)) (left : xs ≡ x ∷ xs') (right : ys ≡ y ∷ ys') (xs_up : AreDigests xs)
    (ys_up : AreDigests ys) where
  pub begins_by : (o : Ordering) → bytes_cmp x y ≡ o → BeginsBy xs ys x y xs' ys' o
  begins_by Less less =
      (λ i. digests_union (left i) (right i)) ∙ union-less x y xs' ys' less (subst AreDigests left xs_up) (subst AreDigests right ys_up)
      ∙ ap (λ zs. x ∷ digests_union xs' zs) (sym right)
  begins_by Equal equal =
      (λ i. digests_union (left i) (right i)) ∙ union-equal x y xs' ys' equal (subst AreDigests left xs_up) (subst AreDigests right ys_up)
  begins_by Greater greater =
      (λ i. digests_union (left i) (right i)) ∙ union-greater x y xs' ys' greater (subst AreDigests left xs_up) (subst AreDigests right ys_up)
      ∙ ap (λ zs. y ∷ digests_union zs ys') (sym left)

pub first_alone : (xs : List (List ℕ)) (x : List ℕ) (rest none : List (List ℕ)) → xs ≡ x ∷ rest → none ≡ [] → AreDigests xs
    → digests_union xs none ≡ x ∷ digests_union rest none
first_alone xs x rest none is empty up =
    (λ i. digests_union (is i) (empty i)) ∙ union-nil_right x rest (subst AreDigests is up) ∙ ap (λ zs. x ∷ digests_union rest zs) (sym empty)

pub first_other : (ys : List (List ℕ)) (y : List ℕ) (rest none : List (List ℕ)) → ys ≡ y ∷ rest → none ≡ [] → AreDigests ys
    → digests_union none ys ≡ y ∷ digests_union none rest
first_other ys y rest none is empty up =
    (λ i. digests_union (empty i) (is i)) ∙ union-nil_left y rest (subst AreDigests is up) ∙ ap (λ zs. y ∷ digests_union zs rest) (sym empty)
