-- What stands after slices is read in one way only, and shows one fault at most.
use Rattle.ffv1_hold.proofs.Common.{◌≡◌, ℕ, ◌*◌, ◌<◌, ◌≤◌, ◌^◌, List, [], ◌∷◌, ◌++◌, length, refl, sym, ap, ◌∙◌, subst, inl, inr, arith, append_assoc, append-nil, length-append, ◌⊎◌, AllByRecursion, flat_map, flat_map-append, bytes_cmp, IsRising, rising_rest, HoldFileFault, Version, First, Second, origins_limit, be4, origins_text, text_after_slice, last_of, FollowsDigest, IsDigest, AreOrigins, AreDigestsIn, HasTextAfter, IsPartOfOrigins, OriginsShow, IsPartAfter, ShowsAfter}
use Rattle.ffv1_hold.specs.declared.file_fault.HoldFileFault.TheVariants as faults
use Rattle.ffv1_hold.proofs.Bodies.{length-be4}
use Rattle.ffv1_hold.proofs.NumberTexts.{same_front, same_back, number_same, after_number}

-- digests, one after the other
abbrev pub whole : List (List ℕ) → List ℕ
whole digests = flat_map (λ digest. digest) digests

abbrev pub AreAll : List (List ℕ) → Type 0
AreAll digests = AllByRecursion IsDigest digests

pub length-whole : (ds : List (List ℕ)) → AreAll ds → length (whole ds) ≡ 32 * length ds
length-whole [] all = refl
length-whole (d ∷ ds) all = let one = all.0 in omega (arith, one, length-append d (whole ds), length-whole ds all.1)

pub origins_parts : (ds : List (List ℕ)) (x : List ℕ) → origins_text ds ++ x ≡ be4 (length ds) ++ (whole ds ++ x)
unfolding origins_text
origins_parts ds x = append_assoc (be4 (length ds)) (whole ds) x

-- fewer digests that begin the same bytes are the first of more
chunks_begin : (ds es : List (List ℕ)) (x y : List ℕ) → AreAll ds → AreAll es → length ds ≤ length es → whole ds ++ x ≡ whole es ++ y
    → (more : List (List ℕ)) × (es ≡ ds ++ more) × (x ≡ whole more ++ y)
chunks_begin [] es x y ds_all es_all few same = (es, refl, same)
chunks_begin (d ∷ ds) [] x y ds_all es_all few same = absurd (omega arith)
chunks_begin (d ∷ ds) (e ∷ es) x y ds_all es_all few same =
    let all = sym (append_assoc d (whole ds) x) ∙ same ∙ append_assoc e (whole es) y in
    let long = ds_all.0 ∙ sym es_all.0 in
    let one = same_front d e _ _ long all in
    let rest = chunks_begin ds es x y ds_all.1 es_all.1 (omega arith) (same_back d e _ _ long all) in
    (rest.0, (λ i. sym one i ∷ rest.1 i), rest.2)

-- a digest in a rising list stands after those before it
rising_last : (xs : List (List ℕ)) (d : List ℕ) (rest : List (List ℕ)) → IsRising bytes_cmp ((xs ++ d ∷ []) ++ rest) → FollowsDigest (last_of xs) d
rising_last [] d rest up = tt
rising_last (x ∷ []) d rest up = up 0 1 d (omega arith) (omega arith)
rising_last (x ∷ y ∷ ys) d rest up = rising_last (y ∷ ys) d rest (rising_rest bytes_cmp x ((y ∷ ys ++ d ∷ []) ++ rest) up)

pub all_push : (ds : List (List ℕ)) (d : List ℕ) → AreAll ds → IsDigest d → AreAll (ds ++ d ∷ [])
all_push [] d all is = (is, tt)
all_push (e ∷ ds) d all is = (all.0, all_push ds d all.1 is)

pub whole-push : (ds : List (List ℕ)) (d : List ℕ) → whole (ds ++ d ∷ []) ≡ whole ds ++ d
whole-push ds d = flat_map-append (λ digest. digest) ds (d ∷ []) ∙ ap (λ t. whole ds ++ t) (append-nil d)

-- two lists of digests that begin the same bytes are the same
same_origins : (ds es : List (List ℕ)) (x y : List ℕ) → AreAll ds → AreAll es → length ds ≤ origins_limit → length es ≤ origins_limit
    → origins_text ds ++ x ≡ origins_text es ++ y → (ds ≡ es) × (x ≡ y)
same_origins ds es x y ds_all es_all ds_few es_few same =
    let all = sym (origins_parts ds x) ∙ same ∙ origins_parts es y in
    let count = number_same (length ds) (length es) _ _ all (omega arith) (omega arith) in
    let more = chunks_begin ds es x y ds_all es_all (omega arith) (after_number (length ds) (length es) _ _ all) in
    none more.0 more.1 more.2 count
  where
    none : (more : List (List ℕ)) → es ≡ ds ++ more → x ≡ whole more ++ y → length ds ≡ length es → (ds ≡ es) × (x ≡ y)
    none [] is rest count = (sym (is ∙ append-nil ds), rest)
    none (m ∷ more) is rest count = absurd (omega (arith, count, ap length is, length-append ds (m ∷ more)))

-- ---- what shows a fault, by its kind

abbrev ShowsCount : HoldFileFault → List ℕ → Type 0
ShowsCount f s = (n : ℕ) × (f ≡ faults.TooLong) × (s ≡ be4 n) × (origins_limit < n) × (n < 2 ^ 32)

abbrev ShowsDigest : HoldFileFault → List ℕ → Type 0
ShowsDigest f s = (n : ℕ) × (ds : List (List ℕ)) × (d : List ℕ) × (f ≡ faults.Order) × (s ≡ be4 n ++ whole ds ++ d) × (n ≤ origins_limit)
    × AreOrigins ds × (length ds < n) × IsDigest d × (¬ FollowsDigest (last_of ds) d)

origin_kinds : (f : HoldFileFault) (s : List ℕ) → OriginsShow f s → ShowsCount f s ⊎ ShowsDigest f s
origin_kinds faults.TooLong s (n, split, over, small) = inl (n, refl, split, over, small)
origin_kinds faults.Order s (n, ds, d, split, few, are, less, is, not) = inr (n, ds, d, refl, split, few, are, less, is, not)
origin_kinds _ s shown = absurd shown

-- what a digest in the wrong place stands after, before more bytes
wrong_parts : (n : ℕ) (ds : List (List ℕ)) (d y : List ℕ) → (be4 n ++ whole ds ++ d) ++ y ≡ be4 n ++ (whole (ds ++ d ∷ []) ++ y)
wrong_parts n ds d y = grind (arith, append_assoc, whole-push)

-- a digest that is in its place is not in the wrong one
wrong_none : (es ds : List (List ℕ)) (d x y : List ℕ) → AreOrigins es → AreOrigins ds → IsDigest d → ¬ FollowsDigest (last_of ds) d
    → length ds < length es → whole es ++ x ≡ whole (ds ++ d ∷ []) ++ y → ⊥
wrong_none es ds d x y es_are ds_are is not few same =
    let more = chunks_begin (ds ++ d ∷ []) es y x (all_push ds d ds_are.each is) es_are.each (omega (arith, few, length-append ds (d ∷ []))) (sym same) in
    not (rising_last ds d more.0 (subst (IsRising bytes_cmp) more.1 es_are.rising))

-- digests that are right show no fault
origins_none : (es : List (List ℕ)) (x s y : List ℕ) (f : HoldFileFault) → AreOrigins es → length es ≤ origins_limit → origins_text es ++ x ≡ s ++ y
    → OriginsShow f s → ⊥
origins_none es x s y f are few same shown = grind (arith, origin_kinds, origins_parts, number_same, wrong_parts, wrong_none, after_number)

-- whole digests are not cut by the end
origins_cut : (es : List (List ℕ)) (x : List ℕ) → AreAll es → length es ≤ origins_limit → IsPartOfOrigins (origins_text es ++ x) → ⊥
origins_cut es x are few (inl short) = grind (arith, origins_parts, length-append, length-be4)
origins_cut es x are few (inr (n, ds, cut, split, small, all, less, short)) =
    let parts = sym (origins_parts es x) ∙ split ∙ append_assoc (be4 n) (whole ds) cut in
    let is = number_same (length es) n _ _ parts (omega arith) (omega arith) in
    let rest = after_number (length es) n _ _ parts in
    omega (
      arith,
      is,
      less,
      short,
      ap length rest,
      length-append (whole es) x,
      length-append (whole ds) cut,
      length-whole es are,
      length-whole ds all.each,
    )

-- two faults of one count and its digests
origins_one : (f g : HoldFileFault) (s t y z : List ℕ) → s ++ y ≡ t ++ z → OriginsShow f s → OriginsShow g t → f ≡ g
origins_one f g s t y z same a b = grind (arith, origin_kinds, wrong_parts, number_same)

-- no beginning of a part shows a fault
part_origins_none : (f : HoldFileFault) (p s y : List ℕ) → p ≡ s ++ y → IsPartOfOrigins p → OriginsShow f s → ⊥
part_origins_none f p s y same (inl short) shown = grind (arith, origin_kinds, length-append, length-be4)
part_origins_none f p s y same (inr (n, ds, cut, split, small, all, less, short)) shown =
    let parts = sym split ∙ same in
    elim (origin_kinds f s shown) [
      | inl w ↦
          let spelled = sym (append_assoc (be4 n) (whole ds) cut) ∙ parts ∙ ap (λ q. q ++ y) w.2 in
          let is = number_same n w.0 _ _ spelled (omega arith) w.4 in
          let over = w.3 in
          omega arith
      | inr w ↦
          let spelled = sym (append_assoc (be4 n) (whole ds) cut) ∙ parts ∙ ap (λ q. q ++ y) w.4 ∙ wrong_parts w.0 w.1 w.2 y in
          let few = w.5 in
          let rest = after_number n w.0 _ _ spelled in
          let push = length-whole (w.1 ++ w.2 ∷ []) (all_push w.1 w.2 w.6.each w.8) in
          let fewer : length w.1 < length ds = omega (
            arith,
            short,
            ap length rest,
            length-append (whole ds) cut,
            length-whole ds all.each,
            push,
            length-append (whole (w.1 ++ w.2 ∷ [])) y,
            length-append w.1 (w.2 ∷ []),
          ) in
          wrong_none ds w.1 w.2 cut y all w.6 w.8 w.9 fewer rest
    ]

-- ---- by the version

pub has_text_after : (v : Version) (ds : List (List ℕ)) → AreDigestsIn v ds → HasTextAfter v ds
has_text_after First ds are = are
has_text_after Second ds are = (are.0.each, are.1)

pub same_after : (v : Version) (ds es : List (List ℕ)) (x y : List ℕ) → HasTextAfter v ds → HasTextAfter v es
    → text_after_slice v ds ++ x ≡ text_after_slice v es ++ y → (ds ≡ es) × (x ≡ y)
same_after First ds es x y a b same = (a ∙ sym b, same)
same_after Second ds es x y a b same = same_origins ds es x y a.0 b.0 a.1 b.1 same

pub after_none : (v : Version) (ds : List (List ℕ)) (x s y : List ℕ) (f : HoldFileFault) → AreDigestsIn v ds → text_after_slice v ds ++ x ≡ s ++ y
    → ShowsAfter v f s → ⊥
after_none First ds x s y f are same shown = shown
after_none Second ds x s y f are same shown = origins_none ds x s y f are.0 are.1 same shown

pub after_cut : (v : Version) (ds : List (List ℕ)) (x : List ℕ) → HasTextAfter v ds → IsPartAfter v (text_after_slice v ds ++ x) → ⊥
after_cut First ds x are part = part
after_cut Second ds x are part = origins_cut ds x are.0 are.1 part

pub after_one : (v : Version) (f g : HoldFileFault) (s t y z : List ℕ) → s ++ y ≡ t ++ z → ShowsAfter v f s → ShowsAfter v g t → f ≡ g
after_one First f g s t y z same a b = absurd a
after_one Second f g s t y z same a b = origins_one f g s t y z same a b

pub part_after_none : (v : Version) (f : HoldFileFault) (p s y : List ℕ) → p ≡ s ++ y → IsPartAfter v p → ShowsAfter v f s → ⊥
part_after_none First f p s y same part shown = shown
part_after_none Second f p s y same part shown = part_origins_none f p s y same part shown
