-- The laws of what becomes of the stretches of a file.
use Rattle.std.proofs.Common.{◌≡◌, ℕ, zero, suc, ◌<◌, List, [], ◌∷◌, ◌++◌, Option, Some, None, length, get_or, map, replicate, refl, sym, ap, ◌∙◌, subst, arith, inl, Contains}
use Rattle.std.specs.List.{list_all, sum_by, zip}
use Rattle.std.specs.List.Sorted.{IsPermutation}
use Rattle.std.proofs.lemmas.List.Sorted.{IsPermutation-map, IsPermutation-sym, Contains-permutation, sum_by-IsPermutation}
use Rattle.std.proofs.Math.ListN.{get_or-map}
use Rattle.std.proofs.lemmas.List.{length-replicate}
use Rattle.std.proofs.lemmas.List.Sums.{sum_by-cons}
use Rattle.std.proofs.lemmas.Bool.{and_parts}
use Rattle.ffv1_slice.specs.Members.{HasSameMembers}
use Rattle.ffv1_mend.specs.Mended.{MendedValue, IsMendOf, is_good}
use Rattle.ffv1_mend.proofs.MendLaws.{same_versions_mend}
use Rattle.ffv1_mend.proofs.Vouched.{good_is_vouched}
use Rattle.ffv1_mend.proofs.Covered.{original_is_mended}
use Rattle.ffv1_stretches.specs.Stretches.{StretchValue}
use Rattle.ffv1_stretches.specs.Cells.{cell_of, cells_of, versions_in, IsStretchMend}
use Rattle.ffv1_stretches.specs.Passes.{bytes_of}
use Rattle.ffv1_stretches.specs.Laws.{AreStretchMends, IsReordered, AnyOrderMends, GoodStretchesAreVouched, OriginalFileIsMended, AreFronts, FrontsAreEnough}
use Rattle.ffv1_stretches.proofs.FileLemmas.{joined, kept_all}

-- ---- the versions among cells in another order

in_versions : (cells : List (Option (List ℕ))) (k : ℕ) (version : List ℕ) → k < length cells → get_or cells k (Some version) ≡ Some version
    → Contains (versions_in cells) version
in_versions [] k version lt is = absurd (omega arith)
in_versions (None ∷ cells) zero version lt is = absurd (let no : None ≡ Some version = is in cc)
in_versions (Some v ∷ cells) zero version lt is = (0, omega arith, let same : v ≡ version = cc in same)
in_versions (None ∷ cells) (suc k) version lt is = in_versions cells k version (omega arith) is
in_versions (Some v ∷ cells) (suc k) version lt is =
    let rest = in_versions cells k version (omega arith) is in
    (suc rest.0, omega (arith, rest.1), rest.2)

in_cells : (cells : List (Option (List ℕ))) (k : ℕ) (version : List ℕ) → k < length (versions_in cells) → get_or (versions_in cells) k version ≡ version
    → Contains cells (Some version)
in_cells [] k version lt is = absurd (omega arith)
in_cells (None ∷ cells) k version lt is =
    let rest = in_cells cells k version lt is in
    (suc rest.0, omega (arith, rest.1), rest.2)
in_cells (Some v ∷ cells) zero version lt is = (0, omega arith, ap Some is)
in_cells (Some v ∷ cells) (suc k) version lt is =
    let rest = in_cells cells k version (omega arith) is in
    (suc rest.0, omega (arith, rest.1), rest.2)

one_version : Option (List ℕ) → ℕ
one_version None = 0
one_version (Some version) = 1

versions_counted : (cells : List (Option (List ℕ))) → length (versions_in cells) ≡ sum_by one_version cells
unfolding one_version
versions_counted [] = refl
versions_counted (None ∷ cells) = omega (arith, versions_counted cells, sum_by-cons one_version None cells)
versions_counted (Some v ∷ cells) = omega (arith, versions_counted cells, sum_by-cons one_version (Some v) cells)

module _ (cells others : List (Option (List ℕ))) (moved : IsPermutation cells others) where
  as_many : length (versions_in cells) ≡ length (versions_in others)
  as_many = versions_counted cells ∙ sym (sum_by-IsPermutation one_version cells others moved) ∙ sym (versions_counted others)

  into : (version : List ℕ) → Contains (versions_in cells) version → Contains (versions_in others) version
  into version there =
      let cell = in_cells cells there.0 version there.1 there.2 in
      let other = Contains-permutation cells others (Some version) moved cell in
      in_versions others other.0 version other.1 other.2

same_members : (cells others : List (Option (List ℕ))) → IsPermutation cells others → HasSameMembers (versions_in cells) (versions_in others)
same_members cells others moved version = (into cells others moved version, into others cells (IsPermutation-sym cells others moved) version)

-- ---- the copies in another order

module _ (files others : List (List ℕ)) (stretch other : StretchValue) (is : IsReordered files others stretch other) where
  own : IsPermutation (cells_of files stretch) (map (λ pair. cell_of stretch.size pair.0 pair.1) (zip others other.places))
  own = IsPermutation-map (λ pair. cell_of stretch.size pair.0 pair.1) (zip files stretch.places) (zip others other.places) is.copies

  cells_moved : IsPermutation (cells_of files stretch) (cells_of others other)
  cells_moved = subst (λ n. IsPermutation (cells_of files stretch) (map (λ pair. cell_of n pair.0 pair.1) (zip others other.places))) is.size' own

  from_moved : get_or (cells_of files stretch) stretch.from None ≡ get_or (cells_of others other) other.from None
  from_moved =
      get_or-map (λ pair. cell_of stretch.size pair.0 pair.1) (zip files stretch.places) stretch.from ([], None)
      ∙ ap (λ n. cell_of n (get_or (zip files stretch.places) stretch.from ([], None)).0 (get_or (zip files stretch.places) stretch.from ([], None)).1) is.size'
      ∙ ap (λ pair. cell_of other.size pair.0 pair.1) is.from'
      ∙ sym (get_or-map (λ pair. cell_of other.size pair.0 pair.1) (zip others other.places) other.from ([], None))

  mend_alike : (one again : MendedValue) → IsStretchMend (cells_of files stretch) stretch one → IsStretchMend (cells_of others other) other again → one ≡ again
  mend_alike one again mends mends_again =
      let same : Some mends.from ≡ Some mends_again.from = sym mends.from_is ∙ from_moved ∙ mends_again.from_is in
      let from : mends.from ≡ mends_again.from = cc in
      same_versions_mend.all stretch.kind (versions_in (cells_of files stretch)) (versions_in (cells_of others other)) mends.from stretch.parts one again
      (same_members (cells_of files stretch) (cells_of others other) cells_moved) (as_many (cells_of files stretch) (cells_of others other) cells_moved)
      mends.mends
      (subst (λ kind. IsMendOf kind (versions_in (cells_of others other)) mends.from stretch.parts again) (sym is.kind')
      (subst (λ from. IsMendOf other.kind (versions_in (cells_of others other)) from stretch.parts again) (sym from)
      (subst (λ parts. IsMendOf other.kind (versions_in (cells_of others other)) mends_again.from parts again) (sym is.parts') mends_again.mends)))

pub any_order_mends : AnyOrderMends
any_order_mends files others [] [] [] [] moved outcomes again = refl
any_order_mends files others [] [] [] (n ∷ ns) moved outcomes again = absurd again
any_order_mends files others [] [] (m ∷ ms) ns moved outcomes again = absurd outcomes
any_order_mends files others [] (t ∷ ts) ms ns moved outcomes again = absurd moved
any_order_mends files others (s ∷ ss) [] ms ns moved outcomes again = absurd moved
any_order_mends files others (s ∷ ss) (t ∷ ts) [] ns moved outcomes again = absurd outcomes
any_order_mends files others (s ∷ ss) (t ∷ ts) (m ∷ ms) [] moved outcomes again = absurd again
any_order_mends files others (s ∷ ss) (t ∷ ts) (m ∷ ms) (n ∷ ns) moved outcomes again =
    ap (λ one. one ∷ ms) (mend_alike files others s t moved.0 m n outcomes.0 again.0)
    ∙ ap (λ rest. n ∷ rest) (any_order_mends files others ss ts ms ns moved.1 outcomes.1 again.1)

-- ---- what vouches

pub good_stretches_are_vouched : GoodStretchesAreVouched
good_stretches_are_vouched files [] [] outcomes = tt
good_stretches_are_vouched files [] (m ∷ ms) outcomes = absurd outcomes
good_stretches_are_vouched files (s ∷ ss) [] outcomes = absurd outcomes
good_stretches_are_vouched files (s ∷ ss) (m ∷ ms) outcomes = (
  good_is_vouched s.kind (versions_in (cells_of files s)) outcomes.0.from s.parts m outcomes.0.mends,
  good_stretches_are_vouched files ss ms outcomes.1,
)

-- ---- an original

pub original_file_is_mended : OriginalFileIsMended
original_file_is_mended files [] [] [] outcomes originals good = refl
original_file_is_mended files [] [] (o ∷ os) outcomes originals good = absurd originals
original_file_is_mended files [] (m ∷ ms) os outcomes originals good = absurd outcomes
original_file_is_mended files (s ∷ ss) [] os outcomes originals good = absurd outcomes
original_file_is_mended files (s ∷ ss) (m ∷ ms) [] outcomes originals good = absurd originals
original_file_is_mended files (s ∷ ss) (m ∷ ms) (o ∷ os) outcomes originals good =
    let all = and_parts (is_good m.state) (list_all (λ one. is_good one.state) ms) good in
    ap (λ bytes. bytes ++ bytes_of ms)
    (original_is_mended.original s.kind o (versions_in (cells_of files s)) outcomes.0.from s.parts m originals.0 outcomes.0.mends (inl all.0))
    ∙ ap (λ rest. o ++ rest) (original_file_is_mended files ss ms os outcomes.1 originals.1 all.1)

-- ---- what stands after the last stretches

rests_of : (files wholes : List (List ℕ)) → AreFronts files wholes → List (List ℕ)
rests_of [] wholes fronts = []
rests_of (f ∷ files) [] fronts = []
rests_of (f ∷ files) (w ∷ wholes) fronts = fronts.0.0 ∷ rests_of files wholes fronts.1

rests_counted : (files wholes : List (List ℕ)) (fronts : AreFronts files wholes) → length (rests_of files wholes fronts) ≡ length files
unfolding rests_of
rests_counted [] wholes fronts = refl
rests_counted (f ∷ files) [] fronts = absurd fronts
rests_counted (f ∷ files) (w ∷ wholes) fronts = ap suc (rests_counted files wholes fronts.1)

wholes_joined : (files wholes : List (List ℕ)) (fronts : AreFronts files wholes) → joined files (rests_of files wholes fronts) ≡ wholes
unfolding rests_of joined
wholes_joined [] [] fronts = refl
wholes_joined [] (w ∷ wholes) fronts = absurd fronts
wholes_joined (f ∷ files) [] fronts = absurd fronts
wholes_joined (f ∷ files) (w ∷ wholes) fronts =
    ap (λ whole. whole ∷ joined files (rests_of files wholes fronts.1)) (sym fronts.0.1) ∙ ap (λ rest. w ∷ rest) (wholes_joined files wholes fronts.1)

pub fronts_are_enough : FrontsAreEnough
fronts_are_enough files wholes stretches mended order ends fronts outcomes =
    subst (λ contents. AreStretchMends contents stretches mended) (wholes_joined files wholes fronts)
    (kept_all (length files) 1 (replicate (length files) 0) stretches mended files (rests_of files wholes fronts) order
    (length-replicate (length files) 0) ends (rests_counted files wholes fronts) outcomes).0
