-- Parts and what becomes of them, one more at a time, and what they give, written over a version.
use Rattle.std.proofs.Common.{◌≡◌, ℕ, zero, suc, ◌+◌, ◌-◌, ◌<◌, ◌≤◌, Bool, true, false, cond, List, [], ◌∷◌, ◌++◌, Option, Some, None, Bor, length, get_or, take, drop, take-append-drop, map, min, refl, sym, ap, ◌∙◌, subst, arith}
use Rattle.std.specs.Prelude.{slice_range}
use Rattle.std.specs.Iterator.{Yields}
use Rattle.std.specs.Iterator.Adapters.{zip_first, zip_second}
use Rattle.std.specs.Slice.Iter.{iter_rest}
use Rattle.std.specs.declared.iter.Zip.{Zip}
use Rattle.std.specs.declared.slice.Iter.{Iter}
use Rattle.std.proofs.lemmas.Fn.{fronts}
use Rattle.std.proofs.lemmas.Iterator.{zips}
use Rattle.std.proofs.lemmas.Slice.Zip.{AllZip-long, zip_turn, zip_end}
use Rattle.std.specs.List.{AllZip, filter, flat_map, zip}
use Rattle.std.proofs.lemmas.Grind.{flat_map-append}
use Rattle.std.proofs.Math.ListN.{get_or-map}
use Rattle.std.proofs.lemmas.List.{drop-drop, take_more, take_all, map-append, append-nil, length-append, length-map}
use Rattle.std.proofs.lemmas.List.Sums.{fold-append}
use Rattle.ffv1_weave.specs.Parts.{written}
use Rattle.ffv1_splice.specs.declared.place.Place.{Place}
use Rattle.ffv1_mend.specs.Improved.{PartValue, part_value, Patch, patched, is_given}
use Rattle.ffv1_mend.specs.Improved.PartValue.{missing}
use Rattle.ffv1_mend.specs.Inner.Improved.{IsFitting, AreFitting}
use Rattle.ffv1_mend.specs.declared.part.MendedPart.{MendedPart}
use Rattle.ffv1_mend.specs.declared.part.MendedPart.TheVariants.{Missing}
use Rattle.ffv1_mend.specs.declared.part.Part.{Part}
use Rattle.ffv1_mend.specs.declared.part.Sort.TheVariants.{Frame}

-- ---- two lists, place by place

pub zip_push : {A B : Type 0} (R : A → B → Type 0) (xs : List A) (ys : List B) (x : A) (y : B) → AllZip R xs ys → R x y
    → AllZip R (xs ++ x ∷ []) (ys ++ y ∷ [])
zip_push R [] [] x y h here = (here, tt)
zip_push R [] (b ∷ ys) x y h here = absurd h
zip_push R (a ∷ xs) [] x y h here = absurd h
zip_push R (a ∷ xs) (b ∷ ys) x y h here = (h.0, zip_push R xs ys x y h.1 here)

pub zip_more : {A B : Type 0} (R : A → B → Type 0) (xs : List A) (ys : List B) (i : ℕ) (d : A) (y : B) → i < length xs → AllZip R (take i xs) ys
    → R (get_or xs i d) y → AllZip R (take (i + 1) xs) (ys ++ y ∷ [])
zip_more R xs ys i d y lt h here =
    subst (λ front. AllZip R front (ys ++ y ∷ [])) (sym (take_more xs i d lt)) (zip_push R (take i xs) ys (get_or xs i d) y h here)

pub zip_at : {A B : Type 0} (R : A → B → Type 0) (xs : List A) (ys : List B) (i : ℕ) (d : A) (e : B) → AllZip R xs ys → i < length xs
    → R (get_or xs i d) (get_or ys i e)
zip_at R [] ys i d e h lt = absurd (omega arith)
zip_at R (x ∷ xs) [] i d e h lt = absurd h
zip_at R (x ∷ xs) (y ∷ ys) zero d e h lt = h.0
zip_at R (x ∷ xs) (y ∷ ys) (suc i) d e h lt = zip_at R xs ys i d e h.1 (omega arith)

zip_take : {A B : Type 0} (xs : List A) (ys : List B) (i : ℕ) (d : A) (e : B) → length xs ≡ length ys → i < length xs
    → zip (take (suc i) xs) (take (suc i) ys) ≡ zip (take i xs) (take i ys) ++ (get_or xs i d, get_or ys i e) ∷ []
zip_take [] ys i d e long lt = absurd (omega arith)
zip_take (x ∷ xs) [] i d e long lt = absurd (omega arith)
zip_take (x ∷ xs) (y ∷ ys) zero d e long lt = refl
zip_take (x ∷ xs) (y ∷ ys) (suc i) d e long lt = ap (λ more. (x, y) ∷ more) (zip_take xs ys i d e (omega arith) (omega arith))

-- ---- bytes that are there already

pub written_there : (bytes : List ℕ) (start : ℕ) (piece : List ℕ) → piece ≡ slice_range bytes start (start + length piece) → written bytes start piece ≡ bytes
written_there bytes start piece there =
    let size : start + length piece - start ≡ length piece = omega arith in
    let is : take (length piece) (drop start bytes) ≡ piece = ap (λ n. take n (drop start bytes)) (sym size) ∙ sym there in
    ap (λ rest. take start bytes ++ (piece ++ rest)) (sym (drop-drop (length piece) start bytes))
    ∙ ap (λ front. take start bytes ++ (front ++ drop (length piece) (drop start bytes))) (sym is)
    ∙ ap (λ rest. take start bytes ++ rest) (take-append-drop (length piece) (drop start bytes))
    ∙ take-append-drop start bytes

-- ---- what one splice gives

-- of some places
abbrev pub given_of : Part → List ℕ → List Place → List Patch
given_of part payload places =
    map (λ place. record { start = part.start + place.start; bytes = slice_range payload place.start place.end })
    (filter (λ place. is_given place.standing) places)

filter-push : (test : Place → Bool) (xs : List Place) (x : Place) → filter test (xs ++ x ∷ []) ≡ filter test xs ++ cond (test x) (x ∷ []) []
filter-push test [] x = refl
filter-push test (y ∷ xs) x = elim (test y) as (λ t. cond t (y ∷ filter test (xs ++ x ∷ [])) (filter test (xs ++ x ∷ []))
    ≡ cond t (y ∷ filter test xs) (filter test xs) ++ cond (test x) (x ∷ []) []) [
      | true ↦ ap (λ more. y ∷ more) (filter-push test xs x)
      | false ↦ filter-push test xs x
    ]

module _ (part : Part) (payload : List ℕ) (places : List Place) (version : List ℕ) (i : ℕ) (place : Place) (lt : i < length places)
    (is : get_or places i place ≡ place) where
  next : take (i + 1) places ≡ take i places ++ place ∷ []
  next = take_more places i place lt ∙ ap (λ one. take i places ++ one ∷ []) is

  with_next : (t : Bool) → is_given place.standing ≡ t
      → given_of part payload (take (i + 1) places)
      ≡ given_of part payload (take i places)
      ++ map (λ one. record { start = part.start + one.start; bytes = slice_range payload one.start one.end }) (cond t (place ∷ []) [])
  with_next t given =
      ap (given_of part payload) next
      ∙ ap (map (λ one. record { start = part.start + one.start; bytes = slice_range payload one.start one.end }))
      (filter-push (λ one. is_given one.standing) (take i places) place
      ∙ ap (λ t. filter (λ one. is_given one.standing) (take i places) ++ cond t (place ∷ []) []) given)
      ∙ map-append (λ one. record { start = part.start + one.start; bytes = slice_range payload one.start one.end })
      (filter (λ one. is_given one.standing) (take i places)) (cond t (place ∷ []) [])

  pub place_given : (old new bytes : List ℕ) (start : ℕ) → is_given place.standing ≡ true → old ≡ patched version (given_of part payload (take i places))
      → start ≡ part.start + place.start → bytes ≡ slice_range payload place.start place.end → new ≡ written old start bytes
      → new ≡ patched version (given_of part payload (take (i + 1) places))
  place_given old new bytes start given so_far start_is bytes_are made =
      made ∙ ap (λ s. written old s bytes) start_is ∙ ap (written old (part.start + place.start)) bytes_are
      ∙ ap (λ z. written z (part.start + place.start) (slice_range payload place.start place.end)) so_far
      ∙ sym (ap (patched version) (with_next true given)
      ∙ fold-append (λ before patch. written before patch.start patch.bytes) version (given_of part payload (take i places)) _)

  pub place_not_given : (old : List ℕ) → is_given place.standing ≡ false → old ≡ patched version (given_of part payload (take i places))
      → old ≡ patched version (given_of part payload (take (i + 1) places))
  place_not_given old not so_far =
      so_far ∙ sym (ap (patched version) (with_next false not ∙ append-nil (given_of part payload (take i places))))

-- ---- what all parts give

-- a part where there is none, and what becomes of it
abbrev pub no_part : Part
no_part = record { start = 0; end = 0; sort = Frame }

abbrev pub no_mend : MendedPart
no_mend = Missing

-- what all parts give, by what each does
abbrev pub all_by : (Part → PartValue → List Patch) → List Part → List PartValue → List Patch
all_by by parts mends = flat_map (λ pair. by pair.0 pair.1) (zip parts mends)

module _ {Y : Type 0} (by : Part → PartValue → List Patch) (parts : List Part) (mends : List PartValue) (version : List ℕ) (yielded : List Y) (item : Y)
    (part : Part) (mend : PartValue) (long : length parts ≡ length mends) (lt : length yielded < length parts) where
  abbrev i : ℕ
  i = length yielded

  pairs : zip (take (length (yielded ++ item ∷ [])) parts) (take (length (yielded ++ item ∷ [])) mends)
      ≡ zip (take (length yielded) parts) (take (length yielded) mends) ++ (get_or parts (length yielded) part, get_or mends (length yielded) mend) ∷ []
  pairs =
      let more : length (yielded ++ item ∷ []) ≡ suc (length yielded) = length-append yielded (item ∷ []) ∙ omega arith in
      ap (λ n. zip (take n parts) (take n mends)) more ∙ zip_take parts mends (length yielded) part mend long lt

  pub part_more : (old new : List ℕ) → old ≡ patched version (all_by by (take i parts) (take i mends))
      → new ≡ patched old (by (get_or parts i part) (get_or mends i mend))
      → new ≡ patched version (all_by by (take (length (yielded ++ item ∷ [])) parts) (take (length (yielded ++ item ∷ [])) mends))
  part_more old new so_far made =
      let before : List Patch = all_by by (take i parts) (take i mends) in
      let here : List Patch = by (get_or parts i part) (get_or mends i mend) in
      let all : all_by by (take (length (yielded ++ item ∷ [])) parts) (take (length (yielded ++ item ∷ [])) mends) ≡ before ++ here =
      ap (flat_map (λ pair. by pair.0 pair.1)) pairs
      ∙ flat_map-append (λ pair. by pair.0 pair.1) (zip (take i parts) (take i mends)) ((get_or parts i part, get_or mends i mend) ∷ [])
      ∙ ap (λ last. before ++ last) (append-nil here) in
      made ∙ ap (λ z. patched z here) so_far
      ∙ sym (ap (patched version) all ∙ fold-append (λ before patch. written before patch.start patch.bytes) version before here)

pub all_taken : (parts : List Part) (mends : List PartValue) (i : ℕ) → length parts ≡ length mends → length parts ≤ i
    → (take i parts ≡ parts) × (take i mends ≡ mends)
all_taken parts mends i long past = (take_all i parts past, take_all i mends (omega arith))

-- ---- a loop over parts, and over what becomes of them

-- The pair that comes next: what becomes of the part fits, and both are those at the place that the loop has come to.
pub record IsNextPair (parts : List Part) (mends : List PartValue) (size i : ℕ) (part : Part) (mend : PartValue) : Type 0 where
  pub more : i < length parts
  pub fits : IsFitting size part mend
  pub part_is : part ≡ get_or parts i no_part
  pub mend_is : mend ≡ get_or mends i missing

module _ (parts : List Part) (items : List MendedPart) (size : ℕ) (fit : AreFitting size parts (map part_value items))
    (yielded : List (Bor Part × Bor MendedPart)) (start now then : Zip (Iter Part) (Iter MendedPart)) (item : Option (Bor Part × Bor MendedPart))
    (first : iter_rest (zip_first start) ≡ parts) (second : iter_rest (zip_second start) ≡ items) (come : Yields (zips fronts fronts) start yielded now) where
  pub next_pair : (part : Bor Part) (mend : Bor MendedPart) → item ≡ Some (part, mend) → zips fronts fronts now item then
      → IsNextPair parts (map part_value items) size (length yielded) part.now (part_value mend.now)
  next_pair part mend is steps =
      let turn = zip_turn parts items yielded start now then item first second come (part, mend) is steps in
      let mend_is : part_value mend.now ≡ get_or (map part_value items) (length yielded) missing =
      ap part_value (turn.3 no_mend) ∙ sym (get_or-map part_value items (length yielded) no_mend) in
      record {
        more = turn.0;
        fits = subst (λ p. IsFitting size p (part_value mend.now)) (sym (turn.2 no_part))
            (subst (IsFitting size (get_or parts (length yielded) no_part)) (sym mend_is)
            (zip_at (IsFitting size) parts (map part_value items) (length yielded) no_part missing fit turn.0));
        part_is = turn.2 no_part;
        mend_is = mend_is;
      }

  long : length parts ≡ length (map part_value items)
  long = sym (AllZip-long (IsFitting size) parts (map part_value items) fit)

  no_pair_left : item ≡ None → zips fronts fronts now item then
      → (take (length yielded) parts ≡ parts) × (take (length yielded) (map part_value items) ≡ map part_value items)
  no_pair_left is steps =
      let end : length yielded ≡ min (length parts) (length items) = zip_end parts items yielded start now then item first second come is steps in
      let many = long in
      all_taken parts (map part_value items) (length yielded) long (omega (arith, length-map items part_value))

  -- what is made with the pair that comes next
  pub pair_more : (by : Part → PartValue → List Patch) (part : Bor Part) (mend : Bor MendedPart) → item ≡ Some (part, mend) → zips fronts fronts now item then
      → (version old new : List ℕ) → old ≡ patched version (all_by by (take (length yielded) parts) (take (length yielded) (map part_value items)))
      → new ≡ patched old (by part.now (part_value mend.now))
      → new
      ≡ patched version
      (all_by by (take (length (yielded ++ (part, mend) ∷ [])) parts) (take (length (yielded ++ (part, mend) ∷ [])) (map part_value items)))
  pair_more by part mend is steps version old new so_far made =
      let next = next_pair part mend is steps in
      part_more by parts (map part_value items) version yielded (part, mend) no_part missing long next.more old new so_far
      (made ∙ ap (λ p. patched old (by p (part_value mend.now))) next.part_is
      ∙ ap (λ m. patched old (by (get_or parts (length yielded) no_part) m)) next.mend_is)

  -- what is so of those so far is so of all where none is left
  pub of_all : (P : List Part → List PartValue → Type 0) → item ≡ None → zips fronts fronts now item then
      → P (take (length yielded) parts) (take (length yielded) (map part_value items)) → P parts (map part_value items)
  of_all P is steps so_far =
      let all = no_pair_left is steps in
      subst (λ ms. P parts ms) all.1 (subst (λ ps. P ps (take (length yielded) (map part_value items))) all.0 so_far)
