-- The lines of a stretch, one part after the other.
use Rattle.std.proofs.Common.{◌≡◌, ℕ, zero, suc, ◌+◌, ◌<◌, ◌≤◌, Bool, true, false, ◌&&◌, List, [], ◌∷◌, ◌++◌, Option, None, Bor, length, get_or, take, map, refl, sym, ap, ◌∙◌, arith, min}
use Rattle.std.specs.Prelude.{slice_range}
use Rattle.std.specs.List.{flat_map, list_all, zip}
use Rattle.std.proofs.Math.ListN.{get_or-map}
use Rattle.std.proofs.lemmas.Grind.{flat_map-append}
use Rattle.std.proofs.lemmas.List.{take_more, append_assoc, append-nil, take_all, length-map, length-take-le}
use Rattle.std.proofs.lemmas.Slice.Zip.{length-zip, get_or-zip}
use Rattle.std.proofs.lemmas.Bool.{and_parts}
use Rattle.std.proofs.Math.Bool.{and-false}
use Rattle.ffv1_mend.specs.Improved.{PartValue, part_value}
use Rattle.ffv1_mend.specs.declared.part.MendedPart.{MendedPart}
use Rattle.ffv1_mend.specs.declared.part.Part.{Part}
use Rattle.ffv1_stretches.specs.Inner.CellSteps.{cell_now}
use Rattle.ffv1_stretches.specs.Lines.{cells_between, frame_lines, part_lines, parts_lines}
use Rattle.ffv1_stretches.proofs.CellLemmas.{cell_at}

-- ---- tests of all

pub list_all_more : {X : Type 0} (test : X → Bool) (xs : List X) (i : ℕ) (d : X) → i < length xs → list_all test (take i xs) ≡ true
    → test (get_or xs i d) ≡ true → list_all test (take (i + 1) xs) ≡ true
list_all_more test xs i d lt so_far here =
    let next : i + 1 ≡ suc i = omega arith in
    ap (λ n. list_all test (take n xs)) next ∙ more test xs i d lt so_far here
  where
    more : {X : Type 0} (test : X → Bool) (xs : List X) (i : ℕ) (d : X) → i < length xs → list_all test (take i xs) ≡ true
        → test (get_or xs i d) ≡ true → list_all test (take (suc i) xs) ≡ true
    more test [] i d lt so_far here = refl
    more test (x ∷ xs) zero d lt so_far here = ap (λ b. b && true) here
    more test (x ∷ xs) (suc i) d lt so_far here =
        let both = and_parts (test x) (list_all test (take i xs)) so_far in
        ap (λ b. b && list_all test (take (suc i) xs)) both.0 ∙ more test xs i d (omega arith) both.1 here

pub list_all_not : {X : Type 0} (test : X → Bool) (xs : List X) (i : ℕ) (d : X) → i < length xs → test (get_or xs i d) ≡ false → list_all test xs ≡ false
list_all_not test [] i d lt here = absurd (omega arith)
list_all_not test (x ∷ xs) zero d lt here = ap (λ b. b && list_all test xs) here
list_all_not test (x ∷ xs) (suc i) d lt here = ap (λ b. test x && b) (list_all_not test xs i d (omega arith) here) ∙ and-false (test x)

-- ---- what is made of the cells, one by one

pub cells_more : {X : Type 0} (f : Option (List ℕ) → X) (cells : List (Option (Bor (List ℕ)))) (i : ℕ) → i < length cells
    → take i (map f (map cell_now cells)) ++ f (cell_now (get_or cells i None)) ∷ [] ≡ take (i + 1) (map f (map cell_now cells))
cells_more f cells i lt =
    let few : i < length (map cell_now cells) = omega (arith, length-map cells cell_now) in
    let fewer : i < length (map f (map cell_now cells)) = omega (arith, few, length-map (map cell_now cells) f) in
    ap (λ x. take i (map f (map cell_now cells)) ++ x ∷ []) (ap f (sym (cell_at cells i None lt)) ∙ sym (mapped f (map cell_now cells) i None few))
    ∙ sym (take_more (map f (map cell_now cells)) i (f None) fewer)
  where
    mapped : {X : Type 0} (f : Option (List ℕ) → X) (cells : List (Option (List ℕ))) (i : ℕ) (d : Option (List ℕ)) → i < length cells
        → get_or (map f cells) i (f d) ≡ f (get_or cells i d)
    mapped f [] i d lt = refl
    mapped f (c ∷ cells) zero d lt = refl
    mapped f (c ∷ cells) (suc i) d lt = mapped f cells i d (omega arith)

-- ---- the parts of an element, one by one

-- what becomes of a part, as the code has it
pub mend_at : (mends : List MendedPart) (i : ℕ) (mend : MendedPart) → mend ≡ get_or mends i mend → part_value mend ≡ get_or (map part_value mends) i (part_value mend)
mend_at mends i mend is = ap part_value is ∙ sym (get_or-map part_value mends i mend)

-- the lines of the frames so far, and of one more
pub frames_more : (cells : List (Option (List ℕ))) (bytes : List ℕ) (mends : List MendedPart) (i : ℕ) (mend : MendedPart) → i < length mends
    → mend ≡ get_or mends i mend
    → flat_map (frame_lines cells bytes) (take i (map part_value mends)) ++ frame_lines cells bytes (part_value mend)
    ≡ flat_map (frame_lines cells bytes) (take (i + 1) (map part_value mends))
frames_more cells bytes mends i mend lt is =
    let values : List PartValue = map part_value mends in
    let few : i < length (map part_value mends) = omega (arith, length-map mends part_value) in
    ap (λ own. flat_map (frame_lines cells bytes) (take i values) ++ own) (sym (append-nil (frame_lines cells bytes (part_value mend))))
    ∙ sym (flat_map-append (frame_lines cells bytes) (take i values) (part_value mend ∷ []))
    ∙ ap (λ one. flat_map (frame_lines cells bytes) (take i values ++ one ∷ [])) (mend_at mends i mend is)
    ∙ ap (flat_map (frame_lines cells bytes)) (sym (take_more values i (part_value mend) few))

abbrev pub lines_of_part : ℕ → List (Option (List ℕ)) → List ℕ → Part → PartValue → List ℕ
lines_of_part number cells bytes part mend =
    part_lines number (cells_between cells part.start part.end) (slice_range bytes part.start part.end) mend

parts_push : (number : ℕ) (cells : List (Option (List ℕ))) (bytes : List ℕ) (pairs : List (Part × PartValue)) (part : Part) (mend : PartValue)
    → parts_lines number cells bytes (pairs ++ (part, mend) ∷ []) ≡ parts_lines number cells bytes pairs ++ lines_of_part (number + length pairs) cells bytes part mend
parts_push number cells bytes [] part mend =
    append-nil (lines_of_part number cells bytes part mend)
    ∙ ap (λ n. lines_of_part n cells bytes part mend) (let e : number ≡ number + 0 = omega arith in e)
parts_push number cells bytes (pair ∷ pairs) part mend =
    let here : List ℕ = lines_of_part number cells bytes pair.0 pair.1 in
    ap (λ more. lines_of_part number cells bytes pair.0 pair.1 ++ more)
    (parts_push (number + 1) cells bytes pairs part mend
    ∙ ap (λ n. parts_lines (number + 1) cells bytes pairs ++ lines_of_part n cells bytes part mend)
    (let e : number + 1 + length pairs ≡ number + suc (length pairs) = omega arith in e))
    ∙ sym (append_assoc (lines_of_part number cells bytes pair.0 pair.1) (parts_lines (number + 1) cells bytes pairs)
    (lines_of_part (number + suc (length pairs)) cells bytes part mend))

pub parts_more : (cells : List (Option (List ℕ))) (bytes : List ℕ) (parts : List Part) (mends : List PartValue) (i : ℕ) (d : Part) (e : PartValue)
    → i < length parts → i < length mends
    → parts_lines 1 cells bytes (take (i + 1) (zip parts mends))
    ≡ parts_lines 1 cells bytes (take i (zip parts mends)) ++ lines_of_part (i + 1) cells bytes (get_or parts i d) (get_or mends i e)
parts_more cells bytes parts mends i d e lt within =
    let few : i < length (zip parts mends) = omega (arith, length-zip parts mends) in
    let long : length (take i (zip parts mends)) ≡ i = length-take-le i (zip parts mends) (omega arith) in
    ap (parts_lines 1 cells bytes) (take_more (zip parts mends) i (d, e) few
    ∙ ap (λ p. take i (zip parts mends) ++ p ∷ []) (get_or-zip parts mends i (d, e) lt within))
    ∙ parts_push 1 cells bytes (take i (zip parts mends)) (get_or parts i d) (get_or mends i e)
    ∙ ap (λ n. parts_lines 1 cells bytes (take i (zip parts mends)) ++ lines_of_part n cells bytes (get_or parts i d) (get_or mends i e))
    (let s : 1 + length (take i (zip parts mends)) ≡ i + 1 = omega arith in s)

-- where all pairs were taken
pub pairs_taken : (parts : List Part) (mends : List PartValue) (i : ℕ) → min (length parts) (length mends) ≤ i → take i (zip parts mends) ≡ zip parts mends
pairs_taken parts mends i end = take_all i (zip parts mends) (omega (arith, length-zip parts mends))
