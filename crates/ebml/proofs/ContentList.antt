-- Elements that follow each other, and the contents of those with one ID.
use Rattle.std.proofs.Common.{◌≡◌, ℕ, ◌+◌, ◌-◌, ◌≤◌, Bool, true, false, cond, eqb, List, [], ◌∷◌, ◌++◌, length, map, take, drop, refl, sym, ap, ◌∙◌, subst, arith}
use Rattle.std.specs.Prelude.{filter, Option, Some, None, option_map}
use Rattle.std.specs.List.{flat_map, fold}
use Rattle.std.proofs.lemmas.Bool.{eq-eqb, ne_eqb}
use Rattle.std.proofs.lemmas.List.{length-take-le, length-drop, take-append-drop, append_assoc, take_rest, append_cancel_left}
use Rattle.ffv1_bits.specs.Parity.{AreBytes}
use Rattle.ffv1_bits.proofs.Bytes.{AreBytes-rest}
use Rattle.ebml.specs.Children.{IsElement}
use Rattle.ebml.specs.Contents.{ElementValue, AreElements, contents_with, AreContents, OfLast, PlacedBytes, placed_with, AreContentsAt, OfLastPlaced, place_in, ContentsAreOne}
use Rattle.ebml.specs.declared.head.Head.{Head}
use Rattle.ebml.proofs.Heads.{after}
use Rattle.ebml.proofs.Elements.{one_element, front_is, within_is}

-- the bytes of elements that follow each other
abbrev pub bytes_in : List ElementValue → List ℕ
bytes_in elements = flat_map (λ element. element.bytes) elements

-- ---- an element more at the front

more_elements : (xs : List ℕ) (n : ℕ) (head : Head) → IsElement head (take n xs) → (elements : List ElementValue) → AreElements (drop n xs) elements
    → AreElements xs (record { head = head; bytes = take n xs } ∷ elements)
more_elements xs n head is elements are = record {
  rest = are.rest;
  joined = sym (take-append-drop n xs) ∙ ap (λ z. take n xs ++ z) are.joined ∙ sym (append_assoc (take n xs) (bytes_in elements) are.rest);
  each = (is, are.each);
  last = are.last;
}

pub other_before : (id : ℕ) (xs : List ℕ) (n : ℕ) (head : Head) → IsElement head (take n xs) → (head.id ≡ id → ⊥) → (contents : List (List ℕ))
    → AreContents id (drop n xs) contents → AreContents id xs contents
other_before id xs n head is differ contents are =
    let found : ElementValue = record { head = head; bytes = take n xs } in
    let same : contents_with id (found ∷ are.0) ≡ contents_with id are.0 =
    ap (λ test. map (λ (element : ElementValue). drop element.head.length element.bytes) (cond test (found ∷ filter (λ element. eqb element.head.id id) are.0) (filter (λ element. eqb element.head.id id) are.0)))
    (ne_eqb head.id id differ) in
    (found ∷ are.0, more_elements xs n head is are.0 are.1, are.2 ∙ sym same)

pub one_before : (id : ℕ) (xs : List ℕ) (n : ℕ) (head : Head) → IsElement head (take n xs) → head.id ≡ id → (contents : List (List ℕ))
    → AreContents id (drop n xs) contents → AreContents id xs (drop head.length (take n xs) ∷ contents)
one_before id xs n head is same contents are =
    let found : ElementValue = record { head = head; bytes = take n xs } in
    let with_it : contents_with id (found ∷ are.0) ≡ drop head.length (take n xs) ∷ contents_with id are.0 =
    ap (λ test. map (λ (element : ElementValue). drop element.head.length element.bytes) (cond test (found ∷ filter (λ element. eqb element.head.id id) are.0) (filter (λ element. eqb element.head.id id) are.0)))
    (eq-eqb head.id id same) in
    (found ∷ are.0, more_elements xs n head is are.0 are.1, ap (λ z. drop head.length (take n xs) ∷ z) are.2 ∙ sym with_it)

pub none_begins : (id : ℕ) (xs : List ℕ) → ((n : ℕ) (head : Head) → IsElement head (take n xs) → ⊥) → AreContents id xs []
none_begins id xs none = ([], record { rest = xs; joined = refl; each = tt; last = none }, refl)

-- ---- the same with places

abbrev placed_by : (id place : ℕ) → ElementValue → List ElementValue → Bool → List PlacedBytes
placed_by id place e es same =
    cond same (record { place = place + e.head.length; bytes = drop e.head.length e.bytes } ∷ placed_with id (place + length e.bytes) es)
    (placed_with id (place + length e.bytes) es)

other_placed : (id from : ℕ) (xs : List ℕ) (n : ℕ) (head : Head) → n ≤ length xs → IsElement head (take n xs) → (head.id ≡ id → ⊥) → (placed : List PlacedBytes)
    → AreContentsAt id (from + n) (drop n xs) placed → AreContentsAt id from xs placed
other_placed id from xs n head room is differ placed are =
    let found : ElementValue = record { head = head; bytes = take n xs } in
    let long : length (take n xs) ≡ n = length-take-le n xs room in (
      found ∷ are.0,
      more_elements xs n head is are.0 are.1,
      are.2 ∙ ap (λ m. placed_with id (from + m) are.0) (sym long) ∙ sym (ap (placed_by id from found are.0) (ne_eqb head.id id differ)),
    )

one_placed : (id from : ℕ) (xs : List ℕ) (n : ℕ) (head : Head) → n ≤ length xs → IsElement head (take n xs) → head.id ≡ id → (placed : List PlacedBytes)
    → AreContentsAt id (from + n) (drop n xs) placed → AreContentsAt id from xs (record { place = from + head.length; bytes = drop head.length (take n xs) } ∷ placed)
one_placed id from xs n head room is same placed are =
    let found : ElementValue = record { head = head; bytes = take n xs } in
    let long : length (take n xs) ≡ n = length-take-le n xs room in
    let first : PlacedBytes = record { place = from + head.length; bytes = drop head.length (take n xs) } in (
      found ∷ are.0,
      more_elements xs n head is are.0 are.1,
      ap (λ z. first ∷ z) (are.2 ∙ ap (λ m. placed_with id (from + m) are.0) (sym long)) ∙ sym (ap (placed_by id from found are.0) (eq-eqb head.id id same)),
    )

none_with : (id from : ℕ) (elements : List ElementValue) → [] ≡ contents_with id elements → [] ≡ placed_with id from elements
none_with id from [] none = refl
none_with id from (e ∷ es) none = go (λ rest. none_with id (from + length e.bytes) es rest) (eqb e.head.id id) refl
  where
    go : ([] ≡ contents_with id es → [] ≡ placed_with id (from + length e.bytes) es) → (b : Bool) → eqb e.head.id id ≡ b → [] ≡ placed_with id from (e ∷ es)
    go later true is =
        let some = none ∙ ap (λ b. map (λ (element : ElementValue). drop element.head.length element.bytes) (cond b (e ∷ filter (λ element. eqb element.head.id id) es) (filter (λ element. eqb element.head.id id) es))) is in cc
    go later false is =
        let rest : [] ≡ contents_with id es =
        none ∙ ap (λ b. map (λ (element : ElementValue). drop element.head.length element.bytes) (cond b (e ∷ filter (λ element. eqb element.head.id id) es) (filter (λ element. eqb element.head.id id) es))) is in
        later rest ∙ sym (ap (placed_by id from e es) is)

pub none_placed : (id from : ℕ) (bytes : List ℕ) → AreContents id bytes [] → AreContentsAt id from bytes []
none_placed id from bytes are = (are.0, are.1, none_with id from are.0 are.2)

-- ---- the loops

-- what is left after an element begins so much later
later_place : (from all left rest n : ℕ) → left ≤ all → n ≤ left → rest ≡ left - n → from + (all - rest) ≡ from + (all - left) + n
later_place from all left rest n within room less = omega (arith, within, room, less)

pub other_placed_passed : (id from : ℕ) (bytes left rest : List ℕ) (n : ℕ) (head : Head) → length left ≤ length bytes → n ≤ length left → rest ≡ drop n left
    → IsElement head (take n left) → (head.id ≡ id → ⊥) → (placed : List PlacedBytes) → AreContentsAt id (from + (length bytes - length rest)) rest placed
    → AreContentsAt id (from + (length bytes - length left)) left placed
other_placed_passed id from bytes left rest n head within room at is differ placed are =
    let place = later_place from (length bytes) (length left) (length rest) n within room (ap length at ∙ length-drop n left) in
    other_placed id (from + (length bytes - length left)) left n head room is differ placed
    (subst (λ p. AreContentsAt id p (drop n left) placed) place (subst (λ z. AreContentsAt id (from + (length bytes - length rest)) z placed) at are))

pub one_placed_found : (id from : ℕ) (bytes left front rest : List ℕ) (n : ℕ) (head : Head) → length left ≤ length bytes → n ≤ length left → front ≡ take n left
    → rest ≡ drop n left → IsElement head (take n left) → head.id ≡ id → (placed : List PlacedBytes) → AreContentsAt id (from + (length bytes - length rest)) rest placed
    → AreContentsAt id (from + (length bytes - length left)) left (record { place = from + (length bytes - length left + head.length); bytes = after front head.length } ∷ placed)
one_placed_found id from bytes left front rest n head within room is_front at is same placed are =
    let place = later_place from (length bytes) (length left) (length rest) n within room (ap length at ∙ length-drop n left) in
    let content : after front head.length ≡ drop head.length (take n left) = take_rest front head.length ∙ ap (drop head.length) is_front in
    let of : ℕ → List ℕ → PlacedBytes = λ p b. record { place = p; bytes = b } in
    let begins : from + (length bytes - length left) + head.length ≡ from + (length bytes - length left + head.length) = omega arith in
    subst (λ p. AreContentsAt id (from + (length bytes - length left)) left (of p (after front head.length) ∷ placed)) begins
    (subst (λ z. AreContentsAt id (from + (length bytes - length left)) left (of (from + (length bytes - length left) + head.length) z ∷ placed)) (sym content)
    (one_placed id (from + (length bytes - length left)) left n head room is same placed
    (subst (λ p. AreContentsAt id p (drop n left) placed) place (subst (λ z. AreContentsAt id (from + (length bytes - length rest)) z placed) at are))))

-- the last place among those so far and those of what is left
abbrev LastPlaceFrom : (id from : ℕ) → List ℕ → Option ℕ → List PlacedBytes → Type 0
LastPlaceFrom id from bytes last placed =
    OfLastPlaced id from bytes (λ found. place_in found ≡ fold (λ _ x. Some x) (option_map (λ place. from + place) last) (map (λ it. it.place) placed))

abbrev pub LastPlaces : (id : ℕ) (bytes left : List ℕ) (last : Option ℕ) → Type 0
LastPlaces id bytes left last =
    (from : ℕ) (placed : List PlacedBytes) → AreContentsAt id (from + (length bytes - length left)) left placed → LastPlaceFrom id from bytes last placed

-- what is said of an element and of what is left after those so far
pub other_passed : (id : ℕ) (left rest : List ℕ) (n : ℕ) (head : Head) → rest ≡ drop n left → IsElement head (take n left) → (head.id ≡ id → ⊥)
    → (contents : List (List ℕ)) → AreContents id rest contents → AreContents id left contents
other_passed id left rest n head at is differ contents are =
    other_before id left n head is differ contents (subst (λ z. AreContents id z contents) at are)

pub one_found : (id : ℕ) (left front rest : List ℕ) (n : ℕ) (head : Head) → front ≡ take n left → rest ≡ drop n left → IsElement head (take n left) → head.id ≡ id
    → (contents : List (List ℕ)) → AreContents id rest contents → AreContents id left (after front head.length ∷ contents)
one_found id left front rest n head is_front at is same contents are =
    let content : after front head.length ≡ drop head.length (take n left) = take_rest front head.length ∙ ap (drop head.length) is_front in
    subst (λ z. AreContents id left (z ∷ contents)) (sym content)
    (one_before id left n head is same contents (subst (λ z. AreContents id z contents) at are))

pub last_more : (id : ℕ) (bytes left rest content : List ℕ) (last : Option (List ℕ))
    → ((contents : List (List ℕ)) → AreContents id rest contents → AreContents id left (content ∷ contents))
    → ((contents : List (List ℕ)) → AreContents id left contents → OfLast id bytes (λ found. found ≡ fold (λ _ x. Some x) last contents))
    → (contents : List (List ℕ)) → AreContents id rest contents → OfLast id bytes (λ found. found ≡ fold (λ _ x. Some x) (Some content) contents)
last_more id bytes left rest content last more so_far contents are = so_far (content ∷ contents) (more contents are)

pub last_found : (id : ℕ) (bytes left : List ℕ) (last : Option (List ℕ))
    → ((contents : List (List ℕ)) → AreContents id left contents → OfLast id bytes (λ found. found ≡ fold (λ _ x. Some x) last contents))
    → AreContents id left [] → OfLast id bytes (λ found. last ≡ found)
last_found id bytes left last so_far none = let all = so_far [] none in (all.0, all.1, sym all.2)

place_of_last : (found : Option PlacedBytes) (placed : List PlacedBytes) → place_in (fold (λ _ x. Some x) found placed) ≡ fold (λ _ x. Some x) (place_in found) (map (λ it. it.place) placed)
place_of_last found [] = refl
place_of_last found (p ∷ ps) = place_of_last (Some p) ps

pub first_last_place : (id : ℕ) (bytes : List ℕ) → LastPlaces id bytes bytes None
first_last_place id bytes = λ from placed are.
    let none : from + (length bytes - length bytes) ≡ from = omega arith in
    (placed, subst (λ p. AreContentsAt id p bytes placed) none are, place_of_last None placed)

pub last_place_more : (id : ℕ) (bytes left rest content : List ℕ) (at : ℕ) (last : Option ℕ) → length left ≤ length bytes → length rest ≤ length left
    → ((from : ℕ) (placed : List PlacedBytes) → AreContentsAt id (from + (length left - length rest)) rest placed
    → AreContentsAt id from left (record { place = from + at; bytes = content } ∷ placed))
    → LastPlaces id bytes left last → LastPlaces id bytes rest (Some (length bytes - length left + at))
last_place_more id bytes left rest content at last within less more so_far = λ from placed are.
    let place : from + (length bytes - length rest) ≡ from + (length bytes - length left) + (length left - length rest) = omega (arith, within, less) in
    let all = so_far from (record { place = from + (length bytes - length left) + at; bytes = content } ∷ placed)
    (more (from + (length bytes - length left)) placed (subst (λ p. AreContentsAt id p rest placed) place are)) in
    let begins : from + (length bytes - length left) + at ≡ from + (length bytes - length left + at) = omega arith in
    (all.0, all.1, all.2 ∙ ap (λ p. fold (λ _ x. Some x) (Some p) (map (λ (it : PlacedBytes). it.place) placed)) begins)

pub last_place_found : (id : ℕ) (bytes left : List ℕ) (last : Option ℕ) → LastPlaces id bytes left last → AreContents id left []
    → (from : ℕ) → OfLastPlaced id from bytes (λ found. option_map (λ place. from + place) last ≡ place_in found)
last_place_found id bytes left last so_far none = λ from.
    let all = so_far from [] (none_placed id (from + (length bytes - length left)) left none) in
    (all.0, all.1, sym all.2)

-- ---- one list

pub elements_are_one : (xs : List ℕ) (a b : List ElementValue) → AreBytes xs → AreElements xs a → AreElements xs b → a ≡ b
elements_are_one xs [] [] bytes is_a is_b = refl
elements_are_one xs [] (b ∷ bs) bytes is_a is_b =
    let at_b : is_a.rest ≡ b.bytes ++ (bytes_in bs ++ is_b.rest) = sym is_a.joined ∙ is_b.joined ∙ append_assoc b.bytes (bytes_in bs) is_b.rest in
    absurd (is_a.last (length b.bytes) b.head (subst (IsElement b.head) (sym (front_is b.bytes (bytes_in bs ++ is_b.rest) is_a.rest at_b)) is_b.each.0))
elements_are_one xs (a ∷ as_) [] bytes is_a is_b =
    let at_a : is_b.rest ≡ a.bytes ++ (bytes_in as_ ++ is_a.rest) = sym is_b.joined ∙ is_a.joined ∙ append_assoc a.bytes (bytes_in as_) is_a.rest in
    absurd (is_b.last (length a.bytes) a.head (subst (IsElement a.head) (sym (front_is a.bytes (bytes_in as_ ++ is_a.rest) is_b.rest at_a)) is_a.each.0))
elements_are_one xs (a ∷ as_) (b ∷ bs) bytes is_a is_b =
    let more_a : List ℕ = bytes_in as_ ++ is_a.rest in
    let more_b : List ℕ = bytes_in bs ++ is_b.rest in
    let at_a : xs ≡ a.bytes ++ (bytes_in as_ ++ is_a.rest) = is_a.joined ∙ append_assoc a.bytes (bytes_in as_) is_a.rest in
    let at_b : xs ≡ b.bytes ++ (bytes_in bs ++ is_b.rest) = is_b.joined ∙ append_assoc b.bytes (bytes_in bs) is_b.rest in
    let there_a : IsElement a.head (take (length a.bytes) xs) = subst (IsElement a.head) (sym (front_is a.bytes more_a xs at_a)) is_a.each.0 in
    let there_b : IsElement b.head (take (length b.bytes) xs) = subst (IsElement b.head) (sym (front_is b.bytes more_b xs at_b)) is_b.each.0 in
    let one = one_element xs a.head b.head (length a.bytes) (length b.bytes) bytes (within_is a.bytes more_a xs at_a) (within_is b.bytes more_b xs at_b) there_a there_b in
    let same : a.bytes ≡ b.bytes = sym (front_is a.bytes more_a xs at_a) ∙ ap (λ n. take n xs) one.1 ∙ front_is b.bytes more_b xs at_b in
    let rests : bytes_in as_ ++ is_a.rest ≡ bytes_in bs ++ is_b.rest = append_cancel_left b.bytes more_a more_b (ap (λ z. z ++ more_a) (sym same) ∙ sym at_a ∙ at_b) in
    let after : AreBytes (bytes_in bs ++ is_b.rest) = AreBytes-rest b.bytes more_b (subst AreBytes at_b bytes) in
    let front : a ≡ b = same_element a b one.0 same in
    let more = elements_are_one (bytes_in bs ++ is_b.rest) as_ bs after record { rest = is_a.rest; joined = sym rests; each = is_a.each.1; last = is_a.last }
    record { rest = is_b.rest; joined = refl; each = is_b.each.1; last = is_b.last } in
    ap (λ z. z ∷ as_) front ∙ ap (λ z. b ∷ z) more
  where
    same_element : (a b : ElementValue) → a.head ≡ b.head → a.bytes ≡ b.bytes → a ≡ b
    same_element a b h s =
        let one : ◌≡◌ {A = ElementValue} a record { head = b.head; bytes = a.bytes } = ap (λ z. let v : ElementValue = record { head = z; bytes = a.bytes } in v) h in
        let other : ◌≡◌ {A = ElementValue} record { head = b.head; bytes = a.bytes } b = ap (λ z. let v : ElementValue = record { head = b.head; bytes = z } in v) s in
        one ∙ other

pub contents_are_one : ContentsAreOne
contents_are_one id bytes contents others are_bytes is others_are =
    is.2 ∙ ap (contents_with id) (elements_are_one bytes is.0 others_are.0 are_bytes is.1 others_are.1) ∙ sym others_are.2
