-- Elements that begin bytes, and the children of a content.
use Rattle.std.proofs.Common.{◌≡◌, ℕ, ◌+◌, ◌-◌, ◌≤◌, List, [], ◌∷◌, ◌++◌, length, take, drop, refl, sym, ap, ◌∙◌, subst, arith}
use Rattle.std.specs.Prelude.{Some, Contains}
use Rattle.std.specs.List.{AllByRecursion, concat}
use Rattle.std.proofs.lemmas.List.{length-take-le, length-take, length-append, take-append-drop, take_at, append_assoc, append_cancel_left, append-nil, length-drop, take_rest}
use Rattle.std.proofs.Math.Seq.{take-add}
use Rattle.ffv1_bits.specs.Parity.{AreBytes}
use Rattle.ffv1_bits.proofs.Bytes.{AreBytes-rest}
use Rattle.ebml.specs.Head.{HasHead}
use Rattle.ebml.specs.Children.{IsElement, IsChild, AreChildren}
use Rattle.ebml.specs.declared.head.Head.{Head}
use Rattle.ebml.proofs.Numbers.{some_octets}
use Rattle.ebml.proofs.Heads.{parts_of, one_head, head_longer, head_shorter, after}

pub head_of_front : (xs : List ℕ) (n : ℕ) (head : Head) → HasHead (take n xs) head → HasHead xs head
head_of_front xs n head has = subst (λ z. HasHead z head) (take-append-drop n xs) (head_longer (take n xs) (drop n xs) head has)

pub front_head : (xs : List ℕ) (n : ℕ) (head : Head) → head.length ≤ n → HasHead xs head → HasHead (take n xs) head
front_head xs n head within has =
    let room = has.room in
    head_shorter (take n xs) (drop n xs) head (omega (arith, room, within, length-take n xs)) (subst (λ z. HasHead z head) (sym (take-append-drop n xs)) has)

-- a head has two bytes at least
pub long_head : (xs : List ℕ) (head : Head) → HasHead xs head → 2 ≤ head.length
long_head xs head has =
    let p = parts_of xs head has in
    let one = some_octets p.id.length xs p.id_is.is in
    let other = some_octets p.size.length (drop p.id.length xs) p.size_is.is in
    omega (arith, one.0, other.0, p.length_same)

same_some : (a b : ℕ) → Some a ≡ Some b → a ≡ b
same_some a b e = cc

-- where an element begins bytes, its head and how many bytes it has are one
pub one_element : (xs : List ℕ) (a b : Head) (n m : ℕ) → AreBytes xs → n ≤ length xs → m ≤ length xs → IsElement a (take n xs) → IsElement b (take m xs)
    → (a ≡ b) × (n ≡ m)
one_element xs a b n m bytes room_n room_m is_a is_b =
    let same : a ≡ b = one_head xs a b bytes (head_of_front xs n a is_a.has) (head_of_front xs m b is_b.has) in
    let sizes : length (take n xs) - a.length ≡ length (take m xs) - b.length =
    same_some _ _ (sym is_a.whole ∙ ap (λ h. h.size) same ∙ is_b.whole) in
    let lengths : a.length ≡ b.length = ap (λ h. h.length) same in
    let in_a : a.length ≤ length (take n xs) = is_a.has.room in
    let in_b : b.length ≤ length (take m xs) = is_b.has.room in
    (same, omega (arith, sizes, lengths, in_a, in_b, length-take-le n xs room_n, length-take-le m xs room_m))

-- ---- children

pub front_is : (a b xs : List ℕ) → xs ≡ a ++ b → take (length a) xs ≡ a
front_is a b xs same = ap (take (length a)) same ∙ take_at a b (length a) refl

pub within_is : (a b xs : List ℕ) → xs ≡ a ++ b → length a ≤ length xs
within_is a b xs same = omega (arith, ap length same, length-append a b)

pub one_child : (ids xs a b xs_a xs_b : List ℕ) → AreBytes xs → xs ≡ a ++ xs_a → xs ≡ b ++ xs_b → IsChild ids a → IsChild ids b → (a ≡ b) × (xs_a ≡ xs_b)
one_child ids xs a b xs_a xs_b bytes at_a at_b is_a is_b =
    let there_a : IsElement is_a.head (take (length a) xs) = subst (IsElement is_a.head) (sym (front_is a xs_a xs at_a)) is_a.element in
    let there_b : IsElement is_b.head (take (length b) xs) = subst (IsElement is_b.head) (sym (front_is b xs_b xs at_b)) is_b.element in
    let long = (one_element xs is_a.head is_b.head (length a) (length b) bytes (within_is a xs_a xs at_a) (within_is b xs_b xs at_b) there_a there_b).1 in
    let same : a ≡ b = sym (front_is a xs_a xs at_a) ∙ ap (λ n. take n xs) long ∙ front_is b xs_b xs at_b in
    (same, append_cancel_left b xs_a xs_b (ap (λ z. z ++ xs_a) (sym same) ∙ sym at_a ∙ at_b))

pub children_are_one : (ids content : List ℕ) (children others : List (List ℕ)) (rest other_rest : List ℕ) → AreBytes content → AreChildren ids content children rest
    → AreChildren ids content others other_rest → (children ≡ others) × (rest ≡ other_rest)
children_are_one ids content [] [] rest other_rest bytes is others_are = (refl, sym is.joined ∙ others_are.joined)
children_are_one ids content [] (b ∷ xs_b) rest other_rest bytes is others_are =
    let at_b : rest ≡ b ++ (concat xs_b ++ other_rest) = sym is.joined ∙ others_are.joined ∙ append_assoc b (concat xs_b) other_rest in
    absurd (is.last (length b) (subst (IsChild ids) (sym (front_is b (concat xs_b ++ other_rest) rest at_b)) others_are.each.0))
children_are_one ids content (a ∷ xs_a) [] rest other_rest bytes is others_are =
    let at_a : other_rest ≡ a ++ (concat xs_a ++ rest) = sym others_are.joined ∙ is.joined ∙ append_assoc a (concat xs_a) rest in
    absurd (others_are.last (length a) (subst (IsChild ids) (sym (front_is a (concat xs_a ++ rest) other_rest at_a)) is.each.0))
children_are_one ids content (a ∷ xs_a) (b ∷ xs_b) rest other_rest bytes is others_are =
    let at_a : content ≡ a ++ (concat xs_a ++ rest) = is.joined ∙ append_assoc a (concat xs_a) rest in
    let at_b : content ≡ b ++ (concat xs_b ++ other_rest) = others_are.joined ∙ append_assoc b (concat xs_b) other_rest in
    let first = one_child ids content a b (concat xs_a ++ rest) (concat xs_b ++ other_rest) bytes at_a at_b is.each.0 others_are.each.0 in
    let after : AreBytes (concat xs_a ++ rest) = AreBytes-rest a (concat xs_a ++ rest) (subst AreBytes at_a bytes) in
    let more = children_are_one ids (concat xs_a ++ rest) xs_a xs_b rest other_rest after record { joined = refl; each = is.each.1; last = is.last }
    record { joined = first.1; each = others_are.each.1; last = others_are.last } in
    (ap (λ z. z ∷ xs_a) first.0 ∙ ap (λ z. b ∷ z) more.0, more.1)

-- an element of which no list has the ID is no child
pub not_known : (ids xs : List ℕ) (head : Head) (m n : ℕ) → AreBytes xs → IsElement head (take m xs) → (Contains ids head.id → ⊥) → IsChild ids (take n xs) → ⊥
not_known ids xs head m n bytes is unknown child =
    let same : child.head ≡ head = one_head xs child.head head bytes (head_of_front xs n child.head child.element.has) (head_of_front xs m head is.has) in
    unknown (subst (λ h. Contains ids h.id) same child.known)

-- ---- the children so far

pub record SoFar (ids content : List ℕ) (place : ℕ) : Type 0 where
  pub within : place ≤ length content
  pub children : List (List ℕ)
  pub joined : take place content ≡ concat children
  pub each : AllByRecursion (IsChild ids) children

pub concat_snoc : (kids : List (List ℕ)) (kid : List ℕ) → concat (kids ++ kid ∷ []) ≡ concat kids ++ kid
concat_snoc [] kid = append-nil kid
concat_snoc (k ∷ ks) kid = ap (λ z. k ++ z) (concat_snoc ks kid) ∙ sym (append_assoc k (concat ks) kid)

pub each_snoc : (ids : List ℕ) (kids : List (List ℕ)) (kid : List ℕ) → AllByRecursion (IsChild ids) kids → IsChild ids kid → AllByRecursion (IsChild ids) (kids ++ kid ∷ [])
each_snoc ids [] kid each is = (is, tt)
each_snoc ids (k ∷ ks) kid each is = (each.0, each_snoc ids ks kid each.1 is)

pub one_more : (ids content : List ℕ) (place n : ℕ) → SoFar ids content place → n ≤ length (drop place content) → IsChild ids (take n (drop place content)) → SoFar ids content (place + n)
one_more ids content place n so_far room is =
    let within = so_far.within in
    record {
      within = omega (arith, within, room, length-drop place content);
      children = so_far.children ++ take n (drop place content) ∷ [];
      joined = take-add place n content ∙ ap (λ z. z ++ take n (drop place content)) so_far.joined ∙ sym (concat_snoc so_far.children (take n (drop place content)));
      each = each_snoc ids so_far.children (take n (drop place content)) so_far.each is;
    }

pub one_more_after : (ids content : List ℕ) (place n : ℕ) (head : Head) → SoFar ids content place → n ≤ length (after content place)
    → IsElement head (take n (after content place)) → Contains ids head.id → SoFar ids content (place + n)
one_more_after ids content place n head so_far room is known =
    let same : after content place ≡ drop place content = take_rest content place in
    one_more ids content place n so_far (subst (λ z. n ≤ length z) same room)
    (subst (λ z. IsChild ids (take n z)) same record { head = head; element = is; known = known })
