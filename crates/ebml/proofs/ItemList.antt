-- Items: that they are one list, and what the code finds of each kind.
use Rattle.std.proofs.Common.{◌≡◌, ℕ, ◌+◌, ◌-◌, ◌*◌, ◌<◌, ◌≤◌, Bool, List, [], ◌∷◌, ◌++◌, length, take, drop, min, get_or, refl, sym, ap, ◌∙◌, subst, arith, inl, inr}
use Rattle.std.specs.Prelude.{◌↔◌, IsTrue, Option, Some, None, Contains}
use Rattle.std.proofs.lemmas.Bool.{cases_lt}
use Rattle.std.proofs.lemmas.List.{length-append, length-drop, take-append-drop, drop_at, drop-append-le, append_cancel_left, append_cancel_right, take_rest, drop-drop, drop-take, append-nil, append_assoc, take_all, drop_all}
use Rattle.std.proofs.Math.Seq.{take-add}
use Rattle.ffv1_bits.specs.Parity.{AreBytes}
use Rattle.ffv1_bits.proofs.Bytes.{AreBytes-drop, AreBytes-rest}
use Rattle.ebml.specs.Vint.{number_of}
use Rattle.ebml.specs.Head.{HasHead}
use Rattle.ebml.specs.Children.{AreChildren}
use Rattle.ebml.specs.Masters.{cluster_ids, segment_id}
use Rattle.ebml.specs.Items.{IsTop, IsHeaded, IsUnknown, IsItem, ItemValue, bytes_of_items, EachIsItem, EachBefore, AreItems, ItemsAreOne, WholeItemsAreLocal, BeginsKnown, long_ids}
use Rattle.ebml.specs.declared.head.Head.{Head}
use Rattle.ebml.specs.declared.items.Kind.{Kind}
use Rattle.ebml.specs.declared.items.Kind.TheVariants.{Segment, Element, Endless, Unknown}
use Rattle.ebml.specs.Inner.Passed.{Passed}
use Rattle.ebml.proofs.Heads.{one_head, head_longer, after}
use Rattle.ebml.proofs.Elements.{front_is, long_head, front_head, children_are_one}

module _ (xs a a_more b b_more : List ℕ) (bytes : AreBytes xs) (at_a : xs ≡ a ++ a_more) (at_b : xs ≡ b ++ b_more) where
  by_length : length a ≡ length b → a ≡ b
  by_length long = sym (front_is a a_more xs at_a) ∙ ap (λ n. take n xs) long ∙ front_is b b_more xs at_b

  heads_same : (h g : Head) → IsHeaded h a → IsHeaded g b → h ≡ g
  heads_same h g is_h is_g =
      one_head xs h g bytes (subst (λ z. HasHead z h) (sym at_a) (head_longer a a_more h is_h.has)) (subst (λ z. HasHead z g) (sym at_b) (head_longer b b_more g is_g.has))

  not_headed : (h : Head) → IsHeaded h a → IsUnknown b b_more → ⊥
  not_headed h is_h unknown = unknown.no_element h is_h.top (subst (λ z. HasHead z h) (sym at_a ∙ at_b) (head_longer a a_more h is_h.has))

  ends_same : (h g : Head) (s t : ℕ) → h ≡ g → h.size ≡ Some s → g.size ≡ Some t → length a ≡ min (h.length + s) (length (a ++ a_more))
      → length b ≡ min (g.length + t) (length (b ++ b_more)) → length a ≡ length b
  ends_same h g s t same is_s is_t end_a end_b =
      let sizes : Some s ≡ Some t = sym is_s ∙ ap (λ z. z.size) same ∙ is_t in
      let size : s ≡ t = cc in
      let lengths : h.length ≡ g.length = ap (λ z. z.length) same in
      let all : length (a ++ a_more) ≡ length (b ++ b_more) = ap length (sym at_a ∙ at_b) in omega (arith, size, lengths, all, end_a, end_b)

  content_is : (h : Head) → h.length ≤ length a → drop h.length xs ≡ drop h.length a ++ a_more
  content_is h room = ap (drop h.length) at_a ∙ drop-append-le h.length a a_more room

  -- the one that is shorter ends where a known ID stands, within the other
  not_shorter : IsUnknown a a_more → IsUnknown b b_more → length a < length b → ⊥
  not_shorter is_a is_b less =
      let all : length (a ++ a_more) ≡ length (b ++ b_more) = ap length (sym at_a ∙ at_b) in
      let there : a_more ≡ drop (length a) (b ++ b_more) = sym (drop_at a a_more (length a) refl) ∙ ap (drop (length a)) (sym at_a ∙ at_b) in
      elim is_a.up_to [
        | inl none ↦ let long = ap length none in absurd (omega (arith, long, less, all, length-append a a_more, length-append b b_more))
        | inr known ↦ is_b.none_within (length a) is_a.some less (subst BeginsKnown there known)
      ]

  clash : (h g : Head) → h ≡ g → h.id ≡ segment_id → (g.id ≡ segment_id → ⊥) → ⊥
  clash h g same is isnt = isnt (sym (ap (λ z. z.id) same) ∙ is)

  unsized : (h g : Head) (s : ℕ) → h ≡ g → h.size ≡ Some s → g.size ≡ None → ⊥
  unsized h g s same is isnt = let e : ◌≡◌ {A = Option ℕ} (Some s) None = sym is ∙ ap (λ z. z.size) same ∙ isnt in absurd cc

  endless_same : (h g : Head) (p q : List (List ℕ)) → h ≡ g → IsHeaded h a → IsHeaded g b
      → AreChildren cluster_ids (drop h.length a ++ a_more) p a_more → AreChildren cluster_ids (drop g.length b ++ b_more) q b_more → a ≡ b
  endless_same h g p q same is_h is_g kids others =
      let room_h = is_h.has.room in
      let room_g : g.length ≤ length b = is_g.has.room in
      let content : List ℕ = drop g.length xs in
      let one : AreChildren cluster_ids (drop g.length xs) p a_more =
      subst (λ z. AreChildren cluster_ids z p a_more) (sym (content_is h room_h) ∙ ap (λ z. drop z.length xs) same) kids in
      let other : AreChildren cluster_ids (drop g.length xs) q b_more =
      subst (λ z. AreChildren cluster_ids z q b_more) (sym (drop-append-le g.length b b_more room_g) ∙ ap (drop g.length) (sym at_b)) others in
      let rests : a_more ≡ b_more = (children_are_one cluster_ids (drop g.length xs) p q a_more b_more (AreBytes-drop g.length xs bytes) one other).1 in
      append_cancel_right a b b_more (ap (λ z. a ++ z) (sym rests) ∙ sym at_a ∙ at_b)

pub one_item : (xs a a_more b b_more : List ℕ) (k l : Kind) → AreBytes xs → xs ≡ a ++ a_more → xs ≡ b ++ b_more → IsItem k a a_more → IsItem l b b_more
    → (k ≡ l) × (a ≡ b)
one_item xs a a_more b b_more (Segment h) (Segment g) bytes at_a at_b is_a is_b =
    let same = heads_same xs a a_more b b_more bytes at_a at_b h g is_a.0 is_b.0 in
    (ap Segment same, by_length xs a a_more b b_more bytes at_a at_b (is_a.2 ∙ ap (λ z. z.length) same ∙ sym is_b.2))
one_item xs a a_more b b_more (Segment h) (Element g) bytes at_a at_b is_a is_b =
    let same = heads_same xs a a_more b b_more bytes at_a at_b h g is_a.0 is_b.0 in absurd (clash xs a a_more b b_more bytes at_a at_b h g same is_a.1 is_b.1)
one_item xs a a_more b b_more (Segment h) (Endless g) bytes at_a at_b is_a is_b =
    let same = heads_same xs a a_more b b_more bytes at_a at_b h g is_a.0 is_b.0 in absurd (clash xs a a_more b b_more bytes at_a at_b h g same is_a.1 is_b.1)
one_item xs a a_more b b_more (Segment h) Unknown bytes at_a at_b is_a is_b = absurd (not_headed xs a a_more b b_more bytes at_a at_b h is_a.0 is_b)
one_item xs a a_more b b_more (Element h) (Segment g) bytes at_a at_b is_a is_b =
    let same = heads_same xs a a_more b b_more bytes at_a at_b h g is_a.0 is_b.0 in
    absurd (clash xs a a_more b b_more bytes at_a at_b g h (sym same) is_b.1 is_a.1)
one_item xs a a_more b b_more (Element h) (Element g) bytes at_a at_b is_a is_b =
    let same = heads_same xs a a_more b b_more bytes at_a at_b h g is_a.0 is_b.0 in (
      ap Element same,
      by_length xs a a_more b b_more bytes at_a at_b
          (ends_same xs a a_more b b_more bytes at_a at_b h g is_a.2.0 is_b.2.0 same is_a.2.1 is_b.2.1 is_a.2.2 is_b.2.2),
    )
one_item xs a a_more b b_more (Element h) (Endless g) bytes at_a at_b is_a is_b =
    let same = heads_same xs a a_more b b_more bytes at_a at_b h g is_a.0 is_b.0 in
    absurd (unsized xs a a_more b b_more bytes at_a at_b h g is_a.2.0 same is_a.2.1 is_b.2)
one_item xs a a_more b b_more (Element h) Unknown bytes at_a at_b is_a is_b = absurd (not_headed xs a a_more b b_more bytes at_a at_b h is_a.0 is_b)
one_item xs a a_more b b_more (Endless h) (Segment g) bytes at_a at_b is_a is_b =
    let same = heads_same xs a a_more b b_more bytes at_a at_b h g is_a.0 is_b.0 in
    absurd (clash xs a a_more b b_more bytes at_a at_b g h (sym same) is_b.1 is_a.1)
one_item xs a a_more b b_more (Endless h) (Element g) bytes at_a at_b is_a is_b =
    let same = heads_same xs a a_more b b_more bytes at_a at_b h g is_a.0 is_b.0 in
    absurd (unsized xs a a_more b b_more bytes at_a at_b g h is_b.2.0 (sym same) is_b.2.1 is_a.2)
one_item xs a a_more b b_more (Endless h) (Endless g) bytes at_a at_b is_a is_b =
    let same = heads_same xs a a_more b b_more bytes at_a at_b h g is_a.0 is_b.0 in
    (ap Endless same, endless_same xs a a_more b b_more bytes at_a at_b h g is_a.3.0 is_b.3.0 same is_a.0 is_b.0 is_a.3.1 is_b.3.1)
one_item xs a a_more b b_more (Endless h) Unknown bytes at_a at_b is_a is_b = absurd (not_headed xs a a_more b b_more bytes at_a at_b h is_a.0 is_b)
one_item xs a a_more b b_more Unknown (Segment g) bytes at_a at_b is_a is_b = absurd (not_headed xs b b_more a a_more bytes at_b at_a g is_b.0 is_a)
one_item xs a a_more b b_more Unknown (Element g) bytes at_a at_b is_a is_b = absurd (not_headed xs b b_more a a_more bytes at_b at_a g is_b.0 is_a)
one_item xs a a_more b b_more Unknown (Endless g) bytes at_a at_b is_a is_b = absurd (not_headed xs b b_more a a_more bytes at_b at_a g is_b.0 is_a)
one_item xs a a_more b b_more Unknown Unknown bytes at_a at_b is_a is_b =
    let long : length a ≡ length b = elim (cases_lt (length a) (length b)) [
      | inl less ↦ absurd (not_shorter xs a a_more b b_more bytes at_a at_b is_a is_b less)
      | inr more ↦ elim (cases_lt (length b) (length a)) [
        | inl less ↦ absurd (not_shorter xs b b_more a a_more bytes at_b at_a is_b is_a less)
        | inr less ↦ omega (arith, more, less)
      ]
    ] in (refl, by_length xs a a_more b b_more bytes at_a at_b long)

-- ---- the list

some_headed : (h : Head) (item : List ℕ) → IsHeaded h item → 0 < length item
some_headed h item is = let long = long_head item h is.has in let room = is.has.room in omega (arith, long, room)

pub some_bytes : (k : Kind) (item more : List ℕ) → IsItem k item more → 0 < length item
some_bytes (Segment h) item more is = some_headed h item is.0
some_bytes (Element h) item more is = some_headed h item is.0
some_bytes (Endless h) item more is = some_headed h item is.0
some_bytes Unknown item more is = is.some

pub same_item : (a b : ItemValue) → a.kind ≡ b.kind → a.bytes ≡ b.bytes → a ≡ b
same_item a b k s =
    let one : ◌≡◌ {A = ItemValue} a record { kind = b.kind; bytes = a.bytes } = ap (λ z. let v : ItemValue = record { kind = z; bytes = a.bytes } in v) k in
    let other : ◌≡◌ {A = ItemValue} record { kind = b.kind; bytes = a.bytes } b = ap (λ z. let v : ItemValue = record { kind = b.kind; bytes = z } in v) s in
    one ∙ other

pub items_are_one : ItemsAreOne
items_are_one file [] [] bytes is others = refl
items_are_one file [] (b ∷ bs) bytes is others =
    let some = some_bytes b.kind b.bytes (bytes_of_items bs) others.each.0 in
    let long = ap length (sym is.joined ∙ others.joined) in absurd (omega (arith, some, long, length-append b.bytes (bytes_of_items bs)))
items_are_one file (a ∷ xs) [] bytes is others =
    let some = some_bytes a.kind a.bytes (bytes_of_items xs) is.each.0 in
    let long = ap length (sym others.joined ∙ is.joined) in absurd (omega (arith, some, long, length-append a.bytes (bytes_of_items xs)))
items_are_one file (a ∷ xs) (b ∷ bs) bytes is others =
    let first = one_item file a.bytes (bytes_of_items xs) b.bytes (bytes_of_items bs) a.kind b.kind bytes is.joined others.joined is.each.0 others.each.0 in
    let same : a ≡ b = same_item a b first.0 first.1 in
    let rests : bytes_of_items xs ≡ bytes_of_items bs = append_cancel_left b.bytes (bytes_of_items xs) (bytes_of_items bs) (ap (λ z. z ++ bytes_of_items xs) (sym first.1) ∙ sym is.joined ∙ others.joined) in
    let left : AreBytes (bytes_of_items xs) = AreBytes-rest a.bytes (bytes_of_items xs) (subst AreBytes is.joined bytes) in
    let more = items_are_one (bytes_of_items xs) xs bs left record { joined = refl; each = is.each.1 } record { joined = rests; each = others.each.1 } in
    ap (λ z. z ∷ xs) same ∙ ap (λ z. b ∷ z) more

-- ---- what the code finds

four : (xs : List ℕ) → 4 ≤ length xs
    → get_or xs 0 0 * 16777216 + get_or xs 1 0 * 65536 + get_or xs 2 0 * 256 + get_or xs 3 0 ≡ number_of (take 4 xs)
four [] room = absurd (omega arith)
four (a ∷ []) room = absurd (omega arith)
four (a ∷ b ∷ []) room = absurd (omega arith)
four (a ∷ b ∷ c ∷ []) room = absurd (omega arith)
four (a ∷ b ∷ c ∷ d ∷ xs) room = omega arith

pub known_by : (xs : List ℕ) (number : ℕ) (is : Bool) → 4 ≤ length xs
    → number ≡ get_or xs 0 0 * 16777216 + get_or xs 1 0 * 65536 + get_or xs 2 0 * 256 + get_or xs 3 0 → IsTrue is ↔ Contains long_ids number
    → IsTrue is ↔ BeginsKnown xs
known_by xs number is room same known =
    let number_is : number ≡ number_of (take 4 xs) = same ∙ four xs room in
    (λ t. (room, subst (Contains long_ids) number_is (known.0 t)), λ begins. known.1 (subst (Contains long_ids) (sym number_is) begins.1))

pub endless_there : (xs : List ℕ) (h : Head) (n : ℕ) → IsTop h → HasHead xs h → (h.id ≡ segment_id → ⊥) → h.size ≡ None
    → n ≤ length (after xs h.length)
    → (children : List (List ℕ)) × AreChildren cluster_ids (after xs h.length) children (drop n (after xs h.length))
    → IsItem (Endless h) (take (h.length + n) xs) (drop (h.length + n) xs)
endless_there xs h n top has isnt unsized room are =
    let same : after xs h.length ≡ drop h.length xs = take_rest xs h.length in
    let rest : drop n (drop h.length xs) ≡ drop (h.length + n) xs = drop-drop n h.length xs in
    let content : drop h.length (take (h.length + n) xs) ++ drop (h.length + n) xs ≡ drop h.length xs =
    ap (λ z. z ++ drop (h.length + n) xs) (drop-take h.length n xs) ∙ ap (λ z. take n (drop h.length xs) ++ z) (sym rest) ∙ take-append-drop n (drop h.length xs) in
    let there : AreChildren cluster_ids (drop h.length (take (h.length + n) xs) ++ drop (h.length + n) xs) are.0 (drop (h.length + n) xs) =
    subst (λ z. AreChildren cluster_ids z are.0 (drop (h.length + n) xs)) (sym content)
    (subst (λ z. AreChildren cluster_ids (drop h.length xs) are.0 z) rest
    (subst (λ z. AreChildren cluster_ids z are.0 (drop n z)) same are.1)) in
    (record { top = top; has = front_head xs (h.length + n) h (omega arith) has }, isnt, unsized, (are.0, there))

pub only_item : (xs : List ℕ) (kind : Kind) (n : ℕ) → AreBytes xs → IsItem kind (take n xs) (drop n xs) → (other : Kind) (item following : List ℕ)
    → xs ≡ item ++ following → IsItem other item following → (other ≡ kind) × (item ≡ take n xs)
only_item xs kind n bytes is other item following joined is_other =
    one_item xs item following (take n xs) (drop n xs) other kind bytes joined (sym (take-append-drop n xs)) is_other is

-- ---- a pass over the file

pub bytes_of_snoc : (items : List ItemValue) (item : ItemValue) → bytes_of_items (items ++ item ∷ []) ≡ bytes_of_items items ++ item.bytes
bytes_of_snoc [] item = append-nil item.bytes
bytes_of_snoc (x ∷ xs) item = ap (λ z. x.bytes ++ z) (bytes_of_snoc xs item) ∙ sym (append_assoc x.bytes (bytes_of_items xs) item.bytes)

pub each_snoc : (items : List ItemValue) (item : ItemValue) (rest : List ℕ) → EachBefore items (item.bytes ++ rest) → IsItem item.kind item.bytes rest
    → EachBefore (items ++ item ∷ []) rest
each_snoc [] item rest each is = (is, tt)
each_snoc (x ∷ xs) item rest each is =
    let follows : bytes_of_items (xs ++ item ∷ []) ++ rest ≡ bytes_of_items xs ++ (item.bytes ++ rest) =
    ap (λ z. z ++ rest) (bytes_of_snoc xs item) ∙ append_assoc (bytes_of_items xs) item.bytes rest in
    (subst (IsItem x.kind x.bytes) (sym follows) each.0, each_snoc xs item rest each.1 is)

pub each_to_end : (items : List ItemValue) → EachBefore items [] → EachIsItem items
each_to_end [] each = tt
each_to_end (x ∷ xs) each = (subst (IsItem x.kind x.bytes) (append-nil (bytes_of_items xs)) each.0, each_to_end xs each.1)

pub one_passed : (file : List ℕ) (place count n : ℕ) (kind : Kind) → Passed file place count → 0 < n → n ≤ length (after file place)
    → IsItem kind (take n (after file place)) (drop n (after file place)) → Passed file (place + n) (count + 1)
one_passed file place count n kind passed some room is =
    let same : after file place ≡ drop place file = take_rest file place in
    let within = passed.within in let few = passed.few in let counted = passed.counted in
    let there : n ≤ length (drop place file) = subst (λ z. n ≤ length z) same room in
    let rest : drop n (drop place file) ≡ drop (place + n) file = drop-drop n place file in
    let item : ItemValue = record { kind = kind; bytes = take n (drop place file) } in
    let is_item : IsItem kind (take n (drop place file)) (drop (place + n) file) =
    subst (IsItem kind (take n (drop place file))) rest (subst (λ z. IsItem kind (take n z) (drop n z)) same is) in
    let before : EachBefore passed.items (take n (drop place file) ++ drop (place + n) file) =
    subst (EachBefore passed.items) (sym (take-append-drop n (drop place file)) ∙ ap (λ z. take n (drop place file) ++ z) rest) passed.each in
    record {
      within = omega (arith, within, there, length-drop place file);
      items = passed.items ++ record { kind = kind; bytes = take n (drop place file) } ∷ [];
      counted = omega (arith, counted, length-append passed.items (record { kind = kind; bytes = take n (drop place file) } ∷ []));
      few = omega (arith, few, some);
      joined = take-add place n file ∙ ap (λ z. z ++ take n (drop place file)) passed.joined
          ∙ sym (bytes_of_snoc passed.items record { kind = kind; bytes = take n (drop place file) });
      each = each_snoc passed.items record { kind = kind; bytes = take n (drop place file) } (drop (place + n) file) before is_item;
    }

pub all_passed : (file : List ℕ) (place count : ℕ) → Passed file place count → length file ≤ place
    → (items : List ItemValue) × AreItems file items × (count ≡ length items)
all_passed file place count passed end = (
  passed.items,
  record {
    joined = sym (take_all place file end) ∙ passed.joined;
    each = each_to_end passed.items (subst (EachBefore passed.items) (drop_all place file end) passed.each);
  },
  passed.counted,
)

pub whole_items_are_local : WholeItemsAreLocal
whole_items_are_local head item following more is whole =
    let room = is.0.has.room in
    (is.0, is.1, (length item - head.length, whole, omega (arith, room, length-append item more)))
