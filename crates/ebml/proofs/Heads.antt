-- Heads as their two parts, where these begin bytes.
use Rattle.std.proofs.Common.{◌≡◌, ℕ, ◌+◌, ◌-◌, ◌≤◌, List, ◌++◌, length, take, drop, refl, sym, ap, ◌∙◌, subst, arith}
use Rattle.std.specs.Prelude.{◌==◌, if◌then◌else◌, Option, Some, None}
use Rattle.std.proofs.lemmas.List.{length-take-le, length-append, length-drop, take-take, take_at, drop_at, drop-take, take-append-le, take_rest}
use Rattle.std.proofs.Math.Seq.{take-add}
use Rattle.ffv1_bits.specs.Parity.{AreBytes}
use Rattle.ffv1_bits.proofs.Bytes.{AreBytes-drop}
use Rattle.ebml.specs.Vint.{number_of, marker, IsVint, HasData}
use Rattle.ebml.specs.Head.{IsHead, HasHead, HeadsAreLocal}
use Rattle.ebml.specs.Inner.Front.{HasVint}
use Rattle.ebml.specs.declared.head.Head.{Head}
use Rattle.ebml.specs.declared.vint.Vint.{Vint}
use Rattle.ebml.specs.declared.vint.VintData.{VintData}
use Rattle.ebml.proofs.Numbers.{one_vint}

pub same_vint : (vint : Vint) (number long : ℕ) → number ≡ vint.number → long ≡ vint.length
    → ◌≡◌ {A = Vint} record { number = number; length = long } vint
same_vint vint number long n l =
    let one : ◌≡◌ {A = Vint} record { number = number; length = long } record { number = vint.number; length = long } = ap (λ z. let v : Vint = record { number = z; length = long } in v) n in
    let other : ◌≡◌ {A = Vint} record { number = vint.number; length = long } vint = ap (λ z. let v : Vint = record { number = vint.number; length = z } in v) l in
    one ∙ other

pub same_head : (a b : Head) → a.id ≡ b.id → a.size ≡ b.size → a.length ≡ b.length → a ≡ b
same_head a b i s l =
    let one : ◌≡◌ {A = Head} a record { id = b.id; size = a.size; length = a.length } = ap (λ z. let v : Head = record { id = z; size = a.size; length = a.length } in v) i in
    let two : ◌≡◌ {A = Head} record { id = b.id; size = a.size; length = a.length } record { id = b.id; size = b.size; length = a.length } = ap (λ z. let v : Head = record { id = b.id; size = z; length = a.length } in v) s in
    let three : ◌≡◌ {A = Head} record { id = b.id; size = b.size; length = a.length } b = ap (λ z. let v : Head = record { id = b.id; size = b.size; length = z } in v) l in
    one ∙ two ∙ three

abbrev pub size_by : ℕ → ℕ → Option ℕ
size_by number long = if number - marker long + 1 == marker long then None else Some (number - marker long)

-- the two parts of a head that begins bytes
pub record Parts (xs : List ℕ) (head : Head) : Type 0 where
  pub id : Vint
  pub size : Vint
  pub id_is : HasVint xs 4 id
  pub size_is : HasVint (drop id.length xs) 8 size
  pub id_same : head.id ≡ id.number
  pub size_same : head.size ≡ size_by size.number size.length
  pub length_same : head.length ≡ id.length + size.length

vint_there : (xs part : List ℕ) (most : ℕ) → take (length part) xs ≡ part → length part ≤ length xs → length part ≤ most → IsVint part
    → HasVint xs most record { number = number_of part; length = length part }
vint_there xs part most same room short is = record {
  short = short;
  room = room;
  is = subst IsVint (sym same) is;
  number = ap number_of (sym same);
}

pub parts_of : (xs : List ℕ) (head : Head) → HasHead xs head → Parts xs head
parts_of xs head h =
    let is = h.is in
    let a : ℕ = length h.is.id_bytes in
    let b : ℕ = length h.is.size_bytes in
    let long : head.length ≡ length h.is.id_bytes + length h.is.size_bytes =
    sym (length-take-le head.length xs h.room) ∙ ap length h.is.joined ∙ length-append h.is.id_bytes h.is.size_bytes in
    let joined : take (length h.is.id_bytes + length h.is.size_bytes) xs ≡ h.is.id_bytes ++ h.is.size_bytes = ap (λ n. take n xs) (sym long) ∙ h.is.joined in
    let first : take (length h.is.id_bytes) xs ≡ h.is.id_bytes =
    sym (take-take (length h.is.id_bytes) (length h.is.id_bytes + length h.is.size_bytes) xs (omega arith))
    ∙ ap (take (length h.is.id_bytes)) joined ∙ take_at h.is.id_bytes h.is.size_bytes (length h.is.id_bytes) refl in
    let next : take (length h.is.size_bytes) (drop (length h.is.id_bytes) xs) ≡ h.is.size_bytes =
    sym (drop-take (length h.is.id_bytes) (length h.is.size_bytes) xs)
    ∙ ap (drop (length h.is.id_bytes)) joined ∙ drop_at h.is.id_bytes h.is.size_bytes (length h.is.id_bytes) refl in
    let room : head.length ≤ length xs = h.room in
    record {
      id = record { number = number_of h.is.id_bytes; length = length h.is.id_bytes };
      size = record { number = number_of h.is.size_bytes; length = length h.is.size_bytes };
      id_is = vint_there xs h.is.id_bytes 4 first (omega (arith, room, long)) h.is.id_short h.is.id_is_vint;
      size_is = vint_there (drop (length h.is.id_bytes) xs) h.is.size_bytes 8 next
          (omega (arith, room, long, length-drop (length h.is.id_bytes) xs)) h.is.size_short h.is.size_is_vint;
      id_same = h.is.id_is;
      size_same = h.is.size_is;
      length_same = long;
    }

pub head_of : (xs : List ℕ) (head : Head) → Parts xs head → HasHead xs head
head_of xs head p =
    let id_long : length (take p.id.length xs) ≡ p.id.length = length-take-le p.id.length xs p.id_is.room in
    let size_long : length (take p.size.length (drop p.id.length xs)) ≡ p.size.length = length-take-le p.size.length (drop p.id.length xs) p.size_is.room in
    let room : p.size.length ≤ length (drop p.id.length xs) = p.size_is.room in
    let room_id : p.id.length ≤ length xs = p.id_is.room in
    record {
      room = omega (arith, room, room_id, length-drop p.id.length xs, p.length_same);
      is = record {
        id_bytes = take p.id.length xs;
        size_bytes = take p.size.length (drop p.id.length xs);
        joined = ap (λ n. take n xs) p.length_same ∙ take-add p.id.length p.size.length xs;
        id_is_vint = p.id_is.is;
        id_short = omega (arith, id_long, p.id_is.short);
        id_is = p.id_same ∙ p.id_is.number;
        size_is_vint = p.size_is.is;
        size_short = omega (arith, size_long, p.size_is.short);
        size_is = p.size_same ∙ ap (λ n. size_by n p.size.length) p.size_is.number
            ∙ ap (size_by (number_of (take p.size.length (drop p.id.length xs)))) (sym size_long);
      };
    }

-- ---- what was read

pub none_there : {X : Type 0} (P : X → Type 0) (r : Option X) → r ≡ None → ((x : X) → P x → r ≡ Some x) → (x : X) → P x → ⊥
none_there P r none only x there = let e : ◌≡◌ {A = Option _} None (Some x) = sym none ∙ only x there in absurd cc

pub same_there : {X : Type 0} (P : X → Type 0) (r : Option X) (y : X) → r ≡ Some y → ((x : X) → P x → r ≡ Some x) → (x : X) → P x → y ≡ x
same_there P r y some only x there = let e : Some y ≡ Some x = sym some ∙ only x there in cc

abbrev pub after : List ℕ → ℕ → List ℕ
after xs n = take (length xs - n) (drop n xs)

pub size_after : (xs : List ℕ) (head : Head) (p : Parts xs head) (id : Vint) → id ≡ p.id → HasVint (after xs id.length) 8 p.size
size_after xs head p id same =
    subst (λ z. HasVint z 8 p.size) (ap (λ v. drop v.length xs) (sym same) ∙ sym (take_rest xs id.length)) p.size_is

pub head_read : (xs : List ℕ) (id size : Vint) (given : Option ℕ) → HasVint xs 4 id → HasVint (after xs id.length) 8 size → given ≡ size_by size.number size.length
    → HasHead xs record { id = id.number; size = given; length = id.length + size.length }
head_read xs id size given id_is size_is same =
    head_of xs record { id = id.number; size = given; length = id.length + size.length } record {
      id = id;
      size = size;
      id_is = id_is;
      size_is = subst (λ z. HasVint z 8 size) (take_rest xs id.length) size_is;
      id_same = refl;
      size_same = same;
      length_same = refl;
    }

pub same_read : (xs : List ℕ) (head : Head) (p : Parts xs head) (id size : Vint) (given : Option ℕ) → id ≡ p.id → size ≡ p.size → given ≡ size_by size.number size.length
    → ◌≡◌ {A = Head} record { id = id.number; size = given; length = id.length + size.length } head
same_read xs head p id size given same_id same_size is =
    same_head record { id = id.number; size = given; length = id.length + size.length } head
    (ap (λ v. v.number) same_id ∙ sym p.id_same)
    (is ∙ ap (λ v. size_by v.number v.length) same_size ∙ sym p.size_same)
    (ap (λ v. v.length + size.length) same_id ∙ ap (λ v. p.id.length + v.length) same_size ∙ sym p.length_same)

-- no two heads begin the same bytes
pub one_head : (xs : List ℕ) (a b : Head) → AreBytes xs → HasHead xs a → HasHead xs b → a ≡ b
one_head xs a b bytes has_a has_b =
    let p = parts_of xs a has_a in
    let q = parts_of xs b has_b in
    let short_p = p.id_is.short in let short_q = q.id_is.short in
    let id_long : p.id.length ≡ q.id.length =
    one_vint xs q.id.length p.id.length bytes (omega (arith, short_q)) (omega (arith, short_p)) q.id_is.room p.id_is.room q.id_is.is p.id_is.is in
    let id_same : p.id ≡ q.id = same_vint q.id p.id.number p.id.length (p.id_is.number ∙ ap (λ n. number_of (take n xs)) id_long ∙ sym q.id_is.number) id_long in
    let rest : List ℕ = drop q.id.length xs in
    let size_is : HasVint (drop q.id.length xs) 8 p.size = subst (λ n. HasVint (drop n xs) 8 p.size) id_long p.size_is in
    let size_long : p.size.length ≡ q.size.length =
    one_vint (drop q.id.length xs) q.size.length p.size.length (AreBytes-drop q.id.length xs bytes) q.size_is.short size_is.short q.size_is.room size_is.room q.size_is.is size_is.is in
    let size_same : p.size ≡ q.size = same_vint q.size p.size.number p.size.length
    (size_is.number ∙ ap (λ n. number_of (take n (drop q.id.length xs))) size_long ∙ sym q.size_is.number) size_long in
    same_head a b
    (p.id_same ∙ ap (λ v. v.number) id_same ∙ sym q.id_same)
    (p.size_same ∙ ap (λ v. size_by v.number v.length) size_same ∙ sym q.size_same)
    (p.length_same ∙ ap (λ v. v.length + p.size.length) id_same ∙ ap (λ v. q.id.length + v.length) size_same ∙ sym q.length_same)

-- what begins a front begins the whole, and what begins the whole within a front begins that
pub head_longer : (xs ys : List ℕ) (head : Head) → HasHead xs head → HasHead (xs ++ ys) head
head_longer xs ys head has =
    let room = has.room in
    record {
      room = omega (arith, room, length-append xs ys);
      is = subst (IsHead head.id head.size) (sym (take-append-le head.length xs ys has.room)) has.is;
    }

pub head_shorter : (xs ys : List ℕ) (head : Head) → head.length ≤ length xs → HasHead (xs ++ ys) head → HasHead xs head
head_shorter xs ys head room has =
    record { room = room; is = subst (IsHead head.id head.size) (take-append-le head.length xs ys room) has.is }

pub heads_are_local : HeadsAreLocal
heads_are_local front more head = (
  head_longer front more head,
  λ long has. let p = parts_of (front ++ more) head has in
      let id = p.id_is.short in let size = p.size_is.short in head_shorter front more head (omega (arith, long, id, size, p.length_same)) has,
)

-- what a Variable-Size Integer gives without its marker
pub vint_with : (xs : List ℕ) (found : VintData) → HasData xs found
    → HasVint xs 8 record { number = number_of (take found.length xs); length = found.length }
vint_with xs found has = record { short = has.short; room = has.room; is = has.is; number = refl }

pub same_data : (xs : List ℕ) (found : VintData) (vint : Vint) (value : ℕ) → HasData xs found
    → vint ≡ record { number = number_of (take found.length xs); length = found.length } → value ≡ vint.number - marker vint.length
    → ◌≡◌ {A = VintData} record { value = value; length = vint.length } found
same_data xs found vint value has same is =
    let long : length (take found.length xs) ≡ found.length = length-take-le found.length xs has.room in
    let number : vint.number ≡ number_of (take found.length xs) = ap (λ v. v.number) same in
    let length_same : vint.length ≡ found.length = ap (λ v. v.length) same in
    let values : value ≡ found.value =
    is ∙ ap (λ n. n - marker vint.length) number ∙ ap (λ n. number_of (take found.length xs) - marker n) (length_same ∙ sym long) ∙ sym has.value in
    let one : ◌≡◌ {A = VintData} record { value = value; length = vint.length } record { value = found.value; length = vint.length } = ap (λ z. let v : VintData = record { value = z; length = vint.length } in v) values in
    let other : ◌≡◌ {A = VintData} record { value = found.value; length = vint.length } found = ap (λ z. let v : VintData = record { value = found.value; length = z } in v) length_same in
    one ∙ other
