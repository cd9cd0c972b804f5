-- Sizes of frames that are laced.
use Rattle.std.proofs.Common.{◌≡◌, ℕ, zero, suc, ◌+◌, ◌-◌, ◌*◌, ◌%◌, ◌^◌, ◌<◌, ◌≤◌, List, [], ◌∷◌, ◌++◌, length, get_or, take, drop, replicate, refl, sym, ap, ◌∙◌, subst, arith, ◌⊎◌, inl, inr, append-nil}
use Rattle.std.specs.Prelude.{Option, Some, None}
use Rattle.std.proofs.Math.Nat.{pow-le-pow_right, mul-mod_right}
use Rattle.std.proofs.Math.Seq.{drop-cons}
use Rattle.std.proofs.lemmas.List.{take-append-drop, append_assoc, append_cancel_left, length-append, take_more, length-take-le, take_rest}
use Rattle.ebml.specs.Vint.{data_of, IsVint, HasData}
use Rattle.ebml.specs.declared.vint.VintData.{VintData}
use Rattle.ffv1_bits.specs.Parity.{AreBytes}
use Rattle.ffv1_bits.proofs.Bytes.{AreBytes-rest}
use Rattle.ebml.proofs.Elements.{front_is, within_is}
use Rattle.ebml.proofs.Numbers.{one_vint}
use Rattle.ebml.proofs.Heads.{none_there, same_there, after}
use Rattle.matroska.specs.Laces.{IsXiphSize, IsFrameSize, SizesFollow}
use Rattle.matroska.specs.Inner.Sizes.{ReadsSize, GivesSize, FitIn, NoneGiven, NoneFollow}
use Rattle.matroska.specs.declared.block.Lacing.{Lacing}
use Rattle.matroska.specs.declared.block.Lacing.TheVariants.{Unlaced, Xiph, Fixed, Ebml}

-- ---- Xiph lacing

-- bytes of 255 are no more than those of a size that they begin
full_passed : (i full last : ℕ) (a b : List ℕ) → last < 255 → replicate i 255 ++ a ≡ replicate full 255 ++ last ∷ b
    → (i ≤ full) × (a ≡ replicate (full - i) 255 ++ last ∷ b)
full_passed zero full last a b below same =
    let counts : full - 0 ≡ full = omega arith in (omega arith, same ∙ ap (λ n. replicate n 255 ++ last ∷ b) (sym counts))
full_passed (suc i) zero last a b below same = let clash : 255 ≡ last = cc in absurd (omega (arith, clash))
full_passed (suc i) (suc full) last a b below same =
    let tails : replicate i 255 ++ a ≡ replicate full 255 ++ last ∷ b = cc in
    let more = full_passed i full last a b below tails in
    let counts : suc full - suc i ≡ full - i = omega arith in
    (omega (arith, more.0), more.1 ∙ ap (λ n. replicate n 255 ++ last ∷ b) (sym counts))

passed : (bytes front rest : List ℕ) (i size : ℕ) → take i bytes ≡ replicate i 255 → bytes ≡ front ++ rest → (is : IsXiphSize front size)
    → (i ≤ is.full) × (drop i bytes ≡ replicate (is.full - i) 255 ++ is.last ∷ rest)
passed bytes front rest i size full at is =
    full_passed i is.full is.last (drop i bytes) rest is.below
    (ap (λ z. z ++ drop i bytes) (sym full) ∙ take-append-drop i bytes ∙ at ∙ ap (λ z. z ++ rest) is.joined
    ∙ append_assoc (replicate is.full 255) (is.last ∷ []) rest)

-- the byte that comes next: the last, or one of 255
next_byte : (k last : ℕ) (byte : ℕ) (more rest : List ℕ) → byte ∷ more ≡ replicate k 255 ++ last ∷ rest → ((k ≡ 0) × (byte ≡ last)) ⊎ ((0 < k) × (byte ≡ 255))
next_byte zero last byte more rest same = inl (refl, cc)
next_byte (suc k) last byte more rest same = inr (omega arith, cc)

pub too_long : (bytes : List ℕ) (i byte : ℕ) → i < length bytes → byte ≡ get_or bytes i 0 → take i bytes ≡ replicate i 255 → length bytes < 255 * i + byte
    → ReadsSize IsXiphSize bytes None
too_long bytes i byte within at_i full long = λ front rest size at is fits.
    let p = passed bytes front rest i size full at is in
    let next = next_byte (is.full - i) is.last byte (drop (suc i) bytes) rest (ap (λ z. z ∷ drop (suc i) bytes) at_i ∙ sym (drop-cons bytes i 0 within) ∙ p.1) in
    let before = p.0 in let sum = is.sum in
    elim next [
      | inl last ↦ absurd (omega (arith, last.0, last.1, before, sum, fits, long))
      | inr more ↦ absurd (omega (arith, more.0, more.1, before, sum, fits, long))
    ]

pub size_there : (bytes : List ℕ) (i byte size : ℕ) → i < length bytes → byte ≡ get_or bytes i 0 → take i bytes ≡ replicate i 255 → byte < 255
    → size ≡ 255 * i + byte → (front : List ℕ) × (bytes ≡ front ++ after bytes (i + 1)) × IsXiphSize front size
size_there bytes i byte size within at_i full below sum = (
  replicate i 255 ++ byte ∷ [],
  sym (take-append-drop (i + 1) bytes) ∙ ap (λ z. z ++ drop (i + 1) bytes) (take_more bytes i 0 within ∙ ap (λ z. z ++ get_or bytes i 0 ∷ []) full
      ∙ ap (λ z. replicate i 255 ++ z ∷ []) (sym at_i)) ∙ ap (λ z. (replicate i 255 ++ byte ∷ []) ++ z) (sym (take_rest bytes (i + 1))),
  record { full = i; last = byte; below = below; joined = refl; sum = sum },
)

-- ---- EBML lacing

pub value_small : (bytes : List ℕ) (found : VintData) → HasData bytes found → found.value < 2 ^ 56
value_small bytes found has =
    let long : length (take found.length bytes) ≡ found.length = length-take-le found.length bytes has.room in
    let short = has.short in
    let most : 7 * length (take found.length bytes) ≤ 56 = omega (arith, long, short) in
    let small : 2 ^ (7 * length (take found.length bytes)) ≤ 2 ^ 56 = pow-le-pow_right (omega arith) most in
    let first = has.is.first in let value = has.value in omega (arith, small, first, value)

pub vint_of : (before : Option ℕ) (front : List ℕ) (size : ℕ) → IsFrameSize Ebml before front size
    → IsVint front × (length front ≤ 8) × GivesSize before (data_of front) (length front) size
vint_of None front size is = (is.is_vint, is.short, is.value)
vint_of (Some before) front size is = (is.is_vint, is.short, is.value)

pub size_of_vint : (before : Option ℕ) (front : List ℕ) (size : ℕ) → IsVint front → length front ≤ 8 → GivesSize before (data_of front) (length front) size
    → IsFrameSize Ebml before front size
size_of_vint None front size is short value = record { is_vint = is; short = short; value = value }
size_of_vint (Some before) front size is short value = record { is_vint = is; short = short; value = value }

vint_there : (bytes front rest : List ℕ) → bytes ≡ front ++ rest → IsVint front → length front ≤ 8
    → HasData bytes record { value = data_of front; length = length front }
vint_there bytes front rest at is short = record {
  short = short;
  room = within_is front rest bytes at;
  is = subst IsVint (sym (front_is front rest bytes at)) is;
  value = ap data_of (sym (front_is front rest bytes at));
}

pub no_vint : (bytes : List ℕ) (before : Option ℕ) (result : Option VintData) → result ≡ None → ((found : VintData) → HasData bytes found → result ≡ Some found)
    → ReadsSize (IsFrameSize Ebml before) bytes None
no_vint bytes before result none only = λ front rest size at is fits.
    let vint = vint_of before front size is in
    absurd (none_there (HasData bytes) result none only _ (vint_there bytes front rest at vint.0 vint.1))

-- what was read gives the size of any front that is one
pub same_size : (bytes : List ℕ) (before : Option ℕ) (result : Option VintData) (found : VintData) → result ≡ Some found
    → ((found : VintData) → HasData bytes found → result ≡ Some found) → (front rest : List ℕ) (size : ℕ) → bytes ≡ front ++ rest
    → IsFrameSize Ebml before front size → GivesSize before found.value found.length size
same_size bytes before result found some only front rest size at is =
    let vint = vint_of before front size is in
    let same = same_there (HasData bytes) result found some only _ (vint_there bytes front rest at vint.0 vint.1) in
    subst (λ (v : VintData). GivesSize before v.value v.length size) (sym same) vint.2

pub vint_size_there : (bytes : List ℕ) (before : Option ℕ) (found : VintData) (size : ℕ) → HasData bytes found → GivesSize before found.value found.length size
    → (front : List ℕ) × (bytes ≡ front ++ after bytes found.length) × IsFrameSize Ebml before front size
vint_size_there bytes before found size has gives =
    let long : length (take found.length bytes) ≡ found.length = length-take-le found.length bytes has.room in
    let short = has.short in (
      take found.length bytes,
      sym (take-append-drop found.length bytes) ∙ ap (λ z. take found.length bytes ++ z) (sym (take_rest bytes found.length)),
      size_of_vint before (take found.length bytes) size has.is (omega (arith, long, short))
          (subst (λ n. GivesSize before n (length (take found.length bytes)) size) has.value (subst (λ n. GivesSize before found.value n size) (sym long) gives)),
    )

-- the size of a front is one, given what was read
pub one_given : (before : Option ℕ) (value octets a b : ℕ) → GivesSize before value octets a → GivesSize before value octets b → a ≡ b
one_given None value octets a b is_a is_b = is_a ∙ sym is_b
one_given (Some before) value octets a b is_a is_b = omega (arith, is_a, is_b)

-- ---- sizes one after the other

xiph_sizes_same : (bytes front rest other other_rest : List ℕ) (a b : ℕ) → bytes ≡ front ++ rest → bytes ≡ other ++ other_rest
    → IsXiphSize front a → IsXiphSize other b → (a ≡ b) × (rest ≡ other_rest)
xiph_sizes_same bytes front rest other other_rest a b at at_other is is_other =
    let here : bytes ≡ replicate is.full 255 ++ is.last ∷ rest = at ∙ ap (λ z. z ++ rest) is.joined ∙ append_assoc (replicate is.full 255) (is.last ∷ []) rest in
    let there : bytes ≡ replicate is_other.full 255 ++ is_other.last ∷ other_rest =
    at_other ∙ ap (λ z. z ++ other_rest) is_other.joined ∙ append_assoc (replicate is_other.full 255) (is_other.last ∷ []) other_rest in
    let one = full_passed is.full is_other.full is_other.last (is.last ∷ rest) other_rest is_other.below (sym here ∙ there) in
    let two = full_passed is_other.full is.full is.last (is_other.last ∷ other_rest) rest is.below (sym there ∙ here) in
    let counts : is_other.full - is.full ≡ 0 = omega (arith, one.0, two.0) in
    let ends : is.last ∷ rest ≡ is_other.last ∷ other_rest = one.1 ∙ ap (λ n. replicate n 255 ++ is_other.last ∷ other_rest) counts in
    let lasts : is.last ≡ is_other.last = cc in
    let sum = is.sum in let sum_other = is_other.sum in
    (omega (arith, lasts, one.0, two.0, sum, sum_other), cc)

ebml_sizes_same : (bytes front rest other other_rest : List ℕ) (before : Option ℕ) (a b : ℕ) → AreBytes bytes → bytes ≡ front ++ rest → bytes ≡ other ++ other_rest
    → IsFrameSize Ebml before front a → IsFrameSize Ebml before other b → (a ≡ b) × (rest ≡ other_rest)
ebml_sizes_same bytes front rest other other_rest before a b are_bytes at at_other is is_other =
    let v = vint_of before front a is in
    let w = vint_of before other b is_other in
    let has = vint_there bytes front rest at v.0 v.1 in
    let has_other = vint_there bytes other other_rest at_other w.0 w.1 in
    let long : length front ≡ length other = one_vint bytes (length other) (length front) are_bytes w.1 v.1 has_other.room has.room has_other.is has.is in
    let same : front ≡ other = sym (front_is front rest bytes at) ∙ ap (λ n. take n bytes) long ∙ front_is other other_rest bytes at_other in (
      one_given before (data_of other) (length other) a b (subst (λ z. GivesSize before (data_of z) (length z) a) same v.2) w.2,
      append_cancel_left other rest other_rest (ap (λ z. z ++ rest) (sym same) ∙ sym at ∙ at_other),
    )

-- of one lacing, one size begins bytes
pub sizes_same : (lacing : Lacing) (bytes front rest other other_rest : List ℕ) (before : Option ℕ) (a b : ℕ) → AreBytes bytes → bytes ≡ front ++ rest
    → bytes ≡ other ++ other_rest → IsFrameSize lacing before front a → IsFrameSize lacing before other b → (a ≡ b) × (rest ≡ other_rest)
sizes_same Unlaced bytes front rest other other_rest before a b are_bytes at at_other is is_other = absurd is
sizes_same Xiph bytes front rest other other_rest before a b are_bytes at at_other is is_other =
    xiph_sizes_same bytes front rest other other_rest a b at at_other is is_other
sizes_same Fixed bytes front rest other other_rest before a b are_bytes at at_other is is_other = absurd is
sizes_same Ebml bytes front rest other other_rest before a b are_bytes at at_other is is_other =
    ebml_sizes_same bytes front rest other other_rest before a b are_bytes at at_other is is_other

-- what is left after sizes is no longer than what they begin
pub rest_shorter : (lacing : Lacing) (before : Option ℕ) (bytes sizes rest : List ℕ) → SizesFollow lacing before bytes sizes rest → length rest ≤ length bytes
rest_shorter lacing before bytes [] rest follow = let same = ap length follow in omega (arith, same)
rest_shorter lacing before bytes (size ∷ sizes) rest follow =
    let more = rest_shorter lacing (Some size) follow.1 sizes rest follow.4 in
    let long = ap length follow.2 in omega (arith, more, long, length-append follow.0 follow.1)

-- The sizes so far, where so many are wanted: those that follow what is left follow them, and all that follow the bytes are so.
pub record SizesSoFar (lacing : Lacing) (bytes found : List ℕ) (before : Option ℕ) (left : List ℕ) : Type 0 where
  pub front : List ℕ
  pub suffix : bytes ≡ front ++ left
  pub more : (sizes rest : List ℕ) → SizesFollow lacing before left sizes rest → SizesFollow lacing None bytes (found ++ sizes) rest
  pub only : (sizes rest : List ℕ) → SizesFollow lacing None bytes sizes rest → FitIn rest sizes → length found ≤ length sizes
      → (tail : List ℕ) × (sizes ≡ found ++ tail) × SizesFollow lacing before left tail rest × FitIn rest tail

-- one more size was found
module _ (lacing : Lacing) (bytes found grown left : List ℕ) (before : Option ℕ) (size : ℕ) (front rest : List ℕ) (are_bytes : AreBytes bytes)
    (so_far : SizesSoFar lacing bytes found before left) (at : left ≡ front ++ rest) (is : IsFrameSize lacing before front size) (same : grown ≡ found ++ size ∷ []) where
  fewer : (sizes : List ℕ) → length grown ≤ length sizes → length found ≤ length sizes
  fewer sizes few = let long = ap length same in omega (arith, few, long, length-append found (size ∷ []))

  left_bytes : AreBytes left
  left_bytes = AreBytes-rest so_far.front left (subst AreBytes so_far.suffix are_bytes)

  next_only : (sizes end tail : List ℕ) → sizes ≡ found ++ tail → SizesFollow lacing before left tail end → FitIn end tail → length grown ≤ length sizes
      → (tail : List ℕ) × (sizes ≡ grown ++ tail) × SizesFollow lacing (Some size) rest tail end × FitIn end tail
  next_only sizes end [] all follow fit few =
      let long = ap length same in
      let whole = ap length all in
      absurd (omega (arith, few, long, whole, length-append found (size ∷ []), length-append found []))
  next_only sizes end (s ∷ tail) all follow fit few =
      let one = sizes_same lacing left follow.0 follow.1 front rest before s size left_bytes follow.2 at follow.3 is in (
        tail,
        all ∙ ap (λ z. found ++ z ∷ tail) one.0 ∙ sym (append_assoc found (size ∷ []) tail) ∙ ap (λ z. z ++ tail) (sym same),
        subst (λ z. SizesFollow lacing (Some size) z tail end) one.1 (subst (λ z. SizesFollow lacing (Some z) follow.1 tail end) one.0 follow.4),
        fit.1,
      )

  pub one_size_more : SizesSoFar lacing bytes grown (Some size) rest
  one_size_more = record {
    front = so_far.front ++ front;
    suffix = so_far.suffix ∙ ap (λ z. so_far.front ++ z) at ∙ sym (append_assoc so_far.front front rest);
    more = λ sizes end follow.
        subst (λ z. SizesFollow lacing None bytes z end) (sym (append_assoc found (size ∷ []) sizes) ∙ ap (λ z. z ++ sizes) (sym same))
        (so_far.more (size ∷ sizes) end (front, rest, at, is, follow));
    only = λ sizes end follow fit few.
        let old = so_far.only sizes end follow fit (fewer sizes few) in next_only sizes end old.0 old.1 old.2 old.3 few;
  }

-- no size begins what is left
ends_early : (lacing : Lacing) (found left : List ℕ) (before : Option ℕ) (count : ℕ) → length found < count → ReadsSize (IsFrameSize lacing before) left None
    → (sizes rest tail : List ℕ) → length sizes ≡ count → sizes ≡ found ++ tail → SizesFollow lacing before left tail rest → FitIn rest tail → ⊥
ends_early lacing found left before count few none sizes rest [] counted all follow fit =
    let whole = ap length all in absurd (omega (arith, counted, few, whole, length-append found []))
ends_early lacing found left before count few none sizes rest (s ∷ tail) counted all follow fit =
    let shorter = rest_shorter lacing (Some s) follow.1 tail rest follow.4 in
    let long = ap length follow.2 in
    none follow.0 follow.1 s follow.2 follow.3 (omega (arith, fit.0, shorter, long, length-append follow.0 follow.1))

pub none_left : (lacing : Lacing) (bytes found left : List ℕ) (before : Option ℕ) (count : ℕ) → SizesSoFar lacing bytes found before left → length found < count
    → ReadsSize (IsFrameSize lacing before) left None → NoneFollow lacing count bytes
none_left lacing bytes found left before count so_far few none = λ sizes rest counted follow fit.
    let old = so_far.only sizes rest follow fit (omega (arith, counted, few)) in
    ends_early lacing found left before count few none sizes rest old.0 counted old.1 old.2 old.3

pub all_found : (lacing : Lacing) (bytes found left : List ℕ) (before : Option ℕ) → SizesSoFar lacing bytes found before left → SizesFollow lacing None bytes found left
all_found lacing bytes found left before so_far = subst (λ z. SizesFollow lacing None bytes z left) (append-nil found) (so_far.more [] left refl)

-- ---- fixed lacing

pub no_equal_sizes : (count : ℕ) (bytes : List ℕ) → (length bytes % (count + 1) ≡ 0 → ⊥) → NoneGiven Fixed count bytes
no_equal_sizes count bytes odd = λ sizes rest counted given fit.
    odd (ap (λ n. n % (count + 1)) (given.1.2 ∙ ap (λ n. (n + 1) * given.1.0) counted) ∙ mul-mod_right (count + 1) given.1.0)
