-- What a file says of its tracks is one, wherever their bytes lie in memory.
use Rattle.std.proofs.Common.{◌≡◌, ℕ, zero, suc, ◌+◌, Bool, true, false, cond, eqb, List, [], ◌∷◌, ◌++◌, length, map, drop, refl, sym, ap, ◌∙◌, subst, arith, inl, inr}
use Rattle.std.specs.Prelude.{◌↔◌, ◌||◌, IsTrue, IsSome, filter, Option, Some, None, slice_get}
use Rattle.std.specs.List.{AllByRecursion, flat_map, fold, list_any}
use Rattle.std.proofs.lemmas.Bool.{eq-eqb}
use Rattle.std.proofs.lemmas.List.{append_assoc}
use Rattle.std.proofs.lemmas.List.Folds.{list_any-append}
use Rattle.ffv1_bits.specs.Parity.{AreBytes}
use Rattle.ffv1_bits.proofs.Bytes.{AreBytes-drop, AreBytes-front, no_bytes, AreBytes-rest}
use Rattle.ebml.specs.Contents.{ElementValue, contents_with, AreContents, OfLast, PlacedBytes, placed_with, AreContentsAt, OfLastPlaced, last_among}
use Rattle.ebml.proofs.ContentList.{elements_are_one, contents_are_one, bytes_in}
use Rattle.matroska.specs.Tracks.{number_found, bytes_found, place_found, IsStringOf, IsTrackOf, EachIsTrack, AreTracksOf, IsFfv1Header, HasRecord, IsRecordWrong, SaysParities, HasParities, IsFlac}
use Rattle.matroska.specs.NamedTracks.{each_after, has_number, is_unnamed, named_tracks}
use Rattle.matroska.specs.declared.track.Track.{Track}
use Rattle.matroska_parts.specs.Payloads.{IsFfv1}
use Rattle.matroska_parts.specs.ItemParts.{PlacedContent, AreNamedIn, AreTracksBy}
use Rattle.matroska_parts.proofs.MasterSteps.{same_some}
use Rattle.matroska_parts.proofs.OpeningSteps.{string_is_one}

-- ---- two truths

pub bool_same : (a b : Bool) (P Q : Type 0) → (P → Q) → (Q → P) → (IsTrue a ↔ P) → (IsTrue b ↔ Q) → a ≡ b
bool_same true true P Q f g x y = refl
bool_same true false P Q f g x y = let no : IsTrue false = y.1 (f (x.0 refl)) in cc
bool_same false true P Q f g x y = let no : IsTrue false = x.1 (g (y.0 refl)) in cc
bool_same false false P Q f g x y = refl

pub bool_one : (a b : Bool) (P : Type 0) → (IsTrue a ↔ P) → (IsTrue b ↔ P) → a ≡ b
bool_one a b P x y = bool_same a b P P (λ p. p) (λ p. p) x y

pub all_weaker : {X : Type 0} (P Q : X → Type 0) → ((x : X) → P x → Q x) → (xs : List X) → AllByRecursion P xs → AllByRecursion Q xs
all_weaker P Q f [] all = tt
all_weaker P Q f (x ∷ xs) all = (f x all.0, all_weaker P Q f xs all.1)

-- ---- contents are bytes

elements_bytes : (elements : List ElementValue) (rest : List ℕ) → AreBytes (flat_map (λ element. element.bytes) elements ++ rest)
    → AllByRecursion (λ element. AreBytes element.bytes) elements
elements_bytes [] rest bytes = tt
elements_bytes (e ∷ es) rest bytes =
    let parted : AreBytes (e.bytes ++ (bytes_in es ++ rest)) = subst AreBytes (append_assoc e.bytes (bytes_in es) rest) bytes in
    (AreBytes-front e.bytes (bytes_in es ++ rest) parted, elements_bytes es rest (AreBytes-rest e.bytes (bytes_in es ++ rest) parted))

with_bytes : (id : ℕ) (elements : List ElementValue) → AllByRecursion (λ element. AreBytes element.bytes) elements → AllByRecursion AreBytes (contents_with id elements)
with_bytes id [] all = tt
with_bytes id (e ∷ es) all =
    let rest = with_bytes id es all.1 in
    elim (eqb e.head.id id) as (λ t. AllByRecursion AreBytes (map (λ (element : ElementValue). drop element.head.length element.bytes)
    (cond t (e ∷ filter (λ element. eqb element.head.id id) es) (filter (λ element. eqb element.head.id id) es)))) [
      | true ↦ (AreBytes-drop e.head.length e.bytes all.0, rest)
      | false ↦ rest
    ]

contents_bytes : (id : ℕ) (bytes : List ℕ) (contents : List (List ℕ)) → AreBytes bytes → AreContents id bytes contents → AllByRecursion AreBytes contents
contents_bytes id bytes contents are is =
    subst (AllByRecursion AreBytes) (sym is.2) (with_bytes id is.0 (elements_bytes is.0 is.1.rest (subst AreBytes is.1.joined are)))

-- the same of those with places
placed_bytes : (id place : ℕ) (elements : List ElementValue) → AllByRecursion (λ element. AreBytes element.bytes) elements
    → AllByRecursion (λ it. AreBytes it.bytes) (placed_with id place elements)
placed_bytes id place [] all = tt
placed_bytes id place (e ∷ es) all =
    let rest = placed_bytes id (place + length e.bytes) es all.1 in
    elim (eqb e.head.id id) as (λ t. AllByRecursion (λ (it : PlacedBytes). AreBytes it.bytes)
    (cond t (record { place = place + e.head.length; bytes = drop e.head.length e.bytes } ∷ placed_with id (place + length e.bytes) es) (placed_with id (place + length e.bytes) es))) [
      | true ↦ (AreBytes-drop e.head.length e.bytes all.0, rest)
      | false ↦ rest
    ]

all_placed_bytes : (id place : ℕ) (bytes : List ℕ) (placed : List PlacedBytes) → AreBytes bytes → AreContentsAt id place bytes placed
    → AllByRecursion (λ it. AreBytes it.bytes) placed
all_placed_bytes id place bytes placed are is =
    subst (AllByRecursion (λ (it : PlacedBytes). AreBytes it.bytes)) (sym is.2) (placed_bytes id place is.0 (elements_bytes is.0 is.1.rest (subst AreBytes is.1.joined are)))

placed_are_one : (id place : ℕ) (bytes : List ℕ) (placed others : List PlacedBytes) → AreBytes bytes → AreContentsAt id place bytes placed → AreContentsAt id place bytes others
    → placed ≡ others
placed_are_one id place bytes placed others are is other =
    is.2 ∙ ap (placed_with id place) (elements_are_one bytes is.0 other.0 are is.1 other.1) ∙ sym other.2

last_bytes : (found : Option (List ℕ)) (contents : List (List ℕ)) → AreBytes (bytes_found found) → AllByRecursion AreBytes contents
    → AreBytes (bytes_found (fold (λ _ x. Some x) found contents))
last_bytes found [] are all = are
last_bytes found (c ∷ cs) are all = last_bytes (Some c) cs all.0 all.1

-- ---- a track

-- of the last content with an ID both hold
record OfOne (P Q : Option (List ℕ) → Type 0) : Type 0 where
  pub found : Option (List ℕ)
  pub one : P found
  pub other : Q found
  pub bytes : AreBytes (bytes_found found)

of_one : (id : ℕ) (bytes : List ℕ) (P Q : Option (List ℕ) → Type 0) → AreBytes bytes → OfLast id bytes P → OfLast id bytes Q → OfOne P Q
of_one id bytes P Q are p q = record {
  found = last_among p.0;
  one = p.2;
  other = subst (λ z. Q (last_among z)) (sym (contents_are_one id bytes p.0 q.0 are p.1 q.1)) q.2;
  bytes = last_bytes None p.0 no_bytes (contents_bytes id bytes p.0 are p.1);
}

-- two tracks say the same
pub record Alike (a b : Track) : Type 0 where
  pub number : a.number ≡ b.number
  pub kind : a.kind ≡ b.kind
  pub codec : a.codec.now ≡ b.codec.now
  pub private : a.private.now ≡ b.private.now
  pub private_at : a.private_at ≡ b.private_at
  pub encoded : a.is_encoded ≡ b.is_encoded
  pub width : a.width ≡ b.width
  pub height : a.height ≡ b.height

number_is_one : (id : ℕ) (bytes : List ℕ) (a b : ℕ) → AreBytes bytes → OfLast id bytes (λ found. a ≡ number_found found) → OfLast id bytes (λ found. b ≡ number_found found)
    → a ≡ b
number_is_one id bytes a b are p q =
    let one = of_one id bytes (λ found. a ≡ number_found found) (λ found. b ≡ number_found found) are p q in one.one ∙ sym one.other

size_is_one : (id : ℕ) (entry : List ℕ) (a b : ℕ) → AreBytes entry
    → OfLast 0xE0 entry (λ video. OfLast id (bytes_found video) (λ found. a ≡ number_found found))
    → OfLast 0xE0 entry (λ video. OfLast id (bytes_found video) (λ found. b ≡ number_found found)) → a ≡ b
size_is_one id entry a b are p q =
    let one = of_one 0xE0 entry (λ video. OfLast id (bytes_found video) (λ found. a ≡ number_found found))
    (λ video. OfLast id (bytes_found video) (λ found. b ≡ number_found found)) are p q in
    number_is_one id (bytes_found one.found) a b one.bytes one.one one.other

place_is_one : (id place : ℕ) (bytes : List ℕ) (a b : ℕ) → AreBytes bytes → OfLastPlaced id place bytes (λ found. a ≡ place_found found)
    → OfLastPlaced id place bytes (λ found. b ≡ place_found found) → a ≡ b
place_is_one id place bytes a b are p q =
    p.2 ∙ ap (λ z. place_found (last_among z)) (placed_are_one id place bytes p.0 q.0 are p.1 q.1) ∙ sym q.2

track_is_one : (place : ℕ) (entry : List ℕ) (a b : Track) → AreBytes entry → IsTrackOf place entry a → IsTrackOf place entry b → Alike a b
track_is_one place entry a b are is other =
    let codec = of_one 0x86 entry (λ found. IsStringOf (bytes_found found) a.codec.now) (λ found. IsStringOf (bytes_found found) b.codec.now) are is.codec other.codec in
    let private = of_one 0x63A2 entry (λ found. a.private.now ≡ bytes_found found) (λ found. b.private.now ≡ bytes_found found) are is.private other.private in
    let encoded = of_one 0x6D80 entry (λ found. IsTrue a.is_encoded ↔ IsSome found) (λ found. IsTrue b.is_encoded ↔ IsSome found) are is.encoded other.encoded in
    record {
      number = number_is_one 0xD7 entry a.number b.number are is.number other.number;
      kind = number_is_one 0x83 entry a.kind b.kind are is.kind other.kind;
      codec = string_is_one (bytes_found codec.found) a.codec.now b.codec.now codec.one codec.other;
      private = private.one ∙ sym private.other;
      private_at = place_is_one 0x63A2 place entry a.private_at b.private_at are is.private_at other.private_at;
      encoded = bool_one a.is_encoded b.is_encoded (IsSome encoded.found) encoded.one encoded.other;
      width = size_is_one 0xB0 entry a.width b.width are is.width other.width;
      height = size_is_one 0xBA entry a.height b.height are is.height other.height;
    }

-- ---- what is said of tracks that say the same

pub same_back : (a b : Track) → Alike a b → Alike b a
same_back a b alike = record {
  number = sym alike.number;
  kind = sym alike.kind;
  codec = sym alike.codec;
  private = sym alike.private;
  private_at = sym alike.private_at;
  encoded = sym alike.encoded;
  width = sym alike.width;
  height = sym alike.height;
}

pub same_record : (a b : Track) (bytes : List ℕ) → Alike a b → HasRecord a bytes → HasRecord b bytes
same_record a b bytes alike has =
    elim has [
      | inl x ↦ inl (sym alike.codec ∙ x.0, x.1 ∙ alike.private)
      | inr x ↦ inr (sym alike.codec ∙ x.0, subst IsFfv1Header alike.private x.1, x.2 ∙ ap (λ z. drop 40 z) alike.private)
    ]

pub same_ffv1 : (a b : Track) → Alike a b → IsFfv1 a → IsFfv1 b
same_ffv1 a b alike is = (is.0, same_record a b is.0 alike is.1)

pub same_wrong : (a b : Track) → Alike a b → IsRecordWrong a → IsRecordWrong b
same_wrong a b alike wrong = (wrong.0, same_record a b wrong.0 alike wrong.1, wrong.2, wrong.3)

pub same_parities : (a b : Track) → Alike a b → HasParities a → HasParities b
same_parities a b alike has = (
  has.0,
  same_record a b has.0 alike has.1,
  (λ t. has.2 (alike.encoded ∙ t)),
  subst (λ w. SaysParities has.0 w b.height) alike.width (subst (λ h. SaysParities has.0 a.width h) alike.height has.3),
)

pub same_flac : (a b : Track) → Alike a b → IsFlac a → IsFlac b
same_flac a b alike is = (sym alike.codec ∙ is.0, λ t. is.1 (alike.encoded ∙ t))

-- ---- all tracks

abbrev pub EachAlike : List Track → List Track → Type 0
EachAlike [] [] = Unit {0}
EachAlike [] (b ∷ bs) = ⊥
EachAlike (a ∷ as_) [] = ⊥
EachAlike (a ∷ as_) (b ∷ bs) = Alike a b × EachAlike as_ bs

tracks_of_entries : (entries : List PlacedBytes) (xs ys : List Track) → AllByRecursion (λ it. AreBytes it.bytes) entries → EachIsTrack entries xs → EachIsTrack entries ys → EachAlike xs ys
tracks_of_entries [] [] [] all are others = tt
tracks_of_entries [] [] (y ∷ ys) all are others = absurd others
tracks_of_entries [] (x ∷ xs) ys all are others = absurd are
tracks_of_entries (e ∷ es) [] ys all are others = absurd are
tracks_of_entries (e ∷ es) (x ∷ xs) [] all are others = absurd others
tracks_of_entries (e ∷ es) (x ∷ xs) (y ∷ ys) all are others = (track_is_one e.place e.bytes x y all.0 are.0 others.0, tracks_of_entries es xs ys all.1 are.1 others.1)

tracks_are_one : (content : List ℕ) (xs ys : List Track) → AreBytes content → AreTracksOf content xs → AreTracksOf content ys → EachAlike xs ys
tracks_are_one content xs ys bytes are others =
    let same = placed_are_one 0xAE 0 content are.entries others.entries bytes are.are_entries others.are_entries in
    tracks_of_entries are.entries xs ys (all_placed_bytes 0xAE 0 content are.entries bytes are.are_entries) are.each (subst (λ z. EachIsTrack z ys) (sym same) others.each)

pub same_count : (xs ys : List Track) → EachAlike xs ys → length xs ≡ length ys
same_count [] [] each = refl
same_count [] (y ∷ ys) each = absurd each
same_count (x ∷ xs) [] each = absurd each
same_count (x ∷ xs) (y ∷ ys) each = omega (arith, same_count xs ys each.1)

pub each_back : (xs ys : List Track) → EachAlike xs ys → EachAlike ys xs
each_back [] [] each = tt
each_back [] (y ∷ ys) each = absurd each
each_back (x ∷ xs) [] each = absurd each
each_back (x ∷ xs) (y ∷ ys) each = (same_back x y each.0, each_back xs ys each.1)

pub alike_at : (xs ys : List Track) → EachAlike xs ys → (i : ℕ) (x : Track) → slice_get xs i ≡ Some x → (y : Track) × (slice_get ys i ≡ Some y) × Alike x y
alike_at [] ys each i x is = cc
alike_at (a ∷ as_) [] each i x is = absurd each
alike_at (a ∷ as_) (b ∷ bs) each zero x is = (b, refl, subst (λ z. Alike z b) (same_some a x is) each.0)
alike_at (a ∷ as_) (b ∷ bs) each (suc i) x is = alike_at as_ bs each.1 i x is

-- ---- those that blocks can name

each_more : (xs ys : List Track) (x y : Track) → EachAlike xs ys → Alike x y → EachAlike (xs ++ x ∷ []) (ys ++ y ∷ [])
each_more [] [] x y each is = (is, tt)
each_more [] (b ∷ bs) x y each is = absurd each
each_more (a ∷ as_) [] x y each is = absurd each
each_more (a ∷ as_) (b ∷ bs) x y each is = (each.0, each_more as_ bs x y each.1 is)

any_same : (number : ℕ) (xs ys : List Track) → EachAlike xs ys → list_any (has_number number) xs ≡ list_any (has_number number) ys
any_same number [] [] each = refl
any_same number [] (y ∷ ys) each = absurd each
any_same number (x ∷ xs) [] each = absurd each
any_same number (x ∷ xs) (y ∷ ys) each =
    ap (λ n. eqb n number || list_any (has_number number) xs) each.0.number ∙ ap (λ b. has_number number y || b) (any_same number xs ys each.1)

abbrev pub if_named : List Track → Track → List Track
if_named before track = cond (is_unnamed before track) [] (track ∷ [])

named_alike : (before others xs ys : List Track) → EachAlike before others → EachAlike xs ys → EachAlike (each_after if_named before xs) (each_after if_named others ys)
named_alike before others [] [] all each = tt
named_alike before others [] (y ∷ ys) all each = absurd each
named_alike before others (x ∷ xs) [] all each = absurd each
named_alike before others (x ∷ xs) (y ∷ ys) all each =
    let rest = named_alike (before ++ x ∷ []) (others ++ y ∷ []) xs ys (each_more before others x y all each.0) each.1 in
    let same : is_unnamed before x ≡ is_unnamed others y =
    ap (λ n. eqb n 0 || list_any (has_number n) before) each.0.number ∙ ap (λ b. eqb y.number 0 || b) (any_same y.number before others all) in
    subst (λ b. EachAlike (each_after if_named before (x ∷ xs)) (cond b [] (y ∷ []) ++ each_after if_named (others ++ y ∷ []) ys)) same
    (elim (is_unnamed before x) as (λ b. EachAlike (cond b [] (x ∷ []) ++ each_after if_named (before ++ x ∷ []) xs) (cond b [] (y ∷ []) ++ each_after if_named (others ++ y ∷ []) ys)) [
      | true ↦ rest
      | false ↦ (each.0, rest)
    ])

-- no two have one number
abbrev pub Distinct : List Track → Type 0
Distinct [] = Unit {0}
Distinct (t ∷ ts) = AllByRecursion (λ other. other.number ≡ t.number → ⊥) ts × Distinct ts

abbrev IsNew : List Track → Track → Type 0
IsNew before track = list_any (has_number track.number) before ≡ false

neither : (a b : Bool) → (a || b) ≡ false → (a ≡ false) × (b ≡ false)
neither true b is = cc
neither false true is = cc
neither false false is = (refl, refl)

new_before : (before : List Track) (x t : Track) → IsNew (before ++ x ∷ []) t → IsNew before t × (t.number ≡ x.number → ⊥)
new_before before x t new =
    let both = neither (list_any (has_number t.number) before) (list_any (has_number t.number) (x ∷ [])) (sym (list_any-append (has_number t.number) before (x ∷ [])) ∙ new) in
    let apart = neither (eqb x.number t.number) false both.1 in
    (both.0, λ same. let no : true ≡ false = sym (eq-eqb x.number t.number (sym same)) ∙ apart.0 in cc)

named_distinct : (before xs : List Track) → AllByRecursion (IsNew before) (each_after if_named before xs) × Distinct (each_after if_named before xs)
named_distinct before [] = (tt, tt)
named_distinct before (x ∷ xs) =
    let rest = named_distinct (before ++ x ∷ []) xs in
    let later = each_after if_named (before ++ x ∷ []) xs in
    let old : AllByRecursion (IsNew before) (each_after if_named (before ++ x ∷ []) xs) =
    all_weaker (IsNew (before ++ x ∷ [])) (IsNew before) (λ t new. (new_before before x t new).0) (each_after if_named (before ++ x ∷ []) xs) rest.0 in
    let apart : AllByRecursion (λ other. other.number ≡ x.number → ⊥) (each_after if_named (before ++ x ∷ []) xs) =
    all_weaker (IsNew (before ++ x ∷ [])) (λ other. other.number ≡ x.number → ⊥) (λ t new. (new_before before x t new).1) (each_after if_named (before ++ x ∷ []) xs) rest.0 in
    elim (is_unnamed before x) as (λ b. is_unnamed before x ≡ b → AllByRecursion (IsNew before) (cond b [] (x ∷ []) ++ each_after if_named (before ++ x ∷ []) xs)
    × Distinct (cond b [] (x ∷ []) ++ each_after if_named (before ++ x ∷ []) xs)) [
      | true ↦ λ e. (old, rest.1)
      | false ↦ λ e. (((neither (eqb x.number 0) (list_any (has_number x.number) before) e).1, old), (apart, rest.1))
    ] refl

pub all_get : (P : Track → Type 0) (xs : List Track) (i : ℕ) (x : Track) → AllByRecursion P xs → slice_get xs i ≡ Some x → P x
all_get P [] i x all is = cc
all_get P (a ∷ as_) zero x all is = subst P (same_some a x is) all.0
all_get P (a ∷ as_) (suc i) x all is = all_get P as_ i x all.1 is

pub index_is_one : (xs : List Track) (i j : ℕ) (x y : Track) → Distinct xs → slice_get xs i ≡ Some x → slice_get xs j ≡ Some y → x.number ≡ y.number → i ≡ j
index_is_one [] i j x y distinct is other same = cc
index_is_one (a ∷ as_) zero zero x y distinct is other same = refl
index_is_one (a ∷ as_) zero (suc j) x y distinct is other same =
    absurd (all_get (λ z. z.number ≡ a.number → ⊥) as_ j y distinct.0 other (sym same ∙ sym (ap (λ z. z.number) (same_some a x is))))
index_is_one (a ∷ as_) (suc i) zero x y distinct is other same =
    absurd (all_get (λ z. z.number ≡ a.number → ⊥) as_ i x distinct.0 is (same ∙ sym (ap (λ z. z.number) (same_some a y other))))
index_is_one (a ∷ as_) (suc i) (suc j) x y distinct is other same = ap (λ n. suc n) (index_is_one as_ i j x y distinct.1 is other same)

-- the tracks that blocks can name by a Tracks
pub record OneTracks (xs ys : List Track) : Type 0 where
  pub alike : EachAlike xs ys
  pub distinct : Distinct xs

no_tracks : (xs ys : List Track) → xs ≡ [] → ys ≡ [] → OneTracks xs ys
no_tracks xs ys is other = record {
  alike = subst (λ z. EachAlike z ys) (sym is) (subst (EachAlike []) (sym other) tt);
  distinct = subst Distinct (sym is) tt;
}

named_are_one : (content : List ℕ) (xs ys : List Track) → AreBytes content → AreNamedIn content xs → AreNamedIn content ys → OneTracks xs ys
named_are_one content xs ys bytes is other =
    elim is [
      | inl x ↦ elim other [
        | inl y ↦
            let each = named_alike [] [] x.1.0 y.1.0 tt (tracks_are_one content x.1.0 y.1.0 bytes x.1.1 y.1.1) in record {
              alike = subst (λ z. EachAlike z ys) (sym x.1.2) (subst (EachAlike (named_tracks x.1.0)) (sym y.1.2) each);
              distinct = subst Distinct (sym x.1.2) (named_distinct [] x.1.0).1;
            }
        | inr y ↦ let few = x.0 in let many = y.0 in absurd (omega (arith, few, many))
      ]
      | inr x ↦ elim other [ inl y ↦ (let few = y.0 in let many = x.0 in absurd (omega (arith, few, many))) | inr y ↦ no_tracks xs ys x.1 y.1 ]
    ]

-- its content is bytes, if there is one
abbrev pub HasBytes : Option PlacedContent → Type 0
HasBytes None = Unit {0}
HasBytes (Some found) = AreBytes found.content

pub tracks_by_one : (first : Option PlacedContent) (xs ys : List Track) → HasBytes first → AreTracksBy first xs → AreTracksBy first ys → OneTracks xs ys
tracks_by_one None xs ys bytes is other = no_tracks xs ys is other
tracks_by_one (Some found) xs ys bytes is other = named_are_one found.content xs ys bytes is other
