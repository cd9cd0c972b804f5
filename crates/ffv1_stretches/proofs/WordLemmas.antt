-- What the words of a line say, once.
use Rattle.std.proofs.Common.{◌≡◌, ℕ, zero, suc, ◌+◌, ◌-◌, ◌<◌, ◌≤◌, List, [], ◌∷◌, Option, Some, None, Bor, length, get_or, take, drop, map, refl, sym, ap, ◌∙◌, subst, arith}
use Rattle.std.specs.List.{AllZip}
use Rattle.std.proofs.lemmas.List.{take_all, length-drop}
use Rattle.std.specs.Prelude.{codes, ◌↔◌, Bool, IsTrue}
use Rattle.std.proofs.lemmas.Str.Parse.{digit_from_value}
use Rattle.ffv1_texts.specs.Numbers.{IsNumber}
use Rattle.ffv1_texts.proofs.NumberSteps.{one_value}
use Rattle.ffv1_mend.specs.declared.kind.Kind.{Kind}
use Rattle.ffv1_mend.specs.declared.kind.Kind.TheVariants.{Frame, Crc32, Record, Flac, Plain}
use Rattle.ffv1_mend.specs.declared.part.Part.{Part}
use Rattle.ffv1_mend.specs.declared.part.Sort.{Sort}
use Rattle.ffv1_mend.specs.declared.part.Sort.TheVariants as sorts
use Rattle.ffv1_stretches.specs.Stretches.{StretchValue}
use Rattle.ffv1_stretches.specs.Listed.{kind_word, part_word, sort_words, IsPlaceWord, AreStretchWords, ArePartWords}
use Rattle.ffv1_stretches.specs.Inner.ListSteps.{BeginsPart}

-- texts that differ at a place
differ : (a b : List ℕ) (i : ℕ) → a ≡ b → get_or a i 0 ≡ get_or b i 0
differ a b i e = ap (λ xs. get_or xs i 0) e

pub one_kind : (k l : Kind) → kind_word k ≡ kind_word l → k ≡ l
one_kind Frame Frame e = refl
one_kind Frame Crc32 e = absurd (let d : 102 ≡ 99 = differ _ _ 0 e in omega arith)
one_kind Frame Record e = absurd (let d : 102 ≡ 114 = differ _ _ 0 e in omega arith)
one_kind Frame Flac e = absurd (let d : 114 ≡ 108 = differ _ _ 1 e in omega arith)
one_kind Frame Plain e = absurd (let d : 102 ≡ 112 = differ _ _ 0 e in omega arith)
one_kind Crc32 Frame e = absurd (let d : 99 ≡ 102 = differ _ _ 0 e in omega arith)
one_kind Crc32 Crc32 e = refl
one_kind Crc32 Record e = absurd (let d : 99 ≡ 114 = differ _ _ 0 e in omega arith)
one_kind Crc32 Flac e = absurd (let d : 99 ≡ 102 = differ _ _ 0 e in omega arith)
one_kind Crc32 Plain e = absurd (let d : 99 ≡ 112 = differ _ _ 0 e in omega arith)
one_kind Record Frame e = absurd (let d : 114 ≡ 102 = differ _ _ 0 e in omega arith)
one_kind Record Crc32 e = absurd (let d : 114 ≡ 99 = differ _ _ 0 e in omega arith)
one_kind Record Record e = refl
one_kind Record Flac e = absurd (let d : 114 ≡ 102 = differ _ _ 0 e in omega arith)
one_kind Record Plain e = absurd (let d : 114 ≡ 112 = differ _ _ 0 e in omega arith)
one_kind Flac Frame e = absurd (let d : 108 ≡ 114 = differ _ _ 1 e in omega arith)
one_kind Flac Crc32 e = absurd (let d : 102 ≡ 99 = differ _ _ 0 e in omega arith)
one_kind Flac Record e = absurd (let d : 102 ≡ 114 = differ _ _ 0 e in omega arith)
one_kind Flac Flac e = refl
one_kind Flac Plain e = absurd (let d : 102 ≡ 112 = differ _ _ 0 e in omega arith)
one_kind Plain Frame e = absurd (let d : 112 ≡ 102 = differ _ _ 0 e in omega arith)
one_kind Plain Crc32 e = absurd (let d : 112 ≡ 99 = differ _ _ 0 e in omega arith)
one_kind Plain Record e = absurd (let d : 112 ≡ 114 = differ _ _ 0 e in omega arith)
one_kind Plain Flac e = absurd (let d : 112 ≡ 102 = differ _ _ 0 e in omega arith)
one_kind Plain Plain e = refl

pub kind_is_no_part : (k : Kind) → kind_word k ≡ part_word → ⊥
kind_is_no_part Frame e = absurd (let d : 102 ≡ 112 = differ _ _ 0 e in omega arith)
kind_is_no_part Crc32 e = absurd (let d : 99 ≡ 112 = differ _ _ 0 e in omega arith)
kind_is_no_part Record e = absurd (let d : 114 ≡ 112 = differ _ _ 0 e in omega arith)
kind_is_no_part Flac e = absurd (let d : 102 ≡ 112 = differ _ _ 0 e in omega arith)
kind_is_no_part Plain e = absurd (let d : 108 ≡ 97 = differ _ _ 1 e in omega arith)

-- words that say what a part is
pub one_sort : (one other : Sort) → sort_words one ≡ sort_words other → one ≡ other
one_sort sorts.Frame sorts.Frame e = refl
one_sort sorts.Frame sorts.Flac e = absurd (let d : 0 ≡ 1 = ap length e in omega arith)
one_sort sorts.Flac sorts.Frame e = absurd (let d : 1 ≡ 0 = ap length e in omega arith)
one_sort sorts.Flac sorts.Flac e = refl

-- a hyphen is no number
hyphen_is_no_number : (word : List ℕ) (n : ℕ) → word ≡ codes "-" → IsNumber word n → ⊥
hyphen_is_no_number [] n e number = absurd (let d : 0 ≡ 45 = differ [] (codes "-") 0 e in omega arith)
hyphen_is_no_number (c ∷ cs) n e number =
    let range = digit_from_value c number.numeral.1.0 in
    let is : c ≡ 45 = differ (c ∷ cs) (codes "-") 0 e in
    absurd (omega (arith, range, is))

one_place : (word : List ℕ) (p q : Option ℕ) → IsPlaceWord word p → IsPlaceWord word q → p ≡ q
one_place word None None h k = refl
one_place word None (Some q) h k = absurd (hyphen_is_no_number word q h k)
one_place word (Some p) None h k = absurd (hyphen_is_no_number word p k h)
one_place word (Some p) (Some q) h k = ap Some (one_value word p q h k)

pub same_places : (words : List (List ℕ)) (ps qs : List (Option ℕ)) → AllZip IsPlaceWord words ps → AllZip IsPlaceWord words qs → ps ≡ qs
same_places [] [] [] h k = refl
same_places [] [] (q ∷ qs) h k = absurd k
same_places [] (p ∷ ps) qs h k = absurd h
same_places (w ∷ words) [] qs h k = absurd h
same_places (w ∷ words) (p ∷ ps) [] h k = absurd k
same_places (w ∷ words) (p ∷ ps) (q ∷ qs) h k =
    let first = one_place w p q h.0 k.0 in
    let rest = same_places words ps qs h.1 k.1 in
    cc

same_stretch : (s t : StretchValue) → s.kind ≡ t.kind → s.size ≡ t.size → s.from ≡ t.from → s.places ≡ t.places → s.parts ≡ t.parts → s ≡ t
same_stretch s t kinds sizes froms places parts =
    let make : Kind → ℕ → ℕ → List (Option ℕ) → List Part → StretchValue =
    λ k n m ps qs. record { kind = k; size = n; from = m; places = ps; parts = qs } in
    ap (λ k. make k s.size s.from s.places s.parts) kinds ∙ ap (λ n. make t.kind n s.from s.places s.parts) sizes
    ∙ ap (λ m. make t.kind t.size m s.places s.parts) froms ∙ ap (λ ps. make t.kind t.size t.from ps s.parts) places
    ∙ ap (make t.kind t.size t.from t.places) parts

same_part : (p q : Part) → p.start ≡ q.start → p.end ≡ q.end → p.sort ≡ q.sort → p ≡ q
same_part p q starts ends sorts =
    let make : ℕ → ℕ → Sort → Part = λ a b s. record { start = a; end = b; sort = s } in
    ap (λ a. make a p.end p.sort) starts ∙ ap (λ b. make q.start b p.sort) ends ∙ ap (make q.start q.end) sorts

-- the words of a stretch are those of no other
pub one_stretch : (copies : ℕ) (words : List (List ℕ)) (s t : StretchValue) → AreStretchWords copies words s → AreStretchWords copies words t → s ≡ t
one_stretch copies words s t a b =
    let same : kind_word s.kind ∷ a.size_word ∷ a.from_word ∷ a.place_words ≡ kind_word t.kind ∷ b.size_word ∷ b.from_word ∷ b.place_words = sym a.are ∙ b.are in
    let kind_words : kind_word s.kind ≡ kind_word t.kind = cc in
    let size_words : a.size_word ≡ b.size_word = cc in
    let from_words : a.from_word ≡ b.from_word = cc in
    let place_words : a.place_words ≡ b.place_words = cc in
    let kinds = one_kind s.kind t.kind kind_words in
    let sizes = one_value b.size_word s.size t.size (subst (λ w. IsNumber w s.size) size_words a.size) b.size in
    let froms' = one_value b.from_word (s.from + 1) (t.from + 1) (subst (λ w. IsNumber w (s.from + 1)) from_words a.from) b.from in
    let froms : s.from ≡ t.from = omega arith in
    let places = same_places b.place_words s.places t.places (subst (λ ws. AllZip IsPlaceWord ws s.places) place_words a.each) b.each in
    let parts : s.parts ≡ t.parts = a.alone ∙ sym b.alone in
    same_stretch s t kinds sizes froms places parts

pub one_part : (words : List (List ℕ)) (p q : Part) → ArePartWords words p → ArePartWords words q → p ≡ q
one_part words p q a b =
    let same : part_word ∷ a.start_word ∷ a.size_word ∷ sort_words p.sort ≡ part_word ∷ b.start_word ∷ b.size_word ∷ sort_words q.sort = sym a.are ∙ b.are in
    let start_words : a.start_word ≡ b.start_word = cc in
    let size_words : a.size_word ≡ b.size_word = cc in
    let starts = one_value b.start_word p.start q.start (subst (λ w. IsNumber w p.start) start_words a.starts) b.starts in
    let sizes = one_value b.size_word a.size b.size (subst (λ w. IsNumber w a.size) size_words a.has) b.has in
    let ends : p.end ≡ q.end = a.ends ∙ ap (λ n. n + a.size) starts ∙ ap (λ n. q.start + n) sizes ∙ sym b.ends in
    let words_of_sort : sort_words p.sort ≡ sort_words q.sort = cc in
    same_part p q starts ends (one_sort p.sort q.sort words_of_sort)

-- words that begin as a part are no stretch
pub stretch_is_no_part : (copies : ℕ) (words : List (List ℕ)) (s : StretchValue) → AreStretchWords copies words s → BeginsPart words → ⊥
stretch_is_no_part copies words s a b =
    let same : kind_word s.kind ∷ a.size_word ∷ a.from_word ∷ a.place_words ≡ part_word ∷ b.0 = sym a.are ∙ b.1 in
    kind_is_no_part s.kind (let e : kind_word s.kind ≡ part_word = cc in e)

pub part_begins : (words : List (List ℕ)) (p : Part) → ArePartWords words p → BeginsPart words
part_begins words p a = (a.start_word ∷ a.size_word ∷ sort_words p.sort, a.are)

-- ---- words as they are lent

abbrev pub now_of : Bor (List ℕ) → List ℕ
now_of word = word.now

three_parted : (words : List (Bor (List ℕ))) (d : Bor (List ℕ)) → 3 ≤ length words
    → map now_of words ≡ (get_or words 0 d).now ∷ (get_or words 1 d).now ∷ (get_or words 2 d).now ∷ map now_of (drop 3 words)
three_parted [] d long = absurd (omega arith)
three_parted (a ∷ []) d long = absurd (omega arith)
three_parted (a ∷ b ∷ []) d long = absurd (omega arith)
three_parted (a ∷ b ∷ e ∷ words) d long = refl

-- the copy FROM and the places of the stretch that words are
pub from_and_places : (words : List (Bor (List ℕ))) (d : Bor (List ℕ)) (copies : ℕ) (s : StretchValue) (places : List (Option ℕ)) → 3 ≤ length words
    → AllZip IsPlaceWord (map now_of (take (length words - 3) (drop 3 words))) places → AreStretchWords copies (map now_of words) s
    → IsNumber (get_or words 2 d).now (s.from + 1) × (s.places ≡ places)
from_and_places words d copies s places long are a =
    let rest : take (length words - 3) (drop 3 words) ≡ drop 3 words = take_all (length words - 3) (drop 3 words) (omega (arith, length-drop 3 words)) in
    let same : kind_word s.kind ∷ a.size_word ∷ a.from_word ∷ a.place_words
    ≡ (get_or words 0 d).now ∷ (get_or words 1 d).now ∷ (get_or words 2 d).now ∷ map now_of (drop 3 words) = sym a.are ∙ three_parted words d long in
    let from_words : a.from_word ≡ (get_or words 2 d).now = cc in
    let place_words : a.place_words ≡ map now_of (drop 3 words) = cc in (
      subst (λ w. IsNumber w (s.from + 1)) from_words a.from,
      same_places (map now_of (drop 3 words)) s.places places (subst (λ ws. AllZip IsPlaceWord ws s.places) place_words a.each)
          (subst (λ ws. AllZip IsPlaceWord (map now_of ws) places) rest are),
    )

first_parted : (words : List (Bor (List ℕ))) (d : Bor (List ℕ)) → 1 ≤ length words → map now_of words ≡ (get_or words 0 d).now ∷ map now_of (drop 1 words)
first_parted [] d long = absurd (omega arith)
first_parted (a ∷ words) d long = refl

-- words begin as a part where the first is its word
pub begins_as : (words : List (Bor (List ℕ))) (d : Bor (List ℕ)) → 1 ≤ length words → (b : Bool) → (IsTrue b ↔ ((get_or words 0 d).now ≡ part_word))
    → IsTrue b ↔ BeginsPart (map now_of words)
begins_as words d long b same =
    let parted = first_parted words d long in (
      λ yes. (map now_of (drop 1 words), parted ∙ ap (λ w. w ∷ map now_of (drop 1 words)) (same.0 yes)),
      λ begins.
          let both : (get_or words 0 d).now ∷ map now_of (drop 1 words) ≡ part_word ∷ begins.0 = sym parted ∙ begins.1 in
          same.1 (let e : (get_or words 0 d).now ≡ part_word = cc in e),
    )

pub now_at : (words : List (Bor (List ℕ))) (i : ℕ) (d : Bor (List ℕ)) → i < length words → get_or (map now_of words) i [] ≡ (get_or words i d).now
now_at [] i d lt = absurd (omega arith)
now_at (w ∷ words) zero d lt = refl
now_at (w ∷ words) (suc i) d lt = now_at words i d (omega arith)
