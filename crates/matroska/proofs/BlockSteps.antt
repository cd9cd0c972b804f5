-- Blocks: their parts in a content, and that a content is one at most.
use Rattle.std.proofs.Common.{◌≡◌, ℕ, ℤ, ◌<◌, ◌≤◌, List, [], ◌∷◌, ◌++◌, length, get_or, take, drop, refl, sym, ap, ◌∙◌, subst, arith}
use Rattle.std.specs.Prelude.{Option, Some, None}
use Rattle.std.specs.Int.{w16, cast_signed, from_be_bytes}
use Rattle.std.proofs.lemmas.List.{take-append-drop, drop_at, length-take-le, take_rest}
use Rattle.ebml.specs.Vint.{data_of, IsVint, HasData}
use Rattle.ebml.specs.declared.vint.VintData.{VintData}
use Rattle.ebml.proofs.Elements.{front_is, within_is}
use Rattle.ebml.proofs.Numbers.{one_vint}
use Rattle.ebml.proofs.Heads.{none_there, same_there, after}
use Rattle.matroska.specs.Blocks.{BlockValue, lacing_of, IsBlock, BlockIsOne}
use Rattle.matroska.specs.declared.block.Lacing.{Lacing}

-- what follows the track's number
pub after_number : (content : List ℕ) (block : BlockValue) (is : IsBlock content block) → drop (length is.number) content ≡ is.high ∷ is.low ∷ is.flags ∷ block.payload
after_number content block is =
    ap (drop (length is.number)) is.joined ∙ drop_at is.number (is.high ∷ is.low ∷ is.flags ∷ block.payload) (length is.number) refl

pub number_there : (content : List ℕ) (block : BlockValue) (is : IsBlock content block) → take (length is.number) content ≡ is.number
number_there content block is = front_is is.number (is.high ∷ is.low ∷ is.flags ∷ block.payload) content is.joined

pub data_there : (content : List ℕ) (block : BlockValue) (is : IsBlock content block)
    → HasData content record { value = data_of is.number; length = length is.number }
data_there content block is = record {
  short = is.short;
  room = within_is is.number (is.high ∷ is.low ∷ is.flags ∷ block.payload) content is.joined;
  is = subst IsVint (sym (number_there content block is)) is.is_vint;
  value = ap data_of (sym (number_there content block is));
}

-- the bytes after the number are three at least
pub three_after : (content : List ℕ) (block : BlockValue) (is : IsBlock content block) → 3 ≤ length (drop (length is.number) content)
three_after content block is =
    let long = ap length (after_number content block is) in omega (arith, long)

pub block_is_one : BlockIsOne
block_is_one content a b bytes is_a is_b =
    let data_a = data_there content a is_a in
    let data_b = data_there content b is_b in
    let long : length is_a.number ≡ length is_b.number =
    one_vint content (length is_b.number) (length is_a.number) bytes is_b.short is_a.short data_b.room data_a.room data_b.is data_a.is in
    let numbers : is_a.number ≡ is_b.number =
    sym (number_there content a is_a) ∙ ap (λ n. take n content) long ∙ number_there content b is_b in
    let rests : is_a.high ∷ is_a.low ∷ is_a.flags ∷ a.payload ≡ is_b.high ∷ is_b.low ∷ is_b.flags ∷ b.payload =
    sym (after_number content a is_a) ∙ ap (λ n. drop n content) long ∙ after_number content b is_b in
    let high : is_a.high ≡ is_b.high = cc in
    let low : is_a.low ≡ is_b.low = cc in
    let flags : is_a.flags ≡ is_b.flags = cc in
    let payload : a.payload ≡ b.payload = cc in
    same_block a b (is_a.track ∙ ap data_of numbers ∙ sym is_b.track)
    (is_a.time ∙ ap (λ h. cast_signed w16 (from_be_bytes w16 (h ∷ is_a.low ∷ []))) high ∙ ap (λ l. cast_signed w16 (from_be_bytes w16 (is_b.high ∷ l ∷ []))) low ∙ sym is_b.time)
    (is_a.lacing ∙ ap lacing_of flags ∙ sym is_b.lacing) payload
  where
    same_block : (a b : BlockValue) → a.track ≡ b.track → a.time ≡ b.time → a.lacing ≡ b.lacing → a.payload ≡ b.payload → a ≡ b
    same_block a b tracks times lacings payloads =
        let of : ℕ → ℤ → Lacing → List ℕ → BlockValue = λ t i l p. record { track = t; time = i; lacing = l; payload = p } in
        ap (λ t. of t a.time a.lacing a.payload) tracks ∙ ap (λ i. of b.track i a.lacing a.payload) times
        ∙ ap (λ l. of b.track b.time l a.payload) lacings ∙ ap (λ p. of b.track b.time b.lacing p) payloads

-- what the code found
pub no_number : (content : List ℕ) (result : Option VintData) → result ≡ None → ((found : VintData) → HasData content found → result ≡ Some found)
    → (block : BlockValue) → IsBlock content block → ⊥
no_number content result none only block is = none_there (HasData content) result none only _ (data_there content block is)

pub short_after : (content : List ℕ) (result : Option VintData) (found : VintData) → result ≡ Some found
    → ((found : VintData) → HasData content found → result ≡ Some found) → length (after content found.length) < 3 → (block : BlockValue) → IsBlock content block → ⊥
short_after content result found some only short block is =
    let same = same_there (HasData content) result found some only _ (data_there content block is) in
    let long : found.length ≡ length is.number = ap (λ v. v.length) same in
    let all : after content found.length ≡ drop (length is.number) content = take_rest content found.length ∙ ap (λ n. drop n content) long in
    let lengths = ap length all in
    let three = three_after content block is in omega (arith, short, lengths, three)

three_first : (xs : List ℕ) → 3 ≤ length xs → xs ≡ get_or xs 0 0 ∷ get_or xs 1 0 ∷ get_or xs 2 0 ∷ drop 3 xs
three_first [] long = absurd (omega arith)
three_first (a ∷ []) long = absurd (omega arith)
three_first (a ∷ b ∷ []) long = absurd (omega arith)
three_first (a ∷ b ∷ d ∷ xs) long = refl

pub block_there : (content : List ℕ) (found : VintData) (time given : ℤ) (lacing : Lacing) (payload : List ℕ) → HasData content found
    → 3 ≤ length (after content found.length)
    → time ≡ cast_signed w16 (from_be_bytes w16 (get_or (after content found.length) 0 0 ∷ get_or (after content found.length) 1 0 ∷ []))
    → given ≡ time → lacing ≡ lacing_of (get_or (after content found.length) 2 0)
    → payload ≡ drop 3 (after content found.length) → IsBlock content record { track = found.value; time = given; lacing = lacing; payload = payload }
block_there content found time given lacing payload has long time_is given_is lacing_is rest = record {
  number = take found.length content;
  high = get_or (after content found.length) 0 0;
  low = get_or (after content found.length) 1 0;
  flags = get_or (after content found.length) 2 0;
  joined = sym (take-append-drop found.length content) ∙ ap (λ z. take found.length content ++ z) (sym (take_rest content found.length) ∙ three_first (after content found.length) long
      ∙ ap (λ z. get_or (after content found.length) 0 0 ∷ get_or (after content found.length) 1 0 ∷ get_or (after content found.length) 2 0 ∷ z) (sym rest));
  is_vint = has.is;
  short = let fits = length-take-le found.length content has.room in let few = has.short in omega (arith, fits, few);
  track = has.value;
  time = given_is ∙ time_is;
  lacing = lacing_is;
}
