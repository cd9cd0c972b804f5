-- The items of a file, one after the other: the first Tracks, and the parts so far.
use Rattle.std.proofs.Common.{◌≡◌, ℕ, ◌+◌, ◌<◌, ◌≤◌, Bool, true, false, cond, List, [], ◌∷◌, ◌++◌, length, take, drop, refl, sym, ap, ◌∙◌, subst, arith}
use Rattle.std.specs.Prelude.{Option, Some, None}
use Rattle.std.proofs.lemmas.List.{append_assoc, append-nil, length-append, length-drop, length-take-le, take-append-drop, take_all, drop_all, drop-drop, drop_at}
use Rattle.std.proofs.Math.Seq.{take-add}
use Rattle.ebml.specs.Items.{ItemValue, IsItem, bytes_of_items, AreItems, EachBefore}
use Rattle.ebml.specs.declared.items.Kind.{Kind}
use Rattle.ebml.proofs.ItemList.{some_bytes, bytes_of_snoc, each_snoc, each_to_end}
use Rattle.matroska.specs.declared.track.Track.{Track}
use Rattle.matroska_parts.specs.declared.parts.Part.{Part}
use Rattle.matroska_parts.proofs.MasterSteps.{same_some}
use Rattle.matroska_parts.specs.ItemParts.{PlacedContent, is_tracks, content_by, first_tracks, AreItemPartsBy, AreItemParts}
use Rattle.matroska_parts.specs.Inner.Added.{AddsParts}
use Rattle.matroska_parts.specs.Inner.PartsSoFar.{PartsSoFar, IsFirstOfRest}

-- ---- the first Tracks

abbrev pub IsOnlyItem : List ℕ → Kind → ℕ → Type 0
IsOnlyItem bytes kind n = (k : Kind) (item following : List ℕ) → bytes ≡ item ++ following → IsItem k item following → (k ≡ kind) × (item ≡ take n bytes)

-- what is left begins with the next item
pub next_of_rest : (file : List ℕ) (place n : ℕ) (k : Kind) (left : List ItemValue) → place < length file → n ≤ length (drop place file)
    → IsOnlyItem (drop place file) k n → AreItems (drop place file) left
    → (more : List ItemValue) × AreItems (drop (place + n) file) more
    × (first_tracks place left ≡ cond (is_tracks k) (Some record { place = place; content = content_by k (take n (drop place file)) }) (first_tracks (place + n) more))
next_of_rest file place n k [] within room only are =
    let long = ap length are.joined in absurd (omega (arith, long, length-drop place file, within))
next_of_rest file place n k (i ∷ more) within room only are =
    let one = only i.kind i.bytes (bytes_of_items more) are.joined are.each.0 in
    let size : length i.bytes ≡ n = ap length one.1 ∙ length-take-le n (drop place file) room in
    let rest : drop (place + n) file ≡ bytes_of_items more =
    sym (drop-drop n place file) ∙ ap (drop n) are.joined ∙ drop_at i.bytes (bytes_of_items more) n size in (
      more,
      record { joined = rest; each = are.each.1 },
      ap (λ z. cond (is_tracks z) (Some record { place = place; content = content_by z i.bytes }) (first_tracks (place + length i.bytes) more)) one.0
          ∙ ap (λ z. cond (is_tracks k) (Some record { place = place; content = content_by k z }) (first_tracks (place + length i.bytes) more)) one.1
          ∙ ap (λ m. cond (is_tracks k) (Some record { place = place; content = content_by k (take n (drop place file)) }) (first_tracks (place + m) more)) size,
    )

pub other_passed : (file : List ℕ) (place n : ℕ) (k : Kind) → IsFirstOfRest file place → place < length file → n ≤ length (drop place file)
    → IsOnlyItem (drop place file) k n → is_tracks k ≡ false → IsFirstOfRest file (place + n)
other_passed file place n k so_far within room only isnt items are =
    let left = so_far items are in
    let next = next_of_rest file place n k left.0 within room only left.1 in
    (next.0, next.1, left.2 ∙ next.2 ∙ ap (λ b. cond b (Some record { place = place; content = content_by k (take n (drop place file)) }) (first_tracks (place + n) next.0)) isnt)

pub tracks_passed : (file : List ℕ) (place n : ℕ) (k : Kind) → IsFirstOfRest file place → place < length file → n ≤ length (drop place file)
    → IsOnlyItem (drop place file) k n → is_tracks k ≡ true → (items : List ItemValue) → AreItems file items
    → Some record { place = place; content = content_by k (take n (drop place file)) } ≡ first_tracks 0 items
tracks_passed file place n k so_far within room only is items are =
    let left = so_far items are in
    let next = next_of_rest file place n k left.0 within room only left.1 in
    sym (left.2 ∙ next.2 ∙ ap (λ b. cond b (Some record { place = place; content = content_by k (take n (drop place file)) }) (first_tracks (place + n) next.0)) is)

no_items : (left : List ItemValue) → AreItems [] left → left ≡ []
no_items [] are = refl
no_items (i ∷ more) are =
    let some = some_bytes i.kind i.bytes (bytes_of_items more) are.each.0 in
    let long = ap length are.joined in absurd (omega (arith, some, long, length-append i.bytes (bytes_of_items more)))

pub none_passed : (file : List ℕ) (place : ℕ) → IsFirstOfRest file place → length file ≤ place → (items : List ItemValue) → AreItems file items → None ≡ first_tracks 0 items
none_passed file place so_far end items are =
    let left = so_far items are in
    let none = no_items left.0 (subst (λ z. AreItems z left.0) (drop_all place file end) left.1) in
    sym (left.2 ∙ ap (first_tracks place) none)

-- ---- the parts so far

pub items_snoc : (found : Option PlacedContent) (tracks : List Track) (place : ℕ) (items : List ItemValue) (parts : List Part) (item : ItemValue) (more : List Part)
    → AreItemParts found tracks place items parts → AreItemPartsBy item.kind found tracks (place + length (bytes_of_items items)) item.bytes more
    → AreItemParts found tracks place (items ++ item ∷ []) (parts ++ more)
items_snoc found tracks place [] parts item more have has =
    let at : place + 0 ≡ place = omega arith in
    (more, [], ap (λ z. z ++ more) have ∙ sym (append-nil more), subst (λ p. AreItemPartsBy item.kind found tracks p item.bytes more) at has, refl)
items_snoc found tracks place (i ∷ is) parts item more have has =
    let at : place + length (bytes_of_items (i ∷ is)) ≡ place + length i.bytes + length (bytes_of_items is) = omega (arith, length-append i.bytes (bytes_of_items is)) in (
      have.0,
      have.1 ++ more,
      ap (λ z. z ++ more) have.2 ∙ append_assoc have.0 have.1 more,
      have.3,
      items_snoc found tracks (place + length i.bytes) is have.1 item more have.4 (subst (λ p. AreItemPartsBy item.kind found tracks p item.bytes more) at has),
    )

pub no_parts : (found : Option PlacedContent) (tracks : List Track) (file : List ℕ) → PartsSoFar found tracks file 0 []
no_parts found tracks file = record { items = []; joined = refl; each = tt; have = refl }

pub one_item_more : (found : Option PlacedContent) (tracks : List Track) (file : List ℕ) (place n : ℕ) (k : Kind) (parts new : List Part) → place ≤ length file
    → n ≤ length (drop place file) → PartsSoFar found tracks file place parts → IsItem k (take n (drop place file)) (drop n (drop place file))
    → AddsParts (AreItemPartsBy k found tracks place (take n (drop place file))) parts new → PartsSoFar found tracks file (place + n) new
one_item_more found tracks file place n k parts new within room so_far is adds =
    let item : ItemValue = record { kind = k; bytes = take n (drop place file) } in
    let rest : drop n (drop place file) ≡ drop (place + n) file = drop-drop n place file in
    let long : place ≡ 0 + length (bytes_of_items so_far.items) = omega (arith, ap length so_far.joined, length-take-le place file within) in
    let is_item : IsItem k (take n (drop place file)) (drop (place + n) file) = subst (IsItem k (take n (drop place file))) rest is in
    let before : EachBefore so_far.items (take n (drop place file) ++ drop (place + n) file) =
    subst (EachBefore so_far.items) (sym (take-append-drop n (drop place file)) ∙ ap (λ z. take n (drop place file) ++ z) rest) so_far.each in
    record {
      items = so_far.items ++ record { kind = k; bytes = take n (drop place file) } ∷ [];
      joined = take-add place n file ∙ ap (λ z. z ++ take n (drop place file)) so_far.joined
          ∙ sym (bytes_of_snoc so_far.items record { kind = k; bytes = take n (drop place file) });
      each = each_snoc so_far.items record { kind = k; bytes = take n (drop place file) } (drop (place + n) file) before is_item;
      have = subst (AreItemParts found tracks 0 (so_far.items ++ record { kind = k; bytes = take n (drop place file) } ∷ [])) (sym adds.1)
          (items_snoc found tracks 0 so_far.items parts record { kind = k; bytes = take n (drop place file) } adds.0 so_far.have
          (subst (λ p. AreItemPartsBy k found tracks p (take n (drop place file)) adds.0) long adds.2));
    }

pub all_parts : (found : Option PlacedContent) (tracks : List Track) (file : List ℕ) (place : ℕ) (parts : List Part) → PartsSoFar found tracks file place parts
    → length file ≤ place → (items : List ItemValue) × AreItems file items × AreItemParts found tracks 0 items parts
all_parts found tracks file place parts so_far end = (
  so_far.items,
  record {
    joined = sym (take_all place file end) ∙ so_far.joined;
    each = each_to_end so_far.items (subst (EachBefore so_far.items) (drop_all place file end) so_far.each);
  },
  so_far.have,
)

-- ---- as the code has them

pub tracks_by : {X : Type 0} (b : Bool) (x y : X) → Some x ≡ cond b (Some y) None → (b ≡ true) × (x ≡ y)
tracks_by true x y e = (refl, same_some x y e)
tracks_by false x y e = cc

pub no_tracks_by : {X : Type 0} (b : Bool) (y : X) → None ≡ cond b (Some y) None → b ≡ false
no_tracks_by true y e = cc
no_tracks_by false y e = refl
