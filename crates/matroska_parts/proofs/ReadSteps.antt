-- The items that were read of a file, by all that it has: the first Tracks, and the parts so far.
use Rattle.std.proofs.Common.{◌≡◌, ℕ, ◌+◌, Bool, true, false, cond, List, [], ◌∷◌, ◌++◌, length, refl, sym, ap, ◌∙◌, subst, arith, inl, inr, zero-add}
use Rattle.std.specs.Prelude.{IsTrue, Option, Some, None, option_map}
use Rattle.std.proofs.lemmas.List.{append_assoc, append-nil, append_cancel_left, length-append}
use Rattle.ffv1_bits.specs.Parity.{AreBytes}
use Rattle.ffv1_bits.proofs.Bytes.{AreBytes-rest}
use Rattle.ffv1_devices.specs.Logs.{ReadLog}
use Rattle.ebml.specs.Items.{ItemValue, IsItem, bytes_of_items, AreItems, EachBefore}
use Rattle.ebml.proofs.ItemList.{some_bytes, one_item, same_item, items_are_one, bytes_of_snoc}
use Rattle.ebml_reader.specs.Reader.{ReaderState, StandsAfter, AreAllItems, GivesItem}
use Rattle.ebml_reader.specs.declared.settled.FoundItem.{FoundItem}
use Rattle.matroska_parts.specs.declared.tracks_search.FoundTracks.{FoundTracks}
use Rattle.matroska_parts.specs.ItemParts.{PlacedContent, is_tracks, content_by, first_tracks}
use Rattle.matroska_parts.specs.Inner.Firsts.{SaysWhere}
use Rattle.matroska_parts.specs.SourceParts.{found_in, IsFirstTracksOf, FindsTracks}

-- ---- items by what was given of them

last_item : (items : List ItemValue) (item : ItemValue) (rest : List ℕ) → EachBefore (items ++ item ∷ []) rest → IsItem item.kind item.bytes rest
last_item [] item rest each = each.0
last_item (x ∷ xs) item rest each = last_item xs item rest each.1

abbrev pub item_of : FoundItem → List ℕ → ItemValue
item_of found bytes = record { kind = found.kind; bytes = bytes }

module _ (first : ReadLog) (items : List ItemValue) (found : FoundItem) (reading : ReaderState) (now : ReadLog) (gives : GivesItem first items found reading now) where
  pub given_is : IsItem found.kind gives.bytes (reading.held.bytes ++ [])
  given_is = last_item items (item_of found gives.bytes) (reading.held.bytes ++ []) (gives.stands.each [] (λ _. refl))

  long_with : length (bytes_of_items (items ++ item_of found gives.bytes ∷ [])) ≡ length (bytes_of_items items) + length gives.bytes
  long_with = ap length (bytes_of_snoc items (item_of found gives.bytes)) ∙ length-append (bytes_of_items items) gives.bytes

  pub place_after : (place : ℕ) → place ≡ length (bytes_of_items items) → place + found.length ≡ length (bytes_of_items (items ++ item_of found gives.bytes ∷ []))
  place_after place at = let long = gives.long in let all = long_with in omega (arith, at, long, all)

-- ---- the items of a file begin with those that were given

pub begins_with : (items : List ItemValue) (rest : List ℕ) (all : List ItemValue) → AreBytes (bytes_of_items items ++ rest) → EachBefore items rest
    → AreItems (bytes_of_items items ++ rest) all → (left : List ItemValue) × AreItems rest left × (all ≡ items ++ left)
begins_with [] rest all bytes each are = (all, are, refl)
begins_with (x ∷ xs) rest [] bytes each are =
    let some = some_bytes x.kind x.bytes (bytes_of_items xs ++ rest) each.0 in
    let long = ap length are.joined in
    absurd (omega (arith, some, long, length-append x.bytes (bytes_of_items xs), length-append (x.bytes ++ bytes_of_items xs) rest))
begins_with (x ∷ xs) rest (b ∷ bs) bytes each are =
    let file : List ℕ = bytes_of_items (x ∷ xs) ++ rest in
    let at : bytes_of_items (x ∷ xs) ++ rest ≡ x.bytes ++ (bytes_of_items xs ++ rest) = append_assoc x.bytes (bytes_of_items xs) rest in
    let one = one_item (bytes_of_items (x ∷ xs) ++ rest) x.bytes (bytes_of_items xs ++ rest) b.bytes (bytes_of_items bs) x.kind b.kind bytes at are.joined each.0 are.each.0 in
    let same : x ≡ b = same_item x b one.0 one.1 in
    let rests : bytes_of_items xs ++ rest ≡ bytes_of_items bs =
    append_cancel_left b.bytes (bytes_of_items xs ++ rest) (bytes_of_items bs) (ap (λ z. z ++ (bytes_of_items xs ++ rest)) (sym one.1) ∙ sym at ∙ are.joined) in
    let left : AreBytes (bytes_of_items xs ++ rest) =
    AreBytes-rest x.bytes (bytes_of_items xs ++ rest) (subst AreBytes at bytes) in
    let more = begins_with xs rest bs left each.1 record { joined = rests; each = are.each.1 } in
    (more.0, more.1, ap (λ z. z ∷ bs) (sym same) ∙ ap (λ z. x ∷ z) more.2)

-- ---- the first Tracks

abbrev IsFurther : ℕ → List ItemValue → List ItemValue → Type 0
IsFurther place items left = first_tracks place items ≡ None → first_tracks place (items ++ left) ≡ first_tracks (place + length (bytes_of_items items)) left

first_by : (place : ℕ) (x : ItemValue) (xs left : List ItemValue) (b : Bool) → is_tracks x.kind ≡ b → IsFurther (place + length x.bytes) xs left
    → IsFurther place (x ∷ xs) left
first_by place x xs left true is further none =
    let there : ◌≡◌ {A = Option PlacedContent} (Some record { place = place; content = content_by x.kind x.bytes }) None =
    sym (ap (λ b. cond b (Some record { place = place; content = content_by x.kind x.bytes }) (first_tracks (place + length x.bytes) xs)) is) ∙ none in
    absurd cc
first_by place x xs left false is further none =
    let rest : first_tracks (place + length x.bytes) xs ≡ None =
    sym (ap (λ b. cond b (Some record { place = place; content = content_by x.kind x.bytes }) (first_tracks (place + length x.bytes) xs)) is) ∙ none in
    ap (λ b. cond b (Some record { place = place; content = content_by x.kind x.bytes }) (first_tracks (place + length x.bytes) (xs ++ left))) is
    ∙ further rest ∙ ap (λ p. first_tracks p left) (omega (arith, length-append x.bytes (bytes_of_items xs)))

first_further : (place : ℕ) (items left : List ItemValue) → IsFurther place items left
first_further place [] left none = ap (λ p. first_tracks p left) (omega arith)
first_further place (x ∷ xs) left none = first_by place x xs left (is_tracks x.kind) refl (first_further (place + length x.bytes) xs left) none

-- the Tracks so far: none
pub record NoTracks (first : ReadLog) (reading : ReaderState) (now : ReadLog) (place : ℕ) : Type 0 where
  pub items : List ItemValue
  pub stands : StandsAfter first items reading.held now
  pub at : place ≡ length (bytes_of_items items)
  pub none : first_tracks 0 items ≡ None

one_first : (place : ℕ) (item : ItemValue) (left : List ItemValue) (b : Bool) → is_tracks item.kind ≡ b
    → first_tracks place (item ∷ left) ≡ cond b (Some record { place = place; content = content_by item.kind item.bytes }) (first_tracks (place + length item.bytes) left)
one_first place item left b is =
    ap (λ b. cond b (Some record { place = place; content = content_by item.kind item.bytes }) (first_tracks (place + length item.bytes) left)) is

pub other_item : (first : ReadLog) (place : ℕ) (found : FoundItem) (old reading : ReaderState) (before now : ReadLog) (so_far : NoTracks first old before place)
    → GivesItem first so_far.items found reading now → is_tracks found.kind ≡ false → NoTracks first reading now (place + found.length)
other_item first place found old reading before now so_far gives isnt = record {
  items = so_far.items ++ item_of found gives.bytes ∷ [];
  stands = gives.stands;
  at = place_after first so_far.items found reading now gives place so_far.at;
  none = first_further 0 so_far.items (item_of found gives.bytes ∷ []) so_far.none ∙ one_first _ (item_of found gives.bytes) [] false isnt;
}

-- what was read of the file, and its items, whatever follows
module _ (first : ReadLog) (place : ℕ) (found : FoundItem) (old reading : ReaderState) (before now : ReadLog) (so_far : NoTracks first old before place)
    (gives : GivesItem first so_far.items found reading now) (is : is_tracks found.kind ≡ true) (tracks : FoundTracks)
    (placed : tracks.place ≡ Some place) (content : tracks.content.items ≡ content_by found.kind gives.bytes) where
  abbrev given : List ItemValue
  given = so_far.items ++ item_of found gives.bytes ∷ []

  abbrev read : List ℕ
  read = bytes_of_items given ++ reading.held.bytes

  found_is : found_in tracks ≡ Some record { place = place; content = content_by found.kind gives.bytes }
  found_is =
      ap (λ o. option_map (λ p. let v : PlacedContent = record { place = p; content = tracks.content.items } in v) o) placed
      ∙ ap (λ c. Some (let v : PlacedContent = record { place = place; content = c } in v)) content

  first_of : (more : List ℕ) → (IsTrue reading.held.ended → more ≡ []) → IsFirstTracksOf (found_in tracks) (read ++ more)
  first_of more ends = λ all bytes are.
      let joined : read ++ more ≡ bytes_of_items given ++ (reading.held.bytes ++ more) = append_assoc (bytes_of_items given) reading.held.bytes more in
      let split = begins_with given (reading.held.bytes ++ more) all (subst AreBytes joined bytes) (gives.stands.each more ends) (subst (λ l. AreItems l all) joined are) in
      found_is
      ∙ ap (λ p. Some (let v : PlacedContent = record { place = p; content = content_by found.kind gives.bytes } in v)) so_far.at
      ∙ sym (one_first (length (bytes_of_items so_far.items)) (item_of found gives.bytes) split.0 true is)
      ∙ sym (first_further 0 so_far.items (item_of found gives.bytes ∷ split.0) so_far.none ∙ ap (λ p. first_tracks p (item_of found gives.bytes ∷ split.0)) (zero-add (length (bytes_of_items so_far.items))))
      ∙ ap (first_tracks 0) (sym (append_assoc so_far.items (item_of found gives.bytes ∷ []) split.0)) ∙ ap (first_tracks 0) (sym split.2)

  finds : (ended : Bool) → reading.held.ended ≡ ended → FindsTracks tracks first now
  finds false open' = record { read = read; reads = gives.stands.reads; is = inl (λ more. first_of more (λ end. let e : true ≡ false = sym end ∙ open' in absurd cc)) }
  finds true ended = record {
    read = read;
    reads = gives.stands.reads;
    is = inr (gives.stands.end ended, subst (IsFirstTracksOf (found_in tracks)) (append-nil read) (first_of [] (λ _. refl)));
  }

  pub tracks_there : FindsTracks tracks first now
  tracks_there = finds reading.held.ended refl

pub no_tracks_there : (first : ReadLog) (place : ℕ) (old : ReaderState) (before now : ReadLog) (so_far : NoTracks first old before place) (tracks : FoundTracks)
    → tracks.place ≡ None → AreAllItems first so_far.items now → FindsTracks tracks first now
no_tracks_there first place old before now so_far tracks none are = record {
  read = bytes_of_items so_far.items;
  reads = are.reads;
  is = inr (
    are.end,
    λ all bytes is.
        let same : all ≡ so_far.items = items_are_one (bytes_of_items so_far.items) all so_far.items bytes is are.are in
        ap (λ o. option_map (λ p. let v : PlacedContent = record { place = p; content = tracks.content.items } in v) o) none
        ∙ sym so_far.none ∙ ap (first_tracks 0) (sym same),
  );
}

-- ---- as the code has them

said_by : (place : Option ℕ) (content : List ℕ)
    → place ≡ option_map (λ (it : PlacedContent). it.place) (option_map (λ (p : ℕ). let v : PlacedContent = record { place = p; content = content } in v) place)
said_by None content = refl
said_by (Some place) content = refl

pub said : (found : FoundTracks) → SaysWhere found.place (found_in found)
said found = said_by found.place found.content.items
