-- Items of a file that are passed, and where they lie.
use Rattle.std.proofs.Common.{◌≡◌, ℕ, ◌+◌, ◌-◌, ◌^◌, ◌<◌, true, false, List, [], ◌++◌, length, refl, sym, ap, ◌∙◌, subst, arith, inl, inr}
use Rattle.std.specs.Prelude.{◌⊎◌, ◌≢◌, Option, Some, None}
use Rattle.std.proofs.lemmas.List.{length-append, drop_at}
use Rattle.ffv1_devices.specs.Logs.{ReadLog}
use Rattle.ebml.specs.Items.{ItemValue, bytes_of_items}
use Rattle.ebml.specs.declared.head.Head.{Head}
use Rattle.ebml.specs.declared.items.Kind.{Kind}
use Rattle.ebml.specs.declared.items.Kind.TheVariants as kind
use Rattle.ebml_reader.specs.declared.fault.ReaderFault.{ReaderFault}
use Rattle.ebml_reader.specs.declared.starts.ItemStart.{ItemStart}
use Rattle.ebml_reader.specs.Reader.{Held, ReaderState, StandsAfter, GivesItem, IsFault}
use Rattle.ebml_reader.specs.Intake.{Passes, IsBounded}
use Rattle.ebml_reader.specs.Pieces.{PassesUpTo}
use Rattle.ebml_reader.specs.Starts.{IsStartOf, StartsItem, EndsItem, PassesItemOf}
use Rattle.ebml_reader.proofs.Steps.{fault-after}
use Rattle.ebml_reader.proofs.Given.{fault_given}
use Rattle.ebml_reader.proofs.StartSteps.{item_passed, stands_passed}
use Rattle.matroska_parts.specs.ItemParts.{is_tracks, content_by}
use Rattle.matroska_parts.specs.StreamedParts.{IsPlacedAt}
use Rattle.matroska_parts.specs.SourceParts.{FindsTracks}
use Rattle.matroska_parts.specs.declared.tracks_search.FoundTracks.{FoundTracks}
use Rattle.ebml.proofs.ItemList.{some_bytes}
use Rattle.matroska_parts.proofs.ReadSteps.{NoTracks, other_item, tracks_there}

-- ---- places

pub placed_after : (n : ℕ) (bytes : List ℕ) (old new : Held) (x y : ReadLog) → Passes bytes old new x y → IsPlacedAt n old → IsPlacedAt (n + length bytes) new
placed_after n bytes old new x y passes placed =
    omega (arith, placed, passes.counted, ap length passes.joined, length-append old.bytes passes.read, length-append bytes new.bytes)

pub placed_room : (n : ℕ) (held : Held) → IsPlacedAt n held → IsBounded held → n < 2 ^ 63
placed_room n held placed bounded = let limit = bounded.limit in omega (arith, placed, limit)

pub placed_items : (first now : ReadLog) (items : List ItemValue) (held : Held) (place : ℕ) → StandsAfter first items held now → place ≡ length (bytes_of_items items)
    → IsPlacedAt place held
placed_items first now items held place stands at = omega (arith, at, stands.counted, length-append (bytes_of_items items) held.bytes)

-- ---- an item that was passed is given

abbrev pub given_of : Kind → List ℕ → List ℕ
given_of (kind.Segment head) bytes = bytes
given_of (kind.Element head) bytes = bytes
given_of (kind.Endless head) bytes = bytes
given_of kind.Unknown bytes = []

pub given_known : (k : Kind) (bytes : List ℕ) → (k ≢ kind.Unknown) → given_of k bytes ≡ bytes
given_known (kind.Segment head) bytes known = refl
given_known (kind.Element head) bytes known = refl
given_known (kind.Endless head) bytes known = refl
given_known kind.Unknown bytes known = absurd (known refl)

pub given_none : (k : Kind) (bytes : List ℕ) → k ≡ kind.Unknown → given_of k bytes ≡ []
given_none (kind.Segment head) bytes is = absurd cc
given_none (kind.Element head) bytes is = absurd cc
given_none (kind.Endless head) bytes is = absurd cc
given_none kind.Unknown bytes is = refl

abbrev pub reading_of : Kind → List ℕ → Held → ReaderState
reading_of k item held = record { given = given_of k item; held = held }

abbrev pub gives_passed : (first x y : ReadLog) (items : List ItemValue) (k : Kind) (item : List ℕ) (long : ℕ) (old new : Held) → StandsAfter first items old x
    → PassesItemOf k item old new x y → long ≡ length item
    → GivesItem first items record { kind = k; length = long } (reading_of k item new) y
gives_passed first x y items k item long old new stands passes counted = record {
  bytes = item;
  long = counted;
  given = given_known k item;
  none = given_none k item;
  few = passes.bounded.limit;
  stands = stands_passed first x y items k item old new stands passes;
}

-- a start, and what follows it
module _ (start : ItemStart) (old mid new : Held) (x y z : ReadLog) (starts : StartsItem start old mid x y) where
  pub whole_passed : (rest : List ℕ) → EndsItem start.kind rest mid new y z → PassesItemOf start.kind (starts.bytes ++ rest) old new x z
  whole_passed rest ends = item_passed starts.bytes rest old mid new x y z starts.passes starts.bounded start.kind starts.is ends

  pub whole_long : (rest : List ℕ) (n : ℕ) → n ≡ length rest → start.length + n ≡ length (starts.bytes ++ rest)
  whole_long rest n counted = let long = starts.long in omega (arith, long, counted, length-append starts.bytes rest)

-- a fault within an item
pub fault_within : (fault : ReaderFault) (first x y z : ReadLog) (items : List ItemValue) (p : List ℕ) (old mid : Held) → StandsAfter first items old x → Passes p old mid x y
    → IsFault fault mid.taken y z → IsFault fault 0 first z
fault_within fault first x y z items p old mid stands passes is =
    fault_given fault first x z items old stands (fault-after fault p old mid x y z passes is)

-- ---- the search for the first Tracks

abbrev pub NoTracksIn : ReadLog → Held → ReadLog → ℕ → Type 0
NoTracksIn first held now place = NoTracks first record { given = []; held = held } now place

module _ (first x y z : ReadLog) (place : ℕ) (start : ItemStart) (old mid new : Held) (so_far : NoTracksIn first old x place) (starts : StartsItem start old mid x y)
    (rest : List ℕ) (ends : EndsItem start.kind rest mid new y z) where
  abbrev gives : (n : ℕ) → n ≡ length rest
      → GivesItem first so_far.items record { kind = start.kind; length = start.length + n } (reading_of start.kind (starts.bytes ++ rest) new) z
  gives n counted =
      gives_passed first x z so_far.items start.kind (starts.bytes ++ rest) (start.length + n) old new so_far.stands (whole_passed start old mid new x y z starts rest ends)
      (whole_long start old mid new x y z starts rest n counted)

  placed_end : (n : ℕ) → n ≡ length rest → place + (start.length + n) < 2 ^ 63
  placed_end n counted =
      let passes = whole_passed start old mid new x y z starts rest ends in
      let placed = placed_after place (starts.bytes ++ rest) old new x z passes.passes (placed_items first x so_far.items old place so_far.stands so_far.at) in
      let room = placed_room (place + length (starts.bytes ++ rest)) new placed passes.bounded in
      omega (arith, room, whole_long start old mid new x y z starts rest n counted)

  pub search_room : (n : ℕ) → n ≡ length rest → place + (start.length + n) < 2 ^ 63
  search_room n counted = placed_end n counted

  pub search_less : (n : ℕ) → n ≡ length rest → 2 ^ 63 - (place + (start.length + n)) < 2 ^ 63 - place
  search_less n counted =
      let some = some_bytes start.kind (starts.bytes ++ rest) (new.bytes ++ []) ((whole_passed start old mid new x y z starts rest ends).is [] (λ _. refl)) in
      let long = whole_long start old mid new x y z starts rest n counted in
      let room = placed_end n counted in
      omega (arith, some, long, room)

  pub search_on : (n : ℕ) → n ≡ length rest → is_tracks start.kind ≡ false → NoTracksIn first new z (place + (start.length + n))
  search_on n counted isnt =
      let next = other_item first place record { kind = start.kind; length = start.length + n } record { given = []; held = old } (reading_of start.kind (starts.bytes ++ rest) new) x z
      so_far (gives n counted) isnt in
      record { items = next.items; stands = next.stands; at = next.at; none = next.none }

  pub search_found : (head : Head) → start.kind ≡ kind.Element head → is_tracks start.kind ≡ true → (tracks : FoundTracks) → tracks.place ≡ Some place
      → tracks.content.items ≡ rest → FindsTracks tracks first z
  search_found head is_element is tracks placed content =
      let begins : IsStartOf (kind.Element head) starts.bytes mid = subst (λ k. IsStartOf k starts.bytes mid) is_element starts.is in
      let same : content_by start.kind (starts.bytes ++ rest) ≡ rest =
      ap (λ k. content_by k (starts.bytes ++ rest)) is_element ∙ drop_at starts.bytes rest head.length begins.3 in
      tracks_there first place record { kind = start.kind; length = start.length + length rest } record { given = []; held = old }
      (reading_of start.kind (starts.bytes ++ rest) new) x z so_far (gives (length rest) refl) is tracks placed (content ∙ sym same)

pub no_size : (k : Kind) (bytes : List ℕ) (held : Held) → IsStartOf k bytes held → (is_tracks k ≡ false) ⊎ ((head : Head) × (k ≡ kind.Element head) × (head.size ≡ None))
    → is_tracks k ≡ false
no_size k bytes held is (inl isnt) = isnt
no_size k bytes held is (inr unsized) =
    let begins : IsStartOf (kind.Element unsized.0) bytes held = subst (λ j. IsStartOf j bytes held) unsized.1 is in
    let both : ◌≡◌ {A = Option ℕ} None (Some begins.2.0) = sym unsized.2 ∙ begins.2.1 in absurd cc

pub tracks_ends : (k : Kind) (head : Head) (size : ℕ) (content : List ℕ) (old new : Held) (x y : ReadLog) → k ≡ kind.Element head → head.size ≡ Some size
    → PassesUpTo size content old new x y → EndsItem k content old new x y
tracks_ends k head size content old new x y is_element sized passes =
    subst (λ j. EndsItem j content old new x y) (sym is_element)
    (λ other known. let same : Some size ≡ Some other = sym sized ∙ known in let one : size ≡ other = cc in subst (λ n. PassesUpTo n content old new x y) one passes)
