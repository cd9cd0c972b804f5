-- The first slice of a holding of any frames: it is one between keyframes where any slice is.
use Rattle.ffv1_hold.proofs.Common.{◌≡◌, ℕ, zero, suc, ◌+◌, ◌*◌, ◌<◌, ◌==◌, true, false, List, [], ◌∷◌, ◌++◌, map, length, get_or, refl, sym, ap, ◌∙◌, subst, arith, flat_map, ordering_reverse, Less, AreBytes, TileRules, RecordingValue, is_in_profile, IsSliceOf, Reel, IsReel, IsOwnReel, reel_tiles, Entry, bytes_cmp, bytes_total, entries_total, tile_slices, tile_entries, Contents, IsHolding, AreOwnEntries, digests_of, contains_item, items-rising, FileEntry, file_entries, file_entries_below, IsOfAnyFrames, CanBeFirst, TellsMagic}
use Rattle.std.specs.List.{range_with_len}
use Rattle.std.proofs.Math.Nat.{one-le-mul}
use Rattle.ffv1_range.specs.Frames.{HasKey}
use Rattle.ffv1_slice.specs.Slices.{content_of}
use Rattle.ffv1_slice.proofs.KeyframeLaws.{keyframes_sort_last}
use Rattle.ffv1_holding.specs.Sets as set
use Rattle.ffv1_range.proofs.ProfileLaws.{rules_of_profile}
use Rattle.ffv1_hold.proofs.HeldEntries.{slices_back}
use Rattle.ffv1_hold.proofs.TileTexts.{own, file_entries_below-all}
use Rattle.ffv1_hold.proofs.SavedTiles.{writable}
use Rattle.ffv1_hold.proofs.FirstSlices.{between_is_own}

-- a frame has a tile
pub some_tile : (r : Reel) → IsReel r → 0 < reel_tiles r
some_tile r is =
    let of = is.1.0 in
    let tiles = ap (λ (z : Reel). reel_tiles z) is.1.1.1 ∙ ap (λ (z : Reel). reel_tiles z) of.2
    ∙ ap (λ (z : RecordingValue). z.setup.across * z.setup.down) of.1.is in
    let product = one-le-mul {a = of.1.fields.num_h_slices_less_1 + 1} {b = of.1.fields.num_v_slices_less_1 + 1} (omega arith) (omega arith) in
    omega (arith, tiles, product)

-- the slices of the first tile are the first entries
pub first_tells : (h : Contents) → IsHolding h → (b : List ℕ) (bs : List (List ℕ)) → set.items (tile_slices h.slices 0) ≡ b ∷ bs → CanBeFirst h.reel (0, b)
    → TellsMagic h.reel (file_entries h)
first_tells h is b bs items can =
    subst (TellsMagic h.reel) (file_entries_below-all h (reel_tiles h.reel) (writable h is).tile) (go (reel_tiles h.reel) (some_tile h.reel is.reel))
  where
    go : (n : ℕ) → 0 < n → TellsMagic h.reel (file_entries_below h n)
    go zero lt = absurd (omega arith)
    go (suc n) lt =
        subst (λ xs. TellsMagic h.reel (map (own h) (map (λ c. let x : Entry = (0, c) in x) xs ++ flat_map (tile_entries h.slices) (range_with_len 1 n))))
        (sym items) can

-- a list that has a place has a first item
pub split_first : (xs : List (List ℕ)) (i : ℕ) → i < length xs → (bs : List (List ℕ)) × (xs ≡ get_or xs 0 [] ∷ bs)
split_first [] i lt = absurd (omega arith)
split_first (x ∷ xs) i lt = (xs, refl)

-- a slice of keyframes, whose bytes are bytes
abbrev pub IsKeyframe : TileRules → List ℕ → Type 0
IsKeyframe rules slice = IsSliceOf rules slice true 0 × HasKey rules (content_of slice) true × AreBytes slice

-- those before a place are
abbrev pub AreKeyframes : TileRules → List (List ℕ) → ℕ → Type 0
AreKeyframes rules items place = (i : ℕ) (d : List ℕ) → i < place → IsKeyframe rules (get_or items i d)

-- the first slice that is between keyframes stands first of all
pub between_is_first : (rules : TileRules) (s : set.SetOf bytes_cmp) (place : ℕ) (b : List ℕ) → rules.has_codes ≡ true → place < length (set.items s)
    → b ≡ get_or (set.items s) place b → AreBytes b → HasKey rules (content_of b) false → AreKeyframes rules (set.items s) place → place ≡ 0
between_is_first rules s zero b codes lt at bytes key before = refl
between_is_first rules s (suc place) b codes lt at bytes key before =
    let first = get_or (set.items s) 0 b in
    let is = before 0 b (omega arith) in
    let less = keyframes_sort_last rules b first codes bytes is.2 key is.1 in
    let rises : bytes_cmp first b ≡ Less = subst (λ x. bytes_cmp first x ≡ Less) (sym at) (items-rising s 0 (suc place) b (omega arith) lt) in
    let other = bytes_total.antisymm first b ∙ ap ordering_reverse less in
    absurd (let both = sym rises ∙ other in cc)

-- the first entry's slice is held
first_held : (h : Contents) (e : FileEntry) (es : List FileEntry) → file_entries h ≡ e ∷ es → set.contains h.slices e.0 ≡ true
unfolding file_entries
first_held h e es same =
    let items = sym (slices_back (digests_of h) (set.items h.slices)) ∙ ap (map (λ (x : FileEntry). x.0)) same in
    subst (λ q. set.contains h.slices q ≡ true) (ap (λ xs. get_or xs 0 e.0) items)
    (contains_item entries_total h.slices 0 e.0 (omega (arith, ap length items)))

-- a record of the profile has codes
pub profile_codes : (r own : Reel) → IsOwnReel own r → own.rules.is_profile ≡ true → own.rules.has_codes ≡ true
profile_codes r own is profile =
    let of : is_in_profile is.0.0 ≡ true = ap (λ (x : Reel). x.rules.is_profile) (sym is.0.2) ∙ profile in
    ap (λ (x : Reel). x.rules.has_codes) is.0.2 ∙ ap (λ (x : TileRules). x.has_codes) (rules_of_profile is.0.0 of)

-- a holding whose slices are by the record's own rules does not tell
pub own_untold : (h : Contents) → IsHolding h → IsOfAnyFrames h.reel → AreOwnEntries h → TellsMagic h.reel (file_entries h) → ⊥
own_untold h is wide own tells = go (file_entries h) refl tells
  where
    go : (es : List FileEntry) → file_entries h ≡ es → TellsMagic h.reel es → ⊥
    go [] same none = none wide
    go (e ∷ es) same can =
        let first = can wide in
        let held = first_held h e es same in
        let of_own = (own wide.1.0 wide.1.1 e.0 held).slice in
        let of_first = subst (λ t. IsSliceOf wide.1.0.rules e.0.1 (t == 0) t) first.0 of_own in
        between_is_own h.reel wide.1.0 wide.1.1 wide e.0.1 first.1 of_first
