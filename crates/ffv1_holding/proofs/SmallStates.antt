-- A tile of a holding of copies is settled by the slice by which the copies settle it, so what is restored is the same.
use Rattle.std.proofs.Common.{◌≡◌, ℕ, zero, suc, ◌<◌, ◌≤◌, nat_le, Bool, true, false, cond, ◌&&◌, ◌⊎◌, List, [], ◌∷◌, map, get_or, Contains, refl, sym, ap, ◌∙◌, subst, inl, inr, arith}
use Rattle.std.specs.List.{filter, list_all, flat_map, range_with_len}
use Rattle.std.specs.Cmp.{tied_itself}
use Rattle.std.specs.declared.cmp.Ordering.TheVariants.{Less, Equal}
use Rattle.std.proofs.lemmas.Bool.{and_parts, and_from, leb-true, le-leb, leb-false}
use Rattle.std.proofs.lemmas.List.{same_lists}
use Rattle.std.proofs.lemmas.List.Folds.{flat_map-map}
use Rattle.std.proofs.lemmas.List.FromFn.{get_or-map-range_with_len, length-map-range_with_len}
use Rattle.ffv1_slice.proofs.Links.{Contains-head, Contains-cons}
use Rattle.ffv1_holding.specs.SliceOrder.{entry_cmp, bytes_cmp, bytes_total, bytes_antisymmetric}
use Rattle.ffv1_holding.specs.Sets as set
use Rattle.ffv1_holding.specs.Rising.{IsRising}
use Rattle.ffv1_holding.specs.Reels.{Reel, reel_tiles}
use Rattle.ffv1_holding.specs.Contents.{Contents, slices_of_copies, holding_of}
use Rattle.ffv1_holding.specs.TileSets.{tile_slices}
use Rattle.ffv1_holding.specs.TileState.{StateOfTile, missing, settled, disputed, status_of, best_slices, state_of_best, tile_state_of, tile_state, settled_bytes, IsSettled as IsSettledState, AreSettled, restored_payload}
use Rattle.ffv1_holding.specs.Small.{error_status, IsFound, IsSettledBy, IsRestoredFrom}
use Rattle.ffv1_holding.specs.SmallNotions.{tile_by, FoundIsHeld, RestoredIsOfHolding}
use Rattle.ffv1_holding.proofs.RisingSets.{rising_rest}
use Rattle.ffv1_holding.proofs.ItemsRise.{items-rising}
use Rattle.ffv1_holding.proofs.Tiles.{contains-tile_slices}
use Rattle.ffv1_holding.proofs.SettledSlices.{only_best}
use Rattle.ffv1_holding.proofs.ExactlyHeld.{listed, ties, held_is_found}
use Rattle.ffv1_holding.proofs.SmallLinks.{found_from, found_to, status_is}

pub found_is_held : FoundIsHeld
found_is_held rules copies tile slice = (
  λ found. (held_is_found rules copies tile slice).1 (found_from rules copies tile slice found),
  λ held. let at = (held_is_found rules copies tile slice).0 held in found_to rules copies tile slice at.0 at.1 at.2,
)

-- ---- what a test keeps of a list

module _ {X : Type 0} where
  first_or_later : (a x : X) (xs : List X) → Contains (a ∷ xs) x → (a ≡ x) ⊎ Contains xs x
  first_or_later a x xs (zero, lt, is) = inl is
  first_or_later a x xs (suc k, lt, is) = inr (k, omega arith, is)

  none_there : (x : X) → Contains [] x → ⊥
  none_there x (k, lt, is) = omega arith

  all_pass : (p : X → Bool) (xs : List X) → ((x : X) → Contains xs x → p x ≡ true) → list_all p xs ≡ true
  all_pass p [] each = refl
  all_pass p (x ∷ xs) each =
      and_from (p x) (list_all p xs) (each x (Contains-head x xs)) (all_pass p xs (λ y there. each y (Contains-cons x y xs there)))

  each_passes : (p : X → Bool) (xs : List X) (x : X) → list_all p xs ≡ true → Contains xs x → p x ≡ true
  each_passes p [] x all there = absurd (none_there x there)
  each_passes p (a ∷ xs) x all there =
      let both = and_parts (p a) (list_all p xs) all in
      elim (first_or_later a x xs there) [ inl same ↦ ap p (sym same) ∙ both.0 | inr later ↦ each_passes p xs x both.1 later ]

  one_fails : (p : X → Bool) (xs : List X) → list_all p xs ≡ false → (x : X) × Contains xs x × (p x ≡ false)
  one_fails p [] none = absurd (cc)
  one_fails p (a ∷ xs) none =
      elim (p a) as (λ b. p a ≡ b → (b && list_all p xs) ≡ false → (x : X) × Contains (a ∷ xs) x × (p x ≡ false)) [
        | true ↦ λ e rest. let at = one_fails p xs rest in (at.0, Contains-cons a at.0 xs at.1, at.2)
        | false ↦ λ e rest. (a, Contains-head a xs, e)
      ] refl none

  kept_from : (p : X → Bool) (xs : List X) (x : X) → Contains (filter p xs) x → Contains xs x × (p x ≡ true)
  kept_from p [] x there = absurd (none_there x there)
  kept_from p (a ∷ xs) x there =
      elim (p a) as (λ b. p a ≡ b → Contains (cond b (a ∷ filter p xs) (filter p xs)) x → Contains (a ∷ xs) x × (p x ≡ true)) [
        | true ↦ λ e there. elim (first_or_later a x (filter p xs) there) [
          | inl same ↦ (subst (λ z. Contains (a ∷ xs) z) same (Contains-head a xs), ap p (sym same) ∙ e)
          | inr later ↦ let rest = kept_from p xs x later in (Contains-cons a x xs rest.0, rest.1)
        ]
        | false ↦ λ e there. let rest = kept_from p xs x there in (Contains-cons a x xs rest.0, rest.1)
      ] refl there

  kept : (p : X → Bool) (xs : List X) (x : X) → Contains xs x → p x ≡ true → Contains (filter p xs) x
  kept p [] x there passes = absurd (none_there x there)
  kept p (a ∷ xs) x there passes =
      elim (p a) as (λ b. p a ≡ b → Contains (cond b (a ∷ filter p xs) (filter p xs)) x) [
        | true ↦ λ e. elim (first_or_later a x xs there) [
          | inl same ↦ subst (λ z. Contains (a ∷ filter p xs) z) same (Contains-head a (filter p xs))
          | inr later ↦ Contains-cons a x (filter p xs) (kept p xs x later passes)
        ]
        | false ↦ λ e. elim (first_or_later a x xs there) [
          | inl same ↦ absurd (let wrong : false ≡ true = sym e ∙ ap p same ∙ passes in cc)
          | inr later ↦ kept p xs x later passes
        ]
      ] refl

  none_kept : (p : X → Bool) (xs : List X) → ((x : X) → Contains xs x → p x ≡ true → ⊥) → filter p xs ≡ []
  none_kept p [] none = refl
  none_kept p (a ∷ xs) none =
      elim (p a) as (λ b. p a ≡ b → cond b (a ∷ filter p xs) (filter p xs) ≡ []) [
        | true ↦ λ e. absurd (none a (Contains-head a xs) e)
        | false ↦ λ e. none_kept p xs (λ x there passes. none x (Contains-cons a x xs there) passes)
      ] refl

-- in a list that rises nothing stands twice
none_twice : (a x : List ℕ) (xs : List (List ℕ)) → IsRising bytes_cmp (a ∷ xs) → Contains xs x → a ≡ x → ⊥
none_twice a x xs up (k, lt, is) same =
    let below : bytes_cmp a x ≡ Less = ap (bytes_cmp a) (sym is) ∙ up 0 (suc k) x (omega arith) (omega arith) in
    let tied : bytes_cmp a x ≡ Equal = ap (bytes_cmp a) (sym same) ∙ tied_itself bytes_total a in
    let wrong : Less ≡ Equal = sym below ∙ tied in
    absurd (cc)

one_kept : (p : List ℕ → Bool) (xs : List (List ℕ)) (s : List ℕ) → IsRising bytes_cmp xs → Contains xs s → p s ≡ true
    → ((x : List ℕ) → Contains xs x → p x ≡ true → x ≡ s) → filter p xs ≡ s ∷ []
one_kept p [] s up there passes only = absurd (none_there s there)
one_kept p (a ∷ xs) s up there passes only =
    elim (p a) as (λ b. p a ≡ b → cond b (a ∷ filter p xs) (filter p xs) ≡ s ∷ []) [
      | true ↦ λ e.
          let same : a ≡ s = only a (Contains-head a xs) e in
          let nothing : filter p xs ≡ [] = none_kept p xs (λ x later yes.
          none_twice a x xs up later (same ∙ sym (only x (Contains-cons a x xs later) yes))) in
          (λ i. same i ∷ nothing i)
      | false ↦ λ e. elim (first_or_later a s xs there) [
        | inl same ↦ absurd (let wrong : false ≡ true = sym e ∙ ap p same ∙ passes in cc)
        | inr later ↦ one_kept p xs s (rising_rest bytes_cmp a xs up) later passes (λ x in_rest yes. only x (Contains-cons a x xs in_rest) yes)
      ]
    ] refl

-- ---- the one best slice of a list

abbrev is_best : List (List ℕ) → List ℕ → Bool
is_best xs b = list_all (λ c. nat_le (status_of b) (status_of c)) xs

-- the only one of the least status
abbrev IsBest : List (List ℕ) → List ℕ → Type 0
IsBest xs s = (other : List ℕ) → Contains xs other → (other ≡ s) ⊎ (status_of s < status_of other)

best_from : (xs : List (List ℕ)) (s : List ℕ) → tile_state_of xs ≡ settled s → Contains xs s × IsBest xs s
best_from xs s is =
    let one : best_slices xs ≡ s ∷ [] = only_best (best_slices xs) s is in
    let here = kept_from (is_best xs) xs s (subst (λ z. Contains z s) (sym one) (Contains-head s [])) in (
      here.0,
      λ other there. elim (is_best xs other) as (λ b. is_best xs other ≡ b → (other ≡ s) ⊎ (status_of s < status_of other)) [
        | true ↦ λ e. elim (first_or_later s other [] (subst (λ z. Contains z other) one (kept (is_best xs) xs other there e))) [
          | inl same ↦ inl (sym same)
          | inr later ↦ absurd (none_there other later)
        ]
        | false ↦ λ e.
            let at = one_fails (λ c. nat_le (status_of other) (status_of c)) xs e in
            let low : status_of s ≤ status_of at.0 =
            leb-true (status_of s) (status_of at.0) (each_passes (λ c. nat_le (status_of s) (status_of c)) xs at.0 here.1 at.1) in
            let high : status_of at.0 < status_of other = leb-false (status_of other) (status_of at.0) at.2 in
            inr (omega arith)
      ] refl,
    )

best_to : (xs : List (List ℕ)) (s : List ℕ) → IsRising bytes_cmp xs → Contains xs s → IsBest xs s → tile_state_of xs ≡ settled s
best_to xs s up there best =
    ap state_of_best (one_kept (is_best xs) xs s up there
    (all_pass (λ c. nat_le (status_of s) (status_of c)) xs (λ c in_list.
    le-leb (status_of s) (status_of c) (elim (best c in_list) [ inl same ↦ omega (arith, ap status_of same) | inr above ↦ omega arith ])))
    (λ x in_list passes. elim (best x in_list) [
      | inl same ↦ same
      | inr above ↦
          let low = leb-true (status_of x) (status_of s) (each_passes (λ c. nat_le (status_of x) (status_of c)) xs s passes there) in
          absurd (omega arith)
    ]))

-- ---- tiles of a holding of copies

module _ (reel : Reel) (copies : List (List ℕ)) where
  abbrev of_tile : ℕ → List (List ℕ)
  of_tile tile = set.items (tile_slices (slices_of_copies reel.rules copies) tile)

  listed_found : (tile : ℕ) (b : List ℕ) → Contains (of_tile tile) b → IsFound (tile_by reel.rules) copies tile b
  listed_found tile b there =
      (found_is_held reel.rules copies tile b).1
      (sym (contains-tile_slices (slices_of_copies reel.rules copies) tile b)
      ∙ set.contains-items (tile_slices (slices_of_copies reel.rules copies) tile) b ∙ ties bytes_total bytes_antisymmetric b (of_tile tile) there)

  found_listed : (tile : ℕ) (b : List ℕ) → IsFound (tile_by reel.rules) copies tile b → Contains (of_tile tile) b
  found_listed tile b found =
      listed bytes_total bytes_antisymmetric b (of_tile tile)
      (sym (set.contains-items (tile_slices (slices_of_copies reel.rules copies) tile) b)
      ∙ contains-tile_slices (slices_of_copies reel.rules copies) tile b ∙ (found_is_held reel.rules copies tile b).0 found)

  status_found : (tile : ℕ) (b : List ℕ) → IsFound (tile_by reel.rules) copies tile b → status_of b ≡ error_status b
  status_found tile b found = status_is b found.is_slice.framed.footed

  settled_from : (tile : ℕ) (s : List ℕ) → tile_state (holding_of reel copies) tile ≡ settled s → IsSettledBy (tile_by reel.rules) copies tile s
  settled_from tile s is =
      let parts = best_from (of_tile tile) s is in
      let found = listed_found tile s parts.0 in
      record {
        found = found;
        best = λ other also. elim (parts.1 other (found_listed tile other also)) [
          | inl same ↦ inl same
          | inr above ↦ inr (omega (arith, status_found tile s found, status_found tile other also))
        ];
      }

  settled_to : (tile : ℕ) (s : List ℕ) → IsSettledBy (tile_by reel.rules) copies tile s → tile_state (holding_of reel copies) tile ≡ settled s
  settled_to tile s is =
      best_to (of_tile tile) s (items-rising (tile_slices (slices_of_copies reel.rules copies) tile)) (found_listed tile s is.found)
      (λ other there.
      let also = listed_found tile other there in
      elim (is.best other also) [
        | inl same ↦ inl same
        | inr above ↦ inr (omega (arith, status_found tile s is.found, status_found tile other also))
      ])

  abbrev bytes_at : ℕ → List ℕ
  bytes_at tile = settled_bytes (tile_state (holding_of reel copies) tile)

  abbrev all_bytes : List (List ℕ)
  all_bytes = map bytes_at (range_with_len 0 (reel_tiles reel))

  joined_bytes : flat_map (λ (slice : List ℕ). slice) all_bytes ≡ restored_payload (holding_of reel copies)
  joined_bytes = flat_map-map (λ (slice : List ℕ). slice) bytes_at (range_with_len 0 (reel_tiles reel))

  bytes_placed : (tile : ℕ) (d : List ℕ) → tile < reel_tiles reel → get_or all_bytes tile d ≡ bytes_at tile
  bytes_placed tile d lt = get_or-map-range_with_len bytes_at 0 (reel_tiles reel) tile tile d lt (omega arith)

  is_settled : (state : StateOfTile) → IsSettledState state → state ≡ settled (settled_bytes state)
  is_settled missing is = absurd is
  is_settled (settled slice) is = refl
  is_settled (disputed slices) is = absurd is

  restored_from : (payload : List ℕ) → IsRestoredFrom (tile_by reel.rules) (reel_tiles reel) copies payload
      → AreSettled (holding_of reel copies) × (payload ≡ restored_payload (holding_of reel copies))
  restored_from payload is =
      let lists : is.slices ≡ all_bytes = same_lists is.slices all_bytes (is.count ∙ sym (length-map-range_with_len bytes_at 0 (reel_tiles reel)))
      (λ t d lt. let in_grid : t < reel_tiles reel = omega (arith, is.count) in
      sym (bytes_placed t d in_grid ∙ ap settled_bytes (settled_to t (get_or is.slices t d) (is.each t d in_grid)))) in (
        λ t lt. subst IsSettledState (sym (settled_to t (get_or is.slices t []) (is.each t [] lt))) tt,
        is.joined ∙ ap (flat_map (λ (slice : List ℕ). slice)) lists ∙ joined_bytes,
      )

  restored_to : (payload : List ℕ) → AreSettled (holding_of reel copies) → payload ≡ restored_payload (holding_of reel copies)
      → IsRestoredFrom (tile_by reel.rules) (reel_tiles reel) copies payload
  restored_to payload all same = record {
    slices = all_bytes;
    count = length-map-range_with_len bytes_at 0 (reel_tiles reel);
    joined = same ∙ sym joined_bytes;
    each = λ t d lt. subst (IsSettledBy (tile_by reel.rules) copies t) (sym (bytes_placed t d lt))
        (settled_from t (bytes_at t) (is_settled (tile_state (holding_of reel copies) t) (all t lt)));
  }

pub restored_of_holding : RestoredIsOfHolding
restored_of_holding reel copies payload = (restored_from reel copies payload, λ both. restored_to reel copies payload both.0 both.1)

-- ---- a holding of just what is found in copies

module _ (h : Contents) (copies : List (List ℕ)) (same : h.slices ≡ slices_of_copies h.reel.rules copies) (payload : List ℕ) where
  abbrev state_in : set.SetOf entry_cmp → ℕ → StateOfTile
  state_in slices tile = tile_state_of (set.items (tile_slices slices tile))

  abbrev AreSettledIn : set.SetOf entry_cmp → Type 0
  AreSettledIn slices = (tile : ℕ) → tile < reel_tiles h.reel → IsSettledState (state_in slices tile)

  pub holding_restores : AreSettled h → payload ≡ restored_payload h → IsRestoredFrom (tile_by h.reel.rules) (reel_tiles h.reel) copies payload
  holding_restores all is =
      restored_to h.reel copies payload (subst AreSettledIn same all)
      (is ∙ ap (λ slices. flat_map (λ tile. settled_bytes (state_in slices tile)) (range_with_len 0 (reel_tiles h.reel))) same)

  pub holding_settled : IsRestoredFrom (tile_by h.reel.rules) (reel_tiles h.reel) copies payload → AreSettled h
  holding_settled is = subst AreSettledIn (sym same) (restored_from h.reel copies payload is).0

  -- so no tile is unsettled
  pub none_unsettled : IsRestoredFrom (tile_by h.reel.rules) (reel_tiles h.reel) copies payload → (tile : ℕ) → tile < reel_tiles h.reel
      → (state : StateOfTile)
      → state ≡ tile_state h tile → (IsSettledState state → ⊥) → ⊥
  none_unsettled is tile lt state at unsettled = unsettled (subst IsSettledState (sym at) (holding_settled is tile lt))
