-- Whatever function gives a content its tile, copies of an original restore it.
use Rattle.std.proofs.Common.{◌≡◌, ℕ, ◌<◌, List, length, get_or, sym, ap, ◌∙◌, subst, inl, inr, arith}
use Rattle.std.specs.List.{flat_map}
use Rattle.std.proofs.lemmas.List.{same_lists, get_or_default}
use Rattle.ffv1_holding.specs.Small.{TileOf, IsFound, IsSettledBy, IsRestoredFrom, IsOriginalPayload, AreCopies, AreSameCopies, CopiesRestoreTheOriginal, SameCopiesFindTheSame, SameCopiesRestoreTheSame}

-- what is found in some copies is found in others that have them all
found_too : (tile_of : TileOf) (copies others : List (List ℕ)) → AreSameCopies copies others → (tile : ℕ) (slice : List ℕ)
    → IsFound tile_of copies tile slice → IsFound tile_of others tile slice
found_too tile_of copies others same tile slice found =
    record { copy = found.copy; among = (same found.copy).0 found.among; before = found.before; link = found.link; is_slice = found.is_slice }

turned : (copies others : List (List ℕ)) → AreSameCopies copies others → AreSameCopies others copies
turned copies others same copy = ((same copy).1, (same copy).0)

pub same_found : SameCopiesFindTheSame
same_found tile_of copies others same tile slice =
    (found_too tile_of copies others same tile slice, found_too tile_of others copies (turned copies others same) tile slice)

-- two slices by which a tile is settled are one
one_settled : (tile_of : TileOf) (copies others : List (List ℕ)) → AreSameCopies copies others → (tile : ℕ) (slice other : List ℕ)
    → IsSettledBy tile_of copies tile slice → IsSettledBy tile_of others tile other → slice ≡ other
one_settled tile_of copies others same tile slice other is also =
    elim (is.best other (found_too tile_of others copies (turned copies others same) tile other also.found)) [
      | inl here ↦ sym here
      | inr below ↦ elim (also.best slice (found_too tile_of copies others same tile slice is.found)) [
        | inl here ↦ here
        | inr above ↦ absurd (omega arith)
      ]
    ]

pub same_restored : SameCopiesRestoreTheSame
same_restored tile_of tiles copies others payload other same is also =
    let lists : is.slices ≡ also.slices = same_lists is.slices also.slices (is.count ∙ sym also.count) (λ t d lt.
    one_settled tile_of copies others same t (get_or is.slices t d) (get_or also.slices t d) (is.each t d (omega (arith, is.count)))
    (also.each t d (omega (arith, is.count)))) in
    is.joined ∙ ap (flat_map (λ slice. slice)) lists ∙ sym also.joined

module _ (tile_of : TileOf) (tiles : ℕ) (original : List ℕ) (slices copies : List (List ℕ)) (is : IsOriginalPayload tile_of tiles original slices)
    (are : AreCopies tile_of slices copies) where
  -- each tile is settled by the original's slice
  settled_by : (tile : ℕ) (d : List ℕ) → tile < tiles → IsSettledBy tile_of copies tile (get_or slices tile d)
  settled_by tile d lt =
      let within : tile < length slices = omega (arith, is.count) in
      record {
        found = are.all tile d within;
        best = λ other found. inl ((are.only tile other found).1 ∙ get_or_default slices tile other d within);
      }

  is_restored : IsRestoredFrom tile_of tiles copies original
  is_restored = record { slices = slices; count = is.count; joined = is.joined; each = settled_by }

  pub only_original : (payload : List ℕ) → IsRestoredFrom tile_of tiles copies payload → payload ≡ original
  only_original payload restored =
      same_restored tile_of tiles copies copies payload original (λ copy. (λ h. h, λ h. h)) restored is_restored

  pub original_restored : (payload : List ℕ) → payload ≡ original → IsRestoredFrom tile_of tiles copies payload
  original_restored payload same = subst (IsRestoredFrom tile_of tiles copies) (sym same) is_restored

pub restores_original : CopiesRestoreTheOriginal
restores_original tile_of tiles original slices copies is are payload = (
  only_original tile_of tiles original slices copies is are payload,
  original_restored tile_of tiles original slices copies is are payload,
)
