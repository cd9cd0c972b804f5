-- Slices of one tile each, in tile order, are laid out.
use Rattle.std.proofs.Common.{◌≡◌, ℕ, zero, suc, ◌*◌, ◌/◌, ◌%◌, ◌<◌, List, [], ◌∷◌, ◌++◌, length, get_or, refl, sym, ap, ◌∙◌, subst, inl, inr, arith}
use Rattle.std.proofs.Math.Nat.{mod-add-div'}
use Rattle.std.proofs.lemmas.Bool.{cases_lt}
use Rattle.std.proofs.lemmas.List.{length-append, get_or_append_left, get_or_push}
use Rattle.ffv1_range.specs.declared.head.SliceHeader.{SliceHeader}
use Rattle.ffv1_layout.specs.Layout.{HasTile, SharesTile}

-- The header is that of a slice of this tile alone.
pub record IsHeaderAt (across tile : ℕ) (header : SliceHeader) : Type 0 where
  pub column : header.x ≡ tile % across
  pub row : header.y ≡ tile / across
  pub width : header.w ≡ 1
  pub height : header.h ≡ 1

pub has_own : (across tile : ℕ) (header : SliceHeader) → IsHeaderAt across tile header → HasTile across header tile
has_own across tile header h =
    record {
      column = tile % across;
      row = tile / across;
      place = omega (arith, mod-add-div' tile across);
      right_of = omega (arith, h.column);
      left_of = omega (arith, h.column, h.width);
      below = omega (arith, h.row);
      above = omega (arith, h.row, h.height);
    }

has_only : (across tile other : ℕ) (header : SliceHeader) → IsHeaderAt across tile header → HasTile across header other → other ≡ tile
has_only across tile other header h has =
    let column : has.column ≡ tile % across = omega (arith, has.right_of, has.left_of, h.column, h.width) in
    let row : has.row ≡ tile / across = omega (arith, has.below, has.above, h.row, h.height) in
    let product : has.row * across ≡ tile / across * across = ap (λ n. n * across) row in
    omega (arith, has.place, mod-add-div' tile across)

-- two slices of one tile each share none
pub none_shared : (across a b : ℕ) (header other : SliceHeader) → IsHeaderAt across a header → IsHeaderAt across b other → SharesTile across header other → a ≡ b
none_shared across a b header other h k shared = sym (has_only across a shared.0 header h shared.1) ∙ has_only across b shared.0 other k shared.2

-- where there is something for each number below n, there is a list of them
pub all_listed : {A : Type 0} (P : ℕ → A → Type 0) (n : ℕ) → ((k : ℕ) → k < n → (a : A) × P k a)
    → (xs : List A) × (length xs ≡ n) × ((k : ℕ) (d : A) → k < n → P k (get_or xs k d))
all_listed P zero f = ([], refl, λ k d less. absurd (omega (arith, less)))
all_listed P (suc n) f =
    let front = all_listed P n (λ k less. f k (omega (arith, less))) in
    let last = f n (omega arith) in (
      front.0 ++ last.0 ∷ [],
      omega (arith, length-append front.0 (last.0 ∷ []), front.1),
      λ k d less. elim (cases_lt k n) [
        | inl below ↦ subst (P k) (sym (get_or_append_left front.0 (last.0 ∷ []) d k (omega (arith, below, front.1)))) (front.2 k d below)
        | inr past ↦
            let is : k ≡ n = omega (arith, past, less) in
            subst (P k) (sym (get_or_push front.0 last.0 d k (front.1 ∙ sym is))) (subst (λ j. P j last.0) (sym is) last.1)
      ],
    )
