-- Planes that are put together from rectangles, sample by sample, and with one rectangle more.
use Rattle.std.proofs.Common.{◌≡◌, ℕ, ◌+◌, ◌*◌, ◌<◌, Bool, true, false, cond, List, [], ◌∷◌, ◌++◌, length, get_or, replicate, Option, Some, None, unwrap_or, refl, sym, ap, ◌∙◌, arith}
use Rattle.std.proofs.lemmas.List.{length-replicate, get_or-replicate}
use Rattle.std.proofs.lemmas.Nat.{mul-add-lt}
use Rattle.ffv1_range.specs.declared.grid.TileRect.{TileRect}
use Rattle.ffv1_picture.specs.WholePicture.{covers, sample_in, or_else}
use Rattle.ffv1_picture.specs.Drawn.{Draws}
use Rattle.ffv1_picture.proofs.WholePlanes.{length-rows, get_or-rows, rows_ext, or_else_assoc, or_else_none}
use Rattle.ffv1_player.specs.Patches.{SlicePatch, patch_of, sample_of_patch, last_sample, patched_sample, patched_plane}

module _ (blank width height : ℕ) (patches : List SlicePatch) where
  pub length-patched_plane : length (patched_plane blank width height patches) ≡ height * width
  unfolding patched_plane
  length-patched_plane = length-rows (λ y x. patched_sample blank patches x y) width 0 height

  pub get_or-patched_plane : (x y : ℕ) → x < width → y < height → get_or (patched_plane blank width height patches) (y * width + x) 0 ≡ patched_sample blank patches x y
  unfolding patched_plane
  get_or-patched_plane x y inside within =
      get_or-rows (λ y x. patched_sample blank patches x y) width 0 height y x within inside
      ∙ ap (λ row. patched_sample blank patches x row) {x = 0 + y} {y = y} (omega arith)

  pub patched_plane_ext : (samples : List ℕ) → length samples ≡ width * height
      → ((x y : ℕ) → x < width → y < height → get_or samples (y * width + x) 0 ≡ patched_sample blank patches x y) → samples ≡ patched_plane blank width height patches
  unfolding patched_plane
  patched_plane_ext samples long each = rows_ext (λ y x. patched_sample blank patches x y) width height samples long each

last-push : (x y : ℕ) (patches : List SlicePatch) (last : SlicePatch)
    → last_sample x y (patches ++ last ∷ []) ≡ or_else (sample_of_patch x y last) (last_sample x y patches)
unfolding last_sample
last-push x y [] last = sym (or_else_none _)
last-push x y (patch ∷ patches) last =
    ap (λ o. or_else o (sample_of_patch x y patch)) (last-push x y patches last)
    ∙ or_else_assoc (sample_of_patch x y last) (last_sample x y patches) (sample_of_patch x y patch)

patched_sample-push : (blank : ℕ) (patches : List SlicePatch) (rect : TileRect) (samples : List ℕ) (x y : ℕ)
    → patched_sample blank (patches ++ patch_of rect samples ∷ []) x y
    ≡ cond (covers rect x y) (sample_in rect samples x y) (patched_sample blank patches x y)
patched_sample-push blank patches rect samples x y =
    ap (λ o. unwrap_or o blank) (last-push x y patches (patch_of rect samples)) ∙ by_cover (covers rect x y) _ (last_sample x y patches)
  where
    by_cover : (b : Bool) (s : ℕ) (o : Option ℕ) → unwrap_or (or_else (cond b (Some s) None) o) blank ≡ cond b s (unwrap_or o blank)
    by_cover true s o = refl
    by_cover false s o = refl

-- a plane with one rectangle more
pub drawn_plane : (blank width height : ℕ) (patches : List SlicePatch) (rect : TileRect) (samples old new : List ℕ)
    → old ≡ patched_plane blank width height patches → Draws width rect samples old new
    → new ≡ patched_plane blank width height (patches ++ patch_of rect samples ∷ [])
drawn_plane blank width height patches rect samples old new is drawn =
    let long : length old ≡ width * height = omega (arith, ap length is, length-patched_plane blank width height patches) in
    patched_plane_ext blank width height (patches ++ patch_of rect samples ∷ []) new (drawn.same_length ∙ long) (λ x y inside within.
    drawn.each x y 0 inside (omega (arith, long, mul-add-lt y width x height within inside))
    ∙ ap (λ s. cond (covers rect x y) (sample_in rect samples x y) s)
    (ap (λ xs. get_or xs (y * width + x) 0) is ∙ get_or-patched_plane blank width height patches x y inside within)
    ∙ sym (patched_sample-push blank patches rect samples x y))

-- a plane of no rectangle
pub blank_plane : (blank width height : ℕ) (samples : List ℕ) → samples ≡ replicate (width * height) blank → samples ≡ patched_plane blank width height []
unfolding last_sample
blank_plane blank width height samples all =
    patched_plane_ext blank width height [] samples (ap length all ∙ length-replicate (width * height) blank) (λ x y inside within.
    ap (λ xs. get_or xs (y * width + x) 0) all
    ∙ get_or-replicate (width * height) (y * width + x) blank 0 (mul-add-lt y width x height within inside))
