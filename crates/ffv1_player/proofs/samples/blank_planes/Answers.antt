use Rattle.std.proofs.Common.{◌≡◌, ℕ, ◌++◌, ◌∷◌, ◌-◌, ◌*◌, ◌^◌, ◌%◌, ◌≤◌, ◌<◌, [], map, replicate, sym, ap, ◌∙◌, arith, rules}
use Rattle.std.specs.List.{range_with_len}
use Rattle.std.proofs.Math.Nat.{mod-eq_of_lt, pow-le-pow_right}
use Rattle.std.proofs.lemmas.List.{map-append}
use Rattle.std.proofs.lemmas.List.FromFn.{map-range_with_len_more}
use Rattle.ffv1_player.specs.Patches.{patched_plane}
use Rattle.ffv1_player.specs.Frames.{frame_plane}
use Rattle.ffv1_player.proofs.Patches.{blank_plane}
use Rattle.ffv1_player.proofs.samples.blank_planes.Goals as goal

half : (depth : ℕ) → depth ≤ 16 → 1 * 2 ^ (depth - 1) % 65536 ≡ 2 ^ (depth - 1)
half depth few =
    let base : 1 ≤ 2 = omega arith in
    let low : depth - 1 ≤ 15 = omega arith in
    let most : 2 ^ (depth - 1) ≤ 2 ^ 15 = pow-le-pow_right base low in
    let small : 2 ^ (depth - 1) < 65536 = omega (arith, most) in
    ap (λ k. k % 65536) {x = 1 * 2 ^ (depth - 1)} {y = 2 ^ (depth - 1)} (omega arith) ∙ mod-eq_of_lt small

pub loop-plane-preserved : goal.loop-plane-preserved
loop-plane-preserved c =
    let r = c.args.recording.now in
    let n = c.loop-plane.plane in
    let vec = c.in_ok-vec.field-0 in
    let size = c.frame_in-size.result in
    let all : vec.items ≡ replicate (size.w * size.h) (1 * 2 ^ (c.depth.result - 1) % 65536) = search rules in
    let blank : 1 * 2 ^ (c.depth.result - 1) % 65536 ≡ 2 ^ (r.depth - 1) =
    half c.depth.result (omega (arith, c.depth.ensures.value, c.keeps_version_3.ensures.few_depth)) ∙ ap (λ d. 2 ^ (d - 1)) c.depth.ensures.value in
    let drawn : vec.items ≡ frame_plane r [] n =
    blank_plane (2 ^ (r.depth - 1)) size.w size.h vec.items (all ∙ ap (replicate (size.w * size.h)) blank)
    ∙ ap (λ s. patched_plane (2 ^ (r.depth - 1)) s.w s.h []) c.frame_in-size.ensures in
    ap (map (λ plane. plane.items)) c.in_ok-push.ensures.items ∙ map-append (λ plane. plane.items) c.loop-plane.planes.items (vec ∷ [])
    ∙ ap (λ xs. xs ++ vec.items ∷ []) c.loop-plane.invariant
    ∙ ap (λ xs. map (frame_plane r []) (range_with_len 0 n) ++ xs ∷ []) drawn
    ∙ sym (map-range_with_len_more (frame_plane r []) 0 n n (omega arith))
