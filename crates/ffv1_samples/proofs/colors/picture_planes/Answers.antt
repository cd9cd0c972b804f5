use Rattle.std.proofs.Common.{◌≡◌, ℕ, ◌+◌, ◌^◌, ◌≤◌, Bool, false, ap, sym, ◌∙◌, arith, pow_mono}
use Rattle.std.specs.Prelude.{if◌then◌else◌}
use Rattle.ffv1_samples.proofs.colors.picture_planes.Goals as goal

pub narrowed_planes-requires : goal.narrowed_planes-requires
narrowed_planes-requires c = λ p s.
    let r = c.args.recording.now in
    let not_rgb : c.args.recording.now.is_rgb ≡ false = sym c.is_rgb.ensures ∙ c.if-is_rgb.false in
    let deep : c.args.recording.now.depth + (if c.args.recording.now.is_rgb then 1 else 0) ≤ 16 =
    omega (arith, ap {B = ℕ} (λ (b : Bool). if b then 1 else 0) not_rgb, c.keeps_version_3.ensures.few_depth) in
    let most : 2 ^ (c.args.recording.now.depth + (if c.args.recording.now.is_rgb then 1 else 0)) ≤ 2 ^ 16 = pow_mono deep in
    omega (arith, most, c.requires.small p s)
