use Rattle.std.proofs.Common.{◌≡◌, ℕ, ◌<◌, length, sym, subst, arith, rules, inl, inr}
use Rattle.std.proofs.lemmas.Bool.{cases_order}
use Rattle.std.proofs.lemmas.List.{length-map}
use Rattle.ffv1_layout.specs.Layout.{headers_of}
use Rattle.ffv1_player.specs.Frames.{HasEqual}
use Rattle.ffv1_player.specs.Players.{left_value, left_values}
use Rattle.ffv1_player.proofs.Equals.{has_equal, as_many}
use Rattle.ffv1_player.proofs.before.first_stop.Goals as goal

pub loop-place-preserved : goal.loop-place-preserved
loop-place-preserved c =
    let r = c.args.recording.now in
    let placed = c.args.placed.now in
    let before = c.args.before.now in
    let n = c.loop-place.place in
    let b = c.index-before-place.result in
    let inside : n < length before = omega arith in
    let goes = c.goes_on.ensures.0 (search rules) in
    let here : HasEqual r (headers_of placed) (left_values before) n = has_equal r placed before n _ b c.loop-place-test.true inside goes in
    λ earlier less. elim (cases_order earlier n) [
      | inl same ↦ subst (HasEqual r (headers_of placed) (left_values before)) (sym same) here
      | inr (inl below) ↦ c.loop-place.invariant earlier below
      | inr (inr above) ↦ absurd (omega arith)
    ]

pub returns-else-before-placed : goal.returns-else-before-placed
returns-else-before-placed c =
    let r = c.args.recording.now in
    let headers = headers_of c.args.placed.now in
    let before = left_values c.args.before.now in
    let long : length headers ≡ length c.args.placed.now = length-map c.args.placed.now (λ slice. slice.header) in
    let each : (place : ℕ) → place < length headers → HasEqual r headers before place =
    λ place less. c.loop-place.invariant place (omega (arith, less, long, c.loop-place-test.false)) in (
      omega (arith, as_many r headers before each, long, length-map c.args.before.now left_value, c.if-before-placed.false),
      each,
    )
