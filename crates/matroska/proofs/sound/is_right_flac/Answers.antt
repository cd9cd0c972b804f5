use Rattle.std.proofs.Common.{map, Bor, List, ℕ, ◌≡◌, subst}
use Rattle.std.specs.Prelude.{◌↔◌, IsTrue}
use Rattle.std.specs.List.{AllByRecursion}
use Rattle.flac_frame.specs.Frame.{PassesFlac}
use Rattle.matroska.proofs.LaceSteps.{found_pass}
use Rattle.matroska.proofs.sound.is_right_flac.Goals as goal

pub returns-in-Some : goal.returns-in-Some
returns-in-Some c =
    let are = rw c.in-Some.is at c.in_ok-frames.ensures in
    let same : c.deref.result.now ≡ c.in-Some.frames.items = c.deref.ensures.value in
    found_pass c.args.lacing c.args.payload.now (map (λ (frame : Bor (List ℕ)). frame.now) c.in-Some.frames.items) c.all_pass.result (λ i. (c.type_inv.payload i).fits) are
    (subst (λ (z : List (Bor (List ℕ))). IsTrue c.all_pass.result ↔ AllByRecursion PassesFlac (map (λ frame. frame.now) z)) same c.all_pass.ensures)
