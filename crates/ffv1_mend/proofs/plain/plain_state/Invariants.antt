use Rattle.std.proofs.Common.{◌≡◌, ◌<◌, ℕ, [], map, get_or}
use Rattle.ffv1_mend.proofs.plain.plain_state.Given as goal

abbrev pub invariant-loop-version : goal.invariant-loop-version
invariant-loop-version l = (k : ℕ) → k < l.version-index → get_or (map (λ version. version.now) l.versions) k [] ≡ l.from
