-- What a check keeps of the blocks of a Cluster until it is known whether its CRC-32 passes.
use Rattle.std.specs.Prelude.{ℕ, ◌≡◌, List, [], ◌∷◌}
use Rattle.std.specs.List.{AllByRecursion, flat_map}
use Rattle.matroska_parts.specs.declared.parts.Part.{Part}
use Rattle.matroska_parts.specs.declared.parts.Part.TheVariants as part
use Rattle.matroska_parts.specs.declared.parts.Standing.{Standing}
use Rattle.matroska_parts.specs.declared.parts.Standing.TheVariants as standing
use Rattle.matroska_parts.specs.Inner.Vouched.{IsInner}
use Rattle.matroska_parts.specs.declared.parts.Payload.{Payload}
use Rattle.matroska_parts.specs.declared.parts.Payload.TheVariants as payload
use Rattle.ffv1_check.specs.declared.waiting.Waiting.{Waiting}
use Rattle.matroska_parts.specs.Named.{IsBelow}
use Rattle.ffv1_check.specs.CheckedBytes.{checked_bytes}

abbrev pub waits_by : ℕ → Payload → List ℕ
waits_by index payload.Other = index ∷ []
waits_by index _ = []

abbrev pub waits_in : Standing → List ℕ
waits_in (standing.Named block) = waits_by block.index block.payload
waits_in _ = []

-- the track of a block that is checked if its Cluster's CRC-32 passes
abbrev pub waits : Part → List ℕ
waits (part.Block block) = waits_in block.standing
waits _ = []

-- What is kept of the parts in a Cluster, after those before it.
pub record WaitsFor (tracks : ℕ) (before own : List Part) (waiting : Waiting) : Type 0 where
  pub below : AllByRecursion (IsBelow tracks) own
  pub inner : AllByRecursion IsInner own
  pub blocks : waiting.blocks.items ≡ flat_map waits own
  pub checked : waiting.checked ≡ checked_bytes before
