-- The items that a pass over a file has gone past.
use Rattle.std.specs.Prelude.{ℕ, ◌≡◌, ◌≤◌, List, length, take, drop}
use Rattle.ebml.specs.Items.{ItemValue, bytes_of_items, EachBefore}

pub record Passed (file : List ℕ) (place count : ℕ) : Type 0 where
  pub within : place ≤ length file
  pub items : List ItemValue
  pub counted : count ≡ length items
  pub few : count ≤ place
  pub joined : take place file ≡ bytes_of_items items
  pub each : EachBefore items (drop place file)
