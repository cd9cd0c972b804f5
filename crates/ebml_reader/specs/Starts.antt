-- Items of a file that are passed: how one begins, and what follows that up to its end.
use Rattle.std.specs.Prelude.{ℕ, ◌≡◌, ◌≢◌, List, [], ◌++◌, length, Option, Some, None, Result, Ok, Err}
use Rattle.std.specs.List.{AllByRecursion, concat}
use Rattle.ffv1_devices.specs.Logs.{ReadLog}
use Rattle.ebml.specs.Children.{IsChild, BeginsNoChild}
use Rattle.ebml.specs.Masters.{segment_id, cluster_ids}
use Rattle.ebml.specs.Items.{IsHeaded, IsItem}
use Rattle.ebml.specs.declared.items.Kind.{Kind}
use Rattle.ebml.specs.declared.items.Kind.TheVariants.{Segment, Element, Endless, Unknown}
use Rattle.ebml_reader.specs.declared.fault.ReaderFault.{ReaderFault}
use Rattle.ebml_reader.specs.declared.starts.ItemStart.{ItemStart}
use Rattle.ebml_reader.specs.Reader.{Held, IsFault}
use Rattle.ebml_reader.specs.Intake.{Passes, IsBounded, Whatever}
use Rattle.ebml_reader.specs.Pieces.{PassesUpTo, IsAllPassed}

-- an item of each kind begins with these bytes: all of an unknown one, the head of any other
abbrev pub IsStartOf : Kind → List ℕ → Held → Type 0
IsStartOf (Segment head) bytes held = IsHeaded head bytes × (head.id ≡ segment_id) × (length bytes ≡ head.length)
IsStartOf (Element head) bytes held = IsHeaded head bytes × (head.id ≢ segment_id) × ((size : ℕ) × (head.size ≡ Some size)) × (length bytes ≡ head.length)
IsStartOf (Endless head) bytes held = IsHeaded head bytes × (head.id ≢ segment_id) × (head.size ≡ None) × (length bytes ≡ head.length)
IsStartOf Unknown bytes held = Whatever held (λ left. IsItem Unknown bytes left)

-- The start of an item was passed.
pub record StartsItem (start : ItemStart) (old new : Held) (before after : ReadLog) : Type 0 where
  pub bytes : List ℕ
  pub long : start.length ≡ length bytes
  pub passes : Passes bytes old new before after
  pub bounded : IsBounded new
  pub is : IsStartOf start.kind bytes new

abbrev pub PassesStart : Result (Option ItemStart) ReaderFault → Held → Held → ReadLog → ReadLog → Type 0
PassesStart (Ok (Some start)) old new before after = StartsItem start old new before after
PassesStart (Ok None) old new before after = Passes [] old new before after × IsAllPassed new
PassesStart (Err fault) old new before after = IsFault fault old.taken before after

-- All children of a Cluster of unknown size were passed: those that follow each other.
pub record PassesChildren (bytes : List ℕ) (old new : Held) (before after : ReadLog) : Type 0 where
  pub passes : Passes bytes old new before after
  pub bounded : IsBounded new
  pub children : List (List ℕ)
  pub joined : bytes ≡ concat children
  pub each : AllByRecursion (IsChild cluster_ids) children
  pub none : Whatever new (λ left. BeginsNoChild cluster_ids left)

-- what follows the start of an item was passed, up to its end: of an element of known size as far as it is there
abbrev pub EndsItem : Kind → List ℕ → Held → Held → ReadLog → ReadLog → Type 0
EndsItem (Segment head) rest old new before after = (rest ≡ []) × (new ≡ old) × (after ≡ before)
EndsItem (Element head) rest old new before after = (size : ℕ) → head.size ≡ Some size → PassesUpTo size rest old new before after
EndsItem (Endless head) rest old new before after = PassesChildren rest old new before after
EndsItem Unknown rest old new before after = (rest ≡ []) × (new ≡ old) × (after ≡ before)

abbrev pub PassesRest : Kind → Result ℕ ReaderFault → Held → Held → ReadLog → ReadLog → Type 0
PassesRest kind (Ok long) old new before after = (rest : List ℕ) × (long ≡ length rest) × EndsItem kind rest old new before after
PassesRest kind (Err fault) old new before after = IsFault fault old.taken before after

-- A whole item was passed.
pub record PassesItemOf (kind : Kind) (item : List ℕ) (old new : Held) (before after : ReadLog) : Type 0 where
  pub passes : Passes item old new before after
  pub bounded : IsBounded new
  pub is : Whatever new (λ left. IsItem kind item left)

-- ---- laws

-- The start of an item and what follows it up to its end are the item.
abbrev pub StartAndRestAreItem : Type 0
StartAndRestAreItem =
    (kind : Kind) (start rest : List ℕ) (old mid new : Held) (x y z : ReadLog) → Passes start old mid x y → IsBounded mid → IsStartOf kind start mid
    → EndsItem kind rest mid new y z → PassesItemOf kind (start ++ rest) old new x z
