-- Items that what was read settles, whatever follows.
use Rattle.std.specs.Prelude.{ℕ, ◌+◌, ◌≡◌, ◌≢◌, ◌<◌, ◌≤◌, IsTrue, List, [], ◌++◌, length, take, drop, Option, Some, None, Result, Ok, Err}
use Rattle.ffv1_devices.specs.Logs.{ReadLog}
use Rattle.ebml.specs.Head.{HasHead}
use Rattle.ebml.specs.Children.{IsChild, BeginsNoChild, AreChildren}
use Rattle.ebml.specs.Items.{IsItem, IsTop}
use Rattle.ebml.specs.Masters.{cluster_ids}
use Rattle.ebml.specs.declared.head.Head.{Head}
use Rattle.ebml.specs.declared.items.Kind.{Kind}
use Rattle.ebml.specs.declared.items.Kind.TheVariants.{Unknown}
use Rattle.ebml_reader.specs.declared.fault.ReaderFault.{ReaderFault}
use Rattle.ebml_reader.specs.declared.settled.Settled.{Settled}
use Rattle.ebml_reader.specs.Reader.{Held, IsFault}
use Rattle.ebml_reader.specs.Intake.{Passes, IsBounded, Whatever}

-- an item of this kind begins the bytes, as if they were all that is left
abbrev pub BeginsItem : Kind → List ℕ → Type 0
BeginsItem kind bytes = (n : ℕ) × IsItem kind (take n bytes) (drop n bytes)

-- The item goes up to this place, whatever follows.
pub record ItemEndsAt (kind : Kind) (end : ℕ) (old new : Held) (before after : ReadLog) : Type 0 where
  pub passes : Passes [] old new before after
  pub within : end ≤ length new.bytes
  pub bounded : IsBounded new
  pub is : Whatever new (λ left. IsItem kind (take end left) (drop end left))

abbrev pub FindsEnd : Kind → Result ℕ ReaderFault → Held → Held → ReadLog → ReadLog → Type 0
FindsEnd kind (Ok end) old new before after = ItemEndsAt kind end old new before after
FindsEnd kind (Err fault) old new before after = IsFault fault old.taken before after

-- A child of a Cluster is at this place, of so many bytes.
pub record HasChildAt (place n : ℕ) (old new : Held) (before after : ReadLog) : Type 0 where
  pub passes : Passes [] old new before after
  pub some : 0 < n
  pub within : place + n ≤ length new.bytes
  pub bounded : IsBounded new
  pub is : IsChild cluster_ids (take n (drop place new.bytes))

-- None is there, whatever follows.
pub record HasNoneAt (place : ℕ) (old new : Held) (before after : ReadLog) : Type 0 where
  pub passes : Passes [] old new before after
  pub within : place ≤ length new.bytes
  pub bounded : IsBounded new
  pub none : Whatever new (λ left. BeginsNoChild cluster_ids (drop place left))

abbrev pub FindsChild : ℕ → Result (Option ℕ) ReaderFault → Held → Held → ReadLog → ReadLog → Type 0
FindsChild place (Ok (Some n)) old new before after = HasChildAt place n old new before after
FindsChild place (Ok None) old new before after = HasNoneAt place old new before after
FindsChild place (Err fault) old new before after = IsFault fault old.taken before after

-- The children of a Cluster after its head, of so many bytes, go up to this place.
pub record ChildrenEndAt (head_length end : ℕ) (old new : Held) (before after : ReadLog) : Type 0 where
  pub passes : Passes [] old new before after
  pub from : head_length ≤ end
  pub within : end ≤ length new.bytes
  pub bounded : IsBounded new
  pub are : Whatever new (λ left. (children : List (List ℕ)) × AreChildren cluster_ids (drop head_length left) children (drop end left))

abbrev pub FindsChildrenEnd : ℕ → Result ℕ ReaderFault → Held → Held → ReadLog → ReadLog → Type 0
FindsChildrenEnd head_length (Ok end) old new before after = ChildrenEndAt head_length end old new before after
FindsChildrenEnd head_length (Err fault) old new before after = IsFault fault old.taken before after

-- no head at the top begins what is left
abbrev pub BeginsNoTop : List ℕ → Type 0
BeginsNoTop left = (head : Head) → IsTop head → HasHead left head → ⊥

-- An unknown item of so many bytes was passed.
pub record PassesItem (long : ℕ) (old new : Held) (before after : ReadLog) : Type 0 where
  pub item : List ℕ
  pub long' : long ≡ length item
  pub passes : Passes item old new before after
  pub bounded : IsBounded new
  pub is : Whatever new (λ left. IsItem Unknown item left)

abbrev pub PassesUnknown : Result ℕ ReaderFault → Held → Held → ReadLog → ReadLog → Type 0
PassesUnknown (Ok long) old new before after = PassesItem long old new before after
PassesUnknown (Err fault) old new before after = IsFault fault old.taken before after

-- An item was read: it passed, or is kept at the front of what is held.
pub record Settles (settled : Settled) (old new : Held) (before after : ReadLog) : Type 0 where
  pub item : List ℕ
  pub passed : List ℕ
  pub passes : Passes passed old new before after
  pub bounded : IsBounded new
  pub within : settled.kept ≤ length new.bytes
  pub joined : item ≡ passed ++ take settled.kept new.bytes
  pub long : settled.found.length ≡ length item
  pub kept : settled.found.kind ≢ Unknown → take settled.kept new.bytes ≡ item
  pub none : settled.found.kind ≡ Unknown → settled.kept ≡ 0
  pub is : (more : List ℕ) → (IsTrue new.ended → more ≡ []) → IsItem settled.found.kind item (drop settled.kept new.bytes ++ more)

abbrev pub SettlesItem : Result Settled ReaderFault → Held → Held → ReadLog → ReadLog → Type 0
SettlesItem (Ok settled) old new before after = Settles settled old new before after
SettlesItem (Err fault) old new before after = IsFault fault old.taken before after

-- the next item, or none where nothing is left
abbrev pub ReadsItem : Result (Option Settled) ReaderFault → Held → Held → ReadLog → ReadLog → Type 0
ReadsItem (Ok (Some settled)) old new before after = Settles settled old new before after
ReadsItem (Ok None) old new before after = Passes [] old new before after × (new.bytes ≡ []) × IsTrue new.ended
ReadsItem (Err fault) old new before after = IsFault fault old.taken before after
