-- What joining two holding files as streams comes to (own).
use Rattle.std.specs.Prelude.{◌≢◌, Option, Result, OnOk, IfErr, IsErrOf}
use Rattle.ffv1_bits.specs.Limits.{file_limit}
use Rattle.ffv1_devices.specs.Logs.{ReadLog, WriteLog}
use Rattle.ffv1_holding.specs.Reels.{Reel}
use Rattle.ffv1_holding.specs.Contents.{Contents}
use Rattle.ffv1_holding.specs.declared.recordings.Recordings.{Recordings}
use Rattle.ffv1_hold.specs.declared.file_fault.HoldFileFault.{HoldFileFault}
use Rattle.ffv1_hold.specs.declared.file_fault.HoldFileFault.TheVariants as faults
use Rattle.ffv1_hold.specs.declared.version.Version.{Version}
use Rattle.ffv1_hold.specs.FileFaults.{MayTake}
use Rattle.ffv1_hold.specs.MergedStreams.{Inputs, inputs_read, IsFileOf, IsFileOfSome, WritesUnion, ReturnsUnion, BeginsWithHead, ReturnsOther, MergeRefuses, LeftRefusesFirst, WritesNoEnd, WritesFrontSoFar, WritesAtMost, StaysInReadLimit}
use Rattle.ffv1_hold.specs.UnitedHoldings.{AreOfOneRecord, united}
use Rattle.ffv1_hold.specs.MergeLogs.{Devices, MergeWent}

-- the devices by their logs
abbrev pub devices : ReadLog → ReadLog → WriteLog → Devices
devices left right sink = record { left = left; right = right; sink = sink }

-- what both inputs have left, before and after
abbrev pub inputs_of : Recordings → Devices → Devices → Inputs
inputs_of recordings old new = inputs_read recordings old.left new.left old.right new.right

-- By the files of these recordings, where the result is so, and the devices were and are so:
pub record JoinsStreams (recordings : Recordings) (result : Result (Unit {0}) HoldFileFault) (old new : Devices) : Type 0 where
  -- Both inputs are files of holdings of one record and size, and the text of their union was written.
  pub union : OnOk result (WritesUnion (inputs_of recordings old new) old.sink.contents new.sink.contents)
  -- For such inputs the result is that, `Read`, `Write` or `Memory`, or `TooLong` where the union has no text.
  pub only : (v w : Version) (g h : Contents) → AreOfOneRecord g.reel h.reel → MayTake recordings g.reel → MayTake recordings h.reel
      → IsFileOf old.left.remaining v g → IsFileOf old.right.remaining w h → ReturnsUnion (united g h) result
  -- For inputs that begin with heads of two records or sizes the result is `OtherReel`, `Read` or `Memory`.
  pub other : (g h : Reel) → BeginsWithHead recordings old.left.remaining g → BeginsWithHead recordings old.right.remaining h → ¬ AreOfOneRecord g h
      → ReturnsOther result
  -- The bytes that were read show the fault, and it is the first: what was taken of the other input shows none.
  pub fault : IfErr result (MergeRefuses (inputs_of recordings old new))
  -- Nothing of the right input is the fault before the left one's head was judged.
  pub left_first : IfErr result (LeftRefusesFirst (inputs_of recordings old new))
  -- After `Write` no more was taken of an input that is a text than up to its read_limit: where the other one is a text too, with the
  -- digests of both.
  pub left_read_limit : (v : Version) (h : Contents) (beside : Option Contents) → IsFileOf old.left.remaining v h
      → IsFileOfSome old.right.remaining beside → IsErrOf result faults.Write
      → StaysInReadLimit v h beside old.left.remaining new.left.remaining old.sink.contents new.sink.contents
  pub right_read_limit : (v : Version) (h : Contents) (beside : Option Contents) → IsFileOf old.right.remaining v h
      → IsFileOfSome old.left.remaining beside → IsErrOf result faults.Write
      → StaysInReadLimit v h beside old.right.remaining new.right.remaining old.sink.contents new.sink.contents
  -- What was written: after `Write` a front of a text, after another refusal no end tag.
  pub write : IsErrOf result faults.Write → WritesFrontSoFar (inputs_of recordings old new) old.sink.contents new.sink.contents
  pub no_end : IfErr result (λ f. f ≢ faults.Write → WritesNoEnd (inputs_of recordings old new) old.sink.contents new.sink.contents)
  pub most : WritesAtMost old.sink.contents new.sink.contents file_limit
  -- At `Read` one input was given up, at `Write` the sink, and no other device; no more was taken than the limits.
  pub went : MergeWent result old new (0, 0) (file_limit, file_limit)
