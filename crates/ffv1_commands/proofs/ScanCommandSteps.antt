-- A scan over devices, stated of the bytes of its inputs and its output.
use Rattle.std.proofs.Common.{◌≡◌, ℕ, List, Option, Bool, Result, Ok, Err, IfOk, IfErr, sym, subst, inl, inr}
use Rattle.std.proofs.KnownBytes.{Keeps-refl}
use Rattle.std.specs.Io.KnownBytes.{Appends, Keeps}
use Rattle.ffv1_devices.specs.Logs.{ReadLog, WriteLog, Reads, BreaksOff, Writes, StopsWriting}
use Rattle.ffv1_scan.specs.declared.ranges.ByteRange.{ByteRange}
use Rattle.ffv1_scan.specs.declared.scanning.ScanFault.{ScanFault}
use Rattle.ffv1_scan.specs.declared.scanning.ScanFault.TheVariants as scans
use Rattle.ffv1_scan.specs.Ranges.{AreRanges}
use Rattle.ffv1_scan.specs.Scans.{ScansFront, ScansRanges}
use Rattle.ffv1_commands.specs.Devices.{InputBegins, WritesFront}
use Rattle.ffv1_commands.specs.Lists.{ReadsList}
use Rattle.ffv1_commands.specs.ScanText.{ScansDevices, ScansListed, ScansFile, ScansSome, ScanStops}
use Rattle.ffv1_commands.specs.declared.fault.CliFault.{CliFault}
use Rattle.ffv1_commands.specs.declared.fault.CliFault.TheVariants as faults
use Rattle.ffv1_commands.proofs.InputLaws.{begins}
use Rattle.ffv1_commands.proofs.ReadLists.{list_of_bytes}

-- what is read and written is stated in another way
abbrev reported_as : (ranges front : List ByteRange) (Read Read' Wrote Wrote' : List ℕ → Type 0) → ((bytes : List ℕ) → Read bytes → Read' bytes)
    → ((text : List ℕ) → Wrote text → Wrote' text) → ScansFront ranges front Read Wrote → ScansFront ranges front Read' Wrote'
reported_as ranges front Read Read' Wrote Wrote' read wrote scan = record {
  rest = scan.rest;
  split = scan.split;
  bytes = scan.bytes;
  read = read scan.bytes scan.read;
  least = scan.least;
  most = scan.most;
  verdicts = scan.verdicts;
  judged = scan.judged;
  wrote = wrote _ scan.wrote;
}

-- the ranges that were scanned are those of the list, as it was read
pub scanned_list : (a b c d : ReadLog) (x y : WriteLog) (r : Result Bool ScanFault) (ranges items : List ByteRange) → ranges ≡ items
    → ReadsList (λ text. AreRanges text items) a b → ScansRanges ranges r c d x y → ScansListed a b (λ all. ScansRanges all r c d x y)
scanned_list a b c d x y r ranges items same list scans = (items, list, subst (λ (all : List ByteRange). ScansRanges all r c d x y) same scans)

pub record ScanOfBytes (r : Result Bool CliFault) (list file before after : Option (List ℕ)) : Type 0 where
  pub ok : IfOk r (ScansFile list file before after)
  pub err : IfErr r (ScanStops list file before after)

module _ (a b c d : ReadLog) (x y : WriteLog) where
  kept : y ≡ x → Keeps x.contents y.contents
  kept same = subst (λ (log : WriteLog). Keeps x.contents log.contents) (sym same) (Keeps-refl x.contents)

  some : (Went : List ℕ → Type 0) → ((bytes : List ℕ) → Went bytes → InputBegins c.remaining bytes) → (Wrote Prints : List ℕ → Type 0)
      → ((text : List ℕ) → Wrote text → Prints text) → (ranges front : List ByteRange) → ReadsList (λ text. AreRanges text ranges) a b
      → ScansFront ranges front Went Wrote → ScansSome a.remaining c.remaining Prints
  some Went read Wrote Prints wrote ranges front list scan = record {
    ranges = ranges;
    list' = list_of_bytes _ a b list;
    front = front;
    scan = reported_as ranges front Went (InputBegins c.remaining) Wrote Prints read wrote scan;
  }

  stopped : ScansListed a b (λ ranges. ScansRanges ranges (Err scans.Read) c d x y) → ScansSome a.remaining c.remaining (Appends x.contents y.contents)
  stopped (ranges, list, inl (front, scan)) =
      some (BreaksOff c d) (λ bytes went. begins c.remaining d.remaining bytes went.bytes') (Writes x y) (Appends x.contents y.contents) (λ text wrote. wrote.bytes') ranges front list scan
  stopped (ranges, list, inr (front, scan, ends, after)) =
      some (Reads c d) (λ bytes went. begins c.remaining d.remaining bytes went.bytes') (Writes x y) (Appends x.contents y.contents) (λ text wrote. wrote.bytes') ranges front list scan

  pub scan_of_bytes : (r : Result Bool CliFault) → ScansDevices r a b c d x y → ScanOfBytes r a.remaining c.remaining x.contents y.contents
  scan_of_bytes (Ok undamaged) (ranges, list, (scan, returned)) = record {
    ok = record {
      ranges = ranges;
      list' = list_of_bytes _ a b list;
      scan = reported_as ranges ranges (Reads c d) (InputBegins c.remaining) (Writes x y) (Appends x.contents y.contents)
          (λ bytes went. begins c.remaining d.remaining bytes went.bytes') (λ text wrote. wrote.bytes') scan;
      returned = returned;
    };
    err = tt;
  }
  scan_of_bytes (Err (faults.Read path)) (inl (fault, same_file, same)) = record { ok = tt; err = inl (fault.0, kept same) }
  scan_of_bytes (Err (faults.Read path)) (inr (named, stops)) = record { ok = tt; err = inr (named, stopped stops) }
  scan_of_bytes (Err (faults.Ranges number)) (inl (list, same_file, same)) =
      record { ok = tt; err = (list_of_bytes _ a b list, kept same) }
  scan_of_bytes (Err (faults.Write path)) (inr (named, (ranges, list, (front, scan, long)))) = record {
    ok = tt;
    err = (named, some (Reads c d) (λ bytes went. begins c.remaining d.remaining bytes went.bytes') (StopsWriting x y) (WritesFront x.contents y.contents) (λ text wrote. wrote.front) ranges front list scan);
  }
  scan_of_bytes (Err faults.Memory) (inl (fault, same_file, same)) = record { ok = tt; err = inl (kept same) }
  scan_of_bytes (Err faults.Memory) (inr (ranges, list, (front, scan))) = record {
    ok = tt;
    err = inr (some (Reads c d) (λ bytes went. begins c.remaining d.remaining bytes went.bytes') (Writes x y) (Appends x.contents y.contents) (λ text wrote. wrote.bytes') ranges front list scan);
  }
  scan_of_bytes (Err fault) (inl stops) = absurd stops.0
  scan_of_bytes (Err fault) (inr stops) = absurd stops
