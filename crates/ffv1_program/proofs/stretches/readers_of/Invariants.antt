use Rattle.std.proofs.Common.{◌≡◌, map, take}
use Rattle.std.specs.Prelude.{All}
use Rattle.std.specs.List.{AllZip}
use Rattle.ffv1_stretches.specs.Copies.{state_of}
use Rattle.ffv1_program.specs.Inner.Calls.{IsLogAt}
use Rattle.ffv1_program.proofs.stretches.readers_of.Given as goal

-- A reader for each path so far.
abbrev pub invariant-loop-path : goal.invariant-loop-path
invariant-loop-path g l =
    record {
      bytes : map (λ reader. (g.F.Device.Source.log reader.source).remaining) l.readers.items
          ≡ map (λ path. (g.F.FileSystem.files l.files).bytes_at path.now) (take l.path-index l.paths);
      at : AllZip (λ path reader. IsLogAt (g.F.FileSystem.files l.files).is_device_at g.F.Device.Source.log path.now (g.F.Device.Source.log reader.source))
          (take l.path-index l.paths) l.readers.items;
      unread : All (λ reader. (state_of g.F.Device.Source.log reader).end ≡ 0) l.readers.items;
    }
