use Rattle.std.proofs.Common.{◌≡◌, map, take, vec_len}
use Rattle.std.specs.List.{AllZip}
use Rattle.ffv1_program.proofs.inputs.buffered_of.Given as goal

-- A source for each path so far.
abbrev pub invariant-loop-path : goal.invariant-loop-path
invariant-loop-path g l =
    record {
      bytes : map (λ source. (g.F.Buffered.Source.log source).remaining) l.sources.items
          ≡ map (λ path. (g.F.FileSystem.files l.files).bytes_at path.now) (take l.path-index l.paths);
      at : AllZip (λ path source. (g.F.FileSystem.files l.files).is_buffered_at path.now source) (take l.path-index l.paths) l.sources.items;
      count : vec_len l.sources ≡ l.path-index;
    }
