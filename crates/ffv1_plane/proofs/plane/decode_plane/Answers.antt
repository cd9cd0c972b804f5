use Rattle.std.proofs.Common.{◌≡◌, ◌*◌, ℕ, List, [], ◌++◌, length, slice_index, arith, ap, sym, refl, ◌∙◌, subst, ◌<◌, ◌^◌}
use Rattle.std.proofs.Math.Nat.{mul_comm}
use Rattle.std.proofs.lemmas.List.{append-nil}
use Rattle.std.proofs.lemmas.Result.{err_from_is_err_and}
use Rattle.std.proofs.lemmas.Nat.{pow_pos}
use Rattle.ffv1_plane.specs.Samples.{plane_of, coding_at}
use Rattle.ffv1_plane.specs.Inner.Progress.{AreRowsRead}
use Rattle.ffv1_range.specs.Setup.{set_entry, set_contexts}
use Rattle.ffv1_plane.proofs.Reading.{rows_more}
use Rattle.ffv1_plane.proofs.Wholes.{no_rows, plane_halted}
use Rattle.ffv1_plane.proofs.Readers.{same_read, same_halted}
use Rattle.ffv1_plane.proofs.plane.decode_plane.Goals as goal

pub new-requires : goal.new-requires
new-requires c = record { depth = c.requires.depth; some = c.requires.some; width = c.requires.width; height = c.requires.height }

pub read_row-requires : goal.read_row-requires
read_row-requires c = record {
  depth = sym c.loop.invariant.depth;
  states = c.loop.invariant.states ∙ c.requires.contexts ∙ ap (λ t. set_contexts t.setup t.set) (sym c.loop.invariant.tables);
  start = c.loop.invariant.start;
}

pub end_row-requires : goal.end_row-requires
end_row-requires c = c.in_ok-read_row.ensures.read.full

pub into_rows-requires : goal.into_rows-requires
into_rows-requires c = c.loop.invariant.start

pub loop-init : goal.loop-init
loop-init c =
    let samples = ap (λ r. r.samples) c.in-Ok.ensures in
    record {
      read = λ earlier after more.
          rw (samples, c.start.ensures, c.fork.ensures) (no_rows earlier c.args.width
          (coding_at c.args.depth (set_entry c.args.tables.now.setup c.args.tables.now.set)) c.args.bits.now.left c.args.states.items after more);
      depth = ap (λ r. r.depth) c.in-Ok.ensures;
      width = ap (λ r. r.width) c.in-Ok.ensures;
      tables = refl;
      states = refl;
      start = ap (λ r. r.x) c.in-Ok.ensures;
      size = omega (arith, ap length samples);
      small = λ s. let e = ap (λ l. slice_index l s) samples in omega (arith, e, pow_pos c.args.depth);
    }

pub loop-preserved : goal.loop-preserved
loop-preserved c =
    let same = c.in_ok-read_row.ensures.same in
    let ended = c.in-Ok-end_row.ensures in
    let width = ap (λ r. r.width) ended ∙ same.width ∙ c.loop.invariant.width in
    let depth = ap (λ r. r.depth) ended ∙ same.depth ∙ c.loop.invariant.depth in
    let samples = ap (λ r. r.samples) ended in
    record {
      read = λ earlier after.
          let coding = coding_at c.args.depth (set_entry c.args.tables.now.setup c.args.tables.now.set) in
          let continued = c.in_ok-read_row.ensures.read.continued in
          rows_more earlier c.args.width coding c.args.bits.now.left c.loop.reader.bits.left c.read_row.new.self.bits.left c.loop.reader.lines.samples
          c.end_row.new.self.samples c.loop.counter c.loop.reader.index c.read_row.new.self.index c.loop.reader.states.items c.read_row.new.self.states.items
          c.loop.invariant.size (continued.0, samples ∙ continued.1) (c.loop.invariant.read earlier after)
          (λ start whole so_far.
          same_read start c.read_row.new.self.lines.depth c.args.depth c.read_row.new.self.lines.width c.args.width c.read_row.new.self.tables.now
          c.args.tables.now c.read_row.new.self.index c.read_row.new.self.index whole c.read_row.new.self.bits.left
          c.read_row.new.self.lines.samples c.end_row.new.self.samples c.read_row.new.self.lines.x c.args.width c.read_row.new.self.states.items
          (sym (same.depth ∙ c.loop.invariant.depth)) (sym (same.width ∙ c.loop.invariant.width)) (sym (same.tables ∙ c.loop.invariant.tables)) refl samples
          (sym (c.in_ok-read_row.ensures.read.full ∙ same.width ∙ c.loop.invariant.width))
          (c.in_ok-read_row.ensures.read.read start whole
          (same_read start c.args.depth c.loop.reader.lines.depth c.args.width c.loop.reader.lines.width c.args.tables.now c.loop.reader.tables.now
          c.loop.reader.index c.loop.reader.index whole c.loop.reader.bits.left
          c.loop.reader.lines.samples c.loop.reader.lines.samples 0 c.loop.reader.lines.x c.loop.reader.states.items c.loop.invariant.depth
          c.loop.invariant.width c.loop.invariant.tables refl refl c.loop.invariant.start so_far)));
      depth = depth;
      width = width;
      tables = same.tables ∙ c.loop.invariant.tables;
      states = same.states ∙ c.loop.invariant.states;
      start = ap (λ r. r.x) ended;
      size = omega (arith, ap length samples, c.in_ok-read_row.ensures.read.count, c.loop.invariant.size, c.loop.invariant.width);
      small = λ s. let e = ap (λ l. slice_index l s) samples in let below = subst (λ n. slice_index c.read_row.new.self.lines.samples s < 2 ^ n) c.loop.invariant.depth (c.in_ok-read_row.ensures.read.small s) in omega (arith, e, below);
    }

pub returns-in_err-read_row : goal.returns-in_err-read_row
returns-in_err-read_row c =
    let p = err_from_is_err_and c.from_residual.result c.from_residual.ensures.1 in
    rw (p.1, p.2)
    (record {
      len = tt;
      size = tt;
      read = tt;
      err =
          plane_halted c.args.width c.args.height (coding_at c.args.depth (set_entry c.args.tables.now.setup c.args.tables.now.set)) c.args.states.items
          c.loop.reader.states.items c.args.bits.now.left c.loop.reader.bits.left c.loop.reader.lines.samples c.loop.counter c.loop.reader.index _
          (omega arith) c.loop.invariant.size c.loop.invariant.read c.loop.invariant.small
          (same_halted c.loop.reader.lines.depth c.args.depth c.loop.reader.lines.width c.args.width c.loop.reader.tables.now c.args.tables.now
          c.loop.reader.lines.samples c.loop.reader.lines.x 0 c.loop.reader.index c.loop.reader.states.items c.loop.reader.bits.left _
          (sym c.loop.invariant.depth) (sym c.loop.invariant.width) (sym c.loop.invariant.tables) (sym c.loop.invariant.start) c.in_err-read_row.ensures.err);
    })

pub returns : goal.returns
returns c =
    let all : c.loop.counter ≡ c.args.height = omega arith in
    record {
      len = c.loop.invariant.states;
      size = record {
        count = ap length c.into_rows.ensures ∙ c.loop.invariant.size ∙ ap
            (λ n. n * c.args.width) all ∙ mul_comm c.args.height c.args.width;
        small = λ s. let e = ap (λ l. slice_index l s) c.into_rows.ensures in let below = c.loop.invariant.small s in omega (arith, e, below);
      };
      read = λ earlier after.
          let coding = coding_at c.args.depth (set_entry c.args.tables.now.setup c.args.tables.now.set) in
          let there = c.loop.invariant.read earlier after [] in
          let P : List ℕ → ℕ → Type 0 = λ l rows. AreRowsRead earlier (plane_of c.args.width coding l) rows c.args.bits.now.left c.loop.reader.index
          c.loop.reader.states.items c.loop.reader.bits.left in (
            c.loop.reader.index,
            subst (λ l. P l c.args.height) (append-nil c.loop.reader.lines.samples ∙ sym c.into_rows.ensures)
                (subst (P (c.loop.reader.lines.samples ++ [])) all there),
          );
      err = tt;
    }
