use Rattle.std.proofs.Common.{◌≡◌, ◌≤◌, ◌<◌, ◌-◌, pos, arith, rules, refl, ◌∙◌}
use Rattle.std.proofs.lemmas.Int.{ints}
use Rattle.std.proofs.lemmas.Result.{on_ok_weaker, IfErr-weaker}
use Rattle.ffv1_plane.specs.Inner.Readers.{coding_of}
use Rattle.ffv1_plane.proofs.Reading.{scalar_read_at, zero_here, run_end_read, run_level_read}
use Rattle.ffv1_plane.proofs.Halting.{scalar_stops, word_halted, level_stops}
use Rattle.ffv1_plane.proofs.Readers.{same_read, one_more, on_ok_both, one_continued, continued_on}
use Rattle.ffv1_plane.proofs.plane.PlaneReader.read_next.Goals as goal
use Rattle.ffv1_plane.proofs.plane.PlaneReader.read_next.Goals.{After-read_run}

-- where a run is due: the width, the context, and what is left of the row
run_due : (c : After-read_run) → (1 ≤ c.args.self.now.lines.width) × (c.context-context.result ≡ pos 0)
    × (c.width.result - c.column.result ≡ c.args.self.now.lines.width - c.args.self.now.lines.x)
run_due c = (omega (arith, c.requires.inside), omega (arith, ints), omega (arith, c.column.ensures.value, c.width.ensures.value))

pub returns-then-context-ne0 : goal.returns-then-context-ne0
returns-then-context-ne0 c =
    let same = c.read_code.ensures.same in
    record {
      same = same;
      left = c.read_code.ensures.left;
      read = on_ok_both c.read_code.result
          (λ moved read start whole so_far. same_read start c.args.self.now.lines.depth c.read_code.new.self.lines.depth c.args.self.now.lines.width c.read_code.new.self.lines.width c.args.self.now.tables.now
          c.read_code.new.self.tables.now c.args.self.now.index c.read_code.new.self.index whole c.read_code.new.self.bits.left
          c.read_code.new.self.lines.samples c.read_code.new.self.lines.samples c.read_code.new.self.lines.x c.read_code.new.self.lines.x
          c.read_code.new.self.states.items same.depth same.width same.tables c.read_code.ensures.index refl refl
          (scalar_read_at start c.args.self.now.lines.width (coding_of c.args.self.now) _ _ c.args.self.now.lines.x c.read_code.new.self.lines.x _ _ _ _ _
          c.neighbours-near.result c.context-context.result c.requires.inside moved
          c.neighbours-near.ensures.value c.context-context.ensures.value
          (λ e. absurd (omega (arith, ints, e))) read whole so_far))
          c.read_code.ensures.moved c.read_code.ensures.read;
      continued = one_continued c.read_code.result _ _ _ _ _ _ _ _ _ c.read_code.ensures.read;
      more = on_ok_weaker c.read_code.result (λ moved. omega (arith, moved)) c.read_code.ensures.moved;
      count = one_more c.read_code.result _ _ _ _ _ _ _ _ _ c.args.self.now.lines.x c.read_code.new.self.lines.x c.read_code.ensures.moved
          c.read_code.ensures.read;
      err = IfErr-weaker c.read_code.result _ _
          (scalar_stops c.args.self.now.lines.width (coding_of c.args.self.now) c.neighbours-near.ensures.deep c.args.self.now.lines.samples
          c.args.self.now.lines.x c.args.self.now.index c.requires.inside c.args.self.now.states.items c.args.self.now.bits.left
          c.neighbours-near.result c.context-context.result c.neighbours-near.ensures.value c.context-context.ensures.value (λ e. absurd (omega (arith, ints, e))))
          c.read_code.ensures.err;
    }

pub returns-in-Err : goal.returns-in-Err
returns-in-Err c =
    let due = run_due (goal.at.returns-in-Err c).After-read_run in
    let cut = rw due.2 at c.in-Err.ensures.err in
    record {
      same = record { depth = refl; width = refl; tables = refl; states = refl };
      left = tt;
      read = tt;
      continued = tt;
      more = tt;
      count = tt;
      err = word_halted c.args.self.now.lines.width (coding_of c.args.self.now) c.neighbours-near.ensures.deep c.args.self.now.lines.samples
          c.args.self.now.lines.x c.args.self.now.index c.requires.inside c.args.self.now.states.items
          c.args.self.now.bits.left
          c.neighbours-near.result c.context-context.result c.neighbours-near.ensures.value c.context-context.ensures.value due.1 _ _ _ c.in-Err.ensures.truncated
          (search rules) cut;
    }

pub returns-then-count-most : goal.returns-then-count-most
returns-then-count-most c =
    let due = run_due (goal.at.returns-then-count-most c).After-read_run in
    let run = rw due.2 at c.in-Ok.ensures.ok in
    let less : c.in-Ok.count < c.args.self.now.lines.width - c.args.self.now.lines.x = omega (arith, due.2, c.if-count-most.true) in
    let same = c.read_level.ensures.same in
    let skips = c.skip.ensures.skipped (coding_of c.args.self.now) c.neighbours-near.ensures.deep in
    record {
      same = record { depth = same.depth ∙ c.skip.ensures.depth; width = same.width ∙ c.skip.ensures.width; tables = same.tables; states = same.states };
      left = c.read_level.ensures.left;
      read = on_ok_both c.read_level.result
          (λ moved read start whole so_far. same_read start c.args.self.now.lines.depth c.read_level.new.self.lines.depth c.args.self.now.lines.width c.read_level.new.self.lines.width c.args.self.now.tables.now
          c.read_level.new.self.tables.now c.read_run.new.index c.read_level.new.self.index whole c.read_level.new.self.bits.left
          c.read_level.new.self.lines.samples c.read_level.new.self.lines.samples c.read_level.new.self.lines.x c.read_level.new.self.lines.x
          c.read_level.new.self.states.items
          (same.depth ∙ c.skip.ensures.depth) (same.width ∙ c.skip.ensures.width) same.tables c.read_level.ensures.index refl refl
          (run_level_read start c.args.self.now.lines.width (coding_of c.args.self.now) whole c.args.self.now.bits.left c.args.self.now.lines.samples
          c.skip.new.self.samples c.args.self.now.lines.x c.args.self.now.index c.args.self.now.states.items c.requires.inside so_far
          (zero_here c.args.self.now.lines.width (coding_of c.args.self.now) c.args.self.now.lines.samples c.neighbours-near.result c.context-context.result due.0
          c.neighbours-near.ensures.value c.context-context.ensures.value due.1)
          c.in-Ok.count c.read_run.new.index c.read_run.new.bits.left run skips
          _ _ _ less
          (rw (c.skip.ensures.depth, c.skip.ensures.width) at read) c.read_level.new.self.lines.x (omega (arith, moved, c.skip.ensures.x))))
          c.read_level.ensures.moved c.read_level.ensures.read;
      continued = on_ok_weaker c.read_level.result
          (λ later. continued_on c.args.self.now.lines.samples c.skip.new.self.samples c.read_level.new.self.lines.samples (skips.samples, skips.pushed) later)
          (one_continued c.read_level.result _ _ _ _ _ _ _ _ _ c.read_level.ensures.read);
      more = on_ok_weaker c.read_level.result (λ moved. omega (arith, moved, c.skip.ensures.x)) c.read_level.ensures.moved;
      count = on_ok_weaker c.read_level.result (λ more. omega (arith, more, c.skip.ensures.x, c.skip.ensures.count))
          (one_more c.read_level.result _ _ _ _ _ _ _ _ _ c.skip.new.self.x c.read_level.new.self.lines.x c.read_level.ensures.moved c.read_level.ensures.read);
      err = IfErr-weaker c.read_level.result _ _
          (level_stops c.args.self.now.lines.width (coding_of c.args.self.now) c.neighbours-near.ensures.deep c.args.self.now.lines.samples
          c.args.self.now.lines.x c.args.self.now.index c.requires.inside c.args.self.now.states.items c.args.self.now.bits.left
          c.neighbours-near.result c.context-context.result c.neighbours-near.ensures.value c.context-context.ensures.value due.1 c.skip.new.self.samples
          c.in-Ok.count
          c.read_run.new.index c.read_run.new.bits.left run skips less c.skip.ensures.small)
          (rw (c.skip.ensures.depth, c.skip.ensures.width) at c.read_level.ensures.err);
    }

pub returns-else-count-most : goal.returns-else-count-most
returns-else-count-most c =
    let due = run_due (goal.at.returns-else-count-most c).After-read_run in
    let run = rw due.2 at c.in-Ok.ensures.ok in
    let skips = c.skip.ensures.skipped (coding_of c.args.self.now) c.neighbours-near.ensures.deep in
    let whole_row : c.args.self.now.lines.width - c.args.self.now.lines.x ≡ c.in-Ok.count =
    (let enough = c.if-count-most.false in omega (arith, due.2, enough, run.fits)) in
    record {
      same = record { depth = c.skip.ensures.depth; width = c.skip.ensures.width; tables = refl; states = refl };
      left = λ inside. absurd (omega (arith, inside, c.skip.ensures.x, c.skip.ensures.width, c.width.ensures.value, c.column.ensures.value));
      read = λ start whole so_far. same_read start c.args.self.now.lines.depth c.skip.new.self.depth c.args.self.now.lines.width c.skip.new.self.width c.args.self.now.tables.now c.args.self.now.tables.now
          c.read_run.new.index c.read_run.new.index whole c.read_run.new.bits.left
          c.skip.new.self.samples c.skip.new.self.samples c.skip.new.self.x c.skip.new.self.x c.args.self.now.states.items c.skip.ensures.depth
          c.skip.ensures.width refl refl refl refl
          (run_end_read start c.args.self.now.lines.width (coding_of c.args.self.now) whole c.args.self.now.bits.left c.args.self.now.lines.samples
          c.skip.new.self.samples c.args.self.now.lines.x c.args.self.now.index c.args.self.now.states.items c.requires.inside so_far
          (zero_here c.args.self.now.lines.width (coding_of c.args.self.now) c.args.self.now.lines.samples c.neighbours-near.result c.context-context.result due.0
          c.neighbours-near.ensures.value c.context-context.ensures.value due.1)
          c.in-Ok.count c.read_run.new.index c.read_run.new.bits.left run skips c.skip.new.self.x c.skip.ensures.x whole_row);
      continued = (skips.samples, skips.pushed);
      more = omega (arith, c.requires.inside, c.skip.ensures.x, c.width.ensures.value, c.column.ensures.value);
      count = omega (arith, c.skip.ensures.x, c.skip.ensures.count);
      err = tt;
    }
