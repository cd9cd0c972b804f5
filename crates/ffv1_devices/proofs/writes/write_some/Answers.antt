use Rattle.std.proofs.Common.{◌≡◌, ◌≢◌, ◌<◌, length, take, arith, rules, refl, ap, subst, ◌∙◌}
use Rattle.std.proofs.KnownBytes.{Keeps-refl, Keeps-trans}
use Rattle.std.specs.Io.KnownBytes.{Appends}
use Rattle.std.specs.IoError.{error_kind}
use Rattle.std.specs.declared.io.ErrorKind.TheVariants.{Interrupted}
use Rattle.ffv1_devices.proofs.Counts.{none_interrupted, broken_after, one_more, went_after, most_after, given_up, took_none, took_some}
use Rattle.ffv1_devices.proofs.Fronts.{front_none}
use Rattle.ffv1_devices.proofs.Kept.{Appends-after, Keeps-of_nil}
use Rattle.ffv1_devices.proofs.writes.write_some.Goals as goal

pub loop-init : goal.loop-init
loop-init g c = record { kept = Keeps-refl _; same = refl; tries' = none_interrupted _ }

pub returns-in-Ok-eq0 : goal.returns-in-Ok-eq0
returns-in-Ok-eq0 g c =
    let inv = c.loop.invariant in
    let e = c.in-Ok-eq0.ensures.tried in
    let zero = c.in-Ok-eq0.field-0-test in
    let some : 0 < length c.args.bytes.now = omega arith in
    let none = took_none _ _ zero some in
    record {
      bound = tt;
      some = tt;
      written = record {
        front = front_none _ _ (Keeps-of_nil _ _ _ inv.kept (subst (Appends _ _) (ap (λ n. take n c.args.bytes.now) zero) e.bytes));
        same = e.same ∙ inv.same;
        tries' = broken_after _ _ _ _ inv.tries' _ _ e.tries' none (zero, some);
      };
      tries = omega (arith, most_after _ _ _ _ inv.tries' _ _ e.tries');
    }

pub returns-in-Ok : goal.returns-in-Ok
returns-in-Ok g c =
    let inv = c.loop.invariant in
    let e = c.in-Ok.ensures.tried in
    let some = c.in-Ok.count-test.1 in
    record {
      bound = c.in-Ok.ensures.bound;
      some = omega arith;
      written = record {
        bytes' = Appends-after _ _ _ _ inv.kept e.bytes;
        same = e.same ∙ inv.same;
        tries' = went_after _ _ _ _ inv.tries' _ _ e.tries' (took_some _ (length c.args.bytes.now) some) (λ h. some h.0);
      };
      tries = omega (arith, most_after _ _ _ _ inv.tries' _ _ e.tries');
    }

pub returns-then-ne : goal.returns-then-ne
returns-then-ne g c =
    let inv = c.loop.invariant in
    let e = c.in-Err.ensures.tried in
    let other : error_kind c.in-Err.error ≢ Interrupted = search rules in
    record {
      bound = tt;
      some = tt;
      written = record {
        front = front_none _ _ (Keeps-trans _ _ _ inv.kept e.bytes);
        same = e.same ∙ inv.same;
        tries' = broken_after _ _ _ _ inv.tries' _ _ e.tries' refl other;
      };
      tries = omega (arith, most_after _ _ _ _ inv.tries' _ _ e.tries');
    }

pub loop-preserved : goal.loop-preserved
loop-preserved g c =
    let inv = c.loop.invariant in
    let e = c.in-Err.ensures.tried in
    let same : error_kind c.in-Err.error ≡ Interrupted = search rules in
    record {
      kept = Keeps-trans _ _ _ inv.kept e.bytes;
      same = e.same ∙ inv.same;
      tries' = one_more _ _ _ _ inv.tries' _ _ e.tries' refl (λ h. h same);
    }

pub returns : goal.returns
returns g c =
    let inv = c.loop.invariant in
    let over : c.loop.counter ≡ 65 = omega arith in
    record {
      bound = tt;
      some = tt;
      written = record { front = front_none _ _ inv.kept; same = inv.same; tries' = given_up _ _ _ over inv.tries' };
      tries = rw over at inv.tries'.most;
    }
