use Rattle.std.proofs.Common.{◌≡◌, ◌≢◌, arith, rules, refl, ap, ◌∙◌}
use Rattle.std.proofs.KnownBytes.{Keeps-refl, Keeps-trans}
use Rattle.std.specs.IoError.{error_kind}
use Rattle.std.specs.declared.io.ErrorKind.TheVariants.{Interrupted}
use Rattle.ffv1_devices.proofs.Counts.{none_interrupted, one_more, broken_after, went_after, most_after, given_up}
use Rattle.ffv1_devices.proofs.Kept.{Consumes-after, Consumes-kept_nil}
use Rattle.ffv1_devices.specs.Logs.{sum_to_limit}
use Rattle.ffv1_devices.proofs.Steps.{bytes-same, bytes-counted}
use Rattle.ffv1_devices.proofs.reads.read_some.Goals as goal

pub loop-init : goal.loop-init
loop-init g c = record { same = refl; kept = Keeps-refl _; taken' = refl; tries' = none_interrupted _ }

pub returns-in-Ok : goal.returns-in-Ok
returns-in-Ok g c =
    let inv = c.loop.invariant in
    let e = c.in-Ok.ensures in
    let taken = e.tried.taken' ∙ ap (λ x. sum_to_limit x c.in-Ok.count) inv.taken' in
    record {
      bound = e.bound;
      read = (
        record {
          bytes' = Consumes-after _ _ _ _ inv.kept e.tried.bytes.0;
          taken' = bytes-counted _ _ _ (taken ∙ ap (sum_to_limit _) e.bound.1);
          tries' = went_after _ _ _ _ inv.tries' _ _ e.tried.tries' refl (λ h. h);
        },
        e.tried.bytes.1,
      );
      taken = taken;
      tries = omega (arith, most_after _ _ _ _ inv.tries' _ _ e.tried.tries');
    }

pub returns-then-ne : goal.returns-then-ne
returns-then-ne g c =
    let inv = c.loop.invariant in
    let e = c.in-Err.ensures.tried in
    let other : error_kind c.in-Err.error ≢ Interrupted = search rules in
    record {
      bound = tt;
      read = record {
        bytes' = Consumes-kept_nil _ _ (Keeps-trans _ _ _ inv.kept e.bytes);
        taken' = bytes-same _ _ (e.taken' ∙ inv.taken');
        tries' = broken_after _ _ _ _ inv.tries' _ _ e.tries' refl other;
      };
      taken = e.taken' ∙ inv.taken';
      tries = omega (arith, most_after _ _ _ _ inv.tries' _ _ e.tries');
    }

pub loop-preserved : goal.loop-preserved
loop-preserved g c =
    let inv = c.loop.invariant in
    let e = c.in-Err.ensures.tried in
    let same : error_kind c.in-Err.error ≡ Interrupted = search rules in
    record {
      same = c.read.auto.buf ∙ inv.same;
      kept = Keeps-trans _ _ _ inv.kept e.bytes;
      taken' = e.taken' ∙ inv.taken';
      tries' = one_more _ _ _ _ inv.tries' _ _ e.tries' refl (λ h. h same);
    }

pub returns : goal.returns
returns g c =
    let inv = c.loop.invariant in
    let over : c.loop.counter ≡ 65 = omega arith in
    record {
      bound = tt;
      read = record {
        bytes' = Consumes-kept_nil _ _ inv.kept;
        taken' = bytes-same _ _ inv.taken';
        tries' = given_up _ _ _ over inv.tries';
      };
      taken = inv.taken';
      tries = rw over at inv.tries'.most;
    }
