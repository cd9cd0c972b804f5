use Rattle.std.proofs.Common.{◌<◌, ℕ, Vec, Global, length, map, refl, arith, inl}
use Rattle.std.proofs.lemmas.Result.{err_from_is_err_and}
use Rattle.std.proofs.lemmas.List.{length-map}
use Rattle.ffv1_commands.specs.declared.path.CommandPath.TheVariants as paths
use Rattle.ffv1_commands.proofs.InputFaults.{IsUnwritten, untouched_both}
use Rattle.ffv1_commands.proofs.InputLaws.{taken_whole, length-AreWholeInputs}
use Rattle.ffv1_commands.proofs.UnreadFiles.{file_says}
use Rattle.ffv1_commands.proofs.SpliceCommandSteps.{spliced_reported, refuses_read}
use Rattle.ffv1_commands.proofs.splice.splice_by.Goals as goal

pub returns-in_err-read : goal.returns-in_err-read
returns-in_err-read g c =
    let p = err_from_is_err_and c.from_residual.result c.from_residual.ensures.1 in
    let f = c.in_err-read.field-0.0 in
    let stops = c.in_err-read.ensures.err in
    let none = file_says IsUnwritten (paths.Copy stops.index) _ stops.stopped.0 (λ unread. tt) (λ within. tt) f stops.stopped.1 in
    rw (p.1, p.2) (record {
      reported = inl (stops, (refl, refl));
      unread = c.in_err-read.ensures.unread;
      untouched = untouched_both c.args.out.now c.args.output.now f none;
    })

pub write_splice-requires : goal.write_splice-requires
write_splice-requires g c =
    let copies = map g.I.Inputs.remaining c.args.copies.now in
    let read = map (λ (copy : Vec ℕ Global). copy.items) c.in_ok-read.read.items in
    let some : 0 < length c.args.copies.now = c.requires in
    omega (
      arith,
      length-AreWholeInputs copies read (taken_whole copies read c.in_ok-read.ensures.ok),
      length-map c.args.copies.now g.I.Inputs.remaining,
      length-map c.in_ok-read.read.items (λ (copy : Vec ℕ Global). copy.items),
    )

pub returns : goal.returns
returns g c =
    let r = c.write_splice.result in
    record {
      reported = spliced_reported _ c.args.copies.now _ _ _ _ _ _ c.in_ok-read.ensures.ok r c.write_splice.ensures.ok c.write_splice.ensures.err;
      unread = refuses_read _ _ _ _ _ _ _ _ r c.write_splice.ensures.err;
      untouched = c.write_splice.ensures.untouched;
    }
