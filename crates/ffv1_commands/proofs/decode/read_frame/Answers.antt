use Rattle.std.proofs.Common.{List, ℕ, refl, subst}
use Rattle.std.proofs.lemmas.Result.{err_from_is_err_and}
use Rattle.ffv1_picture.specs.Frames.{IsDecodedFrame}
use Rattle.ffv1_picture.specs.FrameFaults.{IsFirstFault}
use Rattle.ffv1_commands.specs.DecodeText.{FrameStops}
use Rattle.ffv1_commands.specs.declared.path.CommandPath.TheVariants as paths
use Rattle.ffv1_commands.proofs.UnreadFiles.{file_says}
use Rattle.ffv1_commands.proofs.DecodeSteps.{frame_refused}
use Rattle.ffv1_commands.proofs.decode.read_frame.Goals as goal

pub returns-in_err-payload : goal.returns-in_err-payload
returns-in_err-payload g c =
    let p = err_from_is_err_and c.from_residual.result c.from_residual.ensures.1 in
    let a = g.F.Source.log c.args.input.now in
    let b = g.F.Source.log c.read_file.new.source in
    rw (p.1, p.2) (record {
      ok = tt;
      err = file_says (FrameStops c.args.decoder a b) paths.Frame a b (λ unread. (refl, unread)) (λ within. within) c.in_err-payload.field-0.0 c.in_err-payload.ensures;
    })

pub returns-in_err-decode_frame : goal.returns-in_err-decode_frame
returns-in_err-decode_frame g c =
    let p = err_from_is_err_and c.from_residual-in_err-decode_frame.result c.from_residual-in_err-decode_frame.ensures.1 in
    let f = c.in_err-decode_frame.field-0.0 in
    let first = subst (λ (bytes : List ℕ). IsFirstFault c.args.decoder bytes f) c.as_slice.ensures.value c.in_err-decode_frame.ensures.fault in
    rw (p.1, p.2) (record { ok = tt; err = frame_refused c.args.decoder _ _ c.in_ok-payload.payload.items c.in_ok-payload.ensures f first })

pub returns : goal.returns
returns g c =
    let frame = c.in_ok-decode_frame.field-0 in
    let is = subst (λ (bytes : List ℕ). IsDecodedFrame c.args.decoder bytes frame) c.as_slice.ensures.value c.in_ok-decode_frame.ensures.frame in
    record { ok = record { payload = c.in_ok-payload.payload.items; read = c.in_ok-payload.ensures; decoded = is }; err = tt }
