use Rattle.std.proofs.Common.{◌≡◌, refl, inl, inr, ap, ◌∙◌}
use Rattle.std.proofs.lemmas.Result.{err_from_is_err_and}
use Rattle.ffv1_commands.specs.Devices.{IfOfRecord}
use Rattle.ffv1_commands.specs.FrameText.{raw_bytes, decoded_line}
use Rattle.ffv1_commands.proofs.RecordFaults.{record_both, record_in_turn}
use Rattle.ffv1_commands.proofs.InputFaults.{IsUnwritten, untouched_both}
use Rattle.ffv1_commands.proofs.WrittenBoth.{both_untouched, both_in_turn}
use Rattle.ffv1_commands.proofs.DecodeSteps.{FrameStops-says, decoded}
use Rattle.ffv1_commands.proofs.decode.decode_of.Goals as goal

pub returns-in_err-decoder : goal.returns-in_err-decoder
returns-in_err-decoder g c =
    let p = err_from_is_err_and c.from_residual.result c.from_residual.ensures.1 in
    let f = c.in_err-decoder.field-0.0 in
    let stops = c.in_err-decoder.ensures.err in
    let kept = record_both c.args.width c.args.height _ _ c.args.out.now c.args.output.now f stops in
    let first = record_in_turn c.args.width c.args.height _ _ (c.args.input.now ≡ c.args.input.now) refl f stops in
    rw (p.1, p.2) (record { reported = inl (stops, refl, (refl, refl)); untouched = kept; in_turn = first })

pub returns-in_err-frame : goal.returns-in_err-frame
returns-in_err-frame g c =
    let p = err_from_is_err_and c.from_residual-in_err-frame.result c.from_residual-in_err-frame.ensures.1 in
    let f = c.in_err-frame.field-0.0 in
    let value = c.in_ok-decoder.decoder in
    let a = g.F.Source.log c.args.input.now in
    let b = g.F.Source.log c.read_frame.new.input in
    let stops = c.in_err-frame.ensures.err in
    rw (p.1, p.2) (record {
      reported = inr (value, c.in_ok-decoder.ensures.ok, inl (stops, (refl, refl)));
      untouched = untouched_both c.args.out.now c.args.output.now f (FrameStops-says IsUnwritten value a b f tt tt (λ fault. tt) stops);
      in_turn = FrameStops-says (λ fault. IfOfRecord fault (c.read_frame.new.input ≡ c.args.input.now)) value a b f (λ is. absurd (cc)) tt (λ fault. tt) stops;
    })

pub returns-in_err-line : goal.returns-in_err-line
returns-in_err-line g c =
    let p = err_from_is_err_and c.from_residual-in_err-line.result c.from_residual-in_err-line.ensures.1 in
    let is = c.in_ok-frame.ensures.ok in
    rw (p.1, p.2) (record {
      reported = inr (c.in_ok-decoder.decoder, c.in_ok-decoder.ensures.ok, inl ((is.payload, is.read.read, is.read.few), (refl, refl)));
      untouched = (refl {a = c.args.out.now}, refl {a = c.args.output.now});
      in_turn = tt;
    })

pub returns : goal.returns
returns g c =
    let frame = c.in_ok-frame.frame in
    let line = c.as_str.result.now in
    let size = c.as_str.ensures.value ∙ c.in_ok-line.ensures ∙ ap (decoded_line frame.width frame.height) c.len.ensures in
    let r = c.write_shown.result in
    let wrote = c.write_shown.ensures in
    record {
      reported = decoded c.args.width c.args.height _ _ _ _ _ _ _ _ c.in_ok-decoder.decoder c.in_ok-decoder.ensures.ok frame c.in_ok-frame.ensures.ok line size r wrote;
      untouched = both_untouched (raw_bytes frame) line _ _ _ _ _ r wrote;
      in_turn = both_in_turn (raw_bytes frame) line _ _ _ _ _ r wrote;
    }
