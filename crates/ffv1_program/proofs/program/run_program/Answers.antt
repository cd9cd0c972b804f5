use Rattle.std.proofs.Common.{refl, inl, inr}
use Rattle.ffv1_program.proofs.program.run_program.Goals as goal

pub returns-in-Ok : goal.returns-in-Ok
returns-in-Ok g c =
    let said = c.recordings_of_words-recordings in
    (said.result, _, said.ensures, inl (c.in-Ok.words, rw (← c.as_slice.ensures.value) c.in-Ok.ensures.ok, c.end_words.ensures))

pub returns-in-Err : goal.returns-in-Err
returns-in-Err g c =
    let said = c.recordings_of_words-recordings in (
      said.result,
      _,
      said.ensures,
      inr (record {
        fault = c.in-Err.fault;
        refused = rw (← c.as_slice.ensures.value) c.in-Err.ensures.err;
        kept = refl;
        reported = c.report_early.ensures.reported;
        ended = c.report_early.ensures.status;
      }),
    )
