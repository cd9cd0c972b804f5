use Rattle.std.proofs.Common.{◌≡◌, true, false, sym, ◌∙◌, subst, inr}
use Rattle.std.specs.Option.{option_copied}
use Rattle.ffv1_samples.specs.States.{states_before}
use Rattle.ffv1_samples.specs.Sizes.{slice_sizes}
use Rattle.ffv1_samples.specs.Inner.Coded.{IsCodedFault}
use Rattle.ffv1_samples.proofs.Decoding.{there, rows_inside, stuck_is_fault, rows_give}
use Rattle.ffv1_samples.proofs.slice.refused.Goals as goal

pub judge_rows-requires-clause-few : goal.judge_rows-requires-clause-few
judge_rows-requires-clause-few c = λ header start is.
    let r = c.args.recording.now in
    let content = c.args.content.now in
    let before = states_before (option_copied c.args.before) in
    let coded = there r content c.args.first before c.requires.version header start is
    (λ h s. IsCodedFault r h.tables (slice_sizes r h) content s before c.args.fault) c.requires.refused in
    let stuck = subst (IsCodedFault r header.tables (slice_sizes r header) content start before) c.in-Sample.is coded in
    rows_inside r content c.args.first before c.requires.version header start is c.in-Sample.fault c.in-Sample.plane c.in-Sample.y c.in-Sample.x
    (c.requires.fit header start is) stuck (sym c.if-not-is_rgb.ensures)

pub returns-then-not-is_rgb-clause-given : goal.returns-then-not-is_rgb-clause-given
returns-then-not-is_rgb-clause-given c =
    let r = c.args.recording.now in
    let content = c.args.content.now in
    let before = states_before (option_copied c.args.before) in
    let a = c.requires.refused in
    let stuck = subst (IsCodedFault r a.0.tables (slice_sizes r a.0) content a.1 before) c.in-Sample.is a.3 in
    inr (stuck_is_fault r content c.args.first before c.requires.version a.0 a.1 a.2 c.in-Sample.fault c.in-Sample.plane c.in-Sample.y c.in-Sample.x
    (c.requires.fit a.0 a.1 a.2) stuck (λ rgb. absurd (let e : false ≡ true = c.if-not-is_rgb.ensures ∙ rgb in cc)))

pub returns-in-Ok-clause-given : goal.returns-in-Ok-clause-given
returns-in-Ok-clause-given c =
    let r = c.args.recording.now in
    let content = c.args.content.now in
    let before = states_before (option_copied c.args.before) in
    let a = c.requires.refused in
    let stuck = subst (IsCodedFault r a.0.tables (slice_sizes r a.0) content a.1 before) c.in-Sample.is a.3 in
    inr (stuck_is_fault r content c.args.first before c.requires.version a.0 a.1 a.2 c.in-Sample.fault c.in-Sample.plane c.in-Sample.y c.in-Sample.x
    (c.requires.fit a.0 a.1 a.2) stuck (λ rgb. c.in-Ok.ensures.ok))

pub returns-in-Err-clause-given : goal.returns-in-Err-clause-given
returns-in-Err-clause-given c =
    let r = c.args.recording.now in
    let content = c.args.content.now in
    let before = states_before (option_copied c.args.before) in
    let a = c.requires.refused in
    let stuck = subst (IsCodedFault r a.0.tables (slice_sizes r a.0) content a.1 before) c.in-Sample.is a.3 in
    rows_give r content c.args.first before c.requires.version a.0 a.1 a.2 c.in-Sample.fault c.in-Sample.plane c.in-Sample.y c.in-Sample.x
    (c.requires.fit a.0 a.1 a.2) stuck c.in-Err.earlier (sym c.if-not-is_rgb.ensures) c.in-Err.ensures.err
