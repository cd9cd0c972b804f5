use Rattle.std.proofs.Common.{◌∙◌, sym, inl, inr}
use Rattle.std.proofs.lemmas.Result.{err_from_is_err_and}
use Rattle.ebml_reader.proofs.Steps.{fault-after}
use Rattle.ebml_reader.proofs.Searches.{not_searched, passed_piece, searched_to}
use Rattle.ebml_reader.proofs.unknown.pass_unknown.Goals as goal
use Rattle.ebml_reader.proofs.unknown.pass_unknown.Goals.{then-length-bytes-via-then-length-bytes, then-length-bytes-via-else-length-bytes+then-is_ended}

pub loop-intake-init : goal.loop-intake-init
loop-intake-init g c = not_searched c.args.intake.now _ c.requires.some c.requires.seen c.requires.bounded

pub returns-then-length-bytes : goal.returns-then-length-bytes
returns-then-length-bytes g c =
    searched_to c.loop-intake.passed c.next_known-length.result c.args.intake.now c.loop-intake.intake c.pass.new.self _ _ c.bytes-bytes.result.now c.loop-intake.invariant
    c.bytes-bytes.ensures.bytes c.pass.ensures c.next_known-length.ensures.some c.next_known-length.ensures.within c.next_known-length.ensures.none
    c.next_known-length.ensures.there
    (elim c.then-length-bytes.branch [
      | then-length-bytes-via-then-length-bytes w ↦ inl w.if-length-bytes.true
      | then-length-bytes-via-else-length-bytes+then-is_ended w ↦ inr (sym w.is_ended.ensures ∙ w.if-is_ended.true)
    ]) c.requires.none

pub loop-intake-preserved : goal.loop-intake-preserved
loop-intake-preserved g c =
    passed_piece c.loop-intake.passed c.next_known-length.result c.args.intake.now c.loop-intake.intake c.pass-in-loop-intake.new.self c.fill.new.self _ _ _
    c.bytes-bytes.result.now c.loop-intake.invariant c.bytes-bytes.ensures.bytes (sym c.is_ended.ensures ∙ c.if-is_ended.false) c.if-length-bytes.false
    c.next_known-length.ensures.within c.next_known-length.ensures.none c.pass-in-loop-intake.ensures c.in_ok-fill.ensures

pub returns-in_err-fill : goal.returns-in_err-fill
returns-in_err-fill g c =
    let p = err_from_is_err_and c.from_residual.result c.from_residual.ensures.1 in
    rw (p.1, p.2) (fault-after c.in_err-fill.field-0.0 c.loop-intake.invariant.gone c.args.intake.now c.loop-intake.intake _ _ _ c.loop-intake.invariant.passes
    (rw c.pass-in-loop-intake.ensures at c.in_err-fill.ensures))
