use Rattle.std.proofs.Common.{sym, ◌∙◌}
use Rattle.std.proofs.lemmas.Str.{IsUtf8-from_ascii}
use Rattle.ffv1_check.proofs.NameSteps.{plain_is_ascii}
use Rattle.ffv1_check.proofs.text.codec_word.Goals as goal

pub returns-in-Err : goal.returns-in-Err
returns-in-Err c = absurd (c.in-Err.ensures.cases.0 (IsUtf8-from_ascii c.args.name.now (plain_is_ascii c.args.name.now (sym c.is_plain_name.ensures ∙ c.if-not-is_plain_name.false))))
